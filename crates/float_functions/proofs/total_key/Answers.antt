-- `total_key` meets its contract: what the check does not find alone.
use borrow.Author.Rules.{rules}
use Rattle.float_functions.proofs.Branches.{key_laws}
use Rattle.float_functions.proofs.total_key.Goals as goal

pub returns-then-is_nan : goal.returns-then-is_nan
returns-then-is_nan c = search (rules, key_laws)

pub returns-then-bits-lt9223372036854775808 : goal.returns-then-bits-lt9223372036854775808
returns-then-bits-lt9223372036854775808 c = search key_laws

pub overflow_sub-result : goal.overflow_sub-result
overflow_sub-result c = search (rules, key_laws)

pub returns : goal.returns
returns c = search key_laws
