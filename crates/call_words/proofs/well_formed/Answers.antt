-- `well_formed` meets its contract: what the check does not find alone.
use Rattle.std.proofs.Common.{rules, ◌≡◌, map, length, ◌/◌}
use Rattle.call_words.specs.Words.{words_first, words_of, well_formed}
use Rattle.call_words.proofs.FormLaws.{words_rows}
use Rattle.call_words.proofs.well_formed.Goals as goal

pub returns-then-is_product : goal.returns-then-is_product
unfolding well_formed
returns-then-is_product c =
    let e : map words_first c.as_chunks.result.0.now ≡ words_of (length c.args.calls.now / 6) c.args.calls.now = rw c.as_chunks.ensures.front (words_rows _ _) in
    rw (c.calls_pass.ensures, e) (search rules)
