-- `Page::put_bytes` meets its contract: what the check does not find alone.
use mathlib.Core.Path.{refl}
use Rattle.listing_numbers.proofs.PageLaws.{part_written}
use Rattle.listing_numbers.proofs.Page.put_bytes.Goals as goal

pub returns : goal.returns
returns c = record { same = refl; written = part_written _ _ _ _ c.requires.room c.copy_from_slice.ensures.after }
