-- A text that is put on a page: it is written at the page's position, into the same slice. Assumes nothing.
use Rattle.std.specs.Prelude.{ℕ, ◌≡◌, List}
use Rattle.listing.specs.Written.{Room, Written}
use Rattle.listing_numbers.specs.declared.Page.{Page}

-- the page has room for the text
pub record HasRoom (p : Page) (x : List ℕ) : Type 0 where
  pub room : Room p.out.now p.at x

-- q is the page p with the text put on it
pub record Puts (p : Page) (x : List ℕ) (q : Page) : Type 0 where
  pub same : q.out.ghost_name ≡ p.out.ghost_name
  pub written : Written p.out.now p.at x q.out.now q.at
