-- Texts that are put on a page piece by piece. Assumes nothing.
use Prim.Native.Nat.{ℕ, ◌+◌, ◌-◌}
use mathlib.Core.Path.{◌≡◌, refl, ap, sym, ◌∙◌}
use mathlib.Core.List.{List, [], ◌∷◌, ◌++◌, append-nil, append_assoc}
use native.Mathlib.Omega.{arith}
use borrow.Rule.Slice.PartMut.{put_mid, post_of, Post-is}
use lib.ListN.{length, take, drop, length-append}
use lib.Seq.{sets-eq}
use Rattle.listing.specs.Decimal.{text}
use Rattle.listing.specs.Written.{Room, Written}
use Rattle.listing.proofs.WriteLaws.{written_length, written_both, written_none}
use Rattle.listing_numbers.specs.Put.{HasRoom, Puts}
use Rattle.listing_numbers.specs.declared.Page.{Page}

-- a part of the slice that is a text now
pub part_written : (l : List ℕ) (at : ℕ) (x y : List ℕ) → Room l at x → y ≡ x → Written l at x (put_mid at (at + length x - at) l y) (at + length x)
part_written l at x y r e =
    record {
      bytes_are =
          ap (λ (z : List ℕ). take at l ++ (z ++ post_of at (at + length x - at) l)) e
          ∙ ap (λ (z : List ℕ). take at l ++ (x ++ z)) (Post-is at (at + length x) l (omega arith))
          ∙ sym (append_assoc (take at l) x (drop (at + length x) l))
          ∙ sym (sets-eq x l at r.fits);
      place = refl;
    }

-- a text that is the same
pub room_as : {p : Page} {x y : List ℕ} → x ≡ y → HasRoom p y → HasRoom p x
room_as e r = rw e r

pub puts_as : {p q : Page} {x y : List ℕ} → x ≡ y → Puts p x q → Puts p y q
puts_as e w = rw e at w

-- ---- two texts, one behind the other

puts_both : {p q r : Page} {x y : List ℕ} → Puts p x q → Puts q y r → Puts p (x ++ y) r
puts_both a b = record { same = b.same ∙ a.same; written = written_both _ _ _ _ _ _ _ _ a.written b.written }

room_left : {p : Page} (x y : List ℕ) → HasRoom p (x ++ y) → HasRoom p x
room_left x y r = record { room = record { fits = omega (arith, r.room.fits, length-append x y) } }

room_right : {p q : Page} (x y : List ℕ) → Puts p x q → HasRoom p (x ++ y) → HasRoom q y
room_right x y w r = record { room = record { fits = omega (arith, r.room.fits, length-append x y, w.written.place, written_length w.written) } }

-- ---- a text of some pieces: its first one, and the others

module _ (x : List ℕ) (xs : List (List ℕ)) where
  pub room_first : {p : Page} → HasRoom p (text (x ∷ xs)) → HasRoom p x
  unfolding text
  room_first r = room_left x (text xs) r

  pub room_more : {p q : Page} → Puts p x q → HasRoom p (text (x ∷ xs)) → HasRoom q (text xs)
  unfolding text
  room_more w r = room_right x (text xs) w r

  pub puts_more : {p q r : Page} → Puts p x q → Puts q (text xs) r → Puts p (text (x ∷ xs)) r
  unfolding text
  puts_more a b = puts_both a b

pub puts_last : {p q : Page} (x : List ℕ) → Puts p x q → Puts p (text (x ∷ [])) q
unfolding text
puts_last x w = rw (append-nil x) w

-- ---- its first two pieces at once

module _ (x y : List ℕ) (xs : List (List ℕ)) where
  paired : text (x ∷ y ∷ xs) ≡ text (x ∷ y ∷ []) ++ text xs
  unfolding text
  paired = rw (append-nil y, append_assoc x y (text xs))

  pub room_field : {p : Page} → HasRoom p (text (x ∷ y ∷ xs)) → HasRoom p (text (x ∷ y ∷ []))
  room_field r = room_left (text (x ∷ y ∷ [])) (text xs) (room_as (sym paired) r)

  pub room_behind : {p q : Page} → Puts p (text (x ∷ y ∷ [])) q → HasRoom p (text (x ∷ y ∷ xs)) → HasRoom q (text xs)
  room_behind w r = room_right (text (x ∷ y ∷ [])) (text xs) w (room_as (sym paired) r)

  pub puts_field : {p q r : Page} → Puts p (text (x ∷ y ∷ [])) q → Puts q (text xs) r → Puts p (text (x ∷ y ∷ xs)) r
  puts_field a b = puts_as (sym paired) (puts_both a b)

-- ---- a text that a loop puts there

-- by now the page p is the page q, and of the whole text the rest is still to be put
pub record Putting (p : Page) (whole : List ℕ) (q : Page) (rest : List ℕ) : Type 0 where
  pub done : List ℕ
  pub puts : Puts p done q
  pub parts : whole ≡ done ++ rest

pub putting_start : (p : Page) (x : List ℕ) → Putting p x p x
putting_start p x = record { done = []; puts = record { same = refl; written = written_none p.out.now p.at }; parts = refl }

pub putting_end : {p q : Page} {x rest : List ℕ} → Putting p x q rest → rest ≡ [] → Puts p x q
putting_end g e = puts_as (sym (g.parts ∙ ap (λ (t : List ℕ). g.done ++ t) e ∙ append-nil g.done)) g.puts

module _ {p q : Page} {x rest : List ℕ} (g : Putting p x q rest) (y left : List ℕ) (e : rest ≡ y ++ left) where
  pub putting_room : HasRoom p x → HasRoom q y
  putting_room r = room_left y left (room_as (sym e) (room_right g.done rest g.puts (room_as (sym g.parts) r)))

  pub putting_more : {r : Page} → Puts q y r → Putting p x r left
  putting_more w = record { done = g.done ++ y; puts = puts_both g.puts w; parts = g.parts ∙ ap (λ (t : List ℕ). g.done ++ t) e ∙ sym (append_assoc g.done y left) }

-- ---- the slice when the page is gone: it is what the page held last

pub page_gone : {p q : Page} {x : List ℕ} (after : List ℕ) → Puts p x q → (p.out.ghost_name ≡ q.out.ghost_name → after ≡ q.out.now) → Written p.out.now p.at x after q.at
page_gone after w back = record { bytes_are = back (sym w.same) ∙ w.written.bytes_are; place = w.written.place }
