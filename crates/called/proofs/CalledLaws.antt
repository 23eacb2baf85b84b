-- What a call of a list asks for, and that the parts it is lent have the numbers that the words say. Assumes nothing.
use Prim.Native.Nat.{ℕ}
use mathlib.Core.Path.{◌≡◌, refl, ap, ◌∙◌}
use mathlib.Core.Bool.{Bool, true, false, cond}
use Rattle.std.specs.Prelude.{Some, None}
use Rattle.std.specs.Borrow.{Bor}
use mathlib.Core.List.{List}
use lib.ListN.{length, take}
use lib.Seq.{length-take-le}
use lib.Ieee.{Float}
use lib.Dec.{eqb}
use Rattle.minimise_call.specs.models.Problem.{Problem}
use Rattle.minimise_call.specs.plan.Plan.{Slices}
use Rattle.minimise_call.specs.planner.Calls.{Reply}
use Rattle.minimise_call.specs.planner.Told.{work_of}
use Rattle.minimise_call.specs.planner.Run.{call, minimise, eliminate}
use Rattle.call_words.specs.declared.Words.{Words}
use Rattle.call_words.specs.declared.Kind.TheVariants.{Minimise, Eliminate}
use Rattle.call_words.specs.Words.{asks, call_of}
use Rattle.called.specs.Lent.{Lent}
use Rattle.called.specs.declared.Change.{Change}
use Rattle.called.specs.Changes.{change_of, change_asked}

module _ (p : Problem) (s : Slices) (w : Words) (tape : List ℕ) (part : Bor (List ℕ)) (work : List ℕ) (cells : List Float) (h : Lent w (length tape) (length work) (length cells)) (r : Reply) where
  small_is : length (take w.work.u16_cells work) ≡ w.work.u16_cells
  small_is = length-take-le w.work.u16_cells work h.small

  wide_is : length (take w.work.f64_cells cells) ≡ w.work.f64_cells
  wide_is = length-take-le w.work.f64_cells cells h.wide

  -- the call by its kind, as the code and as the words ask it
  same_call : part.now ≡ take w.tape tape → (t u : Bool) → change_of (change_asked (cond t (Some Minimise) (cond u (Some Eliminate) None)) w part) w.work
      ≡ cond t (minimise (record { limit = w.limit; clock = w.clock; tape = take w.tape tape }) w.work) (eliminate w.work)
  same_call e true u = rw e refl
  same_call e false true = refl
  same_call e false false = refl

  pub called_so : (c : Change) → c ≡ change_asked (asks w) w part → part.now ≡ take w.tape tape
      → r ≡ call p s (change_of c (work_of (length (take w.work.u16_cells work)) (length (take w.work.f64_cells cells))))
      → r ≡ call p s (call_of w tape)
  called_so c f e g = g ∙ rw (f, small_is, wide_is) (ap (call p s) (same_call e (eqb w.kind 0) (eqb w.kind 1)))
