-- The last three sections, one after the other. Assumes nothing.
use Prim.Native.Nat.{ℕ}
use mathlib.Core.Path.{ap, sym, subst}
use mathlib.Core.List.{List}
use Rattle.sheet_draws.specs.plan.Plan.{Slices}
use Rattle.sheet_draws.specs.sheet_text.declared.Text.{Text}
use Rattle.sheet_draws.specs.sheet_text.Text.{refused, got}
use Rattle.sheet_draws.specs.sheet_text.Told.{Reads, seen}
use Rattle.sheet_draws.specs.SheetTextReadLaws.{then, stop, done, got_of, refused_of}
use Rattle.sheet_draws.specs.sheet_format.Form.{Run, draws, routes, last_run, slices_of}
use Rattle.sheet_whole.specs.Request.{Request, request_of, request}

module _ {t : Text} where
  pub no_draws : {u : Text} {k : ℕ} → Reads draws t (λ at. refused k) u → Reads request t (λ at. refused k) u
  unfolding request
  no_draws e = stop _ e

  module _ {tape : List ℕ} {u : Text} (ed : Reads draws t (got tape) u) where
    pub no_routes : {w : Text} {k : ℕ} → Reads (seen slices_of routes) u (λ at. refused k) w → Reads request t (λ at. refused k) w
    unfolding request
    no_routes e = then _ ed (stop _ (refused_of slices_of e))

    module _ {plan : Slices} {w : Text} (er : Reads (seen slices_of routes) u (got plan) w) where
      pub no_run : {x : Text} {k : ℕ} → Reads last_run w (λ at. refused k) x → Reads request t (λ at. refused k) x
      unfolding request
      no_run e = then _ ed (then _ (got_of slices_of er).1 (stop _ e))

      pub request_got : {r : Run} {x : Text} → Reads last_run w (got r) x → Reads request t (got (request_of tape plan r)) x
      unfolding request
      request_got {r} {x} e =
          subst (λ (q : Request). Reads request t (got q) x) (ap (λ (z : Slices). request_of tape z r) (sym (got_of slices_of er).2))
          (then _ ed (then _ (got_of slices_of er).1 (then _ e (done _ _))))
