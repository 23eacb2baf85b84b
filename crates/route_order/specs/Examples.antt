-- The order and the next pick computed on four routes. Assumes nothing.
use Rattle.std.specs.Prelude.{◌≡◌, refl, [], ◌∷◌}
use Rattle.plan.specs.laws.Edits.{erase}
use Rattle.plan.specs.laws.Loops.{loop}
use Rattle.plan.specs.laws.Sorts.{range, least_at, smallest, sort_by}
use Rattle.route_order.specs.Order.{order, at, is_after, shorter, considered, next_pick}

-- the shortest first, and of equals the earlier one
order_four : order (3 ∷ 1 ∷ 2 ∷ 1 ∷ []) ≡ 1 ∷ 3 ∷ 2 ∷ 0 ∷ []
unfolding sort_by smallest least_at loop erase range
order_four = refl

-- after the pick of route 1 comes route 3, of the same length
next_pick_four : next_pick (3 ∷ 1 ∷ 2 ∷ 1 ∷ []) (at 1 1) ≡ at 3 1
unfolding next_pick considered is_after shorter loop
next_pick_four = refl
