use Rattle.std.proofs.Common.{◌≡◌, ◌++◌, ℕ, Option, drop, length, map}
use Rattle.ddf_rewrite.specs.declared.item.Item.{Item}
use Rattle.ddf_rewrite.specs.Placement.{take_slots}
use Rattle.ddf_rewrite.proofs.placement.take_slots.Given as goal

abbrev pub invariant-loop-item : goal.invariant-loop-item
invariant-loop-item l = (stands : Item → Option ℕ) → l.standing ≡ map stands l.items
    → l.placed.items ++ take_slots stands (drop (length l.yielded) l.items) l.left ≡ take_slots stands l.items l.free
