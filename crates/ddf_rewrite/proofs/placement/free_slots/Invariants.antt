use Rattle.std.proofs.Common.{◌≡◌, ◌++◌, ℕ, List, drop, map, filter_map}
use Rattle.std.specs.List.{enumerate_from}
use Rattle.ddf_rewrite.specs.declared.item.Item.{Item}
use Rattle.ddf_rewrite.specs.Placement.{free_slot, free_slots, slot_of}
use Rattle.ddf_rewrite.proofs.placement.free_slots.Given as goal

abbrev pub invariant-loop-index : goal.invariant-loop-index
invariant-loop-index l = (group : List ℕ) (sequence : ℕ) (items : List Item) → l.standing ≡ map (slot_of group sequence l.slots) items
    → l.free.items ++ filter_map (free_slot group sequence l.slots items) (enumerate_from l.index (drop l.index l.slots)) ≡ free_slots group sequence l.slots items
