use Rattle.std.proofs.Common.{◌≡◌, ◌++◌, ◌-◌, map}
use Rattle.std.specs.List.{range_with_len}
use Rattle.ddf_rewrite.specs.Placement.{item_at}
use Rattle.ddf_rewrite.specs.Notes.{note_for}
use Rattle.ddf_rewrite.proofs.notes.notes_of_slots.Given as goal

abbrev pub invariant-loop-slot : goal.invariant-loop-slot
invariant-loop-slot l =
    l.notes.items ++ map (λ slot. note_for l.holdings (item_at l.placed slot)) (range_with_len l.slot (l.count - l.slot))
    ≡ map (λ slot. note_for l.holdings (item_at l.placed slot)) (range_with_len 0 l.count)
