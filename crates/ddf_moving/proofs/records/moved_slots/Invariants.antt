use Rattle.std.proofs.Common.{◌≡◌, map}
use Rattle.std.specs.List.{range_with_len}
use Rattle.ddf_moving.specs.Copies.{moved_slot_at}
use Rattle.ddf_moving.proofs.records.moved_slots.Given as goal

abbrev pub invariant-loop-place : goal.invariant-loop-place
invariant-loop-place l = l.all.items ≡ map (moved_slot_at l.old l.like l.slots) (range_with_len 0 l.place)
