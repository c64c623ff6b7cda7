use Rattle.std.proofs.Common.{◌≡◌, map, ℕ}
use Rattle.std.specs.List.{range_with_len}
use Rattle.ddf_config_records.specs.Slots.{slot_count, slot_bytes, lists, slot_at}
use Rattle.ddf_config_records.proofs.decoding.read_slots.Given as goal

abbrev pub invariant-loop-slot : goal.invariant-loop-slot
invariant-loop-slot l =
    l.slots.items ≡ map (λ (slot : ℕ). slot_at l.geometry.max_members (slot_count l.geometry l.section) (lists l.notes slot) (slot_bytes l.geometry l.section slot)) (range_with_len 0 l.slot)
