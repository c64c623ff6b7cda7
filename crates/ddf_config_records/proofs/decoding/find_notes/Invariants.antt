use Rattle.std.proofs.Common.{◌≡◌, None, map, ℕ}
use Rattle.std.specs.List.{range_with_len}
use Rattle.ddf_bytes.specs.Choices.{first_of}
use Rattle.ddf_config_records.specs.Slots.{slot_count, slot_bytes, valid_at}
use Rattle.ddf_config_records.proofs.decoding.find_notes.Given as goal

abbrev pub invariant-loop-slot : goal.invariant-loop-slot
invariant-loop-slot l =
    first_of (map (λ (slot : ℕ). valid_at l.geometry.max_members (slot_count l.geometry l.section) l.group l.sequence (slot_bytes l.geometry l.section slot)) (range_with_len 0 l.slot)) ≡ None
