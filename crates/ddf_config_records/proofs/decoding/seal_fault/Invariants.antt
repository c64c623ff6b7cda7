use Rattle.std.proofs.Common.{◌≡◌, None, map, ℕ}
use Rattle.std.specs.List.{range_with_len}
use Rattle.ddf_bytes.specs.Choices.{first_of}
use Rattle.ddf_config_records.specs.Slots.{slot_fault, slot_bytes}
use Rattle.ddf_config_records.proofs.decoding.seal_fault.Given as goal

abbrev pub invariant-loop-slot : goal.invariant-loop-slot
invariant-loop-slot l = first_of (map (λ (slot : ℕ). slot_fault slot (slot_bytes l.geometry l.section slot)) (range_with_len 0 l.slot)) ≡ None
