use Rattle.std.proofs.Common.{◌≡◌, None, length, take}
use Rattle.ddf_config.specs.Refusals.{part_refusal}
use Rattle.ddf_plan.specs.Floors.{extent_refusal}
use Rattle.ddf_plan.proofs.floors.parts_refusal.Given as goal

abbrev pub invariant-loop-part : goal.invariant-loop-part
invariant-loop-part l = part_refusal (extent_refusal l.config l.floors l.seats (length l.parts)) (take l.part-index l.parts) ≡ None
