use Rattle.std.proofs.Common.{◌≡◌, None, take}
use Rattle.ddf_config.specs.Levels.{level_refusal}
use Rattle.ddf_config.specs.Refusals.{part_refusal}
use Rattle.ddf_config.proofs.level.first_of.Given as goal

abbrev pub invariant-loop-part : goal.invariant-loop-part
invariant-loop-part l = part_refusal (level_refusal l.guid) (take l.part-index l.parts) ≡ None
