use Rattle.std.proofs.Common.{◌≡◌, ◌++◌, take}
use Rattle.std.specs.List.{flat_map}
use Rattle.ddf_logs.specs.Kept.{stretches_of}
use Rattle.ddf_logs.proofs.kept.keep_sections.Given as goal

abbrev pub invariant-loop-section : goal.invariant-loop-section
invariant-loop-section l = l.kept.items ≡ l.fn.kept.items ++ flat_map (stretches_of l.lba) (take l.section-index l.sections)
