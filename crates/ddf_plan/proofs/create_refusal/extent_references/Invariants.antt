use Rattle.std.proofs.Common.{◌≡◌, map, take}
use Rattle.ddf_config.specs.declared.extent.Extent.{Extent}
use Rattle.ddf_plan.proofs.create_refusal.extent_references.Given as goal

abbrev pub invariant-loop-one : goal.invariant-loop-one
invariant-loop-one l = l.all.items ≡ map (λ (one : Extent). one.reference) (take l.one-index l.own)
