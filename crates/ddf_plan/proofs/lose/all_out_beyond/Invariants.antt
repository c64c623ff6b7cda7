use Rattle.std.proofs.Common.{◌≡◌, map, take}
use Rattle.ddf_plan.specs.Lose.{out_beyond}
use Rattle.ddf_plan.proofs.lose.all_out_beyond.Given as goal

abbrev pub invariant-loop-part : goal.invariant-loop-part
invariant-loop-part l = l.all.items ≡ map (out_beyond l.members.entries) (take l.part-index l.parts)
