use Rattle.std.proofs.Common.{◌≡◌, ◌++◌}
use Rattle.ddf_config.specs.States.{all_with_low}
use Rattle.ddf_config.proofs.state.all_with_low.Given as goal

abbrev pub invariant-loop-guid : goal.invariant-loop-guid
invariant-loop-guid l = l.after.entries ++ all_with_low l.members.entries l.all l.guid-iterator ≡ all_with_low l.members.entries l.all l.fn.arrays.entries
