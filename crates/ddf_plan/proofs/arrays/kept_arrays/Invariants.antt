use Rattle.std.proofs.Common.{◌≡◌, ◌++◌}
use Rattle.ddf_config.specs.Entries.{changed_entries}
use Rattle.ddf_plan.specs.Arrays.{kept_array}
use Rattle.ddf_plan.proofs.arrays.kept_arrays.Given as goal

abbrev pub invariant-loop-guid : goal.invariant-loop-guid
invariant-loop-guid l =
    l.after.entries ++ changed_entries (kept_array l.revertible l.members.entries l.change) l.guid-iterator
    ≡ changed_entries (kept_array l.revertible l.members.entries l.change) l.arrays.entries
