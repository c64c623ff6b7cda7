use Rattle.std.proofs.Common.{◌≡◌, ℕ, ◌+◌, ◌<◌, ◌^◌, ◌++◌, List, None, length}
use Rattle.std.specs.Map.{keys_of, lookup}
use Rattle.std.specs.List.{AllByRecursion, IsDistinct}
use Rattle.ddf_config.specs.declared.array.Array.{Array}
use Rattle.ddf_config.specs.Members.{same_guid}
use Rattle.ddf_import.specs.Joined.{numbered}
use Rattle.ddf_import.proofs.joining.push_arrays.Given as goal

abbrev pub invariant-loop-guid : goal.invariant-loop-guid
invariant-loop-guid l = record {
  made : l.after.entries ++ numbered l.taken.items l.guid-iterator ≡ l.fn.after.entries ++ numbered l.fn.taken.items l.joining.entries;
  few : length l.taken.items + length l.guid-iterator < 2 ^ 16;
  fresh : AllByRecursion (λ (entry : List ℕ × Array). lookup (same_guid entry.0) l.after.entries ≡ None) l.guid-iterator;
  apart : IsDistinct same_guid (keys_of l.guid-iterator);
}
