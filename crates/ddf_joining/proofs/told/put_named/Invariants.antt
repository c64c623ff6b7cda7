use Rattle.std.proofs.Common.{◌≡◌, ◌++◌, ℕ, List, map}
use Rattle.ddf_config.specs.declared.array.Array.{Array}
use Rattle.ddf_tables.specs.declared.arrays.ArrayRow.TheVariants as array_rows
use Rattle.ddf_joining.specs.Telling.{named_array}
use Rattle.ddf_joining.proofs.told.put_named.Given as goal

abbrev pub invariant-loop-guid : goal.invariant-loop-guid
invariant-loop-guid l = l.into.items ++ map (λ (entry : List ℕ × Array). array_rows.Entry (named_array entry.0)) l.guid-iterator
    ≡ l.initial.into.items ++ map (λ (entry : List ℕ × Array). array_rows.Entry (named_array entry.0)) l.arrays.entries
