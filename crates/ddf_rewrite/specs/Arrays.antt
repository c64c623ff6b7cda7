-- The entries of the arrays after a change or a recovery (SNIA DDF 2.0, virtual disk records; what is kept is profile).
use Rattle.std.specs.Prelude.{ℕ, List, map, find, replicate, Option}
use Rattle.std.specs.Str.{bytes_eq}
use Rattle.ddf_tables.specs.declared.arrays.ArrayEntry.{ArrayEntry}
use Rattle.ddf_tables.specs.declared.arrays.ArrayRow.{ArrayRow}
use Rattle.ddf_tables.specs.declared.arrays.ArrayRow.TheVariants as array_rows
use Rattle.ddf_tables.specs.Arrays.{is_used_array}
use Rattle.ddf_tables.specs.Building.{array_over}
use Rattle.ddf_config.specs.declared.array.Array.{Array}
use Rattle.ddf_config.specs.Configuration.{Configuration}
use Rattle.ddf_rewrite.specs.Disks.{rows_after}

abbrev pub find_array : (guid : List ℕ) → List ArrayEntry → Option ArrayEntry
find_array guid arrays = find (λ entry. bytes_eq entry.guid guid) arrays

-- the named fields of an array's entry
abbrev pub array_entry : (List ℕ × Array) → ArrayEntry
array_entry entry = record { guid = entry.0; number = entry.1.number; state = entry.1.state; init = entry.1.init; name = entry.1.name; rest = replicate 64 0 }

-- An entry on a disk that had these: over its own bytes, or over those of a new one.
abbrev pub array_on : List ArrayEntry → (List ℕ × Array) → ArrayEntry
array_on own entry = array_over (find_array entry.0 own) (array_entry entry)

-- the entries, in the order of the configuration's arrays
unfoldable pub arrays_after : Configuration → (own : List ArrayEntry) → List ArrayEntry
arrays_after config own = map (array_on own) config.arrays

unfoldable pub array_rows_after : List ArrayRow → List ArrayEntry → List ArrayRow
array_rows_after rows entries = rows_after is_used_array (array_rows.Unused (replicate 64 255)) (map array_rows.Entry entries) rows
