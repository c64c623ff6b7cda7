use Rattle.std.proofs.Common.{◌≡◌, ◌∷◌, [], ℕ, List, map, refl, ap, sym}
use Rattle.ddf_config.specs.declared.array.Array.{Array}
use Rattle.ddf_tables.specs.declared.arrays.ArrayRow.{ArrayRow}
use Rattle.ddf_tables.specs.declared.arrays.ArrayRow.TheVariants as array_rows
use Rattle.ddf_config.specs.Configuration.{Configuration}
use Rattle.ddf_joining.specs.Telling.{named_array}
use Rattle.ddf_joining.proofs.told.put_arrays.Goals as goal

-- A row for each array is a row for each GUID.
rows_are : (entries : List (List ℕ × Array)) → map (λ (entry : List ℕ × Array). array_rows.Entry (named_array entry.0)) entries ≡ map (λ (guid : List ℕ). array_rows.Entry (named_array guid)) (map (λ (entry : List ℕ × Array). entry.0) entries)
rows_are [] = refl
rows_are (entry ∷ entries) = ap (λ (rows : List ArrayRow). array_rows.Entry (named_array entry.0) ∷ rows) (rows_are entries)

pub returns : goal.returns
returns c = rw (sym (rows_are c.args.config.now.arrays), sym (ap (λ (one : Configuration). one.arrays) c.config.view_is)) c.put_named.ensures
