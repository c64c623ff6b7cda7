-- The rows of a table: what marks an unused one, and the names of the others, which are references of disks or GUIDs of arrays.
use Rattle.std.specs.Prelude.{◌≡◌, ℕ, Bool, false, ◌==◌, ◌||◌, List, Option}
use Rattle.std.specs.List.{AllByRecursion, IsDistinct, filter_map, list_all, list_any}
use Rattle.std.specs.Option.{option_and_then, option_map_or}
use Rattle.ddf_bytes.specs.Choices.{when}
use Rattle.ddf_tables.specs.declared.fault.TableFault.{TableFault}

-- a GUID of bytes FF
abbrev pub is_unused : List ℕ → Bool
is_unused guid = list_all (λ byte. byte == 255) guid

-- a row of this name
abbrev pub has_name : {Row Name : Type 0} → (Row → Option Name) → (Name → Name → Bool) → Name → Row → Bool
has_name name_of eq name row = option_map_or (λ other. eq other name) (name_of row) false

-- What may be wrong with the name of a row, by the rows before it: it names nothing, or is that of an earlier row (profile).
abbrev pub twice_by : {Row Name : Type 0} → (Row → Option Name) → (Name → Name → Bool) → (Name → Bool) → (Name → TableFault) → List Row → Row → Option TableFault
twice_by name_of eq is_no_name fault earlier row = option_and_then (λ name. when (is_no_name name || list_any (has_name name_of eq name) earlier) (fault name)) (name_of row)

-- Each name names something, and no two of them are the same.
pub record HaveOwnNames {Row Name : Type 0} (name_of : Row → Option Name) (eq : Name → Name → Bool) (is_no_name : Name → Bool) (rows : List Row) : Type 0 where
  pub each_names : AllByRecursion (λ name. is_no_name name ≡ false) (filter_map name_of rows)
  pub all_differ : IsDistinct eq (filter_map name_of rows)
