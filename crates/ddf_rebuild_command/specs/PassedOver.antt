-- The spares that an array isn't rebuilt onto. Profile: Linux takes level 11 with qualifier 01, RAID 1E with offset copies, for another layout.
use Rattle.std.specs.Prelude.{ℕ, Bool, false, List, [], Option, Some, None, if◌then◌else◌}
use Rattle.std.specs.List.{list_any}
use Rattle.ddf_config.specs.declared.array.Array.{Array}
use Rattle.ddf_config.specs.ElementValue.{ElementValue}
use Rattle.ddf_config.specs.Levels.{is_disputed}

-- Linux takes an element for another layout than this engine
abbrev pub is_misread : Option ElementValue → Bool
is_misread part = elim part [ None ↦ false | Some element ↦ is_disputed element.level element.qualifier ]

-- of the members whose disks Linux reads those that an array isn't put on: all of them, where it takes an element for another layout
unfoldable pub passed_over : (linux : List ℕ) → Array → List ℕ
passed_over linux array = if list_any is_misread array.elements then linux else []
