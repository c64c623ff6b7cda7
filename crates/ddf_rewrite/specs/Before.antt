-- What the leaders of a group record before a change (profile).
use Rattle.std.specs.Prelude.{ℕ, Bool, List, map, Option, None, if◌then◌else◌}
use Rattle.std.specs.List.{list_any}
use Rattle.std.specs.Str.{bytes_eq}
use Rattle.ddf_tables.specs.declared.disks.DiskEntry.{DiskEntry}
use Rattle.ddf_view.specs.View.{View, HeldRecord, find_held}
use Rattle.ddf_view.specs.Reading.{disks_in, arrays_in, elements_in, are_noted}

-- The disks, and the GUIDs of the arrays, are those that the tables of the lowest leader list. Of each element the record of the
-- lowest leader that holds it counts. `noted` tells whether a leader has valid notes.
pub record Before : Type 0 where
  pub disks : List DiskEntry
  pub arrays : List (List ℕ)
  pub elements : List HeldRecord
  pub noted : Bool

abbrev pub before : List View → Before
before leaders = record {
  disks = disks_in leaders;
  arrays = map (λ entry. entry.guid) (arrays_in leaders);
  elements = elements_in leaders;
  noted = are_noted leaders;
}

-- the lowest leader's table lists an array
abbrev pub is_listed : Before → (array : List ℕ) → Bool
is_listed leaders array = list_any (λ guid. bytes_eq guid array) leaders.arrays

-- What is recorded of an element. Of an array that isn't listed nothing is: it is new, and a record under its GUID is none of its own.
abbrev pub leading_record : Before → (array : List ℕ) → (index : ℕ) → Option HeldRecord
leading_record leaders array index = if is_listed leaders array then find_held array index leaders.elements else None
