-- Configurations that views can give, and views with notes.
use Rattle.std.specs.Prelude.{◌≡◌, ◌≤◌, true, List, [], ◌∷◌, length, map, nat_eq, None, is_some}
use Rattle.std.specs.List.{AllByRecursion, IsDistinct}
use Rattle.std.specs.Str.{bytes_eq}
use Rattle.ddf_config.specs.declared.array.Array.{Array}
use Rattle.ddf_config.specs.Configuration.{Configuration}
use Rattle.ddf_view.specs.View.{View}
use Rattle.ddf_view.specs.Reading.{disks_in, arrays_in}
use Rattle.ddf_view.specs.Shows.{least_element}

-- An array has at most 16 elements (profile). One of which no element is held has one, and secondary level 0.
pub record IsReadable (array : Array) : Type 0 where
  pub few : length array.elements ≤ 16
  pub alone : least_element array.elements ≡ None → array.elements ≡ None ∷ []
  pub plain : least_element array.elements ≡ None → array.secondary ≡ 0

abbrev pub AreReadable : Configuration → Type 0
AreReadable config = AllByRecursion (λ entry. IsReadable entry.1) config.arrays

-- with valid notes each record has a note
abbrev pub HasNotes : View → Type 0
HasNotes view = AllByRecursion (λ held. is_some held.note ≡ true) view.elements

-- No two disks of the first view have one reference, and no two of its arrays one GUID.
pub record DoNamesDiffer (views : List View) : Type 0 where
  pub references : IsDistinct nat_eq (map (λ disk. disk.reference) (disks_in views))
  pub guids : IsDistinct bytes_eq (map (λ entry. entry.guid) (arrays_in views))
