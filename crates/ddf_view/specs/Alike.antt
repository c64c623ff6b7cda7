-- Copies of one group that are alike: each has the tables of the first, and each record is like the first that they hold of its element. Such
-- copies agree in pairs, and that they are alike is told by one look at each.
use Rattle.std.specs.Prelude.{◌≡◌, ⊤, ℕ, Bool, true, false, ◌&&◌, ◌==◌, List, [], ◌∷◌, map, Option, Some, None, is_none}
use Rattle.std.specs.List.{AllByRecursion, list_all}
use Rattle.std.specs.Ordering.{nat_cmp}
use Rattle.std.specs.Str.{bytes_eq}
use Rattle.std.specs.Cmp.Lexicographic.{slice_cmp}
use Rattle.ddf_config_records.specs.declared.notes.SlotNote.{SlotNote}
use Rattle.ddf_view.specs.View.{View, HeldRecord, find_held}
use Rattle.ddf_view.specs.Reading.{elements_in}
use Rattle.ddf_view.specs.Differ.{difference, differing_arrays, differing_disks, key_of, least, same_record}

-- ---- records

-- Notes that tell the same. Whether the record is a copy isn't told of the element.
abbrev pub same_note : SlotNote → SlotNote → Bool
same_note one other = one.position == other.position && one.row == other.row && one.stand_in == other.stand_in && bytes_eq one.out other.out

-- there are such notes, or none
abbrev pub same_noting : Option SlotNote → Option SlotNote → Bool
same_noting None None = true
same_noting None (Some other) = false
same_noting (Some one) None = false
same_noting (Some one) (Some other) = same_note one other

-- Records that are like a third are the same, which those that only don't differ from it needn't be: a record without notes differs from none by them.
abbrev pub alike : HeldRecord → HeldRecord → Bool
alike one other = same_record one.element other.element && same_noting one.note other.note

-- a record is like the first that there is of its element
abbrev pub is_like : (first own : Option HeldRecord) → Bool
is_like None None = true
is_like None (Some own) = false
is_like (Some first) None = true
is_like (Some first) (Some own) = alike first own

-- ---- copies

abbrev pub like_first : (all own : List HeldRecord) → (List ℕ × ℕ) → Bool
like_first all own key = is_like (find_held key.0 key.1 all) (find_held key.0 key.1 own)

-- it has the disks and the arrays of the first copy
abbrev pub has_same_tables : (first view : View) → Bool
has_same_tables first view =
    is_none (least nat_cmp (differing_disks first.disks view.disks)) && is_none (least (slice_cmp nat_cmp) (differing_arrays first.arrays view.arrays))

abbrev pub is_as_first : (first : View) → (all : List HeldRecord) → View → Bool
is_as_first first all view = has_same_tables first view && list_all (like_first all view.elements) (map key_of view.elements)

unfoldable pub are_alike : List View → Bool
are_alike [] = true
are_alike (first ∷ views) = list_all (is_as_first first (elements_in (first ∷ views))) (first ∷ views)

-- no copy differs from one behind it
abbrev pub NoneDiffers : List View → Type 0
NoneDiffers [] = ⊤
NoneDiffers (view ∷ views) = AllByRecursion (λ other. difference view other ≡ None) views × NoneDiffers views
