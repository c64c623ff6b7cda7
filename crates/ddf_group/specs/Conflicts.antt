-- Slots of one group that contradict each other (profile).
use Rattle.std.specs.Prelude.{ℕ, Bool, true, false, not, ◌&&◌, ◌||◌, ◌==◌, List, [], ◌∷◌, filter, find, Option, Some, None, option_map}
use Rattle.std.specs.List.{list_any}
use Rattle.std.specs.Option.{option_map_or}
use Rattle.ddf_bytes.specs.Choices.{first_of, when}
use Rattle.ddf_view.specs.View.{View, lists_missing}
use Rattle.ddf_view.specs.Differ.{difference}
use Rattle.ddf_view.specs.declared.difference.Difference.{Difference}
use Rattle.ddf_view.specs.declared.difference.Difference.TheVariants as differences
use Rattle.ddf_group.specs.declared.shown.Shown.{Shown}
use Rattle.ddf_group.specs.declared.shown.Shown.TheVariants.{TwoDiffer}
use Rattle.ddf_group.specs.declared.answer.Differ.{Differ}
use Rattle.ddf_group.specs.declared.answer.Differ.TheVariants as differs
use Rattle.ddf_group.specs.declared.answer.Assembly.{Assembly}
use Rattle.ddf_group.specs.declared.answer.Assembly.TheVariants.{Conflict, Split}
use Rattle.ddf_group.specs.Pairs.{first_pair, first_with}
use Rattle.ddf_group.specs.Slots.{claims, leads, leaders, numbers, reference_at, sequence_in, shows_group, slot_at, view_in, views_of}

-- the sequence of the group's leaders
abbrev pub sequence_of : List Shown → (group : List ℕ) → ℕ
sequence_of slots group = option_map_or (λ slot. sequence_in (slot_at slots slot)) (find (leads slots group) (numbers slots)) 0

-- ---- two records that conflict

-- what it is in which two slots contradict each other
abbrev pub in_conflict : List Shown → (group : List ℕ) → (i j : ℕ) → Differ → Assembly
in_conflict slots group i j differ = Conflict i j (sequence_of slots group) differ

-- a leader whose own two copies differ
abbrev pub has_two : Shown → Bool
has_two (TwoDiffer primary secondary) = true
has_two shown = false

abbrev pub leads_with_two : List Shown → (group : List ℕ) → (slot : ℕ) → Bool
leads_with_two slots group slot = has_two (slot_at slots slot) && leads slots group slot

abbrev pub two_copies : List Shown → (group : List ℕ) → Option Assembly
two_copies slots group = option_map (λ slot. in_conflict slots group slot slot differs.Copies) (find (leads_with_two slots group) (numbers slots))

-- the slots that show the group or are claimed by it
abbrev pub is_concerned : List Shown → (group : List ℕ) → (slot : ℕ) → Bool
is_concerned slots group slot = shows_group group (slot_at slots slot) || claims slots group slot

abbrev pub concerned : List Shown → (group : List ℕ) → List ℕ
concerned slots group = filter (is_concerned slots group) (numbers slots)

abbrev pub same_reference : Option ℕ → Option ℕ → Option ℕ
same_reference None other = None
same_reference (Some one) None = None
same_reference (Some one) (Some other) = when (one == other) one

-- two of them have one reference
abbrev pub twin_of : List Shown → (group : List ℕ) → (i j : ℕ) → Option Assembly
twin_of slots group i j = option_map (λ reference. in_conflict slots group i j (differs.Twin reference)) (same_reference (reference_at slots i) (reference_at slots j))

abbrev pub twins : List Shown → (group : List ℕ) → Option Assembly
twins slots group = first_pair (twin_of slots group) (concerned slots group)

abbrev pub differ_of : Difference → Differ
differ_of (differences.Disk reference) = differs.Disk reference
differ_of (differences.Array guid) = differs.Array guid
differ_of (differences.Element array index) = differs.Element array index

abbrev pub difference_of : Option View → Option View → Option Difference
difference_of None other = None
difference_of (Some one) None = None
difference_of (Some one) (Some other) = difference one other

-- two leaders differ
abbrev pub differ_at : List Shown → (group : List ℕ) → (i j : ℕ) → Option Assembly
differ_at slots group i j =
    option_map (λ found. in_conflict slots group i j (differ_of found)) (difference_of (view_in (slot_at slots i)) (view_in (slot_at slots j)))

abbrev pub differing : List Shown → (group : List ℕ) → Option Assembly
differing slots group = first_pair (differ_at slots group) (leaders slots group)

-- ---- an older record that a leader's is missing from

-- the newest copy of a slot, either one where two differ, lists a disk as a missing member
abbrev pub lists_missing_in : Shown → (guid : List ℕ) → (reference : ℕ) → Bool
lists_missing_in shown guid reference = list_any (λ view. lists_missing view guid reference) (views_of shown)

abbrev pub lists_disk_missing : Shown → (disk : Option View) → Bool
lists_disk_missing shown None = false
lists_disk_missing shown (Some disk) = lists_missing_in shown disk.guid disk.reference

-- a slot that shows the group and doesn't lead lists a leader's disk as missing
abbrev pub splits_from : List Shown → (group : List ℕ) → (leader slot : ℕ) → Bool
splits_from slots group leader slot =
    shows_group group (slot_at slots slot) && lists_disk_missing (slot_at slots slot) (view_in (slot_at slots leader)) && not (leads slots group slot)

abbrev pub split_from : List Shown → (group : List ℕ) → (leader : ℕ) → Option Assembly
split_from slots group leader = option_map (Split leader) (find (splits_from slots group leader) (numbers slots))

abbrev pub split_in : List Shown → (group : List ℕ) → Option Assembly
split_in slots group = first_with (split_from slots group) (leaders slots group)

-- ---- all

-- What contradicts the group, the first of these: a leader's two copies, two slots of one reference, two leaders, and then a
-- record that is older than a leader's and lists it as missing.
unfoldable pub contradiction : List Shown → (group : List ℕ) → Option Assembly
contradiction slots group = first_of (two_copies slots group ∷ twins slots group ∷ differing slots group ∷ split_in slots group ∷ [])
