-- Two lists of views give one configuration where what is read of them is alike.
use Rattle.std.proofs.Common.{◌≡◌, ℕ, ◌<◌, ◌||◌, Bool, true, false, List, [], ◌∷◌, map, Option, Some, None, refl, ap, ◌∙◌, arith}
use Rattle.std.proofs.lemmas.Simd.{map-map}
use Rattle.std.specs.Prelude.{slice_get, filter, filter_map, is_some, nat_eq}
use Rattle.std.specs.Option.{option_map_or, option_or}
use Rattle.std.specs.List.{cons_option, list_any, range_with_len}
use Rattle.ddf_lemmas.proofs.Lists.{map_alike, range_get}
use Rattle.ddf_bytes.specs.Choices.{first_of}
use Rattle.ddf_tables.specs.declared.disks.DiskEntry.{DiskEntry}
use Rattle.ddf_tables.specs.declared.arrays.ArrayEntry.{ArrayEntry}
use Rattle.ddf_config.specs.ElementValue.{ElementValue as ElementPlan}
use Rattle.ddf_config.specs.declared.member.Member.{Member}
use Rattle.ddf_config.specs.declared.member.SpareUse.{SpareUse}
use Rattle.ddf_view.specs.Reading.{array_entry_in, array_in, arrays_in, count_in, dedicated_or_not, disks_in, element_in, elements_in, is_associated, is_dedicated, member_entry_in, naming_record, read, secondary_in, spare_in, spare_of_kind}
use Rattle.ddf_view.specs.View.{HeldRecord, View, find_held, has_bit, is_missing}
use Rattle.ddf_view.proofs.Agreement.{make_array, make_config, make_member}
use Rattle.ddf_rewrite.proofs.Holdings.{AreSame}

-- ---- records that say the same

-- Both hold an element, with the same named fields, or none does.
abbrev pub AreAlike : Option HeldRecord → Option HeldRecord → Type 0
AreAlike None None = Unit {0}
AreAlike None (Some other) = ⊥
AreAlike (Some one) None = ⊥
AreAlike (Some one) (Some other) = AreSame one.element other.element

-- The first records of alike ones are alike.
first_alike : (one other : ℕ → Option HeldRecord) → ((i : ℕ) → AreAlike (one i) (other i)) → (xs : List ℕ) → AreAlike (first_of (map one xs)) (first_of (map other xs))
first_alike one other alike [] = tt
first_alike one other alike (x ∷ xs) = go (one x) (other x) (alike x) (first_alike one other alike xs)
  where
    go : (o p : Option HeldRecord) → AreAlike o p → AreAlike (first_of (map one xs)) (first_of (map other xs)) → AreAlike (option_or o (first_of (map one xs))) (option_or p (first_of (map other xs)))
    go None None here rest = rest
    go None (Some y) here rest = absurd here
    go (Some x) None here rest = absurd here
    go (Some x) (Some y) here rest = here

-- They name the same numbers.
count_alike : (o p : Option HeldRecord) → AreAlike o p → option_map_or (λ (held : HeldRecord). held.element.elements) o 1 ≡ option_map_or (λ (held : HeldRecord). held.element.elements) p 1
count_alike None None alike = refl
count_alike None (Some y) alike = absurd alike
count_alike (Some x) None alike = absurd alike
count_alike (Some x) (Some y) alike = alike.count

-- So do they the secondary level.
secondary_alike : (o p : Option HeldRecord) → AreAlike o p → option_map_or (λ (held : HeldRecord). held.element.secondary) o 0 ≡ option_map_or (λ (held : HeldRecord). held.element.secondary) p 0
secondary_alike None None alike = refl
secondary_alike None (Some y) alike = absurd alike
secondary_alike (Some x) None alike = absurd alike
secondary_alike (Some x) (Some y) alike = alike.secondary

-- One is there where the other is.
some_alike : (o p : Option HeldRecord) → AreAlike o p → is_some o ≡ is_some p
some_alike None None alike = refl
some_alike None (Some y) alike = absurd alike
some_alike (Some x) None alike = absurd alike
some_alike (Some x) (Some y) alike = refl

-- Alike records have the same spares.
any_alike : (test : List ℕ → Bool) (one other : ℕ → Option HeldRecord) → ((i : ℕ) → AreAlike (one i) (other i)) → (xs : List ℕ)
    → list_any (λ held. test held.element.spares) (filter_map one xs) ≡ list_any (λ held. test held.element.spares) (filter_map other xs)
any_alike test one other alike [] = refl
any_alike test one other alike (x ∷ xs) = go (one x) (other x) (alike x) (any_alike test one other alike xs)
  where
    any : List HeldRecord → Bool
    any list = list_any (λ held. test held.element.spares) list

    go : (o p : Option HeldRecord) → AreAlike o p → any (filter_map one xs) ≡ any (filter_map other xs) → any (cons_option o (filter_map one xs)) ≡ any (cons_option p (filter_map other xs))
    go None None here rest = rest
    go None (Some y) here rest = absurd here
    go (Some x) None here rest = absurd here
    go (Some x) (Some y) here rest = ap (λ (list : List ℕ). test list || any (filter_map one xs)) here.spares ∙ ap (λ (b : Bool). test y.element.spares || b) rest

-- records of which each is alike
abbrev pub RecordsAlike : (one other : List HeldRecord) → Type 0
RecordsAlike one other = (guid : List ℕ) (i : ℕ) → AreAlike (find_held guid i one) (find_held guid i other)

-- what alike records name
pub record NamesAlike (one other : List HeldRecord) (guid : List ℕ) : Type 0 where
  pub count : count_in one guid ≡ count_in other guid
  pub secondary : secondary_in one guid ≡ secondary_in other guid
  pub some : is_some (naming_record one guid) ≡ is_some (naming_record other guid)

-- They name it.
pub numbers_alike : (one other : List HeldRecord) (guid : List ℕ) → RecordsAlike one other → NamesAlike one other guid
unfolding naming_record
numbers_alike one other guid alike =
    let first = first_alike (λ i. find_held guid i one) (λ i. find_held guid i other) (alike guid) (range_with_len 0 16) in
    let o = first_of (map (λ i. find_held guid i one) (range_with_len 0 16)) in
    let p = first_of (map (λ i. find_held guid i other) (range_with_len 0 16)) in
    record { count = count_alike o p first; secondary = secondary_alike o p first; some = some_alike o p first }

-- A disk is associated with an array as alike records say.
pub associated_alike : (one other : List HeldRecord) (reference : ℕ) (guid : List ℕ) → RecordsAlike one other → is_associated one reference guid ≡ is_associated other reference guid
associated_alike one other reference guid alike =
    ap (λ (n : ℕ). list_any (λ (held : HeldRecord). list_any (λ spare. nat_eq spare reference) held.element.spares) (filter_map (λ i. find_held guid i one) (range_with_len 0 n))) (numbers_alike one other guid alike).count
    ∙ any_alike (λ spares. list_any (λ spare. nat_eq spare reference) spares) (λ i. find_held guid i one) (λ i. find_held guid i other) (alike guid) (range_with_len 0 (count_in other guid))

-- ---- entries that are made of others

-- The named fields of a disk's entry are kept; of the type, whether the disk is a spare for every array, and which.
pub record KeepsDisk (made : DiskEntry → DiskEntry) : Type 0 where
  pub guid : (disk : DiskEntry) → (made disk).guid ≡ disk.guid
  pub reference : (disk : DiskEntry) → (made disk).reference ≡ disk.reference
  pub kind : (disk : DiskEntry) (otherwise : SpareUse) → spare_of_kind (made disk).kind.0 otherwise ≡ spare_of_kind disk.kind.0 otherwise
  pub state : (disk : DiskEntry) → (made disk).state.0 ≡ disk.state.0
  pub size : (disk : DiskEntry) → (made disk).size ≡ disk.size

-- So are those of an array's entry.
pub record KeepsArray (made : ArrayEntry → ArrayEntry) : Type 0 where
  pub guid : (row : ArrayEntry) → (made row).guid ≡ row.guid
  pub name : (row : ArrayEntry) → (made row).name ≡ row.name
  pub number : (row : ArrayEntry) → (made row).number ≡ row.number
  pub state : (row : ArrayEntry) → (made row).state ≡ row.state
  pub init : (row : ArrayEntry) → (made row).init ≡ row.init

-- what is read of two lists of views is alike
pub record TellAlike (views grown : List View) : Type 0 where
  pub disk_made : DiskEntry → DiskEntry
  pub keeps_disk : KeepsDisk disk_made
  pub disks : disks_in grown ≡ map disk_made (disks_in views)
  pub array_made : ArrayEntry → ArrayEntry
  pub keeps_array : KeepsArray array_made
  pub arrays : arrays_in grown ≡ map array_made (arrays_in views)
  pub records : RecordsAlike (elements_in grown) (elements_in views)
  pub plans : (a : ℕ) (row : ArrayEntry) → slice_get (arrays_in views) a ≡ Some row → (i : ℕ) → i < count_in (elements_in views) row.guid
      → element_in (disks_in grown) (elements_in grown) row.guid i ≡ element_in (disks_in views) (elements_in views) row.guid i
  pub dedicated : (reference : ℕ) (row : ArrayEntry) → is_dedicated grown reference row ≡ is_dedicated views reference row

-- ---- lists

-- The names of rows that pass are the same, where rows are made of others with their names.
names_alike : (one other : ArrayEntry → Bool) (made : ArrayEntry → ArrayEntry) → ((row : ArrayEntry) → (made row).guid ≡ row.guid) → (rows : List ArrayEntry) → ((row : ArrayEntry) → one (made row) ≡ other row)
    → map (λ row. row.guid) (filter one (map made rows)) ≡ map (λ row. row.guid) (filter other rows)
names_alike one other made name [] same = refl
names_alike one other made name (row ∷ rows) same = go (names_alike one other made name rows same) (other row) (same row) refl
  where
    go : map (λ x. x.guid) (filter one (map made rows)) ≡ map (λ x. x.guid) (filter other rows) → (b : Bool) → one (made row) ≡ other row → other row ≡ b
        → map (λ x. x.guid) (filter one (map made (row ∷ rows))) ≡ map (λ x. x.guid) (filter other (row ∷ rows))
    go rest true is e = let here : one (made row) ≡ true = is ∙ e in let guid = name row in rw (here, e, guid, rest) refl
    go rest false is e = let here : one (made row) ≡ false = is ∙ e in rw (here, e) rest

-- ---- the configuration

pair_of : {X Y : Type 0} → X → Y → X × Y
pair_of x y = (x, y)

module _ (views grown : List View) (tell : TellAlike views grown) where
  -- Each array is read alike.
  array_alike : (a : ℕ) (row : ArrayEntry) → slice_get (arrays_in views) a ≡ Some row → array_in (disks_in grown) (elements_in grown) (tell.array_made row) ≡ array_in (disks_in views) (elements_in views) row
  unfolding array_in make_array
  array_alike a row at =
      let made = tell.array_made row in
      let guid = tell.keeps_array.guid row in
      let name = tell.keeps_array.name row in
      let number = tell.keeps_array.number row in
      let state = tell.keeps_array.state row in
      let init = tell.keeps_array.init row in
      let names = numbers_alike (elements_in grown) (elements_in views) row.guid tell.records in
      let secondary : secondary_in (elements_in grown) made.guid ≡ secondary_in (elements_in views) row.guid = ap (λ (g : List ℕ). secondary_in (elements_in grown) g) guid ∙ names.secondary in
      let elements : map (element_in (disks_in grown) (elements_in grown) made.guid) (range_with_len 0 (count_in (elements_in grown) made.guid)) ≡ map (element_in (disks_in views) (elements_in views) row.guid) (range_with_len 0 (count_in (elements_in views) row.guid)) =
      ap (λ (g : List ℕ). map (element_in (disks_in grown) (elements_in grown) g) (range_with_len 0 (count_in (elements_in grown) g))) guid
      ∙ ap (λ (n : ℕ). map (element_in (disks_in grown) (elements_in grown) row.guid) (range_with_len 0 n)) names.count
      ∙ map_alike (element_in (disks_in grown) (elements_in grown) row.guid) (element_in (disks_in views) (elements_in views) row.guid) (range_with_len 0 (count_in (elements_in views) row.guid))
      (λ k i there. let place = range_get 0 (count_in (elements_in views) row.guid) k i there in tell.plans a row at i (omega (arith, place.0, place.1))) in
      let same : make_array made.name made.number (secondary_in (elements_in grown) made.guid) (map (element_in (disks_in grown) (elements_in grown) made.guid) (range_with_len 0 (count_in (elements_in grown) made.guid))) made.state made.init
      ≡ make_array row.name row.number (secondary_in (elements_in views) row.guid) (map (element_in (disks_in views) (elements_in views) row.guid) (range_with_len 0 (count_in (elements_in views) row.guid))) row.state row.init =
      ap (λ (x : List ℕ). make_array x made.number (secondary_in (elements_in grown) made.guid) (map (element_in (disks_in grown) (elements_in grown) made.guid) (range_with_len 0 (count_in (elements_in grown) made.guid))) made.state made.init) name
      ∙ ap (λ (x : ℕ). make_array row.name x (secondary_in (elements_in grown) made.guid) (map (element_in (disks_in grown) (elements_in grown) made.guid) (range_with_len 0 (count_in (elements_in grown) made.guid))) made.state made.init) number
      ∙ ap (λ (x : ℕ). make_array row.name row.number x (map (element_in (disks_in grown) (elements_in grown) made.guid) (range_with_len 0 (count_in (elements_in grown) made.guid))) made.state made.init) secondary
      ∙ ap (λ (x : List (Option ElementPlan)). make_array row.name row.number (secondary_in (elements_in views) row.guid) x made.state made.init) elements
      ∙ ap (λ (x : ℕ). make_array row.name row.number (secondary_in (elements_in views) row.guid) (map (element_in (disks_in views) (elements_in views) row.guid) (range_with_len 0 (count_in (elements_in views) row.guid))) x made.init) state
      ∙ ap (λ (x : ℕ). make_array row.name row.number (secondary_in (elements_in views) row.guid) (map (element_in (disks_in views) (elements_in views) row.guid) (range_with_len 0 (count_in (elements_in views) row.guid))) row.state x) init in
      same

  -- So are all.
  arrays_alike : map (array_entry_in grown) (arrays_in grown) ≡ map (array_entry_in views) (arrays_in views)
  unfolding pair_of
  arrays_alike =
      ap (map (array_entry_in grown)) tell.arrays
      ∙ map-map (array_entry_in grown) tell.array_made (arrays_in views)
      ∙ map_alike (λ row. array_entry_in grown (tell.array_made row)) (array_entry_in views) (arrays_in views) (λ a row at.
      let made : pair_of (tell.array_made row).guid (array_in (disks_in grown) (elements_in grown) (tell.array_made row)) ≡ pair_of row.guid (array_in (disks_in views) (elements_in views) row) =
      ap (λ (g : List ℕ). pair_of g (array_in (disks_in grown) (elements_in grown) (tell.array_made row))) (tell.keeps_array.guid row) ∙ ap (pair_of row.guid) (array_alike a row at) in
      made)

  -- A test of an array by its GUID passes as with the entry that it is made of.
  dedicated_made : (reference : ℕ) (row : ArrayEntry) → is_dedicated grown reference (tell.array_made row) ≡ is_dedicated views reference row
  dedicated_made reference row = by_guid (tell.array_made row).guid row.guid (tell.keeps_array.guid row) ∙ tell.dedicated reference row
    where
      -- it is a test of the GUID alone
      test : List ℕ → Bool
      test guid = is_dedicated grown reference (record row { guid = guid })

      by_guid : (one other : List ℕ) → one ≡ other → test one ≡ test other
      by_guid one other same = ap test same

  -- Each disk is a spare alike.
  spare_alike : (disk : DiskEntry) → spare_in grown (tell.disk_made disk) ≡ spare_in views disk
  unfolding spare_in
  spare_alike disk =
      let reference = tell.keeps_disk.reference disk in
      let names : map (λ (row : ArrayEntry). row.guid) (filter (is_dedicated grown (tell.disk_made disk).reference) (arrays_in grown)) ≡ map (λ (row : ArrayEntry). row.guid) (filter (is_dedicated views disk.reference) (arrays_in views)) =
      ap (λ (n : ℕ). map (λ (row : ArrayEntry). row.guid) (filter (is_dedicated grown n) (arrays_in grown))) reference
      ∙ ap (λ (rows : List ArrayEntry). map (λ (row : ArrayEntry). row.guid) (filter (is_dedicated grown disk.reference) rows)) tell.arrays
      ∙ names_alike (is_dedicated grown disk.reference) (is_dedicated views disk.reference) tell.array_made tell.keeps_array.guid (arrays_in views) (dedicated_made disk.reference) in
      tell.keeps_disk.kind disk (dedicated_or_not (map (λ (row : ArrayEntry). row.guid) (filter (is_dedicated grown (tell.disk_made disk).reference) (arrays_in grown))))
      ∙ ap (λ (list : List (List ℕ)). spare_of_kind disk.kind.0 (dedicated_or_not list)) names

  -- Each member is read alike.
  members_alike : map (member_entry_in grown) (disks_in grown) ≡ map (member_entry_in views) (disks_in views)
  unfolding pair_of make_member
  members_alike =
      ap (map (member_entry_in grown)) tell.disks
      ∙ map-map (member_entry_in grown) tell.disk_made (disks_in views)
      ∙ map_alike (λ disk. member_entry_in grown (tell.disk_made disk)) (member_entry_in views) (disks_in views) (λ a disk at.
      let made = tell.disk_made disk in
      let missing : is_missing made ≡ is_missing disk = ap (λ (n : ℕ). has_bit n 1 || has_bit n 6) (tell.keeps_disk.state disk) in
      let same : pair_of made.reference (make_member made.guid made.size (is_missing made) (spare_in grown made)) ≡ pair_of disk.reference (make_member disk.guid disk.size (is_missing disk) (spare_in views disk)) =
      ap (λ (n : ℕ). pair_of n (make_member made.guid made.size (is_missing made) (spare_in grown made))) (tell.keeps_disk.reference disk)
      ∙ ap (λ (x : List ℕ). pair_of disk.reference (make_member x made.size (is_missing made) (spare_in grown made))) (tell.keeps_disk.guid disk)
      ∙ ap (λ (x : ℕ). pair_of disk.reference (make_member disk.guid x (is_missing made) (spare_in grown made))) (tell.keeps_disk.size disk)
      ∙ ap (λ (x : Bool). pair_of disk.reference (make_member disk.guid disk.size x (spare_in grown made))) missing
      ∙ ap (λ (x : SpareUse). pair_of disk.reference (make_member disk.guid disk.size (is_missing disk) x)) (spare_alike disk) in
      same)

-- They give one configuration.
pub read_alike : (group : List ℕ) (sequence : ℕ) (views grown : List View) → TellAlike views grown → read group sequence grown ≡ read group sequence views
unfolding read make_config
read_alike group sequence views grown tell =
    let made : make_config group sequence (map (member_entry_in grown) (disks_in grown)) (map (array_entry_in grown) (arrays_in grown)) ≡ make_config group sequence (map (member_entry_in views) (disks_in views)) (map (array_entry_in views) (arrays_in views)) =
    ap (λ (x : List (ℕ × Member)). make_config group sequence x (map (array_entry_in grown) (arrays_in grown))) (members_alike views grown tell)
    ∙ ap (make_config group sequence (map (member_entry_in views) (disks_in views))) (arrays_alike views grown tell) in
    made
