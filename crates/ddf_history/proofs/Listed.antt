-- What a copy lists of a disk is what a configuration has of it that the copy shows.
use Rattle.std.proofs.Common.{◌≡◌, ℕ, Bool, true, false, not, ◌&&◌, cond, eqb, List, [], ◌∷◌, map, Some, None, refl, ap, sym, ◌∙◌}
use Rattle.std.proofs.lemmas.Bool.{and_parts, eqb-true, eq-eqb, false≢true, true≢false, cond-false}
use Rattle.std.specs.Prelude.{find, nat_eq}
use Rattle.std.specs.List.{AllByRecursion, IsDistinct}
use Rattle.std.specs.Map.{lookup}
use Rattle.std.specs.Option.{option_map_or}
use Rattle.std.specs.Str.{bytes_eq}
use Rattle.std.specs.Cmp.Lexicographic.{pointwise}
use Rattle.ddf_tables.specs.declared.disks.DiskEntry.{DiskEntry}
use Rattle.ddf_config.specs.declared.member.Member.{Member}
use Rattle.ddf_config.specs.Configuration.{Configuration}
use Rattle.ddf_view.specs.View.{View, is_missing, lists_current, lists_missing}
use Rattle.ddf_view.specs.Shows.{same_flag, gives_array, gives_elements, gives_member, shows}
use Rattle.std.specs.List.{list_all}
use Rattle.ddf_view.proofs.Tests.{same_bytes, and_four, and_five}
use Rattle.ddf_view.proofs.Shown.{flag_same}
use Rattle.ddf_history.specs.Groups.{Disk, Shows, has_current, has_missing}

-- the entry of a disk by its reference alone
abbrev pub has_reference : (reference : ℕ) → DiskEntry → Bool
has_reference reference disk = eqb disk.reference reference

-- the entry of a disk
abbrev pub is_entry : (guid : List ℕ) → (reference : ℕ) → DiskEntry → Bool
is_entry guid reference disk = eqb disk.reference reference && bytes_eq disk.guid guid

-- Behind an entry of a reference there is no other one.
pub none_behind : (guid : List ℕ) (reference own : ℕ) (disks : List DiskEntry) → own ≡ reference → AllByRecursion (λ y. nat_eq own y ≡ false) (map (λ disk. disk.reference) disks) → find (is_entry guid reference) disks ≡ None
none_behind guid reference own [] same others = refl
none_behind guid reference own (disk ∷ disks) same others =
    let apart : is_entry guid reference disk ≡ false = go (eqb disk.reference reference) refl in
    cond-false (is_entry guid reference disk) (Some disk) (find (is_entry guid reference) disks) apart ∙ none_behind guid reference own disks same others.1
  where
    go : (b : Bool) → eqb disk.reference reference ≡ b → is_entry guid reference disk ≡ false
    go false is = ap (λ (b : Bool). b && bytes_eq disk.guid guid) is
    go true is = absurd (true≢false (sym (eq-eqb own disk.reference (same ∙ sym (eqb-true disk.reference reference is))) ∙ others.0))

-- A table of disks lists what the members are of which it gives the entries.
module _ (guid : List ℕ) (reference : ℕ) (listed : DiskEntry → Bool) (had : Member → Bool) (alike : (disk : DiskEntry) (member : Member) → is_missing disk ≡ member.missing → listed disk ≡ had member) where
  -- A member has the GUID and what is asked of it.
  abbrev is_had : Member → Bool
  is_had member = bytes_eq member.guid guid && had member

  -- The entry of the disk says what is asked of it.
  abbrev is_found : List DiskEntry → Bool
  is_found disks = option_map_or listed (find (is_entry guid reference) disks) false

  -- an entry that is given by its member, at the reference that is asked for
  entry_lists : (disk : DiskEntry) (disks : List DiskEntry) (member : Member) → disk.guid ≡ member.guid → is_missing disk ≡ member.missing → eqb disk.reference reference ≡ true → find (is_entry guid reference) disks ≡ None
      → is_found (disk ∷ disks) ≡ is_had member
  entry_lists disk disks member guids missing here none = go (bytes_eq disk.guid guid) refl
    where
      go : (b : Bool) → bytes_eq disk.guid guid ≡ b → is_found (disk ∷ disks) ≡ is_had member
      go true is = let other : bytes_eq member.guid guid ≡ true = ap (λ (g : List ℕ). bytes_eq g guid) (sym guids) ∙ is in rw (here, is, other) (alike disk member missing)
      go false is = let other : bytes_eq member.guid guid ≡ false = ap (λ (g : List ℕ). bytes_eq g guid) (sym guids) ∙ is in rw (here, is, other, none) refl

  -- The entry of a disk says what its member has.
  pub table_lists : (disks : List DiskEntry) (members : List (ℕ × Member)) → pointwise gives_member disks members ≡ true → IsDistinct nat_eq (map (λ disk. disk.reference) disks)
      → is_found disks ≡ option_map_or is_had (lookup (λ one. eqb one reference) members) false
  unfolding IsDistinct
  table_lists [] [] gives differ = refl
  table_lists [] (entry ∷ members) gives differ = absurd (false≢true gives)
  table_lists (disk ∷ disks) [] gives differ = absurd (false≢true gives)
  table_lists (disk ∷ disks) (entry ∷ members) gives differ =
      let parts = and_parts (gives_member disk entry) (pointwise gives_member disks members) gives in
      let given = and_four (eqb disk.reference entry.0) (bytes_eq disk.guid entry.1.guid) (eqb disk.size entry.1.size) (same_flag (is_missing disk) entry.1.missing) parts.0 in
      let references : disk.reference ≡ entry.0 = eqb-true disk.reference entry.0 given.0 in
      go (same_bytes disk.guid entry.1.guid given.1) (flag_same (is_missing disk) entry.1.missing given.3) (ap (λ (n : ℕ). eqb n reference) (sym references)) (table_lists disks members parts.1 differ.1) (eqb disk.reference reference) refl
    where
      go : disk.guid ≡ entry.1.guid → is_missing disk ≡ entry.1.missing → eqb entry.0 reference ≡ eqb disk.reference reference → is_found disks ≡ option_map_or is_had (lookup (λ one. eqb one reference) members) false
          → (b : Bool) → eqb disk.reference reference ≡ b → is_found (disk ∷ disks) ≡ option_map_or is_had (lookup (λ one. eqb one reference) (entry ∷ members)) false
      go guids missing same rest true is =
          let here : eqb entry.0 reference ≡ true = same ∙ is in
          entry_lists disk disks entry.1 guids missing is (none_behind guid reference disk.reference disks (eqb-true disk.reference reference is) differ.0) ∙ sym (ap (λ (b : Bool). option_map_or is_had (cond b (Some entry.1) (lookup (λ one. eqb one reference) members)) false) here)
      go guids missing same rest false is =
          let here : eqb entry.0 reference ≡ false = same ∙ is in
          rw (is, here) rest

-- ---- a copy that shows a configuration

-- what is asked of it first
pub record GivesTables (view : View) (config : Configuration) : Type 0 where
  pub sequence : view.sequence ≡ config.sequence
  pub group : view.group ≡ config.group
  pub members : pointwise gives_member view.disks config.members ≡ true

-- A copy that shows a configuration gives its members.
pub gives_tables : (view : View) (config : Configuration) → shows config view ≡ true → GivesTables view config
unfolding shows
gives_tables view config passes =
    let parts = and_five (eqb view.sequence config.sequence) (bytes_eq view.group config.group) (pointwise gives_member view.disks config.members) (pointwise gives_array view.arrays config.arrays)
    (list_all (gives_elements view.elements) config.arrays) passes in
    record { sequence = eqb-true view.sequence config.sequence parts.0; group = same_bytes view.group config.group parts.1; members = parts.2 }

-- It lists the current members.
pub current_alike : (view : View) (config : Configuration) (disk : Disk) → Shows view config → lists_current view disk.guid disk.reference ≡ has_current config disk
unfolding lists_current
current_alike view config disk shown =
    table_lists disk.guid disk.reference (λ entry. not (is_missing entry)) (λ member. not member.missing) (λ entry member same. ap not same) view.disks config.members (gives_tables view config shown.shows).members shown.names.references

-- It lists the missing members.
pub missing_alike : (view : View) (config : Configuration) (disk : Disk) → Shows view config → lists_missing view disk.guid disk.reference ≡ has_missing config disk
unfolding lists_missing
missing_alike view config disk shown =
    table_lists disk.guid disk.reference is_missing (λ member. member.missing) (λ entry member same. same) view.disks config.members (gives_tables view config shown.shows).members shown.names.references
