-- The newest copy of a disk stands in the place that an update writes last.
use Rattle.std.proofs.Common.{◌≡◌, ◌≢◌, ◌⊎◌, ℕ, Bool, true, false, List, Result, Ok, Err, refl, sym, ◌∙◌, inl, inr, arith, subst}
use Rattle.std.proofs.lemmas.Bool.{cases_lt, lt-ltb, le-ltb}
use Rattle.ddf_header.specs.declared.reading.Header.{Header}
use Rattle.ddf_copy.specs.declared.copy.DiskCopy.{DiskCopy}
use Rattle.ddf_copy.specs.declared.fault.CopyFault.{CopyFault}
use Rattle.ddf_copy.specs.declared.newest_copy.Newest.{Newest}
use Rattle.ddf_copy.specs.declared.newest_copy.Newest.TheVariants as newests
use Rattle.ddf_copy.specs.declared.raw.Raw.{Raw}
use Rattle.ddf_copy.specs.declared.which.Which.{Which}
use Rattle.ddf_copy.specs.declared.which.Which.TheVariants.{Primary, Secondary}
use Rattle.ddf_copy.specs.Copies.{are_level, copy_of, newest_in, newest_of, newest_of_both}
use Rattle.ddf_copy.specs.Gate.{header_bytes, header_of}
use Rattle.ddf_copy.specs.declared.fault.SectionName.TheVariants as names
use Rattle.ddf_copy.specs.Sections.{and_then, bytes_in, copy_in, in_section, in_sector, in_slots, log_in, raw_at}
use Rattle.ddf_tables.specs.Arrays.{decoded_arrays}
use Rattle.ddf_tables.specs.Disks.{decoded_disks}
use Rattle.ddf_tables.specs.Sectors.{decoded_controller, decoded_disk_data}
use Rattle.ddf_config_records.specs.Slots.{decoded_slots}
use Rattle.ddf_copy.specs.Shows.{HasNewest, IsLast, IsNewest, last_of}
use Rattle.ddf_copy.specs.Which.{place_of}
use Rattle.ddf_copy.specs.Written.{is_level}
use Rattle.ddf_copy.proofs.Gates.{found_is}
use Rattle.ddf_copy.proofs.LevelCopies.{same_start}
use Rattle.ddf_copy.proofs.Shared.{shared_guid}

-- ---- the header of a copy that is read

abbrev HasHeader : Header → Result DiskCopy CopyFault → Type 0
HasHeader header (Ok copy) = copy.header ≡ header
HasHeader header (Err fault) = Unit {0}

pub ok_or : {A : Type 0} (read : Result A CopyFault) → ((value : A) × (read ≡ Ok value)) ⊎ ((fault : CopyFault) × (read ≡ Err fault))
ok_or (Ok value) = inl (value, refl)
ok_or (Err fault) = inr (fault, refl)

in_header : (header : Header) (raw : Raw) → HasHeader header (copy_in header raw)
unfolding copy_in
in_header header raw = elim (ok_or (in_sector names.Controller (decoded_controller raw.controller))) [
  | inl controller ↦ elim (ok_or (in_section names.Disks (decoded_disks header.geometry.max_disks (bytes_in raw.disks)))) [
    | inl disks ↦ elim (ok_or (in_section names.Arrays (decoded_arrays header.geometry.max_arrays (bytes_in raw.arrays)))) [
      | inl arrays ↦ elim (ok_or (in_slots (decoded_slots header.geometry header.guid header.sequence (bytes_in raw.records)))) [
        | inl slots ↦ elim (ok_or (in_sector names.DiskData (decoded_disk_data raw.disk_data))) [
          | inl disk_data ↦ elim (ok_or (log_in raw.bad_blocks)) [
            | inl bad ↦ rw (controller.1, disks.1, arrays.1, slots.1, disk_data.1, bad.1) refl
            | inr fault ↦ rw (controller.1, disks.1, arrays.1, slots.1, disk_data.1, fault.1) tt
          ]
          | inr fault ↦ rw (controller.1, disks.1, arrays.1, slots.1, fault.1) tt
        ]
        | inr fault ↦ rw (controller.1, disks.1, arrays.1, fault.1) tt
      ]
      | inr fault ↦ rw (controller.1, disks.1, fault.1) tt
    ]
    | inr fault ↦ rw (controller.1, fault.1) tt
  ]
  | inr fault ↦ rw fault.1 tt
]

behind : (size : ℕ) (sector : ℕ → List ℕ) (anchor : Header) (which : Which) (copy : DiskCopy) (found : Result Header CopyFault)
    → and_then found (λ (header : Header). copy_in header (raw_at sector (place_of which anchor) header.geometry)) ≡ Ok copy → found ≡ Ok copy.header
behind size sector anchor which copy (Ok header) is =
    let same : copy.header ≡ header = subst (HasHeader header) is (in_header header (raw_at sector (place_of which anchor) header.geometry)) in
    rw same refl
behind size sector anchor which copy (Err fault) is = absurd cc

pub header_is : (size : ℕ) (sector : ℕ → List ℕ) (anchor : Header) (which : Which) (copy : DiskCopy) → copy_of size sector anchor which ≡ Ok copy → header_of size sector anchor which ≡ Ok copy.header
unfolding copy_of
header_is size sector anchor which copy is = behind size sector anchor which copy (header_of size sector anchor which) is

-- two copies under one anchor are of one group
pub one_group : (size : ℕ) (sector : ℕ → List ℕ) (anchor : Header) (one other : Which) (first second : DiskCopy) → copy_of size sector anchor one ≡ Ok first → copy_of size sector anchor other ≡ Ok second
    → first.header.guid ≡ second.header.guid
one_group size sector anchor one other first second is also =
    let found = found_is size sector anchor one first.header (header_is size sector anchor one first is) in
    let found_too = found_is size sector anchor other second.header (header_is size sector anchor other second also) in
    found.guid_is
    ∙ shared_guid (header_bytes anchor) (sector (place_of one anchor)) (sector (place_of other anchor)) (record { one_is = found.is_gate.is_shared; other_is = found_too.is_gate.is_shared })
    ∙ sym found_too.guid_is

-- ---- the place

module _ (size : ℕ) (sector : ℕ → List ℕ) (anchor : Header) where
  has_newest : (which : Which) (copy : DiskCopy) (newest : Newest) → copy_of size sector anchor which ≡ Ok copy → newest_of size sector anchor ≡ newest → IsNewest newest copy → HasNewest size sector anchor which
  has_newest which copy newest there is here = record { copy = copy; is_there = there; is_newest = subst (λ (found : Newest). IsNewest found copy) (sym is) here }

  newest_is : (one other : Result DiskCopy CopyFault) → copy_of size sector anchor Primary ≡ one → copy_of size sector anchor Secondary ≡ other → newest_of size sector anchor ≡ newest_in (are_level one other) one other
  unfolding newest_of
  newest_is one other is also = rw (is, also) refl

  of_level : (primary secondary : DiskCopy) → copy_of size sector anchor Primary ≡ Ok primary → copy_of size sector anchor Secondary ≡ Ok secondary
      → (level : Bool) → is_level primary secondary ≡ level → newest_of size sector anchor ≡ newest_of_both level primary secondary → (primary.header.sequence ≡ secondary.header.sequence)
      → HasNewest size sector anchor (last_of (newest_of_both level primary secondary))
  of_level primary secondary is also true level newest same =
      let found : newest_of_both true primary secondary ≡ newests.Level primary =
      rw (le-ltb primary.header.sequence secondary.header.sequence (omega (arith, same)), le-ltb secondary.header.sequence primary.header.sequence (omega (arith, same))) refl in
      subst (λ (n : Newest). HasNewest size sector anchor (last_of n)) (sym found)
      (has_newest Secondary secondary (newests.Level primary) also (newest ∙ found) (record { same_group = one_group size sector anchor Primary Secondary primary secondary is also; are_level = level }))
  of_level primary secondary is also false level newest same =
      let found : newest_of_both false primary secondary ≡ newests.TwoDiffer primary secondary =
      rw (le-ltb primary.header.sequence secondary.header.sequence (omega (arith, same)), le-ltb secondary.header.sequence primary.header.sequence (omega (arith, same))) refl in
      subst (λ (n : Newest). HasNewest size sector anchor (last_of n)) (sym found)
      (has_newest Secondary secondary (newests.TwoDiffer primary secondary) also (newest ∙ found) (inr (same_start secondary)))

  of_both : (primary secondary : DiskCopy) → copy_of size sector anchor Primary ≡ Ok primary → copy_of size sector anchor Secondary ≡ Ok secondary
      → (level : Bool) → is_level primary secondary ≡ level → newest_of size sector anchor ≡ newest_of_both level primary secondary
      → HasNewest size sector anchor (last_of (newest_of_both level primary secondary))
  of_both primary secondary is also level level_is newest = elim (cases_lt primary.header.sequence secondary.header.sequence) [
    | inl less ↦
        let found : newest_of_both level primary secondary ≡ newests.One Secondary secondary = rw (lt-ltb primary.header.sequence secondary.header.sequence less) refl in
        subst (λ (n : Newest). HasNewest size sector anchor (last_of n)) (sym found) (has_newest Secondary secondary (newests.One Secondary secondary) also (newest ∙ found) (same_start secondary))
    | inr more ↦ elim (cases_lt secondary.header.sequence primary.header.sequence) [
      | inl less ↦
          let found : newest_of_both level primary secondary ≡ newests.One Primary primary =
          rw (le-ltb primary.header.sequence secondary.header.sequence (omega arith), lt-ltb secondary.header.sequence primary.header.sequence less) refl in
          subst (λ (n : Newest). HasNewest size sector anchor (last_of n)) (sym found) (has_newest Primary primary (newests.One Primary primary) is (newest ∙ found) (same_start primary))
      | inr also_more ↦ of_level primary secondary is also level level_is newest (omega arith)
    ]
  ]

  by_copies : (one other : Result DiskCopy CopyFault) → copy_of size sector anchor Primary ≡ one → copy_of size sector anchor Secondary ≡ other
      → ((first second : CopyFault) → newest_of size sector anchor ≢ newests.Neither first second) → HasNewest size sector anchor (last_of (newest_in (are_level one other) one other))
  by_copies (Ok primary) (Ok secondary) is also some = of_both primary secondary is also (is_level primary secondary) refl (newest_is (Ok primary) (Ok secondary) is also)
  by_copies (Ok primary) (Err fault) is also some = has_newest Primary primary (newests.One Primary primary) is (newest_is (Ok primary) (Err fault) is also) (same_start primary)
  by_copies (Err fault) (Ok secondary) is also some = has_newest Secondary secondary (newests.One Secondary secondary) also (newest_is (Err fault) (Ok secondary) is also) (same_start secondary)
  by_copies (Err first) (Err second) is also some = absurd (some first second (newest_is (Err first) (Err second) is also))

pub last_is : (newest : Newest) → IsLast newest (last_of newest)
last_is newest = λ size sector anchor is some.
    let one = copy_of size sector anchor Primary in
    let other = copy_of size sector anchor Secondary in
    let found = by_copies size sector anchor one other refl refl (λ first second neither. some first second (is ∙ neither)) in
    subst (λ (n : Newest). HasNewest size sector anchor (last_of n)) (sym (is ∙ newest_is size sector anchor one other refl refl)) found
