-- What records that a change or a recovery is written over have.
use Rattle.std.proofs.Common.{◌≡◌, ◌∙◌, ℕ, ◌+◌, ◌<◌, false, List, length, get_or, Some, ap, sym, refl, subst, inl, inr, arith}
use Rattle.std.proofs.lemmas.Bool.{cases_order, ltb-false}
use Rattle.std.proofs.lemmas.Option.{slice_get_read}
use Rattle.std.specs.Prelude.{slice_get}
use Rattle.ddf_header.specs.declared.geometry.Geometry.{Geometry}
use Rattle.ddf_header.specs.Geometry.{IsSound}
use Rattle.ddf_header.proofs.Sound.{sound}
use Rattle.ddf_config_records.specs.declared.spare.SpareRecord.{SpareRecord}
use Rattle.ddf_config_records.specs.Elements.{CanBeElement}
use Rattle.ddf_config_records.specs.Building.{spare_entries}
use Rattle.ddf_config_records.specs.Spares.{CanBeSpare}
use Rattle.ddf_config_records.proofs.SpareRecords.{count_fits}
use Rattle.ddf_config.specs.Configuration.{Configuration}
use Rattle.ddf_copy.specs.declared.copy.DiskCopy.{DiskCopy}
use Rattle.ddf_copy.specs.Written.{CanBeCopy}
use Rattle.ddf_copy.proofs.Levels.{room_of}
use Rattle.ddf_view.specs.View.{HeldRecord, find_held, first_spare, is_element, notes_of, view_of}
use Rattle.ddf_view.proofs.Finds.{find_has}
use Rattle.ddf_rewrite.specs.Before.{Before, leading_record}
use Rattle.ddf_rewrite.specs.Hold.{AreHeld, IsHoldable}
use Rattle.ddf_rewrite.specs.Wanted.{Wanted, all_wanted}
use Rattle.ddf_rewrite.proofs.ElementsCan.{IsGiven, given}
use Rattle.ddf_rewrite.specs.Room.{CanHoldSpare, lacks_entries}
use Rattle.ddf_rewrite.specs.Spares.{arrays_of_spare, spare_use}
use Rattle.ddf_rewrite.proofs.Listed.{leading_held}
use Rattle.ddf_rewrite.proofs.Lists.{some_same}
use Rattle.ddf_rewrite.proofs.SlotsCan.{elements_can, first_spare_can}
use Rattle.ddf_rewrite.proofs.SparesCan.{CanBeOwn}

pub is_sound : (old : DiskCopy) → CanBeCopy old → IsSound old.header.geometry
is_sound old is = sound old.header.geometry is.header_can.is_header.has_geometry

-- a disk's own record
pub own_can : (old : DiskCopy) (array : List ℕ) (index : ℕ) (held : HeldRecord) → CanBeCopy old → find_held array index (view_of old).elements ≡ Some held → CanBeElement old.header.geometry held.element
unfolding view_of
own_can old array index held is at =
    find_has (λ one. CanBeElement old.header.geometry one.element) (is_element array index) (view_of old).elements held
    (elements_can old.header.geometry old.header.guid old.header.sequence (notes_of old) old.slots is.slots_can) at

-- a leader's record
pub leader_can : (geometry : Geometry) (leaders : Before) (array : List ℕ) (index : ℕ) (held : HeldRecord) → AreHeld geometry leaders → leading_record leaders array index ≡ Some held → CanBeElement geometry held.element
leader_can geometry leaders array index held are at =
    find_has (λ one. CanBeElement geometry one.element) (is_element array index) leaders.elements held are (leading_held leaders array index held at)

-- an element of a configuration that can be held
pub wanted_given : (most : ℕ) (config : Configuration) (all : List Wanted) (i : ℕ) (wanted : Wanted) → all ≡ all_wanted config → IsHoldable most config → i < length all → wanted ≡ get_or all i wanted
    → IsGiven most config wanted
wanted_given most config all i wanted are can below is =
    let at : slice_get (all_wanted config) i ≡ Some wanted = sym (ap (λ (l : List Wanted). slice_get l i) are) ∙ slice_get_read all (length all) i wanted refl below is in
    given most config can.can_hold can.readable i wanted at

-- what holds of each item before a place, and of the one that stands there
pub each_more : {X : Type 0} (P : X → Type 0) (all : List X) (i : ℕ) (x : X) → i < length all → x ≡ get_or all i x → ((n : ℕ) (one : X) → n < i → slice_get all n ≡ Some one → P one) → P x
    → (n : ℕ) (one : X) → n < i + 1 → slice_get all n ≡ Some one → P one
each_more P all i x below is before here n one lt at =
    elim (cases_order n i) [
      | inl same ↦
          let there : slice_get all i ≡ Some x = slice_get_read all (length all) i x refl below is in
          subst P (some_same there (sym (ap (slice_get all) same) ∙ at)) here
      | inr other ↦ elim other [
        | inl less ↦ before n one less at
        | inr more ↦ absurd (omega (arith, lt, more))
      ]
    ]

-- ---- a disk whose spare record has room

pub can_hold_spare : (old : DiskCopy) (config : Configuration) → CanBeCopy old → lacks_entries old config ≡ false → CanHoldSpare old config
can_hold_spare old config is fit = record {
  sound = is_sound old is;
  size = λ spare at. (own spare at).size;
  before = λ spare at.
      let whole = (room_of old is).whole in
      let size = (own spare at).size in
      let counted = (own spare at).counted in
      let fits = count_fits spare.rest (omega (arith, whole, size)) in
      omega (arith, size, counted, fits);
  entries = ltb-false (spare_entries old.header.geometry) (length (arrays_of_spare (spare_use config old.disk_data.reference))) fit;
}
  where
    own : (spare : SpareRecord) → first_spare old.slots ≡ Some spare → CanBeSpare old.header.geometry spare
    own spare at = subst (CanBeOwn old.header.geometry) at (first_spare_can old.header.geometry old.header.guid old.header.sequence old.slots is.slots_can)
