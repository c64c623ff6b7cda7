-- What a stop in a change leaves of a disk's log.
use Rattle.std.proofs.Common.{◌≡◌, ◌⊎◌, ℕ, ◌<◌, List, Some, Ok, refl, sym, ap, ◌∙◌, inl, inr, ⊎_elim, subst, arith}
use Rattle.std.proofs.Math.Path.{fun_ext}
use Rattle.std.proofs.lemmas.Bool.{cases_lt}
use Rattle.std.specs.Prelude.{slice_get}
use Rattle.ddf_bay.specs.State.{BayState, size_of}
use Rattle.ddf_bay.specs.Sectors.{Image}
use Rattle.ddf_header.specs.declared.reading.Header.{Header}
use Rattle.ddf_copy.specs.declared.copy.DiskCopy.{DiskCopy}
use Rattle.ddf_copy.specs.declared.which.Which.{Which}
use Rattle.ddf_copy.specs.declared.which.Which.TheVariants.{Primary, Secondary}
use Rattle.ddf_copy.specs.Anchor.{anchor_at}
use Rattle.ddf_copy.specs.Copies.{copy_of}
use Rattle.ddf_copy.specs.Headers.{written_as}
use Rattle.ddf_copy.specs.Which.{other_of}
use Rattle.ddf_update.specs.declared.prepared.Mode.{Mode}
use Rattle.ddf_update.specs.declared.prepared.Mode.TheVariants.{Change}
use Rattle.ddf_update.specs.declared.prepared.Prepared.{Prepared}
use Rattle.ddf_update.specs.Changes.{IsGetting, IsLeftChangingAll, MayChangeAll, MayGet, SlotChange, anchor_after}
use Rattle.ddf_update.specs.Update.{AreBoth, AreReadPartly, IsChanging, IsReadPartly, MayChange}
use Rattle.ddf_logs.specs.Lasting.{CarriesLogOf, CarryLogOf}
use Rattle.ddf_logs.specs.Logs.{exchange_at}
use Rattle.ddf_logs.proofs.Carried.{logs_own, same_exchange}

pub written_carries : (new : DiskCopy) (which : Which) → CarriesLogOf new (written_as new which)
written_carries new which = record { logs = logs_own new.bad; sections = refl; sectors = refl }

pub place_is : (last which : Which) → (which ≡ last) ⊎ (which ≡ other_of last)
place_is Primary Primary = inl refl
place_is Primary Secondary = inr refl
place_is Secondary Primary = inr refl
place_is Secondary Secondary = inl refl

module _ (size : ℕ) (before now : ℕ → List ℕ) (anchor : Header) (new : DiskCopy) (carry : CarryLogOf size before anchor new) where
  as_before : (which : Which) (copy : DiskCopy) → copy_of size now anchor which ≡ copy_of size before anchor which → copy_of size now anchor which ≡ Ok copy → CarriesLogOf new copy
  as_before which copy same is = carry.each which copy (sym same ∙ is)

  as_new : (which : Which) (copy : DiskCopy) → copy_of size now anchor which ≡ Ok (written_as new which) → copy_of size now anchor which ≡ Ok copy → CarriesLogOf new copy
  as_new which copy written is =
      let same : written_as new which ≡ copy = let both = sym written ∙ is in cc in
      subst (CarriesLogOf new) same (written_carries new which)

  partly : (which : Which) (copy : DiskCopy) → IsReadPartly size before now anchor which new → copy_of size now anchor which ≡ Ok copy → CarriesLogOf new copy
  partly which copy (inl same) is = as_before which copy same is
  partly which copy (inr (inl opened)) is = let both = sym opened ∙ is in absurd cc
  partly which copy (inr (inr written)) is = as_new which copy written is

  each_by : (last : Which) → AreReadPartly size before now anchor last new → (which : Which) (copy : DiskCopy) → copy_of size now anchor which ≡ Ok copy → CarriesLogOf new copy
  each_by last (inl first) which copy is = ⊎_elim
      (λ here. as_before which copy (subst (λ (place : Which). copy_of size now anchor place ≡ copy_of size before anchor place) (sym here) first.1) is)
      (λ there. partly which copy (subst (λ (place : Which). IsReadPartly size before now anchor place new) (sym there) first.0) is)
      (place_is last which)
  each_by last (inr second) which copy is = ⊎_elim
      (λ here. partly which copy (subst (λ (place : Which). IsReadPartly size before now anchor place new) (sym here) second.1) is)
      (λ there. as_new which copy (subst (λ (place : Which). copy_of size now anchor place ≡ Ok (written_as new place)) (sym there) second.0) is)
      (place_is last which)

  carry_by : (last : Which) (old : DiskCopy) → copy_of size before anchor last ≡ Ok old → anchor_at size now ≡ Ok anchor → AreReadPartly size before now anchor last new → CarryLogOf size now anchor new
  carry_by last old was anchored (inl first) =
      record { is_anchored = anchored; place = last; whole = old; is_there = first.1 ∙ was; each = each_by last (inl first) }
  carry_by last old was anchored (inr second) =
      record { is_anchored = anchored; place = other_of last; whole = written_as new (other_of last); is_there = second.0; each = each_by last (inr second) }

  -- a stop in a change
  pub carry_stopped : (update : Prepared) (last : Which) (old : DiskCopy) → copy_of size before anchor last ≡ Ok old → IsChanging size before now update anchor last old new → CarryLogOf size now anchor new
  carry_stopped update last old was changing = carry_by last old was changing.is_anchored changing.copies

  both_new : AreBoth size now anchor new → (which : Which) → copy_of size now anchor which ≡ Ok (written_as new which)
  both_new both Primary = both.primary_is
  both_new both Secondary = both.secondary_is

  -- behind it
  pub carry_changed : AreBoth size now anchor new → CarryLogOf size now anchor new
  carry_changed both = record {
    is_anchored = both.is_anchored;
    place = Primary;
    whole = written_as new Primary;
    is_there = both.primary_is;
    each = λ which copy is. as_new which copy (both_new both which) is;
  }

-- ---- all slots of a change

module _ {D : Type 0} (disks : BayState D) (slots : List ℕ) (seat : ℕ → SlotChange) (updates : List Prepared) (image : Image)
    (may : MayChangeAll disks slots seat updates) (left : IsLeftChangingAll disks slots seat updates image)
    (place slot : ℕ) (update : Prepared) (here : slice_get slots place ≡ Some slot) (its : slice_get updates place ≡ Some update)
    (mode : (seat place).mode ≡ Change) (carry : CarryLogOf (size_of disks slot) (disks.held slot) (seat place).anchor (seat place).new) where
  may_change : MayChange disks slot (seat place).anchor (seat place).last (seat place).old (seat place).new
  may_change = subst (λ (way : Mode). MayGet way disks slot (seat place)) mode (may.may_change place slot here)

  getting : (turn : ℕ) → turn ≡ place → IsGetting (seat turn).mode (size_of disks slot) (disks.held slot) (image slot) update (seat turn)
      → IsChanging (size_of disks slot) (disks.held slot) (image slot) update (seat place).anchor (seat place).last (seat place).old (seat place).new
  getting turn same is =
      subst (λ (way : Mode). IsGetting way (size_of disks slot) (disks.held slot) (image slot) update (seat place)) mode
      (subst (λ (n : ℕ). IsGetting (seat n).mode (size_of disks slot) (disks.held slot) (image slot) update (seat n)) same is)

  changed_anchor : anchor_after (seat place) ≡ (seat place).anchor
  changed_anchor = rw mode refl

  by_turn : (left.turn < place) ⊎ (place < left.turn) ⊎ (left.turn ≡ place) → exchange_at (size_of disks slot) (image slot) ≡ exchange_at (size_of disks slot) (disks.held slot)
  by_turn (inl later) = ap (exchange_at (size_of disks slot)) (fun_ext (λ l. left.later place slot l later here))
  by_turn (inr (inl earlier)) =
      let changed = left.earlier place slot update earlier here its in
      let both = subst (λ (anchor : Header). AreBoth (size_of disks slot) (image slot) anchor (seat place).new) changed_anchor changed.are_both in
      same_exchange (size_of disks slot) (image slot) (disks.held slot) (seat place).anchor (seat place).new
      (carry_changed (size_of disks slot) (disks.held slot) (image slot) (seat place).anchor (seat place).new carry both) carry
  by_turn (inr (inr same)) =
      let now = getting left.turn same (left.here slot update (ap (slice_get slots) same ∙ here) (ap (slice_get updates) same ∙ its)) in
      same_exchange (size_of disks slot) (image slot) (disks.held slot) (seat place).anchor (seat place).new
      (carry_stopped (size_of disks slot) (disks.held slot) (image slot) (seat place).anchor (seat place).new carry update (seat place).last (seat place).old (may_change).last_is now) carry

  turns : (left.turn < place) ⊎ (place < left.turn) ⊎ (left.turn ≡ place)
  turns = ⊎_elim (λ later. inl later) (λ no. ⊎_elim (λ earlier. inr (inl earlier)) (λ also. inr (inr (omega (arith, no, also)))) (cases_lt place left.turn)) (cases_lt left.turn place)

  pub exchange_left : exchange_at (size_of disks slot) (image slot) ≡ exchange_at (size_of disks slot) (disks.held slot)
  exchange_left = by_turn turns
