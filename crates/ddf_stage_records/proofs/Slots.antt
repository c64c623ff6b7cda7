-- What a stop leaves of slots that get new copies changes nothing of their desks.
use Rattle.std.proofs.Common.{◌≡◌, ◌∙◌, ◌⊎◌, inl, inr, ⊎_elim, ℕ, ◌+◌, ◌<◌, ◌≤◌, List, Some, refl, sym, ap, arith, length, slice_get}
use Rattle.std.proofs.lemmas.Bool.{cases_lt}
use Rattle.std.proofs.lemmas.Option.{slice_get_within}
use Rattle.ddf_lemmas.proofs.Lists.{some_at_place}
use Rattle.ddf_bay.specs.Sectors.{Image}
use Rattle.ddf_bay.specs.State.{BayState, size_of}
use Rattle.ddf_copy.specs.Written.{CanBeCopy}
use Rattle.ddf_update.specs.declared.prepared.Mode.{Mode}
use Rattle.ddf_update.specs.declared.prepared.Mode.TheVariants.{Adopt, Change, Found, Move}
use Rattle.ddf_update.specs.declared.prepared.Prepared.{Prepared}
use Rattle.ddf_update.specs.Changes.{IsGetting, IsLeftChangingAll, MayChangeAll, MayGet, SlotChange}
use Rattle.ddf_update.specs.Prepared.{writes_anchor}
use Rattle.ddf_update.specs.Update.{IsWritten}
use Rattle.ddf_stage_records.specs.Desk.{gate_of}
use Rattle.ddf_stage_records.proofs.Aside.{written_aside}

module _ {D : Type 0} (start : BayState D) (slots : List ℕ) (seat : ℕ → SlotChange) (updates : List Prepared) (image : Image) (left : IsLeftChangingAll start slots seat updates image)
    (may : MayChangeAll start slots seat updates) (counted : length updates ≡ length slots) where
  -- the new copy can be written
  can_by : (mode : Mode) (slot : ℕ) (one : SlotChange) → MayGet mode start slot one → CanBeCopy one.new
  can_by Change slot one may = may.is_under.is_copy
  can_by Found slot one may = absurd may
  can_by Adopt slot one may = may.1.is_under.is_copy
  can_by Move slot one may = may.1.is_under.is_copy

  getting : (mode : Mode) (size : ℕ) (before now : ℕ → List ℕ) (update : Prepared) (one : SlotChange) → mode ≡ one.mode → update.mode ≡ one.mode → IsGetting mode size before now update one → (l : ℕ)
      → (now l ≡ before l) ⊎ IsWritten size update l
  getting Change size before now update one same is gets l = ⊎_elim inl (λ either. inr (inl either)) (gets.outside l)
  getting Found size before now update one same is gets l = absurd gets
  getting Adopt size before now update one same is gets l =
      ⊎_elim inl (⊎_elim (λ either. inr (inl either)) (λ anchor. inr (inr (ap writes_anchor (is ∙ sym same), anchor)))) (gets.outside l)
  getting Move size before now update one same is gets l =
      ⊎_elim inl (⊎_elim (λ either. inr (inl either)) (λ anchor. inr (inr (ap writes_anchor (is ∙ sym same), anchor)))) (gets.outside l)

  by_turn : (place slot l : ℕ) (update : Prepared) → slice_get slots place ≡ Some slot → slice_get updates place ≡ Some update → (image slot l ≡ start.held slot l) ⊎ IsWritten (size_of start slot) update l
  by_turn place slot l update at there =
      ⊎_elim (λ (earlier : place < left.turn). (left.earlier place slot update earlier at there).outside l)
      (λ (other : left.turn ≤ place). ⊎_elim (λ (later : left.turn < place). inl (left.later place slot l later at))
      (λ (most : place ≤ left.turn).
      let here : place ≡ left.turn = omega (arith, other, most) in
      let at' : slice_get slots left.turn ≡ Some slot = ap (slice_get slots) (sym here) ∙ at in
      let there' : slice_get updates left.turn ≡ Some update = ap (slice_get updates) (sym here) ∙ there in
      getting (seat left.turn).mode (size_of start slot) (start.held slot) (image slot) update (seat left.turn) refl (may.are_prepared left.turn update there').mode_is (left.here slot update at' there') l)
      (cases_lt left.turn place))
      (cases_lt place left.turn)

  pub desk_stays : (place slot lba l : ℕ) → slice_get slots place ≡ Some slot → gate_of (size_of start slot) (seat place).new ≡ Some lba → lba ≤ l → l < lba + 18 → image slot l ≡ start.held slot l
  desk_stays place slot lba l at desk from below =
      let update = some_at_place updates place (omega (arith, slice_get_within slots place slot at, counted)) in
      let can = can_by (seat place).mode slot (seat place) (may.may_change place slot at) in
      ⊎_elim (λ same. same)
      (λ written. absurd (⊎_elim (λ low. omega (arith, low, from)) (λ high. omega (arith, high, below))
      (written_aside (seat place).new (seat place).last (seat place).mode update.0 (size_of start slot) lba l can (may.are_prepared place update.0 update.1) desk written)))
      (by_turn place slot l update.0 at update.1)
