-- What a stop leaves of slots that get new copies changes nothing below their floors.
use Rattle.std.proofs.Common.{◌≡◌, ◌∙◌, ◌⊎◌, inl, inr, ⊎_elim, ℕ, ◌<◌, ◌≤◌, ◌^◌, Bool, true, false, List, Some, refl, sym, ap, arith, slice_get}
use Rattle.std.specs.Prelude.{if◌then◌else◌}
use Rattle.std.proofs.lemmas.Bool.{cases_lt}
use Rattle.std.proofs.lemmas.Option.{slice_get_within}
use Rattle.ddf_lemmas.proofs.Lists.{some_at_place}
use Rattle.ddf_bay.specs.Sectors.{Image, IsLeft}
use Rattle.ddf_bay.specs.State.{BayState, size_of}
use Rattle.ddf_update.specs.declared.prepared.Mode.{Mode}
use Rattle.ddf_update.specs.declared.prepared.Mode.TheVariants.{Adopt, Change, Found, Move}
use Rattle.ddf_update.specs.declared.prepared.Prepared.{Prepared}
use Rattle.ddf_update.specs.Changes.{IsGetting, IsLeftChangingAll, MayChangeAll, SlotChange}
use Rattle.ddf_update.specs.Prepared.{writes_anchor}
use Rattle.ddf_update.specs.Update.{IsWritten}
use Rattle.ddf_array.specs.Sound.{AreSectors}
use Rattle.ddf_steps.specs.Committed.{synced}
use Rattle.ddf_steps.proofs.Common.{written_past}
use Rattle.ddf_history.specs.Groups.{groups}
use Rattle.ddf_history.specs.Issued.{Past}
use Rattle.ddf_history_steps.specs.Kept.{is_slot, unwritten}
use Rattle.ddf_history_steps.proofs.Slots.{not_placed, slot_placed}
use Rattle.ddf_data_group.specs.Grouped.{Promises}
use Rattle.ddf_data_history.specs.Carried.{IsAllData}
use Rattle.ddf_data_history.specs.Promised.{KeepsData, SameBelow}
use Rattle.ddf_data_history.proofs.Steps.{below_floors}
use Rattle.ddf_data_disks.specs.Writing.{LieAtFloors}

-- ---- what a stop leaves of several slots

module _ {D : Type 0} (start : BayState D) (slots : List ℕ) (seat : ℕ → SlotChange) (updates : List Prepared) (image : Image) (left : IsLeftChangingAll start slots seat updates image) where
  -- a slot that isn't written is as it might be left, and the others as they are held
  pub before_left : IsLeft start.may_hold start.held → IsLeft start.may_hold (unwritten start slots image)
  before_left held s l = by (is_slot slots s) refl
    where
      by : (b : Bool) → is_slot slots s ≡ b → start.may_hold s l (if b then start.held s l else image s l)
      by true is = held s l
      by false is = left.others s l (not_placed slots s is)

  module _ (floor : ℕ → ℕ) (may : MayChangeAll start slots seat updates) (lie : LieAtFloors start floor slots seat updates) where
    -- what an update writes lies at or past the floor
    past_floor : (place slot l : ℕ) (update : Prepared) → slice_get slots place ≡ Some slot → slice_get updates place ≡ Some update → IsWritten (size_of start slot) update l → floor slot ≤ l
    past_floor place slot l update at there written =
        ⊎_elim (λ past. let low = lie.at_floor place slot at in omega (arith, past, low))
        (λ anchor. let low = lie.below_anchor place slot at in omega (arith, anchor.1, low))
        (written_past (seat place).new (seat place).last (seat place).mode update (size_of start slot) l (may.are_prepared place update there) written)

    getting : (mode : Mode) (size : ℕ) (before now : ℕ → List ℕ) (update : Prepared) (one : SlotChange) → mode ≡ one.mode → update.mode ≡ one.mode → IsGetting mode size before now update one → (l : ℕ)
        → (now l ≡ before l) ⊎ IsWritten size update l
    getting Change size before now update one same is gets l = ⊎_elim inl (λ either. inr (inl either)) (gets.outside l)
    getting Found size before now update one same is gets l = absurd gets
    getting Adopt size before now update one same is gets l =
        ⊎_elim inl (⊎_elim (λ either. inr (inl either)) (λ anchor. inr (inr (ap writes_anchor (is ∙ sym same), anchor)))) (gets.outside l)
    getting Move size before now update one same is gets l =
        ⊎_elim inl (⊎_elim (λ either. inr (inl either)) (λ anchor. inr (inr (ap writes_anchor (is ∙ sym same), anchor)))) (gets.outside l)

    by_turn : (place slot l : ℕ) (update : Prepared) → slice_get slots place ≡ Some slot → slice_get updates place ≡ Some update → (image slot l ≡ start.held slot l) ⊎ IsWritten (size_of start slot) update l
    by_turn place slot l update at there =
        ⊎_elim (λ (earlier : place < left.turn). (left.earlier place slot update earlier at there).outside l)
        (λ (other : left.turn ≤ place). ⊎_elim (λ (later : left.turn < place). inl (left.later place slot l later at))
        (λ (most : place ≤ left.turn).
        let here : place ≡ left.turn = omega (arith, other, most) in
        let at' : slice_get slots left.turn ≡ Some slot = ap (slice_get slots) (sym here) ∙ at in
        let there' : slice_get updates left.turn ≡ Some update = ap (slice_get updates) (sym here) ∙ there in
        getting (seat left.turn).mode (size_of start slot) (start.held slot) (image slot) update (seat left.turn) refl (may.are_prepared left.turn update there').mode_is (left.here slot update at' there') l)
        (cases_lt left.turn place))
        (cases_lt place left.turn)

    pub same_below : SameBelow floor (unwritten start slots image) image
    same_below s l below = by (is_slot slots s) refl
      where
        by : (b : Bool) → is_slot slots s ≡ b → image s l ≡ (if b then start.held s l else image s l)
        by false is = refl
        by true is =
            let placed = slot_placed slots s is in
            let update = some_at_place updates placed.0 (omega (arith, slice_get_within slots placed.0 s placed.1, lie.counted)) in
            ⊎_elim (λ same. same) (λ written. absurd (omega (arith, below, past_floor placed.0 s l update.0 placed.1 update.1 written))) (by_turn placed.0 s l update.0 placed.1 update.1)

-- ---- the data are kept

module _ (group : List ℕ) (past : Past (groups group)) (floor : ℕ → ℕ) (small : (slot : ℕ) → floor slot < 2 ^ 64) (promises : Promises) where
  pub step_keeps : {D : Type 0} (start : BayState D) (slots : List ℕ) (seat : ℕ → SlotChange) (updates : List Prepared) (image : Image) → IsLeft start.may_hold start.held
      → MayChangeAll start slots seat updates → LieAtFloors start floor slots seat updates → IsAllData group past floor start promises → AreSectors image
      → IsLeftChangingAll start slots seat updates image → KeepsData group past floor image promises
  step_keeps start slots seat updates image held may lie all are left =
      let before = unwritten start slots image in
      below_floors group floor small past before promises (all before (before_left start slots seat updates image left held)) image are
      (same_below start slots seat updates image left floor may lie)

  -- a recovery writes behind the syncs of the seats' slots
  pub recovery_keeps : {D : Type 0} (start : BayState D) (seats slots : List ℕ) (seat : ℕ → SlotChange) (updates : List Prepared) (image : Image) → IsLeft start.may_hold start.held
      → MayChangeAll (synced start seats) slots seat updates → LieAtFloors (synced start seats) floor slots seat updates → IsAllData group past floor start promises → AreSectors image
      → IsLeftChangingAll (synced start seats) slots seat updates image → KeepsData group past floor image promises
  recovery_keeps start seats slots seat updates image held may lie all are left =
      step_keeps (synced start seats) slots seat updates image (λ s l. (held s l, λ place at. refl)) may lie (λ one is. all one (λ s l. (is s l).0)) are left
