-- What a stop leaves of slots that get new copies one after another, and what they show once they have them.
use Rattle.std.proofs.Common.{◌≡◌, ◌⊎◌, ℕ, ◌<◌, Bool, true, false, List, length, Some, if◌then◌else◌, ap, sym, ◌∙◌, inl, inr, ⊎_elim, arith, subst}
use Rattle.std.proofs.lemmas.Bool.{cases_lt, lt-ltb}
use Rattle.std.proofs.Math.Path.{fun_ext}
use Rattle.std.specs.Prelude.{nat_lt, slice_get, slice_index}
use Rattle.ddf_lemmas.proofs.Lists.{some_at_place}
use Rattle.ddf_bay.specs.Sectors.{Image, IsLeft}
use Rattle.ddf_bay.specs.State.{BayState, size_of}
use Rattle.ddf_update.specs.declared.prepared.Prepared.{Prepared}
use Rattle.ddf_update.specs.declared.prepared.Mode.{Mode}
use Rattle.ddf_update.specs.declared.prepared.Mode.TheVariants as modes
use Rattle.ddf_update.specs.Changes.{AreChanged, IsGetting, IsLeftChangingAll, MayChangeAll, MayGet, SlotChange, anchor_after}
use Rattle.ddf_update.specs.Prepared.{IsPrepared, writes_anchor}
use Rattle.ddf_update.specs.Group.{AreSlots}
use Rattle.ddf_update.specs.Update.{IsWritten}
use Rattle.ddf_view.specs.View.{View, view_of}
use Rattle.ddf_view.proofs.Finds.{place_within}
use Rattle.ddf_history.specs.Reading.{Scene}
use Rattle.ddf_history.specs.Reading.Shown.{Nothing, One}
use Rattle.ddf_history.specs.Scenes.{scene_of}
use Rattle.ddf_history.specs.Steps.{AreWritten}
use Rattle.ddf_history.proofs.Since.{which}
use Rattle.ddf_history_steps.specs.Kept.{SaysOne, is_slot, unwritten}
use Rattle.ddf_history_steps.proofs.ShownCopies.{IsWrittenAs, adopting_shows, both_say, both_show, changing_shows, moving_shows, shows_at}
use Rattle.ddf_history_steps.proofs.Slots.{not_placed, slot_is, slot_placed}

-- ---- one slot

-- What one of the slots shows.
pub scene_at : (sizes : List ℕ) (image : Image) (slot : ℕ) → slot < length sizes → scene_of sizes image slot ≡ shows_at (slice_index sizes slot) (image slot)
scene_at sizes image slot below = ap (λ (b : Bool). if b then shows_at (slice_index sizes slot) (image slot) else Nothing) (lt-ltb slot (length sizes) below)

-- A slot shows the same by the same sectors.
pub same_scene : (sizes : List ℕ) (one other : Image) (slot : ℕ) → one slot ≡ other slot → scene_of sizes one slot ≡ scene_of sizes other slot
same_scene sizes one other slot same = ap (λ (sector : ℕ → List ℕ). if nat_lt slot (length sizes) then shows_at (slice_index sizes slot) sector else Nothing) same

module _ {D : Type 0} (start : BayState D) (slots : List ℕ) (image : Image) (slot : ℕ) where
  -- A slot that is about to be written has what it holds.
  pub unwritten_here : is_slot slots slot ≡ true → unwritten start slots image slot ≡ start.held slot
  unwritten_here is = fun_ext (λ l. ap (λ (b : Bool). if b then start.held slot l else image slot l) is)

  -- Any other slot has what is left of it.
  pub unwritten_else : is_slot slots slot ≡ false → unwritten start slots image slot ≡ image slot
  unwritten_else is = fun_ext (λ l. ap (λ (b : Bool). if b then start.held slot l else image slot l) is)

-- An image is left of slots where each of them by itself is.
left_unwritten : {D : Type 0} (start : BayState D) (slots : List ℕ) (image : Image)
    → ((s l : ℕ) → is_slot slots s ≡ true → start.may_hold s l (start.held s l)) → ((s l : ℕ) → is_slot slots s ≡ false → start.may_hold s l (image s l))
    → IsLeft start.may_hold (unwritten start slots image)
left_unwritten start slots image held others s l = elim (which (is_slot slots s)) [
  | inl here ↦ subst (λ (sector : ℕ → List ℕ). start.may_hold s l (sector l)) (sym (unwritten_here start slots image s here)) (held s l here)
  | inr none ↦ subst (λ (sector : ℕ → List ℕ). start.may_hold s l (sector l)) (sym (unwritten_else start slots image s none)) (others s l none)
]

-- What a slot shows that gets a new copy, of its own group or of another one.
getting_shows : {D : Type 0} (start : BayState D) (slot : ℕ) (now : ℕ → List ℕ) (update : Prepared) (seat : SlotChange) → SaysOne (size_of start slot) (start.held slot) → (mode : Mode)
    → MayGet mode start slot seat → IsGetting mode (size_of start slot) (start.held slot) now update seat
    → IsWrittenAs (shows_at (size_of start slot) (start.held slot)) (shows_at (size_of start slot) now) (view_of seat.new)
getting_shows start slot now update seat says modes.Change can is =
    changing_shows (size_of start slot) (start.held slot) now seat.anchor seat.last seat.old seat.new says can.is_anchored can.last_is can.is_newest can.is_newer is.is_anchored is.copies
getting_shows start slot now update seat says modes.Found can is = absurd can
getting_shows start slot now update seat says modes.Adopt can is =
    adopting_shows (size_of start slot) (start.held slot) now seat.anchor seat.last seat.old seat.new says can.1.is_anchored can.1.last_is can.1.is_newest is.newest
getting_shows start slot now update seat says modes.Move can is = moving_shows (size_of start slot) (start.held slot) now update seat.new is

-- Outside what is written it is as it was.
getting_outside : (mode : Mode) (size : ℕ) (before now : ℕ → List ℕ) (update : Prepared) (seat : SlotChange) → IsPrepared seat.new seat.last mode update → IsGetting mode size before now update seat
    → (l : ℕ) → (now l ≡ before l) ⊎ IsWritten size update l
getting_outside modes.Change size before now update seat is getting l = ⊎_elim inl (λ there. inr (inl there)) (getting.outside l)
getting_outside modes.Found size before now update seat is getting l = absurd getting
getting_outside modes.Adopt size before now update seat is getting l =
    ⊎_elim inl (λ there. inr (⊎_elim inl (λ at. inr (ap writes_anchor is.mode_is, at)) there)) (getting.outside l)
getting_outside modes.Move size before now update seat is getting l =
    ⊎_elim inl (λ there. inr (⊎_elim inl (λ at. inr (ap writes_anchor is.mode_is, at)) there)) (getting.outside l)

-- ---- a stop

-- Slots get their new copies one after another: where one shows its new copy, and didn't before, so does each earlier one.
abbrev pub AreInTurn : (slots : List ℕ) → (new : ℕ → View) → (before after : Scene View) → Type 0
AreInTurn slots new before after = (p q s t : ℕ) → slice_get slots p ≡ Some s → slice_get slots q ≡ Some t → q < p → after s ≡ One (new s) → (before s ≡ One (new s) → ⊥) → after t ≡ One (new t)

-- While slots get new copies a stop leaves an image that is left with what they held.
pub unwritten_left : {D : Type 0} (start : BayState D) (slots : List ℕ) (seat : ℕ → SlotChange) (updates : List Prepared) (image : Image)
    → ((s l : ℕ) → is_slot slots s ≡ true → start.may_hold s l (start.held s l)) → IsLeftChangingAll start slots seat updates image
    → IsLeft start.may_hold (unwritten start slots image)
unwritten_left start slots seat updates image held left = left_unwritten start slots image held (λ s l none. left.others s l (not_placed slots s none))

module _ {D : Type 0} (start : BayState D) (slots : List ℕ) (seat : ℕ → SlotChange) (updates : List Prepared) (image : Image)
    (are : AreSlots start.sizes slots) (counted : length updates ≡ length slots) (may : MayChangeAll start slots seat updates)
    (says : (place slot : ℕ) → slice_get slots place ≡ Some slot → SaysOne (size_of start slot) (start.held slot))
    (left : IsLeftChangingAll start slots seat updates image) where
  -- what is left of a slot
  abbrev IsLeftAs : (slot : ℕ) → View → Type 0
  IsLeftAs slot view = IsWrittenAs (scene_of start.sizes (unwritten start slots image) slot) (scene_of start.sizes image slot) view

  -- by what it shows and showed
  left_as : (place slot : ℕ) (view : View) → slice_get slots place ≡ Some slot → IsWrittenAs (shows_at (size_of start slot) (start.held slot)) (shows_at (size_of start slot) (image slot)) view
      → IsLeftAs slot view
  left_as place slot view at is =
      let below = are.there place slot at in
      let was = same_scene start.sizes (unwritten start slots image) start.held slot (unwritten_here start slots image slot (slot_is slots place slot at)) ∙ scene_at start.sizes start.held slot below in
      let now = scene_at start.sizes image slot below in
      rw (was, now) is

  -- A slot whose turn is over shows its new copy.
  earlier_shows : (place slot : ℕ) (update : Prepared) → place < left.turn → slice_get slots place ≡ Some slot → slice_get updates place ≡ Some update
      → IsLeftAs slot (view_of (seat place).new)
  earlier_shows place slot update lt at there =
      let is = left.earlier place slot update lt at there in
      left_as place slot (view_of (seat place).new) at (inr (inr (both_show (size_of start slot) (image slot) (anchor_after (seat place)) (seat place).new is.are_both)))

  -- One whose turn has not come shows what it showed.
  later_shows : (place slot : ℕ) → left.turn < place → slice_get slots place ≡ Some slot → IsLeftAs slot (view_of (seat place).new)
  later_shows place slot lt at =
      let same : image slot ≡ start.held slot = fun_ext (λ l. left.later place slot l lt at) in
      left_as place slot (view_of (seat place).new) at (inl (ap (shows_at (size_of start slot)) same))

  -- One whose turn it is shows what it showed, of two copies perhaps one alone, or its new copy.
  here_shows : (place slot : ℕ) (update : Prepared) → place ≡ left.turn → slice_get slots place ≡ Some slot → slice_get updates place ≡ Some update
      → IsLeftAs slot (view_of (seat place).new)
  here_shows place slot update turn at there =
      let is = left.here slot update (ap (slice_get slots) (sym turn) ∙ at) (ap (slice_get updates) (sym turn) ∙ there) in
      let can = may.may_change place slot at in
      let says_one = says place slot at in
      let turned = subst (λ (n : ℕ). IsGetting (seat n).mode (size_of start slot) (start.held slot) (image slot) update (seat n)) (sym turn) is in
      left_as place slot (view_of (seat place).new) at (getting_shows start slot (image slot) update (seat place) says_one (seat place).mode can turned)

  -- So does each of the slots.
  pub each_shows : (place slot : ℕ) → slice_get slots place ≡ Some slot → IsLeftAs slot (view_of (seat place).new)
  each_shows place slot at =
      let within = place_within slots place slot at in
      let update = some_at_place updates place (omega arith) in
      elim (cases_lt place left.turn) [
        | inl earlier ↦ earlier_shows place slot update.0 earlier at update.1
        | inr more ↦ elim (cases_lt left.turn place) [
          | inl later ↦ later_shows place slot later at
          | inr also ↦ here_shows place slot update.0 (omega arith) at update.1
        ]
      ]

  -- Every other slot shows what is left of it.
  pub other_shows : (slot : ℕ) → is_slot slots slot ≡ false → scene_of start.sizes image slot ≡ scene_of start.sizes (unwritten start slots image) slot
  other_shows slot none = same_scene start.sizes image (unwritten start slots image) slot (sym (unwritten_else start slots image slot none))

  -- Outside the places of the new copies a slot is as it was.
  pub each_outside : (place slot : ℕ) (update : Prepared) → slice_get slots place ≡ Some slot → slice_get updates place ≡ Some update
      → (l : ℕ) → (image slot l ≡ start.held slot l) ⊎ IsWritten (size_of start slot) update l
  each_outside place slot update at there l = elim (cases_lt place left.turn) [
    | inl earlier ↦ (left.earlier place slot update earlier at there).outside l
    | inr more ↦ elim (cases_lt left.turn place) [
      | inl later ↦ inl (left.later place slot l later at)
      | inr also ↦
          let turn : left.turn ≡ place = omega arith in
          getting_outside (seat left.turn).mode (size_of start slot) (start.held slot) (image slot) update (seat left.turn)
          (may.are_prepared left.turn update (ap (slice_get updates) turn ∙ there)) (left.here slot update (ap (slice_get slots) turn ∙ at) (ap (slice_get updates) turn ∙ there)) l
    ]
  ]

  -- Of all slots, those that get new copies are left as written, and the others are as they are left.
  pub stop_writes : (new : ℕ → View) → ((place slot : ℕ) → slice_get slots place ≡ Some slot → new slot ≡ view_of (seat place).new)
      → AreWritten (is_slot slots) new (scene_of start.sizes (unwritten start slots image)) (scene_of start.sizes image)
  stop_writes new news slot = elim (which (is_slot slots slot)) [
    | inl here ↦
        let place = slot_placed slots slot here in
        let shown = subst (IsLeftAs slot) (sym (news place.0 slot place.1)) (each_shows place.0 slot place.1) in
        ⊎_elim inl (λ written. inr (here, written)) shown
    | inr none ↦ inl (other_shows slot none)
  ]

  -- One whose turn has not come shows what it showed.
  later_still : (place slot : ℕ) → left.turn < place → slice_get slots place ≡ Some slot → scene_of start.sizes image slot ≡ scene_of start.sizes (unwritten start slots image) slot
  later_still place slot lt at =
      let same : image slot ≡ start.held slot = fun_ext (λ l. left.later place slot l lt at) in
      same_scene start.sizes image (unwritten start slots image) slot (same ∙ sym (unwritten_here start slots image slot (slot_is slots place slot at)))

  -- They get their copies in turn.
  pub stop_in_turn : (new : ℕ → View) → ((place slot : ℕ) → slice_get slots place ≡ Some slot → new slot ≡ view_of (seat place).new)
      → AreInTurn slots new (scene_of start.sizes (unwritten start slots image)) (scene_of start.sizes image)
  stop_in_turn new news p q s t at also less shown was_not = elim (cases_lt left.turn p) [
    | inl later ↦ absurd (was_not (sym (later_still p s later at) ∙ shown))
    | inr turn ↦
        let within = place_within slots q t also in
        let update = some_at_place updates q (omega arith) in
        let is = left.earlier q t update.0 (omega arith) also update.1 in
        scene_at start.sizes image t (are.there q t also)
        ∙ both_show (size_of start t) (image t) (anchor_after (seat q)) (seat q).new is.are_both
        ∙ ap (λ (view : View). One view) (sym (news q t also))
  ]

-- ---- once all slots have their new copies

module _ {D : Type 0} (old now : BayState D) (slots : List ℕ) (seat : ℕ → SlotChange) (updates : List Prepared) (image : Image) (new : ℕ → View)
    (news : (place slot : ℕ) → slice_get slots place ≡ Some slot → new slot ≡ view_of (seat place).new)
    (are : AreSlots old.sizes slots) (counted : length updates ≡ length slots) (same_sizes : now.sizes ≡ old.sizes)
    (changed : AreChanged old now slots seat updates (length slots)) (left : IsLeft now.may_hold image) where
  -- A stop leaves what they hold.
  changed_holds : (place slot : ℕ) → slice_get slots place ≡ Some slot → image slot ≡ now.held slot
  changed_holds place slot at = fun_ext (λ l. changed.are_settled place slot (place_within slots place slot at) at l (image slot l) (left slot l))

  -- Each of them shows its new copy.
  pub changed_shows : (place slot : ℕ) → slice_get slots place ≡ Some slot → scene_of now.sizes image slot ≡ One (new slot)
  changed_shows place slot at =
      let within = place_within slots place slot at in
      let update = some_at_place updates place (omega arith) in
      let is = changed.have_changed place slot update.0 within at update.1 in
      let below = are.there place slot at in
      ap (λ (sizes : List ℕ). scene_of sizes image slot) same_sizes
      ∙ scene_at old.sizes image slot below
      ∙ ap (shows_at (size_of old slot)) (changed_holds place slot at)
      ∙ both_show (size_of old slot) (now.held slot) (anchor_after (seat place)) (seat place).new is.are_both
      ∙ ap (λ (view : View). One view) (sym (news place slot at))

  -- Each says one thing by both of its copies.
  pub changed_says : (place slot : ℕ) → slice_get slots place ≡ Some slot → SaysOne (size_of now slot) (now.held slot)
  changed_says place slot at =
      let within = place_within slots place slot at in
      let update = some_at_place updates place (omega arith) in
      let is = changed.have_changed place slot update.0 within at update.1 in
      subst (λ (sizes : List ℕ). SaysOne (slice_index sizes slot) (now.held slot)) (sym same_sizes)
      (both_say (size_of old slot) (now.held slot) (anchor_after (seat place)) (seat place).new is.are_both)

  -- Every other slot is as it was left before.
  pub changed_left : ((s l : ℕ) → is_slot slots s ≡ true → old.may_hold s l (old.held s l)) → IsLeft old.may_hold (unwritten old slots image)
  changed_left held = left_unwritten old slots image held (λ s l none. changed.others_left s l (image s l) (λ place lt. not_placed slots s none place) (left s l))
