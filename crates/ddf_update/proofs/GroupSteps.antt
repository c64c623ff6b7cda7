-- The founding of a group, disk by disk.
use Rattle.std.proofs.Common.{◌≡◌, ◌≢◌, ◌⊎◌, ℕ, ◌+◌, ◌<◌, ◌≤◌, List, Option, Some, Err, sym, ap, ◌∙◌, inl, inr, ⊎_elim, arith, subst}
use Rattle.std.proofs.lemmas.Bool.{cases_eq, cases_lt}
use Rattle.std.proofs.Math.Path.{fun_ext}
use Rattle.std.specs.Prelude.{slice_get, slice_index}
use Rattle.ddf_bay.specs.State.{BayState}
use Rattle.ddf_bay.specs.Sectors.{Image, IsLeft}
use Rattle.ddf_bay.specs.Moments.{StopsLeave}
use Rattle.ddf_bay.proofs.Steps.{stops_then}
use Rattle.ddf_copy.specs.declared.copy.DiskCopy.{DiskCopy}
use Rattle.ddf_copy.specs.declared.which.Which.TheVariants.{Secondary}
use Rattle.ddf_copy.specs.declared.fault.AnchorFault.TheVariants.{Blank}
use Rattle.ddf_copy.specs.Anchor.{anchor_at}
use Rattle.ddf_copy.specs.Headers.{IsUnder, anchor_header}
use Rattle.ddf_update.specs.declared.prepared.Mode.TheVariants.{Found}
use Rattle.ddf_update.specs.declared.prepared.Prepared.{Prepared}
use Rattle.ddf_update.specs.Prepared.{IsPrepared}
use Rattle.ddf_update.specs.Gate.{StopsLeaveSince}
use Rattle.ddf_update.specs.Group.{HaveFirstCopies, AreSlots, IsBefore, IsLeftFoundingAll, MayFoundAll}
use Rattle.ddf_update.specs.Update.{AreBoth, IsBlankOrNew, HasFirstCopy, MayFound}
use Rattle.ddf_update.proofs.Before.{not_written}

abbrev pub some_place : ℕ → Option ℕ
some_place n = Some n

pub later_differs : (sizes slots : List ℕ) → AreSlots sizes slots → (count place slot : ℕ) → count ≤ place → slice_get slots place ≡ Some slot → (other : ℕ) → other < count → slice_get slots other ≢ Some slot
later_differs sizes slots are count place slot later here other earlier there =
    let same = are.differ other place slot there here in
    absurd (omega (arith, later, earlier, same))

module _ {D : Type 0} (old : BayState D) (slots : List ℕ) (copy : ℕ → DiskCopy) (are : AreSlots old.sizes slots) where
  -- what is left of a slot at a moment between two disks
  left_between : (now : BayState D) (count : ℕ) → HaveFirstCopies old now slots copy count → (image : Image) (place slot : ℕ) → slice_get slots place ≡ Some slot → ((l : ℕ) → now.may_hold slot l (image slot l))
      → ((l : ℕ) → old.may_hold slot l (image slot l)) ⊎ (anchor_at (slice_index old.sizes slot) (image slot) ≡ Err Blank) ⊎ AreBoth (slice_index old.sizes slot) (image slot) (anchor_header (copy place)) (copy place)
  left_between now count so_far image place slot here left = elim (cases_lt place count) [
    | inl earlier ↦
        let same : image slot ≡ now.held slot = fun_ext (λ l. so_far.are_settled place slot earlier here l (image slot l) (left l)) in
        inr (inr (subst (λ (sector : ℕ → List ℕ). AreBoth (slice_index old.sizes slot) sector (anchor_header (copy place)) (copy place)) (sym same) (so_far.are_both place slot earlier here)))
    | inr later ↦ inl (λ l. so_far.others_left slot l (image slot l) (later_differs old.sizes slots are count place slot later here) (left l))
  ]

  -- and of its sectors before both places of its copy
  before_between : (now : BayState D) (count : ℕ) → HaveFirstCopies old now slots copy count → (image : Image) (place slot l : ℕ) → slice_get slots place ≡ Some slot → IsBefore (copy place) l → now.may_hold slot l (image slot l)
      → (image slot l ≡ old.held slot l) ⊎ old.may_hold slot l (image slot l)
  before_between now count so_far image place slot l here front left = elim (cases_lt place count) [
    | inl earlier ↦ inl (so_far.are_settled place slot earlier here l (image slot l) left ∙ so_far.before place slot l earlier here front)
    | inr later ↦ inr (so_far.others_left slot l (image slot l) (later_differs old.sizes slots are count place slot later here) left)
  ]

  -- a stop between two disks
  image_between : (now : BayState D) (count : ℕ) → HaveFirstCopies old now slots copy count → (image : Image) → IsLeft now.may_hold image → IsLeftFoundingAll old slots copy image
  image_between now count so_far image left = record {
    each = λ place slot here. left_between now count so_far image place slot here (left slot);
    before = λ place slot l here front. before_between now count so_far image place slot l here front (left slot l);
    others = λ s l none. so_far.others_left s l (image s l) (λ place earlier. none place) (left s l);
  }

  -- a stop while the next disk is written
  image_within : (now : BayState D) (same_sizes : now.sizes ≡ old.sizes) (count slot : ℕ) (update : Prepared) → HaveFirstCopies old now slots copy count → slice_get slots count ≡ Some slot → IsPrepared (copy count) Secondary Found update → IsUnder (slice_index old.sizes slot) (anchor_header (copy count)) (copy count) → (image : Image)
      → IsBlankOrNew now slot update (copy count) image → IsLeftFoundingAll old slots copy image
  image_within now same_sizes count slot update so_far at is under image left = record {
    each = λ place other here. elim (cases_eq other slot) [
      | inl same ↦
          let place_is : place ≡ count = are.differ place count slot (rw same at here) at in
          rw (same, place_is) (⊎_elim (λ blank. inr (inl blank)) (λ shows. inr (inr shows)) (rw same_sizes at left.shows))
      | inr differ ↦ left_between now count so_far image place other here (λ l. left.other_slots other l differ)
    ];
    before = λ place other l here front. elim (cases_eq other slot) [
      | inl same ↦
          let place_is : place ≡ count = are.differ place count slot (rw same at here) at in
          let stays : now.held slot l ≡ old.held slot l = so_far.others slot l (later_differs old.sizes slots are count count slot (omega arith) at) in
          let written = not_written (slice_index old.sizes slot) (copy count) update is under l (rw place_is at front) in
          rw same (inl (⊎_elim (λ as_held. as_held ∙ stays) (λ there. absurd (written there)) (rw same_sizes at (left.outside l))))
      | inr differ ↦ before_between now count so_far image place other l here front (left.other_slots other l differ)
    ];
    others = λ s l none.
        let differ : s ≢ slot = λ (same : s ≡ slot). none count (rw same at) in
        so_far.others_left s l (image s l) (λ place earlier. none place) (left.other_slots s l differ);
  }

module _ {D : Type 0} (old : BayState D) (slots : List ℕ) (copy : ℕ → DiskCopy) (are : AreSlots old.sizes slots) where
  pub group_stops : (now next : BayState D) (same_sizes : now.sizes ≡ old.sizes) (count slot : ℕ) (update : Prepared) → HaveFirstCopies old now slots copy count → slice_get slots count ≡ Some slot
      → IsPrepared (copy count) Secondary Found update → IsUnder (slice_index old.sizes slot) (anchor_header (copy count)) (copy count)
      → StopsLeave old now (IsLeftFoundingAll old slots copy)
      → StopsLeave now next (IsLeft now.may_hold) ⊎ StopsLeaveSince now next (IsBlankOrNew now slot update (copy count))
      → StopsLeave old next (IsLeftFoundingAll old slots copy)
  group_stops now next same_sizes count slot update so_far at is under before step = ⊎_elim
      (λ none. stops_then before none (image_between old slots copy are now count so_far))
      (λ since. stops_then before since.any_moment (λ image left. ⊎_elim (image_between old slots copy are now count so_far image) (image_within old slots copy are now same_sizes count slot update so_far at is under image) left))
      step

  pub group_founded : (now next : BayState D) (same_sizes : now.sizes ≡ old.sizes) (count slot : ℕ) (update : Prepared) → HaveFirstCopies old now slots copy count → slice_get slots count ≡ Some slot
      → IsPrepared (copy count) Secondary Found update → IsUnder (slice_index old.sizes slot) (anchor_header (copy count)) (copy count)
      → HasFirstCopy now next slot update (copy count) → HaveFirstCopies old next slots copy (count + 1)
  group_founded now next same_sizes count slot update so_far at is under one = record {
    are_both = λ place other lt here. elim (cases_eq place count) [
      | inl same ↦ let slot_is : other ≡ slot = some_is other slot (sym here ∙ ap (slice_get slots) same ∙ at) in rw (same, slot_is) (rw same_sizes at one.are_both)
      | inr differ ↦
          let held_is : next.held other ≡ now.held other = fun_ext (λ l. one.other_slots other l (apart place other here differ)) in
          rw held_is (so_far.are_both place other (omega (arith, lt, differ)) here)
    ];
    are_settled = λ place other lt here. elim (cases_eq place count) [
      | inl same ↦ let slot_is : other ≡ slot = some_is other slot (sym here ∙ ap (slice_get slots) same ∙ at) in rw slot_is one.is_settled
      | inr differ ↦ λ l bytes may.
          so_far.are_settled place other (omega (arith, lt, differ)) here l bytes (one.others_left other l bytes (apart place other here differ) may) ∙ sym (one.other_slots other l (apart place other here differ))
    ];
    before = λ place other l lt here front. elim (cases_eq place count) [
      | inl same ↦
          let slot_is : other ≡ slot = some_is other slot (sym here ∙ ap (slice_get slots) same ∙ at) in
          let stays : now.held slot l ≡ old.held slot l = so_far.others slot l (later_differs old.sizes slots are count count slot (omega arith) at) in
          let written = not_written (slice_index old.sizes slot) (copy count) update is under l (rw same at front) in
          rw slot_is (⊎_elim (λ as_held. as_held ∙ stays) (λ there. absurd (written there)) (rw same_sizes at (one.outside l)))
      | inr differ ↦ one.other_slots other l (apart place other here differ) ∙ so_far.before place other l (omega (arith, lt, differ)) here front
    ];
    others = λ s l none.
        let differ : s ≢ slot = λ (same : s ≡ slot). none count (omega arith) (rw same at) in
        one.other_slots s l differ ∙ so_far.others s l (λ place lt. none place (omega (arith, lt)));
    others_left = λ s l bytes none may.
        let differ : s ≢ slot = λ (same : s ≡ slot). none count (omega arith) (rw same at) in
        so_far.others_left s l bytes (λ place lt. none place (omega (arith, lt))) (one.others_left s l bytes differ may);
  }
    where
      some_is : (x y : ℕ) → some_place x ≡ some_place y → x ≡ y
      some_is x y e = cc

      apart : (place other : ℕ) → slice_get slots place ≡ Some other → place ≢ count → other ≢ slot
      apart place other here differ same = differ (are.differ place count slot (rw same at here) at)

-- the next disk is still blank
pub next_blank : {D : Type 0} (old : BayState D) (slots : List ℕ) (copy : ℕ → DiskCopy) → AreSlots old.sizes slots → (updates : List Prepared) (now : BayState D) (same_sizes : now.sizes ≡ old.sizes) (count slot : ℕ)
    → MayFoundAll old slots copy updates → HaveFirstCopies old now slots copy count → slice_get slots count ≡ Some slot → MayFound now slot (copy count)
next_blank old slots copy are updates now same_sizes count slot may so_far at =
    let same : now.held slot ≡ old.held slot = fun_ext (λ l. so_far.others slot l (later_differs old.sizes slots are count count slot (omega arith) at)) in
    record { is_blank = rw same_sizes (ap (anchor_at (slice_index old.sizes slot)) same ∙ may.are_blank count slot at); is_under = rw same_sizes (may.are_under count slot at) }
