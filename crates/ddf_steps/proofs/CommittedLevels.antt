-- The newest copies of the slots once disks have their copies in both places.
use Rattle.std.proofs.Common.{◌≡◌, ◌≢◌, ◌⊎◌, ℕ, zero, suc, ◌<◌, List, [], ◌∷◌, length, map, fold, Option, Some, refl, ap, subst, ◌∙◌, inl, inr, arith, length-set}
use Rattle.std.proofs.lemmas.Bool.{cases_eq}
use Rattle.std.specs.Prelude.{slice_get, slice_set}
use Rattle.ddf_lemmas.proofs.Lists.{all_from, filter_all, set_else}
use Rattle.ddf_copy.specs.declared.newest_copy.Newest.{Newest}
use Rattle.ddf_copy.specs.declared.newest_copy.Newest.TheVariants.{Level}
use Rattle.ddf_config.specs.declared.seat.Seat.{Seat}
use Rattle.ddf_config.specs.Configuration.{Configuration}
use Rattle.ddf_rewrite.proofs.Lists.{all_at, all_mapped}
use Rattle.ddf_rewrite.specs.Hold.{IsHoldable}
use Rattle.ddf_seats.specs.declared.seated.Seated.{Seated}
use Rattle.ddf_seats.specs.Changing.{record_length, CanBeChanged, HaveLength, IsOfGroup, SlotsRise}
use Rattle.ddf_seats.specs.Group.{GroupValue}
use Rattle.ddf_steps.specs.Ready.{group_after}
use Rattle.ddf_seats.specs.Seated.{with_level, seated, seated_at, seats_in, levelled}
use Rattle.ddf_steps.specs.Steps.{Step}
use Rattle.ddf_seats.proofs.CommittedSeats.{rise_later}

-- ---- one item of a list

set_here : {X : Type 0} (xs : List X) (i : ℕ) (x : X) → i < length xs → slice_get (slice_set xs i x) i ≡ Some x
set_here [] i x below = absurd (omega (arith, below))
set_here (y ∷ ys) zero x below = refl
set_here (y ∷ ys) (suc i) x below = set_here ys i x (omega (arith, below))

-- ---- the slots of disks

-- a slot that is none of these
pub level_else : (newest : List (Option Newest)) (disks : List Seated) (slot : ℕ) → ((k : ℕ) (disk : Seated) → slice_get disks k ≡ Some disk → slot ≢ disk.seat.slot)
    → slice_get (fold with_level newest disks) slot ≡ slice_get newest slot
level_else newest [] slot none = refl
level_else newest (disk ∷ disks) slot none =
    level_else (with_level newest disk) disks slot (λ k. none (suc k)) ∙ set_else newest disk.seat.slot slot (Some (Level disk.copy)) (none 0 disk refl)

-- one of these
pub level_here : (newest : List (Option Newest)) (disks : List Seated) → SlotsRise (seats_in disks) → (k : ℕ) (disk : Seated) → slice_get disks k ≡ Some disk
    → disk.seat.slot < length newest → slice_get (fold with_level newest disks) disk.seat.slot ≡ Some (Some (Level disk.copy))
level_here newest [] rise k disk at below = absurd cc
level_here newest (first ∷ disks) rise zero disk at below =
    let same : first ≡ disk = cc in
    subst (λ (one : Seated). slice_get (fold with_level newest (first ∷ disks)) one.seat.slot ≡ Some (Some (Level one.copy))) same
    (level_else (with_level newest first) disks first.seat.slot
    (λ k other there (is : first.seat.slot ≡ other.seat.slot). let later = rise_later first disks rise.0 k other there in omega (arith, later, is))
    ∙ set_here newest first.seat.slot (Some (Level first.copy)) (let here : first.seat.slot ≡ disk.seat.slot = ap (λ (one : Seated). one.seat.slot) same in omega (arith, below, here)))
level_here newest (first ∷ disks) rise (suc k) disk at below =
    let long : length (with_level newest first) ≡ length newest = length-set newest first.seat.slot (Some (Level first.copy)) in
    level_here (with_level newest first) disks rise.1 k disk at (omega (arith, below, long))

none_more : (first : Seated) (disks : List Seated) (slot : ℕ) → slot ≢ first.seat.slot → ((k : ℕ) (disk : Seated) → slice_get disks k ≡ Some disk → slot ≢ disk.seat.slot)
    → (k : ℕ) (disk : Seated) → slice_get (first ∷ disks) k ≡ Some disk → slot ≢ disk.seat.slot
none_more first disks slot differ none zero disk at = let same : first ≡ disk = cc in subst (λ (one : Seated). slot ≢ one.seat.slot) same differ
none_more first disks slot differ none (suc k) disk at = none k disk at

-- whether a slot is one of these
pub slot_or_none : (disks : List Seated) (slot : ℕ)
    → ((k : ℕ) × (disk : Seated) × (slice_get disks k ≡ Some disk) × (slot ≡ disk.seat.slot)) ⊎ ((k : ℕ) (disk : Seated) → slice_get disks k ≡ Some disk → slot ≢ disk.seat.slot)
slot_or_none [] slot = inr (λ k disk at. absurd cc)
slot_or_none (first ∷ disks) slot = elim (cases_eq slot first.seat.slot) [
  | inl here ↦ inl (0, first, refl, here)
  | inr differ ↦ elim (slot_or_none disks slot) [
    | inl later ↦ inl (suc later.0, later.1, later.2, later.3)
    | inr none ↦ inr (none_more first disks slot differ none)
  ]
]

-- ---- the group's disks

-- Those of a group to which a step was written are the step's, with their copies in both places.
pub seated_after : (group : GroupValue) (step : Step) → SlotsRise (seats_in step.disks) → ((k : ℕ) (disk : Seated) → slice_get step.disks k ≡ Some disk → disk.seat.slot < length group.newest)
    → seated (group_after group step) ≡ map levelled step.disks
unfolding seated
seated_after group step rise below =
    filter_all (seated_at (fold with_level group.newest step.disks)) (λ (disk : Seated). disk.seat) levelled step.disks
    (λ k disk at. rw (level_here group.newest step.disks rise k disk at (below k disk at)) refl)

-- ---- disks whose copies are in both places

pub seats_levelled : (disks : List Seated) → seats_in (map levelled disks) ≡ seats_in disks
seats_levelled [] = refl
seats_levelled (disk ∷ disks) = ap (λ (rest : List Seat). disk.seat ∷ rest) (seats_levelled disks)

pub length_levelled : (sectors : ℕ) (disks : List Seated) → HaveLength sectors (map levelled disks) → HaveLength sectors disks
length_levelled sectors [] have = tt
length_levelled sectors (disk ∷ disks) have = (have.0, length_levelled sectors disks have.1)

-- they can be changed as before
pub changed_levelled : (config : Configuration) (disks : List Seated) → CanBeChanged config disks → CanBeChanged config (map levelled disks)
changed_levelled config disks can = record {
  of_group = all_mapped (IsOfGroup config) levelled disks
      (all_from (λ (disk : Seated). IsOfGroup config (levelled disk)) disks
      (λ k disk at. let is = all_at (IsOfGroup config) disks k disk can.of_group at in record { is_copy = is.is_copy; same_group = is.same_group }));
  can_hold = all_mapped (λ (disk : Seated). HaveLength (record_length disk) (map levelled disks) → IsHoldable disk.copy.header.geometry.max_members config) levelled disks
      (all_from (λ (disk : Seated). HaveLength (record_length disk) (map levelled disks) → IsHoldable disk.copy.header.geometry.max_members config) disks
      (λ k disk at same.
      all_at (λ (one : Seated). HaveLength (record_length one) disks → IsHoldable one.copy.header.geometry.max_members config) disks k disk can.can_hold at
      (length_levelled (record_length disk) disks same)));
}
