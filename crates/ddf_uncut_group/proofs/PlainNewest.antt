-- The newest copies of slots stay plain: behind a step, and where a slot is left out.
use Rattle.std.proofs.Common.{◌≡◌, ◌⊎◌, ℕ, zero, suc, List, [], ◌∷◌, length, fold, Option, Some, None, Ok, refl, ap, sym, ◌∙◌, subst, inl, inr, arith}
use Rattle.std.specs.Prelude.{filter_map, option_map, slice_get, slice_index, slice_set}
use Rattle.std.specs.List.{AllByRecursion, cons_option, range_with_len}
use Rattle.std.specs.Option.{option_and_then}
use Rattle.std.proofs.lemmas.Option.{same_Some}
use Rattle.ddf_lemmas.proofs.Lists.{in_map, range_get}
use Rattle.ddf_bytes.specs.declared.stamp.Stamp.{Stamp}
use Rattle.ddf_header.specs.declared.kind.Revision.{Revision}
use Rattle.ddf_config.specs.declared.seat.Seat.{Seat}
use Rattle.ddf_copy.specs.declared.copy.DiskCopy.{DiskCopy}
use Rattle.ddf_copy.specs.declared.newest_copy.Newest.{Newest}
use Rattle.ddf_copy.specs.declared.newest_copy.Newest.TheVariants.{Level}
use Rattle.ddf_copy.specs.declared.which.Which.TheVariants.{Primary}
use Rattle.ddf_copy.specs.Copies.{standing_copy}
use Rattle.ddf_copy.specs.Shows.{last_of}
use Rattle.ddf_update.specs.declared.prepared.Mode.TheVariants as modes
use Rattle.ddf_update.specs.declared.new_layout.NewLayout.TheVariants.{Small}
use Rattle.ddf_update.specs.NewCopies.{new_copy}
use Rattle.ddf_plan.specs.declared.change.Change.{Change}
use Rattle.ddf_seats.specs.declared.seated.Seated.{Seated}
use Rattle.ddf_seats.specs.Group.{GroupValue}
use Rattle.ddf_steps.specs.Ready.{group_after}
use Rattle.ddf_recovery.specs.Ready.{readied}
use Rattle.ddf_seats.specs.Seated.{with_level, seated, seated_at, seated_by}
use Rattle.ddf_steps.specs.Steps.{Step}
use Rattle.ddf_uncut_group.specs.Labelled.{labelled_copy, labelled_newest}
use Rattle.ddf_uncut_group.specs.Plain.{ArePlain, HavePlain, IsPlain}
use Rattle.ddf_uncut_group.proofs.PlainCopies.{new_plain, written_plain}
use Rattle.ddf_uncut_group.proofs.PlainSteps.{readied_plain}

-- ---- lists

-- What is there once an item was set was there before, or was set.
set_get : {X : Type 0} (xs : List X) (i : ℕ) (x : X) (j : ℕ) (y : X) → slice_get (slice_set xs i x) j ≡ Some y → (slice_get xs j ≡ Some y) ⊎ ((j ≡ i) × (x ≡ y))
set_get [] i x j y at = absurd cc
set_get (z ∷ zs) zero x zero y at = let same : x ≡ y = cc in inr (refl, same)
set_get (z ∷ zs) zero x (suc j) y at = inl at
set_get (z ∷ zs) (suc i) x zero y at = inl at
set_get (z ∷ zs) (suc i) x (suc j) y at = elim (set_get zs i x j y at) [
  | inl there ↦ inl there
  | inr here ↦ inr (ap suc here.0, here.1)
]

-- What is made of items has what each has that is made of one.
made_have : {X Y : Type 0} (P : Y → Type 0) (f : X → Option Y) → ((x : X) (y : Y) → f x ≡ Some y → P y) → (xs : List X) → AllByRecursion P (filter_map f xs)
made_have P f each [] = tt
made_have {Y = Y} P f each (x ∷ xs) = by (f x) (each x) (made_have P f each xs)
  where
    by : (found : Option Y) → ((y : Y) → found ≡ Some y → P y) → AllByRecursion P (filter_map f xs) → AllByRecursion P (cons_option found (filter_map f xs))
    by None has rest = rest
    by (Some y) has rest = (has y refl, rest)

-- ---- the newest copies

module _ (sizes : List ℕ) where
  -- With a plain disk in both places the newest copies are plain.
  one_more : (newest : List (Option Newest)) (disk : Seated) → HavePlain sizes newest → IsPlain (slice_index sizes disk.seat.slot) disk.copy → HavePlain sizes (with_level newest disk)
  one_more newest disk have is = λ slot one copy at stands. elim (set_get newest disk.seat.slot (Some (Level disk.copy)) slot (Some one) at) [
    | inl there ↦ have slot one copy there stands
    | inr here ↦
        let level : Level disk.copy ≡ one = same_Some (Level disk.copy) one here.1 in
        let own : disk.copy ≡ copy = same_Some disk.copy copy (ap standing_copy level ∙ stands) in
        subst (λ (n : ℕ). IsPlain (slice_index sizes n) copy) (sym here.0) (subst (IsPlain (slice_index sizes disk.seat.slot)) own is)
  ]

  all_more : (newest : List (Option Newest)) (disks : List Seated) → HavePlain sizes newest → ArePlain sizes disks → HavePlain sizes (fold with_level newest disks)
  all_more newest [] have are = have
  all_more newest (disk ∷ disks) have are = all_more (with_level newest disk) disks (one_more newest disk have are.0) are.1

  -- Behind a step of plain disks they are.
  pub newest_after : (group : GroupValue) (step : Step) → HavePlain sizes group.newest → ArePlain sizes step.disks → HavePlain sizes (group_after group step).newest
  newest_after group step have are = all_more group.newest step.disks have are

  -- So they are behind several.
  behind_all : (group : GroupValue) (steps : List Step) → HavePlain sizes group.newest → AllByRecursion (λ step. ArePlain sizes step.disks) steps → HavePlain sizes (fold group_after group steps).newest
  behind_all group [] have are = have
  behind_all group (step ∷ steps) have are = behind_all (group_after group step) steps (newest_after group step have are.0) are.1

  -- Where a slot is left out they are.
  pub newest_without : (newest : List (Option Newest)) (left : ℕ) → HavePlain sizes newest → HavePlain sizes (slice_set newest left None)
  newest_without newest left have = λ slot one copy at stands. elim (set_get newest left None slot (Some one) at) [
    | inl there ↦ have slot one copy there stands
    | inr here ↦ absurd (let no : ◌≡◌ {A = Option Newest} None (Some one) = here.1 in cc)
  ]

  -- The disks of a group whose newest copies are plain are.
  pub newest_seated : (group : GroupValue) → HavePlain sizes group.newest → ArePlain sizes (seated group)
  unfolding seated
  newest_seated group have = made_have (λ disk. IsPlain (slice_index sizes disk.seat.slot) disk.copy) (seated_at group.newest) each group.seats
    where
      standing : (seat : Seat) (one : Newest) (found : Option DiskCopy) → standing_copy one ≡ found → slice_get group.newest seat.slot ≡ Some (Some one)
          → (disk : Seated) → option_map (λ copy. record { seat = seat; copy = copy; last = last_of one; mode = modes.Change }) found ≡ Some disk → IsPlain (slice_index sizes disk.seat.slot) disk.copy
      standing seat one None stands at disk is = absurd cc
      standing seat one (Some copy) stands at disk is =
          let made : Seated = record { seat = seat; copy = copy; last = last_of one; mode = modes.Change } in
          let same : made ≡ disk = same_Some made disk is in
          subst (λ (one : Seated). IsPlain (slice_index sizes one.seat.slot) one.copy) same (have seat.slot one copy at stands)

      by : (seat : Seat) (found : Option (Option Newest)) → slice_get group.newest seat.slot ≡ found → (disk : Seated) → option_and_then (λ one. option_and_then (seated_by seat) one) found ≡ Some disk
          → IsPlain (slice_index sizes disk.seat.slot) disk.copy
      by seat None at disk is = absurd cc
      by seat (Some None) at disk is = absurd cc
      by seat (Some (Some one)) at disk is = standing seat one (standing_copy one) refl at disk is

      each : (seat : Seat) (disk : Seated) → seated_at group.newest seat ≡ Some disk → IsPlain (slice_index sizes disk.seat.slot) disk.copy
      each seat disk is = by seat (slice_get group.newest seat.slot) refl disk is

  -- Behind all steps that were readied they are.
  pub newest_behind : (group : GroupValue) (changes : List Change) (timestamp : ℕ) (steps : List Step) → HavePlain sizes group.newest → readied group changes timestamp ≡ Ok steps
      → HavePlain sizes (fold group_after group steps).newest
  newest_behind group changes timestamp steps have is = behind_all group steps have (readied_plain sizes group changes timestamp steps (newest_seated group have) is)

-- Those of disks that were just labelled are plain.
pub newest_labelled : (revision : Revision) (stamp : Stamp) (sizes : List ℕ) → HavePlain sizes (labelled_newest revision stamp sizes)
newest_labelled revision stamp sizes = λ slot one copy at stands.
    let of = in_map (λ place. Some (Level (labelled_copy revision stamp sizes place))) (range_with_len 0 (length sizes)) slot (Some one) at in
    let placed = range_get 0 (length sizes) slot of.0 of.1 in
    let place : of.0 ≡ slot = let same = placed.0 in omega (arith, same) in
    let level : Level (labelled_copy revision stamp sizes of.0) ≡ one = same_Some (Level (labelled_copy revision stamp sizes of.0)) one of.2 in
    let own : labelled_copy revision stamp sizes of.0 ≡ copy = same_Some (labelled_copy revision stamp sizes of.0) copy (ap standing_copy level ∙ stands) in
    subst (IsPlain (slice_index sizes slot)) own
    (subst (λ (n : ℕ). IsPlain (slice_index sizes n) (labelled_copy revision stamp sizes of.0)) place
    (written_plain (slice_index sizes of.0) (new_copy Small revision stamp sizes of.0) Primary (new_plain revision stamp sizes of.0)))
