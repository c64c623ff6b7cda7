-- What is said of rounds stays so where more reads failed, and where more might be left before.
use Rattle.std.proofs.Common.{◌≡◌, ℕ, ◌+◌, ◌*◌, ◌≤◌, Bool, true, false, List, [], ◌∷◌, take, refl, subst, inl, inr, ⊎_elim, arith}
use Rattle.std.proofs.Math.Nat.{mul-le-mul_right}
use Rattle.std.proofs.Math.Path.{fun_ext}
use Rattle.std.proofs.lemmas.Option.{slice_get_within}
use Rattle.std.specs.Prelude.{Some}
use Rattle.ddf_lemmas.proofs.Lists.{in_map}
use Rattle.ddf_bay.specs.Moments.{IsSettled}
use Rattle.ddf_bay.specs.Sectors.{Image}
use Rattle.ddf_bay.specs.State.{BayState}
use Rattle.ddf_primary.specs.Cells.{height_of}
use Rattle.ddf_array.specs.Volume.{Volume}
use Rattle.ddf_config.specs.declared.seat.Seat.{Seat}
use Rattle.ddf_rebuild.specs.Rebuilding.{NoneLeftInRows}
use Rattle.ddf_repair.specs.declared.first.Target.{Target}
use Rattle.ddf_read.proofs.Tries.{NotRead-wider}
use Rattle.ddf_cells.specs.CellSources.{cell_sources}
use Rattle.ddf_cells.proofs.GivenSteps.{wanted_wider}
use Rattle.ddf_recovery.specs.Committed.{HoldsGroup}
use Rattle.ddf_steps.specs.Committed.{slots_of}
use Rattle.ddf_seats.specs.Group.{GroupValue}
use Rattle.ddf_history_steps.specs.Kept.{is_slot}
use Rattle.ddf_history_steps.proofs.Slots.{slot_placed}
use Rattle.ddf_write_commands.specs.Holding.{holding}
use Rattle.ddf_rebuild_command.specs.Filled.{IsLeftIn}
use Rattle.ddf_rebuild_command.specs.Rounds.{AreRounds, IsFilled, IsSure, Round, row_before}
use Rattle.ddf_rebuild_command.specs.Stages.{Stage}
use Rattle.ddf_rebuild_command.specs.Stages.Stage.{Filling, Noting, Opening}
use Rattle.ddf_rebuild_command.specs.Standing.{AddsNothing}
use Rattle.ddf_group_commands.proofs.LeftWriting.{writing_more}

-- ---- more failures

module _ (P Q : ℕ → Type 0) (more : (slot : ℕ) → P slot → Q slot) (early late : Type 0) (back : late → early) (volume : Volume) (target : Target) where
  sure_less : (image : Image) → IsSure Q volume image → IsSure P volume image
  sure_less image (inl none) = inl (λ slot on failed. none slot on (more slot failed))
  sure_less image (inr redundant) = inr redundant

  pub filled_more : (from to : ℕ) (before after : Image) → IsFilled P early volume target from to before after → IsFilled Q late volume target from to before after
  filled_more from to before after is = record {
    rebuilt = λ sure. is.rebuilt (sure_less before sure);
    was_given = λ part place slot sector at rows.
        wanted_wider more volume before target.element part sector target.position (after slot (place.start + sector)) (is.was_given part place slot sector at rows);
    stays = is.stays;
    are_sectors = λ told. is.are_sectors (back told);
  }

  pub rounds_more : (sizes : List ℕ) (from : ℕ) (before : Image) (rounds : List Round) (after : Image) → AreRounds P early sizes volume target from before rounds after
      → AreRounds Q late sizes volume target from before rounds after
  rounds_more sizes from before [] after done = done
  rounds_more sizes from before (round ∷ others) after done =
      (done.0, filled_more from round.row before done.0 done.1, done.2, done.3, rounds_more sizes round.row done.2 others after done.4)

-- ---- rounds behind rounds

pub rounds_from : (failed : ℕ → Type 0) (told : Type 0) (sizes : List ℕ) (volume : Volume) (target : Target) (from : ℕ) (one other after : Image) (rounds : List Round) → ((s l : ℕ) → one s l ≡ other s l)
    → AreRounds failed told sizes volume target from one rounds after → AreRounds failed told sizes volume target from other rounds after
rounds_from failed told sizes volume target from one other after rounds same done =
    subst (λ (image : Image). AreRounds failed told sizes volume target from image rounds after) (fun_ext (λ s. fun_ext (λ l. same s l))) done

-- ---- what a slot holds for sure

holding_more : {D : Type 0} (one other : BayState D) (slots : List ℕ) → AddsNothing other one slots → (image : Image) (s l : ℕ) (bytes : List ℕ)
    → (holding one slots image).may_hold s l bytes → (holding other slots image).may_hold s l bytes
holding_more one other slots adds image s l bytes = ⊎_elim inl (λ left. inr (left.0, adds s l bytes left.0 left.1))

-- each slot of a seat is settled
settled_at : {D : Type 0} (disks : BayState D) (found : GroupValue) → HoldsGroup disks found → (s : ℕ) → is_slot (slots_of found.seats) s ≡ true → IsSettled disks.may_hold disks.held s
settled_at disks found holds s is =
    let place = slot_placed (slots_of found.seats) s is in
    let seat = in_map (λ (one : Seat). one.slot) found.seats place.0 s place.1 in
    subst (λ (slot : ℕ). IsSettled disks.may_hold disks.held slot) seat.2
    (holds.are_settled place.0 seat.0 (slice_get_within found.seats place.0 seat.0 seat.1) seat.1)

-- What a stop leaves of disks that hold a group is what the seats' slots hold, and of every other slot what it might leave before.
pub left_holding : {D : Type 0} (start disks : BayState D) (found : GroupValue) → HoldsGroup disks found → AddsNothing start disks (slots_of found.seats) → (s l : ℕ) (bytes : List ℕ)
    → disks.may_hold s l bytes → (holding start (slots_of found.seats) disks.held).may_hold s l bytes
left_holding start disks found holds adds s l bytes left = by (is_slot (slots_of found.seats) s) refl
  where
    by : (b : Bool) → is_slot (slots_of found.seats) s ≡ b → (holding start (slots_of found.seats) disks.held).may_hold s l bytes
    by true e = inl (e, settled_at disks found holds s e l bytes left)
    by false e = inr (e, adds s l bytes e left)

-- ---- more that might be left before

module _ (P Q : ℕ → Type 0) (more : (slot : ℕ) → P slot → Q slot) (early late : Type 0) (back : late → early) {D : Type 0} (one other : BayState D) (same_sizes : one.sizes ≡ other.sizes) (same_held : one.held ≡ other.held)
    (slots : List ℕ) (adds : AddsNothing other one slots) (volume : Volume) (target : Target) (from : ℕ) (rounds : List Round) where
  before_more : (number : ℕ) (before : Image) → AreRounds P early one.sizes volume target from one.held (take number rounds) before → AreRounds Q late other.sizes volume target from other.held (take number rounds) before
  before_more number before done =
      subst (λ (sizes : List ℕ). AreRounds Q late sizes volume target from other.held (take number rounds) before) same_sizes
      (subst (λ (held : Image). AreRounds Q late one.sizes volume target from held (take number rounds) before) same_held
      (rounds_more P Q more early late back volume target one.sizes from one.held (take number rounds) before done))

  -- So is what a stop leaves at a stage.
  pub left_more : (stage : Stage) (image : Image) → IsLeftIn P early one slots volume target from rounds stage image → IsLeftIn Q late other slots volume target from rounds stage image
  left_more Opening image left = left
  left_more (Filling number) image left = record {
    before = left.before;
    rounds_done = before_more number left.before left.rounds_done;
    round = left.round;
    is_round = left.is_round;
    is_left = λ s l. ⊎_elim (λ held. inl (holding_more one other slots adds left.before s l (image s l) held)) inr (left.is_left s l);
  }
  left_more (Noting number) image left = record {
    before = left.before;
    rounds_done = before_more number left.before left.rounds_done;
    round = left.round;
    is_round = left.is_round;
    filled = left.filled;
    is_filled = filled_more P Q more early late back volume target (row_before from rounds number) left.round.row left.before left.filled left.is_filled;
    is_left = writing_more (holding one slots left.filled) (holding other slots left.filled) same_sizes (holding_more one other slots adds left.filled) (left.round.step ∷ []) image left.is_left;
  }

-- ---- no source is left

pub none_left_more : (P Q : ℕ → Type 0) → ((slot : ℕ) → P slot → Q slot) → (volume : Volume) (element position from to earlier later slot : ℕ) → earlier ≤ from → to ≤ later
    → NoneLeftInRows P volume element position from to slot → NoneLeftInRows Q volume element position earlier later slot
none_left_more P Q more volume element position from to earlier later slot first last none =
    let strip = height_of none.part.shape in
    let from_is = none.in_rows.from_is in
    let to_is = none.in_rows.to_is in
    let lower : earlier * strip ≤ from * strip = mul-le-mul_right strip first in
    let upper : to * strip ≤ later * strip = mul-le-mul_right strip last in
    record {
      part = none.part;
      is_part = none.is_part;
      sector = none.sector;
      in_rows = record { from_is = omega (arith, lower, from_is); to_is = omega (arith, upper, to_is); below = none.in_rows.below };
      number = none.number;
      other = none.other;
      is_needed = none.is_needed;
      none_left = NotRead-wider more (cell_sources volume element none.part none.sector none.other) (Some slot) none.none_left;
    }
