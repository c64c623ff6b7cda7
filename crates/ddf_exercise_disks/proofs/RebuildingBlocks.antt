-- The blocks of an exercise behind a rebuild.
use Rattle.std.proofs.Common.{◌≡◌, ◌∙◌, ℕ, zero, suc, ◌+◌, ◌<◌, ◌≤◌, Bool, true, false, List, [], ◌∷◌, Some, refl, sym, ap, subst, inl, arith, lit<, lit≤}
use Rattle.std.specs.Prelude.{slice_get}
use Rattle.ddf_bytes.specs.Streams.{SinkState}
use Rattle.ddf_bay.specs.Memory.{disks_of, state_of}
use Rattle.ddf_bay.specs.Sectors.{Image}
use Rattle.ddf_bay.specs.declared.memory.MemoryBay.{MemoryBay}
use Rattle.ddf_config.specs.declared.seat.Seat.{Seat}
use Rattle.ddf_array.specs.declared.part.Part.{Part}
use Rattle.ddf_array.specs.declared.place.Place.{Place}
use Rattle.ddf_array.specs.Sound.{AreSectors}
use Rattle.ddf_array.specs.Volume.{IsVolume, Volume}
use Rattle.ddf_cells.specs.Apart.{LiesAt}
use Rattle.ddf_cells.specs.Writing.{StaysBut}
use Rattle.ddf_cells.proofs.Alike.{depth_below, wanted_same}
use Rattle.ddf_read.specs.Reading.{Failed, IsOn}
use Rattle.ddf_rebuild.specs.Rebuilding.{HasRebuilt}
use Rattle.ddf_rebuild.specs.Target.{IsOut, IsTargetCell, row_count}
use Rattle.ddf_data_array.specs.Changing.{in_sync}
use Rattle.ddf_data_array.specs.Rows.{GoesOnBehind, IsFirstOut}
use Rattle.ddf_data_array.proofs.RowsKept.{alike_cells}
use Rattle.ddf_update.specs.Group.{IsOneOf}
use Rattle.ddf_steps.specs.Committed.{slots_of}
use Rattle.ddf_answer.specs.Call.{answer_of}
use Rattle.ddf_text.specs.Done.{sequence_line}
use Rattle.ddf_rebuild_command.specs.Planned.{IsPlanned}
use Rattle.ddf_rebuild_command.specs.Rebuilt.{AreRoundsDone, IsRebuildDone}
use Rattle.ddf_exercise_config.specs.Disks.{Disks}
use Rattle.ddf_exercise_config.specs.Stages.{lost_position, seats_at, whole}
use Rattle.ddf_exercise_config.specs.Turns.{Loss, turn_before, turn_behind}
use Rattle.ddf_exercise_config.specs.Turns.Loss.{OfSecond, OfThird}
use Rattle.ddf_exercise_config.specs.Turns.Turn.{Middle, Opening}
use Rattle.ddf_exercise_config.specs.Views.{part, place, places_begun, view_at, view_begun}
use Rattle.ddf_exercise_config.specs.Words.{word}
use Rattle.ddf_exercise_config.proofs.Asked as asked
use Rattle.ddf_exercise_config.proofs.Used as used
use Rattle.ddf_uncut_data.specs.Blocks.{HoldsBlocks}
use Rattle.ddf_uncut_data.proofs.Held.{holds_same}
use Rattle.ddf_uncut_data.proofs.Rebuild.{AreSet, holds_finished, rows_counted, set_filled}
use Rattle.ddf_uncut_data.proofs.Replaced.{holds_replaced}
use Rattle.ddf_exercise_disks.specs.Ending.{EndsWell, unused}
use Rattle.ddf_exercise_disks.specs.Storing.{StoresAt, filled_with}
use Rattle.ddf_exercise_disks.proofs.Aside.{AreOnFive, steps_aside}
use Rattle.ddf_exercise_disks.proofs.Clip.{IsSameLow, alike_low, begun_below, clip, clip_gets, clip_low, clip_sectors, memory_sectors, view_below}
use Rattle.ddf_exercise_disks.proofs.RebuildingGroup as behind
use Rattle.ddf_exercise_disks.proofs.RebuildingSteps as steps

-- ---- the array while the spare is filled

-- the place that is filled
abbrev pub filled_place : Loss → Place
filled_place OfSecond = place 3 false
filled_place OfThird = place 4 false

fills_at : (loss : Loss) (one : Place) → slice_get (places_begun loss) (lost_position loss) ≡ Some one → filled_place loss ≡ one
fills_at OfSecond one at = cc
fills_at OfThird one at = cc

is_out : (loss : Loss) → IsOut (view_begun loss) 0 (lost_position loss)
is_out OfSecond = record { part = part (places_begun OfSecond); place = place 3 false; slot = 3; is_target = record { is_part = refl; is_place = refl; is_out = refl; is_there = refl } }
is_out OfThird = record { part = part (places_begun OfThird); place = place 4 false; slot = 4; is_target = record { is_part = refl; is_place = refl; is_out = refl; is_there = refl } }

before_second : (earlier : ℕ) (one : Place) → earlier < 1 → slice_get (places_begun OfSecond) earlier ≡ Some one → one.synced ≡ true
before_second zero one below at = let own : place 0 true ≡ one = cc in ap (λ (p : Place). p.synced) (sym own)
before_second (suc earlier) one below at = absurd (omega (arith, below))

before_third : (earlier : ℕ) (one : Place) → earlier < 2 → slice_get (places_begun OfThird) earlier ≡ Some one → one.synced ≡ true
before_third zero one below at = let own : place 0 true ≡ one = cc in ap (λ (p : Place). p.synced) (sym own)
before_third (suc zero) one below at = let own : place 3 true ≡ one = cc in ap (λ (p : Place). p.synced) (sym own)
before_third (suc (suc earlier)) one below at = absurd (omega (arith, below))

-- No earlier place is out of sync.
first_out : (loss : Loss) → IsFirstOut (view_begun loss) 0 (lost_position loss)
first_out OfSecond one at keeps earlier its below is = before_second earlier its below (ap (λ (p : Part). slice_get p.places earlier) (behind.begun_part OfSecond one at) ∙ is)
first_out OfThird one at keeps earlier its below is = before_third earlier its below (ap (λ (p : Part). slice_get p.places earlier) (behind.begun_part OfThird one at) ∙ is)

no_row : (loss : Loss) → (filled_place loss).row ≡ 0
no_row OfSecond = refl
no_row OfThird = refl

-- None of its rows counts.
goes_on : (loss : Loss) → GoesOnBehind (view_begun loss) 0 (lost_position loss) 0
goes_on loss one its slot target =
    let same = fills_at loss its (ap (λ (p : Part). slice_get p.places (lost_position loss)) (behind.begun_part loss one target.is_part) ∙ target.is_place) in
    let none : its.row ≡ 0 = ap (λ (p : Place). p.row) (sym same) ∙ no_row loss in
    omega (arith, none)

all_rows : (loss : Loss) (one : Part) → slice_get (view_begun loss).parts 0 ≡ Some one → row_count one.shape ≤ 512
all_rows loss one at = subst (λ (p : Part). row_count p.shape ≤ 512) (behind.begun_part loss one at) (lit≤ tt)

-- Its blocks are those that the array had.
holds_begun : (loss : Loss) (image : Image) (blocks : ℕ → List ℕ) → HoldsBlocks (view_at (turn_before loss) false) image blocks → HoldsBlocks (view_begun loss) image blocks
holds_begun OfSecond image blocks holds =
    holds_replaced (view_at Opening false) 0 1 (place 3 false) image blocks refl refl (used.is_volume_begun OfSecond) (used.is_apart_begun OfSecond) (asked.stays_within OfSecond) refl holds
holds_begun OfThird image blocks holds =
    holds_replaced (view_at Middle false) 0 2 (place 4 false) image blocks refl refl (used.is_volume_begun OfThird) (used.is_apart_begun OfThird) (asked.stays_within OfThird) refl holds

-- In sync it is the array behind the rebuild.
holds_whole : (loss : Loss) (image : Image) (blocks : ℕ → List ℕ) → HoldsBlocks (in_sync 0 (lost_position loss) (view_begun loss)) image blocks → HoldsBlocks (view_at (turn_behind loss) false) image blocks
holds_whole OfSecond image blocks holds = holds
holds_whole OfThird image blocks holds = holds

-- ---- images

module _ (loss : Loss) (blocks : ℕ → List ℕ) (old before filled new : Image) (are_old : AreSectors old) (are_new : AreSectors new) (same_first : IsSameLow before old)
    (stays : StaysBut (IsTargetCell (view_begun loss) 0 (lost_position loss) 0 512) before filled) (rebuilt : HasRebuilt (view_begun loss) 0 (lost_position loss) 0 512 before filled)
    (same_last : IsSameLow new filled) (holds : HoldsBlocks (view_at (turn_before loss) false) old blocks) where
  abbrev v : Volume
  v = view_begun loss

  known : IsVolume v
  known = used.is_volume_begun loss

  -- what the disks hold below the records then, and what they held from there on
  abbrev clipped : Image
  clipped = clip new old

  are_clipped : AreSectors clipped
  are_clipped = clip_sectors new old are_new are_old

  stays_clipped : StaysBut (IsTargetCell v 0 (lost_position loss) 0 512) old clipped
  stays_clipped = clip_gets new old before filled (λ slot lba bytes. IsTargetCell v 0 (lost_position loss) 0 512 slot lba) same_last same_first stays

  rebuilt_clipped : HasRebuilt v 0 (lost_position loss) 0 512 old clipped
  rebuilt_clipped one its slot sector target rows =
      let lies : LiesAt v 0 (lost_position loss) sector slot (its.start + sector) = record {
        part = one;
        place = its;
        is_part = target.is_part;
        is_place = target.is_place;
        below = depth_below v known one sector rows.below;
        is_there = target.is_there;
        lba_is = refl;
      } in
      let below = begun_below loss 0 (lost_position loss) sector slot (its.start + sector) lies in
      let low : its.start + sector < 32687 = omega (arith, below) in
      clip_low new old slot (its.start + sector) low ∙ same_last slot (its.start + sector) low ∙ rebuilt one its slot sector target rows
      ∙ wanted_same v known before old (alike_cells v before old (alike_low v (begun_below loss) before old same_first)) 0 one target.is_part sector (lost_position loss) (depth_below v known one sector rows.below)

  was_set : AreSet v 0 (lost_position loss) blocks 0 old
  was_set =
      let there = holds_begun loss old blocks holds in
      record { holds = there; rows = rows_counted v 0 (lost_position loss) 0 old blocks there (λ one its slot target. omega arith) }

  is_set : AreSet v 0 (lost_position loss) blocks 512 clipped
  is_set = set_filled v 0 (lost_position loss) blocks 0 512 old clipped are_clipped (goes_on loss) stays_clipped rebuilt_clipped was_set

  pub images_hold : HoldsBlocks (view_at (turn_behind loss) false) new blocks
  images_hold =
      holds_same (view_at (turn_behind loss) false) clipped new blocks are_new (alike_low (view_at (turn_behind loss) false) (view_below (turn_behind loss) false) clipped new (clip_low new old))
      (holds_whole loss clipped blocks (holds_finished v clipped blocks 0 (lost_position loss) 512 (is_out loss) (first_out loss) (all_rows loss) is_set.rows is_set.holds))

-- ---- slots of the array

second_on : (position : ℕ) (one : Place) (slot : ℕ) → slice_get (places_begun OfSecond) position ≡ Some one → one.slot ≡ Some slot → IsOneOf (0 ∷ 2 ∷ 3 ∷ 4 ∷ []) slot
second_on zero one slot at on = let there : Some 0 ≡ Some slot = (let own : place 0 true ≡ one = cc in ap (λ (p : Place). p.slot) own) ∙ on in record { place = 0; is_there = there }
second_on (suc zero) one slot at on = let there : Some 3 ≡ Some slot = (let own : place 3 false ≡ one = cc in ap (λ (p : Place). p.slot) own) ∙ on in record { place = 2; is_there = there }
second_on (suc (suc zero)) one slot at on = let there : Some 2 ≡ Some slot = (let own : place 2 true ≡ one = cc in ap (λ (p : Place). p.slot) own) ∙ on in record { place = 1; is_there = there }
second_on (suc (suc (suc position))) one slot at on = absurd (cc)

third_on : (position : ℕ) (one : Place) (slot : ℕ) → slice_get (places_begun OfThird) position ≡ Some one → one.slot ≡ Some slot → IsOneOf (0 ∷ 3 ∷ 4 ∷ []) slot
third_on zero one slot at on = let there : Some 0 ≡ Some slot = (let own : place 0 true ≡ one = cc in ap (λ (p : Place). p.slot) own) ∙ on in record { place = 0; is_there = there }
third_on (suc zero) one slot at on = let there : Some 3 ≡ Some slot = (let own : place 3 true ≡ one = cc in ap (λ (p : Place). p.slot) own) ∙ on in record { place = 1; is_there = there }
third_on (suc (suc zero)) one slot at on = let there : Some 4 ≡ Some slot = (let own : place 4 false ≡ one = cc in ap (λ (p : Place). p.slot) own) ∙ on in record { place = 2; is_there = there }
third_on (suc (suc (suc position))) one slot at on = absurd (cc)

element_is : (loss : Loss) (element : ℕ) (one : Part) → slice_get (view_begun loss).parts element ≡ Some one → part (places_begun loss) ≡ one
element_is loss zero one at = cc
element_is loss (suc element) one at = absurd (cc)

-- Each is that of a seat that is left.
on_seat : (disks : Disks) (loss : Loss) (slot : ℕ) → IsOn (view_begun loss) slot → IsOneOf (slots_of (seats_at disks (turn_behind loss))) slot
on_seat disks OfSecond slot on = second_on on.position on.place slot (ap (λ (p : Part). slice_get p.places on.position) (element_is OfSecond on.element on.part on.is_part) ∙ on.is_place) on.is_there
on_seat disks OfThird slot on = third_on on.position on.place slot (ap (λ (p : Part). slice_get p.places on.position) (element_is OfThird on.element on.part on.is_part) ∙ on.is_place) on.is_there

behind_five : (disks : Disks) (loss : Loss) → AreOnFive (seats_at disks (turn_behind loss))
behind_five disks OfSecond = (lit< tt, (lit< tt, (lit< tt, (lit< tt, tt))))
behind_five disks OfThird = (lit< tt, (lit< tt, (lit< tt, tt)))

-- ---- the disks

module _ {name : List ℕ} {total asked : ℕ} {out : List Bool} {disks : Disks} {guid : List ℕ} {loss : Loss} {sequence timestamp : ℕ} {old between new : MemoryBay}
    (run : behind.IsRebuilding name total asked out disks guid loss sequence timestamp old between new) (bytes : List ℕ)
    (holds : HoldsBlocks (view_at (turn_before loss) false) (disks_of old).held (filled_with bytes)) where
  abbrev losing : steps.IsLosing name disks guid loss sequence timestamp run.stands.group
  losing = behind.losing run

  module _ (plan : IsPlanned (behind.found run) timestamp word) (done : AreRoundsDone (behind.work run) (behind.found run) plan) (few : (state_of new).asked ≤ behind.most run) where
    same_first : IsSameLow done.before (disks_of old).held
    same_first slot lba below =
        steps_aside (steps.first_steps losing) (steps.seats losing) (disks_of old).held done.before (behind.first_written run plan done) (steps.first_plain losing) (steps.first_on losing)
        (behind_five disks loss) slot lba below

    same_last : IsSameLow (disks_of new).held (behind.its_round run plan done).filled
    same_last slot lba below =
        steps_aside (steps.both losing).second.steps (steps.seats losing) (behind.its_round run plan done).filled (disks_of new).held (behind.its_round run plan done).is_written
        (steps.both losing).second.plain_steps (steps.second_on losing) (behind_five disks loss) slot lba below

    sure : (slot : ℕ) → IsOn (view_begun loss) slot → Failed (disks_of between) (disks_of new) slot → ⊥
    sure slot on failed =
        behind.calm run (let room = run.enough in omega (arith, few, room)) slot (subst (λ (all : List Seat). IsOneOf (slots_of all) slot) (sym (behind.found_seats run)) (on_seat disks loss slot on)) (inl failed)

    blocks_behind : HoldsBlocks (view_at (turn_behind loss) false) (disks_of new).held (filled_with bytes)
    blocks_behind =
        images_hold loss (filled_with bytes) (disks_of old).held done.before (behind.its_round run plan done).filled (disks_of new).held (memory_sectors old) (memory_sectors new) same_first
        (behind.its_round run plan done).is_filled.stays ((behind.its_round run plan done).is_filled.rebuilt (inl sure)) same_last holds

  -- The rebuild is done, the disks are the group behind it, and its blocks are what they were.
  pub rebuild_stores : (after : SinkState) (status : ℕ) → IsRebuildDone (behind.work run) (Some name) timestamp word (answer_of (Unit {0}) unused after status)
      → EndsWell (answer_of (Unit {0}) unused after status) (sequence_line (sequence + 4))
      (StoresAt name total (behind.most run) (behind.left_out run) (whole name disks guid (turn_behind loss) (sequence + 4)) (seats_at disks (turn_behind loss)) (view_at (turn_behind loss) false) bytes new)
  rebuild_stores after status done =
      behind.ends_so run after status done (λ plan rounds few. record { stands = behind.stands_behind run plan rounds few; holds = blocks_behind plan rounds few })
