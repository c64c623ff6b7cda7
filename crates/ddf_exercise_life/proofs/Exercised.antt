-- An exercise that was done is a life, from its label on.
use Rattle.std.proofs.Common.{◌≡◌, ◌≢◌, ◌∙◌, ℕ, ◌<◌, Bool, true, false, List, [], ◌∷◌, ◌++◌, length, Result, Ok, Err, refl, sym, ap, subst, inl, inr, arith}
use Rattle.std.specs.Prelude.{slice_index_or}
use Rattle.std.specs.List.{AllByRecursion}
use Rattle.ddf_bytes.specs.declared.stamp.Stamp.{Stamp}
use Rattle.ddf_header.specs.declared.kind.Revision.TheVariants.{R200}
use Rattle.ddf_bay.specs.Memory.{MemoryState, disks_of, state_of}
use Rattle.ddf_bay.specs.Moments.{GoesOn}
use Rattle.ddf_bay.specs.declared.memory.MemoryBay.{MemoryBay}
use Rattle.ddf_update.specs.NewCopies.{group_of as name_of}
use Rattle.ddf_history.specs.Groups.{Disk}
use Rattle.ddf_history_life.specs.Life.{labelled_disk}
use Rattle.ddf_answer.specs.declared.failure.Failure.{Failure}
use Rattle.ddf_answer.specs.Call.{Answer, Work, answer_of, work_of}
use Rattle.ddf_disk_commands.specs.Label.{IsToldLabel, IsTried as IsLabelTried}
use Rattle.ddf_data_events.specs.Beginnings.{none_promised}
use Rattle.ddf_data_events.specs.Moments.{Moment}
use Rattle.ddf_data_group.specs.Grouped.{Promises}
use Rattle.ddf_answer.proofs.Common.{no_failure}
use Rattle.ddf_data_lives.specs.Standing.{Stands}
use Rattle.ddf_data_lives.proofs.Standing.{label_stands}
use Rattle.ddf_exercise_disks.specs.Ending.{unused}
use Rattle.ddf_exercise.specs.Draws.{behind_fills, first_state}
use Rattle.ddf_exercise.specs.Blocks.{bytes_behind}
use Rattle.ddf_exercise.specs.Exercise.{IsAnswered, IsExerciseDone, IsExercised, IsTriedRead, exercise_line, new_disks}
use Rattle.ddf_exercise.specs.Steps.{all_steps, loss_steps, write_steps}
use Rattle.ddf_exercise.specs.Taking.{AreTaken}
use Rattle.ddf_exercise.specs.declared.steps.Step.{Step}
use Rattle.ddf_exercise.specs.declared.steps.Step.TheVariants as steps
use Rattle.ddf_exercise_life.specs.Lived.{HasLived, IsLived, later_steps, steps_behind}
use Rattle.ddf_exercise_life.proofs.Calm.{IsCalm, calm_then, changes, told_before}
use Rattle.ddf_exercise_life.proofs.Taken.{IsLater, WasDone, both_later, create_comes, go_on, lives_on, not_five, peeled, told_at, writes_later}

-- ---- its steps

all_are : (seed rounds : ℕ) → all_steps seed rounds ≡ steps.Label ∷ later_steps seed rounds
unfolding all_steps
all_are seed rounds = refl

-- behind its creation none is a label or a creation, and the first slot isn't unplugged
behind_later : (seed rounds : ℕ) → AllByRecursion (IsLater 0) (steps_behind seed rounds)
behind_later seed rounds =
    let first = first_state seed in
    let second = behind_fills rounds first in
    let third = behind_fills rounds second in
    let opening : List Step = steps.Resync ∷ steps.Spare 3 ∷ steps.Spare 4 ∷ [] in
    both_later 0 (opening ++ write_steps rounds first ++ loss_steps 1 ++ write_steps rounds second ++ loss_steps 2 ++ write_steps rounds third) (steps.Scrub ∷ [])
    (both_later 0 (opening ++ write_steps rounds first ++ loss_steps 1 ++ write_steps rounds second ++ loss_steps 2) (write_steps rounds third)
    (both_later 0 (opening ++ write_steps rounds first ++ loss_steps 1 ++ write_steps rounds second) (loss_steps 2)
    (both_later 0 (opening ++ write_steps rounds first ++ loss_steps 1) (write_steps rounds second)
    (both_later 0 (opening ++ write_steps rounds first) (loss_steps 1)
    (both_later 0 opening (write_steps rounds first) (tt, (tt, (tt, tt))) (writes_later 0 rounds first))
    (apart 1 (omega arith), (tt, tt)))
    (writes_later 0 rounds second))
    (apart 2 (omega arith), (tt, tt)))
    (writes_later 0 rounds third))
    (tt, tt)
  where
    apart : (slot : ℕ) → 0 < slot → 0 ≢ slot
    apart slot some same = omega (arith, some, same)

-- ---- its label

label_tried : {D : Type 0} (work : Work D) (stamp : Stamp) (answer : Answer) (outcome : Result (Unit {0}) Failure) → IsLabelTried work false R200 stamp [] outcome → IsToldLabel outcome answer → answer.status ≡ 0
    → IsLabelTried work false R200 stamp [] (Ok tt)
label_tried work stamp answer (Ok done) tried ends zero = tried
label_tried work stamp answer (Err failure) tried ends zero = absurd (no_failure failure answer ends zero)

module _ (stamp : Stamp) (seed rounds : ℕ) (old new : MemoryBay) (is_new : state_of old ≡ new_disks rounds) (told : (disks_of new).tells_left) where
  made_calm : IsCalm old
  made_calm = record {
    none_listed = ap (λ (state : MemoryState). state.failing) is_new;
    never_over = ap (λ (state : MemoryState). state.stop_after) is_new;
    sizes_are = ap (λ (state : MemoryState). state.sizes) is_new;
  }

  abbrev disk : Disk
  disk = labelled_disk false R200 stamp (disks_of old).sizes 0

  there : 0 < length (disks_of old).sizes
  there = subst (λ (sizes : List ℕ). 0 < length sizes) (sym (made_calm).sizes_are) (omega arith)

  module _ (labelled : MemoryBay) (done : WasDone stamp steps.Label old labelled) (told_old : (disks_of old).tells_left) (told_then : (disks_of labelled).tells_left) where
    abbrev goes : GoesOn (disks_of old) (disks_of labelled)
    goes = done.taken.goes_on

    plugged : (disks_of labelled).gone 0 → ⊥
    plugged gone =
        let same = (changes old labelled goes).same_unplugged in
        let was : slice_index_or (state_of old).unplugged 0 false ≡ true = ap (λ (unplugged : List Bool). slice_index_or unplugged 0 false) (sym same) ∙ gone in
        let made : slice_index_or (state_of old).unplugged 0 false ≡ false = ap (λ (state : MemoryState). slice_index_or state.unplugged 0 false) is_new in
        let both : true ≡ false = sym was ∙ made in
        cc

    begun : (moment : Moment (name_of stamp) MemoryBay) × Stands (name_of stamp) 0 (labelled_disk false R200 stamp (disks_of old).sizes 0) moment × (moment.bay ≡ labelled) × (moment.promises ≡ none_promised)
    begun =
        label_stands false R200 stamp old labelled 0
        (label_tried (work_of (Unit {0}) (disks_of old) (disks_of labelled)) stamp (answer_of (Unit {0}) unused done.after done.status) done.taken.done.outcome done.taken.done.tried done.taken.done.ends done.is_zero)
        (changes old labelled goes).same_sizes told_old told_then there plugged

    then_calm : IsCalm labelled
    then_calm = calm_then old labelled goes made_calm

  pub is_lived : AreTaken stamp 0 (all_steps seed rounds) old new 0 → IsLived stamp (later_steps seed rounds) old new
  is_lived taken =
      let all = subst (λ (some : List Step). AreTaken stamp 0 some old new 0) (all_are seed rounds) taken in
      let first = peeled stamp 0 steps.Label (later_steps seed rounds) old new all in
      let told_then = told_at stamp (later_steps seed rounds) 1 first.next new first.rest told in
      let told_old = told_at stamp (all_steps seed rounds) 0 old new taken told in
      let from = begun first.next first.first told_old told_then in
      let start_calm = subst IsCalm (sym from.2) (then_calm first.next first.first told_old told_then) in
      let rest = subst (λ (bay : MemoryBay). AreTaken stamp 1 (later_steps seed rounds) bay new 0) (sym from.2) first.rest in
      let second = peeled stamp 1 steps.Create (steps_behind seed rounds) from.0.bay new rest in
      let told_created = told_at stamp (steps_behind seed rounds) 2 second.next new second.rest told in
      let comes = create_comes stamp 0 disk from.0 from.1 start_calm second.next told_created (λ guid. ap (λ (promises : Promises). promises guid) from.3) second.first in
      let made = comes.made in
      let others = lives_on stamp 0 disk (steps_behind seed rounds) (behind_later seed rounds) 2 made.next made.next_stands (subst IsCalm (sym made.is_bay) comes.calm) new told
      (subst (λ (bay : MemoryBay). AreTaken stamp 2 (steps_behind seed rounds) bay new 0) (sym made.is_bay) second.rest) in
      let whole = go_on stamp 0 disk steps.Create (steps_behind seed rounds) from.0 new second.next from.1 made others in
      record { start = from.0; nothing = from.3; last = whole.last; is_bay = whole.is_bay; lives = whole.lives }

-- ---- an exercise that ended with status 0

module _ (stamp : Stamp) (seed rounds : ℕ) (old new : MemoryBay) (is_new : state_of old ≡ new_disks rounds) (told : (disks_of new).tells_left) where
  -- All of its blocks were read in the end,
  told_between : (between : MemoryBay) → IsTriedRead stamp (bytes_behind (all_steps seed rounds)) between new 0 → (disks_of between).tells_left
  told_between between (inl read) = told_before between new read.call.goes_on told
  told_between between (inr lacks) = absurd (not_five 0 refl lacks.is_status)

  -- behind all of its steps.
  lived_through : IsExercised stamp seed rounds old new 0 → HasLived stamp seed rounds
  lived_through (inl went) = record { old = old; is_new = is_new; new = went.between; lived = is_lived stamp seed rounds old went.between is_new (told_between went.between went.read) went.taken }
  lived_through (inr (inl ended)) = absurd (ended.not_done refl)
  lived_through (inr (inr lacks)) = absurd (not_five 0 refl lacks.is_status)

  pub has_lived : (answer : Answer) → IsExerciseDone stamp seed rounds old new answer → answer.status ≡ 0 → HasLived stamp seed rounds
  has_lived answer done zero = by done.came_to done.exercised done.answered
    where
      by : (came_to : ℕ) → IsExercised stamp seed rounds old new came_to → IsAnswered came_to (exercise_line seed rounds) answer → HasLived stamp seed rounds
      by came_to exercised (inl (is, closes)) = lived_through (subst (IsExercised stamp seed rounds old new) is exercised)
      by came_to exercised (inr (not, is, same)) = absurd (not (sym is ∙ zero))
