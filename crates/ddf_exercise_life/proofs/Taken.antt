-- Each step of an exercise that was done is a turn of a life, and all of them are.
use Rattle.std.proofs.Common.{◌≡◌, ◌≢◌, ◌∙◌, ◌==◌, ℕ, zero, suc, ◌+◌, ◌*◌, Bool, true, false, List, [], ◌∷◌, ◌++◌, length, replicate, None, refl, sym, subst, inl, inr, arith}
use Rattle.std.proofs.lemmas.Bool.{eq-eqb, eqb-true, false≢true}
use Rattle.std.specs.List.{AllByRecursion}
use Rattle.ddf_bytes.specs.declared.stamp.Stamp.{Stamp}
use Rattle.ddf_bytes.specs.Stamps.{timestamp_of}
use Rattle.ddf_bytes.specs.Streams.{SinkState}
use Rattle.ddf_bay.specs.Memory.{disks_of}
use Rattle.ddf_bay.specs.Moments.{GoesOn}
use Rattle.ddf_bay.specs.declared.memory.MemoryBay.{MemoryBay}
use Rattle.ddf_update.specs.NewCopies.{group_of as name_of}
use Rattle.ddf_history.specs.Groups.{Disk}
use Rattle.ddf_words.specs.declared.command.SpareWord.TheVariants.{Global}
use Rattle.ddf_answer.specs.Call.{Answer, answer_of}
use Rattle.ddf_data_events.specs.Moments.{Moment}
use Rattle.ddf_data_lives.specs.Standing.{Stands}
use Rattle.ddf_exercise_disks.specs.Ending.{unused}
use Rattle.ddf_exercise.specs.Draws.{behind_fill}
use Rattle.ddf_exercise.specs.Steps.{rise, write_steps}
use Rattle.ddf_exercise.specs.Taking.{AreTaken, Going, IsTaken, IsTried, array_asked, array_name, given}
use Rattle.ddf_exercise.specs.declared.steps.Step.{Step}
use Rattle.ddf_exercise.specs.declared.steps.Step.TheVariants as steps
use Rattle.ddf_exercise_life.specs.Lived.{Lives}
use Rattle.ddf_exercise_life.proofs.Calm.{IsCalm, calm_then, calm_well, calm_without, still_plugged, told_before, told_still}
use Rattle.ddf_exercise_life.proofs.Told.{counted_done}
use Rattle.ddf_exercise_life.proofs.Turns as turns
use Rattle.ddf_exercise_life.proofs.Turns.{Made}

-- ---- steps that were done

pub not_five : (status : ℕ) → status ≡ 0 → status ≡ 5 → ⊥
not_five status none five = omega (arith, none, five)

-- a step was taken, and its call ended with status 0
pub record WasDone (stamp : Stamp) (step : Step) (old new : MemoryBay) : Type 0 where
  pub after : SinkState
  pub status : ℕ
  pub is_zero : status ≡ 0
  pub taken : IsTaken stamp step old new unused after status

pub was_done : (stamp : Stamp) (step : Step) (sequence : ℕ) (old new : MemoryBay) (code : ℕ) → code ≡ 0 → IsTried stamp step sequence old new code → WasDone stamp step old new
was_done stamp step sequence old new code none (inl tried) = record {
  after = tried.after;
  status = tried.status;
  is_zero = counted_done tried.status tried.counts.as_it_should (sym none ∙ tried.counts.is_code);
  taken = tried.taken;
}
was_done stamp step sequence old new code none (inr lacks) = absurd (not_five code none lacks.is_status)

-- The bay told before it what a stop may leave.
pub told_earlier : (stamp : Stamp) (step : Step) (old new : MemoryBay) → WasDone stamp step old new → (disks_of new).tells_left → (disks_of old).tells_left
told_earlier stamp steps.Label old new done told = told_before old new done.taken.goes_on told
told_earlier stamp steps.Create old new done told = by done.taken
  where
    by : IsTaken stamp steps.Create old new unused done.after done.status → (disks_of old).tells_left
    by (inl call) = told_before old new call.goes_on told
    by (inr lacks) = absurd (not_five done.status done.is_zero lacks.is_status)
told_earlier stamp steps.Resync old new done told = told_before old new done.taken.goes_on told
told_earlier stamp (steps.Spare slot) old new done told = told_before old new done.taken.goes_on told
told_earlier stamp (steps.Write fill) old new done told = by done.taken
  where
    by : IsTaken stamp (steps.Write fill) old new unused done.after done.status → (disks_of old).tells_left
    by (inl call) = told_before old new call.goes_on told
    by (inr lacks) = absurd (not_five done.status done.is_zero lacks.is_status)
told_earlier stamp (steps.Unplug slot) old new done told = told_still old new slot done.taken.0 told
told_earlier stamp steps.Rebuild old new done told = told_before old new done.taken.goes_on told
told_earlier stamp steps.Scrub old new done told = told_before old new done.taken.goes_on told

-- ---- one step

-- it is none that comes first, and unplugs another slot
abbrev pub IsLater : (kept : ℕ) → Step → Type 0
IsLater kept steps.Label = ⊥
IsLater kept steps.Create = ⊥
IsLater kept (steps.Unplug slot) = kept ≢ slot
IsLater kept step = Unit {0}

-- it was made a turn, and the disks are calm behind it
pub record Comes (group : List ℕ) (kept : ℕ) (disk : Disk) (step : Step) (old : Moment group MemoryBay) (bay : MemoryBay) : Type 0 where
  pub made : Made group kept disk step old bay
  pub calm : IsCalm bay

module _ (stamp : Stamp) (kept : ℕ) (disk : Disk) where
  abbrev name : List ℕ
  name = name_of stamp

  module _ (old : Moment name MemoryBay) (stands : Stands name kept disk old) (calm : IsCalm old.bay) (bay : MemoryBay) (told : (disks_of bay).tells_left) where
    abbrev answered : SinkState → ℕ → Answer
    answered after status = answer_of (Unit {0}) unused after status

    comes_by : (step : Step) → GoesOn (disks_of old.bay) (disks_of bay) → Made name kept disk step old bay → Comes name kept disk step old bay
    comes_by step goes made = record { made = made; calm = calm_then old.bay bay goes calm }

    pub create_comes : ((guid : List ℕ) → old.promises guid ≡ None) → WasDone stamp steps.Create old.bay bay → Comes name kept disk steps.Create old bay
    create_comes nothing done = by done.taken
      where
        by : IsTaken stamp steps.Create old.bay bay unused done.after done.status → Comes name kept disk steps.Create old bay
        by (inl call) =
            comes_by steps.Create call.goes_on
            (turns.create_made name kept disk old stands bay (calm_well old.bay bay call.goes_on calm) told (answered done.after done.status) done.is_zero stamp (length (disks_of old.bay).sizes) (timestamp_of stamp) array_asked nothing call.done)
        by (inr lacks) = absurd (not_five done.status done.is_zero lacks.is_status)

    pub step_comes : (step : Step) → IsLater kept step → WasDone stamp step old.bay bay → Comes name kept disk step old bay
    step_comes steps.Label later done = absurd later
    step_comes steps.Create later done = absurd later
    step_comes steps.Resync later done =
        let call = done.taken in
        comes_by steps.Resync call.goes_on
        (turns.resync_made name kept disk old stands bay (calm_well old.bay bay call.goes_on calm) told (answered done.after done.status) done.is_zero (timestamp_of stamp) array_name call.done)
    step_comes (steps.Spare slot) later done =
        let call = done.taken in
        comes_by (steps.Spare slot) call.goes_on
        (turns.spare_made name kept disk old stands bay (calm_well old.bay bay call.goes_on calm) told (answered done.after done.status) done.is_zero stamp (length (disks_of old.bay).sizes) (timestamp_of stamp) slot Global call.done)
    step_comes (steps.Write fill) later done = by done.taken
      where
        by : IsTaken stamp (steps.Write fill) old.bay bay unused done.after done.status → Comes name kept disk (steps.Write fill) old bay
        by (inl call) =
            comes_by (steps.Write fill) call.goes_on
            (turns.write_made name kept disk old stands bay (calm_well old.bay bay call.goes_on calm) told (answered done.after done.status) done.is_zero fill (given (replicate (512 * fill.count) fill.byte)) call.left
            (timestamp_of stamp) array_name call.done)
        by (inr lacks) = absurd (not_five done.status done.is_zero lacks.is_status)
    step_comes (steps.Unplug slot) later done = record {
      made = turns.unplug_made name kept disk old stands slot bay done.taken.0 (still_plugged old.bay bay slot done.taken.0 kept later stands.plugged);
      calm = calm_without old.bay bay slot done.taken.0 calm;
    }
    step_comes steps.Rebuild later done =
        let call = done.taken in
        comes_by steps.Rebuild call.goes_on
        (turns.rebuild_made name kept disk old stands bay (calm_well old.bay bay call.goes_on calm) told (answered done.after done.status) done.is_zero (timestamp_of stamp) array_name call.done)
    step_comes steps.Scrub later done =
        let call = done.taken in
        comes_by steps.Scrub call.goes_on (turns.scrub_made name kept disk old stands bay (calm_well old.bay bay call.goes_on calm) told (answered done.after done.status) done.is_zero (call.stays refl))

-- ---- steps one after another

-- The first of them was done, and the others were taken behind it.
pub record IsPeeled (stamp : Stamp) (sequence : ℕ) (step : Step) (others : List Step) (old new : MemoryBay) : Type 0 where
  pub next : MemoryBay
  pub first : WasDone stamp step old next
  pub rest : AreTaken stamp (sequence + rise step) others next new 0

pub peeled : (stamp : Stamp) (sequence : ℕ) (step : Step) (others : List Step) (old new : MemoryBay) → AreTaken stamp sequence (step ∷ others) old new 0 → IsPeeled stamp sequence step others old new
peeled stamp sequence step others old new taken = by (taken.1 == 0) refl taken.3
  where
    by : (b : Bool) → (taken.1 == 0) ≡ b → Going b (AreTaken stamp (sequence + rise step) others taken.0 new 0) ((new ≡ taken.0) × (0 ≡ taken.1)) → IsPeeled stamp sequence step others old new
    by true is goes = record { next = taken.0; first = was_done stamp step (sequence + rise step) old taken.0 taken.1 (eqb-true taken.1 0 is) taken.2; rest = goes }
    by false is goes = absurd (false≢true (sym is ∙ eq-eqb taken.1 0 (sym goes.1)))

pub told_at : (stamp : Stamp) (all : List Step) (sequence : ℕ) (old new : MemoryBay) → AreTaken stamp sequence all old new 0 → (disks_of new).tells_left → (disks_of old).tells_left
told_at stamp [] sequence old new taken told = subst (λ (bay : MemoryBay). (disks_of bay).tells_left) taken.0 told
told_at stamp (step ∷ others) sequence old new taken told =
    let one = peeled stamp sequence step others old new taken in
    told_earlier stamp step old one.next one.first (told_at stamp others (sequence + rise step) one.next new one.rest told)

module _ (stamp : Stamp) (kept : ℕ) (disk : Disk) where
  abbrev group : List ℕ
  group = name_of stamp

  -- a life of these steps from a moment on, to the end
  pub record LivesTo (all : List Step) (old : Moment group MemoryBay) (new : MemoryBay) : Type 0 where
    pub last : Moment group MemoryBay
    pub is_bay : last.bay ≡ new
    pub lives : Lives group kept disk all old last

  pub go_on : (step : Step) (others : List Step) (old : Moment group MemoryBay) (new bay : MemoryBay) → Stands group kept disk old → (made : Made group kept disk step old bay) → LivesTo others made.next new
      → LivesTo (step ∷ others) old new
  go_on step others old new bay stands made rest =
      record { last = rest.last; is_bay = rest.is_bay; lives = (stands, made.turn, made.is_of, made.next, made.comes, rest.lives) }

  pub lives_on : (all : List Step) → AllByRecursion (IsLater kept) all → (sequence : ℕ) (old : Moment group MemoryBay) → Stands group kept disk old → IsCalm old.bay → (new : MemoryBay)
      → (disks_of new).tells_left → AreTaken stamp sequence all old.bay new 0 → LivesTo all old new
  lives_on [] later sequence old stands calm new told taken = record { last = old; is_bay = sym taken.0; lives = (refl, stands) }
  lives_on (step ∷ others) later sequence old stands calm new told taken =
      let one = peeled stamp sequence step others old.bay new taken in
      let now = told_at stamp others (sequence + rise step) one.next new one.rest told in
      let comes = step_comes stamp kept disk old stands calm one.next now step later.0 one.first in
      let made = comes.made in
      go_on step others old new one.next stands made
      (lives_on others later.1 (sequence + rise step) made.next made.next_stands (subst IsCalm (sym made.is_bay) comes.calm) new told
      (subst (λ (bay : MemoryBay). AreTaken stamp (sequence + rise step) others bay new 0) (sym made.is_bay) one.rest))

-- ---- the steps of an exercise

pub writes_later : (kept left state : ℕ) → AllByRecursion (IsLater kept) (write_steps left state)
writes_later kept zero state = tt
writes_later kept (suc left) state = (tt, writes_later kept left (behind_fill state))

pub both_later : (kept : ℕ) (some others : List Step) → AllByRecursion (IsLater kept) some → AllByRecursion (IsLater kept) others → AllByRecursion (IsLater kept) (some ++ others)
both_later kept [] others one two = two
both_later kept (step ∷ some) others one two = (one.0, both_later kept some others one.1 two)
