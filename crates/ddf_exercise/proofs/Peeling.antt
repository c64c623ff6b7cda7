-- The steps of an exercise, peeled off one after another: each is done, or memory ran out and it is the last.
use Rattle.std.proofs.Common.{◌≡◌, ◌∙◌, ◌⊎◌, ◌==◌, ℕ, ◌+◌, Bool, true, false, List, [], ◌∷◌, sym, ap, inl, inr, ⊎_elim}
use Rattle.ddf_bytes.specs.Streams.{SinkState}
use Rattle.ddf_bytes.specs.declared.stamp.Stamp.{Stamp}
use Rattle.ddf_bay.specs.declared.memory.MemoryBay.{MemoryBay}
use Rattle.ddf_answer.specs.Call.{answer_of}
use Rattle.ddf_exercise.specs.Steps.{rise}
use Rattle.ddf_exercise.specs.Taking.{AreTaken, CountsAs, Going, IsTaken, IsTried, LacksMemory, counted, line_of, unused}
use Rattle.ddf_exercise.specs.declared.steps.Step.{Step}
use Rattle.ddf_exercise_disks.specs.Ending.{EndsWell}

-- It was done so that this holds, or memory ran out.
abbrev pub GoesOnOr : (code : ℕ) → (P : Type 0) → Type 0
GoesOnOr code P = (code ≡ 5) ⊎ ((code ≡ 0) × P)

-- ---- how a call counts

module _ (told expected : List ℕ) (status code : ℕ) (counts : CountsAs told expected status code) where
  when_five : status ≡ 5 → code ≡ 5
  when_five is = counts.is_code ∙ ap (λ (n : ℕ). counted n counts.as_it_should) is

  when_six : status ≡ 6 → code ≡ 5
  when_six is = counts.is_code ∙ ap (λ (n : ℕ). counted n counts.as_it_should) is

  when_done : status ≡ 0 → told ≡ expected → code ≡ 0
  when_done is same =
      let right : counts.as_it_should ≡ true = counts.tells.1 same in
      counts.is_code ∙ ap (λ (n : ℕ). counted n counts.as_it_should) is ∙ ap (λ (b : Bool). counted 0 b) right

  pub counts_well : {P : Type 0} → (status ≡ 5) ⊎ (status ≡ 6) ⊎ ((status ≡ 0) × (told ≡ expected) × P) → GoesOnOr code P
  counts_well (inl five) = inl (when_five five)
  counts_well (inr (inl six)) = inl (when_six six)
  counts_well (inr (inr (done, same, p))) = inr (when_done done same, p)

-- One that ends well counts so, where it tells what the step should.
pub ends_well : {P : Type 0} (after : SinkState) (status code : ℕ) (text expected : List ℕ) → CountsAs after.taken expected status code → text ≡ expected
    → EndsWell (answer_of (Unit {0}) unused after status) text P → GoesOnOr code P
ends_well after status code text expected counts same ends =
    counts_well after.taken expected status code counts (⊎_elim inl (λ rest. inr (⊎_elim inl (λ done. inr (done.0, done.1 ∙ same, done.2)) rest)) ends)

-- One that lacks memory is the last.
pub lacks_on : {P : Type 0} {old new : MemoryBay} (after : SinkState) (status code : ℕ) (expected : List ℕ) → LacksMemory old new unused after status → CountsAs after.taken expected status code → GoesOnOr code P
lacks_on after status code expected lacks counts = inl (when_five after.taken expected status code counts lacks.is_status)

-- A slot that was unplugged tells nothing.
pub unplugged_well : {P : Type 0} (after : SinkState) (status code : ℕ) (expected : List ℕ) → after ≡ unused → status ≡ 0 → CountsAs after.taken expected status code → expected ≡ [] → P → GoesOnOr code P
unplugged_well after status code expected same is counts none p =
    inr (when_done after.taken expected status code counts is (ap (λ (sink : SinkState). sink.taken) same ∙ sym none), p)

-- ---- steps

-- A step goes on so where its call does.
pub tried_on : {P : Type 0} (stamp : Stamp) (step : Step) (sequence : ℕ) (old new : MemoryBay) (code : ℕ) → IsTried stamp step sequence old new code
    → ((after : SinkState) (status : ℕ) → IsTaken stamp step old new unused after status → CountsAs after.taken (line_of step sequence) status code → GoesOnOr code P) → GoesOnOr code P
tried_on stamp step sequence old new code (inl taken) each = each taken.after taken.status taken.taken taken.counts
tried_on stamp step sequence old new code (inr lacks) each = inl lacks.is_status

going_true : (A B : Type 0) (b : Bool) → b ≡ true → Going b A B → A
going_true A B true is goes = goes
going_true A B false is goes = absurd cc

going_false : (A B : Type 0) (b : Bool) → b ≡ false → Going b A B → B
going_false A B true is goes = absurd cc
going_false A B false is goes = goes

-- The first step is peeled off: what it leaves goes on, with the others behind it.
pub peel : {Q : MemoryBay → Type 0} {R : Type 0} (stamp : Stamp) (sequence : ℕ) (step : Step) (steps : List Step) (old new : MemoryBay) (code : ℕ)
    → ((next : MemoryBay) (status : ℕ) → IsTried stamp step (sequence + rise step) old next status → GoesOnOr status (Q next))
    → ((next : MemoryBay) → Q next → AreTaken stamp (sequence + rise step) steps next new code → GoesOnOr code R)
    → AreTaken stamp sequence (step ∷ steps) old new code → GoesOnOr code R
peel {Q = Q} {R = R} stamp sequence step steps old new code first others taken = by_status taken.0 taken.1 (first taken.0 taken.1 taken.2) taken.3
  where
    by_status : (next : MemoryBay) (status : ℕ) → GoesOnOr status (Q next)
        → Going (status == 0) (AreTaken stamp (sequence + rise step) steps next new code) ((new ≡ next) × (code ≡ status)) → GoesOnOr code R
    by_status next status (inl five) goes = let last = going_false (AreTaken stamp (sequence + rise step) steps next new code) ((new ≡ next) × (code ≡ status)) (status == 0) (ap (λ (n : ℕ). n == 0) five) goes in inl (last.1 ∙ five)
    by_status next status (inr (done, q)) goes =
        others next q (going_true (AreTaken stamp (sequence + rise step) steps next new code) ((new ≡ next) × (code ≡ status)) (status == 0) (ap (λ (n : ℕ). n == 0) done) goes)
