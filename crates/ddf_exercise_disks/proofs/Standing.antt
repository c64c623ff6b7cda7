-- A change of the group, where nothing refuses it and no slot of a seat fails.
use Rattle.std.proofs.Common.{◌≡◌, ◌∙◌, ◌⊎◌, ℕ, suc, ◌+◌, ◌*◌, ◌^◌, ◌<◌, ◌≤◌, Bool, false, List, [], ◌∷◌, ◌++◌, length, Option, Some, Result, Ok, Err, refl, sym, ap, subst, inl, inr, ⊎_elim, arith}
use Rattle.std.specs.Prelude.{IsTrue, slice_index, slice_index_or}
use Rattle.std.specs.List.{AllByRecursion, sum_by}
use Rattle.std.proofs.lemmas.List.Sums.{sum_by-cons}
use Rattle.std.proofs.Math.Nat.{mul-le-mul_left}
use Rattle.ddf_bytes.specs.Streams.{SinkState}
use Rattle.ddf_bay.specs.Memory.{disks_of, state_of}
use Rattle.ddf_bay.specs.Moments.{GoesOn}
use Rattle.ddf_bay.specs.ReadsOnly.{LookFailed, SlotRose}
use Rattle.ddf_bay.specs.declared.memory.MemoryBay.{MemoryBay}
use Rattle.ddf_copy.specs.declared.newest_copy.Newest.{Newest}
use Rattle.ddf_config.specs.declared.seat.Seat.{Seat}
use Rattle.ddf_config.specs.Configuration.{Configuration}
use Rattle.ddf_plan.specs.declared.change.Change.{Change}
use Rattle.ddf_update.specs.Group.{IsOneOf}
use Rattle.ddf_steps.specs.Committed.{slots_of}
use Rattle.ddf_seats.specs.Group.{GroupValue}
use Rattle.ddf_assembly.specs.Group.{group_of}
use Rattle.ddf_steps.specs.Ready.{group_after}
use Rattle.ddf_recovery.specs.Ready.{readied}
use Rattle.ddf_recovery.specs.Recovery.{config_recovered}
use Rattle.ddf_seats.specs.Seated.{seats_in}
use Rattle.ddf_assembly.specs.Slots.{AreOut, newest_from}
use Rattle.ddf_steps.specs.Steps.{Step}
use Rattle.ddf_seats.specs.declared.seated.Seated.{Seated}
use Rattle.ddf_text.specs.Done.{sequence_line}
use Rattle.ddf_answer.specs.declared.failure.Failure.{Failure}
use Rattle.ddf_answer.specs.declared.failure.Failure.TheVariants.{Conflict, Disk, Memory, Refused, Split}
use Rattle.ddf_answer.specs.Call.{Work, answer_of, work_of}
use Rattle.ddf_answer.specs.Costs.{copy_sectors, disk_sectors}
use Rattle.ddf_answer.specs.Call.{Answer}
use Rattle.ddf_group_commands.specs.Change.{CostsOfSteps, IsChangeDone, IsDoneTo, IsToldChange, Request, last_sequence, steps_asked, steps_of, steps_or}
use Rattle.ddf_group_commands.specs.Costs.{CostsOfAsked, steps_sectors}
use Rattle.ddf_group_commands.specs.Written.{AreWritten}
use Rattle.ddf_uncut_group.specs.Asking.{AreNext, AreReadiedTo}
use Rattle.ddf_uncut_group.specs.Plain.{ArePlain, IsPlain}
use Rattle.ddf_uncut_group.specs.Settled.{group_behind, newest_held}
use Rattle.ddf_uncut_group.proofs.AskingReadied.{all_asked, all_readied, seats_long}
use Rattle.ddf_uncut_group.proofs.PlainCopies.{plain_sectors}
use Rattle.ddf_uncut_group.proofs.StepsSettled.{steps_settled}
use Rattle.ddf_uncut_group.proofs.SettledDone.{newest_is}
use Rattle.ddf_exercise_disks.specs.Ending.{unused}
use Rattle.ddf_exercise_disks.proofs.Healthy.{left_is, no_rise, stays_well}
use Rattle.ddf_exercise_disks.specs.Well.{sizes_made}
use Rattle.ddf_exercise_disks.specs.Standing.{StandsAt}
use Rattle.ddf_exercise_disks.specs.Ending.{EndsWell}
use Rattle.ddf_exercise_disks.proofs.Aside.{AreOnFive, steps_aside}
use Rattle.ddf_exercise_disks.proofs.Outcomes.{change_ends, same_steps}

times_le : (k m n : ℕ) → m ≤ n → k * m ≤ k * n
times_le k m n less = mul-le-mul_left k less

-- ---- sequence numbers and costs

pub last_is : (group : GroupValue) (steps : List Step) → last_sequence group.config.sequence steps ≡ (group_behind group steps).config.sequence
last_is group [] = refl
last_is group (step ∷ steps) = last_is (group_after group step) steps

-- A copy as those of new disks costs 83 sectors.
disk_cost : (disk : Seated) → IsPlain (slice_index sizes_made disk.seat.slot) disk.copy → disk_sectors disk.copy ≡ 83
unfolding copy_sectors
disk_cost disk plain = ap (λ (sectors : ℕ). 2 * (sectors + 2) + 1) (plain_sectors (slice_index sizes_made disk.seat.slot) disk.copy plain)

disks_cost : (disks : List Seated) → ArePlain sizes_made disks → sum_by (λ (disk : Seated). disk_sectors disk.copy) disks ≡ 83 * length disks
disks_cost [] plain = refl
disks_cost (disk ∷ disks) plain =
    let here = disk_cost disk plain.0 in
    let rest = disks_cost disks plain.1 in
    let both = sum_by-cons (λ (one : Seated). disk_sectors one.copy) disk disks in
    omega (arith, here, rest, both)

pub steps_cost : (seats : List Seat) (steps : List Step) → AllByRecursion (λ (step : Step). ArePlain sizes_made step.disks) steps
    → AllByRecursion (λ (step : Step). seats_in step.disks ≡ seats) steps → steps_sectors steps ≡ 83 * length seats * length steps
steps_cost seats [] plain all = omega arith
steps_cost seats (step ∷ steps) plain all =
    let here = disks_cost step.disks plain.0 in
    let long : length step.disks ≡ length seats = sym (seats_long step.disks) ∙ ap (λ (some : List Seat). length some) all.0 in
    let rest = steps_cost seats steps plain.1 all.1 in
    let one : 83 * length step.disks ≡ 83 * length seats = ap (λ (n : ℕ). 83 * n) long in
    let more : 83 * length seats * suc (length steps) ≡ 83 * length seats + 83 * length seats * length steps = omega arith in
    omega (arith, here, one, rest, more)

-- ---- what a call finds

pub memory_or : (outcome : Result ℕ Failure) → (outcome ≡ Err Memory) ⊎ (outcome ≡ Err Memory → ⊥)
memory_or (Ok sequence) = inr (λ is. cc)
memory_or (Err (Refused refusal)) = inr (λ is. cc)
memory_or (Err (Disk slot)) = inr (λ is. cc)
memory_or (Err (Conflict i j sequence differ)) = inr (λ is. cc)
memory_or (Err (Split i j)) = inr (λ is. cc)
memory_or (Err Memory) = inl refl

pub memory_told : (outcome : Result ℕ Failure) (answer : Answer) → outcome ≡ Err Memory → IsToldChange outcome answer → answer.status ≡ 5
memory_told (Ok sequence) answer is ends = absurd cc
memory_told (Err (Refused refusal)) answer is ends = absurd cc
memory_told (Err (Disk slot)) answer is ends = absurd cc
memory_told (Err (Conflict i j sequence differ)) answer is ends = absurd cc
memory_told (Err (Split i j)) answer is ends = absurd cc
memory_told (Err Memory) answer is ends = ends.0

-- ---- the slots of seats

seats_five : (seats : List Seat) → ((slot : ℕ) → IsOneOf (slots_of seats) slot → slot < 5) → AreOnFive seats
seats_five [] each = tt
seats_five (seat ∷ seats) each = (each seat.slot (record { place = 0; is_there = refl }), seats_five seats (λ slot one. each slot (record { place = suc one.place; is_there = one.is_there })))

-- those of a group that stands
pub on_five : (name : List ℕ) (total asked : ℕ) (out : List Bool) (config : Configuration) (seats : List Seat) (bay : MemoryBay) → (stands : StandsAt name total asked out config seats bay)
    → AreOnFive stands.group.seats
on_five name total asked out config seats bay stands = subst AreOnFive (sym stands.seats_are) (seats_five seats (λ slot one. (stands.here slot one).0))

-- ---- how a call ends

pub ends_then : (answer : Answer) (text : List ℕ) {P Q : Type 0} → (P → Q) → EndsWell answer text P → EndsWell answer text Q
ends_then answer text to (inl five) = inl five
ends_then answer text to (inr (inl six)) = inr (inl six)
ends_then answer text to (inr (inr (is, taken, p))) = inr (inr (is, taken, to p))

-- no sector below the disks' records is another one
abbrev pub StaysLow : (old new : MemoryBay) → Type 0
StaysLow old new = (slot l : ℕ) → l < 32687 → (disks_of new).held slot l ≡ (disks_of old).held slot l

module _ (name : List ℕ) (total asked : ℕ) (out : List Bool) (config : Configuration) (seats : List Seat) (old new : MemoryBay) (stands : StandsAt name total asked out config seats old)
    (goes : GoesOn (disks_of old) (disks_of new)) where
  abbrev work : Work MemoryBay
  work = work_of (Unit {0}) (disks_of old) (disks_of new)

  -- Its slots are left out that are unplugged, and it finds the group.
  pub finds : (left : List Bool) (newest : List (Option Newest)) → length left ≡ length (disks_of old).sizes
      → ((slot : ℕ) → slot < length left → IsTrue (slice_index_or left slot false) → LookFailed (disks_of old) (disks_of new) slot) → AreOut (disks_of old) left
      → newest ≡ newest_from (disks_of old) 0 left → group_of newest (Some name) ≡ Ok stands.group
  finds left newest long failed gone read =
      let is_out : left ≡ out = left_is total out left old new stands.well goes long failed gone in
      let is_held : newest ≡ stands.group.newest =
      read ∙ ap (newest_from (disks_of old) 0) is_out ∙ newest_is (disks_of old) 0 out ∙ ap (λ (sizes : List ℕ). newest_held sizes (disks_of old).held 0 out) stands.well.sizes_are
      ∙ stands.settled.are_held in
      ap (λ (all : List (Option Newest)). group_of all (Some name)) is_held
      ∙ ap (λ (one : List ℕ). group_of stands.group.newest (Some one)) (sym (ap (λ (some : Configuration). some.group) stands.config_is ∙ stands.named))
      ∙ stands.settled.is_told.is_found

  -- while no more is asked for than there is room, no call on a seat's slot fails
  pub calm : (state_of new).asked ≤ total → (slot : ℕ) → IsOneOf (slots_of stands.group.seats) slot → SlotRose (disks_of old) (disks_of new) slot → ⊥
  calm few slot seat rose =
      let at = stands.here slot (subst (λ (all : List Seat). IsOneOf (slots_of all) slot) stands.seats_are seat) in
      no_rise total out old new stands.well goes few slot at.0 at.1 rose

  -- what is asked of it, where nothing is absent
  pub recovered : config_recovered stands.group ≡ config
  unfolding config_recovered
  recovered = rw stands.settled.is_told.is_settled.none_absent stands.config_is

  pub asks : (timestamp : ℕ) (request : Request) (changes : List Change) (steps : List Step) → request config seats ≡ Ok changes → readied stands.group changes timestamp ≡ Ok steps
      → steps_of stands.group timestamp request ≡ Ok steps
  asks timestamp request changes steps is ready =
      ap (λ (some : Configuration). steps_asked stands.group timestamp (request some stands.group.seats)) recovered
      ∙ ap (λ (all : List Seat). steps_asked stands.group timestamp (request config all)) stands.seats_are
      ∙ ap (steps_asked stands.group timestamp) is
      ∙ ap steps_or ready

  -- ---- a change of the group

  module _ (timestamp : ℕ) (time : timestamp < 2 ^ 32) (request : Request) (changes : List Change) (next : Configuration) (requested : request config seats ≡ Ok changes)
      (are : AreNext seats config changes next) (same_name : next.group ≡ name) (enough : asked + 83 * length seats * length changes ≤ total) where
    are_next : AreNext stands.group.seats stands.group.config changes next
    are_next = subst (λ (some : Configuration). AreNext stands.group.seats some changes next) (sym stands.config_is) (subst (λ (all : List Seat). AreNext all config changes next) (sym stands.seats_are) are)

    pub readies : AreReadiedTo sizes_made timestamp stands.group changes next
    readies = all_readied sizes_made timestamp time changes stands.group next stands.settled.is_told stands.plain are_next

    steps_are : steps_of stands.group timestamp request ≡ Ok readies.steps
    steps_are = asks timestamp request changes readies.steps requested readies.are_readied

    steps_few : steps_sectors readies.steps ≤ 83 * length seats * length changes
    steps_few =
        let cost = steps_cost stands.group.seats readies.steps readies.plain_steps readies.on_all in
        let long : length stands.group.seats ≡ length seats = ap (λ (all : List Seat). length all) stands.seats_are in
        let fewer = readies.few in
        let same : 83 * length stands.group.seats * length readies.steps ≡ 83 * length seats * length readies.steps = ap (λ (n : ℕ). 83 * n * length readies.steps) long in
        let most : 83 * length seats * length readies.steps ≤ 83 * length seats * length changes = times_le (83 * length seats) (length readies.steps) (length changes) fewer in
        omega (arith, cost, same, most)

    -- It was done, and the disks are the group behind it.
    module _ (after : SinkState) (status : ℕ) (done : IsChangeDone work (Some name) timestamp request (answer_of (Unit {0}) unused after status)) where
      abbrev Then : Type 0
      Then = StandsAt name total (asked + 83 * length seats * length changes) out next seats new

      module _ (is_found : group_of done.has.taken.newest (Some name) ≡ Ok stands.group) where
        asks_few : (state_of new).asked ≤ asked + 83 * length seats * length changes
        asks_few =
            let of_found : CostsOfSteps work timestamp request (Ok stands.group) = subst (CostsOfSteps work timestamp request) is_found done.has.costs in
            let of_steps : CostsOfAsked work (Ok readies.steps) = subst (CostsOfAsked work) steps_are of_found in
            let cost = of_steps.asked in
            let before = stands.few in
            let most = steps_few in
            omega (arith, cost, before, most)

        within : (state_of new).asked ≤ total
        within = let few = asks_few in omega (arith, few, enough)

        abbrev HasDone : Type 0
        HasDone = IsDoneTo work stands.group (steps_of stands.group timestamp request) (last_sequence stands.group.config.sequence readies.steps)

        written_then : HasDone → AreWritten sizes_made (disks_of old).held readies.steps (disks_of new).held
        written_then changed =
            let same : changed.steps ≡ readies.steps = same_steps (steps_of stands.group timestamp request) readies.steps changed.steps steps_are changed.are_asked in
            subst (λ (sizes : List ℕ). AreWritten sizes (disks_of old).held readies.steps (disks_of new).held) stands.well.sizes_are
            (subst (λ (steps : List Step). AreWritten (disks_of old).sizes (disks_of old).held steps (disks_of new).held) same (changed.are_written tt))

        -- All of the arrays' sectors stay.
        low_then : HasDone → StaysLow old new
        low_then changed slot l low =
            steps_aside readies.steps stands.group.seats (disks_of old).held (disks_of new).held (written_then changed) readies.plain_steps readies.on_all (on_five name total asked out config seats old stands) slot l low

        stands_then : HasDone → Then
        stands_then changed =
            let written = written_then changed in
            record {
              well = stays_well total out old new stands.well goes within;
              few = asks_few;
              group = group_behind stands.group readies.steps;
              settled = steps_settled timestamp time changes sizes_made (disks_of old).held (disks_of new).held out stands.group readies.steps stands.settled
                  (all_asked changes stands.group.seats stands.group.config next are_next) readies.are_readied readies.members written;
              plain = readies.plain_newest;
              config_is = readies.is_last;
              seats_are = readies.same_seats ∙ stands.seats_are;
              named = same_name;
              here = stands.here;
            }

        ends_so : EndsWell (answer_of (Unit {0}) unused after status) (sequence_line (last_sequence stands.group.config.sequence readies.steps))
            (IsDoneTo work stands.group (steps_of stands.group timestamp request) (last_sequence stands.group.config.sequence readies.steps))
        ends_so = change_ends work (answer_of (Unit {0}) unused after status) tt stands.group timestamp request readies.steps steps_are (calm within) (Some name) done is_found

        sequence_is : last_sequence stands.group.config.sequence readies.steps ≡ next.sequence
        sequence_is = last_is stands.group readies.steps ∙ ap (λ (some : Configuration). some.sequence) readies.is_last

        pub found_ends : EndsWell (answer_of (Unit {0}) unused after status) (sequence_line next.sequence) (Then × StaysLow old new)
        found_ends = ends_along sequence_is (λ changed. (stands_then changed, low_then changed)) ends_so
          where
            ends_along : {P Q : Type 0} {one other : ℕ} → one ≡ other → (P → Q) → EndsWell (answer_of (Unit {0}) unused after status) (sequence_line one) P
                → EndsWell (answer_of (Unit {0}) unused after status) (sequence_line other) Q
            ends_along same to (inl five) = inl five
            ends_along same to (inr (inl six)) = inr (inl six)
            ends_along same to (inr (inr (is, taken, p))) = inr (inr (is, taken ∙ ap (λ (number : ℕ). unused.taken ++ sequence_line number) same, to p))

      -- and no sector below the disks' records is another one
      pub change_leaves : EndsWell (answer_of (Unit {0}) unused after status) (sequence_line next.sequence) (Then × StaysLow old new)
      change_leaves = by_memory done.outcome refl
        where
          by_memory : (outcome : Result ℕ Failure) → done.outcome ≡ outcome → EndsWell (answer_of (Unit {0}) unused after status) (sequence_line next.sequence) (Then × StaysLow old new)
          by_memory outcome is = ⊎_elim
              (λ memory. inl (memory_told done.outcome (answer_of (Unit {0}) unused after status) (is ∙ memory) done.ends))
              (λ ample. found_ends (finds done.has.taken.left done.has.taken.newest done.has.taken.every_slot done.has.taken.failed (done.has.gone (λ none. ample (sym is ∙ none))) (done.has.taken.read tt)))
              (memory_or outcome)

      pub change_stands : EndsWell (answer_of (Unit {0}) unused after status) (sequence_line next.sequence) Then
      change_stands = ends_then (answer_of (Unit {0}) unused after status) (sequence_line next.sequence) (λ both. both.0) change_leaves
