-- How many sectors a command asks to be written that writes steps of a group.
use Rattle.std.proofs.Common.{◌≡◌, ◌∙◌, ℕ, suc, ◌+◌, ◌≤◌, List, [], ◌∷◌, ◌++◌, length, not, Option, Some, None, Result, Ok, Err, sum_by, refl, sym, subst, arith}
use Rattle.std.proofs.lemmas.List.Filters.{sum_by-filter_both}
use Rattle.std.proofs.lemmas.List.Sums.{sum_by-append, sum_by-cons}
use Rattle.std.specs.List.{filter}
use Rattle.std.specs.Option.{option_to_list}
use Rattle.std.specs.Prelude.{IfSome, map, slice_get}
use Rattle.ddf_bay.specs.Moments.{Costs}
use Rattle.ddf_bay.specs.ReadsOnly.{ReadsOnly}
use Rattle.ddf_bay.specs.State.{BayState}
use Rattle.ddf_plan.specs.declared.change.Change.{Change}
use Rattle.ddf_update.specs.declared.prepared.Prepared.{Prepared}
use Rattle.ddf_update.specs.Prepared.{IsPrepared, all_sectors, most_sectors}
use Rattle.ddf_group.specs.declared.answer.Assembly.{Assembly}
use Rattle.ddf_seats.specs.declared.fault.GroupFault.{GroupFault}
use Rattle.ddf_seats.specs.declared.seated.Seated.{Seated}
use Rattle.ddf_recovery.specs.Committed.{WasReadied, next_updates, recovery_updates, updates_written}
use Rattle.ddf_seats.specs.Group.{GroupValue}
use Rattle.ddf_steps.specs.Ready.{ReadyStep}
use Rattle.ddf_recovery.specs.Ready.{ReadyValue, all_ready, readied}
use Rattle.ddf_recovery.specs.Recovery.{disks_recovered}
use Rattle.ddf_seats.specs.Seated.{seated, is_adopted, levelled}
use Rattle.ddf_steps.specs.Steps.{Step, in_order}
use Rattle.ddf_steps.specs.Trying.{AreFollowing, Follows}
use Rattle.ddf_answer.specs.declared.failure.Failure.{Failure}
use Rattle.ddf_answer.specs.Call.{Work, work_of}
use Rattle.ddf_answer.specs.Costs.{WritesAtMost, disk_sectors}
use Rattle.ddf_answer.proofs.Costs.{costs_writes, disk_count, none_written, writes_most, writes_since, writes_then}
use Rattle.ddf_group_commands.specs.Change.{CostsOfSteps, Request, steps_of, steps_or}
use Rattle.ddf_group_commands.specs.Costs.{CostsOfAsked, ready_sectors, step_sectors, steps_sectors}
use Rattle.ddf_group_commands.proofs.StepsWritten.{steps_in}

-- ---- the updates of a step

abbrev sectors_on : Seated → ℕ
sectors_on disk = disk_sectors disk.copy

prepared_count : (disks : List Seated) (updates : List Prepared) → length updates ≡ length disks
    → ((place : ℕ) (disk : Seated) (update : Prepared) → slice_get disks place ≡ Some disk → slice_get updates place ≡ Some update → IsPrepared disk.copy disk.last disk.mode update)
    → all_sectors updates ≡ sum_by sectors_on disks
prepared_count [] [] counted each = refl
prepared_count [] (update ∷ updates) counted each = absurd (omega (arith, counted))
prepared_count (disk ∷ disks) [] counted each = absurd (omega (arith, counted))
prepared_count (disk ∷ disks) (update ∷ updates) counted each =
    let here : most_sectors update ≡ sectors_on disk = disk_count disk.copy update.runs (each 0 disk update refl refl).runs_are in
    let rest = prepared_count disks updates (omega (arith, counted)) (λ place one other at there. each (suc place) one other at there) in
    let sectors = sum_by-cons most_sectors update updates in
    let copies = sum_by-cons sectors_on disk disks in
    omega (arith, here, rest, sectors, copies)

-- In whatever order they are written, they are the same.
order_count : (disks : List Seated) → sum_by sectors_on (in_order disks) ≡ sum_by sectors_on disks
order_count disks =
    let parts = sum_by-append sectors_on (filter (λ disk. not (is_adopted disk)) disks) (filter is_adopted disks) in
    let both = sum_by-filter_both is_adopted (λ (disk : Seated). not (is_adopted disk)) (λ disk. refl) sectors_on disks in
    omega (arith, parts, both)

step_count : (disks : List Seated) (one : ReadyStep) → Follows disks one → all_sectors one.updates ≡ step_sectors one.step
step_count disks one follows =
    let are = follows.are_prepared in prepared_count (in_order one.step.disks) one.updates are.counted are.each ∙ order_count one.step.disks

following_count : (disks : List Seated) (steps : List ReadyStep) → AreFollowing disks steps → ready_sectors steps ≡ steps_sectors (steps_in steps)
following_count disks [] follows = refl
following_count disks (one ∷ others) follows =
    let here = step_count disks one follows.0 in
    let rest = following_count (map levelled one.step.disks) others follows.1 in
    omega (arith, here, rest)

all_count : (disks behind : List Seated) (next : Option ReadyStep) (steps : List ReadyStep) → IfSome next (Follows disks) → AreFollowing behind steps
    → ready_sectors (option_to_list next ++ steps) ≡ steps_sectors (steps_in (option_to_list next ++ steps))
all_count disks behind None steps recovers follows = following_count behind steps follows
all_count disks behind (Some one) steps recovers follows =
    let here = step_count disks one recovers in
    let rest = following_count behind steps follows in
    omega (arith, here, rest)

-- ---- what was readied

module _ (group : GroupValue) (changes : List Change) (timestamp : ℕ) (ready : ReadyValue) (was : WasReadied group changes timestamp ready) where
  -- The updates have the sectors of the steps.
  pub ready_count : ready_sectors (all_ready ready) ≡ steps_sectors (steps_in (all_ready ready))
  ready_count = all_count (seated group) (disks_recovered timestamp group) ready.recovery ready.steps was.recovers was.follows

  pub readied_costs : {D : Type 0} (work : Work D) → WritesAtMost work (ready_sectors (all_ready ready)) → CostsOfAsked work (steps_or (readied group changes timestamp))
  readied_costs work most =
      subst (λ (answer : Result (List Step) GroupFault). CostsOfAsked work (steps_or answer)) (sym was.is_readied) (subst (λ (n : ℕ). WritesAtMost work n) ready_count most)

-- ---- the recovery and the next step

pub recovery_within : (next : Option ReadyStep) (steps : List ReadyStep) → all_sectors (updates_written next) ≤ ready_sectors (option_to_list next ++ steps)
recovery_within None steps = omega arith
recovery_within (Some one) steps = omega arith

next_within : (next : Option ReadyStep) (steps : List ReadyStep)
    → all_sectors (updates_written next) + all_sectors (next_updates (record { recovery = None; steps = steps })) ≤ ready_sectors (option_to_list next ++ steps)
next_within None [] = omega arith
next_within None (one ∷ others) = omega arith
next_within (Some recovery) [] = omega arith
next_within (Some recovery) (one ∷ others) = omega arith

module _ {D : Type 0} (tells : Type 0) {old middle : BayState D} {syncs : ℕ} (ready : ReadyValue) (first : Costs old middle (all_sectors (recovery_updates ready)) syncs) where
  -- The recovery failed,
  pub recovery_costs : WritesAtMost (work_of tells old middle) (ready_sectors (all_ready ready))
  recovery_costs = writes_most (ready_sectors (all_ready ready)) (recovery_within ready.recovery ready.steps) (costs_writes tells first)

  -- or a step was tried behind it.
  pub commit_costs : {new : BayState D} {calls : ℕ} → Costs middle new (all_sectors (next_updates (record { recovery = None; steps = ready.steps }))) calls
      → WritesAtMost (work_of tells old new) (ready_sectors (all_ready ready))
  commit_costs second = writes_then tells (ready_sectors (all_ready ready)) (next_within ready.recovery ready.steps) (costs_writes tells first) (costs_writes tells second)

-- ---- a call

-- It only read.
pub none_asked_cost : {D : Type 0} (work : Work D) (asked : Result (List Step) Failure) → ReadsOnly work.old work.new → CostsOfAsked work asked
none_asked_cost work (Ok steps) reads = writes_most (steps_sectors steps) (omega arith) (none_written work reads)
none_asked_cost work (Err failure) reads = none_written work reads

pub none_cost : {D : Type 0} (work : Work D) (timestamp : ℕ) (request : Request) (meaning : Result GroupValue Assembly) → ReadsOnly work.old work.new → CostsOfSteps work timestamp request meaning
none_cost work timestamp request (Ok found) reads = none_asked_cost work (steps_of found timestamp request) reads
none_cost work timestamp request (Err fault) reads = none_written work reads

-- It read before.
pub asked_since : {D : Type 0} (tells : Type 0) (old middle new : BayState D) → ReadsOnly old middle → (asked : Result (List Step) Failure) → CostsOfAsked (work_of tells middle new) asked
    → CostsOfAsked (work_of tells old new) asked
asked_since tells old middle new reads (Ok steps) costs = writes_since tells old middle new reads (steps_sectors steps) costs
asked_since tells old middle new reads (Err failure) costs = writes_since tells old middle new reads 0 costs
