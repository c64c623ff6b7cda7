-- How many sectors are asked for around the blocks of an array and of these: the calls one behind another.
use Rattle.std.proofs.Common.{◌≡◌, ◌∙◌, ℕ, ◌+◌, ◌≤◌, Bool, true, false, List, [], ◌∷◌, ◌++◌, length, Option, Some, None, Result, Ok, Err, refl, sym, ap, subst, inl, arith}
use Rattle.ddf_lemmas.proofs.Options.{ok_is}
use Rattle.ddf_bay.specs.Moments.{Costs}
use Rattle.ddf_bay.specs.ReadsOnly.{ReadsOnly}
use Rattle.ddf_bay.specs.State.{BayState}
use Rattle.ddf_array.specs.Volume.{Volume}
use Rattle.ddf_plan.specs.declared.change.Change.{Change}
use Rattle.ddf_update.specs.Prepared.{all_sectors}
use Rattle.ddf_group.specs.declared.answer.Assembly.{Assembly}
use Rattle.ddf_recovery.specs.Committed.{WasReadied, left_behind, next_updates, recovery_updates}
use Rattle.ddf_seats.specs.Group.{GroupValue}
use Rattle.ddf_steps.specs.Ready.{ReadyStep}
use Rattle.ddf_recovery.specs.Ready.{ReadyValue, all_ready, readied}
use Rattle.ddf_recovery.specs.Recovery.{config_recovered}
use Rattle.ddf_steps.specs.Steps.{Step}
use Rattle.ddf_answer.specs.Call.{Work, work_of}
use Rattle.ddf_answer.specs.Costs.{WritesAtMost}
use Rattle.ddf_answer.proofs.Costs.{costs_writes, none_written, writes_most, writes_since, writes_then}
use Rattle.ddf_group_commands.specs.Change.{Request}
use Rattle.ddf_group_commands.specs.Costs.{ready_sectors, steps_sectors}
use Rattle.ddf_group_commands.proofs.Costs.{ready_count}
use Rattle.ddf_group_commands.proofs.Outcomes.{asked_of}
use Rattle.ddf_group_commands.proofs.StepsWritten.{steps_in}
use Rattle.ddf_write_commands.specs.declared.planning.Plan.{Plan}
use Rattle.ddf_write_commands.specs.Around.{rest}
use Rattle.ddf_write_commands.specs.Costs.{CostsOfDoing, CostsOfPlan, sectors_before}
use Rattle.ddf_write_commands.specs.Doing.{Doing}
use Rattle.ddf_write_commands.specs.Planned.{Entry, Refusing, request_around}
use Rattle.ddf_write_commands.specs.Plans.{IsPlanOf}
use Rattle.ddf_write_commands.proofs.PlanKept.{IsPlannedAs, steps_are}

-- ---- the steps before the blocks

abbrev pub with_steps : Option ReadyStep → List ReadyStep → ReadyValue
with_steps recovery steps = record { recovery = recovery; steps = steps }

pub before_add : (begins : Bool) (recovery : Option ReadyStep) (steps : List ReadyStep)
    → sectors_before begins (with_steps recovery steps) + ready_sectors (rest begins steps) ≤ ready_sectors (all_ready (with_steps recovery steps))
before_add true None [] = omega arith
before_add true None (one ∷ others) = omega arith
before_add true (Some recovery) [] = omega arith
before_add true (Some recovery) (one ∷ others) = omega arith
before_add false None steps = omega arith
before_add false (Some recovery) steps = omega arith

pub next_fits : (steps : List ReadyStep) → all_sectors (next_updates (with_steps None steps)) ≤ ready_sectors steps
next_fits [] = omega arith
next_fits (one ∷ others) = omega arith

recovery_before : (begins : Bool) (ready : ReadyValue) → all_sectors (recovery_updates ready) ≤ sectors_before begins ready
recovery_before true ready = omega arith
recovery_before false ready = omega arith

module _ {D : Type 0} (tells : Type 0) {old middle : BayState D} {syncs : ℕ} (begins : Bool) (ready : ReadyValue) (recovers : Costs old middle (all_sectors (recovery_updates ready)) syncs) where
  -- The recovery is all,
  pub alone_costs : WritesAtMost (work_of tells old middle) (sectors_before begins ready)
  alone_costs = writes_most (sectors_before begins ready) (recovery_before begins ready) (costs_writes tells recovers)

  -- or the step behind it was tried.
  pub behind_costs : begins ≡ true → (now_ready : ReadyValue) → now_ready ≡ record ready { recovery = None } → {new : BayState D} {calls : ℕ} → Costs middle new (all_sectors (next_updates now_ready)) calls
      → WritesAtMost (work_of tells old new) (sectors_before begins ready)
  behind_costs is now_ready same commits =
      let both : all_sectors (recovery_updates ready) + all_sectors (next_updates now_ready) ≤ sectors_before begins ready =
      rw same (subst (λ (b : Bool). all_sectors (recovery_updates ready) + all_sectors (next_updates ready) ≤ sectors_before b ready) (sym is) (omega arith)) in
      writes_then tells (sectors_before begins ready) both (costs_writes tells recovers) (costs_writes tells commits)

-- What is left behind them.
pub left_marked : (begins : Bool) → begins ≡ true → (ready now_ready next : ReadyValue) → now_ready ≡ record ready { recovery = None } → next ≡ left_behind now_ready
    → next ≡ record { recovery = None; steps = rest begins ready.steps }
left_marked true is ready now_ready next same left = left ∙ ap left_behind same ∙ by ready.steps
  where
    by : (steps : List ReadyStep) → left_behind (with_steps None steps) ≡ with_steps None (rest true steps)
    by [] = refl
    by (one ∷ others) = refl
left_marked false is ready now_ready next same left = absurd cc

pub left_unmarked : (begins : Bool) → begins ≡ false → (ready now_ready : ReadyValue) → now_ready ≡ record ready { recovery = None } → now_ready ≡ record { recovery = None; steps = rest begins ready.steps }
left_unmarked false is ready now_ready same = same
left_unmarked true is ready now_ready same = absurd cc

-- ---- the blocks, and the step behind them

module _ {D : Type 0} (tells : Type 0) (group : GroupValue) (changes : List Change) (timestamp : ℕ) (ready : ReadyValue) (was : WasReadied group changes timestamp ready) (begins : Bool) (most : ℕ)
    (steps : List Step) (are : readied group changes timestamp ≡ Ok steps) {old opened : BayState D} (opens : WritesAtMost (work_of tells old opened) (sectors_before begins ready)) where
  total : ready_sectors (all_ready ready) ≡ steps_sectors steps
  total =
      let same : steps_in (all_ready ready) ≡ steps = ok_is (sym was.is_readied ∙ are) in
      ready_count group changes timestamp ready was ∙ ap steps_sectors same

  -- The steps before weren't written,
  pub opened_costs : WritesAtMost (work_of tells old opened) (steps_sectors steps + most)
  opened_costs = let parts = before_add begins ready.recovery ready.steps in writes_most (steps_sectors steps + most) (omega (arith, parts, total)) opens

  -- or the work behind them is all,
  pub worked_costs : {behind : BayState D} → WritesAtMost (work_of tells opened behind) most → WritesAtMost (work_of tells old behind) (steps_sectors steps + most)
  worked_costs works = let parts = before_add begins ready.recovery ready.steps in writes_then tells (steps_sectors steps + most) (omega (arith, parts, total)) opens works

  -- or the last step was tried.
  pub closed_costs : {behind new : BayState D} → WritesAtMost (work_of tells opened behind) most → (now_ready : ReadyValue) → now_ready ≡ record { recovery = None; steps = rest begins ready.steps }
      → WritesAtMost (work_of tells behind new) (all_sectors (next_updates now_ready)) → WritesAtMost (work_of tells old new) (steps_sectors steps + most)
  closed_costs works now_ready same closes =
      let parts = before_add begins ready.recovery ready.steps in
      let last : all_sectors (next_updates now_ready) ≤ ready_sectors (rest begins ready.steps) = rw same (next_fits (rest begins ready.steps)) in
      writes_then tells (steps_sectors steps + most) (omega (arith, parts, total, last)) (writes_then tells (sectors_before begins ready + most) (omega arith) opens works) closes

-- ---- a plan

module _ {D : Type 0} (doing : Doing) (work : Work D) (found : GroupValue) (refusing : Refusing) (behind : Entry → List Change) (word : List ℕ) (plan : Plan) (timestamp : ℕ)
    (is : IsPlanOf refusing behind (config_recovered found) found.seats word plan) (few : length (behind is.entry) ≤ 1) where
  pub plan_costs : {before last : List Step} → IsPlannedAs found timestamp word (request_around refusing behind word) before last plan.view
      → ((steps : List Step) → readied found plan.changes timestamp ≡ Ok steps → WritesAtMost work (steps_sectors steps + doing.most_sectors plan.view))
      → CostsOfPlan doing work found timestamp word (request_around refusing behind word)
  plan_costs made costs =
      let asked = asked_of (readied found plan.changes timestamp) (made.planned.first ++ made.planned.last)
      (sym (steps_are found refusing behind word plan timestamp is few) ∙ made.planned.are_asked) in
      record {
        plan = made.planned;
        most = subst (λ (v : Volume). WritesAtMost work (steps_sectors (made.planned.first ++ made.planned.last) + doing.most_sectors v)) (sym made.volume_is)
            (costs (made.planned.first ++ made.planned.last) asked);
      }

-- ---- a call

-- It only read,
pub unwritten_costs : {D : Type 0} (doing : Doing) (work : Work D) (timestamp : ℕ) (word : List ℕ) (request : Request) → ReadsOnly work.old work.new → (meaning : Result GroupValue Assembly)
    → CostsOfDoing doing work timestamp word request meaning
unwritten_costs doing work timestamp word request reads (Ok found) = inl (none_written work reads)
unwritten_costs doing work timestamp word request reads (Err fault) = none_written work reads

-- or it read before it wrote.
pub plan_since : {D : Type 0} (doing : Doing) (tells : Type 0) (old middle new : BayState D) (found : GroupValue) (timestamp : ℕ) (word : List ℕ) (request : Request) → ReadsOnly old middle
    → CostsOfPlan doing (work_of tells middle new) found timestamp word request → CostsOfPlan doing (work_of tells old new) found timestamp word request
plan_since doing tells old middle new found timestamp word request reads costs = record {
  plan = costs.plan;
  most = writes_since tells old middle new reads (steps_sectors (costs.plan.first ++ costs.plan.last) + doing.most_sectors costs.plan.volume) costs.most;
}
