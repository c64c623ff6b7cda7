-- Several steps of a settled group that all of its disks tell.
use Rattle.std.proofs.Common.{◌≡◌, ℕ, ◌<◌, ◌^◌, Bool, false, List, [], ◌∷◌, Some, Ok, Err, refl, ap, sym, ◌∙◌, subst, inl, inr}
use Rattle.std.proofs.Math.Path.{fun_ext}
use Rattle.std.specs.List.{AllByRecursion}
use Rattle.ddf_bay.specs.Sectors.{Image}
use Rattle.ddf_config.specs.declared.seat.Seat.{Seat}
use Rattle.ddf_plan.specs.declared.change.Change.{Change}
use Rattle.ddf_steps.specs.Asked.{CanBeAsked}
use Rattle.ddf_seats.specs.Group.{GroupValue}
use Rattle.ddf_steps.specs.Ready.{group_after}
use Rattle.ddf_recovery.specs.Ready.{readied, with_recovery}
use Rattle.ddf_assembly.specs.Settled.{IsSettledGroup}
use Rattle.ddf_steps.specs.Steps.{Step}
use Rattle.ddf_recovery.proofs.Recovered.{settled_readied}
use Rattle.ddf_recovery.proofs.ReadiedSteps.{Answer}
use Rattle.ddf_group_commands.specs.Written.{AreWritten}
use Rattle.ddf_uncut_group.specs.Settled.{AreMembers, AreSettledAs, IsToldByAll, group_behind}
use Rattle.ddf_uncut_group.proofs.SettledStep.{disk_there, disks_behind, seats_behind, settled_behind, told_behind}
use Rattle.ddf_uncut_group.proofs.SettledWritten.{step_settled}
use Rattle.ddf_uncut_group.proofs.StepsSplit.{readied_behind, readied_none, split}

-- Without a change there is no step.
pub readied_nothing : (group : GroupValue) → IsSettledGroup group → (timestamp : ℕ) → readied group [] timestamp ≡ Ok []
readied_nothing group settled timestamp = settled_readied group settled [] timestamp

-- The steps behind the first.
rest_of : (step : Step) (answer : Answer) (rest : List Step) → with_recovery false (Some step) answer ≡ Ok (step ∷ rest) → answer ≡ Ok rest
rest_of step (Ok steps) rest h = let same : step ∷ steps ≡ step ∷ rest = cc in let tails : steps ≡ rest = cc in ap (λ (all : List Step). Ok all) tails
rest_of step (Err fault) rest h = absurd cc

none_are : (steps : List Step) → ◌≡◌ {A = Answer} (Ok []) (Ok steps) → [] ≡ steps
none_are steps h = cc

module _ (timestamp : ℕ) (time : timestamp < 2 ^ 32) where
  -- the steps of the other changes are those of the group behind the first step
  behind_first : (group : GroupValue) (told : IsToldByAll group) (change : Change) (asked : CanBeAsked change) (changes : List Change) (step : Step) (rest : List Step)
      → readied group (change ∷ []) timestamp ≡ Ok (step ∷ []) → AreMembers step.config group.seats → readied group (change ∷ changes) timestamp ≡ Ok (step ∷ rest)
      → readied (group_after group step) changes timestamp ≡ Ok rest
  behind_first group told change asked changes step rest one stay all =
      let there = disk_there group told change asked timestamp time step one stay in
      rest_of step (readied (group_after group step) changes timestamp) rest
      (sym (readied_behind timestamp group told.is_settled change changes step one
      (settled_behind group told change asked timestamp time step one there)
      (disks_behind group told change asked timestamp time step one there)) ∙ all)

  members_behind : (group : GroupValue) (told : IsToldByAll group) (change : Change) (asked : CanBeAsked change) (step : Step) (one : readied group (change ∷ []) timestamp ≡ Ok (step ∷ []))
      (stay : AreMembers step.config group.seats) (rest : List Step) → AllByRecursion (λ (other : Step). AreMembers other.config group.seats) rest
      → AllByRecursion (λ (other : Step). AreMembers other.config (group_after group step).seats) rest
  members_behind group told change asked step one stay rest stays =
      subst (λ (seats : List Seat). AllByRecursion (λ (other : Step). AreMembers other.config seats) rest) (sym (seats_behind group told change asked timestamp time step one stay)) stays

  -- Its disks tell the group behind them all, on the same seats.
  record AreTold (group last : GroupValue) : Type 0 where
    is_told : IsToldByAll last
    same_seats : last.seats ≡ group.seats

  steps_told : (changes : List Change) (group : GroupValue) (steps : List Step) → IsToldByAll group → AllByRecursion CanBeAsked changes → readied group changes timestamp ≡ Ok steps
      → AllByRecursion (λ (step : Step). AreMembers step.config group.seats) steps → AreTold group (group_behind group steps)
  steps_told [] group steps told asked is stay =
      subst (λ (all : List Step). AreTold group (group_behind group all)) (none_are steps (sym (readied_nothing group told.is_settled timestamp) ∙ is)) (record { is_told = told; same_seats = refl })
  steps_told (change ∷ changes) group steps told asked is stay = elim (split timestamp group told.is_settled change changes steps is) [
    | inl none ↦ steps_told changes group steps told asked.1 (sym (readied_none timestamp group told.is_settled change changes none) ∙ is) stay
    | inr first ↦
        let step = first.0 in
        let rest = first.1 in
        let stays = subst (λ (all : List Step). AllByRecursion (λ (one : Step). AreMembers one.config group.seats) all) first.2 stay in
        let others = behind_first group told change asked.0 changes step rest first.3 stays.0 (is ∙ ap (λ (all : List Step). Ok all) first.2) in
        let later = steps_told changes (group_after group step) rest (told_behind group told change asked.0 timestamp time step first.3 stays.0) asked.1 others
        (members_behind group told change asked.0 step first.3 stays.0 rest stays.1) in
        subst (λ (all : List Step). AreTold group (group_behind group all)) (sym first.2)
        (record { is_told = later.is_told; same_seats = later.same_seats ∙ seats_behind group told change asked.0 timestamp time step first.3 stays.0 })
  ]

  pub told_by_all : (changes : List Change) (group : GroupValue) (steps : List Step) → IsToldByAll group → AllByRecursion CanBeAsked changes → readied group changes timestamp ≡ Ok steps
      → AllByRecursion (λ (step : Step). AreMembers step.config group.seats) steps → IsToldByAll (group_behind group steps)
  told_by_all changes group steps told asked is stay = (steps_told changes group steps told asked is stay).is_told

  pub seats_kept : (changes : List Change) (group : GroupValue) (steps : List Step) → IsToldByAll group → AllByRecursion CanBeAsked changes → readied group changes timestamp ≡ Ok steps
      → AllByRecursion (λ (step : Step). AreMembers step.config group.seats) steps → (group_behind group steps).seats ≡ group.seats
  seats_kept changes group steps told asked is stay = (steps_told changes group steps told asked is stay).same_seats

  -- The disks are the group behind them, once they were written.
  pub steps_settled : (changes : List Change) (sizes : List ℕ) (old new : Image) (left : List Bool) (group : GroupValue) (steps : List Step) → AreSettledAs sizes old left group
      → AllByRecursion CanBeAsked changes → readied group changes timestamp ≡ Ok steps → AllByRecursion (λ (step : Step). AreMembers step.config group.seats) steps
      → AreWritten sizes old steps new → AreSettledAs sizes new left (group_behind group steps)
  steps_settled [] sizes old new left group steps settled asked is stay written =
      let none : [] ≡ steps = none_are steps (sym (readied_nothing group settled.is_told.is_settled timestamp) ∙ is) in
      let same = subst (λ (all : List Step). AreWritten sizes old all new) (sym none) written in
      let image : new ≡ old = fun_ext (λ slot. fun_ext (same slot)) in
      subst (λ (all : List Step). AreSettledAs sizes new left (group_behind group all)) none
      (subst (λ (held : Image). AreSettledAs sizes held left group) (sym image) settled)
  steps_settled (change ∷ changes) sizes old new left group steps settled asked is stay written = elim (split timestamp group settled.is_told.is_settled change changes steps is) [
    | inl none ↦
        steps_settled changes sizes old new left group steps settled asked.1 (sym (readied_none timestamp group settled.is_told.is_settled change changes none) ∙ is) stay written
    | inr first ↦
        let step = first.0 in
        let rest = first.1 in
        let stays = subst (λ (all : List Step). AllByRecursion (λ (one : Step). AreMembers one.config group.seats) all) first.2 stay in
        let wrote = subst (λ (all : List Step). AreWritten sizes old all new) first.2 written in
        let others = behind_first group settled.is_told change asked.0 changes step rest first.3 stays.0 (is ∙ ap (λ (all : List Step). Ok all) first.2) in
        subst (λ (all : List Step). AreSettledAs sizes new left (group_behind group all)) (sym first.2)
        (steps_settled changes sizes wrote.0 new left (group_after group step) rest
        (step_settled sizes old wrote.0 left group change timestamp step settled asked.0 time first.3 stays.0 wrote.1) asked.1 others
        (members_behind group settled.is_told change asked.0 step first.3 stays.0 rest stays.1) wrote.2)
  ]
