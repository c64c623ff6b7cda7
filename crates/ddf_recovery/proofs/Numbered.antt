-- The sequence numbers of the steps that changes of a group are.
use Rattle.std.proofs.Common.{◌≡◌, ℕ, ◌<◌, ◌≤◌, Bool, true, false, List, [], ◌∷◌, map, Option, Some, None, Result, Ok, Err, refl, sym, ap, subst, ◌∙◌, if◌then◌else◌, arith}
use Rattle.std.proofs.lemmas.Bool.{ltb-false, or_parts}
use Rattle.std.specs.List.{list_any}
use Rattle.ddf_config.specs.declared.refusal.Refusal.{Refusal}
use Rattle.ddf_config.specs.Configuration.{Configuration}
use Rattle.ddf_plan.specs.declared.change.Change.{Change}
use Rattle.ddf_plan.proofs.Afters.{steps_taken}
use Rattle.ddf_plan.specs.Causes.{steps_of}
use Rattle.ddf_plan.specs.Refusals.{greatest_sequence}
use Rattle.ddf_plan.specs.Same.{is_step}
use Rattle.ddf_seats.specs.declared.fault.GroupFault.{GroupFault}
use Rattle.ddf_seats.specs.declared.fault.GroupFault.TheVariants.{SequenceSpent}
use Rattle.ddf_seats.specs.declared.seated.Seated.{Seated}
use Rattle.ddf_seats.specs.Group.{GroupValue}
use Rattle.ddf_seats.specs.Seated.{seated, levelled}
use Rattle.ddf_steps.specs.Steps.{Step, raised, step_of}
use Rattle.ddf_steps.specs.Refusing.{step_refusal}
use Rattle.ddf_assembly.specs.Settled.{IsSettledGroup}
use Rattle.ddf_steps.specs.Ready.{AreNumbered, is_spent, steps_from, unless_spent, with_step}
use Rattle.ddf_recovery.specs.Ready.{readied}
use Rattle.ddf_recovery.proofs.Recovered.{settled_readied}

-- A sequence number that isn't spent was raised.
pub raised_above : (sequence steps : ℕ) → 0 < steps → raised sequence steps ≤ greatest_sequence → sequence < raised sequence steps
raised_above sequence steps some within = grind arith

-- a step that isn't spent, with steps behind it
with_numbered : (sequence : ℕ) (step : Step) (rest : Result (List Step) Refusal) (steps : List Step) → (is_spent step ≡ false → sequence < step.config.sequence)
    → ((others : List Step) → rest ≡ Ok others → list_any is_spent others ≡ false → AreNumbered step.config.sequence others)
    → with_step step rest ≡ Ok steps → list_any is_spent steps ≡ false → AreNumbered sequence steps
with_numbered sequence step (Err refusal) steps above later is free = absurd cc
with_numbered sequence step (Ok others) steps above later is free =
    let same : (step ∷ others) ≡ steps = cc in
    let parts = or_parts (is_spent step) (list_any is_spent others) (ap (list_any is_spent) same ∙ free) in
    subst (AreNumbered sequence) same (above parts.0, ltb-false greatest_sequence step.config.sequence parts.0, later others refl parts.1)

module _ (timestamp : ℕ) (config : Configuration) (disks : List Seated) (change : Change) (changes : List Change) where
  abbrev first : Step
  first = step_of timestamp config disks change

  abbrev same_on : Result (List Step) Refusal
  same_on = steps_from timestamp None changes config disks

  abbrev behind : Result (List Step) Refusal
  behind = steps_from timestamp None changes first.config (map levelled first.disks)

  first_above : is_spent first ≡ false → config.sequence < first.config.sequence
  first_above free = raised_above config.sequence (steps_of change) (steps_taken change) (ltb-false greatest_sequence first.config.sequence free)

  -- by what the first change is
  from_first : (refusal : Option Refusal) (is : Bool) (steps : List Step) → list_any is_spent steps ≡ false
      → (same_on ≡ Ok steps → AreNumbered config.sequence steps)
      → ((others : List Step) → behind ≡ Ok others → list_any is_spent others ≡ false → AreNumbered first.config.sequence others)
      → ◌≡◌ {A = Result (List Step) Refusal} (elim refusal [ Some refusal ↦ Err refusal | None ↦ if is then with_step first behind else same_on ]) (Ok steps) → AreNumbered config.sequence steps
  from_first (Some refusal) is steps free same later gives = absurd cc
  from_first None false steps free same later gives = same gives
  from_first None true steps free same later gives = with_numbered config.sequence first behind steps first_above later gives free

pub steps_numbered : (timestamp : ℕ) (changes : List Change) (config : Configuration) (disks : List Seated) (steps : List Step) → steps_from timestamp None changes config disks ≡ Ok steps
    → list_any is_spent steps ≡ false → AreNumbered config.sequence steps
steps_numbered timestamp [] config disks steps gives free =
    let same : [] ≡ steps = cc in
    subst (AreNumbered config.sequence) same tt
steps_numbered timestamp (change ∷ changes) config disks steps gives free =
    from_first timestamp config disks change changes (step_refusal timestamp None config disks change) (is_step config change) steps free
    (λ same. steps_numbered timestamp changes config disks steps same free)
    (λ others later none. steps_numbered timestamp changes (step_of timestamp config disks change).config (map levelled (step_of timestamp config disks change).disks) others later none)
    gives

-- The sequence number of each step that changes of a group are is above the one before it, and none passes the greatest.
pub readied_numbered : (group : GroupValue) → IsSettledGroup group → (changes : List Change) (timestamp : ℕ) (steps : List Step) → readied group changes timestamp ≡ Ok steps
    → AreNumbered group.config.sequence steps
readied_numbered group settled changes timestamp steps is = by (steps_from timestamp None changes group.config (seated group)) refl (sym (settled_readied group settled changes timestamp) ∙ is)
  where
    passing : (all : List Step) (b : Bool) → list_any is_spent all ≡ b → ◌≡◌ {A = Result (List Step) GroupFault} (if b then Err SequenceSpent else Ok all) (Ok steps) → (all ≡ steps) × (list_any is_spent all ≡ false)
    passing all true spent h = absurd cc
    passing all false spent h = (cc, spent)

    by : (r : Result (List Step) Refusal) → steps_from timestamp None changes group.config (seated group) ≡ r → unless_spent r ≡ Ok steps → AreNumbered group.config.sequence steps
    by (Err refusal) from h = absurd cc
    by (Ok all) from h =
        let both = passing all (list_any is_spent all) refl h in
        subst (AreNumbered group.config.sequence) both.0 (steps_numbered timestamp changes group.config (seated group) all from both.1)
