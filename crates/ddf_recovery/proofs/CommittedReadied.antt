-- The steps that changes are: each rewrites disks of the one before it, and their sequence numbers rise.
use Rattle.std.proofs.Common.{◌≡◌, ℕ, ◌<◌, ◌≤◌, Bool, true, false, List, [], ◌∷◌, map, filter, Option, Some, None, Result, Ok, Err, refl, sym, ap, subst, ◌∙◌, if◌then◌else◌}
use Rattle.std.proofs.lemmas.Bool.{ltb-false, or_parts}
use Rattle.std.specs.List.{AllByRecursion, list_any}
use Rattle.ddf_lemmas.proofs.Lists.{all_from, filter_get, in_map}
use Rattle.ddf_config.specs.declared.refusal.Refusal.{Refusal}
use Rattle.ddf_config.specs.Configuration.{Configuration}
use Rattle.ddf_copy.specs.declared.copy.DiskCopy.{DiskCopy}
use Rattle.ddf_plan.specs.declared.change.Change.{Change}
use Rattle.ddf_plan.proofs.Afters.{steps_taken}
use Rattle.ddf_plan.specs.Causes.{steps_of}
use Rattle.ddf_plan.specs.Refusals.{greatest_sequence}
use Rattle.ddf_plan.specs.Same.{is_step}
use Rattle.ddf_rewrite.specs.Before.{Before, before}
use Rattle.ddf_rewrite.specs.Copies.{changed_copy}
use Rattle.ddf_seats.specs.declared.seated.Seated.{Seated}
use Rattle.ddf_seats.specs.Seated.{seated, views_in, levelled}
use Rattle.ddf_steps.specs.Steps.{Step, disks_after, rewritten, stays_in, step_of}
use Rattle.ddf_steps.specs.Refusing.{step_refusal}
use Rattle.ddf_seats.specs.declared.fault.GroupFault.{GroupFault}
use Rattle.ddf_seats.specs.declared.fault.GroupFault.TheVariants.{SequenceSpent}
use Rattle.ddf_seats.specs.Group.{GroupValue}
use Rattle.ddf_assembly.specs.Settled.{IsSettledGroup}
use Rattle.ddf_steps.specs.Trying.{AreFollowing}
use Rattle.ddf_steps.specs.Ready.{ReadyStep, is_spent, steps_from, unless_spent, with_step}
use Rattle.ddf_recovery.specs.Ready.{ReadyValue, readied}
use Rattle.ddf_steps.specs.Committed.{AreRewriting, DoRise, HaveSequence, IsRewritten}
use Rattle.ddf_recovery.specs.Committed.{IsReadyFor}
use Rattle.ddf_recovery.proofs.Recovered.{settled_readied}
use Rattle.ddf_steps.proofs.Rewritten.{changed_header, changed_places}
use Rattle.ddf_recovery.proofs.Numbered.{raised_above}

-- ---- the disks of a step

changed_sequence : (old : DiskCopy) (leaders : Before) (config : Configuration) (timestamp : ℕ) → (changed_copy old leaders config timestamp).header.sequence ≡ config.sequence
unfolding changed_copy
changed_sequence old leaders config timestamp = refl

-- Each is one of the disks before the change, with its new copy.
pub disks_rewritten : (timestamp : ℕ) (leaders : Before) (config : Configuration) (disks : List Seated) → AllByRecursion (IsRewritten disks config) (disks_after timestamp leaders config disks)
unfolding disks_after
disks_rewritten timestamp leaders config disks =
    all_from (IsRewritten disks config) (map (rewritten leaders config timestamp) (filter (stays_in config) disks))
    (λ k disk at.
    let found = in_map (rewritten leaders config timestamp) (filter (stays_in config) disks) k disk at in
    let here = filter_get (stays_in config) disks k found.0 found.1 in
    subst (IsRewritten disks config) found.2
    (record {
      place = here.0;
      before = found.0;
      is_there = here.1;
      same_seat = refl;
      same_last = refl;
      as_primary = refl;
      has_sequence = changed_sequence found.0.copy leaders config timestamp;
      has_group = ap (λ (header : _). header.guid) (changed_header found.0.copy leaders config timestamp);
      has_places = changed_places found.0.copy leaders config timestamp;
      has_mode = refl;
    }))

-- ---- one step behind another

-- what behind a step that isn't refused comes
unless_refused : (refusal : Option Refusal) (rest : Result (List Step) Refusal) (steps : List Step)
    → ◌≡◌ {A = Result (List Step) Refusal} (elim refusal [ Some one ↦ Err one | None ↦ rest ]) (Ok steps) → rest ≡ Ok steps
unless_refused None rest steps h = h
unless_refused (Some one) rest steps h = absurd cc

-- The first step and those behind it.
record StepsAre (step : Step) (rest : Result (List Step) Refusal) (steps : List ReadyStep) : Type 0 where
  one : ReadyStep
  others : List ReadyStep
  are : steps ≡ one ∷ others
  step_is : step ≡ one.step
  rest_are : rest ≡ Ok (map (λ (one : ReadyStep). one.step) others)

steps_are : (step : Step) (rest : Result (List Step) Refusal) (steps : List ReadyStep) → with_step step rest ≡ Ok (map (λ (one : ReadyStep). one.step) steps) → StepsAre step rest steps
steps_are step (Err refusal) steps h = absurd cc
steps_are step (Ok rest) [] h = absurd cc
steps_are step (Ok rest) (one ∷ others) h =
    let step_is : step ≡ one.step = cc in
    let rest_is : rest ≡ map (λ (one : ReadyStep). one.step) others = cc in
    record { one = one; others = others; are = refl; step_is = step_is; rest_are = ap (λ (l : List Step). Ok l) rest_is }

-- Each step rewrites disks of the one before it, where those behind the first do, or those of the other changes do.
rewrite_by : (disks : List Seated) (step : Step) (next same : Result (List Step) Refusal) (steps : List ReadyStep) → AllByRecursion (IsRewritten disks step.config) step.disks
    → ((others : List ReadyStep) → next ≡ Ok (map (λ (one : ReadyStep). one.step) others) → AreRewriting (map levelled step.disks) others)
    → ((others : List ReadyStep) → same ≡ Ok (map (λ (one : ReadyStep). one.step) others) → AreRewriting disks others)
    → (b : Bool) → (if b then with_step step next else same) ≡ Ok (map (λ (one : ReadyStep). one.step) steps) → AreRewriting disks steps
rewrite_by disks step next same steps here behind other true found =
    let are = steps_are step next steps found in
    subst (AreRewriting disks) (sym are.are) (
      subst (λ (s : Step). AllByRecursion (IsRewritten disks s.config) s.disks) are.step_is here,
      subst (λ (s : Step). AreRewriting (map levelled s.disks) are.others) are.step_is (behind are.others are.rest_are),
    )
rewrite_by disks step next same steps here behind other false found = other steps found

pub steps_rewrite : (timestamp : ℕ) (changes : List Change) (config : Configuration) (disks : List Seated) (steps : List ReadyStep)
    → steps_from timestamp None changes config disks ≡ Ok (map (λ (one : ReadyStep). one.step) steps) → AreRewriting disks steps
steps_rewrite timestamp [] config disks [] h = tt
steps_rewrite timestamp [] config disks (one ∷ others) h = absurd cc
steps_rewrite timestamp (change ∷ changes) config disks steps h =
    let step = step_of timestamp config disks change in
    rewrite_by disks step (steps_from timestamp None changes step.config (map levelled step.disks)) (steps_from timestamp None changes config disks) steps
    (disks_rewritten timestamp (before (views_in disks)) step.config disks)
    (λ others is. steps_rewrite timestamp changes step.config (map levelled step.disks) others is)
    (λ others is. steps_rewrite timestamp changes config disks others is)
    (is_step config change)
    (unless_refused (step_refusal timestamp None config disks change) _ (map (λ (one : ReadyStep). one.step) steps) h)

-- ---- sequence numbers

abbrev pub NoneSpent : List ReadyStep → Type 0
NoneSpent steps = list_any is_spent (map (λ (one : ReadyStep). one.step) steps) ≡ false

-- The sequence numbers rise, where those behind the first do, or those of the other changes do.
rise_by : (sequence : ℕ) (step : Step) (next same : Result (List Step) Refusal) (steps : List ReadyStep) → (step.config.sequence ≤ greatest_sequence → sequence < step.config.sequence)
    → ((others : List ReadyStep) → next ≡ Ok (map (λ (one : ReadyStep). one.step) others) → NoneSpent others → DoRise step.config.sequence others)
    → ((others : List ReadyStep) → same ≡ Ok (map (λ (one : ReadyStep). one.step) others) → NoneSpent others → DoRise sequence others)
    → (b : Bool) → (if b then with_step step next else same) ≡ Ok (map (λ (one : ReadyStep). one.step) steps) → NoneSpent steps → DoRise sequence steps
rise_by sequence step next same steps here behind other true found none =
    let are = steps_are step next steps found in
    let spent = or_parts (is_spent are.one.step) (list_any is_spent (map (λ (one : ReadyStep). one.step) are.others)) (subst NoneSpent are.are none) in
    let within : are.one.step.config.sequence ≤ greatest_sequence = ltb-false greatest_sequence are.one.step.config.sequence spent.0 in
    subst (DoRise sequence) (sym are.are) (
      subst (λ (s : Step). sequence < s.config.sequence) are.step_is (here (subst (λ (s : Step). s.config.sequence ≤ greatest_sequence) (sym are.step_is) within)),
      subst (λ (s : Step). DoRise s.config.sequence are.others) are.step_is (behind are.others are.rest_are spent.1),
    )
rise_by sequence step next same steps here behind other false found none = other steps found none

pub steps_rise : (timestamp : ℕ) (changes : List Change) (config : Configuration) (disks : List Seated) (steps : List ReadyStep)
    → steps_from timestamp None changes config disks ≡ Ok (map (λ (one : ReadyStep). one.step) steps) → NoneSpent steps → DoRise config.sequence steps
steps_rise timestamp [] config disks [] h none = tt
steps_rise timestamp [] config disks (one ∷ others) h none = absurd cc
steps_rise timestamp (change ∷ changes) config disks steps h none =
    let step = step_of timestamp config disks change in
    rise_by config.sequence step (steps_from timestamp None changes step.config (map levelled step.disks)) (steps_from timestamp None changes config disks) steps
    (λ within. raised_above config.sequence (steps_of change) (steps_taken change) within)
    (λ others is. steps_rise timestamp changes step.config (map levelled step.disks) others is)
    (λ others is. steps_rise timestamp changes config disks others is)
    (is_step config change)
    (unless_refused (step_refusal timestamp None config disks change) _ (map (λ (one : ReadyStep). one.step) steps) h)
    none

-- ---- what was readied

spent_by : (found steps : List Step) (b : Bool) → list_any is_spent found ≡ b → ◌≡◌ {A = Result (List Step) GroupFault} (if b then Err SequenceSpent else Ok found) (Ok steps)
    → ◌≡◌ {A = Result (List Step) Refusal} (Ok found) (Ok steps) × (list_any is_spent steps ≡ false)
spent_by found steps true is h = absurd cc
spent_by found steps false is h =
    let same : found ≡ steps = cc in
    (ap (λ (l : List Step). Ok l) same, subst (λ (l : List Step). list_any is_spent l ≡ false) same is)

pub steps_or_spent : (found : Result (List Step) Refusal) (steps : List Step) → unless_spent found ≡ Ok steps → (found ≡ Ok steps) × (list_any is_spent steps ≡ false)
steps_or_spent (Err refusal) steps h = absurd cc
steps_or_spent (Ok found) steps h = spent_by found steps (list_any is_spent found) refl h

-- Steps that were readied for a settled group are ready for it, where each follows on the one before it.
pub readied_ready : (timestamp : ℕ) (changes : List Change) (group : GroupValue) (ready : ReadyValue) → IsSettledGroup group → HaveSequence group.config.sequence (seated group)
    → AreFollowing (seated group) ready.steps → readied group changes timestamp ≡ Ok (map (λ (one : ReadyStep). one.step) ready.steps) → IsReadyFor group ready
readied_ready timestamp changes group ready settled sequence follows is =
    let found =
    steps_or_spent (steps_from timestamp None changes group.config (seated group)) (map (λ (one : ReadyStep). one.step) ready.steps)
    (sym (settled_readied group settled changes timestamp) ∙ is) in
    record {
      is_settled = settled;
      have_sequence = sequence;
      follows = follows;
      rewrites = steps_rewrite timestamp changes group.config (seated group) ready.steps found.0;
      rises = steps_rise timestamp changes group.config (seated group) ready.steps found.0 found.1;
    }
