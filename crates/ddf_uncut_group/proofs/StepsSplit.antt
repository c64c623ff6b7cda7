-- The steps of changes of a settled group, one change after another.
use Rattle.std.proofs.Common.{◌≡◌, ◌⊎◌, ℕ, Bool, true, false, ◌||◌, List, [], ◌∷◌, map, Option, Some, None, Result, Ok, Err, refl, ap, sym, ◌∙◌, subst, inl, inr, if◌then◌else◌}
use Rattle.std.specs.List.{list_any}
use Rattle.ddf_config.specs.declared.refusal.Refusal.{Refusal}
use Rattle.ddf_plan.specs.declared.change.Change.{Change}
use Rattle.ddf_plan.specs.Same.{is_step}
use Rattle.ddf_seats.specs.declared.fault.GroupFault.TheVariants.{Refused, SequenceSpent}
use Rattle.ddf_seats.specs.declared.seated.Seated.{Seated}
use Rattle.ddf_seats.specs.Group.{GroupValue}
use Rattle.ddf_steps.specs.Ready.{group_after, is_spent, steps_from, unless_spent, with_step}
use Rattle.ddf_recovery.specs.Ready.{readied, with_recovery}
use Rattle.ddf_steps.specs.Refusing.{step_refusal}
use Rattle.ddf_seats.specs.Seated.{seated, levelled}
use Rattle.ddf_assembly.specs.Settled.{IsSettledGroup}
use Rattle.ddf_steps.specs.Steps.{Step, step_of}
use Rattle.ddf_recovery.proofs.LeftGroup.{one_step}
use Rattle.ddf_recovery.proofs.Recovered.{settled_readied}
use Rattle.ddf_recovery.proofs.ReadiedSteps.{Answer}

abbrev Tried : Type 0
Tried = Result (List Step) Refusal

abbrev or_spent : List Step → Bool → Answer
or_spent all spent = if spent then Err SequenceSpent else Ok all

-- Behind a step that isn't spent come the steps of the other changes.
unless_first : (step : Step) (rest : Tried) → is_spent step ≡ false → unless_spent (with_step step rest) ≡ with_recovery false (Some step) (unless_spent rest)
unless_first step (Err refusal) kept = refl
unless_first step (Ok steps) kept =
    ap (λ (b : Bool). or_spent (step ∷ steps) (b || list_any is_spent steps)) kept ∙ by (list_any is_spent steps)
  where
    by : (b : Bool) → or_spent (step ∷ steps) (false || b) ≡ with_recovery false (Some step) (or_spent steps b)
    by true = refl
    by false = refl

module _ (timestamp : ℕ) (group : GroupValue) (settled : IsSettledGroup group) (change : Change) (changes : List Change) where
  abbrev step : Step
  step = step_of timestamp group.config (seated group) change

  abbrev by_refusal : Option Refusal → Bool → Tried
  by_refusal refusal is =
      elim refusal [
        | Some one ↦ Err one
        | None ↦ if is then with_step step (steps_from timestamp None changes step.config (map levelled step.disks)) else steps_from timestamp None changes group.config (seated group)
      ]

  readied_by : (refusal : Option Refusal) → step_refusal timestamp None group.config (seated group) change ≡ refusal → (is : Bool) → is_step group.config change ≡ is
      → readied group (change ∷ changes) timestamp ≡ unless_spent (by_refusal refusal is)
  readied_by refusal free is alters =
      settled_readied group settled (change ∷ changes) timestamp
      ∙ ap (λ (r : Option Refusal). unless_spent (by_refusal r (is_step group.config change))) free
      ∙ ap (λ (b : Bool). unless_spent (by_refusal refusal b)) alters

  -- A refusal of the first change is one of all.
  pub readied_refused : (refusal : Refusal) → step_refusal timestamp None group.config (seated group) change ≡ Some refusal → readied group (change ∷ changes) timestamp ≡ Err (Refused refusal)
  readied_refused refusal refused = readied_by (Some refusal) refused (is_step group.config change) refl

  -- A first change that alters nothing is no step.
  pub readied_same : step_refusal timestamp None group.config (seated group) change ≡ None → is_step group.config change ≡ false
      → readied group (change ∷ changes) timestamp ≡ readied group changes timestamp
  readied_same free same = readied_by None free false same ∙ sym (settled_readied group settled changes timestamp)

  -- Otherwise it is one, and the other changes are those of the group behind it.
  pub readied_first : step_refusal timestamp None group.config (seated group) change ≡ None → is_step group.config change ≡ true → is_spent step ≡ false
      → IsSettledGroup (group_after group step) → seated (group_after group step) ≡ map levelled step.disks
      → readied group (change ∷ changes) timestamp ≡ with_recovery false (Some step) (readied (group_after group step) changes timestamp)
  readied_first free alters kept behind disks =
      readied_by None free true alters
      ∙ unless_first step (steps_from timestamp None changes step.config (map levelled step.disks)) kept
      ∙ ap (λ (all : List Seated). with_recovery false (Some step) (unless_spent (steps_from timestamp None changes step.config all))) (sym disks)
      ∙ ap (λ (answer : Answer). with_recovery false (Some step) answer) (sym (settled_readied (group_after group step) behind changes timestamp))

-- ---- one change

-- A change that alters nothing was readied as no step.
pub record IsNoStep (timestamp : ℕ) (group : GroupValue) (change : Change) : Type 0 where
  pub free : step_refusal timestamp None group.config (seated group) change ≡ None
  pub same : is_step group.config change ≡ false

module _ (timestamp : ℕ) (group : GroupValue) (settled : IsSettledGroup group) (change : Change) where
  abbrev own : Step
  own = step_of timestamp group.config (seated group) change

  -- What one change is readied as.
  pub one_same : step_refusal timestamp None group.config (seated group) change ≡ None → is_step group.config change ≡ false → readied group (change ∷ []) timestamp ≡ Ok []
  one_same free same = readied_by timestamp group settled change [] None free false same

  pub one_first : step_refusal timestamp None group.config (seated group) change ≡ None → is_step group.config change ≡ true → is_spent own ≡ false → readied group (change ∷ []) timestamp ≡ Ok (own ∷ [])
  one_first free alters kept =
      readied_by timestamp group settled change [] None free true alters ∙ unless_first own (Ok []) kept

  -- What it says of a change that it is readied so.
  abbrev by_one : Option Refusal → Bool → Tried
  by_one refusal is = elim refusal [ Some one ↦ Err one | None ↦ if is then with_step own (Ok []) else Ok [] ]

  spent_no : (steps : List Step) (b : Bool) → ◌≡◌ {A = Answer} (if b || false then Err SequenceSpent else Ok (own ∷ [])) (Ok []) → ⊥
  spent_no steps true h = absurd cc
  spent_no steps false h = absurd cc

  pub no_step : readied group (change ∷ []) timestamp ≡ Ok [] → IsNoStep timestamp group change
  no_step h = by (step_refusal timestamp None group.config (seated group) change) refl (is_step group.config change) refl (sym (settled_readied group settled (change ∷ []) timestamp) ∙ h)
    where
      by : (refusal : Option Refusal) → step_refusal timestamp None group.config (seated group) change ≡ refusal → (is : Bool) → is_step group.config change ≡ is
          → unless_spent (by_one refusal is) ≡ Ok [] → IsNoStep timestamp group change
      by (Some one) free is alters h = absurd cc
      by None free false alters h = record { free = free; same = alters }
      by None free true alters h = absurd (spent_no [] (is_spent own) h)

  pub one_refused : (refusal : Refusal) → readied group (change ∷ []) timestamp ≡ Err (Refused refusal) → step_refusal timestamp None group.config (seated group) change ≡ Some refusal
  one_refused refusal h = by (step_refusal timestamp None group.config (seated group) change) refl (is_step group.config change) refl (sym (settled_readied group settled (change ∷ []) timestamp) ∙ h)
    where
      spent_none : (b : Bool) → ◌≡◌ {A = Answer} (if b || false then Err SequenceSpent else Ok (own ∷ [])) (Err (Refused refusal)) → ⊥
      spent_none true at = absurd cc
      spent_none false at = absurd cc

      by : (found : Option Refusal) → step_refusal timestamp None group.config (seated group) change ≡ found → (is : Bool) → is_step group.config change ≡ is
          → unless_spent (by_one found is) ≡ Err (Refused refusal) → step_refusal timestamp None group.config (seated group) change ≡ Some refusal
      by (Some one) free is alters at = let same : one ≡ refusal = cc in free ∙ ap (λ (r : Refusal). Some r) same
      by None free false alters at = absurd cc
      by None free true alters at = absurd (spent_none (is_spent own) at)

-- ---- several

module _ (timestamp : ℕ) (group : GroupValue) (settled : IsSettledGroup group) (change : Change) (changes : List Change) where
  abbrev made : Step
  made = step_of timestamp group.config (seated group) change

  record IsSplit (steps : List Step) : Type 0 where
    rest : List Step
    are : steps ≡ made ∷ rest
    free : step_refusal timestamp None group.config (seated group) change ≡ None
    alters : is_step group.config change ≡ true
    kept : is_spent made ≡ false

  spent_first : (rest : Tried) (steps : List Step) → unless_spent (with_step made rest) ≡ Ok steps → (behind : List Step) × (steps ≡ made ∷ behind) × (is_spent made ≡ false)
  spent_first (Err refusal) steps h = absurd cc
  spent_first (Ok behind) steps h = by (is_spent made) refl (list_any is_spent behind) h
    where
      by : (b : Bool) → is_spent made ≡ b → (c : Bool) → ◌≡◌ {A = Answer} (if b || c then Err SequenceSpent else Ok (made ∷ behind)) (Ok steps)
          → (others : List Step) × (steps ≡ made ∷ others) × (is_spent made ≡ false)
      by true e c at = absurd cc
      by false e true at = absurd cc
      by false e false at = let same : made ∷ behind ≡ steps = cc in (behind, sym same, e)

  -- What was readied of several changes: the first is no step, or the first of the steps.
  pub split : (steps : List Step) → readied group (change ∷ changes) timestamp ≡ Ok steps
      → (readied group (change ∷ []) timestamp ≡ Ok []) ⊎ ((step : Step) × (rest : List Step) × (steps ≡ step ∷ rest) × (readied group (change ∷ []) timestamp ≡ Ok (step ∷ [])))
  split steps h = by (step_refusal timestamp None group.config (seated group) change) refl (is_step group.config change) refl (sym (settled_readied group settled (change ∷ changes) timestamp) ∙ h)
    where
      by : (refusal : Option Refusal) → step_refusal timestamp None group.config (seated group) change ≡ refusal → (is : Bool) → is_step group.config change ≡ is
          → unless_spent (by_refusal timestamp group settled change changes refusal is) ≡ Ok steps
          → (readied group (change ∷ []) timestamp ≡ Ok []) ⊎ ((step : Step) × (rest : List Step) × (steps ≡ step ∷ rest) × (readied group (change ∷ []) timestamp ≡ Ok (step ∷ [])))
      by (Some one) free is alters at = absurd cc
      by None free false alters at = inl (one_same timestamp group settled change free alters)
      by None free true alters at =
          let parts = spent_first (steps_from timestamp None changes made.config (map levelled made.disks)) steps at in
          inr (made, parts.0, parts.1, one_first timestamp group settled change free alters parts.2)

  -- A first change that is no step by itself is none before others.
  pub readied_none : readied group (change ∷ []) timestamp ≡ Ok [] → readied group (change ∷ changes) timestamp ≡ readied group changes timestamp
  readied_none h = let is = no_step timestamp group settled change h in readied_same timestamp group settled change changes is.free is.same

  -- One that is refused by itself is refused before others.
  pub readied_fault : (refusal : Refusal) → readied group (change ∷ []) timestamp ≡ Err (Refused refusal) → readied group (change ∷ changes) timestamp ≡ Err (Refused refusal)
  readied_fault refusal h = readied_refused timestamp group settled change changes refusal (one_refused timestamp group settled change refusal h)

  -- One that is a step by itself is the first step, and the others are those of the group behind it.
  pub readied_behind : (step : Step) → readied group (change ∷ []) timestamp ≡ Ok (step ∷ []) → IsSettledGroup (group_after group step) → seated (group_after group step) ≡ map levelled step.disks
      → readied group (change ∷ changes) timestamp ≡ with_recovery false (Some step) (readied (group_after group step) changes timestamp)
  readied_behind step h behind disks =
      let one = one_step timestamp group change step settled h in
      subst (λ (s : Step). readied group (change ∷ changes) timestamp ≡ with_recovery false (Some s) (readied (group_after group s) changes timestamp)) one.step_is
      (readied_first timestamp group settled change changes one.free one.is one.kept
      (subst (λ (s : Step). IsSettledGroup (group_after group s)) (sym one.step_is) behind)
      (subst (λ (s : Step). seated (group_after group s) ≡ map levelled s.disks) (sym one.step_is) disks))
