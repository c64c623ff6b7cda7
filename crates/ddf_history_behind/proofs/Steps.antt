-- A step is no further on from the configuration before it than what it loses allows.
use Rattle.std.proofs.Common.{◌≡◌, ℕ, ◌+◌, ◌≤◌, Bool, true, false, List, [], ◌∷◌, map, Option, Some, None, Result, Ok, Err, if◌then◌else◌, refl, subst, arith, nat_eq}
use Rattle.std.proofs.lemmas.Bool.{eq-eqb, or_left}
use Rattle.std.specs.List.{AllByRecursion, list_any}
use Rattle.ddf_config.specs.declared.refusal.Refusal.{Refusal}
use Rattle.ddf_config.specs.declared.refusal.Refusal.TheVariants.{InUse, Lost, NotMember}
use Rattle.ddf_config.specs.declared.seat.Seat.{Seat}
use Rattle.ddf_config.specs.Configuration.{Configuration}
use Rattle.ddf_config.specs.Members.{is_current}
use Rattle.ddf_config.specs.Refusals.{refuse_if}
use Rattle.ddf_config.specs.Seats.{slot_of}
use Rattle.ddf_config.proofs.Firsts.{all_pass}
use Rattle.ddf_plan.specs.declared.change.Change.{Change}
use Rattle.ddf_plan.specs.declared.change.Change.TheVariants.{Fail, Lose}
use Rattle.ddf_plan.specs.Causes.{causes, steps_of}
use Rattle.ddf_plan.specs.Fail.{any_would_be_lost, is_last}
use Rattle.ddf_plan.specs.Lose.{is_among}
use Rattle.ddf_plan.specs.Members.{lost_by, members_after}
use Rattle.ddf_plan.specs.Refusals.{not_current}
use Rattle.ddf_plan.specs.Same.{is_step}
use Rattle.ddf_history.proofs.Sound.{groups_are_sound}
use Rattle.ddf_seats.specs.declared.seated.Seated.{Seated}
use Rattle.ddf_seats.specs.Seated.{levelled, seats_in}
use Rattle.ddf_steps.specs.Ready.{steps_from, with_step}
use Rattle.ddf_steps.specs.Refusing.{most_members, room_if_step, step_refusal}
use Rattle.ddf_steps.specs.Steps.{Step, config_after, raised, step_of}
use Rattle.ddf_history_behind.specs.Behind.{AreNearSteps, LosesSome, most_between}
use Rattle.ddf_history_behind.proofs.Losing.{lost_more}

-- ---- one change

-- It raises the sequence number by its steps at the most.
pub raised_most : (sequence steps : ℕ) → raised sequence steps ≤ sequence + steps
raised_most sequence steps = grind arith

-- Where none of these is refused for not being a current member, the first is one.
first_current : (config : Configuration) (seats : List Seat) (reference : ℕ) (others : List ℕ) → not_current config seats (reference ∷ others) ≡ None
    → is_current config.members reference ≡ true
first_current config seats reference others none = go (is_current config.members reference) refl
  where
    go : (current : Bool) → is_current config.members reference ≡ current → is_current config.members reference ≡ true
    go true is = is
    go false is = absurd (let refused : Some (NotMember (slot_of seats reference)) ≡ None = rw is at none in cc)

-- A reference is among those of which it is the first.
pub first_among : (reference : ℕ) (others : List ℕ) → is_among (reference ∷ others) reference ≡ true
first_among reference others = or_left (nat_eq reference reference) (list_any (nat_eq reference) others) (eq-eqb reference reference refl)

module _ (config : Configuration) where
  -- A change that loses a current member may take two numbers.
  pub loses_near : (change : Change) (reference : ℕ) → steps_of change ≡ 2 → is_current config.members reference ≡ true → is_among (lost_by change) reference ≡ true
      → (config_after config change).sequence ≤ config.sequence + most_between config (config_after config change)
  loses_near change reference two current among =
      let most : (config_after config change).sequence ≤ config.sequence + 2 = subst (λ (n : ℕ). raised config.sequence (steps_of change) ≤ config.sequence + n) two (raised_most config.sequence (steps_of change)) in
      let more = lost_more config config change (raised config.sequence (steps_of change)) reference current among ((groups_are_sound config.group).not_both config) in
      omega (arith, most, more)

  -- Any other takes one.
  one_near : (change : Change) → steps_of change ≡ 1 → (config_after config change).sequence ≤ config.sequence + most_between config (config_after config change)
  one_near change one =
      let most : (config_after config change).sequence ≤ config.sequence + 1 = subst (λ (n : ℕ). raised config.sequence (steps_of change) ≤ config.sequence + n) one (raised_most config.sequence (steps_of change)) in
      omega (arith, most)

  -- A change that isn't refused is near.
  by_causes : (most : Option ℕ) (change : Change) (seats : List Seat) → causes most config change seats ≡ None → LosesSome change
      → (config_after config change).sequence ≤ config.sequence + most_between config (config_after config change)
  unfolding causes
  by_causes most (Lose []) seats free some = absurd (some refl)
  by_causes most (Lose (reference ∷ others)) seats free some =
      loses_near (Lose (reference ∷ others)) reference refl
      (first_current config seats reference others (all_pass [] (not_current config seats (reference ∷ others)) [] free)) (first_among reference others)
  by_causes most (Fail failed) seats free some =
      loses_near (Fail failed) failed refl
      (first_current config seats failed []
      (all_pass [] (not_current config seats (failed ∷ []))
      (refuse_if (is_last config) (InUse (slot_of seats failed)) ∷ refuse_if (any_would_be_lost config (members_after config (Fail failed))) Lost ∷ [])
      free))
      (first_among failed [])
  by_causes most other seats free some = one_near other refl

  pub change_near : (timestamp : ℕ) (disks : List Seated) (change : Change) → step_refusal timestamp None config disks change ≡ None → LosesSome change
      → (config_after config change).sequence ≤ config.sequence + most_between config (config_after config change)
  unfolding step_refusal
  change_near timestamp disks change free some =
      by_causes (Some (most_members disks)) change (seats_in disks)
      (all_pass [] (causes (Some (most_members disks)) config change (seats_in disks)) (None ∷ room_if_step timestamp config disks change ∷ []) free) some

-- ---- several

module _ (config : Configuration) (made : Step) (behind : Result (List Step) Refusal) (steps : List Step) (later : (others : List Step) → behind ≡ Ok others → AreNearSteps made.config others)
    (near : made.config.sequence ≤ config.sequence + most_between config made.config) where
  -- A step with those behind it.
  front : (rest : Result (List Step) Refusal) → behind ≡ rest → with_step made rest ≡ Ok steps → AreNearSteps config steps
  front (Ok others) is same =
      let all : made ∷ others ≡ steps = cc in
      subst (AreNearSteps config) all (near, later others is)
  front (Err refusal) is same = absurd cc

-- What isn't refused goes on, with a step or without one.
next_near : (refusal : Option Refusal) (step : Bool) (config : Configuration) (made : Step) (behind others : Result (List Step) Refusal) (steps : List Step)
    → (refusal ≡ None → made.config.sequence ≤ config.sequence + most_between config made.config)
    → ((rest : List Step) → behind ≡ Ok rest → AreNearSteps made.config rest) → (others ≡ Ok steps → AreNearSteps config steps)
    → ◌≡◌ {A = Result (List Step) Refusal} (elim refusal [ Some one ↦ Err one | None ↦ if step then with_step made behind else others ]) (Ok steps)
    → AreNearSteps config steps
next_near (Some one) step config made behind others steps near later also is = absurd cc
next_near None true config made behind others steps near later also is = front config made behind steps later (near refl) behind refl is
next_near None false config made behind others steps near later also is = also is

-- So are the steps that changes are.
pub steps_near : (timestamp : ℕ) (asked : List Change) → AllByRecursion LosesSome asked → (config : Configuration) (disks : List Seated) (steps : List Step)
    → steps_from timestamp None asked config disks ≡ Ok steps → AreNearSteps config steps
steps_near timestamp [] lose config disks steps is = let none : [] ≡ steps = cc in subst (AreNearSteps config) none tt
steps_near timestamp (change ∷ asked) lose config disks steps is =
    let step = step_of timestamp config disks change in
    next_near (step_refusal timestamp None config disks change) (is_step config change) config step (steps_from timestamp None asked step.config (map levelled step.disks))
    (steps_from timestamp None asked config disks) steps
    (λ free. change_near config timestamp disks change free lose.0)
    (λ others are. steps_near timestamp asked lose.1 step.config (map levelled step.disks) others are)
    (λ are. steps_near timestamp asked lose.1 config disks steps are)
    is
