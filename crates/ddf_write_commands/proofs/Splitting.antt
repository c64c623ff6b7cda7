-- The steps that were readied for a group, in two parts: those before the blocks of an array, and the one behind them.
use Rattle.std.proofs.Common.{◌≡◌, ℕ, zero, suc, ◌≤◌, Bool, true, false, ◌||◌, List, [], ◌∷◌, ◌++◌, length, map, Option, Some, None, Result, Ok, Err, refl, sym, ap, subst, ◌∙◌, if◌then◌else◌, arith}
use Rattle.std.proofs.lemmas.List.{length-map}
use Rattle.std.specs.Prelude.{option_map, option_to_list, slice_get}
use Rattle.std.specs.List.{AllByRecursion, list_any}
use Rattle.ddf_lemmas.proofs.Lists.{mapped_at}
use Rattle.ddf_config.specs.declared.refusal.Refusal.{Refusal}
use Rattle.ddf_config.specs.declared.refusal.Refusal.TheVariants as refusals
use Rattle.ddf_config.specs.declared.refusal.FullTable.{FullTable}
use Rattle.ddf_config.specs.declared.seat.Seat.{Seat}
use Rattle.ddf_config.specs.Configuration.{Configuration}
use Rattle.ddf_config.specs.Members.{is_current}
use Rattle.ddf_plan.specs.declared.change.Change.{Change}
use Rattle.ddf_plan.specs.declared.change.Change.TheVariants.{Mark}
use Rattle.ddf_plan.specs.Same.{is_step}
use Rattle.ddf_rewrite.specs.Before.{before}
use Rattle.ddf_seats.specs.declared.fault.GroupFault.{GroupFault}
use Rattle.ddf_seats.specs.declared.fault.GroupFault.TheVariants as faults
use Rattle.ddf_seats.specs.declared.seated.Seated.{Seated}
use Rattle.ddf_recovery.specs.Committed.{WasReadied, group_next, group_recovered}
use Rattle.ddf_seats.specs.Group.{GroupValue}
use Rattle.ddf_steps.specs.Ready.{ReadyStep, is_spent, steps_from, unless_spent, with_step}
use Rattle.ddf_recovery.specs.Ready.{ReadyValue, all_ready, readied, with_recovery}
use Rattle.ddf_recovery.specs.Recovery.{config_lost, config_recovered, disks_recovered, full_of_recovery, has_stray, loss_spent, lost_step, mending_step, recovery_of}
use Rattle.ddf_seats.specs.Leading.{leading, some}
use Rattle.ddf_steps.specs.Refusing.{step_refusal}
use Rattle.ddf_seats.specs.Seated.{seated, seats_in, views_in, levelled}
use Rattle.ddf_steps.specs.Steps.{Step, config_after, stays_in, step_of}
use Rattle.ddf_steps.specs.Trying.{AreFollowing}
use Rattle.ddf_recovery.proofs.ReadiedParts.{are_tried, has_room, none_spent, none_stray}
use Rattle.ddf_recovery.proofs.RecoveredGroup.{is_recovered}
use Rattle.ddf_group_commands.proofs.StepsWritten.{few_steps, steps_in}
use Rattle.ddf_write_commands.specs.Around.{IsMark, config_behind, front, rest}
use Rattle.ddf_write_commands.specs.Opened.{AreMembers}
use Rattle.ddf_write_commands.proofs.Staying.{mark_keeps, seats_stay}

-- ---- the steps of the changes

-- The first of the steps are those of the first of the changes, and one is left at the most.
pub record IsSplit (timestamp : ℕ) (config : Configuration) (disks : List Seated) (redundant : Bool) (changes : List Change) (marks : Bool) (steps : List ReadyStep) : Type 0 where
  pub is_front : steps_from timestamp None (front redundant changes) config disks ≡ Ok (steps_in (front marks steps))
  pub few : length (rest marks steps) ≤ 1
  pub each : (k : ℕ) (one : ReadyStep) → slice_get (front marks steps) k ≡ Some one → (guid : List ℕ) × (one.step ≡ step_of timestamp config disks (Mark guid))

few_ready : (steps : List ReadyStep) → length (steps_in steps) ≤ 1 → length steps ≤ 1
few_ready steps few = let long = length-map steps (λ (one : ReadyStep). one.step) in omega (arith, few, long)

mark_named : (change : Change) → IsMark change → (guid : List ℕ) × (change ≡ Mark guid)
mark_named (Mark guid) is = (guid, refl)
mark_named other is = absurd is

module _ (timestamp : ℕ) (config : Configuration) (disks : List Seated) where
  -- no step before the blocks
  none_before : (redundant : Bool) (changes : List Change) (marks : Bool) (steps : List ReadyStep) → front redundant changes ≡ [] → marks ≡ false → length steps ≤ 1
      → IsSplit timestamp config disks redundant changes marks steps
  none_before redundant changes marks steps none unmarked few =
      subst (λ (b : Bool). IsSplit timestamp config disks redundant changes b steps) (sym unmarked) (record {
        is_front = ap (λ (all : List Change). steps_from timestamp None all config disks) none;
        few = few;
        each = λ k one at. absurd cc;
      })

  module _ (change : Change) (mark : IsMark change) (others : List Change) (few : length others ≤ 1) where
    abbrev Steps : Type 0
    Steps = Result (List Step) Refusal

    abbrev first : Step
    first = step_of timestamp config disks change

    abbrev behind : Steps
    behind = steps_from timestamp None others first.config (map levelled first.disks)

    abbrev beside : Steps
    beside = steps_from timestamp None others config disks

    abbrev answer : Option Refusal → Bool → Steps → Steps → Steps
    answer refusal is after plain = elim refusal [ Some one ↦ Err one | None ↦ if is then with_step first after else plain ]

    -- a step, and those behind it
    after_step : (after : Steps) → behind ≡ after → (steps : List ReadyStep) → with_step first after ≡ Ok (steps_in steps) → step_refusal timestamp None config disks change ≡ None
        → is_step config change ≡ true → IsSplit timestamp config disks true (change ∷ others) true steps
    after_step (Err refusal) is steps h allowed stepped = absurd cc
    after_step (Ok more) is [] h allowed stepped = absurd cc
    after_step (Ok more) is (one ∷ left) h allowed stepped =
        let same : first ≡ one.step = cc in
        let later : more ≡ steps_in left = cc in
        let named = mark_named change mark in
        record {
          is_front = ap (λ (refusal : Option Refusal). answer refusal (is_step config change) (Ok []) (Ok [])) allowed
              ∙ ap (λ (b : Bool). answer None b (Ok []) (Ok [])) stepped ∙ ap (λ (step : Step). alone step) same;
          few = few_ready left (few_steps timestamp others first.config (map levelled first.disks) (steps_in left) few (is ∙ ap (λ (all : List Step). Ok all) later));
          each = λ k step at. (named.0, by k step at ∙ sym same ∙ ap (step_of timestamp config disks) named.1);
        }
      where
        alone : Step → Steps
        alone step = Ok (step ∷ [])

        by : (k : ℕ) (step : ReadyStep) → slice_get (one ∷ []) k ≡ Some step → step.step ≡ one.step
        by zero step at = let same : one ≡ step = cc in ap (λ (each : ReadyStep). each.step) (sym same)
        by (suc k) step at = absurd cc

    by_step : (is : Bool) → is_step config change ≡ is → (refusal : Option Refusal) → step_refusal timestamp None config disks change ≡ refusal → (marks : Bool) → marks ≡ (is || false)
        → (steps : List ReadyStep) → answer refusal is behind beside ≡ Ok (steps_in steps) → IsSplit timestamp config disks true (change ∷ others) marks steps
    by_step is stepped (Some refusal) e marks marks_is steps h = absurd cc
    by_step true stepped None e marks marks_is steps h =
        subst (λ (b : Bool). IsSplit timestamp config disks true (change ∷ others) b steps) (sym marks_is) (after_step behind refl steps h e stepped)
    by_step false stepped None e marks marks_is steps h =
        subst (λ (b : Bool). IsSplit timestamp config disks true (change ∷ others) b steps) (sym marks_is) (record {
          is_front = ap (λ (refusal : Option Refusal). answer refusal (is_step config change) (Ok []) (Ok [])) e ∙ ap (λ (b : Bool). answer None b (Ok []) (Ok [])) stepped;
          few = few_ready steps (few_steps timestamp others config disks (steps_in steps) few h);
          each = λ k one at. absurd cc;
        })

  -- The steps are split as the changes are.
  pub are_split : (redundant : Bool) (changes : List Change) (marks : Bool) (steps : List ReadyStep) → marks ≡ list_any (is_step config) (front redundant changes)
      → AllByRecursion IsMark (front redundant changes) → length (rest redundant changes) ≤ 1 → steps_from timestamp None changes config disks ≡ Ok (steps_in steps)
      → IsSplit timestamp config disks redundant changes marks steps
  are_split false changes marks steps marks_is mark few h = none_before false changes marks steps refl marks_is (few_ready steps (few_steps timestamp changes config disks (steps_in steps) few h))
  are_split true [] marks steps marks_is mark few h = none_before true [] marks steps refl marks_is (few_ready steps (few_steps timestamp [] config disks (steps_in steps) few h))
  are_split true (change ∷ others) marks steps marks_is mark few h =
      by_step change mark.0 others few (is_step config change) refl (step_refusal timestamp None config disks change) refl marks marks_is steps h

-- ---- the first part

none_spent_in : (marks : Bool) (steps : List ReadyStep) → list_any is_spent (steps_in steps) ≡ false → list_any is_spent (steps_in (front marks steps)) ≡ false
none_spent_in false steps none = refl
none_spent_in true [] none = refl
none_spent_in true (one ∷ others) none = by (is_spent one.step) none
  where
    by : (b : Bool) → (b || list_any is_spent (steps_in others)) ≡ false → (b || false) ≡ false
    by true e = e
    by false e = refl

follows_in : (marks : Bool) (disks : List Seated) (steps : List ReadyStep) → AreFollowing disks steps → AreFollowing disks (front marks steps)
follows_in false disks steps follows = tt
follows_in true disks [] follows = tt
follows_in true disks (one ∷ others) follows = (follows.0, tt)

-- what is readied behind a recovery, where other steps could be
pub with_others : (spent : Bool) (next : Option Step) (answer other : Result (List Step) GroupFault) (all behind steps : List Step) → with_recovery spent next answer ≡ Ok all → answer ≡ Ok behind
    → other ≡ Ok steps → with_recovery spent next other ≡ Ok (option_to_list next ++ steps)
with_others spent None answer other all behind steps is first second = second
with_others true (Some step) answer other all behind steps is first second =
    let no : with_recovery true (Some step) (Ok behind) ≡ Ok all = sym (ap (with_recovery true (Some step)) first) ∙ is in absurd cc
with_others false (Some step) answer other all behind steps is first second = ap (with_recovery false (Some step)) second

recovery_steps : (recovery : Option ReadyStep) (next : Option Step) (steps : List ReadyStep) → option_map (λ (one : ReadyStep). one.step) recovery ≡ next
    → option_to_list next ++ steps_in steps ≡ steps_in (option_to_list recovery ++ steps)
recovery_steps None None steps is = refl
recovery_steps None (Some step) steps is = absurd cc
recovery_steps (Some one) None steps is = absurd cc
recovery_steps (Some one) (Some step) steps is = let same : one.step ≡ step = cc in ap (λ (first : Step). first ∷ steps_in steps) (sym same)

-- both parts make the whole
parts_in : (marks : Bool) (steps : List ReadyStep) → steps_in steps ≡ steps_in (front marks steps) ++ steps_in (rest marks steps)
parts_in false steps = refl
parts_in true [] = refl
parts_in true (one ∷ others) = refl

module _ (group : GroupValue) (changes : List Change) (timestamp : ℕ) (ready : ReadyValue) (was : WasReadied group changes timestamp ready) (redundant marks : Bool)
    (marks_is : marks ≡ list_any (is_step (config_recovered group)) (front redundant changes)) (mark : AllByRecursion IsMark (front redundant changes)) (few : length (rest redundant changes) ≤ 1) where
  -- the recovery, and the steps before the blocks
  abbrev pub first_ready : ReadyValue
  first_ready = record { recovery = ready.recovery; steps = front marks ready.steps }

  -- the steps behind them
  abbrev pub last_ready : ReadyValue
  last_ready = record { recovery = None; steps = rest marks ready.steps }

  pub split : IsSplit timestamp (config_recovered group) (disks_recovered timestamp group) redundant changes marks ready.steps
  split = are_split timestamp (config_recovered group) (disks_recovered timestamp group) redundant changes marks ready.steps marks_is mark few (are_tried group changes timestamp ready was)

  abbrev Answer : Type 0
  Answer = Result (List Step) GroupFault

  abbrev answered : Bool → Option FullTable → List Change → Answer
  answered stray full asked =
      if stray then Err (faults.Refused refusals.Unsettled)
      else with_recovery (loss_spent group) (recovery_of timestamp group) (unless_spent (steps_from timestamp full asked (config_recovered group) (disks_recovered timestamp group)))

  is_answered : answered (has_stray group) (full_of_recovery timestamp group) changes ≡ Ok (steps_in (all_ready ready))
  unfolding readied
  is_answered = was.is_readied

  none_full : answered false None changes ≡ Ok (steps_in (all_ready ready))
  none_full =
      sym (ap (λ (b : Bool). answered b (full_of_recovery timestamp group) changes) (none_stray group changes timestamp ready was)
      ∙ ap (λ (full : Option FullTable). answered false full changes) (has_room group changes timestamp ready was)) ∙ is_answered

  unspent : (steps : List Step) → list_any is_spent steps ≡ false → (tried : Result (List Step) Refusal) → tried ≡ Ok steps → unless_spent tried ≡ Ok steps
  unspent steps none tried is = ap unless_spent is ∙ ap (λ (b : Bool). if b then Err faults.SequenceSpent else Ok steps) none

  is_first : answered false None (front redundant changes) ≡ Ok (steps_in (all_ready first_ready))
  is_first =
      with_others (loss_spent group) (recovery_of timestamp group) (unless_spent (steps_from timestamp None changes (config_recovered group) (disks_recovered timestamp group)))
      (unless_spent (steps_from timestamp None (front redundant changes) (config_recovered group) (disks_recovered timestamp group))) (steps_in (all_ready ready)) (steps_in ready.steps)
      (steps_in (front marks ready.steps)) none_full
      (unspent (steps_in ready.steps) (none_spent group changes timestamp ready was) _ (are_tried group changes timestamp ready was))
      (unspent (steps_in (front marks ready.steps)) (none_spent_in marks ready.steps (none_spent group changes timestamp ready was)) _ split.is_front)
      ∙ ap (λ (steps : List Step). Ok steps) (recovery_steps ready.recovery (recovery_of timestamp group) (front marks ready.steps) was.is_recovery)

  pub first_readied : readied group (front redundant changes) timestamp ≡ Ok (steps_in (all_ready first_ready))
  unfolding readied
  first_readied =
      ap (λ (b : Bool). answered b (full_of_recovery timestamp group) (front redundant changes)) (none_stray group changes timestamp ready was)
      ∙ ap (λ (full : Option FullTable). answered false full (front redundant changes)) (has_room group changes timestamp ready was) ∙ is_first

  -- The first part was readied for the first of the changes,
  pub was_first : WasReadied group (front redundant changes) timestamp first_ready
  was_first = record {
    assembled = was.assembled;
    time = was.time;
    is_readied = first_readied;
    is_recovery = was.is_recovery;
    recovers = was.recovers;
    follows = follows_in marks (disks_recovered timestamp group) ready.steps was.follows;
  }

  -- and both for all of them.
  pub all_parts : steps_in (all_ready ready) ≡ steps_in (all_ready first_ready) ++ steps_in (rest marks ready.steps)
  all_parts = by ready.recovery
    where
      by : (recovery : Option ReadyStep) → steps_in (option_to_list recovery ++ ready.steps) ≡ steps_in (option_to_list recovery ++ front marks ready.steps) ++ steps_in (rest marks ready.steps)
      by None = parts_in marks ready.steps
      by (Some one) = ap (λ (steps : List Step). one.step ∷ steps) (parts_in marks ready.steps)

  pub all_readied : readied group changes timestamp ≡ Ok (steps_in (all_ready first_ready) ++ steps_in (rest marks ready.steps))
  all_readied = was.is_readied ∙ ap (λ (steps : List Step). Ok steps) all_parts

  -- ---- the configuration and the seats behind the first part

  abbrev pub now_found : GroupValue
  now_found = group_next (group_recovered group ready.recovery) (record { recovery = None; steps = front marks ready.steps })

  config_next : (found : GroupValue) (marks : Bool) (steps : List ReadyStep)
      → (group_next found (record { recovery = None; steps = front marks steps })).config ≡ config_behind found.config (steps_in (front marks steps))
  config_next found false steps = refl
  config_next found true [] = refl
  config_next found true (one ∷ others) = refl

  pub config_is : now_found.config ≡ config_behind group.config (steps_in (all_ready first_ready))
  config_is = config_next (group_recovered group ready.recovery) marks ready.steps ∙ by ready.recovery
    where
      by : (recovery : Option ReadyStep) → config_behind (group_recovered group recovery).config (steps_in (front marks ready.steps))
          ≡ config_behind group.config (steps_in (option_to_list recovery ++ front marks ready.steps))
      by None = refl
      by (Some one) = refl

  module _ (members : AreMembers (config_recovered group) group.seats) where
    recovered_by : (recovery : Option ReadyStep) → option_map (λ (one : ReadyStep). one.step) recovery ≡ recovery_of timestamp group → (group_recovered group recovery).seats ≡ group.seats
    unfolding recovery_of config_recovered
    recovered_by None is = refl
    recovered_by (Some one) is = lost (some group.absent) refl
      where
        stay : some group.absent ≡ true → (k : ℕ) (disk : Seated) → slice_get (seated group) k ≡ Some disk → stays_in (config_lost group) disk ≡ true
        stay absent k disk at =
            let seat : slice_get group.seats k ≡ Some disk.seat = ap (λ (seats : List Seat). slice_get seats k) (sym was.assembled.are_seated) ∙ mapped_at (λ (one : Seated). one.seat) (seated group) k disk at in
            subst (λ (b : Bool). is_current (if b then config_lost group else group.config).members disk.seat.reference ≡ true) absent (members k disk.seat seat)

        lost : (b : Bool) → some group.absent ≡ b → (if b then seats_in one.step.disks else group.seats) ≡ group.seats
        lost false e = refl
        lost true e =
            let step : one.step ≡ lost_step timestamp group =
            let whole : Some one.step ≡ Some (lost_step timestamp group) =
            is ∙ ap (λ (b : Bool). if b then Some (lost_step timestamp group) else if some group.lagging then Some (mending_step timestamp group) else None) e in cc in
            ap (λ (one : Step). seats_in one.disks) step ∙ seats_stay timestamp (leading group) (config_lost group) (seated group) (stay e) ∙ was.assembled.are_seated

    recovered_seats : (group_recovered group ready.recovery).seats ≡ group.seats
    recovered_seats = recovered_by ready.recovery was.is_recovery

    abbrev disks : List Seated
    disks = disks_recovered timestamp group

    disks_seats : seats_in disks ≡ group.seats
    disks_seats =
        let is = is_recovered group changes timestamp ready was in
        ap seats_in (sym is.disks_are) ∙ is.is_settled.are_seated ∙ recovered_seats

    marked_seats : (guid : List ℕ) → seats_in (step_of timestamp (config_recovered group) disks (Mark guid)).disks ≡ group.seats
    marked_seats guid =
        seats_stay timestamp (before (views_in disks)) (config_after (config_recovered group) (Mark guid)) disks
        (λ k disk at.
        let seat : slice_get group.seats k ≡ Some disk.seat = ap (λ (seats : List Seat). slice_get seats k) (sym disks_seats) ∙ mapped_at (λ (one : Seated). one.seat) disks k disk at in
        mark_keeps (config_recovered group) guid disk.seat.reference (members k disk.seat seat)) ∙ disks_seats

    next_seats : (marks : Bool) (steps : List ReadyStep)
        → ((k : ℕ) (one : ReadyStep) → slice_get (front marks steps) k ≡ Some one → (guid : List ℕ) × (one.step ≡ step_of timestamp (config_recovered group) disks (Mark guid)))
        → (group_next (group_recovered group ready.recovery) (record { recovery = None; steps = front marks steps })).seats ≡ group.seats
    next_seats false steps each = recovered_seats
    next_seats true [] each = recovered_seats
    next_seats true (one ∷ others) each =
        let is = each 0 one refl in
        ap (λ (step : Step). seats_in step.disks) is.1 ∙ marked_seats is.0

    -- The seats stay.
    pub seats_same : now_found.seats ≡ group.seats
    seats_same = next_seats marks ready.steps split.each
