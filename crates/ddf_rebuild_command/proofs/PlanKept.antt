-- What is planned of the rebuild of an array, and the steps of its group that were readied for it.
use Rattle.std.proofs.Common.{◌≡◌, ◌∙◌, ℕ, suc, ◌+◌, Bool, true, false, ◌||◌, List, [], ◌∷◌, ◌++◌, length, map, Option, Some, None, Result, Ok, Err, refl, sym, ap, subst, if◌then◌else◌, arith}
use Rattle.std.proofs.lemmas.List.{length-append}
use Rattle.std.specs.Prelude.{option_map, option_to_list}
use Rattle.std.specs.List.{AllByRecursion, list_any}
use Rattle.ddf_config.specs.declared.refusal.FullTable.{FullTable}
use Rattle.ddf_config.specs.declared.refusal.Refusal.{Refusal}
use Rattle.ddf_config.specs.declared.refusal.Refusal.TheVariants as refusals
use Rattle.ddf_config.specs.Configuration.{Configuration}
use Rattle.ddf_plan.specs.declared.change.Change.{Change}
use Rattle.ddf_plan.specs.declared.change.Change.TheVariants.{Finish, Progress}
use Rattle.ddf_plan.specs.Same.{is_step}
use Rattle.ddf_repair.specs.declared.first.Target.{Target}
use Rattle.ddf_repair.specs.Begin.{begun}
use Rattle.ddf_array.specs.Viewing.{view_of}
use Rattle.ddf_seats.specs.declared.fault.GroupFault.{GroupFault}
use Rattle.ddf_seats.specs.declared.fault.GroupFault.TheVariants as faults
use Rattle.ddf_seats.specs.declared.seated.Seated.{Seated}
use Rattle.ddf_steps.specs.Asked.{CanBeAsked}
use Rattle.ddf_recovery.specs.Committed.{WasReadied, group_recovered}
use Rattle.ddf_seats.specs.Group.{GroupValue}
use Rattle.ddf_steps.specs.Ready.{ReadyStep, is_spent, steps_from, unless_spent, with_step}
use Rattle.ddf_recovery.specs.Ready.{ReadyValue, all_ready, readied, with_recovery}
use Rattle.ddf_recovery.specs.Recovery.{config_recovered, disks_recovered, full_of_recovery, has_stray, loss_spent, recovery_of}
use Rattle.ddf_steps.specs.Refusing.{step_refusal}
use Rattle.ddf_steps.specs.Steps.{Step, raised, step_of}
use Rattle.ddf_seats.specs.Seated.{levelled}
use Rattle.ddf_recovery.proofs.ReadiedParts.{are_tried, has_room, none_spent, none_stray}
use Rattle.ddf_recovery.proofs.RecoveredGroup.{is_recovered}
use Rattle.ddf_group_commands.specs.Change.{steps_asked, steps_of as steps_wanted, steps_or}
use Rattle.ddf_group_commands.specs.Requests.{linux_members}
use Rattle.ddf_group_commands.proofs.StepsWritten.{steps_in}
use Rattle.ddf_write_commands.specs.Around.{config_behind, rest}
use Rattle.ddf_write_commands.specs.Opened.{AreMembers}
use Rattle.ddf_write_commands.specs.Planned.{Entry, unless_refused}
use Rattle.ddf_rebuild_command.specs.declared.planning.Filling.{Filling}
use Rattle.ddf_rebuild_command.specs.declared.planning.Plan.{Plan}
use Rattle.ddf_rebuild_command.specs.Asked.{changes_behind, rebuild_asked, rebuild_changes, rebuild_request, rebuild_unless, rows_in}
use Rattle.ddf_rebuild_command.specs.Filled.{rounds_in}
use Rattle.ddf_rebuild_command.specs.Notes.{notes}
use Rattle.ddf_rebuild_command.specs.Opened.{steps_before}
use Rattle.ddf_rebuild_command.specs.PassedOver.{passed_over}
use Rattle.ddf_rebuild_command.specs.Planned.{IsIdle, IsPlanned}
use Rattle.ddf_rebuild_command.specs.Plans.{IsFillingIn, IsFillingOf, IsPlanOf, are_any, begun_config, notes_and_end}
use Rattle.ddf_rebuild_command.specs.Rounds.{rows_of, steps_of}
use Rattle.ddf_rebuild_command.specs.Standing.{KeepSeats, next_if, recovery_in}
use Rattle.ddf_rebuild_command.proofs.Beginnings.{Beginning, beginning, goes_on, spares}
use Rattle.ddf_rebuild_command.proofs.Begun.{fresh_out, fresh_steps}
use Rattle.ddf_rebuild_command.proofs.Noting.{Rise, notes_rise}
use Rattle.ddf_rebuild_command.proofs.PlanFits.{IsPlannedFor}
use Rattle.ddf_rebuild_command.proofs.PlanFitted.{CanFill, can_fill}
use Rattle.ddf_rebuild_command.proofs.PlanMade.{kept_is}
use Rattle.ddf_rebuild_command.proofs.SeatsKept.{LosesNone, seats_kept}
use Rattle.ddf_rebuild_command.proofs.Steps.{IsOutAt, finish_steps, out_progressed, progress_steps}
use Rattle.ddf_rebuild_command.proofs.Targets.{is_again, is_fresh_at}
use Rattle.ddf_read_commands.proofs.ArrayUse.{named_is}
use Rattle.ddf_write_commands.proofs.Splitting.{with_others}

-- ---- the steps of changes, taken apart

-- the first change is a step, and the others are steps behind it
pub record HasFirst (timestamp : ℕ) (config : Configuration) (disks : List Seated) (change : Change) (changes : List Change) (steps : List Step) : Type 0 where
  pub behind : List Step
  pub steps_are : steps ≡ step_of timestamp config disks change ∷ behind
  pub alone : steps_from timestamp None (change ∷ []) config disks ≡ Ok (step_of timestamp config disks change ∷ [])
  pub behind_are : steps_from timestamp None changes (step_of timestamp config disks change).config (map levelled (step_of timestamp config disks change).disks) ≡ Ok behind

module _ (timestamp : ℕ) (config : Configuration) (disks : List Seated) (change : Change) (changes : List Change) where
  abbrev first : Step
  first = step_of timestamp config disks change

  abbrev after : Result (List Step) Refusal
  after = steps_from timestamp None changes first.config (map levelled first.disks)

  abbrev answer : Option Refusal → Bool → (then_after beside : Result (List Step) Refusal) → Result (List Step) Refusal
  answer refusal is then_after beside = elim refusal [ Some one ↦ Err one | None ↦ if is then with_step first then_after else beside ]

  pub has_first : is_step config change ≡ true → (steps : List Step) → steps_from timestamp None (change ∷ changes) config disks ≡ Ok steps → HasFirst timestamp config disks change changes steps
  has_first stepped steps h =
      by (step_refusal timestamp None config disks change) refl after refl
      (sym (ap (λ (b : Bool). answer (step_refusal timestamp None config disks change) b after (steps_from timestamp None changes config disks)) stepped) ∙ h)
    where
      by : (refusal : Option Refusal) → step_refusal timestamp None config disks change ≡ refusal → (then_after : Result (List Step) Refusal) → after ≡ then_after
          → answer refusal true then_after (steps_from timestamp None changes config disks) ≡ Ok steps → HasFirst timestamp config disks change changes steps
      by (Some one) e then_after f made = absurd cc
      by None e (Err refusal) f made = absurd cc
      by None e (Ok behind) f made =
          let both : first ∷ behind ≡ steps = cc in
          record {
            behind = behind;
            steps_are = sym both;
            alone = ap (λ (refusal : Option Refusal). answer refusal (is_step config change) (Ok []) (Ok [])) e ∙ ap (λ (b : Bool). answer None b (Ok []) (Ok [])) stepped;
            behind_are = f;
          }

-- Each note of a position's progress is a step where it goes on, and so is its end.
many_steps : (timestamp : ℕ) (guid : List ℕ) (target : Target) (rows : List ℕ) (low : ℕ) → Rise low rows → (config : Configuration) (disks : List Seated)
    → IsOutAt config guid target.element target.position low → (steps : List Step) → steps_from timestamp None (notes_and_end guid target rows) config disks ≡ Ok steps → length steps ≡ length rows + 1
many_steps timestamp guid target [] low rise config disks out steps h =
    let one = has_first timestamp config disks (Finish guid target.element target.position) [] (finish_steps config guid target.element target.position low out) steps h in
    let none : [] ≡ one.behind = same_ok one.behind_are in
    ap length one.steps_are ∙ sym (ap (λ (behind : List Step). suc (length behind)) none) ∙ omega arith
  where
    same_ok : {behind : List Step} → ◌≡◌ {A = Result (List Step) Refusal} (Ok []) (Ok behind) → [] ≡ behind
    same_ok e = cc
many_steps timestamp guid target (row ∷ rows) low rise config disks out steps h =
    let change = Progress guid target.element target.position row in
    let one = has_first timestamp config disks change (notes_and_end guid target rows) (progress_steps config guid target.element target.position low out row rise.0) steps h in
    let next = step_of timestamp config disks change in
    let rest =
    many_steps timestamp guid target rows row rise.1 next.config (map levelled next.disks)
    (out_progressed config guid target.element target.position low out row (raised config.sequence 1)) one.behind one.behind_are in
    omega (arith, ap length one.steps_are, rest)

-- ---- rounds

rows_zipped : (rows : List ℕ) (steps : List ReadyStep) → length steps ≡ length rows → rows_of (rounds_in rows steps) ≡ rows
rows_zipped [] steps same = refl
rows_zipped (row ∷ rows) [] same = absurd (omega (arith, same))
rows_zipped (row ∷ rows) (one ∷ others) same = ap (λ (rest : List ℕ). row ∷ rest) (rows_zipped rows others (omega (arith, same)))

steps_zipped : (rows : List ℕ) (steps : List ReadyStep) → length steps ≡ length rows → steps_of (rounds_in rows steps) ≡ steps_in steps
steps_zipped [] [] same = refl
steps_zipped [] (one ∷ others) same = absurd (omega (arith, same))
steps_zipped (row ∷ rows) [] same = absurd (omega (arith, same))
steps_zipped (row ∷ rows) (one ∷ others) same = ap (λ (rest : List Step). one.step ∷ rest) (steps_zipped rows others (omega (arith, same)))

count_in : (steps : List ReadyStep) → length (steps_in steps) ≡ length steps
count_in [] = refl
count_in (one ∷ others) = ap suc (count_in others)

-- both parts make the whole
parts_in : (begins : Bool) (steps : List ReadyStep) → steps_in steps ≡ next_if begins steps ++ steps_in (rest begins steps)
parts_in false steps = refl
parts_in true [] = refl
parts_in true (one ∷ others) = refl

all_parts : (recovery : Option ReadyStep) (begins : Bool) (steps : List ReadyStep)
    → steps_in (option_to_list recovery ++ steps) ≡ (recovery_in recovery ++ next_if begins steps) ++ steps_in (rest begins steps)
all_parts None begins steps = parts_in begins steps
all_parts (Some one) begins steps = ap (λ (behind : List Step). one.step ∷ behind) (parts_in begins steps)

-- what is readied behind a recovery, where other steps could be
recovery_is : (recovery : Option ReadyStep) (next : Option Step) → option_map (λ (one : ReadyStep). one.step) recovery ≡ next → option_to_list next ≡ recovery_in recovery
recovery_is None None is = refl
recovery_is None (Some step) is = absurd cc
recovery_is (Some one) None is = absurd cc
recovery_is (Some one) (Some step) is = let same : one.step ≡ step = cc in ap (λ (it : Step). it ∷ []) (sym same)

config_parts : (found : GroupValue) (recovery : Option ReadyStep) (steps : List Step) → config_behind found.config (recovery_in recovery ++ steps) ≡ config_behind (group_recovered found recovery).config steps
config_parts found None steps = refl
config_parts found (Some one) steps = refl

none_first : (begins : Bool) (steps : List ReadyStep) → list_any is_spent (steps_in steps) ≡ false → list_any is_spent (next_if begins steps) ≡ false
none_first false steps none = refl
none_first true [] none = refl
none_first true (one ∷ others) none = by (is_spent one.step) none
  where
    by : (b : Bool) → (b || list_any is_spent (steps_in others)) ≡ false → (b || false) ≡ false
    by true e = e
    by false e = refl

-- ---- of changes that were readied

module _ (found : GroupValue) (changes : List Change) (timestamp : ℕ) (ready : ReadyValue) (was : WasReadied found changes timestamp ready) where
  abbrev Answer : Type 0
  Answer = Result (List Step) GroupFault

  abbrev answered : Bool → Option FullTable → List Change → Answer
  answered stray full asked =
      if stray then Err (faults.Refused refusals.Unsettled)
      else with_recovery (loss_spent found) (recovery_of timestamp found) (unless_spent (steps_from timestamp full asked (config_recovered found) (disks_recovered timestamp found)))

  is_answered : answered (has_stray found) (full_of_recovery timestamp found) changes ≡ Ok (steps_in (all_ready ready))
  unfolding readied
  is_answered = was.is_readied

  none_full : answered false None changes ≡ Ok (steps_in (all_ready ready))
  none_full =
      sym (ap (λ (b : Bool). answered b (full_of_recovery timestamp found) changes) (none_stray found changes timestamp ready was)
      ∙ ap (λ (full : Option FullTable). answered false full changes) (has_room found changes timestamp ready was)) ∙ is_answered

  unspent : (steps : List Step) → list_any is_spent steps ≡ false → (tried : Result (List Step) Refusal) → tried ≡ Ok steps → unless_spent tried ≡ Ok steps
  unspent steps none tried is = ap unless_spent is ∙ ap (λ (b : Bool). if b then Err faults.SequenceSpent else Ok steps) none

  -- Where the first of the changes alone give these steps, these are readied behind the recovery.
  pub first_readied : (before : List Change) (begins : Bool) → steps_from timestamp None before (config_recovered found) (disks_recovered timestamp found) ≡ Ok (next_if begins ready.steps)
      → readied found before timestamp ≡ Ok (steps_before begins ready)
  unfolding readied
  first_readied before begins is =
      ap (λ (b : Bool). answered b (full_of_recovery timestamp found) before) (none_stray found changes timestamp ready was)
      ∙ ap (λ (full : Option FullTable). answered false full before) (has_room found changes timestamp ready was)
      ∙ with_others (loss_spent found) (recovery_of timestamp found) (unless_spent (steps_from timestamp None changes (config_recovered found) (disks_recovered timestamp found)))
      (unless_spent (steps_from timestamp None before (config_recovered found) (disks_recovered timestamp found))) (steps_in (all_ready ready)) (steps_in ready.steps) (next_if begins ready.steps) none_full
      (unspent (steps_in ready.steps) (none_spent found changes timestamp ready was) _ (are_tried found changes timestamp ready was))
      (unspent (next_if begins ready.steps) (none_first begins ready.steps (none_spent found changes timestamp ready was)) _ is)
      ∙ ap (λ (first : List Step). Ok (first ++ next_if begins ready.steps)) (recovery_is ready.recovery (recovery_of timestamp found) was.is_recovery)

  pub all_readied : (begins : Bool) → readied found changes timestamp ≡ Ok (steps_before begins ready ++ steps_in (rest begins ready.steps))
  all_readied begins = was.is_readied ∙ ap (λ (all : List Step). Ok all) (all_parts ready.recovery begins ready.steps)

  pub config_first : (begins : Bool) → config_behind found.config (steps_before begins ready) ≡ config_behind (config_recovered found) (next_if begins ready.steps)
  config_first begins =
      config_parts found ready.recovery (next_if begins ready.steps)
      ∙ ap (λ (config : Configuration). config_behind config (next_if begins ready.steps)) (is_recovered found changes timestamp ready was).config_is

-- ---- what the changes ask for

none_lost : (guid : List ℕ) (target : Target) (rows : List ℕ) → AllByRecursion LosesNone (notes_and_end guid target rows)
none_lost guid target [] = (refl, tt)
none_lost guid target (row ∷ rows) = (refl, none_lost guid target rows)

module _ (found : GroupValue) (word : List ℕ) (plan : Plan) (timestamp : ℕ) (is : IsPlanOf (config_recovered found) found.seats (linux_members found) word plan) where
  abbrev config : Configuration
  config = config_recovered found

  abbrev entry : Entry
  entry = is.entry

  abbrev aside : List ℕ
  aside = passed_over (linux_members found) is.entry.1

  filled_in : (filling : Option Filling) → plan.filling ≡ filling → IsFillingIn config found.seats aside entry plan.changes filling
  filled_in filling e = subst (IsFillingIn config found.seats aside entry plan.changes) e is.fills

  changes_by : (filling : Option Filling) → IsFillingIn config found.seats aside entry plan.changes filling → rebuild_changes found.seats entry (begun config entry.0 found.seats aside) ≡ Ok plan.changes
  changes_by None fills = ap (rebuild_changes found.seats entry) fills.nothing ∙ ap (λ (all : List Change). Ok all) (sym fills.no_changes)
  changes_by (Some filling) fills = by (beginning config found.seats aside entry filling.target fills.kept fills.before fills.begins)
    where
      by : Beginning config found.seats aside entry filling.target fills.kept fills.before → rebuild_changes found.seats entry (begun config entry.0 found.seats aside) ≡ Ok plan.changes
      by (goes_on h kept before) =
          ap (rebuild_changes found.seats entry) h
          ∙ ap (λ (n : ℕ). Ok (changes_behind entry filling.target n)) (sym kept)
          ∙ ap (λ (first : List Change). Ok (first ++ changes_behind entry filling.target fills.kept)) (sym before)
          ∙ ap (λ (all : List Change). Ok all) (sym fills.changes_are)
      by (spares change h kept before) =
          ap (rebuild_changes found.seats entry) h
          ∙ ap (unless_refused (change ∷ changes_behind entry filling.target 0)) (fills.unspoilt change before)
          ∙ ap (λ (n : ℕ). Ok (change ∷ changes_behind entry filling.target n)) (sym kept)
          ∙ ap (λ (first : List Change). Ok (first ++ changes_behind entry filling.target fills.kept)) (sym before)
          ∙ ap (λ (all : List Change). Ok all) (sym fills.changes_are)

  request_is : rebuild_request word (linux_members found) config found.seats ≡ Ok plan.changes
  request_is =
      ap (rebuild_asked config found.seats (linux_members found)) is.is_named ∙ ap (rebuild_unless config found.seats (linux_members found) entry) is.accepted ∙ changes_by plan.filling is.fills

  -- The steps that are asked for are those that are readied for its changes.
  pub steps_are : steps_wanted found timestamp (rebuild_request word (linux_members found)) ≡ steps_or (readied found plan.changes timestamp)
  steps_are = ap (steps_asked found timestamp) request_is

  pub can_be_asked : AllByRecursion CanBeAsked plan.changes
  can_be_asked = by plan.filling is.fills
    where
      by : (filling : Option Filling) → IsFillingIn config found.seats aside entry plan.changes filling → AllByRecursion CanBeAsked plan.changes
      by None fills = subst (AllByRecursion CanBeAsked) (sym fills.no_changes) tt
      by (Some filling) fills = fills.can_be_asked

  lose_none : AllByRecursion LosesNone plan.changes
  lose_none = by plan.filling is.fills
    where
      one : (filling : Filling) (fills : IsFillingOf config found.seats aside entry plan.changes filling) → Beginning config found.seats aside entry filling.target fills.kept fills.before
          → AllByRecursion LosesNone (fills.before ++ changes_behind entry filling.target fills.kept)
      one filling fills (goes_on h kept before) =
          subst (λ (first : List Change). AllByRecursion LosesNone (first ++ changes_behind entry filling.target fills.kept)) (sym before)
          (none_lost entry.0 filling.target (notes fills.kept (rows_in entry.1 filling.target.element)))
      one filling fills (spares change h kept before) =
          subst (λ (first : List Change). AllByRecursion LosesNone (first ++ changes_behind entry filling.target fills.kept)) (sym before) (
            subst LosesNone (sym (is_fresh_at config entry.0 found.seats _ filling.target change h).change_is) refl,
            none_lost entry.0 filling.target (notes fills.kept (rows_in entry.1 filling.target.element)),
          )

      by : (filling : Option Filling) → IsFillingIn config found.seats aside entry plan.changes filling → AllByRecursion LosesNone plan.changes
      by None fills = subst (AllByRecursion LosesNone) (sym fills.no_changes) tt
      by (Some filling) fills =
          subst (AllByRecursion LosesNone) (sym fills.changes_are) (one filling fills (beginning config found.seats aside entry filling.target fills.kept fills.before fills.begins))

  module _ (members : AreMembers config found.seats) (ready : ReadyValue) (was : WasReadied found plan.changes timestamp ready) where
    -- No step loses a seat.
    pub keep_seats : KeepSeats found.seats ready.steps
    keep_seats = seats_kept found plan.changes timestamp ready was members lose_none

    -- Where every position is in sync none is left behind the recovery.
    pub idle : plan.filling ≡ None → IsIdle found timestamp word × (ready.steps ≡ [])
    idle e =
        let fills = filled_in None e in
        let none : ◌≡◌ {A = Result (List Step) Refusal} (Ok []) (Ok (steps_in ready.steps)) =
        sym (ap (λ (all : List Change). steps_from timestamp None all config (disks_recovered timestamp found)) fills.no_changes) ∙ are_tried found plan.changes timestamp ready was in
        (record { entry = entry; is_named = is.is_named; nothing = fills.nothing }, empty ready.steps none)
      where
        empty : (steps : List ReadyStep) → ◌≡◌ {A = Result (List Step) Refusal} (Ok []) (Ok (steps_in steps)) → steps ≡ []
        empty [] e = refl
        empty (one ∷ others) e = absurd cc

    module _ (filling : Filling) (e : plan.filling ≡ Some filling) where
      abbrev fills : IsFillingOf config found.seats aside entry plan.changes filling
      fills = filled_in (Some filling) e

      abbrev target : Target
      target = filling.target

      abbrev rows : ℕ
      rows = rows_in entry.1 target.element

      abbrev noted : List ℕ
      noted = notes fills.kept rows

      -- The steps: those before the rows, and one for each of the rows up to which is filled.
      record AreSteps : Type 0 where
        alone : steps_from timestamp None fills.before config (disks_recovered timestamp found) ≡ Ok (next_if filling.begins ready.steps)
        many : length (rest filling.begins ready.steps) ≡ length noted + 1
        shown : view_of (config_behind config (next_if filling.begins ready.steps)) entry.0 found.seats ≡ Ok filling.view

      tried : steps_from timestamp None (fills.before ++ notes_and_end entry.0 target noted) config (disks_recovered timestamp found) ≡ Ok (steps_in ready.steps)
      tried =
          sym (ap (λ (all : List Change). steps_from timestamp None all config (disks_recovered timestamp found)) fills.changes_are) ∙ are_tried found plan.changes timestamp ready was

      begins_as : (before : List Change) → fills.before ≡ before → filling.begins ≡ are_any before
      begins_as before same = fills.begins_is ∙ ap are_any same

      are_steps : Beginning config found.seats aside entry target fills.kept fills.before → AreSteps
      are_steps (goes_on h kept before) =
          let first = (is_again config entry.0 found.seats _ target h).first in
          let no : false ≡ filling.begins = sym (begins_as [] before) in
          let is_view = subst (λ (front : List Change). view_of (begun_config config front) entry.0 found.seats ≡ Ok filling.view) before fills.is_view in
          let row : first.held.row ≡ fills.kept = sym (kept ∙ kept_is config entry.0 found.seats filling.view is_view target first entry.1 (named_is config.arrays word entry is.is_named)) in
          let out : IsOutAt config entry.0 target.element target.position fills.kept = record { held = first.held; is_held = first.is_held; is_out = first.is_out; row_is = row } in
          let all = ap (λ (front : List Change). steps_from timestamp None (front ++ notes_and_end entry.0 target noted) config (disks_recovered timestamp found)) (sym before) ∙ tried in
          let count = many_steps timestamp entry.0 target noted fills.kept (notes_rise fills.kept rows) config (disks_recovered timestamp found) out (steps_in ready.steps) all in
          record {
            alone = ap (λ (front : List Change). steps_from timestamp None front config (disks_recovered timestamp found)) before ∙ ap (λ (b : Bool). Ok (next_if b ready.steps)) no;
            many = sym (ap (λ (b : Bool). length (rest b ready.steps)) no) ∙ sym (count_in ready.steps) ∙ count;
            shown = subst (λ (b : Bool). view_of (config_behind config (next_if b ready.steps)) entry.0 found.seats ≡ Ok filling.view) no is_view;
          }
      are_steps (spares change h kept before) =
          let fresh = is_fresh_at config entry.0 found.seats _ target change h in
          let yes : true ≡ filling.begins = sym (begins_as (change ∷ []) before) in
          let all = ap (λ (front : List Change). steps_from timestamp None (front ++ notes_and_end entry.0 target noted) config (disks_recovered timestamp found)) (sym before) ∙ tried in
          let first =
          has_first timestamp config (disks_recovered timestamp found) change (notes_and_end entry.0 target noted) (fresh_steps config entry.0 found.seats target change fresh) (steps_in ready.steps) all in
          let next = step_of timestamp config (disks_recovered timestamp found) change in
          let out = subst (λ (n : ℕ). IsOutAt next.config entry.0 target.element target.position n) (sym kept)
          (fresh_out config entry.0 found.seats target change fresh next.config.sequence) in
          let count = many_steps timestamp entry.0 target noted fills.kept (notes_rise fills.kept rows) next.config (map levelled next.disks) out first.behind first.behind_are in
          let front = front_of ready.steps next first.behind first.steps_are in
          record {
            alone = ap (λ (some : List Change). steps_from timestamp None some config (disks_recovered timestamp found)) before ∙ first.alone ∙ ap (λ (some : List Step). Ok some) (sym front.0)
                ∙ ap (λ (b : Bool). Ok (next_if b ready.steps)) yes;
            many = sym (ap (λ (b : Bool). length (rest b ready.steps)) yes) ∙ sym (count_in (rest true ready.steps)) ∙ ap length front.1 ∙ count;
            shown = subst (λ (b : Bool). view_of (config_behind config (next_if b ready.steps)) entry.0 found.seats ≡ Ok filling.view) yes
                (subst (λ (some : List Step). view_of (config_behind config some) entry.0 found.seats ≡ Ok filling.view) (sym front.0)
                (subst (λ (some : List Change). view_of (begun_config config some) entry.0 found.seats ≡ Ok filling.view) before fills.is_view));
          }
        where
          front_of : (steps : List ReadyStep) (one : Step) (others : List Step) → steps_in steps ≡ one ∷ others → (next_if true steps ≡ one ∷ []) × (steps_in (rest true steps) ≡ others)
          front_of [] one others same = absurd cc
          front_of (ready_one ∷ steps) one others same =
              let here : ready_one.step ≡ one = cc in
              let later : steps_in steps ≡ others = cc in
              (ap (λ (step : Step). step ∷ []) here, later)

      steps : AreSteps
      steps = are_steps (beginning config found.seats aside entry target fills.kept fills.before fills.begins)

      many : length (rest filling.begins ready.steps) ≡ length filling.rows
      many = steps.many ∙ sym (ap length fills.rows_are ∙ length-append noted (rows ∷ []))

      behind_are : readied found plan.changes timestamp ≡ Ok (steps_before filling.begins ready ++ steps_of (rounds_in filling.rows (rest filling.begins ready.steps)))
      behind_are =
          all_readied found plan.changes timestamp ready was filling.begins
          ∙ ap (λ (behind : List Step). Ok (steps_before filling.begins ready ++ behind)) (sym (steps_zipped filling.rows (rest filling.begins ready.steps) many))

      fit : CanFill config found.seats entry filling
      fit = can_fill config found.seats (linux_members found) word plan is members was.assembled.slots_rise filling e

      plan_is : IsPlanned found timestamp word
      plan_is = record {
        entry = entry;
        is_named = is.is_named;
        target = target;
        kept = fills.kept;
        before = fills.before;
        begins = fills.begins;
        first = steps_before filling.begins ready;
        are_first = first_readied found plan.changes timestamp ready was fills.before filling.begins steps.alone;
        rounds = rounds_in filling.rows (rest filling.begins ready.steps);
        are_asked = steps_are ∙ ap steps_or behind_are;
        are_readied = ap (λ (changes : List Change). readied found changes timestamp) (sym fills.changes_are) ∙ behind_are;
        rows_are = rows_zipped filling.rows (rest filling.begins ready.steps) many ∙ fills.rows_are;
        volume = filling.view;
        is_view = ap (λ (one : Configuration). view_of one entry.0 found.seats) (config_first found plan.changes timestamp ready was filling.begins) ∙ steps.shown;
        known = fills.known;
        apart = fit.apart;
        is_out = fills.is_out;
        unmarked = fills.unmarked;
        within = fit.is_within;
        all_rows = fit.all_rows;
      }

      -- What is planned is what was readied, and its rows can be filled.
      pub planned : IsPlannedFor found timestamp word filling ready
      unfolding plan_is
      planned = record {
        planned = plan_is;
        was = subst (λ (changes : List Change). WasReadied found changes timestamp ready) fills.changes_are was;
        target_is = refl;
        volume_is = refl;
        from_is = sym fills.from_is;
        first_is = refl;
        rounds_are = refl;
        many = many;
        apart = fit.apart;
        is_within = fit.is_within;
        rise = fit.rise;
        ends = λ part at. let all = fit.all_rows part at in omega (arith, all);
      }
