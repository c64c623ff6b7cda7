-- What is planned of an array, and the steps of its group that were readied for it.
use Rattle.std.proofs.Common.{◌≡◌, ℕ, zero, suc, ◌<◌, ◌≤◌, Bool, true, false, not, ◌||◌, List, [], ◌∷◌, ◌++◌, length, Option, Some, None, Result, Ok, Err, refl, sym, ap, subst, ◌∙◌, if◌then◌else◌, arith}
use Rattle.std.proofs.lemmas.Bool.{false≢true}
use Rattle.std.specs.Prelude.{option_map, slice_get}
use Rattle.std.specs.List.{AllByRecursion, list_any}
use Rattle.std.specs.Map.{lookup}
use Rattle.std.specs.Option.{option_and_then}
use Rattle.ddf_lemmas.proofs.Options.{ok_is}
use Rattle.ddf_config.specs.declared.array.Array.{Array}
use Rattle.ddf_config.specs.declared.refusal.Refusal.{Refusal}
use Rattle.ddf_config.specs.declared.seat.Seat.{Seat}
use Rattle.ddf_config.specs.Configuration.{Configuration}
use Rattle.ddf_config.specs.Members.{same_guid}
use Rattle.ddf_config.specs.Seats.{SeatsFit}
use Rattle.ddf_plan.specs.declared.change.Change.{Change}
use Rattle.ddf_plan.specs.declared.change.Change.TheVariants.{Mark}
use Rattle.ddf_plan.specs.Changes.{changed_at}
use Rattle.ddf_plan.specs.Same.{is_step}
use Rattle.ddf_array.specs.Apart.{AreSeats, IsApart}
use Rattle.ddf_array.specs.Sources.{trusts_parity}
use Rattle.ddf_array.specs.Viewing.{is_array_redundant, view_of}
use Rattle.ddf_array.specs.Volume.{Fits, Volume}
use Rattle.ddf_array.specs.Within.{is_redundant}
use Rattle.ddf_array.proofs.Apart.{view_apart}
use Rattle.ddf_array.proofs.Fits.{view_fits}
use Rattle.ddf_array.proofs.Told.{told_redundant}
use Rattle.ddf_rewrite.proofs.Lists.{all_at}
use Rattle.ddf_seats.specs.declared.seated.Seated.{Seated}
use Rattle.ddf_steps.specs.Asked.{CanBeAsked}
use Rattle.ddf_recovery.specs.Committed.{WasReadied, group_next, group_recovered}
use Rattle.ddf_seats.specs.Group.{GroupValue}
use Rattle.ddf_steps.specs.Ready.{ReadyStep, steps_from}
use Rattle.ddf_recovery.specs.Ready.{ReadyValue, all_ready, readied}
use Rattle.ddf_recovery.specs.Recovery.{config_recovered, disks_recovered}
use Rattle.ddf_steps.specs.Refusing.{step_refusal}
use Rattle.ddf_steps.specs.Steps.{Step, step_of}
use Rattle.ddf_seats.specs.Changing.{SlotsRise}
use Rattle.ddf_recovery.proofs.RecoveredGroup.{is_recovered}
use Rattle.ddf_request.specs.Named.{with_array}
use Rattle.ddf_group_commands.specs.Change.{Request, steps_asked, steps_of, steps_or}
use Rattle.ddf_group_commands.proofs.StepsWritten.{steps_in}
use Rattle.ddf_write_commands.specs.declared.planning.Plan.{Plan}
use Rattle.ddf_write_commands.specs.Around.{IsMark, config_behind, front, marking, rest}
use Rattle.ddf_write_commands.specs.Marking.{IsMarkedView, marked_config, marks}
use Rattle.ddf_write_commands.specs.Opened.{AreMembers}
use Rattle.ddf_write_commands.specs.Planned.{Entry, IsPlanned, Refusing, asked_of, changes_around, request_around, unless_refused}
use Rattle.ddf_write_commands.specs.Plans.{IsPlanFor, IsPlanOf}
use Rattle.ddf_write_commands.proofs.Marked.{marked_view, redundant_same, with_mark}
use Rattle.ddf_write_commands.proofs.Splitting.{all_readied, config_is, first_ready, first_readied, split}
use Rattle.ddf_write_commands.proofs.Staying.{mark_keeps, member_there}

-- ---- small things

-- An array that a word names is the one of its GUID.
pub named_by : (arrays : List (List ℕ × Array)) (guid : List ℕ) (entry : Entry) (found : Option Array) → lookup (same_guid guid) arrays ≡ found
    → option_map (λ array. (guid, array)) found ≡ Some entry → lookup (same_guid entry.0) arrays ≡ Some entry.1
named_by arrays guid entry None is e = absurd cc
named_by arrays guid entry (Some array) is e =
    let same : (guid, array) ≡ entry = cc in
    subst (λ (one : Entry). lookup (same_guid one.0) arrays ≡ Some one.1) same is

pub named_in : (arrays : List (List ℕ × Array)) (entry : Entry) (guid : Option (List ℕ)) → option_and_then (with_array arrays) guid ≡ Some entry
    → lookup (same_guid entry.0) arrays ≡ Some entry.1
named_in arrays entry None e = absurd cc
named_in arrays entry (Some guid) e = named_by arrays guid entry (lookup (same_guid guid) arrays) refl e

-- No slot has two seats.
pub rise_apart : (seats : List Seat) → SlotsRise seats → (j k : ℕ) (one other : Seat) → slice_get seats j ≡ Some one → slice_get seats k ≡ Some other → one.slot ≡ other.slot → one.reference ≡ other.reference
rise_apart [] rise j k one other at there same = absurd cc
rise_apart (first ∷ seats) rise zero zero one other at there same =
    let here : one ≡ other = cc in ap (λ (seat : Seat). seat.reference) here
rise_apart (first ∷ seats) rise zero (suc k) one other at there same =
    let here : first ≡ one = cc in
    let less = all_at (λ (seat : Seat). first.slot < seat.slot) seats k other rise.0 there in
    absurd (omega (arith, less, same, ap (λ (seat : Seat). seat.slot) here))
rise_apart (first ∷ seats) rise (suc j) zero one other at there same =
    let here : first ≡ other = cc in
    let less = all_at (λ (seat : Seat). first.slot < seat.slot) seats j one rise.0 at in
    absurd (omega (arith, less, same, ap (λ (seat : Seat). seat.slot) here))
rise_apart (first ∷ seats) rise (suc j) (suc k) one other at there same = rise_apart seats rise.1 j k one other at there same

pub are_seats : (config : Configuration) (seats : List Seat) → AreMembers config seats → SlotsRise seats → AreSeats config.members seats
are_seats config seats members rise = record {
  of_members = λ k seat at. member_there config.members seat.reference (members k seat at);
  differ = rise_apart seats rise;
}

-- the first of the changes, and the others
front_by : (b : Bool) (mark : Change) (others : List Change) → front b ((if b then mark ∷ [] else []) ++ others) ≡ (if b then mark ∷ [] else [])
front_by true mark others = refl
front_by false mark others = refl

rest_by : (b : Bool) (mark : Change) (others : List Change) → rest b ((if b then mark ∷ [] else []) ++ others) ≡ others
rest_by true mark others = refl
rest_by false mark others = refl

-- A mark that is a step is one step.
mark_step : (timestamp : ℕ) (config : Configuration) (disks : List Seated) (change : Change) (steps : List Step) → is_step config change ≡ true
    → steps_from timestamp None (change ∷ []) config disks ≡ Ok steps → step_of timestamp config disks change ∷ [] ≡ steps
mark_step timestamp config disks change steps stepped is = by (step_refusal timestamp None config disks change) (is_step config change) stepped is
  where
    by : (refusal : Option Refusal) (b : Bool) → b ≡ true
        → ◌≡◌ {A = Result (List Step) Refusal} (elim refusal [ Some one ↦ Err one | None ↦ if b then Ok (step_of timestamp config disks change ∷ []) else Ok [] ]) (Ok steps)
        → step_of timestamp config disks change ∷ [] ≡ steps
    by (Some one) b e made = absurd cc
    by None true e made = cc
    by None false e made = absurd (false≢true e)

-- ---- the views of a plan

module _ (behind : Entry → List Change) (config : Configuration) (seats : List Seat) (entry : Entry) (plan : Plan) (is : IsPlanFor behind config seats entry plan)
    (named : lookup (same_guid entry.0) config.arrays ≡ Some entry.1) where
  abbrev shown : IsMarkedView config seats entry plan.view plan.redundant plan.marks
  shown = is.is_marked_view

  redundant_is : plan.redundant ≡ is_array_redundant entry.1
  redundant_is = shown.is_redundant

  marked_by : (b : Bool) → marks config entry ≡ b → view_of (if b then changed_at config (Mark entry.0) config.sequence else config) entry.0 seats ≡ Ok plan.view
  marked_by b e = subst (λ (c : Bool). view_of (if c then changed_at config (Mark entry.0) config.sequence else config) entry.0 seats ≡ Ok plan.view) e shown.is_view

  -- It is the view as it was, or that with its mark set.
  pub either : (P : Volume → Type 0) → P is.before → P (with_mark is.before) → P plan.view
  either P plain marked = by (marks config entry) refl
    where
      by : (b : Bool) → marks config entry ≡ b → P plan.view
      by true e = subst P (ok_is (sym (marked_view config entry.0 seats is.before is.is_before config.sequence) ∙ marked_by true e)) marked
      by false e = subst P (ok_is (sym is.is_before ∙ marked_by false e)) plain

  told_before : is_redundant is.before ≡ is_array_redundant entry.1
  told_before = told_redundant config entry.0 seats is.before entry.1 is.is_before named

  pub redundant_view : is_redundant plan.view ≡ is_array_redundant entry.1
  redundant_view = either (λ (v : Volume). is_redundant v ≡ is_array_redundant entry.1) told_before (redundant_same is.before ∙ told_before)

  -- Where it keeps what it holds in more than one place it is marked.
  pub marked_there : is_array_redundant entry.1 ≡ true → plan.view.marked ≡ true
  marked_there redundant = shown.is_marked (redundant_is ∙ redundant)

  pub none_trusted : is_redundant plan.view ≡ true → trusts_parity plan.view ≡ false
  none_trusted redundant = ap not (marked_there (sym redundant_view ∙ redundant))

  members_marked : AreMembers config seats → (b : Bool) → AreMembers (if b then changed_at config (Mark entry.0) config.sequence else config) seats
  members_marked members true place seat at = mark_keeps config entry.0 seat.reference (members place seat at)
  members_marked members false place seat at = members place seat at

  -- Its places lie apart, and on slots.
  pub apart_there : AreMembers config seats → SlotsRise seats → IsApart plan.view
  apart_there members rise =
      view_apart (marked_config config entry) entry.0 seats plan.view shown.is_view
      (are_seats (marked_config config entry) seats (members_marked members (marks config entry)) rise)

  pub fits_there : (sizes : List ℕ) → SeatsFit sizes seats → Fits sizes plan.view
  fits_there sizes fit = view_fits (marked_config config entry) entry.0 seats plan.view sizes shown.is_view fit

-- ---- the steps around the blocks

-- What is planned of a group, with these steps and this view.
pub record IsPlannedAs (found : GroupValue) (timestamp : ℕ) (word : List ℕ) (request : Request) (before behind : List Step) (view : Volume) : Type 0 where
  pub planned : IsPlanned found timestamp word request
  pub first_is : planned.first ≡ before
  pub last_is : planned.last ≡ behind
  pub volume_is : planned.volume ≡ view

module _ (found : GroupValue) (refusing : Refusing) (behind : Entry → List Change) (word : List ℕ) (plan : Plan) (timestamp : ℕ)
    (is : IsPlanOf refusing behind (config_recovered found) found.seats word plan) (few : length (behind is.entry) ≤ 1) where
  abbrev config : Configuration
  config = config_recovered found

  abbrev entry : Entry
  entry = is.entry

  abbrev view : IsMarkedView config found.seats entry plan.view plan.redundant plan.marks
  view = is.is_for.is_marked_view

  pub front_is : front plan.redundant plan.changes ≡ marking entry
  front_is =
      ap (λ (b : Bool). front b plan.changes) view.is_redundant ∙ ap (front (is_array_redundant entry.1)) is.is_for.changes
      ∙ front_by (is_array_redundant entry.1) (Mark entry.0) (behind entry)

  rest_is : rest plan.redundant plan.changes ≡ behind entry
  rest_is =
      ap (λ (b : Bool). rest b plan.changes) view.is_redundant ∙ ap (rest (is_array_redundant entry.1)) is.is_for.changes
      ∙ rest_by (is_array_redundant entry.1) (Mark entry.0) (behind entry)

  pub few_left : length (rest plan.redundant plan.changes) ≤ 1
  few_left = subst (λ (all : List Change). length all ≤ 1) (sym rest_is) few

  mark_by : (b : Bool) → AllByRecursion IsMark (if b then Mark entry.0 ∷ [] else [])
  mark_by true = (tt, tt)
  mark_by false = tt

  pub mark_first : AllByRecursion IsMark (front plan.redundant plan.changes)
  mark_first = subst (λ (all : List Change). AllByRecursion IsMark all) (sym front_is) (mark_by (is_array_redundant entry.1))

  pub marks_is : plan.marks ≡ list_any (is_step config) (front plan.redundant plan.changes)
  marks_is = view.steps ∙ sym (ap (list_any (is_step config)) front_is)

  asked_by : (b : Bool) → AllByRecursion CanBeAsked (behind entry) → AllByRecursion CanBeAsked ((if b then Mark entry.0 ∷ [] else []) ++ behind entry)
  asked_by true can = (tt, can)
  asked_by false can = can

  pub can_be_asked : AllByRecursion CanBeAsked (behind entry) → AllByRecursion CanBeAsked plan.changes
  can_be_asked can = subst (λ (all : List Change). AllByRecursion CanBeAsked all) (sym is.is_for.changes) (asked_by (is_array_redundant entry.1) can)

  pub request_is : request_around refusing behind word config found.seats ≡ Ok plan.changes
  request_is =
      ap (asked_of refusing behind config found.seats) is.is_named ∙ ap (unless_refused (changes_around behind entry)) is.accepted
      ∙ ap (λ (all : List Change). Ok all) (sym is.is_for.changes)

  pub steps_are : steps_of found timestamp (request_around refusing behind word) ≡ steps_or (readied found plan.changes timestamp)
  steps_are = ap (steps_asked found timestamp) request_is

  module _ (ready : ReadyValue) (was : WasReadied found plan.changes timestamp ready) where
    abbrev recovered : GroupValue
    recovered = group_recovered found ready.recovery

    -- the recovery and the steps before the blocks
    abbrev pub first : List Step
    first = steps_in (all_ready (first_ready found plan.changes timestamp ready was plan.redundant plan.marks marks_is mark_first few_left))

    pub is_first : readied found (front plan.redundant plan.changes) timestamp ≡ Ok first
    is_first = first_readied found plan.changes timestamp ready was plan.redundant plan.marks marks_is mark_first few_left

    marked_one : (steps : List ReadyStep) → step_of timestamp config (disks_recovered timestamp found) (Mark entry.0) ∷ [] ≡ steps_in (front true steps)
        → view_of (changed_at config (Mark entry.0) config.sequence) entry.0 found.seats ≡ Ok plan.view
        → view_of (group_next recovered (record { recovery = None; steps = front true steps })).config entry.0 found.seats ≡ Ok plan.view
    marked_one [] one viewed = absurd cc
    marked_one (first ∷ others) one viewed =
        let same : step_of timestamp config (disks_recovered timestamp found) (Mark entry.0) ≡ first.step = cc in
        subst (λ (step : Step). view_of step.config entry.0 found.seats ≡ Ok plan.view) same viewed

    marked_front : (b : Bool) → list_any (is_step config) (if b then Mark entry.0 ∷ [] else []) ≡ true → (steps : List Step)
        → steps_from timestamp None (if b then Mark entry.0 ∷ [] else []) config (disks_recovered timestamp found) ≡ Ok steps
        → step_of timestamp config (disks_recovered timestamp found) (Mark entry.0) ∷ [] ≡ steps
    marked_front false any steps made = absurd (false≢true any)
    marked_front true any steps made = mark_step timestamp config (disks_recovered timestamp found) (Mark entry.0) steps (either_false (is_step config (Mark entry.0)) any) made
      where
        either_false : (b : Bool) → (b || false) ≡ true → b ≡ true
        either_false true e = refl
        either_false false e = e

    -- Behind them the view is that of the plan.
    view_by : (b : Bool) → plan.marks ≡ b → steps_from timestamp None (front plan.redundant plan.changes) config (disks_recovered timestamp found) ≡ Ok (steps_in (front b ready.steps))
        → view_of (group_next recovered (record { recovery = None; steps = front b ready.steps })).config entry.0 found.seats ≡ Ok plan.view
    view_by false e made =
        subst (λ (one : Configuration). view_of one entry.0 found.seats ≡ Ok plan.view) (sym (is_recovered found plan.changes timestamp ready was).config_is)
        (subst (λ (c : Bool). view_of (if c then changed_at config (Mark entry.0) config.sequence else config) entry.0 found.seats ≡ Ok plan.view) (sym view.steps ∙ e) view.is_view)
    view_by true e made =
        marked_one ready.steps
        (marked_front (is_array_redundant entry.1) (sym view.steps ∙ e) (steps_in (front true ready.steps))
        (subst (λ (all : List Change). steps_from timestamp None all config (disks_recovered timestamp found) ≡ Ok (steps_in (front true ready.steps))) front_is made))
        (subst (λ (c : Bool). view_of (if c then changed_at config (Mark entry.0) config.sequence else config) entry.0 found.seats ≡ Ok plan.view) (sym view.steps ∙ e) view.is_view)

    view_behind : view_of (config_behind found.config first) entry.0 found.seats ≡ Ok plan.view
    view_behind =
        subst (λ (one : Configuration). view_of one entry.0 found.seats ≡ Ok plan.view)
        (config_is found plan.changes timestamp ready was plan.redundant plan.marks marks_is mark_first few_left)
        (view_by plan.marks refl (split found plan.changes timestamp ready was plan.redundant plan.marks marks_is mark_first few_left).is_front)

    -- So it is planned of the group.
    pub planned_by : (before last : List Step) → readied found (front plan.redundant plan.changes) timestamp ≡ Ok before → readied found plan.changes timestamp ≡ Ok (before ++ last)
        → IsPlannedAs found timestamp word (request_around refusing behind word) before last plan.view
    planned_by before last are_first are_all =
        let same : first ≡ before = ok_is (sym is_first ∙ are_first) in
        record {
          planned = record {
            entry = entry;
            is_named = is.is_named;
            first = before;
            last = last;
            are_first = subst (λ (all : List Change). readied found all timestamp ≡ Ok before) front_is are_first;
            are_asked = steps_are ∙ ap steps_or are_all;
            volume = plan.view;
            is_view = subst (λ (steps : List Step). view_of (config_behind found.config steps) entry.0 found.seats ≡ Ok plan.view) same view_behind;
            is_marked = λ redundant. view.is_marked (view.is_redundant ∙ redundant);
          };
          first_is = refl;
          last_is = refl;
          volume_is = refl;
        }

    pub planned : IsPlannedAs found timestamp word (request_around refusing behind word) first (steps_in (rest plan.marks ready.steps)) plan.view
    planned =
        planned_by first (steps_in (rest plan.marks ready.steps)) is_first (all_readied found plan.changes timestamp ready was plan.redundant plan.marks marks_is mark_first few_left)
