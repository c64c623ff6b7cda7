-- How it is planned what is written around the blocks of an array, or why it isn't.
use Rattle.std.proofs.Common.{◌≡◌, ℕ, Bool, true, false, not, List, [], ◌∷◌, ◌++◌, Option, Some, None, Result, Ok, Err, refl, sym, ap, subst, ◌∙◌, if◌then◌else◌}
use Rattle.std.proofs.lemmas.Bool.{false≢true}
use Rattle.std.specs.Prelude.{option_to_list, unwrap_or}
use Rattle.std.specs.List.{list_any}
use Rattle.std.specs.Map.{lookup}
use Rattle.std.specs.Option.{option_or}
use Rattle.std.proofs.Math.Bool.{or-false}
use Rattle.ddf_lemmas.proofs.Options.{ok_is, some_is}
use Rattle.ddf_config.specs.declared.array.Array.{Array}
use Rattle.ddf_config.specs.declared.refusal.Refusal.{Refusal}
use Rattle.ddf_config.specs.declared.refusal.Refusal.TheVariants.{Lost, Unsure}
use Rattle.ddf_config.specs.declared.seat.Seat.{Seat}
use Rattle.ddf_config.specs.Configuration.{Configuration}
use Rattle.ddf_config.specs.Members.{same_guid}
use Rattle.ddf_config.specs.Refusals.{first_refusal, refuse_if}
use Rattle.ddf_config.specs.States.{is_marked}
use Rattle.ddf_config.proofs.Firsts.{first_append}
use Rattle.ddf_plan.specs.declared.change.Change.{Change}
use Rattle.ddf_plan.specs.declared.change.Change.TheVariants.{Mark}
use Rattle.ddf_plan.specs.Changes.{changed, changed_at}
use Rattle.ddf_plan.specs.Same.{is_step, same_tables}
use Rattle.ddf_plan.proofs.Afters.{last_pass}
use Rattle.ddf_array.specs.Viewing.{is_array_redundant, is_array_within, view_of}
use Rattle.ddf_array.specs.Volume.{IsVolume, Volume}
use Rattle.ddf_array.specs.Within.{is_redundant, is_within}
use Rattle.ddf_array.proofs.Told.{told_redundant, told_within}
use Rattle.ddf_array.proofs.Viewed.{from_view}
use Rattle.ddf_cells.specs.Degraded.{is_degraded}
use Rattle.ddf_read.specs.declared.fault.VolumeFault.{VolumeFault}
use Rattle.ddf_read.specs.declared.fault.VolumeFault.TheVariants as volumes
use Rattle.ddf_resync.specs.Resyncing.{resync_refusal}
use Rattle.ddf_request.specs.Named.{named_array}
use Rattle.ddf_answer.specs.declared.failure.Failure.{Failure}
use Rattle.ddf_answer.specs.declared.failure.Failure.TheVariants.{Conflict, Disk, Memory, Refused, Split}
use Rattle.ddf_read_commands.specs.declared.using.Access.{Access}
use Rattle.ddf_read_commands.specs.declared.using.Access.TheVariants.{Reads}
use Rattle.ddf_read_commands.specs.Use.{IsUsable, IsViewed, MayUse, array_refusals, failure_of_volume, use_refusal}
use Rattle.ddf_write_commands.specs.declared.planning.Plan.{Plan}
use Rattle.ddf_write_commands.specs.Around.{marking}
use Rattle.ddf_write_commands.specs.Marking.{IsMarkedAs, marks}
use Rattle.ddf_write_commands.specs.Planned.{Entry, asked_of, changes_around, lacks_position, unless_refused}
use Rattle.ddf_write_commands.specs.Plans.{IsPlanFor, IsPlanOf, MayPlan, MayPlanFor}
use Rattle.ddf_write_commands.specs.Resync.{resync_behind, resync_refusals}
use Rattle.ddf_write_commands.proofs.Marked.{marked_view, refusal_same, was_marked}
use Rattle.ddf_write_commands.proofs.PlanKept.{either}
use Rattle.ddf_read_commands.proofs.ArrayUse.{named_is}

-- ---- an array that can't be used

module _ (access : Access) (start count : ℕ) (more : Configuration → List Seat → Entry → List (Option Refusal)) (behind : Entry → List Change) where
  -- what a command is refused for that uses blocks so
  abbrev refusing : Configuration → List Seat → Entry → List (Option Refusal)
  refusing config seats entry = array_refusals access config seats entry.0 entry.1 start count ++ more config seats entry

  module _ (config : Configuration) (seats : List Seat) (word : List ℕ) where
    refused_by : (refusal : Refusal) (found : Option Entry) → use_refusal access config seats found start count ≡ Some refusal → asked_of refusing behind config seats found ≡ Err refusal
    refused_by refusal None e = ap (λ (one : Refusal). Err one) (some_is e)
    refused_by refusal (Some entry) e =
        ap (unless_refused (changes_around behind entry))
        (first_append (array_refusals access config seats entry.0 entry.1 start count) (more config seats entry) ∙ ap (λ (r : Option Refusal). option_or r (first_refusal (more config seats entry))) e)

    pub not_usable : (failure : Failure) → MayUse access config seats word start count (Err failure) → MayPlan refusing behind config seats word (Err failure)
    not_usable (Refused refusal) may = refused_by refusal (named_array config.arrays word) may
    not_usable (Disk slot) may = absurd may
    not_usable (Conflict i j sequence differ) may = absurd may
    not_usable (Split i j) may = absurd may
    not_usable Memory may = tt

    module _ (used : List ℕ × Volume) (usable : IsUsable access config seats word start count used) where
      abbrev entry : Entry
      entry = (used.0, usable.array)

      -- of one that can be used the others decide
      pub then_more : first_refusal (refusing config seats entry) ≡ first_refusal (more config seats entry)
      then_more =
          first_append (array_refusals access config seats used.0 usable.array start count) (more config seats entry)
          ∙ ap (λ (r : Option Refusal). option_or r (first_refusal (more config seats entry))) usable.accepted

      pub refused_more : (refusal : Refusal) → first_refusal (more config seats entry) ≡ Some refusal → MayPlan refusing behind config seats word (Err (Refused refusal))
      refused_more refusal e =
          ap (asked_of refusing behind config seats) usable.is_named ∙ ap (unless_refused (changes_around behind entry)) (then_more ∙ e)

      pub found_there : lookup (same_guid used.0) config.arrays ≡ Some usable.array
      found_there = named_is config.arrays word entry usable.is_named

      pub within_is : is_within used.1 ≡ is_array_within seats usable.array
      within_is = told_within config used.0 seats used.1 usable.array usable.is_view found_there

      pub plan_of : first_refusal (more config seats entry) ≡ None → (result : Result Plan Failure) → MayPlanFor behind config seats entry result → MayPlan refusing behind config seats word result
      plan_of none (Ok plan) is = record { entry = entry; is_named = usable.is_named; accepted = then_more ∙ none; is_for = is }
      plan_of none (Err (Refused refusal)) is = absurd is
      plan_of none (Err (Disk slot)) is = absurd is
      plan_of none (Err (Conflict i j sequence differ)) is = absurd is
      plan_of none (Err (Split i j)) is = absurd is
      plan_of none (Err Memory) is = tt

-- ---- one that isn't resynced

abbrev pub more_of_resync : Configuration → List Seat → Entry → List (Option Refusal)
more_of_resync config seats entry = refuse_if (not (is_array_within seats entry.1)) Lost ∷ refuse_if (lacks_position (view_of config entry.0 seats)) Unsure ∷ []

-- as the program tells it
refused_as : (within lacks : Bool) (fault : VolumeFault) → (if not within then Some volumes.Lost else (if lacks then Some volumes.Unsure else None)) ≡ Some fault
    → (refusal : Refusal) × (failure_of_volume fault ≡ Refused refusal) × (first_refusal (refuse_if (not within) Lost ∷ refuse_if lacks Unsure ∷ []) ≡ Some refusal)
refused_as false lacks fault e = (Lost, ap failure_of_volume (sym (some_is e)), refl)
refused_as true true fault e = (Unsure, ap failure_of_volume (sym (some_is e)), refl)
refused_as true false fault e = absurd cc

none_as : (within lacks : Bool) → ◌≡◌ {A = Option VolumeFault} (if not within then Some volumes.Lost else (if lacks then Some volumes.Unsure else None)) None
    → first_refusal (refuse_if (not within) Lost ∷ refuse_if lacks Unsure ∷ []) ≡ None
none_as false lacks e = absurd cc
none_as true true e = absurd cc
none_as true false e = refl

none_back : (within lacks : Bool) → first_refusal (refuse_if (not within) Lost ∷ refuse_if lacks Unsure ∷ []) ≡ None
    → ◌≡◌ {A = Option VolumeFault} (if not within then Some volumes.Lost else (if lacks then Some volumes.Unsure else None)) None
none_back false lacks e = absurd cc
none_back true true e = absurd cc
none_back true false e = refl

module _ (config : Configuration) (seats : List Seat) (word : List ℕ) (used : List ℕ × Volume) (usable : IsUsable Reads config seats word 0 0 used) where
  more_is : first_refusal (more_of_resync config seats (used.0, usable.array)) ≡ first_refusal (refuse_if (not (is_within used.1)) Lost ∷ refuse_if (is_degraded used.1) Unsure ∷ [])
  more_is =
      ap (λ (b : Bool). first_refusal (refuse_if (not b) Lost ∷ refuse_if (lacks_position (view_of config used.0 seats)) Unsure ∷ []))
      (sym (within_is Reads 0 0 more_of_resync resync_behind config seats word used usable))
      ∙ ap (λ (view : Result Volume Refusal). first_refusal (refuse_if (not (is_within used.1)) Lost ∷ refuse_if (lacks_position view) Unsure ∷ [])) usable.is_view

  pub resync_refused : (fault : VolumeFault) → resync_refusal used.1 ≡ Some fault → MayPlan resync_refusals resync_behind config seats word (Err (failure_of_volume fault))
  resync_refused fault e =
      let told = refused_as (is_within used.1) (is_degraded used.1) fault e in
      subst (λ (failure : Failure). MayPlan resync_refusals resync_behind config seats word (Err failure)) (sym told.1)
      (refused_more Reads 0 0 more_of_resync resync_behind config seats word used usable told.0 (more_is ∙ told.2))

  pub resync_plan : resync_refusal used.1 ≡ None → (result : Result Plan Failure) → MayPlanFor resync_behind config seats (used.0, usable.array) result
      → MayPlan resync_refusals resync_behind config seats word result
  resync_plan none result is =
      plan_of Reads 0 0 more_of_resync resync_behind config seats word used usable (more_is ∙ none_as (is_within used.1) (is_degraded used.1) none) result is

pub resync_accepted : (config : Configuration) (seats : List Seat) (word : List ℕ) (plan : Plan) → IsPlanOf resync_refusals resync_behind config seats word plan → resync_refusal plan.view ≡ None
resync_accepted config seats word plan is =
    let entry = is.entry in
    let found = named_is config.arrays word entry is.is_named in
    let more = last_pass (array_refusals Reads config seats entry.0 entry.1 0 0) (more_of_resync config seats entry) is.accepted in
    let within = told_within config entry.0 seats is.is_for.before entry.1 is.is_for.is_before found in
    let before : resync_refusal is.is_for.before ≡ None =
    none_back (is_within is.is_for.before) (is_degraded is.is_for.before)
    (ap (λ (b : Bool). first_refusal (refuse_if (not b) Lost ∷ refuse_if (is_degraded is.is_for.before) Unsure ∷ [])) within
    ∙ ap (λ (view : Result Volume Refusal). first_refusal (refuse_if (not (is_array_within seats entry.1)) Lost ∷ refuse_if (lacks_position view) Unsure ∷ [])) (sym is.is_for.is_before) ∙ more) in
    either resync_behind config seats entry plan is.is_for found (λ (v : Volume). resync_refusal v ≡ None) before (refusal_same is.is_for.before ∙ before)

-- ---- the plan of an array that nothing refuses

-- Whether a change is a step doesn't depend on the sequence number that it gets.
pub same_numbered : (config : Configuration) (change : Change) (sequence : ℕ) → same_tables config (changed_at config change sequence) ≡ same_tables config (changed config change)
unfolding same_tables
same_numbered config change sequence = refl

module _ (config : Configuration) (seats : List Seat) (guid : List ℕ) (view : Volume) (is : view_of config guid seats ≡ Ok view) where
  -- what marking gives
  pub not_step : same_tables config (changed_at config (Mark guid) config.sequence) ≡ true → IsMarkedAs config guid seats view (Ok (false, view, None))
  not_step same = (sym (ap not (sym (same_numbered config (Mark guid) config.sequence) ∙ same)), is, refl)

  pub a_step : same_tables config (changed_at config (Mark guid) config.sequence) ≡ false → (next : Volume) → view_of (changed_at config (Mark guid) config.sequence) guid seats ≡ Ok next
      → IsMarkedAs config guid seats view (Ok (true, next, Some view))
  a_step same next viewed = (sym (ap not (sym (same_numbered config (Mark guid) config.sequence) ∙ same)), viewed, refl)

  pub no_view : (failure : Failure) → IsViewed (view_of (changed_at config (Mark guid) config.sequence) guid seats) (Err failure) → IsMarkedAs config guid seats view (Err failure)
  no_view (Refused refusal) e = let has = sym (marked_view config guid seats view is config.sequence) ∙ e in absurd cc
  no_view (Disk slot) e = absurd e
  no_view (Conflict i j sequence differ) e = absurd e
  no_view (Split i j) e = absurd e
  no_view Memory e = tt

  module _ (array : Array) (found : lookup (same_guid guid) config.arrays ≡ Some array) (after : Entry → List Change) (behind : Option Change) (after_is : after (guid, array) ≡ option_to_list behind) where
    abbrev item : Entry
    item = (guid, array)

    redundant_is : is_redundant view ≡ is_array_redundant array
    redundant_is = told_redundant config guid seats view array is found

    marking_as : (b : Bool) → is_array_redundant array ≡ b → marking item ≡ (if b then Mark guid ∷ [] else [])
    marking_as b e = ap (λ (c : Bool). if c then Mark guid ∷ [] else []) e

    -- of one that keeps all that it holds once
    pub plain_plan : is_redundant view ≡ false → IsVolume view → (changes : List Change) → changes ≡ option_to_list behind
        → IsPlanFor after config seats item (record { changes = changes; redundant = false; marks = false; view = view; unmarked = None })
    plain_plan once known changes changes_are =
        let none = sym redundant_is ∙ once in
        let mark = marking_as false none in
        let no_step : marks config item ≡ false = ap (list_any (is_step config)) mark in
        record {
          changes = changes_are ∙ sym after_is ∙ ap (λ (first : List Change). first ++ after item) (sym mark);
          before = view;
          is_before = is;
          is_marked_view = record {
            is_view = subst (λ (b : Bool). view_of (if b then changed_at config (Mark guid) config.sequence else config) guid seats ≡ Ok view) (sym no_step) is;
            is_redundant = sym none;
            steps = sym no_step;
            is_marked = λ never. absurd (false≢true never);
          };
          known = known;
          is_unmarked = refl;
          known_before = known;
        }

    -- of one that keeps it several times
    marked_next : (b : Bool) → b ≡ is_step config (Mark guid) → (next : Volume) → view_of (if b then changed_at config (Mark guid) config.sequence else config) guid seats ≡ Ok next → next.marked ≡ true
    marked_next true step next viewed = ap (λ (v : Volume). v.marked) (sym (ok_is (sym (marked_view config guid seats view is config.sequence) ∙ viewed)))
    marked_next false step next viewed =
        let viewed_as = from_view config guid seats next viewed in
        viewed_as.marked_is ∙ ap is_marked (some_is (sym viewed_as.array_is ∙ found)) ∙ was_marked config guid array found (sym step)

    pub marked_plan : is_redundant view ≡ true → (marked : Bool) (next : Volume) (unmarked : Option Volume) → marked ≡ is_step config (Mark guid)
        → view_of (if marked then changed_at config (Mark guid) config.sequence else config) guid seats ≡ Ok next → unwrap_or unmarked next ≡ view → IsVolume next → IsVolume view → (changes : List Change)
        → changes ≡ Mark guid ∷ option_to_list behind → IsPlanFor after config seats item (record { changes = changes; redundant = true; marks = marked; view = next; unmarked = unmarked })
    marked_plan several marked next unmarked step viewed was known known_before changes changes_are =
        let all = sym redundant_is ∙ several in
        let mark = marking_as true all in
        let steps : marks config item ≡ marked = ap (list_any (is_step config)) mark ∙ or-false (is_step config (Mark guid)) ∙ sym step in
        record {
          changes = changes_are ∙ ap (λ (rest : List Change). Mark guid ∷ rest) (sym after_is) ∙ ap (λ (first : List Change). first ++ after item) (sym mark);
          before = view;
          is_before = is;
          is_marked_view = record {
            is_view = subst (λ (b : Bool). view_of (if b then changed_at config (Mark guid) config.sequence else config) guid seats ≡ Ok next) (sym steps) viewed;
            is_redundant = sym all;
            steps = sym steps;
            is_marked = λ redundant. marked_next marked step next viewed;
          };
          known = known;
          is_unmarked = was;
          known_before = known_before;
        }
