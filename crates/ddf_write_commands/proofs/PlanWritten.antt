-- How a write of blocks is planned, or why it isn't.
use Rattle.std.proofs.Common.{◌≡◌, ℕ, ◌+◌, ◌≤◌, Bool, true, false, not, ◌||◌, List, [], ◌∷◌, ◌++◌, Option, Some, None, Result, Err, refl, sym, ap, ◌∙◌, if◌then◌else◌, length, arith}
use Rattle.std.proofs.lemmas.Bool.{false≢true, or_left, or_right}
use Rattle.std.specs.Prelude.{nat_lt}
use Rattle.std.specs.List.{AllByRecursion, list_any}
use Rattle.std.specs.Map.{lookup}
use Rattle.std.specs.Option.{option_or}
use Rattle.ddf_lemmas.proofs.Options.{some_is}
use Rattle.ddf_config.specs.declared.refusal.Refusal.{Refusal}
use Rattle.ddf_config.specs.declared.refusal.Refusal.TheVariants.{Degraded, Held, Lost, Marked, Range}
use Rattle.ddf_config.specs.declared.seat.Seat.{Seat}
use Rattle.ddf_config.specs.Configuration.{Configuration}
use Rattle.ddf_config.specs.Members.{same_guid}
use Rattle.ddf_config.specs.Refusals.{first_refusal, refuse_if}
use Rattle.ddf_config.specs.Shapes.{array_capacity}
use Rattle.ddf_config.specs.States.{is_marked}
use Rattle.ddf_config.specs.Within.{is_complete}
use Rattle.ddf_config.proofs.Firsts.{first_append}
use Rattle.ddf_plan.specs.declared.change.Change.{Change}
use Rattle.ddf_plan.specs.declared.change.Change.TheVariants.{Unmark}
use Rattle.ddf_array.specs.declared.part.Part.{Part}
use Rattle.ddf_array.specs.Levels.{keeps_copies, keeps_parity}
use Rattle.ddf_array.specs.Viewing.{is_array_redundant, is_array_within, view_of}
use Rattle.ddf_array.specs.Volume.{Volume, capacity}
use Rattle.ddf_array.specs.Within.{is_mirrored, is_redundant, is_within, keeps_more}
use Rattle.ddf_array.proofs.Told.{told_capacity, told_redundant, told_within}
use Rattle.ddf_array.proofs.Viewed.{from_view}
use Rattle.ddf_cells.specs.Degraded.{is_degraded}
use Rattle.ddf_read.specs.declared.fault.VolumeFault.{VolumeFault}
use Rattle.ddf_read.specs.declared.fault.VolumeFault.TheVariants as volumes
use Rattle.ddf_resync.specs.Resyncing.{resync_refusal}
use Rattle.ddf_write.specs.RowWrites.{keeps_parity_anywhere, keeps_parity_in}
use Rattle.ddf_write.specs.WriteRefused.{write_refusal}
use Rattle.ddf_steps.specs.Asked.{CanBeAsked}
use Rattle.ddf_request.specs.Usable.{bad_blocks, useless}
use Rattle.ddf_answer.specs.declared.failure.Failure.{Failure}
use Rattle.ddf_answer.specs.declared.failure.Failure.TheVariants.{Refused}
use Rattle.ddf_read_commands.specs.declared.using.Access.TheVariants.{Writes}
use Rattle.ddf_read_commands.specs.Use.{IsUsable, array_refusals, is_forbidden, is_out_of_range}
use Rattle.ddf_write_commands.specs.declared.planning.Plan.{Plan}
use Rattle.ddf_write_commands.specs.Planned.{Entry, lacks_position}
use Rattle.ddf_write_commands.specs.Plans.{IsPlanOf, MayPlan, MayPlanFor}
use Rattle.ddf_write_commands.specs.Write.{write_behind, write_refusals}
use Rattle.ddf_write_commands.proofs.Marked.{refusal_same}
use Rattle.ddf_write_commands.proofs.PlanKept.{either}
use Rattle.ddf_write_commands.proofs.PlanMade.{found_there, plan_of, refused_more, within_is}
use Rattle.ddf_read_commands.proofs.ArrayUse.{named_is, within_range}

abbrev pub more_of_write : Configuration → List Seat → Entry → List (Option Refusal)
more_of_write config seats entry =
    refuse_if (not (is_array_within seats entry.1)) Lost ∷ refuse_if (is_marked entry.1) Marked ∷ refuse_if (lacks_position (view_of config entry.0 seats)) Degraded ∷ []

abbrev three : (within marked lacks : Bool) → List (Option Refusal)
three within marked lacks = refuse_if (not within) Lost ∷ refuse_if marked Marked ∷ refuse_if lacks Degraded ∷ []

module _ (start count : ℕ) (config : Configuration) (seats : List Seat) (word : List ℕ) (used : List ℕ × Volume) (usable : IsUsable Writes config seats word start count used) where
  marked_is : used.1.marked ≡ is_marked usable.array
  marked_is =
      let viewed = from_view config used.0 seats used.1 usable.is_view in
      viewed.marked_is ∙ ap is_marked (some_is (sym viewed.array_is ∙ found_there Writes start count more_of_write write_behind config seats word used usable))

  more_is : first_refusal (more_of_write config seats (used.0, usable.array)) ≡ first_refusal (three (is_within used.1) used.1.marked (is_degraded used.1))
  more_is =
      ap (λ (b : Bool). first_refusal (three b (is_marked usable.array) (lacks_position (view_of config used.0 seats)))) (sym (within_is Writes start count more_of_write write_behind config seats word used usable))
      ∙ ap (λ (b : Bool). first_refusal (three (is_within used.1) b (lacks_position (view_of config used.0 seats)))) (sym marked_is)
      ∙ ap (λ (view : Result Volume Refusal). first_refusal (three (is_within used.1) used.1.marked (lacks_position view))) usable.is_view

  pub write_refused : (refusal : Refusal) → first_refusal (three (is_within used.1) used.1.marked (is_degraded used.1)) ≡ Some refusal
      → MayPlan (write_refusals start count) write_behind config seats word (Err (Refused refusal))
  write_refused refusal e = refused_more Writes start count more_of_write write_behind config seats word used usable refusal (more_is ∙ e)

  pub write_plan : first_refusal (three (is_within used.1) used.1.marked (is_degraded used.1)) ≡ None → (result : Result Plan Failure) → MayPlanFor write_behind config seats (used.0, usable.array) result
      → MayPlan (write_refusals start count) write_behind config seats word result
  write_plan none result is = plan_of Writes start count more_of_write write_behind config seats word used usable (more_is ∙ none) result is

  pub behind_is : write_behind (used.0, usable.array) ≡ (if is_redundant used.1 then Unmark used.0 usable.array.init ∷ [] else [])
  behind_is =
      ap (λ (b : Bool). if b then Unmark used.0 usable.array.init ∷ [] else [])
      (sym (told_redundant config used.0 seats used.1 usable.array usable.is_view (found_there Writes start count more_of_write write_behind config seats word used usable)))

-- ---- of what is planned nothing is refused

none_of_both : (xs ys : List (Option Refusal)) → first_refusal (xs ++ ys) ≡ None → (first_refusal xs ≡ None) × (first_refusal ys ≡ None)
none_of_both xs ys none = by (first_refusal xs) refl
  where
    by : (first : Option Refusal) → first_refusal xs ≡ first → (first_refusal xs ≡ None) × (first_refusal ys ≡ None)
    by None e = (e, sym (first_append xs ys ∙ ap (λ (r : Option Refusal). option_or r (first_refusal ys)) e) ∙ none)
    by (Some refusal) e = let is = sym (first_append xs ys ∙ ap (λ (r : Option Refusal). option_or r (first_refusal ys)) e) ∙ none in absurd cc

second_of : (a b c d e : Option Refusal) → first_refusal (a ∷ b ∷ c ∷ d ∷ e ∷ []) ≡ None → (b ≡ None) × (e ≡ None)
second_of (Some x) b c d e h = absurd cc
second_of None (Some x) c d e h = absurd cc
second_of None None (Some x) d e h = absurd cc
second_of None None None (Some x) e h = absurd cc
second_of None None None None (Some x) h = absurd cc
second_of None None None None None h = (refl, refl)

none_of_three : (within marked lacks : Bool) → first_refusal (three within marked lacks) ≡ None
    → ◌≡◌ {A = Option VolumeFault} (if not within then Some volumes.Lost else (if lacks then Some volumes.Unsure else None)) None
none_of_three false marked lacks e = absurd cc
none_of_three true true lacks e = absurd cc
none_of_three true false true e = absurd cc
none_of_three true false false e = refl

unmarked_by : (within marked lacks : Bool) → first_refusal (three within marked lacks) ≡ None → marked ≡ false
unmarked_by false marked lacks e = absurd cc
unmarked_by true true lacks e = absurd cc
unmarked_by true false lacks e = refl

none_written : (passes within lacks : Bool) (most : ℕ) → passes ≡ false → ◌≡◌ {A = Option VolumeFault} (if not within then Some volumes.Lost else (if lacks then Some volumes.Unsure else None)) None
    → ◌≡◌ {A = Option VolumeFault} (if passes then Some (volumes.Range most) else (if not within then Some volumes.Lost else (if lacks then Some volumes.Degraded else None))) None
none_written true within lacks most e none = absurd (false≢true (sym e))
none_written false false lacks most e none = absurd cc
none_written false true true most e none = absurd cc
none_written false true false most e none = refl

any_more : (parts : List Part) → list_any keeps_parity_in parts ≡ true → list_any keeps_more parts ≡ true
any_more [] e = absurd (false≢true e)
any_more (part ∷ parts) e = by (keeps_parity part.shape.layout) refl e (any_more parts)
  where
    by : (b : Bool) → keeps_parity part.shape.layout ≡ b → (b || list_any keeps_parity_in parts) ≡ true → (list_any keeps_parity_in parts ≡ true → list_any keeps_more parts ≡ true)
        → (keeps_more part || list_any keeps_more parts) ≡ true
    by true keeps any later = or_left (keeps_more part) (list_any keeps_more parts) (or_right (keeps_copies part.shape.layout) (keeps_parity part.shape.layout) keeps)
    by false keeps any later = or_right (keeps_more part) (list_any keeps_more parts) (later any)

-- An array that keeps parity keeps what it holds in more than one place.
pub parity_redundant : (v : Volume) → keeps_parity_anywhere v ≡ true → is_redundant v ≡ true
parity_redundant v keeps = or_right (is_mirrored v) (list_any keeps_more v.parts) (any_more v.parts keeps)

module _ (start count : ℕ) (config : Configuration) (seats : List Seat) (word : List ℕ) (plan : Plan) (is : IsPlanOf (write_refusals start count) write_behind config seats word plan) where
  abbrev entry : Entry
  entry = is.entry

  both : (first_refusal (array_refusals Writes config seats entry.0 entry.1 start count) ≡ None) × (first_refusal (more_of_write config seats entry) ≡ None)
  both = none_of_both (array_refusals Writes config seats entry.0 entry.1 start count) (more_of_write config seats entry) is.accepted

  range : nat_lt (array_capacity entry.1) (start + count) ≡ false
  range =
      let some = second_of (useless config seats entry.0 entry.1) (refuse_if (is_out_of_range entry.1 start count) (Range (array_capacity entry.1))) (bad_blocks seats entry.1)
      (refuse_if (is_forbidden Writes entry.1) Held) (refuse_if (not (is_complete entry.1)) Lost) both.0 in
      within_range (is_complete entry.1) (nat_lt (array_capacity entry.1) (start + count)) (array_capacity entry.1) some.0 some.1

  found : lookup (same_guid entry.0) config.arrays ≡ Some entry.1
  found = named_is config.arrays word entry is.is_named

  not_refused : resync_refusal is.is_for.before ≡ None
  not_refused =
      let v = is.is_for.before in
      let within = told_within config entry.0 seats v entry.1 is.is_for.is_before found in
      none_of_three (is_within v) (is_marked entry.1) (is_degraded v)
      (ap (λ (b : Bool). first_refusal (three b (is_marked entry.1) (is_degraded v))) within
      ∙ ap (λ (view : Result Volume Refusal). first_refusal (three (is_array_within seats entry.1) (is_marked entry.1) (lacks_position view))) (sym is.is_for.is_before) ∙ both.1)

  -- Nor is it once it is marked.
  pub write_accepted : write_refusal plan.view start count ≡ None
  write_accepted =
      let same : capacity plan.view ≡ capacity is.is_for.before = either write_behind config seats entry plan is.is_for found (λ (v : Volume). capacity v ≡ capacity is.is_for.before) refl refl in
      let told = told_capacity config entry.0 seats is.is_for.before entry.1 is.is_for.is_before found in
      none_written (nat_lt (capacity plan.view) (start + count)) (is_within plan.view) (is_degraded plan.view) (capacity plan.view)
      (ap (λ (n : ℕ). nat_lt n (start + count)) (same ∙ told) ∙ range)
      (either write_behind config seats entry plan is.is_for found (λ (v : Volume). resync_refusal v ≡ None) not_refused (refusal_same is.is_for.before ∙ not_refused))

  -- The array isn't marked,
  pub was_unmarked : is.is_for.before.marked ≡ false
  was_unmarked =
      let viewed = from_view config entry.0 seats is.is_for.before is.is_for.is_before in
      viewed.marked_is ∙ ap is_marked (some_is (sym viewed.array_is ∙ found))
      ∙ unmarked_by (is_array_within seats entry.1) (is_marked entry.1) (lacks_position (view_of config entry.0 seats)) both.1

  -- and it is as little refused.
  pub unmarked_accepted : write_refusal is.is_for.before start count ≡ None
  unmarked_accepted =
      let v = is.is_for.before in
      none_written (nat_lt (capacity v) (start + count)) (is_within v) (is_degraded v) (capacity v)
      (ap (λ (n : ℕ). nat_lt n (start + count)) (told_capacity config entry.0 seats v entry.1 is.is_for.is_before found) ∙ range) not_refused

few_by : (b : Bool) (change : Change) → length (if b then change ∷ [] else []) ≤ 1
few_by true change = omega arith
few_by false change = omega arith

can_by : (b : Bool) (guid : List ℕ) (init : ℕ) → AllByRecursion CanBeAsked (if b then Unmark guid init ∷ [] else [])
can_by true guid init = (tt, tt)
can_by false guid init = tt

pub few_behind : (entry : Entry) → length (write_behind entry) ≤ 1
few_behind entry = few_by (is_array_redundant entry.1) (Unmark entry.0 entry.1.init)

pub can_behind : (entry : Entry) → AllByRecursion CanBeAsked (write_behind entry)
can_behind entry = can_by (is_array_redundant entry.1) entry.0 entry.1.init
