-- How it is planned how an array is rebuilt, or why it isn't.
use Rattle.std.proofs.Common.{◌≡◌, ◌∙◌, ℕ, ◌<◌, ◌≤◌, ◌^◌, Bool, true, false, not, List, [], ◌∷◌, ◌++◌, length, min, Option, Some, None, Result, Ok, Err, refl, sym, ap, subst, arith}
use Rattle.std.specs.Prelude.{slice_get, slice_index_or}
use Rattle.std.specs.List.{AllByRecursion, IsDistinct}
use Rattle.std.specs.Map.{keys_of, lookup}
use Rattle.std.specs.Option.{option_or}
use Rattle.std.proofs.lemmas.Option.{get_or_from_slice_get}
use Rattle.ddf_lemmas.proofs.Options.{some_is}
use Rattle.ddf_config.specs.declared.array.Array.{Array}
use Rattle.ddf_config.specs.declared.element.Position.{Position}
use Rattle.ddf_config.specs.declared.refusal.Refusal.{Refusal}
use Rattle.ddf_config.specs.declared.refusal.Refusal.TheVariants.{Lost, Marked}
use Rattle.ddf_config.specs.declared.seat.Seat.{Seat}
use Rattle.ddf_config.specs.Configuration.{Configuration}
use Rattle.ddf_config.specs.Members.{same_guid}
use Rattle.ddf_config.specs.Refusals.{first_refusal, refuse_if}
use Rattle.ddf_config.specs.Shapes.{element_shape}
use Rattle.ddf_config.specs.States.{is_marked}
use Rattle.ddf_config.proofs.Firsts.{first_append}
use Rattle.ddf_plan.specs.declared.change.Change.{Change}
use Rattle.ddf_plan.specs.Arrays.{HasNewGuid}
use Rattle.ddf_plan.specs.Changes.{changed_at}
use Rattle.ddf_plan.specs.Rebuild.{element_at}
use Rattle.ddf_repair.specs.declared.first.Target.{Target}
use Rattle.ddf_repair.specs.declared.beginning.Begun.TheVariants.{Nothing, Fresh, Again}
use Rattle.ddf_repair.specs.declared.beginning.RebuildFault.{RebuildFault}
use Rattle.ddf_repair.specs.Begin.{begun}
use Rattle.ddf_array.specs.declared.part.Part.{Part}
use Rattle.ddf_array.specs.declared.place.Place.{Place}
use Rattle.ddf_array.specs.Viewing.{is_array_within, view_of}
use Rattle.ddf_array.specs.Volume.{IsPart, IsVolume, Volume}
use Rattle.ddf_array.specs.Within.{is_within}
use Rattle.ddf_array.proofs.Told.{told_within}
use Rattle.ddf_array.proofs.Viewed.{from_view}
use Rattle.ddf_rebuild.specs.Target.{row_count}
use Rattle.ddf_steps.specs.Asked.{CanBeAsked}
use Rattle.ddf_request.specs.Named.{named_array}
use Rattle.ddf_answer.specs.declared.failure.Failure.{Failure}
use Rattle.ddf_answer.specs.declared.failure.Failure.TheVariants.{Conflict, Disk, Memory, Refused, Split}
use Rattle.ddf_read_commands.specs.declared.using.Access.TheVariants.{Reads}
use Rattle.ddf_read_commands.specs.Use.{IsUsable, IsViewed, MayUse, array_refusals, use_refusal}
use Rattle.ddf_write_commands.specs.Planned.{Entry, unless_refused}
use Rattle.ddf_rebuild_command.specs.declared.planning.Plan.{Plan}
use Rattle.ddf_rebuild_command.specs.Asked.{bad_spare, kept_in, part_kept, rebuild_asked, rebuild_changes, rebuild_refusals, rebuild_unless, rows_in}
use Rattle.ddf_rebuild_command.specs.Notes.{notes}
use Rattle.ddf_rebuild_command.specs.PassedOver.{passed_over}
use Rattle.ddf_rebuild_command.specs.Planned.{BeginsAt}
use Rattle.ddf_rebuild_command.specs.Plans.{FitsBegin, HaveSeats, IsFillingIn, IsFillingOf, MayPlan, MayPlanFor, filled, notes_and_end, spare_view}
use Rattle.ddf_rebuild_command.proofs.Noting.{notes_below}
use Rattle.ddf_rebuild_command.proofs.Targets.{IsFirst, IsFreshAt, is_again, is_fresh_at}
use Rattle.ddf_rebuild_command.proofs.Views.{IsAt, few_rows, is_at, rows_by}
use Rattle.ddf_rebuild_command.proofs.Begun.{fresh_marked, fresh_there, fresh_viewed, out_in}
use Rattle.ddf_read_commands.proofs.ArrayUse.{named_is}

-- ---- small things

-- what is read at a place
pub read_at : {X : Type 0} (xs ys : List X) (i k : ℕ) (x y : X) → xs ≡ ys → i ≡ k → x ≡ slice_index_or xs i x → slice_get ys k ≡ Some y → x ≡ y
read_at {X = X} xs ys i k x y same number is at =
    is ∙ ap (λ (l : List X). slice_index_or l i x) same ∙ ap (λ (n : ℕ). slice_index_or ys n x) number ∙ get_or_from_slice_get ys k y x at

pub part_read : (view : Volume) (known : IsVolume view) (element : ℕ) (part : Part) → slice_get view.parts element ≡ Some part → IsPart part × (row_count part.shape ≤ 2 ^ 48)
part_read view known element part at = let is = known.are_parts element part at in (is, few_rows part is)

pub place_read : (xs ys : List Place) (i k : ℕ) (y : Place) → xs ≡ ys → i ≡ k → slice_get ys k ≡ Some y → slice_index_or xs i (record { slot = None; start = 0; synced = false; row = 0 }) ≡ y
place_read xs ys i k y same number at =
    ap (λ (l : List Place). slice_index_or l i (record { slot = None; start = 0; synced = false; row = 0 })) same
    ∙ ap (λ (n : ℕ). slice_index_or ys n (record { slot = None; start = 0; synced = false; row = 0 })) number ∙ get_or_from_slice_get ys k y _ at

pub few_as : (n : ℕ) (one other : Part) → n ≡ row_count one.shape → one ≡ other → row_count other.shape ≤ 2 ^ 48 → n ≤ 2 ^ 48
few_as n one other is same few = subst (λ (k : ℕ). k ≤ 2 ^ 48) (sym (is ∙ ap (λ (part : Part). row_count part.shape) same)) few

-- ---- rows

pub place_there : (config : Configuration) (guid : List ℕ) (seats : List Seat) (view : Volume) → view_of config guid seats ≡ Ok view → (target : Target) → IsFirst config guid target
    → (part : Part) × (place : Place) × (slice_get view.parts target.element ≡ Some part) × (slice_get part.places target.position ≡ Some place)
place_there config guid seats view is target first =
    let at = is_at config guid seats view is target.element target.position first.held first.is_held in (at.part, at.place, at.is_part, at.is_place)

module _ (config : Configuration) (guid : List ℕ) (seats : List Seat) (view : Volume) (is : view_of config guid seats ≡ Ok view) (target : Target) (first : IsFirst config guid target)
    (array : Array) (found : lookup (same_guid guid) config.arrays ≡ Some array) where
  -- where the view has the position
  pub place_at : IsAt config guid seats view target.element target.position first.held first.is_held
  place_at = is_at config guid seats view is target.element target.position first.held first.is_held

  same_array : first.is_held.array ≡ array
  same_array = some_is (sym first.is_held.is_array ∙ found)

  element_is : element_at array target.element ≡ Some first.is_held.plan
  element_is = ap (λ (one : Array). element_at one target.element) (sym same_array) ∙ first.is_held.is_plan

  pub rows_are : rows_in array target.element ≡ row_count place_at.part.shape
  rows_are =
      rows_by array target.element first.is_held.plan place_at.part.shape element_is
      (ap (λ (one : Array). element_shape (length one.elements) first.is_held.plan) (sym same_array) ∙ place_at.is_shape)

  pub kept_is : kept_in array target ≡ first.held.row
  kept_is = ap (part_kept target.position) element_is ∙ ap (λ (held : Option Position). elim held [ None ↦ 0 | Some one ↦ one.row ]) first.is_held.is_held

  -- what is told of it of the view
  pub rows_told : (rows : ℕ) → ((part : Part) → slice_get view.parts target.element ≡ Some part → rows ≡ row_count part.shape) → rows ≡ rows_in array target.element
  rows_told rows told = told place_at.part place_at.is_part ∙ sym rows_are

  pub kept_told : (kept : ℕ) → ((part : Part) (place : Place) → slice_get view.parts target.element ≡ Some part → slice_get part.places target.position ≡ Some place → kept ≡ place.row)
      → kept ≡ kept_in array target
  kept_told kept told = told place_at.part place_at.place place_at.is_part place_at.is_place ∙ place_at.row_is ∙ sym kept_is

-- ---- changes

notes_asked : (guid : List ℕ) (target : Target) (most : ℕ) (rows : List ℕ) → most ≤ 2 ^ 48 → AllByRecursion (λ row. row < most) rows → AllByRecursion CanBeAsked (notes_and_end guid target rows)
notes_asked guid target most [] few below = (tt, tt)
notes_asked guid target most (row ∷ rows) few below = (omega (arith, few, below.0), notes_asked guid target most rows few below.1)

pub behind_asked : (guid : List ℕ) (target : Target) (kept rows : ℕ) → rows ≤ 2 ^ 48 → AllByRecursion CanBeAsked (notes_and_end guid target (notes kept rows))
behind_asked guid target kept rows few = notes_asked guid target rows (notes kept rows) few (notes_below kept rows)

-- A change that gives a position a spare adds no array.
pub has_new : (config : Configuration) (guid : List ℕ) (seats : List Seat) (aside : List ℕ) (target : Target) (change : Change) → begun config guid seats aside ≡ Ok (Fresh target change) → HasNewGuid config.arrays change
has_new config guid seats aside target change h = subst (HasNewGuid config.arrays) (sym (is_fresh_at config guid seats aside target change h).change_is) tt

-- ---- an array that nothing refuses so far

module _ (config : Configuration) (seats : List Seat) (aside : List ℕ) (guid : List ℕ) (array : Array) (found : lookup (same_guid guid) config.arrays ≡ Some array) where
  abbrev entry : Entry
  entry = (guid, array)

  -- Every position is in sync.
  pub nothing_planned : begun config guid seats aside ≡ Ok Nothing → IsFillingIn config seats aside entry [] None
  nothing_planned h = record { nothing = h; no_changes = refl }

  -- why none is filled
  pub not_begun : (refusal : Refusal) (fault : RebuildFault) → begun config guid seats aside ≡ Err fault → rebuild_changes seats entry (Err fault) ≡ Err refusal
      → rebuild_changes seats entry (begun config guid seats aside) ≡ Err refusal
  not_begun refusal fault h is = ap (rebuild_changes seats entry) h ∙ is

  -- One is filled where it is.
  pub again_planned : (view : Volume) → view_of config guid seats ≡ Ok view → IsVolume view → view.marked ≡ false → HaveSeats config seats → (target : Target) → begun config guid seats aside ≡ Ok (Again target)
      → (rows kept : ℕ) → rows ≡ rows_in array target.element → kept ≡ kept_in array target → rows ≤ 2 ^ 48
      → (plan : Plan) → plan ≡ filled None guid target kept rows view → IsFillingIn config seats aside entry plan.changes plan.filling
  again_planned view is known unmarked seated target h rows kept rows_is kept_are few plan made =
      let again = is_again config guid seats aside target h in
      let first = again.first in
      subst (λ (one : Plan). IsFillingIn config seats aside entry one.changes one.filling) (sym made)
      (subst (λ (n : ℕ). IsFillingOf config seats aside entry (notes_and_end guid target (notes kept n))
      (record { begins = false; target = target; from = min kept n; rows = notes kept n ++ n ∷ []; view = view })) (sym rows_is) (record {
        kept = kept;
        before = [];
        begins = subst (BeginsAt entry target kept []) (sym h) (refl, kept_are, refl);
        unspoilt = λ change e. absurd cc;
        begins_is = refl;
        changes_are = refl;
        can_be_asked = behind_asked guid target kept (rows_in array target.element) (subst (λ (n : ℕ). n ≤ 2 ^ 48) rows_is few);
        from_is = refl;
        rows_are = refl;
        is_view = is;
        known = known;
        is_out = out_in config guid seats view is target.element target.position first.held first.is_held first.is_out (seated first.held.reference again.here);
        unmarked = unmarked;
      }))

  -- ---- on a spare

  module _ (target : Target) (change : Change) (h : begun config guid seats aside ≡ Ok (Fresh target change)) where
    abbrev fresh : IsFreshAt config guid seats target change
    fresh = is_fresh_at config guid seats aside target change h

    -- One whose spare has bad blocks isn't.
    spoilt : (refusal : Refusal) → bad_spare seats change ≡ Some refusal → rebuild_changes seats entry (begun config guid seats aside) ≡ Err refusal
    spoilt refusal bad = ap (rebuild_changes seats entry) h ∙ ap (unless_refused _) bad

    module _ (view : Volume) (is : view_of config guid seats ≡ Ok view) (unmarked : view.marked ≡ false) (apart : IsDistinct same_guid (keys_of config.arrays)) where
      viewed : (next : Volume) × (view_of (changed_at config change config.sequence) guid seats ≡ Ok next)
      viewed = fresh_viewed config guid seats aside target change view config.sequence apart h is

      viewed_by : (failure : Failure) → IsViewed (view_of (changed_at config change config.sequence) guid seats) (Err failure) → MayPlanFor config seats aside entry (Err failure)
      viewed_by (Refused refusal) e = let none = sym viewed.1 ∙ e in absurd cc
      viewed_by Memory e = tt
      viewed_by (Disk slot) e = e
      viewed_by (Conflict i j sequence differ) e = e
      viewed_by (Split i j) e = e

      bad_by : (failure : Failure) (refusal : Refusal) → bad_spare seats change ≡ Some refusal → IsViewed (Err refusal) (Err failure) → MayPlanFor config seats aside entry (Err failure)
      bad_by (Refused other) refusal bad e = let same : refusal ≡ other = cc in subst (λ (one : Refusal). rebuild_changes seats entry (begun config guid seats aside) ≡ Err one) same (spoilt refusal bad)
      bad_by Memory refusal bad e = tt
      bad_by (Disk slot) refusal bad e = e
      bad_by (Conflict i j sequence differ) refusal bad e = e
      bad_by (Split i j) refusal bad e = e

      -- The view of its array exists once it has its spare.
      pub not_fresh : (failure : Failure) → IsViewed (spare_view config guid seats change) (Err failure) → MayPlanFor config seats aside entry (Err failure)
      not_fresh failure e = by (bad_spare seats change) refl e
        where
          by : (bad : Option Refusal) → bad_spare seats change ≡ bad
              → IsViewed (elim bad [ None ↦ view_of (changed_at config change config.sequence) guid seats | Some refusal ↦ Err refusal ]) (Err failure) → MayPlanFor config seats aside entry (Err failure)
          by None is_bad e = viewed_by failure e
          by (Some refusal) is_bad e = bad_by failure refusal is_bad e

      good : (next : Volume) → spare_view config guid seats change ≡ Ok next → (bad_spare seats change ≡ None) × (view_of (changed_at config change config.sequence) guid seats ≡ Ok next)
      good next e = by (bad_spare seats change) refl e
        where
          by : (bad : Option Refusal) → bad_spare seats change ≡ bad
              → ◌≡◌ {A = Result Volume Refusal} (elim bad [ None ↦ view_of (changed_at config change config.sequence) guid seats | Some refusal ↦ Err refusal ]) (Ok next)
              → (bad_spare seats change ≡ None) × (view_of (changed_at config change config.sequence) guid seats ≡ Ok next)
          by None is_bad e = (is_bad, e)
          by (Some refusal) is_bad e = absurd cc

      -- One is filled there.
      pub fresh_planned : FitsBegin change → (next : Volume) → spare_view config guid seats change ≡ Ok next → IsVolume next → (rows : ℕ) → rows ≡ rows_in array target.element → rows ≤ 2 ^ 48
          → (plan : Plan) → plan ≡ filled (Some change) guid target 0 rows next → IsFillingIn config seats aside entry plan.changes plan.filling
      fresh_planned fits next made known rows rows_is few plan plan_is =
          let both = good next made in
          subst (λ (one : Plan). IsFillingIn config seats aside entry one.changes one.filling) (sym plan_is)
          (subst (λ (n : ℕ). IsFillingOf config seats aside entry (change ∷ notes_and_end guid target (notes 0 n))
          (record { begins = true; target = target; from = min 0 n; rows = notes 0 n ++ n ∷ []; view = next })) (sym rows_is) (record {
            kept = 0;
            before = change ∷ [];
            begins = subst (BeginsAt entry target 0 (change ∷ [])) (sym h) (refl, refl, refl);
            unspoilt = λ one e. let same : change ≡ one = cc in subst (λ (it : Change). bad_spare seats it ≡ None) same both.0;
            begins_is = refl;
            changes_are = refl;
            can_be_asked = (begin_asked fits, behind_asked guid target 0 (rows_in array target.element) (subst (λ (n : ℕ). n ≤ 2 ^ 48) rows_is few));
            from_is = refl;
            rows_are = refl;
            is_view = both.1;
            known = known;
            is_out = fresh_there config guid seats target change fresh config.sequence next both.1;
            unmarked = fresh_marked config guid seats target change fresh config.sequence next both.1 view is ∙ unmarked;
          }))
        where
          begin_asked : FitsBegin change → CanBeAsked change
          begin_asked fits =
              subst (λ (one : Change). CanBeAsked one) (sym fresh.change_is) (subst (λ (one : Change). FitsBegin one) fresh.change_is fits)

-- ---- an array that a word names

abbrev pub more : (within marked : Bool) → List (Option Refusal)
more within marked = refuse_if (not within) Lost ∷ refuse_if marked Marked ∷ []

unmarked_by : (within marked : Bool) → first_refusal (more within marked) ≡ None → marked ≡ false
unmarked_by false marked none = absurd cc
unmarked_by true true none = absurd cc
unmarked_by true false none = refl

module _ (config : Configuration) (seats : List Seat) (linux : List ℕ) (word : List ℕ) where
  refused_by : (refusal : Refusal) (found : Option Entry) → use_refusal Reads config seats found 0 0 ≡ Some refusal → rebuild_asked config seats linux found ≡ Err refusal
  refused_by refusal None e = ap (λ (one : Refusal). Err one) (some_is e)
  refused_by refusal (Some entry) e =
      ap (rebuild_unless config seats linux entry)
      (first_append (array_refusals Reads config seats entry.0 entry.1 0 0) (more (is_array_within seats entry.1) (is_marked entry.1))
      ∙ ap (λ (r : Option Refusal). option_or r (first_refusal (more (is_array_within seats entry.1) (is_marked entry.1)))) e)

  -- One that can't be used isn't rebuilt.
  pub not_usable : (failure : Failure) → MayUse Reads config seats word 0 0 (Err failure) → MayPlan config seats linux word (Err failure)
  not_usable (Refused refusal) may = refused_by refusal (named_array config.arrays word) may
  not_usable (Disk slot) may = absurd may
  not_usable (Conflict i j sequence differ) may = absurd may
  not_usable (Split i j) may = absurd may
  not_usable Memory may = tt

  module _ (used : List ℕ × Volume) (usable : IsUsable Reads config seats word 0 0 used) where
    abbrev own : Entry
    own = (used.0, usable.array)

    pub found_there : lookup (same_guid used.0) config.arrays ≡ Some usable.array
    found_there = named_is config.arrays word own usable.is_named

    marked_is : is_marked usable.array ≡ used.1.marked
    marked_is =
        let viewed = from_view config used.0 seats used.1 usable.is_view in
        sym (viewed.marked_is ∙ ap is_marked (some_is (sym viewed.array_is ∙ found_there)))

    within_is : is_array_within seats usable.array ≡ is_within used.1
    within_is = sym (told_within config used.0 seats used.1 usable.array usable.is_view found_there)

    pub more_is : first_refusal (rebuild_refusals config seats own) ≡ first_refusal (more (is_within used.1) used.1.marked)
    more_is =
        first_append (array_refusals Reads config seats used.0 usable.array 0 0) (more (is_array_within seats usable.array) (is_marked usable.array))
        ∙ ap (λ (r : Option Refusal). option_or r (first_refusal (more (is_array_within seats usable.array) (is_marked usable.array)))) usable.accepted
        ∙ ap (λ (b : Bool). first_refusal (more b (is_marked usable.array))) within_is ∙ ap (λ (b : Bool). first_refusal (more (is_within used.1) b)) marked_is

    -- Of one that can be used the view decides.
    pub refused_more : (refusal : Refusal) → first_refusal (more (is_within used.1) used.1.marked) ≡ Some refusal → MayPlan config seats linux word (Err (Refused refusal))
    refused_more refusal e = ap (rebuild_asked config seats linux) usable.is_named ∙ ap (rebuild_unless config seats linux own) (more_is ∙ e)

    module _ (none : first_refusal (more (is_within used.1) used.1.marked) ≡ None) where
      pub is_unmarked : used.1.marked ≡ false
      is_unmarked = unmarked_by (is_within used.1) used.1.marked none

      pub plan_of : (result : Result Plan Failure) → MayPlanFor config seats (passed_over linux usable.array) own result → MayPlan config seats linux word result
      plan_of (Ok plan) is = record { entry = own; is_named = usable.is_named; accepted = more_is ∙ none; fills = is }
      plan_of (Err (Refused refusal)) is = ap (rebuild_asked config seats linux) usable.is_named ∙ ap (rebuild_unless config seats linux own) (more_is ∙ none) ∙ is
      plan_of (Err (Disk slot)) is = absurd is
      plan_of (Err (Conflict i j sequence differ)) is = absurd is
      plan_of (Err (Split i j)) is = absurd is
      plan_of (Err Memory) is = tt
