-- The rows of a position that is planned to be filled can be filled: its array is within its level, its extents lie apart, and the rows rise.
use Rattle.std.proofs.Common.{◌≡◌, ◌∙◌, ℕ, ◌<◌, ◌≤◌, Bool, true, false, not, List, [], ◌∷◌, ◌++◌, min, Some, None, Ok, refl, sym, ap, subst, arith}
use Rattle.std.specs.Prelude.{slice_get}
use Rattle.std.specs.List.{AllByRecursion}
use Rattle.std.specs.Map.{lookup}
use Rattle.ddf_lemmas.proofs.Tests.{min_le}
use Rattle.ddf_config.specs.declared.array.Array.{Array}
use Rattle.ddf_config.specs.declared.member.Member.{Member}
use Rattle.ddf_config.specs.declared.refusal.Refusal.TheVariants.{Lost, Marked}
use Rattle.ddf_config.specs.declared.seat.Seat.{Seat}
use Rattle.ddf_config.specs.Configuration.{Configuration}
use Rattle.ddf_config.specs.Members.{is_current, same_guid}
use Rattle.ddf_config.specs.Refusals.{first_refusal, refuse_if}
use Rattle.ddf_config.specs.States.{is_marked}
use Rattle.ddf_plan.specs.declared.change.Change.{Change}
use Rattle.ddf_plan.specs.declared.change.Change.TheVariants.{Begin}
use Rattle.ddf_plan.specs.Changes.{changed_at}
use Rattle.ddf_plan.specs.Members.{members_after}
use Rattle.ddf_plan.proofs.Afters.{last_pass}
use Rattle.ddf_repair.specs.declared.first.Target.{Target}
use Rattle.ddf_array.specs.declared.part.Part.{Part}
use Rattle.ddf_array.specs.Apart.{AreSeats, IsApart}
use Rattle.ddf_array.specs.Viewing.{is_array_within, view_of}
use Rattle.ddf_array.specs.Within.{is_within}
use Rattle.ddf_array.proofs.Apart.{view_apart}
use Rattle.ddf_array.proofs.Told.{told_within}
use Rattle.ddf_rebuild.specs.Target.{row_count}
use Rattle.ddf_seats.specs.Changing.{SlotsRise}
use Rattle.ddf_read_commands.specs.declared.using.Access.TheVariants.{Reads}
use Rattle.ddf_read_commands.specs.Use.{array_refusals}
use Rattle.ddf_write_commands.specs.Opened.{AreMembers}
use Rattle.ddf_write_commands.specs.Planned.{Entry}
use Rattle.ddf_write_commands.proofs.Staying.{member_there}
use Rattle.ddf_rebuild_command.specs.declared.planning.Filling.{Filling}
use Rattle.ddf_rebuild_command.specs.declared.planning.Plan.{Plan}
use Rattle.ddf_rebuild_command.specs.Asked.{rows_in}
use Rattle.ddf_rebuild_command.specs.Filled.{RiseTo}
use Rattle.ddf_rebuild_command.specs.Notes.{notes}
use Rattle.ddf_rebuild_command.specs.PassedOver.{passed_over}
use Rattle.ddf_rebuild_command.specs.Plans.{IsFillingIn, IsFillingOf, IsPlanOf, begun_config}
use Rattle.ddf_rebuild_command.proofs.Beginnings.{Beginning, beginning, goes_on, spares}
use Rattle.ddf_rebuild_command.proofs.Noting.{Rise, notes_below, notes_rise}
use Rattle.ddf_rebuild_command.proofs.PlanMade.{place_at, rows_are}
use Rattle.ddf_rebuild_command.proofs.SeatsKept.{still_current}
use Rattle.ddf_rebuild_command.proofs.SpareViews.{still_rows, still_within}
use Rattle.ddf_rebuild_command.proofs.Targets.{is_again, is_fresh_at}
use Rattle.ddf_read_commands.proofs.ArrayUse.{named_is}
use Rattle.ddf_write_commands.proofs.PlanKept.{rise_apart}

-- A position can be filled over these seats.
pub record CanFill (config : Configuration) (seats : List Seat) (entry : Entry) (filling : Filling) : Type 0 where
  pub apart : IsApart filling.view
  pub is_within : is_within filling.view ≡ true
  pub rise : RiseTo (rows_in entry.1 filling.target.element) filling.from filling.rows
  pub all_rows : (part : Part) → slice_get filling.view.parts filling.target.element ≡ Some part → rows_in entry.1 filling.target.element ≡ row_count part.shape

-- ---- seats

pub are_seats : (members : List (ℕ × Member)) (seats : List Seat) → ((k : ℕ) (seat : Seat) → slice_get seats k ≡ Some seat → is_current members seat.reference ≡ true) → SlotsRise seats → AreSeats members seats
are_seats members seats current rise = record {
  of_members = λ k seat at. member_there members seat.reference (current k seat at);
  differ = rise_apart seats rise;
}

-- ---- rows

pub rise_to : (end from low : ℕ) (rows : List ℕ) → Rise low rows → AllByRecursion (λ row. row < end) rows → from ≤ low → from ≤ end → RiseTo end from (rows ++ end ∷ [])
rise_to end from low [] rise below some most = (most, omega arith)
rise_to end from low (row ∷ rows) rise below some most =
    let less = rise.0 in
    let within = below.0 in
    (omega (arith, less, some), rise_to end row row rows rise.1 below.1 (omega arith) (omega (arith, within)))

-- ---- what the refusals tell

pub within_by : (within marked : Bool) → first_refusal (refuse_if (not within) Lost ∷ refuse_if marked Marked ∷ []) ≡ None → within ≡ true
within_by true marked none = refl
within_by false marked none = absurd cc

-- ---- a plan

module _ (config : Configuration) (seats : List Seat) (linux : List ℕ) (word : List ℕ) (plan : Plan) (is : IsPlanOf config seats linux word plan) (members : AreMembers config seats) (slots : SlotsRise seats) (filling : Filling)
    (e : plan.filling ≡ Some filling) where
  abbrev entry : Entry
  entry = is.entry

  abbrev aside : List ℕ
  aside = passed_over linux is.entry.1

  fills : IsFillingOf config seats aside entry plan.changes filling
  fills = subst (IsFillingIn config seats aside entry plan.changes) e is.fills

  abbrev target : Target
  target = filling.target

  found : lookup (same_guid entry.0) config.arrays ≡ Some entry.1
  found = named_is config.arrays word entry is.is_named

  within : is_array_within seats entry.1 ≡ true
  within =
      within_by (is_array_within seats entry.1) (is_marked entry.1)
      (last_pass (array_refusals Reads config seats entry.0 entry.1 0 0) (refuse_if (not (is_array_within seats entry.1)) Lost ∷ refuse_if (is_marked entry.1) Marked ∷ []) is.accepted)

  rises : RiseTo (rows_in entry.1 target.element) filling.from filling.rows
  rises =
      let end = rows_in entry.1 target.element in
      let low = min_le fills.kept end in
      subst (RiseTo end filling.from) (sym fills.rows_are)
      (subst (λ (n : ℕ). RiseTo end n (notes fills.kept end ++ end ∷ [])) (sym fills.from_is)
      (rise_to end (min fills.kept end) fills.kept (notes fills.kept end) (notes_rise fills.kept end) (notes_below fills.kept end) low.0 low.1))

  by : Beginning config seats aside entry target fills.kept fills.before → CanFill config seats entry filling
  by (goes_on h kept before) =
      let is_view = subst (λ (some : List Change). view_of (begun_config config some) entry.0 seats ≡ Ok filling.view) before fills.is_view in
      let first = (is_again config entry.0 seats _ target h).first in
      let place = place_at config entry.0 seats filling.view is_view target first entry.1 found in
      let same = rows_are config entry.0 seats filling.view is_view target first entry.1 found in
      record {
        apart = view_apart config entry.0 seats filling.view is_view (are_seats config.members seats members slots);
        is_within = told_within config entry.0 seats filling.view entry.1 is_view found ∙ within;
        rise = rises;
        all_rows = λ part at.
            let both : Some place.part ≡ Some part = sym place.is_part ∙ at in
            let equal : place.part ≡ part = cc in
            same ∙ ap (λ (one : Part). row_count one.shape) equal;
      }
  by (spares change h kept before) =
      let fresh = is_fresh_at config entry.0 seats _ target change h in
      let held = fresh.first.is_held in
      let some_view = subst (λ (some : List Change). view_of (begun_config config some) entry.0 seats ≡ Ok filling.view) before fills.is_view in
      let is_view = subst (λ (one : Change). view_of (changed_at config one config.sequence) entry.0 seats ≡ Ok filling.view) fresh.change_is some_view in
      let one_array : Some held.array ≡ Some entry.1 = sym held.is_array ∙ found in
      let array : held.array ≡ entry.1 = cc in
      let start = fresh.start in
      let reference = fresh.reference in
      record {
        apart = view_apart (changed_at config (Begin entry.0 target.element target.position reference start) config.sequence) entry.0 seats filling.view is_view
            (are_seats (members_after config (Begin entry.0 target.element target.position reference start)) seats
            (λ k seat at. still_current config (Begin entry.0 target.element target.position reference start) refl seat.reference ∙ members k seat at) slots);
        is_within = still_within config entry.0 target.element target.position reference start seats fresh.first.held held fresh.first.is_out config.sequence filling.view is_view
            ∙ ap (is_array_within seats) array ∙ within;
        rise = rises;
        all_rows = λ part at.
            sym (ap (λ (one : Array). rows_in one target.element) array)
            ∙ still_rows config entry.0 target.element target.position reference start seats fresh.first.held held fresh.first.is_out config.sequence filling.view is_view part at;
      }

  pub can_fill : CanFill config seats entry filling
  can_fill = by (beginning config seats aside entry target fills.kept fills.before fills.begins)
