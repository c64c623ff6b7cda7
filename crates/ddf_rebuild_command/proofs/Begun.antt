-- What holds where a rebuild begins: the view of its array exists, with the position out of sync on a disk that has a seat.
use Rattle.std.proofs.Common.{◌≡◌, ◌∙◌, ℕ, true, false, List, Some, Ok, refl, sym, ap, subst}
use Rattle.std.proofs.lemmas.Bool.{false≢true}
use Rattle.std.specs.Prelude.{is_some}
use Rattle.std.specs.List.{IsDistinct}
use Rattle.std.specs.Map.{keys_of, lookup}
use Rattle.ddf_config.specs.declared.element.Position.{Position}
use Rattle.ddf_config.specs.declared.seat.Seat.{Seat}
use Rattle.ddf_config.specs.Configuration.{Configuration}
use Rattle.ddf_config.specs.Members.{is_current, same_guid}
use Rattle.ddf_config.specs.Seats.{floor_of, slot_of}
use Rattle.ddf_config.specs.States.{is_marked}
use Rattle.ddf_plan.specs.declared.change.Change.{Change}
use Rattle.ddf_plan.specs.declared.change.Change.TheVariants.{Begin}
use Rattle.ddf_plan.specs.Changes.{changed_at}
use Rattle.ddf_plan.specs.Rebuild.{new_position}
use Rattle.ddf_plan.specs.Same.{is_step}
use Rattle.ddf_repair.specs.declared.first.Target.{Target}
use Rattle.ddf_repair.specs.declared.beginning.Begun.TheVariants.{Fresh}
use Rattle.ddf_repair.specs.Begin.{begun}
use Rattle.ddf_repair.proofs.Begins.{is_fresh}
use Rattle.ddf_repair.proofs.BegunUsable.{fresh_usable}
use Rattle.ddf_array.specs.Viewing.{view_of}
use Rattle.ddf_array.specs.Volume.{Volume}
use Rattle.ddf_array.proofs.Viewed.{from_view, has_view}
use Rattle.ddf_rebuild.specs.Target.{IsOut}
use Rattle.ddf_rebuild_command.proofs.Positions.{IsHeld, begins, marked_after}
use Rattle.ddf_rebuild_command.proofs.Steps.{IsOutAt, begin_steps, held_begun, out_begun}
use Rattle.ddf_rebuild_command.proofs.Targets.{IsFreshAt}
use Rattle.ddf_rebuild_command.proofs.Views.{is_at}

module _ (config : Configuration) (guid : List ℕ) (seats : List Seat) (volume : Volume) (is : view_of config guid seats ≡ Ok volume) where
  -- A position that is out of sync can be rebuilt where its disk has a seat.
  pub out_in : (element position : ℕ) (held : Position) → IsHeld config guid element position held → held.synced ≡ false → is_some (floor_of seats held.reference) ≡ true → IsOut volume element position
  out_in element position held before out has =
      let at = is_at config guid seats volume is element position held before in
      record {
        part = at.part;
        place = at.place;
        slot = slot_of seats held.reference;
        is_target = record { is_part = at.is_part; is_place = at.is_place; is_out = at.synced_is ∙ out; is_there = at.is_there has };
      }

-- ---- on a spare

module _ (config : Configuration) (guid : List ℕ) (seats : List Seat) (target : Target) (change : Change) (fresh : IsFreshAt config guid seats target change) where
  other_disk : (fresh.first.held).reference ≡ fresh.reference → ⊥
  other_disk same = false≢true (sym fresh.lost ∙ ap (is_current config.members) same ∙ fresh.here)

  -- To begin is a step,
  pub fresh_steps : is_step config change ≡ true
  fresh_steps =
      ap (is_step config) fresh.change_is
      ∙ begin_steps config guid target.element target.position fresh.reference fresh.start fresh.first.held fresh.first.is_held other_disk

  -- behind which the position is out of sync, with no row rebuilt,
  pub fresh_out : (sequence : ℕ) → IsOutAt (changed_at config change sequence) guid target.element target.position 0
  fresh_out sequence =
      subst (λ (one : Change). IsOutAt (changed_at config one sequence) guid target.element target.position 0) (sym fresh.change_is)
      (out_begun config guid target.element target.position fresh.reference fresh.start fresh.first.held fresh.first.is_held sequence)

  fresh_held : (sequence : ℕ) → IsHeld (changed_at config change sequence) guid target.element target.position (new_position fresh.reference fresh.start)
  fresh_held sequence =
      subst (λ (one : Change). IsHeld (changed_at config one sequence) guid target.element target.position (new_position fresh.reference fresh.start)) (sym fresh.change_is)
      (held_begun config guid target.element target.position fresh.reference fresh.start fresh.first.held fresh.first.is_held sequence)

  module _ (sequence : ℕ) (next : Volume) (viewed : view_of (changed_at config change sequence) guid seats ≡ Ok next) where
    -- on the spare,
    pub fresh_there : IsOut next target.element target.position
    fresh_there =
        out_in (changed_at config change sequence) guid seats next viewed target.element target.position (new_position fresh.reference fresh.start) (fresh_held sequence) refl fresh.has_seat

    -- and the array marked where it was.
    pub fresh_marked : (volume : Volume) → view_of config guid seats ≡ Ok volume → next.marked ≡ volume.marked
    fresh_marked volume is =
        let after = from_view (changed_at config change sequence) guid seats next viewed in
        let view = from_view config guid seats volume is in
        let both : Some view.array ≡ Some fresh.first.is_held.array = sym view.array_is ∙ fresh.first.is_held.is_array in
        let same : view.array ≡ fresh.first.is_held.array = cc in
        after.marked_is
        ∙ marked_after config guid target.element (Begin guid target.element target.position fresh.reference fresh.start) (begins config guid target.element target.position fresh.reference fresh.start)
        target.position fresh.first.held fresh.first.is_held after.array
        (subst (λ (one : Change). lookup (same_guid guid) (changed_at config one sequence).arrays ≡ Some after.array) fresh.change_is after.array_is)
        ∙ ap is_marked (sym same) ∙ sym view.marked_is

-- The view behind it exists.
pub fresh_viewed : (config : Configuration) (guid : List ℕ) (seats : List Seat) (aside : List ℕ) (target : Target) (change : Change) (volume : Volume) (sequence : ℕ) → IsDistinct same_guid (keys_of config.arrays)
    → begun config guid seats aside ≡ Ok (Fresh target change) → view_of config guid seats ≡ Ok volume → (next : Volume) × (view_of (changed_at config change sequence) guid seats ≡ Ok next)
fresh_viewed config guid seats aside target change volume sequence apart h is =
    let view = from_view config guid seats volume is in
    let usable = fresh_usable config guid seats aside change (is_fresh config guid seats aside target change h) apart guid view.array view.array_is view.usable in
    has_view (changed_at config change sequence) guid seats usable.0 usable.1 usable.2
