-- What a look kept of the cells beside blocks, before the steps of the group that come before these: behind them it is what the cells hold still.
use Rattle.std.proofs.Common.{◌≡◌, ◌∙◌, inl, inr, ℕ, ◌≤◌, true, false, not, List, length, None, Some, ap, sym, subst}
use Rattle.std.specs.Map.{lookup}
use Rattle.ddf_bytes.proofs.Common.{rose_behind}
use Rattle.ddf_bay.specs.Sectors.{Image}
use Rattle.ddf_bay.specs.State.{BayState}
use Rattle.ddf_config.specs.Configuration.{Configuration}
use Rattle.ddf_config.specs.Members.{same_guid}
use Rattle.ddf_config.specs.Seats.{SeatsFit}
use Rattle.ddf_array.specs.Sources.{trusts_parity}
use Rattle.ddf_array.specs.Volume.{Fits, Volume}
use Rattle.ddf_array.proofs.Fits.{view_fits}
use Rattle.ddf_read.specs.Reading.{Failed}
use Rattle.ddf_cells.specs.Alike.{AreAlike}
use Rattle.ddf_cells.proofs.Alike.{redundant_same}
use Rattle.ddf_write.specs.declared.beside.Beside.{Beside}
use Rattle.ddf_write.specs.Beside.{NoneLeftBeside}
use Rattle.ddf_write.specs.Keeping.{AreTheirValues, Keeping}
use Rattle.ddf_write.specs.Looking.{LiesBeside}
use Rattle.ddf_write.specs.RowWrites.{IsSure, keeps_parity_anywhere}
use Rattle.ddf_write.specs.WriteRefused.{write_refusal}
use Rattle.ddf_write.proofs.KeptValues.{values_alike}
use Rattle.ddf_seats.specs.Group.{GroupValue}
use Rattle.ddf_seats.specs.Seated.{seated}
use Rattle.ddf_recovery.specs.Recovery.{config_recovered}
use Rattle.ddf_history_steps.specs.BlockFloors.{AreFloored}
use Rattle.ddf_group_commands.specs.GroupRead.{IsReadFrom}
use Rattle.ddf_group_commands.specs.Written.{AreWritten}
use Rattle.ddf_read_commands.proofs.ArrayUse.{named_is}
use Rattle.ddf_write_commands.specs.declared.planning.Plan.{Plan}
use Rattle.ddf_write_commands.specs.Around.{marking}
use Rattle.ddf_write_commands.specs.Payload.{ArePiecesOf, pieces_of}
use Rattle.ddf_write_commands.specs.Planned.{IsPlanned}
use Rattle.ddf_write_commands.specs.Plans.{IsPlanOf, unmarked_view}
use Rattle.ddf_write_commands.specs.Write.{write_behind, write_refusals, write_request}
use Rattle.ddf_write_commands.proofs.BelowFloors.{cell_below}
use Rattle.ddf_write_commands.proofs.BelowSteps.{seats_same}
use Rattle.ddf_write_commands.proofs.Marked.{with_mark}
use Rattle.ddf_write_commands.proofs.MarkedCells.{left_marked, lies_marked, parity_same, sure_unmarked, values_marked}
use Rattle.ddf_write_commands.proofs.PlanKept.{either}
use Rattle.ddf_write_commands.proofs.PlanWritten.{unmarked_accepted, was_unmarked}

module _ (start count : ℕ) (group : GroupValue) (word : List ℕ) (plan : Plan) (is : IsPlanOf (write_refusals start count) write_behind (config_recovered group) group.seats word plan) where
  abbrev config : Configuration
  config = config_recovered group

  -- the array as it is before it is marked
  abbrev plain : Volume
  plain = is.is_for.before

  there : lookup (same_guid is.entry.0) config.arrays ≡ Some is.entry.1
  there = named_is config.arrays word is.entry is.is_named

  -- what holds of it, and of it with its mark set, holds of the view of the plan
  by_view : (P : Volume → Type 0) → P plain → P (with_mark plain) → P plan.view
  by_view = either write_behind config group.seats is.entry plan is.is_for there

  -- ---- what a look asks for

  pub unmarked_fits : (sizes : List ℕ) → SeatsFit sizes group.seats → Fits sizes (unmarked_view plan)
  unmarked_fits sizes fit = subst (Fits sizes) (sym is.is_for.is_unmarked) (view_fits config is.entry.0 group.seats plain sizes is.is_for.is_before fit)

  pub unmarked_trusted : keeps_parity_anywhere (unmarked_view plan) ≡ true → trusts_parity (unmarked_view plan) ≡ true
  unmarked_trusted keeps =
      subst (λ (v : Volume). trusts_parity v ≡ true) (sym is.is_for.is_unmarked) (ap not (was_unmarked start count config group.seats word plan is))

  pub unmarked_taken : write_refusal (unmarked_view plan) start count ≡ None
  unmarked_taken = subst (λ (v : Volume). write_refusal v start count ≡ None) (sym is.is_for.is_unmarked) (unmarked_accepted start count config group.seats word plan is)

  -- The mark is no parity.
  pub parity_plain : keeps_parity_anywhere plan.view ≡ false → keeps_parity_anywhere (unmarked_view plan) ≡ false
  parity_plain =
      by_view (λ (v : Volume). keeps_parity_anywhere v ≡ false → keeps_parity_anywhere (unmarked_view plan) ≡ false)
      (λ none. ap keeps_parity_anywhere is.is_for.is_unmarked ∙ none)
      (λ none. ap keeps_parity_anywhere is.is_for.is_unmarked ∙ sym (parity_same plain) ∙ none)

  -- ---- what it tells

  pub lies_there : (beside : Beside) → LiesBeside (unmarked_view plan) start count beside → LiesBeside plan.view start count beside
  lies_there beside lies =
      let own : LiesBeside plain start count beside = subst (λ (v : Volume). LiesBeside v start count beside) is.is_for.is_unmarked lies in
      by_view (λ (v : Volume). LiesBeside v start count beside) own (lies_marked plain start count beside own)

  pub pieces_there : (beside : Beside) → LiesBeside (unmarked_view plan) start count beside → ArePiecesOf plan.view start count (pieces_of beside)
  pieces_there beside lies = let marked = lies_there beside lies in record { some = marked.some; some_first = marked.some_first; plain = marked.plain; stripes = marked.stripes }

  pub left_there : (failed : ℕ → Type 0) (slot : ℕ) → NoneLeftBeside failed (unmarked_view plan) start count slot → NoneLeftBeside failed plan.view start count slot
  left_there failed slot left =
      let own : NoneLeftBeside failed plain start count slot = subst (λ (v : Volume). NoneLeftBeside failed v start count slot) is.is_for.is_unmarked left in
      by_view (λ (v : Volume). NoneLeftBeside failed v start count slot) own (left_marked plain failed start count slot own)

  -- ---- what it kept

  module _ {D : Type 0} (tells : Type 0) (old looked new : BayState D) (from : IsReadFrom tells old group) (floored : AreFloored (seated group)) (look_rise : (slot : ℕ) → old.failed_reads slot ≤ looked.failed_reads slot)
      (then_rise : (slot : ℕ) → looked.failed_reads slot ≤ new.failed_reads slot) (kept : Keeping)
      (looked_values : tells → IsSure (Failed old looked) (unmarked_view plan) old.held → AreTheirValues (unmarked_view plan) old.held kept)
      (timestamp : ℕ) (any_plan : IsPlanned group timestamp word (write_request word start count)) (any_volume : any_plan.volume ≡ plan.view) where
    module _ (before : Image) (written : AreWritten old.sizes old.held any_plan.first before) where
      alike : AreAlike plain old.held before
      alike slot lba cell =
          sym
          (seats_same old group from.assembled.slots_rise from.under floored timestamp (marking any_plan.entry) any_plan.first any_plan.are_first old.held before written slot lba
          (cell_below config is.entry.0 group.seats plain old.sizes is.is_for.is_before is.is_for.known_before from.assembled.slots_rise from.seats slot lba cell))

      -- what is sure behind the steps was sure before them
      sure_before : IsSure (Failed old new) plain before → IsSure (Failed old looked) plain old.held
      sure_before (inl none) = inl (λ slot on failed. none slot on (rose_behind (old.failed_reads slot) (looked.failed_reads slot) (new.failed_reads slot) (look_rise slot) (then_rise slot) failed))
      sure_before (inr (sectors, redundant)) = inr (
        λ slot lba cell. ap length (alike slot lba cell) ∙ sectors slot lba cell,
        redundant_same plain is.is_for.known_before before old.held (λ slot lba cell. sym (alike slot lba cell)) redundant,
      )

      plain_values : tells → IsSure (Failed old new) plain before → AreTheirValues plain before kept
      plain_values told sure =
          let own : AreTheirValues plain old.held kept =
          subst (λ (v : Volume). AreTheirValues v old.held kept) is.is_for.is_unmarked
          (looked_values told (subst (λ (v : Volume). IsSure (Failed old looked) v old.held) (sym is.is_for.is_unmarked) (sure_before sure))) in
          values_alike plain is.is_for.known_before old.held before alike kept own

      sure_plain : IsSure (Failed old new) plan.view before → IsSure (Failed old new) plain before
      sure_plain sure =
          by_view (λ (v : Volume). IsSure (Failed old new) v before → IsSure (Failed old new) plain before) (λ own. own) (λ marked. sure_unmarked plain (Failed old new) before marked) sure

    pub kept_values : tells → (before : Image) → AreWritten old.sizes old.held any_plan.first before → IsSure (Failed old new) any_plan.volume before → AreTheirValues any_plan.volume before kept
    kept_values told before written sure =
        let own = plain_values before written told (sure_plain before written (subst (λ (v : Volume). IsSure (Failed old new) v before) any_volume sure)) in
        subst (λ (v : Volume). AreTheirValues v before kept) (sym any_volume)
        (by_view (λ (v : Volume). AreTheirValues v before kept) own (values_marked plain before kept own))
