-- Once the gates of a closing count for nothing, none stands open in its group.
use Rattle.std.proofs.Common.{◌≡◌, ◌∙◌, ⊎_elim, ℕ, ◌<◌, ◌^◌, true, List, Option, Some, None, Ok, refl, sym, ap, subst, arith, slice_get}
use Rattle.ddf_bay.specs.Sectors.{Image}
use Rattle.ddf_config.specs.Configuration.{Configuration}
use Rattle.ddf_array.specs.Viewing.{view_of}
use Rattle.ddf_array.specs.Volume.{Volume, IsVolume}
use Rattle.ddf_data_group.specs.Over.{AreCurrentSeats}
use Rattle.ddf_data_group.proofs.Clearly.{used}
use Rattle.ddf_history.specs.Groups.{groups}
use Rattle.ddf_history.specs.Issued.{Past, IsSince}
use Rattle.ddf_data_history.proofs.Steps.{seats_are}
use Rattle.ddf_stage.specs.declared.desk.Desk.{Desk}
use Rattle.ddf_stage.specs.declared.desk.Staged.{Staged}
use Rattle.ddf_stage.specs.Laid.{on_desk}
use Rattle.ddf_stage.specs.Staging.{IsCell}
use Rattle.ddf_rebuild.proofs.Aiming.{cell_lies}
use Rattle.ddf_stage_data.specs.Moments.{IsMoment, is_shut}
use Rattle.ddf_stage_data.proofs.Moments.{shut_desk}
use Rattle.ddf_stage_promise.specs.Cells.{HasVolumes, cells_of}
use Rattle.ddf_stage_promise.specs.Closing.{AreToClose, LiePastFloors}
use Rattle.ddf_stage_promise.specs.Footing.{Footing}
use Rattle.ddf_stage_promise.specs.Staged.{NoneOpen, arrays_on, desks_on, seats_on}
use Rattle.ddf_stage_promise.proofs.Cells.{are_cells, stage_cell_is}
use Rattle.ddf_stage_promise.proofs.Closing.{shows_some}
use Rattle.ddf_stage_promise.proofs.Desks.{desk_of, same_desk}
use Rattle.ddf_stage_promise.proofs.Steps.{lies_low}

module _ (group : List ℕ) (footing : Footing) (small : (slot : ℕ) → footing.floor slot < 2 ^ 64) (past_floors : LiePastFloors footing) (past : Past (groups group)) (number : ℕ) (config : Configuration)
    (known : HasVolumes config) (only : (n : ℕ) (c : Configuration) → IsSince past.changes n c → (n ≡ number) × (c ≡ config)) (before image : Image)
    (staged : Staged) (v : Volume) (view : view_of config staged.gate.array (seats_on group footing past config) ≡ Ok v)
    (desks : List Desk) (to_close : AreToClose (arrays_on group footing past number config) (desks_on group footing past config) desks (cells_of v staged.gate) before)
    (moment : IsMoment (arrays_on group footing past number config) desks staged (cells_of v staged.gate) before image)
    (shut : (k : ℕ) (desk : Desk) → slice_get desks k ≡ Some desk → is_shut (arrays_on group footing past number config) (image desk.slot desk.lba) ≡ true) where
  abbrev arrays : List (List ℕ)
  arrays = arrays_on group footing past number config

  abbrev all : List Desk
  all = desks_on group footing past config

  seated : AreCurrentSeats config.members (seats_on group footing past config)
  seated = seats_are group footing.floor small past config

  v_known : IsVolume v
  v_known = known staged.gate.array (seats_on group footing past config) v seated.small view

  none_some : (o : Option Staged) (x : Staged) → o ≡ None → o ≡ Some x → ⊥
  none_some o x a b = cc

  -- a gate is no cell
  no_cell : (k : ℕ) (desk : Desk) → slice_get all k ≡ Some desk → IsCell (cells_of v staged.gate) staged desk.slot desk.lba (image desk.slot desk.lba) → ⊥
  no_cell k desk at cell =
      let floor = past_floors desk.slot desk.lba (desk_of group footing past config k desk at).is_gate in
      let is = stage_cell_is v v_known staged cell.cell ((are_cells v v_known staged).are cell.number cell.cell cell.is_cell) in
      let use_of = used config staged.gate.array (seats_on group footing past config) v view v_known in
      let low = (lies_low group footing small past config use_of.array v use_of.over is.element is.position is.sector cell.cell.slot cell.cell.lba (cell_lies v cell.cell.slot cell.cell.lba is)).low in
      let floors : footing.floor desk.slot ≡ footing.floor cell.cell.slot = ap footing.floor cell.on_slot in
      let same : desk.lba ≡ cell.cell.lba = cell.at in
      omega (arith, low, floor, floors, same)

  shows_none : (k : ℕ) (desk : Desk) → slice_get all k ≡ Some desk → (shown : Staged) → on_desk arrays image desk ≡ Some shown → ⊥
  shows_none k desk at shown e =
      ⊎_elim
      (λ same.
      let stood = shows_some arrays image before desk shown same e in
      let there = to_close.opens k desk stood.0 at stood.1 in
      none_some (on_desk arrays image desk) shown (shut_desk arrays image desk (shut there.0 desk there.1)) e)
      (λ other.
      ⊎_elim
      (λ of_desk.
      let its = to_close.among of_desk.number of_desk.desk of_desk.is_desk in
      let same = same_desk group footing desk of_desk.desk (desk_of group footing past config k desk at).is_gate (desk_of group footing past config its.0 of_desk.desk its.1).is_gate of_desk.on_slot in
      none_some (on_desk arrays image desk) shown (shut_desk arrays image desk (shut of_desk.number desk (of_desk.is_desk ∙ ap Some (sym same)))) e)
      (λ cell. no_cell k desk at cell) other)
      (moment.others desk.slot desk.lba)

  is_none : (o : Option Staged) → ((shown : Staged) → o ≡ Some shown → ⊥) → o ≡ None
  is_none None never = refl
  is_none (Some shown) never = absurd (never shown refl)

  pub closed_none : NoneOpen group footing past image
  closed_none n c since =
      let same = only n c since in
      subst (λ (x : ℕ). (k : ℕ) (desk : Desk) → slice_get (desks_on group footing past c) k ≡ Some desk → on_desk (arrays_on group footing past x c) image desk ≡ None) (sym same.0)
      (subst (λ (x : Configuration). (k : ℕ) (desk : Desk) → slice_get (desks_on group footing past x) k ≡ Some desk → on_desk (arrays_on group footing past number x) image desk ≡ None) (sym same.1)
      (λ k desk at. is_none (on_desk arrays image desk) (λ shown e. shows_none k desk at shown e)))
