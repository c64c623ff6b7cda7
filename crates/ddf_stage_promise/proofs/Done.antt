-- What a stop leaves of a bay behind a call that wrote a block from its stage and closed the gates: no gate of the group stands open.
use Rattle.std.proofs.Common.{◌≡◌, ◌∙◌, inl, inr, ℕ, ◌<◌, ◌^◌, true, List, [], ◌∷◌, Some, Ok, slice_get}
use Rattle.ddf_lemmas.proofs.Options.{none_some}
use Rattle.ddf_bay.specs.Moments.{IsSettled}
use Rattle.ddf_bay.specs.Sectors.{Image, IsLeft, Outcomes}
use Rattle.ddf_config.specs.Configuration.{Configuration}
use Rattle.ddf_array.specs.Sound.{AreSectors}
use Rattle.ddf_array.specs.Viewing.{view_of}
use Rattle.ddf_array.specs.Volume.{Volume}
use Rattle.ddf_data_array.specs.Allowed.{Allowed, once_written}
use Rattle.ddf_data_group.specs.Grouped.{Promises}
use Rattle.ddf_history.specs.Groups.{groups}
use Rattle.ddf_history.specs.Issued.{Past, IsSince}
use Rattle.ddf_data_history.specs.Promised.{AreAlone, with_promise}
use Rattle.ddf_stage.specs.declared.desk.Desk.{Desk}
use Rattle.ddf_stage.specs.declared.desk.StageCell.{StageCell}
use Rattle.ddf_stage.specs.declared.desk.Staged.{Staged}
use Rattle.ddf_stage.specs.Desks.{HaveOwnSlots}
use Rattle.ddf_stage.specs.Laid.{first_open, on_desk}
use Rattle.ddf_stage.specs.Staging.{ClosedGates, IsBetween, IsCell, IsThere}
use Rattle.ddf_stage_data.specs.Moments.{IsStage, is_shut, value_of}
use Rattle.ddf_stage_data.specs.Stops.{IsStagedBehind}
use Rattle.ddf_stage_data.proofs.Stops.{closed_are_shut, replay_comes}
use Rattle.ddf_stage_promise.specs.Cells.{HasVolumes, cells_of}
use Rattle.ddf_stage_promise.specs.Closing.{AreToClose, IsWrittenBehind, LiePastFloors}
use Rattle.ddf_stage_promise.specs.Footing.{Footing}
use Rattle.ddf_stage_promise.specs.Staged.{KeepsStaged, NoneOpen, ShowsOne, arrays_on, desks_on, seats_on}
use Rattle.ddf_stage_promise.specs.Writing.{MayBeStaged}
use Rattle.ddf_stage_promise.proofs.Bays.{before_to_close, cells_off, close_writing}
use Rattle.ddf_stage_promise.proofs.Closed.{closed_none}
use Rattle.ddf_stage_promise.proofs.Writing.{written_keeps}

module _ (group : List ℕ) (footing : Footing) (small : (slot : ℕ) → footing.floor slot < 2 ^ 64) (past_floors : LiePastFloors footing) (past : Past (groups group)) (alone : AreAlone group past)
    (number : ℕ) (config : Configuration) (since : IsSince past.changes number config) (known : HasVolumes config) (only : (n : ℕ) (c : Configuration) → IsSince past.changes n c → (n ≡ number) × (c ≡ config))
    (staged : Staged) (is_stage : IsStage staged) (v : Volume) (view : view_of config staged.gate.array (seats_on group footing past config) ≡ Ok v) (desks : List Desk) (own : HaveOwnSlots desks) where
  abbrev arrays : List (List ℕ)
  arrays = arrays_on group footing past number config

  abbrev all : List Desk
  all = desks_on group footing past config

  abbrev cells : List StageCell
  cells = cells_of v staged.gate

  module _ (may : Outcomes) (held : Image) (left : IsLeft may held) (promises : Promises)
      (then_may : Outcomes) (then_held : Image) (behind : IsStagedBehind desks staged may then_may then_held)
      (done_may : Outcomes) (done_held : Image) (done : IsWrittenBehind desks (cells_of v staged.gate) staged then_may done_may done_held)
      (image : Image) (are : AreSectors image) (last : IsLeft done_may image) where
    all_there : IsThere (IsCell cells staged) image
    all_there s l bytes cell =
        done.settled s (inr (record { number = cell.number; cell = cell.cell; is_cell = cell.is_cell; on_slot = cell.on_slot })) l (image s l) (last s l) ∙ done.are_there s l bytes cell

    between : IsBetween (IsCell cells staged) (ClosedGates desks staged) then_may image
    between = inr (all_there, λ s l. done.adds s l (image s l) (last s l))

    shut : (k : ℕ) (desk : Desk) → slice_get desks k ≡ Some desk → is_shut arrays (image desk.slot desk.lba) ≡ true
    shut k desk at =
        closed_are_shut arrays desks own staged is_stage cells done_may done_held done.gates (λ slot has. done.settled slot (inl has)) k desk (image desk.slot desk.lba) at (last desk.slot desk.lba)

    -- behind a closing
    pub done_closing : ((k : ℕ) (desk : Desk) → slice_get all k ≡ Some desk → IsSettled may held desk.slot)
        → ((x : Image) → IsLeft may x → KeepsStaged group footing past x promises) → ((x : Image) → IsLeft may x → ShowsOne group footing past x)
        → first_open arrays held all ≡ Some staged → AreToClose arrays all desks cells held
        → KeepsStaged group footing past image promises × ShowsOne group footing past image × NoneOpen group footing past image
    done_closing settled kept one first to_close =
        let keeps = close_writing group footing small past_floors past alone number config since known only staged is_stage v view desks own may held left promises settled kept one first to_close image are
        then_may then_held behind between in
        let comes = replay_comes arrays desks own staged is_stage cells
        (cells_off group footing small past_floors past alone number config since known only staged is_stage v view desks own to_close.among) may then_may held then_held image left behind between in (
          keeps.0,
          keeps.1,
          closed_none group footing small past_floors past number config known only comes.before image staged v view desks
              (before_to_close group footing small past_floors past alone number config since known only staged is_stage v view desks own may held left promises settled kept one first to_close comes.before comes.is_left)
              comes.moment shut,
        )

    -- behind a staged write
    pub done_writing : ((x : Image) → IsLeft may x → KeepsStaged group footing past x promises) → ((x : Image) → IsLeft may x → NoneOpen group footing past x)
        → (allowed : Allowed) → promises staged.gate.array ≡ Some allowed → ((before : Image) → IsLeft may before → MayBeStaged footing arrays all desks v staged before)
        → ((k : ℕ) (desk : Desk) → slice_get desks k ≡ Some desk → (j : ℕ) × (slice_get all j ≡ Some desk))
        → KeepsStaged group footing past image (with_promise promises staged.gate.array (Some (once_written allowed staged.gate.block (value_of staged ∷ [])))) × NoneOpen group footing past image
    done_writing kept none allowed promised may_stage among =
        let comes = replay_comes arrays desks own staged is_stage cells
        (cells_off group footing small past_floors past alone number config since known only staged is_stage v view desks own among) may then_may held then_held image left behind between in
        let stage = may_stage comes.before comes.is_left in
        let to_close : AreToClose arrays all desks cells comes.before = record {
          among = stage.among;
          opens = λ j desk shown at opens. absurd (none_some (on_desk arrays comes.before desk) shown (none comes.before comes.is_left number config since j desk at) opens);
          covered = stage.covered;
        } in
        let shut_now = closed_none group footing small past_floors past number config known only comes.before image staged v view desks to_close comes.moment shut in (
          written_keeps group footing small past_floors past alone number config since known comes.before image are promises (kept comes.before comes.is_left) (none comes.before comes.is_left)
              staged allowed promised v view desks stage comes.moment all_there shut_now only,
          shut_now,
        )
