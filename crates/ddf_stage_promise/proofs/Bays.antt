-- What a stop leaves of a bay while gates are closed, or a block is staged and written, keeps the data of its group.
use Rattle.std.proofs.Common.{◌≡◌, ◌∙◌, ◌⊎◌, inl, inr, ⊎_elim, ℕ, suc, ◌+◌, ◌<◌, ◌≤◌, ◌^◌, Bool, true, false, not, List, [], ◌∷◌, Option, Some, None, Ok, refl, sym, ap, subst, arith, slice_get}
use Rattle.std.proofs.Math.Path.{fun_ext}
use Rattle.std.specs.Prelude.{if◌then◌else◌}
use Rattle.ddf_lemmas.proofs.Options.{none_some}
use Rattle.ddf_bay.specs.Moments.{IsSettled}
use Rattle.ddf_bay.specs.Sectors.{Image, IsLeft, Outcomes}
use Rattle.ddf_config.specs.Configuration.{Configuration}
use Rattle.ddf_array.specs.Sound.{AreSectors}
use Rattle.ddf_array.specs.Viewing.{view_of}
use Rattle.ddf_array.specs.Volume.{Volume, IsVolume}
use Rattle.ddf_data_array.specs.Allowed.{Allowed, while_written}
use Rattle.ddf_data_group.specs.Grouped.{KeepsArrays, Promises}
use Rattle.ddf_data_group.specs.Over.{AreCurrentSeats}
use Rattle.ddf_data_group.proofs.Clearly.{used}
use Rattle.ddf_history.specs.Groups.{groups}
use Rattle.ddf_history.specs.Issued.{Past, IsSince}
use Rattle.ddf_data_history.specs.Promised.{AreAlone, with_promise}
use Rattle.ddf_data_history.proofs.Steps.{seats_are}
use Rattle.ddf_stage.specs.declared.desk.Desk.{Desk}
use Rattle.ddf_stage.specs.declared.desk.StageCell.{StageCell}
use Rattle.ddf_stage.specs.declared.desk.Staged.{Staged}
use Rattle.ddf_stage.specs.declared.gate.Gate.{Gate}
use Rattle.ddf_stage.specs.Gate.{opened}
use Rattle.ddf_stage.specs.Desks.{HaveOwnSlots, IsPayload}
use Rattle.ddf_stage.specs.Laid.{first_open, names_one, on_desk, sectors_from, staged_behind}
use Rattle.ddf_stage.specs.Staging.{AreOffDesks, ClosedGates, IsBetween, IsCell, OpenGates}
use Rattle.ddf_rebuild.proofs.Aiming.{cell_lies}
use Rattle.ddf_stage_data.specs.Moments.{IsStage, is_shut, through, value_of}
use Rattle.ddf_stage_data.specs.Stops.{AreShut, IsBeforeGates, IsStagedBehind, MayStageAgain}
use Rattle.ddf_stage_data.proofs.Moments.{open_at}
use Rattle.ddf_stage_data.proofs.Stops.{again_comes, replay_comes, stage_comes}
use Rattle.ddf_stage_promise.specs.Cells.{HasVolumes, cells_in, cells_of}
use Rattle.ddf_stage_promise.specs.Closing.{AreToClose, LiePastFloors}
use Rattle.ddf_stage_promise.specs.Footing.{Footing}
use Rattle.ddf_stage_promise.specs.Staged.{KeepsStaged, NoneOpen, ShowsOne, arrays_on, desks_on, losing, seats_on}
use Rattle.ddf_stage_promise.specs.Writing.{MayBeStaged}
use Rattle.ddf_stage_promise.proofs.Cells.{are_cells, stage_cell_is}
use Rattle.ddf_stage_promise.proofs.Closing.{closing_keeps, closing_shows, names_it, shows_some}
use Rattle.ddf_stage_promise.proofs.Desks.{all_none, desk_before, desk_of, same_desk}
use Rattle.ddf_stage_promise.proofs.Losing.{through_none}
use Rattle.ddf_stage_promise.proofs.Steps.{lies_low, same_low}
use Rattle.ddf_stage_promise.proofs.Writing.{writing_keeps}

-- ---- what desks show

-- what a desk shows rests on the sectors of its slot alone
abbrev row_shows : (arrays : List (List ℕ)) → (lba : ℕ) → (ℕ → List ℕ) → Option Staged
row_shows arrays lba row = elim (opened (row lba)) [ None ↦ None | Some gate ↦ if names_one arrays gate then Some (record { gate = gate; sectors = sectors_from row (lba + 1) 17 }) else None ]

pub desk_same : (arrays : List (List ℕ)) (one other : Image) (desk : Desk) → ((l : ℕ) → one desk.slot l ≡ other desk.slot l) → on_desk arrays one desk ≡ on_desk arrays other desk
desk_same arrays one other desk same = ap (row_shows arrays desk.lba) (fun_ext same)

pub first_same : (arrays : List (List ℕ)) (one other : Image) (desks : List Desk) → ((k : ℕ) (desk : Desk) → slice_get desks k ≡ Some desk → on_desk arrays one desk ≡ on_desk arrays other desk)
    → first_open arrays one desks ≡ first_open arrays other desks
first_same arrays one other [] same = refl
first_same arrays one other (desk ∷ desks) same =
    ap (λ (o : Option Staged). elim o [ None ↦ first_open arrays one desks | Some staged ↦ Some staged ]) (same 0 desk refl)
    ∙ ap (λ (p : Option Staged). elim (on_desk arrays other desk) [ None ↦ p | Some staged ↦ Some staged ]) (first_same arrays one other desks (λ k next at. same (suc k) next at))

-- a desk that shows nothing has a gate that counts for nothing
pub none_shut : (arrays : List (List ℕ)) (image : Image) (desk : Desk) → on_desk arrays image desk ≡ None → is_shut arrays (image desk.slot desk.lba) ≡ true
none_shut arrays image desk e = by (opened (image desk.slot desk.lba)) e
  where
    by_name : (gate : Gate) (b : Bool) → ◌≡◌ {A = Option Staged} (if b then Some (staged_behind image desk gate) else None) None → not b ≡ true
    by_name gate true e = absurd (cc)
    by_name gate false e = refl

    by : (o : Option Gate) → ◌≡◌ {A = Option Staged} (elim o [ None ↦ None | Some gate ↦ if names_one arrays gate then Some (staged_behind image desk gate) else None ]) None
        → ◌≡◌ {A = Bool} (elim o [ None ↦ true | Some gate ↦ not (names_one arrays gate) ]) true
    by None e = refl
    by (Some gate) e = by_name gate (names_one arrays gate) e

module _ (group : List ℕ) (footing : Footing) (small : (slot : ℕ) → footing.floor slot < 2 ^ 64) (past_floors : LiePastFloors footing) (past : Past (groups group)) (alone : AreAlone group past)
    (number : ℕ) (config : Configuration) (since : IsSince past.changes number config) (known : HasVolumes config) (only : (n : ℕ) (c : Configuration) → IsSince past.changes n c → (n ≡ number) × (c ≡ config))
    (staged : Staged) (is_stage : IsStage staged) (v : Volume) (view : view_of config staged.gate.array (seats_on group footing past config) ≡ Ok v) (desks : List Desk) (own : HaveOwnSlots desks) where
  abbrev arrays : List (List ℕ)
  arrays = arrays_on group footing past number config

  abbrev all : List Desk
  all = desks_on group footing past config

  abbrev cells : List StageCell
  cells = cells_of v staged.gate

  seated : AreCurrentSeats config.members (seats_on group footing past config)
  seated = seats_are group footing.floor small past config

  v_known : IsVolume v
  v_known = known staged.gate.array (seats_on group footing past config) v seated.small view

  -- cells lie off the desks
  pub cells_off : ((k : ℕ) (desk : Desk) → slice_get desks k ≡ Some desk → (j : ℕ) × (slice_get all j ≡ Some desk)) → AreOffDesks desks cells
  cells_off among j k cell desk at at' same =
      let its = among k desk at' in
      let gate = (desk_of group footing past config its.0 desk its.1).is_gate in
      let floor = past_floors desk.slot desk.lba gate in
      let is = stage_cell_is v v_known staged cell ((are_cells v v_known staged).are j cell at) in
      let use_of = used config staged.gate.array (seats_on group footing past config) v view v_known in
      let low = (lies_low group footing small past config use_of.array v use_of.over is.element is.position is.sector cell.slot cell.lba (cell_lies v cell.slot cell.lba is)).low in
      let floors : footing.floor cell.slot ≡ footing.floor desk.slot = ap footing.floor same in
      inl (omega (arith, low, floor, floors))

  module _ (may : Outcomes) (held : Image) (left : IsLeft may held) (promises : Promises) where
    -- ---- a closing

    module _ (settled : (k : ℕ) (desk : Desk) → slice_get all k ≡ Some desk → IsSettled may held desk.slot)
        (kept : (image : Image) → IsLeft may image → KeepsStaged group footing past image promises) (one : (image : Image) → IsLeft may image → ShowsOne group footing past image)
        (first : first_open arrays held all ≡ Some staged) (to_close : AreToClose arrays all desks cells held) where
      module _ (before : Image) (before_left : IsLeft may before) where
        before_shows : (k : ℕ) (desk : Desk) → slice_get all k ≡ Some desk → on_desk arrays before desk ≡ on_desk arrays held desk
        before_shows k desk at = desk_same arrays before held desk (λ l. settled k desk at l (before desk.slot l) (before_left desk.slot l))

        before_first : first_open arrays before all ≡ Some staged
        before_first = first_same arrays before held all before_shows ∙ first

        pub before_to_close : AreToClose arrays all desks cells before
        before_to_close = record {
          among = to_close.among;
          opens = λ j desk shown at opens. to_close.opens j desk shown at (sym (before_shows j desk at) ∙ opens);
          covered = to_close.covered;
        }

      -- what is staged again
      ready : MayStageAgain arrays desks staged may held
      ready = record {
        settled = λ k desk at. let its = to_close.among k desk at in settled its.0 desk its.1;
        stands = λ k desk at. let its = to_close.among k desk at in by its.0 desk its.1 (on_desk arrays held desk) refl;
      }
        where
          by : (j : ℕ) (desk : Desk) → slice_get all j ≡ Some desk → (o : Option Staged) → on_desk arrays held desk ≡ o → (on_desk arrays held desk ≡ Some staged) ⊎ (is_shut arrays (held desk.slot desk.lba) ≡ true)
          by j desk at None e = inr (none_shut arrays held desk e)
          by j desk at (Some shown) e =
              let there = open_at arrays held all staged first in
              let same = one held left number config since j there.number desk there.desk shown staged at there.is_desk e there.stands in
              inl (e ∙ ap Some same)

      names : names_one arrays staged.gate ≡ true
      names = let at = open_at arrays held all staged first in names_it arrays held at.desk staged at.stands

      module _ (image : Image) (are : AreSectors image) where
        pub close_staging : IsBetween (IsPayload desks staged) (OpenGates desks staged) may image → KeepsStaged group footing past image promises × ShowsOne group footing past image
        close_staging between =
            let comes = again_comes arrays desks own staged is_stage cells names may held image left ready between in (
              closing_keeps group footing small past_floors past alone number config since known comes.before image are promises (kept comes.before comes.is_left) (one comes.before comes.is_left)
                  staged is_stage (before_first comes.before comes.is_left) v view desks (before_to_close comes.before comes.is_left) comes.moment only,
              closing_shows group footing small past_floors past alone number config since known comes.before image are promises (kept comes.before comes.is_left) (one comes.before comes.is_left)
                  staged is_stage (before_first comes.before comes.is_left) v view desks (before_to_close comes.before comes.is_left) comes.moment only,
            )

        pub close_writing : (then_may : Outcomes) (then_held : Image) → IsStagedBehind desks staged may then_may then_held → IsBetween (IsCell cells staged) (ClosedGates desks staged) then_may image
            → KeepsStaged group footing past image promises × ShowsOne group footing past image
        close_writing then_may then_held behind between =
            let comes = replay_comes arrays desks own staged is_stage cells (cells_off to_close.among) may then_may held then_held image left behind between in (
              closing_keeps group footing small past_floors past alone number config since known comes.before image are promises (kept comes.before comes.is_left) (one comes.before comes.is_left)
                  staged is_stage (before_first comes.before comes.is_left) v view desks (before_to_close comes.before comes.is_left) comes.moment only,
              closing_shows group footing small past_floors past alone number config since known comes.before image are promises (kept comes.before comes.is_left) (one comes.before comes.is_left)
                  staged is_stage (before_first comes.before comes.is_left) v view desks (before_to_close comes.before comes.is_left) comes.moment only,
            )

    -- ---- a staged write

    module _ (kept : (image : Image) → IsLeft may image → KeepsStaged group footing past image promises) (none : (image : Image) → IsLeft may image → NoneOpen group footing past image)
        (allowed : Allowed) (promised : promises staged.gate.array ≡ Some allowed)
        (may_stage : (before : Image) → IsLeft may before → MayBeStaged footing arrays all desks v staged before) where
      abbrev promised_then : Promises
      promised_then = with_promise promises staged.gate.array (Some (while_written allowed staged.gate.block (value_of staged ∷ [])))

      module _ (image : Image) (are : AreSectors image) where
        -- before any gate is opened, what was
        module _ (before : Image) (before_left : IsLeft may before) (early : IsBeforeGates arrays desks staged before image) where
          payload_high : (s l : ℕ) (bytes : List ℕ) → IsPayload desks staged s l bytes → footing.floor s ≤ l
          payload_high s l bytes on =
              let its = (may_stage before before_left).among on.number on.desk on.is_desk in
              let gate = (desk_of group footing past config its.0 on.desk its.1).is_gate in
              let floor = past_floors on.desk.slot on.desk.lba gate in
              let same : footing.floor s ≡ footing.floor on.desk.slot = ap footing.floor on.on_slot in
              omega (arith, floor, on.in_run.from, same)

          -- a gate isn't behind one
          not_payload : (k : ℕ) (desk : Desk) → slice_get all k ≡ Some desk → IsPayload desks staged desk.slot desk.lba (image desk.slot desk.lba) → ⊥
          not_payload k desk at on =
              let its = (may_stage before before_left).among on.number on.desk on.is_desk in
              let same = same_desk group footing desk on.desk (desk_of group footing past config k desk at).is_gate (desk_of group footing past config its.0 on.desk its.1).is_gate on.on_slot in
              let lba : desk.lba ≡ on.desk.lba = ap (λ (d : Desk). d.lba) same in
              omega (arith, on.in_run.from, lba)

          early_none : (k : ℕ) (desk : Desk) → slice_get all k ≡ Some desk → on_desk arrays image desk ≡ None
          early_none k desk at = by (on_desk arrays image desk) refl
            where
              by : (o : Option Staged) → on_desk arrays image desk ≡ o → on_desk arrays image desk ≡ None
              by None e = e
              by (Some shown) e =
                  ⊎_elim
                  (λ same.
                  let was = shows_some arrays image before desk shown same e in
                  absurd (none_some (on_desk arrays before desk) was.0 (none before before_left number config since k desk at) was.1))
                  (λ payload. absurd (not_payload k desk at payload)) (early.others desk.slot desk.lba)

          early_by : (lost : ℕ → Bool) → ((slot : ℕ) → past.lost slot ≡ true → lost slot ≡ true)
              → KeepsArrays config (seats_on group footing (losing group footing past lost) config)
              (through (desks_on group footing (losing group footing past lost) config) arrays (cells_in config (seats_on group footing (losing group footing past lost) config)) image) promises
          early_by lost stay =
              let here = desks_on group footing (losing group footing past lost) config in
              let left_cells = cells_in config (seats_on group footing (losing group footing past lost) config) in
              let was_none = all_none arrays before here (λ k desk at. let was = desk_before group footing past config lost stay k desk at in none before before_left number config since was.0 desk was.1) in
              let now_none = all_none arrays image here (λ k desk at. let was = desk_before group footing past config lost stay k desk at in early_none was.0 desk was.1) in
              subst (λ (x : Image). KeepsArrays config (seats_on group footing (losing group footing past lost) config) x promises) (sym (through_none here arrays left_cells image now_none))
              (same_low group footing small (losing group footing past lost) config before image promises (λ were. are)
              (λ s l low. ⊎_elim (λ same. sym same) (λ payload. let high = payload_high s l (image s l) payload in absurd (omega (arith, high, low))) (early.others s l))
              (subst (λ (x : Image). KeepsArrays config (seats_on group footing (losing group footing past lost) config) x promises) (through_none here arrays left_cells before was_none)
              (kept before before_left lost stay number config since)))

          early_keeps : KeepsStaged group footing past image promises
          early_keeps lost stay n c is =
              let same = only n c is in
              subst
              (λ (x : ℕ). KeepsArrays c (seats_on group footing (losing group footing past lost) c)
              (through (desks_on group footing (losing group footing past lost) c) (arrays_on group footing past x c) (cells_in c (seats_on group footing (losing group footing past lost) c)) image) promises) (sym same.0)
              (subst
              (λ (x : Configuration). KeepsArrays x (seats_on group footing (losing group footing past lost) x)
              (through (desks_on group footing (losing group footing past lost) x) (arrays_on group footing past number x) (cells_in x (seats_on group footing (losing group footing past lost) x)) image) promises) (sym same.1)
              (early_by lost stay))

        -- while it is staged: what was, or with the block's new bytes too
        pub write_staging : AreShut arrays desks may → IsBetween (IsPayload desks staged) (OpenGates desks staged) may image
            → KeepsStaged group footing past image promises ⊎ KeepsStaged group footing past image promised_then
        write_staging shut between =
            let comes = stage_comes arrays desks own staged is_stage cells may held image left shut between in
            ⊎_elim
            (λ early. inl (early_keeps comes.before comes.is_left early))
            (λ moment. inr (writing_keeps group footing small past_floors past alone number config since known comes.before image are promises (kept comes.before comes.is_left) (none comes.before comes.is_left)
            staged allowed promised v view desks (may_stage comes.before comes.is_left) moment only))
            comes.moment

        -- while it is written from its stage
        pub write_writing : ((k : ℕ) (desk : Desk) → slice_get desks k ≡ Some desk → (j : ℕ) × (slice_get all j ≡ Some desk)) → (then_may : Outcomes) (then_held : Image) → IsStagedBehind desks staged may then_may then_held
            → IsBetween (IsCell cells staged) (ClosedGates desks staged) then_may image → KeepsStaged group footing past image promised_then
        write_writing among then_may then_held behind between =
            let comes = replay_comes arrays desks own staged is_stage cells (cells_off among) may then_may held then_held image left behind between in
            writing_keeps group footing small past_floors past alone number config since known comes.before image are promises (kept comes.before comes.is_left) (none comes.before comes.is_left)
            staged allowed promised v view desks (may_stage comes.before comes.is_left) comes.moment only
