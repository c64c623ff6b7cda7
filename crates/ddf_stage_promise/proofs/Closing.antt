-- The data of a group are kept while its gates are closed: what stands behind the first of them is staged again and written to its cells.
use Rattle.std.proofs.Common.{◌≡◌, ◌∙◌, ◌⊎◌, inl, inr, ⊎_elim, ℕ, ◌<◌, ◌^◌, Bool, true, false, List, Option, Some, None, Result, Ok, refl, sym, ap, subst, arith, slice_get}
use Rattle.std.specs.Prelude.{find, if◌then◌else◌}
use Rattle.ddf_lemmas.proofs.Options.{none_some, some_is}
use Rattle.ddf_bay.specs.Sectors.{Image}
use Rattle.ddf_config.specs.declared.refusal.Refusal.{Refusal}
use Rattle.ddf_config.specs.declared.seat.Seat.{Seat}
use Rattle.ddf_config.specs.Configuration.{Configuration}
use Rattle.ddf_array.specs.Sound.{AreSectors}
use Rattle.ddf_array.specs.Viewing.{view_of}
use Rattle.ddf_array.specs.Volume.{Volume, IsVolume}
use Rattle.ddf_data_group.specs.Grouped.{KeepsArrays, Promises}
use Rattle.ddf_data_group.specs.Over.{AreCurrentSeats}
use Rattle.ddf_data_group.proofs.Clearly.{used}
use Rattle.ddf_data_group.proofs.Keeping.{kept_fewer}
use Rattle.ddf_history.specs.Groups.{groups}
use Rattle.ddf_history.specs.Issued.{Past, IsSince}
use Rattle.ddf_data_history.specs.Promised.{AreAlone}
use Rattle.ddf_data_history.proofs.Steps.{seats_are}
use Rattle.ddf_data_history.proofs.Viewed.{are_members}
use Rattle.ddf_stage.specs.declared.desk.Desk.{Desk}
use Rattle.ddf_stage.specs.declared.desk.StageCell.{StageCell}
use Rattle.ddf_stage.specs.declared.desk.Staged.{Staged}
use Rattle.ddf_stage.specs.declared.gate.Gate.{Gate}
use Rattle.ddf_stage.specs.Gate.{gate_bytes, opened}
use Rattle.ddf_stage.specs.Laid.{first_open, is_at, laid, names_one, on_desk, sector_of, staged_behind}
use Rattle.ddf_stage.specs.Staging.{IsCell, IsThere}
use Rattle.ddf_rebuild.proofs.Aiming.{cell_lies}
use Rattle.ddf_stage_data.specs.Moments.{AllOld, AllOpen, IsDeskSector, IsMoment, IsStage, StayOpen, through}
use Rattle.ddf_stage_data.proofs.Laid.{found_at, some_found}
use Rattle.ddf_stage_data.proofs.Moments.{none_at, open_at, open_here, shows}
use Rattle.ddf_stage_data.proofs.Stops.{open_before}
use Rattle.ddf_stage_promise.specs.Cells.{HasVolumes, cells_by, cells_in, cells_of}
use Rattle.ddf_stage_promise.specs.Closing.{AreToClose, LiePastFloors}
use Rattle.ddf_stage_promise.specs.Footing.{Footing, desk_at}
use Rattle.ddf_stage_promise.specs.Staged.{KeepsStaged, ShowsOne, arrays_on, desks_on, losing, seats_on}
use Rattle.ddf_stage_promise.proofs.Cells.{are_cells, found_cell}
use Rattle.ddf_stage_promise.proofs.Desks.{all_none, desk_before, desk_of, same_desk, to_desk}
use Rattle.ddf_stage_promise.proofs.Fewer.{remain_fewer, seats_fewer, view_fewer}
use Rattle.ddf_stage_promise.proofs.Laying.{laid_between, laid_none, laid_some, view_remains}
use Rattle.ddf_stage_promise.proofs.Losing.{through_none, through_some}
use Rattle.ddf_stage_promise.proofs.OnlyOne.{keeps_each, shows_each}
use Rattle.ddf_stage_promise.proofs.Steps.{IsLow, lies_low}
use Rattle.ddf_data_array.proofs.Same.{kept_same}
use Rattle.ddf_data_group.specs.Over.{absent_in}

-- what a desk shows rests on its gate: another image with the same gate shows something too
pub shows_some : (arrays : List (List ℕ)) (one other : Image) (desk : Desk) (staged : Staged) → one desk.slot desk.lba ≡ other desk.slot desk.lba → on_desk arrays one desk ≡ Some staged → (shown : Staged) × (on_desk arrays other desk ≡ Some shown)
shows_some arrays one other desk staged same e =
    by (opened (one desk.slot desk.lba)) e (ap (λ (o : Option Gate). elim o [ None ↦ None | Some gate ↦ if names_one arrays gate then Some (staged_behind other desk gate) else None ]) (ap opened (sym same)))
  where
    by_name : (gate : Gate) (b : Bool) → ◌≡◌ {A = Option Staged} (if b then Some (staged_behind one desk gate) else None) (Some staged)
        → on_desk arrays other desk ≡ (if b then Some (staged_behind other desk gate) else None) → (shown : Staged) × (on_desk arrays other desk ≡ Some shown)
    by_name gate true e there = (staged_behind other desk gate, there)
    by_name gate false e there = absurd (cc)

    by : (o : Option Gate) → ◌≡◌ {A = Option Staged} (elim o [ None ↦ None | Some gate ↦ if names_one arrays gate then Some (staged_behind one desk gate) else None ]) (Some staged)
        → on_desk arrays other desk ≡ (elim o [ None ↦ None | Some gate ↦ if names_one arrays gate then Some (staged_behind other desk gate) else None ]) → (shown : Staged) × (on_desk arrays other desk ≡ Some shown)
    by None e there = absurd (cc)
    by (Some gate) e there = by_name gate (names_one arrays gate) e there

-- an open gate names one of the arrays
pub names_it : (arrays : List (List ℕ)) (image : Image) (desk : Desk) (staged : Staged) → on_desk arrays image desk ≡ Some staged → names_one arrays staged.gate ≡ true
names_it arrays image desk staged e = by (opened (image desk.slot desk.lba)) e
  where
    by_name : (gate : Gate) (b : Bool) → names_one arrays gate ≡ b → ◌≡◌ {A = Option Staged} (if b then Some (staged_behind image desk gate) else None) (Some staged) → names_one arrays staged.gate ≡ true
    by_name gate true is e = let same : staged_behind image desk gate ≡ staged = some_is e in subst (λ (x : Staged). names_one arrays x.gate ≡ true) same is
    by_name gate false is e = absurd (cc)

    by : (o : Option Gate) → ◌≡◌ {A = Option Staged} (elim o [ None ↦ None | Some gate ↦ if names_one arrays gate then Some (staged_behind image desk gate) else None ]) (Some staged) → names_one arrays staged.gate ≡ true
    by None e = absurd (cc)
    by (Some gate) e = by_name gate (names_one arrays gate) refl e

module _ (group : List ℕ) (footing : Footing) (small : (slot : ℕ) → footing.floor slot < 2 ^ 64) (past_floors : LiePastFloors footing) (past : Past (groups group)) (alone : AreAlone group past)
    (number : ℕ) (config : Configuration) (since : IsSince past.changes number config) (known : HasVolumes config)
    (before image : Image) (are : AreSectors image) (promises : Promises) (kept : KeepsStaged group footing past before promises) (one : ShowsOne group footing past before)
    (staged : Staged) (is_stage : IsStage staged) (first : first_open (arrays_on group footing past number config) before (desks_on group footing past config) ≡ Some staged)
    (v : Volume) (view : view_of config staged.gate.array (seats_on group footing past config) ≡ Ok v)
    (desks : List Desk) (to_close : AreToClose (arrays_on group footing past number config) (desks_on group footing past config) desks (cells_of v staged.gate) before)
    (moment : IsMoment (arrays_on group footing past number config) desks staged (cells_of v staged.gate) before image) where
  abbrev arrays : List (List ℕ)
  arrays = arrays_on group footing past number config

  abbrev all : List Desk
  all = desks_on group footing past config

  abbrev seats : List Seat
  seats = seats_on group footing past config

  abbrev cells : List StageCell
  cells = cells_of v staged.gate

  seated : AreCurrentSeats config.members (seats_on group footing past config)
  seated = seats_are group footing.floor small past config

  v_known : IsVolume v
  v_known = known staged.gate.array (seats_on group footing past config) v seated.small view

  names : names_one (arrays_on group footing past number config) staged.gate ≡ true
  names = let at = open_at arrays before all staged first in names_it arrays before at.desk staged at.stands

  -- all that stood open shows what is staged
  stood : (k : ℕ) (desk : Desk) (shown : Staged) → slice_get all k ≡ Some desk → on_desk arrays before desk ≡ Some shown → shown ≡ staged
  stood k desk shown at opens =
      let there = open_at arrays before all staged first in
      one number config since k there.number desk there.desk shown staged at there.is_desk opens there.stands

  -- ---- which desks are used

  -- a sector of one of the desks is at or past the floor
  not_low : (s l : ℕ) → IsDeskSector desks s l → l < footing.floor s → ⊥
  not_low s l on low =
      let its = to_close.among on.number on.desk on.is_desk in
      let gate = (desk_of group footing past config its.0 on.desk its.1).is_gate in
      let floor = past_floors on.desk.slot on.desk.lba gate in
      let same : footing.floor s ≡ footing.floor on.desk.slot = ap footing.floor on.on_slot in
      omega (arith, floor, on.from, low, same)

  -- a cell lies below the floor
  cell_low : (s l : ℕ) (bytes : List ℕ) → IsCell cells staged s l bytes → l < footing.floor s
  cell_low s l bytes on =
      let found = some_found s l cells on.number on.cell on.is_cell (sym on.on_slot) (sym on.at) in
      let cell = found_cell v v_known staged s l found.0 cells (are_cells v v_known staged) found.1 in
      let use_of = used config staged.gate.array seats v view v_known in
      (lies_low group footing small past config use_of.array v use_of.over cell.element cell.position cell.sector s l (cell_lies v s l cell)).low

  -- a desk whose gate stands open now is one of them, and shows what is staged
  its_desk : (k : ℕ) (desk : Desk) (shown : Staged) → slice_get all k ≡ Some desk → on_desk arrays image desk ≡ Some shown → (j : ℕ) × (slice_get desks j ≡ Some desk)
  its_desk k desk shown at opens =
      let gate = (desk_of group footing past config k desk at).is_gate in
      ⊎_elim
      (λ same. let was = shows_some arrays image before desk shown same opens in to_close.opens k desk was.0 at was.1)
      (⊎_elim
      (λ on.
      let its = to_close.among on.number on.desk on.is_desk in
      let same = same_desk group footing desk on.desk gate (desk_of group footing past config its.0 on.desk its.1).is_gate on.on_slot in
      (on.number, on.is_desk ∙ ap Some (sym same)))
      (λ cell.
      let low = cell_low desk.slot desk.lba (image desk.slot desk.lba) cell in
      let floor = past_floors desk.slot desk.lba gate in
      absurd (omega (arith, low, floor))))
      (moment.others desk.slot desk.lba)

  shows_it : (k : ℕ) (desk : Desk) (shown : Staged) → slice_get all k ≡ Some desk → on_desk arrays image desk ≡ Some shown → shown ≡ staged
  shows_it k desk shown at opens =
      let its = its_desk k desk shown at opens in
      shows arrays desks staged is_stage names image moment.payload its.0 desk shown its.1 (moment.gates its.0 desk its.1) opens

  -- ---- below the floors

  -- outside the cells nothing is another there
  low_same : (s l : ℕ) → l < footing.floor s → find (is_at s l) cells ≡ None → before s l ≡ image s l
  low_same s l low none =
      ⊎_elim (λ same. sym same)
      (⊎_elim (λ on. absurd (not_low s l on low))
      (λ cell. let found = some_found s l cells cell.number cell.cell cell.is_cell (sym cell.on_slot) (sym cell.at) in absurd (none_some (find (is_at s l) cells) found.0 none found.1)))
      (moment.others s l)

  -- where all cells are written, they are as they are staged
  all_same : IsThere (IsCell cells staged) image → (s l : ℕ) → l < footing.floor s → laid staged cells before s l ≡ image s l
  all_same new s l low = by (find (is_at s l) cells) refl
    where
      by : (o : Option StageCell) → find (is_at s l) cells ≡ o → laid staged cells before s l ≡ image s l
      by None e = laid_none staged cells before s l e ∙ low_same s l low e
      by (Some cell) e =
          let found = found_at s l cells cell e in
          laid_some staged cells before s l cell e
          ∙ sym (new s l (sector_of staged cell) (record { number = found.number; cell = cell; is_cell = found.is_cell; on_slot = sym found.on_slot; at = sym found.at; are = refl }))

  -- ---- whatever is lost

  module _ (lost : ℕ → Bool) (stay : (slot : ℕ) → past.lost slot ≡ true → lost slot ≡ true) where
    abbrev later : Past (groups group)
    later = losing group footing past lost

    abbrev left : List Seat
    left = seats_on group footing (losing group footing past lost) config

    abbrev here : List Desk
    here = desks_on group footing (losing group footing past lost) config

    abbrev Keeps : Image → Type 0
    Keeps x = KeepsArrays config (seats_on group footing (losing group footing past lost) config) x promises

    was_desk : (k : ℕ) (desk : Desk) → slice_get here k ≡ Some desk → (j : ℕ) × (slice_get all j ≡ Some desk)
    was_desk k desk at = desk_before group footing past config lost stay k desk at

    -- with all that is left of what is staged laid over it
    before_laid : Keeps (laid staged cells before)
    before_laid guid allowed array promised found =
        let over = through_some all arrays (cells_in config seats) before staged first in
        let of = ap (λ (r : Result Volume Refusal). laid staged (cells_by r staged.gate) before) view in
        let keeps = subst (λ (x : Image). KeepsArrays config seats x promises) (over ∙ of) (kept past.lost (λ slot e. e) number config since) in
        kept_fewer config.members seats left array (laid staged cells before) allowed seated (seats_fewer group footing past alone number config since lost stay) (keeps guid allowed array promised found)

    image_laid : Keeps (laid staged (cells_in config left staged) image)
    image_laid =
        let few = seats_fewer group footing past alone number config since lost stay in
        let left_seats = seats_are group footing.floor small later config in
        let w = view_fewer seats left few config staged.gate.array v view in
        let w_known = known staged.gate.array left w.0 left_seats.small w.1 in
        let remain = remain_fewer config seats left seated few in
        let remains = view_remains config config seats left remain staged.gate.array v w.0 view v_known w.1 w_known in
        subst (λ (r : Result Volume Refusal). Keeps (laid staged (cells_by r staged.gate) image)) (sym w.1)
        (laid_between config config seats left seated (are_members group footing.floor past config) remain (λ s l. l < footing.floor s)
        (λ array u over e p x s l lies. (lies_low group footing small later config array u over e p x s l lies).low)
        staged.gate.array v w.0 view v_known w.1 w_known remains staged before image are promises low_same before_laid)

    -- where no gate stood open, what was there
    plain_before : first_open arrays before here ≡ None → Keeps before
    plain_before none =
        subst Keeps (through_none here arrays (cells_in config left) before none) (kept lost stay number config since)

    by_low : (x : Image) → ((s l : ℕ) → IsLow group footing small later config s l → x s l ≡ image s l) → Keeps x → Keeps image
    by_low x same keeps guid allowed array promised found w over =
        kept_same (absent_in config.members left array.elements) w x image allowed over.is_volume are
        (λ e p y s l lies. same s l (lies_low group footing small later config array w over e p y s l lies)) (keeps guid allowed array promised found w over)

    module _ (shut : first_open arrays image here ≡ None) where
      -- none of the desks that are left shows anything
      shut_now : (k : ℕ) (desk : Desk) → slice_get here k ≡ Some desk → (j : ℕ) → slice_get desks j ≡ Some desk → image desk.slot desk.lba ≡ gate_bytes true staged.gate → ⊥
      shut_now k desk at j at' opens =
          none_some (on_desk arrays image desk) staged (none_at arrays image here shut k desk at) (open_here arrays desks staged is_stage names image moment.payload j desk at' opens)

      -- none stood open, where those that did still do
      none_before : ((k : ℕ) (desk : Desk) → slice_get desks k ≡ Some desk → before desk.slot desk.lba ≡ gate_bytes true staged.gate → image desk.slot desk.lba ≡ gate_bytes true staged.gate) → first_open arrays before here ≡ None
      none_before still = all_none arrays before here (λ k desk at. by k desk at (on_desk arrays before desk) refl)
        where
          by : (k : ℕ) (desk : Desk) → slice_get here k ≡ Some desk → (o : Option Staged) → on_desk arrays before desk ≡ o → on_desk arrays before desk ≡ None
          by k desk at None e = e
          by k desk at (Some shown) e =
              let was = was_desk k desk at in
              let its = to_close.opens was.0 desk shown was.1 e in
              let same = stood was.0 desk shown was.1 e in
              absurd (shut_now k desk at its.0 its.1 (still its.0 desk its.1 (open_before arrays before desk staged (e ∙ ap Some same)).gate))

      by_phase : (AllOld desks before image × StayOpen desks staged before image) ⊎ (AllOpen desks staged image ⊎ IsThere (IsCell cells staged) image) → Keeps image
      by_phase (inl old) =
          by_low before (λ s l low. ⊎_elim (λ same. sym same) (λ on. absurd (not_low s l on low.low)) (old.0 s l)) (plain_before (none_before old.1))
      by_phase (inr (inl opens)) =
          by_low before
          (λ s l low. ⊎_elim (λ same. sym same)
          (⊎_elim (λ on. absurd (not_low s l on low.low))
          (λ cell.
          -- the cell's slot has one of the desks, and is left
          let has = to_close.covered cell.number cell.cell cell.is_cell in
          let its = to_close.among has.number has.desk has.is_desk in
          let gate = (desk_of group footing past config its.0 has.desk its.1).is_gate in
          let slot : s ≡ has.desk.slot = cell.on_slot ∙ has.on_slot in
          let there = to_desk group footing later config s has.desk.lba low.is_its low.within (ap footing.gate slot ∙ gate) in
          let same : desk_at s has.desk.lba ≡ has.desk = ap (λ (n : ℕ). desk_at n has.desk.lba) slot in
          absurd (shut_now there.0 has.desk (there.1 ∙ ap Some same) has.number has.is_desk (opens has.number has.desk has.is_desk))))
          (moment.others s l))
          (plain_before (none_before (λ k desk at was. opens k desk at)))
      by_phase (inr (inr new)) = by_low (laid staged cells before) (λ s l low. all_same new s l low.low) before_laid

    by_first : (o : Option Staged) → first_open arrays image here ≡ o → Keeps (through here arrays (cells_in config left) image)
    by_first None e = subst Keeps (sym (through_none here arrays (cells_in config left) image e)) (by_phase e moment.phase)
    by_first (Some shown) e =
        let at = open_at arrays image here shown e in
        let was = was_desk at.number at.desk at.is_desk in
        let same = shows_it was.0 at.desk shown was.1 at.stands in
        subst Keeps (sym (through_some here arrays (cells_in config left) image staged (e ∙ ap Some same))) image_laid

    closing_by : Keeps (through here arrays (cells_in config left) image)
    closing_by = by_first (first_open arrays image here) refl

  -- ---- the group

  module _ (only : (n : ℕ) (c : Configuration) → IsSince past.changes n c → (n ≡ number) × (c ≡ config)) where
    pub closing_keeps : KeepsStaged group footing past image promises
    closing_keeps = keeps_each group footing past number config only image promises closing_by

    pub closing_shows : ShowsOne group footing past image
    closing_shows = shows_each group footing past number config only image
        (λ j k desk other shown found at at' opens opens'. shows_it j desk shown at opens ∙ sym (shows_it k other found at' opens'))
