-- The data of a group are kept at every moment while a block of one of its arrays is staged and written.
use Rattle.std.proofs.Common.{◌≡◌, ◌≢◌, ◌∙◌, ◌⊎◌, inl, inr, ⊎_elim, ℕ, ◌<◌, ◌^◌, Bool, true, false, List, [], ◌∷◌, Option, Some, None, Result, Ok, refl, sym, ap, subst, arith, nat_eq, slice_get, ◌&&◌}
use Rattle.std.specs.Prelude.{find, if◌then◌else◌}
use Rattle.std.specs.Map.{lookup}
use Rattle.std.proofs.lemmas.Bool.{eq-eqb}
use Rattle.ddf_lemmas.proofs.Options.{none_some, some_is, same_some}
use Rattle.ddf_lemmas.proofs.Tests.{true_false}
use Rattle.ddf_bay.specs.Sectors.{Image}
use Rattle.ddf_config.specs.declared.array.Array.{Array}
use Rattle.ddf_config.specs.declared.refusal.Refusal.{Refusal}
use Rattle.ddf_config.specs.declared.seat.Seat.{Seat}
use Rattle.ddf_config.specs.Configuration.{Configuration}
use Rattle.ddf_config.specs.ElementValue.{ElementValue}
use Rattle.ddf_config.specs.Members.{is_current, same_guid}
use Rattle.ddf_array.specs.Sound.{AreSectors}
use Rattle.ddf_array.specs.Viewing.{view_of}
use Rattle.ddf_array.specs.Volume.{Volume, IsVolume}
use Rattle.ddf_array.proofs.Apart.{view_apart}
use Rattle.ddf_cells.specs.Alike.{IsCell as IsCellOf}
use Rattle.ddf_cells.specs.Apart.{LiesAt}
use Rattle.ddf_data_array.specs.Allowed.{Allowed, once_written, while_written}
use Rattle.ddf_data_array.specs.Fewer.{IsFewer, LeavesParity, LeavesRows}
use Rattle.ddf_data_array.specs.Kept.{IsKeptData}
use Rattle.ddf_data_array.specs.Rows.{HasNoRows}
use Rattle.ddf_data_array.proofs.Same.{kept_same}
use Rattle.ddf_data_group.specs.Grouped.{KeepsArrays, Promises}
use Rattle.ddf_data_group.specs.Lessening.{AllStay, AreStaying}
use Rattle.ddf_data_group.specs.Over.{AreCurrentSeats, IsOver, absent_in}
use Rattle.ddf_data_group.proofs.Clearly.{used}
use Rattle.ddf_data_group.proofs.Entries.{guid_is}
use Rattle.ddf_data_group.proofs.Lessened.{lessened}
use Rattle.ddf_data_group.proofs.LessRows.{rows_left}
use Rattle.ddf_data_group.proofs.Staying.{leaves_parity}
use Rattle.ddf_history.specs.Groups.{groups}
use Rattle.ddf_history.specs.Issued.{Past, IsSince}
use Rattle.ddf_data_history.specs.Promised.{AreAlone, KeepsData, with_promise}
use Rattle.ddf_data_history.proofs.Steps.{seats_are}
use Rattle.ddf_data_history.proofs.Viewed.{are_members, over_unique}
use Rattle.ddf_stage.specs.declared.desk.Desk.{Desk}
use Rattle.ddf_stage.specs.declared.desk.StageCell.{StageCell}
use Rattle.ddf_stage.specs.declared.desk.Staged.{Staged}
use Rattle.ddf_stage.specs.Desks.{HasDesk}
use Rattle.ddf_stage.specs.Laid.{first_open, is_at, laid, on_desk, sector_of}
use Rattle.ddf_stage.specs.Staging.{IsCell, IsThere}
use Rattle.ddf_rebuild.proofs.Aiming.{cell_lies}
use Rattle.ddf_data_group.proofs.Keeping.{same_element, stay_position}
use Rattle.ddf_stage_data.specs.Moments.{AreAlikeCells, AreItsDesks, IsDeskSector, IsMoment, through, value_of}
use Rattle.ddf_stage_data.proofs.Laid.{found_at, laid_is_staged, some_found}
use Rattle.ddf_stage_data.proofs.Whole as whole
use Rattle.ddf_stage_data.proofs.Moments.{every_moment, open_at, shows}
use Rattle.ddf_stage_promise.specs.Cells.{HasVolumes, cells_by, cells_in, cells_of}
use Rattle.ddf_stage_promise.specs.Closing.{LiePastFloors}
use Rattle.ddf_stage_promise.specs.Footing.{Footing, desk_at}
use Rattle.ddf_stage_promise.specs.Staged.{KeepsStaged, NoneOpen, ShowsOne, arrays_on, desks_on, losing, seats_on}
use Rattle.ddf_stage_promise.specs.Writing.{MayBeStaged}
use Rattle.ddf_stage_promise.proofs.Between.{aside}
use Rattle.ddf_stage_promise.proofs.Cells.{are_cells, found_cell, found_same}
use Rattle.ddf_stage_promise.proofs.Closing.{shows_some}
use Rattle.ddf_stage_promise.proofs.Desks.{all_none, desk_before, desk_of, same_desk, to_desk}
use Rattle.ddf_stage_promise.proofs.Fewer.{less_same, remain_fewer, seats_fewer, view_fewer}
use Rattle.ddf_stage_promise.proofs.Joining.{have_sectors, laid_are}
use Rattle.ddf_stage_promise.proofs.Laying.{laid_none, laid_some, view_remains}
use Rattle.ddf_stage_promise.proofs.Losing.{through_none, through_some}
use Rattle.ddf_stage_promise.proofs.OnlyOne.{keeps_each, shows_each}
use Rattle.ddf_stage_promise.proofs.Remains.{Remains, cell_up, lay, place_up}
use Rattle.ddf_stage_promise.proofs.Steps.{lies_low, plain_keeps, staged_keeps}

-- ---- an array stays the same

all_stay : (c : ℕ → Bool) (array : Array) → AllStay c array.elements array.elements
all_stay c array k one other a b = subst (λ (x : ElementValue). AreStaying c one.positions x.positions) (same_element (slice_get array.elements k) one other a b) (stay_position c one.positions)

no_rows_left : (v w : Volume) → Remains v w → HasNoRows v → HasNoRows w
no_rows_left v w remains none e p part place is at =
    let up = place_up v w remains e p part place is at in
    ⊎_elim (λ stays. stays.1 ∙ none e p up.0 up.1 up.2 up.3) (λ out. out.1) up.4.sync_is

module _ (group : List ℕ) (footing : Footing) (small : (slot : ℕ) → footing.floor slot < 2 ^ 64) (past_floors : LiePastFloors footing) (past : Past (groups group)) (alone : AreAlone group past)
    (number : ℕ) (config : Configuration) (since : IsSince past.changes number config) (known : HasVolumes config)
    (before image : Image) (are : AreSectors image) (promises : Promises) (kept : KeepsStaged group footing past before promises) (none : NoneOpen group footing past before)
    (staged : Staged) (allowed : Allowed) (promised : promises staged.gate.array ≡ Some allowed)
    (v : Volume) (view : view_of config staged.gate.array (seats_on group footing past config) ≡ Ok v)
    (desks : List Desk) (may : MayBeStaged footing (arrays_on group footing past number config) (desks_on group footing past config) desks v staged before)
    (moment : IsMoment (arrays_on group footing past number config) desks staged (cells_of v staged.gate) before image) where
  abbrev arrays : List (List ℕ)
  arrays = arrays_on group footing past number config

  abbrev all : List Desk
  all = desks_on group footing past config

  abbrev seats : List Seat
  seats = seats_on group footing past config

  abbrev cells : List StageCell
  cells = cells_of v staged.gate

  abbrev while : Allowed
  while = while_written allowed staged.gate.block (value_of staged ∷ [])

  seated : AreCurrentSeats config.members (seats_on group footing past config)
  seated = seats_are group footing.floor small past config

  v_known : IsVolume v
  v_known = known staged.gate.array (seats_on group footing past config) v seated.small view

  not_low : (s l : ℕ) → IsDeskSector desks s l → l < footing.floor s → ⊥
  not_low s l on low =
      let its = may.among on.number on.desk on.is_desk in
      let gate = (desk_of group footing past config its.0 on.desk its.1).is_gate in
      let floor = past_floors on.desk.slot on.desk.lba gate in
      let same : footing.floor s ≡ footing.floor on.desk.slot = ap footing.floor on.on_slot in
      omega (arith, floor, on.from, low, same)

  cell_is : (s l : ℕ) (bytes : List ℕ) → IsCell cells staged s l bytes → IsCellOf v s l
  cell_is s l bytes on =
      let found = some_found s l cells on.number on.cell on.is_cell (sym on.on_slot) (sym on.at) in
      found_cell v v_known staged s l found.0 cells (are_cells v v_known staged) found.1

  cell_low : (s l : ℕ) → IsCellOf v s l → l < footing.floor s
  cell_low s l cell =
      let use_of = used config staged.gate.array seats v view v_known in
      (lies_low group footing small past config use_of.array v use_of.over cell.element cell.position cell.sector s l (cell_lies v s l cell)).low

  -- a desk is one of those that are used, or shows nothing
  its_desk : (k : ℕ) (desk : Desk) → slice_get all k ≡ Some desk → ((j : ℕ) × (slice_get desks j ≡ Some desk)) ⊎ (on_desk arrays image desk ≡ None)
  its_desk k desk at = by (on_desk arrays image desk) refl
    where
      by : (o : Option Staged) → on_desk arrays image desk ≡ o → ((j : ℕ) × (slice_get desks j ≡ Some desk)) ⊎ (on_desk arrays image desk ≡ None)
      by None e = inr e
      by (Some shown) e =
          let gate = (desk_of group footing past config k desk at).is_gate in
          ⊎_elim
          (λ same. let was = shows_some arrays image before desk shown same e in absurd (none_some (on_desk arrays before desk) was.0 (none number config since k desk at) was.1))
          (⊎_elim
          (λ on.
          let its = may.among on.number on.desk on.is_desk in
          let same = same_desk group footing desk on.desk gate (desk_of group footing past config its.0 on.desk its.1).is_gate on.on_slot in
          inl (on.number, on.is_desk ∙ ap Some (sym same)))
          (λ cell.
          let low = cell_low desk.slot desk.lba (cell_is desk.slot desk.lba (image desk.slot desk.lba) cell) in
          let floor = past_floors desk.slot desk.lba gate in
          absurd (omega (arith, low, floor))))
          (moment.others desk.slot desk.lba)

  shows_it : (k : ℕ) (desk : Desk) (shown : Staged) → slice_get all k ≡ Some desk → on_desk arrays image desk ≡ Some shown → shown ≡ staged
  shows_it k desk shown at opens =
      ⊎_elim
      (λ its. shows arrays desks staged may.is_stage may.names image moment.payload its.0 desk shown its.1 (moment.gates its.0 desk its.1) opens)
      (λ shut. absurd (none_some (on_desk arrays image desk) shown shut opens)) (its_desk k desk at)

  -- what is kept plain
  before_kept : KeepsArrays config seats before promises
  before_kept = plain_keeps group footing small past before promises kept none number config since

  module _ (lost : ℕ → Bool) (stay : (slot : ℕ) → past.lost slot ≡ true → lost slot ≡ true) where
    abbrev later : Past (groups group)
    later = losing group footing past lost

    abbrev left : List Seat
    left = seats_on group footing (losing group footing past lost) config

    abbrev here : List Desk
    here = desks_on group footing (losing group footing past lost) config

    was_desk : (k : ℕ) (desk : Desk) → slice_get here k ≡ Some desk → (j : ℕ) × (slice_get all j ≡ Some desk)
    was_desk k desk at = desk_before group footing past config lost stay k desk at

    -- the view that is left
    w : Volume
    w = (view_fewer seats left (seats_fewer group footing past alone number config since lost stay) config staged.gate.array v view).0

    w_view : view_of config staged.gate.array left ≡ Ok w
    unfolding w
    w_view = (view_fewer seats left (seats_fewer group footing past alone number config since lost stay) config staged.gate.array v view).1

    w_known : IsVolume w
    w_known = known staged.gate.array left w (seats_are group footing.floor small later config).small w_view

    remains : Remains v w
    remains =
        view_remains config config seats left (remain_fewer config seats left seated (seats_fewer group footing past alone number config since lost stay)) staged.gate.array v w view v_known w_view w_known

    cells_are : cells_in config left staged ≡ cells_of w staged.gate
    cells_are = ap (λ (r : Result Volume Refusal). cells_by r staged.gate) w_view

    -- what is kept of what was there
    left_kept : KeepsArrays config left before promises
    left_kept =
        subst (λ (x : Image). KeepsArrays config left x promises)
        (through_none here arrays (cells_in config left) before
        (all_none arrays before here (λ k desk at. let was = was_desk k desk at in none number config since was.0 desk was.1)))
        (kept lost stay number config since)

    -- ---- the array that is written

    module _ (array : Array) (found : lookup (same_guid staged.gate.array) config.arrays ≡ Some array) (over : IsOver left array w) where
      v_over : IsOver seats array v
      v_over =
          let use_of = used config staged.gate.array seats v view v_known in
          subst (λ (a : Array). IsOver seats a v) (same_some (lookup (same_guid staged.gate.array) config.arrays) use_of.array array use_of.is_found found) use_of.over

      few_of : IsFewer v w
      few_of =
          let old = lessened config.members seats left array array w seated (seats_fewer group footing past alone number config since lost stay) (less_same array) over in
          subst (λ (u : Volume). IsFewer u w) (over_unique seats array old.0 v old.1 v_over) old.2

      parity : LeavesParity (absent_in config.members seats array.elements) (absent_in config.members left array.elements) v w
      parity =
          leaves_parity config.members config.members (λ reference. refl) seats left seated (seats_fewer group footing past alone number config since lost stay) array array v w (less_same array).less
          (all_stay (is_current config.members) array) v_over over

      rows : LeavesRows v w
      rows = rows_left seats left (seats_fewer group footing past alone number config since lost stay) array array v w (less_same array).less v_over over

      alike : AreAlikeCells w cells (cells_of w staged.gate)
      alike s l there =
          found_same v w v_known w_known (view_apart config staged.gate.array seats v view (are_members group footing.floor past config)) remains staged cells (cells_of w staged.gate)
          (are_cells v v_known staged) (are_cells w w_known staged) s l there

      off : (s l : ℕ) → IsCellOf w s l → IsDeskSector desks s l → ⊥
      off s l cell on = not_low s l on (cell_low s l (cell_up v w remains s l cell))

      desk_here : (s l : ℕ) → IsCellOf w s l → HasDesk here s
      desk_here s l cell =
          let gate = may.gates s l (cell_up v w remains s l cell) in
          let low = lies_low group footing small later config array w over cell.element cell.position cell.sector s l (cell_lies w s l cell) in
          let there = to_desk group footing later config s gate.0 low.is_its low.within gate.1 in
          record { number = there.0; desk = desk_at s gate.0; is_desk = there.1; on_slot = refl }

      its : AreItsDesks w arrays desks here image
      its = record {
        slots = desk_here;
        each = λ k desk at. let was = was_desk k desk at in its_desk was.0 desk was.1;
        same = λ j k one other at at' slots.
            let was = was_desk j one at in
            let its = may.among k other at' in
            same_desk group footing one other (desk_of group footing past config was.0 one was.1).is_gate (desk_of group footing past config its.0 other its.1).is_gate slots;
      }

      written : IsKeptData (absent_in config.members left array.elements) w (through here arrays (cells_in config left) image) while
      written =
          every_moment (absent_in config.members seats array.elements) (absent_in config.members left array.elements) v w desks here arrays staged cells (cells_in config left) before image allowed
          v_known (view_apart config staged.gate.array seats v view (are_members group footing.floor past config)) may.unmarked may.within may.no_rows
          (before_kept staged.gate.array allowed array promised found v v_over)
          may.is_stage may.names (are_cells v v_known staged) may.right w_known (no_rows_left v w remains may.no_rows) few_of parity rows
          (subst (AreAlikeCells w cells) (sym cells_are) alike)
          (have_sectors v v_known staged cells (are_cells v v_known staged).are)
          (subst HaveSectorsOf (sym cells_are) (have_sectors w w_known staged (cells_of w staged.gate) (are_cells w w_known staged).are))
          off may.covered its are moment
        where
          HaveSectorsOf : List StageCell → Type 0
          HaveSectorsOf all = (k : ℕ) (cell : StageCell) → slice_get all k ≡ Some cell → cell.from < 17

    -- ---- any other array

    module _ (guid : List ℕ) (differs : guid ≢ staged.gate.array) (array : Array) (found : lookup (same_guid guid) config.arrays ≡ Some array) (u : Volume) (over : IsOver left array u) where
      -- no cell of the other array is one of its sectors
      not_its : (s l : ℕ) → IsCellOf v s l → (e p x : ℕ) → LiesAt u e p x s l → ⊥
      not_its s l cell e p x lies =
          let remain = remain_fewer config seats left seated (seats_fewer group footing past alone number config since lost stay) in
          let was = remain guid array found in
          let from = was.2 u over in
          aside config staged.gate.array seats v view v_known seated (are_members group footing.floor past config) s l cell guid was.0 from.0 differs was.1 from.1 e p x (lay from.0 u from.2 e p x s l lies)

      plain_same : (e p x s l : ℕ) → LiesAt u e p x s l → before s l ≡ image s l
      plain_same e p x s l lies =
          let low = (lies_low group footing small later config array u over e p x s l lies).low in
          ⊎_elim (λ same. sym same) (⊎_elim (λ on. absurd (not_low s l on low)) (λ cell. absurd (not_its s l (cell_is s l (image s l) cell) e p x lies))) (moment.others s l)

      laid_same : (e p x s l : ℕ) → LiesAt u e p x s l → before s l ≡ laid staged (cells_of w staged.gate) image s l
      laid_same e p x s l lies = by (find (is_at s l) (cells_of w staged.gate)) refl
        where
          by : (o : Option StageCell) → find (is_at s l) (cells_of w staged.gate) ≡ o → before s l ≡ laid staged (cells_of w staged.gate) image s l
          by None is = plain_same e p x s l lies ∙ sym (laid_none staged (cells_of w staged.gate) image s l is)
          by (Some cell) is = absurd (not_its s l (cell_up v w remains s l (found_cell w w_known staged s l cell (cells_of w staged.gate) (are_cells w w_known staged) is)) e p x lies)

      by_other : (its : Allowed) → promises guid ≡ Some its → (o : Option Staged) → first_open arrays image here ≡ o → IsKeptData (absent_in config.members left array.elements) u (through here arrays (cells_in config left) image) its
      by_other its is None e =
          subst (λ (x : Image). IsKeptData (absent_in config.members left array.elements) u x its) (sym (through_none here arrays (cells_in config left) image e))
          (kept_same (absent_in config.members left array.elements) u before image its over.is_volume are plain_same (left_kept guid its array is found u over))
      by_other its is (Some shown) e =
          let at = open_at arrays image here shown e in
          let desk = was_desk at.number at.desk at.is_desk in
          let same = shows_it desk.0 at.desk shown desk.1 at.stands in
          subst (λ (x : Image). IsKeptData (absent_in config.members left array.elements) u x its)
          (ap (λ (c : List StageCell). laid staged c image) (sym cells_are) ∙ sym (through_some here arrays (cells_in config left) image staged (e ∙ ap Some same)))
          (kept_same (absent_in config.members left array.elements) u before (laid staged (cells_of w staged.gate) image) its over.is_volume
          (laid_are staged (cells_of w staged.gate) image are (have_sectors w w_known staged (cells_of w staged.gate) (are_cells w w_known staged).are) (λ i below. may.is_stage.whole i below)) laid_same
          (left_kept guid its array is found u over))

    -- ---- all of them

    w_over : (array : Array) → lookup (same_guid staged.gate.array) config.arrays ≡ Some array → IsOver left array w
    w_over array found =
        let use_of = used config staged.gate.array left w w_view w_known in
        subst (λ (a : Array). IsOver left a w) (same_some (lookup (same_guid staged.gate.array) config.arrays) use_of.array array use_of.is_found found) use_of.over

    and_both : (a b : Bool) → a ≡ true → b ≡ true → (a && b) ≡ true
    and_both true b e f = f
    and_both false b e f = e

    self : (xs : List ℕ) → same_guid xs xs ≡ true
    self [] = refl
    self (x ∷ xs) = and_both (nat_eq x x) (same_guid xs xs) (eq-eqb x x refl) (self xs)

    abbrev promised_then : Promises
    promised_then = with_promise promises staged.gate.array (Some while)

    by_guid : (b : Bool) (guid : List ℕ) → same_guid staged.gate.array guid ≡ b → (its : Allowed) → ◌≡◌ {A = Option Allowed} (if b then Some while else promises guid) (Some its)
        → (array : Array) → lookup (same_guid guid) config.arrays ≡ Some array → (u : Volume) → IsOver left array u
        → IsKeptData (absent_in config.members left array.elements) u (through here arrays (cells_in config left) image) its
    by_guid true guid is its e array found u over =
        let same = guid_is staged.gate.array guid is in
        let here_found : lookup (same_guid staged.gate.array) config.arrays ≡ Some array = ap (λ (g : List ℕ). lookup (same_guid g) config.arrays) same ∙ found in
        let its_is : while ≡ its = some_is e in
        let over_w = w_over array here_found in
        subst (λ (x : Volume). IsKeptData (absent_in config.members left array.elements) x (through here arrays (cells_in config left) image) its) (over_unique left array w u over_w over)
        (subst (IsKeptData (absent_in config.members left array.elements) w (through here arrays (cells_in config left) image)) its_is (written array here_found over_w))
    by_guid false guid differs its e array found u over =
        by_other guid (λ same. true_false (same_guid staged.gate.array guid) (ap (same_guid staged.gate.array) same ∙ self staged.gate.array) differs) array found u over its e (first_open arrays image here) refl

    writing_by : KeepsArrays config left (through here arrays (cells_in config left) image) promised_then
    writing_by guid its array e found u over = by_guid (same_guid staged.gate.array guid) guid refl its e array found u over

  -- ---- once it is written

  -- outside the cells nothing is another there
  low_same : (s l : ℕ) → l < footing.floor s → find (is_at s l) cells ≡ None → before s l ≡ image s l
  low_same s l low gone =
      ⊎_elim (λ same. sym same)
      (⊎_elim (λ on. absurd (not_low s l on low))
      (λ cell. let found = some_found s l cells cell.number cell.cell cell.is_cell (sym cell.on_slot) (sym cell.at) in absurd (none_some (find (is_at s l) cells) found.0 gone found.1)))
      (moment.others s l)

  module _ (new : IsThere (IsCell cells staged) image) (shut : NoneOpen group footing past image) (only : (n : ℕ) (c : Configuration) → IsSince past.changes n c → (n ≡ number) × (c ≡ config)) where
    all_same : (s l : ℕ) → l < footing.floor s → laid staged cells before s l ≡ image s l
    all_same s l low = by (find (is_at s l) cells) refl
      where
        by : (o : Option StageCell) → find (is_at s l) cells ≡ o → laid staged cells before s l ≡ image s l
        by None e = laid_none staged cells before s l e ∙ low_same s l low e
        by (Some cell) e =
            let found = found_at s l cells cell e in
            laid_some staged cells before s l cell e
            ∙ sym (new s l (sector_of staged cell) (record { number = found.number; cell = cell; is_cell = found.is_cell; on_slot = sym found.on_slot; at = sym found.at; are = refl }))

    abbrev once : Allowed
    once = once_written allowed staged.gate.block (value_of staged ∷ [])

    module _ (array : Array) (found : lookup (same_guid staged.gate.array) config.arrays ≡ Some array) where
      its_v : IsOver seats array v
      its_v =
          let use_of = used config staged.gate.array seats v view v_known in
          subst (λ (a : Array). IsOver seats a v) (same_some (lookup (same_guid staged.gate.array) config.arrays) use_of.array array use_of.is_found found) use_of.over

      once_kept : IsKeptData (absent_in config.members seats array.elements) v image once
      once_kept =
          let zeroth : 0 < 17 = omega arith in
          let was = before_kept staged.gate.array allowed array promised found v its_v in
          let apart = view_apart config staged.gate.array seats v view (are_members group footing.floor past config) in
          let over_are = laid_are staged cells before was.sound.are_sectors (have_sectors v v_known staged cells (are_cells v v_known staged).are) (λ i below. may.is_stage.whole i below) in
          let after = whole.kept_once (absent_in config.members seats array.elements) v v_known apart may.unmarked may.within may.no_rows staged.gate.block (value_of staged) (may.is_stage.whole 0 zeroth)
          before (laid staged cells before) over_are allowed was (laid_is_staged v v_known apart staged cells (are_cells v v_known staged) before may.right) in
          kept_same (absent_in config.members seats array.elements) v (laid staged cells before) image once v_known are
          (λ e p x s l lies. all_same s l (lies_low group footing small past config array v its_v e p x s l lies).low) after

    module _ (guid : List ℕ) (differs : guid ≢ staged.gate.array) (array : Array) (found : lookup (same_guid guid) config.arrays ≡ Some array) (u : Volume) (over : IsOver seats array u) where
      other_kept : (its : Allowed) → promises guid ≡ Some its → IsKeptData (absent_in config.members seats array.elements) u image its
      other_kept its is =
          kept_same (absent_in config.members seats array.elements) u before image its over.is_volume are
          (λ e p x s l lies.
          ⊎_elim (λ same. sym same)
          (⊎_elim (λ on. absurd (not_low s l on (lies_low group footing small past config array u over e p x s l lies).low))
          (λ cell.
          absurd (aside config staged.gate.array seats v view v_known seated (are_members group footing.floor past config) s l (cell_is s l (image s l) cell) guid array u differs found over e p x lies)))
          (moment.others s l)) (before_kept guid its array is found u over)

    and_once : (a b : Bool) → a ≡ true → b ≡ true → (a && b) ≡ true
    and_once true b e f = f
    and_once false b e f = e

    guid_self : (xs : List ℕ) → same_guid xs xs ≡ true
    guid_self [] = refl
    guid_self (x ∷ xs) = and_once (nat_eq x x) (same_guid xs xs) (eq-eqb x x refl) (guid_self xs)

    once_by : (b : Bool) (guid : List ℕ) → same_guid staged.gate.array guid ≡ b → (its : Allowed) → ◌≡◌ {A = Option Allowed} (if b then Some once else promises guid) (Some its)
        → (array : Array) → lookup (same_guid guid) config.arrays ≡ Some array → (u : Volume) → IsOver seats array u → IsKeptData (absent_in config.members seats array.elements) u image its
    once_by true guid is its e array found u over =
        let same = guid_is staged.gate.array guid is in
        let here_found : lookup (same_guid staged.gate.array) config.arrays ≡ Some array = ap (λ (g : List ℕ). lookup (same_guid g) config.arrays) same ∙ found in
        let its_is : once ≡ its = some_is e in
        subst (λ (x : Volume). IsKeptData (absent_in config.members seats array.elements) x image its) (over_unique seats array v u (its_v array here_found) over)
        (subst (IsKeptData (absent_in config.members seats array.elements) v image) its_is (once_kept array here_found))
    once_by false guid differs its e array found u over =
        other_kept guid (λ same. true_false (same_guid staged.gate.array guid) (ap (same_guid staged.gate.array) same ∙ guid_self staged.gate.array) differs) array found u over its e

    once_arrays : KeepsArrays config seats image (with_promise promises staged.gate.array (Some (once_written allowed staged.gate.block (value_of staged ∷ []))))
    once_arrays guid its array e found u over = once_by (same_guid staged.gate.array guid) guid refl its e array found u over

    once_data : KeepsData group past footing.floor image (with_promise promises staged.gate.array (Some (once_written allowed staged.gate.block (value_of staged ∷ []))))
    once_data n c is =
        let same = only n c is in
        subst (λ (x : Configuration). KeepsArrays x (seats_on group footing past x) image (with_promise promises staged.gate.array (Some (once_written allowed staged.gate.block (value_of staged ∷ []))))) (sym same.1) once_arrays

    pub written_keeps : KeepsStaged group footing past image (with_promise promises staged.gate.array (Some (once_written allowed staged.gate.block (value_of staged ∷ []))))
    written_keeps = staged_keeps group footing small past image (with_promise promises staged.gate.array (Some (once_written allowed staged.gate.block (value_of staged ∷ [])))) alone once_data shut

  -- ---- the group

  module _ (only : (n : ℕ) (c : Configuration) → IsSince past.changes n c → (n ≡ number) × (c ≡ config)) where
    pub writing_keeps : KeepsStaged group footing past image (with_promise promises staged.gate.array (Some (while_written allowed staged.gate.block (value_of staged ∷ []))))
    writing_keeps = keeps_each group footing past number config only image (with_promise promises staged.gate.array (Some (while_written allowed staged.gate.block (value_of staged ∷ [])))) writing_by

    pub writing_shows : ShowsOne group footing past image
    writing_shows = shows_each group footing past number config only image
        (λ j k desk other shown found at at' opens opens'. shows_it j desk shown at opens ∙ sym (shows_it k other found at' opens'))
