-- An array keeps what it keeps at every moment of a staged write, whichever disks are lost then.
use Rattle.std.proofs.Common.{◌≡◌, ◌∙◌, ◌⊎◌, inl, inr, ⊎_elim, ℕ, zero, suc, ◌+◌, ◌<◌, Bool, true, false, not, List, [], ◌∷◌, Option, Some, None, refl, sym, ap, subst, arith, length, slice_get}
use Rattle.std.specs.Prelude.{find, if◌then◌else◌}
use Rattle.ddf_lemmas.proofs.Options.{none_some, some_is}
use Rattle.ddf_bay.specs.Sectors.{Image}
use Rattle.ddf_array.specs.Sound.{AreSectors}
use Rattle.ddf_array.specs.Volume.{Volume, IsVolume}
use Rattle.ddf_cells.specs.Alike.{AreAlike, IsCell as IsCellOf}
use Rattle.ddf_data_array.specs.Allowed.{Allowed, while_written}
use Rattle.ddf_array.specs.Apart.{IsApart}
use Rattle.ddf_array.specs.Within.{is_within}
use Rattle.ddf_data_array.specs.Fewer.{IsFewer, LeavesParity, LeavesRows}
use Rattle.ddf_data_array.specs.Kept.{IsKeptData}
use Rattle.ddf_data_array.specs.Rows.{HasNoRows}
use Rattle.ddf_data_array.proofs.LessRows.{kept_less}
use Rattle.ddf_data_array.proofs.RowsKept.{no_rows_kept}
use Rattle.ddf_data_array.proofs.Same.{kept_alike}
use Rattle.ddf_data_array.proofs.Written.{old_while}
use Rattle.ddf_stage.specs.declared.desk.Desk.{Desk}
use Rattle.ddf_stage.specs.declared.desk.StageCell.{StageCell}
use Rattle.ddf_stage.specs.declared.desk.Staged.{Staged}
use Rattle.ddf_stage.specs.declared.gate.Gate.{Gate}
use Rattle.ddf_stage.specs.Gate.{gate_bytes, opened}
use Rattle.ddf_stage.specs.Laid.{first_open, is_at, laid, names_one, on_desk, sector_of, sectors_from, staged_behind}
use Rattle.ddf_stage.specs.Staging.{IsCell, IsThere}
use Rattle.ddf_stage.proofs.Gates.{opened_open}
use Rattle.ddf_stage.proofs.DeskReads.{sectors_are, staged_from}
use Rattle.ddf_data_array.proofs.Common.{kept_more}
use Rattle.ddf_stage_data.specs.Moments.{AllOld, AllOpen, AreAlikeCells, AreCellsOf, AreCovered, AreItsDesks, HaveSectors, IsBehindOpen, IsMoment, IsOffDesks, IsRight, IsStage, is_shut, through, value_of}
use Rattle.ddf_stage_data.specs.Stops.{IsBeforeGates}
use Rattle.ddf_stage_data.proofs.Laid.{found_at, laid_is_staged, some_found}
use Rattle.ddf_stage_data.proofs.Whole as whole

-- ---- the first open gate

module _ (arrays : List (List ℕ)) (image : Image) where
  pub record OpenAt (desks : List Desk) (staged : Staged) : Type 0 where
    pub number : ℕ
    pub desk : Desk
    pub is_desk : slice_get desks number ≡ Some desk
    pub stands : on_desk arrays image desk ≡ Some staged

  open_by : (desk : Desk) (desks : List Desk) (staged : Staged) (o : Option Staged) → on_desk arrays image desk ≡ o
      → ◌≡◌ {A = Option Staged} (elim o [ None ↦ first_open arrays image desks | Some staged ↦ Some staged ]) (Some staged) → (first_open arrays image desks ≡ Some staged → OpenAt desks staged) → OpenAt (desk ∷ desks) staged
  open_by desk desks staged None is e later = let there = later e in record { number = suc there.number; desk = there.desk; is_desk = there.is_desk; stands = there.stands }
  open_by desk desks staged (Some other) is e later = let same : other ≡ staged = some_is e in record { number = 0; desk = desk; is_desk = refl; stands = is ∙ ap Some same }

  pub open_at : (desks : List Desk) (staged : Staged) → first_open arrays image desks ≡ Some staged → OpenAt desks staged
  open_at [] staged e = absurd (cc)
  open_at (desk ∷ desks) staged e = open_by desk desks staged (on_desk arrays image desk) refl e (open_at desks staged)

  none_by : (desk : Desk) (desks : List Desk) (o : Option Staged) → on_desk arrays image desk ≡ o → ◌≡◌ {A = Option Staged} (elim o [ None ↦ first_open arrays image desks | Some staged ↦ Some staged ]) None
      → (first_open arrays image desks ≡ None) × (on_desk arrays image desk ≡ None)
  none_by desk desks None is e = (e, is)
  none_by desk desks (Some other) is e = absurd (cc)

  pub none_at : (desks : List Desk) → first_open arrays image desks ≡ None → (k : ℕ) (desk : Desk) → slice_get desks k ≡ Some desk → on_desk arrays image desk ≡ None
  none_at [] e k desk at = absurd (cc)
  none_at (first ∷ rest) e zero desk at =
      let same : first ≡ desk = some_is at in
      ap (on_desk arrays image) (sym same) ∙ (none_by first rest (on_desk arrays image first) refl e).1
  none_at (first ∷ rest) e (suc k) desk at = none_at rest (none_by first rest (on_desk arrays image first) refl e).0 k desk at

-- ---- what stands on a desk

-- a gate that counts for nothing shows nothing
pub shut_desk : (arrays : List (List ℕ)) (image : Image) (desk : Desk) → is_shut arrays (image desk.slot desk.lba) ≡ true → on_desk arrays image desk ≡ None
shut_desk arrays image desk shut = by (opened (image desk.slot desk.lba)) shut
  where
    by_name : (gate : Gate) (b : Bool) → not b ≡ true → ◌≡◌ {A = Option Staged} (if b then Some (staged_behind image desk gate) else None) None
    by_name gate true e = absurd (cc)
    by_name gate false e = refl

    by : (o : Option Gate) → ◌≡◌ {A = Bool} (elim o [ None ↦ true | Some gate ↦ not (names_one arrays gate) ]) true
        → ◌≡◌ {A = Option Staged} (elim o [ None ↦ None | Some gate ↦ if names_one arrays gate then Some (staged_behind image desk gate) else None ]) None
    by None e = refl
    by (Some gate) e = by_name gate (names_one arrays gate) e

module _ (arrays : List (List ℕ)) (desks : List Desk) (staged : Staged) (is_stage : IsStage staged) (names : names_one arrays staged.gate ≡ true) (image : Image) (payload : IsBehindOpen desks staged image) where
  behind : (k : ℕ) (desk : Desk) → slice_get desks k ≡ Some desk → image desk.slot desk.lba ≡ gate_bytes true staged.gate → staged_behind image desk staged.gate ≡ staged
  unfolding staged_from
  behind k desk at opens =
      let n : 17 ≡ length staged.sectors = sym is_stage.sectors in
      let sectors : sectors_from (image desk.slot) (desk.lba + 1) 17 ≡ staged.sectors =
      ap (sectors_from (image desk.slot) (desk.lba + 1)) n
      ∙ sectors_are (image desk.slot) (desk.lba + 1) staged.sectors (λ i below. payload k i desk at opens (omega (arith, below, is_stage.sectors))) in
      ap (staged_from staged.gate) sectors

  -- an open gate of one of the desks shows what is staged
  pub open_here : (k : ℕ) (desk : Desk) → slice_get desks k ≡ Some desk → image desk.slot desk.lba ≡ gate_bytes true staged.gate → on_desk arrays image desk ≡ Some staged
  open_here k desk at opens =
      ap (λ (sector : List ℕ). elim (opened sector) [ None ↦ None | Some gate ↦ if names_one arrays gate then Some (staged_behind image desk gate) else None ]) opens
      ∙ ap (λ (o : Option Gate). elim o [ None ↦ None | Some gate ↦ if names_one arrays gate then Some (staged_behind image desk gate) else None ]) (opened_open staged.gate is_stage.is_gate)
      ∙ ap (λ (b : Bool). if b then Some (staged_behind image desk staged.gate) else None) names
      ∙ ap Some (behind k desk at opens)

  pub shows : (k : ℕ) (desk : Desk) (other : Staged) → slice_get desks k ≡ Some desk → (image desk.slot desk.lba ≡ gate_bytes true staged.gate) ⊎ (is_shut arrays (image desk.slot desk.lba) ≡ true)
      → on_desk arrays image desk ≡ Some other → other ≡ staged
  shows k desk other at (inl opens) e = some_is (sym e ∙ open_here k desk at opens)
  shows k desk other at (inr shut) e = absurd (none_some (on_desk arrays image desk) other (shut_desk arrays image desk shut) e)

-- ---- the moments

-- what the available cells of an array hold is all that it keeps, where no rows count as rebuilt
pub kept_same : (is_absent : ℕ → ℕ → Bool) (v : Volume) (before image : Image) (allowed : Allowed) → IsVolume v → HasNoRows v → AreSectors image → AreAlike v before image
    → IsKeptData is_absent v before allowed → IsKeptData is_absent v image allowed
kept_same is_absent v before image allowed known none are same kept = kept_alike v known before image same is_absent allowed are (no_rows_kept is_absent v image none) kept

module _ (is_absent : ℕ → ℕ → Bool) (v : Volume) (known : IsVolume v) (none_rows : HasNoRows v) (arrays : List (List ℕ)) (desks here : List Desk) (staged : Staged) (is_stage : IsStage staged) (names : names_one arrays staged.gate ≡ true)
    (cells : List StageCell) (fewer : Staged → List StageCell) (alike : AreAlikeCells v cells (fewer staged)) (off : IsOffDesks v desks) (covered : AreCovered desks cells)
    (before image : Image) (are : AreSectors image) (its : AreItsDesks v arrays desks here image) (moment : IsMoment arrays desks staged cells before image) where
  abbrev over : Image
  over = laid staged cells before

  laid_none : (which : Image) (all : List StageCell) (s l : ℕ) → find (is_at s l) all ≡ None → laid staged all which s l ≡ which s l
  laid_none which all s l e = ap (λ (o : Option StageCell). elim o [ None ↦ which s l | Some cell ↦ sector_of staged cell ]) e

  laid_some : (which : Image) (all : List StageCell) (s l : ℕ) (cell : StageCell) → find (is_at s l) all ≡ Some cell → laid staged all which s l ≡ sector_of staged cell
  laid_some which all s l cell e = ap (λ (o : Option StageCell). elim o [ None ↦ which s l | Some cell ↦ sector_of staged cell ]) e

  -- what isn't a cell is as before
  not_a_cell : (s l : ℕ) → IsCellOf v s l → find (is_at s l) cells ≡ None → image s l ≡ before s l
  not_a_cell s l lies none =
      ⊎_elim (λ same. same)
      (⊎_elim (λ on. absurd (off s l lies on))
      (λ cell.
      let found = some_found s l cells cell.number cell.cell cell.is_cell (sym cell.on_slot) (sym cell.at) in
      absurd (none_some (find (is_at s l) cells) found.0 none found.1)))
      (moment.others s l)

  -- with what is staged laid over, it is the block written whole
  pub over_alike : AreAlike v over (laid staged (fewer staged) image)
  over_alike s l lies = by (find (is_at s l) cells) refl
    where
      by : (o : Option StageCell) → find (is_at s l) cells ≡ o → over s l ≡ laid staged (fewer staged) image s l
      by None e = laid_none before cells s l e ∙ sym (not_a_cell s l lies e) ∙ sym (laid_none image (fewer staged) s l (alike s l lies ∙ e))
      by (Some cell) e = laid_some before cells s l cell e ∙ sym (laid_some image (fewer staged) s l cell (alike s l lies ∙ e))

  -- where all cells are written, it is so without
  new_alike : IsThere (IsCell cells staged) image → AreAlike v over image
  new_alike all s l lies = by (find (is_at s l) cells) refl
    where
      by : (o : Option StageCell) → find (is_at s l) cells ≡ o → over s l ≡ image s l
      by None e = laid_none before cells s l e ∙ sym (not_a_cell s l lies e)
      by (Some cell) e =
          let found = found_at s l cells cell e in
          laid_some before cells s l cell e
          ∙ sym (all s l (sector_of staged cell) (record { number = found.number; cell = cell; is_cell = found.is_cell; on_slot = sym found.on_slot; at = sym found.at; are = refl }))

  -- where none is, it is as before
  old_alike : AllOld desks before image → AreAlike v before image
  old_alike all s l lies = ⊎_elim (λ same. sym same) (λ on. absurd (off s l lies on)) (all s l)

  -- Where each gate stands open, and none of these disks has one, no cell lies on them.
  open_alike : AllOpen desks staged image → first_open arrays image here ≡ None → AreAlike v before image
  open_alike opens none s l lies = by (find (is_at s l) cells) refl
    where
      by : (o : Option StageCell) → find (is_at s l) cells ≡ o → before s l ≡ image s l
      by None e = sym (not_a_cell s l lies e)
      by (Some cell) e =
          let found = found_at s l cells cell e in
          let has = covered found.number cell found.is_cell in
          let mine = its.slots s l lies in
          let same : mine.desk ≡ has.desk = its.same mine.number has.number mine.desk has.desk mine.is_desk has.is_desk (sym mine.on_slot ∙ sym found.on_slot ∙ has.on_slot) in
          let shut = none_at arrays image here none mine.number mine.desk mine.is_desk in
          let stands = open_here arrays desks staged is_stage names image moment.payload has.number has.desk has.is_desk (opens has.number has.desk has.is_desk) in
          absurd (none_some (on_desk arrays image has.desk) staged (ap (on_desk arrays image) (sym same) ∙ shut) stands)

  module _ (allowed : Allowed) (kept : IsKeptData is_absent v before allowed)
      (after : IsKeptData is_absent v over (while_written allowed staged.gate.block (value_of staged ∷ []))) (over_are : AreSectors (laid staged (fewer staged) image)) where
    abbrev while : Allowed
    while = while_written allowed staged.gate.block (value_of staged ∷ [])

    old_kept : AreAlike v before image → IsKeptData is_absent v image while
    old_kept same = kept_more is_absent v image allowed while (λ block bytes may. old_while allowed staged.gate.block (value_of staged ∷ []) block bytes may) (kept_same is_absent v before image allowed known none_rows are same kept)

    plain : first_open arrays image here ≡ None → IsKeptData is_absent v image while
    plain none =
        ⊎_elim (λ old. old_kept (old_alike old.0))
        (⊎_elim (λ opens. old_kept (open_alike opens none)) (λ new. kept_same is_absent v over image while known none_rows are (new_alike new) after))
        moment.phase

    shown : (other : Staged) → first_open arrays image here ≡ Some other → other ≡ staged
    shown other e =
        let there = open_at arrays image here other e in
        ⊎_elim
        (λ mine. shows arrays desks staged is_stage names image moment.payload mine.0 there.desk other mine.1 (moment.gates mine.0 there.desk mine.1) there.stands)
        (λ shut. absurd (none_some (on_desk arrays image there.desk) other shut there.stands))
        (its.each there.number there.desk there.is_desk)

    by_first : (o : Option Staged) → first_open arrays image here ≡ o
        → IsKeptData is_absent v (elim o [ None ↦ image | Some other ↦ laid other (fewer other) image ]) while
    by_first None e = plain e
    by_first (Some other) e =
        subst (λ (st : Staged). IsKeptData is_absent v (laid st (fewer st) image) while) (sym (shown other e))
        (kept_same is_absent v over (laid staged (fewer staged) image) while known none_rows over_are over_alike after)

    pub kept_through : IsKeptData is_absent v (through here arrays fewer image) while
    kept_through = by_first (first_open arrays image here) refl

-- ---- before the gates

-- Before any gate is opened nothing is laid over, and no cell is another.
module _ (is_absent : ℕ → ℕ → Bool) (v : Volume) (known : IsVolume v) (none_rows : HasNoRows v) (arrays : List (List ℕ)) (desks here : List Desk) (staged : Staged) (is_stage : IsStage staged) (fewer : Staged → List StageCell)
    (off : IsOffDesks v desks) (before image : Image) (are : AreSectors image) (its : AreItsDesks v arrays desks here image) (early : IsBeforeGates arrays desks staged before image)
    (allowed : Allowed) (kept : IsKeptData is_absent v before allowed) where
  none_open : (other : Staged) → first_open arrays image here ≡ Some other → ⊥
  none_open other e =
      let there = open_at arrays image here other e in
      ⊎_elim
      (λ mine. none_some (on_desk arrays image there.desk) other (shut_desk arrays image there.desk (early.gates mine.0 there.desk mine.1)) there.stands)
      (λ shut. none_some (on_desk arrays image there.desk) other shut there.stands)
      (its.each there.number there.desk there.is_desk)

  as_before : AreAlike v before image
  as_before s l lies =
      ⊎_elim (λ same. sym same)
      (λ payload.
      absurd (off s l lies (record {
        number = payload.number;
        desk = payload.desk;
        is_desk = payload.is_desk;
        on_slot = payload.on_slot;
        from = omega (arith, payload.in_run.from);
        below = omega (arith, payload.in_run.below, is_stage.sectors);
      })))
      (early.others s l)

  early_by : (o : Option Staged) → first_open arrays image here ≡ o → IsKeptData is_absent v (elim o [ None ↦ image | Some other ↦ laid other (fewer other) image ]) allowed
  early_by None e = kept_same is_absent v before image allowed known none_rows are as_before kept
  early_by (Some other) e = absurd (none_open other e)

  pub kept_early : IsKeptData is_absent v (through here arrays fewer image) allowed
  kept_early = early_by (first_open arrays image here) refl

-- ---- what is laid over has whole sectors

pub laid_sectors : (staged : Staged) → IsStage staged → (cells : List StageCell) → HaveSectors cells → (image : Image) → AreSectors image → AreSectors (laid staged cells image)
laid_sectors staged is_stage cells have image are s l = by (find (is_at s l) cells) refl
  where
    by : (o : Option StageCell) → find (is_at s l) cells ≡ o → length {A = ℕ} (elim o [ None ↦ image s l | Some cell ↦ sector_of staged cell ]) ≡ 512
    by None e = are s l
    by (Some cell) e = let found = found_at s l cells cell e in is_stage.whole cell.from (have found.number cell found.is_cell)

-- ---- the whole law

module _ (is_absent lost_absent : ℕ → ℕ → Bool) (v lost : Volume) (desks here : List Desk) (arrays : List (List ℕ)) (staged : Staged) (cells : List StageCell) (fewer : Staged → List StageCell) (before image : Image) (allowed : Allowed) where
  pub every_moment : IsVolume v → IsApart v → v.marked ≡ false → is_within v ≡ true → HasNoRows v → IsKeptData is_absent v before allowed
      → IsStage staged → names_one arrays staged.gate ≡ true → AreCellsOf v staged cells → IsRight v staged before
      → IsVolume lost → HasNoRows lost → IsFewer v lost → LeavesParity is_absent lost_absent v lost → LeavesRows v lost
      → AreAlikeCells lost cells (fewer staged) → HaveSectors cells → HaveSectors (fewer staged) → IsOffDesks lost desks → AreCovered desks cells → AreItsDesks lost arrays desks here image
      → AreSectors image → IsMoment arrays desks staged cells before image
      → IsKeptData lost_absent lost (through here arrays fewer image) (while_written allowed staged.gate.block (value_of staged ∷ []))
  every_moment known apart unmarked within none kept is_stage names are right lost_known lost_rows is_fewer parity rows alike have have_fewer off covered its are_image moment =
      let zeroth : 0 < 17 = omega arith in
      let over_are = laid_sectors staged is_stage cells have before kept.sound.are_sectors in
      let after = whole.kept_while is_absent v known apart unmarked within none staged.gate.block (value_of staged) (is_stage.whole 0 zeroth) before (laid staged cells before) over_are allowed kept
      (laid_is_staged v known apart staged cells are before right) in
      kept_through lost_absent lost lost_known lost_rows arrays desks here staged is_stage names cells fewer alike off covered before image are_image its moment
      allowed (kept_less is_absent lost_absent v lost before allowed lost_known is_fewer parity rows kept)
      (kept_less is_absent lost_absent v lost (laid staged cells before) (while_written allowed staged.gate.block (value_of staged ∷ [])) lost_known is_fewer parity rows after)
      (laid_sectors staged is_stage (fewer staged) have_fewer image are_image)
