-- Rounds of a rebuild, one after another: where the array was redundant its rows hold what they should behind them, whichever reads failed, and only sectors of the
-- position at these rows are others.
use Rattle.std.proofs.Common.{◌≡◌, ◌∙◌, ◌⊎◌, inl, inr, ⊎_elim, ℕ, zero, suc, ◌+◌, ◌*◌, ◌<◌, ◌≤◌, List, [], ◌∷◌, min, take, Some, refl, sym, ap, subst, arith}
use Rattle.std.proofs.Math.Nat.{mul-le-mul_right}
use Rattle.std.proofs.lemmas.Bool.{cases_lt}
use Rattle.std.specs.Prelude.{slice_get}
use Rattle.std.specs.List.{AllByRecursion}
use Rattle.ddf_bay.specs.Sectors.{Image}
use Rattle.ddf_primary.specs.Cells.{height_of}
use Rattle.ddf_array.specs.Apart.{IsApart}
use Rattle.ddf_array.specs.Redundant.{IsRedundant}
use Rattle.ddf_array.specs.Volume.{IsVolume, Volume}
use Rattle.ddf_array.specs.declared.part.Part.{Part}
use Rattle.ddf_array.specs.declared.place.Place.{Place}
use Rattle.ddf_cells.specs.Apart.{LiesAt}
use Rattle.ddf_cells.specs.Writing.{StaysBut}
use Rattle.ddf_cells.proofs.Alike.{depth_below, redundant_same, wanted_same}
use Rattle.ddf_data_array.specs.Rows.{AreAlikeThroughout}
use Rattle.ddf_data_array.proofs.RowsKept.{alike_cells, rows_go_on}
use Rattle.ddf_data_group.specs.Clear.{IsItsCell}
use Rattle.ddf_rebuild.specs.Rebuilding.{HasRebuilt}
use Rattle.ddf_rebuild.specs.Target.{IsTarget, IsTargetCell}
use Rattle.ddf_rebuild.proofs.Aiming.{same_target}
use Rattle.ddf_rebuild.proofs.Kept.{alike_rebuilding}
use Rattle.ddf_repair.specs.declared.first.Target.{Target}
use Rattle.ddf_rebuild.proofs.Common.{fewer_rows}
use Rattle.ddf_group_commands.specs.Written.{AreWritten}
use Rattle.ddf_rebuild_command.specs.Rounds.{AreRounds, IsFilled, Round, row_before}

-- ---- rows

-- sectors at more rows
pub wider_cell : (v : Volume) (element position from to first last slot lba : ℕ) → first ≤ from → to ≤ last → IsTargetCell v element position from to slot lba → IsTargetCell v element position first last slot lba
wider_cell v element position from to first last slot lba low high cell =
    let strip = height_of cell.part.shape in
    let from_is = cell.in_rows.from_is in
    let to_is = cell.in_rows.to_is in
    let down : first * strip ≤ from * strip = mul-le-mul_right strip low in
    let up : to * strip ≤ last * strip = mul-le-mul_right strip high in
    record {
      part = cell.part;
      place = cell.place;
      is_target = cell.is_target;
      sector = cell.sector;
      in_rows = record { from_is = omega (arith, from_is, down); to_is = omega (arith, to_is, up); below = cell.in_rows.below };
      lba_is = cell.lba_is;
    }

-- Where it fills from the rows on that are kept, kept rows past the last count as all: it writes none behind these.
pub kept_cell : (v : Volume) (element position kept all slot lba : ℕ) → IsTargetCell v element position (min kept all) all slot lba → IsTargetCell v element position kept all slot lba
kept_cell v element position kept all slot lba cell = ⊎_elim
    (λ (few : kept < all). wider_cell v element position (min kept all) all kept all slot lba (omega (arith, few)) (omega arith) cell)
    (λ (many : all ≤ kept).
    let strip = height_of cell.part.shape in
    let from_is = cell.in_rows.from_is in
    let to_is = cell.in_rows.to_is in
    let same : min kept all ≡ all = omega (arith, many) in
    let down : all * strip ≤ min kept all * strip = mul-le-mul_right strip (omega (arith, same)) in
    absurd (omega (arith, from_is, to_is, down)))
    (cases_lt kept all)

module _ (failed : ℕ → Type 0) (told : Type 0) (tell : told) (sizes : List ℕ) (v : Volume) (known : IsVolume v) (apart : IsApart v) (target : Target)
    (floor : ℕ → ℕ) (low : (s l : ℕ) → IsItsCell v s l → l < floor s) where
  abbrev e : ℕ
  e = target.element

  abbrev p : ℕ
  p = target.position

  -- the steps of these rounds write nothing below the floors
  abbrev pub WriteHigh : List Round → Type 0
  WriteHigh rounds = AllByRecursion (λ round. (one other : Image) → AreWritten sizes one (round.step ∷ []) other → (s l : ℕ) → l < floor s → other s l ≡ one s l) rounds

  pub below_alike : (one other : Image) → ((s l : ℕ) → l < floor s → other s l ≡ one s l) → AreAlikeThroughout v one other
  below_alike one other same element position sector slot lba lies = sym (same slot lba (low slot lba (record { element = element; position = position; sector = sector; lies = lies })))

  -- ---- what the rows hold

  -- so many rows of the position hold what they should, in an image in which the array is redundant
  pub record AreSet (row : ℕ) (image : Image) : Type 0 where
    pub redundant : IsRedundant v image
    pub rows : HasRebuilt v target.element target.position 0 row image image

  pub set_fewer : (few many : ℕ) (image : Image) → few ≤ many → AreSet many image → AreSet few image
  set_fewer few many image le set = record { redundant = set.redundant; rows = fewer_rows v e p few many image le set.rows }

  -- They do in each image that has the same of the array.
  pub set_same : (row : ℕ) (one other : Image) → AreAlikeThroughout v one other → AreSet row one → AreSet row other
  set_same row one other same set = record {
    redundant = redundant_same v known one other (alike_cells v one other same) set.redundant;
    rows = λ part place slot sector target rows.
        let lies : LiesAt v e p sector slot (place.start + sector) = record {
          part = part;
          place = place;
          is_part = target.is_part;
          is_place = target.is_place;
          below = depth_below v known part sector rows.below;
          is_there = target.is_there;
          lba_is = refl;
        } in
        sym (same e p sector slot (place.start + sector) lies) ∙ set.rows part place slot sector target rows
        ∙ wanted_same v known one other (alike_cells v one other same) e part target.is_part sector p (depth_below v known part sector rows.below);
  }

  -- Behind a round's rows these do too, since what was read is sure.
  pub set_filled : (from to : ℕ) (before filled : Image) → IsFilled failed told v target from to before filled → AreSet from before → AreSet to filled
  set_filled from to before filled is set = record {
    redundant = redundant_same v known before filled (alike_rebuilding v e p from to before filled apart is.stays) set.redundant;
    rows = rows_go_on v known apart e p from to before filled is.stays set.rows (is.rebuilt (inr (is.are_sectors tell, set.redundant)));
  }

  -- an earlier row isn't written
  not_written : (from to : ℕ) (part : Part) (place : Place) (slot sector : ℕ) → IsTarget v e p part place slot → sector < from * height_of part.shape → IsTargetCell v e p from to slot (place.start + sector) → ⊥
  not_written from to part place slot sector target earlier cell =
      let looked = same_target v e p cell.part part cell.place place cell.is_target.is_part target.is_part cell.is_target.is_place target.is_place in
      let sector_is : sector ≡ cell.sector = let at : place.start + sector ≡ place.start + cell.sector = cell.lba_is ∙ ap (λ (x : Place). x.start + cell.sector) looked.1 in omega (arith, at) in
      let up : from * height_of part.shape ≤ cell.sector = subst (λ (x : Part). from * height_of x.shape ≤ cell.sector) looked.0 cell.in_rows.from_is in
      omega (arith, up, earlier, sector_is)

  -- While a round's rows are written those before them stay so.
  pub set_amid : (from to : ℕ) (before image : Image) → StaysBut (IsTargetCell v target.element target.position from to) before image → AreSet from before → AreSet from image
  set_amid from to before image stays set =
      let alike = alike_rebuilding v e p from to before image apart stays in
      record {
        redundant = redundant_same v known before image alike set.redundant;
        rows = λ part place slot sector target rows.
            ⊎_elim (λ same. same) (λ cell. absurd (not_written from to part place slot sector target rows.to_is cell)) (stays slot (place.start + sector))
            ∙ set.rows part place slot sector target rows
            ∙ wanted_same v known before image alike e part target.is_part sector p (depth_below v known part sector rows.below);
      }

  pub rows_set : (rounds : List Round) → WriteHigh rounds → (number from : ℕ) (before after : Image) → AreRounds failed told sizes v target from before (take number rounds) after → AreSet from before
      → AreSet (row_before from rounds number) after
  rows_set rounds high zero from before after done set = set_same from before after (below_alike before after (λ s l below. done s l)) set
  rows_set [] high (suc number) from before after done set = set_same from before after (below_alike before after (λ s l below. done s l)) set
  rows_set (round ∷ rounds) high (suc number) from before after done set =
      rows_set rounds high.1 number round.row done.2 after done.4
      (set_same round.row done.0 done.2 (below_alike done.0 done.2 (high.0 done.0 done.2 done.3)) (set_filled from round.row before done.0 done.1 set))

  -- ---- what was written

  -- below the floors only the position's sectors at these rows are others
  abbrev pub Reaches : (first top : ℕ) → (one other : Image) → Type 0
  Reaches first top one other = (s l : ℕ) → l < floor s → (other s l ≡ one s l) ⊎ IsTargetCell v target.element target.position first top s l

  -- the rounds fill rows between these
  abbrev pub AreBetween : (first top : ℕ) → List Round → Type 0
  AreBetween first top rounds = AllByRecursion (λ round. (first ≤ round.row) × (round.row ≤ top)) rounds

  pub between_at : (first top : ℕ) (rounds : List Round) → AreBetween first top rounds → (number : ℕ) (round : Round) → slice_get rounds number ≡ Some round → (first ≤ round.row) × (round.row ≤ top)
  between_at first top [] are number round at = absurd cc
  between_at first top (one ∷ rounds) are zero round at = let same : one ≡ round = cc in subst (λ (each : Round). (first ≤ each.row) × (each.row ≤ top)) same are.0
  between_at first top (one ∷ rounds) are (suc number) round at = between_at first top rounds are.1 number round at

  pub before_between : (first top : ℕ) (rounds : List Round) → AreBetween first top rounds → (number from : ℕ) → first ≤ from → first ≤ row_before from rounds number
  before_between first top rounds are zero from up = up
  before_between first top [] are (suc number) from up = up
  before_between first top (round ∷ rounds) are (suc number) from up = before_between first top rounds are.1 number round.row are.0.0

  pub reach_filled : (first top from to : ℕ) (one before filled : Image) → first ≤ from → to ≤ top → StaysBut (IsTargetCell v target.element target.position from to) before filled → Reaches first top one before
      → Reaches first top one filled
  reach_filled first top from to one before filled up down stays reaches s l below = ⊎_elim
      (λ same. ⊎_elim (λ early. inl (same ∙ early)) inr (reaches s l below))
      (λ cell. inr (wider_cell v e p from to first top s l up down cell))
      (stays s l)

  pub rows_reach : (first top : ℕ) (rounds : List Round) → WriteHigh rounds → AreBetween first top rounds → (number from : ℕ) → first ≤ from → (one before after : Image)
      → AreRounds failed told sizes v target from before (take number rounds) after → Reaches first top one before → Reaches first top one after
  rows_reach first top rounds high are zero from up one before after done reaches s l below = ⊎_elim (λ early. inl (done s l ∙ early)) inr (reaches s l below)
  rows_reach first top [] high are (suc number) from up one before after done reaches s l below = ⊎_elim (λ early. inl (done s l ∙ early)) inr (reaches s l below)
  rows_reach first top (round ∷ rounds) high are (suc number) from up one before after done reaches s l below =
      rows_reach first top rounds high.1 are.1 number round.row are.0.0 one done.2 after done.4
      (λ s k under. ⊎_elim (λ early. inl (high.0 done.0 done.2 done.3 s k under ∙ early)) (λ cell. inr cell)
      (reach_filled first top from round.row one before done.0 up are.0.1 (done.1).stays reaches s k under)) s l below
