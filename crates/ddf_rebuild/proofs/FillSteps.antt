-- An extent that is filled aside, by its sectors.
use Rattle.std.proofs.Common.{◌≡◌, ◌∙◌, ℕ, ◌+◌, ◌-◌, Some, sym, ap, subst, arith, slice_get}
use Rattle.std.proofs.lemmas.Option.{same_Some}
use Rattle.ddf_bay.specs.State.{BayState}
use Rattle.ddf_bay.specs.Moments.{StopsLeave}
use Rattle.ddf_bay.specs.Sectors.{Image, Outcomes}
use Rattle.ddf_primary.specs.Cells.{depth_of}
use Rattle.ddf_array.specs.declared.part.Part.{Part}
use Rattle.ddf_array.specs.Volume.{Volume}
use Rattle.ddf_read.specs.Reading.{NoneLeft}
use Rattle.ddf_cells.specs.CellSources.{cell_sources, needed_positions, wanted}
use Rattle.ddf_cells.specs.GivenCells.{IsWantedGiven}
use Rattle.ddf_cells.specs.Writing.{AddsBut, AsksFor, IsAmongSectors, IsLeftBut, StaysBut}
use Rattle.ddf_cells.proofs.Writes.{adds_wider, asks_start, asks_then, stays_wider, stops_wider}
use Rattle.ddf_rebuild.specs.declared.aim.Aim.{Aim}
use Rattle.ddf_rebuild.specs.Filling.{HoldsGiven, HoldsWanted, IsFilled, NoneLeftOf}
use Rattle.ddf_rebuild.specs.Sectors.{AreGiven, AreRebuilt, NoneLeftIn}

module _ (v : Volume) (e p element position slot start end : ℕ) (element_is : e ≡ element) (position_is : p ≡ position) (own : Part) (own_at : slice_get v.parts element ≡ Some own) (end_is : end ≡ depth_of own.shape) where
  abbrev aim : Aim
  aim = record { element = e; position = p; slot = slot; start = start }

  abbrev Among : ℕ → ℕ → Type 0
  Among = IsAmongSectors slot (start + 0) (end - 0)

  deep : (part : Part) → slice_get v.parts element ≡ Some part → end ≡ depth_of part.shape
  deep part part_at = end_is ∙ ap (λ (p : Part). depth_of p.shape) (same_Some own part (sym own_at ∙ part_at))

  filled : (s l : ℕ) → Among s l → IsFilled v element slot start s l
  filled s l is = record {
    part = own;
    is_part = own_at;
    among = record { on_slot = is.on_slot; from = omega (arith, is.from); below = omega (arith, is.below, end_is) };
  }

  -- what calls on these sectors leave, they leave where the extent is filled
  pub fill_moments : {D : Type 0} {a b : BayState D} (may : Outcomes) → StopsLeave a b (IsLeftBut Among may) → StopsLeave a b (IsLeftBut (IsFilled v element slot start) may)
  fill_moments may moments = stops_wider Among (IsFilled v element slot start) filled may moments

  pub fill_add : (a b : Outcomes) → AddsBut Among a b → AddsBut (IsFilled v element slot start) a b
  fill_add a b adds = adds_wider Among (IsFilled v element slot start) filled a b adds

  pub fill_stay : (a b : Image) → StaysBut Among a b → StaysBut (IsFilled v element slot start) a b
  fill_stay a b stays = stays_wider Among (IsFilled v element slot start) filled a b stays

  pub fill_all : (before now image : Image) → AreRebuilt v aim 0 end before now → ((l : ℕ) → image slot l ≡ now slot l) → HoldsWanted v element position slot start before image
  fill_all before now image all same part sector part_at below =
      same (start + sector) ∙ all part (ap (slice_get v.parts) element_is ∙ part_at) sector (omega arith) (omega (arith, below, deep part part_at))
      ∙ ap (λ n. wanted v before n part sector p) element_is ∙ ap (wanted v before element part sector) position_is

  pub fill_given : (failed : ℕ → Type 0) (before now : Image) → AreGiven failed v aim 0 end before now → HoldsGiven failed v element position slot start before now
  fill_given failed before now all part sector part_at below =
      subst (λ n. IsWantedGiven failed v before element part sector n (now slot (start + sector))) position_is
      (subst (λ n. IsWantedGiven failed v before n part sector p (now slot (start + sector))) element_is
      (all part (ap (slice_get v.parts) element_is ∙ part_at) sector (omega arith) (omega (arith, below, deep part part_at))))

  left_at : {failed : ℕ → Type 0} {at : ℕ} (left : NoneLeftIn failed v aim 0 end at) → slice_get v.parts element ≡ Some left.part
  left_at left = ap (slice_get v.parts) (sym element_is) ∙ left.is_part

  pub fill_left : (failed : ℕ → Type 0) (at : ℕ) → NoneLeftIn failed v aim 0 end at → NoneLeftOf failed v element position at
  fill_left failed at left = record {
    part = left.part;
    is_part = left_at left;
    sector = left.sector;
    below = omega (arith, left.is_below, deep left.part (left_at left));
    number = left.number;
    other = left.other;
    is_needed = ap (λ n. slice_get (needed_positions left.part left.sector n) left.number) (sym position_is) ∙ left.is_needed;
    none_left = subst (λ n. NoneLeft failed (cell_sources v n left.part left.sector left.other) at) element_is left.none_left;
  }

  pub fill_ask : {D : Type 0} {a b : BayState D} (part : Part) → slice_get v.parts element ≡ Some part → AsksFor a b (end - 0) → AsksFor a b (depth_of part.shape)
  fill_ask {a = a} part part_at asks = asks_then (depth_of part.shape) (omega (arith, deep part part_at)) (asks_start a) asks
