-- The target's sectors, piece by piece.
use Rattle.std.proofs.Common.{◌≡◌, ◌∙◌, inl, inr, ⊎_elim, ℕ, ◌+◌, ◌-◌, ◌<◌, ◌≤◌, List, Some, sym, subst, arith, slice_get}
use Rattle.std.proofs.lemmas.Bool.{cases_lt}
use Rattle.ddf_bytes.specs.Counts.{Rose}
use Rattle.ddf_bay.specs.Sectors.{Image}
use Rattle.ddf_bay.specs.State.{BayState}
use Rattle.ddf_bay.proofs.Steps.{rose_since, rose_then}
use Rattle.ddf_primary.specs.Cells.{depth_of}
use Rattle.ddf_array.specs.declared.part.Part.{Part}
use Rattle.ddf_array.specs.Sound.{AreSectors}
use Rattle.ddf_array.specs.Volume.{IsVolume, Volume}
use Rattle.ddf_read.specs.Reading.{Failed}
use Rattle.ddf_read.proofs.Tries.{NotRead-wider, Within}
use Rattle.ddf_cells.specs.Alike.{AreAlike}
use Rattle.ddf_cells.specs.CellSources.{IsSure, NoneLeftFor, cell_sources, wanted}
use Rattle.ddf_cells.specs.GivenCells.{IsWantedGiven}
use Rattle.ddf_cells.specs.Writing.{AsksFor, IsAmongSectors, StaysBut}
use Rattle.ddf_cells.proofs.Alike.{copy_is_cell, depth_below, redundant_same, wanted_same}
use Rattle.ddf_cells.proofs.GivenSteps.{wanted_given_same, wanted_wider}
use Rattle.ddf_rebuild.specs.declared.aim.Aim.{Aim}
use Rattle.ddf_rebuild.specs.Sectors.{AreGiven, AreRebuilt, NoneLeftIn}

-- ---- counts that rise

module _ {D : Type 0} {a b c : BayState D} {n m : ℕ} (one : AsksFor a b n) (next : AsksFor b c m) where
  pub failed_later : Within (Failed b c) (Failed a c)
  failed_later slot rose = rose_since (a.failed_reads slot) (b.failed_reads slot) (c.failed_reads slot) (one.reads_rise slot) rose

  pub failed_earlier : Within (Failed a b) (Failed a c)
  failed_earlier slot rose = rose_then (a.failed_reads slot) (b.failed_reads slot) (c.failed_reads slot) (one.reads_rise slot) rose (next.reads_rise slot)

  pub written_later : (slot : ℕ) → Rose (b.failed_writes slot) (c.failed_writes slot) → Rose (a.failed_writes slot) (c.failed_writes slot)
  written_later slot rose = rose_since (a.failed_writes slot) (b.failed_writes slot) (c.failed_writes slot) (one.writes_rise slot) rose

  pub sure_earlier : (v : Volume) → IsSure v a c → IsSure v a b
  sure_earlier v (inl none) = inl (λ slot on rose. none slot on (failed_earlier slot rose))
  sure_earlier v (inr is) = inr is

  pub sure_later : (v : Volume) → IsVolume v → AreAlike v a.held b.held → (AreSectors a.held → AreSectors b.held) → IsSure v a c → IsSure v b c
  sure_later v known alike whole (inl none) = inl (λ slot on rose. none slot on (failed_later slot rose))
  sure_later v known alike whole (inr (inl is)) = inr (inl (whole is.0, redundant_same v known a.held b.held alike is.1))
  sure_later v known alike whole (inr (inr is)) =
      inr (inr (
        is.0,
        λ block j k one other at at'.
            sym (alike one.slot one.lba (copy_is_cell v known block j one at)) ∙ is.1 block j k one other at at' ∙ alike other.slot other.lba (copy_is_cell v known block k other at'),
      ))

-- calls behind them of which no read failed
pub failed_still : {D : Type 0} (a b c : BayState D) → c.failed_reads ≡ b.failed_reads → Within (Failed a b) (Failed a c)
failed_still a b c same slot rose = subst (λ (counts : ℕ → ℕ). Rose (a.failed_reads slot) (counts slot)) (sym same) rose

-- ---- one piece more

module _ (v : Volume) (known : IsVolume v) (aim : Aim) where
  pub rebuilt_more : (from sector count : ℕ) (before now new : Image) → AreAlike v before now
      → ((part : Part) → slice_get v.parts aim.element ≡ Some part → sector + count ≤ depth_of part.shape)
      → StaysBut (IsAmongSectors aim.slot (aim.start + sector) count) now new
      → AreRebuilt v aim from sector before now
      → ((part : Part) → slice_get v.parts aim.element ≡ Some part → (k : ℕ) → k < count → new aim.slot (aim.start + (sector + k)) ≡ wanted v now aim.element part (sector + k) aim.position)
      → AreRebuilt v aim from (sector + count) before new
  rebuilt_more from sector count before now new alike deep stays so_far here part part_at s from_is below =
      ⊎_elim
      (λ (earlier : s < sector).
      ⊎_elim (λ same. same ∙ so_far part part_at s from_is earlier)
      (λ (among : IsAmongSectors aim.slot (aim.start + sector) count aim.slot (aim.start + s)). absurd (omega (arith, among.from, earlier)))
      (stays aim.slot (aim.start + s)))
      (λ (later : sector ≤ s).
      let same : sector + (s - sector) ≡ s = omega arith in
      let inside : s < depth_of part.shape = omega (arith, deep part part_at, below) in
      subst (λ n. new aim.slot (aim.start + n) ≡ wanted v now aim.element part n aim.position) same (here part part_at (s - sector) (omega arith))
      ∙ sym (wanted_same v known before now alike aim.element part part_at s aim.position (depth_below v known part s inside)))
      (cases_lt s sector)

  pub given_more : {P Q R : ℕ → Type 0} → Within P R → Within Q R → (from sector count : ℕ) (before now new : Image) → AreAlike v before now
      → ((part : Part) → slice_get v.parts aim.element ≡ Some part → sector + count ≤ depth_of part.shape)
      → StaysBut (IsAmongSectors aim.slot (aim.start + sector) count) now new
      → AreGiven P v aim from sector before now
      → ((part : Part) → slice_get v.parts aim.element ≡ Some part → (k : ℕ) → k < count → IsWantedGiven Q v now aim.element part (sector + k) aim.position (new aim.slot (aim.start + (sector + k))))
      → AreGiven R v aim from (sector + count) before new
  given_more {Q = Q} {R = R} first last from sector count before now new alike deep stays so_far here part part_at s from_is below =
      ⊎_elim
      (λ (earlier : s < sector).
      ⊎_elim
      (λ same.
      subst (λ (bytes : List ℕ). IsWantedGiven R v before aim.element part s aim.position bytes) (sym same)
      (wanted_wider first v before aim.element part s aim.position (now aim.slot (aim.start + s)) (so_far part part_at s from_is earlier)))
      (λ (among : IsAmongSectors aim.slot (aim.start + sector) count aim.slot (aim.start + s)). absurd (omega (arith, among.from, earlier)))
      (stays aim.slot (aim.start + s)))
      (λ (later : sector ≤ s).
      let same : sector + (s - sector) ≡ s = omega arith in
      let inside : s < depth_of part.shape = omega (arith, deep part part_at, below) in
      wanted_given_same R v known now before (λ slot lba is. sym (alike slot lba is)) aim.element part part_at s (depth_below v known part s inside) aim.position (new aim.slot (aim.start + s))
      (wanted_wider last v now aim.element part s aim.position (new aim.slot (aim.start + s))
      (subst (λ n. IsWantedGiven Q v now aim.element part n aim.position (new aim.slot (aim.start + n))) same (here part part_at (s - sector) (omega arith)))))
      (cases_lt s sector)

-- sectors of a piece are sectors of the whole
pub among_wider : (slot start from end sector count : ℕ) → from ≤ sector → sector + count ≤ end → (s l : ℕ) → IsAmongSectors slot (start + sector) count s l → IsAmongSectors slot (start + from) (end - from) s l
among_wider slot start from end sector count le inside s l is = record { on_slot = is.on_slot; from = omega (arith, is.from, le); below = omega (arith, is.below, inside, le) }

pub left_in : {P Q : ℕ → Type 0} → Within P Q → (v : Volume) (aim : Aim) (part : Part) → slice_get v.parts aim.element ≡ Some part → (from end sector count slot : ℕ) → from ≤ sector → sector + count ≤ end
    → NoneLeftFor P v aim.element part sector count aim.position slot → NoneLeftIn Q v aim from end slot
left_in within v aim part part_at from end sector count slot le inside left = record {
  part = part;
  is_part = part_at;
  sector = sector + left.cell;
  is_from = omega (arith, le);
  is_below = omega (arith, left.is_in, inside);
  number = left.number;
  other = left.other;
  is_needed = left.is_needed;
  none_left = NotRead-wider within (cell_sources v aim.element part (sector + left.cell) left.other) (Some slot) left.none_left;
}
