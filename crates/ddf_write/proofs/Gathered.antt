-- What a look keeps, read by read.
use Rattle.std.proofs.Common.{◌≡◌, ◌∙◌, ◌⊎◌, inl, inr, ⊎_elim, ℕ, ◌+◌, ◌-◌, ◌/◌, ◌<◌, ◌≤◌, Bool, true, false, List, [], Some, refl, sym, ap, subst, arith, length, slice_get}
use Rattle.std.specs.Prelude.{◌&&◌, ◌==◌, not, slice_index_or}
use Rattle.std.proofs.lemmas.Bool.{and_parts, cases_lt, eqb-true}
use Rattle.ddf_bay.specs.Sectors.{Image}
use Rattle.ddf_bay.specs.State.{BayState}
use Rattle.ddf_primary.specs.Cells.{depth_of}
use Rattle.ddf_primary.specs.declared.cell.Cell.{Cell}
use Rattle.ddf_primary.proofs.Needs.{parity_below, some_parity}
use Rattle.ddf_array.specs.declared.part.Part.{Part}
use Rattle.ddf_array.specs.declared.site.Site.{Site}
use Rattle.ddf_array.specs.Levels.{keeps_parity}
use Rattle.ddf_array.specs.Rows.{block_at}
use Rattle.ddf_array.specs.Sources.{Source}
use Rattle.ddf_array.specs.Volume.{IsVolume, Volume, volume}
use Rattle.ddf_read.specs.Reading.{Failed, NoneLeft, OnlyReads}
use Rattle.ddf_read.proofs.OnlyReading.{failed_before, failed_behind, only_reads_start, only_reads_then}
use Rattle.ddf_read.proofs.Tries.{NotRead-wider, Within}
use Rattle.ddf_cells.specs.CellSources.{NoneLeftAmong, cell_sources}
use Rattle.ddf_cells.specs.Degraded.{is_degraded}
use Rattle.ddf_cells.specs.GivenCells.{AreCellsGiven, IsCellGiven}
use Rattle.ddf_cells.specs.RowSums.{HoldsParityAlong}
use Rattle.ddf_cells.proofs.CopiesOn.{block_at_sits}
use Rattle.ddf_cells.proofs.FirstSlots.{cell_first_on}
use Rattle.ddf_cells.proofs.Alike.{depth_below}
use Rattle.ddf_cells.proofs.GivenSteps.{cell_wider}
use Rattle.ddf_cells.proofs.OnCells.{sector_below}
use Rattle.ddf_cells.proofs.Whole.{whole_site}
use Rattle.ddf_read.specs.Reading.{IsOn}
use Rattle.ddf_write.specs.declared.looking.Missed.{Missed}
use Rattle.ddf_write.specs.declared.looking.Missed.TheVariants.{Disk, Memory, Split}
use Rattle.ddf_write.specs.declared.looking.Piece.{Piece}
use Rattle.ddf_write.specs.Beside.{HoldsNone, NoneLeftBeside, sources_beside}
use Rattle.ddf_write.specs.Gathering.{AreKnownAlong, Gathers, Grows, IsInRange, IsKnownAt, IsMissed, IsOfRun, KeepsRun, MayKeep, NoneLeftOfOthers, RowIsKnown}
use Rattle.ddf_write.specs.Keeping.{AllAreKept, Keeping, KeepsOne, is_cell, kept_of}
use Rattle.ddf_write.specs.RowWrites.{AllRows, AreTouched}
use Rattle.ddf_write.specs.Writing.{IsTouched}
use Rattle.ddf_write.proofs.RowReads.{data_cell}

some_is : {X : Type 0} {a b : X} → Some a ≡ Some b → a ≡ b
some_is e = cc

-- ---- what is kept grows

pub grows_start : (kept : Keeping) → Grows kept kept
grows_start kept element position sector bytes is = (bytes, is)

pub grows_then : (first mid last : Keeping) → Grows first mid → Grows mid last → Grows first last
grows_then first mid last one next element position sector bytes is =
    let between = one element position sector bytes is in
    next element position sector between.0 between.1

module _ (v : Volume) (start count : ℕ) (before after : Keeping) (grows : Grows before after) where
  pub known_grows : (element position sector : ℕ) → IsKnownAt v start count before element position sector → IsKnownAt v start count after element position sector
  known_grows element position sector known = ⊎_elim inl (λ kept. inr (grows element position sector kept.0 kept.1)) known

  pub row_grows : (element sector : ℕ) (part : Part) (one : Site) → RowIsKnown v start count before element sector part one → RowIsKnown v start count after element sector part one
  row_grows element sector part one known position below other = known_grows element position sector (known position below other)

  pub all_grows : AllAreKept v start count before → AllAreKept v start count after
  all_grows all element part position sector beside = let kept = all element part position sector beside in grows element position sector kept.0 kept.1

-- ---- one cell more of a run

module _ (element position sector at : ℕ) (cells : List (List ℕ)) (before mid after : Keeping) (run : KeepsRun before mid element position sector cells at) (one : KeepsOne mid after element position (sector + at) (slice_index_or cells at [])) where
  abbrev this : (e p s : ℕ) → Bool
  this e p s = is_cell element position (sector + at) (record { element = e; position = p; sector = s })

  here : (e p s : ℕ) → this e p s ≡ true → (element ≡ e) × (position ≡ p) × (sector + at ≡ s)
  here e p s is =
      let both = and_parts (element == e) (position == p && sector + at == s) is in
      let pair = and_parts (position == p) (sector + at == s) both.1 in
      (eqb-true element e both.0, eqb-true position p pair.0, eqb-true (sector + at) s pair.1)

  bytes_here : (e p s : ℕ) → this e p s ≡ true → kept_of after e p s ≡ Some (slice_index_or cells at [])
  bytes_here e p s is =
      let same = here e p s is in
      ap (λ n. kept_of after n p s) (sym same.0) ∙ ap (λ n. kept_of after element n s) (sym same.1) ∙ ap (λ n. kept_of after element position n) (sym same.2) ∙ one.this

  next_grows : Grows mid after
  next_grows e p s bytes is = by (this e p s) refl
    where
      by : (b : Bool) → this e p s ≡ b → (others : List ℕ) × (kept_of after e p s ≡ Some others)
      by true same = (slice_index_or cells at [], bytes_here e p s same)
      by false other = (bytes, one.others e p s other ∙ is)

  wider : (e p s : ℕ) (bytes : List ℕ) → IsOfRun element position sector cells at e p s bytes → IsOfRun element position sector cells (at + 1) e p s bytes
  wider e p s bytes of = record { k = of.k; below = omega (arith, of.below); element_is = of.element_is; position_is = of.position_is; sector_is = of.sector_is; bytes_are = of.bytes_are }

  pub run_more : KeepsRun before after element position sector cells (at + 1)
  run_more = record {
    grows = grows_then before mid after run.grows next_grows;
    these = λ k below. ⊎_elim
        (λ (earlier : k < at). let was = run.these k earlier in next_grows element position (sector + k) was.0 was.1)
        (λ (last : at ≤ k).
        let same : at ≡ k = omega (arith, last, below) in
        (slice_index_or cells at [], ap (λ n. kept_of after element position (sector + n)) (sym same) ∙ one.this))
        (cases_lt k at);
    added = λ e p s bytes is. by e p s bytes is (this e p s) refl;
  }
    where
      by : (e p s : ℕ) (bytes : List ℕ) → kept_of after e p s ≡ Some bytes → (b : Bool) → this e p s ≡ b → (kept_of before e p s ≡ Some bytes) ⊎ IsOfRun element position sector cells (at + 1) e p s bytes
      by e p s bytes is true same =
          let place = here e p s same in
          inr (record {
            k = at;
            below = omega arith;
            element_is = sym place.0;
            position_is = sym place.1;
            sector_is = sym place.2;
            bytes_are = some_is (sym is ∙ bytes_here e p s same);
          })
      by e p s bytes is false other = ⊎_elim inl (λ of. inr (wider e p s bytes of)) (run.added e p s bytes (sym (one.others e p s other) ∙ is))

pub run_start : (element position sector : ℕ) (cells : List (List ℕ)) (kept : Keeping) → KeepsRun kept kept element position sector cells 0
run_start element position sector cells kept = record { grows = grows_start kept; these = λ k below. absurd (omega (arith, below)); added = λ e p s bytes is. inl is }

-- ---- reads one after another

pub gathers_reads : {D : Type 0} (tells : Type 0) (a b : BayState D) (v : Volume) (start count : ℕ) (kept : Keeping) → OnlyReads a b → Gathers tells a b v start count kept kept
gathers_reads tells a b v start count kept reads = record { reads = reads; grows = grows_start kept; added = λ element position sector bytes is. inl is }

pub gathers_start : {D : Type 0} (tells : Type 0) (a : BayState D) (v : Volume) (start count : ℕ) (kept : Keeping) → Gathers tells a a v start count kept kept
gathers_start tells a v start count kept = record { reads = only_reads_start a; grows = grows_start kept; added = λ element position sector bytes is. inl is }

module _ {D : Type 0} (tells : Type 0) {a b c : BayState D} (v : Volume) (start count : ℕ) (first mid last : Keeping) (so_far : Gathers tells a b v start count first mid) (next : Gathers tells b c v start count mid last) where
  may_wider : (e p s : ℕ) (bytes : List ℕ) → MayKeep tells a b v start count e p s bytes → MayKeep tells a c v start count e p s bytes
  may_wider e p s bytes may = record {
    holds_none = may.holds_none;
    given = λ tell part is_part. cell_wider (failed_behind so_far.reads next.reads) v a.held e part s p bytes (may.given tell part is_part);
  }

  may_later : (e p s : ℕ) (bytes : List ℕ) → MayKeep tells b c v start count e p s bytes → MayKeep tells a c v start count e p s bytes
  may_later e p s bytes may = record {
    holds_none = may.holds_none;
    given = λ tell part is_part.
        subst (λ (image : Image). IsCellGiven (Failed a c) v image e part s p bytes) so_far.reads.reads.same_held
        (cell_wider (failed_before so_far.reads next.reads) v b.held e part s p bytes (may.given tell part is_part));
  }

  pub gathers_then : Gathers tells a c v start count first last
  gathers_then = record {
    reads = only_reads_then so_far.reads next.reads;
    grows = grows_then first mid last so_far.grows next.grows;
    added = λ e p s bytes is. ⊎_elim
        (λ was. ⊎_elim inl (λ may. inr (may_wider e p s bytes may)) (so_far.added e p s bytes was))
        (λ may. inr (may_later e p s bytes may))
        (next.added e p s bytes is);
  }

-- a run of cells that hold no block of the range was read and kept
pub run_gathers : {D : Type 0} (tells : Type 0) (a b : BayState D) (v : Volume) (start count element position sector many : ℕ) (cells : List (List ℕ)) (before after : Keeping) → OnlyReads a b
    → KeepsRun before after element position sector cells many → ((k : ℕ) → k < many → HoldsNone v start count element position (sector + k)) → (tells → AreCellsGiven (Failed a b) v a.held element sector position cells many)
    → Gathers tells a b v start count before after
run_gathers tells a b v start count element position sector many cells before after reads run none given = record {
  reads = reads;
  grows = run.grows;
  added = λ e p s bytes is. ⊎_elim inl (λ of. inr (may e p s bytes of)) (run.added e p s bytes is);
}
  where
    may : (e p s : ℕ) (bytes : List ℕ) → IsOfRun element position sector cells many e p s bytes → MayKeep tells a b v start count e p s bytes
    may e p s bytes of =
        let here : MayKeep tells a b v start count element position (sector + of.k) (slice_index_or cells of.k []) =
        record { holds_none = none of.k of.below; given = λ tell part is_part. given tell part is_part of.k of.below } in
        subst (λ n. MayKeep tells a b v start count n p s bytes) (sym of.element_is)
        (subst (λ n. MayKeep tells a b v start count element n s bytes) (sym of.position_is)
        (subst (λ n. MayKeep tells a b v start count element position n bytes) (sym of.sector_is)
        (subst (λ x. MayKeep tells a b v start count element position (sector + of.k) x) (sym of.bytes_are) here)))

-- ---- cells that are known, along a position

pub along_more : (v : Volume) (start count : ℕ) (before after : Keeping) (element position sector at many : ℕ) → Grows before after → AreKnownAlong v start count before element position sector at
    → AreKnownAlong v start count after element position (sector + at) many → AreKnownAlong v start count after element position sector (at + many)
along_more v start count before after element position sector at many grows so_far here k below =
    ⊎_elim
    (λ (earlier : k < at). known_grows v start count before after grows element position (sector + k) (so_far k earlier))
    (λ (later : at ≤ k).
    let same : sector + at + (k - at) ≡ sector + k = omega (arith, later) in
    subst (λ n. IsKnownAt v start count after element position n) same (here (k - at) (omega (arith, below, later))))
    (cases_lt k at)

-- ---- why cells aren't kept

pub missed_by : (P Q : ℕ → Type 0) (S T : Type 0) → ((slot : ℕ) → P slot → Q slot) → (S → T) → (missed : Missed) → IsMissed P S missed → IsMissed Q T missed
missed_by P Q S T left split (Disk slot) is = left slot is
missed_by P Q S T left split Memory is = is
missed_by P Q S T left split Split is = split is

module _ (failed : ℕ → Type 0) (v : Volume) (start count element : ℕ) (part : Part) (position sector many most slot : ℕ) where
  pub left_of_run : many ≤ most → ((k : ℕ) → k < many → HoldsNone v start count element position (sector + k)) → NoneLeftAmong failed v element part sector many position slot
      → NoneLeftOfOthers failed v start count element part position sector most slot
  left_of_run within none left = record { cell = left.cell; is_in = omega (arith, left.is_in, within); holds_none = none left.cell left.is_in; none_left = left.none_left }

pub left_further : {P Q : ℕ → Type 0} → Within P Q → (v : Volume) (start count element : ℕ) (part : Part) (position sector at many total slot : ℕ) → at + many ≤ total
    → NoneLeftOfOthers P v start count element part position (sector + at) many slot → NoneLeftOfOthers Q v start count element part position sector total slot
left_further {Q = Q} within v start count element part position sector at many total slot inside left =
    let same : sector + at + left.cell ≡ sector + (at + left.cell) = omega arith in
    record {
      cell = at + left.cell;
      is_in = omega (arith, inside, left.is_in);
      holds_none = subst (λ n. HoldsNone v start count element position n) same left.holds_none;
      none_left =
          subst (λ (n : ℕ). NoneLeft Q (cell_sources v element part n position) slot) same
          (NotRead-wider within (cell_sources v element part (sector + at + left.cell) position) (Some slot) left.none_left);
    }

-- the sources of a cell of an array that isn't marked
pub sources_unmarked : (v : Volume) (element : ℕ) (part : Part) (position sector : ℕ) → v.marked ≡ false → cell_sources v element part sector position ≡ sources_beside v element part position sector
sources_unmarked v element part position sector marked = ap (λ (m : Bool). cell_sources (volume m v.tiers v.parts) element part sector position) marked

pub unmarked : (v : Volume) → not v.marked ≡ true → v.marked ≡ false
unmarked v trusted = by v.marked trusted
  where
    by : (marked : Bool) → not marked ≡ true → marked ≡ false
    by true e = absurd (cc)
    by false e = refl

pub touched_in_range : (v : Volume) (piece : Piece) → IsInRange piece → (element sector : ℕ) → IsTouched v piece.first piece.blocks element sector → IsTouched v piece.start piece.count element sector
touched_in_range v piece within element sector touched =
    let same : piece.first + touched.k ≡ piece.start + (piece.first - piece.start + touched.k) = omega (arith, within.from) in
    record { position = touched.position; k = piece.first - piece.start + touched.k; below = omega (arith, touched.below, within.from, within.to); holds_it = touched.holds_it ∙ ap Some same }

module _ {P Q : ℕ → Type 0} (within : Within P Q) (v : Volume) (known : IsVolume v) (marked : v.marked ≡ false) (piece : Piece) (in_range : IsInRange piece) (element : ℕ) (part : Part) (is_part : slice_get v.parts element ≡ Some part)
    (keep : keeps_parity part.shape.layout ≡ true) (parity sector rows : ℕ) (holds : HoldsParityAlong part parity sector rows) (touched : AreTouched v piece.first piece.blocks element sector rows) where
  pub left_beside : (position slot : ℕ) → position < length part.places → (position ≡ parity → ⊥) → NoneLeftOfOthers P v piece.start piece.count element part position sector rows slot
      → NoneLeftBeside Q v piece.start piece.count slot
  left_beside position slot below other left =
      let row : IsTouched v piece.start piece.count element (sector + left.cell) = touched_in_range v piece in_range element (sector + left.cell) (touched left.cell left.is_in) in
      record {
        element = element;
        part = part;
        position = position;
        sector = sector + left.cell;
        is_beside = record {
          is_cell = data_cell v known element part is_part keep position below piece.start piece.count (sector + left.cell) row (λ same. other (some_is (sym same ∙ holds left.cell left.is_in)));
          touched = row;
          holds_none = left.holds_none;
        };
        none_left =
            subst (λ (l : List Source). NoneLeft Q l slot) (sources_unmarked v element part position (sector + left.cell) marked)
            (NotRead-wider within (cell_sources v element part (sector + left.cell) position) (Some slot) left.none_left);
      }

pub beside_wider : {P Q : ℕ → Type 0} → Within P Q → (v : Volume) (start count slot : ℕ) → NoneLeftBeside P v start count slot → NoneLeftBeside Q v start count slot
beside_wider within v start count slot left = record {
  element = left.element;
  part = left.part;
  position = left.position;
  sector = left.sector;
  is_beside = left.is_beside;
  none_left = NotRead-wider within (sources_beside v left.element left.part left.position left.sector) (Some slot) left.none_left;
}

-- a fault of a look names a slot of the array's available places
pub left_on : (v : Volume) → IsVolume v → (failed : ℕ → Type 0) (start count slot : ℕ) → NoneLeftBeside failed v start count slot → IsOn v slot
left_on v known failed start count slot left =
    let plain : Volume = volume false v.tiers v.parts in
    let plain_known : IsVolume plain = record { array_is = known.array_is; has_sizes = known.has_sizes; are_parts = known.are_parts } in
    let on : IsOn plain slot = cell_first_on plain plain_known left.element left.part left.is_beside.is_cell.is_part left.position left.sector (depth_below v known left.part left.sector left.is_beside.is_cell.below) slot left.none_left.is_of_first in
    record { element = on.element; position = on.position; part = on.part; place = on.place; is_part = on.is_part; is_place = on.is_place; is_synced = on.is_synced; is_there = on.is_there }

-- ---- rows

-- neighbouring rows that blocks touch are all of the element
pub rows_deep : (v : Volume) (known : IsVolume v) (element : ℕ) (part : Part) → slice_get v.parts element ≡ Some part → (cell : Cell) (block n : ℕ) → ((j : ℕ) → j < n → block_at v element cell.member (cell.sector + j) ≡ Some (block + j)) → 0 < n
    → cell.sector + n ≤ depth_of part.shape
rows_deep v known element part is_part cell block n follow some =
    let last = n - 1 in
    let sits = block_at_sits v known element cell.member (cell.sector + last) (block + last) (follow last (omega (arith, some))) in
    let below : cell.sector + last < depth_of part.shape =
    subst (λ (q : Part). cell.sector + last < depth_of q.shape) (some_is (sym sits.is_part ∙ is_part)) (sector_below v known element cell.member (cell.sector + last) (block + last) sits) in
    omega (arith, below, some)

-- once the rows that blocks touch are known, all that lies beside them is kept
pub all_known : (v : Volume) → IsVolume v → is_degraded v ≡ false → (start count : ℕ) (kept : Keeping) → AllRows v start count (RowIsKnown v start count kept) → AllAreKept v start count kept
all_known v known whole start count kept rows element part position sector beside =
    let cell = beside.is_cell in
    let parity = some_parity part.shape.layout part.shape.members (sector / part.shape.strip) cell.keeps in
    let places = (known.are_parts element part cell.is_part).has_places in
    let inside : parity.0 < length part.places =
    omega (arith, parity_below part.shape.layout part.shape.members (sector / part.shape.strip) parity.0 (omega (arith, cell.is_position, places)) parity.1, places) in
    let own = whole_site v whole element part cell.is_part cell.keeps parity.0 sector inside in
    ⊎_elim (λ held. absurd (beside.holds_none held.0 held.1 held.2)) (λ is. is)
    (rows element sector part own.0 (record { touched = beside.touched; is_part = cell.is_part; position = parity.0; is_parity = parity.1; is_there = own.1 }) position cell.is_position cell.is_data)
