-- What is known of what lies beside blocks doesn't depend on the mark of their array.
use Rattle.std.proofs.Common.{◌≡◌, ◌+◌, ◌-◌, ◌%◌, ◌<◌, ⊎_elim, inl, inr, ℕ, Bool, arith, max}
use Rattle.ddf_bay.specs.Sectors.{Image}
use Rattle.ddf_array.specs.declared.part.Part.{Part}
use Rattle.ddf_array.specs.Volume.{Volume, volume}
use Rattle.ddf_write.specs.declared.beside.Beside.{Beside}
use Rattle.ddf_write.specs.Beside.{IsDataCell, NoneLeftBeside}
use Rattle.ddf_write.specs.Keeping.{AllAreKept, AreTheirValues, Keeping}
use Rattle.ddf_write.specs.Looking.{ArePiecesKept, EndWithStripes, IsSplit, LiesBeside, no_more, one_more, piece_blocks, piece_of}
use Rattle.ddf_write.specs.Writing.{IsTouched}

-- ---- pieces, one after another

module _ (v : Volume) (start count each ahead : ℕ) (kept : Keeping) where
  pub next_kept : (at : ℕ) → at < count → ArePiecesKept v start count each ahead kept at
      → AllAreKept v (start + at) (piece_of each ahead at (count - at)) kept × ArePiecesKept v start count each ahead kept (at + piece_of each ahead at (count - at))
  next_kept at more (no_more n end) = absurd (omega (arith, more, end))
  next_kept at more (one_more n some all rest) = (all, rest)

-- ---- marks

module _ (v : Volume) (marked : Bool) where
  abbrev other : Volume
  other = volume marked v.tiers v.parts

  touched_back : (start count element sector : ℕ) → IsTouched other start count element sector → IsTouched v start count element sector
  touched_back start count element sector is = record { position = is.position; k = is.k; below = is.below; holds_it = is.holds_it }

  abbrev touched_on : (start count element sector : ℕ) → IsTouched v start count element sector → IsTouched other start count element sector
  touched_on start count element sector is = record { position = is.position; k = is.k; below = is.below; holds_it = is.holds_it }

  cell_back : (element : ℕ) (part : Part) (position sector : ℕ) → IsDataCell other element part position sector → IsDataCell v element part position sector
  cell_back element part position sector is = record { is_part = is.is_part; keeps = is.keeps; is_position = is.is_position; below = is.below; is_data = is.is_data }

  cell_on : (element : ℕ) (part : Part) (position sector : ℕ) → IsDataCell v element part position sector → IsDataCell other element part position sector
  cell_on element part position sector is = record { is_part = is.is_part; keeps = is.keeps; is_position = is.is_position; below = is.below; is_data = is.is_data }

  pub kept_marked : (start count : ℕ) (kept : Keeping) → AllAreKept v start count kept → AllAreKept other start count kept
  kept_marked start count kept all element part position sector beside =
      all element part position sector
      (record {
        is_cell = cell_back element part position sector beside.is_cell;
        touched = touched_back start count element sector beside.touched;
        holds_none = beside.holds_none;
      })

  pub pieces_marked : (start count each ahead : ℕ) (kept : Keeping) (at : ℕ) → ArePiecesKept v start count each ahead kept at → ArePiecesKept other start count each ahead kept at
  pieces_marked start count each ahead kept at (no_more n end) = no_more n end
  pieces_marked start count each ahead kept at (one_more n some all rest) =
      one_more n some (kept_marked (start + n) (piece_of each ahead n (count - n)) kept all) (pieces_marked start count each ahead kept (n + piece_of each ahead n (count - n)) rest)

  split_marked : (start count each ahead : ℕ) → IsSplit v start count each ahead → IsSplit other start count each ahead
  split_marked start count each ahead split = record {
    element = split.element;
    part = split.part;
    is_part = split.is_part;
    keeps = split.keeps;
    sector = split.sector;
    one = touched_on start count split.element split.sector split.one;
    other = touched_on start count split.element split.sector split.other;
    differ = split.differ;
  }

  ends_marked : (start count each ahead : ℕ) → EndWithStripes v start count each ahead → EndWithStripes other start count each ahead
  ends_marked start count each ahead ends =
      ⊎_elim inl
      (λ (whole : IsSplit v start count (piece_blocks v) (start % piece_blocks v) × (each ≡ max 1 count) × (ahead ≡ 0)).
      inr (split_marked start count (piece_blocks v) (start % piece_blocks v) whole.0, whole.1, whole.2)) ends

  pub beside_marked : (start count : ℕ) (beside : Beside) → LiesBeside v start count beside → LiesBeside other start count beside
  beside_marked start count beside lies = record {
    some = lies.some;
    some_first = lies.some_first;
    plain = lies.plain;
    stripes = λ keeps. ends_marked start count beside.each beside.ahead (lies.stripes keeps);
    all_kept = pieces_marked start count beside.each beside.ahead beside.kept 0 lies.all_kept;
    keeps_none = lies.keeps_none;
  }

  pub values_marked : (image : Image) (kept : Keeping) → AreTheirValues v image kept → AreTheirValues other image kept
  values_marked image kept values element part position sector bytes cell is = values element part position sector bytes (cell_back element part position sector cell) is

  pub left_marked : (failed : ℕ → Type 0) (start count slot : ℕ) → NoneLeftBeside failed v start count slot → NoneLeftBeside failed other start count slot
  left_marked failed start count slot left = record {
    element = left.element;
    part = left.part;
    position = left.position;
    sector = left.sector;
    is_beside = record {
      is_cell = cell_on left.element left.part left.position left.sector left.is_beside.is_cell;
      touched = touched_on start count left.element left.sector left.is_beside.touched;
      holds_none = left.is_beside.holds_none;
    };
    none_left = left.none_left;
  }
