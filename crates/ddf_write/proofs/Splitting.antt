-- Rows that pieces of a range split.
use Rattle.std.proofs.Common.{◌≡◌, ◌∙◌, ◌⊎◌, inl, inr, ⊎_elim, ℕ, ◌+◌, ◌-◌, ◌*◌, ◌/◌, ◌%◌, ◌<◌, ◌≤◌, min, true, Some, ap, subst, arith, slice_get}
use Rattle.std.proofs.Math.Nat.{add-mul, mul-mod_left}
use Rattle.std.proofs.lemmas.Bool.{cases_lt}
use Rattle.std.proofs.lemmas.Nat.{div-add-mod', div-mul-add, div_below, le-div, mod_below}
use Rattle.ddf_array.specs.declared.part.Part.{Part}
use Rattle.ddf_array.specs.Levels.{keeps_parity}
use Rattle.ddf_array.specs.Rows.{block_at}
use Rattle.ddf_array.specs.Volume.{Volume}
use Rattle.ddf_write.specs.declared.looking.Piece.{Piece}
use Rattle.ddf_write.specs.Gathering.{IsOfAnother, IsSplitRow}
use Rattle.ddf_write.specs.Looking.{IsSplit, piece_number, piece_of}
use Rattle.ddf_write.specs.RowWrites.{AreTouched}
use Rattle.ddf_write.specs.WriteRefused.{IsOther}

-- ---- cells of another piece

pub another_further : (v : Volume) (piece : Piece) (element position sector at many total : ℕ) → at + many ≤ total → IsOfAnother v piece element position (sector + at) many → IsOfAnother v piece element position sector total
another_further v piece element position sector at many total inside is =
    let same : sector + at + is.cell ≡ sector + (at + is.cell) = omega arith in
    record {
      cell = at + is.cell;
      is_in = omega (arith, inside, is.is_in);
      k = is.k;
      below = is.below;
      holds_it = subst (λ n. block_at v element position n ≡ Some (piece.start + is.k)) same is.holds_it;
      other = is.other;
    }

-- in a row that the piece touches
pub splits_row : (v : Volume) (piece : Piece) (element : ℕ) (part : Part) → slice_get v.parts element ≡ Some part → keeps_parity part.shape.layout ≡ true → (position sector rows : ℕ)
    → AreTouched v piece.first piece.blocks element sector rows → IsOfAnother v piece element position sector rows → IsSplitRow v piece
splits_row v piece element part is_part keep position sector rows touched is = record {
  element = element;
  part = part;
  is_part = is_part;
  keeps = keep;
  sector = sector + is.cell;
  touched = touched is.cell is.is_in;
  row = record { position = position; k = is.k; below = is.below; holds_it = is.holds_it };
  other = is.other;
}

-- ---- in which piece a block lies

-- where the next piece begins
next_piece : (each q : ℕ) → (q + 1) * each ≡ q * each + each
next_piece each q = omega (arith, add-mul q 1 each)

module _ (each ahead at blocks count q r : ℕ) (some : 0 < each) (whole : q * each + r ≡ ahead + at) (small : r < each) (size : blocks ≡ min (each - r) (count - at)) where
  starts_by : at + blocks < count → (ahead + (at + blocks)) % each ≡ 0
  starts_by more =
      let next = next_piece each q in
      let same : (q + 1) * each ≡ ahead + (at + blocks) = omega (arith, next, whole, small, size, more) in
      subst (λ n. n % each ≡ 0) same (mul-mod_left (q + 1) each)

  here : (j : ℕ) → j < blocks → (ahead + (at + j)) / each ≡ q
  here j below =
      let same : q * each + (r + j) ≡ ahead + (at + j) = omega (arith, whole) in
      subst (λ n. n / each ≡ q) same (div-mul-add q each (r + j) (omega (arith, small, size, below)))

  earlier : (m : ℕ) → r ≡ 0 → m < at → (ahead + m) / each < q
  earlier m none before = div_below (ahead + m) each q some (omega (arith, whole, none, before))

  later : (m : ℕ) → at + blocks ≤ m → m < count → q + 1 ≤ (ahead + m) / each
  later m behind below =
      let next = next_piece each q in
      le-div (q + 1) (ahead + m) each some (omega (arith, next, whole, small, size, behind, below))

  differ_by : (0 < at → r ≡ 0) → (j m : ℕ) → j < blocks → m < count → ((m < at) ⊎ (at + blocks ≤ m)) → (ahead + (at + j)) / each ≡ (ahead + m) / each → ⊥
  differ_by starts j m inside below apart same =
      let mine = here j inside in
      ⊎_elim
      (λ (before : m < at). let less = earlier m (starts (omega (arith, before))) before in omega (arith, mine, same, less))
      (λ (behind : at + blocks ≤ m). let more = later m behind below in omega (arith, mine, same, more))
      apart

module _ (each ahead at blocks count : ℕ) (some : 0 < each) (size : blocks ≡ piece_of each ahead at (count - at)) where
  -- the next piece begins where one of the array's does
  pub next_starts : at + blocks < count → (ahead + (at + blocks)) % each ≡ 0
  next_starts more = starts_by each ahead at blocks count ((ahead + at) / each) ((ahead + at) % each) some (div-add-mod' (ahead + at) each) (mod_below (ahead + at) each some) size more

  numbers_differ : (0 < at → (ahead + at) % each ≡ 0) → (j m : ℕ) → j < blocks → m < count → ((m < at) ⊎ (at + blocks ≤ m)) → piece_number each ahead (at + j) ≡ piece_number each ahead m → ⊥
  numbers_differ starts j m inside below apart same =
      differ_by each ahead at blocks count ((ahead + at) / each) ((ahead + at) % each) some (div-add-mod' (ahead + at) each) (mod_below (ahead + at) each some) size starts j m inside below apart same

  -- a block that isn't of the piece lies before or behind it
  lies_apart : (start m : ℕ) → IsOther (start + at) blocks (start + m) → (m < at) ⊎ (at + blocks ≤ m)
  lies_apart start m other =
      ⊎_elim inl
      (λ (from : at ≤ m).
      ⊎_elim
      (λ (inside : m < at + blocks). absurd (other (m - at) (omega (arith, from, inside)) (omega (arith, from))))
      inr (cases_lt m (at + blocks)))
      (cases_lt m at)

  -- a row that has a block of a piece and one of another is split
  pub splits_pieces : at < count → (0 < at → (ahead + at) % each ≡ 0) → (v : Volume) (start : ℕ) → IsSplitRow v (record { start = start; count = count; first = start + at; blocks = blocks }) → IsSplit v start count each ahead
  splits_pieces more starts v start is =
      let place : start + at + is.touched.k ≡ start + (at + is.touched.k) = omega arith in
      record {
        element = is.element;
        part = is.part;
        is_part = is.is_part;
        keeps = is.keeps;
        sector = is.sector;
        one = record { position = is.touched.position; k = at + is.touched.k; below = omega (arith, size, is.touched.below, more); holds_it = is.touched.holds_it ∙ ap Some place };
        other = is.row;
        differ = λ same. numbers_differ starts is.touched.k is.row.k is.touched.below is.row.below (lies_apart start is.row.k is.other) same;
      }
