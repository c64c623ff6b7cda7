-- What writes of neighbouring ranges of blocks give sectors, together.
use Rattle.std.proofs.Common.{◌≡◌, ◌∙◌, ◌⊎◌, inl, inr, ⊎_elim, ℕ, ◌+◌, ◌-◌, ◌<◌, ◌≤◌, List, [], ◌++◌, Some, sym, ap, arith, length, slice_get, length-append}
use Rattle.std.proofs.lemmas.Bool.{cases_lt}
use Rattle.std.proofs.lemmas.List.{get_or_append_left, get_or-append-add}
use Rattle.ddf_array.specs.declared.part.Part.{Part}
use Rattle.ddf_array.specs.declared.site.Site.{Site}
use Rattle.ddf_array.specs.Sources.{copies}
use Rattle.ddf_array.specs.Volume.{Volume}
use Rattle.ddf_cells.specs.CellsOn.{IsCellOf}
use Rattle.ddf_write.specs.Writing.{IsParityAt, IsParityOf, IsTouched, IsWritten, MayGive}

module _ (v : Volume) where
  -- ---- rows

  pub touched_wider : (start a b element sector : ℕ) → a ≤ b → IsTouched v start a element sector → IsTouched v start b element sector
  touched_wider start a b element sector le is = record { position = is.position; k = is.k; below = omega (arith, is.below, le); holds_it = is.holds_it }

  pub touched_behind : (start a b element sector : ℕ) → IsTouched v (start + a) b element sector → IsTouched v start (a + b) element sector
  touched_behind start a b element sector is =
      let same : start + a + is.k ≡ start + (a + is.k) = omega arith in
      record { position = is.position; k = a + is.k; below = omega (arith, is.below); holds_it = is.holds_it ∙ ap (λ (n : ℕ). Some n) same }

  pub touched_split : (start a b element sector : ℕ) → IsTouched v start (a + b) element sector → IsTouched v start a element sector ⊎ IsTouched v (start + a) b element sector
  touched_split start a b element sector is =
      ⊎_elim
      (λ (earlier : is.k < a). inl (record { position = is.position; k = is.k; below = earlier; holds_it = is.holds_it }))
      (λ (later : a ≤ is.k).
      let same : start + is.k ≡ start + a + (is.k - a) = omega (arith, later) in
      inr (record { position = is.position; k = is.k - a; below = omega (arith, is.below, later); holds_it = is.holds_it ∙ ap (λ (n : ℕ). Some n) same }))
      (cases_lt is.k a)

  -- the parity of a row that other blocks touch
  pub parity_with : (start a other b element sector : ℕ) (part : Part) (one : Site) → IsParityAt v start a element sector part one → IsTouched v other b element sector → IsParityAt v other b element sector part one
  parity_with start a other b element sector part one is touched = record {
    touched = touched;
    is_part = is.is_part;
    position = is.position;
    is_parity = is.is_parity;
    is_there = is.is_there;
  }

  of_with : (start a other b slot lba : ℕ) (of : IsParityOf v start a slot lba) → IsTouched v other b of.element of.sector → IsParityOf v other b slot lba
  of_with start a other b slot lba of touched = record {
    element = of.element;
    sector = of.sector;
    part = of.part;
    is_at = parity_with start a other b of.element of.sector of.part (record { slot = slot; lba = lba }) of.is_at touched;
  }

  -- ---- cells

  abbrev cell_wider : (start a b slot lba : ℕ) → a ≤ b → IsCellOf v start a slot lba → IsCellOf v start b slot lba
  cell_wider start a b slot lba le cell = record { k = cell.k; below = omega (arith, cell.below, le); i = cell.i; is_cell = cell.is_cell }

  abbrev cell_behind : (start a b slot lba : ℕ) → IsCellOf v (start + a) b slot lba → IsCellOf v start (a + b) slot lba
  cell_behind start a b slot lba cell =
      let same : start + (a + cell.k) ≡ start + a + cell.k = omega arith in
      record { k = a + cell.k; below = omega (arith, cell.below); i = cell.i; is_cell = ap (λ (n : ℕ). slice_get (copies v n) cell.i) same ∙ cell.is_cell }

  cell_split : (start a b slot lba : ℕ) → IsCellOf v start (a + b) slot lba → IsCellOf v start a slot lba ⊎ IsCellOf v (start + a) b slot lba
  cell_split start a b slot lba cell =
      ⊎_elim
      (λ (earlier : cell.k < a). inl (record { k = cell.k; below = earlier; i = cell.i; is_cell = cell.is_cell }))
      (λ (later : a ≤ cell.k).
      let same : start + a + (cell.k - a) ≡ start + cell.k = omega (arith, later) in
      inr (record { k = cell.k - a; below = omega (arith, cell.below, later); i = cell.i; is_cell = ap (λ (n : ℕ). slice_get (copies v n) cell.i) same ∙ cell.is_cell }))
      (cases_lt cell.k a)

  -- ---- slots

  pub written_wider : (start a b slot : ℕ) → a ≤ b → IsWritten v start a slot → IsWritten v start b slot
  written_wider start a b slot le (lba, inl cell) = (lba, inl (cell_wider start a b slot lba le cell))
  written_wider start a b slot le (lba, inr of) = (lba, inr (of_with start a start b slot lba of (touched_wider start a b of.element of.sector le of.is_at.touched)))

  pub written_behind : (start a b slot : ℕ) → IsWritten v (start + a) b slot → IsWritten v start (a + b) slot
  written_behind start a b slot (lba, inl cell) = (lba, inl (cell_behind start a b slot lba cell))
  written_behind start a b slot (lba, inr of) = (lba, inr (of_with (start + a) b start (a + b) slot lba of (touched_behind start a b of.element of.sector of.is_at.touched)))

  pub written_split : (start a b slot : ℕ) → IsWritten v start (a + b) slot → IsWritten v start a slot ⊎ IsWritten v (start + a) b slot
  written_split start a b slot (lba, inl cell) = ⊎_elim (λ front. inl (lba, inl front)) (λ behind. inr (lba, inl behind)) (cell_split start a b slot lba cell)
  written_split start a b slot (lba, inr of) =
      ⊎_elim
      (λ front. inl (lba, inr (of_with start (a + b) start a slot lba of front)))
      (λ behind. inr (lba, inr (of_with start (a + b) (start + a) b slot lba of behind)))
      (touched_split start a b of.element of.sector of.is_at.touched)

  -- ---- bytes

  module _ (start : ℕ) (xs ys : List (List ℕ)) where
    pub longer : length xs ≤ length (xs ++ ys)
    longer = omega (arith, length-append xs ys)

    pub give_front : (s l : ℕ) (bytes : List ℕ) → MayGive v start xs s l bytes → MayGive v start (xs ++ ys) s l bytes
    give_front s l bytes (inl given) = inl (cell_wider start (length xs) (length (xs ++ ys)) s l longer given.0, given.1 ∙ sym (get_or_append_left xs ys [] given.0.k given.0.below))
    give_front s l bytes (inr of) =
        inr (of_with start (length xs) start (length (xs ++ ys)) s l of (touched_wider start (length xs) (length (xs ++ ys)) of.element of.sector longer of.is_at.touched))

    both : length xs + length ys ≤ length (xs ++ ys)
    both = omega (arith, length-append xs ys)

    pub give_behind : (s l : ℕ) (bytes : List ℕ) → MayGive v (start + length xs) ys s l bytes → MayGive v start (xs ++ ys) s l bytes
    give_behind s l bytes (inl given) =
        inl (cell_wider start (length xs + length ys) (length (xs ++ ys)) s l both (cell_behind start (length xs) (length ys) s l given.0), given.1 ∙ sym (get_or-append-add xs ys given.0.k []))
    give_behind s l bytes (inr of) =
        inr
        (of_with (start + length xs) (length ys) start (length (xs ++ ys)) s l of
        (touched_wider start (length xs + length ys) (length (xs ++ ys)) of.element of.sector both (touched_behind start (length xs) (length ys) of.element of.sector of.is_at.touched)))
