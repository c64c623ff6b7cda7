-- Writes of neighbouring ranges of blocks, one after another, are one of both.
use Rattle.std.proofs.Common.{◌≡◌, ◌∙◌, ◌⊎◌, inl, inr, ⊎_elim, ℕ, ◌+◌, ◌-◌, ◌<◌, ◌≤◌, Bool, false, List, [], ◌++◌, Some, refl, sym, ap, subst, arith, length, slice_get, length-append}
use Rattle.std.specs.Prelude.{slice_index_or}
use Rattle.std.proofs.lemmas.Bool.{cases_lt}
use Rattle.std.proofs.lemmas.List.{get_or_append_left, get_or-append_right}
use Rattle.ddf_lemmas.proofs.Options.{some_is}
use Rattle.ddf_bay.specs.State.{BayState}
use Rattle.ddf_bay.proofs.Steps.{stops_start, stops_then}
use Rattle.ddf_array.specs.declared.part.Part.{Part}
use Rattle.ddf_array.specs.declared.site.Site.{Site}
use Rattle.ddf_array.specs.Apart.{IsApart}
use Rattle.ddf_array.specs.Rows.{row_sum}
use Rattle.ddf_array.specs.Sources.{copies}
use Rattle.ddf_array.specs.Values.{bytes_at}
use Rattle.ddf_array.specs.Volume.{Volume, IsVolume}
use Rattle.ddf_array.proofs.Consistent.{position_within}
use Rattle.ddf_cells.specs.CellsOn.{copy_cells}
use Rattle.ddf_cells.specs.Degraded.{is_degraded}
use Rattle.ddf_cells.specs.Touching.{IsTouchedSlot}
use Rattle.ddf_cells.proofs.CopiesOn.{block_at_sits}
use Rattle.ddf_cells.proofs.OnCells.{block_below}
use Rattle.ddf_write.specs.Keeping.{AreTheirValues, Keeping, KeepsNone}
use Rattle.ddf_write.specs.RowWrites.{row_cells}
use Rattle.ddf_write.specs.Writing.{IsAmongWrites, IsParityAt, IsTouched, IsWritten, MayGive}
use Rattle.ddf_write.proofs.KeptValues.{values_stay}
use Rattle.ddf_write.proofs.RowsUntouched.{IsUntouched, never_touched, sum_untouched, touched_or_not, untouched_stays}
use Rattle.ddf_write.proofs.WriteLeaves.{cell_stays}
use Rattle.ddf_pieces.specs.Writing.{ArePut, LeaveWrites}
use Rattle.ddf_pieces.proofs.Costs.{copy_cells_joined, row_cells_joined}
use Rattle.ddf_pieces.proofs.Ranges.{give_behind, give_front, longer, parity_with, touched_split, written_behind, written_split, written_wider}

module _ {D : Type 0} (tells : Type 0) (v : Volume) (start : ℕ) (xs ys : List (List ℕ)) {a b c : BayState D} (first : LeaveWrites tells a b v start xs) (next : LeaveWrites tells b c v (start + length xs) ys) where
  -- what they leave
  pub leave_both : LeaveWrites tells a c v start (xs ++ ys)
  leave_both = record {
    any_moment = stops_then {P = IsAmongWrites v start (xs ++ ys) a.may_hold} {Q = IsAmongWrites v (start + length xs) ys b.may_hold}
        (stops_then {P = IsAmongWrites v start (xs ++ ys) a.may_hold} {Q = IsAmongWrites v start xs a.may_hold} (stops_start a (IsAmongWrites v start (xs ++ ys) a.may_hold)) first.any_moment
        (λ image among s l. ⊎_elim inl (λ given. inr (give_front v start xs ys s l (image s l) given)) (among s l)))
        next.any_moment
        (λ image among s l. ⊎_elim
        (λ may. ⊎_elim inl (λ given. inr (give_front v start xs ys s l (image s l) given)) (first.left s l (image s l) may))
        (λ given. inr (give_behind v start xs ys s l (image s l) given))
        (among s l));
    held = λ tell s l. ⊎_elim
        (λ same. ⊎_elim (λ was. inl (same ∙ was)) (λ given. inr (subst (λ bytes. MayGive v start (xs ++ ys) s l bytes) (sym same) (give_front v start xs ys s l (b.held s l) given))) (first.held tell s l))
        (λ given. inr (give_behind v start xs ys s l (c.held s l) given))
        (next.held tell s l);
    left = λ s l bytes left. ⊎_elim
        (λ was. ⊎_elim inl (λ given. inr (give_front v start xs ys s l bytes given)) (first.left s l bytes was))
        (λ given. inr (give_behind v start xs ys s l bytes given))
        (next.left s l bytes left);
    asked = omega (arith, first.asked, next.asked, cells, rows);
    written = omega (arith, first.written, next.written, cells, rows);
  }
    where
      long : length (xs ++ ys) ≡ length xs + length ys
      long = length-append xs ys

      cells : copy_cells v start (length (xs ++ ys)) ≡ copy_cells v start (length xs) + copy_cells v (start + length xs) (length ys)
      cells = ap (copy_cells v start) long ∙ copy_cells_joined v start (length xs) (length ys)

      rows : row_cells v (length (xs ++ ys)) ≡ row_cells v (length xs) + row_cells v (length ys)
      rows = ap (row_cells v) long ∙ row_cells_joined v (length xs) (length ys)

  -- ---- and what is written by both

  module _ (known : IsVolume v) (apart : IsApart v) (whole : is_degraded v ≡ false) (kept : Keeping) (none : KeepsNone v start (length xs) kept) (t u w : List Bool) (is : ArePut tells a b v start xs kept t u) (was : ArePut tells b c v (start + length xs) ys kept u w) where
    values_next : tells → AreTheirValues v a.held kept → AreTheirValues v b.held kept
    values_next tell values = values_stay v known apart whole start xs a.held b.held (first.held tell) kept none values

    module _ (tell : tells) where
      -- cells of the first blocks stay
      cell_both : (k i : ℕ) (one : Site) → k < length (xs ++ ys) → slice_get (copies v (start + k)) i ≡ Some one → bytes_at c.held one ≡ slice_index_or (xs ++ ys) k []
      cell_both k i one below at =
          ⊎_elim
          (λ (earlier : k < length xs).
          cell_stays v known apart (start + length xs) ys b.held c.held (next.held tell) (start + k) i one (λ j inside same. omega (arith, same, earlier)) at
          ∙ (is.written tell).cells k i one earlier at ∙ sym (get_or_append_left xs ys [] k earlier))
          (λ (behind : length xs ≤ k).
          let same : start + k ≡ start + length xs + (k - length xs) = omega (arith, behind) in
          (was.written tell).cells (k - length xs) i one (omega (arith, below, behind, length-append xs ys)) (ap (λ (n : ℕ). slice_get (copies v n) i) (sym same) ∙ at)
          ∙ sym (get_or-append_right xs ys (length xs) k [] refl behind))
          (cases_lt k (length xs))

      -- so does the parity of rows that the next ones don't touch
      parity_stays : AreTheirValues v a.held kept → (element sector : ℕ) (part : Part) (one : Site) → IsParityAt v start (length (xs ++ ys)) element sector part one → IsUntouched v (start + length xs) (length ys) element part sector
          → bytes_at c.held one ≡ row_sum v c.held element part sector
      parity_stays values element sector part one at not =
          let sits = block_at_sits v known element at.touched.position sector (start + at.touched.k) at.touched.holds_it in
          let part_same : sits.part ≡ part = some_is (sym sits.is_part ∙ at.is_part) in
          let inside = subst (λ (q : Part). sector < q.shape.blocks) part_same (block_below v known element at.touched.position sector (start + at.touched.k) sits) in
          let touched : IsTouched v start (length xs) element sector = ⊎_elim
          (λ front. front)
          (λ behind. absurd (never_touched v known (start + length xs) (length ys) element sector part at.is_part not behind))
          (touched_split v start (length xs) (length ys) element sector (subst (λ n. IsTouched v start n element sector) (length-append xs ys) at.touched)) in
          untouched_stays v known apart (start + length xs) ys b.held c.held (next.held tell) element sector part at.is_part inside not at.position one at.is_there
          ∙ (is.written tell).parity values element sector part one (parity_with v start (length (xs ++ ys)) start (length xs) element sector part one at touched)
          ∙ sym (sum_untouched v known apart (start + length xs) ys b.held c.held (next.held tell) element sector part at.is_part inside not whole at.position at.is_parity (position_within part.places at.position sector one at.is_there))

      parity_both : AreTheirValues v a.held kept → (element sector : ℕ) (part : Part) (one : Site) → IsParityAt v start (length (xs ++ ys)) element sector part one → bytes_at c.held one ≡ row_sum v c.held element part sector
      parity_both values element sector part one at =
          ⊎_elim
          (λ touched. (was.written tell).parity (values_next tell values) element sector part one (parity_with v start (length (xs ++ ys)) (start + length xs) (length ys) element sector part one at touched))
          (λ not. parity_stays values element sector part one at not)
          (touched_or_not v (start + length xs) (length ys) element sector (length part.places))

      noted_both : (slot : ℕ) → IsWritten v start (length (xs ++ ys)) slot → IsTouchedSlot w slot
      noted_both slot written =
          ⊎_elim (λ front. was.notes.stays slot (is.are_noted tell slot front)) (λ behind. was.are_noted tell slot behind)
          (written_split v start (length xs) (length ys) slot (subst (λ n. IsWritten v start n slot) (length-append xs ys) written))

    only_both : (slot : ℕ) → IsTouchedSlot w slot → IsTouchedSlot t slot ⊎ IsWritten v start (length (xs ++ ys)) slot
    only_both slot noted =
        ⊎_elim
        (λ earlier. ⊎_elim inl (λ front. inr (written_wider v start (length xs) (length (xs ++ ys)) slot (longer v start xs ys) front)) (is.notes.only slot earlier))
        (λ behind. inr (subst (λ n. IsWritten v start n slot) (sym (length-append xs ys)) (written_behind v start (length xs) (length ys) slot behind)))
        (was.notes.only slot noted)

    pub put_both : ArePut tells a c v start (xs ++ ys) kept t w
    put_both = record {
      written = λ tell. record { cells = λ k i one below at. cell_both tell k i one below at; parity = λ values element sector part one at. parity_both tell values element sector part one at };
      are_noted = λ tell slot written. noted_both tell slot written;
      notes = record { stays = λ slot noted. was.notes.stays slot (is.notes.stays slot noted); only = only_both };
      unfailed = was.unfailed ∙ is.unfailed;
    }
