-- What is staged, laid over an image: where it is, and that it is a whole write of the block.
use Rattle.std.proofs.Common.{◌≡◌, ◌∙◌, ◌⊎◌, inl, inr, ℕ, zero, suc, ◌+◌, ◌<◌, Bool, true, false, List, [], ◌∷◌, Option, Some, None, refl, sym, ap, subst, arith, slice_get, ◌&&◌}
use Rattle.std.specs.Prelude.{find, ◌==◌, slice_index_or, if◌then◌else◌}
use Rattle.std.proofs.lemmas.Bool.{eq-eqb, eqb-true}
use Rattle.ddf_lemmas.proofs.Options.{some_is}
use Rattle.ddf_lemmas.proofs.Tests.{and_first, and_second}
use Rattle.ddf_bay.specs.Sectors.{Image}
use Rattle.ddf_array.specs.declared.part.Part.{Part}
use Rattle.ddf_array.specs.declared.site.Site.{Site}
use Rattle.ddf_array.specs.Apart.{IsApart}
use Rattle.ddf_array.specs.Places.{site_on}
use Rattle.ddf_array.specs.Sources.{copies}
use Rattle.ddf_array.specs.Volume.{Volume, IsVolume}
use Rattle.ddf_cells.proofs.CopiesOn.{block_at_sits, on_position}
use Rattle.ddf_cells.proofs.OnCells.{block_below, no_parity, on_cell, one_place}
use Rattle.ddf_write.specs.Writing.{IsParityAt, MayGive}
use Rattle.ddf_stage.specs.declared.desk.StageCell.{StageCell}
use Rattle.ddf_stage.specs.declared.desk.Staged.{Staged}
use Rattle.ddf_stage.specs.Laid.{is_at, laid, sector_of}
use Rattle.ddf_stage_data.specs.Staged.{IsStaged}
use Rattle.ddf_stage_data.specs.Moments.{AreCellsOf, IsAmongCells, IsRight, IsStageCell, parity_of, value_of}

-- ---- the cell that is found at a sector

pub record FoundAt (s l : ℕ) (cells : List StageCell) (cell : StageCell) : Type 0 where
  pub number : ℕ
  pub is_cell : slice_get cells number ≡ Some cell
  pub on_slot : cell.slot ≡ s
  pub at : cell.lba ≡ l

module _ (s l : ℕ) where
  found_by : (first cell : StageCell) (rest : List StageCell) (b : Bool) → is_at s l first ≡ b → (if b then Some first else find (is_at s l) rest) ≡ Some cell
      → (find (is_at s l) rest ≡ Some cell → FoundAt s l rest cell) → FoundAt s l (first ∷ rest) cell
  found_by first cell rest true test e later =
      let same : first ≡ cell = some_is e in
      record {
        number = 0;
        is_cell = ap Some same;
        on_slot = ap (λ (c : StageCell). c.slot) (sym same) ∙ eqb-true first.slot s (and_first (first.slot == s) (first.lba == l) test);
        at = ap (λ (c : StageCell). c.lba) (sym same) ∙ eqb-true first.lba l (and_second (first.slot == s) (first.lba == l) test);
      }
  found_by first cell rest false test e later =
      let found = later e in record { number = suc found.number; is_cell = found.is_cell; on_slot = found.on_slot; at = found.at }

  pub found_at : (cells : List StageCell) (cell : StageCell) → find (is_at s l) cells ≡ Some cell → FoundAt s l cells cell
  found_at [] cell e = absurd (cc)
  found_at (first ∷ rest) cell e = found_by first cell rest (is_at s l first) refl e (found_at rest cell)

  here : (cell : StageCell) → cell.slot ≡ s → cell.lba ≡ l → is_at s l cell ≡ true
  here cell on at = ap (λ b. b && (cell.lba == l)) (eq-eqb cell.slot s on) ∙ eq-eqb cell.lba l at

  some_by : (first cell : StageCell) (rest : List StageCell) (b : Bool) → ((other : StageCell) × (find (is_at s l) rest ≡ Some other)) → (other : StageCell) × ((if b then Some first else find (is_at s l) rest) ≡ Some other)
  some_by first cell rest true later = (first, refl)
  some_by first cell rest false later = later

  -- where one of the cells is there, one is found
  pub some_found : (cells : List StageCell) (k : ℕ) (cell : StageCell) → slice_get cells k ≡ Some cell → cell.slot ≡ s → cell.lba ≡ l → (other : StageCell) × (find (is_at s l) cells ≡ Some other)
  some_found [] k cell e on at = absurd (cc)
  some_found (first ∷ rest) zero cell e on at =
      let same : first ≡ cell = some_is e in
      (first, ap (λ (b : Bool). if b then Some first else find (is_at s l) rest) (here first (ap (λ (c : StageCell). c.slot) same ∙ on) (ap (λ (c : StageCell). c.lba) same ∙ at)))
  some_found (first ∷ rest) (suc k) cell e on at = some_by first cell rest (is_at s l first) (some_found rest k cell e on at)

-- ---- a whole write

module _ (v : Volume) (known : IsVolume v) (apart : IsApart v) (staged : Staged) (cells : List StageCell) (are : AreCellsOf v staged cells) (before : Image) (right : IsRight v staged before) where
  abbrev over : Image
  over = laid staged cells before

  abbrev block : ℕ
  block = staged.gate.block

  laid_some : (s l : ℕ) (cell : StageCell) → find (is_at s l) cells ≡ Some cell → over s l ≡ sector_of staged cell
  laid_some s l cell e = ap (λ (o : Option StageCell). elim o [ None ↦ before s l | Some cell ↦ sector_of staged cell ]) e

  -- a copy of the block isn't a parity cell
  never : (i : ℕ) (one : Site) → slice_get (copies v block) i ≡ Some one → (element sector : ℕ) (part : Part) → IsParityAt v block 1 element sector part one → ⊥
  never i one at element sector part is =
      let its = on_position v known block i one at in
      let cell = on_cell v known its.element its.position block one its.on in
      let sits = block_at_sits v known element is.touched.position sector (block + is.touched.k) is.touched.holds_it in
      let part_same : sits.part ≡ part = some_is (sym sits.is_part ∙ is.is_part) in
      let within = subst (λ (q : Part). sector < q.shape.blocks) part_same (block_below v known element is.touched.position sector (block + is.touched.k) sits) in
      no_parity v known apart its.element its.position block element is.position sector part one cell is.is_part is.is_parity within is.is_there

  same_element : (one : Site) (e f x y : ℕ) (p q : Part) → IsParityAt v block 1 e x p one → IsParityAt v block 1 f y q one → e ≡ f
  same_element one e f x y p q first second =
      let sits = block_at_sits v known e first.touched.position x (block + first.touched.k) first.touched.holds_it in
      let part_same : sits.part ≡ p = some_is (sym sits.is_part ∙ first.is_part) in
      let within = subst (λ (r : Part). x < r.shape.blocks) part_same (block_below v known e first.touched.position x (block + first.touched.k) sits) in
      let sits' = block_at_sits v known f second.touched.position y (block + second.touched.k) second.touched.holds_it in
      let part_same' : sits'.part ≡ q = some_is (sym sits'.is_part ∙ second.is_part) in
      let within' = subst (λ (r : Part). y < r.shape.blocks) part_same' (block_below v known f second.touched.position y (block + second.touched.k) sits') in
      (one_place v apart e first.position x f second.position y p q one first.is_part second.is_part within within' first.is_there second.is_there).element_is

  -- the site of a cell that is found
  site_of : (one : Site) (cell : StageCell) → FoundAt one.slot one.lba cells cell → site_on cell.slot cell.lba ≡ one
  site_of one cell found = ap (λ (n : ℕ). site_on n cell.lba) found.on_slot ∙ ap (site_on one.slot) found.at

  copy_by : (i : ℕ) (one : Site) → slice_get (copies v block) i ≡ Some one → (cell : StageCell) → FoundAt one.slot one.lba cells cell → IsStageCell v staged cell → sector_of staged cell ≡ value_of staged
  copy_by i one at cell found (inl of_block) = ap (λ (n : ℕ). slice_index_or staged.sectors n []) of_block.1
  copy_by i one at cell found (inr of_parity) =
      absurd (never i one at of_parity.0 of_parity.1 of_parity.2 (subst (IsParityAt v block 1 of_parity.0 of_parity.1 of_parity.2) (site_of one cell found) of_parity.5))

  parity_by : (element sector : ℕ) (part : Part) (one : Site) → IsParityAt v block 1 element sector part one → (cell : StageCell) → FoundAt one.slot one.lba cells cell → IsStageCell v staged cell
      → sector_of staged cell ≡ parity_of staged element
  parity_by element sector part one is cell found (inl of_block) =
      absurd (never of_block.0 one (of_block.2 ∙ ap Some (site_of one cell found)) element sector part is)
  parity_by element sector part one is cell found (inr of_parity) =
      let its = subst (IsParityAt v block 1 of_parity.0 of_parity.1 of_parity.2) (site_of one cell found) of_parity.5 in
      let same = same_element one of_parity.0 element of_parity.1 sector of_parity.2 part its is in
      ap (λ (n : ℕ). slice_index_or staged.sectors n []) (of_parity.3 ∙ ap (λ (n : ℕ). 1 + n) same)

  found_for : (one : Site) → IsAmongCells cells one → (cell : StageCell) × FoundAt one.slot one.lba cells cell × (over one.slot one.lba ≡ sector_of staged cell)
  found_for one among =
      let some = some_found one.slot one.lba cells among.number among.cell among.is_cell among.on_slot among.at in
      (some.0, found_at one.slot one.lba cells some.0 some.1, laid_some one.slot one.lba some.0 some.1)

  others_by : (s l : ℕ) (o : Option StageCell) → find (is_at s l) cells ≡ o → (over s l ≡ before s l) ⊎ MayGive v block (value_of staged ∷ []) s l (over s l)
  others_by s l None e = inl (ap (λ (o : Option StageCell). elim o [ None ↦ before s l | Some cell ↦ sector_of staged cell ]) e)
  others_by s l (Some cell) e =
      let found = found_at s l cells cell e in
      inr (subst (λ (bytes : List ℕ). MayGive v block (value_of staged ∷ []) s l bytes) (sym (laid_some s l cell e)) (gives s l cell found (are.are found.number cell found.is_cell)))
    where
      gives : (s l : ℕ) (cell : StageCell) → FoundAt s l cells cell → IsStageCell v staged cell → MayGive v block (value_of staged ∷ []) s l (sector_of staged cell)
      gives s l cell found (inl of_block) =
          let zeroth : block ≡ block + 0 = omega arith in
          inl (
            record {
              k = 0;
              below = omega arith;
              i = of_block.0;
              is_cell = ap (λ (n : ℕ). slice_get (copies v n) of_block.0) (sym zeroth) ∙ of_block.2 ∙ ap Some (site_of (site_on s l) cell found);
            },
            ap (λ (n : ℕ). slice_index_or staged.sectors n []) of_block.1,
          )
      gives s l cell found (inr of_parity) =
          inr (record {
            element = of_parity.0;
            sector = of_parity.1;
            part = of_parity.2;
            is_at = subst (IsParityAt v block 1 of_parity.0 of_parity.1 of_parity.2) (site_of (site_on s l) cell found) of_parity.5;
          })

  pub laid_is_staged : IsStaged v block (value_of staged) before over
  laid_is_staged = record {
    cells = λ i one at.
        let found = found_for one (are.of_block i one at) in
        found.2 ∙ copy_by i one at found.0 found.1 (are.are found.1.number found.0 found.1.is_cell);
    parity = λ element sector part one is.
        let known_right = right element sector part one is in
        let found = found_for one (are.of_parity element sector part one is known_right.0) in
        found.2 ∙ parity_by element sector part one is found.0 found.1 (are.are found.1.number found.0 found.1.is_cell) ∙ known_right.1;
    others = λ s l. others_by s l (find (is_at s l) cells) refl;
  }
