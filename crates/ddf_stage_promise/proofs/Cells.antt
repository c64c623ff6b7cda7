-- The cells that a gate names are all cells of its block and of its rows' parity; and what remains of them where an array has less.
use Rattle.std.proofs.Common.{◌≡◌, ◌∙◌, inl, inr, ⊎_elim, ℕ, ◌+◌, ◌/◌, ◌<◌, Bool, true, false, List, [], Option, Some, None, refl, sym, ap, subst, arith, map, slice_get}
use Rattle.std.specs.Prelude.{find, option_and_then, if◌then◌else◌}
use Rattle.std.specs.List.{flat_map}
use Rattle.ddf_lemmas.proofs.Lists.{first_get, get_filter_map, in_either, in_map, in_second, mapped_at}
use Rattle.ddf_lemmas.proofs.Options.{some_is}
use Rattle.ddf_primary.specs.Placement.{Placement}
use Rattle.ddf_primary.specs.Cells.{parity_member}
use Rattle.ddf_secondary.specs.declared.spot.Spot.{Spot}
use Rattle.ddf_array.specs.declared.part.Part.{Part}
use Rattle.ddf_array.specs.declared.site.Site.{Site}
use Rattle.ddf_array.specs.Apart.{IsApart}
use Rattle.ddf_array.specs.Cells.{block_spots, element_cells}
use Rattle.ddf_array.specs.Places.{site_at, site_on}
use Rattle.ddf_array.specs.Sources.{at_spot, copies}
use Rattle.ddf_array.specs.Volume.{Volume, IsVolume}
use Rattle.ddf_array.proofs.Consistent.{to_flat, at_part, in_filter, in_flat}
use Rattle.ddf_cells.specs.Alike.{IsCell}
use Rattle.ddf_cells.proofs.Alike.{cell_below, cell_site, copy_is_cell}
use Rattle.ddf_cells.proofs.CopiesOn.{block_at_sits, on_position, sits_block_at}
use Rattle.ddf_cells.proofs.OnCells.{block_below, no_parity, on_cell, one_place}
use Rattle.ddf_write.specs.Writing.{IsParityAt}
use Rattle.ddf_data_array.proofs.From.{HasCell, copy_from, copy_to}
use Rattle.ddf_data_array.proofs.Sitting.{block_at_is, held_from}
use Rattle.ddf_stage.specs.declared.desk.StageCell.{StageCell}
use Rattle.ddf_stage.specs.declared.desk.Staged.{Staged}
use Rattle.ddf_stage.specs.Laid.{is_at}
use Rattle.ddf_stage_data.specs.Moments.{AreCellsOf, IsAmongCells, IsStageCell, is_set}
use Rattle.ddf_stage_data.proofs.Laid.{found_at, some_found}
use Rattle.ddf_stage_promise.specs.Cells.{cells_of, copy_cell, element_parities, parity_cell, row_parity, spot_parities}
use Rattle.ddf_stage_promise.proofs.Remains.{Remains, sits_down, sits_up, site_down, site_up, spots_same}

-- ---- they are all

module _ (v : Volume) (known : IsVolume v) (staged : Staged) where
  abbrev block : ℕ
  block = staged.gate.block

  abbrev copy_cells : List StageCell
  copy_cells = map copy_cell (copies v staged.gate.block)

  abbrev parity_cells : List StageCell
  parity_cells = flat_map (spot_parities v staged.gate.parities) (block_spots v staged.gate.block)

  row_by : (part : Part) (sector : ℕ) (one : Site) (found : Option ℕ) → parity_member part.shape (sector / part.shape.strip) ≡ found → option_and_then (λ position. site_at part.places position sector) found ≡ Some one
      → (position : ℕ) × (parity_member part.shape (sector / part.shape.strip) ≡ Some position) × (site_at part.places position sector ≡ Some one)
  row_by part sector one None is e = absurd (cc)
  row_by part sector one (Some position) is e = (position, is, e)

  site_cell : (cell : StageCell) (e : ℕ) (one : Site) → parity_cell e one ≡ cell → one ≡ site_on cell.slot cell.lba
  site_cell cell e one same = ap (λ (c : StageCell). site_on c.slot c.lba) same

  parity_in : (j inner : ℕ) (spot : Spot) (cell : StageCell) → slice_get (block_spots v staged.gate.block) j ≡ Some spot → is_set staged.gate.parities spot.element ≡ true
      → (found : Option Part) → slice_get v.parts spot.element ≡ found → (one : Site) → slice_get (elim found [ None ↦ [] | Some part ↦ element_parities part spot.block ]) inner ≡ Some one
      → parity_cell spot.element one ≡ cell → IsStageCell v staged cell
  parity_in j inner spot cell is_spot set None part_at one at same = absurd (cc)
  parity_in j inner spot cell is_spot set (Some part) part_at one at same =
      let from = in_filter (λ (c : ℕ × ℕ). row_parity part c.1) (element_cells part.shape spot.block) inner one at in
      let has : HasCell v staged.gate.block = record { j = j; spot = spot; is_spot = is_spot; part = part; is_part = part_at; i = from.at; cell = from.item; is_cell = from.is_at } in
      let row = row_by part from.item.1 one (parity_member part.shape (from.item.1 / part.shape.strip)) refl from.gives in
      let zeroth : staged.gate.block ≡ staged.gate.block + 0 = omega arith in
      inr (
        spot.element,
        from.item.1,
        part,
        ap (λ (c : StageCell). c.from) (sym same),
        set,
        subst (IsParityAt v staged.gate.block 1 spot.element from.item.1 part) (site_cell cell spot.element one same)
            (record {
              touched = record { position = from.item.0; k = 0; below = omega arith; holds_it = block_at_is v known staged.gate.block has ∙ ap Some zeroth };
              is_part = part_at;
              position = row.0;
              is_parity = row.1;
              is_there = row.2;
            }),
      )

  spot_in : (j inner : ℕ) (spot : Spot) (cell : StageCell) → slice_get (block_spots v staged.gate.block) j ≡ Some spot → (set : Bool) → is_set staged.gate.parities spot.element ≡ set
      → slice_get (if set then map (parity_cell spot.element) (at_spot v.parts element_parities spot) else []) inner ≡ Some cell → IsStageCell v staged cell
  spot_in j inner spot cell is_spot true set at =
      let from = in_map (parity_cell spot.element) (at_spot v.parts element_parities spot) inner cell at in
      parity_in j inner spot cell is_spot set (slice_get v.parts spot.element) refl from.0 from.1 from.2
  spot_in j inner spot cell is_spot false set at = absurd (cc)

  cell_in : (k : ℕ) (cell : StageCell) → slice_get (cells_of v staged.gate) k ≡ Some cell → IsStageCell v staged cell
  cell_in k cell at =
      ⊎_elim
      (λ front.
      let from = in_map copy_cell (copies v staged.gate.block) front.0 cell front.1 in
      inl (front.0, ap (λ (c : StageCell). c.from) (sym from.2), from.1 ∙ ap (λ (c : StageCell). Some (site_on c.slot c.lba)) from.2))
      (λ back.
      let from = in_flat (spot_parities v staged.gate.parities) (block_spots v staged.gate.block) back.0 cell back.1 in
      spot_in from.at from.inner from.item cell from.is_at (is_set staged.gate.parities from.item.element) refl from.is_inner)
      (in_either (map copy_cell (copies v staged.gate.block)) (flat_map (spot_parities v staged.gate.parities) (block_spots v staged.gate.block)) k cell at)

  copy_among : (i : ℕ) (one : Site) → slice_get (copies v staged.gate.block) i ≡ Some one → IsAmongCells (cells_of v staged.gate) one
  copy_among i one at =
      record {
        number = i;
        cell = copy_cell one;
        is_cell = first_get copy_cells parity_cells i (copy_cell one) (mapped_at copy_cell (copies v staged.gate.block) i one at);
        on_slot = refl;
        at = refl;
      }

  parity_among : (element sector : ℕ) (part : Part) (one : Site) → IsParityAt v staged.gate.block 1 element sector part one → is_set staged.gate.parities element ≡ true → IsAmongCells (cells_of v staged.gate) one
  parity_among element sector part one is set =
      let none : staged.gate.block + is.touched.k ≡ staged.gate.block = omega (arith, is.touched.below) in
      let held = held_from v known element part is.touched.position sector staged.gate.block is.is_part (is.touched.holds_it ∙ ap Some none) in
      let has = held.has in
      let gives : row_parity part sector ≡ Some one = ap (λ (o : Option ℕ). option_and_then (λ position. site_at part.places position sector) o) is.is_parity ∙ is.is_there in
      let sector_is : has.cell.1 ≡ sector = ap (λ (c : ℕ × ℕ). c.1) held.same_cell in
      let gives' : row_parity has.part has.cell.1 ≡ Some one = ap (λ (q : Part). row_parity q has.cell.1) held.same_part ∙ ap (row_parity part) sector_is ∙ gives in
      let inner = get_filter_map (λ (c : ℕ × ℕ). row_parity has.part c.1) (element_cells has.part.shape has.spot.block) has.i has.cell one has.is_cell gives' in
      let there : slice_get (at_spot v.parts element_parities has.spot) inner.0 ≡ Some one =
      ap (λ (l : List Site). slice_get l inner.0) (at_part v.parts element_parities has.spot has.part has.is_part) ∙ inner.1 in
      let mapped = mapped_at (parity_cell has.spot.element) (at_spot v.parts element_parities has.spot) inner.0 one there in
      let set' : is_set staged.gate.parities has.spot.element ≡ true = ap (is_set staged.gate.parities) held.same_element ∙ set in
      let of_spot : slice_get (spot_parities v staged.gate.parities has.spot) inner.0 ≡ Some (parity_cell has.spot.element one) =
      ap (λ (b : Bool). slice_get (if b then map (parity_cell has.spot.element) (at_spot v.parts element_parities has.spot) else []) inner.0) set' ∙ mapped in
      let flat = to_flat (spot_parities v staged.gate.parities) (block_spots v staged.gate.block) has.j inner.0 has.spot (parity_cell has.spot.element one) has.is_spot of_spot in
      let all = in_second copy_cells parity_cells flat.0 (parity_cell has.spot.element one) flat.1 in
      record { number = all.0; cell = parity_cell has.spot.element one; is_cell = all.1; on_slot = refl; at = refl }

  pub are_cells : AreCellsOf v staged (cells_of v staged.gate)
  are_cells = record { are = cell_in; of_block = copy_among; of_parity = parity_among }

  -- ---- each is an available sector

  pub stage_cell_is : (cell : StageCell) → IsStageCell v staged cell → IsCell v cell.slot cell.lba
  stage_cell_is cell (inl of_block) = copy_is_cell v known staged.gate.block of_block.0 (site_on cell.slot cell.lba) of_block.2
  stage_cell_is cell (inr of_parity) =
      let is = of_parity.5 in
      let sits = block_at_sits v known of_parity.0 is.touched.position of_parity.1 (staged.gate.block + is.touched.k) is.touched.holds_it in
      let same : sits.part ≡ of_parity.2 = some_is (sym sits.is_part ∙ is.is_part) in
      let within = subst (λ (q : Part). of_parity.1 < q.shape.blocks) same (block_below v known of_parity.0 is.touched.position of_parity.1 (staged.gate.block + is.touched.k) sits) in
      cell_site v known of_parity.0 of_parity.2 is.is_part is.position of_parity.1 (site_on cell.slot cell.lba) within is.is_there

  -- ---- a sector has one kind of bytes

  module _ (apart : IsApart v) where
    parity_within : (e x : ℕ) (p : Part) (one : Site) → IsParityAt v staged.gate.block 1 e x p one → x < p.shape.blocks
    parity_within e x p one is =
        let sits = block_at_sits v known e is.touched.position x (staged.gate.block + is.touched.k) is.touched.holds_it in
        let same : sits.part ≡ p = some_is (sym sits.is_part ∙ is.is_part) in
        subst (λ (q : Part). x < q.shape.blocks) same (block_below v known e is.touched.position x (staged.gate.block + is.touched.k) sits)

    not_both : (i : ℕ) (one : Site) → slice_get (copies v staged.gate.block) i ≡ Some one → (e x : ℕ) (p : Part) → IsParityAt v staged.gate.block 1 e x p one → ⊥
    not_both i one at e x p is =
        let its = on_position v known staged.gate.block i one at in
        let cell = on_cell v known its.element its.position staged.gate.block one its.on in
        no_parity v known apart its.element its.position staged.gate.block e is.position x p one cell is.is_part is.is_parity (parity_within e x p one is) is.is_there

    pub one_kind : (one other : StageCell) → one.slot ≡ other.slot → one.lba ≡ other.lba → IsStageCell v staged one → IsStageCell v staged other → one.from ≡ other.from
    one_kind one other slots lbas (inl first) (inl second) = first.1 ∙ sym second.1
    one_kind one other slots lbas (inl first) (inr second) =
        absurd (not_both first.0 (site_on one.slot one.lba) first.2 second.0 second.1 second.2
        (subst (IsParityAt v staged.gate.block 1 second.0 second.1 second.2) (ap (λ (s : ℕ). site_on s other.lba) (sym slots) ∙ ap (site_on one.slot) (sym lbas)) second.5))
    one_kind one other slots lbas (inr first) (inl second) =
        absurd (not_both second.0 (site_on other.slot other.lba) second.2 first.0 first.1 first.2
        (subst (IsParityAt v staged.gate.block 1 first.0 first.1 first.2) (ap (λ (s : ℕ). site_on s one.lba) slots ∙ ap (site_on other.slot) lbas) first.5))
    one_kind one other slots lbas (inr first) (inr second) =
        let its = subst (IsParityAt v staged.gate.block 1 first.0 first.1 first.2) (ap (λ (s : ℕ). site_on s one.lba) slots ∙ ap (site_on other.slot) lbas) first.5 in
        let same = one_place v apart first.0 its.position first.1 second.0 second.5.position second.1 first.2 second.2 (site_on other.slot other.lba) its.is_part second.5.is_part
        (parity_within first.0 first.1 first.2 (site_on other.slot other.lba) its) (parity_within second.0 second.1 second.2 (site_on other.slot other.lba) second.5) its.is_there second.5.is_there in
        first.3 ∙ ap (λ (n : ℕ). 1 + n) same.element_is ∙ sym second.3

-- ---- what remains of them

module _ (v w : Volume) (known : IsVolume v) (w_known : IsVolume w) (apart : IsApart v) (remains : Remains v w) (staged : Staged) where
  abbrev its_block : ℕ
  its_block = staged.gate.block

  -- a copy that remains was one
  copy_up : (i : ℕ) (one : Site) → slice_get (copies w staged.gate.block) i ≡ Some one → (k : ℕ) × (slice_get (copies v staged.gate.block) k ≡ Some one)
  copy_up i one at =
      let from = copy_from w staged.gate.block i one at in
      let up = site_up v w remains from.spot.element from.cell.0 from.cell.1 from.part one from.is_part from.gives in
      copy_to v staged.gate.block one (record {
        j = from.j;
        spot = from.spot;
        is_spot = ap (λ (l : List Spot). slice_get l from.j) (sym (spots_same v w remains staged.gate.block)) ∙ from.is_spot;
        part = up.0;
        is_part = up.1;
        i = from.i;
        cell = from.cell;
        is_cell = ap (λ (q : Placement). slice_get (element_cells q from.spot.block) from.i) (sym up.2) ∙ from.is_cell;
        gives = up.3;
      })

  copy_down : (i : ℕ) (one : Site) → slice_get (copies v staged.gate.block) i ≡ Some one → IsCell w one.slot one.lba → (k : ℕ) × (slice_get (copies w staged.gate.block) k ≡ Some one)
  copy_down i one at cell =
      let from = copy_from v staged.gate.block i one at in
      let below = cell_below v known from.spot.element from.part from.is_part from.spot.block from.i from.cell from.is_cell in
      let down = site_down v w remains apart from.spot.element from.cell.0 from.cell.1 from.part one from.is_part below from.gives cell in
      copy_to w staged.gate.block one (record {
        j = from.j;
        spot = from.spot;
        is_spot = ap (λ (l : List Spot). slice_get l from.j) (spots_same v w remains staged.gate.block) ∙ from.is_spot;
        part = down.0;
        is_part = down.1;
        i = from.i;
        cell = from.cell;
        is_cell = ap (λ (q : Placement). slice_get (element_cells q from.spot.block) from.i) down.2 ∙ from.is_cell;
        gives = down.3;
      })

  parity_up : (e x : ℕ) (q : Part) (one : Site) → IsParityAt w staged.gate.block 1 e x q one → (p : Part) × IsParityAt v staged.gate.block 1 e x p one
  parity_up e x q one is =
      let sits = sits_up v w remains e is.touched.position x (staged.gate.block + is.touched.k) (block_at_sits w w_known e is.touched.position x (staged.gate.block + is.touched.k) is.touched.holds_it) in
      let up = site_up v w remains e is.position x q one is.is_part is.is_there in (
        up.0,
        record {
          touched = record {
            position = is.touched.position;
            k = is.touched.k;
            below = is.touched.below;
            holds_it = sits_block_at v known e is.touched.position x (staged.gate.block + is.touched.k) sits;
          };
          is_part = up.1;
          position = is.position;
          is_parity = ap (λ (s : Placement). parity_member s (x / s.strip)) (sym up.2) ∙ is.is_parity;
          is_there = up.3;
        },
      )

  parity_down : (e x : ℕ) (p : Part) (one : Site) → IsParityAt v staged.gate.block 1 e x p one → IsCell w one.slot one.lba → (q : Part) × IsParityAt w staged.gate.block 1 e x q one
  parity_down e x p one is cell =
      let own = block_at_sits v known e is.touched.position x (staged.gate.block + is.touched.k) is.touched.holds_it in
      let same : own.part ≡ p = some_is (sym own.is_part ∙ is.is_part) in
      let within = subst (λ (r : Part). x < r.shape.blocks) same (block_below v known e is.touched.position x (staged.gate.block + is.touched.k) own) in
      let sits = sits_down v w remains e is.touched.position x (staged.gate.block + is.touched.k) own in
      let down = site_down v w remains apart e is.position x p one is.is_part within is.is_there cell in (
        down.0,
        record {
          touched = record {
            position = is.touched.position;
            k = is.touched.k;
            below = is.touched.below;
            holds_it = sits_block_at w w_known e is.touched.position x (staged.gate.block + is.touched.k) sits;
          };
          is_part = down.1;
          position = is.position;
          is_parity = ap (λ (s : Placement). parity_member s (x / s.strip)) down.2 ∙ is.is_parity;
          is_there = down.3;
        },
      )

  stage_up : (cell : StageCell) → IsStageCell w staged cell → IsStageCell v staged cell
  stage_up cell (inl of_block) = let up = copy_up of_block.0 (site_on cell.slot cell.lba) of_block.2 in inl (up.0, of_block.1, up.1)
  stage_up cell (inr of_parity) =
      let up = parity_up of_parity.0 of_parity.1 of_parity.2 (site_on cell.slot cell.lba) of_parity.5 in
      inr (of_parity.0, of_parity.1, up.0, of_parity.3, of_parity.4, up.1)

  stage_down : (cell : StageCell) → IsStageCell v staged cell → IsCell w cell.slot cell.lba → IsStageCell w staged cell
  stage_down cell (inl of_block) there = let down = copy_down of_block.0 (site_on cell.slot cell.lba) of_block.2 there in inl (down.0, of_block.1, down.1)
  stage_down cell (inr of_parity) there =
      let down = parity_down of_parity.0 of_parity.1 of_parity.2 (site_on cell.slot cell.lba) of_parity.5 there in
      inr (of_parity.0, of_parity.1, down.0, of_parity.3, of_parity.4, down.1)

  among : (u : Volume) (cells : List StageCell) → AreCellsOf u staged cells → (cell : StageCell) → IsStageCell u staged cell → IsAmongCells cells (site_on cell.slot cell.lba)
  among u cells are cell (inl of_block) = are.of_block of_block.0 (site_on cell.slot cell.lba) of_block.2
  among u cells are cell (inr of_parity) = are.of_parity of_parity.0 of_parity.1 of_parity.2 (site_on cell.slot cell.lba) of_parity.5 of_parity.4

  cell_of : (slot lba from : ℕ) → StageCell
  cell_of slot lba from = record { slot = slot; lba = lba; from = from }

  same_cell : (one other : StageCell) → one.slot ≡ other.slot → one.lba ≡ other.lba → one.from ≡ other.from → one ≡ other
  unfolding cell_of
  same_cell one other a b c =
      let all : cell_of one.slot one.lba one.from ≡ cell_of other.slot other.lba other.from =
      ap (λ (n : ℕ). cell_of n one.lba one.from) a ∙ ap (λ (n : ℕ). cell_of other.slot n one.from) b ∙ ap (cell_of other.slot other.lba) c in
      all

  -- what is found at a sector that is still available is what was
  module _ (cells fewer : List StageCell) (are : AreCellsOf v staged cells) (fewer_are : AreCellsOf w staged fewer) (s l : ℕ) (there : IsCell w s l) where
    found_is : (o p : Option StageCell) → find (is_at s l) fewer ≡ o → find (is_at s l) cells ≡ p → find (is_at s l) fewer ≡ find (is_at s l) cells
    found_is None None is is' = is ∙ sym is'
    found_is None (Some cell) is is' =
        let at = found_at s l cells cell is' in
        let kind = are.are at.number cell at.is_cell in
        let its = among w fewer fewer_are cell (stage_down cell kind (subst (λ (n : ℕ). IsCell w n cell.lba) (sym at.on_slot) (subst (λ (n : ℕ). IsCell w s n) (sym at.at) there))) in
        let some = some_found s l fewer its.number its.cell its.is_cell (its.on_slot ∙ at.on_slot) (its.at ∙ at.at) in
        absurd (let both : None ≡ Some some.0 = sym is ∙ some.1 in cc)
    found_is (Some cell) None is is' =
        let at = found_at s l fewer cell is in
        let kind = stage_up cell (fewer_are.are at.number cell at.is_cell) in
        let its = among v cells are cell kind in
        let some = some_found s l cells its.number its.cell its.is_cell (its.on_slot ∙ at.on_slot) (its.at ∙ at.at) in
        absurd (let both : None ≡ Some some.0 = sym is' ∙ some.1 in cc)
    found_is (Some cell) (Some other) is is' =
        let at = found_at s l fewer cell is in
        let at' = found_at s l cells other is' in
        let same = same_cell cell other (at.on_slot ∙ sym at'.on_slot) (at.at ∙ sym at'.at)
        (one_kind v known staged apart cell other (at.on_slot ∙ sym at'.on_slot) (at.at ∙ sym at'.at) (stage_up cell (fewer_are.are at.number cell at.is_cell)) (are.are at'.number other at'.is_cell)) in
        is ∙ ap Some same ∙ sym is'

    pub found_same : find (is_at s l) fewer ≡ find (is_at s l) cells
    found_same = found_is (find (is_at s l) fewer) (find (is_at s l) cells) refl refl

  -- what is found of fewer is still available
  pub fewer_is : (s l : ℕ) (cell : StageCell) (fewer : List StageCell) → AreCellsOf w staged fewer → find (is_at s l) fewer ≡ Some cell → IsCell w s l
  fewer_is s l cell fewer are e =
      let at = found_at s l fewer cell e in
      subst (λ (n : ℕ). IsCell w n l) at.on_slot (subst (λ (n : ℕ). IsCell w cell.slot n) at.at (stage_cell_is w w_known staged cell (are.are at.number cell at.is_cell)))

-- what is found is an available sector
pub found_cell : (v : Volume) → IsVolume v → (staged : Staged) (s l : ℕ) (cell : StageCell) (cells : List StageCell) → AreCellsOf v staged cells → find (is_at s l) cells ≡ Some cell → IsCell v s l
found_cell v known staged s l cell cells are e =
    let at = found_at s l cells cell e in
    subst (λ (n : ℕ). IsCell v n l) at.on_slot (subst (λ (n : ℕ). IsCell v cell.slot n) at.at (stage_cell_is v known staged cell (are.are at.number cell at.is_cell)))
