-- An array over fewer seats, or with positions that were put out of sync: what remains of its cells.
use Rattle.std.proofs.Common.{◌≡◌, ◌∙◌, ◌⊎◌, inl, inr, ⊎_elim, ℕ, zero, suc, ◌+◌, ◌<◌, Bool, true, false, List, [], ◌∷◌, Option, Some, None, refl, sym, ap, subst, map, filter_map, length, slice_get}
use Rattle.std.specs.Prelude.{option_map, option_and_then, if◌then◌else◌}
use Rattle.std.specs.List.{cons_option}
use Rattle.std.specs.Result.{result_ok}
use Rattle.ddf_lemmas.proofs.Options.{some_is}
use Rattle.ddf_primary.specs.Placement.{Placement}
use Rattle.ddf_primary.specs.Levels.{shape_of}
use Rattle.ddf_primary.specs.Cells as cells_of
use Rattle.ddf_secondary.specs.Arrangement.{Arrangement}
use Rattle.ddf_secondary.specs.Spots as spots_of
use Rattle.ddf_config.specs.declared.element.Position.{Position}
use Rattle.ddf_config.specs.declared.seat.Seat.{Seat}
use Rattle.ddf_config.specs.ElementValue.{ElementValue, with_disks}
use Rattle.ddf_config.specs.Extents.{extent}
use Rattle.ddf_config.specs.Shapes.{element_shape, strip_sectors}
use Rattle.ddf_array.specs.declared.part.Part.{Part}
use Rattle.ddf_array.specs.declared.place.Place.{Place}
use Rattle.ddf_array.specs.declared.site.Site.{Site}
use Rattle.ddf_array.specs.Apart.{IsApart}
use Rattle.ddf_array.specs.Cells.{block_spots, spots_like}
use Rattle.ddf_array.specs.Losing.{AreFewer}
use Rattle.ddf_array.specs.Places.{site, site_at, site_on}
use Rattle.ddf_array.specs.Viewing.{known_part, place_of, seat_slot}
use Rattle.ddf_array.specs.Volume.{Volume}
use Rattle.ddf_cells.specs.Alike.{IsCell}
use Rattle.ddf_cells.specs.Apart.{LiesAt}
use Rattle.ddf_cells.proofs.OnCells.{Sits, one_place, spot_of}
use Rattle.ddf_cells.proofs.Surely.{of_place}
use Rattle.ddf_data_array.specs.Fewer.{ArePlaces}
use Rattle.ddf_data_group.proofs.Lessened.{slot_lost}

-- ---- places

-- a place starts where it did, on its slot or on none, in sync or not with the rows that it had; or it is out of sync now, with no rows
pub record RemainsPlace (before after : Place) : Type 0 where
  pub same_start : after.start ≡ before.start
  pub slot_is : (after.slot ≡ before.slot) ⊎ (after.slot ≡ None)
  pub sync_is : ((after.synced ≡ before.synced) × (after.row ≡ before.row)) ⊎ ((after.synced ≡ false) × (after.row ≡ 0))

abbrev pub AreRemaining : List Part → List Part → Type 0
AreRemaining [] [] = Unit {0}
AreRemaining [] (after ∷ afters) = ⊥
AreRemaining (before ∷ befores) [] = ⊥
AreRemaining (before ∷ befores) (after ∷ afters) = ((after.shape ≡ before.shape) × ArePlaces RemainsPlace before.places after.places) × AreRemaining befores afters

-- the same array, of which less may be available
pub record Remains (v w : Volume) : Type 0 where
  pub same_tiers : w.tiers ≡ v.tiers
  pub parts : AreRemaining v.parts w.parts

-- the place that stood there
pub record HadPlace (befores : List Place) (position : ℕ) (after : Place) : Type 0 where
  pub before : Place
  pub is_place : slice_get befores position ≡ Some before
  pub remains : RemainsPlace before after

had_place : (befores afters : List Place) → ArePlaces RemainsPlace befores afters → (position : ℕ) (after : Place) → slice_get afters position ≡ Some after → HadPlace befores position after
had_place [] [] are position after at = absurd (cc)
had_place [] (a ∷ afters) are position after at = absurd are
had_place (b ∷ befores) [] are position after at = absurd are
had_place (b ∷ befores) (a ∷ afters) are zero after at = let same : a ≡ after = some_is at in record { before = b; is_place = refl; remains = subst (RemainsPlace b) same are.0 }
had_place (b ∷ befores) (a ∷ afters) are (suc position) after at =
    let rest = had_place befores afters are.1 position after at in record { before = rest.before; is_place = rest.is_place; remains = rest.remains }

pub record HadPart (befores : List Part) (element : ℕ) (after : Part) : Type 0 where
  pub before : Part
  pub is_part : slice_get befores element ≡ Some before
  pub same_shape : after.shape ≡ before.shape
  pub places : ArePlaces RemainsPlace before.places after.places

had_part : (befores afters : List Part) → AreRemaining befores afters → (element : ℕ) (after : Part) → slice_get afters element ≡ Some after → HadPart befores element after
had_part [] [] are element after at = absurd (cc)
had_part [] (a ∷ afters) are element after at = absurd are
had_part (b ∷ befores) [] are element after at = absurd are
had_part (b ∷ befores) (a ∷ afters) are zero after at =
    let same : a ≡ after = some_is at in subst (HadPart (b ∷ befores) zero) same (record { before = b; is_part = refl; same_shape = are.0.0; places = are.0.1 })
had_part (b ∷ befores) (a ∷ afters) are (suc element) after at =
    let rest = had_part befores afters are.1 element after at in record { before = rest.before; is_part = rest.is_part; same_shape = rest.same_shape; places = rest.places }

-- the part that stands there now
pub record HasPart (afters : List Part) (element : ℕ) (before : Part) : Type 0 where
  pub after : Part
  pub is_part : slice_get afters element ≡ Some after
  pub same_shape : after.shape ≡ before.shape

has_part : (befores afters : List Part) → AreRemaining befores afters → (element : ℕ) (before : Part) → slice_get befores element ≡ Some before → HasPart afters element before
has_part [] [] are element before at = absurd (cc)
has_part [] (a ∷ afters) are element before at = absurd are
has_part (b ∷ befores) [] are element before at = absurd are
has_part (b ∷ befores) (a ∷ afters) are zero before at =
    let same : b ≡ before = some_is at in subst (HasPart (a ∷ afters) zero) same (record { after = a; is_part = refl; same_shape = are.0.0 })
has_part (b ∷ befores) (a ∷ afters) are (suc element) before at =
    let rest = has_part befores afters are.1 element before at in record { after = rest.after; is_part = rest.is_part; same_shape = rest.same_shape }

count_same : (befores afters : List Part) → AreRemaining befores afters → length afters ≡ length befores
count_same [] [] are = refl
count_same [] (a ∷ afters) are = absurd are
count_same (b ∷ befores) [] are = absurd are
count_same (b ∷ befores) (a ∷ afters) are = ap suc (count_same befores afters are.1)

site_by : (synced : Bool) (slot : Option ℕ) (start sector s : ℕ) → synced ≡ true → slot ≡ Some s → ◌≡◌ {A = Option Site} (if synced then option_map (λ t. site_on t (start + sector)) slot else None) (Some (site_on s (start + sector)))
site_by synced slot start sector s sync there =
    ap (λ (b : Bool). if b then option_map (λ t. site_on t (start + sector)) slot else None) sync ∙ ap (option_map (λ t. site_on t (start + sector))) there

-- a place that is in sync on a slot is available there
pub site_there : (places : List Place) (position sector : ℕ) (place : Place) (one : Site) → slice_get places position ≡ Some place → place.synced ≡ true → place.slot ≡ Some one.slot → one.lba ≡ place.start + sector
    → site_at places position sector ≡ Some one
site_there places position sector place one at sync there lba =
    ap (λ (found : Option Place). option_and_then (λ place. site place sector) found) at ∙ site_by place.synced place.slot place.start sector one.slot sync there
    ∙ ap (λ (l : ℕ). Some (site_on one.slot l)) (sym lba)

module _ (v w : Volume) (remains : Remains v w) where
  -- ---- sectors

  -- a sector of an extent was one
  pub lay : (e p x s l : ℕ) → LiesAt w e p x s l → LiesAt v e p x s l
  lay e p x s l lies =
      let part = had_part v.parts w.parts remains.parts e lies.part lies.is_part in
      let place = had_place part.before.places lies.part.places part.places p lies.place lies.is_place in
      record {
        part = part.before;
        place = place.before;
        is_part = part.is_part;
        is_place = place.is_place;
        below = subst (λ (q : Placement). x < q.blocks) part.same_shape lies.below;
        is_there = ⊎_elim (λ same. sym same ∙ lies.is_there) (λ none. absurd (let both : None ≡ Some s = sym none ∙ lies.is_there in cc)) place.remains.slot_is;
        lba_is = lies.lba_is ∙ ap (λ (n : ℕ). n + x) place.remains.same_start;
      }

  -- an available one was available
  pub site_up : (e p x : ℕ) (part : Part) (one : Site) → slice_get w.parts e ≡ Some part → site_at part.places p x ≡ Some one → (before : Part) × (slice_get v.parts e ≡ Some before) × (part.shape ≡ before.shape) × (site_at before.places p x ≡ Some one)
  site_up e p x part one is at =
      let had = had_part v.parts w.parts remains.parts e part is in
      let of = of_place part.places p x one at in
      let place = had_place had.before.places part.places had.places p of.place of.is_place in
      let sync : place.before.synced ≡ true = ⊎_elim (λ same. sym same.0 ∙ of.is_synced) (λ out. absurd (let both : false ≡ true = sym out.0 ∙ of.is_synced in cc)) place.remains.sync_is in
      let there : place.before.slot ≡ Some one.slot = ⊎_elim (λ same. sym same ∙ of.is_there) (λ none. absurd (let both : None ≡ Some one.slot = sym none ∙ of.is_there in cc)) place.remains.slot_is in
      (had.before, had.is_part, had.same_shape, site_there had.before.places p x place.before one place.is_place sync there (of.lba_is ∙ ap (λ (n : ℕ). n + x) place.remains.same_start))

  pub cell_up : (s l : ℕ) → IsCell w s l → IsCell v s l
  cell_up s l cell =
      let up = site_up cell.element cell.position cell.sector cell.part (site_on s l) cell.is_part cell.is_site in
      record { element = cell.element; position = cell.position; sector = cell.sector; part = up.0; is_part = up.1; below = subst (λ (q : Placement). cell.sector < q.blocks) up.2 cell.below; is_site = up.3 }

  -- where it is still available it is so on the same position
  pub site_down : IsApart v → (e p x : ℕ) (before : Part) (one : Site) → slice_get v.parts e ≡ Some before → x < before.shape.blocks → site_at before.places p x ≡ Some one → IsCell w one.slot one.lba
      → (after : Part) × (slice_get w.parts e ≡ Some after) × (after.shape ≡ before.shape) × (site_at after.places p x ≡ Some one)
  site_down apart e p x before one is below at cell =
      let up = site_up cell.element cell.position cell.sector cell.part one cell.is_part cell.is_site in
      let same = one_place v apart cell.element cell.position cell.sector e p x up.0 before one up.1 is (subst (λ (q : Placement). cell.sector < q.blocks) up.2 cell.below) below up.3 at in
      let has = has_part v.parts w.parts remains.parts e before is in
      let part_same : cell.part ≡ has.after = some_is (sym cell.is_part ∙ ap (slice_get w.parts) same.element_is ∙ has.is_part) in (
        has.after,
        has.is_part,
        has.same_shape,
        ap (λ (q : Part). site_at q.places p x) (sym part_same) ∙ ap (λ (n : ℕ). site_at cell.part.places n x) (sym same.position_is) ∙ ap (site_at cell.part.places cell.position) (sym same.sector_is) ∙ cell.is_site,
      )

  -- ---- blocks

  pub spots_same : (block : ℕ) → block_spots w block ≡ block_spots v block
  spots_same block =
      ap (λ (t : Arrangement). elim (slice_get (spots_of.spots t) block) [ None ↦ [] | Some spot ↦ spots_like t.level (length w.parts) spot ]) remains.same_tiers
      ∙ ap (λ (n : ℕ). elim (slice_get (spots_of.spots v.tiers) block) [ None ↦ [] | Some spot ↦ spots_like v.tiers.level n spot ]) (count_same v.parts w.parts remains.parts)

  pub sits_up : (e p x block : ℕ) → Sits w e p x block → Sits v e p x block
  sits_up e p x block sits =
      let had = had_part v.parts w.parts remains.parts e sits.part sits.is_part in
      record {
        part = had.before;
        is_part = had.is_part;
        inner = sits.inner;
        in_element = subst (λ (t : Arrangement). spots_of.Holds t (spot_of e sits.inner) block) remains.same_tiers sits.in_element;
        on_position = subst (λ (q : Placement). cells_of.Holds q p x sits.inner) had.same_shape sits.on_position;
      }

  pub sits_down : (e p x block : ℕ) → Sits v e p x block → Sits w e p x block
  sits_down e p x block sits =
      let has = has_part v.parts w.parts remains.parts e sits.part sits.is_part in
      record {
        part = has.after;
        is_part = has.is_part;
        inner = sits.inner;
        in_element = subst (λ (t : Arrangement). spots_of.Holds t (spot_of e sits.inner) block) (sym remains.same_tiers) sits.in_element;
        on_position = subst (λ (q : Placement). cells_of.Holds q p x sits.inner) (sym has.same_shape) sits.on_position;
      }

  -- ---- positions that are out of sync

  -- the place of a target whose rows count was out of sync before
  pub place_up : (e p : ℕ) (part : Part) (place : Place) → slice_get w.parts e ≡ Some part → slice_get part.places p ≡ Some place
      → (before : Part) × (was : Place) × (slice_get v.parts e ≡ Some before) × (slice_get before.places p ≡ Some was) × RemainsPlace was place
  place_up e p part place is at =
      let had = had_part v.parts w.parts remains.parts e part is in
      let there = had_place had.before.places part.places had.places p place at in
      (had.before, there.before, had.is_part, there.is_place, there.remains)

-- ---- over seats

-- a position refers to the disk and the start that it did, in sync or not with the rows that it had; or it is out of sync now, with no rows
pub record RemainsPosition (before after : Position) : Type 0 where
  pub same_reference : after.reference ≡ before.reference
  pub same_start : after.start ≡ before.start
  pub sync_is : ((after.synced ≡ before.synced) × (after.row ≡ before.row)) ⊎ ((after.synced ≡ false) × (after.row ≡ 0))

abbrev pub ArePositions : List Position → List Position → Type 0
ArePositions [] [] = Unit {0}
ArePositions [] (after ∷ afters) = ⊥
ArePositions (before ∷ befores) [] = ⊥
ArePositions (before ∷ befores) (after ∷ afters) = RemainsPosition before after × ArePositions befores afters

pub record RemainsElement (before after : ElementValue) : Type 0 where
  pub stand_in : ℕ
  pub positions : List Position
  pub is : after ≡ with_disks before stand_in positions
  pub remain : ArePositions before.positions positions

abbrev pub RemainsPart : Option ElementValue → Option ElementValue → Type 0
RemainsPart None None = Unit {0}
RemainsPart None (Some after) = ⊥
RemainsPart (Some before) None = ⊥
RemainsPart (Some before) (Some after) = RemainsElement before after

abbrev pub DoRemain : List (Option ElementValue) → List (Option ElementValue) → Type 0
DoRemain [] [] = Unit {0}
DoRemain [] (after ∷ afters) = ⊥
DoRemain (before ∷ befores) [] = ⊥
DoRemain (before ∷ befores) (after ∷ afters) = RemainsPart before after × DoRemain befores afters

pub positions_stay : (positions : List Position) → ArePositions positions positions
positions_stay [] = tt
positions_stay (one ∷ positions) = (record { same_reference = refl; same_start = refl; sync_is = inl (refl, refl) }, positions_stay positions)

pub parts_stay : (known : List (Option ElementValue)) → DoRemain known known
parts_stay [] = tt
parts_stay (None ∷ known) = (tt, parts_stay known)
parts_stay (Some element ∷ known) = (record { stand_in = element.stand_in; positions = element.positions; is = refl; remain = positions_stay element.positions }, parts_stay known)

pub count_positions : (befores afters : List Position) → ArePositions befores afters → length afters ≡ length befores
count_positions [] [] are = refl
count_positions [] (a ∷ afters) are = absurd are
count_positions (b ∷ befores) [] are = absurd are
count_positions (b ∷ befores) (a ∷ afters) are = ap suc (count_positions befores afters are.1)

pub extent_is : (blocks : ℕ) (before after : Position) → RemainsPosition before after → extent blocks after ≡ extent blocks before
extent_is blocks before after is =
    ap (λ (n : ℕ). record { reference = n; start = after.start; blocks = blocks }) is.same_reference ∙ ap (λ (n : ℕ). record { reference = before.reference; start = n; blocks = blocks }) is.same_start

module _ (seats fewer : List Seat) (few : AreFewer seats fewer) where
  place_remains : (blocks : ℕ) (before after : Position) → RemainsPosition before after → RemainsPlace (place_of seats blocks before) (place_of fewer blocks after)
  place_remains blocks before after is =
      let same = ap (seat_slot fewer) (extent_is blocks before after is) in
      record {
        same_start = is.same_start;
        slot_is = ⊎_elim (λ stays. inl (same ∙ stays)) (λ none. inr (same ∙ none)) (slot_lost seats fewer few (extent blocks before));
        sync_is = is.sync_is;
      }

  places_remain : (blocks : ℕ) (befores afters : List Position) → ArePositions befores afters → ArePlaces RemainsPlace (map (place_of seats blocks) befores) (map (place_of fewer blocks) afters)
  places_remain blocks [] [] are = tt
  places_remain blocks [] (a ∷ afters) are = absurd are
  places_remain blocks (b ∷ befores) [] are = absurd are
  places_remain blocks (b ∷ befores) (a ∷ afters) are = (place_remains blocks b a are.0, places_remain blocks befores afters are.1)

  abbrev part_by : List Seat → List Position → ℕ → Placement → Part
  part_by over positions blocks shape = record { shape = shape; places = map (place_of over blocks) positions }

  part_remains : (before : ElementValue) (positions : List Position) → ArePositions before.positions positions → (found found' : Option Placement) → found' ≡ found → (befores afters : List Part) → AreRemaining befores afters
      → AreRemaining (cons_option (option_map (part_by seats before.positions before.blocks) found) befores) (cons_option (option_map (part_by fewer positions before.blocks) found') afters)
  part_remains before positions are None None same befores afters rest = rest
  part_remains before positions are None (Some s) same befores afters rest = absurd (cc)
  part_remains before positions are (Some s) None same befores afters rest = absurd (cc)
  part_remains before positions are (Some s) (Some s') same befores afters rest =
      let shapes : s' ≡ s = some_is same in ((shapes, places_remain before.blocks before.positions positions are), rest)

  shape_again : (elements : ℕ) (before : ElementValue) (stand_in : ℕ) (positions : List Position) → length positions ≡ length before.positions → element_shape elements (with_disks before stand_in positions) ≡ element_shape elements before
  shape_again elements before stand_in positions many =
      ap (λ (count : ℕ). option_and_then (λ strip. result_ok (shape_of before.level before.qualifier count strip before.blocks)) (strip_sectors elements before)) many

  pub parts_remain : (elements : ℕ) (befores afters : List (Option ElementValue)) → DoRemain befores afters
      → AreRemaining (filter_map (known_part seats elements) befores) (filter_map (known_part fewer elements) afters)
  parts_remain elements [] [] are = tt
  parts_remain elements [] (a ∷ afters) are = absurd are
  parts_remain elements (b ∷ befores) [] are = absurd are
  parts_remain elements (None ∷ befores) (None ∷ afters) are = parts_remain elements befores afters are.1
  parts_remain elements (None ∷ befores) (Some a ∷ afters) are = absurd are.0
  parts_remain elements (Some b ∷ befores) (None ∷ afters) are = absurd are.0
  parts_remain elements (Some b ∷ befores) (Some a ∷ afters) are =
      subst
      (λ (x : ElementValue). AreRemaining (filter_map (known_part seats elements) (Some b ∷ befores)) (filter_map (known_part fewer elements) (Some x ∷ afters))) (sym are.0.is)
      (part_remains b are.0.positions are.0.remain (element_shape elements b) (element_shape elements (with_disks b are.0.stand_in are.0.positions))
      (shape_again elements b are.0.stand_in are.0.positions (count_positions b.positions are.0.positions are.0.remain)) _ _ (parts_remain elements befores afters are.1))
