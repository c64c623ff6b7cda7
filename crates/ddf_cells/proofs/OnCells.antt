-- The cells of blocks on positions: what they are, and that no two blocks share one.
use Rattle.std.proofs.Common.{◌≡◌, ◌∙◌, ℕ, zero, suc, ◌+◌, ◌/◌, ◌<◌, ◌≤◌, Bool, true, false, List, [], ◌∷◌, Option, Some, None, refl, sym, ap, subst, arith, length, slice_get, ◌||◌}
use Rattle.std.specs.Prelude.{◌==◌, option_map, option_and_then, if◌then◌else◌}
use Rattle.std.proofs.lemmas.Bool.{eqb-true}
use Rattle.std.proofs.lemmas.Option.{slice_get_within}
use Rattle.ddf_lemmas.proofs.Options.{some_is}
use Rattle.ddf_primary.specs.Cells as cells_of
use Rattle.ddf_primary.specs.Cells.{depth_of, parity_member}
use Rattle.ddf_primary.specs.Copies.{sector_on}
use Rattle.ddf_primary.proofs.Copies.{on_holds}
use Rattle.ddf_primary.proofs.ShapeFacts.{cell_facts, depth_le}
use Rattle.ddf_secondary.specs.declared.element.ElementSize.{ElementSize}
use Rattle.ddf_secondary.specs.declared.level.SecondaryLevel.{SecondaryLevel}
use Rattle.ddf_secondary.specs.declared.level.SecondaryLevel.TheVariants.{Striped, Mirrored, Concatenated, Spanned}
use Rattle.ddf_secondary.specs.declared.spot.Spot.{Spot}
use Rattle.ddf_secondary.specs.Spots as spots_of
use Rattle.ddf_secondary.specs.Spots.{spots}
use Rattle.ddf_secondary.proofs.SpotFacts.{spot_facts}
use Rattle.ddf_array.specs.declared.part.Part.{Part}
use Rattle.ddf_array.specs.declared.place.Place.{Place}
use Rattle.ddf_array.specs.declared.site.Site.{Site}
use Rattle.ddf_array.specs.Places.{site, site_at, site_on}
use Rattle.ddf_array.specs.Volume.{Volume, IsVolume}
use Rattle.ddf_array.specs.Cells.{is_in_every}
use Rattle.ddf_array.proofs.Consistent.{position_within}
use Rattle.ddf_array.proofs.Elements.{parts_count}
use Rattle.ddf_cells.specs.CellsOn.{cell_in, cell_of, cell_on, places_at}
use Rattle.ddf_array.specs.Apart.{IsApart}

abbrev pub spot_of : ℕ → ℕ → Spot
spot_of element block = record { element = element; block = block }

-- a position of an element holds a block of the array at a sector
pub record Sits (v : Volume) (element position sector block : ℕ) : Type 0 where
  pub part : Part
  pub is_part : slice_get v.parts element ≡ Some part
  pub inner : ℕ
  pub in_element : spots_of.Holds v.tiers (spot_of element inner) block
  pub on_position : cells_of.Holds part.shape position sector inner

-- it does so at a sector of a slot
pub record OnCell (v : Volume) (element position block : ℕ) (one : Site) : Type 0 where
  pub sector : ℕ
  pub sits : Sits v element position sector block
  pub is_there : site_at sits.part.places position sector ≡ Some one

-- ---- in every element

pub in_every_holds : (level : SecondaryLevel) (sizes : List ElementSize) (items : List Spot) (block element other inner : ℕ) → is_in_every level ≡ true
    → spots_of.HoldsBy level sizes items (spot_of other inner) block → element < length sizes → spots_of.HoldsBy level sizes items (spot_of element inner) block
in_every_holds Striped sizes items block element other inner is holds below = absurd (cc)
in_every_holds Mirrored sizes items block element other inner is holds below = (below, holds.1)
in_every_holds Concatenated sizes items block element other inner is holds below = absurd (cc)
in_every_holds Spanned sizes items block element other inner is holds below = absurd (cc)

-- ---- what a cell is

module _ (v : Volume) (known : IsVolume v) (element position block : ℕ) (one : Site) where
  module _ (part : Part) (is_part : slice_get v.parts element ≡ Some part) (inner : ℕ) (in_element : spots_of.Holds v.tiers (spot_of element inner) block) where
    found_by : (found : Option ℕ) → sector_on part.shape position inner ≡ found → option_and_then (site_at part.places position) found ≡ Some one → OnCell v element position block one
    found_by None on there = absurd (cc)
    found_by (Some sector) on there =
        record {
          sector = sector;
          sits = record { part = part; is_part = is_part; inner = inner; in_element = in_element; on_position = on_holds part.shape (known.are_parts element part is_part).shape_is position sector inner on };
          is_there = there;
        }

  found_in : (found : Option Part) (inner : ℕ) → slice_get v.parts element ≡ found → (element < length v.parts → spots_of.Holds v.tiers (spot_of element inner) block)
      → cell_of found position inner ≡ Some one → OnCell v element position block one
  found_in None inner is holds there = absurd (cc)
  found_in (Some part) inner is holds there = found_by part is inner (holds (slice_get_within v.parts element part is)) (sector_on part.shape position inner) refl there

  found_at : (spot : Spot) (every same : Bool) → is_in_every v.tiers.level ≡ every → (spot.element == element) ≡ same → slice_get (spots v.tiers) block ≡ Some spot
      → (if every || same then cell_of (slice_get v.parts element) position spot.block else None) ≡ Some one → OnCell v element position block one
  found_at spot true same is_every is at there =
      let holds = (spot_facts v.tiers known.array_is).named spot block at in
      found_in (slice_get v.parts element) spot.block refl
      (λ below. in_every_holds v.tiers.level v.tiers.sizes (spots v.tiers) block element spot.element spot.block is_every holds (omega (arith, below, parts_count v known))) there
  found_at spot false true is_every is at there =
      let here : spot.element ≡ element = eqb-true spot.element element is in
      let holds = (spot_facts v.tiers known.array_is).named spot block at in
      found_in (slice_get v.parts element) spot.block refl (λ below. subst (λ e. spots_of.Holds v.tiers (spot_of e spot.block) block) here holds) there
  found_at spot false false is_every is at there = absurd (cc)

  found_spot : (found : Option Spot) → slice_get (spots v.tiers) block ≡ found
      → elim found [ None ↦ None | Some spot ↦ if is_in_every v.tiers.level || spot.element == element then cell_of (slice_get v.parts element) position spot.block else None ] ≡ Some one
      → OnCell v element position block one
  found_spot None at there = absurd (cc)
  found_spot (Some spot) at there = found_at spot (is_in_every v.tiers.level) (spot.element == element) refl refl at there

  pub on_cell : cell_on v element position block ≡ Some one → OnCell v element position block one
  on_cell there = found_spot (slice_get (spots v.tiers) block) refl there

-- a position past the last has none
no_site : (places : List Place) (position sector : ℕ) → length places ≤ position → site_at places position sector ≡ None
no_site [] position sector past = refl
no_site (place ∷ places) zero sector past = absurd (omega (arith, past))
no_site (place ∷ places) (suc position) sector past = no_site places position sector (omega (arith, past))

pub no_cell : (part : Part) (position block : ℕ) → length part.places ≤ position → cell_in part position block ≡ None
no_cell part position block past = by (sector_on part.shape position block)
  where
    by : (found : Option ℕ) → option_and_then (site_at part.places position) found ≡ None
    by None = refl
    by (Some sector) = no_site part.places position sector past

-- it is on one of the positions
pub cell_places : (v : Volume) → IsVolume v → (element position block : ℕ) (one : Site) → cell_on v element position block ≡ Some one → (element < length v.parts) × (position < places_at v.parts element)
cell_places v known element position block one there =
    let cell = on_cell v known element position block one there in
    let part = cell.sits.part in
    let count : places_at v.parts element ≡ length part.places = ap (λ (found : Option Part). elim found [ None ↦ 0 | Some p ↦ length p.places ]) cell.sits.is_part in
    (slice_get_within v.parts element part cell.sits.is_part, omega (arith, position_within part.places position cell.sector one cell.is_there, count))

-- ---- extents that are apart

pub record AtSite (places : List Place) (position sector : ℕ) (one : Site) : Type 0 where
  pub place : Place
  pub is_place : slice_get places position ≡ Some place
  pub on_slot : place.slot ≡ Some one.slot
  pub is_lba : one.lba ≡ place.start + sector

site_is : (synced : Bool) (slot : Option ℕ) (start sector : ℕ) (one : Site) → (if synced then option_map (λ s. site_on s (start + sector)) slot else None) ≡ Some one
    → (slot ≡ Some one.slot) × (one.lba ≡ start + sector)
site_is false slot start sector one e = absurd (cc)
site_is true None start sector one e = absurd (cc)
site_is true (Some s) start sector one e = let same : site_on s (start + sector) ≡ one = cc in (ap (λ (o : Site). Some o.slot) same, ap (λ (o : Site). o.lba) (sym same))

at_site_by : (places : List Place) (position sector : ℕ) (one : Site) (found : Option Place) → slice_get places position ≡ found → option_and_then (λ place. site place sector) found ≡ Some one → AtSite places position sector one
at_site_by places position sector one None at e = absurd (cc)
at_site_by places position sector one (Some place) at e =
    let is = site_is place.synced place.slot place.start sector one e in record { place = place; is_place = at; on_slot = is.0; is_lba = is.1 }

pub at_site : (places : List Place) (position sector : ℕ) (one : Site) → site_at places position sector ≡ Some one → AtSite places position sector one
at_site places position sector one e = at_site_by places position sector one (slice_get places position) refl e

-- a position's sector, by the sector of a slot
pub record SamePlace (e p x e' p' x' : ℕ) : Type 0 where
  pub element_is : e ≡ e'
  pub position_is : p ≡ p'
  pub sector_is : x ≡ x'

pub one_place : (v : Volume) → IsApart v → (e p x e' p' x' : ℕ) (part part' : Part) (one : Site) → slice_get v.parts e ≡ Some part → slice_get v.parts e' ≡ Some part'
    → x < part.shape.blocks → x' < part'.shape.blocks → site_at part.places p x ≡ Some one → site_at part'.places p' x' ≡ Some one → SamePlace e p x e' p' x'
one_place v apart e p x e' p' x' part part' one is is' below below' at at' =
    let first = at_site part.places p x one at in
    let second = at_site part'.places p' x' one at' in
    let same = apart e p e' p' part part' first.place second.place is first.is_place is' second.is_place
    (record {
      slot = one.slot;
      on_one = first.on_slot;
      on_other = second.on_slot;
      lba = one.lba;
      from_one = omega (arith, first.is_lba);
      in_one = omega (arith, first.is_lba, below);
      from_other = omega (arith, second.is_lba);
      in_other = omega (arith, second.is_lba, below');
    }) in
    let part_same : part ≡ part' = some_same (sym is ∙ ap (slice_get v.parts) same.0 ∙ is') in
    let place_same : first.place ≡ second.place = some_same (sym first.is_place ∙ ap (λ (q : Part). slice_get q.places p) part_same ∙ ap (slice_get part'.places) same.1 ∙ second.is_place) in
    let start_same : first.place.start ≡ second.place.start = ap (λ (q : Place). q.start) place_same in
    record { element_is = same.0; position_is = same.1; sector_is = omega (arith, first.is_lba, second.is_lba, start_same) }
  where
    some_same : {X : Type 0} {a b : X} → Some a ≡ Some b → a ≡ b
    some_same e = cc

-- ---- no two blocks share a cell

module _ (v : Volume) (known : IsVolume v) where
  pub sector_below : (e p x b : ℕ) (sits : Sits v e p x b) → x < depth_of sits.part.shape
  sector_below e p x b sits = (cell_facts sits.part.shape (known.are_parts e sits.part sits.is_part).shape_is).sector_within p x sits.inner sits.on_position

  pub block_below : (e p x b : ℕ) (sits : Sits v e p x b) → x < sits.part.shape.blocks
  block_below e p x b sits = omega (arith, sector_below e p x b sits, depth_le sits.part.shape.layout sits.part.shape.strip sits.part.shape.blocks)

  -- a position holds one block at a sector
  pub one_block : (e p x a b : ℕ) → Sits v e p x a → Sits v e p x b → a ≡ b
  one_block e p x a b first second =
      let part_same : second.part ≡ first.part = some_is (sym second.is_part ∙ first.is_part) in
      let on : cells_of.Holds first.part.shape p x second.inner = subst (λ (q : Part). cells_of.Holds q.shape p x second.inner) part_same second.on_position in
      let inner_same : second.inner ≡ first.inner = (cell_facts first.part.shape (known.are_parts e first.part first.is_part).shape_is).apart p x second.inner first.inner on first.on_position in
      let inside : spots_of.Holds v.tiers (spot_of e first.inner) b = subst (λ i. spots_of.Holds v.tiers (spot_of e i) b) inner_same second.in_element in
      (spot_facts v.tiers known.array_is).apart (spot_of e first.inner) a b first.in_element inside

  pub moved : (e p x e' p' x' b : ℕ) → SamePlace e p x e' p' x' → Sits v e p x b → Sits v e' p' x' b
  moved e p x e' p' x' b same sits =
      subst (λ n. Sits v n p' x' b) same.element_is (subst (λ n. Sits v e n x' b) same.position_is (subst (λ n. Sits v e p n b) same.sector_is sits))

  -- nor do two blocks share a sector of a slot
  pub one_owner : IsApart v → (e p e' p' a b : ℕ) (one : Site) → OnCell v e p a one → OnCell v e' p' b one → a ≡ b
  one_owner apart e p e' p' a b one first second =
      let same = one_place v apart e p first.sector e' p' second.sector first.sits.part second.sits.part one first.sits.is_part second.sits.is_part
      (block_below e p first.sector a first.sits) (block_below e' p' second.sector b second.sits) first.is_there second.is_there in
      one_block e' p' second.sector a b (moved e p first.sector e' p' second.sector a same first.sits) second.sits

  -- and none is a cell of parity
  pub no_parity : IsApart v → (e p a e' p' x : ℕ) (part : Part) (one : Site) → OnCell v e p a one → slice_get v.parts e' ≡ Some part
      → parity_member part.shape (x / part.shape.strip) ≡ Some p' → x < part.shape.blocks → site_at part.places p' x ≡ Some one → ⊥
  no_parity apart e p a e' p' x part one first is_part is_parity below at =
      let same = one_place v apart e p first.sector e' p' x first.sits.part part one first.sits.is_part is_part (block_below e p first.sector a first.sits) below first.is_there at in
      let sits = moved e p first.sector e' p' x a same first.sits in
      let part_same : sits.part ≡ part = some_is (sym sits.is_part ∙ is_part) in
      let on : cells_of.Holds part.shape p' x sits.inner = subst (λ (q : Part). cells_of.Holds q.shape p' x sits.inner) part_same sits.on_position in
      (cell_facts part.shape (known.are_parts e' part is_part).shape_is).no_parity p' x sits.inner on is_parity
