-- The sources of blocks that lie side by side.
use Rattle.std.proofs.Common.{◌≡◌, ◌∙◌, ℕ, ◌+◌, List, [], ◌∷◌, ◌++◌, Bool, true, false, Option, Some, None, length, slice_get, map, refl, sym, ap, arith}
use Rattle.std.specs.Prelude.{filter_map, option_map, option_and_then, if◌then◌else◌}
use Rattle.std.specs.List.{flat_map, cons_option, range_with_len}
use Rattle.std.proofs.lemmas.List.{map-append}
use Rattle.ddf_primary.specs.Placement.{Placement}
use Rattle.ddf_primary.specs.Copies.{copy_on, sector_on}
use Rattle.ddf_secondary.specs.declared.spot.Spot.{Spot}
use Rattle.ddf_secondary.specs.Spots.{spots}
use Rattle.ddf_array.specs.declared.part.Part.{Part}
use Rattle.ddf_array.specs.declared.place.Place.{Place}
use Rattle.ddf_array.specs.declared.site.Site.{Site}
use Rattle.ddf_array.specs.Places.{site, site_at, site_on}
use Rattle.ddf_array.specs.Levels.{keeps_parity}
use Rattle.ddf_array.specs.Cells.{element_cells, elements_like, spots_like, block_spots}
use Rattle.ddf_array.specs.Sources.{all_of, other_positions, row_without, element_copies, element_rows, at_spot, at_element}
use Rattle.ddf_array.specs.Volume.{Volume}
use Rattle.ddf_read.specs.Along.{further}
use Rattle.ddf_read.proofs.SpotsAlong.{spot_on}

-- ---- a sector of a place

lies_further : (synced : Bool) (slot : Option ℕ) (start x k : ℕ)
    → (if synced then option_map (λ s. site_on s (start + (x + k))) slot else None) ≡ option_map (further k) (if synced then option_map (λ s. site_on s (start + x)) slot else None)
lies_further false slot start x k = refl
lies_further true None start x k = refl
lies_further true (Some s) start x k = let same : start + (x + k) ≡ start + x + k = omega arith in ap (λ n. Some (site_on s n)) same

found_further : (found : Option Place) (x k : ℕ) → option_and_then (λ place. site place (x + k)) found ≡ option_map (further k) (option_and_then (λ place. site place x) found)
found_further None x k = refl
found_further (Some place) x k = lies_further place.synced place.slot place.start x k

pub site_further : (places : List Place) (position x k : ℕ) → site_at places position (x + k) ≡ option_map (further k) (site_at places position x)
site_further places position x k = found_further (slice_get places position) x k

-- ---- a row

module _ {X : Type 0} (g : X → X) (f h : ℕ → Option X) (moves : (n : ℕ) → h n ≡ option_map g (f n)) where
  by_rest : (x : X) (rest : Option (List X)) → option_map (λ l. g x ∷ l) (option_map (map g) rest) ≡ option_map (map g) (option_map (λ l. x ∷ l) rest)
  by_rest x None = refl
  by_rest x (Some l) = refl

  by_first : (o : Option X) (ns : List ℕ) → all_of (map h ns) ≡ option_map (map g) (all_of (map f ns)) → all_of (option_map g o ∷ map h ns) ≡ option_map (map g) (all_of (o ∷ map f ns))
  by_first None ns e = refl
  by_first (Some x) ns e = ap (option_map (λ l. g x ∷ l)) e ∙ by_rest x (all_of (map f ns))

  all_further : (ns : List ℕ) → all_of (map h ns) ≡ option_map (map g) (all_of (map f ns))
  all_further [] = refl
  all_further (n ∷ ns) = ap (λ o. all_of (o ∷ map h ns)) (moves n) ∙ by_first (f n) ns (all_further ns)

row_further : (places : List Place) (position x k : ℕ) → row_without places position (x + k) ≡ option_map (map (further k)) (row_without places position x)
row_further places position x k =
    all_further (further k) (λ other. site_at places other x) (λ other. site_at places other (x + k)) (λ other. site_further places other x k) (other_positions (length places) position)

-- ---- an element

module _ (shape : Placement) (block k : ℕ) (lie : (member : ℕ) → sector_on shape member (block + k) ≡ option_map (λ sector. sector + k) (sector_on shape member block)) where
  module _ {X : Type 0} (at : ℕ → ℕ → Option X) (g : X → X) (moves : (position x : ℕ) → at position (x + k) ≡ option_map g (at position x)) where
    by_option : (o : Option X) (later now : List X) → later ≡ map g now → cons_option (option_map g o) later ≡ map g (cons_option o now)
    by_option None later now e = e
    by_option (Some one) later now e = ap (λ l. g one ∷ l) e

    abbrev given : List (ℕ × ℕ) → List X
    given all = filter_map (λ (cell : ℕ × ℕ). at cell.0 cell.1) all

    on_member : (member : ℕ) (now : Option ℕ) (laters nows : List (ℕ × ℕ)) → given laters ≡ map g (given nows)
        → given (cons_option (option_map (λ sector. (member, sector)) (option_map (λ sector. sector + k) now)) laters) ≡ map g (given (cons_option (option_map (λ sector. (member, sector)) now) nows))
    on_member member None laters nows e = e
    on_member member (Some x) laters nows e = ap (λ o. cons_option o (given laters)) (moves member x) ∙ by_option (at member x) (given laters) (given nows) e

    picked : (members : List ℕ) → given (filter_map (copy_on shape (block + k)) members) ≡ map g (given (filter_map (copy_on shape block) members))
    picked [] = refl
    picked (m ∷ members) =
        ap (λ o. given (cons_option (option_map (λ sector. (m, sector)) o) (filter_map (copy_on shape (block + k)) members))) (lie m)
        ∙ on_member m (sector_on shape m block) (filter_map (copy_on shape (block + k)) members) (filter_map (copy_on shape block) members) (picked members)

    pub cells_further : given (element_cells shape (block + k)) ≡ map g (given (element_cells shape block))
    cells_further = picked (range_with_len 0 shape.members)

module _ (part : Part) (block k : ℕ) (lie : (member : ℕ) → sector_on part.shape member (block + k) ≡ option_map (λ sector. sector + k) (sector_on part.shape member block)) where
  pub copies_further : element_copies part (block + k) ≡ map (further k) (element_copies part block)
  copies_further = cells_further part.shape block k lie (site_at part.places) (further k) (λ position x. site_further part.places position x k)

  if_parity : (b : Bool) (later now : List (List Site)) → later ≡ map (map (further k)) now → (if b then later else []) ≡ map (map (further k)) (if b then now else [])
  if_parity true later now e = e
  if_parity false later now e = refl

  pub rows_further : element_rows part (block + k) ≡ map (map (further k)) (element_rows part block)
  rows_further = if_parity (keeps_parity part.shape.layout) _ _ (cells_further part.shape block k lie (row_without part.places) (map (further k)) (λ position x. row_further part.places position x k))

-- ---- the array

-- so it is of each of these elements
abbrev pub AllMove : {X : Type 0} → List Part → (Part → ℕ → List X) → (X → X) → (inner k : ℕ) → List ℕ → Type 0
AllMove parts of_element g inner k [] = Unit {0}
AllMove parts of_element g inner k (element ∷ elements) =
    (at_element parts of_element (inner + k) element ≡ map g (at_element parts of_element inner element)) × AllMove parts of_element g inner k elements

module _ {X : Type 0} (v : Volume) (of_element : Part → ℕ → List X) (g : X → X) (block k : ℕ) (spot : Spot)
    (here : slice_get (spots v.tiers) block ≡ Some spot) (later : slice_get (spots v.tiers) (block + k) ≡ Some (spot_on spot k)) where
  each : (elements : List ℕ) → AllMove v.parts of_element g spot.block k elements
      → flat_map (at_spot v.parts of_element) (map (λ element. record { element = element; block = spot.block + k }) elements)
      ≡ map g (flat_map (at_spot v.parts of_element) (map (λ element. record { element = element; block = spot.block }) elements))
  each [] all = refl
  each (element ∷ elements) all =
      ap (λ l. l ++ flat_map (at_spot v.parts of_element) (map (λ element. record { element = element; block = spot.block + k }) elements)) all.0
      ∙ ap (λ l. map g (at_element v.parts of_element spot.block element) ++ l) (each elements all.1)
      ∙ sym (map-append g (at_element v.parts of_element spot.block element) (flat_map (at_spot v.parts of_element) (map (λ element. record { element = element; block = spot.block }) elements)))

  of_spots : (n : ℕ) (s : Spot) → slice_get (spots v.tiers) n ≡ Some s
      → flat_map (at_spot v.parts of_element) (block_spots v n) ≡ flat_map (at_spot v.parts of_element) (spots_like v.tiers.level (length v.parts) s)
  of_spots n s e = ap (λ (found : Option Spot). flat_map (at_spot v.parts of_element) (elim found [ None ↦ [] | Some s ↦ spots_like v.tiers.level (length v.parts) s ])) e

  pub all_further_by : AllMove v.parts of_element g spot.block k (elements_like v.tiers.level (length v.parts) spot.element)
      → flat_map (at_spot v.parts of_element) (block_spots v (block + k)) ≡ map g (flat_map (at_spot v.parts of_element) (block_spots v block))
  all_further_by all =
      of_spots (block + k) (spot_on spot k) later
      ∙ each (elements_like v.tiers.level (length v.parts) spot.element) all
      ∙ ap (map g) (sym (of_spots block spot here))
