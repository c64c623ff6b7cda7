-- What a loss of disks leaves of the sources of a block.
use Rattle.std.proofs.Common.{◌≡◌, ◌∙◌, ◌⊎◌, ⊎_elim, ℕ, zero, suc, ◌+◌, ◌<◌, List, [], ◌∷◌, ◌++◌, Bool, true, false, Option, Some, None, refl, sym, ap, subst, arith, map, length, slice_get}
use Rattle.std.specs.Prelude.{is_some, filter_map, option_map, option_and_then, if◌then◌else◌}
use Rattle.std.specs.List.{range_with_len, flat_map, cons_option}
use Rattle.std.proofs.lemmas.Option.{none-some}
use Rattle.ddf_lemmas.proofs.Lists.{cons_keeps, first_get, mapped_at}
use Rattle.ddf_bay.specs.Sectors.{Image}
use Rattle.ddf_primary.specs.Placement.{Placement}
use Rattle.ddf_array.specs.declared.place.Place.{Place}
use Rattle.ddf_array.specs.declared.part.Part.{Part}
use Rattle.ddf_array.specs.declared.site.Site.{Site}
use Rattle.ddf_array.specs.Places.{site, site_at, site_on}
use Rattle.ddf_array.specs.Sources.{Source, copy, row, all_of, other_positions, row_without, element_copies, element_rows, at_spot, at_element, copies, rows, every_source}
use Rattle.ddf_array.specs.Levels.{keeps_parity}
use Rattle.ddf_array.specs.Values.{given, value}
use Rattle.ddf_secondary.specs.declared.spot.Spot.{Spot}
use Rattle.ddf_secondary.specs.Arrangement.{Arrangement}
use Rattle.ddf_secondary.specs.Spots.{spots}
use Rattle.ddf_array.specs.Volume.{Volume, IsVolume, capacity}
use Rattle.ddf_array.specs.State.{values}
use Rattle.ddf_array.specs.Cells.{element_cells, block_spots, spots_like}
use Rattle.ddf_array.specs.Within.{is_within}
use Rattle.ddf_array.specs.Redundant.{IsRedundant}
use Rattle.ddf_array.proofs.Enough.{has_source}
use Rattle.ddf_array.specs.Losing.{IsLostPlace, AreLostPlaces, AreLostParts, IsLoss}

-- ---- lists of which some items are left

-- every item of one is in the other
abbrev pub Among : {X : Type 0} → List X → List X → Type 0
Among [] ys = Unit {0}
Among (x ∷ xs) ys = ((k : ℕ) × (slice_get ys k ≡ Some x)) × Among xs ys

among_at : {X : Type 0} (xs ys : List X) → Among xs ys → (k : ℕ) (x : X) → slice_get xs k ≡ Some x → (j : ℕ) × (slice_get ys j ≡ Some x)
among_at [] ys among k x at = absurd (cc)
among_at (z ∷ xs) ys among zero x at = (among.0.0, among.0.1 ∙ at)
among_at (z ∷ xs) ys among (suc k) x at = among_at xs ys among.1 k x at

among_later : {X : Type 0} (xs ys : List X) (y : X) → Among xs ys → Among xs (y ∷ ys)
among_later [] ys y among = among
among_later (x ∷ xs) ys y among = ((suc among.0.0, among.0.1), among_later xs ys y among.1)

among_behind : {X : Type 0} (zs xs ys : List X) → Among xs ys → Among xs (zs ++ ys)
among_behind [] xs ys among = among
among_behind (z ∷ zs) xs ys among = among_later xs (zs ++ ys) z (among_behind zs xs ys among)

among_before : {X : Type 0} (xs ys zs : List X) → Among xs ys → Among xs (ys ++ zs)
among_before [] ys zs among = among
among_before (x ∷ xs) ys zs among = ((among.0.0, first_get ys zs among.0.0 x among.0.1), among_before xs ys zs among.1)

among_both : {X : Type 0} (xs xs' ys : List X) → Among xs ys → Among xs' ys → Among (xs ++ xs') ys
among_both [] xs' ys a b = b
among_both (x ∷ xs) xs' ys a b = (a.0, among_both xs xs' ys a.1 b)

among_map : {X Y : Type 0} (f : X → Y) (xs ys : List X) → Among xs ys → Among (map f xs) (map f ys)
among_map f [] ys among = among
among_map f (x ∷ xs) ys among = ((among.0.0, mapped_at f ys among.0.0 x among.0.1), among_map f xs ys among.1)

among_cons : {Y : Type 0} (o p : Option Y) (xs ys : List Y) → ((y : Y) → o ≡ Some y → p ≡ Some y) → Among xs ys → Among (cons_option o xs) (cons_option p ys)
among_cons None None xs ys keeps rest = rest
among_cons None (Some y) xs ys keeps rest = among_later xs ys y rest
among_cons (Some y) None xs ys keeps rest = absurd (none-some y (keeps y refl))
among_cons (Some y) (Some z) xs ys keeps rest = ((0, keeps y refl), among_later xs ys z rest)

-- what is found after is found before
among_filter_map : {X Y : Type 0} (f g : X → Option Y) → ((x : X) (y : Y) → f x ≡ Some y → g x ≡ Some y) → (xs : List X) → Among (filter_map f xs) (filter_map g xs)
among_filter_map f g keeps [] = tt
among_filter_map f g keeps (x ∷ xs) = among_cons (f x) (g x) (filter_map f xs) (filter_map g xs) (λ y e. keeps x y e) (among_filter_map f g keeps xs)

among_flat_map : {X Y : Type 0} (f g : X → List Y) → ((x : X) → Among (f x) (g x)) → (xs : List X) → Among (flat_map f xs) (flat_map g xs)
among_flat_map f g keeps [] = tt
among_flat_map f g keeps (x ∷ xs) =
    among_both (f x) (flat_map f xs) (g x ++ flat_map g xs) (among_before (f x) (g x) (flat_map g xs) (keeps x)) (among_behind (g x) (flat_map f xs) (flat_map g xs) (among_flat_map f g keeps xs))

-- ---- places, elements, arrays

site_by : (synced : Bool) (start sector : ℕ) (after before : Option ℕ) (one : Site) → (after ≡ before) ⊎ (after ≡ None)
    → (if synced then option_map (λ slot. site_on slot (start + sector)) after else None) ≡ Some one
    → (if synced then option_map (λ slot. site_on slot (start + sector)) before else None) ≡ Some one
site_by false start sector after before one is e = absurd (none-some one e)
site_by true start sector after before one is e =
    ⊎_elim (λ same. ap (option_map (λ slot. site_on slot (start + sector))) (sym same) ∙ e)
    (λ none. absurd (none-some one (ap (option_map (λ slot. site_on slot (start + sector))) (sym none) ∙ e))) is

place_keeps : (before after : Place) → IsLostPlace before after → (sector : ℕ) (one : Site) → site after sector ≡ Some one → site before sector ≡ Some one
place_keeps before after lost sector one e =
    let synced = ap (λ b. if b then option_map (λ slot. site_on slot (after.start + sector)) after.slot else None) (sym lost.same_sync) ∙ e in
    let start = ap (λ (n : ℕ). if before.synced then option_map (λ slot. site_on slot (n + sector)) after.slot else None) (sym lost.same_start) ∙ synced in
    site_by before.synced before.start sector after.slot before.slot one lost.slot_is start

site_keeps : (befores afters : List Place) → AreLostPlaces befores afters → (position sector : ℕ) (one : Site) → site_at afters position sector ≡ Some one → site_at befores position sector ≡ Some one
site_keeps [] [] lost position sector one e = e
site_keeps [] (after ∷ afters) lost position sector one e = absurd lost
site_keeps (before ∷ befores) [] lost position sector one e = absurd lost
site_keeps (before ∷ befores) (after ∷ afters) lost zero sector one e = place_keeps before after lost.0 sector one e
site_keeps (before ∷ befores) (after ∷ afters) lost (suc position) sector one e = site_keeps befores afters lost.1 position sector one e

same_count : (befores afters : List Place) → AreLostPlaces befores afters → length afters ≡ length befores
same_count [] [] lost = refl
same_count [] (after ∷ afters) lost = absurd lost
same_count (before ∷ befores) [] lost = absurd lost
same_count (before ∷ befores) (after ∷ afters) lost = ap suc (same_count befores afters lost.1)

pub all_of_cons : {Y : Type 0} (o : Option Y) (os : List (Option Y)) → all_of (o ∷ os) ≡ option_and_then (λ y. option_map (λ ys. y ∷ ys) (all_of os)) o
all_of_cons None os = refl
all_of_cons (Some y) os = refl

pub all_keep : {Y : Type 0} (f g : ℕ → Option Y) → ((x : ℕ) (y : Y) → f x ≡ Some y → g x ≡ Some y) → (xs : List ℕ) (ys : List Y) → all_of (map f xs) ≡ Some ys → all_of (map g xs) ≡ Some ys
all_keep f g keep [] ys e = e
all_keep f g keep (x ∷ xs) ys e =
    all_of_cons (g x) (map g xs)
    ∙ cons_keeps (f x) (g x) (all_of (map f xs)) (all_of (map g xs)) ys (keep x) (λ zs h. all_keep f g keep xs zs h) (sym (all_of_cons (f x) (map f xs)) ∙ e)

row_keeps : (befores afters : List Place) → AreLostPlaces befores afters → (position sector : ℕ) (sites : List Site) → row_without afters position sector ≡ Some sites → row_without befores position sector ≡ Some sites
row_keeps befores afters lost position sector sites e =
    all_keep (λ other. site_at afters other sector) (λ other. site_at befores other sector) (λ other one h. site_keeps befores afters lost other sector one h)
    (other_positions (length befores) position) sites
    (ap (λ n. all_of (map (λ other. site_at afters other sector) (other_positions n position))) (sym (same_count befores afters lost)) ∙ e)

module _ (before after : Part) (same : after.shape ≡ before.shape) (lost : AreLostPlaces before.places after.places) (block : ℕ) where
  copies_among : Among (element_copies after block) (element_copies before block)
  copies_among =
      subst (λ (shape : Placement). Among (filter_map (λ (cell : ℕ × ℕ). site_at after.places cell.0 cell.1) (element_cells shape block)) (element_copies before block)) (sym same)
      (among_filter_map (λ (cell : ℕ × ℕ). site_at after.places cell.0 cell.1) (λ (cell : ℕ × ℕ). site_at before.places cell.0 cell.1)
      (λ cell one e. site_keeps before.places after.places lost cell.0 cell.1 one e) (element_cells before.shape block))

  if_among : (b : Bool) (xs ys : List (List Site)) → Among xs ys → Among (if b then xs else []) (if b then ys else [])
  if_among true xs ys among = among
  if_among false xs ys among = tt

  rows_among : Among (element_rows after block) (element_rows before block)
  rows_among =
      subst (λ (shape : Placement). Among (if keeps_parity shape.layout then filter_map (λ (cell : ℕ × ℕ). row_without after.places cell.0 cell.1) (element_cells shape block) else []) (element_rows before block)) (sym same)
      (if_among (keeps_parity before.shape.layout) _ _
      (among_filter_map (λ (cell : ℕ × ℕ). row_without after.places cell.0 cell.1) (λ (cell : ℕ × ℕ). row_without before.places cell.0 cell.1)
      (λ cell sites e. row_keeps before.places after.places lost cell.0 cell.1 sites e) (element_cells before.shape block)))

module _ {X : Type 0} (h : Part → ℕ → List X)
    (keeps : (before after : Part) → after.shape ≡ before.shape → AreLostPlaces before.places after.places → (block : ℕ) → Among (h after block) (h before block)) where
  spot_among : (befores afters : List Part) → AreLostParts befores afters → (element block : ℕ) → Among (at_element afters h block element) (at_element befores h block element)
  spot_among [] [] lost element block = tt
  spot_among [] (after ∷ afters) lost element block = absurd lost
  spot_among (before ∷ befores) [] lost element block = absurd lost
  spot_among (before ∷ befores) (after ∷ afters) lost zero block = keeps before after lost.0.0 lost.0.1 block
  spot_among (before ∷ befores) (after ∷ afters) lost (suc element) block = spot_among befores afters lost.1 element block

pub same_parts : (befores afters : List Part) → AreLostParts befores afters → length afters ≡ length befores
same_parts [] [] lost = refl
same_parts [] (after ∷ afters) lost = absurd lost
same_parts (before ∷ befores) [] lost = absurd lost
same_parts (before ∷ befores) (after ∷ afters) lost = ap suc (same_parts befores afters lost.1)

module _ (before after : Volume) (loss : IsLoss before after) (block : ℕ) where
  spots_same : block_spots before block ≡ block_spots after block
  spots_same =
      ap (λ (n : ℕ). elim (slice_get (spots before.tiers) block) [ None ↦ [] | Some spot ↦ spots_like before.tiers.level n spot ]) (sym (same_parts before.parts after.parts loss.lost_parts))
      ∙ ap (λ (t : Arrangement). elim (slice_get (spots t) block) [ None ↦ [] | Some spot ↦ spots_like t.level (length after.parts) spot ]) (sym loss.same_tiers)

  sources_among : Among (every_source after block) (every_source before block)
  sources_among =
      let by_copies : Among (copies after block) (copies before block) =
      subst (λ (l : List Spot). Among (copies after block) (flat_map (at_spot before.parts element_copies) l)) (sym spots_same)
      (among_flat_map (at_spot after.parts element_copies) (at_spot before.parts element_copies)
      (λ spot. spot_among element_copies copies_among before.parts after.parts loss.lost_parts spot.element spot.block) (block_spots after block)) in
      let by_rows : Among (rows after block) (rows before block) =
      subst (λ (l : List Spot). Among (rows after block) (flat_map (at_spot before.parts element_rows) l)) (sym spots_same)
      (among_flat_map (at_spot after.parts element_rows) (at_spot before.parts element_rows)
      (λ spot. spot_among element_rows rows_among before.parts after.parts loss.lost_parts spot.element spot.block) (block_spots after block)) in
      among_both (map copy (copies after block)) (map row (rows after block)) (every_source before block)
      (among_before (map copy (copies after block)) (map copy (copies before block)) (map row (rows before block)) (among_map copy (copies after block) (copies before block) by_copies))
      (among_behind (map copy (copies before block)) (map row (rows after block)) (map row (rows before block)) (among_map row (rows after block) (rows before block) by_rows))

first_item : (all : List Source) → 0 < length all → (source : Source) × (slice_get all 0 ≡ Some source)
first_item [] some = absurd (omega arith)
first_item (source ∷ all) some = (source, refl)

-- a loss changes no value
pub same_value : (before after : Volume) (image : Image) (block : ℕ) → IsVolume after → IsLoss before after → IsRedundant before image → is_within after ≡ true → block < length (spots after.tiers)
    → value after image block ≡ value before image block
same_value before after image block known loss redundant within below =
    let first = first_item (every_source after block) (has_source after known block below within) in
    let found = among_at (every_source after block) (every_source before block) (sources_among before after loss block) 0 first.0 first.1 in
    ap (option_map (given image)) first.1 ∙ sym (redundant.agree block found.0 first.0 found.1)

-- nor the list of all of them
map_same : {Y : Type 0} (f g : ℕ → Y) (first n : ℕ) → ((k : ℕ) → k < first + n → f k ≡ g k) → map f (range_with_len first n) ≡ map g (range_with_len first n)
map_same f g first zero same = refl
map_same f g first (suc n) same =
    ap (λ y. y ∷ map f (range_with_len (first + 1) n)) (same first (omega arith))
    ∙ ap (λ l. g first ∷ l) (map_same f g (first + 1) n (λ k below. same k (omega (arith, below))))

pub same_values : (before after : Volume) (image : Image) → IsVolume after → IsLoss before after → IsRedundant before image → is_within after ≡ true → values after image ≡ values before image
same_values before after image known loss redundant within =
    map_same (value after image) (value before image) 0 (capacity after) (λ block below. same_value before after image block known loss redundant within (omega (arith, below)))
    ∙ ap (λ (t : Arrangement). map (value before image) (range_with_len 0 (length (spots t)))) loss.same_tiers

-- ---- a value

pub some_value : (v : Volume) (image : Image) (block : ℕ) → IsVolume v → is_within v ≡ true → block < capacity v → is_some (value v image block) ≡ true
some_value v image block known within below =
    let first = first_item (every_source v block) (has_source v known block below within) in
    ap (λ (o : Option Source). is_some (option_map (given image) o)) first.1
