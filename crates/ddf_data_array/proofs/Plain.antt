-- An array that isn't redundant has one source of each block, and no parity.
use Rattle.std.proofs.Common.{◌≡◌, ◌∙◌, ℕ, zero, suc, ◌/◌, ◌≤◌, Bool, true, false, List, [], ◌∷◌, Option, Some, None, refl, sym, ap, subst, arith, length, slice_get}
use Rattle.std.specs.Prelude.{option_map}
use Rattle.std.specs.List.{list_any}
use Rattle.std.proofs.lemmas.Bool.{or_parts}
use Rattle.ddf_lemmas.proofs.Lists.{any_none}
use Rattle.ddf_lemmas.proofs.Tests.{true_false}
use Rattle.ddf_bay.specs.Sectors.{Image}
use Rattle.ddf_primary.proofs.Needs.{parity_keeps}
use Rattle.ddf_primary.proofs.Copies.{few_copies}
use Rattle.ddf_secondary.specs.declared.spot.Spot.{Spot}
use Rattle.ddf_array.specs.declared.part.Part.{Part}
use Rattle.ddf_array.specs.declared.site.Site.{Site}
use Rattle.ddf_array.specs.Places.{site_at}
use Rattle.ddf_array.specs.Levels.{keeps_copies, keeps_parity}
use Rattle.ddf_array.specs.Volume.{Volume}
use Rattle.ddf_array.specs.Cells.{element_cells, block_spots}
use Rattle.ddf_array.specs.Sources.{Source, copy, row, every_source}
use Rattle.ddf_array.specs.Values.{bytes_at, given}
use Rattle.ddf_array.specs.Within.{is_mirrored, keeps_more, is_redundant}
use Rattle.ddf_array.specs.Redundant.{IsRedundant}
use Rattle.ddf_array.specs.Sound.{AreSectors, HasParity, IsSound}
use Rattle.ddf_array.proofs.Consistent.{few_spots}
use Rattle.ddf_data_array.proofs.From.{IsFrom, source_from}

-- a list of one item at most
lone : {X : Type 0} (xs : List X) (j k : ℕ) (x y : X) → length xs ≤ 1 → slice_get xs j ≡ Some x → slice_get xs k ≡ Some y → x ≡ y
lone [] j k x y le a b = absurd (cc)
lone (z ∷ []) zero zero x y le a b = cc
lone (z ∷ []) zero (suc k) x y le a b = absurd (cc)
lone (z ∷ []) (suc j) k x y le a b = absurd (cc)
lone (z ∷ (w ∷ xs)) j k x y le a b = absurd (omega arith)

module _ (v : Volume) (plain : is_redundant v ≡ false) where
  pub alone : is_mirrored v ≡ false
  alone = (or_parts (is_mirrored v) (list_any keeps_more v.parts) plain).0

  pub keeps_one : (element : ℕ) (part : Part) → slice_get v.parts element ≡ Some part → keeps_more part ≡ false
  keeps_one element part at = any_none keeps_more v.parts (or_parts (is_mirrored v) (list_any keeps_more v.parts) plain).1 element part at

  pub no_rows : (element : ℕ) (part : Part) → slice_get v.parts element ≡ Some part → keeps_parity part.shape.layout ≡ true → ⊥
  no_rows element part at parity =
      true_false (keeps_parity part.shape.layout) parity (or_parts (keeps_copies part.shape.layout) (keeps_parity part.shape.layout) (keeps_one element part at)).1

  -- each source is a copy
  pub plain_copy : (block : ℕ) (source : Source) → IsFrom v block source → (one : Site) × (source ≡ copy one)
  plain_copy block (copy one) from = (one, refl)
  plain_copy block (row sites) from = absurd (no_rows from.spot.element from.part from.is_part from.gives.0)

  same_part : (o : Option Part) (one other : Part) → o ≡ Some one → o ≡ Some other → one ≡ other
  same_part None one other a b = absurd (cc)
  same_part (Some part) one other a b = cc

  -- and there is one
  one_copy : (block : ℕ) (one other : Site) → IsFrom v block (copy one) → IsFrom v block (copy other) → one ≡ other
  one_copy block one other a b =
      let spot : a.spot ≡ b.spot = lone (block_spots v block) a.j b.j a.spot b.spot (few_spots v block alone) a.is_spot b.is_spot in
      let part : a.part ≡ b.part = same_part (slice_get v.parts b.spot.element) a.part b.part (ap (λ (s : Spot). slice_get v.parts s.element) (sym spot) ∙ a.is_part) b.is_part in
      let single = (or_parts (keeps_copies b.part.shape.layout) (keeps_parity b.part.shape.layout) (keeps_one b.spot.element b.part b.is_part)).0 in
      let cell_at : slice_get (element_cells b.part.shape b.spot.block) a.i ≡ Some a.cell =
      ap (λ (p : Part). slice_get (element_cells p.shape b.spot.block) a.i) (sym part) ∙ ap (λ (s : Spot). slice_get (element_cells a.part.shape s.block) a.i) (sym spot) ∙ a.is_cell in
      let cell : a.cell ≡ b.cell = lone (element_cells b.part.shape b.spot.block) a.i b.i a.cell b.cell (few_copies b.part.shape b.spot.block single) cell_at b.is_cell in
      let there : site_at b.part.places b.cell.0 b.cell.1 ≡ Some one =
      ap (λ (c : ℕ × ℕ). site_at b.part.places c.0 c.1) (sym cell) ∙ ap (λ (p : Part). site_at p.places a.cell.0 a.cell.1) (sym part) ∙ a.gives in
      same_site (site_at b.part.places b.cell.0 b.cell.1) there b.gives
    where
      same_site : (o : Option Site) → o ≡ Some one → o ≡ Some other → one ≡ other
      same_site None x y = absurd (cc)
      same_site (Some site) x y = cc

  first_by : (image : Image) (block k : ℕ) (one : Site) (found : Option Source) → slice_get (every_source v block) 0 ≡ found → slice_get (every_source v block) k ≡ Some (copy one)
      → option_map (given image) found ≡ Some (bytes_at image one)
  first_by image block k one None is at = absurd (no_first (every_source v block) k (copy one) is at)
    where
      no_first : (all : List Source) (k : ℕ) (source : Source) → slice_get all 0 ≡ None → slice_get all k ≡ Some source → ⊥
      no_first [] k source a b = cc
      no_first (x ∷ all) k source a b = cc
  first_by image block k one (Some source) is at =
      let first = source_from v block 0 source is in
      let lone_copy = plain_copy block source first in
      let here : IsFrom v block (copy lone_copy.0) = subst (IsFrom v block) lone_copy.1 first in
      ap (λ (s : Source). Some (given image s)) lone_copy.1
      ∙ ap (λ (s : Site). Some (bytes_at image s)) (one_copy block lone_copy.0 one here (source_from v block k (copy one) at))

  pub plain_redundant : (image : Image) → IsRedundant v image
  plain_redundant image = record {
    agree = λ block k source at.
        let one = plain_copy block source (source_from v block k source at) in
        first_by image block k one.0 (slice_get (every_source v block) 0) refl (at ∙ ap Some one.1) ∙ ap (λ (s : Source). Some (given image s)) (sym one.1);
    sum_to_zero = λ element sector part sites part_at parity below whole. absurd (no_rows element part part_at parity);
  }

  pub plain_parity : (is_absent : ℕ → ℕ → Bool) (image : Image) → HasParity is_absent v image
  plain_parity is_absent image element sector position part site part_at lacks none parity below site_is has =
      absurd (no_rows element part part_at (parity_keeps part.shape.layout part.shape.members (sector / part.shape.strip) position parity))

  pub plain_sound : (is_absent : ℕ → ℕ → Bool) (image : Image) → AreSectors image → IsSound is_absent v image
  plain_sound is_absent image are = record {
    are_sectors = are;
    redundant = λ unmarked within. plain_redundant image;
    parity = λ unmarked within. plain_parity is_absent image;
  }
