-- What an array with fewer available places can be read from, it could be read from before.
use Rattle.std.proofs.Common.{◌≡◌, ◌∙◌, ⊎_elim, ℕ, zero, suc, ◌+◌, ◌≤◌, Bool, true, false, not, List, [], ◌∷◌, Option, Some, None, refl, sym, ap, subst, arith, map, length, get_or, slice_get, ◌&&◌}
use Rattle.std.specs.Prelude.{nat_le, is_some, option_map, if◌then◌else◌}
use Rattle.std.specs.List.{list_any, list_all}
use Rattle.std.proofs.lemmas.Bool.{leb-true, le-leb}
use Rattle.std.proofs.lemmas.List.Sums.{sum_by-cons}
use Rattle.ddf_lemmas.proofs.Tests.{and_keeps, one_less_where_kept, or_keeps, true_false}
use Rattle.ddf_primary.specs.Placement.{Placement}
use Rattle.ddf_primary.specs.declared.need.Need.{Need}
use Rattle.ddf_primary.specs.declared.need.Need.TheVariants.{All, One, AllButOne, Neighbours}
use Rattle.ddf_primary.specs.Needs.{need_by}
use Rattle.ddf_primary.proofs.Enough.{enough_more}
use Rattle.ddf_secondary.specs.declared.spot.Spot.{Spot}
use Rattle.ddf_secondary.specs.Arrangement.{Arrangement}
use Rattle.ddf_secondary.specs.Spots.{spots}
use Rattle.ddf_config.specs.Within.{has_enough}
use Rattle.ddf_array.specs.declared.place.Place.{Place}
use Rattle.ddf_array.specs.declared.part.Part.{Part}
use Rattle.ddf_array.specs.declared.site.Site.{Site}
use Rattle.ddf_array.specs.Places.{is_available, site, site_at, site_on}
use Rattle.ddf_array.specs.Levels.{keeps_parity}
use Rattle.ddf_array.specs.Volume.{Volume}
use Rattle.ddf_array.specs.Cells.{element_cells, block_spots, spots_like, is_in_every}
use Rattle.ddf_array.specs.Sources.{Source, copy, row, all_of, other_positions, row_without}
use Rattle.ddf_array.specs.Within.{is_part_within, is_mirrored, is_within}
use Rattle.ddf_array.proofs.LossLevels.{away}
use Rattle.ddf_array.proofs.Losses.{all_keep}
use Rattle.ddf_data_array.specs.Fewer.{IsSamePlace, IsAlikePlace, IsFewerPlace, ArePlaces, AreFewerParts, IsFewer}
use Rattle.ddf_data_array.proofs.From.{Gives, IsFrom}

-- ---- places

none_by : (synced : Bool) (slot : Option ℕ) (lba : ℕ) → (synced && is_some slot) ≡ false → ◌≡◌ {A = Option Site} (if synced then option_map (λ s. site_on s lba) slot else None) None
none_by true None lba e = refl
none_by true (Some s) lba e = absurd (cc)
none_by false slot lba e = refl

pub none_there : (place : Place) (sector : ℕ) → is_available place ≡ false → site place sector ≡ None
none_there place sector e = none_by place.synced place.slot (place.start + sector) e

pub site_alike : (before after : Place) (sector : ℕ) → IsSamePlace before after → site after sector ≡ site before sector
site_alike before after sector same =
    ap (λ (b : Bool). if b then option_map (λ s. site_on s (after.start + sector)) after.slot else None) same.0
    ∙ ap (λ (n : ℕ). if before.synced then option_map (λ s. site_on s (n + sector)) after.slot else None) same.1
    ∙ ap (λ (o : Option ℕ). if before.synced then option_map (λ s. site_on s (before.start + sector)) o else None) same.2

not_some : {Y : Type 0} (y : Y) (o : Option Y) → o ≡ None → o ≡ Some y → ⊥
not_some y o a b = cc

place_keeps : (before after : Place) → IsFewerPlace before after → (sector : ℕ) (one : Site) → site after sector ≡ Some one → site before sector ≡ Some one
place_keeps before after fewer sector one e =
    ⊎_elim (λ none. absurd (not_some one (site after sector) (none_there after sector none) e)) (λ same. sym (site_alike before after sector same) ∙ e) fewer

pub site_keeps : (befores afters : List Place) → ArePlaces IsFewerPlace befores afters → (position sector : ℕ) (one : Site) → site_at afters position sector ≡ Some one → site_at befores position sector ≡ Some one
site_keeps [] [] fewer position sector one e = e
site_keeps [] (after ∷ afters) fewer position sector one e = absurd fewer
site_keeps (before ∷ befores) [] fewer position sector one e = absurd fewer
site_keeps (before ∷ befores) (after ∷ afters) fewer zero sector one e = place_keeps before after fewer.0 sector one e
site_keeps (before ∷ befores) (after ∷ afters) fewer (suc position) sector one e = site_keeps befores afters fewer.1 position sector one e

pub same_count : (P : Place → Place → Type 0) (befores afters : List Place) → ArePlaces P befores afters → length afters ≡ length befores
same_count P [] [] are = refl
same_count P [] (after ∷ afters) are = absurd are
same_count P (before ∷ befores) [] are = absurd are
same_count P (before ∷ befores) (after ∷ afters) are = ap suc (same_count P befores afters are.1)

module _ (befores afters : List Place) (fewer : ArePlaces IsFewerPlace befores afters) (sector : ℕ) where
  pub row_keeps : (position : ℕ) (sites : List Site) → row_without afters position sector ≡ Some sites → row_without befores position sector ≡ Some sites
  row_keeps position sites e =
      all_keep (λ other. site_at afters other sector) (λ other. site_at befores other sector) (λ other one h. site_keeps befores afters fewer other sector one h)
      (other_positions (length befores) position) sites
      (ap (λ n. all_of (map (λ other. site_at afters other sector) (other_positions n position))) (sym (same_count IsFewerPlace befores afters fewer)) ∙ e)

-- ---- elements

pub record HasPart (befores : List Part) (element : ℕ) (after : Part) : Type 0 where
  pub before : Part
  pub is_part : slice_get befores element ≡ Some before
  pub same_shape : after.shape ≡ before.shape
  pub fewer : ArePlaces IsFewerPlace before.places after.places

pub part_before : (befores afters : List Part) → AreFewerParts befores afters → (element : ℕ) (after : Part) → slice_get afters element ≡ Some after → HasPart befores element after
part_before [] [] fewer element after at = absurd (cc)
part_before [] (p ∷ afters) fewer element after at = absurd fewer
part_before (b ∷ befores) [] fewer element after at = absurd fewer
part_before (b ∷ befores) (p ∷ afters) fewer zero after at =
    let same : p ≡ after = cc in
    subst (HasPart (b ∷ befores) zero) same (record { before = b; is_part = refl; same_shape = fewer.0.0; fewer = fewer.0.1 })
part_before (b ∷ befores) (p ∷ afters) fewer (suc element) after at =
    let rest = part_before befores afters fewer.1 element after at in
    record { before = rest.before; is_part = rest.is_part; same_shape = rest.same_shape; fewer = rest.fewer }

pub same_parts : (befores afters : List Part) → AreFewerParts befores afters → length afters ≡ length befores
same_parts [] [] fewer = refl
same_parts [] (after ∷ afters) fewer = absurd fewer
same_parts (before ∷ befores) [] fewer = absurd fewer
same_parts (before ∷ befores) (after ∷ afters) fewer = ap suc (same_parts befores afters fewer.1)

module _ (before after : Volume) (fewer : IsFewer before after) (block : ℕ) where
  pub spots_same : block_spots after block ≡ block_spots before block
  spots_same =
      ap (λ (t : Arrangement). elim (slice_get (spots t) block) [ None ↦ [] | Some spot ↦ spots_like t.level (length after.parts) spot ]) fewer.same_tiers
      ∙ ap (λ (n : ℕ). elim (slice_get (spots before.tiers) block) [ None ↦ [] | Some spot ↦ spots_like before.tiers.level n spot ]) (same_parts before.parts after.parts fewer.fewer_parts)

  gives_before : (one other : Part) (cell : ℕ × ℕ) (source : Source) → other.shape ≡ one.shape → ArePlaces IsFewerPlace one.places other.places → Gives other cell source → Gives one cell source
  gives_before one other cell (copy site) same less gives = site_keeps one.places other.places less cell.0 cell.1 site gives
  gives_before one other cell (row sites) same less gives =
      (ap (λ (s : Placement). keeps_parity s.layout) (sym same) ∙ gives.0, row_keeps one.places other.places less cell.1 cell.0 sites gives.1)

  pub from_before : (source : Source) → IsFrom after block source → IsFrom before block source
  from_before source from =
      let there = part_before before.parts after.parts fewer.fewer_parts from.spot.element from.part from.is_part in
      record {
        j = from.j;
        spot = from.spot;
        is_spot = ap (λ (l : List Spot). slice_get l from.j) (sym spots_same) ∙ from.is_spot;
        part = there.before;
        is_part = there.is_part;
        i = from.i;
        cell = from.cell;
        is_cell = ap (λ (s : Placement). slice_get (element_cells s from.spot.block) from.i) (sym there.same_shape) ∙ from.is_cell;
        gives = gives_before there.before from.part from.cell source there.same_shape there.fewer from.gives;
      }

-- ---- levels

available_keeps : (before after : Place) → IsFewerPlace before after → is_available after ≡ true → is_available before ≡ true
available_keeps before after fewer e =
    ⊎_elim (λ none. absurd (true_false (is_available after) e none))
    (λ same. ap (λ (b : Bool). b && is_some before.slot) (sym same.0) ∙ ap (λ (o : Option ℕ). after.synced && is_some o) (sym same.2) ∙ e) fewer

any_keeps : (befores afters : List Place) → ArePlaces IsFewerPlace befores afters → list_any is_available afters ≡ true → list_any is_available befores ≡ true
any_keeps [] [] fewer e = e
any_keeps [] (after ∷ afters) fewer e = absurd fewer
any_keeps (before ∷ befores) [] fewer e = absurd fewer
any_keeps (before ∷ befores) (after ∷ afters) fewer e =
    or_keeps (is_available after) (is_available before) (list_any is_available afters) (list_any is_available befores) (available_keeps before after fewer.0) (any_keeps befores afters fewer.1) e

all_keeps : (befores afters : List Place) → ArePlaces IsFewerPlace befores afters → list_all is_available afters ≡ true → list_all is_available befores ≡ true
all_keeps [] [] fewer e = e
all_keeps [] (after ∷ afters) fewer e = absurd fewer
all_keeps (before ∷ befores) [] fewer e = absurd fewer
all_keeps (before ∷ befores) (after ∷ afters) fewer e =
    and_keeps (is_available after) (is_available before) (list_all is_available afters) (list_all is_available befores) (available_keeps before after fewer.0) (all_keeps befores afters fewer.1) e

fewer_away : (befores afters : List Place) → ArePlaces IsFewerPlace befores afters → away befores ≤ away afters
fewer_away [] [] fewer = omega arith
fewer_away [] (after ∷ afters) fewer = absurd fewer
fewer_away (before ∷ befores) [] fewer = absurd fewer
fewer_away (before ∷ befores) (after ∷ afters) fewer =
    let weight : Place → ℕ = λ place. if not (is_available place) then 1 else 0 in
    let old : away (before ∷ befores) ≡ weight before + away befores = sum_by-cons weight before befores in
    let new : away (after ∷ afters) ≡ weight after + away afters = sum_by-cons weight after afters in
    let one : weight before ≤ weight after = one_less_where_kept (is_available before) (is_available after) (available_keeps before after fewer.0) in
    omega (arith, old, new, one, fewer_away befores afters fewer.1)

-- places that stay lack as many
available_same : (before after : Place) → IsSamePlace before after → is_available after ≡ is_available before
available_same before after same = ap (λ (b : Bool). b && is_some after.slot) same.0 ∙ ap (λ (o : Option ℕ). before.synced && is_some o) same.2

available_alike : (before after : Place) → IsAlikePlace before after → is_available after ≡ is_available before
available_alike before after alike = ⊎_elim (λ none. none.0 ∙ sym none.1) (λ same. available_same before after same) alike

site_as : (before after : Place) (sector : ℕ) → IsAlikePlace before after → site after sector ≡ site before sector
site_as before after sector alike = ⊎_elim (λ none. none_there after sector none.0 ∙ sym (none_there before sector none.1)) (λ same. site_alike before after sector same) alike

pub away_alike : (befores afters : List Place) → ArePlaces IsAlikePlace befores afters → away afters ≡ away befores
away_alike [] [] are = refl
away_alike [] (after ∷ afters) are = absurd are
away_alike (before ∷ befores) [] are = absurd are
away_alike (before ∷ befores) (after ∷ afters) are =
    let weight : Place → ℕ = λ place. if not (is_available place) then 1 else 0 in
    sum_by-cons weight after afters
    ∙ ap (λ (b : Bool). (if not b then 1 else 0) + away afters) (available_alike before after are.0)
    ∙ ap (λ (n : ℕ). weight before + n) (away_alike befores afters are.1)
    ∙ sym (sum_by-cons weight before befores)

pub sites_alike : (befores afters : List Place) → ArePlaces IsAlikePlace befores afters → (position sector : ℕ) → site_at afters position sector ≡ site_at befores position sector
sites_alike [] [] are position sector = refl
sites_alike [] (after ∷ afters) are position sector = absurd are
sites_alike (before ∷ befores) [] are position sector = absurd are
sites_alike (before ∷ befores) (after ∷ afters) are zero sector = site_as before after sector are.0
sites_alike (before ∷ befores) (after ∷ afters) are (suc position) sector = sites_alike befores afters are.1 position sector

fewer_count : (befores afters : List Place) → ArePlaces IsFewerPlace befores afters → length (map is_available afters) ≡ length (map is_available befores)
fewer_count [] [] fewer = refl
fewer_count [] (after ∷ afters) fewer = absurd fewer
fewer_count (before ∷ befores) [] fewer = absurd fewer
fewer_count (before ∷ befores) (after ∷ afters) fewer = ap suc (fewer_count befores afters fewer.1)

fewer_there : (befores afters : List Place) → ArePlaces IsFewerPlace befores afters → (n : ℕ) → get_or (map is_available afters) n false ≡ true → get_or (map is_available befores) n false ≡ true
fewer_there [] [] fewer n e = e
fewer_there [] (after ∷ afters) fewer n e = absurd fewer
fewer_there (before ∷ befores) [] fewer n e = absurd fewer
fewer_there (before ∷ befores) (after ∷ afters) fewer zero e = available_keeps before after fewer.0 e
fewer_there (before ∷ befores) (after ∷ afters) fewer (suc n) e = fewer_there befores afters fewer.1 n e

enough_by : (need : Need) (befores afters : List Place) → ArePlaces IsFewerPlace befores afters → has_enough need is_available afters ≡ true → has_enough need is_available befores ≡ true
enough_by All befores afters fewer e = all_keeps befores afters fewer e
enough_by One befores afters fewer e = any_keeps befores afters fewer e
enough_by AllButOne befores afters fewer e =
    let few = leb-true (away afters) 1 e in
    le-leb (away befores) 1 (omega (arith, few, fewer_away befores afters fewer))
enough_by (Neighbours spread) befores afters fewer e =
    enough_more spread (map is_available afters) (map is_available befores) (fewer_count befores afters fewer) (fewer_there befores afters fewer) e

pub part_keeps : (before after : Part) → after.shape ≡ before.shape → ArePlaces IsFewerPlace before.places after.places → is_part_within after ≡ true → is_part_within before ≡ true
part_keeps before after same fewer e =
    enough_by (need_by before.shape.layout) before.places after.places fewer
    (ap (λ (s : Placement). has_enough (need_by s.layout) is_available after.places) (sym same) ∙ e)

any_part : (befores afters : List Part) → AreFewerParts befores afters → list_any is_part_within afters ≡ true → list_any is_part_within befores ≡ true
any_part [] [] fewer e = e
any_part [] (after ∷ afters) fewer e = absurd fewer
any_part (before ∷ befores) [] fewer e = absurd fewer
any_part (before ∷ befores) (after ∷ afters) fewer e =
    or_keeps (is_part_within after) (is_part_within before) (list_any is_part_within afters) (list_any is_part_within befores) (part_keeps before after fewer.0.0 fewer.0.1) (any_part befores afters fewer.1) e

all_part : (befores afters : List Part) → AreFewerParts befores afters → list_all is_part_within afters ≡ true → list_all is_part_within befores ≡ true
all_part [] [] fewer e = e
all_part [] (after ∷ afters) fewer e = absurd fewer
all_part (before ∷ befores) [] fewer e = absurd fewer
all_part (before ∷ befores) (after ∷ afters) fewer e =
    and_keeps (is_part_within after) (is_part_within before) (list_all is_part_within afters) (list_all is_part_within befores) (part_keeps before after fewer.0.0 fewer.0.1) (all_part befores afters fewer.1) e

parts_by : (mirrored : Bool) (befores afters : List Part) → AreFewerParts befores afters → (if mirrored then list_any is_part_within afters else list_all is_part_within afters) ≡ true
    → (if mirrored then list_any is_part_within befores else list_all is_part_within befores) ≡ true
parts_by true befores afters fewer e = any_part befores afters fewer e
parts_by false befores afters fewer e = all_part befores afters fewer e

pub was_within : (before after : Volume) → IsFewer before after → is_within after ≡ true → is_within before ≡ true
was_within before after fewer e =
    let mirrored : is_mirrored before ≡ is_mirrored after =
    ap (λ (t : Arrangement). is_in_every t.level && nat_le 2 (length before.parts)) (sym fewer.same_tiers)
    ∙ ap (λ (n : ℕ). is_in_every after.tiers.level && nat_le 2 n) (sym (same_parts before.parts after.parts fewer.fewer_parts)) in
    parts_by (is_mirrored before) before.parts after.parts fewer.fewer_parts
    (ap (λ b. if b then list_any is_part_within after.parts else list_all is_part_within after.parts) mirrored ∙ e)

-- what is said of each place
pub at_places : (P : Place → Place → Type 0) (befores afters : List Place) → ArePlaces P befores afters → (position : ℕ) (after : Place) → slice_get afters position ≡ Some after
    → (before : Place) × (slice_get befores position ≡ Some before) × P before after
at_places P [] [] are position after at = absurd (cc)
at_places P [] (a ∷ afters) are position after at = absurd are
at_places P (b ∷ befores) [] are position after at = absurd are
at_places P (b ∷ befores) (a ∷ afters) are zero after at = let same : a ≡ after = cc in (b, refl, subst (P b) same are.0)
at_places P (b ∷ befores) (a ∷ afters) are (suc position) after at = at_places P befores afters are.1 position after at

pub all_places : (P Q : Place → Place → Type 0) (befores afters : List Place) → ArePlaces P befores afters
    → ((position : ℕ) (before after : Place) → slice_get befores position ≡ Some before → slice_get afters position ≡ Some after → P before after → Q before after) → ArePlaces Q befores afters
all_places P Q [] [] are each = tt
all_places P Q [] (a ∷ afters) are each = absurd are
all_places P Q (b ∷ befores) [] are each = absurd are
all_places P Q (b ∷ befores) (a ∷ afters) are each = (each 0 b a refl refl are.0, all_places P Q befores afters are.1 (λ position before after x y. each (suc position) before after x y))
