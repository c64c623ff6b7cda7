-- Rows of an element of which two or more positions aren't available, and what a position holds of a row: parity or a data cell.
use Rattle.std.proofs.Common.{◌≡◌, ◌≢◌, ◌∙◌, ⊎_elim, ℕ, zero, suc, ◌+◌, ◌-◌, ◌/◌, ◌≤◌, Bool, true, false, not, List, [], ◌∷◌, ◌++◌, Option, Some, None, refl, sym, ap, arith, length, slice_get}
use Rattle.std.specs.Prelude.{filter, option_and_then, ◌==◌, if◌then◌else◌}
use Rattle.std.specs.List.{range_with_len}
use Rattle.std.proofs.lemmas.Bool.{eqb-true, ne_eqb}
use Rattle.std.proofs.lemmas.Option.{slice_get_within}
use Rattle.ddf_lemmas.proofs.Lists.{in_either, range_at}
use Rattle.ddf_primary.specs.declared.parity.ParityLayout.{ParityLayout}
use Rattle.ddf_primary.specs.declared.parity.ParityLayout.TheVariants.{Raid4First, Raid4Last, Raid5ZeroRestart, Raid5LastRestart, Raid5LastContinuation}
use Rattle.ddf_primary.specs.Cells.{after_parity, before_parity, data_around, parity_member}
use Rattle.ddf_primary.proofs.Needs.{parity_row}
use Rattle.ddf_array.specs.declared.part.Part.{Part}
use Rattle.ddf_array.specs.declared.place.Place.{Place}
use Rattle.ddf_array.specs.declared.site.Site.{Site}
use Rattle.ddf_array.specs.Places.{is_available, site, site_at}
use Rattle.ddf_array.specs.Redundant.{whole_row}
use Rattle.ddf_array.specs.Rows.{data_positions}
use Rattle.ddf_array.specs.Sources.{other_positions, row_without}
use Rattle.ddf_array.proofs.LossLevels.{away}
use Rattle.ddf_cells.specs.CellSources.{is_parity}
use Rattle.ddf_cells.proofs.Lists.{in_range}
use Rattle.ddf_data_array.proofs.Items.{few_away, is_there, item_there, none_where}

-- ---- rows that aren't there

-- an item other than one is among the others
others_item : (q : ℕ) (xs : List ℕ) (k x : ℕ) → slice_get xs k ≡ Some x → x ≢ q → (j : ℕ) × (slice_get (filter (λ other. not (other == q)) xs) j ≡ Some x)
others_item q [] k x at apart = absurd (cc)
others_item q (y ∷ xs) zero x at apart =
    let same : y ≡ x = cc in (
      0,
      ap (λ b. slice_get (if not b then y ∷ filter (λ other. not (other == q)) xs else filter (λ other. not (other == q)) xs) 0) (ne_eqb y q (λ e. apart (sym same ∙ e))) ∙ ap Some same,
    )
others_item q (y ∷ xs) (suc k) x at apart = by (y == q) (others_item q xs k x at apart)
  where
    by : (b : Bool) → (j : ℕ) × (slice_get (filter (λ other. not (other == q)) xs) j ≡ Some x)
        → (j : ℕ) × (slice_get (if not b then y ∷ filter (λ other. not (other == q)) xs else filter (λ other. not (other == q)) xs) j ≡ Some x)
    by true later = later
    by false later = (suc later.0, later.1)

-- a place is available of which a sector is there
available_at : (places : List Place) (k sector : ℕ) (place : Place) (one : Site) → slice_get places k ≡ Some place → site_at places k sector ≡ Some one → is_available place ≡ true
available_at places k sector place one at there = is_there place sector one (ap (λ (o : Option Place). option_and_then (λ place. site place sector) o) (sym at) ∙ there)

pub row_none : (places : List Place) (q sector : ℕ) → 2 ≤ away places → row_without places q sector ≡ None
row_none places q sector lacks =
    none_where (row_without places q sector) (λ sites e.
    let few = few_away places q (λ k place at other.
    let item = others_item q (range_with_len 0 (length places)) k k (range_at (length places) k (slice_get_within places k place at)) other in
    let there = item_there (λ other. site_at places other sector) (other_positions (length places) q) sites e item.0 k item.1 in
    available_at places k sector place there.0 at there.1) in
    omega (arith, lacks, few))

pub whole_none : (part : Part) (sector : ℕ) → 2 ≤ away part.places → whole_row part sector ≡ None
whole_none part sector lacks =
    none_where (whole_row part sector) (λ sites e.
    let few = few_away part.places 0 (λ k place at other.
    let there = item_there (λ position. site_at part.places position sector) (range_with_len 0 (length part.places)) sites e k k (range_at (length part.places) k (slice_get_within part.places k place at)) in
    available_at part.places k sector place there.0 at there.1) in
    omega (arith, lacks, few))

-- ---- parity and data cells

pub not_parity : (part : Part) (position sector : ℕ) → (parity_member part.shape (sector / part.shape.strip) ≡ Some position → ⊥) → is_parity part position sector ≡ false
not_parity part position sector never = by (parity_member part.shape (sector / part.shape.strip)) refl
  where
    by : (o : Option ℕ) → parity_member part.shape (sector / part.shape.strip) ≡ o → ◌≡◌ {A = Bool} (elim o [ None ↦ false | Some member ↦ member == position ]) false
    by None is = refl
    by (Some member) is = ne_eqb member position (λ same. never (is ∙ ap Some same))

pub parity_there : (part : Part) (position sector : ℕ) → is_parity part position sector ≡ true → parity_member part.shape (sector / part.shape.strip) ≡ Some position
parity_there part position sector is = by (parity_member part.shape (sector / part.shape.strip)) is
  where
    by : (o : Option ℕ) → ◌≡◌ {A = Bool} (elim o [ None ↦ false | Some member ↦ member == position ]) true → o ≡ Some position
    by None e = absurd (cc)
    by (Some member) e = ap Some (eqb-true member position e)

module _ (members parity k q : ℕ) where
  in_front : (j : ℕ) × (slice_get (before_parity parity) j ≡ Some q) → q ≢ parity
  in_front at same = let within = in_range 0 parity at.0 q at.1 in omega (arith, within.1, same)

  in_back : (j : ℕ) × (slice_get (after_parity members parity) j ≡ Some q) → q ≢ parity
  in_back at same = let within = in_range (parity + 1) (members - 1 - parity) at.0 q at.1 in omega (arith, within.0, same)

  front_first : slice_get (before_parity parity ++ after_parity members parity) k ≡ Some q → q ≢ parity
  front_first at = ⊎_elim in_front in_back (in_either (before_parity parity) (after_parity members parity) k q at)

  around_apart : (kind : ParityLayout) → slice_get (data_around kind members parity) k ≡ Some q → q ≢ parity
  around_apart Raid4First at = front_first at
  around_apart Raid4Last at = front_first at
  around_apart Raid5ZeroRestart at = front_first at
  around_apart Raid5LastRestart at = front_first at
  around_apart Raid5LastContinuation at = ⊎_elim in_back in_front (in_either (after_parity members parity) (before_parity parity) k q at)

-- a data cell of a row isn't its parity
pub data_apart : (part : Part) (sector k q : ℕ) → slice_get (data_positions part.shape sector) k ≡ Some q → is_parity part q sector ≡ false
data_apart part sector k q at =
    not_parity part q sector (λ on.
    let row = parity_row part.shape.layout part.shape.members (sector / part.shape.strip) q on in
    around_apart part.shape.members q k q row.kind (ap (λ (l : List ℕ). slice_get l k) (sym row.data_are) ∙ at) refl)
