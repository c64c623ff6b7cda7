-- An array of which a position is in sync again, once its cells hold what they should.
use Rattle.std.proofs.Common.{◌≡◌, ◌≢◌, ◌∙◌, ◌⊎◌, inl, inr, ⊎_elim, ℕ, zero, suc, ◌+◌, ◌/◌, ◌<◌, ◌≤◌, Bool, true, false, not, List, [], ◌∷◌, Option, Some, None, refl, sym, ap, subst, arith, map, length, slice_get, ◌&&◌}
use Rattle.std.specs.Prelude.{is_some, unwrap_or, ◌==◌, if◌then◌else◌}
use Rattle.std.specs.List.{range_with_len}
use Rattle.std.proofs.lemmas.Bool.{eq-eqb, eqb-true, not-false}
use Rattle.std.proofs.lemmas.List.Sums.{sum_by-cons}
use Rattle.std.proofs.lemmas.Option.{slice_get_within}
use Rattle.ddf_lemmas.proofs.Options.{some_from_is_some}
use Rattle.ddf_lemmas.proofs.Tests.{true_false}
use Rattle.ddf_bay.specs.Sectors.{Image}
use Rattle.ddf_parity.specs.Xor.{xor_all, zeros}
use Rattle.ddf_primary.specs.Placement.{Placement}
use Rattle.ddf_primary.specs.Cells.{depth_of, parity_member}
use Rattle.ddf_primary.proofs.Needs.{parity_keeps, parity_below, some_members}
use Rattle.ddf_secondary.specs.Spots.{spots}
use Rattle.ddf_array.specs.declared.part.Part.{Part}
use Rattle.ddf_array.specs.declared.place.Place.{Place}
use Rattle.ddf_array.specs.declared.site.Site.{Site}
use Rattle.ddf_array.specs.Places.{is_available, site_at}
use Rattle.ddf_array.specs.Levels.{keeps_parity}
use Rattle.ddf_array.specs.Volume.{Volume, IsVolume}
use Rattle.ddf_array.specs.Cells.{block_spots, spots_like}
use Rattle.ddf_array.specs.Within.{is_within}
use Rattle.ddf_array.specs.Sources.{other_positions, row_without}
use Rattle.ddf_array.specs.Values.{bytes_at, sum_at, value}
use Rattle.ddf_array.specs.Redundant.{IsRedundant, whole_row}
use Rattle.ddf_array.specs.Rows.{cell_value, row_sum, sources_without_block, value_without_block}
use Rattle.ddf_array.specs.Sound.{AreSectors}
use Rattle.ddf_array.proofs.Enough.{only_one, row_there}
use Rattle.ddf_array.proofs.Losses.{some_value}
use Rattle.ddf_array.proofs.RowParity.{cell_value_is}
use Rattle.ddf_array.proofs.LossLevels.{away}
use Rattle.ddf_cells.specs.CellSources.{wanted}
use Rattle.ddf_cells.proofs.Redundance.{held}
use Rattle.ddf_rebuild.specs.Target.{IsOut}
use Rattle.ddf_data_array.specs.Changing.{changed_item, place_in_sync, part_in_sync, in_sync}
use Rattle.ddf_data_array.proofs.From.{HasCell}
use Rattle.ddf_data_array.proofs.Consistent.{cell_below}
use Rattle.ddf_data_array.proofs.Totals.{from_others, total, with_sum}
use Rattle.ddf_data_array.proofs.Sitting.{block_at_is}
use Rattle.ddf_data_array.proofs.Items.{changed_cases, changed_length, lies_at, none_where, own_none, site_cases}
use Rattle.ddf_data_array.proofs.RowRight.{long_cell, parity_right as right_without}

-- ---- how many aren't available

weight_by : (b : Bool) (c : Bool) → (b ≡ true → c ≡ true) → (if not c then 1 else 0) ≤ (if not b then 1 else 0)
weight_by true c keeps = subst (λ (x : Bool). (if not x then 1 else 0) ≤ 0) (sym (keeps refl)) (omega arith)
weight_by false true keeps = omega arith
weight_by false false keeps = omega arith

synced_keeps : (synced : Bool) (slot : Option ℕ) → (synced && is_some slot) ≡ true → is_some slot ≡ true
synced_keeps true slot e = e
synced_keeps false slot e = absurd (cc)

pub away_less : (p : ℕ) (places : List Place) → away (changed_item place_in_sync p places) ≤ away places
away_less p [] = omega arith
away_less zero (place ∷ places) =
    let weight : Place → ℕ = λ place. if not (is_available place) then 1 else 0 in
    let old : away (place ∷ places) ≡ weight place + away places = sum_by-cons weight place places in
    let new : away (place_in_sync place ∷ places) ≡ weight (place_in_sync place) + away places = sum_by-cons weight (place_in_sync place) places in
    let one : weight (place_in_sync place) ≤ weight place = weight_by (is_available place) (is_some place.slot) (synced_keeps place.synced place.slot) in
    omega (arith, old, new, one)
away_less (suc p) (place ∷ places) =
    let weight : Place → ℕ = λ place. if not (is_available place) then 1 else 0 in
    let old : away (place ∷ places) ≡ weight place + away places = sum_by-cons weight place places in
    let new : away (place ∷ changed_item place_in_sync p places) ≡ weight place + away (changed_item place_in_sync p places) = sum_by-cons weight place (changed_item place_in_sync p places) in
    omega (arith, old, new, away_less p places)

out_by : (synced : Bool) (slot : Option ℕ) → synced ≡ false → not (synced && is_some slot) ≡ true
out_by true slot e = absurd (cc)
out_by false slot e = refl

-- where one position alone lacks, the row is there without it
pub row_is_there : (places : List Place) (p : ℕ) (own : Place) → slice_get places p ≡ Some own → own.synced ≡ false → away places ≤ 1 → (sector : ℕ) → is_some (row_without places p sector) ≡ true
row_is_there places p own own_at out few sector =
    row_there places p sector (λ other place at apart.
    not-false (is_available place) (only_one (λ (place : Place). not (is_available place)) places few p other own place own_at at (out_by own.synced own.slot out)
    (λ same. true_false (other == p) (eq-eqb other p same) apart)))

-- ---- the array

module _ (v : Volume) (known : IsVolume v) (image : Image) (are : AreSectors image) (is : IsRedundant v image) (within : is_within v ≡ true) (e p : ℕ) (target : IsOut v e p) where
  abbrev part : Part
  part = target.part

  abbrev shape : Placement
  shape = target.part.shape

  abbrev new : Part
  new = part_in_sync p target.part

  abbrev now : Volume
  now = in_sync e p v

  pub part_cases : (f : ℕ) (q : Part) → slice_get now.parts f ≡ Some q → ((f ≡ e) × (q ≡ new)) ⊎ ((f ≢ e) × (slice_get v.parts f ≡ Some q))
  part_cases f q at =
      ⊎_elim
      (λ changed. inl (changed.same_place, changed.is_changed ∙ ap (part_in_sync p) (same_part (slice_get v.parts e) changed.item target.part (ap (slice_get v.parts) (sym changed.same_place) ∙ changed.is_item) target.is_target.is_part)))
      (λ other. inr other) (changed_cases (part_in_sync p) e v.parts f q at)
    where
      same_part : (o : Option Part) (one other : Part) → o ≡ Some one → o ≡ Some other → one ≡ other
      same_part None one other a b = absurd (cc)
      same_part (Some q) one other a b = cc

  pub spots_same : (block : ℕ) → block_spots now block ≡ block_spots v block
  spots_same block = ap (λ (n : ℕ). elim (slice_get (spots v.tiers) block) [ None ↦ [] | Some spot ↦ spots_like v.tiers.level n spot ]) (changed_length (part_in_sync p) e v.parts)

  -- a block's own cell
  pub block_value : (block : ℕ) (has : HasCell v block) → value v image block ≡ Some (cell_value v image has.spot.element has.part has.cell.1 has.cell.0)
  block_value block has =
      let some = some_from_is_some (value v image block) (some_value v image block known within (cell_below v block has)) in
      some.1
      ∙ ap (λ (o : Option (List ℕ)). Some (unwrap_or o zeros)) (sym some.1)
      ∙ ap (λ (o : Option ℕ). Some (elim o [ None ↦ value_without_block image (sources_without_block has.part has.cell.0 has.cell.1) | Some block ↦ unwrap_or (value v image block) zeros ]))
      (sym (block_at_is v known block has))

  -- ---- the rows of the element

  module _ (sector : ℕ) (deep : sector < depth_of target.part.shape) where
    abbrev cell : ℕ → List ℕ
    cell = cell_value v image e target.part sector

    abbrev number : ℕ
    number = sector / target.part.shape.strip

    abbrev sum : List ℕ
    sum = row_sum v image e target.part sector

    long_own : (q : ℕ) → length (cell q) ≡ 512
    long_own q = long_cell v image are e target.part sector q

    pub count_is : length target.part.places ≡ target.part.shape.members
    count_is = (known.are_parts e target.part target.is_target.is_part).has_places

    module _ (par : ℕ) (par_is : parity_member target.part.shape number ≡ Some par) where
      keeps_it : keeps_parity target.part.shape.layout ≡ true
      keeps_it = parity_keeps target.part.shape.layout target.part.shape.members number par par_is

      members_some : 0 < target.part.shape.members
      members_some = some_members target.part.shape.layout target.part.shape.members (known.are_parts e target.part target.is_target.is_part).shape_is.members_taken

      pub par_below : par < target.part.shape.members
      par_below = parity_below target.part.shape.layout target.part.shape.members number par members_some par_is

      p_below : p < target.part.shape.members
      p_below = subst (λ (n : ℕ). p < n) count_is (slice_get_within target.part.places p target.place target.is_target.is_place)

      -- the parity of a row of which the target alone lacks is the row's sum
      pub parity_right : (sites : List Site) → row_without target.part.places p sector ≡ Some sites → par ≢ p → (one : Site) → site_at target.part.places par sector ≡ Some one → bytes_at image one ≡ sum
      parity_right sites there apart one at =
          right_without v known image are is e target.part target.is_target.is_part p sector
          (none_where (site_at target.part.places p sector) (own_none target.part.places p target.place target.is_target.is_place target.is_target.is_out sector)) par par_is p_below sites there one at

      -- ---- once the target's cells hold what they should

      module _ (rebuilt : (one : Site) → lies_at target.part.places p sector ≡ Some one → bytes_at image one ≡ wanted v image e target.part sector p)
          (right : par ≢ p → (one : Site) → site_at target.part.places par sector ≡ Some one → bytes_at image one ≡ row_sum v image e target.part sector) where
        holds_here : (q : ℕ) (one : Site) → q ≢ p → site_at target.part.places q sector ≡ Some one → (b : Bool) → (par == q) ≡ b → (if b then sum else cell q) ≡ bytes_at image one
        holds_here q one other at true same =
            let is_par = eqb-true par q same in
            sym (right (λ par_is_p. other (sym is_par ∙ par_is_p)) one (ap (λ (n : ℕ). site_at target.part.places n sector) is_par ∙ at))
        holds_here q one other at false same = cell_value_is v image is e target.part target.is_target.is_part q sector one at

        pub holds_now : (q : ℕ) (one : Site) → site_at new.places q sector ≡ Some one → with_sum sum cell par q ≡ bytes_at image one
        holds_now q one at =
            ⊎_elim
            (λ own.
            let should : wanted v image e target.part sector p ≡ with_sum sum cell par p =
            ap (λ (o : Option ℕ). if elim o [ None ↦ false | Some member ↦ member == p ] then sum else cell p) par_is in
            ap (with_sum sum cell par) own.0 ∙ sym (rebuilt one own.1 ∙ should))
            (λ other. holds_here q one other.0 other.1 (par == q) refl)
            (site_cases target.part.places p target.place target.is_target.is_place target.is_target.is_out sector q one at)

        count_now : length new.places ≡ target.part.shape.members
        count_now = changed_length place_in_sync p target.part.places ∙ count_is

        -- what a row gives of a cell
        pub row_gives : (q : ℕ) → q < target.part.shape.members → (sites : List Site) → row_without new.places q sector ≡ Some sites → with_sum sum cell par q ≡ sum_at image sites
        row_gives q below sites at =
            from_others cell long_own target.part.shape.members par par_below target.part.shape.layout number par_is q below
            ∙ ap (λ (n : ℕ). xor_all (map (with_sum sum cell par) (other_positions n q))) (sym count_now)
            ∙ ap xor_all (held image (λ other. site_at new.places other sector) (with_sum sum cell par) holds_now (other_positions (length new.places) q) sites at)

        pub whole_zero : (sites : List Site) → whole_row new sector ≡ Some sites → sum_at image sites ≡ zeros
        whole_zero sites at =
            ap xor_all (sym (held image (λ other. site_at new.places other sector) (with_sum sum cell par) holds_now (range_with_len 0 (length new.places)) sites at))
            ∙ ap (λ (n : ℕ). xor_all (map (with_sum sum cell par) (range_with_len 0 n))) count_now
            ∙ total cell long_own target.part.shape.members par par_below target.part.shape.layout number par_is
