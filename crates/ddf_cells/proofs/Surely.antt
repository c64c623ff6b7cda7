-- What is read is the value, where it is sure.
use Rattle.std.proofs.Common.{◌≡◌, ◌∙◌, inl, inr, ⊎_elim, ℕ, ◌+◌, ◌<◌, Bool, true, false, List, [], ◌++◌, Option, Some, None, refl, sym, ap, subst, map, slice_get}
use Rattle.std.specs.Prelude.{option_map, option_to_list, is_some, not, ◌&&◌, unwrap_or, if◌then◌else◌}
use Rattle.std.specs.Option.{option_and_then}
use Rattle.std.proofs.lemmas.Option.{same_Some}
use Rattle.ddf_lemmas.proofs.Lists.{at_first, first_get, in_map}
use Rattle.ddf_lemmas.proofs.Tests.{true_not_false}
use Rattle.ddf_bay.specs.State.{BayState}
use Rattle.ddf_parity.specs.Xor.{zeros}
use Rattle.ddf_primary.specs.Cells.{depth_of}
use Rattle.ddf_array.specs.declared.part.Part.{Part}
use Rattle.ddf_array.specs.declared.place.Place.{Place}
use Rattle.ddf_array.specs.declared.site.Site.{Site}
use Rattle.ddf_array.specs.Levels.{keeps_parity}
use Rattle.ddf_array.specs.Places.{site, site_at, site_on}
use Rattle.ddf_array.specs.Volume.{Volume}
use Rattle.ddf_array.specs.Sources.{Source, copy, row, copies, row_without, rows, sources, trusts_parity}
use Rattle.ddf_array.specs.Values.{bytes_at, given, sum_at, value}
use Rattle.ddf_array.specs.Redundant.{IsRedundant}
use Rattle.ddf_array.specs.Rows.{block_at, cell_value, sources_without_block, value_without_block}
use Rattle.ddf_array.specs.Sound.{AreSectors}
use Rattle.ddf_array.proofs.Consistent.{position_within}
use Rattle.ddf_array.proofs.RowSums.{cell_from_row}
use Rattle.ddf_read.specs.Reading.{Failed, IsGivenBy, IsOn, OnlyReads}
use Rattle.ddf_read.proofs.GivenLaws.{one_of, value_of}
use Rattle.ddf_read.proofs.OnlyReading.{failed_before, failed_behind}
use Rattle.ddf_read.proofs.SourceSlots.{first_on}
use Rattle.ddf_cells.specs.Alike.{IsCell}
use Rattle.ddf_cells.specs.CellSources.{HaveEqualCopies, IsSure}
use Rattle.ddf_cells.specs.Without.{IsGivenWithout, own_sources}
use Rattle.ddf_cells.proofs.DataCells.{value_first}
use Rattle.ddf_cells.proofs.Lists.{some_not_none}
use Rattle.ddf_read.proofs.BlockSources.{sources_untrusted}

-- ---- before and behind other reads

module _ {D : Type 0} (v : Volume) {a b c : BayState D} (so_far : OnlyReads a b) (next : OnlyReads b c) where
  pub sure_behind : IsSure v a c → IsSure v a b
  sure_behind (inl none) = inl (λ slot on rose. none slot on (failed_behind so_far next slot rose))
  sure_behind (inr is) = inr is

  pub sure_before : IsSure v a c → IsSure v b c
  sure_before (inl none) = inl (λ slot on rose. none slot on (failed_before so_far next slot rose))
  sure_before (inr (inl is)) = inr (inl (subst AreSectors (sym so_far.reads.same_held) is.0, subst (IsRedundant v) (sym so_far.reads.same_held) is.1))
  sure_before (inr (inr is)) = inr (inr (is.0, subst (HaveEqualCopies v) (sym so_far.reads.same_held) is.1))

-- ---- the place of a site

pub record OfPlace (places : List Place) (position sector : ℕ) (one : Site) : Type 0 where
  pub place : Place
  pub is_place : slice_get places position ≡ Some place
  pub is_synced : place.synced ≡ true
  pub is_there : place.slot ≡ Some one.slot
  pub lba_is : one.lba ≡ place.start + sector

module _ (places : List Place) (position sector : ℕ) (one : Site) where
  by_slot : (place : Place) → slice_get places position ≡ Some place → (synced : Bool) (slot : Option ℕ) → place.synced ≡ synced → place.slot ≡ slot
      → ◌≡◌ {A = Option Site} (if synced then option_map (λ s. site_on s (place.start + sector)) slot else None) (Some one) → OfPlace places position sector one
  by_slot place at false slot sync is e = absurd (some_not_none one (sym e))
  by_slot place at true None sync is e = absurd (some_not_none one (sym e))
  by_slot place at true (Some s) sync is e =
      let same : site_on s (place.start + sector) ≡ one = same_Some (site_on s (place.start + sector)) one e in
      record { place = place; is_place = at; is_synced = sync; is_there = is ∙ ap (λ (x : Site). Some x.slot) same; lba_is = ap (λ (x : Site). x.lba) (sym same) }

  by_place : (found : Option Place) → slice_get places position ≡ found → option_and_then (λ place. site place sector) found ≡ Some one → OfPlace places position sector one
  by_place None is e = absurd (some_not_none one (sym e))
  by_place (Some place) is e = by_slot place is place.synced place.slot refl refl e

  pub of_place : site_at places position sector ≡ Some one → OfPlace places position sector one
  of_place e = by_place (slice_get places position) refl e

pub cell_on : (v : Volume) (slot lba : ℕ) → IsCell v slot lba → IsOn v slot
cell_on v slot lba is =
    let of = of_place is.part.places is.position is.sector (site_on slot lba) is.is_site in
    record { element = is.element; position = is.position; part = is.part; place = of.place; is_part = is.is_part; is_place = of.is_place; is_synced = of.is_synced; is_there = of.is_there }

-- ---- blocks

pub in_every : (trusts : Bool) (copied rowed : List Source) (k : ℕ) (x : Source) → slice_get (if trusts then copied ++ rowed else copied) k ≡ Some x → slice_get (copied ++ rowed) k ≡ Some x
in_every true copied rowed k x e = e
in_every false copied rowed k x e = first_get copied rowed k x e

module _ {D : Type 0} (v : Volume) (a b : BayState D) where
  -- a block that was read has its value
  pub value_is : IsSure v a b → (block : ℕ) (bytes : List ℕ) → IsGivenBy (Failed a b) a.held (sources v block) bytes → value v a.held block ≡ Some bytes
  value_is (inl none) block bytes is =
      value_of (Failed a b) v a.held block bytes (λ has. let found = first_on v (Failed a b) block has in none found.0 found.1.0 found.1.1) is
  value_is (inr (inl sound)) block bytes is =
      let from = one_of (Failed a b) a.held (sources v block) bytes is in
      sound.1.agree block from.0 from.1.0 (in_every (trusts_parity v) (map copy (copies v block)) (map row (rows v block)) from.0 from.1.0 from.1.1) ∙ ap Some (sym from.1.2)
  value_is (inr (inr marked)) block bytes is =
      let given_is : IsGivenBy (Failed a b) a.held (map copy (copies v block)) bytes = subst (λ (l : List Source). IsGivenBy (Failed a b) a.held l bytes) (sources_untrusted v block (ap not marked.0)) is in
      let from = one_of (Failed a b) a.held (map copy (copies v block)) bytes given_is in
      let its = in_map copy (copies v block) from.0 from.1.0 from.1.1 in
      let first = at_first (copies v block) from.0 its.0 its.1 in
      value_first v a.held block first.0 first.1
      ∙ ap Some (sym (from.1.2 ∙ ap (given a.held) (sym its.2) ∙ marked.1 block from.0 0 its.0 first.0 its.1 first.1))

  module _ (element : ℕ) (part : Part) (position sector : ℕ) where
    pub cell_of_block : IsSure v a b → (block : ℕ) (bytes : List ℕ) → block_at v element position sector ≡ Some block → IsGivenBy (Failed a b) a.held (sources v block) bytes
        → bytes ≡ cell_value v a.held element part sector position
    cell_of_block sure block bytes at is =
        sym (ap (λ (found : Option ℕ). elim found [ None ↦ value_without_block a.held (sources_without_block part position sector) | Some block ↦ unwrap_or (value v a.held block) zeros ]) at
        ∙ ap (λ (o : Option (List ℕ)). unwrap_or o zeros) (value_is sure block bytes is))

    module _ (part_at : slice_get v.parts element ≡ Some part) (below : sector < depth_of part.shape) (within : sector < part.shape.blocks) (bytes : List ℕ) (sure : IsSure v a b) where
      of_both : (own : Site) (others : List Site) → (v.marked ≡ true → ⊥) → keeps_parity part.shape.layout ≡ true → site_at part.places position sector ≡ Some own → row_without part.places position sector ≡ Some others
          → IsSure v a b → Failed a b own.slot → bytes ≡ sum_at a.held others → bytes ≡ bytes_at a.held own
      of_both own others unmarked parity own_at row_at (inl none) failed e =
          absurd (none own.slot (cell_on v own.slot own.lba (record { element = element; position = position; sector = sector; part = part; is_part = part_at; below = within; is_site = own_at })) failed)
      of_both own others unmarked parity own_at row_at (inr (inl sound)) failed e =
          e ∙ sym (cell_from_row a.held sound.0 part position sector own others (position_within part.places position sector own own_at)
          (λ all whole. sound.1.sum_to_zero element sector part all part_at parity below whole) own_at row_at)
      of_both own others unmarked parity own_at row_at (inr (inr marked)) failed e = absurd (unmarked marked.0)

      without_by : (keeps : Bool) (own : Option Site) (others : Option (List Site)) → ((one : Site) → own ≡ Some one → v.marked ≡ true → ⊥) → keeps_parity part.shape.layout ≡ keeps → site_at part.places position sector ≡ own
          → row_without part.places position sector ≡ others
          → IsGivenWithout (Failed a b) a.held (map copy (option_to_list own) ++ (if keeps then map row (option_to_list others) else [])) bytes
          → bytes ≡ value_without_block a.held (map copy (option_to_list own) ++ (if keeps then map row (option_to_list others) else []))
      without_by true (Some own) (Some others) unmarked parity own_at row_at is =
          ⊎_elim (λ e. e) (λ (later : Failed a b own.slot × _). ⊎_elim (λ e. of_both own others (unmarked own refl) parity own_at row_at sure later.0 e) (λ none. absurd none.1) later.1) is
      without_by true (Some own) None unmarked parity own_at row_at is = ⊎_elim (λ e. e) (λ none. absurd none.1) is
      without_by true None (Some others) unmarked parity own_at row_at is = ⊎_elim (λ e. e) (λ none. absurd none.1) is
      without_by true None None unmarked parity own_at row_at is = is
      without_by false (Some own) others unmarked parity own_at row_at is = ⊎_elim (λ e. e) (λ none. absurd none.1) is
      without_by false None others unmarked parity own_at row_at is = is

      abbrev rest : List Source
      rest = if keeps_parity part.shape.layout then map row (option_to_list (row_without part.places position sector)) else []

      by_mark : (marked : Bool) (own : Option Site) → v.marked ≡ marked → site_at part.places position sector ≡ own
          → IsGivenWithout (Failed a b) a.held (if marked && is_some own then map copy (option_to_list own) else map copy (option_to_list own) ++ rest) bytes
          → bytes ≡ value_without_block a.held (map copy (option_to_list own) ++ rest)
      by_mark true (Some own) mark own_at is = ⊎_elim (λ e. e) (λ none. absurd none.1) is
      by_mark true None mark own_at is = without_by (keeps_parity part.shape.layout) None (row_without part.places position sector) (λ one e. absurd (some_not_none one (sym e))) refl own_at refl is
      by_mark false own mark own_at is =
          without_by (keeps_parity part.shape.layout) own (row_without part.places position sector) (λ one e marked. true_not_false (sym marked ∙ mark)) refl own_at refl is

      -- so has a cell without a block
      pub cell_without : block_at v element position sector ≡ None → IsGivenWithout (Failed a b) a.held (own_sources v.marked part position sector) bytes
          → bytes ≡ cell_value v a.held element part sector position
      cell_without none is =
          by_mark v.marked (site_at part.places position sector) refl refl is
          ∙ sym (ap (λ (found : Option ℕ). elim found [ None ↦ value_without_block a.held (sources_without_block part position sector) | Some block ↦ unwrap_or (value v a.held block) zeros ]) none)
