-- The slots at which a work on blocks stops are those of seats.
use Rattle.std.proofs.Common.{◌≡◌, ◌∙◌, ⊎_elim, inl, inr, ap, Ok, ℕ, ◌+◌, ◌<◌, ◌&&◌, Bool, true, false, List, [], ◌∷◌, ◌++◌, length, map, Option, Some, None, refl, sym, subst, if◌then◌else◌}
use Rattle.std.specs.Prelude.{is_some, option_map, option_to_list, slice_get}
use Rattle.std.specs.Option.{option_and_then}
use Rattle.ddf_lemmas.proofs.Lists.{mapped_at}
use Rattle.ddf_bay.specs.State.{BayState}
use Rattle.ddf_config.specs.declared.seat.Seat.{Seat}
use Rattle.ddf_config.specs.Configuration.{Configuration}
use Rattle.ddf_config.specs.Seats.{SeatsFit}
use Rattle.ddf_array.specs.declared.part.Part.{Part}
use Rattle.ddf_array.specs.declared.place.Place.{Place}
use Rattle.ddf_array.specs.declared.site.Site.{Site}
use Rattle.ddf_array.specs.Levels.{keeps_parity}
use Rattle.ddf_array.specs.Places.{site, site_at, site_on}
use Rattle.ddf_array.specs.Rows.{block_at, sources_without_block}
use Rattle.ddf_array.specs.Sources.{Source, all_of, copy, other_positions, row, row_without, sources}
use Rattle.ddf_array.specs.Viewing.{view_of}
use Rattle.ddf_array.specs.Volume.{IsVolume, Volume}
use Rattle.ddf_array.proofs.Fits.{place_seat}
use Rattle.ddf_read.specs.Reading.{FirstHasSlot, HasSite}
use Rattle.ddf_read.proofs.SourceSlots.{slot_on}
use Rattle.ddf_cells.specs.CellSources.{cell_sources}
use Rattle.ddf_cells.specs.Without.{own_sources}
use Rattle.ddf_resync.specs.Resyncing.{IsSetOn, IsStopped}
use Rattle.ddf_update.specs.Group.{IsOneOf}
use Rattle.ddf_steps.specs.Committed.{slots_of}
use Rattle.ddf_seats.specs.Changing.{SlotsRise}
use Rattle.ddf_history_steps.proofs.Slots.{slot_placed}
use Rattle.ddf_history_steps.specs.BlockFloors.{floor_in}
use Rattle.ddf_write_commands.proofs.BelowFloors.{floor_slot, given_below}

-- each place of an element is on a slot of this kind
abbrev pub AreOnSlots : (ℕ → Type 0) → Part → Type 0
AreOnSlots P part = (position : ℕ) (place : Place) (s : ℕ) → slice_get part.places position ≡ Some place → place.slot ≡ Some s → P s

module _ (slot : ℕ) (P : ℕ → Type 0) where
  abbrev Here : ℕ → Type 0
  Here other = other ≡ slot

  module _ (part : Part) (each : AreOnSlots P part) where
    place_there : (position sector : ℕ) (place : Place) (one : Site) → slice_get part.places position ≡ Some place → site place sector ≡ Some one → P one.slot
    place_there position sector place one is_place e = by place.synced place.slot refl e
      where
        by : (synced : Bool) (found : Option ℕ) → place.slot ≡ found → (if synced then option_map (λ s. site_on s (place.start + sector)) found else None) ≡ Some one → P one.slot
        by false found is e = absurd cc
        by true None is e = absurd cc
        by true (Some s) is e =
            let same : site_on s (place.start + sector) ≡ one = cc in
            subst (λ (o : Site). P o.slot) same (each position place s is_place is)

    site_there : (position sector : ℕ) (one : Site) → site_at part.places position sector ≡ Some one → P one.slot
    site_there position sector one e = by (slice_get part.places position) refl e
      where
        by : (found : Option Place) → slice_get part.places position ≡ found → option_and_then (λ place. site place sector) found ≡ Some one → P one.slot
        by None is e = absurd cc
        by (Some place) is e = place_there position sector place one is e

    row_there : (others : List ℕ) (sector : ℕ) (sites : List Site) → all_of (map (λ other. site_at part.places other sector) others) ≡ Some sites → HasSite Here sites → P slot
    row_there [] sector sites e has = let none : [] ≡ sites = cc in absurd (subst (HasSite Here) (sym none) has)
    row_there (other ∷ others) sector sites e has =
        by (row_there others sector) (site_at part.places other sector) refl (all_of (map (λ (one : ℕ). site_at part.places one sector) others)) refl e
      where
        by : ((rest : List Site) → all_of (map (λ (one : ℕ). site_at part.places one sector) others) ≡ Some rest → HasSite Here rest → P slot)
            → (found : Option Site) → site_at part.places other sector ≡ found → (rest : Option (List Site)) → all_of (map (λ (one : ℕ). site_at part.places one sector) others) ≡ rest
            → all_of (found ∷ map (λ (one : ℕ). site_at part.places one sector) others) ≡ Some sites → P slot
        by more None is rest those e = absurd cc
        by more (Some one) is None those e = absurd cc
        by more (Some one) is (Some rest) those e =
            let same : sites ≡ one ∷ rest = cc in
            ⊎_elim (λ here. subst P here (site_there other sector one is)) (λ later. more rest those later) (subst (HasSite Here) same has)

    first_copy_there : (found : Option Site) → ((one : Site) → found ≡ Some one → P one.slot) → (others : List Source) → (FirstHasSlot Here others → P slot)
        → FirstHasSlot Here (map copy (option_to_list found) ++ others) → P slot
    first_copy_there None each others later has = later has
    first_copy_there (Some one) each others later has = subst P has (each one refl)

    first_row_there : (found : Option (List Site)) → ((sites : List Site) → found ≡ Some sites → HasSite Here sites → P slot) → FirstHasSlot Here (map row (option_to_list found)) → P slot
    first_row_there None each has = absurd has
    first_row_there (Some sites) each has = each sites refl has

    copy_alone : (found : Option Site) → ((one : Site) → found ≡ Some one → P one.slot) → FirstHasSlot Here (map copy (option_to_list found)) → P slot
    copy_alone None each has = absurd has
    copy_alone (Some one) each has = subst P has (each one refl)

    -- that of a cell without a block
    pub alone_there : (position sector : ℕ) → FirstHasSlot Here (map copy (option_to_list (site_at part.places position sector))) → P slot
    alone_there position sector has = copy_alone (site_at part.places position sector) (site_there position sector) has

    without_there : (position sector : ℕ) → FirstHasSlot Here (sources_without_block part position sector) → P slot
    without_there position sector has =
        first_copy_there (site_at part.places position sector) (site_there position sector)
        (if keeps_parity part.shape.layout then map row (option_to_list (row_without part.places position sector)) else []) (by (keeps_parity part.shape.layout)) has
      where
        by : (b : Bool) → FirstHasSlot Here (if b then map row (option_to_list (row_without part.places position sector)) else []) → P slot
        by true first = first_row_there (row_without part.places position sector) (row_there (other_positions (length part.places) position) sector) first
        by false first = absurd first

    own_there : (marked : Bool) (position sector : ℕ) → FirstHasSlot Here (own_sources marked part position sector) → P slot
    own_there marked position sector has = by (marked && is_some (site_at part.places position sector)) has
      where
        by : (b : Bool) → FirstHasSlot Here (if b then map copy (option_to_list (site_at part.places position sector)) else sources_without_block part position sector) → P slot
        by true first = alone_there position sector first
        by false first = without_there position sector first

  module _ (v : Volume) (all : (element : ℕ) (part : Part) → slice_get v.parts element ≡ Some part → AreOnSlots P part) where
    -- that of a block
    pub block_source_there : (block : ℕ) → FirstHasSlot Here (sources v block) → P slot
    block_source_there block has = let on = slot_on v block slot has in all on.element on.part on.is_part on.position on.place slot on.is_place on.is_there

    -- and that of any cell
    pub cell_source_there : (element : ℕ) (part : Part) → slice_get v.parts element ≡ Some part → (sector position : ℕ) → FirstHasSlot Here (cell_sources v element part sector position) → P slot
    cell_source_there element part is_part sector position has = by (block_at v element position sector) has
      where
        by : (block : Option ℕ) → FirstHasSlot Here (elim block [ None ↦ own_sources v.marked part position sector | Some one ↦ sources v one ]) → P slot
        by None first = own_there part (all element part is_part) v.marked position sector first
        by (Some block) first = block_source_there block first

-- ---- slots of seats

module _ (config : Configuration) (guid : List ℕ) (seats : List Seat) (v : Volume) (is : view_of config guid seats ≡ Ok v) where
  -- Each place is on the slot of a seat.
  pub on_seats : (element : ℕ) (part : Part) → slice_get v.parts element ≡ Some part → AreOnSlots (IsOneOf (slots_of seats)) part
  on_seats element part is_part position place s at is_there =
      let seat = place_seat config guid seats v element position s part place is is_part at is_there in
      record { place = seat.0; is_there = mapped_at (λ (one : Seat). one.slot) seats seat.0 seat.1.0 seat.1.1 ∙ ap Some seat.1.2 }

  module _ (known : IsVolume v) (sizes : List ℕ) (rise : SlotsRise seats) (fit : SeatsFit sizes seats) where
    below_seat : (slot l : ℕ) → l < floor_in seats slot → IsOneOf (slots_of seats) slot
    below_seat slot l below = let placed = slot_placed (slots_of seats) slot (floor_slot seats slot l below) in record { place = placed.0; is_there = placed.1 }

    -- A resync sets sectors of such slots,
    set_on_seat : (slot : ℕ) → IsSetOn v slot → IsOneOf (slots_of seats) slot
    set_on_seat slot set =
        below_seat slot set.lba
        (given_below config guid seats v sizes is known rise fit ⊥ (λ s l. []) slot set.lba [] (⊎_elim
        (λ copied. inl (record { block = copied.block; i = copied.i; is_cell = copied.is_cell; several = copied.several; held = λ never. absurd never }))
        inr set.is_set))

    -- and stops at one.
    pub resync_on_seat : {D : Type 0} (old new : BayState D) (slot : ℕ) → IsStopped old new v slot → IsOneOf (slots_of seats) slot
    resync_on_seat old new slot stopped = ⊎_elim (λ wrote. set_on_seat slot wrote.0)
        (λ read. ⊎_elim
        (λ block. block_source_there slot (IsOneOf (slots_of seats)) v on_seats block.block block.none_left.is_of_first)
        (λ row. cell_source_there slot (IsOneOf (slots_of seats)) v on_seats row.element row.part row.is_part (row.sector + row.for_sum.cell) row.for_sum.other row.for_sum.none_left.is_of_first)
        read)
        stopped
