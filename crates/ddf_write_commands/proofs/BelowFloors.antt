-- The sectors that a resync sets, and those that a write gives bytes, lie below the floors of a group's seats.
use Rattle.std.proofs.Common.{◌≡◌, ℕ, zero, suc, ◌+◌, ◌<◌, ◌==◌, Bool, true, false, ◌||◌, cond, eqb, List, [], ◌∷◌, length, map, Some, Ok, refl, sym, ap, subst, ◌∙◌, inl, inr, arith}
use Rattle.std.proofs.lemmas.Bool.{eq-eqb, eqb-true}
use Rattle.std.proofs.lemmas.List.FromFn.{get_or-map-range_with_len, length-map-range_with_len}
use Rattle.std.specs.Prelude.{find, option_map, slice_get, slice_index, unwrap_or}
use Rattle.std.specs.List.{range_with_len}
use Rattle.ddf_bay.specs.Sectors.{Image}
use Rattle.ddf_primary.proofs.ShapeFacts.{depth_le}
use Rattle.ddf_config.specs.declared.seat.Seat.{Seat}
use Rattle.ddf_config.specs.Configuration.{Configuration}
use Rattle.ddf_config.specs.Seats.{SeatsFit}
use Rattle.ddf_array.specs.Places.{site_on}
use Rattle.ddf_array.specs.Sources.{copies}
use Rattle.ddf_array.specs.Viewing.{view_of}
use Rattle.ddf_array.specs.Volume.{Fits, IsVolume, Volume}
use Rattle.ddf_array.proofs.Fits.{view_fits}
use Rattle.ddf_read.proofs.Sites.{IsThere, site_at_there}
use Rattle.ddf_cells.specs.Alike.{IsCell}
use Rattle.ddf_cells.specs.Parity.{IsParityCell}
use Rattle.ddf_array.specs.declared.part.Part.{Part}
use Rattle.ddf_cells.proofs.CopiesOn.{block_at_sits, on_position}
use Rattle.ddf_cells.proofs.OnCells.{block_below}
use Rattle.ddf_cells.proofs.RunGiven.{cell_there}
use Rattle.ddf_resync.specs.Resyncing.{MayResync}
use Rattle.ddf_write.specs.Writing.{MayGive}
use Rattle.ddf_rewrite.proofs.Lists.{all_at}
use Rattle.ddf_steps.specs.Committed.{slots_of}
use Rattle.ddf_seats.specs.Changing.{SlotsRise}
use Rattle.ddf_history_steps.specs.Kept.{is_slot}
use Rattle.ddf_history_steps.specs.BlockFloors.{floor_in}

-- ---- the floors of seats

abbrev pub on_slot : ℕ → Seat → Bool
on_slot slot seat = seat.slot == slot

-- Where the slots of seats rise each seat is the one of its slot.
pub floor_found : (seats : List Seat) → SlotsRise seats → (place : ℕ) (seat : Seat) → slice_get seats place ≡ Some seat → floor_in seats seat.slot ≡ seat.floor
floor_found [] rise place seat at = absurd cc
floor_found (first ∷ others) rise zero seat at =
    let same : first ≡ seat = cc in
    subst (λ (one : Seat). floor_in (first ∷ others) one.slot ≡ one.floor) same
    (ap (λ (b : Bool). unwrap_or (option_map (λ (one : Seat). one.floor) (cond b (Some first) (find (on_slot first.slot) others))) 0) (eq-eqb first.slot first.slot refl))
floor_found (first ∷ others) rise (suc place) seat at = by (eqb first.slot seat.slot) refl (floor_found others rise.1 place seat at)
  where
    by : (b : Bool) → eqb first.slot seat.slot ≡ b → floor_in others seat.slot ≡ seat.floor
        → unwrap_or (option_map (λ (one : Seat). one.floor) (cond b (Some first) (find (on_slot seat.slot) others))) 0 ≡ seat.floor
    by true e rest = let less = all_at (λ (other : Seat). first.slot < other.slot) others place seat rise.0 at in absurd (omega (arith, less, eqb-true first.slot seat.slot e))
    by false e rest = rest

-- A slot with a floor is a seat's.
pub floor_slot : (seats : List Seat) (slot l : ℕ) → l < floor_in seats slot → is_slot (slots_of seats) slot ≡ true
floor_slot [] slot l below = absurd (omega (arith, below))
floor_slot (first ∷ others) slot l below = by (eqb first.slot slot) below (floor_slot others slot l)
  where
    by : (b : Bool) → l < unwrap_or (option_map (λ (one : Seat). one.floor) (cond b (Some first) (find (on_slot slot) others))) 0
        → (l < floor_in others slot → is_slot (slots_of others) slot ≡ true) → (b || is_slot (slots_of others) slot) ≡ true
    by true below rest = refl
    by false below rest = rest below

-- the floors of the first slots, so many
abbrev floors : List Seat → (count : ℕ) → List ℕ
floors seats count = map (floor_in seats) (range_with_len 0 count)

floor_at : (seats : List Seat) (count slot : ℕ) → slot < count → slice_index (floors seats count) slot ≡ floor_in seats slot
floor_at seats count slot below = get_or-map-range_with_len (floor_in seats) 0 count slot slot 0 below (omega arith)

floors_fit : (sizes : List ℕ) (seats : List Seat) → SlotsRise seats → SeatsFit sizes seats → SeatsFit (floors seats (length sizes)) seats
floors_fit sizes seats rise fit k seat at =
    let there = (fit k seat at).0 in
    let long : length (floors seats (length sizes)) ≡ length sizes = length-map-range_with_len (floor_in seats) 0 (length sizes) in
    let floor = floor_at seats (length sizes) seat.slot there ∙ floor_found seats rise k seat at in
    (omega (arith, there, long), omega (arith, floor))

-- ---- the cells

pub some_part : {one other : Part} → Some one ≡ Some other → one ≡ other
some_part e = cc

module _ (volume : Volume) (known : IsVolume volume) (sizes : List ℕ) (fits : Fits sizes volume) where
  copy_there : (block i s l : ℕ) → slice_get (copies volume block) i ≡ Some (site_on s l) → IsThere sizes (site_on s l) 1
  copy_there block i s l is_cell =
      let on = on_position volume known block i (site_on s l) is_cell in
      cell_there sizes volume known fits on.element on.position block (site_on s l) on.on

  parity_there : (s l : ℕ) → IsParityCell volume s l → IsThere sizes (site_on s l) 1
  parity_there s l of =
      site_at_there sizes of.part of.position of.sector 1 (site_on s l) (fits of.element of.part of.is_part)
      (omega (arith, of.deep, depth_le of.part.shape.layout of.part.shape.strip of.part.shape.blocks)) of.is_there

  given_there : (tells : Type 0) (before : Image) (s l : ℕ) (bytes : List ℕ) → MayResync volume tells before s l bytes → IsThere sizes (site_on s l) 1
  given_there tells before s l bytes (inl taken) = copy_there taken.block taken.i s l taken.is_cell
  given_there tells before s l bytes (inr of) = parity_there s l of

  write_there : (start : ℕ) (sectors : List (List ℕ)) (s l : ℕ) (bytes : List ℕ) → MayGive volume start sectors s l bytes → IsThere sizes (site_on s l) 1
  write_there start sectors s l bytes (inl given) = copy_there (start + given.0.k) given.0.i s l given.0.is_cell
  write_there start sectors s l bytes (inr parity) =
      let is = parity.is_at in
      let sits = block_at_sits volume known parity.element is.touched.position parity.sector (start + is.touched.k) is.touched.holds_it in
      let same : sits.part ≡ parity.part = some_part (sym sits.is_part ∙ is.is_part) in
      let within : parity.sector < parity.part.shape.blocks =
      subst (λ (q : Part). parity.sector < q.shape.blocks) same (block_below volume known parity.element is.touched.position parity.sector (start + is.touched.k) sits) in
      site_at_there sizes parity.part is.position parity.sector 1 (site_on s l) (fits parity.element parity.part is.is_part) (omega (arith, within)) is.is_there

module _ (config : Configuration) (guid : List ℕ) (seats : List Seat) (volume : Volume) (sizes : List ℕ) (is : view_of config guid seats ≡ Ok volume) (known : IsVolume volume) (rise : SlotsRise seats)
    (fit : SeatsFit sizes seats) where
  long : length (floors seats (length sizes)) ≡ length sizes
  long = length-map-range_with_len (floor_in seats) 0 (length sizes)

  fits_floors : Fits (floors seats (length sizes)) volume
  fits_floors = view_fits config guid seats volume (floors seats (length sizes)) is (floors_fit sizes seats rise fit)

  -- What is there on floors lies below them.
  below_floor : (s l : ℕ) → IsThere (floors seats (length sizes)) (site_on s l) 1 → l < floor_in seats s
  below_floor s l there =
      let floor = floor_at seats (length sizes) s (let slot = there.slot_is in omega (arith, slot, long)) in
      let lba = there.lba_is in
      omega (arith, lba, floor)

  -- A sector of an available position lies below the floor of its slot,
  pub cell_below : (s l : ℕ) → IsCell volume s l → l < floor_in seats s
  cell_below s l is = below_floor s l (site_at_there (floors seats (length sizes)) is.part is.position is.sector 1 (site_on s l) (fits_floors is.element is.part is.is_part) (omega (arith, is.below)) is.is_site)

  -- what a resync sets does,
  pub given_below : (tells : Type 0) (before : Image) (s l : ℕ) (bytes : List ℕ) → MayResync volume tells before s l bytes → l < floor_in seats s
  given_below tells before s l bytes may = below_floor s l (given_there volume known (floors seats (length sizes)) fits_floors tells before s l bytes may)

  -- and so does what a write gives bytes.
  pub write_below : (start : ℕ) (sectors : List (List ℕ)) (s l : ℕ) (bytes : List ℕ) → MayGive volume start sectors s l bytes → l < floor_in seats s
  write_below start sectors s l bytes may = below_floor s l (write_there volume known (floors seats (length sizes)) fits_floors start sectors s l bytes may)
