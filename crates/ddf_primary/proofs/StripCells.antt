-- The cells of the blocks of one strip lie side by side.
use Rattle.std.proofs.Common.{◌≡◌, ◌∙◌, ℕ, ◌+◌, ◌-◌, ◌*◌, ◌/◌, ◌%◌, ◌<◌, List, Some, length, slice_get, get_or, refl, sym, ap, arith}
use Rattle.std.proofs.lemmas.Option.{some_pair_parts, slice_get-get_or}
use Rattle.ddf_primary.specs.declared.layout.Layout.{Layout}
use Rattle.ddf_primary.specs.declared.layout.Layout.TheVariants.{Raid0, Raid1, Parity, Jbod, Concatenation, Mirror}
use Rattle.ddf_primary.specs.declared.parity.ParityLayout.{ParityLayout}
use Rattle.ddf_primary.specs.Placement.{Placement}
use Rattle.ddf_primary.specs.Levels.{IsShape}
use Rattle.ddf_primary.specs.Cells.{cells, members_around, parity_on}
use Rattle.ddf_primary.proofs.Around.{length-data_around, parity_on_within}
use Rattle.ddf_primary.proofs.Divide.{number_within, same_row, later_place}
use Rattle.ddf_primary.proofs.RowLayouts.{raid_0_place, parity_length, parity_place}
use Rattle.ddf_primary.proofs.ShapeFacts.{raid_1_members, parity_members, jbod_members}
use Rattle.ddf_primary.proofs.MirrorLayouts.{first_along, same_cell}
use Rattle.ddf_primary.proofs.WholeLayouts.{raid_1_place, jbod_place, concatenated_place}

-- the same cell by another name
moved : (items : List (ℕ × ℕ)) (block k member sector own at : ℕ) → slice_get items block ≡ Some (member, sector) → slice_get items block ≡ Some (own, at)
    → slice_get items (block + k) ≡ Some (own, at + k) → slice_get items (block + k) ≡ Some (member, sector + k)
moved items block k member sector own at there here later =
    let parts = some_pair_parts own member at sector (sym here ∙ there) in
    later ∙ same_cell own member (at + k) (sector + k) parts.0 (ap (λ n. n + k) parts.1)

module _ (shape : Placement) (sound : IsShape shape) (block k member sector : ℕ) (there : slice_get (cells shape) block ≡ Some (member, sector))
    (below : block + k < length (cells shape)) (stays : block % shape.strip + k < shape.strip) where
  here : block < length (cells shape)
  here = omega (arith, below)

  in_strips : shape.layout ≡ Raid0 → slice_get (cells shape) (block + k) ≡ Some (member, sector + k)
  in_strips is =
      let s = shape.strip in
      let n = shape.members in
      let row = same_row block k s stays in
      moved (cells shape) block k member sector _ _ there (raid_0_place shape is block here)
      (raid_0_place shape is (block + k) below
      ∙ same_cell ((block + k) / s % n) (block / s % n) _ _ (ap (λ m. m % n) row)
      (ap (λ m. m / n * s + (block + k) % s) row ∙ ap (λ m. block / s / n * s + m) (later_place block k s stays) ∙ omega arith))

  around_parity : (parity : ParityLayout) → shape.layout ≡ Parity parity → slice_get (cells shape) (block + k) ≡ Some (member, sector + k)
  around_parity parity is =
      let s = shape.strip in
      let n = shape.members in
      let two = parity_members shape parity is sound in
      let row = same_row block k s stays in
      let list = members_around parity n (block / s / (n - 1)) in
      let number = block / s % (n - 1) in
      let inside : block < shape.blocks / s * ((n - 1) * s) = omega (arith, parity_length shape parity is two) in
      let long = length-data_around parity n (parity_on parity n (block / s / (n - 1))) (parity_on_within parity n (block / s / (n - 1)) (omega (arith, two))) in
      let own = slice_get-get_or list number 0 (omega (arith, long, number_within block s (n - 1) (shape.blocks / s) inside)) in
      let later : slice_get (members_around parity n ((block + k) / s / (n - 1))) ((block + k) / s % (n - 1)) ≡ Some (get_or list number 0) =
      ap (λ m. slice_get (members_around parity n (m / (n - 1))) (m % (n - 1))) row ∙ own in
      moved (cells shape) block k member sector _ _ there (parity_place shape parity is two block (get_or list number 0) here own)
      (parity_place shape parity is two (block + k) (get_or list number 0) below later
      ∙ same_cell (get_or list number 0) (get_or list number 0) _ _ refl
      (ap (λ m. m / (n - 1) * s + (block + k) % s) row ∙ ap (λ m. block / s / (n - 1) * s + m) (later_place block k s stays) ∙ omega arith))

  on_members : shape.layout ≡ Concatenation → sector + k < shape.blocks → slice_get (cells shape) (block + k) ≡ Some (member, sector + k)
  on_members is room =
      let b = shape.blocks in
      let own = concatenated_place shape is block here in
      let parts = some_pair_parts (block / b) member (block % b) sector (sym own ∙ there) in
      let within : block % b + k < b = omega (arith, parts.1, room) in
      moved (cells shape) block k member sector _ _ there own
      (concatenated_place shape is (block + k) below ∙ same_cell _ _ _ _ (same_row block k b within) (later_place block k b within))

  along_by : (layout : Layout) → shape.layout ≡ layout → sector + k < shape.blocks → slice_get (cells shape) (block + k) ≡ Some (member, sector + k)
  along_by Raid0 is room = in_strips is
  along_by Raid1 is room =
      let two = raid_1_members shape is sound in
      moved (cells shape) block k member sector 0 block there (raid_1_place shape is two block here) (raid_1_place shape is two (block + k) below)
  along_by (Parity parity) is room = around_parity parity is
  along_by Jbod is room =
      let one = jbod_members shape is sound in
      moved (cells shape) block k member sector 0 block there (jbod_place shape is one block here) (jbod_place shape is one (block + k) below)
  along_by Concatenation is room = on_members is room
  along_by (Mirror spread) is room = first_along shape spread is block k member sector there below stays

  -- within a strip that is on one member
  pub cell_along : sector + k < shape.blocks → slice_get (cells shape) (block + k) ≡ Some (member, sector + k)
  cell_along room = along_by shape.layout refl room
