-- The cells of the layouts with rows: RAID 0, and RAID 4 and 5.
use Rattle.std.proofs.Common.{◌≡◌, ℕ, ◌+◌, ◌-◌, ◌*◌, ◌/◌, ◌%◌, ◌<◌, ◌≤◌, ◌↔◌, inl, inr, ⊎_elim, length, Some, slice_get, refl, sym, ap, ◌∙◌, arith}
use Rattle.std.specs.List.{range_with_len}
use Rattle.std.proofs.lemmas.Bool.{cases_eq}
use Rattle.std.proofs.lemmas.List.FromFn.{length-range_with_len}
use Rattle.std.proofs.lemmas.Option.{slice_get_within, same_Some, none-some}
use Rattle.ddf_lemmas.proofs.Lists.{range_at, slice_get-range}
use Rattle.ddf_primary.specs.declared.layout.Layout.TheVariants.{Raid0, Parity}
use Rattle.ddf_primary.specs.declared.parity.ParityLayout.{ParityLayout}
use Rattle.ddf_primary.specs.Placement.{Placement}
use Rattle.ddf_primary.specs.Cells.{cells, striped_cells, every_member, members_around, parity_on, depth_of, Holds}
use Rattle.ddf_primary.proofs.Divide.{number_within}
use Rattle.ddf_primary.proofs.Around.{PlaceAround, length-data_around, around, around_apart, around_placed, parity_on_within}
use Rattle.ddf_primary.proofs.Striped.{length-striped, striped_place, striped_block, striped_inverse, striped_apart, striped_within}
use Rattle.ddf_primary.proofs.CellFacts.{CellFacts, Holds-from, Holds-read}

-- member m stands at place m of all members
in_all : (members i member : ℕ) → slice_get (range_with_len 0 members) i ≡ Some member → i ≡ member
in_all members i member at =
    let below : i < members = omega (arith, slice_get_within (range_with_len 0 members) i member at, length-range_with_len 0 members) in
    omega (arith, same_Some (0 + i) member (sym (slice_get-range 0 members i below) ∙ at))

length-every_member : (members row : ℕ) → length (every_member members row) ≡ members
length-every_member members row = length-range_with_len 0 members

module _ (shape : Placement) (is : shape.layout ≡ Raid0) where
  raid_0_cells : cells shape ≡ striped_cells (every_member shape.members) shape.strip (shape.blocks / shape.strip)
  unfolding cells
  raid_0_cells = rw is refl

  raid_0_read : (member sector block : ℕ) → Holds shape member sector block → slice_get (striped_cells (every_member shape.members) shape.strip (shape.blocks / shape.strip)) block ≡ Some (member, sector)
  raid_0_read member sector block holds = rw raid_0_cells at (Holds-read shape Raid0 member sector block is holds)

  pub raid_0_length : length (cells shape) ≡ shape.blocks / shape.strip * (shape.members * shape.strip)
  raid_0_length =
      ap length raid_0_cells
      ∙ length-striped (every_member shape.members) shape.members (length-every_member shape.members) shape.strip (shape.blocks / shape.strip)

  pub raid_0_place : (block : ℕ) → block < length (cells shape) → slice_get (cells shape) block ≡ Some (block / shape.strip % shape.members, block / shape.strip / shape.members * shape.strip + block % shape.strip)
  raid_0_place block below =
      let inside : block < shape.blocks / shape.strip * (shape.members * shape.strip) = omega (arith, raid_0_length) in
      rw raid_0_cells
      (striped_place (every_member shape.members) shape.members (length-every_member shape.members) shape.strip (shape.blocks / shape.strip) block (block / shape.strip % shape.members) inside
      (range_at shape.members (block / shape.strip % shape.members) (number_within block shape.strip shape.members (shape.blocks / shape.strip) inside)))

  pub raid_0_block : (member sector block : ℕ) → member < shape.members → sector < depth_of shape → (block ≡ (sector / shape.strip * shape.members + member) * shape.strip + sector % shape.strip) ↔ Holds shape member sector block
  raid_0_block member sector block known near =
      rw (raid_0_cells, is)
      (striped_block (every_member shape.members) shape.members (length-every_member shape.members) shape.strip (shape.blocks / shape.strip) member sector member block
      (range_at shape.members member known) (λ i at. in_all shape.members i member at) (rw is at near))

  pub raid_0_facts : CellFacts shape
  raid_0_facts =
      record {
        named = λ member sector block there. Holds-from shape Raid0 member sector block is there;
        apart = λ member sector a b in_a in_b.
            striped_apart (every_member shape.members) shape.members (length-every_member shape.members) shape.strip (shape.blocks / shape.strip) member sector a b
            (λ row i j at_i at_j. in_all shape.members i member at_i ∙ sym (in_all shape.members j member at_j))
            (raid_0_read member sector a in_a) (raid_0_read member sector b in_b);
        member_within = λ member sector block holds.
            let inverse = striped_inverse (every_member shape.members) shape.members (length-every_member shape.members) shape.strip (shape.blocks / shape.strip) block member sector (raid_0_read member sector block holds) in
            omega (arith, in_all shape.members (block / shape.strip % shape.members) member inverse.number_at, slice_get_within (range_with_len 0 shape.members) (block / shape.strip % shape.members) member inverse.number_at, length-range_with_len 0 shape.members);
        sector_within = λ member sector block holds. rw is (striped_within (every_member shape.members) shape.members (length-every_member shape.members) shape.strip (shape.blocks / shape.strip) block member sector (raid_0_read member sector block holds));
        no_parity = λ member sector block holds on. none-some member (rw is at on);
        covered = λ member sector known near even.
            inr ((sector / shape.strip * shape.members + member) * shape.strip + sector % shape.strip, (raid_0_block member sector _ known near).0 refl);
      }

module _ (shape : Placement) (parity : ParityLayout) (is : shape.layout ≡ Parity parity) (two : 2 ≤ shape.members) where
  on_within : (row : ℕ) → parity_on parity shape.members row < shape.members
  on_within row = parity_on_within parity shape.members row (omega arith)

  length-around : (row : ℕ) → length (members_around parity shape.members row) ≡ shape.members - 1
  length-around row = length-data_around parity shape.members (parity_on parity shape.members row) (on_within row)

  parity_cells : cells shape ≡ striped_cells (members_around parity shape.members) shape.strip (shape.blocks / shape.strip)
  unfolding cells
  parity_cells = rw is refl

  parity_read : (member sector block : ℕ) → Holds shape member sector block → slice_get (striped_cells (members_around parity shape.members) shape.strip (shape.blocks / shape.strip)) block ≡ Some (member, sector)
  parity_read member sector block holds = rw parity_cells at (Holds-read shape (Parity parity) member sector block is holds)

  pub parity_length : length (cells shape) ≡ shape.blocks / shape.strip * ((shape.members - 1) * shape.strip)
  parity_length =
      ap length parity_cells
      ∙ length-striped (members_around parity shape.members) (shape.members - 1) length-around shape.strip (shape.blocks / shape.strip)

  pub parity_place : (block member : ℕ) → block < length (cells shape) → slice_get (members_around parity shape.members (block / shape.strip / (shape.members - 1))) (block / shape.strip % (shape.members - 1)) ≡ Some member → slice_get (cells shape) block ≡ Some (member, block / shape.strip / (shape.members - 1) * shape.strip + block % shape.strip)
  parity_place block member below there =
      let inside : block < shape.blocks / shape.strip * ((shape.members - 1) * shape.strip) = omega (arith, parity_length) in
      rw parity_cells
      (striped_place (members_around parity shape.members) (shape.members - 1) length-around shape.strip (shape.blocks / shape.strip) block member inside there)

  pub parity_block : (member sector number block : ℕ) → slice_get (members_around parity shape.members (sector / shape.strip)) number ≡ Some member → sector < depth_of shape → (block ≡ (sector / shape.strip * (shape.members - 1) + number) * shape.strip + sector % shape.strip) ↔ Holds shape member sector block
  parity_block member sector number block there near =
      rw (parity_cells, is)
      (striped_block (members_around parity shape.members) (shape.members - 1) length-around shape.strip (shape.blocks / shape.strip) member sector number block there
      (λ i at_i. around_apart parity shape.members (parity_on parity shape.members (sector / shape.strip)) i number member at_i there) (rw is at near))

  placed_around : (member sector block : ℕ) → Holds shape member sector block → PlaceAround shape.members (parity_on parity shape.members (sector / shape.strip)) (block / shape.strip % (shape.members - 1)) member
  placed_around member sector block holds =
      let inverse = striped_inverse (members_around parity shape.members) (shape.members - 1) length-around shape.strip (shape.blocks / shape.strip) block member sector (parity_read member sector block holds) in
      around parity shape.members (parity_on parity shape.members (sector / shape.strip)) (block / shape.strip % (shape.members - 1)) member (on_within (sector / shape.strip)) inverse.number_at

  pub parity_facts : CellFacts shape
  parity_facts =
      record {
        named = λ member sector block there. Holds-from shape (Parity parity) member sector block is there;
        apart = λ member sector a b in_a in_b.
            striped_apart (members_around parity shape.members) (shape.members - 1) length-around shape.strip (shape.blocks / shape.strip) member sector a b
            (λ row i j at_i at_j. around_apart parity shape.members (parity_on parity shape.members row) i j member at_i at_j)
            (parity_read member sector a in_a) (parity_read member sector b in_b);
        member_within = λ member sector block holds. (placed_around member sector block holds).within;
        sector_within = λ member sector block holds. rw is (striped_within (members_around parity shape.members) (shape.members - 1) length-around shape.strip (shape.blocks / shape.strip) block member sector (parity_read member sector block holds));
        no_parity = λ member sector block holds on.
            (placed_around member sector block holds).not_parity (sym (same_Some _ member (rw is at on)));
        covered = λ member sector known near even.
            let row = sector / shape.strip in
            ⊎_elim (λ same. inl (rw is (ap Some (sym same))))
            (λ other.
            let placed = around_placed parity shape.members (parity_on parity shape.members row) member (on_within row) known other in
            inr ((row * (shape.members - 1) + placed.place) * shape.strip + sector % shape.strip, (parity_block member sector placed.place _ placed.at near).0 refl))
            (cases_eq member (parity_on parity shape.members row));
      }
