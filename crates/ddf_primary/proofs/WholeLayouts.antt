-- The cells of the layouts without rows: RAID 1, JBOD and concatenation.
use Rattle.std.proofs.Common.{◌≡◌, ℕ, ◌+◌, ◌*◌, ◌/◌, ◌%◌, ◌<◌, ◌≤◌, ◌↔◌, inr, length, Some, slice_get, refl, sym, ap, ◌∙◌, zero-add, arith}
use Rattle.std.specs.List.{range_with_len, flat_map}
use Rattle.std.proofs.lemmas.List.FromFn.{length-range_with_len}
use Rattle.std.proofs.lemmas.Nat.{div-add-mod', div_below, mod_below}
use Rattle.std.proofs.lemmas.Option.{slice_get_within, some_pair_parts, none-some}
use Rattle.ddf_lemmas.proofs.Lists.{slice_get-range}
use Rattle.ddf_lemmas.proofs.Tests.{factor_pos}
use Rattle.ddf_primary.specs.declared.layout.Layout.TheVariants.{Raid1, Jbod, Concatenation}
use Rattle.ddf_primary.specs.Placement.{Placement}
use Rattle.ddf_primary.specs.Cells.{cells, member_cells, depth_of, Holds}
use Rattle.ddf_primary.proofs.Lists.{length-pieces, slice_get-pieces}
use Rattle.ddf_primary.proofs.Striped.{length-sectors, slice_get-sectors}
use Rattle.ddf_primary.proofs.CellFacts.{CellFacts, Holds-from, Holds-read}

-- a member's block is the block of its sector
pub own_sector : (blocks member block : ℕ) → block < blocks → slice_get (member_cells blocks member) block ≡ Some (member, block)
own_sector blocks member block below =
    slice_get-sectors 0 blocks member block below ∙ rw zero-add refl

pub record OwnSector (blocks own block member sector : ℕ) : Type 0 where
  pub member_is : own ≡ member
  pub sector_is : block ≡ sector
  pub within : sector < blocks

pub own_inverse : (blocks own block member sector : ℕ) → slice_get (member_cells blocks own) block ≡ Some (member, sector) → OwnSector blocks own block member sector
own_inverse blocks own block member sector there =
    let below : block < blocks = omega (arith, slice_get_within (member_cells blocks own) block (member, sector) there, length-sectors 0 blocks own) in
    let parts = some_pair_parts own member block sector (sym (own_sector blocks own block below) ∙ there) in
    record { member_is = parts.0; sector_is = parts.1; within = omega (arith, parts.1) }

module _ (shape : Placement) (is : shape.layout ≡ Raid1) (two : 2 ≤ shape.members) where
  raid_1_cells : cells shape ≡ member_cells shape.blocks 0
  unfolding cells
  raid_1_cells = rw is refl

  pub raid_1_length : length (cells shape) ≡ shape.blocks
  raid_1_length = ap length raid_1_cells ∙ length-sectors 0 shape.blocks 0

  pub raid_1_place : (block : ℕ) → block < length (cells shape) → slice_get (cells shape) block ≡ Some (0, block)
  raid_1_place block below = rw raid_1_cells (own_sector shape.blocks 0 block (omega (arith, raid_1_length)))

  raid_1_read : (member sector block : ℕ) → Holds shape member sector block → (member < shape.members) × OwnSector shape.blocks 0 block 0 sector
  raid_1_read member sector block holds =
      let known = Holds-read shape Raid1 member sector block is holds in
      (known.0, own_inverse shape.blocks 0 block 0 sector (rw raid_1_cells at known.1))

  pub raid_1_block : (member sector block : ℕ) → member < shape.members → sector < depth_of shape → (block ≡ sector) ↔ Holds shape member sector block
  raid_1_block member sector block known near =
      let inside : sector < shape.blocks = rw is at near in (
        λ e. Holds-from shape Raid1 member sector block is (known, rw (raid_1_cells, e) (own_sector shape.blocks 0 sector inside)),
        λ holds. (raid_1_read member sector block holds).1.sector_is,
      )

  pub raid_1_facts : CellFacts shape
  raid_1_facts =
      record {
        named = λ member sector block there.
            let own = own_inverse shape.blocks 0 block member sector (rw raid_1_cells at there) in
            Holds-from shape Raid1 member sector block is (omega (arith, own.member_is), rw own.member_is there);
        apart = λ member sector a b in_a in_b.
            (raid_1_read member sector a in_a).1.sector_is ∙ sym (raid_1_read member sector b in_b).1.sector_is;
        member_within = λ member sector block holds. (raid_1_read member sector block holds).0;
        sector_within = λ member sector block holds. rw is ((raid_1_read member sector block holds).1.within);
        no_parity = λ member sector block holds on. none-some member (rw is at on);
        covered = λ member sector known near even. inr (sector, (raid_1_block member sector sector known near).0 refl);
      }

module _ (shape : Placement) (is : shape.layout ≡ Jbod) (one : shape.members ≡ 1) where
  jbod_cells : cells shape ≡ member_cells shape.blocks 0
  unfolding cells
  jbod_cells = rw is refl

  pub jbod_length : length (cells shape) ≡ shape.blocks
  jbod_length = ap length jbod_cells ∙ length-sectors 0 shape.blocks 0

  pub jbod_place : (block : ℕ) → block < length (cells shape) → slice_get (cells shape) block ≡ Some (0, block)
  jbod_place block below = rw jbod_cells (own_sector shape.blocks 0 block (omega (arith, jbod_length)))

  jbod_read : (member sector block : ℕ) → Holds shape member sector block → OwnSector shape.blocks 0 block member sector
  jbod_read member sector block holds =
      own_inverse shape.blocks 0 block member sector (rw jbod_cells at (Holds-read shape Jbod member sector block is holds))

  pub jbod_block : (member sector block : ℕ) → member < shape.members → sector < depth_of shape → (block ≡ sector) ↔ Holds shape member sector block
  jbod_block member sector block known near =
      let inside : sector < shape.blocks = rw is at near in
      let first : member ≡ 0 = omega arith in (
        λ e. Holds-from shape Jbod member sector block is (rw (jbod_cells, e, first) (own_sector shape.blocks 0 sector inside)),
        λ holds. (jbod_read member sector block holds).sector_is,
      )

  pub jbod_facts : CellFacts shape
  jbod_facts =
      record {
        named = λ member sector block there. Holds-from shape Jbod member sector block is there;
        apart = λ member sector a b in_a in_b.
            (jbod_read member sector a in_a).sector_is ∙ sym (jbod_read member sector b in_b).sector_is;
        member_within = λ member sector block holds. omega (arith, (jbod_read member sector block holds).member_is);
        sector_within = λ member sector block holds. rw is ((jbod_read member sector block holds).within);
        no_parity = λ member sector block holds on. none-some member (rw is at on);
        covered = λ member sector known near even. inr (sector, (jbod_block member sector sector known near).0 refl);
      }

module _ (shape : Placement) (is : shape.layout ≡ Concatenation) where
  concatenated_cells : cells shape ≡ flat_map (member_cells shape.blocks) (range_with_len 0 shape.members)
  unfolding cells
  concatenated_cells = rw is refl

  pub concatenated_length : length (cells shape) ≡ shape.members * shape.blocks
  concatenated_length =
      ap length concatenated_cells
      ∙ length-pieces (member_cells shape.blocks) shape.blocks (length-sectors 0 shape.blocks) (range_with_len 0 shape.members)
      ∙ ap (λ n. n * shape.blocks) (length-range_with_len 0 shape.members)

  concatenated_at : (member sector : ℕ) → member < shape.members → sector < shape.blocks → slice_get (cells shape) (member * shape.blocks + sector) ≡ Some (member, sector)
  concatenated_at member sector known near =
      rw concatenated_cells
      (slice_get-pieces (member_cells shape.blocks) shape.blocks (length-sectors 0 shape.blocks) (range_with_len 0 shape.members) member sector member (slice_get-range 0 shape.members member known ∙ ap Some (zero-add member)) near
      ∙ own_sector shape.blocks member sector near)

  pub concatenated_place : (block : ℕ) → block < length (cells shape) → slice_get (cells shape) block ≡ Some (block / shape.blocks, block % shape.blocks)
  concatenated_place block below =
      let inside : block < shape.members * shape.blocks = omega (arith, concatenated_length) in
      let some : 0 < shape.blocks = factor_pos shape.members shape.blocks block inside in
      rw div-add-mod' at (concatenated_at (block / shape.blocks) (block % shape.blocks) (div_below block shape.blocks shape.members some inside) (mod_below block shape.blocks some))

  pub concatenated_within : (block : ℕ) → block < length (cells shape) → block / shape.blocks < shape.members
  concatenated_within block below =
      let inside : block < shape.members * shape.blocks = omega (arith, concatenated_length) in
      div_below block shape.blocks shape.members (factor_pos shape.members shape.blocks block inside) inside

  record Piece (block member sector : ℕ) : Type 0 where
    block_is : block ≡ member * shape.blocks + sector
    known : member < shape.members
    near : sector < shape.blocks

  concatenated_read : (member sector block : ℕ) → Holds shape member sector block → Piece block member sector
  concatenated_read member sector block holds =
      let there = Holds-read shape Concatenation member sector block is holds in
      let below = slice_get_within (cells shape) block (member, sector) there in
      let inside : block < shape.members * shape.blocks = omega (arith, below, concatenated_length) in
      let some : 0 < shape.blocks = factor_pos shape.members shape.blocks block inside in
      let parts = some_pair_parts (block / shape.blocks) member (block % shape.blocks) sector (sym (concatenated_place block below) ∙ there) in
      record {
        block_is = rw (sym parts.0, sym parts.1) (sym (div-add-mod' block shape.blocks));
        known = omega (arith, parts.0, concatenated_within block below);
        near = omega (arith, parts.1, mod_below block shape.blocks some);
      }

  pub concatenated_block : (member sector block : ℕ) → member < shape.members → sector < depth_of shape → (block ≡ member * shape.blocks + sector) ↔ Holds shape member sector block
  concatenated_block member sector block known near =
      let inside : sector < shape.blocks = rw is at near in (
        λ e. Holds-from shape Concatenation member sector block is (rw e (concatenated_at member sector known inside)),
        λ holds. (concatenated_read member sector block holds).block_is,
      )

  pub concatenated_facts : CellFacts shape
  concatenated_facts =
      record {
        named = λ member sector block there. Holds-from shape Concatenation member sector block is there;
        apart = λ member sector a b in_a in_b.
            (concatenated_read member sector a in_a).block_is ∙ sym (concatenated_read member sector b in_b).block_is;
        member_within = λ member sector block holds. (concatenated_read member sector block holds).known;
        sector_within = λ member sector block holds. rw is ((concatenated_read member sector block holds).near);
        no_parity = λ member sector block holds on. none-some member (rw is at on);
        covered = λ member sector known near even.
            inr (member * shape.blocks + sector, (concatenated_block member sector _ known near).0 refl);
      }
