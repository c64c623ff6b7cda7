-- The cells of RAID 1E.
use borrow.Author.Tests.{leb-true}
use Rattle.std.proofs.Common.{◌≡◌, ◌≢◌, ◌∙◌, ℕ, ◌+◌, ◌-◌, ◌*◌, ◌/◌, ◌%◌, ◌^◌, ◌<◌, ◌≤◌, List, Option, Some, slice_get, length, inl, inr, ⊎_elim, refl, sym, ap, subst, zero-add, arith}
use Rattle.std.specs.Prelude.{nat_le, option_map, ◌==◌}
use Rattle.std.specs.List.{range_with_len}
use Rattle.std.proofs.lemmas.Bool.{and_parts, cases_Bool}
use Rattle.std.proofs.lemmas.List.{length-map}
use Rattle.std.proofs.lemmas.List.FromFn.{length-range_with_len}
use Rattle.std.proofs.lemmas.Nat.{div-mul-add, div_below, le-div, mod_below, mul-add-lt, mul-le}
use Rattle.std.proofs.lemmas.Option.{slice_get-map, slice_get_within, some_pair_parts, none-some}
use Rattle.std.proofs.Math.Nat.{div-mul-le_self, div-div-eq-div-mul}
use Rattle.ddf_lemmas.proofs.Lists.{slice_get-range}
use Rattle.ddf_mirror1e.specs.declared.spread.Spread.{Spread}
use Rattle.ddf_mirror1e.specs.declared.spread.Spread.TheVariants.{Adjacent, Offset}
use Rattle.ddf_mirror1e.specs.Mirror.{mirror}
use Rattle.ddf_mirror1e.specs.Codes.{IsMirror}
use Rattle.ddf_mirror1e.specs.Copies.{capacity, data_strips_by, first, first_strip, second, second_strip, strip_at, Holds as HoldsCopy}
use Rattle.ddf_mirror1e.proofs.Strips.{first_below, second_below, first_pair, second_pair, first_within, follows, never_itself}
use Rattle.ddf_mirror1e.proofs.Places.{apart as copies_apart, member_within as copy_within, capacity_bound, found_holds, in_rows, offset_within, some_members, strip_within}
use Rattle.ddf_primary.specs.declared.layout.Layout.{Layout}
use Rattle.ddf_primary.specs.declared.layout.Layout.TheVariants.{Raid0, Raid1, Parity, Jbod, Concatenation, Mirror}
use Rattle.ddf_primary.specs.Placement.{Placement}
use Rattle.ddf_primary.specs.Levels.{IsShape}
use Rattle.ddf_primary.specs.Needs.{is_on_two}
use Rattle.ddf_primary.specs.Cells.{cells, depth_of, first_cells, height_of, Holds, rows_used, twin_by, twin_of}
use Rattle.ddf_primary.proofs.Needs.{two_is, twins_on_two}
use Rattle.ddf_primary.proofs.Divide.{same_row, later_place}
use Rattle.ddf_primary.proofs.CellFacts.{CellFacts, Holds-from, Holds-read}

pub same_cell : (a x b y : ℕ) → a ≡ x → b ≡ y → ◌≡◌ {A = Option (ℕ × ℕ)} (Some (a, b)) (Some (x, y))
same_cell a x b y e f = let g : ℕ → ℕ → Option (ℕ × ℕ) = λ m n. Some (m, n) in ap (λ m. g m b) e ∙ ap (g x) f

-- ---- the rows that are used, and those that are whole

used_first : (spread : Spread) (members rows strip : ℕ) → 0 < members → strip < data_strips_by spread members rows → (first_strip spread members strip).1 < rows_used spread rows
used_first Adjacent members rows strip some below = first_below Adjacent members rows strip some below
used_first Offset members rows strip some below = omega (arith, div_below strip members (rows / 2) some below)

used_second : (spread : Spread) (members rows strip : ℕ) → 0 < members → strip < data_strips_by spread members rows → (second_strip spread members strip).1 < rows_used spread rows
used_second Adjacent members rows strip some below = second_below Adjacent members rows strip some below
used_second Offset members rows strip some below = omega (arith, div_below strip members (rows / 2) some below)

-- each strip of whole pairs of rows has its strip of blocks
pairs_fit : (spread : Spread) (members rows : ℕ) → rows / 2 * members ≤ data_strips_by spread members rows
pairs_fit Adjacent members rows =
    le-div (rows / 2 * members) (rows * members) 2 (omega arith)
    (omega (arith, mul-le (rows / 2 * 2) members rows members (div-mul-le_self rows 2) (omega arith)))
pairs_fit Offset members rows = omega arith

-- a strip that is used, and not the last odd one, has its strip of blocks
filled : (spread : Spread) (members rows member row : ℕ) → member < members → row < rows_used spread rows → row * members + member < data_strips_by spread members rows * 2
    → strip_at spread members member row < data_strips_by spread members rows
filled Adjacent members rows member row within below even = div_below (row * members + member) 2 (rows * members / 2) (omega arith) even
filled Offset members rows member row within below even =
    let pair : row / 2 < rows / 2 = div_below row 2 (rows / 2) (omega arith) below in
    let before = (member + (members - 1)) % members in
    let upper_below : row / 2 * members + member < rows / 2 * members = omega (arith, mul-add-lt (row / 2) members member (rows / 2) pair within) in
    let lower_below : row / 2 * members + before < rows / 2 * members =
    omega (arith, mul-add-lt (row / 2) members before (rows / 2) pair (mod_below (member + (members - 1)) members (omega (arith, within)))) in
    ⊎_elim (λ upper. rw upper upper_below) (λ lower. rw lower lower_below) (cases_Bool (row % 2 == 0))

sector_used : (spread : Spread) (members strip blocks member sector block : ℕ) → IsMirror (mirror spread members strip blocks)
    → HoldsCopy (mirror spread members strip blocks) member sector block → sector < rows_used spread (blocks / strip) * strip
sector_used spread members strip blocks member sector block is holds =
    let twofold = mirror spread members strip blocks in
    let number = strip_within twofold block is holds.0 in
    let near = offset_within twofold block is in
    ⊎_elim
    (λ x. subst (λ n. n < rows_used spread (blocks / strip) * strip) x.1
    (in_rows strip (first_strip spread members (block / strip)).1 (rows_used spread (blocks / strip)) (block % strip) (used_first spread members (blocks / strip) (block / strip) (some_members twofold is) number) near))
    (λ x. subst (λ n. n < rows_used spread (blocks / strip) * strip) x.1
    (in_rows strip (second_strip spread members (block / strip)).1 (rows_used spread (blocks / strip)) (block % strip) (used_second spread members (blocks / strip) (block / strip) (some_members twofold is) number) near))
    holds.1

-- ---- a shape of this level

module _ (shape : Placement) (spread : Spread) (is : shape.layout ≡ Mirror spread) where
  mirror_cells : cells shape ≡ first_cells (mirror spread shape.members shape.strip shape.blocks)
  unfolding cells
  mirror_cells = rw is refl

  pub mirror_length : length (cells shape) ≡ capacity (mirror spread shape.members shape.strip shape.blocks)
  mirror_length =
      let m = mirror spread shape.members shape.strip shape.blocks in
      ap length mirror_cells ∙ length-map (range_with_len 0 (capacity m)) (first m) ∙ length-range_with_len 0 (capacity m)

  pub mirror_place : (block : ℕ) → block < length (cells shape) → slice_get (cells shape) block ≡ Some (first (mirror spread shape.members shape.strip shape.blocks) block)
  mirror_place block below =
      let m = mirror spread shape.members shape.strip shape.blocks in
      ap (λ (l : List (ℕ × ℕ)). slice_get l block) mirror_cells
      ∙ slice_get-map (first m) (range_with_len 0 (capacity m)) block
      ∙ ap (option_map (first m)) (slice_get-range 0 (capacity m) block (omega (arith, below, mirror_length)) ∙ ap Some (zero-add block))

  pub mirror_twin : (block : ℕ) → twin_of shape block ≡ Some (second (mirror spread shape.members shape.strip shape.blocks) block)
  mirror_twin block = rw is refl

  pub mirror_read : (member sector block : ℕ) → Holds shape member sector block → HoldsCopy (mirror spread shape.members shape.strip shape.blocks) member sector block
  mirror_read member sector block holds = Holds-read shape (Mirror spread) member sector block is holds

  pub mirror_holds : (member sector block : ℕ) → HoldsCopy (mirror spread shape.members shape.strip shape.blocks) member sector block → Holds shape member sector block
  mirror_holds member sector block holds = Holds-from shape (Mirror spread) member sector block is holds

  module _ (sound : IsShape shape) where
    pub is_mirror : IsMirror (mirror spread shape.members shape.strip shape.blocks)
    is_mirror =
        let taken = rw is at sound.members_taken in
        let fits = rw is at sound.blocks_taken in
        let parts = and_parts (nat_le (2 * shape.strip) shape.blocks) (nat_le shape.blocks (2 ^ 48)) fits in
        record {
          members_fit = sound.members_fit;
          some_members = leb-true 3 shape.members taken;
          some_strip = sound.some_strip;
          small_strip = sound.small_strip;
          least = leb-true (2 * shape.strip) shape.blocks parts.0;
          most = leb-true shape.blocks (2 ^ 48) parts.1;
        }

    mirror_named : (member sector block : ℕ) → slice_get (cells shape) block ≡ Some (member, sector) → Holds shape member sector block
    mirror_named member sector block there =
        let m = mirror spread shape.members shape.strip shape.blocks in
        let below = slice_get_within (cells shape) block (member, sector) there in
        let parts = some_pair_parts (first m block).0 member (first m block).1 sector (sym (mirror_place block below) ∙ there) in
        mirror_holds member sector block (omega (arith, below, mirror_length), inl (parts.0, parts.1))

    mirror_covered : (member sector : ℕ) → member < shape.members → sector < depth_of shape → (sector / shape.strip * shape.members + member) * shape.strip < 2 * length (cells shape)
        → (block : ℕ) × Holds shape member sector block
    mirror_covered member sector known near even =
        let m = mirror spread shape.members shape.strip shape.blocks in
        let rows = shape.blocks / shape.strip in
        let count = data_strips_by spread shape.members rows in
        let place = sector / shape.strip * shape.members + member in
        let some : 0 < shape.strip = omega (arith, sound.some_strip) in
        let inside : sector < rows_used spread rows * shape.strip = rw is at near in
        let row : sector / shape.strip < rows_used spread rows = div_below sector shape.strip (rows_used spread rows) some inside in
        let long : length (cells shape) ≡ count * shape.strip = mirror_length in
        let twice : place * shape.strip + 0 < count * 2 * shape.strip = omega (arith, even, long) in
        let whole : (place * shape.strip + 0) / shape.strip < count * 2 = div_below (place * shape.strip + 0) shape.strip (count * 2) some twice in
        let below : place < count * 2 = subst (λ n. n < count * 2) (div-mul-add place shape.strip 0 some) whole in
        let found = found_holds m member sector is_mirror known (filled spread shape.members rows member (sector / shape.strip) known row below) in
        (_, mirror_holds member sector _ found)

    pub mirror_facts : CellFacts shape
    mirror_facts =
        let m = mirror spread shape.members shape.strip shape.blocks in
        record {
          named = mirror_named;
          apart = λ member sector a b in_a in_b. copies_apart m member sector a b is_mirror (mirror_read member sector a in_a) (mirror_read member sector b in_b);
          member_within = λ member sector block holds. copy_within m member sector block is_mirror (mirror_read member sector block holds);
          sector_within = λ member sector block holds.
              rw is (sector_used spread shape.members shape.strip shape.blocks member sector block is_mirror (mirror_read member sector block holds));
          no_parity = λ member sector block holds on. none-some member (rw is at on);
          covered = λ member sector known near even. inr (mirror_covered member sector known near (even (ap is_on_two is)));
        }

    -- the whole rows' blocks are among all
    pub mirror_rows : shape.members * shape.strip * (shape.blocks / shape.strip / 2) ≤ length (cells shape)
    mirror_rows =
        let rows = shape.blocks / shape.strip in
        omega (arith, mul-le (rows / 2 * shape.members) shape.strip (data_strips_by spread shape.members rows) shape.strip (pairs_fit spread shape.members rows) (omega arith), mirror_length)

    -- no more than the members have
    pub mirror_le : length (cells shape) ≤ shape.members * shape.blocks
    mirror_le = omega (arith, mirror_length, capacity_bound (mirror spread shape.members shape.strip shape.blocks))

-- ---- both copies

-- they lie on neighbours, in one data row
pub record AreTwins (shape : Placement) (member sector other place : ℕ) : Type 0 where
  pub follows : other ≡ (member + 1) % shape.members
  pub differ : member ≢ other
  pub row : sector / height_of shape ≡ place / height_of shape

-- the data row of a sector of a row of strips
pair_of : (strip row offset : ℕ) → offset < strip → (row * strip + offset) / (2 * strip) ≡ row / 2
pair_of strip row offset near =
    let turned : 2 * strip ≡ strip * 2 = omega arith in
    ap (λ d. (row * strip + offset) / d) turned ∙ sym (div-div-eq-div-mul (row * strip + offset) strip 2) ∙ ap (λ x. x / 2) (div-mul-add row strip offset near)

module _ (shape : Placement) (sound : IsShape shape) (block member sector other place : ℕ)
    (there : slice_get (cells shape) block ≡ Some (member, sector)) (twin : twin_of shape block ≡ Some (other, place)) where
  as_twins : (spread : Spread) → shape.layout ≡ Mirror spread → AreTwins shape member sector other place
  as_twins spread is =
      let m = mirror spread shape.members shape.strip shape.blocks in
      let sure = is_mirror shape spread is sound in
      let below = slice_get_within (cells shape) block (member, sector) there in
      let own = some_pair_parts (first m block).0 member (first m block).1 sector (sym (mirror_place shape spread is block below) ∙ there) in
      let far = some_pair_parts (second m block).0 other (second m block).1 place (sym (mirror_twin shape spread is block) ∙ twin) in
      let number = block / shape.strip in
      let behind : (second m block).0 ≡ ((first m block).0 + 1) % shape.members = follows spread shape.members number in
      let near = offset_within m block sure in
      let height : height_of shape ≡ 2 * shape.strip = rw is refl in
      record {
        follows = sym far.0 ∙ behind ∙ ap (λ n. (n + 1) % shape.members) own.0;
        differ = λ same. never_itself shape.members (first m block).0 (omega (arith, sure.some_members)) (first_within spread shape.members number (some_members m sure))
            (own.0 ∙ same ∙ sym far.0 ∙ behind);
        row = ap (λ h. sector / h) height
            ∙ ap (λ n. n / (2 * shape.strip)) (sym own.1)
            ∙ pair_of shape.strip (first_strip spread shape.members number).1 (block % shape.strip) near
            ∙ first_pair spread shape.members number (some_members m sure)
            ∙ sym (second_pair spread shape.members number (some_members m sure))
            ∙ sym (pair_of shape.strip (second_strip spread shape.members number).1 (block % shape.strip) near)
            ∙ ap (λ n. n / (2 * shape.strip)) far.1
            ∙ sym (ap (λ h. place / h) height);
      }

  pub are_twins : AreTwins shape member sector other place
  are_twins =
      let is = two_is shape.layout (twins_on_two shape block other place twin) in as_twins is.0 is.1

  pub twin_holds : Holds shape other place block
  twin_holds =
      let is = two_is shape.layout (twins_on_two shape block other place twin) in
      let m = mirror is.0 shape.members shape.strip shape.blocks in
      let below = slice_get_within (cells shape) block (member, sector) there in
      let far = some_pair_parts (second m block).0 other (second m block).1 place (sym (mirror_twin shape is.0 is.1 block) ∙ twin) in
      mirror_holds shape is.0 is.1 other place block (omega (arith, below, mirror_length shape is.0 is.1), inr (far.0, far.1))

-- where the block stays in its strip, so does the twin of a later one
pub twin_along : (shape : Placement) (block k : ℕ) → block % shape.strip + k < shape.strip
    → twin_of shape (block + k) ≡ option_map (λ (cell : ℕ × ℕ). (cell.0, cell.1 + k)) (twin_of shape block)
twin_along shape block k stays = by shape.layout
  where
    by : (layout : Layout) → twin_by layout shape.members shape.strip shape.blocks (block + k)
        ≡ option_map (λ (cell : ℕ × ℕ). (cell.0, cell.1 + k)) (twin_by layout shape.members shape.strip shape.blocks block)
    by Raid0 = refl
    by Raid1 = refl
    by (Parity parity) = refl
    by Jbod = refl
    by Concatenation = refl
    by (Mirror spread) =
        let s = shape.strip in
        let row = same_row block k s stays in
        same_cell (second_strip spread shape.members ((block + k) / s)).0 (second_strip spread shape.members (block / s)).0
        ((second_strip spread shape.members ((block + k) / s)).1 * s + (block + k) % s) ((second_strip spread shape.members (block / s)).1 * s + block % s + k)
        (ap (λ m. (second_strip spread shape.members m).0) row)
        (ap (λ m. (second_strip spread shape.members m).1 * s + (block + k) % s) row
        ∙ ap (λ m. (second_strip spread shape.members (block / s)).1 * s + m) (later_place block k s stays) ∙ omega arith)

-- and the first copy
pub first_along : (shape : Placement) (spread : Spread) → shape.layout ≡ Mirror spread → (block k member sector : ℕ) → slice_get (cells shape) block ≡ Some (member, sector)
    → block + k < length (cells shape) → block % shape.strip + k < shape.strip → slice_get (cells shape) (block + k) ≡ Some (member, sector + k)
first_along shape spread is block k member sector there below stays =
    let s = shape.strip in
    let m = mirror spread shape.members shape.strip shape.blocks in
    let row = same_row block k s stays in
    let own = some_pair_parts (first m block).0 member (first m block).1 sector (sym (mirror_place shape spread is block (omega (arith, below))) ∙ there) in
    mirror_place shape spread is (block + k) below
    ∙ same_cell (first_strip spread shape.members ((block + k) / s)).0 member ((first_strip spread shape.members ((block + k) / s)).1 * s + (block + k) % s) (sector + k)
    (ap (λ n. (first_strip spread shape.members n).0) row ∙ own.0)
    (ap (λ n. (first_strip spread shape.members n).1 * s + (block + k) % s) row
    ∙ ap (λ n. (first_strip spread shape.members (block / s)).1 * s + n) (later_place block k s stays) ∙ omega (arith, own.1))
