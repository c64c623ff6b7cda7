-- The facts of every shape's cells, whatever its layout.
use Rattle.std.proofs.Common.{◌≡◌, ℕ, ◌+◌, ◌-◌, ◌*◌, ◌/◌, ◌%◌, ◌≤◌, ◌<◌, ◌↔◌, ◌⊎◌, ⊎_elim, IsTrue, false, Option, None, Some, slice_get, length, refl, sym, ap, subst, ◌∙◌, arith, rules, tests}
use Rattle.std.proofs.lemmas.Nat.{mul-le}
use Rattle.std.proofs.lemmas.Option.{none-some}
use Rattle.std.proofs.Math.Nat.{div-mul-le_self}
use Rattle.ddf_lemmas.proofs.Options.{some_block}
use Rattle.ddf_mirror1e.specs.declared.spread.Spread.{Spread}
use Rattle.ddf_mirror1e.specs.declared.spread.Spread.TheVariants.{Adjacent, Offset}
use Rattle.ddf_primary.specs.declared.layout.Layout.{Layout}
use Rattle.ddf_primary.specs.declared.layout.Layout.TheVariants.{Raid0, Raid1, Parity, Jbod, Concatenation, Mirror}
use Rattle.ddf_primary.specs.declared.parity.ParityLayout.{ParityLayout}
use Rattle.ddf_primary.specs.Placement.{Placement}
use Rattle.ddf_primary.specs.Levels.{takes_members, IsShape}
use Rattle.ddf_primary.specs.Needs.{is_on_two}
use Rattle.ddf_primary.specs.Cells.{cells, columns_by, depth_by, depth_of, members_around, parity_on, parity_by, rows_by, rows_of, unit_of, Holds, height_by, height_of}
use Rattle.ddf_primary.proofs.CellFacts.{CellFacts}
use Rattle.ddf_primary.proofs.RowLayouts.{raid_0_length, raid_0_block, raid_0_facts, parity_length, parity_block, parity_facts}
use Rattle.ddf_primary.proofs.WholeLayouts.{raid_1_length, raid_1_facts, jbod_length, jbod_facts, concatenated_length, concatenated_facts}
use Rattle.ddf_primary.proofs.MirrorLayouts.{mirror_facts, mirror_le, mirror_rows}

pub raid_1_members : (shape : Placement) → shape.layout ≡ Raid1 → IsShape shape → 2 ≤ shape.members
raid_1_members shape is sound = let taken = rw is at sound.members_taken in search (rules, tests)

pub parity_members : (shape : Placement) (parity : ParityLayout) → shape.layout ≡ Parity parity → IsShape shape → 2 ≤ shape.members
parity_members shape parity is sound = let taken = rw is at sound.members_taken in search (rules, tests)

pub jbod_members : (shape : Placement) → shape.layout ≡ Jbod → IsShape shape → shape.members ≡ 1
jbod_members shape is sound = let taken = rw is at sound.members_taken in search (rules, tests)

facts_by : (layout : Layout) (shape : Placement) → shape.layout ≡ layout → IsShape shape → CellFacts shape
facts_by Raid0 shape is sound = raid_0_facts shape is
facts_by Raid1 shape is sound = raid_1_facts shape is (raid_1_members shape is sound)
facts_by (Parity parity) shape is sound = parity_facts shape parity is (parity_members shape parity is sound)
facts_by Jbod shape is sound = jbod_facts shape is (jbod_members shape is sound)
facts_by Concatenation shape is sound = concatenated_facts shape is
facts_by (Mirror spread) shape is sound = mirror_facts shape spread is sound

pub cell_facts : (shape : Placement) → IsShape shape → CellFacts shape
cell_facts shape sound = facts_by shape.layout shape refl sound

turned : (rows columns strip : ℕ) → columns * (rows * strip) ≡ rows * (columns * strip)
turned rows columns strip = omega arith

once : (blocks : ℕ) → 1 * blocks ≡ blocks
once blocks = omega arith

-- the length of the list, where members don't follow one another and each block is counted once
length_by : (layout : Layout) (shape : Placement) → shape.layout ≡ layout → IsShape shape → (layout ≡ Concatenation → ⊥) → is_on_two layout ≡ false → columns_by shape.layout shape.members * depth_of shape ≡ length (cells shape)
length_by Raid0 shape is sound other once_each =
    subst (λ (l : Layout). columns_by l shape.members * depth_by l shape.strip shape.blocks ≡ length (cells shape)) (sym is)
    (turned (shape.blocks / shape.strip) shape.members shape.strip ∙ sym (raid_0_length shape is))
length_by Raid1 shape is sound other once_each =
    subst (λ (l : Layout). columns_by l shape.members * depth_by l shape.strip shape.blocks ≡ length (cells shape)) (sym is)
    (once shape.blocks ∙ sym (raid_1_length shape is (raid_1_members shape is sound)))
length_by (Parity parity) shape is sound other once_each =
    subst (λ (l : Layout). columns_by l shape.members * depth_by l shape.strip shape.blocks ≡ length (cells shape)) (sym is)
    (turned (shape.blocks / shape.strip) (shape.members - 1) shape.strip ∙ sym (parity_length shape parity is (parity_members shape parity is sound)))
length_by Jbod shape is sound other once_each =
    subst (λ (l : Layout). columns_by l shape.members * depth_by l shape.strip shape.blocks ≡ length (cells shape)) (sym is)
    (once shape.blocks ∙ sym (jbod_length shape is (jbod_members shape is sound)))
length_by Concatenation shape is sound other once_each = absurd (other refl)
length_by (Mirror spread) shape is sound other once_each = absurd (cc)

pub capacity_is : (shape : Placement) → IsShape shape → (shape.layout ≡ Concatenation → ⊥) → is_on_two shape.layout ≡ false → columns_by shape.layout shape.members * depth_of shape ≡ length (cells shape)
capacity_is shape sound other once_each = length_by shape.layout shape refl sound other once_each

pub columns_le : (layout : Layout) (members : ℕ) → IsTrue (takes_members layout members) → columns_by layout members ≤ members
columns_le Raid0 members taken = omega arith
columns_le Raid1 members taken = search (rules, tests)
columns_le (Parity parity) members taken = omega arith
columns_le Jbod members taken = search (rules, tests)
columns_le Concatenation members taken = search (rules, tests)
columns_le (Mirror spread) members taken = omega arith

pub depth_le : (layout : Layout) (strip blocks : ℕ) → depth_by layout strip blocks ≤ blocks
depth_le Raid0 strip blocks = omega (arith, div-mul-le_self blocks strip)
depth_le Raid1 strip blocks = omega arith
depth_le (Parity parity) strip blocks = omega (arith, div-mul-le_self blocks strip)
depth_le Jbod strip blocks = omega arith
depth_le Concatenation strip blocks = omega arith
depth_le (Mirror Adjacent) strip blocks = omega (arith, div-mul-le_self blocks strip)
depth_le (Mirror Offset) strip blocks =
    omega (arith, mul-le (blocks / strip / 2 * 2) strip (blocks / strip) strip (div-mul-le_self (blocks / strip) 2) (omega arith), div-mul-le_self blocks strip)

pub capacity_le : (shape : Placement) → IsShape shape → columns_by shape.layout shape.members * depth_of shape ≤ shape.members * shape.blocks
capacity_le shape sound =
    mul-le _ _ _ _ (columns_le shape.layout shape.members sound.members_taken) (depth_le shape.layout shape.strip shape.blocks)

rows_by_other : (layout : Layout) (members strip blocks : ℕ) → (layout ≡ Concatenation → ⊥) → is_on_two layout ≡ false → blocks / strip ≡ rows_by layout members strip blocks
rows_by_other Raid0 members strip blocks other once_each = refl
rows_by_other Raid1 members strip blocks other once_each = refl
rows_by_other (Parity parity) members strip blocks other once_each = refl
rows_by_other Jbod members strip blocks other once_each = refl
rows_by_other Concatenation members strip blocks other once_each = absurd (other refl)
rows_by_other (Mirror spread) members strip blocks other once_each = absurd (cc)

pub rows_is : (shape : Placement) → (shape.layout ≡ Concatenation → ⊥) → is_on_two shape.layout ≡ false → shape.blocks / shape.strip ≡ rows_of shape
rows_is shape other once_each = rows_by_other shape.layout shape.members shape.strip shape.blocks other once_each

rows_within : (layout : Layout) (strip blocks : ℕ) → is_on_two layout ≡ false → blocks / strip * strip ≤ depth_by layout strip blocks
rows_within Raid0 strip blocks once_each = omega arith
rows_within Raid1 strip blocks once_each = div-mul-le_self blocks strip
rows_within (Parity parity) strip blocks once_each = omega arith
rows_within Jbod strip blocks once_each = div-mul-le_self blocks strip
rows_within Concatenation strip blocks once_each = div-mul-le_self blocks strip
rows_within (Mirror spread) strip blocks once_each = absurd (cc)

-- the rows' blocks are among the list's
pub rows_le : (shape : Placement) → IsShape shape → (shape.layout ≡ Concatenation → ⊥) → is_on_two shape.layout ≡ false → unit_of shape * (shape.blocks / shape.strip) ≤ length (cells shape)
rows_le shape sound other once_each =
    let columns = columns_by shape.layout shape.members in
    let filled = mul-le columns (shape.blocks / shape.strip * shape.strip) columns (depth_of shape) (omega arith) (rows_within shape.layout shape.strip shape.blocks once_each) in
    omega (arith, filled, capacity_is shape sound other once_each)

pub rows_le_concatenated : (shape : Placement) → shape.layout ≡ Concatenation → unit_of shape * (shape.members * shape.blocks / shape.strip) ≤ length (cells shape)
rows_le_concatenated shape is =
    let filled : 1 * shape.strip * (shape.members * shape.blocks / shape.strip) ≤ length (cells shape) = omega (arith, div-mul-le_self (shape.members * shape.blocks) shape.strip, concatenated_length shape is) in
    subst (λ (l : Layout). columns_by l shape.members * shape.strip * (shape.members * shape.blocks / shape.strip) ≤ length (cells shape)) (sym is) filled

pub rows_le_mirror : (shape : Placement) (spread : Spread) → shape.layout ≡ Mirror spread → IsShape shape → unit_of shape * (shape.blocks / shape.strip / 2) ≤ length (cells shape)
rows_le_mirror shape spread is sound =
    subst (λ (l : Layout). columns_by l shape.members * shape.strip * (shape.blocks / shape.strip / 2) ≤ length (cells shape)) (sym is) (mirror_rows shape spread is sound)

-- a cell past the members or the depth holds no block
pub none_past : (shape : Placement) (member sector : ℕ) → IsShape shape → (shape.members ≤ member) ⊎ (depth_of shape ≤ sector) → (block : ℕ) → (◌≡◌ {A = Option ℕ} None (Some block)) ↔ Holds shape member sector block
none_past shape member sector sound past block =
    let facts = cell_facts shape sound in (
      λ e. absurd (none-some block e),
      λ holds. absurd
          (⊎_elim (λ h. omega (arith, facts.member_within member sector block holds)) (λ h. omega (arith, facts.sector_within member sector block holds)) past),
    )

-- nor does the parity's
pub none_on_parity : (shape : Placement) (parity : ParityLayout) (member sector : ℕ) → shape.layout ≡ Parity parity → IsShape shape → member ≡ parity_on parity shape.members (sector / shape.strip) → (block : ℕ) → (◌≡◌ {A = Option ℕ} None (Some block)) ↔ Holds shape member sector block
none_on_parity shape parity member sector is sound on block =
    let facts = cell_facts shape sound in (
      λ e. absurd (none-some block e),
      λ holds. absurd
          (facts.no_parity member sector block holds
          (subst (λ (l : Layout). parity_by l shape.members (sector / shape.strip) ≡ Some member) (sym is) (ap Some (sym on)))),
    )

pub raid_0_answer : (shape : Placement) (member sector : ℕ) → shape.layout ≡ Raid0 → member < shape.members → sector < depth_of shape → (block : ℕ) → (◌≡◌ {A = Option ℕ} (Some ((sector / shape.strip * columns_by shape.layout shape.members + member) * shape.strip + sector % shape.strip)) (Some block)) ↔ Holds shape member sector block
raid_0_answer shape member sector is known near block =
    subst (λ (l : Layout). (◌≡◌ {A = Option ℕ} (Some ((sector / shape.strip * columns_by l shape.members + member) * shape.strip + sector % shape.strip)) (Some block)) ↔ Holds shape member sector block) (sym is)
    (some_block _ block (raid_0_block shape is member sector block known near))

pub parity_answer : (shape : Placement) (parity : ParityLayout) (member sector number : ℕ) → shape.layout ≡ Parity parity → IsShape shape → slice_get (members_around parity shape.members (sector / shape.strip)) number ≡ Some member → sector < depth_of shape → (block : ℕ) → (◌≡◌ {A = Option ℕ} (Some ((sector / shape.strip * columns_by shape.layout shape.members + number) * shape.strip + sector % shape.strip)) (Some block)) ↔ Holds shape member sector block
parity_answer shape parity member sector number is sound there near block =
    subst (λ (l : Layout). (◌≡◌ {A = Option ℕ} (Some ((sector / shape.strip * columns_by l shape.members + number) * shape.strip + sector % shape.strip)) (Some block)) ↔ Holds shape member sector block) (sym is)
    (some_block _ block (parity_block shape parity is (parity_members shape parity is sound) member sector number block there near))

-- the list has no more cells than the members have blocks
cells_le_by : (layout : Layout) (shape : Placement) → shape.layout ≡ layout → IsShape shape → length (cells shape) ≤ shape.members * shape.blocks
cells_le_by Raid0 shape is sound = omega (arith, capacity_is shape sound (λ e. let no : Raid0 ≡ Concatenation = sym is ∙ e in absurd cc) (ap is_on_two is), capacity_le shape sound)
cells_le_by Raid1 shape is sound = omega (arith, capacity_is shape sound (λ e. let no : Raid1 ≡ Concatenation = sym is ∙ e in absurd cc) (ap is_on_two is), capacity_le shape sound)
cells_le_by (Parity parity) shape is sound = omega (arith, capacity_is shape sound (λ e. let no : Parity parity ≡ Concatenation = sym is ∙ e in absurd cc) (ap is_on_two is), capacity_le shape sound)
cells_le_by Jbod shape is sound = omega (arith, capacity_is shape sound (λ e. let no : Jbod ≡ Concatenation = sym is ∙ e in absurd cc) (ap is_on_two is), capacity_le shape sound)
cells_le_by Concatenation shape is sound = omega (arith, concatenated_length shape is)
cells_le_by (Mirror spread) shape is sound = mirror_le shape spread is sound

pub cells_le : (shape : Placement) → IsShape shape → length (cells shape) ≤ shape.members * shape.blocks
cells_le shape sound = cells_le_by shape.layout shape refl sound

-- and the whole rows are among it
rows_among : (shape : Placement) → IsShape shape → (shape.layout ≡ Concatenation → ⊥) → is_on_two shape.layout ≡ false → unit_of shape * rows_of shape ≤ length (cells shape)
rows_among shape sound other once_each = subst (λ (n : ℕ). unit_of shape * n ≤ length (cells shape)) (rows_is shape other once_each) (rows_le shape sound other once_each)

rows_fit_by : (layout : Layout) (shape : Placement) → shape.layout ≡ layout → IsShape shape → unit_of shape * rows_of shape ≤ length (cells shape)
rows_fit_by Raid0 shape is sound = rows_among shape sound (λ e. let no : Raid0 ≡ Concatenation = sym is ∙ e in absurd cc) (ap is_on_two is)
rows_fit_by Raid1 shape is sound = rows_among shape sound (λ e. let no : Raid1 ≡ Concatenation = sym is ∙ e in absurd cc) (ap is_on_two is)
rows_fit_by (Parity parity) shape is sound = rows_among shape sound (λ e. let no : Parity parity ≡ Concatenation = sym is ∙ e in absurd cc) (ap is_on_two is)
rows_fit_by Jbod shape is sound = rows_among shape sound (λ e. let no : Jbod ≡ Concatenation = sym is ∙ e in absurd cc) (ap is_on_two is)
rows_fit_by Concatenation shape is sound =
    subst (λ (l : Layout). unit_of shape * rows_by l shape.members shape.strip shape.blocks ≤ length (cells shape)) (sym is) (rows_le_concatenated shape is)
rows_fit_by (Mirror spread) shape is sound =
    subst (λ (l : Layout). unit_of shape * rows_by l shape.members shape.strip shape.blocks ≤ length (cells shape)) (sym is) (rows_le_mirror shape spread is sound)

pub rows_fit : (shape : Placement) → IsShape shape → unit_of shape * rows_of shape ≤ length (cells shape)
rows_fit shape sound = rows_fit_by shape.layout shape refl sound

-- each data row has a strip
pub columns_some : (layout : Layout) (members : ℕ) → IsTrue (takes_members layout members) → 0 < columns_by layout members
columns_some Raid0 members taken = search (rules, tests)
columns_some Raid1 members taken = omega arith
columns_some (Parity parity) members taken = let two : 2 ≤ members = search (rules, tests) in omega arith
columns_some Jbod members taken = omega arith
columns_some Concatenation members taken = omega arith
columns_some (Mirror spread) members taken = let three : 3 ≤ members = search (rules, tests) in omega arith

-- and some sectors of each member
height_some_by : (layout : Layout) (strip : ℕ) → 0 < strip → 0 < height_by layout strip
height_some_by Raid0 strip some = some
height_some_by Raid1 strip some = some
height_some_by (Parity parity) strip some = some
height_some_by Jbod strip some = some
height_some_by Concatenation strip some = some
height_some_by (Mirror spread) strip some = omega arith

pub height_some : (shape : Placement) → IsShape shape → 0 < height_of shape
height_some shape sound = height_some_by shape.layout shape.strip (omega (arith, sound.some_strip))
