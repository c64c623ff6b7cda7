-- The rows that blocks touch, one after another.
use Rattle.std.proofs.Common.{◌≡◌, ◌≢◌, ◌∙◌, ◌⊎◌, inl, inr, ⊎_elim, ℕ, ◌+◌, ◌-◌, ◌/◌, ◌<◌, ◌≤◌, Bool, true, false, List, Some, None, sym, ap, subst, arith, length, slice_get}
use Rattle.std.specs.Prelude.{if◌then◌else◌}
use Rattle.std.proofs.lemmas.Bool.{cases_lt}
use Rattle.std.proofs.lemmas.Option.{slice_get_within}
use Rattle.ddf_lemmas.proofs.Options.{some_is}
use Rattle.ddf_bay.specs.Sectors.{Image}
use Rattle.ddf_bay.specs.State.{BayState}
use Rattle.ddf_primary.specs.declared.cell.Cell.{Cell}
use Rattle.ddf_primary.specs.Cells as cells_of
use Rattle.ddf_primary.specs.Cells.{cells, depth_of, parity_member, rows_of}
use Rattle.ddf_primary.proofs.ShapeFacts.{cell_facts}
use Rattle.ddf_primary.proofs.Needs.{parity_keeps, parity_alone, row_below}
use Rattle.ddf_primary.proofs.Copies.{one_copy}
use Rattle.ddf_secondary.specs.declared.element.ElementSize.{ElementSize}
use Rattle.ddf_secondary.specs.declared.level.SecondaryLevel.{SecondaryLevel}
use Rattle.ddf_secondary.specs.declared.level.SecondaryLevel.TheVariants.{Striped, Mirrored, Concatenated, Spanned}
use Rattle.ddf_secondary.specs.declared.spot.Spot.{Spot}
use Rattle.ddf_secondary.specs.Spots as spots_of
use Rattle.ddf_secondary.specs.Spots.{spots}
use Rattle.ddf_secondary.proofs.SpotFacts.{spot_facts}
use Rattle.ddf_array.specs.declared.part.Part.{Part}
use Rattle.ddf_array.specs.declared.site.Site.{Site}
use Rattle.ddf_array.specs.Cells.{is_in_every}
use Rattle.ddf_array.specs.Levels.{keeps_parity}
use Rattle.ddf_array.specs.Places.{site_at}
use Rattle.ddf_array.specs.Rows.{block_at, row_sum}
use Rattle.ddf_array.specs.Values.{bytes_at}
use Rattle.ddf_array.specs.Volume.{Volume, IsVolume}
use Rattle.ddf_array.proofs.Consistent.{position_within}
use Rattle.ddf_array.proofs.Elements.{parts_count}
use Rattle.ddf_write.specs.RowWrites.{AllRows, AreTouched, IsFilled, IsOnlyCell, KeepsSums, RowsIn, RowsOf, parity_cells, parity_cells_of}
use Rattle.ddf_cells.specs.Touching.{Writes}
use Rattle.ddf_cells.specs.Degraded.{is_degraded}
use Rattle.ddf_write.specs.WriteRefused.{IsStopped}
use Rattle.ddf_array.specs.Apart.{IsApart}
use Rattle.ddf_write.specs.Writing.{IsParityAt, IsTouched, MayGive}
use Rattle.ddf_cells.proofs.CopiesOn.{block_at_sits, sits_block_at}
use Rattle.ddf_cells.proofs.OnCells.{Sits, block_below, in_every_holds, on_cell, one_place, sector_below, spot_of}
use Rattle.ddf_bay.proofs.Steps.{rose_since}
use Rattle.ddf_write.proofs.RowSteps.{parity_of}
use Rattle.ddf_write.proofs.RowsRight.{row_stays}
use Rattle.ddf_write.proofs.Gives.{may_cell}
use Rattle.ddf_cells.specs.Parity.{IsOfRows}
use Rattle.ddf_cells.specs.RowSums.{HoldsParityAlong}

-- ---- the only cell of a block on an element

inner_by : (level : SecondaryLevel) (sizes : List ElementSize) (items : List Spot) (element i j block : ℕ) → spots_of.HoldsBy level sizes items (spot_of element i) block
    → spots_of.HoldsBy level sizes items (spot_of element j) block → i ≡ j
inner_by Striped sizes items element i j block one other = ap (λ (s : Spot). s.block) (some_is (sym one ∙ other))
inner_by Mirrored sizes items element i j block one other = ap (λ (s : Spot). s.block) (some_is (sym one.1 ∙ other.1))
inner_by Concatenated sizes items element i j block one other = ap (λ (s : Spot). s.block) (some_is (sym one ∙ other))
inner_by Spanned sizes items element i j block one other = ap (λ (s : Spot). s.block) (some_is (sym one ∙ other))

module _ (v : Volume) (known : IsVolume v) (element : ℕ) (part : Part) (is_part : slice_get v.parts element ≡ Some part) where
  pub same_part : (p x b : ℕ) (sits : Sits v element p x b) → sits.part ≡ part
  same_part p x b sits = some_is (sym sits.is_part ∙ is_part)

  pub one_sector : keeps_parity part.shape.layout ≡ true → (p x p' x' b : ℕ) → Sits v element p x b → Sits v element p' x' b → x ≡ x'
  one_sector keep p x p' x' b one other =
      let first : cells_of.Holds part.shape p x one.inner = subst (λ (q : Part). cells_of.Holds q.shape p x one.inner) (same_part p x b one) one.on_position in
      let second : cells_of.Holds part.shape p' x' other.inner = subst (λ (q : Part). cells_of.Holds q.shape p' x' other.inner) (same_part p' x' b other) other.on_position in
      let inner : other.inner ≡ one.inner = inner_by v.tiers.level v.tiers.sizes (spots v.tiers) element other.inner one.inner b other.in_element one.in_element in
      one_copy part.shape p x p' x' one.inner (parity_alone part.shape.layout keep) first (subst (λ i. cells_of.Holds part.shape p' x' i) inner second)

  -- the cell that the placement gives
  pub only_cell : keeps_parity part.shape.layout ≡ true → (block : ℕ) (spot : Spot) → slice_get (spots v.tiers) block ≡ Some spot → (is_in_every v.tiers.level ≡ true) ⊎ (spot.element ≡ element) → (cell : Cell)
      → cells_of.Holds part.shape cell.member cell.sector spot.block → cell.row ≡ cell.sector / part.shape.strip → IsOnlyCell v element part block cell
  only_cell keep block spot at like cell on row =
      let holds = (spot_facts v.tiers known.array_is).named spot block at in
      let here : spots_of.Holds v.tiers (spot_of element spot.block) block =
      ⊎_elim
      (λ every. in_every_holds v.tiers.level v.tiers.sizes (spots v.tiers) block element spot.element spot.block every holds (omega (arith, slice_get_within v.parts element part is_part, parts_count v known)))
      (λ same. subst (λ e. spots_of.Holds v.tiers (spot_of e spot.block) block) same holds) like in
      let sits : Sits v element cell.member cell.sector block = record { part = part; is_part = is_part; inner = spot.block; in_element = here; on_position = on } in
      let shape = (known.are_parts element part is_part).shape_is in
      let deep : cell.sector < depth_of part.shape = sector_below v known element cell.member cell.sector block sits in
      record {
        holds_it = sits_block_at v known element cell.member cell.sector block sits;
        only = λ position sector other. one_sector keep position sector cell.member cell.sector block (block_at_sits v known element position sector block other) sits;
        row_is = row;
        in_rows = subst (λ n. n < rows_of part.shape) (sym row) (row_below part.shape.layout part.shape.members part.shape.strip part.shape.blocks cell.sector keep (omega (arith, shape.some_strip)) deep);
        below = block_below v known element cell.member cell.sector block sits;
      }

  not_there_by : (level : SecondaryLevel) (spot : Spot) (inner block : ℕ) → is_in_every level ≡ false → (spot.element ≡ element → ⊥) → slice_get (spots v.tiers) block ≡ Some spot
      → spots_of.HoldsBy level v.tiers.sizes (spots v.tiers) (spot_of element inner) block → ⊥
  not_there_by Striped spot inner block every other at holds = other (ap (λ (s : Spot). s.element) (some_is (sym at ∙ holds)))
  not_there_by Mirrored spot inner block every other at holds = absurd (cc)
  not_there_by Concatenated spot inner block every other at holds = other (ap (λ (s : Spot). s.element) (some_is (sym at ∙ holds)))
  not_there_by Spanned spot inner block every other at holds = other (ap (λ (s : Spot). s.element) (some_is (sym at ∙ holds)))

  pub not_there : (block : ℕ) (spot : Spot) → slice_get (spots v.tiers) block ≡ Some spot → is_in_every v.tiers.level ≡ false → (spot.element ≡ element → ⊥) → (position sector : ℕ) → block_at v element position sector ≢ Some block
  not_there block spot at every other position sector there =
      let sits = block_at_sits v known element position sector block there in
      not_there_by v.tiers.level spot sits.inner block every other at sits.in_element

-- ---- one block more

pub touched_more : (v : Volume) (start k element sector : ℕ) → IsTouched v start (k + 1) element sector → IsTouched v start k element sector ⊎ ((position : ℕ) × (block_at v element position sector ≡ Some (start + k)))
touched_more v start k element sector touched =
    ⊎_elim
    (λ (before : touched.k < k). inl (record { position = touched.position; k = touched.k; below = before; holds_it = touched.holds_it }))
    (λ (last : k ≤ touched.k).
    let same : touched.k ≡ k = omega (arith, last, touched.below) in
    inr (touched.position, touched.holds_it ∙ ap (λ n. Some (start + n)) same))
    (cases_lt touched.k k)

pub touched_within : (v : Volume) (start k count element sector : ℕ) → k ≤ count → IsTouched v start k element sector → IsTouched v start count element sector
touched_within v start k count element sector within touched = record { position = touched.position; k = touched.k; below = omega (arith, touched.below, within); holds_it = touched.holds_it }

pub parity_within : (v : Volume) (start k count element sector : ℕ) (part : Part) (one : Site) → k ≤ count → IsParityAt v start k element sector part one → IsParityAt v start count element sector part one
parity_within v start k count element sector part one within is = record {
  touched = touched_within v start k count element sector within is.touched;
  is_part = is.is_part;
  position = is.position;
  is_parity = is.is_parity;
  is_there = is.is_there;
}

-- ---- sums stay

module _ (v : Volume) (known : IsVolume v) (apart : IsApart v) (start : ℕ) (sectors : List (List ℕ)) where
  -- the image is still between the entry and the end
  pub filled_then : {D : Type 0} {a b : BayState D} {t u : List Bool} (tells : Type 0) (entry : Image) → tells → IsFilled v start sectors entry a.held → Writes (MayGive v start sectors) tells a b t u → IsFilled v start sectors entry b.held
  filled_then {a = a} {b = b} tells entry tell filled writes = record {
    left = λ s l. ⊎_elim (λ same. ⊎_elim (λ was. inl (same ∙ was)) (λ given. inr (subst (λ bytes. MayGiveOf s l bytes) (sym same) given)) (filled.left s l)) (λ given. inr given.0) (writes.held tell s l);
    cells = λ element position k one below cell. ⊎_elim
        (λ same. same ∙ filled.cells element position k one below cell)
        (λ given. may_cell v known apart start sectors element position k one (b.held one.slot one.lba) (on_cell v known element position (start + k) one cell) given.0)
        (writes.held tell one.slot one.lba);
  }
    where
      MayGiveOf : ℕ → ℕ → List ℕ → Type 0
      MayGiveOf s l bytes = MayGive v start sectors s l bytes

  -- rows are set, and the others stay
  pub sums_keep : is_degraded v ≡ false → (old new : Image) (element sector count parity : ℕ) (part : Part) → slice_get v.parts element ≡ Some part
      → HoldsParityAlong part parity sector count → sector + count ≤ part.shape.blocks → AreTouched v start (length sectors) element sector count
      → ((s l : ℕ) → (new s l ≡ old s l) ⊎ IsOfRows part parity sector count s l)
      → ((j : ℕ) (one : Site) → j < count → site_at part.places parity (sector + j) ≡ Some one → bytes_at new one ≡ row_sum v new element part (sector + j))
      → KeepsSums v start (length sectors) old new
  sums_keep whole old new element sector count parity part is_part holds inside touched only set e x q one is was =
      let sits = block_at_sits v known e is.touched.position x (start + is.touched.k) is.touched.holds_it in
      let q_same : sits.part ≡ q = some_is (sym sits.is_part ∙ is.is_part) in
      let below : x < q.shape.blocks = subst (λ (r : Part). x < r.shape.blocks) q_same (block_below v known e is.touched.position x (start + is.touched.k) sits) in
      let within = position_within q.places is.position x one is.is_there in
      let stays = row_stays v known e q is.is_part x is.position is.is_parity apart whole within below start sectors old new
      (λ s l. ⊎_elim inl (λ of. inr (parity_of v element part is_part (sector + of.row) parity (holds of.row of.is_in) start sectors (touched of.row of.is_in) s l of.is_there)) (only s l)) in
      ⊎_elim
      (λ same. same ∙ was ∙ sym stays)
      (λ of.
      let here : site_at part.places parity (sector + of.row) ≡ Some one = of.is_there in
      let place = one_place v apart element parity (sector + of.row) e is.position x part q one is_part is.is_part (omega (arith, inside, of.is_in)) below here is.is_there in
      let part_same : part ≡ q = some_is (sym is_part ∙ ap (slice_get v.parts) place.element_is ∙ is.is_part) in
      let right : bytes_at new one ≡ row_sum v new element part (sector + of.row) = set of.row one of.is_in here in
      right ∙ ap (λ n. row_sum v new n part (sector + of.row)) place.element_is ∙ ap (λ (r : Part). row_sum v new e r (sector + of.row)) part_same ∙ ap (row_sum v new e q) place.sector_is)
      (only one.slot one.lba)

-- ---- more blocks of the range on one element

module _ (v : Volume) (known : IsVolume v) (start k element : ℕ) where
  touched_before : (sector n : ℕ) (q : Part) (one : Site) (is : IsParityAt v start (k + n) element sector q one) → is.touched.k < k → IsParityAt v start k element sector q one
  touched_before sector n q one is before =
      record {
        touched = record { position = is.touched.position; k = is.touched.k; below = before; holds_it = is.touched.holds_it };
        is_part = is.is_part;
        position = is.position;
        is_parity = is.is_parity;
        is_there = is.is_there;
      }

  -- the next block isn't there
  pub rows_no_cell : (Q : (element sector : ℕ) → Part → Site → Type 0) → ((position sector : ℕ) → block_at v element position sector ≢ Some (start + k)) → RowsIn v start k element Q → RowsIn v start (k + 1) element Q
  rows_no_cell Q none so_far sector q one is =
      ⊎_elim
      (λ (before : is.touched.k < k). so_far sector q one (touched_before sector 1 q one is before))
      (λ (last : k ≤ is.touched.k).
      let same : is.touched.k ≡ k = omega (arith, last, is.touched.below) in
      absurd (none is.touched.position sector (is.touched.holds_it ∙ ap (λ n. Some (start + n)) same)))
      (cases_lt is.touched.k k)

  module _ (part : Part) (is_part : slice_get v.parts element ≡ Some part) (keep : keeps_parity part.shape.layout ≡ true) (cell : Cell) (n : ℕ)
      (follow : (j : ℕ) → j < n → block_at v element cell.member (cell.sector + j) ≡ Some (start + k + j)) where
    -- a row that one of the next blocks touches is one of so many
    row_of : (sector : ℕ) (touched : IsTouched v start (k + n) element sector) → k ≤ touched.k → (j : ℕ) × (j < n) × (sector ≡ cell.sector + j)
    row_of sector touched behind =
        let j = touched.k - k in
        let below : j < n = omega (arith, behind, touched.below) in
        let same : start + touched.k ≡ start + k + j = omega (arith, behind) in
        let here = block_at_sits v known element touched.position sector (start + k + j) (touched.holds_it ∙ ap Some same) in
        let there = block_at_sits v known element cell.member (cell.sector + j) (start + k + j) (follow j below) in
        (j, below, one_sector v known element part is_part keep touched.position sector cell.member (cell.sector + j) (start + k + j) here there)

    pub rows_inside : 0 < n → cell.sector + n ≤ part.shape.blocks
    rows_inside some =
        let last = n - 1 in
        let sits = block_at_sits v known element cell.member (cell.sector + last) (start + k + last) (follow last (omega (arith, some))) in
        let below : cell.sector + last < part.shape.blocks = subst (λ (q : Part). cell.sector + last < q.shape.blocks) (same_part v known element part is_part cell.member (cell.sector + last) (start + k + last) sits) (block_below v known element cell.member (cell.sector + last) (start + k + last) sits) in
        omega (arith, below, some)

    pub rows_are_touched : (count : ℕ) → k + n ≤ count → AreTouched v start count element cell.sector n
    rows_are_touched count within j below =
        let same : start + k + j ≡ start + (k + j) = omega arith in
        record { position = cell.member; k = k + j; below = omega (arith, within, below); holds_it = follow j below ∙ ap Some same }

    pub rows_passed : (Q : (element sector : ℕ) → Part → Site → Type 0) → AreTouched v start k element cell.sector n → RowsIn v start k element Q → RowsIn v start (k + n) element Q
    rows_passed Q touched so_far sector q one is =
        ⊎_elim
        (λ (before : is.touched.k < k). so_far sector q one (touched_before sector n q one is before))
        (λ (behind : k ≤ is.touched.k).
        let row = row_of sector is.touched behind in
        so_far sector q one
        (record {
          touched = subst (λ x. IsTouched v start k element x) (sym row.2) (touched row.0 row.1);
          is_part = is.is_part;
          position = is.position;
          is_parity = is.is_parity;
          is_there = is.is_there;
        }))
        (cases_lt is.touched.k k)

    pub rows_set : (P Q : (element sector : ℕ) → Part → Site → Type 0) (parity : ℕ) → HoldsParityAlong part parity cell.sector n
        → ((sector : ℕ) (q : Part) (one : Site) → IsParityAt v start k element sector q one → P element sector q one → Q element sector q one)
        → ((j : ℕ) (one : Site) → j < n → site_at part.places parity (cell.sector + j) ≡ Some one → Q element (cell.sector + j) part one)
        → RowsIn v start k element P → RowsIn v start (k + n) element Q
    rows_set P Q parity holds kept set so_far sector q one is =
        ⊎_elim
        (λ (before : is.touched.k < k). let was = touched_before sector n q one is before in kept sector q one was (so_far sector q one was))
        (λ (behind : k ≤ is.touched.k).
        let row = row_of sector is.touched behind in
        let at = row.2 in
        let same : q ≡ part = some_is (sym is.is_part ∙ is_part) in
        let position : is.position ≡ parity =
        some_is (sym is.is_parity ∙ ap (λ (r : Part). parity_member r.shape (sector / r.shape.strip)) same ∙ ap (λ x. parity_member part.shape (x / part.shape.strip)) at ∙ holds row.0 row.1) in
        let there : site_at part.places parity (cell.sector + row.0) ≡ Some one =
        ap (λ n. site_at part.places n (cell.sector + row.0)) (sym position) ∙ ap (site_at part.places is.position) (sym at) ∙ ap (λ (r : Part). site_at r.places is.position sector) (sym same) ∙ is.is_there in
        subst (λ x. Q element x q one) (sym at) (subst (λ (r : Part). Q element (cell.sector + row.0) r one) (sym same) (set row.0 one row.1 there)))
        (cases_lt is.touched.k k)

-- an element that isn't there, or keeps no parity, has no such rows
pub rows_no_part : (v : Volume) (start count element : ℕ) (Q : (element sector : ℕ) → Part → Site → Type 0) → slice_get v.parts element ≡ None → RowsIn v start count element Q
rows_no_part v start count element Q none sector q one is = absurd (never (sym none ∙ is.is_part))
  where
    never : {x : Part} → None ≡ Some x → ⊥
    never e = cc

pub rows_no_parity : (v : Volume) (start count element : ℕ) (Q : (element sector : ℕ) → Part → Site → Type 0) (part : Part) → slice_get v.parts element ≡ Some part → false ≡ keeps_parity part.shape.layout
    → RowsIn v start count element Q
rows_no_parity v start count element Q part is_part without sector q one is =
    let same : q ≡ part = some_is (sym is.is_part ∙ is_part) in
    absurd (never (without ∙ ap (λ (r : Part). keeps_parity r.shape.layout) (sym same) ∙ parity_keeps q.shape.layout q.shape.members (sector / q.shape.strip) is.position is.is_parity))
  where
    never : false ≡ true → ⊥
    never e = cc

-- one element more
pub rows_more : (v : Volume) (start count elements : ℕ) (P Q : (element sector : ℕ) → Part → Site → Type 0)
    → ((element sector : ℕ) (part : Part) (one : Site) → IsParityAt v start count element sector part one → P element sector part one → Q element sector part one)
    → RowsIn v start count elements Q → RowsOf v start count elements P → RowsOf v start count (elements + 1) Q
rows_more v start count elements P Q kept new so_far element sector part one below is =
    ⊎_elim
    (λ (before : element < elements). kept element sector part one is (so_far element sector part one before is))
    (λ (last : elements ≤ element).
    let same : elements ≡ element = omega (arith, last, below) in
    subst (λ e. Q e sector part one) same (new sector part one (subst (λ e. IsParityAt v start count e sector part one) (sym same) is)))
    (cases_lt element elements)

pub rows_all : (v : Volume) (start count elements : ℕ) (Q : (element sector : ℕ) → Part → Site → Type 0) → length v.parts ≤ elements → RowsOf v start count elements Q → AllRows v start count Q
rows_all v start count elements Q all_of so_far element sector part one is = so_far element sector part one (omega (arith, slice_get_within v.parts element part is.is_part, all_of)) is

pub has_members : (v : Volume) (known : IsVolume v) (element : ℕ) (part : Part) → slice_get v.parts element ≡ Some part → (block : ℕ) (cell : Cell) → IsOnlyCell v element part block cell → 0 < part.shape.members
has_members v known element part is_part block cell only =
    let sits = block_at_sits v known element cell.member cell.sector block only.holds_it in
    let same : sits.part ≡ part = some_is (sym sits.is_part ∙ is_part) in
    let below = (cell_facts sits.part.shape (known.are_parts element sits.part sits.is_part).shape_is).member_within cell.member cell.sector sits.inner sits.on_position in
    subst (λ (q : Part). 0 < q.shape.members) same (omega (arith, below))

pub cells_of_parity : (parts : List Part) (count element : ℕ) (part : Part) → slice_get parts element ≡ Some part → keeps_parity part.shape.layout ≡ true → parity_cells parts count element ≡ count
cells_of_parity parts count element part at keep = ap (parity_cells_of count) at ∙ ap (λ b. if b then count else 0) keep

-- ---- failures

module _ {D : Type 0} {a b c : BayState D} {t u w x : List Bool} (v : Volume) (start : ℕ) (sectors : List (List ℕ)) (tells : Type 0) (first : Writes (MayGive v start sectors) tells a b t u) (next : Writes (MayGive v start sectors) tells b c w x) where
  pub stopped_since : (count slot : ℕ) → IsStopped b c v start count slot → IsStopped a c v start count slot
  stopped_since count slot (written, rose) = (written, rose_since (a.failed_writes slot) (b.failed_writes slot) (c.failed_writes slot) (first.writes_rise slot) rose)
