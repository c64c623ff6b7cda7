-- The copies of a block: on which members they are, and that these are the members that hold it.
use Rattle.std.proofs.Common.{◌≡◌, ◌≢◌, ◌∙◌, inl, inr, ⊎_elim, ◌⊎◌, ℕ, zero, suc, ◌+◌, ◌%◌, ◌<◌, ◌≤◌, Bool, true, false, List, [], ◌∷◌, Option, Some, None, refl, sym, ap, subst, arith, map, length, slice_get}
use Rattle.std.specs.Prelude.{filter_map, nat_lt, option_map, ◌==◌, if◌then◌else◌}
use Rattle.std.specs.List.{range_with_len, cons_option}
use Rattle.std.proofs.lemmas.Bool.{cases_eq, cases_lt, eq-eqb, eqb-true, lt-ltb, ltb-true}
use Rattle.std.proofs.lemmas.Option.{none-some, same_Some, some_pair_parts}
use Rattle.ddf_lemmas.proofs.Tests.{true_not_false}
use Rattle.ddf_mirror1e.specs.Mirror.{mirror}
use Rattle.ddf_mirror1e.specs.Copies.{first, second}
use Rattle.ddf_primary.specs.declared.layout.Layout.{Layout}
use Rattle.ddf_primary.specs.declared.layout.Layout.TheVariants.{Raid0, Raid1, Parity, Jbod, Concatenation, Mirror}
use Rattle.ddf_primary.specs.Placement.{Placement}
use Rattle.ddf_primary.specs.Levels.{IsShape}
use Rattle.ddf_primary.specs.Needs.{is_on_every, is_on_two, keeps_copies}
use Rattle.ddf_primary.specs.Cells.{cells, twin_of, Holds, HoldsBy}
use Rattle.ddf_primary.specs.Copies.{copies_of, copy_on, sector_by, sector_if, sector_on}
use Rattle.ddf_primary.proofs.CellFacts.{CellFacts}
use Rattle.ddf_primary.proofs.ShapeFacts.{cell_facts}
use Rattle.ddf_primary.proofs.Needs.{no_twin, not_every, not_two, two_alone, two_is}
use Rattle.ddf_primary.proofs.MirrorLayouts.{are_twins, mirror_length, mirror_place, mirror_read, mirror_twin, same_cell, twin_along, twin_holds}

-- ---- what a function picks of a range

module _ {X : Type 0} (f : ℕ → Option X) where
  -- where an item comes from
  pub record Picked (first count : ℕ) (x : X) : Type 0 where
    pub at : ℕ
    pub from : first ≤ at
    pub below : at < first + count
    pub gives : f at ≡ Some x

  later_pick : (first count : ℕ) (x : X) → Picked (first + 1) count x → Picked first (suc count) x
  later_pick first count x picked =
      record { at = picked.at; from = omega (arith, picked.from); below = omega (arith, picked.below); gives = picked.gives }

  picked_by : (first count k : ℕ) (x : X) (o : Option X) (others : List X) → f first ≡ o → slice_get (cons_option o others) k ≡ Some x
      → ((j : ℕ) → slice_get others j ≡ Some x → Picked (first + 1) count x) → Picked first (suc count) x
  picked_by first count k x None others is at rest = later_pick first count x (rest k at)
  picked_by first count zero x (Some y) others is at rest =
      record { at = first; from = omega arith; below = omega arith; gives = is ∙ at }
  picked_by first count (suc k) x (Some y) others is at rest = later_pick first count x (rest k at)

  pub picked : (first count k : ℕ) (x : X) → slice_get (filter_map f (range_with_len first count)) k ≡ Some x → Picked first count x
  picked first zero k x at = absurd (cc)
  picked first (suc count) k x at =
      picked_by first count k x (f first) (filter_map f (range_with_len (first + 1) count)) refl at (λ j later. picked (first + 1) count j x later)

  behind : (o : Option X) (others : List X) (j : ℕ) (x : X) → slice_get others j ≡ Some x → (k : ℕ) × (slice_get (cons_option o others) k ≡ Some x)
  behind None others j x at = (j, at)
  behind (Some y) others j x at = (suc j, at)

  -- and where it goes
  pub pick_at : (first count m : ℕ) (x : X) → first ≤ m → m < first + count → f m ≡ Some x → (k : ℕ) × (slice_get (filter_map f (range_with_len first count)) k ≡ Some x)
  pick_at first zero m x from below gives = absurd (omega arith)
  pick_at first (suc count) m x from below gives =
      ⊎_elim
      (λ (same : m ≡ first). (0, ap (λ o. slice_get (cons_option o (filter_map f (range_with_len (first + 1) count))) 0) (ap f (sym same) ∙ gives)))
      (λ (other : m ≡ first → ⊥).
      let rest = pick_at (first + 1) count m x (beyond first m from other) (omega (arith, below)) gives in
      behind (f first) (filter_map f (range_with_len (first + 1) count)) rest.0 x rest.1)
      (cases_eq m first)
    where
      beyond : (a m : ℕ) → a ≤ m → (m ≡ a → ⊥) → a + 1 ≤ m
      beyond a m le other = ⊎_elim (λ (less : a < m). omega (arith, less)) (λ (more : m ≤ a). absurd (other (omega (arith, le, more)))) (cases_lt a m)

  pub none_picked : (first count : ℕ) → ((m : ℕ) → first ≤ m → m < first + count → f m ≡ None) → filter_map f (range_with_len first count) ≡ []
  none_picked first zero none = refl
  none_picked first (suc count) none =
      ap (λ o. cons_option o (filter_map f (range_with_len (first + 1) count))) (none first (omega arith) (omega arith))
      ∙ none_picked (first + 1) count (λ m from below. none m (omega (arith, from)) (omega (arith, below)))

  pub one_picked : (first count m : ℕ) (x : X) → first ≤ m → m < first + count → f m ≡ Some x → ((j : ℕ) → j ≢ m → f j ≡ None) → filter_map f (range_with_len first count) ≡ x ∷ []
  one_picked first zero m x from below gives only = absurd (omega arith)
  one_picked first (suc count) m x from below gives only =
      ⊎_elim
      (λ (same : first ≡ m).
      ap (λ o. cons_option o (filter_map f (range_with_len (first + 1) count))) (ap f same ∙ gives)
      ∙ ap (λ l. x ∷ l) (none_picked (first + 1) count (λ j later end. only j (λ e. absurd (omega (arith, later, same, e))))))
      (λ (other : first ≡ m → ⊥).
      ap (λ o. cons_option o (filter_map f (range_with_len (first + 1) count))) (only first other)
      ∙ one_picked (first + 1) count m x (beyond first m from other) (omega (arith, below)) gives only)
      (cases_eq first m)
    where
      beyond : (a m : ℕ) → a ≤ m → (a ≡ m → ⊥) → a + 1 ≤ m
      beyond a m le other = ⊎_elim (λ (less : a < m). omega (arith, less)) (λ (more : m ≤ a). absurd (other (omega (arith, le, more)))) (cases_lt a m)

  one_above : (first count m : ℕ) (x : X) → first ≤ m → m < first + count → f m ≡ Some x → ((j : ℕ) → first ≤ j → j ≢ m → f j ≡ None) → filter_map f (range_with_len first count) ≡ x ∷ []
  one_above first zero m x from below gives only = absurd (omega arith)
  one_above first (suc count) m x from below gives only =
      ⊎_elim
      (λ (same : first ≡ m).
      ap (λ o. cons_option o (filter_map f (range_with_len (first + 1) count))) (ap f same ∙ gives)
      ∙ ap (λ l. x ∷ l) (none_picked (first + 1) count (λ j later end. only j (omega (arith, later)) (λ e. absurd (omega (arith, later, same, e))))))
      (λ (other : first ≡ m → ⊥).
      ap (λ o. cons_option o (filter_map f (range_with_len (first + 1) count))) (only first (omega arith) other)
      ∙ one_above (first + 1) count m x (past first m from other) (omega (arith, below)) gives (λ j later. only j (omega (arith, later))))
      (cases_eq first m)
    where
      past : (a m : ℕ) → a ≤ m → (a ≡ m → ⊥) → a + 1 ≤ m
      past a m le other = ⊎_elim (λ (less : a < m). omega (arith, less)) (λ (more : m ≤ a). absurd (other (omega (arith, le, more)))) (cases_lt a m)

  -- two items in order
  pub two_picked : (first count m n : ℕ) (x y : X) → first ≤ m → m < n → n < first + count → f m ≡ Some x → f n ≡ Some y → ((j : ℕ) → j ≢ m → j ≢ n → f j ≡ None)
      → filter_map f (range_with_len first count) ≡ x ∷ y ∷ []
  two_picked first zero m n x y from rise below gives later only = absurd (omega (arith, from, rise, below))
  two_picked first (suc count) m n x y from rise below gives later only =
      ⊎_elim
      (λ (same : first ≡ m).
      ap (λ o. cons_option o (filter_map f (range_with_len (first + 1) count))) (ap f same ∙ gives)
      ∙ ap (λ l. x ∷ l)
      (one_above (first + 1) count n y (omega (arith, same, rise)) (omega (arith, below)) later (λ j past other. only j (λ e. absurd (omega (arith, past, same, e))) other)))
      (λ (other : first ≡ m → ⊥).
      ap (λ o. cons_option o (filter_map f (range_with_len (first + 1) count))) (only first other (λ e. absurd (omega (arith, from, rise, e))))
      ∙ two_picked (first + 1) count m n x y (past first m from other) rise (omega (arith, below)) gives later only)
      (cases_eq first m)
    where
      past : (a m : ℕ) → a ≤ m → (a ≡ m → ⊥) → a + 1 ≤ m
      past a m le other = ⊎_elim (λ (less : a < m). omega (arith, less)) (λ (more : m ≤ a). absurd (other (omega (arith, le, more)))) (cases_lt a m)

  pub all_picked : (g : ℕ → X) (first count : ℕ) → ((m : ℕ) → first ≤ m → m < first + count → f m ≡ Some (g m)) → filter_map f (range_with_len first count) ≡ map g (range_with_len first count)
  all_picked g first zero all = refl
  all_picked g first (suc count) all =
      ap (λ o. cons_option o (filter_map f (range_with_len (first + 1) count))) (all first (omega arith) (omega arith))
      ∙ ap (λ l. g first ∷ l) (all_picked g (first + 1) count (λ m from below. all m (omega (arith, from)) (omega (arith, below))))

-- ---- holding, where the layout holds a block in one place or on every member

module _ (members strip blocks position sector block : ℕ) (items : List (ℕ × ℕ)) where
  to_one : (layout : Layout) → is_on_every layout ≡ false → is_on_two layout ≡ false → HoldsBy layout members strip blocks items position sector block → slice_get items block ≡ Some (position, sector)
  to_one Raid0 is two holds = holds
  to_one Raid1 is two holds = absurd (true_not_false is)
  to_one (Parity parity) is two holds = holds
  to_one Jbod is two holds = holds
  to_one Concatenation is two holds = holds
  to_one (Mirror spread) is two holds = absurd (true_not_false two)

  from_every : (layout : Layout) → is_on_every layout ≡ true → position < members → slice_get items block ≡ Some (0, sector) → HoldsBy layout members strip blocks items position sector block
  from_every Raid0 is below at = absurd (true_not_false (sym is))
  from_every Raid1 is below at = (below, at)
  from_every (Parity parity) is below at = absurd (true_not_false (sym is))
  from_every Jbod is below at = absurd (true_not_false (sym is))
  from_every Concatenation is below at = absurd (true_not_false (sym is))
  from_every (Mirror spread) is below at = absurd (true_not_false (sym is))

  to_every : (layout : Layout) → is_on_every layout ≡ true → HoldsBy layout members strip blocks items position sector block → (position < members) × (slice_get items block ≡ Some (0, sector))
  to_every Raid0 is holds = absurd (true_not_false (sym is))
  to_every Raid1 is holds = holds
  to_every (Parity parity) is holds = absurd (true_not_false (sym is))
  to_every Jbod is holds = absurd (true_not_false (sym is))
  to_every Concatenation is holds = absurd (true_not_false (sym is))
  to_every (Mirror spread) is holds = absurd (true_not_false (sym is))

-- ---- the sector on a member

-- a test that gave something
if_some : (b : Bool) (x y : ℕ) (o : Option ℕ) → ◌≡◌ {A = Option ℕ} (if b then Some x else o) (Some y) → ((b ≡ true) × (x ≡ y)) ⊎ ((b ≡ false) × (o ≡ Some y))
if_some true x y o e = inl (refl, same_Some x y e)
if_some false x y o e = inr (refl, e)

if_on : (member sector : ℕ) (cell : ℕ × ℕ) → sector_if member (Some cell) ≡ Some sector → (cell.0 ≡ member) × (cell.1 ≡ sector)
if_on member sector cell on =
    ⊎_elim (λ yes. (eqb-true cell.0 member yes.0, yes.1)) (λ no. absurd (none-some sector no.1)) (if_some (cell.0 == member) cell.1 sector None on)

module _ (shape : Placement) (block : ℕ) where
  -- on every member, or on that of the list
  pub sector_every : (own sector member : ℕ) → slice_get (cells shape) block ≡ Some (own, sector) → is_on_every shape.layout ≡ true → member < shape.members → sector_on shape member block ≡ Some sector
  sector_every own sector member at every below =
      ap (sector_by shape.layout shape.members member (twin_of shape block)) at
      ∙ ap (λ b. if (if b then nat_lt member shape.members else own == member) then Some sector else sector_if member (twin_of shape block)) every
      ∙ ap (λ b. if b then Some sector else sector_if member (twin_of shape block)) (lt-ltb member shape.members below)

  pub sector_own : (own sector : ℕ) → slice_get (cells shape) block ≡ Some (own, sector) → is_on_every shape.layout ≡ false → sector_on shape own block ≡ Some sector
  sector_own own sector at one =
      ap (sector_by shape.layout shape.members own (twin_of shape block)) at
      ∙ ap (λ b. if (if b then nat_lt own shape.members else own == own) then Some sector else sector_if own (twin_of shape block)) one
      ∙ ap (λ b. if b then Some sector else sector_if own (twin_of shape block)) (eq-eqb own own refl)

  -- on another it is that of the twin
  sector_beside : (own sector member : ℕ) → slice_get (cells shape) block ≡ Some (own, sector) → is_on_every shape.layout ≡ false → member ≢ own → sector_on shape member block ≡ sector_if member (twin_of shape block)
  sector_beside own sector member at one other =
      ap (sector_by shape.layout shape.members member (twin_of shape block)) at
      ∙ ap (λ b. if (if b then nat_lt member shape.members else own == member) then Some sector else sector_if member (twin_of shape block)) one
      ∙ by (own == member) refl
    where
      by : (b : Bool) → (own == member) ≡ b → ◌≡◌ {A = Option ℕ} (if b then Some sector else sector_if member (twin_of shape block)) (sector_if member (twin_of shape block))
      by true is = absurd (other (sym (eqb-true own member is)))
      by false is = refl

  pub sector_other : (own sector member : ℕ) → slice_get (cells shape) block ≡ Some (own, sector) → is_on_every shape.layout ≡ false → is_on_two shape.layout ≡ false → member ≢ own → sector_on shape member block ≡ None
  sector_other own sector member at one two other =
      sector_beside own sector member at one other ∙ ap (sector_if member) (no_twin shape block two)

  pub sector_twin : (own sector member place : ℕ) → slice_get (cells shape) block ≡ Some (own, sector) → is_on_every shape.layout ≡ false → twin_of shape block ≡ Some (member, place) → member ≢ own
      → sector_on shape member block ≡ Some place
  sector_twin own sector member place at one twin other =
      sector_beside own sector member at one other ∙ ap (sector_if member) twin ∙ ap (λ b. if b then Some place else None) (eq-eqb member member refl)

  -- and on neither there is none
  pub sector_neither : (own sector other place member : ℕ) → slice_get (cells shape) block ≡ Some (own, sector) → is_on_every shape.layout ≡ false → twin_of shape block ≡ Some (other, place)
      → member ≢ own → member ≢ other → sector_on shape member block ≡ None
  sector_neither own sector other place member at one twin first second =
      sector_beside own sector member at one first ∙ ap (sector_if member) twin ∙ by (other == member) refl
    where
      by : (b : Bool) → (other == member) ≡ b → ◌≡◌ {A = Option ℕ} (if b then Some place else None) None
      by true is = absurd (second (sym (eqb-true other member is)))
      by false is = refl

module _ (shape : Placement) (known : IsShape shape) (member sector block : ℕ) where
  facts : CellFacts shape
  facts = cell_facts shape known

  every_holds : (own : ℕ) → is_on_every shape.layout ≡ true → slice_get (cells shape) block ≡ Some (own, sector) → member < shape.members → Holds shape member sector block
  every_holds own every at below =
      from_every shape.members shape.strip shape.blocks member sector block (cells shape) shape.layout every below
      (to_every shape.members shape.strip shape.blocks own sector block (cells shape) shape.layout every (facts.named own sector block at)).1

  beside_holds : (cell : ℕ × ℕ) → slice_get (cells shape) block ≡ Some cell → (twin : Option (ℕ × ℕ)) → twin_of shape block ≡ twin → sector_if member twin ≡ Some sector → Holds shape member sector block
  beside_holds cell at None none on = absurd (cc)
  beside_holds cell at (Some other) twin on =
      let parts = if_on member sector other on in
      twin_holds shape known block cell.0 cell.1 member sector at (twin ∙ same_cell other.0 member other.1 sector parts.0 parts.1)

  holds_by : (every : Bool) → is_on_every shape.layout ≡ every → (found : Option (ℕ × ℕ)) → slice_get (cells shape) block ≡ found → sector_by shape.layout shape.members member (twin_of shape block) found ≡ Some sector
      → Holds shape member sector block
  holds_by every is None at on = absurd (cc)
  holds_by true is (Some cell) at on =
      let test = ap (λ b. if (if b then nat_lt member shape.members else cell.0 == member) then Some cell.1 else sector_if member (twin_of shape block)) (sym is) ∙ on in
      ⊎_elim
      (λ yes. every_holds cell.0 is (at ∙ ap (λ s. Some (cell.0, s)) yes.1) (ltb-true member shape.members yes.0))
      (λ no. beside_holds cell at (twin_of shape block) refl no.1)
      (if_some (nat_lt member shape.members) cell.1 sector (sector_if member (twin_of shape block)) test)
  holds_by false is (Some cell) at on =
      let test = ap (λ b. if (if b then nat_lt member shape.members else cell.0 == member) then Some cell.1 else sector_if member (twin_of shape block)) (sym is) ∙ on in
      ⊎_elim
      (λ yes. facts.named member sector block (at ∙ same_cell cell.0 member cell.1 sector (eqb-true cell.0 member yes.0) yes.1))
      (λ no. beside_holds cell at (twin_of shape block) refl no.1)
      (if_some (cell.0 == member) cell.1 sector (sector_if member (twin_of shape block)) test)

  -- a member that has a sector for a block holds it there
  pub on_holds : sector_on shape member block ≡ Some sector → Holds shape member sector block
  on_holds on = holds_by (is_on_every shape.layout) refl (slice_get (cells shape) block) refl on

  two_back : is_on_two shape.layout ≡ true → Holds shape member sector block → sector_on shape member block ≡ Some sector
  two_back two holds =
      let is = two_is shape.layout two in
      let m = mirror is.0 shape.members shape.strip shape.blocks in
      let copy = mirror_read shape is.0 is.1 member sector block holds in
      let at = mirror_place shape is.0 is.1 block (omega (arith, copy.0, mirror_length shape is.0 is.1)) in
      let twin = mirror_twin shape is.0 is.1 block in
      let one = two_alone shape.layout two in
      let apart = are_twins shape known block (first m block).0 (first m block).1 (second m block).0 (second m block).1 at twin in
      ⊎_elim
      (λ own. sector_own shape block member sector (at ∙ same_cell _ member _ sector own.0 own.1) one)
      (λ far. sector_twin shape block (first m block).0 (first m block).1 member sector at one (twin ∙ same_cell _ member _ sector far.0 far.1)
      (λ same. apart.differ (sym same ∙ sym far.0)))
      copy.1

  back_by : (every two : Bool) → is_on_every shape.layout ≡ every → is_on_two shape.layout ≡ two → Holds shape member sector block → sector_on shape member block ≡ Some sector
  back_by true two is also holds =
      let first = to_every shape.members shape.strip shape.blocks member sector block (cells shape) shape.layout is holds in
      sector_every shape block 0 sector member first.1 is first.0
  back_by false true is also holds = two_back also holds
  back_by false false is also holds =
      sector_own shape block member sector (to_one shape.members shape.strip shape.blocks member sector block (cells shape) shape.layout is also holds) is

  -- and the other way round
  pub holds_on : Holds shape member sector block → sector_on shape member block ≡ Some sector
  holds_on holds = back_by (is_on_every shape.layout) (is_on_two shape.layout) refl refl holds

-- ---- the list of copies

module _ (shape : Placement) (block : ℕ) where
  copy_parts : (member : ℕ) (cell : ℕ × ℕ) (o : Option ℕ) → option_map (λ sector. (member, sector)) o ≡ Some cell → (member ≡ cell.0) × (o ≡ Some cell.1)
  copy_parts member cell None e = absurd (cc)
  copy_parts member cell (Some sector) e =
      let same : (member, sector) ≡ cell = same_Some (member, sector) cell e in
      (ap (λ (c : ℕ × ℕ). c.0) same, ap (λ (c : ℕ × ℕ). Some c.1) same)

  -- each copy is on a member, at its sector there
  pub copy_is : (k : ℕ) (cell : ℕ × ℕ) → slice_get (copies_of shape block) k ≡ Some cell → (cell.0 < shape.members) × (sector_on shape cell.0 block ≡ Some cell.1)
  copy_is k cell at =
      let from = picked (copy_on shape block) 0 shape.members k cell at in
      let parts = copy_parts from.at cell (sector_on shape from.at block) from.gives in
      (omega (arith, from.below, parts.0), ap (λ m. sector_on shape m block) (sym parts.0) ∙ parts.1)

  -- and each member that has a sector for the block has a copy
  pub copy_at : (member sector : ℕ) → member < shape.members → sector_on shape member block ≡ Some sector → (k : ℕ) × (slice_get (copies_of shape block) k ≡ Some (member, sector))
  copy_at member sector below on =
      pick_at (copy_on shape block) 0 shape.members member (member, sector) (omega arith) (omega (arith, below)) (ap (option_map (λ s. (member, s))) on)

  pub copies_every : (own sector : ℕ) → slice_get (cells shape) block ≡ Some (own, sector) → is_on_every shape.layout ≡ true → copies_of shape block ≡ map (λ member. (member, sector)) (range_with_len 0 shape.members)
  copies_every own sector at every =
      all_picked (copy_on shape block) (λ member. (member, sector)) 0 shape.members
      (λ member from below. ap (option_map (λ s. (member, s))) (sector_every shape block own sector member at every (omega (arith, below))))

  pub copies_one : (own sector : ℕ) → slice_get (cells shape) block ≡ Some (own, sector) → keeps_copies shape.layout ≡ false → own < shape.members → copies_of shape block ≡ (own, sector) ∷ []
  copies_one own sector at alone below =
      let one = not_every shape.layout alone in
      one_picked (copy_on shape block) 0 shape.members own (own, sector) (omega arith) (omega (arith, below)) (ap (option_map (λ s. (own, s))) (sector_own shape block own sector at one))
      (λ member other. ap (option_map (λ s. (member, s))) (sector_other shape block own sector member at one (not_two shape.layout alone) other))

  -- of two copies that on the lower member is the first
  pub copies_two : (low place high spot own sector other far : ℕ) → slice_get (cells shape) block ≡ Some (own, sector) → twin_of shape block ≡ Some (other, far) → is_on_two shape.layout ≡ true
      → low < high → high < shape.members → sector_on shape low block ≡ Some place → sector_on shape high block ≡ Some spot
      → ((member : ℕ) → member ≢ low → member ≢ high → (member ≢ own) × (member ≢ other))
      → copies_of shape block ≡ (low, place) ∷ (high, spot) ∷ []
  copies_two low place high spot own sector other far at twin two rise below first second both =
      two_picked (copy_on shape block) 0 shape.members low high (low, place) (high, spot) (omega arith) rise (omega (arith, below))
      (ap (option_map (λ s. (low, s))) first) (ap (option_map (λ s. (high, s))) second)
      (λ member one another.
      let apart = both member one another in
      ap (option_map (λ s. (member, s))) (sector_neither shape block own sector other far member at (two_alone shape.layout two) twin apart.0 apart.1))

  -- the cell of the list first, where it is on the lower member
  pub copies_rise : (own sector other far : ℕ) → slice_get (cells shape) block ≡ Some (own, sector) → twin_of shape block ≡ Some (other, far) → is_on_two shape.layout ≡ true → own < other → other < shape.members
      → copies_of shape block ≡ (own, sector) ∷ (other, far) ∷ []
  copies_rise own sector other far at twin two rise below =
      let one = two_alone shape.layout two in
      copies_two own sector other far own sector other far at twin two rise below (sector_own shape block own sector at one)
      (sector_twin shape block own sector other far at one twin (λ same. absurd (omega (arith, rise, same)))) (λ member a b. (a, b))

  -- and otherwise its twin
  pub copies_fall : (own sector other far : ℕ) → slice_get (cells shape) block ≡ Some (own, sector) → twin_of shape block ≡ Some (other, far) → is_on_two shape.layout ≡ true → other < own → own < shape.members
      → copies_of shape block ≡ (other, far) ∷ (own, sector) ∷ []
  copies_fall own sector other far at twin two rise below =
      let one = two_alone shape.layout two in
      copies_two other far own sector own sector other far at twin two rise below
      (sector_twin shape block own sector other far at one twin (λ same. absurd (omega (arith, rise, same)))) (sector_own shape block own sector at one) (λ member a b. (b, a))

  few_by : (found : Option (ℕ × ℕ)) → slice_get (cells shape) block ≡ found → keeps_copies shape.layout ≡ false → length (copies_of shape block) ≤ 1
  few_by None at alone =
      let none : copies_of shape block ≡ [] = none_picked (copy_on shape block) 0 shape.members (λ m from below. ap (λ o. option_map (λ s. (m, s)) (sector_by shape.layout shape.members m (twin_of shape block) o)) at) in
      subst (λ l. length {A = ℕ × ℕ} l ≤ 1) (sym none) (omega arith)
  few_by (Some cell) at alone =
      ⊎_elim
      (λ (inside : cell.0 < shape.members). subst (λ l. length {A = ℕ × ℕ} l ≤ 1) (sym (copies_one cell.0 cell.1 at alone inside)) (omega arith))
      (λ (past : shape.members ≤ cell.0).
      let none : copies_of shape block ≡ [] =
      none_picked (copy_on shape block) 0 shape.members
      (λ m from below. ap (option_map (λ s. (m, s))) (sector_other shape block cell.0 cell.1 m at (not_every shape.layout alone) (not_two shape.layout alone) (λ e. absurd (omega (arith, past, below, e))))) in
      subst (λ l. length {A = ℕ × ℕ} l ≤ 1) (sym none) (omega arith))
      (cases_lt cell.0 shape.members)

  -- a block that is on one member has one copy at most
  pub few_copies : keeps_copies shape.layout ≡ false → length (copies_of shape block) ≤ 1
  few_copies alone = few_by (slice_get (cells shape) block) refl alone

-- and the item of the list is where it is held
pub own_copy : (shape : Placement) (member sector block : ℕ) → keeps_copies shape.layout ≡ false → Holds shape member sector block → slice_get (cells shape) block ≡ Some (member, sector)
own_copy shape member sector block alone holds =
    to_one shape.members shape.strip shape.blocks member sector block (cells shape) shape.layout (not_every shape.layout alone) (not_two shape.layout alone) holds

-- at one sector alone
pub one_copy : (shape : Placement) (member sector other place block : ℕ) → keeps_copies shape.layout ≡ false → Holds shape member sector block → Holds shape other place block → sector ≡ place
one_copy shape member sector other place block alone holds holds' =
    let first = own_copy shape member sector block alone holds in
    let second = own_copy shape other place block alone holds' in
    (some_pair_parts member other sector place (sym first ∙ second)).1

-- ---- neighbours

module _ (shape : Placement) (block k : ℕ) where
  further_if : (member : ℕ) (twin : Option (ℕ × ℕ)) → sector_if member (option_map (λ (cell : ℕ × ℕ). (cell.0, cell.1 + k)) twin) ≡ option_map (λ s. s + k) (sector_if member twin)
  further_if member None = refl
  further_if member (Some cell) = by (cell.0 == member)
    where
      by : (b : Bool) → ◌≡◌ {A = Option ℕ} (if b then Some (cell.1 + k) else None) (option_map (λ s. s + k) (if b then Some cell.1 else None))
      by true = refl
      by false = refl

  further_by : (b : Bool) (sector : ℕ) (later sooner : Option ℕ) → later ≡ option_map (λ s. s + k) sooner
      → ◌≡◌ {A = Option ℕ} (if b then Some (sector + k) else later) (option_map (λ s. s + k) (if b then Some sector else sooner))
  further_by true sector later sooner same = refl
  further_by false sector later sooner same = same

  -- where the cell of a later block of a strip is so many sectors on, so is each of its copies
  pub sector_further : (own sector member : ℕ) → slice_get (cells shape) block ≡ Some (own, sector) → slice_get (cells shape) (block + k) ≡ Some (own, sector + k) → block % shape.strip + k < shape.strip
      → sector_on shape member (block + k) ≡ option_map (λ s. s + k) (sector_on shape member block)
  sector_further own sector member here later stays =
      ap (sector_by shape.layout shape.members member (twin_of shape (block + k))) later
      ∙ further_by (if is_on_every shape.layout then nat_lt member shape.members else own == member) sector (sector_if member (twin_of shape (block + k))) (sector_if member (twin_of shape block))
      (ap (sector_if member) (twin_along shape block k stays) ∙ further_if member (twin_of shape block))
      ∙ ap (λ o. option_map (λ s. s + k) (sector_by shape.layout shape.members member (twin_of shape block) o)) (sym here)
