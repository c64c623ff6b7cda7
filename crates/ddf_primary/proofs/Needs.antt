-- What the properties of a level mean for one another.
use Rattle.std.proofs.Common.{◌≡◌, ◌∙◌, ℕ, ◌/◌, ◌<◌, ◌≤◌, Bool, true, false, IsTrue, Option, Some, None, refl, sym, ap, subst, arith, rules, tests}
use Rattle.std.specs.Prelude.{is_some, option_map}
use Rattle.std.proofs.lemmas.Nat.{div_below}
use Rattle.std.proofs.lemmas.Option.{same_Some}
use Rattle.ddf_mirror1e.specs.declared.spread.Spread.{Spread}
use Rattle.ddf_primary.specs.declared.layout.Layout.{Layout}
use Rattle.ddf_primary.specs.Placement.{Placement}
use Rattle.ddf_primary.specs.declared.layout.Layout.TheVariants.{Raid0, Raid1, Parity, Jbod, Concatenation, Mirror}
use Rattle.ddf_primary.specs.declared.need.Need.TheVariants.{All, One, AllButOne, Neighbours}
use Rattle.ddf_primary.specs.declared.parity.ParityLayout.{ParityLayout}
use Rattle.ddf_primary.specs.Needs.{is_on_every, is_on_two, keeps_copies, keeps_parity, need_by, parity_of}
use Rattle.ddf_primary.specs.Levels.{takes_members}
use Rattle.ddf_primary.specs.Cells.{data_around, data_by, depth_by, height_by, parity_by, parity_on, rows_by, twin_by, twin_of}
use Rattle.ddf_primary.proofs.Around.{parity_on_within}

-- ---- levels with parity

-- they are RAID 4 and 5
pub parity_is : (layout : Layout) → keeps_parity layout ≡ true → (kind : ParityLayout) × (layout ≡ Parity kind)
parity_is Raid0 keeps = absurd (cc)
parity_is Raid1 keeps = absurd (cc)
parity_is (Parity kind) keeps = (kind, refl)
parity_is Jbod keeps = absurd (cc)
parity_is Concatenation keeps = absurd (cc)
parity_is (Mirror spread) keeps = absurd (cc)

-- and hold each block on one member
pub parity_alone : (layout : Layout) → keeps_parity layout ≡ true → keeps_copies layout ≡ false
parity_alone layout keeps = ap keeps_copies (parity_is layout keeps).1

-- a level that holds each block on one member holds none on every one
pub not_every : (layout : Layout) → keeps_copies layout ≡ false → is_on_every layout ≡ false
not_every Raid0 alone = refl
not_every Raid1 alone = absurd (cc)
not_every (Parity kind) alone = refl
not_every Jbod alone = refl
not_every Concatenation alone = refl
not_every (Mirror spread) alone = absurd (cc)

-- nor on two
pub not_two : (layout : Layout) → keeps_copies layout ≡ false → is_on_two layout ≡ false
not_two Raid0 alone = refl
not_two Raid1 alone = absurd (cc)
not_two (Parity kind) alone = refl
not_two Jbod alone = refl
not_two Concatenation alone = refl
not_two (Mirror spread) alone = absurd (cc)

-- and where none is on every one or on two, each is on one
pub alone : (layout : Layout) → is_on_every layout ≡ false → is_on_two layout ≡ false → keeps_copies layout ≡ false
alone Raid0 every two = refl
alone Raid1 every two = absurd (cc)
alone (Parity kind) every two = refl
alone Jbod every two = refl
alone Concatenation every two = refl
alone (Mirror spread) every two = absurd (cc)

-- ---- levels that hold each block on two members

-- they are RAID 1E
pub two_is : (layout : Layout) → is_on_two layout ≡ true → (spread : Spread) × (layout ≡ Mirror spread)
two_is Raid0 two = absurd (cc)
two_is Raid1 two = absurd (cc)
two_is (Parity kind) two = absurd (cc)
two_is Jbod two = absurd (cc)
two_is Concatenation two = absurd (cc)
two_is (Mirror spread) two = (spread, refl)

-- on two, and not on every one
pub two_alone : (layout : Layout) → is_on_two layout ≡ true → is_on_every layout ≡ false
two_alone layout two = ap is_on_every (two_is layout two).1

pub two_keeps : (layout : Layout) → is_on_two layout ≡ true → (keeps_copies layout ≡ true) × (keeps_parity layout ≡ false)
two_keeps layout two = let is = (two_is layout two).1 in (ap keeps_copies is, ap keeps_parity is)

pub every_alone : (layout : Layout) → is_on_every layout ≡ true → is_on_two layout ≡ false
every_alone Raid0 every = refl
every_alone Raid1 every = refl
every_alone (Parity kind) every = refl
every_alone Jbod every = refl
every_alone Concatenation every = refl
every_alone (Mirror spread) every = absurd (cc)

twin_none : (layout : Layout) (members strip blocks block : ℕ) → is_on_two layout ≡ false → twin_by layout members strip blocks block ≡ None
twin_none Raid0 members strip blocks block two = refl
twin_none Raid1 members strip blocks block two = refl
twin_none (Parity kind) members strip blocks block two = refl
twin_none Jbod members strip blocks block two = refl
twin_none Concatenation members strip blocks block two = refl
twin_none (Mirror spread) members strip blocks block two = absurd (cc)

pub not_mirror : (layout : Layout) → ((spread : Spread) → layout ≡ Mirror spread → ⊥) → is_on_two layout ≡ false
not_mirror Raid0 other = refl
not_mirror Raid1 other = refl
not_mirror (Parity kind) other = refl
not_mirror Jbod other = refl
not_mirror Concatenation other = refl
not_mirror (Mirror spread) other = absurd (other spread refl)

-- they alone have second copies
pub no_twin : (shape : Placement) (block : ℕ) → is_on_two shape.layout ≡ false → twin_of shape block ≡ None
no_twin shape block two = twin_none shape.layout shape.members shape.strip shape.blocks block two

pub twins_on_two : (shape : Placement) (block other place : ℕ) → twin_of shape block ≡ Some (other, place) → is_on_two shape.layout ≡ true
twins_on_two shape block other place twin = by (is_on_two shape.layout) refl
  where
    by : (b : Bool) → is_on_two shape.layout ≡ b → b ≡ true
    by true e = refl
    by false e = let none = no_twin shape block e in absurd (cc)

pub parity_keeps : (layout : Layout) (members row position : ℕ) → parity_by layout members row ≡ Some position → keeps_parity layout ≡ true
parity_keeps layout members row position on = by (parity_of layout) on
  where
    by : (kind : Option ParityLayout) → option_map (λ parity. parity_on parity members row) kind ≡ Some position → is_some kind ≡ true
    by None e = absurd (cc)
    by (Some kind) e = refl

pub no_parity : (layout : Layout) (members row : ℕ) → keeps_parity layout ≡ false → parity_by layout members row ≡ None
no_parity layout members row none = by (parity_of layout) none
  where
    by : (kind : Option ParityLayout) → is_some kind ≡ false → option_map (λ parity. parity_on parity members row) kind ≡ None
    by None e = refl
    by (Some kind) e = absurd (cc)

pub some_parity : (layout : Layout) (members row : ℕ) → keeps_parity layout ≡ true → (position : ℕ) × (parity_by layout members row ≡ Some position)
some_parity layout members row keeps =
    let kind = parity_is layout keeps in (parity_on kind.0 members row, ap (λ (l : Layout). parity_by l members row) kind.1)

-- the parity of a row and its data cells, by how the level lays them
pub record ParityRow (layout : Layout) (members row position : ℕ) : Type 0 where
  pub kind : ParityLayout
  pub layout_is : layout ≡ Parity kind
  pub on : parity_on kind members row ≡ position
  pub data_are : data_by layout members row ≡ data_around kind members position

pub parity_row : (layout : Layout) (members row position : ℕ) → parity_by layout members row ≡ Some position → ParityRow layout members row position
parity_row layout members row position on =
    let kind = parity_is layout (parity_keeps layout members row position on) in
    let same : parity_on kind.0 members row ≡ position =
    same_Some (parity_on kind.0 members row) position (sym (ap (λ (l : Layout). parity_by l members row) kind.1) ∙ on) in
    record {
      kind = kind.0;
      layout_is = kind.1;
      on = same;
      data_are = ap (λ (l : Layout). data_by l members row) kind.1 ∙ ap (data_around kind.0 members) same;
    }

pub parity_below : (layout : Layout) (members row position : ℕ) → 0 < members → parity_by layout members row ≡ Some position → position < members
parity_below layout members row position some on =
    let is = parity_row layout members row position on in
    subst (λ p. p < members) is.on (parity_on_within is.kind members row some)

-- a sector of a whole row is in one of the rows
pub row_below : (layout : Layout) (members strip blocks sector : ℕ) → keeps_parity layout ≡ true → 0 < strip → sector < depth_by layout strip blocks → sector / strip < rows_by layout members strip blocks
row_below layout members strip blocks sector keeps some below =
    let kind = (parity_is layout keeps).1 in
    subst (λ (l : Layout). sector / strip < rows_by l members strip blocks) (sym kind)
    (div_below sector strip (blocks / strip) some (subst (λ (l : Layout). sector < depth_by l strip blocks) kind below))

-- a row of theirs takes one strip of each member
pub parity_height : (layout : Layout) (strip : ℕ) → keeps_parity layout ≡ true → height_by layout strip ≡ strip
parity_height layout strip keeps = ap (λ (l : Layout). height_by l strip) (parity_is layout keeps).1

-- ---- how many members

pub some_members : (layout : Layout) (members : ℕ) → IsTrue (takes_members layout members) → 0 < members
some_members Raid0 members taken = let one : 1 ≤ members = search (rules, tests) in omega arith
some_members Raid1 members taken = let two : 2 ≤ members = search (rules, tests) in omega arith
some_members (Parity kind) members taken = let two : 2 ≤ members = search (rules, tests) in omega arith
some_members Jbod members taken = let one : members ≡ 1 = search (rules, tests) in omega arith
some_members Concatenation members taken = let one : 1 ≤ members = search (rules, tests) in omega arith
some_members (Mirror spread) members taken = let three : 3 ≤ members = search (rules, tests) in omega arith

-- ---- what an element needs

pub needs_all : (layout : Layout) → need_by layout ≡ All → (keeps_copies layout ≡ false) × (keeps_parity layout ≡ false)
needs_all Raid0 e = (refl, refl)
needs_all Raid1 e = absurd (cc)
needs_all (Parity kind) e = absurd (cc)
needs_all Jbod e = (refl, refl)
needs_all Concatenation e = (refl, refl)
needs_all (Mirror spread) e = absurd (cc)

pub needs_one : (layout : Layout) → need_by layout ≡ One → is_on_every layout ≡ true
needs_one Raid0 e = absurd (cc)
needs_one Raid1 e = refl
needs_one (Parity kind) e = absurd (cc)
needs_one Jbod e = absurd (cc)
needs_one Concatenation e = absurd (cc)
needs_one (Mirror spread) e = absurd (cc)

pub needs_all_but_one : (layout : Layout) → need_by layout ≡ AllButOne → keeps_parity layout ≡ true
needs_all_but_one Raid0 e = absurd (cc)
needs_all_but_one Raid1 e = absurd (cc)
needs_all_but_one (Parity kind) e = refl
needs_all_but_one Jbod e = absurd (cc)
needs_all_but_one Concatenation e = absurd (cc)
needs_all_but_one (Mirror spread) e = absurd (cc)

pub needs_neighbours : (layout : Layout) (spread : Spread) → need_by layout ≡ Neighbours spread → layout ≡ Mirror spread
needs_neighbours Raid0 spread e = absurd (cc)
needs_neighbours Raid1 spread e = absurd (cc)
needs_neighbours (Parity kind) spread e = absurd (cc)
needs_neighbours Jbod spread e = absurd (cc)
needs_neighbours Concatenation spread e = absurd (cc)
needs_neighbours (Mirror own) spread e = let same : own ≡ spread = cc in ap Mirror same

pub parity_needs : (layout : Layout) → keeps_parity layout ≡ true → need_by layout ≡ AllButOne
parity_needs layout keeps = ap need_by (parity_is layout keeps).1

-- one that holds each block in one place alone needs all
pub lone_needs : (layout : Layout) → keeps_copies layout ≡ false → keeps_parity layout ≡ false → need_by layout ≡ All
lone_needs Raid0 alone keeps = refl
lone_needs Raid1 alone keeps = absurd (cc)
lone_needs (Parity kind) alone keeps = absurd (cc)
lone_needs Jbod alone keeps = refl
lone_needs Concatenation alone keeps = refl
lone_needs (Mirror spread) alone keeps = absurd (cc)
