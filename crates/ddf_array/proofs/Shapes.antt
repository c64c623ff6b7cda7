-- What the numbers of an element make, where they make a shape.
use Rattle.std.proofs.Common.{◌≡◌, ⊎_elim, ℕ, ◌≤◌, ◌^◌, Bool, true, false, length, Option, Some, None, Result, Ok, Err, refl, sym, ap, subst, arith}
use Rattle.std.specs.Prelude.{nat_le, option_and_then, if◌then◌else◌}
use Rattle.std.specs.Result.{result_ok}
use Rattle.std.proofs.lemmas.Bool.{cases_lt, leb-true}
use Rattle.std.proofs.lemmas.Nat.{pow_pos, pow_below}
use Rattle.ddf_primary.specs.declared.layout.Layout.{Layout}
use Rattle.ddf_primary.specs.declared.fault.ShapeFault.{ShapeFault}
use Rattle.ddf_primary.specs.declared.fault.ShapeFault.TheVariants.{MemberCount, Blocks}
use Rattle.ddf_primary.specs.Placement.{Placement, placement}
use Rattle.ddf_primary.specs.Levels.{IsShape, served_layout, takes_members, takes_blocks, sized_shape, shape_of}
use Rattle.ddf_config.specs.ElementValue.{ElementValue}
use Rattle.ddf_config.specs.Shapes.{strip_sectors, element_shape}

pub record Made (elements : ℕ) (element : ElementValue) (shape : Placement) : Type 0 where
  pub strip : ℕ
  pub layout : Layout
  pub strip_is : strip_sectors elements element ≡ Some strip
  pub layout_is : served_layout element.level element.qualifier ≡ Ok layout
  pub shape_is : shape ≡ placement layout (length element.positions) strip element.blocks
  pub members_taken : takes_members layout (length element.positions) ≡ true
  pub blocks_taken : takes_blocks layout strip element.blocks ≡ true

module _ (elements : ℕ) (element : ElementValue) (shape : Placement) where
  made_in : (strip : ℕ) (layout : Layout) → strip_sectors elements element ≡ Some strip → served_layout element.level element.qualifier ≡ Ok layout
      → (a b : Bool) → takes_members layout (length element.positions) ≡ a → takes_blocks layout strip element.blocks ≡ b
      → ◌≡◌ {A = Option Placement} (result_ok (if a then (if b then Ok (placement layout (length element.positions) strip element.blocks) else Err (Blocks element.blocks)) else Err (MemberCount (length element.positions)))) (Some shape)
      → Made elements element shape
  made_in strip layout strip_is layout_is true true taken_members taken_blocks e = record {
    strip = strip;
    layout = layout;
    strip_is = strip_is;
    layout_is = layout_is;
    shape_is = let same : placement layout (length element.positions) strip element.blocks ≡ shape = cc in sym same;
    members_taken = taken_members;
    blocks_taken = taken_blocks;
  }
  made_in strip layout strip_is layout_is true false taken_members taken_blocks e = absurd (cc)
  made_in strip layout strip_is layout_is false b taken_members taken_blocks e = absurd (cc)

  made_by : (strip : ℕ) → strip_sectors elements element ≡ Some strip → (r : Result Layout ShapeFault) → served_layout element.level element.qualifier ≡ r
      → ◌≡◌ {A = Option Placement} (result_ok (elim r [ Ok layout ↦ sized_shape layout (length element.positions) strip element.blocks | Err fault ↦ Err fault ])) (Some shape)
      → Made elements element shape
  made_by strip strip_is (Ok layout) layout_is e = made_in strip layout strip_is layout_is (takes_members layout (length element.positions)) (takes_blocks layout strip element.blocks) refl refl e
  made_by strip strip_is (Err fault) layout_is e = absurd (cc)

  made_of : (s : Option ℕ) → strip_sectors elements element ≡ s
      → ◌≡◌ {A = Option Placement} (option_and_then (λ strip. result_ok (shape_of element.level element.qualifier (length element.positions) strip element.blocks)) s) (Some shape)
      → Made elements element shape
  made_of None strip_is e = absurd (cc)
  made_of (Some strip) strip_is e = made_by strip strip_is (served_layout element.level element.qualifier) refl e

  pub made : element_shape elements element ≡ Some shape → Made elements element shape
  made e = made_of (strip_sectors elements element) refl e

-- ---- the bounds of a strip

pow_most : (n : ℕ) → n ≤ 31 → 2 ^ n ≤ 2 ^ 31
pow_most n le = ⊎_elim (λ less. let lt = pow_below n 31 less in omega (arith, lt)) (λ most. let same : n ≡ 31 = omega arith in subst (λ (k : ℕ). 2 ^ k ≤ 2 ^ 31) (sym same) (omega arith)) (cases_lt n 31)

strip_by : (n strip : ℕ) (a b : Bool) → nat_le n 31 ≡ a → (if a then Some (2 ^ n) else (if b then Some 1 else None)) ≡ Some strip → (1 ≤ strip) × (strip ≤ 2 ^ 31)
strip_by n strip true b small e =
    let same : 2 ^ n ≡ strip = cc in
    let low = pow_pos n in
    let high = pow_most n (leb-true n 31 small) in
    (subst (λ (k : ℕ). 1 ≤ k) same (omega (arith, low)), subst (λ (k : ℕ). k ≤ 2 ^ 31) same high)
strip_by n strip false true small e = let same : 1 ≡ strip = cc in (subst (λ (k : ℕ). 1 ≤ k) same (omega arith), subst (λ (k : ℕ). k ≤ 2 ^ 31) same (omega arith))
strip_by n strip false false small e = absurd (cc)

strip_bounds : (elements : ℕ) (element : ElementValue) (strip : ℕ) → strip_sectors elements element ≡ Some strip → (1 ≤ strip) × (strip ≤ 2 ^ 31)
strip_bounds elements element strip e = strip_by element.strip strip (nat_le element.strip 31) _ refl e

-- the shape of few members is one that shapes keep to
pub is_shape : (elements : ℕ) (element : ElementValue) (shape : Placement) → element_shape elements element ≡ Some shape → length element.positions ≤ 64 → IsShape shape
is_shape elements element shape e few =
    let m = made elements element shape e in
    let strip = strip_bounds elements element m.strip m.strip_is in
    subst IsShape (sym m.shape_is) (record {
      members_fit = omega (arith, few);
      members_taken = m.members_taken;
      some_strip = strip.0;
      small_strip = strip.1;
      blocks_taken = m.blocks_taken;
    })

pub members_are : (elements : ℕ) (element : ElementValue) (shape : Placement) → element_shape elements element ≡ Some shape → shape.members ≡ length element.positions
members_are elements element shape e = ap (λ (s : Placement). s.members) (made elements element shape e).shape_is

pub blocks_are : (elements : ℕ) (element : ElementValue) (shape : Placement) → element_shape elements element ≡ Some shape → shape.blocks ≡ element.blocks
blocks_are elements element shape e = ap (λ (s : Placement). s.blocks) (made elements element shape e).shape_is
