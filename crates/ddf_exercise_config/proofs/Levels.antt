-- The array of an exercise on three disks, whichever these are: it is served, and its low state is that of its positions.
use Rattle.std.proofs.Common.{◌≡◌, ℕ, ◌+◌, ◌*◌, ◌/◌, ◌%◌, Bool, true, false, ◌&&◌, List, [], ◌∷◌, Some, nat_eq, eqb, refl, ap}
use Rattle.std.specs.Map.{lookup}
use Rattle.ddf_config.specs.declared.element.Position.{Position}
use Rattle.ddf_config.specs.declared.member.Member.{Member}
use Rattle.ddf_config.specs.declared.member.SpareUse.{SpareUse}
use Rattle.ddf_config.specs.Extents.{extents, array_extents}
use Rattle.ddf_config.specs.Served.{is_served, lies_well, meets_extent}
use Rattle.ddf_config.specs.Shapes.{has_shapes, has_tiers}
use Rattle.ddf_config.specs.States.{low_state, with_low_states}
use Rattle.ddf_config.specs.Within.{is_available}
use Rattle.std.specs.List.{list_all}
use Rattle.ddf_config.specs.Members.{is_current}
use Rattle.ddf_exercise_config.specs.Disks.{Disk}
use Rattle.ddf_exercise_config.specs.Stages.{array, member, position}
use Rattle.ddf_exercise_config.proofs.Bools.{same}

-- the low state that it gets
pub with_low : (table : List (ℕ × Member)) (guid : List ℕ) (positions : List Position) (state init low : ℕ) → is_served table (extents ((guid, array positions state init) ∷ [])) (array positions state init) ≡ true
    → eqb (state % 8) 2 ≡ false → low_state table (array positions state init) ≡ low → with_low_states table ((guid, array positions state init) ∷ []) ≡ (guid, array positions (state / 8 * 8 + low) init) ∷ []
with_low table guid positions state init low served there is = simp (served, there, is)

module _ (table : List (ℕ × Member)) (x y z : Disk)
    (xy : eqb x.reference y.reference ≡ false) (xz : eqb x.reference z.reference ≡ false) (yz : eqb y.reference z.reference ≡ false)
    (yx : eqb y.reference x.reference ≡ false) (zx : eqb z.reference x.reference ≡ false) (zy : eqb z.reference y.reference ≡ false)
    (mx my mz : Bool) (ux uy uz : SpareUse)
    (lx : lookup (nat_eq x.reference) table ≡ Some (member x mx ux).1) (ly : lookup (nat_eq y.reference) table ≡ Some (member y my uy).1) (lz : lookup (nat_eq z.reference) table ≡ Some (member z mz uz).1) where
  module _ (sx sy sz : Bool) (state init : ℕ) where
    shapes : has_shapes (array (position x sx ∷ position y sy ∷ position z sz ∷ []) state init) ≡ true
    shapes = refl

    tiered : has_tiers (array (position x sx ∷ position y sy ∷ position z sz ∷ []) state init) ≡ true
    tiered = refl

    lie : (guid : List ℕ) → list_all (lies_well table (extents ((guid, array (position x sx ∷ position y sy ∷ position z sz ∷ []) state init) ∷ []))) (array_extents (array (position x sx ∷ position y sy ∷ position z sz ∷ []) state init)) ≡ true
    lie guid = simp (lies_well, meets_extent, lx, ly, lz, same, xy, xz, yz, yx, zx, zy)

    pub served : (guid : List ℕ) → is_served table (extents ((guid, array (position x sx ∷ position y sy ∷ position z sz ∷ []) state init) ∷ [])) (array (position x sx ∷ position y sy ∷ position z sz ∷ []) state init) ≡ true
    served guid = ap (λ b. true && true && b) (lie guid)

  module _ (state init : ℕ) where
    pub low_whole : mx ≡ false → my ≡ false → mz ≡ false → low_state table (array (position x true ∷ position y true ∷ position z true ∷ []) state init) ≡ 0
    low_whole nx ny nz = simp (is_available, is_current, lx, ly, lz, nx, ny, nz)

    pub low_second : mx ≡ false → mz ≡ false → low_state table (array (position x true ∷ position y false ∷ position z true ∷ []) state init) ≡ 1
    low_second nx nz = simp (is_available, is_current, lx, lz, nx, nz)

    pub low_third : mx ≡ false → my ≡ false → low_state table (array (position x true ∷ position y true ∷ position z false ∷ []) state init) ≡ 1
    low_third nx ny = simp (is_available, is_current, lx, ly, nx, ny)
