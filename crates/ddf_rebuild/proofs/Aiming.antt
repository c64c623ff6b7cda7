-- The sectors that are filled are none of the array's cells.
use Rattle.std.proofs.Common.{◌≡◌, ◌∙◌, ⊎_elim, ℕ, ◌+◌, ◌-◌, ◌<◌, ◌≤◌, ◌^◌, List, Some, refl, sym, ap, subst, arith, slice_get, length}
use Rattle.std.specs.Prelude.{slice_index}
use Rattle.std.proofs.lemmas.Option.{same_Some}
use Rattle.ddf_lemmas.proofs.Tests.{true_not_false}
use Rattle.ddf_bay.specs.Sectors.{Image}
use Rattle.ddf_primary.specs.Cells.{depth_of}
use Rattle.ddf_primary.proofs.ShapeFacts.{depth_le}
use Rattle.ddf_array.specs.declared.part.Part.{Part}
use Rattle.ddf_array.specs.declared.place.Place.{Place}
use Rattle.ddf_array.specs.Places.{site_on}
use Rattle.ddf_array.specs.Volume.{Fits, IsVolume, Volume}
use Rattle.ddf_cells.specs.Alike.{AreAlike, IsCell}
use Rattle.ddf_array.specs.Apart.{IsApart}
use Rattle.ddf_cells.specs.Apart.{LiesAt}
use Rattle.ddf_cells.proofs.LyingApart.{lie_apart}
use Rattle.ddf_cells.specs.Writing.{IsAmongSectors, StaysBut}
use Rattle.ddf_cells.proofs.Surely.{of_place}
use Rattle.ddf_rebuild.specs.declared.aim.Aim.{Aim}
use Rattle.ddf_rebuild.specs.Target.{IsAim, IsAside}

pub cell_lies : (v : Volume) (slot lba : ℕ) → (is : IsCell v slot lba) → LiesAt v is.element is.position is.sector slot lba
cell_lies v slot lba is =
    let of = of_place is.part.places is.position is.sector (site_on slot lba) is.is_site in
    record { part = is.part; place = of.place; is_part = is.is_part; is_place = of.is_place; below = is.below; is_there = of.is_there; lba_is = of.lba_is }

-- the part and the place are the ones that are looked up
pub same_target : (v : Volume) (element position : ℕ) (part part' : Part) (place place' : Place) → slice_get v.parts element ≡ Some part → slice_get v.parts element ≡ Some part'
    → slice_get part.places position ≡ Some place → slice_get part'.places position ≡ Some place' → (part ≡ part') × (place ≡ place')
same_target v element position part part' place place' at at' in_part in_part' =
    let same : part ≡ part' = same_Some part part' (sym at ∙ at') in
    (same, same_Some place place' (sym in_part ∙ ap (λ (p : Part). slice_get p.places position) same ∙ in_part'))

-- where the target lies
pub aim_there : (sizes : List ℕ) (v : Volume) (aim : Aim) (aims : IsAim v aim) → Fits sizes v → (aim.slot < length sizes) × (aim.start + aims.part.shape.blocks ≤ slice_index sizes aim.slot)
aim_there sizes v aim aims fits =
    let lies = fits aim.element aims.part aims.is_target.is_part aim.position aims.place aims.is_target.is_place aim.slot aims.is_target.is_there in
    (lies.0, omega (arith, lies.1, aims.start_is))

pub aim_small : (v : Volume) (aim : Aim) (aims : IsAim v aim) → IsVolume v → aim.start + aims.part.shape.blocks < 2 ^ 64
aim_small v aim aims known =
    let ends = (known.are_parts aim.element aims.part aims.is_target.is_part).ends aim.position aims.place aims.is_target.is_place aim.slot aims.is_target.is_there in
    omega (arith, ends, aims.start_is)

module _ (v : Volume) (apart : IsApart v) (aim : Aim) (aims : IsAim v aim) where
  target_lies : (sector : ℕ) → sector < aims.part.shape.blocks → LiesAt v aim.element aim.position sector aim.slot (aim.start + sector)
  target_lies sector below = record {
    part = aims.part;
    place = aims.place;
    is_part = aims.is_target.is_part;
    is_place = aims.is_target.is_place;
    below = below;
    is_there = aims.is_target.is_there;
    lba_is = ap (λ n. n + sector) (sym aims.start_is);
  }

  -- no sector of the target is a cell
  pub never_cell : (slot lba sector : ℕ) → sector < aims.part.shape.blocks → slot ≡ aim.slot → lba ≡ aim.start + sector → IsCell v slot lba → ⊥
  never_cell slot lba sector below on at is =
      let cell = cell_lies v slot lba is in
      let here : LiesAt v aim.element aim.position sector slot lba =
      subst (λ (n : ℕ). LiesAt v aim.element aim.position sector n lba) (sym on) (subst (λ (n : ℕ). LiesAt v aim.element aim.position sector aim.slot n) (sym at) (target_lies sector below)) in
      let same = lie_apart v apart aim.element aim.position sector is.element is.position is.sector slot lba here cell in
      let of = of_place is.part.places is.position is.sector (site_on slot lba) is.is_site in
      let looked = same_target v aim.element aim.position aims.part is.part aims.place of.place aims.is_target.is_part
      (ap (slice_get v.parts) same.0 ∙ is.is_part) aims.is_target.is_place (ap (slice_get is.part.places) same.1 ∙ of.is_place) in
      true_not_false (sym of.is_synced ∙ ap (λ (p : Place). p.synced) (sym looked.1) ∙ aims.is_target.is_out)

  -- so it lies aside
  pub aside : (sizes : List ℕ) → Fits sizes v → IsVolume v → IsAside sizes v aim.element aim.slot aim.start
  aside sizes fits known = record {
    part = aims.part;
    is_part = aims.is_target.is_part;
    on_slot = (aim_there sizes v aim aims fits).0;
    within = (aim_there sizes v aim aims fits).1;
    small = aim_small v aim aims known;
    apart = λ sector below is. never_cell aim.slot (aim.start + sector) sector below refl refl is;
  }

-- images that differ alone where something is filled aside are the same to the array
pub alike_but : (sizes : List ℕ) (v : Volume) (aim : Aim) (is_aside : IsAside sizes v aim.element aim.slot aim.start) (from end : ℕ) → end ≤ depth_of is_aside.part.shape → (a b : Image)
    → StaysBut (IsAmongSectors aim.slot (aim.start + from) (end - from)) a b → AreAlike v a b
alike_but sizes v aim is_aside from end deep a b stays slot lba is =
    ⊎_elim (λ same. sym same)
    (λ (among : IsAmongSectors aim.slot (aim.start + from) (end - from) slot lba).
    let shape = is_aside.part.shape in
    let at : lba ≡ aim.start + (lba - aim.start) = omega (arith, among.from) in
    absurd (is_aside.apart (lba - aim.start) (omega (arith, among.from, among.below, deep, depth_le shape.layout shape.strip shape.blocks))
    (subst (λ (n : ℕ). IsCell v aim.slot n) at (subst (λ (n : ℕ). IsCell v n lba) among.on_slot is))))
    (stays slot lba)
