-- What a rebuild keeps of an array.
use Rattle.std.proofs.Common.{◌≡◌, ◌∙◌, ◌⊎◌, inl, inr, ⊎_elim, ℕ, ◌+◌, ◌-◌, ◌*◌, ◌<◌, ◌≤◌, List, Some, refl, sym, subst, arith}
use Rattle.std.proofs.lemmas.Bool.{cases_lt}
use Rattle.ddf_bay.specs.Sectors.{Image, IsLeft, Outcomes}
use Rattle.ddf_primary.proofs.ShapeFacts.{depth_le}
use Rattle.ddf_primary.specs.Cells.{depth_of, height_of}
use Rattle.ddf_array.specs.declared.part.Part.{Part}
use Rattle.ddf_array.specs.Volume.{IsVolume, Volume}
use Rattle.ddf_cells.specs.Alike.{AreAlike, IsCell}
use Rattle.ddf_array.specs.Apart.{IsApart}
use Rattle.ddf_cells.specs.Writing.{IsAmongSectors, IsLeftBut, Sectors, StaysBut}
use Rattle.ddf_cells.proofs.Alike.{depth_below, wanted_same}
use Rattle.ddf_rebuild.specs.declared.aim.Aim.{Aim}
use Rattle.ddf_rebuild.specs.Filling.{HoldsWanted, IsFilled}
use Rattle.ddf_rebuild.specs.Rebuilding.{HasRebuilt}
use Rattle.ddf_rebuild.specs.Target.{IsAim, IsAside, IsTargetCell}
use Rattle.ddf_rebuild.proofs.Aiming.{never_cell}

-- ---- an image of the moments of calls that write such sectors comes from one that might be left before them

abbrev before_by : {P Q : Type 0} → List ℕ → List ℕ → P ⊎ Q → List ℕ
before_by now held (inl was) = now
before_by now held (inr written) = held

left_by : {Q : Type 0} (P : List ℕ → Type 0) (now held : List ℕ) (case : P now ⊎ Q) → P held → P (before_by now held case)
left_by P now held (inl was) left = was
left_by P now held (inr written) left = left

same_by : {P Q : Type 0} (now held : List ℕ) (case : P ⊎ Q) → (now ≡ before_by now held case) ⊎ Q
same_by now held (inl was) = inl refl
same_by now held (inr written) = inr written

pub image_under : (These : Sectors) (may : Outcomes) (held image : Image) → IsLeft may held → IsLeftBut These may image
    → (before : Image) × IsLeft may before × StaysBut These before image
image_under These may held image left but = (
  λ s l. before_by (image s l) (held s l) (but s l),
  λ s l. left_by (may s l) (image s l) (held s l) (but s l) (left s l),
  λ s l. same_by (image s l) (held s l) (but s l),
)

-- ---- rows of a position that is out of sync

module _ (v : Volume) (element position from to : ℕ) where
  aim_of : (slot lba : ℕ) → (cell : IsTargetCell v element position from to slot lba) → (aim : Aim) × (IsAim v aim × (slot ≡ aim.slot) × (lba ≡ aim.start + cell.sector))
  aim_of slot lba cell = (
    record { element = element; position = position; slot = slot; start = cell.place.start },
    (record { part = cell.part; place = cell.place; is_target = cell.is_target; start_is = refl }, refl, cell.lba_is),
  )

  pub alike_rebuilding : (before image : Image) → IsApart v → StaysBut (IsTargetCell v element position from to) before image → AreAlike v before image
  alike_rebuilding before image apart stays slot lba is =
      ⊎_elim (λ same. sym same)
      (λ (cell : IsTargetCell v element position from to slot lba).
      let le = depth_le cell.part.shape.layout cell.part.shape.strip cell.part.shape.blocks in
      let aim : Aim = record { element = element; position = position; slot = slot; start = cell.place.start } in
      let aims : IsAim v aim = record { part = cell.part; place = cell.place; is_target = cell.is_target; start_is = refl } in
      absurd (never_cell v apart aim aims slot lba cell.sector (omega (arith, cell.in_rows.below, le)) refl cell.lba_is is))
      (stays slot lba)

  pub image_before : (may : Outcomes) (held image : Image) → IsLeft may held → IsLeftBut (IsTargetCell v element position from to) may image
      → (before : Image) × IsLeft may before × StaysBut (IsTargetCell v element position from to) before image
  image_before may held image left but = image_under (IsTargetCell v element position from to) may held image left but

  -- rows behind others
  pub more_rows : (last : ℕ) (before image : Image) → HasRebuilt v element position from to before image → HasRebuilt v element position to last before image → HasRebuilt v element position from last before image
  more_rows last before image first second part place slot sector target rows =
      ⊎_elim (λ (earlier : sector < to * height_of part.shape). first part place slot sector target (record { from_is = rows.from_is; to_is = earlier; below = rows.below }))
      (λ (later : to * height_of part.shape ≤ sector). second part place slot sector target (record { from_is = later; to_is = rows.to_is; below = rows.below }))
      (cases_lt sector (to * height_of part.shape))

  -- by an image that is the same to the array
  pub rebuilt_alike : (before other image : Image) → IsVolume v → AreAlike v before other → HasRebuilt v element position from to before image → HasRebuilt v element position from to other image
  rebuilt_alike before other image known alike has part place slot sector target rows =
      has part place slot sector target rows ∙ wanted_same v known before other alike element part target.is_part sector position (depth_below v known part sector rows.below)

-- ---- an extent aside

module _ (sizes : List ℕ) (v : Volume) (element slot start : ℕ) (aside : IsAside sizes v element slot start) where
  parts_are : (a b : Part) → Some a ≡ Some b → a ≡ b
  parts_are a b e = cc

  pub alike_filled : (before image : Image) → StaysBut (IsFilled v element slot start) before image → AreAlike v before image
  alike_filled before image stays s l is =
      ⊎_elim (λ same. sym same)
      (λ (cell : IsFilled v element slot start s l).
      let shape = aside.part.shape in
      let own : cell.part ≡ aside.part = parts_are cell.part aside.part (sym cell.is_part ∙ aside.is_part) in
      let among : IsAmongSectors slot start (depth_of shape) s l = subst (λ (part : Part). IsAmongSectors slot start (depth_of part.shape) s l) own cell.among in
      let at : l ≡ start + (l - start) = omega (arith, among.from) in
      absurd (aside.apart (l - start) (omega (arith, among.from, among.below, depth_le shape.layout shape.strip shape.blocks))
      (subst (λ (n : ℕ). IsCell v slot n) at (subst (λ (n : ℕ). IsCell v n l) among.on_slot is))))
      (stays s l)

pub wanted_alike : (v : Volume) (element position slot start : ℕ) (before other image : Image) → IsVolume v → AreAlike v before other
    → HoldsWanted v element position slot start before image → HoldsWanted v element position slot start other image
wanted_alike v element position slot start before other image known alike has part sector part_at below =
    has part sector part_at below ∙ wanted_same v known before other alike element part part_at sector position (depth_below v known part sector below)
