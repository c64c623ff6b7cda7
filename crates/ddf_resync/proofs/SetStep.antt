-- One run of parity cells that is summed and written.
use Rattle.std.proofs.Common.{◌≡◌, ◌∙◌, ℕ, ◌+◌, ◌/◌, ◌<◌, ◌≤◌, Bool, false, true, List, [], Some, sym, ap, subst, arith, length, slice_get}
use Rattle.std.specs.Prelude.{option_map, slice_index_or, slice_set}
use Rattle.ddf_lemmas.proofs.Options.{some_is}
use Rattle.ddf_bay.specs.Sectors.{Image, put_run}
use Rattle.ddf_bay.specs.State.{BayState}
use Rattle.ddf_bay.specs.Moments.{Adds, IsAmong, Mixes, SpendsWrites, StopsLeave}
use Rattle.ddf_primary.specs.Cells.{depth_of, parity_member}
use Rattle.ddf_primary.proofs.ShapeFacts.{depth_le}
use Rattle.ddf_primary.proofs.Needs.{parity_below, some_members}
use Rattle.ddf_array.specs.declared.part.Part.{Part}
use Rattle.ddf_array.specs.declared.site.Site.{Site}
use Rattle.ddf_array.specs.Apart.{IsApart}
use Rattle.ddf_array.specs.Levels.{keeps_parity}
use Rattle.ddf_array.specs.Places.{site_at}
use Rattle.ddf_array.specs.Rows.{row_sum}
use Rattle.ddf_array.specs.Volume.{Volume, IsVolume, Fits}
use Rattle.ddf_read.specs.Along.{further}
use Rattle.ddf_read.specs.Reading.{OnlyReads}
use Rattle.ddf_read.proofs.Sites.{site_at_there}
use Rattle.ddf_read.proofs.SourcesAlong.{site_further}
use Rattle.ddf_cells.specs.CellSources.{IsInOneRow}
use Rattle.ddf_cells.specs.Degraded.{is_degraded}
use Rattle.ddf_cells.specs.RowSums.{HoldsParityAlong}
use Rattle.ddf_cells.specs.Touching.{IsTouchedSlot, Writes}
use Rattle.ddf_cells.proofs.ParityCells.{parity_holds, run_gives, run_keeps, run_set}
use Rattle.ddf_cells.proofs.Whole.{whole_site}
use Rattle.ddf_cells.proofs.WriteSteps.{touch_here, writes_read, writes_run, writes_then}
use Rattle.ddf_resync.specs.Setting.{IsNotedAt, IsRightAt, KeepsRight, SetsParity}

-- the position with the parity, as it is found
pub parity_is : (part : Part) (sector strip found parity : ℕ) → strip ≡ part.shape.strip → Some found ≡ parity_member part.shape (sector / strip) → parity ≡ found → parity_member part.shape (sector / part.shape.strip) ≡ Some parity
parity_is part sector strip found parity strip_is is same = ap (λ n. parity_member part.shape (sector / n)) (sym strip_is) ∙ sym is ∙ ap Some (sym same)

module _ (v : Volume) (known : IsVolume v) (element : ℕ) (part : Part) (is_part : slice_get v.parts element ≡ Some part) (keep : keeps_parity part.shape.layout ≡ true) (sector count : ℕ) (some : 0 < count)
    (inside : sector + count ≤ depth_of part.shape) (row : IsInOneRow part sector count) (parity : ℕ) (is_parity : parity_member part.shape (sector / part.shape.strip) ≡ Some parity) where
  pub parity_on : parity < length part.places
  parity_on =
      let shape = known.are_parts element part is_part in
      omega (arith, parity_below part.shape.layout part.shape.members (sector / part.shape.strip) parity (some_members part.shape.layout part.shape.members shape.shape_is.members_taken) is_parity, shape.has_places)

  pub parity_along : HoldsParityAlong part parity sector count
  parity_along = parity_holds part sector count count parity keep row (omega arith) is_parity

  -- its cell is there
  pub parity_there : is_degraded v ≡ false → (one : Site) × (site_at part.places parity sector ≡ Some one)
  parity_there whole = whole_site v whole element part is_part keep parity sector parity_on

  module _ (first : Site) (at : site_at part.places parity sector ≡ Some first) where
    pub parity_slot : (sizes : List ℕ) → Fits sizes v → first.slot < length sizes
    parity_slot sizes fits =
        (site_at_there sizes part parity sector count first (fits element part is_part) (omega (arith, inside, depth_le part.shape.layout part.shape.strip part.shape.blocks)) at).slot_is

    -- all these cells lie on one slot
    pub step_noted : (touched : List Bool) → first.slot < length touched → (j : ℕ) → j < count → IsNotedAt (slice_set touched first.slot true) part (sector + j)
    step_noted touched few j below position own is at_own =
        let same : parity ≡ position = some_is (sym (parity_along j below) ∙ is) in
        let here : site_at part.places position (sector + j) ≡ Some (further j first) = ap (λ p. site_at part.places p (sector + j)) (sym same) ∙ site_further part.places parity sector j ∙ ap (option_map (further j)) at in
        let on : further j first ≡ own = some_is (sym here ∙ at_own) in
        subst (λ (one : Site). IsTouchedSlot (slice_set touched first.slot true) one.slot) on (touch_here touched first.slot few)

    module _ (apart : IsApart v) (sums : List (List ℕ)) (long : length sums ≡ count) {D : Type 0} {old mid : BayState D} (reads : OnlyReads old mid) where
      pub step_writes : (tells : Type 0) {new : BayState D} (touched : List Bool) (n m : ℕ) → first.slot < length touched → (tells → Mixes mid.held new.held first.slot first.lba sums) → Adds mid.may_hold new.may_hold first.slot first.lba sums
          → StopsLeave mid new (IsAmong mid.may_hold first.slot first.lba sums) → SpendsWrites mid new first.slot n m → Writes (SetsParity v) tells old new touched (slice_set touched first.slot true)
      step_writes tells touched n m few mixes adds moments spends =
          writes_then (SetsParity v) tells
          (writes_read (SetsParity v) tells touched reads)
          (writes_run (SetsParity v) tells first.slot first.lba sums touched n m few (omega (arith, long, some))
          (run_gives v known apart element part is_part sector count parity parity_along inside first at sums long)
          mixes adds moments spends)

      module _ (whole : is_degraded v ≡ false) (now : Image) (written : now ≡ put_run mid.held first.slot first.lba sums) (are : (j : ℕ) → j < count → slice_index_or sums j [] ≡ row_sum v old.held element part (sector + j)) where
        sums_are : (j : ℕ) → j < count → slice_index_or sums j [] ≡ row_sum v mid.held element part (sector + j)
        sums_are j below = are j below ∙ ap (λ (f : Image). row_sum v f element part (sector + j)) (sym reads.reads.same_held)

        pub step_right : (j : ℕ) → j < count → IsRightAt v now element part (sector + j)
        step_right j below position own is at_own =
            let same : parity ≡ position = some_is (sym (parity_along j below) ∙ is) in
            run_set v known apart element part is_part sector count parity parity_along inside first at sums long whole parity_on mid.held now written sums_are j own below (ap (λ p. site_at part.places p (sector + j)) same ∙ at_own)

        pub step_kept : KeepsRight v old.held now
        step_kept e x q is_q deep was position own is at_own =
            run_keeps v known apart element part is_part sector count parity parity_along inside first at sums long whole parity_on mid.held now written sums_are e x position q own is_q deep is at_own
            (ap (λ (f : Image). f own.slot own.lba) reads.reads.same_held ∙ was position own is at_own ∙ ap (λ (f : Image). row_sum v f e q x) (sym reads.reads.same_held))
