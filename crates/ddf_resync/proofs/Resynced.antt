-- An array whose copies were made equal, and then its parity right.
use Rattle.std.proofs.Common.{◌≡◌, ◌∙◌, ◌⊎◌, inl, inr, ⊎_elim, ℕ, ◌/◌, ◌<◌, Bool, true, false, not, List, Some, None, refl, sym, ap, subst, arith, map, length, slice_get}
use Rattle.std.specs.Prelude.{◌==◌, ◌&&◌, ◌||◌, if◌then◌else◌, nat_le}
use Rattle.std.proofs.lemmas.Bool.{eqb-true, leb-false}
use Rattle.std.specs.List.{list_any}
use Rattle.std.proofs.lemmas.Option.{slice_get_within}
use Rattle.ddf_lemmas.proofs.Lists.{none_any, some_at_place}
use Rattle.ddf_lemmas.proofs.Options.{some_is}
use Rattle.ddf_lemmas.proofs.Tests.{or_first, or_second}
use Rattle.ddf_bay.specs.Sectors.{Image}
use Rattle.ddf_primary.specs.Cells as cells_of
use Rattle.ddf_primary.specs.Cells.{cells}
use Rattle.ddf_primary.proofs.ShapeFacts.{depth_le}
use Rattle.ddf_primary.proofs.Needs.{parity_keeps}
use Rattle.ddf_primary.proofs.Copies.{own_copy}
use Rattle.ddf_secondary.specs.declared.spot.Spot.{Spot}
use Rattle.ddf_secondary.specs.Spots.{spots}
use Rattle.ddf_secondary.proofs.SpotFacts.{spot_facts}
use Rattle.ddf_array.specs.declared.part.Part.{Part}
use Rattle.ddf_array.specs.declared.site.Site.{Site}
use Rattle.ddf_array.specs.Apart.{IsApart}
use Rattle.ddf_array.specs.Levels.{keeps_copies, keeps_parity}
use Rattle.ddf_array.specs.Cells.{is_in_every}
use Rattle.ddf_array.specs.Places.{site_at, site_on}
use Rattle.ddf_array.specs.Sources.{copies, copy}
use Rattle.ddf_array.specs.Values.{bytes_at}
use Rattle.ddf_array.specs.Volume.{Volume, IsVolume, Fits, capacity}
use Rattle.ddf_array.specs.Within.{is_mirrored, is_redundant, is_within, keeps_more}
use Rattle.ddf_array.proofs.Elements.{parts_count}
use Rattle.ddf_read.specs.Reading.{IsGivenBy}
use Rattle.ddf_read.specs.declared.fault.VolumeFault.{VolumeFault}
use Rattle.ddf_read.specs.declared.fault.VolumeFault.TheVariants.{Lost, Unsure}
use Rattle.ddf_read.proofs.Sites.{site_at_there}
use Rattle.ddf_cells.specs.CellSources.{HaveEqualCopies}
use Rattle.ddf_cells.specs.Degraded.{is_degraded}
use Rattle.ddf_cells.specs.Parity.{IsParityCell}
use Rattle.ddf_cells.proofs.AlongStrips.{first_spot}
use Rattle.ddf_cells.proofs.CopiesOn.{on_position, sits_below}
use Rattle.ddf_cells.proofs.Ends.{touched_by}
use Rattle.ddf_cells.proofs.OnCells.{on_cell, spot_of}
use Rattle.ddf_cells.proofs.ParityCells.{no_copy}
use Rattle.ddf_cells.proofs.Redundance.{made_redundant}
use Rattle.ddf_cells.proofs.RunGiven.{cell_there}
use Rattle.ddf_resync.specs.Copying.{AreCopied, AreNoted, HasOneCopy}
use Rattle.ddf_resync.specs.Resyncing.{HasResynced, IsSetOn, MayResync, resync_refusal}
use Rattle.ddf_bay.specs.State.{BayState}
use Rattle.ddf_cells.specs.Touching.{IsGivenOn, IsTouchedSlot, Writes}
use Rattle.ddf_resync.specs.Setting.{AreNotedIn, AreRightIn, SetsParity}
use Rattle.ddf_resync.proofs.Copied.{given_alone}
use Rattle.ddf_resync.proofs.SeveralCells.{not_several}

-- a block with an available cell is one of the array
pub copy_below : (v : Volume) → IsVolume v → (block i : ℕ) (one : Site) → slice_get (copies v block) i ≡ Some one → block < capacity v
copy_below v known block i one at =
    let on = on_position v known block i one at in
    let cell = on_cell v known on.element on.position block one on.on in
    sits_below v known on.element on.position cell.sector block cell.sits

-- what a resync gives lies on slots
copy_there : (v : Volume) → IsVolume v → (sizes : List ℕ) → Fits sizes v → (block i s l : ℕ) → slice_get (copies v block) i ≡ Some (site_on s l) → s < length sizes
copy_there v known sizes fits block i s l is_cell =
    let on = on_position v known block i (site_on s l) is_cell in (cell_there sizes v known fits on.element on.position block (site_on s l) on.on).slot_is

parity_there : (v : Volume) (sizes : List ℕ) → Fits sizes v → (s l : ℕ) → IsParityCell v s l → s < length sizes
parity_there v sizes fits s l of =
    (site_at_there sizes of.part of.position of.sector 1 (site_on s l) (fits of.element of.part of.is_part) (omega (arith, of.deep, depth_le of.part.shape.layout of.part.shape.strip of.part.shape.blocks)) of.is_there).slot_is

pub given_there : (v : Volume) → IsVolume v → (sizes : List ℕ) → Fits sizes v → (tells : Type 0) (before : Image) (s l : ℕ) (bytes : List ℕ) → MayResync v tells before s l bytes → s < length sizes
given_there v known sizes fits tells before s l bytes (inl taken) = copy_there v known sizes fits taken.block taken.i s l taken.is_cell
given_there v known sizes fits tells before s l bytes (inr of) = parity_there v sizes fits s l of

-- ---- after both halves

module _ (failed : ℕ → Type 0) (v : Volume) (known : IsVolume v) (apart : IsApart v) (whole : is_degraded v ≡ false) (before mid now : Image) (copied : AreCopied failed v before mid 0 (capacity v))
    (only : (s l : ℕ) → (now s l ≡ mid s l) ⊎ IsParityCell v s l) where
  copy_same : (block i : ℕ) (one : Site) → slice_get (copies v block) i ≡ Some one → bytes_at now one ≡ bytes_at mid one
  copy_same block i one at = ⊎_elim (λ same. same) (λ of. absurd (no_copy v known apart block i one at of)) (only one.slot one.lba)

  equal_now : HaveEqualCopies v now
  equal_now block j k one other at at' =
      copy_same block j one at ∙ copied.equal block j k one other (omega arith) (copy_below v known block j one at) at at' ∙ sym (copy_same block k other at')

  pub resynced : AreRightIn v now (length v.parts) → HasResynced failed v before now
  resynced right = record {
    redundant = λ are. made_redundant v known apart whole now are equal_now
        (λ element sector position part own is_part keep deep is_parity at. right element sector part (slice_get_within v.parts element part is_part) is_part deep position own is_parity at);
    given = λ block i one at.
        subst (λ bytes. IsGivenBy failed before (map copy (copies v block)) bytes) (sym (copy_same block i one at)) (copied.given block i one (omega arith) (copy_below v known block i one at) at);
  }

pub equal_mid : {failed : ℕ → Type 0} (v : Volume) → IsVolume v → (before mid : Image) → AreCopied failed v before mid 0 (capacity v) → HaveEqualCopies v mid
equal_mid v known before mid copied block j k one other at at' = copied.equal block j k one other (omega arith) (copy_below v known block j one at) at at'

-- the slots of what was set were touched
pub set_noted : (v : Volume) → IsVolume v → (touched after : List Bool) (slot : ℕ) → ((s : ℕ) → IsTouchedSlot touched s → IsTouchedSlot after s) → AreNoted v touched 0 (capacity v) → AreNotedIn v after (length v.parts)
    → IsSetOn v slot → IsTouchedSlot after slot
set_noted v known touched after slot up copies_noted parity_noted on = ⊎_elim
    (λ cell. up slot (copies_noted cell.block cell.i (site_on slot on.lba) (omega arith) (copy_below v known cell.block cell.i (site_on slot on.lba) cell.is_cell) cell.several cell.is_cell))
    (λ of. parity_noted of.element of.sector of.part (slice_get_within v.parts of.element of.part of.is_part) of.is_part of.deep of.position (site_on slot on.lba) of.is_parity of.is_there)
    on.is_set

-- and they are slots of the bay
pub set_there : (v : Volume) → IsVolume v → (sizes : List ℕ) → Fits sizes v → (slot : ℕ) → IsSetOn v slot → slot < length sizes
set_there v known sizes fits slot on = ⊎_elim (λ cell. copy_there v known sizes fits cell.block cell.i slot on.lba cell.is_cell) (λ of. parity_there v sizes fits slot on.lba of) on.is_set

-- a slot that was noted, where none was before, is such a slot
given_set : (v : Volume) (tells : Type 0) (before : Image) (slot : ℕ) → IsGivenOn (MayResync v tells before) slot → IsSetOn v slot
given_set v tells before slot given = ⊎_elim
    (λ taken. record { lba = given.lba; is_set = inl (record { block = taken.block; i = taken.i; is_cell = taken.is_cell; several = taken.several }) })
    (λ of. record { lba = given.lba; is_set = inr of })
    given.is_given

pub noted_set : (v : Volume) (tells : Type 0) (before : Image) {D : Type 0} {old b : BayState D} {t u : List Bool} → Writes (MayResync v tells before) tells old b t u → ((s : ℕ) → IsTouchedSlot t s → ⊥) → (slot : ℕ) → IsTouchedSlot u slot → IsSetOn v slot
noted_set v tells before w none slot is = given_set v tells before slot (touched_by (MayResync v tells before) tells w none slot is)

-- copies that are equal stay so while parity is set
pub equal_kept : (v : Volume) → IsVolume v → IsApart v → (tells : Type 0) {D : Type 0} {a b : BayState D} {t u : List Bool} → Writes (SetsParity v) tells a b t u → tells → HaveEqualCopies v a.held → HaveEqualCopies v b.held
equal_kept v known apart tells {a = a} {b = b} writes tell equal block j k one other at at' = kept j one at ∙ equal block j k one other at at' ∙ sym (kept k other at')
  where
    kept : (i : ℕ) (its : Site) → slice_get (copies v block) i ≡ Some its → bytes_at b.held its ≡ bytes_at a.held its
    kept i its is = ⊎_elim (λ same. same) (λ given. absurd (no_copy v known apart block i its is given.0)) (writes.held tell its.slot its.lba)

-- ---- a block with one cell

few_parts : (every : Bool) (n : ℕ) → every ≡ true → (every && nat_le 2 n) ≡ false → n < 2
few_parts true n is not = leb-false 2 n not
few_parts false n is not = absurd (cc)

module _ (v : Volume) (known : IsVolume v) (one_element : is_mirrored v ≡ false) (block : ℕ) (spot : Spot) (at : slice_get (spots v.tiers) block ≡ Some spot) (part : Part) (is_part : slice_get v.parts spot.element ≡ Some part)
    (lone : keeps_copies part.shape.layout ≡ false) where
  element_by : (every : Bool) (element first : ℕ) → is_in_every v.tiers.level ≡ every → (every || (first == element)) ≡ true → first ≡ spot.element → element < length v.parts → element ≡ spot.element
  element_by true element first is like same below =
      let few : length v.parts < 2 = few_parts (is_in_every v.tiers.level) (length v.parts) is one_element in
      omega (arith, few, below, slice_get_within v.parts spot.element part is_part)
  element_by false element first is like same below = sym (eqb-true first element like) ∙ same

  record IsThere (one : Site) : Type 0 where
    position : ℕ
    sector : ℕ
    is_cell : slice_get (cells part.shape) spot.block ≡ Some (position, sector)
    is_site : site_at part.places position sector ≡ Some one

  there : (i : ℕ) (one : Site) → slice_get (copies v block) i ≡ Some one → IsThere one
  there i one is =
      let on = on_position v known block i one is in
      let cell = on_cell v known on.element on.position block one on.on in
      let first = first_spot v.tiers.level v.tiers.sizes (spots v.tiers) on.element cell.sits.inner block cell.sits.in_element in
      let same : spot_of first.0 cell.sits.inner ≡ spot = some_is (sym first.1 ∙ at) in
      let element : on.element ≡ spot.element =
      element_by (is_in_every v.tiers.level) on.element first.0 refl first.2 (ap (λ (s : Spot). s.element) same) (slice_get_within v.parts on.element cell.sits.part cell.sits.is_part) in
      let parts : cell.sits.part ≡ part = some_is (sym cell.sits.is_part ∙ ap (slice_get v.parts) element ∙ is_part) in
      let inner : cell.sits.inner ≡ spot.block = ap (λ (s : Spot). s.block) same in
      let holds : cells_of.Holds part.shape on.position cell.sector spot.block =
      subst (λ n. cells_of.Holds part.shape on.position cell.sector n) inner (subst (λ (q : Part). cells_of.Holds q.shape on.position cell.sector cell.sits.inner) parts cell.sits.on_position) in
      record {
        position = on.position;
        sector = cell.sector;
        is_cell = own_copy part.shape on.position cell.sector spot.block lone holds;
        is_site = ap (λ (q : Part). site_at q.places on.position cell.sector) (sym parts) ∙ cell.is_there;
      }

  one_copy : HasOneCopy v block
  one_copy i j one other at_i at_j =
      let a = there i one at_i in
      let b = there j other at_j in
      let same : (a.position, a.sector) ≡ (b.position, b.sector) = some_is (sym a.is_cell ∙ b.is_cell) in
      some_is (sym a.is_site ∙ ap (λ (c : ℕ × ℕ). site_at part.places c.0 c.1) same ∙ b.is_site)

-- ---- an array that isn't redundant by its level

module _ (v : Volume) (known : IsVolume v) (plain : is_redundant v ≡ false) where
  one_element : is_mirrored v ≡ false
  one_element = or_first (is_mirrored v) (list_any keeps_more v.parts) plain

  keeps_none : (element : ℕ) (part : Part) → slice_get v.parts element ≡ Some part → keeps_more part ≡ false
  keeps_none element part is_part = none_any keeps_more v.parts element part (or_second (is_mirrored v) (list_any keeps_more v.parts) plain) is_part

  lone : (block : ℕ) → HasOneCopy v block
  lone block i j one other at_i at_j =
      let on = on_position v known block i one at_i in
      let cell = on_cell v known on.element on.position block one on.on in
      let first = first_spot v.tiers.level v.tiers.sizes (spots v.tiers) on.element cell.sits.inner block cell.sits.in_element in
      let spot = spot_of first.0 cell.sits.inner in
      let facts = spot_facts v.tiers known.array_is in
      let within = facts.element_within spot block (facts.named spot block first.1) in
      let part = some_at_place v.parts first.0 (omega (arith, within, parts_count v known)) in
      one_copy v known one_element block spot first.1 part.0 part.1 (or_first (keeps_copies part.0.shape.layout) (keeps_parity part.0.shape.layout) (keeps_none first.0 part.0 part.1)) i j one other at_i at_j

  no_parity : (element : ℕ) (part : Part) → slice_get v.parts element ≡ Some part → keeps_parity part.shape.layout ≡ true → ⊥
  no_parity element part is_part keep = differ (sym (or_second (keeps_copies part.shape.layout) (keeps_parity part.shape.layout) (keeps_none element part is_part)) ∙ keep)
    where
      differ : false ≡ true → ⊥
      differ e = cc

  pub plain_resynced : IsApart v → is_degraded v ≡ false → (failed : ℕ → Type 0) (image : Image) → HasResynced failed v image image
  plain_resynced apart whole failed image = record {
    redundant = λ are. made_redundant v known apart whole image are (λ block j k one other at at'. ap (bytes_at image) (lone block j k one other at at'))
        (λ element sector position part own is_part keep deep is_parity at. absurd (no_parity element part is_part keep));
    given = λ block i one at. given_alone failed v image block i one (bytes_at image one) (lone block) at refl;
  }

  -- nothing of it is set
  pub plain_set : (slot : ℕ) → IsSetOn v slot → ⊥
  plain_set slot on = ⊎_elim
      (λ cell. differ (sym (not_several v cell.block (lone cell.block)) ∙ cell.several))
      (λ of. no_parity of.element of.part of.is_part (parity_keeps of.part.shape.layout of.part.shape.members (of.sector / of.part.shape.strip) of.position of.is_parity))
      on.is_set
    where
      differ : false ≡ true → ⊥
      differ e = cc

-- ---- refusals

not_refused_by : (within degraded : Bool) (a b : VolumeFault) → (if not within then Some a else (if degraded then Some b else None)) ≡ None → (within ≡ true) × (degraded ≡ false)
not_refused_by false degraded a b none = absurd (cc)
not_refused_by true true a b none = absurd (cc)
not_refused_by true false a b none = (refl, refl)

pub not_refused : (v : Volume) → resync_refusal v ≡ None → (is_within v ≡ true) × (is_degraded v ≡ false)
not_refused v none = not_refused_by (is_within v) (is_degraded v) Lost Unsure none
