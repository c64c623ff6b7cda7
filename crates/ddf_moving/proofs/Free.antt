-- Where nothing stands in the way, a moved copy lies apart from all that stays.
use Rattle.std.proofs.Common.{◌≡◌, ◌⊎◌, ℕ, ◌+◌, ◌-◌, ◌*◌, ◌<◌, ◌≤◌, true, false, ◌||◌, eqb, List, length, Some, None, inl, inr, ⊎_elim, refl, sym, ap, subst, arith}
use Rattle.std.specs.Prelude.{slice_get, is_some}
use Rattle.std.specs.List.{list_any}
use Rattle.std.proofs.Math.Nat.{div-mul-le_self}
use Rattle.std.proofs.lemmas.Bool.{cases_lt, ltb-false, leb-false, ne_eqb, or_parts}
use Rattle.ddf_lemmas.proofs.Lists.{none_any}
use Rattle.ddf_bytes.proofs.Nones.{none_first, none_when}
use Rattle.ddf_config.specs.declared.extent.Extent.{Extent}
use Rattle.ddf_header.specs.declared.geometry.Geometry.{Geometry}
use Rattle.ddf_header.specs.declared.reading.Header.{Header}
use Rattle.ddf_header.specs.Geometry.{IsSound, section_of}
use Rattle.ddf_header.proofs.Sound.{sound}
use Rattle.ddf_copy.specs.declared.copy.DiskCopy.{DiskCopy}
use Rattle.ddf_copy.specs.declared.which.Which.{Which}
use Rattle.ddf_copy.specs.declared.which.Which.TheVariants.{Primary, Secondary}
use Rattle.ddf_copy.specs.Gate.{gate_fault, header_bytes}
use Rattle.ddf_copy.specs.Headers.{IsUnder, anchor_header, closed_header}
use Rattle.ddf_copy.specs.Room.{has_sector_of, meets_copy, room_fault, share}
use Rattle.ddf_copy.specs.Runs.{IsInParts, parts_of}
use Rattle.ddf_copy.specs.Which.{other_of, place_of}
use Rattle.ddf_copy.specs.Written.{CanBeCopy}
use Rattle.ddf_copy.proofs.Anchored.{anchor_shares}
use Rattle.ddf_copy.proofs.Laid.{eight_sections, section_found, unshared}
use Rattle.ddf_import.specs.declared.places.Moved.{Moved}
use Rattle.ddf_update.specs.Update.{IsOfCopy}
use Rattle.ddf_update.proofs.NewRoom.{has_room}
use Rattle.ddf_moving.specs.Copies.{moved_copy, relaid}
use Rattle.ddf_moving.specs.Moves.{IsInSection, IsUntaken, MayBeMoved}
use Rattle.ddf_moving.specs.Obstacles.{end_meets_copies, end_of_workspace, front_meets_others, front_of, is_short, meets_extent, obstacle, obstacles_of, reaches_anchor}
use Rattle.ddf_moving.specs.Places.{copy_length, moved_geometry}
use Rattle.ddf_moving.proofs.Can.{IsMovedTo, IsPlaced, has_moved, moved_to, relaid_can, sound_like}
use Rattle.ddf_moving.proofs.Laid.{copy_within, sections_near}
use Rattle.ddf_moving.proofs.Lengths.{some_length}

-- ---- the sectors of a copy are those of its header and its sections

in_section : (geometry : Geometry) → IsSound geometry → ((k : ℕ) → k < 8 → slice_get geometry.sections k ≡ Some (section_of geometry k)) → (lba l : ℕ)
    → IsInParts lba (parts_of geometry) l → (k : ℕ) × (k < 8) × IsInSection lba geometry k l
in_section geometry is found lba l (inl here) =
    let some = (is.sections_good 0 (section_of geometry 0) (found 0 (omega arith))).needed (omega arith) in
    (0, omega arith, (omega (arith, here.0), omega (arith, here.1, some)))
in_section geometry is found lba l (inr (inl here)) = (1, omega arith, here)
in_section geometry is found lba l (inr (inr (inl here))) = (2, omega arith, here)
in_section geometry is found lba l (inr (inr (inr (inl here)))) =
    let less = div-mul-le_self (section_of geometry 3).length geometry.record_length in
    (3, omega arith, (omega (arith, here.0), omega (arith, here.1, less)))
in_section geometry is found lba l (inr (inr (inr (inr (inl here))))) =
    let some = (is.sections_good 4 (section_of geometry 4) (found 4 (omega arith))).needed (omega arith) in
    (4, omega arith, (omega (arith, here.0), omega (arith, here.1, some)))
in_section geometry is found lba l (inr (inr (inr (inr (inr (inl here)))))) = (5, omega arith, here)
in_section geometry is found lba l (inr (inr (inr (inr (inr (inr none)))))) = absurd none

-- a run of which no sector is of a section behind a header
none_of_section : (lba from many l : ℕ) (geometry : Geometry) (k : ℕ) → has_sector_of lba from many (section_of geometry k) ≡ false → from ≤ l → l < from + many
    → IsInSection lba geometry k l → ⊥
none_of_section lba from many l geometry k none above below is =
    let section = section_of geometry k in
    let present : eqb section.length 0 ≡ false = ne_eqb section.length 0 (λ (e : section.length ≡ 0). absurd (omega (arith, e, is.0, is.1))) in
    unshared from many (lba + section.offset) section.length l (rw present at none) above below is.0 is.1

-- a run that meets no header and no section has no sector of a section
none_in : (copy : DiskCopy) → CanBeCopy copy → (lba from many l : ℕ) → meets_copy lba copy.header.geometry.sections from many ≡ false → from ≤ l → l < from + many
    → (k : ℕ) → k < 8 → IsInSection lba copy.header.geometry k l → ⊥
none_in copy can lba from many l none above below k lt is =
    let geometry = copy.header.geometry in
    let parts = or_parts (share from many lba 1) (list_any (has_sector_of lba from many) geometry.sections) none in
    let found = section_found geometry k (eight_sections copy can) lt in
    none_of_section lba from many l geometry k (none_any (has_sector_of lba from many) geometry.sections k (section_of geometry k) parts.1 found) above below is

-- a run that meets no header and no section has no sector of the copy
none_met : (copy : DiskCopy) → CanBeCopy copy → (lba from many l : ℕ) → meets_copy lba copy.header.geometry.sections from many ≡ false → from ≤ l → l < from + many
    → IsOfCopy lba copy.header.geometry l → ⊥
none_met copy can lba from many l none above below (inl header) =
    let parts = or_parts (share from many lba 1) (list_any (has_sector_of lba from many) copy.header.geometry.sections) none in
    unshared from many lba 1 l parts.0 above below (omega (arith, header)) (omega (arith, header))
none_met copy can lba from many l none above below (inr part) =
    let geometry = copy.header.geometry in
    let found : (k : ℕ) → k < 8 → slice_get geometry.sections k ≡ Some (section_of geometry k) = λ k lt. section_found geometry k (eight_sections copy can) lt in
    let is = in_section geometry (sound geometry can.header_can.is_header.has_geometry) found lba l part in
    none_in copy can lba from many l none above below is.0 is.1 is.2

none_of_extent : (from many l : ℕ) (extent : Extent) → meets_extent (record { from = from; many = many }) extent ≡ false → from ≤ l → l < from + many
    → extent.start ≤ l → l < extent.start + extent.blocks → ⊥
none_of_extent from many l extent none above below there before =
    let some : eqb extent.blocks 0 ≡ false = ne_eqb extent.blocks 0 (λ (e : extent.blocks ≡ 0). absurd (omega (arith, e, there, before))) in
    unshared from many extent.start extent.blocks l (rw some at none) above below there before

-- ---- what it says that there is no obstacle

record IsFree (size room : ℕ) (old : DiskCopy) (extents : List Extent) : Type 0 where
  ends : old.header.geometry.workspace_lba + old.header.geometry.workspace_length < size
  long : 2 * room + 18 ≤ old.header.geometry.workspace_length
  primary_free : meets_copy old.header.primary_lba old.header.geometry.sections (end_of_workspace old.header.geometry room).from (end_of_workspace old.header.geometry room).many ≡ false
  secondary_free : meets_copy old.header.secondary_lba old.header.geometry.sections (end_of_workspace old.header.geometry room).from (end_of_workspace old.header.geometry room).many ≡ false
  extents_free : list_any (meets_extent (end_of_workspace old.header.geometry room)) extents ≡ false
  others_free : front_meets_others old (front_of old.header.geometry) ≡ false
  front_free : list_any (meets_extent (front_of old.header.geometry)) extents ≡ false

is_free : (old like : DiskCopy) (size room : ℕ) (extents : List Extent) → obstacle old like size room extents ≡ None → IsFree size room old extents
unfolding obstacle
is_free old like size room extents none =
    let geometry = old.header.geometry in
    let end = end_of_workspace geometry room in
    let all = none_first (obstacles_of old like size room extents) none in
    let workspace = or_parts (reaches_anchor geometry size) (is_short geometry room) (none_when (reaches_anchor geometry size || is_short geometry room) _ all.0) in
    let copies = or_parts (meets_copy old.header.primary_lba geometry.sections end.from end.many) (meets_copy old.header.secondary_lba geometry.sections end.from end.many)
    (none_when (end_meets_copies old end) _ all.1.0) in
    let extent = or_parts (list_any (meets_extent end) extents) (list_any (meets_extent (front_of geometry)) extents)
    (none_when (list_any (meets_extent end) extents || list_any (meets_extent (front_of geometry)) extents) _ all.1.1.1.0) in
    record {
      ends = leb-false size (geometry.workspace_lba + geometry.workspace_length) workspace.0;
      long = ltb-false geometry.workspace_length (2 * room + 18) workspace.1;
      primary_free = copies.0;
      secondary_free = copies.1;
      extents_free = extent.0;
      others_free = none_when (front_meets_others old (front_of geometry)) _ all.1.1.0;
      front_free = extent.1;
    }

-- ---- the law

module _ (size room : ℕ) (anchor : Header) (old like : DiskCopy) (extents : List Extent) (may : MayBeMoved size room anchor old like extents) where
  free : IsFree size room old extents
  free = is_free old like size room extents may.is_free

  can : CanBeCopy old
  can = may.is_under.is_copy

  abbrev from : ℕ
  from = old.header.geometry.workspace_lba

  abbrev many : ℕ
  many = old.header.geometry.workspace_length

  abbrev copy : ℕ
  copy = copy_length like.header.geometry

  pub made : is_some (moved_copy old like) ≡ true
  made = has_moved old like (omega (arith, free.long, may.has_room))

  -- the sectors at the front of the workspace
  abbrev Others : (lba k : ℕ) → Type 0
  Others lba k = has_sector_of lba from 18 (section_of old.header.geometry k) ≡ false

  others_of : (which : Which) → Others (place_of which old.header) 6 × Others (place_of which old.header) 7
  others_of which =
      let g = old.header.geometry in
      let a = has_sector_of old.header.primary_lba from 18 (section_of g 6) in
      let b = has_sector_of old.header.primary_lba from 18 (section_of g 7) in
      let c = has_sector_of old.header.secondary_lba from 18 (section_of g 6) in
      let d = has_sector_of old.header.secondary_lba from 18 (section_of g 7) in
      let three = or_parts (a || b || c) d free.others_free in
      let two = or_parts (a || b) c three.0 in
      let one = or_parts a b two.0 in
      both which one.0 one.1 two.1 three.1
    where
      both : (which : Which) → Others old.header.primary_lba 6 → Others old.header.primary_lba 7 → Others old.header.secondary_lba 6 → Others old.header.secondary_lba 7
          → Others (place_of which old.header) 6 × Others (place_of which old.header) 7
      both Primary a b c d = (a, b)
      both Secondary a b c d = (c, d)

  other_of_front : (which : Which) (section : ℕ) → 6 ≤ section → section < 8 → Others (place_of which old.header) section
  other_of_front which section from_six below_eight = ⊎_elim
      (λ (six : section ≡ 6). subst (λ (k : ℕ). Others (place_of which old.header) k) (sym six) (others_of which).0)
      (λ (seven : section ≡ 7). subst (λ (k : ℕ). Others (place_of which old.header) k) (sym seven) (others_of which).1)
      (six_or_seven section from_six below_eight)
    where
      six_or_seven : (n : ℕ) → 6 ≤ n → n < 8 → (n ≡ 6) ⊎ (n ≡ 7)
      six_or_seven n low high = ⊎_elim (λ (lt : n < 7). inl (omega (arith, lt, low))) (λ (ge : 7 ≤ n). inr (omega (arith, ge, high))) (cases_lt n 7)

  pub front : (l : ℕ) → from ≤ l → l < from + 18 → IsUntaken anchor old extents l
  front l low high = record {
    no_other = λ which section six eight is.
        none_of_section (place_of which old.header) from 18 l old.header.geometry section (other_of_front which section six eight) low high
        (subst (λ (lba : ℕ). IsInSection lba old.header.geometry section l) (sym (may.is_under.in_place which)) is);
    no_extent = λ k extent at start ends. none_of_extent from 18 l extent (none_any (meets_extent (front_of old.header.geometry)) extents k extent free.front_free at) low high start ends;
  }

  free_of : (which : Which) → meets_copy (place_of which old.header) old.header.geometry.sections (end_of_workspace old.header.geometry room).from (end_of_workspace old.header.geometry room).many ≡ false
  free_of Primary = free.primary_free
  free_of Secondary = free.secondary_free

  module _ (new : DiskCopy) (is : moved_copy old like ≡ Some new) where
    pub to : IsMovedTo old like new
    to = moved_to old like new is

    abbrev places : Moved
    places = to.places

    abbrev relaid_copy : DiskCopy
    relaid_copy = relaid old like places

    abbrev own : Geometry
    own = moved_geometry old.header.geometry like.header.geometry places.length

    placed : IsPlaced old like places
    placed = to.is_placed

    eight : length like.header.geometry.sections ≡ 8
    eight = eight_sections like may.is_like

    some : 1 ≤ copy
    some = some_length like.header.geometry

    pub new_can : CanBeCopy relaid_copy
    new_can = relaid_can old like can may.is_like places placed (omega (arith, free.ends, may.is_size))

    relaid_room : (which : Which) → room_fault (size - 1) (place_of which relaid_copy.header) (place_of (other_of which) relaid_copy.header) own.sections ≡ None
    relaid_room Primary =
        has_room copy some (size - 1) places.primary places.secondary own.sections
        (record {
          own_ends = omega (arith, placed.primary_is, placed.room, free.ends);
          other_ends = omega (arith, placed.secondary_is, placed.room, free.ends);
          are_apart = inl (omega (arith, placed.primary_is, placed.secondary_is, placed.room));
        })
        (sections_near old.header.geometry like.header.geometry places.length (sound_like old like can may.is_like) eight)
    relaid_room Secondary =
        has_room copy some (size - 1) places.secondary places.primary own.sections
        (record {
          own_ends = omega (arith, placed.secondary_is, placed.room, free.ends);
          other_ends = omega (arith, placed.primary_is, placed.room, free.ends);
          are_apart = inr (omega (arith, placed.primary_is, placed.secondary_is, placed.room));
        })
        (sections_near old.header.geometry like.header.geometry places.length (sound_like old like can may.is_like) eight)

    relaid_in_room : (which : Which) → room_fault (size - 1) (place_of which (anchor_header relaid_copy)) (place_of (other_of which) (anchor_header relaid_copy)) own.sections ≡ None
    relaid_in_room Primary = relaid_room Primary
    relaid_in_room Secondary = relaid_room Secondary

    relaid_gate : (which : Which) → gate_fault size (anchor_header relaid_copy) which (closed_header relaid_copy which) (header_bytes (closed_header relaid_copy which)) ≡ None
    unfolding gate_fault
    relaid_gate which = rw (anchor_shares relaid_copy which new_can can.header_can.rest_size, relaid_in_room which) refl

    relaid_in_place : (which : Which) → place_of which relaid_copy.header ≡ place_of which (anchor_header relaid_copy)
    relaid_in_place Primary = refl
    relaid_in_place Secondary = refl

    relaid_under : IsUnder size (anchor_header relaid_copy) relaid_copy
    relaid_under = record { is_copy = new_can; in_place = relaid_in_place; has_gate = relaid_gate }

    pub under : IsUnder size (anchor_header new) new
    under = subst (λ (one : DiskCopy). IsUnder size (anchor_header one) one) to.is_made relaid_under

    -- each of its sectors is one of the last ones of the workspace
    relaid_at : (which : Which) (l : ℕ) → IsOfCopy (place_of which relaid_copy.header) own l → (from + many - 2 * copy ≤ l) × (l < from + many)
    relaid_at Primary l of_copy =
        let within = copy_within old.header.geometry like.header.geometry places.length (sound_like old like can may.is_like) eight places.primary l of_copy in
        (omega (arith, within.0, placed.primary_is, placed.room), omega (arith, within.1, placed.primary_is, placed.room))
    relaid_at Secondary l of_copy =
        let within = copy_within old.header.geometry like.header.geometry places.length (sound_like old like can may.is_like) eight places.secondary l of_copy in
        (omega (arith, within.0, placed.secondary_is, placed.room), omega (arith, within.1, placed.secondary_is, placed.room))

    pub at_end : (which : Which) (l : ℕ) → IsOfCopy (place_of which new.header) new.header.geometry l → (from + many - 2 * room ≤ l) × (l < from + many)
    at_end which l of_copy =
        let there = relaid_at which l (subst (λ (one : DiskCopy). IsOfCopy (place_of which one.header) one.header.geometry l) (sym to.is_made) of_copy) in
        (omega (arith, there.0, may.has_room), there.1)

    pub within : (which : Which) (l : ℕ) → IsOfCopy (place_of which new.header) new.header.geometry l → (from + 18 ≤ l) × (l < from + many)
    within which l of_copy = let there = at_end which l of_copy in (omega (arith, there.0, free.long), there.1)

    pub apart : (which other : Which) (l : ℕ) → IsOfCopy (place_of which new.header) new.header.geometry l → IsOfCopy (place_of other anchor) old.header.geometry l → ⊥
    apart which other l of_new of_old =
        let there = at_end which l of_new in
        let here : IsOfCopy (place_of other old.header) old.header.geometry l = subst (λ (lba : ℕ). IsOfCopy lba old.header.geometry l) (sym (may.is_under.in_place other)) of_old in
        none_met old can (place_of other old.header) (from + many - 2 * room) (2 * room) l (free_of other) there.0 (omega (arith, there.1, free.long)) here

    pub no_section : (which other : Which) (l : ℕ) → IsOfCopy (place_of which new.header) new.header.geometry l → (section : ℕ) → section < 8
        → IsInSection (place_of other anchor) old.header.geometry section l → ⊥
    no_section which other l of_new section lt is =
        let there = at_end which l of_new in
        let here : IsInSection (place_of other old.header) old.header.geometry section l = subst (λ (lba : ℕ). IsInSection lba old.header.geometry section l) (sym (may.is_under.in_place other)) is in
        none_in old can (place_of other old.header) (from + many - 2 * room) (2 * room) l (free_of other) there.0 (omega (arith, there.1, free.long)) section lt here

    pub no_extent : (which : Which) (l : ℕ) → IsOfCopy (place_of which new.header) new.header.geometry l → (k : ℕ) (extent : Extent) → slice_get extents k ≡ Some extent
        → extent.start ≤ l → l < extent.start + extent.blocks → ⊥
    no_extent which l of_new k extent at start ends =
        let there = at_end which l of_new in
        none_of_extent (from + many - 2 * room) (2 * room) l extent (none_any (meets_extent (end_of_workspace old.header.geometry room)) extents k extent free.extents_free at)
        there.0 (omega (arith, there.1, free.long)) start ends

pub made_workspace : (old like new : DiskCopy) → moved_copy old like ≡ Some new → new.header.geometry.workspace_lba ≡ old.header.geometry.workspace_lba
made_workspace old like new is = let to = moved_to old like new is in ap (λ (one : DiskCopy). one.header.geometry.workspace_lba) (sym to.is_made)
