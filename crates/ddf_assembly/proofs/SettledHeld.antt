-- The newest copies of an assembled group are those that its slots hold.
use Rattle.std.proofs.Common.{◌≡◌, ℕ, zero, suc, ◌+◌, Bool, true, false, List, [], ◌∷◌, map, Option, Some, Result, Ok, Err, refl, sym, ap, ◌∙◌, subst, ⊎_elim, arith, zero-add}
use Rattle.std.specs.Prelude.{slice_get}
use Rattle.ddf_header.specs.declared.reading.Header.{Header}
use Rattle.ddf_bay.specs.State.{BayState, size_of}
use Rattle.ddf_copy.specs.declared.fault.AnchorFault.{AnchorFault}
use Rattle.ddf_copy.specs.declared.newest_copy.Newest.{Newest}
use Rattle.ddf_copy.specs.Anchor.{anchor_at}
use Rattle.ddf_copy.specs.Copies.{newest_under}
use Rattle.ddf_group.specs.declared.answer.Assembled.{Assembled}
use Rattle.ddf_group.specs.declared.answer.Assembly.{Assembly}
use Rattle.ddf_group.specs.Assembled.{assembled}
use Rattle.ddf_group.specs.Shown.{shown_of}
use Rattle.ddf_seats.specs.Group.{GroupValue}
use Rattle.ddf_assembly.specs.Group.{group_as, group_of, group_or_fault}
use Rattle.ddf_assembly.specs.Held.{IsHeldOn}
use Rattle.ddf_assembly.specs.Slots.{IsAssembled, newest_from, newest_or}

-- ---- what is read

-- A newest copy stands under an anchor.
pub held_under : {D : Type 0} (disks : BayState D) (slot : ℕ) (newest : Newest) (anchored : Result Header AnchorFault)
    → anchor_at (size_of disks slot) (disks.held slot) ≡ anchored → newest_under (size_of disks slot) (disks.held slot) anchored ≡ Some newest → IsHeldOn disks slot newest
held_under disks slot newest (Ok anchor) is h = record { anchor = anchor; is_anchored = is; is_newest = cc }
held_under disks slot newest (Err fault) is h = absurd cc

-- A slot that isn't left out holds what is read of it.
pub held_or : {D : Type 0} (disks : BayState D) (slot : ℕ) (out : Bool) (newest : Newest) → newest_or disks slot out ≡ Some newest → IsHeldOn disks slot newest
held_or disks slot true newest h = absurd cc
held_or disks slot false newest h = held_under disks slot newest (anchor_at (size_of disks slot) (disks.held slot)) refl h

-- So does each of several slots.
pub held_from : {D : Type 0} (disks : BayState D) (first : ℕ) (left : List Bool) (place : ℕ) (newest : Newest)
    → slice_get (newest_from disks first left) place ≡ Some (Some newest) → IsHeldOn disks (first + place) newest
held_from disks first [] place newest h = absurd cc
held_from disks first (out ∷ left) zero newest h =
    let here : first ≡ first + 0 = omega arith in
    let is : newest_or disks first out ≡ Some newest = cc in
    subst (λ (slot : ℕ). IsHeldOn disks slot newest) here (held_or disks first out newest is)
held_from disks first (out ∷ left) (suc place) newest h =
    let there : suc first + place ≡ first + suc place = omega arith in
    subst (λ (slot : ℕ). IsHeldOn disks slot newest) there (held_from disks (suc first) left place newest h)

-- ---- the group

-- What is found keeps the newest copies that it is made of.
newest_found : (newest : List (Option Newest)) (found : Result Assembled Assembly) (group : GroupValue) → group_or_fault newest found ≡ Ok group → group.newest ≡ newest
newest_found newest (Ok found) group h = let same : group_as newest found ≡ group = cc in sym (ap (λ (one : GroupValue). one.newest) same)
newest_found newest (Err fault) group h = absurd cc

-- So does a group.
pub newest_kept : (newest : List (Option Newest)) (named : Option (List ℕ)) (group : GroupValue) → group_of newest named ≡ Ok group → group.newest ≡ newest
unfolding group_of
newest_kept newest named group h = newest_found newest (assembled (map shown_of newest) named) group h

-- What is answered at Ok is what the newest copies give.
pub is_group : {D : Type 0} (tells : Type 0) (old new : BayState D) (named : Option (List ℕ)) (group : GroupValue)
    → (is : IsAssembled tells old new named (Ok group)) → group_of is.newest named ≡ Ok group
is_group tells old new named group is = ⊎_elim (λ same. sym same) (λ none. absurd cc) is.answer

-- Each newest copy of an assembled group is held by its slot, under its anchor.
pub are_held : {D : Type 0} (tells : Type 0) (old new : BayState D) (named : Option (List ℕ)) (group : GroupValue) → IsAssembled tells old new named (Ok group) → tells
    → (slot : ℕ) (newest : Newest) → slice_get group.newest slot ≡ Some (Some newest) → IsHeldOn old slot newest
are_held tells old new named group is told slot newest at =
    let same : group.newest ≡ newest_from old 0 is.looked.left = newest_kept is.newest named group (is_group tells old new named group is) ∙ is.read told in
    let read : slice_get (newest_from old 0 is.looked.left) slot ≡ Some (Some newest) = sym (ap (λ (all : List (Option Newest)). slice_get all slot) same) ∙ at in
    subst (λ (at_slot : ℕ). IsHeldOn old at_slot newest) (zero-add slot) (held_from old 0 is.looked.left slot newest read)
