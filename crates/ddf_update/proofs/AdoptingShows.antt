-- What a slot shows while it is adopted by another group.
use Rattle.std.proofs.Common.{◌≡◌, ◌≢◌, ◌⊎◌, ℕ, ◌-◌, ◌<◌, List, Ok, Err, Some, None, refl, sym, ◌∙◌, ap, inl, inr, ⊎_elim, arith, subst}
use Rattle.ddf_bytes.specs.Bytes.{bytes_at}
use Rattle.ddf_bay.specs.State.{BayState, size_of}
use Rattle.ddf_bay.specs.Sectors.{Image, IsLeft}
use Rattle.ddf_bay.specs.Moments.{IsSettled, StopsLeave}
use Rattle.ddf_bay.proofs.Steps.{stops_weaken}
use Rattle.ddf_header.specs.declared.reading.Header.{Header}
use Rattle.ddf_header.specs.declared.layout.TheConstants.{GUID_AT}
use Rattle.ddf_header.specs.Geometry.{geometry_at}
use Rattle.ddf_copy.specs.declared.copy.DiskCopy.{DiskCopy}
use Rattle.ddf_copy.specs.declared.fault.CopyFault.{CopyFault}
use Rattle.ddf_copy.specs.declared.fault.CopyFault.TheVariants as faults
use Rattle.ddf_copy.specs.declared.newest_copy.Newest.TheVariants as newests
use Rattle.ddf_copy.specs.declared.which.Which.{Which}
use Rattle.ddf_copy.specs.declared.which.Which.TheVariants.{Primary, Secondary}
use Rattle.ddf_copy.specs.Anchor.{anchor_at}
use Rattle.ddf_copy.specs.Copies.{copy_of, newest_at, newest_of}
use Rattle.ddf_copy.specs.Gate.{first_difference, header_bytes}
use Rattle.ddf_copy.specs.Headers.{anchor_header, written_as}
use Rattle.ddf_copy.specs.Runs.{AreApart, HasCopy, IsInCopy}
use Rattle.ddf_copy.specs.Shows.{IsNewest}
use Rattle.ddf_copy.specs.Which.{other_of, place_of}
use Rattle.ddf_copy.proofs.Gates.{found_is}
use Rattle.ddf_copy.proofs.Laid.{part_in_runs}
use Rattle.ddf_copy.proofs.LevelCopies.{same_start, written_same}
use Rattle.ddf_copy.proofs.Newests.{newest_of_one, newest_same}
use Rattle.ddf_copy.proofs.Shared.{shared_guid}
use Rattle.ddf_copy.proofs.Stands.{open_copy, place_within, same_copy}
use Rattle.ddf_update.specs.declared.gate.Gate.{Gate}
use Rattle.ddf_update.specs.declared.prepared.Mode.TheVariants.{Adopt}
use Rattle.ddf_update.specs.declared.prepared.Prepared.{Prepared}
use Rattle.ddf_update.specs.Gate.{AreBothApart, IsPartly, IsUntouched, StopsLeaveSince}
use Rattle.ddf_update.specs.Prepared.{IsGateOf, IsPrepared}
use Rattle.ddf_update.specs.Update.{AreBoth, IsAdopted, IsAdopting, IsFormerOrNew, IsInEither, MayAdopt}
use Rattle.ddf_update.specs.Adopting.{IsAdoptionWritten, IsLeftTakingOver, IsTakingOver}
use Rattle.ddf_update.proofs.Changing.{are_apart, both_are_apart, both_stand, new_copy_stands, not_last, open_is_not_whole, other_other, same_anchor}
use Rattle.ddf_update.proofs.FoundingShows.{anchor_stands, since_weaken}
use Rattle.ddf_copy.proofs.LastCopies.{header_is, one_group, ok_or}
use Rattle.ddf_copy.proofs.Places.{alike}

-- ---- a header under an anchor

-- The header of a copy that is read has what the anchor has.
pub record IsShared (sector : ℕ → List ℕ) (anchor : Header) (which : Which) (copy : DiskCopy) : Type 0 where
  pub shared : first_difference (header_bytes anchor) (sector (place_of which anchor)) ≡ None
  pub guid : copy.header.guid ≡ bytes_at (sector (place_of which anchor)) GUID_AT 24
  pub geometry : copy.header.geometry ≡ geometry_at (sector (place_of which anchor))

pub shared_of : (size : ℕ) (sector : ℕ → List ℕ) (anchor : Header) (which : Which) (copy : DiskCopy) → copy_of size sector anchor which ≡ Ok copy → IsShared sector anchor which copy
shared_of size sector anchor which copy is =
    let found = found_is size sector anchor which copy.header (header_is size sector anchor which copy is) in
    record { shared = found.is_gate.is_shared; guid = found.guid_is; geometry = found.geometry_is }

-- Two copies under one anchor are of one group, and have the same sections.
pub one_kind : (size : ℕ) (sector : ℕ → List ℕ) (anchor : Header) (one other : Which) (first second : DiskCopy) → copy_of size sector anchor one ≡ Ok first → copy_of size sector anchor other ≡ Ok second
    → (first.header.guid ≡ second.header.guid) × (first.header.geometry ≡ second.header.geometry)
one_kind size sector anchor one other first second is also =
    (one_group size sector anchor one other first second is also, (alike size anchor sector sector one other first second is also).same_sections)

-- No copy stands under the anchor of another group.
not_read : (size : ℕ) (sector : ℕ → List ℕ) (anchor : Header) (which : Which) (reference : List ℕ) → first_difference (header_bytes anchor) reference ≡ None
    → bytes_at reference GUID_AT 24 ≢ bytes_at (sector (place_of which anchor)) GUID_AT 24 → (fault : CopyFault) × (copy_of size sector anchor which ≡ Err fault)
not_read size sector anchor which reference shared differs = ⊎_elim
    (λ read.
    let own = shared_of size sector anchor which read.0 read.1 in
    absurd (differs (shared_guid (header_bytes anchor) reference (sector (place_of which anchor)) (record { one_is = shared; other_is = own.shared }))))
    (λ fault. fault)
    (ok_or (copy_of size sector anchor which))

pub under_is : (size : ℕ) (sector : ℕ → List ℕ) (anchor : Header) → anchor_at size sector ≡ Ok anchor → newest_at size sector ≡ Some (newest_of size sector anchor)
under_is size sector anchor anchored = rw anchored refl

-- ---- an adoption

module _ {D : Type 0} (disks : BayState D) (slot : ℕ) (anchor : Header) (last : Which) (old new : DiskCopy) (prepared : Prepared)
    (is : IsPrepared new last Adopt prepared) (can : MayAdopt disks slot anchor last old new) where
  abbrev size : ℕ
  size = size_of disks slot

  abbrev own : Header
  own = anchor_header new

  abbrev before : ℕ → List ℕ
  before = disks.held slot

  second_is : IsGateOf new last prepared.second
  second_is = rw (other_other last) at is.second_is

  own_place : (which : Which) → place_of which own ≡ place_of which anchor
  own_place Primary = can.same_places Primary
  own_place Secondary = can.same_places Secondary

  within : (which : Which) → place_of which anchor < size
  within which = rw (← own_place which) (place_within size own new which can.is_under)

  old_shares : IsShared before anchor last old
  old_shares = shared_of size before anchor last old can.last_is

  -- the sections, the copies and the last sector lie apart
  pub adopting_apart : AreApart prepared.runs × AreBothApart prepared.first prepared.second prepared.runs
      × (IsInCopy prepared.first.lba prepared.runs (size - 1) → ⊥) × (IsInCopy prepared.second.lba prepared.runs (size - 1) → ⊥)
  adopting_apart = (
    are_apart size own new prepared.runs can.is_under is.runs_are,
    both_are_apart size own new prepared.runs can.is_under is.runs_are (other_of last) prepared.first prepared.second is.first_is is.second_is,
    not_last size own new prepared.runs can.is_under is.runs_are (other_of last) prepared.first is.first_is,
    not_last size own new prepared.runs can.is_under is.runs_are last prepared.second second_is,
  )

  -- a copy whose sectors stay is read as before
  kept : (which : Which) (gate : Gate) → IsGateOf new which gate → (now : ℕ → List ℕ) → IsUntouched before now gate.lba prepared.runs → copy_of size now anchor which ≡ copy_of size before anchor which
  kept which gate gate_is now same =
      let lba = gate_is.lba_is ∙ can.same_places which in
      let geometry : geometry_at (before (place_of last anchor)) ≡ new.header.geometry = sym old_shares.geometry ∙ sym can.same_sections in
      same_copy size now before anchor which (before (place_of last anchor)) old_shares.shared
      (rw lba at (same gate.lba (inl refl)))
      (λ l in_parts. same l (inr (rw (lba, is.runs_are.are_runs) (part_in_runs new.header.geometry is.runs_are.raw is.runs_are.has_sizes (place_of which anchor) l (rw geometry at in_parts)))))

  -- the new copy, under its own anchor
  stands : (which : Which) (gate : Gate) → IsGateOf new which gate → (now : ℕ → List ℕ) → HasCopy now gate.lba gate.closed prepared.runs → copy_of size now own which ≡ Ok (written_as new which)
  stands which gate gate_is now has = new_copy_stands size own new prepared.runs can.is_under is.runs_are which gate gate_is now has

  -- and under the former group's
  not_former : (now : ℕ → List ℕ) → now (place_of last anchor) ≡ before (place_of last anchor) → HasCopy now prepared.first.lba prepared.first.closed prepared.runs
      → (fault : CopyFault) × (copy_of size now anchor (other_of last) ≡ Err fault)
  not_former now same has =
      let reads = shared_of size now own (other_of last) (written_as new (other_of last)) (stands (other_of last) prepared.first is.first_is now has) in
      let guid : new.header.guid ≡ bytes_at (now (place_of (other_of last) anchor)) GUID_AT 24 = rw (own_place (other_of last)) at reads.guid in
      not_read size now anchor (other_of last) (before (place_of last anchor)) old_shares.shared
      (λ equal. can.other_group (guid ∙ sym equal ∙ sym old_shares.guid))

  -- the former group's copy under the new anchor
  not_new : (now : ℕ → List ℕ) → now (place_of last anchor) ≡ before (place_of last anchor) → HasCopy now prepared.first.lba prepared.first.closed prepared.runs
      → (fault : CopyFault) × (copy_of size now own last ≡ Err fault)
  not_new now same has =
      let reads = shared_of size now own (other_of last) (written_as new (other_of last)) (stands (other_of last) prepared.first is.first_is now has) in
      let former : old.header.guid ≡ bytes_at (now (place_of last own)) GUID_AT 24 = rw (own_place last, same) old_shares.guid in
      not_read size now own last (now (place_of (other_of last) own)) reads.shared
      (λ equal. can.other_group (reads.guid ∙ equal ∙ sym former))

  header_same : (now : ℕ → List ℕ) → IsUntouched before now prepared.second.lba prepared.runs → now (place_of last anchor) ≡ before (place_of last anchor)
  header_same now same = rw (second_is.lba_is ∙ can.same_places last) at (same prepared.second.lba (inl refl))

  -- before the anchor is written
  former : (now : ℕ → List ℕ) → IsPartly before now prepared.first prepared.runs → IsUntouched before now prepared.second.lba prepared.runs
      → (newest_of size now anchor ≡ newest_of size before anchor) ⊎ (newest_of size now anchor ≡ newests.One last old)
  former now partly same =
      let last_kept = kept last prepared.second second_is now same in
      let last_is = last_kept ∙ can.last_is in
      elim partly [
        | inl untouched ↦ inl (newest_same size now before anchor last last_kept (kept (other_of last) prepared.first is.first_is now untouched))
        | inr begun ↦ elim begun [
          | inl opened ↦
              let lba = is.first_is.lba_is ∙ can.same_places (other_of last) in
              let fault = open_copy size now anchor (other_of last) new prepared.first.opened is.first_is.opened_is (rw lba at opened) (within (other_of last)) in
              inr (newest_of_one size now anchor last old (faults.Opened new.header.sequence) last_is fault)
          | inr has ↦
              let fault = not_former now (header_same now same) has in
              inr (newest_of_one size now anchor last old fault.0 last_is fault.1)
        ]
      ]

  anchored : (now : ℕ → List ℕ) → now (size - 1) ≡ prepared.anchor → anchor_at size now ≡ Ok own
  anchored now here =
      let below = place_within size own new Primary can.is_under in
      anchor_stands size now own prepared.anchor (omega (arith, below)) is.anchor_is here

  both : (now : ℕ → List ℕ) → now (size - 1) ≡ prepared.anchor → HasCopy now prepared.first.lba prepared.first.closed prepared.runs → HasCopy now prepared.second.lba prepared.second.closed prepared.runs
      → AreBoth size now own new
  both now here one other = both_stand size own new prepared.runs can.is_under is.runs_are (other_of last) prepared.first prepared.second is.first_is is.second_is now (anchored now here) one other

  -- and behind that
  renewed : (now : ℕ → List ℕ) → now (size - 1) ≡ prepared.anchor → HasCopy now prepared.first.lba prepared.first.closed prepared.runs → IsPartly before now prepared.second prepared.runs
      → (newest_of size now own ≡ newests.One (other_of last) (written_as new (other_of last))) ⊎ (newest_of size now own ≡ newests.Level (written_as new Primary))
  renewed now here has partly =
      let first_ok = stands (other_of last) prepared.first is.first_is now has in
      let alone = λ (fault : CopyFault) (gone : copy_of size now own last ≡ Err fault). newest_of_one size now own (other_of last) (written_as new (other_of last)) fault first_ok (rw (other_other last) gone) in
      elim partly [
        | inl untouched ↦ let gone = not_new now (header_same now untouched) has in inl (alone gone.0 gone.1)
        | inr begun ↦ elim begun [
          | inl opened ↦ inl (alone (faults.Opened new.header.sequence) (open_is_not_whole size own new prepared.runs can.is_under is.runs_are last prepared.second second_is now opened))
          | inr stood ↦ inr (both now here has stood).are_level
        ]
      ]

  outside_either : (now : ℕ → List ℕ) → ((l : ℕ) → (now l ≡ before l) ⊎ IsInCopy prepared.first.lba prepared.runs l ⊎ IsInCopy prepared.second.lba prepared.runs l ⊎ (l ≡ size - 1))
      → (l : ℕ) → (now l ≡ before l) ⊎ IsInEither prepared l ⊎ (l ≡ size - 1)
  outside_either now outside l =
      ⊎_elim inl (λ there. ⊎_elim (λ first. inr (inl (inl first))) (λ behind. ⊎_elim (λ second. inr (inl (inr second))) (λ at. inr (inr at)) behind) there) (outside l)

  adopting_here : (now : ℕ → List ℕ) → IsTakingOver before prepared.first prepared.second prepared.runs (size - 1) prepared.anchor now → IsAdopting size before now prepared last old new
  adopting_here now taking = elim taking.turns [
    | inl turn ↦
        let here = same_anchor size now before turn.2 ∙ can.is_anchored in
        let reads = former now turn.0 turn.1 in
        record {
          shows = inl (record {
            anchor = anchor;
            is_anchored = here;
            is_newest = ⊎_elim
                (λ same. subst (λ newest. IsNewest newest old) (sym same) can.is_newest)
                (λ one. subst (λ newest. IsNewest newest old) (sym one) (same_start old))
                reads;
          });
          newest = ⊎_elim
              (λ same. inl (under_is size now anchor here ∙ ap Some same ∙ sym (under_is size before anchor can.is_anchored)))
              (λ one. inr (inl (under_is size now anchor here ∙ ap Some one)))
              reads;
          anchored = inl (here ∙ sym can.is_anchored);
          outside = outside_either now taking.outside;
        }
    | inr turn ↦
        let here = anchored now turn.1 in
        let reads = renewed now turn.1 turn.0 turn.2 in
        record {
          shows = inr (record {
            anchor = own;
            is_anchored = here;
            is_newest = ⊎_elim
                (λ one. subst (λ newest. IsNewest newest new) (sym one) (written_same new (other_of last)))
                (λ level. subst (λ newest. IsNewest newest new) (sym level) (written_same new Primary))
                reads;
          });
          newest = ⊎_elim
              (λ one. inr (inr (inl (under_is size now own here ∙ ap Some one))))
              (λ level. inr (inr (inr (under_is size now own here ∙ ap Some level))))
              reads;
          anchored = inr here;
          outside = outside_either now taking.outside;
        }
  ]

  pub adopting : (image : Image) → IsLeftTakingOver disks.may_hold disks.held slot prepared.first prepared.second prepared.runs (size - 1) prepared.anchor image → IsFormerOrNew disks slot prepared last old new image
  adopting image left = record { here = adopting_here (image slot) left.here; other_slots = left.other_slots }

  pub adopted : (after : BayState D) → IsAdoptionWritten disks after slot prepared.first prepared.second prepared.runs (size - 1) prepared.anchor → IsAdopted disks after slot prepared last old new
  adopted after was = record {
    are_both = both (after.held slot) was.made.anchor_is was.made.first_is was.made.second_is;
    is_settled = was.made.durable;
    since = since_weaken adopting was.since;
    outside = outside_either (after.held slot) was.made.outside;
    other_slots = was.made.other_slots;
    others_left = was.made.left;
  }

  -- Where nothing is pending, a stop leaves no other than that from the start on.
  pub still_former : IsSettled disks.may_hold disks.held slot → (image : Image) → IsLeft disks.may_hold image → IsFormerOrNew disks slot prepared last old new image
  still_former settled image left = record {
    here = adopting_here (image slot) (record {
      outside = λ l. inl (settled l (image slot l) (left slot l));
      turns = inl (inl (λ l there. settled l (image slot l) (left slot l)), λ l there. settled l (image slot l) (left slot l), settled (size - 1) (image slot (size - 1)) (left slot (size - 1)));
    });
    other_slots = λ s l differs. left s l;
  }

  pub adopting_stops : (after : BayState D) → IsSettled disks.may_hold disks.held slot
      → StopsLeave disks after (IsLeft disks.may_hold) ⊎ StopsLeaveSince disks after (IsFormerOrNew disks slot prepared last old new)
      → StopsLeave disks after (IsFormerOrNew disks slot prepared last old new)
  adopting_stops after settled leaves = ⊎_elim
      (λ none. stops_weaken none (still_former settled))
      (λ since. stops_weaken since.any_moment (λ image either. ⊎_elim (still_former settled image) (λ now. now) either))
      leaves
