-- What a slot shows while its copies move to other places, and to another group.
use Rattle.std.proofs.Common.{◌≡◌, ◌⊎◌, ℕ, ◌-◌, List, [], ◌∷◌, length, Ok, Some, refl, sym, ◌∙◌, ap, inl, inr, ⊎_elim, arith}
use Rattle.ddf_bay.specs.State.{BayState, size_of}
use Rattle.ddf_bay.specs.Sectors.{Image, IsLeft}
use Rattle.ddf_bay.specs.Moments.{IsSettled, StopsLeave}
use Rattle.ddf_bay.proofs.Steps.{stops_weaken}
use Rattle.ddf_header.specs.declared.geometry.Geometry.{Geometry}
use Rattle.ddf_header.specs.declared.reading.Header.{Header}
use Rattle.ddf_header.specs.Geometry.{section_of}
use Rattle.ddf_copy.specs.declared.copy.DiskCopy.{DiskCopy}
use Rattle.ddf_copy.specs.declared.raw.Raw.{Raw}
use Rattle.ddf_copy.specs.declared.which.Which.{Which}
use Rattle.ddf_copy.specs.declared.which.Which.TheVariants.{Primary, Secondary}
use Rattle.ddf_copy.specs.Anchor.{anchor_at}
use Rattle.ddf_copy.specs.Copies.{copy_of, newest_of}
use Rattle.ddf_copy.specs.Headers.{anchor_header}
use Rattle.ddf_copy.specs.Runs.{AreApart, HasCopy, IsInCopy, IsInParts, RunsCover, log_run, parts_of, runs_at}
use Rattle.ddf_copy.specs.Sections.{HasSizes}
use Rattle.ddf_copy.specs.Which.{other_of, place_of}
use Rattle.ddf_copy.proofs.Newests.{newest_same}
use Rattle.ddf_copy.proofs.Stands.{place_within, same_copy}
use Rattle.ddf_update.specs.declared.gate.Gate.{Gate}
use Rattle.ddf_update.specs.declared.prepared.Mode.TheVariants.{Move}
use Rattle.ddf_update.specs.declared.prepared.Prepared.{Prepared}
use Rattle.ddf_update.specs.Gate.{AreBothApart, IsFounding, IsFoundingWritten, IsLeftFounding, StopsLeaveSince}
use Rattle.ddf_update.specs.Prepared.{IsGateOf, IsPrepared}
use Rattle.ddf_update.specs.Update.{AreBoth, IsInEither, IsMoved, IsMovedOrNot, IsMoving, IsOfCopy, MayMove}
use Rattle.ddf_update.proofs.Changing.{are_apart, both_are_apart, both_stand, not_last, same_anchor}
use Rattle.ddf_update.proofs.FoundingShows.{anchor_stands, since_weaken}
use Rattle.ddf_update.proofs.AdoptingShows.{IsShared, shared_of, under_is}

-- the runs of a copy lie in the parts that are read
run_in_parts : (geometry : Geometry) (raw : Raw) → HasSizes geometry raw → (lba l : ℕ) → RunsCover lba (runs_at geometry raw) l → IsInParts lba (parts_of geometry) l
run_in_parts geometry raw sizes lba l in_runs = ⊎_elim
    (λ here. inl (here.0, omega (arith, here.1)))
    (λ behind. ⊎_elim
    (λ here. inr (inl (here.0, omega (arith, here.1, sizes.disks_size))))
    (λ behind. ⊎_elim
    (λ here. inr (inr (inl (here.0, omega (arith, here.1, sizes.arrays_size)))))
    (λ behind. ⊎_elim
    (λ here. inr (inr (inr (inl (here.0, omega (arith, here.1, sizes.records_size))))))
    (λ behind. ⊎_elim
    (λ here. inr (inr (inr (inr (inl (here.0, omega (arith, here.1)))))))
    (λ behind. inr (inr (inr (inr (inr (log_run_in raw.bad_blocks sizes.bad_blocks_size behind))))))
    behind)
    behind)
    behind)
    behind)
    in_runs
  where
    log_run_in : (sectors : List (List ℕ)) → length sectors ≡ (section_of geometry 5).length → RunsCover lba (log_run (section_of geometry 5) sectors) l → IsInParts lba (section_of geometry 5 ∷ []) l
    log_run_in [] size behind = absurd behind
    log_run_in (sector ∷ sectors) size behind = ⊎_elim (λ here. inl (here.0, omega (arith, size, here.1))) (λ none. absurd none) behind

module _ {D : Type 0} (disks : BayState D) (slot : ℕ) (anchor : Header) (last : Which) (old new : DiskCopy) (prepared : Prepared)
    (is : IsPrepared new last Move prepared) (can : MayMove disks slot anchor last old new) where
  abbrev size : ℕ
  size = size_of disks slot

  abbrev own : Header
  own = anchor_header new

  abbrev before : ℕ → List ℕ
  before = disks.held slot

  old_shares : IsShared before anchor last old
  old_shares = shared_of size before anchor last old can.last_is

  -- the sections, the copies and the last sector lie apart
  pub moving_apart : AreApart prepared.runs × AreBothApart prepared.first prepared.second prepared.runs
      × (IsInCopy prepared.first.lba prepared.runs (size - 1) → ⊥) × (IsInCopy prepared.second.lba prepared.runs (size - 1) → ⊥)
  moving_apart = (
    are_apart size own new prepared.runs can.is_under is.runs_are,
    both_are_apart size own new prepared.runs can.is_under is.runs_are Primary prepared.first prepared.second is.first_is is.second_is,
    not_last size own new prepared.runs can.is_under is.runs_are Primary prepared.first is.first_is,
    not_last size own new prepared.runs can.is_under is.runs_are Secondary prepared.second is.second_is,
  )

  -- a sector of a new copy is none of the former ones
  not_old : (which : Which) (gate : Gate) → IsGateOf new which gate → (other : Which) (l : ℕ) → IsInCopy gate.lba prepared.runs l → IsOfCopy (place_of other anchor) old.header.geometry l → ⊥
  not_old which gate gate_is other l in_copy in_old = can.lies_apart which other l
      (⊎_elim (λ at. inl (at ∙ gate_is.lba_is)) (λ in_runs. inr (run_in_parts new.header.geometry is.runs_are.raw is.runs_are.has_sizes (place_of which new.header) l (rw (gate_is.lba_is, is.runs_are.are_runs) at in_runs))) in_copy)
      in_old

  abbrev IsOutside : (now : ℕ → List ℕ) → Type 0
  IsOutside now = (l : ℕ) → (now l ≡ before l) ⊎ IsInCopy prepared.first.lba prepared.runs l ⊎ IsInCopy prepared.second.lba prepared.runs l ⊎ (l ≡ size - 1)

  -- The sectors of the former copies stay while the last one does.
  old_kept : (now : ℕ → List ℕ) → IsOutside now → now (size - 1) ≡ before (size - 1) → (which : Which) (l : ℕ) → IsOfCopy (place_of which anchor) old.header.geometry l → now l ≡ before l
  old_kept now outside same which l in_old = ⊎_elim
      (λ kept. kept)
      (λ there. ⊎_elim
      (λ first. absurd (not_old Primary prepared.first is.first_is which l first in_old))
      (λ behind. ⊎_elim
      (λ second. absurd (not_old Secondary prepared.second is.second_is which l second in_old))
      (λ at. ap now at ∙ same ∙ sym (ap before at))
      behind)
      there)
      (outside l)

  -- a former copy is read as before
  kept : (now : ℕ → List ℕ) → IsOutside now → now (size - 1) ≡ before (size - 1) → (which : Which) → copy_of size now anchor which ≡ copy_of size before anchor which
  kept now outside same which = same_copy size now before anchor which (before (place_of last anchor)) old_shares.shared
      (old_kept now outside same which (place_of which anchor) (inl refl))
      (λ l in_parts. old_kept now outside same which l (inr (rw old_shares.geometry in_parts)))

  newest_kept : (now : ℕ → List ℕ) → IsOutside now → now (size - 1) ≡ before (size - 1) → newest_of size now anchor ≡ newest_of size before anchor
  newest_kept now outside same = newest_same size now before anchor last (kept now outside same last) (kept now outside same (other_of last))

  anchored : (now : ℕ → List ℕ) → now (size - 1) ≡ prepared.anchor → anchor_at size now ≡ Ok own
  anchored now here =
      let below = place_within size own new Primary can.is_under in
      anchor_stands size now own prepared.anchor (omega (arith, below)) is.anchor_is here

  both : (now : ℕ → List ℕ) → now (size - 1) ≡ prepared.anchor → HasCopy now prepared.first.lba prepared.first.closed prepared.runs → HasCopy now prepared.second.lba prepared.second.closed prepared.runs
      → AreBoth size now own new
  both now here one other = both_stand size own new prepared.runs can.is_under is.runs_are Primary prepared.first prepared.second is.first_is is.second_is now (anchored now here) one other

  outside_either : (now : ℕ → List ℕ) → IsOutside now → (l : ℕ) → (now l ≡ before l) ⊎ IsInEither prepared l ⊎ (l ≡ size - 1)
  outside_either now outside l =
      ⊎_elim inl (λ there. ⊎_elim (λ first. inr (inl (inl first))) (λ behind. ⊎_elim (λ second. inr (inl (inr second))) (λ at. inr (inr at)) behind) there) (outside l)

  moving_here : (now : ℕ → List ℕ) → IsFounding before prepared.first prepared.second prepared.runs (size - 1) prepared.anchor now → IsMoving size before now prepared new
  moving_here now founding = elim founding.anchored [
    | inl same ↦
        let here = same_anchor size now before same ∙ can.is_anchored in
        let reads = newest_kept now founding.outside same in
        record {
          reads = inl (here ∙ sym can.is_anchored, under_is size now anchor here ∙ ap Some reads ∙ sym (under_is size before anchor can.is_anchored));
          outside = outside_either now founding.outside;
        }
    | inr stands ↦ record { reads = inr (both now stands.0 stands.1 stands.2); outside = outside_either now founding.outside }
  ]

  pub moving : (image : Image) → IsLeftFounding disks.may_hold disks.held slot prepared.first prepared.second prepared.runs (size - 1) prepared.anchor image → IsMovedOrNot disks slot prepared new image
  moving image left = record { here = moving_here (image slot) left.here; other_slots = left.other_slots }

  pub moved : (after : BayState D) → IsFoundingWritten disks after slot prepared.first prepared.second prepared.runs (size - 1) prepared.anchor → IsMoved disks after slot prepared new
  moved after was = record {
    are_both = both (after.held slot) was.anchor_is was.first_is was.second_is;
    is_settled = was.durable;
    since = since_weaken moving was.since;
    outside = outside_either (after.held slot) was.outside;
    other_slots = was.other_slots;
    others_left = was.left;
  }

  -- Where nothing is pending, a stop leaves no other than that from the start on.
  still_former : IsSettled disks.may_hold disks.held slot → (image : Image) → IsLeft disks.may_hold image → IsMovedOrNot disks slot prepared new image
  still_former settled image left = moving image (record {
    other_slots = λ s l differs. left s l;
    here = record {
      outside = λ l. inl (settled l (image slot l) (left slot l));
      anchored = inl (settled (size - 1) (image slot (size - 1)) (left slot (size - 1)));
    };
  })

  pub moving_stops : (after : BayState D) → IsSettled disks.may_hold disks.held slot
      → StopsLeave disks after (IsLeft disks.may_hold) ⊎ StopsLeaveSince disks after (IsMovedOrNot disks slot prepared new)
      → StopsLeave disks after (IsMovedOrNot disks slot prepared new)
  moving_stops after settled leaves = ⊎_elim
      (λ none. stops_weaken none (still_former settled))
      (λ since. stops_weaken since.any_moment (λ image either. ⊎_elim (still_former settled image) (λ now. now) either))
      leaves
