-- What a slot shows while its copies are written.
use Rattle.std.proofs.Common.{◌≡◌, ◌⊎◌, ℕ, ◌-◌, List, Ok, Err, None, true, refl, sym, ◌∙◌, inl, inr, ⊎_elim, arith, subst}
use Rattle.ddf_bay.specs.State.{BayState, size_of}
use Rattle.ddf_bay.specs.Sectors.{Image}
use Rattle.ddf_header.specs.declared.reading.Header.{Header}
use Rattle.ddf_header.specs.Geometry.{geometry_at}
use Rattle.ddf_header.proofs.Encoded.{encoded_again}
use Rattle.ddf_copy.specs.declared.copy.DiskCopy.{DiskCopy}
use Rattle.ddf_copy.specs.declared.fault.CopyFault.TheVariants as faults
use Rattle.ddf_copy.specs.declared.run.Run.{Run}
use Rattle.ddf_copy.specs.declared.which.Which.{Which}
use Rattle.ddf_copy.specs.declared.which.Which.TheVariants.{Primary, Secondary}
use Rattle.ddf_copy.specs.Anchor.{anchor_at}
use Rattle.ddf_copy.specs.Copies.{copy_of, newest_of}
use Rattle.ddf_copy.specs.Gate.{first_difference, header_bytes}
use Rattle.ddf_copy.specs.Headers.{IsUnder, closed_header, written_as}
use Rattle.ddf_copy.specs.Room.{room_fault}
use Rattle.ddf_copy.specs.Runs.{AreApart, AreRunsOf, HasCopy, IsInCopy}
use Rattle.ddf_copy.specs.Shows.{IsNewest}
use Rattle.ddf_copy.specs.Which.{kind_of, other_of, place_of}
use Rattle.ddf_copy.specs.Written.{is_level}
use Rattle.ddf_copy.proofs.Gates.{gate_from, geometry_read}
use Rattle.ddf_copy.proofs.Laid.{AreLaid, copies_apart, copy_below, part_in_runs, runs_apart, runs_laid}
use Rattle.ddf_copy.proofs.LevelCopies.{level_from, level_is, same_start, same_sym, same_then, written_same}
use Rattle.ddf_copy.specs.declared.newest_copy.Newest.TheVariants as newests
use Rattle.ddf_copy.proofs.Newests.{never_differ, newest_of_level, newest_of_one, newest_of_two, newest_same, newest_then}
use Rattle.ddf_copy.proofs.Stands.{copy_stands, open_copy, place_within, same_copy}
use Rattle.ddf_update.specs.declared.gate.Gate.{Gate}
use Rattle.ddf_update.specs.declared.prepared.Prepared.{Prepared}
use Rattle.ddf_update.specs.declared.prepared.Mode.TheVariants.{Change}
use Rattle.ddf_update.specs.Gate.{AreBothApart, AreBothWritten, IsLeftUpdating, IsPartly, IsUntouched, IsUpdating}
use Rattle.ddf_update.specs.Prepared.{IsGateOf, IsPrepared}
use Rattle.ddf_update.specs.Update.{AreBoth, AreReadPartly, IsChanged, IsChanging, IsInEither, IsOldOrNew, IsReadPartly, MayChange}

pub other_other : (which : Which) → other_of (other_of which) ≡ which
other_other Primary = refl
other_other Secondary = refl

level_then : (one other third : DiskCopy) → is_level one other ≡ true → is_level other third ≡ true → is_level one third ≡ true
level_then one other third first second =
    let a = level_from one other first in
    let b = level_from other third second in
    level_is one third (a.0 ∙ b.0) (a.1 ∙ b.1)

-- ---- one copy

module _ (size : ℕ) (anchor : Header) (copy : DiskCopy) (runs : List Run) (under : IsUnder size anchor copy) (are : AreRunsOf copy runs) where
  pub shared_with : (which : Which) (gate : Gate) → IsGateOf copy which gate → first_difference (header_bytes anchor) gate.closed ≡ None
  shared_with which gate is =
      let found = gate_from size anchor which (closed_header copy which) (header_bytes (closed_header copy which)) (under.has_gate which) in
      rw (encoded_again (kind_of which) (closed_header copy which) gate.closed is.closed_is) at found.is_shared

  geometry_of : (which : Which) (gate : Gate) → IsGateOf copy which gate → geometry_at gate.closed ≡ copy.header.geometry
  geometry_of which gate is = geometry_read (kind_of which) gate.closed (closed_header copy which) is.closed_is

  -- a copy whose sectors stay is read as before
  pub untouched_copy : (which : Which) (gate : Gate) → IsGateOf copy which gate → (before now : ℕ → List ℕ) → IsUntouched before now gate.lba runs → copy_of size now anchor which ≡ copy_of size before anchor which
  untouched_copy which gate is before now same =
      let lba = is.lba_is ∙ under.in_place which in
      same_copy size now before anchor which gate.closed (shared_with which gate is)
      (rw lba at (same gate.lba (inl refl)))
      (λ l in_parts. same l (inr (rw (lba, are.are_runs) (part_in_runs copy.header.geometry are.raw are.has_sizes (place_of which anchor) l (rw (geometry_of which gate is) at in_parts)))))

  -- the new copy is read where it stands
  pub new_copy_stands : (which : Which) (gate : Gate) → IsGateOf copy which gate → (now : ℕ → List ℕ) → HasCopy now gate.lba gate.closed runs → copy_of size now anchor which ≡ Ok (written_as copy which)
  new_copy_stands which gate is now has =
      copy_stands size now anchor which copy runs gate.closed under are is.closed_is (subst (λ lba. HasCopy now lba gate.closed runs) (is.lba_is ∙ under.in_place which) has)

  -- a copy whose header is open isn't whole
  pub open_is_not_whole : (which : Which) (gate : Gate) → IsGateOf copy which gate → (now : ℕ → List ℕ) → now gate.lba ≡ gate.opened → copy_of size now anchor which ≡ Err (faults.Opened copy.header.sequence)
  open_is_not_whole which gate is now here =
      let lba = is.lba_is ∙ under.in_place which in
      open_copy size now anchor which copy gate.opened is.opened_is (rw lba at here) (place_within size anchor copy which under)

  room_of : (which : Which) → room_fault (size - 1) (place_of which anchor) (place_of (other_of which) anchor) copy.header.geometry.sections ≡ None
  room_of which = (gate_from size anchor which (closed_header copy which) (header_bytes (closed_header copy which)) (under.has_gate which)).has_room

  laid : AreLaid copy.header.geometry runs
  laid = runs_laid copy runs under.is_copy are

  pub are_apart : AreApart runs
  are_apart = runs_apart copy.header.geometry runs laid

  pub both_are_apart : (which : Which) (first second : Gate) → IsGateOf copy which first → IsGateOf copy (other_of which) second → AreBothApart first second runs
  both_are_apart which first second is also = λ l in_first in_second.
      copies_apart (size - 1) (place_of which anchor) (place_of (other_of which) anchor) copy.header.geometry runs laid (room_of which) l
      (rw (is.lba_is ∙ under.in_place which) at in_first) (rw (also.lba_is ∙ under.in_place (other_of which)) at in_second)

  -- no sector of a copy is the last one
  pub not_last : (which : Which) (gate : Gate) → IsGateOf copy which gate → IsInCopy gate.lba runs (size - 1) → ⊥
  not_last which gate is in_copy =
      let below = copy_below (size - 1) (place_of which anchor) (place_of (other_of which) anchor) copy.header.geometry runs laid (room_of which) (size - 1) (rw (is.lba_is ∙ under.in_place which) at in_copy) in
      absurd (omega (arith, below))

  level : is_level (written_as copy Primary) (written_as copy Secondary) ≡ true
  level = (same_then (written_as copy Primary) copy (written_as copy Secondary) (written_same copy Primary) (same_sym (written_as copy Secondary) copy (written_same copy Secondary))).are_level

  -- both copies are the new one
  pub both_stand : (which : Which) (first second : Gate) → IsGateOf copy which first → IsGateOf copy (other_of which) second → (now : ℕ → List ℕ) → anchor_at size now ≡ Ok anchor
      → HasCopy now first.lba first.closed runs → HasCopy now second.lba second.closed runs → AreBoth size now anchor copy
  both_stand Primary first second is also now anchored one other =
      let p = new_copy_stands Primary first is now one in
      let s = new_copy_stands Secondary second also now other in
      record { is_anchored = anchored; primary_is = p; secondary_is = s; are_level = newest_of_level size now anchor (written_as copy Primary) (written_as copy Secondary) p s level }
  both_stand Secondary first second is also now anchored one other =
      let s = new_copy_stands Secondary first is now one in
      let p = new_copy_stands Primary second also now other in
      record { is_anchored = anchored; primary_is = p; secondary_is = s; are_level = newest_of_level size now anchor (written_as copy Primary) (written_as copy Secondary) p s level }

-- ---- a change

either_is : (size : ℕ) (now : ℕ → List ℕ) (anchor : Header) (which : Which) (old new : DiskCopy) → copy_of size now anchor which ≡ Ok (written_as new which) → copy_of size now anchor (other_of which) ≡ Ok old
    → (new.header.sequence ≡ old.header.sequence → is_level new old ≡ true) → IsNewest (newest_of size now anchor) old ⊎ IsNewest (newest_of size now anchor) new
either_is size now anchor which old new is also newer =
    let written = written_as new which in
    let level = λ (same : new.header.sequence ≡ old.header.sequence). level_then written new old (written_same new which).are_level (newer same) in
    ⊎_elim (λ first. inr (newest_then (newest_of size now anchor) written new (written_same new which) first)) inl (newest_of_two size now anchor which written old is also level)

module _ {D : Type 0} (disks : BayState D) (slot : ℕ) (anchor : Header) (last : Which) (old new : DiskCopy) (runs : List Run) (first second : Gate)
    (can : MayChange disks slot anchor last old new) (are : AreRunsOf new runs) (is : IsGateOf new (other_of last) first) (also : IsGateOf new (other_of (other_of last)) second) where
  abbrev size : ℕ
  size = size_of disks slot

  abbrev held : Image
  held = disks.held

  second_is : IsGateOf new last second
  second_is = rw (other_other last) at also

  shown : (now : ℕ → List ℕ) → IsUpdating (held slot) first second runs now → IsNewest (newest_of size now anchor) old ⊎ IsNewest (newest_of size now anchor) new
  shown now updating = elim updating.copies [
    | inl before ↦
        let kept = untouched_copy size anchor new runs can.is_under are last second second_is (held slot) now before.1 in
        let last_is = kept ∙ can.last_is in
        elim before.0 [
          | inl same ↦
              let first_kept = untouched_copy size anchor new runs can.is_under are (other_of last) first is (held slot) now same in
              inl (subst (λ newest. IsNewest newest old) (sym (newest_same size now (held slot) anchor last kept first_kept)) can.is_newest)
          | inr begun ↦ elim begun [
            | inl opened ↦ inl (subst (λ newest. IsNewest newest old) (sym (newest_of_one size now anchor last old (faults.Opened new.header.sequence) last_is (open_is_not_whole size anchor new runs can.is_under are (other_of last) first is now opened))) (same_start old))
            | inr stands ↦ either_is size now anchor (other_of last) old new (new_copy_stands size anchor new runs can.is_under are (other_of last) first is now stands) (rw (other_other last) last_is) can.is_newer
          ]
        ]
    | inr after ↦
        let first_is = new_copy_stands size anchor new runs can.is_under are (other_of last) first is now after.0 in
        let written = written_as new (other_of last) in
        let new_shown = λ (is_one : IsNewest (newest_of size now anchor) written). newest_then (newest_of size now anchor) written new (written_same new (other_of last)) is_one in
        elim after.1 [
          | inl same ↦
              let last_is = untouched_copy size anchor new runs can.is_under are last second second_is (held slot) now same ∙ can.last_is in
              either_is size now anchor (other_of last) old new first_is (rw (other_other last) last_is) can.is_newer
          | inr begun ↦ elim begun [
            | inl opened ↦
                let fault = open_is_not_whole size anchor new runs can.is_under are last second second_is now opened in
                inr (new_shown (subst (λ newest. IsNewest newest written) (sym (newest_of_one size now anchor (other_of last) written (faults.Opened new.header.sequence) first_is (rw (other_other last) fault))) (same_start written)))
            | inr stands ↦ inr (
                let second_stands = new_copy_stands size anchor new runs can.is_under are last second second_is now stands in
                let both = newest_of_two size now anchor (other_of last) written (written_as new last) first_is (rw (other_other last) second_stands)
                (λ same. level_then written new (written_as new last) (written_same new (other_of last)).are_level (same_sym (written_as new last) new (written_same new last)).are_level) in
                ⊎_elim new_shown (λ other. newest_then (newest_of size now anchor) (written_as new last) new (written_same new last) other) both)
          ]
        ]
  ]

  alike : (now : ℕ → List ℕ) → IsUpdating (held slot) first second runs now → (p s : DiskCopy) → newest_of size now anchor ≡ newests.TwoDiffer p s → newest_of size (held slot) anchor ≡ newests.TwoDiffer p s
  alike now updating p s differ =
      let written = written_as new (other_of last) in
      let newer = λ (same : written.header.sequence ≡ old.header.sequence). level_then written new old (written_same new (other_of last)).are_level (can.is_newer same) in
      elim updating.copies [
        | inl before ↦
            let kept = untouched_copy size anchor new runs can.is_under are last second second_is (held slot) now before.1 in
            let last_is = kept ∙ can.last_is in
            elim before.0 [
              | inl same ↦ sym (newest_same size now (held slot) anchor last kept (untouched_copy size anchor new runs can.is_under are (other_of last) first is (held slot) now same)) ∙ differ
              | inr begun ↦ elim begun [
                | inl opened ↦
                    let one = sym (newest_of_one size now anchor last old (faults.Opened new.header.sequence) last_is (open_is_not_whole size anchor new runs can.is_under are (other_of last) first is now opened)) ∙ differ in absurd cc
                | inr stands ↦ absurd (never_differ size now anchor (other_of last) written old p s (new_copy_stands size anchor new runs can.is_under are (other_of last) first is now stands) (rw (other_other last) last_is) newer differ)
              ]
            ]
        | inr after ↦
            let first_is = new_copy_stands size anchor new runs can.is_under are (other_of last) first is now after.0 in
            elim after.1 [
              | inl same ↦
                  let last_is = untouched_copy size anchor new runs can.is_under are last second second_is (held slot) now same ∙ can.last_is in
                  absurd (never_differ size now anchor (other_of last) written old p s first_is (rw (other_other last) last_is) newer differ)
              | inr begun ↦ elim begun [
                | inl opened ↦
                    let fault = open_is_not_whole size anchor new runs can.is_under are last second second_is now opened in
                    let one = sym (newest_of_one size now anchor (other_of last) written (faults.Opened new.header.sequence) first_is (rw (other_other last) fault)) ∙ differ in absurd cc
                | inr stands ↦
                    let second_stands = new_copy_stands size anchor new runs can.is_under are last second second_is now stands in
                    absurd (never_differ size now anchor (other_of last) written (written_as new last) p s first_is (rw (other_other last) second_stands)
                    (λ same. level_then written new (written_as new last) (written_same new (other_of last)).are_level (same_sym (written_as new last) new (written_same new last)).are_level) differ)
              ]
            ]
      ]

  read_partly : (which : Which) (gate : Gate) → IsGateOf new which gate → (now : ℕ → List ℕ) → IsPartly (held slot) now gate runs → IsReadPartly size (held slot) now anchor which new
  read_partly which gate here now partly = elim partly [
    | inl same ↦ inl (untouched_copy size anchor new runs can.is_under are which gate here (held slot) now same)
    | inr begun ↦ elim begun [
      | inl opened ↦ inr (inl (open_is_not_whole size anchor new runs can.is_under are which gate here now opened))
      | inr stands ↦ inr (inr (new_copy_stands size anchor new runs can.is_under are which gate here now stands))
    ]
  ]

  read_both : (now : ℕ → List ℕ) → IsUpdating (held slot) first second runs now → AreReadPartly size (held slot) now anchor last new
  read_both now updating = elim updating.copies [
    | inl before ↦ inl (read_partly (other_of last) first is now before.0, untouched_copy size anchor new runs can.is_under are last second second_is (held slot) now before.1)
    | inr after ↦ inr (new_copy_stands size anchor new runs can.is_under are (other_of last) first is now after.0, read_partly last second second_is now after.1)
  ]

-- ---- all of the slot

pub same_anchor : (size : ℕ) (now before : ℕ → List ℕ) → now (size - 1) ≡ before (size - 1) → anchor_at size now ≡ anchor_at size before
unfolding anchor_at
same_anchor size now before same = rw same refl

module _ {D : Type 0} (disks : BayState D) (slot : ℕ) (anchor : Header) (last : Which) (old new : DiskCopy) (prepared : Prepared)
    (is : IsPrepared new last Change prepared) (can : MayChange disks slot anchor last old new) where
  abbrev here_size : ℕ
  here_size = size_of disks slot

  anchored : (now : ℕ → List ℕ) → ((l : ℕ) → (now l ≡ disks.held slot l) ⊎ IsInEither prepared l) → anchor_at here_size now ≡ Ok anchor
  anchored now outside =
      let last_same : now (here_size - 1) ≡ disks.held slot (here_size - 1) = ⊎_elim (λ same. same) (λ in_copy. absurd (⊎_elim
      (λ in_first. not_last here_size anchor new prepared.runs can.is_under is.runs_are (other_of last) prepared.first is.first_is in_first)
      (λ in_second. not_last here_size anchor new prepared.runs can.is_under is.runs_are (other_of (other_of last)) prepared.second is.second_is in_second) in_copy)) (outside (here_size - 1)) in
      same_anchor here_size now (disks.held slot) last_same ∙ can.is_anchored

  pub changing : (image : Image) → IsLeftUpdating disks.may_hold disks.held slot prepared.first prepared.second prepared.runs image → IsOldOrNew disks slot prepared anchor last old new image
  changing image left =
      let here = anchored (image slot) left.here.outside in
      let is_changing : IsChanging here_size (disks.held slot) (image slot) prepared anchor last old new = record {
        shows = ⊎_elim (λ newest. inl (record { anchor = anchor; is_anchored = here; is_newest = newest })) (λ newest. inr (record { anchor = anchor; is_anchored = here; is_newest = newest }))
            (shown disks slot anchor last old new prepared.runs prepared.first prepared.second can is.runs_are is.first_is is.second_is (image slot) left.here);
        is_anchored = here;
        copies = read_both disks slot anchor last old new prepared.runs prepared.first prepared.second can is.runs_are is.first_is is.second_is (image slot) left.here;
        alike = alike disks slot anchor last old new prepared.runs prepared.first prepared.second can is.runs_are is.first_is is.second_is (image slot) left.here;
        outside = left.here.outside;
      } in
      record { here = is_changing; other_slots = left.other_slots }

  pub changed : (after : BayState D) → AreBothWritten disks after slot prepared.first prepared.second prepared.runs → IsChanged disks after slot anchor prepared new
  changed after copied =
      record {
        are_both = both_stand here_size anchor new prepared.runs can.is_under is.runs_are (other_of last) prepared.first prepared.second is.first_is is.second_is (after.held slot)
            (anchored (after.held slot) copied.outside) copied.first_is copied.second_is;
        is_settled = copied.durable;
        outside = copied.outside;
        other_slots = copied.other_slots;
        others_left = copied.left;
      }
