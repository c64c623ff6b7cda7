-- What a disk shows while it gets a new copy: what it showed, of two copies that differ perhaps one alone, or the new one.
use Rattle.std.proofs.Common.{◌≡◌, ◌⊎◌, ℕ, Bool, true, false, List, Option, Some, subst, Result, Ok, Err, if◌then◌else◌, refl, ap, sym, ◌∙◌, inl, inr, ⊎_elim, arith}
use Rattle.std.proofs.lemmas.Bool.{cases_lt, lt-ltb, le-ltb}
use Rattle.ddf_lemmas.proofs.Options.{same_ok}
use Rattle.ddf_header.specs.declared.reading.Header.{Header}
use Rattle.ddf_copy.specs.declared.copy.DiskCopy.{DiskCopy}
use Rattle.ddf_copy.specs.declared.fault.AnchorFault.{AnchorFault}
use Rattle.ddf_copy.specs.declared.fault.CopyFault.{CopyFault}
use Rattle.ddf_copy.specs.declared.fault.CopyFault.TheVariants as faults
use Rattle.ddf_copy.specs.declared.newest_copy.Newest.{Newest}
use Rattle.ddf_copy.specs.declared.newest_copy.Newest.TheVariants as newests
use Rattle.ddf_copy.specs.declared.which.Which.{Which}
use Rattle.ddf_copy.specs.declared.which.Which.TheVariants.{Primary, Secondary}
use Rattle.ddf_copy.specs.Anchor.{anchor_at}
use Rattle.ddf_copy.specs.Copies.{copy_of, newest_at, newest_of, newest_of_both, newest_under}
use Rattle.ddf_copy.specs.Headers.{anchor_header, written_as}
use Rattle.ddf_copy.specs.Shows.{IsNewest, IsSame}
use Rattle.ddf_copy.specs.Which.{other_of}
use Rattle.ddf_copy.specs.Written.{is_level}
use Rattle.ddf_copy.proofs.LevelCopies.{level_from, level_is, written_same}
use Rattle.ddf_copy.proofs.Newests.{newest_of_one, newest_same, turned}
use Rattle.ddf_update.specs.declared.prepared.Prepared.{Prepared}
use Rattle.ddf_update.specs.Update.{AreBoth, AreReadPartly, IsMoving, IsReadAdopting, IsReadPartly}
use Rattle.ddf_update.proofs.Changing.{other_other}
use Rattle.ddf_view.specs.View.{View, view_of}
use Rattle.ddf_group.specs.Shown.{shown_of}
use Rattle.ddf_history.specs.Reading.{Shown, IsCopyOf}
use Rattle.ddf_history.specs.Reading.Shown.{One}
use Rattle.ddf_history.specs.Scenes.{told_of}
use Rattle.ddf_history.specs.Steps.{IsPart}
use Rattle.ddf_history_steps.specs.Kept.{SaysOne}

-- what is told of a newest copy, and of a disk
abbrev pub told : Newest → Shown View
told newest = told_of (shown_of (Some newest))

abbrev pub shows_at : (size : ℕ) → (ℕ → List ℕ) → Shown View
shows_at size sector = told_of (shown_of (newest_at size sector))

-- It shows what it showed, perhaps of two copies one alone, or a new copy.
abbrev pub IsWrittenAs : (before after : Shown View) → View → Type 0
IsWrittenAs before after new = (after ≡ before) ⊎ (IsPart before after ⊎ (after ≡ One new))

-- A disk with an anchor shows the newest copy under it.
pub shows_newest : (size : ℕ) (sector : ℕ → List ℕ) (anchor : Header) → anchor_at size sector ≡ Ok anchor
    → shows_at size sector ≡ told (newest_of size sector anchor)
shows_newest size sector anchor is = ap (λ (found : Result Header AnchorFault). told_of (shown_of (newest_under size sector found))) is

-- A copy says the same in either place.
written_view : (copy : DiskCopy) (which : Which) → view_of (written_as copy which) ≡ view_of copy
unfolding view_of
written_view copy which = refl

-- A single newest copy is told by itself.
one_told : (newest : Newest) (which : Which) (copy : DiskCopy) → newest ≡ newests.One which copy → told newest ≡ One (view_of copy)
unfolding shown_of
one_told newest which copy is = ap told is

-- Level copies are told as one.
pub level_told : (newest : Newest) (copy : DiskCopy) → newest ≡ newests.Level copy → told newest ≡ One (view_of copy)
unfolding shown_of
level_told newest copy is = ap told is

-- A disk that has a copy in both places shows it.
pub both_show : (size : ℕ) (sector : ℕ → List ℕ) (anchor : Header) (copy : DiskCopy) → AreBoth size sector anchor copy → shows_at size sector ≡ One (view_of copy)
both_show size sector anchor copy both =
    shows_newest size sector anchor both.is_anchored
    ∙ level_told (newest_of size sector anchor) (written_as copy Primary) both.are_level
    ∙ ap (λ (view : View). One view) (written_view copy Primary)

-- It says one thing by both.
pub both_say : (size : ℕ) (sector : ℕ → List ℕ) (anchor : Header) (copy : DiskCopy) → AreBoth size sector anchor copy → SaysOne size sector
both_say size sector anchor copy both = record {
  one_view = λ other primary secondary anchored is also level.
      let same : anchor ≡ other = same_ok anchor other (sym both.is_anchored ∙ anchored) in
      let first : written_as copy Primary ≡ primary = same_ok (written_as copy Primary) primary (sym both.primary_is ∙ ap (λ (under : Header). copy_of size sector under Primary) same ∙ is) in
      let second : written_as copy Secondary ≡ secondary = same_ok (written_as copy Secondary) secondary (sym both.secondary_is ∙ ap (λ (under : Header). copy_of size sector under Secondary) same ∙ also) in
      ap view_of (sym first) ∙ written_view copy Primary ∙ sym (written_view copy Secondary) ∙ ap view_of second;
}

-- ---- two whole copies

-- Two copies that are level where they are of one sequence show one of the two.
either_told : (level : Bool) (primary secondary : DiskCopy) → (primary.header.sequence ≡ secondary.header.sequence → level ≡ true)
    → (told (newest_of_both level primary secondary) ≡ One (view_of primary)) ⊎ (told (newest_of_both level primary secondary) ≡ One (view_of secondary))
unfolding shown_of
either_told level primary secondary when = elim (cases_lt primary.header.sequence secondary.header.sequence) [
  | inl less ↦ inr (rw (lt-ltb primary.header.sequence secondary.header.sequence less) refl)
  | inr more ↦ elim (cases_lt secondary.header.sequence primary.header.sequence) [
    | inl less ↦ inl (rw (le-ltb primary.header.sequence secondary.header.sequence (omega arith), lt-ltb secondary.header.sequence primary.header.sequence less) refl)
    | inr also ↦
        let same : primary.header.sequence ≡ secondary.header.sequence = omega arith in
        inl (rw (le-ltb primary.header.sequence secondary.header.sequence (omega arith), le-ltb secondary.header.sequence primary.header.sequence (omega arith), when same) refl)
  ]
]

-- A disk with two such copies shows one of them.
two_told : (size : ℕ) (sector : ℕ → List ℕ) (anchor : Header) (which : Which) (one other : DiskCopy)
    → copy_of size sector anchor which ≡ Ok one → copy_of size sector anchor (other_of which) ≡ Ok other
    → (one.header.sequence ≡ other.header.sequence → is_level one other ≡ true)
    → (told (newest_of size sector anchor) ≡ One (view_of one)) ⊎ (told (newest_of size sector anchor) ≡ One (view_of other))
unfolding newest_of
two_told size sector anchor Primary one other is also when = rw (is, also) (either_told (is_level one other) one other when)
two_told size sector anchor Secondary one other is also when =
    rw (is, also) (⊎_elim inr inl (either_told (is_level other one) other one (λ same. turned other one (when (sym same)))))

-- ---- the old copy

-- A level copy is of the same sequence.
same_sequence : (one other : DiskCopy) → IsSame one other → one.header.sequence ≡ other.header.sequence
same_sequence one other same = (level_from one other same.are_level).0

-- A primary copy that is a newest one is shown.
primary_told : (level : Bool) (old other : DiskCopy) → IsNewest (newest_of_both level old other) old
    → IsCopyOf (told (newest_of_both level old other)) (view_of old)
unfolding shown_of
primary_told level old other is = elim (cases_lt old.header.sequence other.header.sequence) [
  | inl less ↦
      let found : IsSame other old = rw (lt-ltb old.header.sequence other.header.sequence less) at is in
      absurd (omega (arith, less, same_sequence other old found))
  | inr more ↦ elim (cases_lt other.header.sequence old.header.sequence) [
    | inl less ↦ rw (le-ltb old.header.sequence other.header.sequence (omega arith), lt-ltb other.header.sequence old.header.sequence less) refl
    | inr also ↦ rw (le-ltb old.header.sequence other.header.sequence (omega arith), le-ltb other.header.sequence old.header.sequence (omega arith)) (by_level level)
  ]
]
  where
    by_level : (same : Bool) → IsCopyOf (told (if same then newests.Level old else newests.TwoDiffer old other)) (view_of old)
    by_level true = refl
    by_level false = inl refl

-- So is a secondary one, where it says what a level primary one says.
secondary_told : (level : Bool) (other old : DiskCopy) → (level ≡ true → view_of other ≡ view_of old) → IsNewest (newest_of_both level other old) old
    → IsCopyOf (told (newest_of_both level other old)) (view_of old)
unfolding shown_of
secondary_told level other old same is = elim (cases_lt other.header.sequence old.header.sequence) [
  | inl less ↦ rw (lt-ltb other.header.sequence old.header.sequence less) refl
  | inr more ↦ elim (cases_lt old.header.sequence other.header.sequence) [
    | inl less ↦
        let found : IsSame other old = rw (le-ltb other.header.sequence old.header.sequence (omega arith), lt-ltb old.header.sequence other.header.sequence less) at is in
        absurd (omega (arith, less, same_sequence other old found))
    | inr also ↦ rw (le-ltb other.header.sequence old.header.sequence (omega arith), le-ltb old.header.sequence other.header.sequence (omega arith)) (by_level level same)
  ]
]
  where
    by_level : (level : Bool) → (level ≡ true → view_of other ≡ view_of old)
        → IsCopyOf (told (if level then newests.Level other else newests.TwoDiffer other old)) (view_of old)
    by_level true same = sym (same refl)
    by_level false same = inr refl

module _ (size : ℕ) (sector : ℕ → List ℕ) (anchor : Header) (anchored : anchor_at size sector ≡ Ok anchor) (old : DiskCopy)
    (is : IsNewest (newest_of size sector anchor) old) where
  -- A newest copy in the primary place is shown.
  primary_shown : copy_of size sector anchor Primary ≡ Ok old → (second : Result DiskCopy CopyFault) → copy_of size sector anchor Secondary ≡ second
      → IsCopyOf (told (newest_of size sector anchor)) (view_of old)
  unfolding newest_of shown_of
  primary_shown there (Ok other) also = rw (there, also) (primary_told (is_level old other) old other (rw (there, also) at is))
  primary_shown there (Err fault) also = rw (there, also) refl

  -- So is one in the secondary place.
  secondary_shown : SaysOne size sector → copy_of size sector anchor Secondary ≡ Ok old → (first : Result DiskCopy CopyFault)
      → copy_of size sector anchor Primary ≡ first → IsCopyOf (told (newest_of size sector anchor)) (view_of old)
  unfolding newest_of shown_of
  secondary_shown says there (Ok other) also =
      rw (also, there) (secondary_told (is_level other old) other old (says.one_view anchor other old anchored also there) (rw (also, there) at is))
  secondary_shown says there (Err fault) also = rw (also, there) refl

  -- A newest copy is shown, whichever place it is in.
  old_shown : SaysOne size sector → (last : Which) → copy_of size sector anchor last ≡ Ok old → IsCopyOf (told (newest_of size sector anchor)) (view_of old)
  old_shown says Primary there = primary_shown there (copy_of size sector anchor Secondary) refl
  old_shown says Secondary there = secondary_shown says there (copy_of size sector anchor Primary) refl

-- ---- a disk that changes

module _ (size : ℕ) (before now : ℕ → List ℕ) (anchor : Header) (last : Which) (old new : DiskCopy) (says : SaysOne size before)
    (anchored : anchor_at size before ≡ Ok anchor) (last_is : copy_of size before anchor last ≡ Ok old) (is_newest : IsNewest (newest_of size before anchor) old)
    (is_newer : new.header.sequence ≡ old.header.sequence → is_level new old ≡ true) where
  -- what is told of it then
  abbrev IsTold : Type 0
  IsTold = IsWrittenAs (told (newest_of size before anchor)) (told (newest_of size now anchor)) (view_of new)

  -- the new copy in its first place
  abbrev first : DiskCopy
  first = written_as new (other_of last)

  -- It shows the old copy.
  old_told : told (newest_of size now anchor) ≡ One (view_of old) → IsTold
  old_told is = inr (inl (record { copy = view_of old; is_copy = old_shown size before anchor anchored old is_newest says last last_is; is_only = is }))

  -- It shows the new copy.
  new_told : (which : Which) → told (newest_of size now anchor) ≡ One (view_of (written_as new which)) → IsTold
  new_told which is = inr (inr (is ∙ ap (λ (view : View). One view) (written_view new which)))

  -- With the new copy in one place and the old one in the other it shows one of them.
  both_told : copy_of size now anchor (other_of last) ≡ Ok first → copy_of size now anchor last ≡ Ok old → IsTold
  both_told is also = ⊎_elim (new_told (other_of last)) old_told (two_told size now anchor (other_of last) first old is (rw (other_other last) also) level)
    where
      level : first.header.sequence ≡ old.header.sequence → is_level first old ≡ true
      level same =
          let written = level_from first new (written_same new (other_of last)).are_level in
          let newer = level_from new old (is_newer same) in
          level_is first old (written.0 ∙ newer.0) (written.1 ∙ newer.1)

  -- Its last copy is as it was.
  first_told : copy_of size now anchor last ≡ copy_of size before anchor last → IsReadPartly size before now anchor (other_of last) new → IsTold
  first_told kept (inl same) = inl (ap told (newest_same size now before anchor last kept same))
  first_told kept (inr (inl opened)) =
      old_told (one_told (newest_of size now anchor) last old (newest_of_one size now anchor last old (faults.Opened new.header.sequence) (kept ∙ last_is) opened))
  first_told kept (inr (inr stands)) = both_told stands (kept ∙ last_is)

  -- Its first copy is the new one.
  last_told : copy_of size now anchor (other_of last) ≡ Ok first → IsReadPartly size before now anchor last new → IsTold
  last_told is (inl same) = both_told is (same ∙ last_is)
  last_told is (inr (inl opened)) =
      let one = newest_of_one size now anchor (other_of last) first (faults.Opened new.header.sequence) is (rw (other_other last) opened) in
      new_told (other_of last) (one_told (newest_of size now anchor) (other_of last) first one)
  last_told is (inr (inr stands)) =
      ⊎_elim (new_told (other_of last)) (new_told last) (two_told size now anchor (other_of last) first (written_as new last) is (rw (other_other last) stands) level)
    where
      level : first.header.sequence ≡ (written_as new last).header.sequence → is_level first (written_as new last) ≡ true
      level same =
          let one = level_from first new (written_same new (other_of last)).are_level in
          let other = level_from (written_as new last) new (written_same new last).are_level in
          level_is first (written_as new last) same (one.1 ∙ sym other.1)

  -- It shows the old copies, one of them alone, or the new one.
  changing_told : AreReadPartly size before now anchor last new → IsTold
  changing_told (inl parts) = first_told parts.1 parts.0
  changing_told (inr parts) = last_told parts.0 parts.1

  -- So does the disk.
  pub changing_shows : anchor_at size now ≡ Ok anchor → AreReadPartly size before now anchor last new → IsWrittenAs (shows_at size before) (shows_at size now) (view_of new)
  changing_shows is parts = rw (shows_newest size before anchor anchored, shows_newest size now anchor is) (changing_told parts)

-- ---- a disk that is moved

-- It shows what it showed, or the new one.
pub moving_shows : (size : ℕ) (before now : ℕ → List ℕ) (prepared : Prepared) (new : DiskCopy) → IsMoving size before now prepared new
    → IsWrittenAs (shows_at size before) (shows_at size now) (view_of new)
moving_shows size before now prepared new is = ⊎_elim
    (λ same. inl (ap (λ (found : Option Newest). told_of (shown_of found)) same.1))
    (λ both. inr (inr (both_show size now (anchor_header new) new both)))
    is.reads

-- ---- a disk that is adopted

module _ (size : ℕ) (before now : ℕ → List ℕ) (anchor : Header) (last : Which) (old new : DiskCopy) (says : SaysOne size before)
    (anchored : anchor_at size before ≡ Ok anchor) (last_is : copy_of size before anchor last ≡ Ok old) (is_newest : IsNewest (newest_of size before anchor) old) where
  -- what is told of a newest copy that a disk has
  at_told : (newest : Newest) (copy : DiskCopy) → newest_at size now ≡ Some newest → told newest ≡ One (view_of copy) → shows_at size now ≡ One (view_of copy)
  at_told newest copy at is = ap (λ (found : Option Newest). told_of (shown_of found)) at ∙ is

  old_before : IsCopyOf (shows_at size before) (view_of old)
  old_before =
      subst (λ (shown : Shown View). IsCopyOf shown (view_of old)) (sym (shows_newest size before anchor anchored)) (old_shown size before anchor anchored old is_newest says last last_is)

  -- It shows what it showed, the former group's copy alone, or the new one.
  pub adopting_shows : IsReadAdopting size before now last old new → IsWrittenAs (shows_at size before) (shows_at size now) (view_of new)
  adopting_shows read = elim read [
    | inl same ↦ inl (ap (λ (found : Option Newest). told_of (shown_of found)) same)
    | inr other ↦ elim other [
      | inl former ↦ inr (inl (record { copy = view_of old; is_copy = old_before; is_only = at_told (newests.One last old) old former (one_told (newests.One last old) last old refl) }))
      | inr renewed ↦ elim renewed [
        | inl one ↦ inr (inr (
            at_told (newests.One (other_of last) (written_as new (other_of last))) (written_as new (other_of last)) one (one_told (newests.One (other_of last) (written_as new (other_of last))) (other_of last) (written_as new (other_of last)) refl)
            ∙ ap (λ (view : View). One view) (written_view new (other_of last))))
        | inr level ↦ inr (inr (
            at_told (newests.Level (written_as new Primary)) (written_as new Primary) level (level_told (newests.Level (written_as new Primary)) (written_as new Primary) refl)
            ∙ ap (λ (view : View). One view) (written_view new Primary)))
      ]
    ]
  ]
