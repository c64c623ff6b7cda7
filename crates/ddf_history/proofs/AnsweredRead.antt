-- Two copies of one disk that differ are of one group and one sequence.
use Rattle.std.proofs.Common.{◌≡◌, ℕ, Bool, true, false, List, if◌then◌else◌, Some, Result, Ok, Err, refl, ap, sym, ◌∙◌, inl, inr, arith}
use Rattle.std.proofs.lemmas.Bool.{cases_lt, lt-ltb, le-ltb}
use Rattle.ddf_copy.specs.declared.copy.DiskCopy.{DiskCopy}
use Rattle.ddf_copy.specs.declared.fault.CopyFault.{CopyFault}
use Rattle.ddf_copy.specs.declared.newest_copy.Newest.{Newest}
use Rattle.ddf_copy.specs.declared.newest_copy.Newest.TheVariants as newests
use Rattle.ddf_copy.specs.declared.which.Which.TheVariants.{Primary, Secondary}
use Rattle.ddf_copy.specs.Anchor.{anchor_at}
use Rattle.ddf_copy.specs.Copies.{are_level, copy_of, newest_at, newest_in, newest_of, newest_of_both, newest_under}
use Rattle.ddf_view.specs.View.{view_of}
use Rattle.ddf_group.specs.Shown.{shown_of}
use Rattle.ddf_history.specs.Answered.{IsOfOneGroup}
use Rattle.ddf_copy.proofs.LastCopies.{one_group}

-- Two copies are of one group and one sequence.
record AreAlike (one other : DiskCopy) : Type 0 where
  group : one.header.guid ≡ other.header.guid
  sequence : one.header.sequence ≡ other.header.sequence

-- Where both of two copies are the newest, they are of one sequence.
both_newest : (level : Bool) (one other primary secondary : DiskCopy) → newest_of_both level one other ≡ newests.TwoDiffer primary secondary → (one ≡ primary) × (other ≡ secondary) × (one.header.sequence ≡ other.header.sequence)
both_newest level one other primary secondary is = elim (cases_lt one.header.sequence other.header.sequence) [
  | inl less ↦ absurd (let first = rw (lt-ltb one.header.sequence other.header.sequence less) at is in cc)
  | inr more ↦ elim (cases_lt other.header.sequence one.header.sequence) [
    | inl less ↦ absurd (let first = rw (le-ltb one.header.sequence other.header.sequence (omega arith), lt-ltb other.header.sequence one.header.sequence less) at is in cc)
    | inr also ↦ by_level level (rw (le-ltb one.header.sequence other.header.sequence (omega arith), le-ltb other.header.sequence one.header.sequence (omega arith)) at is) (omega arith)
  ]
]
  where
    by_level : (b : Bool) → (if b then newests.Level one else newests.TwoDiffer one other) ≡ newests.TwoDiffer primary secondary → one.header.sequence ≡ other.header.sequence → (one ≡ primary) × (other ≡ secondary) × (one.header.sequence ≡ other.header.sequence)
    by_level true is same = absurd cc
    by_level false is same = (cc, cc, same)

-- Two newest copies that differ are of one group and one sequence.
differing_alike : (size : ℕ) (sector : ℕ → List ℕ) (anchor : _) (primary secondary : DiskCopy) → newest_of size sector anchor ≡ newests.TwoDiffer primary secondary → AreAlike primary secondary
unfolding newest_of
differing_alike size sector anchor primary secondary is = by_copies (copy_of size sector anchor Primary) (copy_of size sector anchor Secondary) refl refl is
  where
    by_copies : (one other : Result DiskCopy CopyFault) → copy_of size sector anchor Primary ≡ one → copy_of size sector anchor Secondary ≡ other → newest_in (are_level one other) one other ≡ newests.TwoDiffer primary secondary → AreAlike primary secondary
    by_copies (Ok first) (Ok second) one other newest =
        let both = both_newest (are_level (Ok first) (Ok second)) first second primary secondary newest in
        record {
          group = ap (λ (copy : DiskCopy). copy.header.guid) (sym both.0) ∙ one_group size sector anchor Primary Secondary first second one other ∙ ap (λ (copy : DiskCopy). copy.header.guid) both.1;
          sequence = ap (λ (copy : DiskCopy). copy.header.sequence) (sym both.0) ∙ both.2 ∙ ap (λ (copy : DiskCopy). copy.header.sequence) both.1;
        }
    by_copies (Ok first) (Err fault) one other newest = absurd cc
    by_copies (Err fault) (Ok second) one other newest = absurd cc
    by_copies (Err first) (Err second) one other newest = absurd cc

-- What a slot shows of its newest copy is of one group.
shown_alike : (newest : Newest) → ((primary secondary : DiskCopy) → newest ≡ newests.TwoDiffer primary secondary → AreAlike primary secondary) → IsOfOneGroup (shown_of (Some newest))
unfolding shown_of view_of
shown_alike (newests.One which copy) alike = tt
shown_alike (newests.Level copy) alike = tt
shown_alike (newests.TwoDiffer primary secondary) alike = let are = alike primary secondary refl in (are.group, are.sequence)
shown_alike (newests.Neither first second) alike = tt

-- What a disk shows is of one group, whether it has an anchor or not.
under_alike : (size : ℕ) (sector : ℕ → List ℕ) (anchored : _) → IsOfOneGroup (shown_of (newest_under size sector anchored))
unfolding shown_of
under_alike size sector (Ok anchor) = shown_alike (newest_of size sector anchor) (differing_alike size sector anchor)
under_alike size sector (Err fault) = tt

-- What a disk shows is of one group.
pub read_of_one_group : (size : ℕ) (sector : ℕ → List ℕ) → IsOfOneGroup (shown_of (newest_at size sector))
read_of_one_group size sector = under_alike size sector (anchor_at size sector)
