-- The copy of a slot that an update writes last, and what stands for the slot.
use Rattle.std.proofs.Common.{◌≡◌, ◌≢◌, ℕ, Bool, true, false, List, Some, Result, Ok, Err, sym, ap, subst, ◌∙◌, inl, inr, ⊎_elim, arith, if◌then◌else◌}
use Rattle.std.proofs.lemmas.Bool.{cases_lt, lt-ltb, le-ltb}
use Rattle.ddf_header.specs.declared.reading.Header.{Header}
use Rattle.ddf_copy.specs.declared.copy.DiskCopy.{DiskCopy}
use Rattle.ddf_copy.specs.declared.fault.CopyFault.{CopyFault}
use Rattle.ddf_copy.specs.declared.newest_copy.Newest.{Newest}
use Rattle.ddf_copy.specs.declared.newest_copy.Newest.TheVariants as newests
use Rattle.ddf_copy.specs.declared.which.Which.{Which}
use Rattle.ddf_copy.specs.declared.which.Which.TheVariants.{Primary, Secondary}
use Rattle.ddf_copy.specs.Copies.{are_level, copy_of, newest_in, newest_of, newest_of_both, standing_copy}
use Rattle.ddf_copy.specs.Headers.{IsUnder}
use Rattle.ddf_copy.specs.Shows.{IsNewest}
use Rattle.ddf_copy.specs.Whole.{IsNewestUnder}
use Rattle.ddf_copy.proofs.LevelCopies.{level_from}
use Rattle.ddf_copy.proofs.Places.{of_parts}

-- ---- two copies that differ

level_differ : (level : Bool) (one other p s : DiskCopy) → one.header.sequence ≡ other.header.sequence
    → (if level then newests.Level one else newests.TwoDiffer one other) ≡ newests.TwoDiffer p s → p.header.sequence ≡ s.header.sequence
level_differ true one other p s same h = absurd cc
level_differ false one other p s same h =
    let p_is : one ≡ p = cc in
    let s_is : other ≡ s = cc in
    ap (λ (copy : DiskCopy). copy.header.sequence) (sym p_is) ∙ same ∙ ap (λ (copy : DiskCopy). copy.header.sequence) s_is

both_differ : (level : Bool) (one other p s : DiskCopy) → newest_of_both level one other ≡ newests.TwoDiffer p s → p.header.sequence ≡ s.header.sequence
both_differ level one other p s h = elim (cases_lt one.header.sequence other.header.sequence) [
  | inl less ↦ let found = rw (lt-ltb one.header.sequence other.header.sequence less) at h in absurd cc
  | inr more ↦ elim (cases_lt other.header.sequence one.header.sequence) [
    | inl less ↦ let found = rw (le-ltb one.header.sequence other.header.sequence more, lt-ltb other.header.sequence one.header.sequence less) at h in absurd cc
    | inr also ↦
        level_differ level one other p s (omega (arith, more, also))
        (rw (le-ltb one.header.sequence other.header.sequence more, le-ltb other.header.sequence one.header.sequence also) at h)
  ]
]

read_differ : (level : Bool) (one other : Result DiskCopy CopyFault) (p s : DiskCopy) → newest_in level one other ≡ newests.TwoDiffer p s → p.header.sequence ≡ s.header.sequence
read_differ level (Ok one) (Ok other) p s h = both_differ level one other p s h
read_differ level (Ok one) (Err fault) p s h = absurd cc
read_differ level (Err fault) (Ok other) p s h = absurd cc
read_differ level (Err fault) (Err second) p s h = absurd cc

-- Two newest copies that differ have one sequence number.
differ_alike : (size : ℕ) (sector : ℕ → List ℕ) (anchor : Header) (p s : DiskCopy) → newest_of size sector anchor ≡ newests.TwoDiffer p s → p.header.sequence ≡ s.header.sequence
unfolding newest_of
differ_alike size sector anchor p s h =
    read_differ (are_level (copy_of size sector anchor Primary) (copy_of size sector anchor Secondary)) (copy_of size sector anchor Primary) (copy_of size sector anchor Secondary) p s h

-- ---- the copy that stands for a slot

-- Each newest copy has the sequence number of the one that stands for the slot.
pub standing_sequence : (size : ℕ) (sector : ℕ → List ℕ) (anchor : Header) (newest : Newest) → newest_of size sector anchor ≡ newest
    → (copy old : DiskCopy) → standing_copy newest ≡ Some copy → IsNewest newest old → old.header.sequence ≡ copy.header.sequence
standing_sequence size sector anchor (newests.One which found) read copy old stands is =
    let same : found ≡ copy = cc in sym (level_from found old is.are_level).0 ∙ ap (λ (c : DiskCopy). c.header.sequence) same
standing_sequence size sector anchor (newests.Level found) read copy old stands is =
    let same : found ≡ copy = cc in sym (level_from found old is.are_level).0 ∙ ap (λ (c : DiskCopy). c.header.sequence) same
standing_sequence size sector anchor (newests.TwoDiffer p s) read copy old stands is =
    let same : p ≡ copy = cc in
    let alike : p.header.sequence ≡ old.header.sequence = ⊎_elim
    (λ first. (level_from p old first.are_level).0)
    (λ second. differ_alike size sector anchor p s read ∙ (level_from s old second.are_level).0)
    is in
    sym alike ∙ ap (λ (c : DiskCopy). c.header.sequence) same
standing_sequence size sector anchor (newests.Neither first second) read copy old stands is = absurd cc

pub standing_read : (size : ℕ) (sector : ℕ → List ℕ) (anchor : Header) (newest : Newest) → newest_of size sector anchor ≡ newest → (copy : DiskCopy) → standing_copy newest ≡ Some copy
    → (which : Which) × (copy_of size sector anchor which ≡ Ok copy)
unfolding newest_of
standing_read size sector anchor newest is copy stands = ⊎_elim (λ first. (Primary, first)) (λ second. (Secondary, second))
    (of_parts (are_level (copy_of size sector anchor Primary) (copy_of size sector anchor Secondary)) (copy_of size sector anchor Primary) (copy_of size sector anchor Secondary) copy
    (ap standing_copy is ∙ stands))

pub standing_is : (newest : Newest) (copy : DiskCopy) → standing_copy newest ≡ Some copy → (first second : CopyFault) → newest ≢ newests.Neither first second
standing_is newest copy stands first second is =
    let none : standing_copy (newests.Neither first second) ≡ Some copy = subst (λ (one : Newest). standing_copy one ≡ Some copy) is stands in
    absurd cc

pub standing_under : (size : ℕ) (anchor : Header) (newest : Newest) (copy : DiskCopy) → standing_copy newest ≡ Some copy → IsNewestUnder size anchor newest → IsUnder size anchor copy
standing_under size anchor (newests.One which one) copy stands under = let same : one ≡ copy = cc in subst (IsUnder size anchor) same under
standing_under size anchor (newests.Level one) copy stands under = let same : one ≡ copy = cc in subst (IsUnder size anchor) same under
standing_under size anchor (newests.TwoDiffer one other) copy stands under = let same : one ≡ copy = cc in subst (IsUnder size anchor) same under.0
standing_under size anchor (newests.Neither first second) copy stands under = absurd cc
