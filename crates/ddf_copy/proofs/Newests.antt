-- What the newest copy of a disk is, by its two copies.
use Rattle.std.proofs.Common.{◌≡◌, ◌⊎◌, ℕ, Bool, true, Ok, Err, List, refl, sym, inl, inr, ⊎_elim, arith}
use Rattle.std.proofs.lemmas.Bool.{cases_lt, lt-ltb, le-ltb}
use Rattle.ddf_header.specs.declared.reading.Header.{Header}
use Rattle.ddf_copy.specs.declared.copy.DiskCopy.{DiskCopy}
use Rattle.ddf_copy.specs.declared.fault.CopyFault.{CopyFault}
use Rattle.ddf_copy.specs.declared.newest_copy.Newest.{Newest}
use Rattle.ddf_copy.specs.declared.newest_copy.Newest.TheVariants as newests
use Rattle.ddf_copy.specs.declared.which.Which.{Which}
use Rattle.ddf_copy.specs.declared.which.Which.TheVariants.{Primary, Secondary}
use Rattle.ddf_copy.specs.Copies.{copy_of, newest_of, newest_of_both}
use Rattle.ddf_copy.specs.Shows.{IsNewest, IsSame}
use Rattle.ddf_copy.specs.Which.{other_of}
use Rattle.ddf_copy.specs.Written.{is_level}
use Rattle.ddf_copy.proofs.LevelCopies.{level_from, level_is, same_start, same_then}

-- the only whole copy is the newest
pub newest_of_one : (size : ℕ) (sector : ℕ → List ℕ) (anchor : Header) (which : Which) (copy : DiskCopy) (fault : CopyFault)
    → copy_of size sector anchor which ≡ Ok copy → copy_of size sector anchor (other_of which) ≡ Err fault → newest_of size sector anchor ≡ newests.One which copy
unfolding newest_of
newest_of_one size sector anchor Primary copy fault one other = rw (one, other) refl
newest_of_one size sector anchor Secondary copy fault one other = rw (one, other) refl

-- ---- two whole copies

-- one of them is the newest, and both are where they are level
either_is : (level : Bool) (primary secondary : DiskCopy) → (primary.header.sequence ≡ secondary.header.sequence → level ≡ true)
    → IsNewest (newest_of_both level primary secondary) primary ⊎ IsNewest (newest_of_both level primary secondary) secondary
either_is level primary secondary when = elim (cases_lt primary.header.sequence secondary.header.sequence) [
  | inl less ↦ inr (rw (lt-ltb primary.header.sequence secondary.header.sequence less) (same_start secondary))
  | inr more ↦ elim (cases_lt secondary.header.sequence primary.header.sequence) [
    | inl less ↦ inl (rw (le-ltb primary.header.sequence secondary.header.sequence (omega arith), lt-ltb secondary.header.sequence primary.header.sequence less) (same_start primary))
    | inr also ↦
        let same : primary.header.sequence ≡ secondary.header.sequence = omega arith in
        inl (rw (le-ltb primary.header.sequence secondary.header.sequence (omega arith), le-ltb secondary.header.sequence primary.header.sequence (omega arith), when same) (same_start primary))
  ]
]

pub turned : (primary secondary : DiskCopy) → is_level secondary primary ≡ true → is_level primary secondary ≡ true
turned primary secondary level =
    let parts = level_from secondary primary level in
    level_is primary secondary (sym parts.0) (sym parts.1)

pub newest_of_two : (size : ℕ) (sector : ℕ → List ℕ) (anchor : Header) (which : Which) (one other : DiskCopy)
    → copy_of size sector anchor which ≡ Ok one → copy_of size sector anchor (other_of which) ≡ Ok other
    → (one.header.sequence ≡ other.header.sequence → is_level one other ≡ true)
    → IsNewest (newest_of size sector anchor) one ⊎ IsNewest (newest_of size sector anchor) other
unfolding newest_of
newest_of_two size sector anchor Primary one other is also when = rw (is, also) (either_is (is_level one other) one other when)
newest_of_two size sector anchor Secondary one other is also when =
    rw (is, also) (⊎_elim inr inl (either_is (is_level other one) other one (λ same. turned other one (when (sym same)))))

-- they don't differ where they are level or have two sequences
differ_not : (level : Bool) (primary secondary p s : DiskCopy) → (primary.header.sequence ≡ secondary.header.sequence → level ≡ true)
    → newest_of_both level primary secondary ≡ newests.TwoDiffer p s → ⊥
differ_not level primary secondary p s when h = elim (cases_lt primary.header.sequence secondary.header.sequence) [
  | inl less ↦ let found = rw (lt-ltb primary.header.sequence secondary.header.sequence less) at h in absurd cc
  | inr more ↦ elim (cases_lt secondary.header.sequence primary.header.sequence) [
    | inl less ↦ let found = rw (le-ltb primary.header.sequence secondary.header.sequence (omega arith), lt-ltb secondary.header.sequence primary.header.sequence less) at h in absurd cc
    | inr also ↦
        let same : primary.header.sequence ≡ secondary.header.sequence = omega arith in
        let found = rw (le-ltb primary.header.sequence secondary.header.sequence (omega arith), le-ltb secondary.header.sequence primary.header.sequence (omega arith), when same) at h in absurd cc
  ]
]

pub never_differ : (size : ℕ) (sector : ℕ → List ℕ) (anchor : Header) (which : Which) (one other p s : DiskCopy)
    → copy_of size sector anchor which ≡ Ok one → copy_of size sector anchor (other_of which) ≡ Ok other
    → (one.header.sequence ≡ other.header.sequence → is_level one other ≡ true)
    → newest_of size sector anchor ≡ newests.TwoDiffer p s → ⊥
unfolding newest_of
never_differ size sector anchor Primary one other p s is also when h = differ_not (is_level one other) one other p s when (rw (is, also) at h)
never_differ size sector anchor Secondary one other p s is also when h = differ_not (is_level other one) other one p s (λ same. turned other one (when (sym same))) (rw (is, also) at h)

-- two level copies
pub newest_of_level : (size : ℕ) (sector : ℕ → List ℕ) (anchor : Header) (primary secondary : DiskCopy)
    → copy_of size sector anchor Primary ≡ Ok primary → copy_of size sector anchor Secondary ≡ Ok secondary → is_level primary secondary ≡ true
    → newest_of size sector anchor ≡ newests.Level primary
unfolding newest_of
newest_of_level size sector anchor primary secondary is also level =
    let same = (level_from primary secondary level).0 in
    rw (is, also, level, le-ltb primary.header.sequence secondary.header.sequence (omega (arith, same)), le-ltb secondary.header.sequence primary.header.sequence (omega (arith, same))) refl

-- the same copies, the same newest
pub newest_same : (size : ℕ) (now before : ℕ → List ℕ) (anchor : Header) (which : Which) → copy_of size now anchor which ≡ copy_of size before anchor which
    → copy_of size now anchor (other_of which) ≡ copy_of size before anchor (other_of which) → newest_of size now anchor ≡ newest_of size before anchor
unfolding newest_of
newest_same size now before anchor Primary one other = rw (one, other) refl
newest_same size now before anchor Secondary one other = rw (one, other) refl

-- what is the newest is so for each copy that is the same
pub newest_then : (newest : Newest) (one other : DiskCopy) → IsSame one other → IsNewest newest one → IsNewest newest other
newest_then (newests.One which found) one other same is = same_then found one other is same
newest_then (newests.Level found) one other same is = same_then found one other is same
newest_then (newests.TwoDiffer primary secondary) one other same is = ⊎_elim (λ first. inl (same_then primary one other first same)) (λ second. inr (same_then secondary one other second same)) is
newest_then (newests.Neither primary secondary) one other same is = is
