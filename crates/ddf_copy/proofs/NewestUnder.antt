-- The newest of two copies that can be written under an anchor can be too.
use Rattle.std.proofs.Common.{Bool, true, false, ℕ, ◌≡◌, inl, inr, arith}
use Rattle.std.proofs.lemmas.Bool.{cases_lt, lt-ltb, le-ltb}
use Rattle.ddf_header.specs.declared.reading.Header.{Header}
use Rattle.ddf_copy.specs.declared.copy.DiskCopy.{DiskCopy}
use Rattle.ddf_copy.specs.Copies.{newest_of_both}
use Rattle.ddf_copy.specs.Headers.{IsUnder}
use Rattle.ddf_copy.specs.Whole.{IsNewestUnder}

level_under : (size : ℕ) (anchor : Header) (level : Bool) (primary secondary : DiskCopy) → IsUnder size anchor primary → IsUnder size anchor secondary → primary.header.sequence ≡ secondary.header.sequence
    → IsNewestUnder size anchor (newest_of_both level primary secondary)
level_under size anchor true primary secondary one other same =
    rw (le-ltb primary.header.sequence secondary.header.sequence (omega (arith, same)), le-ltb secondary.header.sequence primary.header.sequence (omega (arith, same))) one
level_under size anchor false primary secondary one other same =
    rw (le-ltb primary.header.sequence secondary.header.sequence (omega (arith, same)), le-ltb secondary.header.sequence primary.header.sequence (omega (arith, same))) (one, other)

pub both_under : (size : ℕ) (anchor : Header) (level : Bool) (primary secondary : DiskCopy) → IsUnder size anchor primary → IsUnder size anchor secondary
    → IsNewestUnder size anchor (newest_of_both level primary secondary)
both_under size anchor level primary secondary one other = elim (cases_lt primary.header.sequence secondary.header.sequence) [
  | inl less ↦ rw (lt-ltb primary.header.sequence secondary.header.sequence less) other
  | inr more ↦ elim (cases_lt secondary.header.sequence primary.header.sequence) [
    | inl less ↦ rw (le-ltb primary.header.sequence secondary.header.sequence (omega arith), lt-ltb secondary.header.sequence primary.header.sequence less) one
    | inr also ↦ level_under size anchor level primary secondary one other (omega arith)
  ]
]
