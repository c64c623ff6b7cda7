-- The configurations since the last acknowledged one, by their order.
use Rattle.std.proofs.Common.{◌≡◌, ◌⊎◌, ℕ, ◌<◌, ◌≤◌, Bool, true, false, slice_get, refl, sym, ap, ◌∙◌, inl, inr, arith, subst}
use Rattle.std.proofs.lemmas.Bool.{cases_eq, cases_lt}
use Rattle.std.proofs.lemmas.Option.{same_Some}
use Rattle.ddf_history.specs.Reading.{Reading, Scene, Shown, IsCopyOf, IsFirstOf}
use Rattle.ddf_history.specs.Reading.Shown.{Nothing, One, Differ}
use Rattle.ddf_history.specs.Issued.{Changes, Past, IsSince, IsChain}
use Rattle.ddf_history.specs.Promise.{IsKept, IsOn}

-- A test holds or not.
pub which : (b : Bool) → (b ≡ true) ⊎ (b ≡ false)
which true = inl refl
which false = inr refl

-- The copy by which a disk is known is one of those that its slot shows.
pub first_is_copy : {A : Type 0} (shown : Shown A) (copy : A) → IsFirstOf shown copy → IsCopyOf shown copy
first_is_copy Nothing copy is = is
first_is_copy (One found) copy is = is
first_is_copy (Differ primary secondary) copy is = inl is

-- A slot that shows a copy is known by one.
pub first_there : {A : Type 0} (shown : Shown A) (copy : A) → IsCopyOf shown copy → (first : A) × IsFirstOf shown first
first_there Nothing copy is = absurd is
first_there (One found) copy is = (found, refl)
first_there (Differ primary secondary) copy is = (primary, refl)

module _ {r : Reading} {changes : Changes r} where
  -- One configuration has a number.
  pub same_number : (i j : ℕ) (c d : r.Config) → IsSince changes i c → IsSince changes j d → i ≡ j → c ≡ d
  same_number i j c d at there same = same_Some c d (sym at.is_there ∙ ap (slice_get changes.issued) same ∙ there.is_there)

  -- A later configuration has no lesser sequence.
  pub in_order : IsChain changes → (i j : ℕ) (c d : r.Config) → IsSince changes i c → IsSince changes j d → i ≤ j → r.sequence c ≤ r.sequence d
  in_order chain i j c d at there le = elim (cases_eq i j) [
    | inl same ↦ let e : r.sequence c ≡ r.sequence d = ap r.sequence (same_number i j c d at there same) in omega arith
    | inr differ ↦ let lt = chain.rises i j c d at there (omega arith) in omega arith
  ]

  -- Configurations of one sequence are one.
  pub same_sequence_same : IsChain changes → (i j : ℕ) (c d : r.Config) → IsSince changes i c → IsSince changes j d → r.sequence c ≡ r.sequence d → (i ≡ j) × (c ≡ d)
  same_sequence_same chain i j c d at there same = elim (cases_eq i j) [
    | inl e ↦ (e, same_number i j c d at there e)
    | inr differ ↦ elim (cases_lt i j) [
      | inl lt ↦ let rise = chain.rises i j c d at there lt in absurd (omega arith)
      | inr ge ↦ let rise = chain.rises j i d c there at (omega arith) in absurd (omega arith)
    ]
  ]

  -- A configuration with a lesser sequence was issued before.
  pub before_by_sequence : IsChain changes → (i j : ℕ) (c d : r.Config) → IsSince changes i c → IsSince changes j d → r.sequence c < r.sequence d → i < j
  before_by_sequence chain i j c d at there less = elim (cases_lt i j) [
    | inl lt ↦ lt
    | inr ge ↦ let le = in_order chain j i d c there at ge in absurd (omega arith)
  ]

  -- the copy of a slot that shows a configuration is the one that shows it
  pub on_copy : (disk : r.Disk) (shown : Shown r.Copy) (on : IsOn changes disk shown) (copy : r.Copy) → IsCopyOf shown copy → copy ≡ on.copy
  on_copy disk shown on copy is = subst (λ (s : Shown r.Copy). IsCopyOf s copy) on.is_only is

  -- Each copy of a slot that shows a configuration shows it.
  pub on_shows : (disk : r.Disk) (shown : Shown r.Copy) (on : IsOn changes disk shown) (copy : r.Copy) → IsCopyOf shown copy → r.Shows copy on.config
  on_shows disk shown on copy is = subst (λ (x : r.Copy). r.Shows x on.config) (sym (on_copy disk shown on copy is)) on.shows

-- The last acknowledged configuration is one since itself.
pub last_since : {r : Reading} (past : Past r) (scene : Scene r.Copy) (kept : IsKept past scene) → IsSince past.changes past.changes.acked kept.last
last_since past scene kept = record { late = omega arith; is_there = kept.is_last }
