-- Slots that are fenced, and their own counts of faults.
use Rattle.std.specs.Prelude.{◌≡◌, ◌⊎◌, ℕ, Bool, true, false, if◌then◌else◌, List, slice_index, slice_index_or}
use Rattle.std.proofs.Common.{inl, inr, ⊎_elim, ap, ◌∙◌}

-- a slot is marked: none past the marks is
abbrev pub is_shut : List Bool → ℕ → Bool
is_shut shut s = slice_index_or shut s false

-- Faults of a slot: of a fenced one its own count, of another one that of the bay below.
abbrev pub own_or : List Bool → List ℕ → (ℕ → ℕ) → ℕ → ℕ
own_or shut own inner s = if is_shut shut s then slice_index own s else inner s

-- each call on the slot fails: below, or since it is fenced
abbrev pub is_gone : List Bool → (ℕ → Type 0) → ℕ → Type 0
is_gone shut inner s = inner s ⊎ (is_shut shut s ≡ true)

-- so it stays, where fences stay and what is gone below does
pub gone_then : (shut next : List Bool) (gone later : ℕ → Type 0) (s : ℕ) → next ≡ shut → (gone s → later s) → is_gone shut gone s → is_gone next later s
gone_then shut next gone later s same below is = ⊎_elim (λ was. inl (below was)) (λ fenced. inr (ap (λ (marks : List Bool). is_shut marks s) same ∙ fenced)) is
