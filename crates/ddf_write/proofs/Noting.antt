-- Slots that are noted beside others, one after another.
use Rattle.std.proofs.Common.{◌≡◌, ◌⊎◌, inl, inr, ⊎_elim, ℕ, zero, suc, ◌+◌, ◌<◌, ◌≤◌, Bool, true, false, List, [], ◌∷◌, refl, sym, subst, arith, length}
use Rattle.std.specs.Prelude.{slice_index_or, slice_set, if◌then◌else◌}
use Rattle.std.proofs.lemmas.Bool.{cases_lt}
use Rattle.ddf_lemmas.proofs.Lists.{touch_count}
use Rattle.ddf_cells.specs.Touching.{IsTouchedSlot}
use Rattle.ddf_cells.proofs.WriteSteps.{touch_here, touch_up, touch_only}

-- none is behind the last
pub none_past : (touched : List Bool) (slot : ℕ) → length touched ≤ slot → IsTouchedSlot touched slot → ⊥
none_past [] slot past is = cc
none_past (b ∷ bs) zero past is = absurd (omega (arith, past))
none_past (b ∷ bs) (suc slot) past is = none_past bs slot (omega (arith, past)) is

-- what it becomes by one slot more of these
abbrev pub with_one : (these touched : List Bool) (slot : ℕ) → List Bool
with_one these touched slot = if slice_index_or these slot false then slice_set touched slot true else touched

stays_by : (b : Bool) (touched : List Bool) (slot s : ℕ) → slot < length touched → IsTouchedSlot touched s → IsTouchedSlot (if b then slice_set touched slot true else touched) s
stays_by true touched slot s below is = touch_up touched slot s below is
stays_by false touched slot s below is = is

here_by : (b : Bool) (touched : List Bool) (slot : ℕ) → slot < length touched → b ≡ true → IsTouchedSlot (if b then slice_set touched slot true else touched) slot
here_by true touched slot below on = touch_here touched slot below
here_by false touched slot below on = absurd (cc)

long_by : (b : Bool) (touched : List Bool) (slot : ℕ) → length (if b then slice_set touched slot true else touched) ≡ length touched
long_by true touched slot = touch_count touched slot
long_by false touched slot = refl

only_by : (b : Bool) (touched : List Bool) (slot s : ℕ) → IsTouchedSlot (if b then slice_set touched slot true else touched) s → IsTouchedSlot touched s ⊎ ((s ≡ slot) × (b ≡ true))
only_by true touched slot s is = ⊎_elim inl (λ same. inr (same, refl)) (touch_only touched slot s is)
only_by false touched slot s is = inl is

module _ (these touched : List Bool) (slot : ℕ) where
  pub one_stays : slot < length touched → (s : ℕ) → IsTouchedSlot touched s → IsTouchedSlot (with_one these touched slot) s
  one_stays below s is = stays_by (slice_index_or these slot false) touched slot s below is

  pub one_noted : slot < length touched → ((s : ℕ) → s < slot → IsTouchedSlot these s → IsTouchedSlot touched s) → (s : ℕ) → s < slot + 1 → IsTouchedSlot these s → IsTouchedSlot (with_one these touched slot) s
  one_noted below before s within is =
      ⊎_elim
      (λ (earlier : s < slot). one_stays below s (before s earlier is))
      (λ (last : slot ≤ s).
      let same : s ≡ slot = omega (arith, last, within) in
      subst (λ n. IsTouchedSlot (with_one these touched slot) n) (sym same) (here_by (slice_index_or these slot false) touched slot below (subst (IsTouchedSlot these) same is)))
      (cases_lt s slot)

  pub one_long : length (with_one these touched slot) ≡ length touched
  one_long = long_by (slice_index_or these slot false) touched slot

  pub one_only : (s : ℕ) → IsTouchedSlot (with_one these touched slot) s → IsTouchedSlot touched s ⊎ IsTouchedSlot these s
  one_only s is = ⊎_elim inl (λ one. inr (subst (IsTouchedSlot these) (sym one.0) one.1)) (only_by (slice_index_or these slot false) touched slot s is)
