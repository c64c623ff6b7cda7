-- What several crates above ask of the definitions of this one.
use Rattle.std.proofs.Common.{arith, inl, inr, ℕ, ⊎_elim, ◌≤◌}
use Rattle.std.proofs.lemmas.Bool.{cases_lt}
use Rattle.ddf_bytes.specs.Counts.{Rose}

-- and so did one that rose before
pub rose_behind : (a b c : ℕ) → a ≤ b → b ≤ c → Rose a b → Rose a c
rose_behind a b c le less rose = ⊎_elim (λ lt. inl (omega (arith, lt, less))) (λ last. ⊎_elim (λ lt. inl (omega (arith, le, lt))) (λ ge. inr (omega (arith, last, ge, less))) (cases_lt b c)) rose
