-- How calls count.
use Rattle.std.proofs.Common.{◌≡◌, ◌≢◌, ◌∙◌, ◌==◌, ◌&&◌, ℕ, Bool, true, false, if◌then◌else◌, refl, sym, arith}
use Rattle.std.specs.Prelude.{not}
use Rattle.std.proofs.lemmas.Bool.{eq-eqb, false≢true}
use Rattle.ddf_exercise.specs.Taking.{counted}

-- None counts as one whose output failed.
pub counts_no_stream : (status : ℕ) (as_it_should : Bool) → counted status as_it_should ≢ 6
counts_no_stream status as_it_should = by (status == 6) (status == 0 && not as_it_should) refl
  where
    by : (six other : Bool) → (status == 6) ≡ six → (if six then 5 else (if other then 3 else status)) ≢ 6
    by true other is e = omega arith
    by false true is e = omega arith
    by false false is e = false≢true (sym is ∙ eq-eqb status 6 e)
