-- What several crates above ask of the definitions of this one.
use Rattle.std.proofs.Common.{arith, ⊎_elim, ◌≡◌}
use Rattle.ddf_answer.specs.Answers.{IsToldFailure}
use Rattle.ddf_answer.specs.Call.{Answer}
use Rattle.ddf_answer.specs.declared.failure.Failure.{Failure}
use Rattle.ddf_answer.specs.declared.failure.Failure.TheVariants.{Conflict, Disk, Memory, Refused, Split}

-- one that wasn't has another status
pub no_failure : (failure : Failure) (answer : Answer) → IsToldFailure failure answer → answer.status ≡ 0 → ⊥
no_failure (Refused refusal) answer told done = ⊎_elim (λ one. omega (arith, one, done)) (λ cut. ⊎_elim (λ five. omega (arith, five, done)) (λ six. omega (arith, six, done)) cut) told.ends
no_failure (Disk slot) answer told done = ⊎_elim (λ three. omega (arith, three, done)) (λ six. omega (arith, six, done)) told.ends
no_failure (Conflict i j sequence differ) answer told done = ⊎_elim (λ four. omega (arith, four, done)) (λ cut. ⊎_elim (λ five. omega (arith, five, done)) (λ six. omega (arith, six, done)) cut) told.ends
no_failure (Split i j) answer told done = ⊎_elim (λ four. omega (arith, four, done)) (λ cut. ⊎_elim (λ five. omega (arith, five, done)) (λ six. omega (arith, six, done)) cut) told.ends
no_failure Memory answer told done = let five = told.0 in omega (arith, five, done)
