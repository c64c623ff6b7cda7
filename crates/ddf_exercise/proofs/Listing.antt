-- Steps that are listed one after another.
use Rattle.std.proofs.Common.{◌≡◌, ℕ, suc, ◌+◌, ◌-◌, ◌<◌, List, [], ◌∷◌, ◌++◌, refl, arith, append_assoc}
use Rattle.ddf_exercise.specs.Draws.{behind_fill, behind_fills, first_state, next_fill}
use Rattle.ddf_exercise.specs.Steps.{all_steps, first_steps, loss_steps, write_steps}
use Rattle.ddf_exercise.specs.declared.steps.Step.{Step}
use Rattle.ddf_exercise.specs.declared.steps.Step.TheVariants.{Scrub, Write}

-- One more write is listed of those that are to come.
pub one_more : (steps : List Step) (rounds counter state : ℕ) → counter < rounds
    → (steps ++ Write (next_fill state) ∷ []) ++ write_steps (rounds - (counter + 1)) (behind_fill state) ≡ steps ++ write_steps (rounds - counter) state
one_more steps rounds counter state below =
    let left : rounds - counter ≡ suc (rounds - (counter + 1)) = omega arith in
    rw left (append_assoc steps (Write (next_fill state) ∷ []) (write_steps (rounds - (counter + 1)) (behind_fill state)))

pub state_more : (rounds counter state : ℕ) → counter < rounds → behind_fills (rounds - (counter + 1)) (behind_fill state) ≡ behind_fills (rounds - counter) state
state_more rounds counter state below =
    let left : rounds - counter ≡ suc (rounds - (counter + 1)) = omega arith in
    rw left refl

-- The steps are all, as they are listed part by part.
pub all_listed : (seed rounds first second third : ℕ) (a b d e f g steps : List Step) → first ≡ first_state seed → a ≡ first_steps → b ≡ a ++ write_steps rounds first
    → second ≡ behind_fills rounds first → d ≡ b ++ loss_steps 1 → e ≡ d ++ write_steps rounds second → third ≡ behind_fills rounds second → f ≡ e ++ loss_steps 2 → g ≡ f ++ write_steps rounds third
    → steps ≡ g ++ Scrub ∷ [] → steps ≡ all_steps seed rounds
unfolding all_steps
all_listed seed rounds first second third a b d e f g steps is_first is_a is_b is_second is_d is_e is_third is_f is_g is = rw (is, is_g, is_f, is_e, is_d, is_b, is_a, is_third, is_second, is_first) refl
