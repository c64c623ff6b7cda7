-- The sequence number behind the steps of an exercise.
use Rattle.std.proofs.Common.{◌≡◌, ◌∙◌, ℕ, zero, suc, ◌+◌, ◌*◌, List, [], ◌∷◌, ◌++◌, refl, arith}
use Rattle.ddf_exercise.specs.Draws.{behind_fill, behind_fills, first_state}
use Rattle.ddf_exercise.specs.Steps.{all_steps, first_steps, loss_steps, rise, sequence_behind, write_steps}
use Rattle.ddf_exercise.specs.declared.steps.Step.{Step}
use Rattle.ddf_exercise.specs.declared.steps.Step.TheVariants.{Scrub}

behind_both : (sequence : ℕ) (steps others : List Step) → sequence_behind sequence (steps ++ others) ≡ sequence_behind (sequence_behind sequence steps) others
behind_both sequence [] others = refl
behind_both sequence (step ∷ steps) others = behind_both (sequence + rise step) steps others

behind_writes : (sequence rounds state : ℕ) → sequence_behind sequence (write_steps rounds state) ≡ sequence + 2 * rounds
behind_writes sequence zero state = omega arith
behind_writes sequence (suc rounds) state = let rest = behind_writes (sequence + 2) rounds (behind_fill state) in omega (arith, rest)

pub behind_all : (seed rounds : ℕ) → sequence_behind 0 (all_steps seed rounds) ≡ 13 + 6 * rounds
unfolding all_steps
behind_all seed rounds =
    let first = first_state seed in
    let second = behind_fills rounds first in
    let third = behind_fills rounds second in
    let a = first_steps ++ write_steps rounds first in
    let b = a ++ loss_steps 1 in
    let d = b ++ write_steps rounds second in
    let e = d ++ loss_steps 2 in
    let f = e ++ write_steps rounds third in
    let in_a : sequence_behind 0 a ≡ 5 + 2 * rounds = behind_both 0 first_steps (write_steps rounds first) ∙ behind_writes 5 rounds first in
    let in_b : sequence_behind 0 b ≡ sequence_behind 0 a + 0 + 4 = behind_both 0 a (loss_steps 1) in
    let in_d : sequence_behind 0 d ≡ sequence_behind 0 b + 2 * rounds = behind_both 0 b (write_steps rounds second) ∙ behind_writes (sequence_behind 0 b) rounds second in
    let in_e : sequence_behind 0 e ≡ sequence_behind 0 d + 0 + 4 = behind_both 0 d (loss_steps 2) in
    let in_f : sequence_behind 0 f ≡ sequence_behind 0 e + 2 * rounds = behind_both 0 e (write_steps rounds third) ∙ behind_writes (sequence_behind 0 e) rounds third in
    let all : sequence_behind 0 (f ++ Scrub ∷ []) ≡ sequence_behind 0 f + 0 = behind_both 0 f (Scrub ∷ []) in
    omega (arith, in_a, in_b, in_d, in_e, in_f, all)
