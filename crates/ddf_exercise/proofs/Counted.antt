-- Two exercises that were counted by hand.
use Rattle.std.proofs.Common.{◌≡◌, ◌∙◌, ℕ, ◌*◌, List, [], ◌∷◌, refl, ap, arith}
use Rattle.std.specs.List.{sum}
use Rattle.std.proofs.lemmas.List.Sums.{sum_by-append, sum_by-cons}
use Rattle.ddf_exercise.specs.Blocks.{block_of, blocks_behind, blocks_in, bytes_behind, bytes_of_blocks, zero_blocks}
use Rattle.ddf_exercise.specs.Draws.{behind_fill, next_fill}
use Rattle.ddf_exercise.specs.Exercise.{exercise_line, line_saying}
use Rattle.ddf_exercise.specs.Steps.{all_steps}
use Rattle.ddf_exercise.specs.declared.steps.Step.{Step}
use Rattle.ddf_exercise.proofs.Filling.{sum_block}

sum_of_all : (blocks : List ℕ) → sum (bytes_of_blocks blocks) ≡ 512 * sum blocks
sum_of_all [] = refl
sum_of_all (byte ∷ blocks) =
    let both = sum_by-append (λ (x : ℕ). x) (block_of byte) (bytes_of_blocks blocks) in
    let one = sum_block byte in
    let others = sum_of_all blocks in
    let total = sum_by-cons (λ (x : ℕ). x) byte blocks in
    omega (arith, both, one, others, total)

sum_behind : (steps : List Step) (total : ℕ) → 512 * sum (blocks_behind steps (zero_blocks 8192)) ≡ total → sum (bytes_behind steps) ≡ total
unfolding bytes_behind
sum_behind steps total is = sum_of_all (blocks_behind steps (zero_blocks 8192)) ∙ is

none_sum : 512 * sum (blocks_behind (all_steps 1 0) (zero_blocks 8192)) ≡ 0
unfolding all_steps zero_blocks
none_sum = refl

none_written : blocks_in (all_steps 1 0) ≡ 0
unfolding all_steps
none_written = refl

pub no_round : exercise_line 1 0 ≡ line_saying 0 0 0 13
no_round = ap (λ (blocks : ℕ). line_saying 0 blocks (sum (bytes_behind (all_steps 1 0))) 13) none_written ∙ ap (λ (total : ℕ). line_saying 0 0 total 13) (sum_behind (all_steps 1 0) 0 none_sum)

one_sum : 512 * sum (blocks_behind (all_steps 1 1) (zero_blocks 8192)) ≡ 3048960
unfolding all_steps zero_blocks next_fill behind_fill
one_sum = refl

one_written : blocks_in (all_steps 1 1) ≡ 39
unfolding all_steps next_fill behind_fill
one_written = refl

pub one_round : exercise_line 1 1 ≡ line_saying 3 39 3048960 19
one_round = ap (λ (blocks : ℕ). line_saying 3 blocks (sum (bytes_behind (all_steps 1 1))) 19) one_written ∙ ap (λ (total : ℕ). line_saying 3 39 total 19) (sum_behind (all_steps 1 1) 3048960 one_sum)
