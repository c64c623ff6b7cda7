-- Steps that fit, and the sum of blocks one after another.
use Rattle.std.proofs.Common.{◌≡◌, ◌∙◌, ℕ, ◌+◌, ◌*◌, ◌<◌, List, length, get_or, drop, sym, ap, arith}
use Rattle.std.specs.Prelude.{IsTrue}
use Rattle.std.specs.List.{list_all, sum}
use Rattle.std.proofs.lemmas.Bool.{true_from_ne_false, true≢false}
use Rattle.std.proofs.lemmas.List.{drop_more}
use Rattle.std.proofs.lemmas.List.Folds.{list_all_at, sum_by-replicate}
use Rattle.std.proofs.lemmas.List.Sums.{sum_by-append}
use Rattle.ddf_exercise.specs.Blocks.{block_of, bytes_of_blocks}
use Rattle.ddf_exercise.specs.Steps.{fits}
use Rattle.ddf_exercise.specs.declared.steps.Step.{Step}

pub fits_at : (steps : List Step) (i : ℕ) (d : Step) → i < length steps → IsTrue (list_all fits steps) → IsTrue (fits (get_or steps i d))
fits_at steps i d below all = true_from_ne_false (fits (get_or steps i d)) (λ no. true≢false (sym all ∙ list_all_at fits steps i d below no))

pub sum_block : (byte : ℕ) → sum (block_of byte) ≡ 512 * byte
unfolding block_of
sum_block byte = sum_by-replicate (λ (x : ℕ). x) 512 byte

-- The bytes of one block more are summed of those that are to come.
pub sum_on : (blocks : List ℕ) (i total new all : ℕ) → i < length blocks → total + sum (bytes_of_blocks (drop i blocks)) ≡ all → new ≡ total + 512 * get_or blocks i 0
    → new + sum (bytes_of_blocks (drop (i + 1) blocks)) ≡ all
sum_on blocks i total new all below so_far is_new =
    let rest = bytes_of_blocks (drop (i + 1) blocks) in
    let parts : sum (bytes_of_blocks (drop i blocks)) ≡ sum (block_of (get_or blocks i 0)) + sum rest =
    ap (λ (some : List ℕ). sum (bytes_of_blocks some)) (drop_more blocks i 0 below) ∙ sum_by-append (λ (x : ℕ). x) (block_of (get_or blocks i 0)) rest in
    let block : sum (block_of (get_or blocks i 0)) ≡ 512 * get_or blocks i 0 = sum_block (get_or blocks i 0) in
    omega arith
