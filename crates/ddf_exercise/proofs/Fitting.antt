-- The steps of an exercise fit, and are few.
use Rattle.std.proofs.Common.{◌≡◌, ◌∙◌, ℕ, zero, suc, ◌+◌, ◌*◌, ◌%◌, ◌≤◌, true, List, [], ◌∷◌, ◌++◌, length, refl, ap, arith, length-append}
use Rattle.std.specs.Prelude.{IsTrue}
use Rattle.std.specs.List.{list_all}
use Rattle.std.proofs.lemmas.Bool.{le-leb, and_from}
use Rattle.std.proofs.lemmas.List.Folds.{list_all-append}
use Rattle.ddf_exercise.specs.Draws.{behind_fill, behind_fills, drawn, first_state, next_fill, next_state}
use Rattle.ddf_exercise.specs.Steps.{all_steps, first_steps, fits, loss_steps, write_steps}
use Rattle.ddf_exercise.specs.declared.steps.Step.{Step}
use Rattle.ddf_exercise.specs.declared.steps.Step.TheVariants.{Scrub, Write}

append_fits : (steps others : List Step) → list_all fits steps ≡ true → list_all fits others ≡ true → list_all fits (steps ++ others) ≡ true
append_fits steps others here there = list_all-append fits steps others ∙ and_from (list_all fits steps) (list_all fits others) here there

fill_within : (first second : ℕ) → first % 8177 + (1 + second % 16) ≤ 8192
fill_within first second = omega arith

fill_fits : (state : ℕ) → fits (Write (next_fill state)) ≡ true
unfolding next_fill
fill_fits state =
    le-leb (drawn (next_state state) % 8177 + (1 + drawn (next_state (next_state state)) % 16)) 8192 (fill_within (drawn (next_state state)) (drawn (next_state (next_state state))))

writes_fit : (rounds state : ℕ) → list_all fits (write_steps rounds state) ≡ true
writes_fit zero state = refl
writes_fit (suc rounds) state = and_from (fits (Write (next_fill state))) (list_all fits (write_steps rounds (behind_fill state))) (fill_fits state) (writes_fit rounds (behind_fill state))

pub all_fit : (seed rounds : ℕ) → IsTrue (list_all fits (all_steps seed rounds))
unfolding all_steps
all_fit seed rounds =
    let first = first_state seed in
    let second = behind_fills rounds first in
    let third = behind_fills rounds second in
    let a = first_steps ++ write_steps rounds first in
    let b = a ++ loss_steps 1 in
    let d = b ++ write_steps rounds second in
    let e = d ++ loss_steps 2 in
    let f = e ++ write_steps rounds third in
    append_fits f (Scrub ∷ [])
    (append_fits e (write_steps rounds third)
    (append_fits d (loss_steps 2)
    (append_fits b (write_steps rounds second) (append_fits a (loss_steps 1) (append_fits first_steps (write_steps rounds first) refl (writes_fit rounds first)) refl) (writes_fit rounds second))
    refl)
    (writes_fit rounds third))
    refl

writes_long : (rounds state : ℕ) → length (write_steps rounds state) ≡ rounds
writes_long zero state = refl
writes_long (suc rounds) state = ap suc (writes_long rounds (behind_fill state))

pub all_long : (seed rounds : ℕ) → length (all_steps seed rounds) ≡ 3 * rounds + 10
unfolding all_steps
all_long seed rounds =
    let first = first_state seed in
    let second = behind_fills rounds first in
    let third = behind_fills rounds second in
    let a = first_steps ++ write_steps rounds first in
    let b = a ++ loss_steps 1 in
    let d = b ++ write_steps rounds second in
    let e = d ++ loss_steps 2 in
    let f = e ++ write_steps rounds third in
    let in_a : length a ≡ 5 + length (write_steps rounds first) = length-append first_steps (write_steps rounds first) in
    let in_b : length b ≡ length a + 2 = length-append a (loss_steps 1) in
    let in_d : length d ≡ length b + length (write_steps rounds second) = length-append b (write_steps rounds second) in
    let in_e : length e ≡ length d + 2 = length-append d (loss_steps 2) in
    let in_f : length f ≡ length e + length (write_steps rounds third) = length-append e (write_steps rounds third) in
    let all : length (f ++ Scrub ∷ []) ≡ length f + 1 = length-append f (Scrub ∷ []) in
    let w1 = writes_long rounds first in
    let w2 = writes_long rounds second in
    let w3 = writes_long rounds third in
    omega (arith, in_a, in_b, in_d, in_e, in_f, all, w1, w2, w3)
