-- What is read of a run of sectors.
use Rattle.std.proofs.Common.{◌≡◌, ℕ, zero, suc, ◌+◌, List, [], ◌∷◌, length, map, refl, ap, ◌∙◌, arith, add-zero}
use Rattle.std.specs.List.{range_with_len}
use Rattle.ddf_bay.specs.Sectors.{IsRead}

-- a run as it was read
pub run_is : (held : ℕ → List ℕ) (lba count : ℕ) (sectors : List (List ℕ)) → length sectors ≡ count → IsRead held lba sectors
    → sectors ≡ map held (range_with_len lba count)
run_is held lba zero [] long read = refl
run_is held lba (suc count) [] long read = cc
run_is held lba zero (sector ∷ sectors) long read = cc
run_is held lba (suc count) (sector ∷ sectors) long read =
    let here : sector ≡ held lba = read 0 (omega arith) ∙ ap held (add-zero lba) in
    let rest : sectors ≡ map held (range_with_len (lba + 1) count) = run_is held (lba + 1) count sectors (omega (arith, long)) (λ k lt. read (suc k) (omega (arith, lt)) ∙ ap held (omega arith)) in
    rw (here, rest) refl
