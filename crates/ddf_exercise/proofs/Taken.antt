-- Steps that are taken one after another.
use Rattle.std.proofs.Common.{◌≡◌, ◌≢◌, ℕ, ◌+◌, ◌<◌, ◌≤◌, ◌==◌, Bool, true, false, List, [], length, length-drop, get_or, drop, refl, sym, subst, arith}
use Rattle.std.proofs.lemmas.Bool.{eq-eqb, ne_eqb}
use Rattle.std.proofs.lemmas.List.{drop_more, nil_from_length}
use Rattle.ddf_bytes.specs.declared.stamp.Stamp.{Stamp}
use Rattle.ddf_bay.specs.declared.memory.MemoryBay.{MemoryBay}
use Rattle.ddf_exercise.specs.Steps.{rise}
use Rattle.ddf_exercise.specs.Taking.{AreTaken, Going, IsTried}
use Rattle.ddf_exercise.specs.declared.steps.Step.{Step}

drop_all : (steps : List Step) (n : ℕ) → length steps ≤ n → drop n steps ≡ []
drop_all steps n all = nil_from_length (drop n steps) (omega (arith, length-drop n steps))

module _ (stamp : Stamp) (steps : List Step) (start now : MemoryBay) (sequence n : ℕ) where
  -- However the others are taken, all are.
  abbrev pub SoFar : Type 0
  SoFar = (new : MemoryBay) (code : ℕ) → AreTaken stamp sequence (drop n steps) now new code → AreTaken stamp 0 steps start new code

  -- none is left
  pub taken_all : SoFar → length steps ≤ n → AreTaken stamp 0 steps start now 0
  taken_all so_far all = so_far now 0 (subst (λ (some : List Step). AreTaken stamp sequence some now now 0) (sym (drop_all steps n all)) (refl, refl))

  module _ (so_far : SoFar) (d : Step) (next : MemoryBay) (by code : ℕ) (below : n < length steps) (is_rise : by ≡ rise (get_or steps n d)) (tried : IsTried stamp (get_or steps n d) (sequence + by) now next code) where
    abbrev step : Step
    step = get_or steps n d

    abbrev others : List Step
    others = drop (n + 1) steps

    as_rise : IsTried stamp step (sequence + rise step) now next code
    as_rise = subst (λ (raised : ℕ). IsTried stamp step (sequence + raised) now next code) is_rise tried

    -- behind this one the next follows
    pub taken_on : code ≡ 0 → (new : MemoryBay) (last : ℕ) → AreTaken stamp (sequence + by) others next new last → AreTaken stamp 0 steps start new last
    taken_on is new last follow =
        let goes : (code == 0) ≡ true = eq-eqb code 0 is in
        so_far new last (subst (λ (some : List Step). AreTaken stamp sequence some now new last) (sym (drop_more steps n d below)) (
          next,
          code,
          as_rise,
          subst (λ (going : Bool). Going going (AreTaken stamp (sequence + rise step) others next new last) ((new ≡ next) × (last ≡ code))) (sym goes)
              (subst (λ (raised : ℕ). AreTaken stamp (sequence + raised) others next new last) is_rise follow),
        ))

    -- this one is the last
    pub taken_stop : code ≢ 0 → AreTaken stamp 0 steps start next code
    taken_stop not_done =
        let stops : (code == 0) ≡ false = ne_eqb code 0 not_done in
        so_far next code (subst (λ (some : List Step). AreTaken stamp sequence some now next code) (sym (drop_more steps n d below)) (
          next,
          code,
          as_rise,
          subst (λ (going : Bool). Going going (AreTaken stamp (sequence + rise step) others next next code) ((next ≡ next) × (code ≡ code))) (sym stops) (refl, refl),
        ))
