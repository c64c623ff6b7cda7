-- The pieces of a run, from the front on.
use Rattle.std.proofs.Common.{◌≡◌, ℕ, ◌+◌, ◌-◌, ◌<◌, ◌≤◌, zero, suc, List, [], ◌∷◌, true, false, get_or, drop, refl, ◌∙◌, ap, arith}
use Rattle.std.proofs.lemmas.List.{get_or-drop}
use Rattle.std.proofs.lemmas.Bool.{ne_eqb}
use Rattle.std.specs.Prelude.{◌==◌}
use Rattle.ddf_lemmas.proofs.Tests.{begins_then}
use Rattle.ddf_linux.specs.declared.kind.SlotKind.{SlotKind}
use Rattle.ddf_linux.specs.Kinds.{turns}
use Rattle.ddf_linux.specs.Pieces.{begins_at, pieces_below, turns_at}

-- a run of one sector
pub pieces_one : (kind : SlotKind) (lba : ℕ) (sector : List ℕ) → pieces_below kind lba (sector ∷ []) 1 ≡ 1
unfolding pieces_below
pieces_one kind lba sector = refl

module _ (kind : SlotKind) (lba : ℕ) (sectors : List (List ℕ)) where
  -- a sector of what is left of a run
  rest_turns : (done k : ℕ) → turns_at kind (lba + done) (drop done sectors) k ≡ turns_at kind lba sectors (done + k)
  rest_turns done k =
      let at : lba + done + k ≡ lba + (done + k) = omega arith in
      ap (λ (l : ℕ). turns kind l (get_or (drop done sectors) k [])) at ∙ ap (turns kind (lba + (done + k))) (get_or-drop done sectors k [])

  -- where a piece begins there, it begins in the run
  pub rest_begins : (done n : ℕ) → 0 < n → begins_at kind (lba + done) (drop done sectors) n ≡ true → begins_at kind lba sectors (done + n) ≡ true
  rest_begins done n some begins =
      let here = rest_turns done n in
      let one : done + (n - 1) ≡ done + n - 1 = omega (arith, some) in
      let before : turns_at kind (lba + done) (drop done sectors) (n - 1) ≡ turns_at kind lba sectors (done + n - 1) = rest_turns done (n - 1) ∙ ap (turns_at kind lba sectors) one in
      let later : (n == 0) ≡ false = ne_eqb n 0 (λ e. omega (arith, e, some)) in
      begins_then (n == 0) _ _ (done + n == 0) _ _ later here before begins

  pub pieces_up : (n m : ℕ) → pieces_below kind lba sectors n ≤ pieces_below kind lba sectors (n + m)
  unfolding pieces_below
  pieces_up n zero = let same : n + zero ≡ n = omega arith in rw same (omega arith)
  pieces_up n (suc m) =
      let next : n + suc m ≡ suc (n + m) = omega arith in
      let so_far = pieces_up n m in
      rw next (omega (arith, so_far))

  -- a piece more
  pub pieces_more : (n m : ℕ) → 0 < m → begins_at kind lba sectors n ≡ true → pieces_below kind lba sectors n + 1 ≤ pieces_below kind lba sectors (n + m)
  unfolding pieces_below
  pieces_more n m some begins =
      let one : pieces_below kind lba sectors (suc n) ≡ pieces_below kind lba sectors n + 1 = rw begins refl in
      let at : suc n + (m - 1) ≡ n + m = omega (arith, some) in
      let up : pieces_below kind lba sectors (suc n) ≤ pieces_below kind lba sectors (n + m) = rw at at (pieces_up (suc n) (m - 1)) in
      omega (arith, one, up)
