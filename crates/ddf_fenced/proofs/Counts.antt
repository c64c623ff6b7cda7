-- Counts of faults before the first call.
use Rattle.std.proofs.Common.{◌≡◌, ℕ, Bool, List, true, replicate}
use Rattle.ddf_lemmas.proofs.Lists.{zero_first}
use Rattle.ddf_fenced.specs.Fences.{is_shut, own_or}

-- of a slot that is fenced
pub own_first : (shut : List Bool) (n : ℕ) (inner : ℕ → ℕ) (s : ℕ) → is_shut shut s ≡ true → own_or shut (replicate n 0) inner s ≡ 0
own_first shut n inner s is = rw is (zero_first n s)
