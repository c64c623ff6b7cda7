-- What several crates above ask of the definitions of this one.
use Rattle.std.proofs.Common.{List, [], ap, filter, refl, suc, zero, ℕ, ◌+◌, ◌∷◌, ◌≡◌}
use Rattle.std.specs.List.{range_with_len}
use Rattle.ddf_disk_commands.specs.LabelRefusal.{is_chosen}

pub all_chosen : (a n : ℕ) → filter (is_chosen []) (range_with_len a n) ≡ range_with_len a n
all_chosen a zero = refl
all_chosen a (suc n) = ap (λ (rest : List ℕ). a ∷ rest) (all_chosen (a + 1) n)
