use Rattle.std.proofs.Common.{◌∙◌, ℕ, ap, length}
use Rattle.std.specs.Prelude.{nat_lt}
use Rattle.ddf_array.specs.Viewing.{is_seated}
use Rattle.ddf_text.proofs.Counts.{some_pass}
use Rattle.ddf_text.proofs.standing.has_enough.Goals as goal

pub returns-in-One : goal.returns-in-One
returns-in-One c =
    rw c.in-One.is (ap (λ (n : ℕ). nat_lt n (length c.args.positions.now)) c.count_away-away.ensures ∙ some_pass (is_seated c.args.seats.now) c.args.positions.now)
