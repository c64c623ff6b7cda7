use Rattle.std.proofs.Common.{◌≡◌, drop}
use Rattle.std.specs.Option.{option_copied}
use Rattle.ddf_view.specs.View.{held_from, find_held}
use Rattle.ddf_view.proofs.held.find_held.Given as goal

abbrev pub invariant-loop-place : goal.invariant-loop-place
invariant-loop-place l =
    find_held l.array l.index (held_from (option_copied l.notes) l.place (drop l.place l.slots)) ≡ find_held l.array l.index (held_from (option_copied l.notes) 0 l.slots)
