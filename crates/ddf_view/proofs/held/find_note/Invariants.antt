use Rattle.std.proofs.Common.{◌≡◌, drop}
use Rattle.std.specs.Option.{option_copied}
use Rattle.ddf_view.specs.View.{held_from, find_note}
use Rattle.ddf_view.proofs.held.find_note.Given as goal

abbrev pub invariant-loop-place : goal.invariant-loop-place
invariant-loop-place l =
    find_note l.array l.index (held_from (option_copied l.notes) l.place (drop l.place l.slots)) ≡ find_note l.array l.index (held_from (option_copied l.notes) 0 l.slots)
