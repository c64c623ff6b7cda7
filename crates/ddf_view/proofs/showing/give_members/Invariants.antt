use Rattle.std.proofs.Common.{◌≡◌, filter_map}
use Rattle.std.specs.Cmp.Lexicographic.{pointwise}
use Rattle.ddf_view.specs.View.{disk_of}
use Rattle.ddf_view.specs.Shows.{gives_member}
use Rattle.ddf_view.proofs.showing.give_members.Given as goal

abbrev pub invariant-loop-reference : goal.invariant-loop-reference
invariant-loop-reference l = pointwise gives_member (filter_map disk_of l.left) l.reference-iterator ≡ pointwise gives_member (filter_map disk_of l.rows) l.members.entries
