use Rattle.std.proofs.Common.{◌≡◌, ◌++◌}
use Rattle.std.specs.String.{string_bytes}
use Rattle.ddf_text.specs.GroupText.{member_lines}
use Rattle.ddf_text.proofs.group.push_members.Given as goal

abbrev pub invariant-loop-reference : goal.invariant-loop-reference
invariant-loop-reference l =
    string_bytes l.text ++ member_lines l.seats l.lagging l.reference-iterator ≡ string_bytes l.initial.text ++ member_lines l.seats l.lagging l.members.entries
