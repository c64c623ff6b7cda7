use Rattle.std.proofs.Common.{◌≡◌, ◌++◌}
use Rattle.std.specs.String.{string_bytes}
use Rattle.ddf_text.specs.GroupText.{array_lines}
use Rattle.ddf_text.proofs.group.push_each.Given as goal

abbrev pub invariant-loop-guid : goal.invariant-loop-guid
invariant-loop-guid l =
    string_bytes l.text ++ array_lines l.basis l.members.entries l.seats l.all l.guid-iterator
    ≡ string_bytes l.initial.text ++ array_lines l.basis l.members.entries l.seats l.all l.arrays.entries
