use Rattle.std.proofs.Common.{◌≡◌, ◌++◌, Some}
use Rattle.ddf_config.specs.Entries.{changed_entries}
use Rattle.ddf_plan.specs.Members.{member_after}
use Rattle.ddf_plan.proofs.members.changed_members.Given as goal

abbrev pub invariant-loop-reference : goal.invariant-loop-reference
invariant-loop-reference l =
    l.after.entries ++ changed_entries (λ reference member. Some (member_after l.config l.change reference member)) l.reference-iterator
    ≡ changed_entries (λ reference member. Some (member_after l.config l.change reference member)) l.members.entries
