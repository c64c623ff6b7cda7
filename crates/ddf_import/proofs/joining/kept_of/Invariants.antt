use Rattle.std.proofs.Common.{◌≡◌, ◌++◌}
use Rattle.ddf_config.specs.Entries.{changed_entries}
use Rattle.ddf_import.specs.Joined.{kept_member}
use Rattle.ddf_import.proofs.joining.kept_of.Given as goal

abbrev pub invariant-loop-reference : goal.invariant-loop-reference
invariant-loop-reference l = l.kept.entries ++ changed_entries (kept_member l.config) l.reference-iterator ≡ changed_entries (kept_member l.config) l.members.entries
