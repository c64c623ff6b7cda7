use Rattle.std.proofs.Common.{◌≡◌, ℕ, ◌++◌, None, nat_eq}
use Rattle.std.specs.Map.{keys_of, lookup}
use Rattle.std.specs.List.{AllByRecursion, IsDistinct}
use Rattle.ddf_config.specs.declared.member.Member.{Member}
use Rattle.ddf_import.proofs.joining.push_members.Given as goal

abbrev pub invariant-loop-reference : goal.invariant-loop-reference
invariant-loop-reference l = record {
  made : l.after.entries ++ l.reference-iterator ≡ l.fn.after.entries ++ l.joining.entries;
  fresh : AllByRecursion (λ (entry : ℕ × Member). lookup (nat_eq entry.0) l.after.entries ≡ None) l.reference-iterator;
  apart : IsDistinct nat_eq (keys_of l.reference-iterator);
}
