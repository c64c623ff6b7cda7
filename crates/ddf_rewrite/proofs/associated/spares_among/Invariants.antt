use Rattle.std.proofs.Common.{◌≡◌, ◌++◌, filter, map}
use Rattle.ddf_rewrite.specs.Elements.{is_spare_for}
use Rattle.ddf_rewrite.proofs.associated.spares_among.Given as goal

abbrev pub invariant-loop-reference : goal.invariant-loop-reference
invariant-loop-reference l =
    l.spares.items ++ map (λ entry. entry.0) (filter (λ entry. is_spare_for l.array entry.1.spare) l.reference-iterator)
    ≡ map (λ entry. entry.0) (filter (λ entry. is_spare_for l.array entry.1.spare) l.members.entries)
