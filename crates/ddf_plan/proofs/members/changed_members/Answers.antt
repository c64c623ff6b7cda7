use Rattle.std.proofs.Common.{ℕ, Option, Some, refl}
use Rattle.std.proofs.lemmas.Cmp.{nat_eq_equiv}
use Rattle.ddf_config.specs.declared.member.Member.{Member}
use Rattle.ddf_config.proofs.Entries.{rebuilt_fresh}
use Rattle.ddf_plan.specs.Members.{member_after}
use Rattle.ddf_plan.proofs.members.changed_members.Goals as goal

pub put_last-requires : goal.put_last-requires
put_last-requires c =
    let change : ℕ → Member → Option Member = λ reference member. Some (member_after c.args.config.now c.args.change.now reference member) in
    rebuilt_fresh _ nat_eq_equiv change c.loop-reference.after.entries c.loop-reference.reference-iterator c.args.members.now.entries
    c.in-Some.reference.now c.in-Some.member.now _ c.next.new.self
    c.into_iter-reference-iterator.ensures.into_iter_gives.4 c.loop-reference.invariant c.in-Some.ensures.steps refl
