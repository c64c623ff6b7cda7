use Rattle.std.proofs.lemmas.Cmp.{nat_eq_equiv}
use Rattle.ddf_config.proofs.Entries.{fresh}
use Rattle.ddf_config.proofs.config.second_members.Goals as goal

pub put_last-requires : goal.put_last-requires
put_last-requires c =
    fresh _ nat_eq_equiv c.loop-reference.second.entries c.loop-reference.reference-iterator c.args.members.now.entries c.in-Some.reference.now c.in-Some.member.now c.next.new.self
    c.into_iter-reference-iterator.ensures.into_iter_gives.4 c.loop-reference.invariant c.in-Some.ensures.steps
