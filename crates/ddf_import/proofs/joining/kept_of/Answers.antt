use Rattle.std.proofs.lemmas.Cmp.{nat_eq_equiv}
use Rattle.ddf_config.proofs.Entries.{rebuilt_some}
use Rattle.ddf_import.specs.Joined.{kept_member}
use Rattle.ddf_import.proofs.joining.kept_of.Goals as goal

pub put_some-requires : goal.put_some-requires
put_some-requires c =
    rebuilt_some _ nat_eq_equiv (kept_member c.args.config.now) c.loop-reference.kept.entries c.loop-reference.reference-iterator c.args.members.now.entries
    c.in-Some.reference.now c.in-Some.member.now c.next.new.self c.in_ok-next.next
    c.into_iter-reference-iterator.ensures.into_iter_gives.4 c.loop-reference.invariant c.in-Some.ensures.steps c.in_ok-next.ensures
