use Rattle.std.proofs.Common.{nat_eq, ◌++◌}
use Rattle.std.proofs.lemmas.Cmp.{nat_eq_equiv}
use Rattle.ddf_import.proofs.Steps.{left_fresh, member_put}
use Rattle.ddf_import.proofs.joining.push_members.Goals as goal

pub loop-reference-preserved : goal.loop-reference-preserved
loop-reference-preserved c =
    let after = c.loop-reference.after.entries in
    let rest = c.loop-reference.reference-iterator in
    let tail = c.next.new.self in
    let new = c.put_last.new.table.entries in
    let left = left_fresh nat_eq nat_eq_equiv after rest tail new c.in-Some.reference.now c.in-Some.member.now c.in_ok-copy.copy c.in-Some.ensures.steps c.in_ok-put_last.ensures.put
    c.loop-reference.invariant.fresh c.loop-reference.invariant.apart in
    record {
      made = member_put after rest tail new (c.args.after.now.entries ++ c.args.joining.now.entries) c.in-Some.reference.now c.in-Some.member.now c.in_ok-copy.copy c.in-Some.ensures.steps c.in_ok-copy.ensures
          c.in_ok-put_last.ensures.put c.loop-reference.invariant.made;
      fresh = left.0;
      apart = left.1;
    }
