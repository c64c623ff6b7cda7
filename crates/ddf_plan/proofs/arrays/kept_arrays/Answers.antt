use Rattle.std.proofs.lemmas.Cmp.{nat_list_eq_equiv}
use Rattle.ddf_plan.specs.Arrays.{kept_array}
use Rattle.ddf_config.proofs.Entries.{rebuilt_some}
use Rattle.ddf_plan.proofs.arrays.kept_arrays.Goals as goal

pub put_some-requires : goal.put_some-requires
put_some-requires c =
    let change = kept_array c.args.revertible c.args.members.now.entries c.args.change.now in
    rebuilt_some _ nat_list_eq_equiv change c.loop-guid.after.entries c.loop-guid.guid-iterator c.args.arrays.now.entries
    c.in-Some.guid.now c.in-Some.array.now c.next.new.self c.in_ok-next.next
    c.into_iter-guid-iterator.ensures.into_iter_gives.4 c.loop-guid.invariant c.in-Some.ensures.steps c.in_ok-next.ensures
