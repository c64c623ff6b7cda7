use Rattle.std.proofs.Common.{◌++◌}
use Rattle.std.proofs.lemmas.Cmp.{nat_list_eq_equiv}
use Rattle.ddf_config.specs.Members.{same_guid}
use Rattle.ddf_import.specs.Joined.{numbered}
use Rattle.ddf_import.proofs.Steps.{array_put, left_fresh, still_few}
use Rattle.ddf_import.proofs.joining.push_arrays.Goals as goal

pub loop-guid-preserved : goal.loop-guid-preserved
loop-guid-preserved c =
    let after = c.loop-guid.after.entries in
    let taken = c.loop-guid.taken.items in
    let rest = c.loop-guid.guid-iterator in
    let tail = c.next.new.self in
    let new = c.put_last.new.table.entries in
    let more = c.push.new.self.items in
    let number = c.number_of-number.result in
    let given = rw c.as_slice.ensures.value at c.number_of-number.ensures in
    let left = left_fresh same_guid nat_list_eq_equiv after rest tail new c.in-Some.guid.now c.in-Some.array.now c.in_ok-next.next c.in-Some.ensures.steps c.in_ok-put_last.ensures.put
    c.loop-guid.invariant.fresh c.loop-guid.invariant.apart in
    record {
      made = array_put after rest tail new (c.args.after.now.entries ++ numbered c.args.taken.now.items c.args.joining.now.entries) c.in-Some.guid.now c.in-Some.array.now c.in_ok-next.next taken more number c.in-Some.ensures.steps
          c.in_ok-next.ensures given c.in_ok-put_last.ensures.put c.in_ok-push.ensures.items c.loop-guid.invariant.made;
      few = still_few rest tail c.in-Some.guid.now c.in-Some.array.now taken more number c.in-Some.ensures.steps c.in_ok-push.ensures.items c.loop-guid.invariant.few;
      fresh = left.0;
      apart = left.1;
    }
