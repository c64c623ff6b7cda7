use Rattle.std.proofs.lemmas.Cmp.{nat_list_eq_equiv}
use Rattle.ddf_config.proofs.Entries.{fresh}
use Rattle.ddf_import.proofs.joining.copied.Goals as goal

pub put_last-requires : goal.put_last-requires
put_last-requires c =
    fresh _ nat_list_eq_equiv c.loop-guid.copy.entries c.loop-guid.guid-iterator c.args.arrays.now.entries c.in-Some.guid.now c.in-Some.array.now c.next.new.self
    c.into_iter-guid-iterator.ensures.into_iter_gives.4 c.loop-guid.invariant c.in-Some.ensures.steps
