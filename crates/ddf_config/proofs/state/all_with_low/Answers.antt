use Rattle.std.proofs.Common.{ℕ, List, Option, Some, refl}
use Rattle.std.proofs.lemmas.Cmp.{nat_list_eq_equiv}
use Rattle.ddf_config.specs.declared.array.Array.{Array}
use Rattle.ddf_config.specs.States.{array_with_low}
use Rattle.ddf_config.proofs.Entries.{rebuilt_fresh}
use Rattle.ddf_config.proofs.state.all_with_low.Goals as goal

pub put_last-requires : goal.put_last-requires
put_last-requires c =
    let change : List ℕ → Array → Option Array = λ guid array. Some (array_with_low c.args.members.now.entries c.args.all.now array) in
    rebuilt_fresh _ nat_list_eq_equiv change c.loop-guid.after.entries c.loop-guid.guid-iterator c.args.arrays.entries c.in-Some.guid c.in-Some.array _ c.next.new.self
    c.into_iter-guid-iterator.ensures.into_iter_gives.4 c.loop-guid.invariant c.in-Some.ensures.steps refl
