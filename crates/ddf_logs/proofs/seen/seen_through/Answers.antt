use Rattle.ddf_logs.proofs.Made.{never_refused}
use Rattle.ddf_logs.proofs.seen.seen_through.Goals as goal

pub unreachable-requires : goal.unreachable-requires
unreachable-requires g c =
    never_refused g.B.Bay.disks c.args.inner c.look_at_all.new.bay c.new.result _ _ _ c.new.ensures.inner c.in-Ok.ensures.reads.same_sizes c.in-Ok.ensures.every_slot
    c.in-Ok.ensures.looks c.in-Err-new.ensures.made
