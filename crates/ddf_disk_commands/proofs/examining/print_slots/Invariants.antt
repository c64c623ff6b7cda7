use Rattle.std.proofs.Common.{◌≡◌, length}
use Rattle.ddf_bytes.specs.Streams.{SinkSame}
use Rattle.ddf_bay.specs.ReadsOnly.{ReadsOnly}
use Rattle.ddf_disk_commands.proofs.Partway.{IsPartway}
use Rattle.ddf_disk_commands.proofs.examining.print_slots.Given as goal

abbrev pub invariant-loop-slot : goal.invariant-loop-slot
invariant-loop-slot g l = record {
  end : l.slot-end ≡ length (g.B.Bay.disks l.initial.bay).sizes;
  partway : IsPartway (g.B.Bay.disks l.initial.bay) (g.B.Bay.disks l.bay) l.slot (g.B.Bay.tells × g.K.Sink.tells) (g.K.Sink.output l.initial.sink) (g.K.Sink.output l.sink) l.fault;
  reads : ReadsOnly (g.B.Bay.disks l.initial.bay) (g.B.Bay.disks l.bay);
  output : SinkSame (g.K.Sink.output l.initial.sink) (g.K.Sink.output l.sink);
}
