use Rattle.std.proofs.Common.{◌≡◌, ◌≢◌, ◌≤◌, ◌<◌, ℕ, false, length, refl, ◌∙◌, arith}
use Rattle.std.proofs.Math.ListN.{length-set}
use Rattle.ddf_bay.proofs.Looks.{reads_start, reads_then}
use Rattle.ddf_bay.proofs.Steps.{over_start, over_then, over_reads}
use Rattle.ddf_bay.proofs.Fronts.{remembers_then}
use Rattle.ddf_linux.specs.declared.kind.SlotKind.{SlotKind}
use Rattle.ddf_linux.specs.Kinds.{IsSeenAs, is_unread}
use Rattle.ddf_linux.proofs.Below.{kind_kept, kinds_more, unread_more, read_more, none_unread, own_first}
use Rattle.ddf_linux.proofs.turned.Turned.new.Goals as goal

pub loop-slot-init : goal.loop-slot-init
loop-slot-init g c = record {
  end = c.slots-slot-end.ensures.slots;
  long = refl;
  reads = reads_start (g.B.Bay.disks c.args.inner);
  remembers = λ tells t image le left. left;
  spends = over_start (g.B.Bay.disks c.args.inner);
  writes = refl;
  later = λ s le. refl;
  kinds = λ tells s lt. absurd (omega (arith, lt));
  unread = λ s is. none_unread 64 s is;
  read = λ s is. refl;
}

pub loop-slot-preserved : goal.loop-slot-preserved
loop-slot-preserved g c =
    let old = g.B.Bay.disks c.args.inner in
    let now = g.B.Bay.disks c.loop-slot.inner in
    let new = g.B.Bay.disks c.look.new.inner in
    let so_far = c.loop-slot.invariant in
    let slot = c.loop-slot.slot in
    let kinds = c.loop-slot.kinds in
    let kind = c.look.result in
    let here : slot ≤ slot = omega arith in
    let few : slot < length kinds = omega (arith, so_far.long, so_far.end, c.slots-slot-end.ensures.few, c.loop-slot-test.true) in
    record {
      end = so_far.end;
      long = length-set kinds slot kind ∙ so_far.long;
      reads = reads_then so_far.reads c.look.ensures.reads;
      remembers = remembers_then old now new so_far.remembers c.look.ensures.remembers c.look.ensures.spends.told so_far.reads.any_moment.later;
      spends = over_then so_far.spends (over_reads c.look.ensures.spends);
      writes = c.look.ensures.spends.same ∙ so_far.writes;
      later = λ s le. let above : s ≢ slot = λ e. omega (arith, e, le) in let before : slot ≤ s = omega (arith, le) in c.look.ensures.spends.other_slots s above ∙ so_far.later s before;
      kinds = λ tells. kinds_more kinds slot kind few
          (λ (s : ℕ) (k : SlotKind). is_unread k ≡ false → IsSeenAs c.args.founds old s k)
          (so_far.kinds tells)
          (λ read. kind_kept c.args.founds old now slot kind so_far.reads (c.look.ensures.kind tells read));
      unread = unread_more kinds slot kind few old.failed_reads now.failed_reads new.failed_reads so_far.spends.reads_rise c.look.ensures.spends.rises so_far.unread c.look.ensures.rose;
      read = read_more kinds slot kind few old.failed_reads now.failed_reads new.failed_reads so_far.read (so_far.later slot here) c.look.ensures.spends.other_slots c.look.ensures.same;
    }

pub returns-clause-faults : goal.returns-clause-faults
returns-clause-faults g c = λ s is. (
  own_first c.loop-slot.kinds 64 (g.B.Bay.disks c.loop-slot.inner).failed_reads s is,
  own_first c.loop-slot.kinds 64 (g.B.Bay.disks c.loop-slot.inner).failed_writes s is,
)
