use Rattle.std.proofs.Common.{◌≡◌, ◌≢◌, ◌≤◌, ◌<◌, ◌*◌, ◌+◌, ℕ, true, false, length, refl, ◌∙◌, arith}
use Rattle.std.proofs.Math.ListN.{length-set}
use Rattle.ddf_bay.specs.State.{size_of}
use Rattle.ddf_bay.proofs.Looks.{reads_start, reads_then}
use Rattle.ddf_bay.proofs.Steps.{over_start, over_then, over_most, over_reads}
use Rattle.ddf_bay.proofs.Fronts.{remembers_then}
use Rattle.ddf_shortened.specs.declared.ends.SlotEnd.{SlotEnd}
use Rattle.ddf_shortened.specs.SlotEnds.{ends_early, end_at, is_early, is_unread}
use Rattle.ddf_shortened.proofs.Below.{ends_more, every_more, none_early, none_unread, read_more, unread_more, unread_whole}
use Rattle.ddf_shortened.proofs.shortened.Shortened.new.Goals as goal

pub loop-slot-init : goal.loop-slot-init
loop-slot-init g c = record {
  end = c.slots-slot-end.ensures.slots;
  long = refl;
  reads = reads_start (g.B.Bay.disks c.args.inner);
  remembers = λ tells t image le left. left;
  spends = over_start (g.B.Bay.disks c.args.inner);
  writes = refl;
  later = λ s le. refl;
  exact = λ tells s lt. absurd (omega (arith, lt));
  large = λ s is. let none = none_early 64 s in absurd cc;
  unread = λ s is. let none = none_unread 64 s in absurd cc;
  read = λ s is. refl;
}

pub loop-slot-preserved : goal.loop-slot-preserved
loop-slot-preserved g c =
    let old = g.B.Bay.disks c.args.inner in
    let now = g.B.Bay.disks c.loop-slot.inner in
    let new = g.B.Bay.disks c.look.new.inner in
    let so_far = c.loop-slot.invariant in
    let slot = c.loop-slot.slot in
    let ends = c.loop-slot.ends in
    let end = c.look.result in
    let looks = c.look.ensures.looks in
    let here : slot ≤ slot = omega arith in
    let few : slot < length ends = omega (arith, so_far.long, so_far.end, c.slots-slot-end.ensures.few, c.loop-slot-test.true) in
    record {
      end = so_far.end;
      long = length-set ends slot end ∙ so_far.long;
      reads = reads_then so_far.reads looks.reads;
      remembers = remembers_then old now new so_far.remembers looks.remembers looks.spends.told so_far.reads.any_moment.later;
      spends = over_most 0 (2 * (slot + 1)) (over_then so_far.spends (over_reads looks.spends)) (omega arith) (omega arith);
      writes = looks.spends.same ∙ so_far.writes;
      later = λ s le. let above : s ≢ slot = λ e. omega (arith, e, le) in let before : slot ≤ s = omega (arith, le) in looks.spends.other_slots s above ∙ so_far.later s before;
      exact = λ tells. ends_more ends slot end few
          (λ (s : ℕ) (e : SlotEnd). is_unread e ≡ false → is_early e ≡ ends_early (size_of old s) (old.held s))
          (so_far.exact tells)
          (rw (so_far.reads.same_sizes, so_far.reads.same_held) at (c.look.ensures.exact tells));
      large = every_more ends slot end few
          (λ (s : ℕ) (e : SlotEnd). is_early e ≡ true → 257 < size_of old s)
          so_far.large
          (rw so_far.reads.same_sizes at c.look.ensures.large);
      unread = unread_more ends slot end few old.failed_reads now.failed_reads new.failed_reads so_far.spends.reads_rise looks.spends.rises so_far.unread c.look.ensures.rose;
      read = read_more ends slot end few old.failed_reads now.failed_reads new.failed_reads so_far.read (so_far.later slot here) looks.spends.other_slots c.look.ensures.same;
    }

pub returns-clause-whole : goal.returns-clause-whole
returns-clause-whole g c = λ s is. unread_whole (end_at c.loop-slot.ends s) is
