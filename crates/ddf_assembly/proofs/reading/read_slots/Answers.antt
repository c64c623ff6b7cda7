use Rattle.std.proofs.Common.{◌≡◌, ◌+◌, ◌<◌, ◌∙◌, ℕ, true, List, [], ◌∷◌, length, ap, sym, subst, arith, length-append, Option}
use Rattle.std.specs.Prelude.{IfSome, slice_index}
use Rattle.ddf_copy.specs.declared.newest_copy.Newest.{Newest}
use Rattle.ddf_copy.specs.Whole.{IsNewestCopy}
use Rattle.ddf_bay.proofs.Looks.{reads_then}
use Rattle.ddf_assembly.specs.Reading.{HasAnchor}
use Rattle.ddf_assembly.proofs.Anchored.{anchors_more}
use Rattle.ddf_assembly.proofs.Standing.{stand_more, stands_on}
use Rattle.ddf_assembly.proofs.Partway.{all_more, none_more, partway_cut, partway_more, partway_read}
use Rattle.ddf_assembly.proofs.reading.read_slots.Goals as goal

pub loop-slot-preserved : goal.loop-slot-preserved
loop-slot-preserved g c =
    let so_far = c.loop-slot.invariant in
    let read = c.in_ok-read.ensures.read in
    let gone : (g.B.Bay.disks c.args.bay.now).gone c.loop-slot.slot → read.out ≡ true = λ was. read.gone (g.met.B.Bay.stays_gone c.args.bay.now c.loop-slot.bay c.loop-slot.slot (so_far.reads.goes_on c.loop-slot.bay (g.met.B.Bay.leads c.loop-slot.bay)) was) in
    record {
      end = so_far.end;
      partway = rw (c.in_ok-put_slot.ensures.newest, c.in_ok-put_slot.ensures.left_out, read.left_out) (partway_more g.B.Bay.tells _ _ _ c.loop-slot.slot c.loop-slot.all.left_out.items c.loop-slot.all.newest.items read.out c.in_ok-read.read.newest so_far.partway so_far.reads.same_sizes so_far.reads.same_held read.look read.newest gone);
      none = rw (c.in_ok-put_slot.ensures.newest, c.in_ok-put_slot.ensures.left_out)
          (none_more c.loop-slot.all.left_out.items c.loop-slot.all.newest.items c.in_ok-read.read.left_out c.in_ok-read.read.newest (so_far.partway.slots ∙ sym so_far.counted) so_far.none read.none);
      reads = reads_then so_far.reads c.read_or_leave.ensures.reads;
      never_falls = λ slot. omega (arith, so_far.never_falls slot, read.look.reads.never_falls slot);
      writes_never_fall = λ slot. omega (arith, so_far.writes_never_fall slot, read.look.writes.never_falls slot);
      counted = rw c.in_ok-put_slot.ensures.newest (length-append c.loop-slot.all.newest.items (c.in_ok-read.read.newest ∷ []) ∙ ap (λ (n : ℕ). n + 1) so_far.counted);
      calls = let more = c.read_or_leave.ensures.calls in let before = so_far.calls in omega (arith, more, before);
      under = rw c.in_ok-put_slot.ensures.newest (anchors_more (g.B.Bay.disks c.args.bay.now).sizes c.loop-slot.all.newest.items c.loop-slot.slot c.in_ok-read.read.newest so_far.counted
          (omega (arith, c.loop-slot-test.true, so_far.end)) so_far.under (subst (λ (sizes : List ℕ). IfSome c.in_ok-read.read.newest (HasAnchor (slice_index sizes c.loop-slot.slot))) so_far.reads.same_sizes c.in_ok-read.ensures.under));
      stand = λ tells. rw c.in_ok-put_slot.ensures.newest (stand_more (g.B.Bay.disks c.args.bay.now) c.loop-slot.all.newest.items c.loop-slot.slot c.in_ok-read.read.newest so_far.counted (so_far.stand tells)
          (stands_on (g.B.Bay.disks c.args.bay.now) (g.B.Bay.disks c.loop-slot.bay) c.loop-slot.slot c.in_ok-read.read.newest so_far.reads.same_sizes so_far.reads.same_held (c.in_ok-read.ensures.stands tells)));
      writable = rw c.in_ok-put_slot.ensures.newest (all_more (λ (one : Option Newest). IfSome one IsNewestCopy) c.loop-slot.all.newest.items c.in_ok-read.read.newest so_far.writable c.in_ok-read.ensures.writable);
    }

pub returns-in_err-read-clause-looked : goal.returns-in_err-read-clause-looked
returns-in_err-read-clause-looked g c =
    let so_far = c.loop-slot.invariant in
    let read = c.read_or_leave.ensures.read in
    let gone : (g.B.Bay.disks c.args.bay.now).gone c.loop-slot.slot → read.out ≡ true = λ was. read.gone (g.met.B.Bay.stays_gone c.args.bay.now c.loop-slot.bay c.loop-slot.slot (so_far.reads.goes_on c.loop-slot.bay (g.met.B.Bay.leads c.loop-slot.bay)) was) in
    let below : c.loop-slot.slot < length (g.B.Bay.disks c.args.bay.now).sizes = omega (arith, c.loop-slot-test.true, so_far.end) in
    partway_cut g.B.Bay.tells _ _ _ c.loop-slot.slot c.loop-slot.all.left_out.items c.loop-slot.all.newest.items read.out so_far.partway so_far.reads.same_sizes so_far.reads.same_held read.look gone below

pub returns-in_err-put_slot-clause-looked : goal.returns-in_err-put_slot-clause-looked
returns-in_err-put_slot-clause-looked g c =
    let so_far = c.loop-slot.invariant in
    let read = c.read_or_leave.ensures.read in
    let gone : (g.B.Bay.disks c.args.bay.now).gone c.loop-slot.slot → read.out ≡ true = λ was. read.gone (g.met.B.Bay.stays_gone c.args.bay.now c.loop-slot.bay c.loop-slot.slot (so_far.reads.goes_on c.loop-slot.bay (g.met.B.Bay.leads c.loop-slot.bay)) was) in
    let below : c.loop-slot.slot < length (g.B.Bay.disks c.args.bay.now).sizes = omega (arith, c.loop-slot-test.true, so_far.end) in
    partway_cut g.B.Bay.tells _ _ _ c.loop-slot.slot c.loop-slot.all.left_out.items c.loop-slot.all.newest.items read.out so_far.partway so_far.reads.same_sizes so_far.reads.same_held read.look gone below

pub returns-clause-read : goal.returns-clause-read
returns-clause-read g c =
    let all : c.loop-slot.slot ≡ length (g.B.Bay.disks c.args.bay.now).sizes = omega (arith, c.loop-slot-test.false, c.loop-slot.auto.slot-end, c.loop-slot.invariant.end) in
    partway_read g.B.Bay.tells _ _ c.loop-slot.slot c.loop-slot.all.left_out.items c.loop-slot.all.newest.items all c.loop-slot.invariant.partway

pub returns-in_err-read-clause-never_falls : goal.returns-in_err-read-clause-never_falls
returns-in_err-read-clause-never_falls g c = λ slot. omega (arith, c.loop-slot.invariant.never_falls slot, c.read_or_leave.ensures.read.look.reads.never_falls slot)

pub returns-in_err-put_slot-clause-never_falls : goal.returns-in_err-put_slot-clause-never_falls
returns-in_err-put_slot-clause-never_falls g c = λ slot. omega (arith, c.loop-slot.invariant.never_falls slot, c.read_or_leave.ensures.read.look.reads.never_falls slot)

pub returns-in_err-read-clause-writes_never_fall : goal.returns-in_err-read-clause-writes_never_fall
returns-in_err-read-clause-writes_never_fall g c = λ slot. omega (arith, c.loop-slot.invariant.writes_never_fall slot, c.read_or_leave.ensures.read.look.writes.never_falls slot)

pub returns-in_err-put_slot-clause-writes_never_fall : goal.returns-in_err-put_slot-clause-writes_never_fall
returns-in_err-put_slot-clause-writes_never_fall g c = λ slot. omega (arith, c.loop-slot.invariant.writes_never_fall slot, c.read_or_leave.ensures.read.look.writes.never_falls slot)

pub returns-in_err-read-clause-calls : goal.returns-in_err-read-clause-calls
returns-in_err-read-clause-calls g c =
    let more = c.read_or_leave.ensures.calls in
    let before = c.loop-slot.invariant.calls in
    omega (arith, more, before, c.loop-slot-test.true, c.loop-slot.invariant.end)

pub returns-in_err-put_slot-clause-calls : goal.returns-in_err-put_slot-clause-calls
returns-in_err-put_slot-clause-calls g c =
    let more = c.read_or_leave.ensures.calls in
    let before = c.loop-slot.invariant.calls in
    omega (arith, more, before, c.loop-slot-test.true, c.loop-slot.invariant.end)

pub returns-clause-calls : goal.returns-clause-calls
returns-clause-calls g c =
    let before = c.loop-slot.invariant.calls in
    let all : c.loop-slot.slot ≡ length (g.B.Bay.disks c.args.bay.now).sizes = omega (arith, c.loop-slot-test.false, c.loop-slot.auto.slot-end, c.loop-slot.invariant.end) in
    omega (arith, before, all)
