use Rattle.std.proofs.Common.{refl, sym, ◌∙◌, arith}
use Rattle.ddf_bay.specs.Logged.{zeros}
use Rattle.ddf_bay.specs.LoggedLaws.{past_later, past_sync, held_sync, sync_settles, newest_sync}
use Rattle.ddf_bay.specs.MemoryLaws.{becomes_then, same_remembers, sync_remembers, still_left, still_no_more, still_since, sync_left, sync_no_more, sync_since}
use Rattle.ddf_bay.specs.Memory.{state_of}
use Rattle.ddf_bay.proofs.MemorySteps.{becomes_still, counts_elsewhere, most_later, spends_still, within_later, within_raised}
use Rattle.ddf_bay.proofs.memory_calls.MemoryBayBay.sync.Goals as goal

pub invariant_of-self : goal.invariant_of-self
invariant_of-self c = record { few = c.args.self.now.few; small = c.args.self.now.small; past = past_later c.args.self.now.clock c.next-self.result c.args.self.now.log.logged.items c.next-self.ensures.least c.args.self.now.past; counted = c.args.self.now.counted; wanted = c.args.self.now.wanted; reads_within = within_later c.args.self.now.read_faults c.args.self.now.clock c.next-self.result c.next-self.ensures.least c.args.self.now.reads_within; writes_within = within_raised c.args.self.now.write_faults c.raise.new.counts c.args.slot c.args.self.now.clock c.next-self.result c.next-self.ensures.least c.next-self.ensures.value c.raise.ensures.most c.raise.ensures.others c.args.self.now.writes_within }

pub returns-then-fails-clause-left : goal.returns-then-fails-clause-left
returns-then-fails-clause-left c = still_left c.args.self.now.clock c.next-self.result c.args.self.now.log.logged.items c.args.self.now.past c.next-self.ensures.least c.next-self.ensures.more

pub returns-then-fails-clause-any_moment : goal.returns-then-fails-clause-any_moment
returns-then-fails-clause-any_moment c = record { later = c.next-self.ensures.least; since = still_since c.args.self.now.clock c.next-self.result c.args.self.now.log.logged.items c.args.self.now.past c.next-self.ensures.least c.next-self.ensures.more }

pub invariant_of-self-2 : goal.invariant_of-self-2
invariant_of-self-2 c = record {
  few = c.args.self.now.few;
  small = c.args.self.now.small;
  past = rw c.settle.ensures.logged (past_sync c.args.slot c.next-self.result c.args.self.now.log.logged.items (past_later c.args.self.now.clock c.next-self.result c.args.self.now.log.logged.items c.next-self.ensures.least c.args.self.now.past));
  counted = omega (arith, c.settle.ensures.room, c.args.self.now.counted);
  wanted = c.args.self.now.wanted;
  reads_within = within_later c.args.self.now.read_faults c.args.self.now.clock c.next-self.result c.next-self.ensures.least c.args.self.now.reads_within;
  writes_within = within_later c.args.self.now.write_faults c.args.self.now.clock c.next-self.result c.next-self.ensures.least c.args.self.now.writes_within;
}

pub returns-clause-durable : goal.returns-clause-durable
returns-clause-durable c = rw c.settle.ensures.logged (λ l v left. sync_settles c.args.self.now.log.logged.items c.args.slot c.next-self.result l v (past_later c.args.self.now.clock c.next-self.result c.args.self.now.log.logged.items c.next-self.ensures.least c.args.self.now.past) left.1 ∙ sym (newest_sync c.args.slot c.next-self.result c.args.self.now.log.logged.items c.args.slot l zeros))

pub returns-clause-held : goal.returns-clause-held
returns-clause-held c = rw c.settle.ensures.logged (held_sync c.args.self.now.log.logged.items c.args.slot c.next-self.result)

pub returns-clause-left : goal.returns-clause-left
returns-clause-left c = rw c.settle.ensures.logged (sync_left c.args.self.now.clock c.next-self.result c.args.slot c.args.self.now.log.logged.items c.args.self.now.past c.next-self.ensures.least c.next-self.ensures.more)

pub returns-clause-any_moment : goal.returns-clause-any_moment
returns-clause-any_moment c = record { later = c.next-self.ensures.least; since = rw c.settle.ensures.logged (sync_since c.args.self.now.clock c.next-self.result c.args.slot c.args.self.now.log.logged.items c.args.self.now.past c.next-self.ensures.least c.next-self.ensures.more) }

pub returns-then-fails-clause-remembers : goal.returns-then-fails-clause-remembers
returns-then-fails-clause-remembers c told = same_remembers c.args.self.now.clock c.next-self.result c.args.self.now.log.logged.items c.next-self.ensures.least told

pub returns-clause-remembers : goal.returns-clause-remembers
returns-clause-remembers c told = rw c.settle.ensures.logged (sync_remembers c.args.self.now.clock c.next-self.result c.args.slot c.args.self.now.log.logged.items c.next-self.ensures.least c.next-self.ensures.more told)

pub returns-then-fails-clause-spends : goal.returns-then-fails-clause-spends
returns-then-fails-clause-spends c =
    let bay = state_of c.args.self.now in
    let clock = c.next-self.ensures in
    let made = c.next-self-2.ensures in
    spends_still c.args.slot
    (λ next leads. becomes_then bay _ (state_of next) (becomes_still bay c.next-self.result c.next-self-2.result bay.room bay.failed_reads c.raise.new.counts bay.logged refl made.least (most_later bay.clock c.next-self.result bay.calls c.next-self-2.result clock.most made.more)
    (λ s plugged. refl) (counts_elsewhere bay c.args.slot c.fails-fails.result c.fails-fails.ensures c.if-fails.true bay.failed_writes c.raise.new.counts c.raise.ensures.others)
    (still_no_more bay _ c.args.self.now.past clock.least clock.more refl)) leads)
    (λ told. omega (arith, told, clock.least)) refl refl c.raise.ensures.kept c.raise.ensures.others refl refl made.least made.most

pub returns-clause-spends : goal.returns-clause-spends
returns-clause-spends c =
    let bay = state_of c.args.self.now in
    let clock = c.next-self.ensures in
    let made = c.next-self-2.ensures in
    let log = c.settle.new.self in
    spends_still c.args.slot
    (λ next leads. becomes_then bay _ (state_of next) (becomes_still bay c.next-self.result c.next-self-2.result log.room bay.failed_reads bay.failed_writes log.logged.items c.settle.ensures.room made.least (most_later bay.clock c.next-self.result bay.calls c.next-self-2.result clock.most made.more)
    (λ s plugged. refl) (λ s plugged. refl) (sync_no_more bay _ c.args.slot c.args.self.now.past clock.least clock.more c.settle.ensures.logged)) leads)
    (λ told. omega (arith, told, clock.least)) refl refl (λ s. omega arith) (λ s other. refl) refl refl made.least made.most
