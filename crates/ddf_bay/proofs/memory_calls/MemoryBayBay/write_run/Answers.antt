use Rattle.std.proofs.Common.{arith, inl, inr, ⊎_elim}
use Rattle.std.proofs.lemmas.Grind.{common_steps}
use Rattle.ddf_bay.specs.LoggedLaws.{past_later, past_added, held_run}
use Rattle.ddf_bay.specs.MemoryLaws.{same_remembers, run_remembers, still_left, still_since, run_left, run_since}
use Rattle.ddf_bay.proofs.MemorySteps.{within_later, within_raised}
use Rattle.ddf_bay.proofs.memory_calls.MemoryBayBay.write_run.Goals as goal

pub invariant_of-self : goal.invariant_of-self
invariant_of-self c = record { few = c.args.self.now.few; small = c.args.self.now.small; past = past_later c.args.self.now.clock c.next-self.result c.args.self.now.log.logged.items c.next-self.ensures.least c.args.self.now.past; counted = c.args.self.now.counted; wanted = grind (arith, common_steps, c.saturating_add-self.ensures, c.args.self.now.wanted, c.args.self.now.counted); reads_within = within_later c.args.self.now.read_faults c.args.self.now.clock c.next-self.result c.next-self.ensures.least c.args.self.now.reads_within; writes_within = within_raised c.args.self.now.write_faults c.raise.new.counts c.args.slot c.args.self.now.clock c.next-self.result c.next-self.ensures.least c.next-self.ensures.value c.raise.ensures.most c.raise.ensures.others c.args.self.now.writes_within }

pub returns-then-fails-clause-left : goal.returns-then-fails-clause-left
returns-then-fails-clause-left c = λ s l v left. inl (still_left c.args.self.now.clock c.next-self.result c.args.self.now.log.logged.items c.args.self.now.past c.next-self.ensures.least c.next-self.ensures.more s l v left)

pub returns-then-fails-clause-any_moment : goal.returns-then-fails-clause-any_moment
returns-then-fails-clause-any_moment c = record { later = c.next-self.ensures.least; since = λ t image le left. ⊎_elim inl (λ now. inr (λ s l. inl (now s l))) (still_since c.args.self.now.clock c.next-self.result c.args.self.now.log.logged.items c.args.self.now.past c.next-self.ensures.least c.next-self.ensures.more t image le left) }

pub invariant_of-self-2 : goal.invariant_of-self-2
invariant_of-self-2 c = record {
  few = c.args.self.now.few;
  small = c.args.self.now.small;
  past = rw c.push.ensures.logged (past_added c.next-self.result c.args.self.now.log.logged.items c.args.slot c.args.lba c.args.from.now (past_later c.args.self.now.clock c.next-self.result c.args.self.now.log.logged.items c.next-self.ensures.least c.args.self.now.past));
  counted = omega (arith, c.push.ensures.room, c.args.self.now.counted);
  wanted = grind (arith, common_steps, c.saturating_add-self.ensures, c.args.self.now.wanted, c.args.self.now.counted);
  reads_within = within_later c.args.self.now.read_faults c.args.self.now.clock c.next-self.result c.next-self.ensures.least c.args.self.now.reads_within;
  writes_within = within_later c.args.self.now.write_faults c.args.self.now.clock c.next-self.result c.next-self.ensures.least c.args.self.now.writes_within;
}

pub returns-clause-held : goal.returns-clause-held
returns-clause-held c = rw c.push.ensures.logged (held_run c.args.self.now.log.logged.items c.args.slot c.args.lba c.next-self.result c.args.from.now)

pub returns-clause-left : goal.returns-clause-left
returns-clause-left c = rw c.push.ensures.logged (run_left c.args.self.now.clock c.next-self.result c.args.self.now.log.logged.items c.args.slot c.args.lba c.args.from.now c.args.self.now.past c.next-self.ensures.least c.next-self.ensures.more)

pub returns-clause-any_moment : goal.returns-clause-any_moment
returns-clause-any_moment c = record { later = c.next-self.ensures.least; since = rw c.push.ensures.logged (run_since c.args.self.now.clock c.next-self.result c.args.self.now.log.logged.items c.args.slot c.args.lba c.args.from.now c.args.self.now.past c.next-self.ensures.least c.next-self.ensures.more) }

pub returns-then-fails-clause-remembers : goal.returns-then-fails-clause-remembers
returns-then-fails-clause-remembers c told = same_remembers c.args.self.now.clock c.next-self.result c.args.self.now.log.logged.items c.next-self.ensures.least told

pub returns-clause-remembers : goal.returns-clause-remembers
returns-clause-remembers c told = rw c.push.ensures.logged (run_remembers c.args.self.now.clock c.next-self.result c.args.self.now.log.logged.items c.args.slot c.args.lba c.args.from.now c.next-self.ensures.least told)
