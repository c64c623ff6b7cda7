use Rattle.std.proofs.Common.{arith}
use Rattle.ddf_bay.specs.LoggedLaws.{survivors_past, survivors_settled}
use Rattle.ddf_bay.specs.MemoryLaws.{stop_left, stop_since}
use Rattle.ddf_bay.proofs.memory.MemoryBay.crash.Goals as goal

pub invariant_of-bay : goal.invariant_of-bay
invariant_of-bay c = record {
  few = c.args.self.few;
  small = c.args.self.small;
  past = rw c.stop.ensures.logged (survivors_past c.args.self.clock c.args.keep.now c.args.self.log.logged.items c.args.self.past);
  counted = omega (arith, c.stop.ensures.room, c.args.self.counted);
  wanted = omega arith;
  reads_within = c.args.self.reads_within;
  writes_within = c.args.self.writes_within;
}

pub returns-clause-left : goal.returns-clause-left
returns-clause-left c = rw c.stop.ensures.logged (stop_left c.args.self.clock c.args.keep.now c.args.self.log.logged.items c.args.self.past)

pub returns-clause-settled : goal.returns-clause-settled
returns-clause-settled c = rw c.stop.ensures.logged (λ s l v left. survivors_settled c.args.self.clock c.args.keep.now c.args.self.log.logged.items s l v c.args.self.past left.1)

pub returns-clause-any_moment : goal.returns-clause-any_moment
returns-clause-any_moment c = record { later = omega arith; since = rw c.stop.ensures.logged (stop_since c.args.self.clock c.args.keep.now c.args.self.log.logged.items c.args.self.past) }
