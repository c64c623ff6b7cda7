use Rattle.std.proofs.Common.{ℕ, ◌-◌, sym, ◌∙◌, ap}
use Rattle.ddf_shortened.proofs.Seen.{slot_below, size_early, size_last}
use Rattle.ddf_shortened.proofs.calls.ShortenedBay.size.Goals as goal

pub size-size-requires : goal.size-size-requires
size-size-requires g c = slot_below c.args.self.now.ends.slots (g.B.Bay.disks c.args.self.now.inner).sizes c.args.slot c.requires

pub returns-then-is_shorter-clause-size : goal.returns-then-is_shorter-clause-size
returns-then-is_shorter-clause-size g c =
    let is = size_early c.args.self.now.ends.slots (g.B.Bay.disks c.args.self.now.inner).sizes c.args.slot (sym c.is_shorter.ensures ∙ c.if-is_shorter.true) in
    c.saturating_sub.ensures ∙ ap (λ (n : ℕ). n - 256) c.size-size.ensures.size ∙ sym is

pub returns-else-is_shorter-clause-size : goal.returns-else-is_shorter-clause-size
returns-else-is_shorter-clause-size g c =
    c.size-size.ensures.size
    ∙ sym (size_last c.args.self.now.ends.slots (g.B.Bay.disks c.args.self.now.inner).sizes c.args.slot (sym c.is_shorter.ensures ∙ c.if-is_shorter.false))
