use Rattle.std.proofs.Common.{◌≡◌, ◌∙◌, ℕ, ◌-◌, true, List, [], Ok, ap, refl, subst, sym, arith, ⊎_elim}
use Rattle.std.specs.Prelude.{IfOk, if◌then◌else◌, slice_index}
use Rattle.ddf_lemmas.proofs.Options.{if_ok_then}
use Rattle.ddf_bay.specs.State.{on_slot}
use Rattle.ddf_bay.proofs.Looks.{looks_then, reads_then}
use Rattle.ddf_copy.specs.Anchor.{anchor_at}
use Rattle.ddf_copy.specs.Copies.{copies_of}
use Rattle.ddf_badblocks.specs.declared.range.Range.{Range}
use Rattle.ddf_badblocks.specs.Ranges.{are_exchangeable}
use Rattle.ddf_logs.specs.declared.look.Look.{Look}
use Rattle.ddf_logs.specs.Logs.{exchange_at, exchange_in}
use Rattle.ddf_logs.proofs.Through.{exchange_is, none_on_empty}
use Rattle.ddf_logs.proofs.look.look_at.Goals as goal

pub returns-then-size-eq0-clause-exchange : goal.returns-then-size-eq0-clause-exchange
returns-then-size-eq0-clause-exchange g c = λ tells.
    let none : slice_index (g.B.Bay.disks c.args.bay.now).sizes c.args.slot ≡ 0 = omega (arith, c.if-size-eq0.true, c.size.ensures.size) in
    c.none.ensures ∙ sym (none_on_empty (slice_index (g.B.Bay.disks c.args.bay.now).sizes c.args.slot) ((g.B.Bay.disks c.args.bay.now).held c.args.slot) none)

pub returns-in-Ok-clause-exchange : goal.returns-in-Ok-clause-exchange
returns-in-Ok-clause-exchange g c = λ tells.
    let size = slice_index (g.B.Bay.disks c.args.bay.now).sizes c.args.slot in
    let sector = (g.B.Bay.disks c.args.bay.now).held c.args.slot in
    let next = g.B.Bay.disks c.anchor_of.new.bay in
    let anchor = c.in-Ok.anchor in
    let anchored : Ok anchor ≡ anchor_at size sector = ⊎_elim (λ is. is) (λ fault. absurd cc) (c.in-Ok.ensures.anchor tells) in
    let same : exchange_in (slice_index next.sizes c.args.slot - 1) anchor (on_slot copies_of next c.args.slot anchor) ≡ exchange_in (size - 1) anchor (copies_of size sector anchor) =
    rw (c.anchor_of.ensures.reads.same_sizes, c.anchor_of.ensures.reads.same_held) refl in
    let here : exchange_in (slice_index next.sizes c.args.slot - 1) anchor (on_slot copies_of next c.args.slot anchor) ≡ exchange_at size sector = same ∙ sym (exchange_is size sector anchor (sym anchored)) in
    if_ok_then c.look_under.result (λ (look : Look) is. is ∙ ap (λ (ranges : List Range). if look.failed then [] else ranges) here) (c.look_under.ensures.exchange tells)

pub returns-in-Ok-clause-can : goal.returns-in-Ok-clause-can
returns-in-Ok-clause-can g c =
    subst (λ (sizes : List ℕ). IfOk c.look_under.result (λ look. are_exchangeable (slice_index sizes c.args.slot) look.exchange ≡ true)) c.anchor_of.ensures.reads.same_sizes c.look_under.ensures.can

pub returns-in-Ok-clause-reads : goal.returns-in-Ok-clause-reads
returns-in-Ok-clause-reads g c = reads_then c.in-Ok.ensures.reads c.look_under.ensures.reads

pub returns-in-Ok-clause-look : goal.returns-in-Ok-clause-look
returns-in-Ok-clause-look g c = if_ok_then c.look_under.result (λ (look : Look) more. looks_then c.args.slot look.failed c.in-Ok.ensures.look more) c.look_under.ensures.look

pub returns-in-Ok-clause-calls : goal.returns-in-Ok-clause-calls
returns-in-Ok-clause-calls g c = let more = c.look_under.ensures.calls in let before = c.in-Ok.ensures.calls in omega (arith, more, before)
