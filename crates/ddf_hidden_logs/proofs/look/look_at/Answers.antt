use Rattle.std.proofs.Common.{◌≡◌, ◌∙◌, ◌-◌, Ok, ap, refl, sym, arith, ⊎_elim}
use Rattle.std.specs.Prelude.{Option, None, if◌then◌else◌, slice_index}
use Rattle.ddf_lemmas.proofs.Options.{if_ok_then}
use Rattle.ddf_bay.specs.State.{on_slot}
use Rattle.ddf_bay.proofs.Looks.{looks_then, reads_then}
use Rattle.ddf_copy.specs.Anchor.{anchor_at}
use Rattle.ddf_copy.specs.Copies.{copies_of}
use Rattle.ddf_hidden_logs.specs.declared.look.Look.{Look}
use Rattle.ddf_hidden_logs.specs.declared.mask.Mask.{Mask}
use Rattle.ddf_hidden_logs.specs.Shown.{mask_at, mask_in}
use Rattle.ddf_hidden_logs.proofs.Anchored.{mask_is, none_on_empty}
use Rattle.ddf_hidden_logs.proofs.look.look_at.Goals as goal

pub returns-then-size-eq0-clause-mask : goal.returns-then-size-eq0-clause-mask
returns-then-size-eq0-clause-mask g c = λ tells.
    let none : slice_index (g.B.Bay.disks c.args.bay.now).sizes c.args.slot ≡ 0 = omega (arith, c.if-size-eq0.true, c.size.ensures.size) in
    sym (none_on_empty (slice_index (g.B.Bay.disks c.args.bay.now).sizes c.args.slot) ((g.B.Bay.disks c.args.bay.now).held c.args.slot) none)

pub returns-in-Ok-clause-mask : goal.returns-in-Ok-clause-mask
returns-in-Ok-clause-mask g c = λ tells.
    let size = slice_index (g.B.Bay.disks c.args.bay.now).sizes c.args.slot in
    let sector = (g.B.Bay.disks c.args.bay.now).held c.args.slot in
    let next = g.B.Bay.disks c.anchor_of.new.bay in
    let anchor = c.in-Ok.anchor in
    let anchored : Ok anchor ≡ anchor_at size sector = ⊎_elim (λ is. is) (λ fault. absurd cc) (c.in-Ok.ensures.anchor tells) in
    let same : mask_in (slice_index next.sizes c.args.slot - 1) anchor (on_slot copies_of next c.args.slot anchor) ≡ mask_in (size - 1) anchor (copies_of size sector anchor) =
    rw (c.anchor_of.ensures.reads.same_sizes, c.anchor_of.ensures.reads.same_held) refl in
    let here : mask_in (slice_index next.sizes c.args.slot - 1) anchor (on_slot copies_of next c.args.slot anchor) ≡ mask_at size sector = same ∙ sym (mask_is size sector anchor (sym anchored)) in
    if_ok_then c.look_under.result (λ (look : Look) is. is ∙ ap (λ (mask : Option Mask). if look.failed then None else mask) here) (c.look_under.ensures.mask tells)

pub returns-in-Ok-clause-reads : goal.returns-in-Ok-clause-reads
returns-in-Ok-clause-reads g c = reads_then c.in-Ok.ensures.reads c.look_under.ensures.reads

pub returns-in-Ok-clause-look : goal.returns-in-Ok-clause-look
returns-in-Ok-clause-look g c = if_ok_then c.look_under.result (λ (look : Look) more. looks_then c.args.slot look.failed c.in-Ok.ensures.look more) c.look_under.ensures.look

pub returns-in-Ok-clause-calls : goal.returns-in-Ok-clause-calls
returns-in-Ok-clause-calls g c = let more = c.look_under.ensures.calls in let before = c.in-Ok.ensures.calls in omega (arith, more, before)
