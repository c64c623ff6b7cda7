use Rattle.std.proofs.Common.{◌≡◌, ◌≤◌, ◌<◌, ℕ, ◌-◌, ◌==◌, sym, ap, ◌∙◌, arith}
use Rattle.ddf_bay.specs.State.{size_of}
use Rattle.ddf_header.specs.Header.{header_signature}
use Rattle.ddf_shortened.specs.SlotEnds.{signature_of}
use Rattle.ddf_shortened.proofs.Looked.{at_end, by_other, too_small}
use Rattle.ddf_shortened.proofs.ends.look.Goals as goal

pub returns-then-size-le-EARLY_ANCHOR-clause-exact : goal.returns-then-size-le-EARLY_ANCHOR-clause-exact
returns-then-size-le-EARLY_ANCHOR-clause-exact g c = λ tells read.
    let disks = g.B.Bay.disks c.args.inner.now in
    let small : size_of disks c.args.slot ≤ 257 = omega (arith, c.size-size.ensures.size, c.if-size-le-EARLY_ANCHOR.true) in
    too_small (size_of disks c.args.slot) (disks.held c.args.slot) small

pub returns-then-is_any_signature-clause-exact : goal.returns-then-is_any_signature-clause-exact
returns-then-is_any_signature-clause-exact g c = λ tells read.
    let disks = g.B.Bay.disks c.args.inner.now in
    let large : 257 < size_of disks c.args.slot = omega (arith, c.size-size.ensures.size, c.if-size-le-EARLY_ANCHOR.false) in
    let size : size_of disks c.args.slot ≡ c.size-size.result = sym c.size-size.ensures.size in
    let last : c.in-Ok.last ≡ signature_of (disks.held c.args.slot (size_of disks c.args.slot - 1)) = rw size (c.in-Ok.ensures.signature tells) in
    at_end (size_of disks c.args.slot) (disks.held c.args.slot) large (rw last at (sym c.is_any_signature.ensures ∙ c.if-is_any_signature.true))

pub returns-in-Ok-signature_at-clause-exact : goal.returns-in-Ok-signature_at-clause-exact
returns-in-Ok-signature_at-clause-exact g c = λ tells read.
    let disks = g.B.Bay.disks c.args.inner.now in
    let now = g.B.Bay.disks c.signature_at.new.inner in
    let large : 257 < size_of disks c.args.slot = omega (arith, c.size-size.ensures.size, c.if-size-le-EARLY_ANCHOR.false) in
    let size : size_of disks c.args.slot ≡ c.size-size.result = sym c.size-size.ensures.size in
    let last : c.in-Ok.last ≡ signature_of (disks.held c.args.slot (size_of disks c.args.slot - 1)) = rw size (c.in-Ok.ensures.signature tells) in
    let found : c.in-Ok-signature_at.found ≡ signature_of (disks.held c.args.slot (size_of disks c.args.slot - 257)) =
    rw size (rw c.in-Ok.ensures.looks.reads.same_held at (c.in-Ok-signature_at.ensures.signature tells)) in
    c.by.ensures.early
    ∙ ap (λ (number : ℕ). number == header_signature) found
    ∙ by_other (size_of disks c.args.slot) (disks.held c.args.slot) large (rw last at (sym c.is_any_signature.ensures ∙ c.if-is_any_signature.false))
