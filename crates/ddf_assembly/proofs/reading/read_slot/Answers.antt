use Rattle.std.proofs.Common.{◌≡◌, ◌∙◌, ℕ, List, Ok, Some, ap, refl, rules, subst, ⊎_elim}
use Rattle.std.specs.Prelude.{slice_index}
use Rattle.ddf_bay.proofs.Looks.{looks_then, reads_then}
use Rattle.ddf_header.specs.declared.reading.Header.{Header}
use Rattle.ddf_copy.specs.declared.newest_copy.Newest.{Newest}
use Rattle.ddf_copy.specs.Anchor.{anchor_at}
use Rattle.ddf_copy.specs.Copies.{newest_of, newest_under}
use Rattle.ddf_copy.specs.Whole.{IsNewestUnder}
use Rattle.ddf_assembly.proofs.reading.read_slot.Goals as goal

pub returns-in_err-newest-in-Ok-clause-reads : goal.returns-in_err-newest-in-Ok-clause-reads
returns-in_err-newest-in-Ok-clause-reads g c = reads_then c.in-Ok.ensures.reads c.newest.ensures.reads

pub returns-in_err-newest-in-Ok-clause-look : goal.returns-in_err-newest-in-Ok-clause-look
returns-in_err-newest-in-Ok-clause-look g c = search (rules, looks_then c.args.slot _ c.in-Ok.ensures.look c.in_err-newest-in-Ok.ensures.look)

pub returns-in_ok-newest-in-Ok-clause-newest : goal.returns-in_ok-newest-in-Ok-clause-newest
returns-in_ok-newest-in-Ok-clause-newest g c = λ tells.
    let size = slice_index (g.B.Bay.disks c.args.bay.now).sizes c.args.slot in
    let sector = (g.B.Bay.disks c.args.bay.now).held c.args.slot in
    let next = g.B.Bay.disks c.anchor_of.new.bay in
    let anchored : Ok c.in-Ok.anchor ≡ anchor_at size sector = ⊎_elim (λ is. is) (λ fault. absurd cc) (c.in-Ok.ensures.anchor tells) in
    let same : newest_of (slice_index next.sizes c.args.slot) (next.held c.args.slot) c.in-Ok.anchor ≡ newest_of size sector c.in-Ok.anchor =
    rw (c.anchor_of.ensures.reads.same_sizes, c.anchor_of.ensures.reads.same_held) refl in
    ap (λ (newest : Newest). Some newest) (c.in_ok-newest-in-Ok.ensures.newest tells ∙ same) ∙ ap (newest_under size sector) anchored

pub returns-in_ok-newest-in-Ok-clause-reads : goal.returns-in_ok-newest-in-Ok-clause-reads
returns-in_ok-newest-in-Ok-clause-reads g c = reads_then c.in-Ok.ensures.reads c.newest.ensures.reads

pub returns-in_ok-newest-in-Ok-clause-look : goal.returns-in_ok-newest-in-Ok-clause-look
returns-in_ok-newest-in-Ok-clause-look g c = looks_then c.args.slot _ c.in-Ok.ensures.look c.in_ok-newest-in-Ok.ensures.look

pub returns-in_ok-newest-in-Ok-clause-under : goal.returns-in_ok-newest-in-Ok-clause-under
returns-in_ok-newest-in-Ok-clause-under g c = record {
  anchor = c.in-Ok.anchor;
  is_anchor = c.in-Ok.ensures.spelled;
  under = subst (λ (sizes : List ℕ). IsNewestUnder (slice_index sizes c.args.slot) c.in-Ok.anchor c.in_ok-newest-in-Ok.newest) c.anchor_of.ensures.reads.same_sizes (c.in_ok-newest-in-Ok.ensures.under c.in-Ok.ensures.spelled);
}

pub returns-in_ok-newest-in-Ok-clause-stands : goal.returns-in_ok-newest-in-Ok-clause-stands
returns-in_ok-newest-in-Ok-clause-stands g c = λ tells anchor anchored.
    let size = slice_index (g.B.Bay.disks c.args.bay.now).sizes c.args.slot in
    let sector = (g.B.Bay.disks c.args.bay.now).held c.args.slot in
    let read : Ok c.in-Ok.anchor ≡ anchor_at size sector = ⊎_elim (λ is. is) (λ fault. absurd cc) (c.in-Ok.ensures.anchor tells) in
    let same : c.in-Ok.anchor ≡ anchor = let both = read ∙ anchored in cc in
    subst (λ (header : Header). IsNewestUnder size header c.in_ok-newest-in-Ok.newest) same
    (subst (λ (sizes : List ℕ). IsNewestUnder (slice_index sizes c.args.slot) c.in-Ok.anchor c.in_ok-newest-in-Ok.newest) c.anchor_of.ensures.reads.same_sizes (c.in_ok-newest-in-Ok.ensures.under c.in-Ok.ensures.spelled))
