use Rattle.ddf_copy.specs.declared.copy.DiskCopy.{DiskCopy}
use Rattle.std.proofs.Common.{◌∙◌, ap, sym, inl, inr, ⊎_elim}
use Rattle.std.specs.Prelude.{slice_index}
use Rattle.ddf_bay.proofs.Looks.{looks_then, reads_then}
use Rattle.ddf_bay.specs.Sectors.{Image}
use Rattle.ddf_copy.specs.Sections.{raw_at}
use Rattle.ddf_copy.specs.Which.{place_of}
use Rattle.ddf_copy.proofs.Again.{no_fault, under_read}
use Rattle.std.proofs.Common.{rules}
use Rattle.ddf_copy.proofs.CopiesRead.{copy_is, first_is}
use Rattle.ddf_copy.specs.Headers.{IsReadHeader}
use Rattle.ddf_header.specs.declared.reading.Header.{Header}
use Rattle.std.proofs.Common.{subst}
use Rattle.ddf_copy.proofs.reading.read_whole.Goals as goal

pub returns-in-Ok-clause-copy : goal.returns-in-Ok-clause-copy
returns-in-Ok-clause-copy g c = λ tells.
    let size = slice_index (g.B.Bay.disks c.args.bay.now).sizes c.args.slot in
    let sector = (g.B.Bay.disks c.args.bay.now).held c.args.slot in
    let anchor = c.args.anchor.now in
    let header = first_is c.in_ok-header.header _ _ (c.in_ok-header.ensures.header tells) in
    let raw = rw c.place.ensures at (c.in_ok-raw.ensures.raw tells) ∙ ap (λ (held : Image). raw_at (held c.args.slot) (place_of c.args.which anchor) c.in_ok-header.header.geometry) c.read_header.ensures.reads.same_held in
    inl (sym (copy_is size sector anchor c.args.which c.in_ok-header.header c.in_ok-raw.raw header raw ∙ first_is c.in-Ok.copy _ _ c.in-Ok.ensures.copy))

pub returns-in-Ok-clause-reads : goal.returns-in-Ok-clause-reads
returns-in-Ok-clause-reads g c = reads_then c.read_header.ensures.reads c.read_raw.ensures.reads

pub returns-in-Ok-clause-look : goal.returns-in-Ok-clause-look
returns-in-Ok-clause-look g c = looks_then c.args.slot _ c.in_ok-header.ensures.look c.in_ok-raw.ensures.look

pub returns-in-Err-clause-reads : goal.returns-in-Err-clause-reads
returns-in-Err-clause-reads g c = reads_then c.read_header.ensures.reads c.read_raw.ensures.reads

pub returns-in-Err-clause-copy : goal.returns-in-Err-clause-copy
returns-in-Err-clause-copy g c = λ tells.
    let size = slice_index (g.B.Bay.disks c.args.bay.now).sizes c.args.slot in
    let sector = (g.B.Bay.disks c.args.bay.now).held c.args.slot in
    let anchor = c.args.anchor.now in
    let header = first_is c.in_ok-header.header _ _ (c.in_ok-header.ensures.header tells) in
    let raw = rw c.place.ensures at (c.in_ok-raw.ensures.raw tells) ∙ ap (λ (held : Image). raw_at (held c.args.slot) (place_of c.args.which anchor) c.in_ok-header.header.geometry) c.read_header.ensures.reads.same_held in
    let copy = copy_is size sector anchor c.args.which c.in_ok-header.header c.in_ok-raw.raw header raw in
    ⊎_elim (λ is. inl (is ∙ sym copy)) (λ is. inr (inr is)) c.in-Err.ensures.copy

pub returns-in-Ok-clause-under : goal.returns-in-Ok-clause-under
returns-in-Ok-clause-under g c = λ spelled.
    let size = slice_index ((g.B.Bay.disks c.args.bay.now).sizes) c.args.slot in
    under_read size c.args.anchor.now c.args.which c.in-Ok.copy spelled c.in-Ok.ensures.writable
    (subst (λ (header : Header). IsReadHeader size c.args.anchor.now c.args.which header) (sym c.in-Ok.ensures.header) c.in_ok-header.ensures.read)

pub read_raw-requires-clause-fit : goal.read_raw-requires-clause-fit
read_raw-requires-clause-fit g c = λ index section at some. rw (c.place.ensures, c.read_header.ensures.reads.same_sizes) (c.in_ok-header.ensures.fit index section at some)

pub returns-in_err-raw-clause-reads : goal.returns-in_err-raw-clause-reads
returns-in_err-raw-clause-reads g c = reads_then c.read_header.ensures.reads c.read_raw.ensures.reads

pub returns-in_err-raw-clause-look : goal.returns-in_err-raw-clause-look
returns-in_err-raw-clause-look g c = search (rules, looks_then c.args.slot _ c.in_ok-header.ensures.look c.in_err-raw.ensures.look)

pub returns-in-Err-clause-look : goal.returns-in-Err-clause-look
returns-in-Err-clause-look g c = rw c.in-Err.ensures.no_look (looks_then c.args.slot _ c.in_ok-header.ensures.look c.in_ok-raw.ensures.look)

pub returns-in-Err-clause-named : goal.returns-in-Err-clause-named
returns-in-Err-clause-named g c = no_fault DiskCopy c.args.slot c.in-Err.fault c.in-Err.ensures.no_look
