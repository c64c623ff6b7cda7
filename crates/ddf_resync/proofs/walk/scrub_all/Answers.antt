use Rattle.std.proofs.Common.{◌≡◌, ◌∙◌, ⊎_elim, ℕ, ◌<◌, ◌≤◌, Option, length, Some, refl, sym, ap, subst, arith, slice_get}
use Rattle.std.proofs.lemmas.Bool.{cases_lt}
use Rattle.std.proofs.lemmas.Option.{slice_get_read, slice_get_within, same_Some}
use Rattle.ddf_bay.specs.Sectors.{Image}
use Rattle.ddf_primary.specs.Cells.{depth_of}
use Rattle.ddf_array.specs.declared.part.Part.{Part}
use Rattle.ddf_read.proofs.OnlyReading.{only_reads_then}
use Rattle.ddf_resync.specs.Agreeing.{Agrees}
use Rattle.ddf_resync.specs.Scrubbing.{DiffersFirst, IsElementScrubbed}
use Rattle.ddf_resync.proofs.Found.{all_redundant, redundant_agrees}
use Rattle.ddf_resync.proofs.walk.scrub_all.Goals as goal

pub scrub_element-requires-clause-fits : goal.scrub_element-requires-clause-fits
scrub_element-requires-clause-fits g c = rw c.loop-element.invariant.reads.reads.same_sizes c.requires.fits

pub scrub_element-requires-clause-part : goal.scrub_element-requires-clause-part
scrub_element-requires-clause-part g c =
    let n = ap length c.parts-element-end.ensures.parts in
    let m = ap length c.parts.ensures.parts in
    let inside : c.loop-element.element < length c.parts.result.now = omega (arith, n, m, c.loop-element-test.true) in
    rw c.parts.ensures.parts at (slice_get_read c.parts.result.now _ c.loop-element.element c.index-parts-element.result refl inside c.index-parts-element.is)

pub returns-in-Some-clause-found : goal.returns-in-Some-clause-found
returns-in-Some-clause-found g c = λ tells are.
    let v = c.args.view.now in
    let held = (g.B.Bay.disks c.args.bay.now).held in
    let element = c.loop-element.element in
    let part = c.index-parts-element.result in
    let n = ap length c.parts-element-end.ensures.parts in
    let m = ap length c.parts.ensures.parts in
    let inside : element < length c.parts.result.now = omega (arith, n, m, c.loop-element-test.true) in
    let at : slice_get v.parts element ≡ Some part = rw c.parts.ensures.parts at (slice_get_read c.parts.result.now _ element part refl inside c.index-parts-element.is) in
    let found : IsElementScrubbed v held element part c.in_ok-found.found =
    subst (λ (image : Image). IsElementScrubbed v image element part c.in_ok-found.found) c.loop-element.invariant.reads.reads.same_held (c.in_ok-found.ensures.found tells) in
    let here : DiffersFirst v held element part c.in-Some.row = subst (λ (o : Option ℕ). IsElementScrubbed v held element part o) c.in-Some.is found in (
      λ redundant. here.differs (redundant_agrees v c.requires.known held redundant element here.sector part at here.deep),
      record {
        part = part;
        is_part = at;
        sector = here.sector;
        from = here.from;
        below = here.below;
        deep = here.deep;
        differs = here.differs;
        rows_before = λ other s other_at before deep.
            let same : part ≡ other = same_Some part other (sym at ∙ other_at) in
            subst (λ (p : Part). Agrees v held element p s) same (here.rows_before s before);
        elements_before = c.loop-element.invariant.agree tells;
      },
    )

pub loop-element-preserved : goal.loop-element-preserved
loop-element-preserved g c =
    let v = c.args.view.now in
    let held = (g.B.Bay.disks c.args.bay.now).held in
    let element = c.loop-element.element in
    let part = c.index-parts-element.result in
    let n = ap length c.parts-element-end.ensures.parts in
    let m = ap length c.parts.ensures.parts in
    let inside : element < length c.parts.result.now = omega (arith, n, m, c.loop-element-test.true) in
    let at : slice_get v.parts element ≡ Some part = rw c.parts.ensures.parts at (slice_get_read c.parts.result.now _ element part refl inside c.index-parts-element.is) in
    record {
      reads = only_reads_then c.loop-element.invariant.reads c.in_ok-found.ensures.reads;
      agree = λ tells e s other under other_at deep.
          let found : IsElementScrubbed v held element part c.in_ok-found.found =
          subst (λ (image : Image). IsElementScrubbed v image element part c.in_ok-found.found) c.loop-element.invariant.reads.reads.same_held (c.in_ok-found.ensures.found tells) in
          let all : (s : ℕ) → s < depth_of part.shape → Agrees v held element part s = subst (λ (o : Option ℕ). IsElementScrubbed v held element part o) c.in_default.is found in
          ⊎_elim (λ (earlier : e < element). c.loop-element.invariant.agree tells e s other earlier other_at deep)
          (λ (later : element ≤ e).
          let one : e ≡ element = omega arith in
          let same : part ≡ other = same_Some part other (sym at ∙ ap (slice_get v.parts) (sym one) ∙ other_at) in
          subst (λ k. Agrees v held k other s) (sym one)
          (subst (λ (p : Part). Agrees v held element p s) same (all s (subst (λ (p : Part). s < depth_of p.shape) (sym same) deep))))
          (cases_lt e element);
    }

pub returns-clause-found : goal.returns-clause-found
returns-clause-found g c = λ tells are.
    let n = ap length c.parts-element-end.ensures.parts in
    all_redundant c.args.view.now c.requires.known (g.B.Bay.disks c.args.bay.now).held
    (λ element sector part part_at below.
    c.loop-element.invariant.agree tells element sector part (omega (arith, slice_get_within c.args.view.now.parts element part part_at, n, c.loop-element-test.false)) part_at below) are

pub returns-clause-agrees : goal.returns-clause-agrees
returns-clause-agrees g c = λ tells element sector part part_at below.
    let n = ap length c.parts-element-end.ensures.parts in
    c.loop-element.invariant.agree tells element sector part (omega (arith, slice_get_within c.args.view.now.parts element part part_at, n, c.loop-element-test.false)) part_at below

pub returns-in-Some-clause-agrees : goal.returns-in-Some-clause-agrees
returns-in-Some-clause-agrees g c = λ tells redundant.
    let v = c.args.view.now in
    let held = (g.B.Bay.disks c.args.bay.now).held in
    let element = c.loop-element.element in
    let part = c.index-parts-element.result in
    let n = ap length c.parts-element-end.ensures.parts in
    let m = ap length c.parts.ensures.parts in
    let inside : element < length c.parts.result.now = omega (arith, n, m, c.loop-element-test.true) in
    let at : slice_get v.parts element ≡ Some part = rw c.parts.ensures.parts at (slice_get_read c.parts.result.now _ element part refl inside c.index-parts-element.is) in
    let found : IsElementScrubbed v held element part c.in_ok-found.found =
    subst (λ (image : Image). IsElementScrubbed v image element part c.in_ok-found.found) c.loop-element.invariant.reads.reads.same_held (c.in_ok-found.ensures.found tells) in
    let here : DiffersFirst v held element part c.in-Some.row = subst (λ (o : Option ℕ). IsElementScrubbed v held element part o) c.in-Some.is found in
    here.differs (redundant_agrees v c.requires.known held redundant element here.sector part at here.deep)
