use Rattle.std.proofs.Common.{◌≡◌, ◌∙◌, inl, inr, ⊎_elim, refl, sym, ap, subst, arith, slice_get}
use Rattle.ddf_primary.specs.Cells.{depth_of}
use Rattle.ddf_array.specs.declared.part.Part.{Part}
use Rattle.ddf_array.specs.Volume.{IsPart}
use Rattle.ddf_read.specs.Reading.{Failed}
use Rattle.ddf_read.proofs.WithoutCopies.{same_part}
use Rattle.ddf_rebuild.proofs.FillSteps.{fill_add, fill_all, fill_ask, fill_given, fill_left, fill_moments, fill_stay}
use Rattle.ddf_rebuild.proofs.copying.copyback.Goals as goal

pub depth_of-depth-requires : goal.depth_of-depth-requires
depth_of-depth-requires g c =
    let v = c.args.view.now in
    let aside = c.requires.aside in
    let own : c.index-parts-element.result ≡ aside.part = same_part v.parts c.parts.result.now c.from-element.result c.index-parts-element.result aside.part c.parts.ensures.parts c.index-parts-element.is (ap (slice_get v.parts) c.from-element.ensures ∙ aside.is_part) in
    subst IsPart (sym own) (c.parts.ensures.sound.are_parts c.args.target.now.element aside.part aside.is_part)

pub rebuild_surely-requires-clause-sectors : goal.rebuild_surely-requires-clause-sectors
rebuild_surely-requires-clause-sectors g c = λ part part_at.
    let other : c.index-parts-element.result ≡ part = same_part c.args.view.now.parts c.parts.result.now c.from-element.result c.index-parts-element.result part c.parts.ensures.parts c.index-parts-element.is part_at in
    let deep : depth_of c.index-parts-element.result.shape ≡ depth_of part.shape = ap (λ (p : Part). depth_of p.shape) other in
    omega (arith, c.depth_of-depth.ensures.value, deep)

pub returns-in-Ok-clause-any_moment : goal.returns-in-Ok-clause-any_moment
returns-in-Ok-clause-any_moment g c =
    let v = c.args.view.now in
    let aside = c.requires.aside in
    let element_is = c.from-element.ensures in
    let own : c.index-parts-element.result ≡ aside.part = same_part v.parts c.parts.result.now c.from-element.result c.index-parts-element.result aside.part c.parts.ensures.parts c.index-parts-element.is (ap (slice_get v.parts) element_is ∙ aside.is_part) in
    let deep : c.depth_of-depth.result ≡ depth_of aside.part.shape = c.depth_of-depth.ensures.value ∙ ap (λ (p : Part). depth_of p.shape) own in
    fill_moments v c.from-element.result c.from-position.result c.args.target.now.element c.args.target.now.position c.args.slot c.args.start c.depth_of-depth.result element_is c.from-position.ensures aside.part aside.is_part deep (g.B.Bay.disks c.args.bay.now).may_hold c.in-Ok.ensures.any_moment

pub returns-in-Ok-clause-left : goal.returns-in-Ok-clause-left
returns-in-Ok-clause-left g c =
    let v = c.args.view.now in
    let aside = c.requires.aside in
    let element_is = c.from-element.ensures in
    let own : c.index-parts-element.result ≡ aside.part = same_part v.parts c.parts.result.now c.from-element.result c.index-parts-element.result aside.part c.parts.ensures.parts c.index-parts-element.is (ap (slice_get v.parts) element_is ∙ aside.is_part) in
    let deep : c.depth_of-depth.result ≡ depth_of aside.part.shape = c.depth_of-depth.ensures.value ∙ ap (λ (p : Part). depth_of p.shape) own in
    fill_add v c.from-element.result c.from-position.result c.args.target.now.element c.args.target.now.position c.args.slot c.args.start c.depth_of-depth.result element_is c.from-position.ensures aside.part aside.is_part deep (g.B.Bay.disks c.args.bay.now).may_hold (g.B.Bay.disks c.rebuild_surely.new.bay).may_hold c.in-Ok.ensures.left

pub returns-in-Ok-clause-held : goal.returns-in-Ok-clause-held
returns-in-Ok-clause-held g c = λ tells.
    let v = c.args.view.now in
    let aside = c.requires.aside in
    let element_is = c.from-element.ensures in
    let own : c.index-parts-element.result ≡ aside.part = same_part v.parts c.parts.result.now c.from-element.result c.index-parts-element.result aside.part c.parts.ensures.parts c.index-parts-element.is (ap (slice_get v.parts) element_is ∙ aside.is_part) in
    let deep : c.depth_of-depth.result ≡ depth_of aside.part.shape = c.depth_of-depth.ensures.value ∙ ap (λ (p : Part). depth_of p.shape) own in
    fill_stay v c.from-element.result c.from-position.result c.args.target.now.element c.args.target.now.position c.args.slot c.args.start c.depth_of-depth.result element_is c.from-position.ensures aside.part aside.is_part deep (g.B.Bay.disks c.args.bay.now).held (g.B.Bay.disks c.rebuild_surely.new.bay).held (c.in-Ok.ensures.held tells)

pub returns-in-Ok-clause-asks : goal.returns-in-Ok-clause-asks
returns-in-Ok-clause-asks g c = λ part part_at.
    let v = c.args.view.now in
    let aside = c.requires.aside in
    let element_is = c.from-element.ensures in
    let own : c.index-parts-element.result ≡ aside.part = same_part v.parts c.parts.result.now c.from-element.result c.index-parts-element.result aside.part c.parts.ensures.parts c.index-parts-element.is (ap (slice_get v.parts) element_is ∙ aside.is_part) in
    let deep : c.depth_of-depth.result ≡ depth_of aside.part.shape = c.depth_of-depth.ensures.value ∙ ap (λ (p : Part). depth_of p.shape) own in
    fill_ask v c.from-element.result c.from-position.result c.args.target.now.element c.args.target.now.position c.args.slot c.args.start c.depth_of-depth.result element_is c.from-position.ensures aside.part aside.is_part deep part part_at c.in-Ok.ensures.asks

pub returns-in-Err-clause-any_moment : goal.returns-in-Err-clause-any_moment
returns-in-Err-clause-any_moment g c =
    let v = c.args.view.now in
    let aside = c.requires.aside in
    let element_is = c.from-element.ensures in
    let own : c.index-parts-element.result ≡ aside.part = same_part v.parts c.parts.result.now c.from-element.result c.index-parts-element.result aside.part c.parts.ensures.parts c.index-parts-element.is (ap (slice_get v.parts) element_is ∙ aside.is_part) in
    let deep : c.depth_of-depth.result ≡ depth_of aside.part.shape = c.depth_of-depth.ensures.value ∙ ap (λ (p : Part). depth_of p.shape) own in
    fill_moments v c.from-element.result c.from-position.result c.args.target.now.element c.args.target.now.position c.args.slot c.args.start c.depth_of-depth.result element_is c.from-position.ensures aside.part aside.is_part deep (g.B.Bay.disks c.args.bay.now).may_hold c.in-Err.ensures.any_moment

pub returns-in-Err-clause-left : goal.returns-in-Err-clause-left
returns-in-Err-clause-left g c =
    let v = c.args.view.now in
    let aside = c.requires.aside in
    let element_is = c.from-element.ensures in
    let own : c.index-parts-element.result ≡ aside.part = same_part v.parts c.parts.result.now c.from-element.result c.index-parts-element.result aside.part c.parts.ensures.parts c.index-parts-element.is (ap (slice_get v.parts) element_is ∙ aside.is_part) in
    let deep : c.depth_of-depth.result ≡ depth_of aside.part.shape = c.depth_of-depth.ensures.value ∙ ap (λ (p : Part). depth_of p.shape) own in
    fill_add v c.from-element.result c.from-position.result c.args.target.now.element c.args.target.now.position c.args.slot c.args.start c.depth_of-depth.result element_is c.from-position.ensures aside.part aside.is_part deep (g.B.Bay.disks c.args.bay.now).may_hold (g.B.Bay.disks c.rebuild_surely.new.bay).may_hold c.in-Err.ensures.left

pub returns-in-Err-clause-held : goal.returns-in-Err-clause-held
returns-in-Err-clause-held g c = λ tells.
    let v = c.args.view.now in
    let aside = c.requires.aside in
    let element_is = c.from-element.ensures in
    let own : c.index-parts-element.result ≡ aside.part = same_part v.parts c.parts.result.now c.from-element.result c.index-parts-element.result aside.part c.parts.ensures.parts c.index-parts-element.is (ap (slice_get v.parts) element_is ∙ aside.is_part) in
    let deep : c.depth_of-depth.result ≡ depth_of aside.part.shape = c.depth_of-depth.ensures.value ∙ ap (λ (p : Part). depth_of p.shape) own in
    fill_stay v c.from-element.result c.from-position.result c.args.target.now.element c.args.target.now.position c.args.slot c.args.start c.depth_of-depth.result element_is c.from-position.ensures aside.part aside.is_part deep (g.B.Bay.disks c.args.bay.now).held (g.B.Bay.disks c.rebuild_surely.new.bay).held (c.in-Err.ensures.held tells)

pub returns-in-Err-clause-asks : goal.returns-in-Err-clause-asks
returns-in-Err-clause-asks g c = λ part part_at.
    let v = c.args.view.now in
    let aside = c.requires.aside in
    let element_is = c.from-element.ensures in
    let own : c.index-parts-element.result ≡ aside.part = same_part v.parts c.parts.result.now c.from-element.result c.index-parts-element.result aside.part c.parts.ensures.parts c.index-parts-element.is (ap (slice_get v.parts) element_is ∙ aside.is_part) in
    let deep : c.depth_of-depth.result ≡ depth_of aside.part.shape = c.depth_of-depth.ensures.value ∙ ap (λ (p : Part). depth_of p.shape) own in
    fill_ask v c.from-element.result c.from-position.result c.args.target.now.element c.args.target.now.position c.args.slot c.args.start c.depth_of-depth.result element_is c.from-position.ensures aside.part aside.is_part deep part part_at c.in-Err.ensures.asks

pub returns-in-Ok-clause-now : goal.returns-in-Ok-clause-now
returns-in-Ok-clause-now g c = λ tells sure.
    let v = c.args.view.now in
    let aside = c.requires.aside in
    let element_is = c.from-element.ensures in
    let own : c.index-parts-element.result ≡ aside.part = same_part v.parts c.parts.result.now c.from-element.result c.index-parts-element.result aside.part c.parts.ensures.parts c.index-parts-element.is (ap (slice_get v.parts) element_is ∙ aside.is_part) in
    let deep : c.depth_of-depth.result ≡ depth_of aside.part.shape = c.depth_of-depth.ensures.value ∙ ap (λ (p : Part). depth_of p.shape) own in
    fill_all v c.from-element.result c.from-position.result c.args.target.now.element c.args.target.now.position c.args.slot c.args.start c.depth_of-depth.result element_is c.from-position.ensures aside.part aside.is_part deep (g.B.Bay.disks c.args.bay.now).held (g.B.Bay.disks c.rebuild_surely.new.bay).held (g.B.Bay.disks c.rebuild_surely.new.bay).held (c.in-Ok.ensures.rebuilt tells sure) (λ l. refl)

pub returns-in-Ok-clause-filled : goal.returns-in-Ok-clause-filled
returns-in-Ok-clause-filled g c = λ tells sure image left.
    let v = c.args.view.now in
    let aside = c.requires.aside in
    let element_is = c.from-element.ensures in
    let own : c.index-parts-element.result ≡ aside.part = same_part v.parts c.parts.result.now c.from-element.result c.index-parts-element.result aside.part c.parts.ensures.parts c.index-parts-element.is (ap (slice_get v.parts) element_is ∙ aside.is_part) in
    let deep : c.depth_of-depth.result ≡ depth_of aside.part.shape = c.depth_of-depth.ensures.value ∙ ap (λ (p : Part). depth_of p.shape) own in
    fill_all v c.from-element.result c.from-position.result c.args.target.now.element c.args.target.now.position c.args.slot c.args.start c.depth_of-depth.result element_is c.from-position.ensures aside.part aside.is_part deep (g.B.Bay.disks c.args.bay.now).held (g.B.Bay.disks c.rebuild_surely.new.bay).held image (c.in-Ok.ensures.rebuilt tells sure) (λ l. c.in-Ok.ensures.durable l (image c.args.slot l) (left c.args.slot l))

pub returns-in-Ok-clause-given : goal.returns-in-Ok-clause-given
returns-in-Ok-clause-given g c = λ tells.
    let v = c.args.view.now in
    let aside = c.requires.aside in
    let element_is = c.from-element.ensures in
    let own : c.index-parts-element.result ≡ aside.part = same_part v.parts c.parts.result.now c.from-element.result c.index-parts-element.result aside.part c.parts.ensures.parts c.index-parts-element.is (ap (slice_get v.parts) element_is ∙ aside.is_part) in
    let deep : c.depth_of-depth.result ≡ depth_of aside.part.shape = c.depth_of-depth.ensures.value ∙ ap (λ (p : Part). depth_of p.shape) own in
    fill_given v c.from-element.result c.from-position.result c.args.target.now.element c.args.target.now.position c.args.slot c.args.start c.depth_of-depth.result element_is c.from-position.ensures aside.part aside.is_part deep (Failed (g.B.Bay.disks c.args.bay.now) (g.B.Bay.disks c.rebuild_surely.new.bay)) (g.B.Bay.disks c.args.bay.now).held (g.B.Bay.disks c.rebuild_surely.new.bay).held (c.in-Ok.ensures.given tells)

pub returns-in-Err-clause-fault : goal.returns-in-Err-clause-fault
returns-in-Err-clause-fault g c =
    let v = c.args.view.now in
    let aside = c.requires.aside in
    let element_is = c.from-element.ensures in
    let own : c.index-parts-element.result ≡ aside.part = same_part v.parts c.parts.result.now c.from-element.result c.index-parts-element.result aside.part c.parts.ensures.parts c.index-parts-element.is (ap (slice_get v.parts) element_is ∙ aside.is_part) in
    let deep : c.depth_of-depth.result ≡ depth_of aside.part.shape = c.depth_of-depth.ensures.value ∙ ap (λ (p : Part). depth_of p.shape) own in
    (sym c.within.ensures ∙ c.if-not-within.false, ⊎_elim (λ failed. inl failed) (λ none. inr (fill_left v c.from-element.result c.from-position.result c.args.target.now.element c.args.target.now.position c.args.slot c.args.start c.depth_of-depth.result element_is c.from-position.ensures aside.part aside.is_part deep (Failed (g.B.Bay.disks c.args.bay.now) (g.B.Bay.disks c.rebuild_surely.new.bay)) c.in-Err.slot none)) c.in-Err.ensures.failed)
