use Rattle.std.proofs.Common.{◌≡◌, ◌∙◌, ⊎_elim, ◌+◌, ◌-◌, refl, sym, ap, subst, arith}
use Rattle.std.proofs.lemmas.Result.{err_from_is_err_and}
use Rattle.ddf_array.specs.declared.site.Site.{Site}
use Rattle.ddf_array.specs.Values.{bytes_at}
use Rattle.ddf_read.specs.Along.{further}
use Rattle.ddf_read.proofs.FirstCopies.{first_there}
use Rattle.ddf_read.proofs.Followers.{follow_first}
use Rattle.ddf_read.proofs.Sites.{site_at_there}
use Rattle.ddf_cells.proofs.BlockOf.{block_within}
use Rattle.ddf_resync.specs.Agreeing.{CopyAgrees}
use Rattle.ddf_resync.proofs.Beside.{copy_run, run_bad, run_good}
use Rattle.ddf_resync.specs.Compared.{IsCompared}
use Rattle.ddf_resync.proofs.Comparing.{first_compared, own_compared}
use Rattle.ddf_resync.proofs.Found.{among_copies}
use Rattle.ddf_resync.proofs.Failing.{step_of}
use Rattle.ddf_resync.proofs.copies.some_agree.Goals as goal

pub site_at-requires-clause-part : goal.site_at-requires-clause-part
site_at-requires-clause-part g c = c.requires.known.are_parts c.args.element c.args.part.now c.requires.part

pub first_copy-requires : goal.first_copy-requires
first_copy-requires g c = block_within c.args.view.now c.args.element c.args.position c.args.sector c.in-Some.block (sym c.block_at.ensures ∙ c.in-Some.is)

pub runs_agree-requires-clause-own_slot : goal.runs_agree-requires-clause-own_slot
runs_agree-requires-clause-own_slot g c =
    (site_at_there _ c.args.part.now c.args.position c.args.sector 0 c.in-Some-site_at.own (c.requires.fits c.args.element c.args.part.now c.requires.part) (omega (arith, c.requires.sectors))
    (sym c.site_at.ensures ∙ c.in-Some-site_at.is)).slot_is

pub runs_agree-requires-clause-own_sectors : goal.runs_agree-requires-clause-own_sectors
runs_agree-requires-clause-own_sectors g c =
    (site_at_there _ c.args.part.now c.args.position c.args.sector c.blocks_along-count.result c.in-Some-site_at.own (c.requires.fits c.args.element c.args.part.now c.requires.part)
    (omega (arith, c.requires.sectors, c.blocks_along-count.ensures.within)) (sym c.site_at.ensures ∙ c.in-Some-site_at.is)).lba_is

pub runs_agree-requires-clause-first_slot : goal.runs_agree-requires-clause-first_slot
runs_agree-requires-clause-first_slot g c =
    (first_there _ c.args.view.now c.requires.known c.requires.fits c.in-Some.block c.in-Some-first_copy.first (sym c.first_copy.ensures ∙ c.in-Some-first_copy.is)).slot_is

pub runs_agree-requires-clause-first_sectors : goal.runs_agree-requires-clause-first_sectors
runs_agree-requires-clause-first_sectors g c =
    let last = c.blocks_along-count.result - 1 in
    let there = first_there _ c.args.view.now c.requires.known c.requires.fits (c.in-Some.block + last) (further last c.in-Some-first_copy.first) (follow_first c.args.view.now c.in-Some.block c.blocks_along-count.result c.in-Some-first_copy.first c.blocks_along-count.ensures.along (sym c.first_copy.ensures ∙ c.in-Some-first_copy.is) last (omega (arith, c.blocks_along-count.ensures.some))) in
    omega (arith, there.lba_is, c.blocks_along-count.ensures.some)

pub returns-in_err-agree-clause-failed : goal.returns-in_err-agree-clause-failed
returns-in_err-agree-clause-failed g c =
    let p = err_from_is_err_and c.from_residual.result c.from_residual.ensures.1 in
    let v = c.args.view.now in
    let block = c.in-Some.block in
    let own = c.in-Some-site_at.own in
    let first = c.in-Some-first_copy.first in
    let own_at = sym c.site_at.ensures ∙ c.in-Some-site_at.is in
    let first_at = sym c.first_copy.ensures ∙ c.in-Some-first_copy.is in
    let among = among_copies v c.requires.known block c.args.element c.args.position c.args.sector c.args.part.now own c.requires.part (sym c.block_at.ensures ∙ c.in-Some.is) own_at in
    let differ = c.if-is_site.ensures.no refl in
    rw (p.1, p.2) (
      ⊎_elim (λ is_own. subst (IsCompared v) (sym is_own) (own_compared v block among.0 own first among.1 first_at differ))
          (λ is_first. subst (IsCompared v) (sym is_first) (first_compared v block among.0 own first among.1 first_at differ)) c.in_err-agree.ensures.named,
      c.in_err-agree.ensures.failed,
    )

pub returns-clause-agree : goal.returns-clause-agree
returns-clause-agree g c = λ tells.
    let v = c.args.view.now in
    let held = (g.B.Bay.disks c.args.bay.now).held in
    let own = c.in-Some-site_at.own in
    let first = c.in-Some-first_copy.first in
    let count = c.blocks_along-count.result in
    let own_at = sym c.site_at.ensures ∙ c.in-Some-site_at.is in
    let run =
    copy_run v c.args.element c.args.position c.args.sector c.in-Some.block first count c.blocks_along-count.ensures.along
    (λ k below. c.blocks_along-count.ensures.follow c.args.element c.args.position c.args.sector k (sym c.block_at.ensures ∙ c.in-Some.is) below) (sym c.first_copy.ensures ∙ c.in-Some-first_copy.is) in
    step_of (λ k. bytes_at held (further k own) ≡ bytes_at held (further k first)) (λ k. CopyAgrees v held c.args.element c.args.part.now c.args.position (c.args.sector + k)) c.in_ok-agree.agree count c.args.most
    c.blocks_along-count.ensures.some c.blocks_along-count.ensures.within
    (λ k below same. run_good v held c.args.element c.args.part.now c.args.position c.args.sector c.in-Some.block own first count run own_at k below same)
    (λ k below never. run_bad v held c.args.element c.args.part.now c.args.position c.args.sector c.in-Some.block own first count run own_at k below never)
    (c.in_ok-agree.ensures.agree tells)

pub blocks_along-count-requires-clause-block : goal.blocks_along-count-requires-clause-block
blocks_along-count-requires-clause-block g c = block_within c.args.view.now c.args.element c.args.position c.args.sector c.in-Some.block (sym c.block_at.ensures ∙ c.in-Some.is)

pub returns-then-is_site-clause-agree : goal.returns-then-is_site-clause-agree
returns-then-is_site-clause-agree g c = λ tells.
    let v = c.args.view.now in
    let held = (g.B.Bay.disks c.args.bay.now).held in
    let own = c.in-Some-site_at.own in
    let first = c.in-Some-first_copy.first in
    let count = c.blocks_along-count.result in
    let run =
    copy_run v c.args.element c.args.position c.args.sector c.in-Some.block first count c.blocks_along-count.ensures.along
    (λ k below. c.blocks_along-count.ensures.follow c.args.element c.args.position c.args.sector k (sym c.block_at.ensures ∙ c.in-Some.is) below) (sym c.first_copy.ensures ∙ c.in-Some-first_copy.is) in (
      c.blocks_along-count.ensures.some,
      c.blocks_along-count.ensures.within,
      λ k below. run_good v held c.args.element c.args.part.now c.args.position c.args.sector c.in-Some.block own first count run (sym c.site_at.ensures ∙ c.in-Some-site_at.is) k below
          (ap (λ (s : Site). bytes_at held (further k s)) (c.if-is_site.ensures.yes refl)),
    )
