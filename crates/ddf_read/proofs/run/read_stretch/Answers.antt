use Rattle.std.proofs.Common.{◌+◌, ◌-◌, length, arith}
use Rattle.std.proofs.lemmas.Result.{MatchResult-weaker, on_ok_weaker}
use Rattle.ddf_array.specs.Places.{site_on}
use Rattle.ddf_read.proofs.BlockSources.{given_by_first, has_first}
use Rattle.ddf_read.proofs.FirstCopies.{first_there}
use Rattle.ddf_read.proofs.OnlyReading.{failed_behind}
use Rattle.ddf_read.proofs.Pieces.{given_after, left_after}
use Rattle.ddf_read.proofs.SourceSlots.{copy_on}
use Rattle.ddf_read.proofs.run.read_stretch.Goals as goal

pub read_from-requires-clause-slot : goal.read_from-requires-clause-slot
read_from-requires-clause-slot g c =
    (first_there _ c.args.view.now c.requires.known c.requires.fits (c.args.start + 0) (site_on c.args.first.slot (c.args.first.lba + 0)) (c.requires.follow 0 c.requires.some)).slot_is

pub read_from-requires-clause-sectors : goal.read_from-requires-clause-sectors
read_from-requires-clause-sectors g c =
    let last = length c.args.out.now - 1 in
    let there = first_there _ c.args.view.now c.requires.known c.requires.fits (c.args.start + last) (site_on c.args.first.slot (c.args.first.lba + last)) (c.requires.follow last (omega (arith, c.requires.some))) in
    omega (arith, there.lba_is, c.requires.some)

pub read_each-requires-clause-fits : goal.read_each-requires-clause-fits
read_each-requires-clause-fits g c = rw c.in-Err.ensures.reads.reads.same_sizes c.requires.fits

pub read_each-requires-clause-sources : goal.read_each-requires-clause-sources
read_each-requires-clause-sources g c = λ k below.
    has_first c.args.view.now (c.args.start + k) _ (c.requires.follow k (omega (arith, below, c.read_from.auto.into)))

pub returns-in-Ok-clause-given : goal.returns-in-Ok-clause-given
returns-in-Ok-clause-given g c = λ tells k below.
    given_by_first c.args.view.now (c.args.start + k) (site_on c.args.first.slot (c.args.first.lba + k)) _ _ _ (c.requires.follow k below)
    (c.in-Ok.ensures.bytes tells k (omega (arith, below, c.read_from.auto.into)))

pub returns-in-Err-clause-given : goal.returns-in-Err-clause-given
returns-in-Err-clause-given g c = λ tells.
    on_ok_weaker c.read_each.result
    (λ given. given_after c.in-Err.ensures.reads c.read_each.ensures.reads c.args.view.now c.args.start _ _ (rw c.read_from.auto.into at given))
    (c.read_each.ensures.given tells)

pub returns-in-Err-clause-left : goal.returns-in-Err-clause-left
returns-in-Err-clause-left g c =
    MatchResult-weaker c.read_each.result c.read_each.ensures.left (λ done none. none)
    (λ slot left. left_after c.in-Err.ensures.reads c.read_each.ensures.reads c.args.view.now c.args.start _ slot (rw c.read_from.auto.into at left))

pub returns-in-Err-clause-calls : goal.returns-in-Err-clause-calls
returns-in-Err-clause-calls g c = λ none_failed.
    let on = copy_on c.args.view.now (c.args.start + 0) (site_on c.args.first.slot (c.args.first.lba + 0)) (c.requires.follow 0 c.requires.some) in
    let failed = failed_behind c.in-Err.ensures.reads c.read_each.ensures.reads c.in-Err.field-0 c.in-Err.ensures.failed in
    absurd (none_failed c.args.first.slot on (rw c.in-Err.ensures.named at failed))
