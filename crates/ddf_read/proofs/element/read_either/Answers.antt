use Rattle.ddf_array.proofs.ElementCells.{copies_on}
use Rattle.ddf_read.proofs.Sites.{site_at_within}
use Rattle.ddf_read.proofs.Steps.{not_read_twice, read_second}
use Rattle.ddf_read.proofs.Tries.{given_before}
use Rattle.ddf_read.proofs.element.read_either.Goals as goal

pub try_site-requires : goal.try_site-requires
try_site-requires g c = rw c.site_at-first.ensures (site_at_within _ c.args.part.now _ c.args.low.sector c.requires.fits c.requires.low)

pub returns-in-Ok-clause-tried : goal.returns-in-Ok-clause-tried
returns-in-Ok-clause-tried g c = λ tells.
    given_before _ _ (copies_on c.args.part.now.places c.args.low.sector c.args.low.member) (copies_on c.args.part.now.places c.args.high.sector c.args.high.member) _
    (rw (c.site_at-first.ensures, c.from.ensures) at (c.in-Ok.ensures.tried tells))

pub try_site-requires-2 : goal.try_site-requires-2
try_site-requires-2 g c =
    rw (c.site_at-second.ensures, c.in-Err.ensures.reads.reads.same_sizes) (site_at_within _ c.args.part.now _ c.args.high.sector c.requires.fits c.requires.high)

pub returns-in-Ok-try_site-clause-tried : goal.returns-in-Ok-try_site-clause-tried
returns-in-Ok-try_site-clause-tried g c = λ tells.
    read_second c.in-Err.ensures.reads c.in-Ok-try_site.ensures.reads (copies_on c.args.part.now.places c.args.low.sector c.args.low.member) (copies_on c.args.part.now.places c.args.high.sector c.args.high.member)
    c.in-Err.failed c.try_site-2.new.into (rw (c.site_at-first.ensures, c.from.ensures) at c.in-Err.ensures.tried) (rw (c.site_at-second.ensures, c.from-2.ensures) at (c.in-Ok-try_site.ensures.tried tells))

pub returns-in-Err-try_site-clause-tried : goal.returns-in-Err-try_site-clause-tried
returns-in-Err-try_site-clause-tried g c =
    rw c.or.ensures
    (not_read_twice c.in-Err.ensures.reads c.in-Err-try_site.ensures.reads (copies_on c.args.part.now.places c.args.low.sector c.args.low.member)
    (copies_on c.args.part.now.places c.args.high.sector c.args.high.member) c.in-Err.failed c.in-Err-try_site.next (rw (c.site_at-first.ensures, c.from.ensures) at c.in-Err.ensures.tried)
    (rw (c.site_at-second.ensures, c.from-2.ensures) at c.in-Err-try_site.ensures.tried))
