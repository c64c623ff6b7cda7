use Rattle.std.proofs.Common.{◌≡◌, ◌∙◌, ◌+◌, length, arith}
use Rattle.std.proofs.lemmas.List.{take_all, take-append-le}
use Rattle.ddf_copy.proofs.RunsRead.{run_is}
use Rattle.ddf_copy.proofs.raw.read_section.Goals as goal

pub returns-in-Ok-read_run-clause-sectors : goal.returns-in-Ok-read_run-clause-sectors
returns-in-Ok-read_run-clause-sectors g c = λ tells.
    let same : length c.read_run.new.into ≡ length c.as_mut_slice.result.now = c.read_run.auto.into in
    let count : length c.as_mut_slice.result.now ≡ c.in-Ok.sectors.len = c.as_mut_slice.ensures.len in
    let long : length c.read_run.new.into ≡ c.args.section.length = omega (arith, same, count, c.in-Ok.ensures.len) in
    let whole : c.new-in-Ok-read_run.result ≡ c.read_run.new.into = c.new-in-Ok-read_run.ensures ∙ take-append-le c.in-Ok.sectors.len c.read_run.new.into _ (omega (arith, same, count)) ∙ take_all c.in-Ok.sectors.len c.read_run.new.into (omega (arith, same, count)) in
    whole ∙ run_is ((g.B.Bay.disks c.args.bay.now).held c.args.slot) (c.args.lba + c.args.section.offset) c.args.section.length c.read_run.new.into long (rw c.from.ensures at (c.in-Ok-read_run.ensures.bytes tells))
