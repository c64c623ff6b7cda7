use Rattle.std.proofs.Common.{◌≡◌, ℕ, List, ◌++◌, Option, Some, sym, subst, ◌∙◌}
use Rattle.ddf_plan.specs.CreateRefusal.{references}
use Rattle.ddf_repair.specs.declared.first.Out.{Out}
use Rattle.ddf_repair.specs.Begin.{IsBegun, begun_at, begun_in}
use Rattle.ddf_repair.specs.First.{first_out}
use Rattle.ddf_repair.proofs.beginning.begun_in.Goals as goal

pub returns-in_ok-used-in-Some : goal.returns-in_ok-used-in-Some
returns-in_ok-used-in-Some c =
    let config = c.args.config.now in
    let guid = c.args.guid.now in
    let seats = c.args.seats.now in
    let array = c.args.array.now in
    let used : c.as_slice.result.now ≡ c.args.aside.now ++ references array = c.as_slice.ensures.value ∙ c.in_ok-used-in-Some.ensures in
    let first : first_out array ≡ Some c.in-Some.out = sym c.first_out.ensures.value ∙ c.in-Some.is in
    subst (λ (out : Option Out). IsBegun (begun_in config guid seats (c.args.aside.now ++ references array) out) c.begun_at.result) (sym first)
    (subst (λ (disks : List ℕ). IsBegun (begun_at config guid seats disks c.in-Some.out) c.begun_at.result) used c.begun_at.ensures)
