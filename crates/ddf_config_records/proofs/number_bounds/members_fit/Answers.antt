use Rattle.std.proofs.Common.{◌≡◌, ◌<◌, ◌+◌, ◌^◌, suc, subst, map, take, arith}
use Rattle.std.specs.List.{AllByRecursion}
use Rattle.ddf_config_records.specs.declared.place.Place.{Place}
use Rattle.ddf_config_records.proofs.Building.{all_more}
use Rattle.ddf_config_records.proofs.number_bounds.members_fit.Goals as goal

pub loop-member-preserved : goal.loop-member-preserved
loop-member-preserved c =
    let members = c.args.members.now in
    let i = c.loop-member.member-index in
    let none : Place = record { reference = 0; start = 0 } in
    let next : suc i ≡ i + 1 = omega arith in
    let references = all_more (λ n. n < 2 ^ 32) (λ (member : Place). member.reference) members i none c.loop-member-test.true c.loop-member.invariant.0 c.member_fits.ensures.reference in
    let starts = all_more (λ n. n < 2 ^ 64) (λ (member : Place). member.start) members i none c.loop-member-test.true c.loop-member.invariant.1 c.member_fits.ensures.start in (
      subst (λ n. AllByRecursion (λ reference. reference < 2 ^ 32) (map (λ (member : Place). member.reference) (take n members))) next references,
      subst (λ n. AllByRecursion (λ start. start < 2 ^ 64) (map (λ (member : Place). member.start) (take n members))) next starts,
    )
