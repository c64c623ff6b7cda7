use Rattle.std.proofs.Common.{◌≡◌, ◌∙◌, ◌+◌, ◌≤◌, ◌^◌, sym, true, get_or, arith}
use Rattle.std.proofs.lemmas.List.Folds.{list_any_at}
use Rattle.ddf_config.specs.Room.{meets}
use Rattle.ddf_config.proofs.Starts.{meets_later, meets_before_end}
use Rattle.ddf_config.proofs.room.end_of_one_that_meets.Goals as goal

pub returns-then-do_meet : goal.returns-then-do_meet
returns-then-do_meet c =
    let x = get_or c.args.taken.now c.loop-extent.extent-index (0, 0) in
    let met : meets c.args.start c.args.blocks x ≡ true = sym c.do_meet.ensures ∙ c.if-do_meet.true in
    let small : x.0 + x.1 ≤ 2 ^ 65 = omega (arith, c.end_of.ensures.value, c.end_of.ensures.small) in
    rw c.end_of.ensures.value (
      meets_before_end c.args.start c.args.blocks x met,
      small,
      λ later after before. list_any_at (meets later c.args.blocks) c.args.taken.now c.loop-extent.extent-index (0, 0) c.loop-extent-test.true
          (meets_later c.args.start later c.args.blocks x met after before),
    )
