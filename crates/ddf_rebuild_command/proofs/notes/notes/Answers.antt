use Rattle.std.proofs.Common.{◌*◌, ◌++◌, ◌∙◌, List, ℕ, ap}
use Rattle.ddf_rebuild_command.proofs.Noting.{all_noted, all_notes, does_pass, fails, notes_from, none_noted, one_noted}
use Rattle.ddf_rebuild_command.proofs.notes.notes.Goals.{else-kept-row, then-kept-row+then-row-rows+in_ok-push}
use Rattle.ddf_rebuild_command.proofs.notes.notes.Goals as goal

pub loop-number-init : goal.loop-number-init
loop-number-init c =
    ap (λ (found : List ℕ). found ++ notes_from c.args.kept c.args.rows c.rows_between-between.result 1 63) c.new-found.ensures.items
    ∙ ap (λ (between : ℕ). notes_from c.args.kept c.args.rows between 1 63) c.rows_between-between.ensures ∙ all_notes c.args.kept c.args.rows

pub loop-number-preserved : goal.loop-number-preserved
loop-number-preserved c = elim c.if-kept-row.branch [
  | then-kept-row+then-row-rows+in_ok-push w ↦
      let row = c.loop-number.number * c.rows_between-between.result in
      rw (w.found-is, w.in_ok-push.ensures.items)
      (one_noted c.args.kept c.args.rows c.rows_between-between.result c.loop-number.number c.loop-number.found.items _ c.loop-number-test.true
      (does_pass c.args.kept c.args.rows row w.if-kept-row.true w.if-row-rows.true) c.loop-number.invariant)
  | else-kept-row w ↦
      let row = c.loop-number.number * c.rows_between-between.result in
      rw w.found-is
      (none_noted c.args.kept c.args.rows c.rows_between-between.result c.loop-number.number c.loop-number.found.items _ c.loop-number-test.true
      (fails c.args.kept c.args.rows row w.else-kept-row.either) c.loop-number.invariant)
]

pub returns : goal.returns
returns c = all_noted c.args.kept c.args.rows c.rows_between-between.result c.loop-number.number c.loop-number.found.items _ c.loop-number-test.false c.loop-number.invariant
