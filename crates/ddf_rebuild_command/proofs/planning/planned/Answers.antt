use Rattle.std.proofs.Common.{◌∙◌, Ok, ap, arith}
use Rattle.ddf_repair.specs.declared.beginning.Begun.{Begun}
use Rattle.ddf_rebuild_command.proofs.PlanMade.{again_planned, kept_told, place_there, rows_told}
use Rattle.ddf_rebuild_command.proofs.Targets.{is_again, is_fresh_at}
use Rattle.ddf_rebuild_command.proofs.Views.{few_elements}
use Rattle.ddf_rebuild_command.proofs.planning.planned.Goals as goal

pub begin-requires : goal.begin-requires
begin-requires c = λ found there.
    let few = few_elements c.args.config.now c.args.guid c.args.seats.now c.args.view c.requires.viewed c.parts-parts.ensures.sound found there in
    omega (arith, few)

pub rows_of-rows-requires : goal.rows_of-rows-requires
rows_of-rows-requires c =
    place_there c.args.config.now c.args.guid c.args.seats.now c.args.view c.requires.viewed c.in-Ok-Again.target
    (is_again c.args.config.now c.args.guid c.args.seats.now _ c.in-Ok-Again.target (c.in-Ok-Again.ensures ∙ ap (λ (one : Begun). Ok one) c.in-Ok-Again.field-0-is)).first

pub returns-in-Ok-Again : goal.returns-in-Ok-Again
returns-in-Ok-Again c = λ array found.
    let target = c.in-Ok-Again.target in
    let begun = c.in-Ok-Again.ensures ∙ ap (λ (one : Begun). Ok one) c.in-Ok-Again.field-0-is in
    let first = (is_again c.args.config.now c.args.guid c.args.seats.now _ target begun).first in
    again_planned c.args.config.now c.args.seats.now c.args.aside.now c.args.guid array found c.args.view c.requires.viewed c.parts-parts.ensures.sound c.requires.unmarked c.requires.seated target begun
    c.rows_of-rows.result.0 c.rows_of-rows.result.1
    (rows_told c.args.config.now c.args.guid c.args.seats.now c.args.view c.requires.viewed target first array found c.rows_of-rows.result.0 c.rows_of-rows.ensures.rows)
    (kept_told c.args.config.now c.args.guid c.args.seats.now c.args.view c.requires.viewed target first array found c.rows_of-rows.result.1 c.rows_of-rows.ensures.kept)
    c.rows_of-rows.ensures.few c.in_ok-plan-in-Ok-Again.plan c.in_ok-plan-in-Ok-Again.ensures

pub rows_of-rows-requires-in-Ok-Fresh : goal.rows_of-rows-requires-in-Ok-Fresh
rows_of-rows-requires-in-Ok-Fresh c =
    place_there c.args.config.now c.args.guid c.args.seats.now c.args.view c.requires.viewed c.in-Ok-Fresh.target
    (is_fresh_at c.args.config.now c.args.guid c.args.seats.now _ c.in-Ok-Fresh.target c.in-Ok-Fresh.change (c.in-Ok-Fresh.ensures ∙ ap (λ (one : Begun). Ok one) c.in-Ok-Fresh.field-0-is)).first

pub fresh-requires-clause-begun : goal.fresh-requires-clause-begun
fresh-requires-clause-begun c = (c.args.aside.now, c.in-Ok-Fresh.ensures ∙ ap (λ (one : Begun). Ok one) c.in-Ok-Fresh.field-0-is)

pub fresh-requires-clause-viewed : goal.fresh-requires-clause-viewed
fresh-requires-clause-viewed c = (c.args.view, c.requires.viewed, c.requires.unmarked)

pub returns-in-Ok-Fresh : goal.returns-in-Ok-Fresh
returns-in-Ok-Fresh c = λ array found.
    let target = c.in-Ok-Fresh.target in
    let begun = c.in-Ok-Fresh.ensures ∙ ap (λ (one : Begun). Ok one) c.in-Ok-Fresh.field-0-is in
    let first = (is_fresh_at c.args.config.now c.args.guid c.args.seats.now _ target c.in-Ok-Fresh.change begun).first in
    c.fresh.ensures c.args.aside.now array found
    (rows_told c.args.config.now c.args.guid c.args.seats.now c.args.view c.requires.viewed target first array found c.rows_of-rows-in-Ok-Fresh.result.0 c.rows_of-rows-in-Ok-Fresh.ensures.rows)
    begun
