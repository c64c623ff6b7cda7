use Rattle.std.proofs.Common.{◌≡◌, ◌∙◌, ⊎_elim, ℕ, ◌+◌, ◌-◌, ◌<◌, ◌≤◌, Some, sym, ap, arith}
use Rattle.std.proofs.lemmas.Bool.{cases_lt}
use Rattle.ddf_lemmas.proofs.Options.{some_is}
use Rattle.ddf_cells.proofs.BlockOf.{block_within}
use Rattle.ddf_write.proofs.looking.others_from.Goals as goal
use Rattle.ddf_write.proofs.KeptValues.{never_some}

pub blocks_along-requires-clause-block : goal.blocks_along-requires-clause-block
blocks_along-requires-clause-block c = block_within c.args.view.now c.args.element c.args.position c.args.sector c.in-Some.block (sym c.in-Some.ensures)

pub returns-in-Some-clause-others : goal.returns-in-Some-clause-others
returns-in-Some-clause-others c = λ k below j inside same.
    let at = c.blocks_along.ensures.follow c.args.element c.args.position c.args.sector k (sym c.in-Some.ensures) below in
    let is : c.in-Some.block + k ≡ c.args.start + j = some_is (sym at ∙ same) in
    let alike = c.alike_from.ensures.alike in
    let first : c.in-Some.block < c.args.start + c.args.count → c.args.start ≤ c.in-Some.block → ⊥ =
    λ before from. c.requires.first (c.in-Some.block - c.args.start) (omega (arith, before, from)) (sym c.in-Some.ensures ∙ ap Some (omega (arith, from))) in
    outside c.in-Some.block c.args.start c.args.count k j c.alike_from.result is inside (omega (arith, below, c.blocks_along.ensures.within)) alike.before first
  where
    outside : (block start count k j many : ℕ) → block + k ≡ start + j → j < count → k < many → (block < start → block + many ≤ start) → (block < start + count → start ≤ block → ⊥) → ⊥
    outside block start count k j many same inside below before among =
        ⊎_elim (λ (earlier : block < start). omega (arith, before earlier, same, below)) (λ (later : start ≤ block). among (omega (arith, same, inside)) later) (cases_lt block start)

pub returns-in-None-clause-others : goal.returns-in-None-clause-others
returns-in-None-clause-others c = λ k below j inside same. never_some (sym (c.empty_from.ensures.empty k below) ∙ same)
