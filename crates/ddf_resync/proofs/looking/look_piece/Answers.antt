use Rattle.std.proofs.Common.{◌≡◌, ◌∙◌, ◌+◌, ◌/◌, ◌<◌, ◌≤◌, ◌^◌, Some, sym, subst, arith, rules}
use Rattle.std.proofs.lemmas.Grind.{common_steps}
use Rattle.std.proofs.lemmas.Option.{slice_get_within}
use Rattle.ddf_primary.specs.Cells.{depth_of, parity_member}
use Rattle.ddf_primary.proofs.ShapeFacts.{depth_le}
use Rattle.ddf_array.specs.declared.part.Part.{Part}
use Rattle.ddf_cells.proofs.Depths.{blocks_small}
use Rattle.ddf_resync.proofs.SetStep.{parity_along, parity_is}
use Rattle.ddf_resync.proofs.looking.look_piece.Goals as goal

pub strip_of-requires : goal.strip_of-requires
strip_of-requires g c =
    c.requires.known.are_parts c.args.element c.args.part.now c.requires.is_part

pub read_sums-requires-clause-small : goal.read_sums-requires-clause-small
read_sums-requires-clause-small g c =
    let shape = c.args.part.now.shape in
    let inside : c.args.sector + c.args.count ≤ depth_of shape = c.requires.sectors in
    let all : c.args.sector + c.args.count < 2 ^ 64 =
    omega (arith, inside, depth_le shape.layout shape.strip shape.blocks, blocks_small shape (c.requires.known.are_parts c.args.element c.args.part.now c.requires.is_part).shape_is) in
    first_of (grind (arith, common_steps), search rules)

pub read_sums-requires-clause-there : goal.read_sums-requires-clause-there
read_sums-requires-clause-there g c =
    slice_get_within c.args.view.now.parts c.args.element c.args.part.now c.requires.is_part

pub read_sums-requires-clause-parity : goal.read_sums-requires-clause-parity
read_sums-requires-clause-parity g c = λ other at k below.
    let is = parity_is c.args.part.now c.args.sector c.strip_of.result _ c.from-parity.result c.strip_of.ensures c.in-Some.ensures c.from-parity.ensures in
    let same : c.args.part.now ≡ other = some_is (sym c.requires.is_part ∙ at) in
    let within : k < c.args.count = first_of (grind (arith, common_steps), search rules) in
    subst (λ (q : Part). parity_member q.shape ((c.args.sector + k) / q.shape.strip) ≡ Some c.from-parity.result) same (parity_along c.args.view.now c.requires.known c.args.element c.args.part.now c.requires.is_part c.requires.keeps c.args.sector c.args.count c.requires.some c.requires.sectors c.requires.row c.from-parity.result is k within)
  where
    some_is : {X : Type 0} {a b : X} → Some a ≡ Some b → a ≡ b
    some_is e = cc
