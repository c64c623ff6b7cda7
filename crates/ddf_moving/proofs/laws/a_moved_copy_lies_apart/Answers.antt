use Rattle.ddf_moving.proofs.Free.{apart, front, made, made_workspace, no_extent, no_section, under, within}
use Rattle.ddf_moving.proofs.Alike.{made_numbers}
use Rattle.ddf_moving.proofs.laws.a_moved_copy_lies_apart.Goals as goal

pub returns-clause-made : goal.returns-clause-made
returns-clause-made c = λ size room anchor old like extents may. made size room anchor old like extents may

pub returns-clause-under : goal.returns-clause-under
returns-clause-under c = λ size room anchor old like new extents may is. under size room anchor old like extents may new is

pub returns-clause-within : goal.returns-clause-within
returns-clause-within c = λ size room anchor old like new extents may is own l of_new. within size room anchor old like extents may new is own l of_new

pub returns-clause-apart : goal.returns-clause-apart
returns-clause-apart c = λ size room anchor old like new extents may is own which l of_new of_old. apart size room anchor old like extents may new is own which l of_new of_old

pub returns-clause-sections : goal.returns-clause-sections
returns-clause-sections c = λ size room anchor old like new extents may is own which l of_new section lt here. no_section size room anchor old like extents may new is own which l of_new section lt here

pub returns-clause-front : goal.returns-clause-front
returns-clause-front c = λ size room anchor old like extents may l low high. front size room anchor old like extents may l low high

pub returns-clause-extents : goal.returns-clause-extents
returns-clause-extents c = λ size room anchor old like new extents may is own l of_new k extent at start ends. no_extent size room anchor old like extents may new is own l of_new k extent at start ends

pub returns-clause-numbers : goal.returns-clause-numbers
returns-clause-numbers c = λ old like new is. made_numbers old like new is

pub returns-clause-workspace : goal.returns-clause-workspace
returns-clause-workspace c = λ old like new is. made_workspace old like new is
