-- How often a write to an array without parity calls the bay.
use Rattle.std.proofs.Common.{◌≡◌, ◌∙◌, ◌⊎◌, ℕ, ◌+◌, ◌*◌, ◌≤◌, false, List, length, Option, Result, Ok, ap, subst, inl, inr, arith}
use Rattle.ddf_array.specs.Volume.{Volume}
use Rattle.ddf_cells.specs.CellsOn.{write_stretches}
use Rattle.ddf_write.specs.Looking.{most_blocks}
use Rattle.ddf_write.specs.RowWrites.{keeps_parity_anywhere}
use Rattle.ddf_pieces.specs.Pieces.{over_pieces}
use Rattle.ddf_group.specs.declared.answer.Assembly.{Assembly}
use Rattle.ddf_seats.specs.Group.{GroupValue}
use Rattle.ddf_assembly.specs.Group.{group_of}
use Rattle.ddf_answer.specs.Call.{Input, Work}
use Rattle.ddf_read_commands.specs.Read.{most_looks}
use Rattle.ddf_write_commands.specs.Planned.{IsPlanned}
use Rattle.ddf_write_commands.specs.Write.{CallsOfPlan, CallsOfWriting, HasWrittenArray, Outcome, write_request}
use Rattle.ddf_write_commands.proofs.OnePlan.{same_volume}
use Rattle.ddf_availability.specs.Serving.{most_writes, positions_of}
use Rattle.ddf_availability.proofs.FewWrites.{few_writes}

module _ {D : Type 0} (work : Work D) (input : Input) (named : Option (List ℕ)) (timestamp : ℕ) (word : List ℕ) (start count : ℕ) (outcome : Outcome)
    (written : HasWrittenArray work input named timestamp word start count outcome) (found : GroupValue) (is_found : group_of written.taken.newest named ≡ Ok found)
    (plan : IsPlanned found timestamp word (write_request word start count)) (none : keeps_parity_anywhere plan.volume ≡ false) where
  abbrev most : ℕ
  most = most_writes (length work.old.sizes) (positions_of plan.volume) count

  by_plan : CallsOfPlan work found timestamp word start count → work.new.calls ≤ work.old.calls + most
  by_plan called =
      let same = same_volume found timestamp word (write_request word start count) called.plan plan in
      let grew = called.most (ap keeps_parity_anywhere same ∙ none) in
      let few = subst (λ (volume : Volume). over_pieces (write_stretches called.plan.volume) most_blocks start count grew.pieces ≤ positions_of volume * count) same
      (few_writes called.plan.volume most_blocks start count grew.pieces) in
      let more = grew.grew in
      omega (arith, few, more)

  pub write_counted : work.new.calls ≤ work.old.calls + most
  write_counted = by (subst (λ (meaning : Result GroupValue Assembly). CallsOfWriting work timestamp word start count meaning) is_found written.calls)
    where
      by : (work.new.calls ≤ work.old.calls + most_looks (length work.old.sizes)) ⊎ CallsOfPlan work found timestamp word start count → work.new.calls ≤ work.old.calls + most
      by (inl few) = omega (arith, few)
      by (inr called) = by_plan called
