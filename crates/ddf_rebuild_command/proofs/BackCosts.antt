-- How many sectors a copyback asks for.
use Rattle.std.proofs.Common.{◌≡◌, ℕ, List, Ok, Err, Result, inl}
use Rattle.ddf_bay.specs.ReadsOnly.{ReadsOnly}
use Rattle.ddf_group.specs.declared.answer.Assembly.{Assembly}
use Rattle.ddf_seats.specs.Group.{GroupValue}
use Rattle.ddf_answer.specs.Call.{Work}
use Rattle.ddf_answer.proofs.Costs.{none_written}
use Rattle.ddf_rebuild_command.specs.CopiedBack.{CostsOfGoingBack}

-- It only read.
pub none_cost_back : {D : Type 0} (work : Work D) (timestamp : ℕ) (word : List ℕ) (slot : ℕ) → ReadsOnly work.old work.new → (meaning : Result GroupValue Assembly) → CostsOfGoingBack work timestamp word slot meaning
none_cost_back work timestamp word slot reads (Ok found) = inl (none_written work reads)
none_cost_back work timestamp word slot reads (Err fault) = none_written work reads
