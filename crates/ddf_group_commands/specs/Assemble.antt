-- What `assemble` tells, and how it ends.
use Rattle.std.specs.Prelude.{◌≡◌, ℕ, List, [], Option, Result, Ok, Err, IfErr, IfOk, string_bytes}
use Rattle.std.specs.declared.string.String.{String}
use Rattle.std.specs.declared.alloc.Global.{Global}
use Rattle.ddf_group.specs.declared.answer.Assembly.{Assembly}
use Rattle.ddf_seats.specs.Group.{GroupValue}
use Rattle.ddf_assembly.specs.Group.{group_of}
use Rattle.ddf_recovery.specs.Recovery.{config_recovered}
use Rattle.ddf_text.specs.GroupText.{group_text}
use Rattle.ddf_answer.specs.declared.failure.Failure.{Failure}
use Rattle.ddf_answer.specs.Answers.{IsToldFailure}
use Rattle.ddf_answer.specs.Call.{Answer, Work}
use Rattle.ddf_group_commands.specs.Change.{HasChanged, Request}
use Rattle.ddf_answer.specs.Tells.{ClosesWith}

-- it asks for no change: the group is only recovered
abbrev pub no_change : Request
no_change config seats = Ok []

-- what a group tells once it is recovered
abbrev pub told_group : GroupValue → List ℕ
told_group group = group_text (config_recovered group) group.seats

-- The group was recovered, and this is its text; or why it wasn't.
pub record HasTold {D : Type 0} (work : Work D) (named : Option (List ℕ)) (timestamp : ℕ) (result : Result (String Global) Failure) : Type 0 where
  pub outcome : Result ℕ Failure
  pub has : HasChanged work named timestamp no_change outcome
  pub failed : IfErr result (λ failure. outcome ≡ Err failure)
  pub told : IfOk result (λ text. (group : GroupValue) × (sequence : ℕ) × (group_of has.taken.newest named ≡ Ok group) × (outcome ≡ Ok sequence) × (string_bytes text ≡ told_group group))

-- what is told of a group that was recovered, and with which status: once a disk was written no memory is taken
abbrev pub IsTold : Result GroupValue Assembly → Result ℕ Failure → Answer → Type 0
IsTold (Ok group) (Ok sequence) answer = ClosesWith 0 (told_group group) answer
IsTold (Err fault) (Ok sequence) answer = ⊥
IsTold found (Err failure) answer = IsToldFailure failure answer

-- It recovered the group, and told it; or it told why not.
pub record IsAssembleDone {D : Type 0} (work : Work D) (named : Option (List ℕ)) (timestamp : ℕ) (answer : Answer) : Type 0 where
  pub outcome : Result ℕ Failure
  pub has : HasChanged work named timestamp no_change outcome
  pub ends : IsTold (group_of has.taken.newest named) outcome answer
