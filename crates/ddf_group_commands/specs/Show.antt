-- What `show` tells, and how it ends.
use Rattle.std.specs.Prelude.{◌⊎◌, ℕ, List, Option, Result, Ok, Err}
use Rattle.ddf_seats.specs.Group.{GroupValue}
use Rattle.ddf_text.specs.GroupText.{shown_text}
use Rattle.ddf_answer.specs.declared.failure.Failure.{Failure}
use Rattle.ddf_answer.specs.declared.failure.Failure.TheVariants.{Memory}
use Rattle.ddf_answer.specs.Answers.{IsToldFailure}
use Rattle.ddf_answer.specs.Call.{Answer, Work}
use Rattle.ddf_answer.specs.Tells.{ClosesWith}
use Rattle.ddf_group_commands.specs.GroupRead.{IsGroupRead}

-- what a group tells as it was assembled
abbrev pub shown_group : GroupValue → List ℕ
shown_group group = shown_text group.config group.seats group.lagging

-- the text of a group, unless memory runs out before it is told
abbrev pub IsGroupShown : GroupValue → Answer → Type 0
IsGroupShown group answer = ClosesWith 0 (shown_group group) answer ⊎ IsToldFailure Memory answer

-- what is told of what was read, and with which status
abbrev pub IsShowTold : Result GroupValue Failure → Answer → Type 0
IsShowTold (Ok group) answer = IsGroupShown group answer
IsShowTold (Err failure) answer = IsToldFailure failure answer

-- A call read the group that the newest copies of the slots give that aren't left out, and told it; or it told why there is none.
pub record IsShown {D : Type 0} (work : Work D) (named : Option (List ℕ)) (answer : Answer) : Type 0 where
  pub found : Result GroupValue Failure
  pub read : IsGroupRead work named found
  pub ends : IsShowTold found answer
