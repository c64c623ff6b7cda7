-- The exit statuses of the program.
use Rattle.std.specs.Prelude.{ℕ}
use Rattle.ddf_answer.specs.declared.status.Status.{Status}
use Rattle.ddf_answer.specs.declared.status.Status.TheVariants as status

abbrev pub code_of : Status → ℕ
code_of status.Ok = 0
code_of status.Refused = 1
code_of status.Words = 2
code_of status.DiskFault = 3
code_of status.Contradicted = 4
code_of status.Memory = 5
code_of status.Stream = 6
code_of status.Cut = 7
