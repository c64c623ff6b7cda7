-- The answers that a call has up to want of memory.
use Rattle.std.specs.Prelude.{◌≡◌, ◌⊎◌, Result, Err}
use Rattle.ddf_tables.specs.declared.fault.TableFault.{TableFault}
use Rattle.ddf_tables.specs.declared.fault.TableFault.TheVariants.{Memory}

-- The result is this answer, or memory ran out.
abbrev pub UpToMemory : {T : Type 0} → Result T TableFault → Result T TableFault → Type 0
UpToMemory result answer = (result ≡ answer) ⊎ (result ≡ Err Memory)
