-- What holds of a call's value, up to want of memory.
use Rattle.std.proofs.Common.{◌≡◌, inl, inr, Option, Some, None, Result, Ok, Err, refl, sym, subst}
use Rattle.std.specs.Prelude.{IfOk}
use Rattle.ddf_bytes.specs.Choices.{ok_unless}
use Rattle.ddf_tables.specs.declared.fault.TableFault.{TableFault}
use Rattle.ddf_tables.specs.Faults.{UpToMemory}

ok_parts : {T : Type 0} (o : Option TableFault) (x y : T) → ok_unless o x ≡ Ok y → (o ≡ None) × (x ≡ y)
ok_parts None x y h = (refl, cc)
ok_parts (Some e) x y h = absurd cc

-- what holds of the value where there is no fault, holds of the one that is given
pub if_ok : {T : Type 0} (P : T → Type 0) (o : Option TableFault) (x : T) (result : Result T TableFault) → UpToMemory result (ok_unless o x) → (o ≡ None → P x) → IfOk result P
if_ok P o x (Ok y) (inl e) h = let parts = ok_parts o x y (sym e) in subst P parts.1 (h parts.0)
if_ok P o x (Ok y) (inr e) h = absurd cc
if_ok P o x (Err fault) given h = tt

-- what follows from what holds of the value that is given
pub if_ok_then : {T E : Type 0} (P Q : T → Type 0) (result : Result T E) → ((x : T) → P x → Q x) → IfOk result P → IfOk result Q
if_ok_then P Q (Ok x) then given = then x given
if_ok_then P Q (Err e) then given = tt
