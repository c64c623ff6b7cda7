-- Choices among several things, in their order: what is wrong first, and else a value.
use Rattle.std.specs.Prelude.{Bool, if◌then◌else◌, List, [], ◌∷◌, Option, Some, None, Result, Ok, Err}
use Rattle.std.specs.Option.{option_or}

-- a value where a test holds
abbrev pub when : {X : Type 0} → Bool → X → Option X
when test x = if test then Some x else None

-- the first that is there
abbrev pub first_of : {X : Type 0} → List (Option X) → Option X
first_of [] = None
first_of (o ∷ os) = option_or o (first_of os)

-- a value, unless there is a fault
abbrev pub ok_unless : {T E : Type 0} → Option E → T → Result T E
ok_unless None x = Ok x
ok_unless (Some e) x = Err e
