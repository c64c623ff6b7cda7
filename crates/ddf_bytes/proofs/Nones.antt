-- What it says that there is none of several things.
use Rattle.std.proofs.Common.{◌≡◌, Bool, true, false, not, List, [], ◌∷◌, Option, Some, None, refl}
use Rattle.std.specs.List.{AllByRecursion}
use Rattle.ddf_bytes.specs.Choices.{when, first_of}

pub none_first : {X : Type 0} (os : List (Option X)) → first_of os ≡ None → AllByRecursion (λ o. o ≡ None) os
none_first [] h = tt
none_first (None ∷ os) h = (refl, none_first os h)
none_first (Some x ∷ os) h = absurd cc

pub none_when : {X : Type 0} (test : Bool) (x : X) → when test x ≡ None → test ≡ false
none_when true x h = absurd cc
none_when false x h = refl

pub none_when_not : {X : Type 0} (test : Bool) (x : X) → when (not test) x ≡ None → test ≡ true
none_when_not true x h = refl
none_when_not false x h = absurd cc
