-- Tests, and numbers that are compared.
use Rattle.std.proofs.Common.{◌≡◌, ℕ, Bool, true, false, not, ◌&&◌, if◌then◌else◌, List, [], ◌∷◌, Option, None, eqb, refl, arith}
use Rattle.ddf_config.specs.declared.refusal.Refusal.{Refusal}
use Rattle.ddf_config.specs.Refusals.{first_refusal}
use Rattle.ddf_config.proofs.Common.{pass_more}
use Rattle.ddf_plan.specs.Same.{same_flag}
use Rattle.ddf_repair.proofs.Begins.{three_pass}

pub same : (reference : ℕ) → eqb reference reference ≡ true
same reference = grind arith

-- nothing either way
pub none_either : (test : Bool) → ◌≡◌ {A = ℕ} (if test then 0 else 0) 0
none_either true = refl
none_either false = refl

-- tables differ where one of the two does
pub first_differs : (members arrays : Bool) → members ≡ false → not (members && arrays) ≡ true
first_differs false arrays e = refl
first_differs true arrays e = absurd (cc)

pub second_differs : (members arrays : Bool) → arrays ≡ false → not (members && arrays) ≡ true
second_differs false arrays e = refl
second_differs true false e = refl
second_differs true true e = absurd (cc)

pub flag_is : (flag : Bool) → same_flag flag flag ≡ true
flag_is true = refl
flag_is false = refl

pub pass_six : (a b c d e f : Option Refusal) → a ≡ None → b ≡ None → c ≡ None → d ≡ None → e ≡ None → f ≡ None → first_refusal (a ∷ b ∷ c ∷ d ∷ e ∷ f ∷ []) ≡ None
pass_six a b c d e f p q r s t u =
    pass_more a (b ∷ c ∷ d ∷ e ∷ f ∷ []) p (pass_more b (c ∷ d ∷ e ∷ f ∷ []) q (pass_more c (d ∷ e ∷ f ∷ []) r (three_pass d e f s t u)))

pub pass_five_more : (a b c d e : Option Refusal) (others : List (Option Refusal)) → a ≡ None → b ≡ None → c ≡ None → d ≡ None → e ≡ None → first_refusal others ≡ None → first_refusal (a ∷ b ∷ c ∷ d ∷ e ∷ others) ≡ None
pass_five_more a b c d e others p q r s t rest =
    pass_more a (b ∷ c ∷ d ∷ e ∷ others) p (pass_more b (c ∷ d ∷ e ∷ others) q (pass_more c (d ∷ e ∷ others) r (pass_more d (e ∷ others) s (pass_more e others t rest))))
