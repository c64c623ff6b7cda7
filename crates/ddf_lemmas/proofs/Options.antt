-- What follows from options and results.
use Rattle.std.proofs.Common.{Bool, None, Ok, Option, Result, Some, ap, false, refl, sym, true, ℕ, ◌&&◌, ◌↔◌, ◌∙◌, ◌≡◌}
use Rattle.std.proofs.lemmas.Bool.{false≢true}
use Rattle.std.proofs.lemmas.Option.{same_Some}
use Rattle.std.specs.Option.{option_map_or, option_or}
use Rattle.std.specs.Prelude.{Err, IfOk, OnErr, OnOk, if◌then◌else◌, is_none, is_some, option_map}

pub none_from_map : {X Y : Type 0} (f : X → Y) (o : Option X) → option_map f o ≡ None → o ≡ None
none_from_map f None h = refl
none_from_map f (Some x) h = absurd cc

pub none_of_both : {Y : Type 0} (a b : Option Y) → option_or a b ≡ None → (a ≡ None) × (b ≡ None)
none_of_both None b e = (refl, e)
none_of_both (Some y) b e = absurd cc

pub always_ok : {T E P : Type 0} (r : Result T E) → P → OnOk r P
always_ok (Ok x) p = p
always_ok (Err y) p = tt

pub on_err : {T E P : Type 0} (r : Result T E) → P → OnErr r P
on_err (Ok x) p = tt
on_err (Err e) p = p

pub some_is : {X : Type 0} {a b : X} → Some a ≡ Some b → a ≡ b
some_is e = cc

pub if_ok_then : {T E : Type 0} {P Q : T → Type 0} (r : Result T E) → ((x : T) → P x → Q x) → IfOk r P → IfOk r Q
if_ok_then (Ok x) f p = f x p
if_ok_then (Err e) f p = p

pub some_block : (answer block : ℕ) {P : Type 0} → (block ≡ answer) ↔ P → (◌≡◌ {A = Option ℕ} (Some answer) (Some block)) ↔ P
some_block answer block both = (λ e. both.0 (sym (same_Some answer block e)), λ p. ap Some (sym (both.1 p)))

pub none_from_not_some : {X : Type 0} (found : Option X) → is_some found ≡ false → found ≡ None
none_from_not_some None h = refl
none_from_not_some (Some x) h = absurd cc

pub none_from_is_none : {X : Type 0} (o : Option X) → is_none o ≡ true → o ≡ None
none_from_is_none None e = refl
none_from_is_none (Some x) e = absurd cc

pub value_there : {X : Type 0} (test : X → Bool) (o : Option X) → option_map_or test o false ≡ true → (x : X) × (o ≡ Some x) × (test x ≡ true)
value_there test None passes = absurd (false≢true passes)
value_there test (Some x) passes = (x, refl, passes)

pub found_by : {X : Type 0} (test : X → Bool) (y x : X) (b : Bool) (rest : Option X) → test y ≡ b → (if b then Some y else rest) ≡ Some x → (rest ≡ Some x → test x ≡ true) → test x ≡ true
found_by test y x true rest is e later = let same : y ≡ x = cc in sym (ap test same) ∙ is
found_by test y x false rest is e later = later e

pub some_from_is_some : {X : Type 0} (o : Option X) → is_some o ≡ true → (x : X) × (o ≡ Some x)
some_from_is_some None e = absurd (cc)
some_from_is_some (Some x) e = (x, refl)

pub none_some : {X : Type 0} (o : Option X) (x : X) → o ≡ None → o ≡ Some x → ⊥
none_some o x a b = cc

pub same_ok : {X Y : Type 0} (x y : X) → ◌≡◌ {A = Result X Y} (Ok x) (Ok y) → x ≡ y
same_ok x y same = cc

pub ok_is : {A B : Type 0} {one other : A} → ◌≡◌ {A = Result A B} (Ok one) (Ok other) → one ≡ other
ok_is e = cc

pub same_some : {X : Type 0} (o : Option X) (x y : X) → o ≡ Some x → o ≡ Some y → x ≡ y
same_some None x y a b = absurd (cc)
same_some (Some z) x y a b = cc

pub no_first_of_and_some : (synced : Bool) (slot : Option ℕ) → synced ≡ false → (synced && is_some slot) ≡ false
no_first_of_and_some false slot e = refl
no_first_of_and_some true slot e = absurd (cc)

pub first_of_and_some : (synced : Bool) (slot : Option ℕ) → (synced && is_some slot) ≡ true → synced ≡ true
first_of_and_some true slot e = refl
first_of_and_some false slot e = absurd (cc)

pub same_ok_value : {X E : Type 0} (found : Result X E) (one other : X) → found ≡ Ok one → found ≡ Ok other → one ≡ other
same_ok_value {X = X} {E = E} found one other is at = let both : ◌≡◌ {A = Result X E} (Ok one) (Ok other) = sym is ∙ at in cc
