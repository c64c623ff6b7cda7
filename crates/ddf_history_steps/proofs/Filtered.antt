-- The items of a list that pass a test, and what is made of them.
use Rattle.std.proofs.Common.{◌≡◌, ℕ, Bool, true, false, ◌||◌, List, [], ◌∷◌, Option, Some, if◌then◌else◌, refl}
use Rattle.std.proofs.lemmas.Bool.{false≢true}
use Rattle.std.specs.Prelude.{filter, filter_map, slice_get}
use Rattle.std.specs.List.{list_any}
use Rattle.ddf_lemmas.proofs.Lists.{kept_passes}
use Rattle.ddf_rewrite.proofs.AllWanted.{filter_map_get}

-- What is made of items that pass is made of one that does.
pub made_of : {X Y : Type 0} (make : X → Option Y) (test : X → Bool) (xs : List X) (place : ℕ) (y : Y)
    → slice_get (filter_map make (filter test xs)) place ≡ Some y → (x : X) × (test x ≡ true) × (make x ≡ Some y)
made_of make test xs place y at =
    let found = filter_map_get make (filter test xs) place y at in
    (found.1, kept_passes test xs found.0 found.1 found.2, found.3)

-- an item that passes two tests
abbrev pub PassesBoth : {X : Type 0} → (test also : X → Bool) → Type 0
PassesBoth {X = X} test also = (x : X) × (test x ≡ true) × (also x ≡ true)

-- Where some item that is kept passes another test, there is one.
pub any_kept : {X : Type 0} (test also : X → Bool) (xs : List X) → list_any also (filter test xs) ≡ true → PassesBoth test also
any_kept test also [] any = absurd (false≢true any)
any_kept {X = X} test also (first ∷ xs) any = go (any_kept test also xs) (test first) refl any
  where
    or_later : (list_any also (filter test xs) ≡ true → PassesBoth test also) → test first ≡ true → (b : Bool) → also first ≡ b
        → (b || list_any also (filter test xs)) ≡ true → PassesBoth test also
    or_later later is true too either = (first, is, too)
    or_later later is false too either = later either

    go : (list_any also (filter test xs) ≡ true → PassesBoth test also) → (b : Bool) → test first ≡ b
        → list_any also (if b then first ∷ filter test xs else filter test xs) ≡ true → PassesBoth test also
    go later true is found = or_later later is (also first) refl found
    go later false is found = later found
