-- Level copies: the same sequence, and the same bytes where they are compared.
use Rattle.std.proofs.Common.{◌≡◌, ℕ, true, eqb, List, [], ◌∷◌, refl, ap, ◌∙◌, sym}
use Rattle.std.proofs.lemmas.Bool.{eq-eqb, eqb-true, false≢true, and_parts}
use Rattle.std.proofs.lemmas.Slice.Eq.{bytes_eq-Decides}
use Rattle.std.specs.Str.{bytes_eq}
use Rattle.ddf_copy.specs.declared.copy.DiskCopy.{DiskCopy}
use Rattle.ddf_copy.specs.declared.which.Which.{Which}
use Rattle.ddf_copy.specs.Headers.{written_as}
use Rattle.ddf_copy.specs.Shows.{IsSame}
use Rattle.ddf_copy.specs.Written.{are_same, counted, is_level}

same_from : (one other : List (List ℕ)) → are_same one other ≡ true → one ≡ other
same_from [] [] h = refl
same_from [] (y ∷ ys) h = absurd (false≢true h)
same_from (x ∷ xs) [] h = absurd (false≢true h)
same_from (x ∷ xs) (y ∷ ys) h =
    let parts = and_parts (bytes_eq x y) (are_same xs ys) h in
    let first : x ≡ y = (bytes_eq-Decides x y).0 parts.0 in
    let rest : xs ≡ ys = same_from xs ys parts.1 in
    rw (first, rest) refl

same_again : (list : List (List ℕ)) → are_same list list ≡ true
same_again [] = refl
same_again (x ∷ xs) =
    let first : bytes_eq x x ≡ true = (bytes_eq-Decides x x).1 refl in
    rw (first, same_again xs) refl

pub level_from : (one other : DiskCopy) → is_level one other ≡ true → (one.header.sequence ≡ other.header.sequence) × (counted one ≡ counted other)
unfolding is_level
level_from one other h =
    let parts = and_parts (eqb one.header.sequence other.header.sequence) (are_same (counted one) (counted other)) h in
    (eqb-true one.header.sequence other.header.sequence parts.0, same_from (counted one) (counted other) parts.1)

pub level_is : (one other : DiskCopy) → one.header.sequence ≡ other.header.sequence → counted one ≡ counted other → is_level one other ≡ true
unfolding is_level
level_is one other sequence same =
    let first = eq-eqb one.header.sequence other.header.sequence sequence in
    let rest : are_same (counted one) (counted other) ≡ true = ap (λ (list : List (List ℕ)). are_same list (counted other)) same ∙ same_again (counted other) in
    rw (first, rest) refl

-- ---- the same copy

pub same_start : (copy : DiskCopy) → IsSame copy copy
same_start copy = record { same_group = refl; are_level = level_is copy copy refl refl }

pub same_sym : (one other : DiskCopy) → IsSame one other → IsSame other one
same_sym one other is =
    let parts = level_from one other is.are_level in
    record { same_group = sym is.same_group; are_level = level_is other one (sym parts.0) (sym parts.1) }

pub same_then : (one other third : DiskCopy) → IsSame one other → IsSame other third → IsSame one third
same_then one other third first second =
    let a = level_from one other first.are_level in
    let b = level_from other third second.are_level in
    record { same_group = first.same_group ∙ second.same_group; are_level = level_is one third (a.0 ∙ b.0) (a.1 ∙ b.1) }

-- a copy in either place is the same copy
pub written_same : (copy : DiskCopy) (which : Which) → IsSame (written_as copy which) copy
unfolding counted
written_same copy which = record { same_group = refl; are_level = level_is (written_as copy which) copy refl refl }
