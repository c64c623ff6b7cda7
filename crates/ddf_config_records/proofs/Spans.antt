-- Places of fields: that they lie within bytes, and share none.
use Rattle.std.proofs.Common.{ℕ, ◌+◌, ◌≤◌, Bool, ◌&&◌, leb, IsTrue, List, [], ◌∷◌, ◌++◌, refl, arith, inl}
use Rattle.std.specs.List.{AllByRecursion, list_all}
use Rattle.std.proofs.lemmas.Bool.{le-leb}
use Rattle.ddf_lemmas.proofs.Lists.{all_append}
use Rattle.ddf_seal.specs.declared.unread.Span.{Span}
use Rattle.ddf_seal.specs.Unread.{is_within}
use Rattle.ddf_seal.proofs.Same.{AreWithin}
use Rattle.ddf_seal.proofs.Records.{AreApart, AreAllApart}

pub both : (a b : Bool) → IsTrue a → IsTrue b → IsTrue (a && b)
both a b h k = rw (h, k) refl

-- the test that the code's contract names
pub test_from_within : (size : ℕ) (spans : List Span) → AreWithin size spans → IsTrue (list_all (is_within size) spans)
test_from_within size [] h = refl
test_from_within size (span ∷ spans) h = both (leb (span.at + span.length) size) (list_all (is_within size) spans) (le-leb (span.at + span.length) size h.0) (test_from_within size spans h.1)

pub within_more : (a b : ℕ) (spans : List Span) → a ≤ b → AreWithin a spans → AreWithin b spans
within_more a b [] le h = tt
within_more a b (span ∷ spans) le h = (omega (arith, h.0), within_more a b spans le h.1)

pub within-append : (size : ℕ) (a b : List Span) → AreWithin size a → AreWithin size b → AreWithin size (a ++ b)
within-append size [] b h k = k
within-append size (span ∷ a) b h k = (h.0, within-append size a b h.1 k)

-- spans from an offset on
abbrev pub AreFrom : ℕ → List Span → Type 0
AreFrom at spans = AllByRecursion (λ span. at ≤ span.at) spans

pub one_apart : (at : ℕ) (span : Span) (b : List Span) → span.at + span.length ≤ at → AreFrom at b → AllByRecursion (AreApart span) b
one_apart at span [] h k = tt
one_apart at span (other ∷ b) h k = (inl (omega (arith, k.0)), one_apart at span b h k.1)

-- spans before an offset, and spans from there on
pub apart-append : (at : ℕ) (a b : List Span) → AreWithin at a → AreFrom at b → AreAllApart a → AreAllApart b → AreAllApart (a ++ b)
apart-append at [] b within from h k = k
apart-append at (span ∷ a) b within from h k =
    (all_append (AreApart span) a b h.0 (one_apart at span b within.0 from), apart-append at a b within.1 from h.1 k)
