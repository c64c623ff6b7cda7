-- The places of an element's fields.
use Rattle.std.proofs.Common.{◌≡◌, ℕ, ◌+◌, ◌*◌, ◌≤◌, List, [], ◌∷◌, ◌++◌, length, refl, sym, ap, arith, inl}
use Rattle.std.specs.Int.{w16}
use Rattle.std.proofs.lemmas.List.FromFn.{length-map-range_with_len, map-range_with_len_more}
use Rattle.ddf_bytes.specs.Bytes.{number_at}
use Rattle.ddf_seal.specs.Seal.{seal_place}
use Rattle.ddf_seal.specs.Unread.{cleared, places}
use Rattle.ddf_seal.proofs.Same.{AreWithin, within_from_test}
use Rattle.ddf_seal.proofs.Records.{AreAllApart, apart_from_test}
use Rattle.ddf_config_records.specs.ElementValue.{ElementValue}
use Rattle.ddf_config_records.specs.declared.place.Place.{Place}
use Rattle.ddf_config_records.specs.declared.layout.TheConstants.{MEMBERS_AT, REFERENCES_AT}
use Rattle.ddf_config_records.specs.Elements.{head_fields, member_fields, member_places, element_fields, element_with, element_rest, member_at, members_at}
use Rattle.ddf_config_records.proofs.Spans.{within_more, within-append, apart-append}

pub head_within : (element : ElementValue) (size : ℕ) → 512 ≤ size → AreWithin size (seal_place ∷ places (head_fields element))
head_within element size le = within_more 512 size (seal_place ∷ places (head_fields element)) le (within_from_test 512 (seal_place ∷ places (head_fields element)) refl)

pub members_within : (most : ℕ) (element : ElementValue) (size : ℕ) → length element.members ≤ most → REFERENCES_AT + 12 * most ≤ size → AreWithin size (places (member_fields most element))
members_within most element size few le = (omega arith, (omega arith, tt))

pub element_within : (most : ℕ) (element : ElementValue) (size : ℕ) → length element.members ≤ most → REFERENCES_AT + 12 * most ≤ size → AreWithin size (seal_place ∷ places (element_fields most element))
element_within most element size few le =
    within-append size (seal_place ∷ places (head_fields element)) (places (member_fields most element)) (head_within element size (omega arith)) (members_within most element size few le)

pub element_apart : (most : ℕ) (element : ElementValue) → length element.members ≤ most → AreAllApart (seal_place ∷ places (element_fields most element))
element_apart most element few =
    apart-append 512 (seal_place ∷ places (head_fields element)) (places (member_fields most element))
    (head_within element 512 (omega arith))
    (omega arith, (omega arith, tt))
    (apart_from_test (seal_place ∷ places (head_fields element)) refl)
    ((inl (omega arith), tt), (tt, tt))

-- ---- members

abbrev pub make_place : ℕ → ℕ → Place
make_place reference start = record { reference = reference; start = start }

pub same_place : (r s r' s' : ℕ) → r ≡ r' → s ≡ s' → make_place r s ≡ make_place r' s'
same_place r s r' s' e f = cc

pub members_at_none : (most : ℕ) (bytes : List ℕ) → members_at most bytes 0 ≡ []
unfolding members_at
members_at_none most bytes = refl

pub length-members_at : (most : ℕ) (bytes : List ℕ) (count : ℕ) → length (members_at most bytes count) ≡ count
unfolding members_at
length-members_at most bytes count = length-map-range_with_len (member_at most bytes) 0 count

pub members_at_more : (most : ℕ) (bytes : List ℕ) (count : ℕ) → members_at most bytes (count + 1) ≡ members_at most bytes count ++ member_at most bytes count ∷ []
unfolding members_at
members_at_more most bytes count = map-range_with_len_more (member_at most bytes) 0 count count (omega arith)

-- ---- the rest

pub count_with : (most : ℕ) (bytes rest : List ℕ) → length (element_with most bytes rest).members ≡ number_at w16 bytes MEMBERS_AT
unfolding element_with
count_with most bytes rest = length-members_at most bytes (number_at w16 bytes MEMBERS_AT)

pub rest_is : (most : ℕ) (bytes : List ℕ) (element : ElementValue) → length element.members ≡ number_at w16 bytes MEMBERS_AT
    → cleared (member_places most (number_at w16 bytes MEMBERS_AT)) (cleared (seal_place ∷ places (head_fields element)) bytes) ≡ element_rest most bytes
unfolding element_rest
rest_is most bytes element count = ap (λ n. cleared (member_places most n) (cleared (seal_place ∷ places (head_fields element)) bytes)) (sym (count_with most bytes []))
