-- What headers under one anchor share.
use Rattle.std.proofs.Common.{◌≡◌, ℕ, zero, suc, ◌+◌, ◌<◌, ◌≤◌, Bool, true, false, not, ◌&&◌, ◌||◌, List, [], ◌∷◌, take, drop, Option, Some, None, refl, sym, ap, ◌∙◌, arith}
use Rattle.std.proofs.lemmas.Bool.{eqb-true, le-leb, lt-ltb}
use Rattle.std.proofs.lemmas.Iterator.Adapters.{position_from-zero}
use Rattle.std.specs.Prelude.{slice_get}
use Rattle.std.specs.List.{range_with_len}
use Rattle.std.specs.Int.{Width, byte_len, from_be_bytes, w16, w32, w64}
use Rattle.ddf_lemmas.proofs.Lists.{slice_get-range}
use Rattle.ddf_lemmas.proofs.Tests.{or_true}
use Rattle.ddf_bytes.specs.Bytes.{bytes_at, number_at}
use Rattle.ddf_header.specs.declared.layout.TheConstants.{GUID_AT, SEQUENCE_AT, PRIMARY_LBA_AT, KIND_AT, WORKSPACE_LENGTH_AT, WORKSPACE_LBA_AT, MAX_DISKS_AT, MAX_ARRAYS_AT, MAX_PARTITIONS_AT, RECORD_LENGTH_AT, MAX_MEMBERS_AT, SECTIONS_AT}
use Rattle.ddf_header.specs.Geometry.{geometry_at}
use Rattle.ddf_header.proofs.Sound.{none_passes}
use Rattle.ddf_copy.specs.Gate.{differ_at, first_difference, is_same_byte, is_shared}

-- ---- byte by byte

same_byte : (one other : Option ℕ) → is_same_byte one other ≡ true → one ≡ other
same_byte (Some one) (Some other) h = ap Some (eqb-true one other h)
same_byte (Some one) None h = absurd cc
same_byte None (Some other) h = absurd cc
same_byte None None h = refl

not_differ : (shared same : Bool) → (shared && not same) ≡ false → shared ≡ true → same ≡ true
not_differ true true h is = refl
not_differ true false h is = absurd cc
not_differ false same h is = absurd cc

pub same_at : (one other : List ℕ) → first_difference one other ≡ None → (at : ℕ) → at < 512 → is_shared at ≡ true → slice_get one at ≡ slice_get other at
unfolding first_difference
same_at one other h at lt shared =
    let here : slice_get (range_with_len 0 512) at ≡ Some at = slice_get-range 0 512 at lt ∙ ap Some (omega arith) in
    let differ : differ_at one other at ≡ false = none_passes (differ_at one other) 0 (range_with_len 0 512) at at (sym (position_from-zero (differ_at one other) (range_with_len 0 512)) ∙ h) here in
    same_byte (slice_get one at) (slice_get other at) (not_differ (is_shared at) (is_same_byte (slice_get one at) (slice_get other at)) differ shared)

-- ---- bytes in a row

take_same : (count : ℕ) (one other : List ℕ) → ((i : ℕ) → i < count → slice_get one i ≡ slice_get other i) → take count one ≡ take count other
take_same zero one other same = refl
take_same (suc count) [] [] same = refl
take_same (suc count) [] (y ∷ other) same = let first = same 0 (omega arith) in absurd cc
take_same (suc count) (x ∷ one) [] same = let first = same 0 (omega arith) in absurd cc
take_same (suc count) (x ∷ one) (y ∷ other) same =
    let first = same 0 (omega arith) in
    let heads : x ≡ y = cc in
    let rest : take count one ≡ take count other = take_same count one other (λ i lt. same (suc i) (omega (arith, lt))) in
    rw (heads, rest) refl

get_drop : (n : ℕ) (list : List ℕ) (i : ℕ) → slice_get (drop n list) i ≡ slice_get list (n + i)
get_drop zero list i = ap (slice_get list) (omega arith)
get_drop (suc n) [] i = refl
get_drop (suc n) (x ∷ list) i =
    let next : suc (n + i) ≡ suc n + i = omega arith in
    get_drop n list i ∙ ap (slice_get (x ∷ list)) next

pub bytes_same : (one other : List ℕ) (at count : ℕ) → ((i : ℕ) → at ≤ i → i < at + count → slice_get one i ≡ slice_get other i) → bytes_at one at count ≡ bytes_at other at count
bytes_same one other at count same =
    take_same count (drop at one) (drop at other) (λ i lt. get_drop at one i ∙ same (at + i) (omega arith) (omega (arith, lt)) ∙ sym (get_drop at other i))

-- ---- what they share

shared_head : (at : ℕ) → GUID_AT ≤ at → at < SEQUENCE_AT → is_shared at ≡ true
shared_head at from below = rw (le-leb GUID_AT at from, lt-ltb at SEQUENCE_AT below) refl

shared_tail : (at : ℕ) → WORKSPACE_LENGTH_AT ≤ at → at < 512 → is_shared at ≡ true
shared_tail at from below = rw (le-leb WORKSPACE_LENGTH_AT at from, lt-ltb at 512 below) (or_true _)

or_middle : (a c : Bool) → ((a || true) || c) ≡ true
or_middle true c = refl
or_middle false c = refl

pub shared_middle : (at : ℕ) → PRIMARY_LBA_AT ≤ at → at < KIND_AT → is_shared at ≡ true
shared_middle at from below = rw (le-leb PRIMARY_LBA_AT at from, lt-ltb at KIND_AT below) (or_middle _ _)

-- Two sectors that both share these bytes with an anchor.
pub record AreShared (anchor one other : List ℕ) : Type 0 where
  pub one_is : first_difference anchor one ≡ None
  pub other_is : first_difference anchor other ≡ None

same_here : (anchor one other : List ℕ) → AreShared anchor one other → (at : ℕ) → at < 512 → is_shared at ≡ true → slice_get one at ≡ slice_get other at
same_here anchor one other are at lt shared = sym (same_at anchor one are.one_is at lt shared) ∙ same_at anchor other are.other_is at lt shared

pub shared_guid : (anchor one other : List ℕ) → AreShared anchor one other → bytes_at one GUID_AT 24 ≡ bytes_at other GUID_AT 24
shared_guid anchor one other are = bytes_same one other GUID_AT 24 (λ i from below. same_here anchor one other are i (omega (arith, below)) (shared_head i from (omega (arith, below))))

pub shared_place : (anchor one other : List ℕ) → AreShared anchor one other → (at : ℕ) → PRIMARY_LBA_AT ≤ at → at + 8 ≤ KIND_AT → number_at w64 one at ≡ number_at w64 other at
shared_place anchor one other are at from fits =
    ap (from_be_bytes w64) (bytes_same one other at 8 (λ i low below. same_here anchor one other are i (omega (arith, below, fits)) (shared_middle i (omega (arith, from, low)) (omega (arith, below, fits)))))

number_same : (anchor one other : List ℕ) → AreShared anchor one other → (width : Width) (at : ℕ) → WORKSPACE_LENGTH_AT ≤ at → at + byte_len width ≤ 512 → number_at width one at ≡ number_at width other at
number_same anchor one other are width at from fits =
    ap (from_be_bytes width) (bytes_same one other at (byte_len width) (λ i low below. same_here anchor one other are i (omega (arith, below, fits)) (shared_tail i (omega (arith, from, low)) (omega (arith, below, fits)))))

pub shared_geometry : (anchor one other : List ℕ) → AreShared anchor one other → geometry_at one ≡ geometry_at other
unfolding geometry_at
shared_geometry anchor one other are =
    let n16 = λ (at : ℕ) (from : WORKSPACE_LENGTH_AT ≤ at) (fits : at + 2 ≤ 512). number_same anchor one other are w16 at from fits in
    let n32 = λ (at : ℕ) (from : WORKSPACE_LENGTH_AT ≤ at) (fits : at + 4 ≤ 512). number_same anchor one other are w32 at from fits in
    let n64 = λ (at : ℕ) (from : WORKSPACE_LENGTH_AT ≤ at) (fits : at + 8 ≤ 512). number_same anchor one other are w64 at from fits in
    rw (
      n32 WORKSPACE_LENGTH_AT (omega arith) (omega arith),
      n64 WORKSPACE_LBA_AT (omega arith) (omega arith),
      n16 MAX_DISKS_AT (omega arith) (omega arith),
      n16 MAX_ARRAYS_AT (omega arith) (omega arith),
      n16 MAX_PARTITIONS_AT (omega arith) (omega arith),
      n16 RECORD_LENGTH_AT (omega arith) (omega arith),
      n16 MAX_MEMBERS_AT (omega arith) (omega arith),
      n32 SECTIONS_AT (omega arith) (omega arith),
      n32 (SECTIONS_AT + 4) (omega arith) (omega arith),
      n32 (SECTIONS_AT + 8) (omega arith) (omega arith),
      n32 (SECTIONS_AT + 12) (omega arith) (omega arith),
      n32 (SECTIONS_AT + 16) (omega arith) (omega arith),
      n32 (SECTIONS_AT + 20) (omega arith) (omega arith),
      n32 (SECTIONS_AT + 24) (omega arith) (omega arith),
      n32 (SECTIONS_AT + 28) (omega arith) (omega arith),
      n32 (SECTIONS_AT + 32) (omega arith) (omega arith),
      n32 (SECTIONS_AT + 36) (omega arith) (omega arith),
      n32 (SECTIONS_AT + 40) (omega arith) (omega arith),
      n32 (SECTIONS_AT + 44) (omega arith) (omega arith),
      n32 (SECTIONS_AT + 48) (omega arith) (omega arith),
      n32 (SECTIONS_AT + 52) (omega arith) (omega arith),
      n32 (SECTIONS_AT + 56) (omega arith) (omega arith),
      n32 (SECTIONS_AT + 60) (omega arith) (omega arith),
    ) refl
