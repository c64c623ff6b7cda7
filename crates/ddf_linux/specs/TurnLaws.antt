-- Turning is its own inverse and keeps the length and the signature.
use Rattle.std.specs.Prelude.{◌≡◌, ◌⊎◌, ◌<◌, ◌≤◌, ℕ, zero, suc, slice_index, List, [], ◌∷◌, length, Option, Some, None, is_some, false, take, drop}
use Rattle.std.specs.Int.Bits.{xor_zero_r}
use Rattle.std.proofs.Common.{refl, ap, sym, ◌∙◌, subst, arith}
use Rattle.std.proofs.lemmas.Nat.{xor_lt}
use Rattle.std.specs.Int.{w32, w64, from_be_bytes, to_be_bytes}
use Rattle.ddf_lemmas.proofs.Tests.{back_from_sum}
use Rattle.ddf_bytes.specs.Bytes.{number_at}
use Rattle.ddf_header.specs.declared.layout.TheConstants.{PRIMARY_LBA_AT, SECONDARY_LBA_AT}
use Rattle.ddf_linux.specs.Turning.{added}
use Rattle.ddf_bay.specs.Sectors.{Image, Outcomes, IsLeft, IsWhole}
use Rattle.ddf_bay.specs.State.{BayState}
use Rattle.ddf_bay.specs.Moments.{StopsLeave}
use Rattle.ddf_linux.specs.declared.kind.SlotKind.{SlotKind}
use Rattle.ddf_linux.specs.declared.kind.SlotKind.TheVariants.{Plain, Unread, Turned}
use Rattle.ddf_linux.specs.State.{turned_image}
use Rattle.ddf_linux.specs.Kinds.{kind_at, kind_constant, turned_by, turn, turns}
use Rattle.ddf_linux.specs.Places.{constant_at, names, signature_of}
use Rattle.ddf_linux.specs.declared.places.Places.{Places}

pub added_twice : (bytes mask : List ℕ) → added (added bytes mask) mask ≡ bytes
unfolding added
added_twice bytes [] = refl
added_twice [] (m ∷ mask) = refl
added_twice (byte ∷ bytes) (m ∷ mask) = rw (back_from_sum byte m, added_twice bytes mask) refl

pub added_length : (bytes mask : List ℕ) → length (added bytes mask) ≡ length bytes
unfolding added
added_length bytes [] = refl
added_length [] (m ∷ mask) = refl
added_length (byte ∷ bytes) (m ∷ mask) = rw (added_length bytes mask) refl

-- bytes stay bytes
abbrev pub are_bytes : List ℕ → Type 0
are_bytes bytes = (i : ℕ) → slice_index bytes i < 256

added_bytes : (bytes mask : List ℕ) → are_bytes bytes → are_bytes mask → are_bytes (added bytes mask)
unfolding added
added_bytes bytes [] own others i = own i
added_bytes [] (m ∷ mask) own others i = omega arith
added_bytes (byte ∷ bytes) (m ∷ mask) own others zero = xor_lt 8 byte m (own 0) (others 0)
added_bytes (byte ∷ bytes) (m ∷ mask) own others (suc i) = added_bytes bytes mask (λ j. own (suc j)) (λ j. others (suc j)) i

mask_bytes : (constant : ℕ) → are_bytes (0 ∷ 0 ∷ 0 ∷ 0 ∷ to_be_bytes w32 constant)
mask_bytes constant zero = omega arith
mask_bytes constant (suc zero) = omega arith
mask_bytes constant (suc (suc zero)) = omega arith
mask_bytes constant (suc (suc (suc zero))) = omega arith
mask_bytes constant (suc (suc (suc (suc zero)))) = omega arith
mask_bytes constant (suc (suc (suc (suc (suc zero))))) = omega arith
mask_bytes constant (suc (suc (suc (suc (suc (suc zero)))))) = omega arith
mask_bytes constant (suc (suc (suc (suc (suc (suc (suc zero))))))) = omega arith
mask_bytes constant (suc (suc (suc (suc (suc (suc (suc (suc i)))))))) = omega arith

pub front_same : (bytes mask : List ℕ) → take 4 (added bytes (0 ∷ 0 ∷ 0 ∷ 0 ∷ mask)) ≡ take 4 bytes
unfolding added
front_same [] mask = refl
front_same (a ∷ []) mask = rw (xor_zero_r a) refl
front_same (a ∷ b ∷ []) mask = rw (xor_zero_r a, xor_zero_r b) refl
front_same (a ∷ b ∷ c ∷ []) mask = rw (xor_zero_r a, xor_zero_r b, xor_zero_r c) refl
front_same (a ∷ b ∷ c ∷ d ∷ rest) mask = rw (xor_zero_r a, xor_zero_r b, xor_zero_r c, xor_zero_r d) refl

pub by_signature : (constant : Option ℕ) (bytes : List ℕ) → signature_of (turned_by constant bytes) ≡ signature_of bytes
by_signature None bytes = refl
by_signature (Some constant) bytes = rw (front_same bytes (to_be_bytes w32 constant)) refl

-- behind the bytes that are turned nothing changes
pub behind_same : (bytes mask : List ℕ) (n : ℕ) → length mask ≤ n → drop n (added bytes mask) ≡ drop n bytes
unfolding added
behind_same bytes [] n le = refl
behind_same [] (m ∷ mask) n le = refl
behind_same (byte ∷ bytes) (m ∷ mask) zero le = absurd (omega (arith, le))
behind_same (byte ∷ bytes) (m ∷ mask) (suc n) le = behind_same bytes mask n (omega (arith, le))

-- so an anchor that is turned names the places that it named
pub by_names : (places : Places) (constant : Option ℕ) (bytes : List ℕ) → names places (turned_by constant bytes) ≡ names places bytes
unfolding names
by_names places None bytes = refl
by_names places (Some constant) bytes =
    let mask : List ℕ = 0 ∷ 0 ∷ 0 ∷ 0 ∷ to_be_bytes w32 constant in
    let first : number_at w64 (added bytes mask) PRIMARY_LBA_AT ≡ number_at w64 bytes PRIMARY_LBA_AT =
    ap (λ (rest : List ℕ). from_be_bytes w64 (take 8 rest)) (behind_same bytes mask PRIMARY_LBA_AT (omega arith)) in
    let second : number_at w64 (added bytes mask) SECONDARY_LBA_AT ≡ number_at w64 bytes SECONDARY_LBA_AT =
    ap (λ (rest : List ℕ). from_be_bytes w64 (take 8 rest)) (behind_same bytes mask SECONDARY_LBA_AT (omega arith)) in
    rw (first, second) refl

-- and a sector that is turned is one of those that are, as before
pub by_constant : (kind : SlotKind) (lba : ℕ) (constant : Option ℕ) (bytes : List ℕ) → kind_constant kind lba (turned_by constant bytes) ≡ kind_constant kind lba bytes
unfolding constant_at
by_constant Plain lba constant bytes = refl
by_constant Unread lba constant bytes = refl
by_constant (Turned places) lba constant bytes = rw (by_signature constant bytes, by_names places constant bytes) refl

pub by_twice : (constant : Option ℕ) (bytes : List ℕ) → turned_by constant (turned_by constant bytes) ≡ bytes
by_twice None bytes = refl
by_twice (Some constant) bytes = added_twice bytes (0 ∷ 0 ∷ 0 ∷ 0 ∷ to_be_bytes w32 constant)

pub by_length : (constant : Option ℕ) (bytes : List ℕ) → length (turned_by constant bytes) ≡ length bytes
by_length None bytes = refl
by_length (Some constant) bytes = added_length bytes (0 ∷ 0 ∷ 0 ∷ 0 ∷ to_be_bytes w32 constant)

pub by_bytes : (constant : Option ℕ) (bytes : List ℕ) → are_bytes bytes → are_bytes (turned_by constant bytes)
by_bytes None bytes are = are
by_bytes (Some constant) bytes are = added_bytes bytes (0 ∷ 0 ∷ 0 ∷ 0 ∷ to_be_bytes w32 constant) are (mask_bytes constant)

module _ (kind : SlotKind) (lba : ℕ) (bytes : List ℕ) where
  pub turn_signature : signature_of (turn kind lba bytes) ≡ signature_of bytes
  turn_signature = by_signature (kind_constant kind lba bytes) bytes

  -- turning is its own inverse
  pub turn_twice : turn kind lba (turn kind lba bytes) ≡ bytes
  turn_twice =
      ap (λ (constant : Option ℕ). turned_by constant (turn kind lba bytes)) (by_constant kind lba (kind_constant kind lba bytes) bytes)
      ∙ by_twice (kind_constant kind lba bytes) bytes

  pub turn_length : length (turn kind lba bytes) ≡ length bytes
  turn_length = by_length (kind_constant kind lba bytes) bytes

  turn_bytes : are_bytes bytes → are_bytes (turn kind lba bytes)
  turn_bytes are = by_bytes (kind_constant kind lba bytes) bytes are

-- a sector that a stop may leave is whole
pub turned_whole : (kind : SlotKind) (lba : ℕ) (bytes : List ℕ) → IsWhole (turn kind lba bytes) → IsWhole bytes
turned_whole kind lba bytes whole = record {
  size = sym (turn_length kind lba bytes) ∙ whole.size;
  are_bytes = subst are_bytes (turn_twice kind lba bytes) (turn_bytes kind lba (turn kind lba bytes) whole.are_bytes);
}

-- a sector that isn't one of those that are turned
by_none : (constant : Option ℕ) (bytes : List ℕ) → is_some constant ≡ false → turned_by constant bytes ≡ bytes
by_none None bytes none = refl
by_none (Some constant) bytes none = absurd cc

pub turn_plain : (kind : SlotKind) (lba : ℕ) (bytes : List ℕ) → turns kind lba bytes ≡ false → turn kind lba bytes ≡ bytes
turn_plain kind lba bytes none = by_none (kind_constant kind lba bytes) bytes none

-- the bay as it reads is one of its images, turned too
pub turned_left : (kinds : List SlotKind) (may : Outcomes) (held : Image) → IsLeft may held
    → (s l : ℕ) → may s l (turn (kind_at kinds s) l (turn (kind_at kinds s) l (held s l)))
turned_left kinds may held left s l = rw (turn_twice (kind_at kinds s) l (held s l)) (left s l)

-- What stops leave from one moment to another they leave turned.
pub turned_since : {D : Type 0} (kinds other : List SlotKind) (a b : BayState D) → other ≡ kinds → StopsLeave a b (IsLeft a.may_hold)
    → (t : ℕ) (image : Image) → t ≤ a.moment → b.left_since t (turned_image other image)
    → a.left_since t (turned_image kinds image) ⊎ ((s l : ℕ) → a.may_hold s l (turn (kind_at kinds s) l (image s l)))
turned_since kinds other a b same stops t image le left = stops.since t (turned_image kinds image) le (rw same at left)
