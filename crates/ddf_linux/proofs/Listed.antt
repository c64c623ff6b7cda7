-- How a slot is seen by its last sector, by what the code finds, and where nothing of it is turned.
use Rattle.std.proofs.Common.{◌≡◌, ℕ, ◌<◌, ◌≤◌, sym, true, false, List, length, refl, ◌∙◌, ap, arith}
use Rattle.std.specs.Prelude.{◌↔◌, Ok, Option, Some, None, is_some}
use Rattle.std.proofs.lemmas.Grind.{common_steps}
use Rattle.ddf_seal.specs.Seal.{IsSealed, seal_check}
use Rattle.ddf_header.specs.Header.{header_signature}
use Rattle.ddf_linux.specs.Crcs.{constant_of, IsLinuxSealed}
use Rattle.ddf_linux.specs.CrcLaws.{sealed_from_linux, linux_from_sealed}
use Rattle.ddf_linux.specs.Kinds.{kind_by, kind_if}
use Rattle.ddf_linux.specs.Places.{places_of, is_first, kind_constant, constant_if, constant_at, lie_from, copies_lie_from, signature_of}
use Rattle.ddf_linux.specs.Layouts.{records_with}
use Rattle.ddf_linux.specs.declared.places.Copies.{Copies}
use Rattle.ddf_linux.specs.declared.places.Places.{Places}
use Rattle.ddf_linux.specs.declared.records.Records.{Records}
use Rattle.ddf_linux.specs.Turning.{turned}
use Rattle.ddf_linux.specs.declared.kind.SlotKind.TheVariants.{Turned}

pub turned_by_ok : (last : ℕ) (bytes anchor : List ℕ) → anchor ≡ turned (constant_of 512) bytes → (u : Unit {0}) → Ok u ≡ seal_check header_signature anchor
    → Turned (places_of last anchor) ≡ kind_by last bytes
unfolding kind_by
turned_by_ok last bytes anchor is u sealed =
    ap (λ (r : _). kind_if r (places_of last anchor)) sealed
    ∙ ap (λ (xs : List ℕ). kind_if (seal_check header_signature xs) (places_of last xs)) is

-- an anchor is sealed in Linux's kind exactly where, turned, it is in the standard's
pub linux_anchor : (signature : ℕ) (bytes anchor : List ℕ) → length bytes ≡ 512 → anchor ≡ turned (constant_of 512) bytes
    → IsLinuxSealed signature bytes ↔ IsSealed signature anchor
linux_anchor signature bytes anchor size is =
    let long : 8 ≤ length bytes = omega (arith, size) in
    let same : turned (constant_of (length bytes)) bytes ≡ anchor = ap (λ (n : ℕ). turned (constant_of n) bytes) size ∙ sym is in
    (λ sealed. rw same at (sealed_from_linux signature bytes long sealed), λ sealed. linux_from_sealed signature bytes long (rw same sealed))

-- ---- no record lies before its header

pub before_header : (records : Records) (header l : ℕ) → l < header → is_first records header l ≡ false
unfolding is_first
before_header records header l under = grind (arith, common_steps)

before_both : (copies : Copies) (records : Option Records) (l : ℕ) → l < copies.primary → l < copies.secondary → is_some (kind_constant copies records l) ≡ false
before_both copies None l first second = refl
before_both copies (Some records) l first second = rw (before_header records copies.primary l first, before_header records copies.secondary l second) refl

before_copies : (copies : Option Copies) (end l signature : ℕ) → copies_lie_from copies end ≡ true → l < end → is_some (constant_if copies l signature) ≡ false
before_copies None end l signature lie under = refl
before_copies (Some copies) end l signature lie under =
    let first : l < copies.primary = grind (arith, common_steps) in
    let second : l < copies.secondary = grind (arith, common_steps) in
    before_both copies (records_with copies.layout signature) l first second

pub before_places : (places : Places) (end l : ℕ) (bytes : List ℕ) → lie_from places end ≡ true → l < end → is_some (constant_at places l bytes) ≡ false
unfolding constant_at
before_places places end l bytes lie under =
    let anchor : l < places.anchor = grind (arith, common_steps) in
    let copies : copies_lie_from places.copies end ≡ true = grind (arith, common_steps) in
    let none = before_copies places.copies end l (signature_of bytes) copies under in
    grind (arith, common_steps)
