-- A moved copy has the numbers of the disk that it is like.
use Rattle.std.proofs.Common.{◌≡◌, ℕ, true, ◌&&◌, eqb, length, Some, refl, subst}
use Rattle.std.proofs.lemmas.Bool.{eq-eqb}
use Rattle.std.proofs.lemmas.List.FromFn.{length-map-range_with_len}
use Rattle.ddf_copy.specs.declared.copy.DiskCopy.{DiskCopy}
use Rattle.ddf_moving.specs.Copies.{moved_copy, moved_slot_at, relaid}
use Rattle.ddf_moving.specs.Numbers.{same_numbers}
use Rattle.ddf_moving.specs.Places.{moved_geometry}
use Rattle.ddf_moving.proofs.Can.{moved_to}

all_same : (a b c d e f : ℕ) → f ≡ e → (eqb a a && eqb b b && eqb c c && eqb d d && eqb f e) ≡ true
all_same a b c d e f is = rw (eq-eqb a a refl, eq-eqb b b refl, eq-eqb c c refl, eq-eqb d d refl, eq-eqb f e is) refl

pub made_numbers : (old like new : DiskCopy) → moved_copy old like ≡ Some new → same_numbers new like ≡ true
made_numbers old like new is =
    let to = moved_to old like new is in
    let own = moved_geometry old.header.geometry like.header.geometry to.places.length in
    subst (λ (one : DiskCopy). same_numbers one like ≡ true) to.is_made
    (all_same like.header.geometry.max_disks like.header.geometry.max_arrays like.header.geometry.max_members like.header.geometry.record_length (length like.slots) (length (relaid old like to.places).slots)
    (length-map-range_with_len (moved_slot_at old.header.geometry own old.slots) 0 (length like.slots)))
