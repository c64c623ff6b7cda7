-- What a sound geometry gives the records.
use Rattle.std.proofs.Common.{◌≡◌, ℕ, ◌*◌, ◌/◌, Bool, true, false, ◌||◌, eqb, IsTrue, refl, arith}
use Rattle.std.proofs.lemmas.Bool.{eqb-true, false≢true}
use Rattle.ddf_header.specs.declared.geometry.Geometry.{Geometry}
use Rattle.ddf_header.specs.Geometry.{IsSound, is_member_maximum, record_sectors}
use Rattle.ddf_config_records.specs.Elements.{HasRoom}

-- one of these numbers, each of which is a multiple of eight
one_of : (m : ℕ) (a b c d e : Bool) → (a ≡ true → m ≡ 16) → (b ≡ true → m ≡ 64) → (c ≡ true → m ≡ 256) → (d ≡ true → m ≡ 1024) → (e ≡ true → m ≡ 4096) → IsTrue (a || (b || (c || (d || (e || false))))) → 8 * (m / 8) ≡ m
one_of m true b c d e ha hb hc hd he h = let is = ha refl in omega arith
one_of m false true c d e ha hb hc hd he h = let is = hb refl in omega arith
one_of m false false true d e ha hb hc hd he h = let is = hc refl in omega arith
one_of m false false false true e ha hb hc hd he h = let is = hd refl in omega arith
one_of m false false false false true ha hb hc hd he h = let is = he refl in omega arith
one_of m false false false false false ha hb hc hd he h = absurd (false≢true h)

bits_fill : (m : ℕ) → IsTrue (is_member_maximum m) → 8 * (m / 8) ≡ m
unfolding is_member_maximum
bits_fill m h = one_of m (eqb m 16) (eqb m 64) (eqb m 256) (eqb m 1024) (eqb m 4096) (eqb-true m 16) (eqb-true m 64) (eqb-true m 256) (eqb-true m 1024) (eqb-true m 4096) h

pub room_from_sound : (geometry : Geometry) → IsSound geometry → HasRoom geometry
room_from_sound geometry is =
    let fit : geometry.record_length ≡ record_sectors geometry.max_members = is.records_fit in
    record {
      whole = omega arith;
      bits = bits_fill geometry.max_members is.members_known;
    }
