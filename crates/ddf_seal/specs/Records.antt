-- The bytes of a record against its fields and its unread bytes: one relation for records of every kind.
use Rattle.std.specs.Prelude.{◌≡◌, ℕ, List, ◌∷◌}
use Rattle.std.specs.List.{AllByRecursion}
use Rattle.ddf_seal.specs.Seal.{IsSealed, sealed, seal_place}
use Rattle.ddf_seal.specs.Unread.{Field, Stands, Fits, AreBytes, cleared, places, written}

-- Bytes without a seal, as a row of a table: the fields have the values that stand in them, and the rest is their other bytes.
pub record IsRowOf (fields : List Field) (rest bytes : List ℕ) : Type 0 where
  pub are_bytes : AreBytes bytes
  pub fields_stand : AllByRecursion (Stands bytes) fields
  pub others_stay : rest ≡ cleared (places fields) bytes

-- Bytes under a seal, which is no part of the rest either.
pub record IsRecordOf (signature : ℕ) (fields : List Field) (rest bytes : List ℕ) : Type 0 where
  pub are_bytes : AreBytes bytes
  pub is_sealed : IsSealed signature bytes
  pub fields_stand : AllByRecursion (Stands bytes) fields
  pub others_stay : rest ≡ cleared (seal_place ∷ places fields) bytes

-- Fields and a rest can be written: the values fit their places, and the rest has zeros there.
pub record IsRow (fields : List Field) (rest : List ℕ) : Type 0 where
  pub fields_fit : AllByRecursion Fits fields
  pub others_clear : cleared (places fields) rest ≡ rest

pub record IsRecord (fields : List Field) (rest : List ℕ) : Type 0 where
  pub fields_fit : AllByRecursion Fits fields
  pub others_clear : cleared (seal_place ∷ places fields) rest ≡ rest

-- the bytes that a record is written as
abbrev pub record_bytes : ℕ → List Field → List ℕ → List ℕ
record_bytes signature fields rest = sealed signature (written fields rest)
