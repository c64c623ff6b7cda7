-- What contracts see of an element record: its fields, with the members as a list.
use Rattle.std.specs.Prelude.{ℕ, List}
use Rattle.ddf_config_records.specs.declared.place.Place.{Place}

pub record ElementValue : Type 0 where
  pub array : List ℕ
  pub timestamp : ℕ
  pub sequence : ℕ
  pub strip : ℕ
  pub level : ℕ
  pub qualifier : ℕ
  pub elements : ℕ
  pub index : ℕ
  pub secondary : ℕ
  pub blocks : ℕ
  pub size : ℕ
  pub block_size : ℕ
  pub spares : List ℕ
  pub members : List Place
  pub rest : List ℕ
