-- What contracts see of an element of an array: its fields, with the positions as a list.
use Rattle.std.specs.Prelude.{ℕ, List}
use Rattle.ddf_config.specs.declared.element.Position.{Position}

pub record ElementValue : Type 0 where
  -- primary RAID level and its qualifier
  pub level : ℕ
  pub qualifier : ℕ
  -- the stripe size code
  pub strip : ℕ
  -- the sectors that each member gives
  pub blocks : ℕ
  -- the reference of the disk that stands in for one that was lost, to give its place back; 0 for none
  pub stand_in : ℕ
  pub positions : List Position

abbrev pub with_positions : ElementValue → List Position → ElementValue
with_positions element positions = record element { positions = positions }

-- the element on other disks
abbrev pub with_disks : ElementValue → (stand_in : ℕ) → List Position → ElementValue
with_disks element stand_in positions = record element { stand_in = stand_in; positions = positions }
