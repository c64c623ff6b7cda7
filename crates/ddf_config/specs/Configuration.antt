-- What contracts see of a configuration: members by reference and arrays by GUID, as lists of entries in table order.
use Rattle.std.specs.Prelude.{ℕ, List}
use Rattle.ddf_config.specs.declared.member.Member.{Member}
use Rattle.ddf_config.specs.declared.array.Array.{Array}

pub record Configuration : Type 0 where
  pub group : List ℕ
  pub sequence : ℕ
  pub members : List (ℕ × Member)
  pub arrays : List (List ℕ × Array)
