-- What a change makes of members: which it loses, and what each may stand in for.
use Rattle.std.specs.Prelude.{ℕ, ◌||◌, List, [], ◌∷◌, Some, nat_eq, if◌then◌else◌}
use Rattle.ddf_config.specs.declared.member.Member.{Member}
use Rattle.ddf_config.specs.declared.member.SpareUse.{SpareUse}
use Rattle.ddf_config.specs.declared.member.SpareUse.TheVariants.{No}
use Rattle.ddf_config.specs.Configuration.{Configuration}
use Rattle.ddf_config.specs.Entries.{changed_entries}
use Rattle.ddf_plan.specs.declared.change.Change.{Change}
use Rattle.ddf_plan.specs.declared.change.Change.TheVariants.{Lose, Delete, Spare, Fail, Begin, Return}
use Rattle.ddf_plan.specs.Lose.{is_among}
use Rattle.ddf_plan.specs.Delete.{use_without}
use Rattle.ddf_plan.specs.Spare.{use_in_order}
use Rattle.ddf_plan.specs.Standing.{given_back, is_given_back, is_left_by}

-- the members that a change loses
abbrev pub lost_by : Change → List ℕ
lost_by (Lose references) = references
lost_by (Fail failed) = failed ∷ []
lost_by other = []

-- What a member may stand in for after a change. A disk that is rebuilt onto is no spare any more; one that stood in is a revertible
-- spare again, where it has given its place back or its array is no more.
abbrev pub use_after : Configuration → Change → ℕ → SpareUse → SpareUse
use_after config (Delete guid) reference use_as = use_without guid (given_back (is_left_by config guid reference) use_as)
use_after config (Spare spare next) reference use_as = if nat_eq spare reference then use_in_order config.arrays next else use_as
use_after config (Begin array element position spare start) reference use_as = if nat_eq spare reference then No else use_as
use_after config (Return array element position disk start) reference use_as =
    given_back (is_given_back config array element position disk reference) use_as
use_after config other reference use_as = use_as

-- A member keeps its place, its disk and its size. One that is lost stays in the table as missing.
abbrev pub member_after : Configuration → Change → ℕ → Member → Member
member_after config change reference member = record member {
  missing = is_among (lost_by change) reference || member.missing;
  spare = use_after config change reference member.spare;
}

abbrev pub members_after : Configuration → Change → List (ℕ × Member)
members_after config change =
    changed_entries (λ reference member. Some (member_after config change reference member)) config.members
