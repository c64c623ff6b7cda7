-- Whether a change leaves a configuration as it is, its sequence number aside.
use Rattle.std.specs.Prelude.{ℕ, Bool, true, false, not, ◌&&◌, ◌==◌, List}
use Rattle.std.specs.Option.{option_eq}
use Rattle.std.specs.Str.{bytes_eq}
use Rattle.std.specs.Cmp.Lexicographic.{pointwise}
use Rattle.ddf_config.specs.declared.member.Member.{Member}
use Rattle.ddf_config.specs.declared.member.SpareUse.{SpareUse}
use Rattle.ddf_config.specs.declared.member.SpareUse.TheVariants.{No, Global, Revertible, Dedicated}
use Rattle.ddf_config.specs.declared.element.Position.{Position}
use Rattle.ddf_config.specs.declared.array.Array.{Array}
use Rattle.ddf_config.specs.ElementValue.{ElementValue}
use Rattle.ddf_config.specs.Configuration.{Configuration}
use Rattle.ddf_plan.specs.declared.change.Change.{Change}
use Rattle.ddf_plan.specs.Changes.{changed}

-- ---- members

abbrev pub same_flag : Bool → Bool → Bool
same_flag true other = other
same_flag false other = not other

abbrev pub same_use : SpareUse → SpareUse → Bool
same_use No No = true
same_use No Global = false
same_use No Revertible = false
same_use No (Dedicated others) = false
same_use Global No = false
same_use Global Global = true
same_use Global Revertible = false
same_use Global (Dedicated others) = false
same_use Revertible No = false
same_use Revertible Global = false
same_use Revertible Revertible = true
same_use Revertible (Dedicated others) = false
same_use (Dedicated guids) No = false
same_use (Dedicated guids) Global = false
same_use (Dedicated guids) Revertible = false
same_use (Dedicated guids) (Dedicated others) = pointwise bytes_eq guids others

abbrev pub same_member : (ℕ × Member) → (ℕ × Member) → Bool
same_member one other =
    one.0 == other.0 && bytes_eq one.1.guid other.1.guid && one.1.size == other.1.size
    && same_flag one.1.missing other.1.missing && same_use one.1.spare other.1.spare

-- ---- arrays

abbrev pub same_position : Position → Position → Bool
same_position one other =
    one.reference == other.reference && one.start == other.start && same_flag one.synced other.synced && one.row == other.row

abbrev pub same_element : ElementValue → ElementValue → Bool
same_element one other =
    one.level == other.level && one.qualifier == other.qualifier && one.strip == other.strip && one.blocks == other.blocks
    && one.stand_in == other.stand_in && pointwise same_position one.positions other.positions

abbrev pub same_array : (List ℕ × Array) → (List ℕ × Array) → Bool
same_array one other =
    bytes_eq one.0 other.0 && bytes_eq one.1.name other.1.name && one.1.number == other.1.number
    && one.1.secondary == other.1.secondary && one.1.state == other.1.state && one.1.init == other.1.init
    && pointwise (option_eq same_element) one.1.elements other.1.elements

-- ---- configurations

-- the same members and arrays, in the same order
unfoldable pub same_tables : Configuration → Configuration → Bool
same_tables one other = pointwise same_member one.members other.members && pointwise same_array one.arrays other.arrays

-- that a change alters more than the sequence number
abbrev pub is_step : Configuration → Change → Bool
is_step config change = not (same_tables config (changed config change))
