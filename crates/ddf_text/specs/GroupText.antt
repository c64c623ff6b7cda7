-- The lines that `assemble` and `show` print of a group (profile).
use Rattle.std.specs.Prelude.{ℕ, List, [], ◌++◌, Some, None, ◌==◌, codes, if◌then◌else◌}
use Rattle.std.specs.List.{flat_map, list_any}
use Rattle.std.specs.Fmt.{decimal}
use Rattle.hex.specs.Hex.{encode_lower}
use Rattle.ddf_config.specs.declared.member.Member.{Member}
use Rattle.ddf_config.specs.declared.member.SpareUse.{SpareUse}
use Rattle.ddf_config.specs.declared.member.SpareUse.TheVariants as uses
use Rattle.ddf_config.specs.declared.array.Array.{Array}
use Rattle.ddf_config.specs.declared.extent.Extent.{Extent}
use Rattle.ddf_config.specs.declared.seat.Seat.{Seat}
use Rattle.ddf_config.specs.declared.refusal.Refusal.{Refusal}
use Rattle.ddf_config.specs.declared.refusal.Refusal.TheVariants as refusals
use Rattle.ddf_config.specs.Configuration.{Configuration}
use Rattle.ddf_config.specs.Extents.{extents}
use Rattle.ddf_config.specs.Seats.{slot_of}
use Rattle.ddf_config.specs.Shapes.{array_capacity}
use Rattle.ddf_config.specs.States.{is_marked, low_state}
use Rattle.ddf_config.specs.Unusable.{unusable}
use Rattle.ddf_text.specs.declared.group.Basis.{Basis}
use Rattle.ddf_text.specs.declared.group.Basis.TheVariants as bases
use Rattle.ddf_text.specs.Hexes.{hex32}
use Rattle.ddf_text.specs.Standing.{has_seat, state_on_seats}
use Rattle.ddf_name.specs.Names.{name_text}

abbrev pub group_line : List ℕ → ℕ → List ℕ
group_line group sequence = codes "group " ++ encode_lower group ++ codes " sequence " ++ decimal sequence ++ codes "\n"

-- ---- members

-- what a spare may stand in for
abbrev pub spare_text : SpareUse → List ℕ
spare_text uses.No = []
spare_text uses.Global = codes " spare global"
spare_text uses.Revertible = codes " spare revertible"
spare_text (uses.Dedicated guids) = codes " spare dedicated"

-- whether the disk on a slot doesn't hold the configuration in both of its copies
abbrev pub behind_text : (lagging : List ℕ) → (slot : ℕ) → List ℕ
behind_text lagging slot = if list_any (λ one. one == slot) lagging then codes " behind" else []

-- where the disk is, and what it is
abbrev pub disk_text : List Seat → (lagging : List ℕ) → ℕ → Member → List ℕ
disk_text seats lagging reference member =
    codes " slot " ++ decimal (slot_of seats reference) ++ codes " size " ++ decimal member.size ++ spare_text member.spare
    ++ behind_text lagging (slot_of seats reference)

-- a current member without a seat is absent
abbrev pub current_text : List Seat → (lagging : List ℕ) → ℕ → Member → List ℕ
current_text seats lagging reference member =
    if has_seat seats reference then disk_text seats lagging reference member else codes " absent"

abbrev pub member_line : List Seat → (lagging : List ℕ) → ℕ → Member → List ℕ
member_line seats lagging reference member =
    codes "member " ++ hex32 reference
    ++ (if member.missing then codes " missing" else current_text seats lagging reference member) ++ codes "\n"

-- ---- arrays

-- the low state in a word
abbrev pub state_word : ℕ → List ℕ
state_word low = if low == 4 then codes "failed" else if low == 1 then codes "degraded" else codes "optimal"

-- whether it is marked as not consistent
abbrev pub mark_text : Array → List ℕ
mark_text array = if is_marked array then codes " marked" else []

-- the state of an array, by the configuration alone or by the seats of its members
abbrev pub state_by : Basis → List (ℕ × Member) → List Seat → Array → ℕ
state_by bases.Members members seats array = low_state members array
state_by bases.Seats members seats array = state_on_seats seats array

-- an array that can be used: its blocks, and its state. The state on the disks tells only of the mark
abbrev pub usable_line : Array → (state : ℕ) → List ℕ
usable_line array state =
    codes "array " ++ name_text array.name ++ codes " blocks " ++ decimal (array_capacity array)
    ++ codes " " ++ state_word state ++ mark_text array ++ codes "\n"

-- the number of the refusal that keeps an array from use: 18 for a level, 19 for its shape, 22 for an unknown element
abbrev pub unusable_number : Refusal → ℕ
unusable_number (refusals.Level level) = 18
unusable_number refusals.Shape = 19
unusable_number refusal = 22

abbrev pub unusable_line : Array → Refusal → List ℕ
unusable_line array refusal =
    codes "array " ++ name_text array.name ++ codes " unusable " ++ decimal (unusable_number refusal) ++ codes "\n"

-- the array of a GUID, among the extents of all
abbrev pub array_line : Basis → List (ℕ × Member) → List Seat → List Extent → (guid : List ℕ) → Array → List ℕ
array_line basis members seats all guid array =
    elim (unusable members seats all guid array) [
      | None ↦ usable_line array (state_by basis members seats array)
      | Some refusal ↦ unusable_line array refusal
    ]

-- ---- the group

abbrev pub member_lines : List Seat → (lagging : List ℕ) → List (ℕ × Member) → List ℕ
member_lines seats lagging members = flat_map (λ entry. member_line seats lagging entry.0 entry.1) members

abbrev pub array_lines : Basis → List (ℕ × Member) → List Seat → List Extent → List (List ℕ × Array) → List ℕ
array_lines basis members seats all arrays = flat_map (λ entry. array_line basis members seats all entry.0 entry.1) arrays

-- the group, then its members and its arrays in table order
abbrev pub text_by : Basis → Configuration → List Seat → (lagging : List ℕ) → List ℕ
text_by basis config seats lagging =
    group_line config.group config.sequence ++ member_lines seats lagging config.members
    ++ array_lines basis config.members seats (extents config.arrays) config.arrays

-- a group that is recovered: no seat of it lags, and each current member has one, so the configuration alone tells the states
abbrev pub group_text : Configuration → List Seat → List ℕ
group_text config seats = text_by bases.Members config seats []

-- a group as it was assembled: the states are those by the seats that it has
abbrev pub shown_text : Configuration → List Seat → (lagging : List ℕ) → List ℕ
shown_text config seats lagging = text_by bases.Seats config seats lagging
