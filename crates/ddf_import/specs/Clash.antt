-- Why the disks and arrays of another group can't join a group.
use Rattle.std.specs.Prelude.{ℕ, Bool, ◌||◌, List, [], ◌∷◌, Option, None, map, find, is_some, nat_eq, option_map, if◌then◌else◌}
use Rattle.std.specs.Map.{lookup}
use Rattle.std.specs.List.{list_any}
use Rattle.ddf_config.specs.declared.member.Member.{Member}
use Rattle.ddf_config.specs.declared.array.Array.{Array}
use Rattle.ddf_config.specs.declared.extent.Extent.{Extent}
use Rattle.ddf_config.specs.declared.refusal.Refusal.{Refusal}
use Rattle.ddf_config.specs.declared.refusal.Refusal.TheVariants.{Clash, NameTaken}
use Rattle.ddf_config.specs.Configuration.{Configuration}
use Rattle.ddf_config.specs.Extents.{extents}
use Rattle.ddf_config.specs.Members.{same_guid}
use Rattle.ddf_config.specs.Refusals.{first_refusal, refuse_if}
use Rattle.ddf_plan.specs.CreateRefusal.{has_named}
use Rattle.ddf_plan.specs.Refusals.{spent}

-- ---- disks

abbrev pub has_guid : List (ℕ × Member) → List ℕ → Bool
has_guid members guid = list_any (λ (entry : ℕ × Member). same_guid entry.1.guid guid) members

-- a member, current or missing, has the GUID or the reference of a joining disk
abbrev pub is_there : List (ℕ × Member) → (ℕ × Member) → Bool
is_there members entry = has_guid members entry.1.guid || is_some (lookup (nat_eq entry.0) members)

-- the first joining disk that is there
abbrev pub disk_clash : List (ℕ × Member) → List (ℕ × Member) → Option Refusal
disk_clash members joining = option_map (λ (entry : ℕ × Member). Clash entry.1.guid) (find (is_there members) joining)

-- ---- arrays

abbrev pub has_array : List (List ℕ × Array) → (List ℕ × Array) → Bool
has_array arrays entry = is_some (lookup (same_guid entry.0) arrays)

-- the first joining array that is there
abbrev pub array_clash : List (List ℕ × Array) → List (List ℕ × Array) → Option Refusal
array_clash arrays joining = option_map (λ (entry : List ℕ × Array). Clash entry.0) (find (has_array arrays) joining)

-- ---- references that no table lists

-- A position on a reference of no member would be bound to a disk of the other side.
abbrev pub bound : List (ℕ × Member) → List (ℕ × Member) → Extent → Option Refusal
bound own others one =
    if is_some (lookup (nat_eq one.reference) own) then None
    else option_map (λ (member : Member). Clash member.guid) (lookup (nat_eq one.reference) others)

-- the first of one side that would
abbrev pub first_bound : List (ℕ × Member) → List (ℕ × Member) → List Extent → Option Refusal
first_bound own others all = first_refusal (map (bound own others) all)

abbrev pub bound_in : Configuration → Configuration → Option Refusal
bound_in own other = first_bound own.members other.members (extents own.arrays)

-- ---- all of them

-- a joining array's name prints as that of an array that is there
abbrev pub takes_name : Configuration → Configuration → Bool
takes_name config joining = list_any (λ (entry : List ℕ × Array). has_named config entry.1.name) joining.arrays

-- in order: no disk and no array is there, no position is bound to another side's disk, and no name prints as one that is
-- there
abbrev pub join_causes : Configuration → Configuration → List (Option Refusal)
join_causes config joining =
    disk_clash config.members joining.members
    ∷ array_clash config.arrays joining.arrays
    ∷ bound_in config joining
    ∷ bound_in joining config
    ∷ refuse_if (takes_name config joining) NameTaken
    ∷ []

abbrev pub join_cause : Configuration → Configuration → Option Refusal
join_cause config joining = first_refusal (join_causes config joining)

-- behind these: the sequence number has a step left
abbrev pub join_refusal : Configuration → Configuration → Option Refusal
join_refusal config joining = first_refusal (join_cause config joining ∷ spent config.sequence 1 ∷ [])
