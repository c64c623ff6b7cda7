-- The records of elements after a change or a recovery (SNIA DDF 2.0, virtual disk configuration record; what is kept is profile).
use Rattle.std.specs.Prelude.{ℕ, Bool, not, ◌&&◌, false, ◌==◌, nat_eq, List, [], ◌∷◌, length, map, filter, fold, replicate, Option, Some, None, is_some, if◌then◌else◌}
use Rattle.std.specs.List.{list_any, list_all}
use Rattle.std.specs.Map.{lookup}
use Rattle.std.specs.Str.{bytes_eq}
use Rattle.ddf_header.specs.declared.geometry.Geometry.{Geometry}
use Rattle.ddf_header.specs.declared.kind.Revision.{Revision}
use Rattle.ddf_config_records.specs.declared.place.Place.{Place}
use Rattle.ddf_config_records.specs.ElementValue.{ElementValue}
use Rattle.ddf_config_records.specs.Building.{element_over, fresh_element}
use Rattle.ddf_config.specs.declared.member.SpareUse.{SpareUse}
use Rattle.ddf_config.specs.declared.member.SpareUse.TheVariants as uses
use Rattle.ddf_config.specs.declared.element.Position.{Position}
use Rattle.ddf_config.specs.Configuration.{Configuration}
use Rattle.ddf_config.specs.Shapes.{array_capacity}
use Rattle.ddf_view.specs.View.{HeldRecord}
use Rattle.ddf_view.specs.Differ.{same_record}
use Rattle.ddf_rewrite.specs.Disks.{block_size_of}
use Rattle.ddf_rewrite.specs.Wanted.{Wanted}

-- ---- associated spares

-- the reference that stands in a free place
abbrev pub no_reference : ℕ
no_reference = 0xFFFF_FFFF

abbrev pub contains : List ℕ → ℕ → Bool
contains references reference = list_any (λ other. other == reference) references

-- a disk is a spare for an array, alone or among others
abbrev pub is_spare_for : (array : List ℕ) → SpareUse → Bool
is_spare_for array uses.No = false
is_spare_for array uses.Global = false
is_spare_for array uses.Revertible = false
is_spare_for array (uses.Dedicated arrays) = list_any (bytes_eq array) arrays

-- the dedicated spares of an array, in the order of the members
abbrev pub spares_of : Configuration → (array : List ℕ) → List ℕ
spares_of config array = map (λ entry. entry.0) (filter (λ entry. is_spare_for array entry.1.spare) config.members)

-- The place of a member that isn't a dedicated spare of the array is set free. References of no member stay.
abbrev pub kept_spare : Configuration → (dedicated : List ℕ) → ℕ → ℕ
kept_spare config dedicated reference = if is_some (lookup (nat_eq reference) config.members) && not (contains dedicated reference) then no_reference else reference

-- a reference in the first free place
abbrev pub with_spare : List ℕ → ℕ → List ℕ
with_spare [] reference = []
with_spare (place ∷ places) reference = if place == no_reference then reference ∷ places else place ∷ with_spare places reference

abbrev pub add_spare : List ℕ → ℕ → List ℕ
add_spare places reference = if contains places reference then places else with_spare places reference

-- the associated spares of an array after a change: each dedicated spare that isn't there takes the first free place
unfoldable pub spares_after : Configuration → (array : List ℕ) → List ℕ → List ℕ
spares_after config array spares = fold add_spare (map (kept_spare config (spares_of config array)) spares) (spares_of config array)

-- there is a place for each
abbrev pub has_places : Configuration → (array : List ℕ) → List ℕ → Bool
has_places config array spares = list_all (contains (spares_after config array spares)) (spares_of config array)

-- ---- the named fields

abbrev pub place_in : Position → Place
place_in position = record { reference = position.reference; start = position.start }

-- a record with the fields that the configuration gives
abbrev pub planned : Configuration → Wanted → ElementValue → ElementValue
planned config wanted element = record element {
  array = wanted.guid;
  strip = wanted.plan.strip;
  level = wanted.plan.level;
  qualifier = wanted.plan.qualifier;
  elements = length wanted.array.elements;
  index = wanted.index;
  secondary = wanted.array.secondary;
  blocks = wanted.plan.blocks;
  spares = spares_after config wanted.guid element.spares;
  members = map place_in wanted.plan.positions;
}

-- A record that a change alters has the timestamp and the sequence of the change.
unfoldable pub altered : Configuration → (timestamp : ℕ) → Wanted → ElementValue → ElementValue
altered config timestamp wanted element =
    if same_record element (planned config wanted element) then element
    else record (planned config wanted element) { timestamp = timestamp; sequence = config.sequence }

-- a new record, with the capacity of the whole array, but for the bytes that no field names
abbrev pub created : Configuration → (timestamp : ℕ) → Revision → Wanted → ElementValue
created config timestamp revision wanted = planned config wanted (record {
  array = wanted.guid;
  timestamp = timestamp;
  sequence = config.sequence;
  strip = 0;
  level = 0;
  qualifier = 0;
  elements = 0;
  index = 0;
  secondary = 0;
  blocks = 0;
  size = array_capacity wanted.array;
  block_size = block_size_of revision;
  spares = replicate 8 no_reference;
  members = [];
  rest = [];
})

-- ---- a disk's record after a change

-- A disk whose record was the leader's keeps its own block size, and its own timestamp where the record isn't altered.
abbrev pub keeping : (own leader : ElementValue) → ElementValue → ElementValue
keeping own leader element =
    if same_record own leader
    then record element { block_size = own.block_size; timestamp = if same_record leader element then own.timestamp else element.timestamp }
    else element

-- over the disk's own record, where it has one, and else over the leader's
abbrev pub changed_over : Geometry → (own : Option HeldRecord) → (leader : ElementValue) → ElementValue → ElementValue
changed_over geometry None leader element = element_over geometry leader element
changed_over geometry (Some own) leader element = element_over geometry own.element (keeping own.element leader element)

-- over the disk's own record, where it has one, and else over a new one
abbrev pub created_over : Geometry → (own : Option HeldRecord) → ElementValue → ElementValue
created_over geometry None element = fresh_element geometry element
created_over geometry (Some own) element = element_over geometry own.element element

-- The record of an element on a disk, by its own record and by what the leaders record of it. Where they record nothing all named
-- fields are those of a new record.
unfoldable pub changed_record : Configuration → (timestamp : ℕ) → Geometry → Revision → (own leader : Option HeldRecord) → Wanted → ElementValue
changed_record config timestamp geometry revision own None wanted = created_over geometry own (created config timestamp revision wanted)
changed_record config timestamp geometry revision own (Some leader) wanted =
    changed_over geometry own leader.element (altered config timestamp wanted leader.element)

-- ---- after a recovery

-- each named field, the timestamp and the block size are the leader's
unfoldable pub recovered_record : Geometry → (own : Option HeldRecord) → (leader : ElementValue) → ElementValue
recovered_record geometry None leader = element_over geometry leader leader
recovered_record geometry (Some own) leader = element_over geometry own.element leader
