-- The array that `create` asks for.
use Rattle.std.specs.Prelude.{ℕ, ◌+◌, ◌≤◌, Bool, true, not, ◌&&◌, ◌==◌, nat_lt, List, [], ◌∷◌, ◌++◌, find, length, map, min, replicate, take, Option, Some, None, unwrap_or, if◌then◌else◌}
use Rattle.std.specs.List.{AllByRecursion, list_any, flat_map, range_with_len}
use Rattle.ddf_bytes.specs.declared.stamp.Stamp.{Stamp}
use Rattle.ddf_bytes.specs.declared.guid.GuidKind.TheVariants as kinds
use Rattle.ddf_bytes.specs.Guids.{new_guid_bytes}
use Rattle.ddf_config.specs.declared.element.Position.{Position}
use Rattle.ddf_config.specs.declared.array.Array.{Array}
use Rattle.ddf_config.specs.declared.seat.Seat.{Seat}
use Rattle.ddf_config.specs.declared.refusal.Refusal.{Refusal}
use Rattle.ddf_config.specs.declared.refusal.Refusal.TheVariants.{Level, NameTaken, NotMember, Shape}
use Rattle.ddf_config.specs.Configuration.{Configuration}
use Rattle.ddf_config.specs.Levels.{is_disputed}
use Rattle.ddf_config.specs.Refusals.{first_refusal, refuse_if}
use Rattle.ddf_config.specs.ElementValue.{ElementValue}
use Rattle.ddf_plan.specs.declared.change.Change.{Change}
use Rattle.ddf_plan.specs.Causes.{causes}
use Rattle.ddf_plan.specs.Refusals.{greatest_sequence}
use Rattle.ddf_plan.specs.Lose.{is_among}
use Rattle.ddf_words.specs.declared.command.CreateElement.{CreateElement}
use Rattle.ddf_words.specs.declared.command.Creation.{Creation}
use Rattle.ddf_request.specs.Slots.{reference_on}

-- A name has at most 16 bytes, and an element at most 64 members.
pub record IsCreation (creation : Creation) : Type 0 where
  pub short : length creation.name ≤ 16
  pub few : AllByRecursion (λ (element : CreateElement). length element.slots ≤ 64) creation.elements

-- ---- its GUID and its name

-- the sequence number of the change that creates it; past the greatest, where it is refused, the number behind the greatest
abbrev pub next_sequence : (sequence : ℕ) → ℕ
next_sequence sequence = min (sequence + 1) (greatest_sequence + 1)

abbrev pub new_array_guid : Configuration → Stamp → List ℕ
new_array_guid config stamp = new_guid_bytes kinds.Array stamp (next_sequence config.sequence)

-- a name of 16 bytes, padded with spaces
abbrev pub padded : List ℕ → List ℕ
padded name = take 16 (name ++ replicate 16 0x20)

-- ---- its number

abbrev pub has_number : (number : ℕ) → (List ℕ × Array) → Bool
has_number number entry = entry.1.number == number

abbrev pub is_free_number : List (List ℕ × Array) → (number : ℕ) → Bool
is_free_number arrays number = not (list_any (has_number number) arrays)

-- The least that no array has. A group has fewer than 65,536 arrays, so that there is one.
unfoldable pub least_number : List (List ℕ × Array) → ℕ
least_number arrays = unwrap_or (find (is_free_number arrays) (range_with_len 0 65536)) 0

-- ---- its elements

-- RAID 1 is simple mirroring (00) over two members and multi mirroring (01) over more; other levels have the qualifier of the words
abbrev pub qualifier_of : (level qualifier members : ℕ) → ℕ
qualifier_of level qualifier members = if level == 1 then (if members == 2 then 0 else 1) else qualifier

-- a position on the disk of a slot, in sync; where it starts is told when it is created
abbrev pub new_position : List Seat → (slot : ℕ) → Position
new_position seats slot = record { reference = reference_on seats slot; start = 0; synced = true; row = 0 }

abbrev pub new_element : List Seat → Creation → CreateElement → ElementValue
new_element seats creation element = record {
  level = creation.level;
  qualifier = qualifier_of creation.level creation.qualifier (length element.slots);
  strip = creation.code;
  stand_in = 0;
  blocks = element.blocks;
  positions = map (new_position seats) element.slots;
}

abbrev pub new_array : Configuration → List Seat → Creation → Array
new_array config seats creation = record {
  name = padded creation.name;
  number = least_number config.arrays;
  secondary = unwrap_or creation.secondary 0;
  elements = map (λ element. Some (new_element seats creation element)) creation.elements;
  state = 0;
  init = 0;
}

-- the slots of all elements, in the order of the words
abbrev pub slots_of : List CreateElement → List ℕ
slots_of elements = flat_map (λ (element : CreateElement). element.slots) elements

-- ---- the word for its secondary level

-- `single` is for one element, and every other word for several
abbrev pub is_misfit : Creation → Bool
is_misfit creation = elim creation.secondary [ None ↦ not (length creation.elements == 1) | Some code ↦ not (nat_lt 1 (length creation.elements)) ]

-- ---- the disks that Linux reads

-- a slot of it has one of these disks
abbrev pub lies_on_one : (linux : List ℕ) → List Seat → Creation → Bool
lies_on_one linux seats creation = list_any (λ slot. is_among linux (reference_on seats slot)) (slots_of creation.elements)

-- Linux would take its level for another one, on a disk that it reads
abbrev pub is_misread : (linux : List ℕ) → List Seat → Creation → Bool
is_misread linux seats creation = is_disputed creation.level creation.qualifier && lies_on_one linux seats creation

-- ---- what refuses it beside the plan

-- In order: Linux would read it as something else; the word for its secondary level doesn't fit.
abbrev pub unfit : (linux : List ℕ) → List Seat → Creation → Option Refusal
unfit linux seats creation =
    first_refusal (refuse_if (is_misread linux seats creation) (Level creation.level) ∷ refuse_if (is_misfit creation) Shape ∷ [])

-- A refusal of the plan that comes before both: a disk is no current member, the name is taken, or a level isn't served.
abbrev pub refused_before : (fallback : Refusal) → Option Refusal → Refusal
refused_before fallback (Some (NotMember slot)) = NotMember slot
refused_before fallback (Some NameTaken) = NameTaken
refused_before fallback (Some (Level code)) = Level code
refused_before fallback other = fallback

-- what an array is refused for that is refused beside the plan
abbrev pub unfit_refusal : (fallback : Refusal) → Configuration → List Seat → Change → Refusal
unfit_refusal fallback config seats change = refused_before fallback (causes None config change seats)
