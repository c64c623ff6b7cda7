-- What the slots of a bay give together: a group with its configuration, or why there is none (profile).
use Rattle.std.specs.Prelude.{◌≡◌, ◌⊎◌, ℕ, Bool, false, not, ◌&&◌, ◌==◌, List, map, filter, filter_map, Option, Some, None, Result, Ok, Err}
use Rattle.std.specs.List.{list_any}
use Rattle.std.specs.Option.{option_map_or}
use Rattle.ddf_config.specs.declared.member.Member.{Member}
use Rattle.ddf_config.specs.Configuration.{Configuration}
use Rattle.ddf_view.specs.View.{View}
use Rattle.ddf_view.specs.Reading.{read}
use Rattle.ddf_view.specs.Shows.{shows}
use Rattle.ddf_group.specs.declared.shown.Shown.{Shown}
use Rattle.ddf_group.specs.declared.shown.Shown.TheVariants.{Level}
use Rattle.ddf_group.specs.declared.answer.Assembled.{Assembled}
use Rattle.ddf_group.specs.declared.answer.Assembly.{Assembly}
use Rattle.ddf_group.specs.declared.answer.Assembly.TheVariants.{Memory}
use Rattle.ddf_group.specs.Slots.{claimed, leaders, reference_at, slot_at, view_in}
use Rattle.ddf_group.specs.Choice.{chosen}
use Rattle.ddf_group.specs.Conflicts.{contradiction, sequence_of}

-- ---- the configuration

abbrev pub leading_views : List Shown → (group : List ℕ) → List View
leading_views slots group = filter_map (λ slot. view_in (slot_at slots slot)) (leaders slots group)

-- it is read from the leaders, the lowest first
unfoldable pub config_of : List Shown → (group : List ℕ) → Configuration
config_of slots group = read group (sequence_of slots group) (leading_views slots group)

-- ---- its disks

-- a slot's disk has this reference
abbrev pub has_reference : List Shown → (reference slot : ℕ) → Bool
has_reference slots reference slot = option_map_or (λ one. one == reference) (reference_at slots slot) false

-- a current member has no seat
abbrev pub is_absent : List Shown → (seats : List ℕ) → (ℕ × Member) → Bool
is_absent slots seats member = not member.1.missing && not (list_any (has_reference slots member.0) seats)

abbrev pub absent : List Shown → (seats : List ℕ) → List (ℕ × Member) → List ℕ
absent slots seats members = map (λ member. member.0) (filter (is_absent slots seats) members)

-- a slot has the configuration in two level copies
abbrev pub has_config : Configuration → Shown → Bool
has_config config (Level view) = shows config view
has_config config shown = false

abbrev pub lagging : List Shown → (seats : List ℕ) → Configuration → List ℕ
lagging slots seats config = filter (λ slot. not (has_config config (slot_at slots slot))) seats

-- ---- the answer

unfoldable pub assembled_as : List Shown → (seats : List ℕ) → Configuration → Assembled
assembled_as slots seats config = record {
  config = config;
  seats = seats;
  absent = absent slots seats config.members;
  lagging = lagging slots seats config;
}

-- a group, unless slots contradict it
abbrev pub unless_contradicted : List Shown → (group : List ℕ) → Option Assembly → Result Assembled Assembly
unless_contradicted slots group None = Ok (assembled_as slots (claimed slots group) (config_of slots group))
unless_contradicted slots group (Some fault) = Err fault

abbrev pub assembled_group : List Shown → Result (List ℕ) Assembly → Result Assembled Assembly
assembled_group slots (Ok group) = unless_contradicted slots group (contradiction slots group)
assembled_group slots (Err fault) = Err fault

-- What the slots give, where a group is named or not.
unfoldable pub assembled : List Shown → (named : Option (List ℕ)) → Result Assembled Assembly
assembled slots named = assembled_group slots (chosen slots named)

-- The result is this answer, or memory ran out.
abbrev pub UpToMemory : Result Assembled Assembly → Result Assembled Assembly → Type 0
UpToMemory result answer = (result ≡ answer) ⊎ (result ≡ Err Memory)
