-- Which group is meant (profile): the named one, or the only one that no other absorbs.
use Rattle.std.specs.Prelude.{ℕ, Bool, false, not, ◌&&◌, ◌||◌, List, find, Option, Some, None, Result, Ok, Err, if◌then◌else◌}
use Rattle.std.specs.List.{list_all, list_any}
use Rattle.std.specs.Option.{option_map_or}
use Rattle.ddf_group.specs.declared.shown.Shown.{Shown}
use Rattle.ddf_group.specs.declared.answer.Assembly.{Assembly}
use Rattle.ddf_group.specs.declared.answer.Assembly.TheVariants.{NoGroup, SeveralGroups}
use Rattle.ddf_group.specs.Slots.{claims, group_shown, numbers, shows_group, slot_at}

-- ---- groups inside of others

-- the group claims no slot that shows the other one
abbrev pub claims_none : List Shown → (group other : List ℕ) → Bool
claims_none slots group other = list_all (λ slot. not (shows_group other (slot_at slots slot) && claims slots group slot)) (numbers slots)

-- the group claims every slot that shows the other one
abbrev pub claims_all : List Shown → (group other : List ℕ) → Bool
claims_all slots group other = list_all (λ slot. not (shows_group other (slot_at slots slot)) || claims slots group slot) (numbers slots)

-- A group absorbs another one, none of whose claims is on its slots.
abbrev pub absorbs : List Shown → (group other : List ℕ) → Bool
absorbs slots group other = claims_none slots other group && claims_all slots group other

-- the group that this slot shows absorbs the other one
abbrev pub absorbs_at : List Shown → (other : List ℕ) → (slot : ℕ) → Bool
absorbs_at slots other slot = option_map_or (λ group. absorbs slots group other) (group_shown (slot_at slots slot)) false

abbrev pub is_absorbed : List Shown → (group : List ℕ) → Bool
is_absorbed slots group = list_any (absorbs_at slots group) (numbers slots)

-- ---- the group

-- a slot shows a group that isn't absorbed
abbrev pub shows_free : List Shown → (slot : ℕ) → Bool
shows_free slots slot = option_map_or (λ group. not (is_absorbed slots group)) (group_shown (slot_at slots slot)) false

-- the first slot that does
unfoldable pub first_free : List Shown → Option ℕ
first_free slots = find (shows_free slots) (numbers slots)

-- the first slot that shows another such group than this one
unfoldable pub other_free : List Shown → (group : List ℕ) → Option ℕ
other_free slots group = find (λ slot. not (shows_group group (slot_at slots slot)) && shows_free slots slot) (numbers slots)

-- the group, unless a slot shows another one too
abbrev pub unless_other : (slot : ℕ) → (group : List ℕ) → (other : Option ℕ) → Result (List ℕ) Assembly
unless_other slot group None = Ok group
unless_other slot group (Some other) = Err (SeveralGroups slot other)

abbrev pub group_at : List Shown → (slot : ℕ) → Option (List ℕ) → Result (List ℕ) Assembly
group_at slots slot None = Err NoGroup
group_at slots slot (Some group) = unless_other slot group (other_free slots group)

abbrev pub only_group : List Shown → Option ℕ → Result (List ℕ) Assembly
only_group slots None = Err NoGroup
only_group slots (Some slot) = group_at slots slot (group_shown (slot_at slots slot))

-- some slot shows the group
abbrev pub is_shown : List Shown → (group : List ℕ) → Bool
is_shown slots group = list_any (λ slot. shows_group group (slot_at slots slot)) (numbers slots)

-- the group that is meant
unfoldable pub chosen : List Shown → (named : Option (List ℕ)) → Result (List ℕ) Assembly
chosen slots None = only_group slots (first_free slots)
chosen slots (Some group) = if is_shown slots group then Ok group else Err NoGroup
