-- What the slots of a bay show (profile): which group each shows, which of them lead it, and which of them it claims.
use Rattle.std.specs.Prelude.{ℕ, Bool, false, not, ◌&&◌, ◌||◌, nat_le, List, [], ◌∷◌, length, filter, find, slice_get, Option, Some, None, option_map, unwrap_or}
use Rattle.std.specs.List.{list_all, range_with_len}
use Rattle.std.specs.Option.{option_map_or, option_and_then}
use Rattle.std.specs.Str.{bytes_eq}
use Rattle.ddf_view.specs.View.{View, lists_current, lists_itself}
use Rattle.ddf_group.specs.declared.shown.Shown.{Shown}
use Rattle.ddf_group.specs.declared.shown.Shown.TheVariants.{Nothing, One, Level, TwoDiffer}

-- ---- a slot

-- its newest copies: there are two where they differ
abbrev pub views_of : Shown → List View
views_of Nothing = []
views_of (One view) = view ∷ []
views_of (Level view) = view ∷ []
views_of (TwoDiffer primary secondary) = primary ∷ secondary ∷ []

-- of two copies that differ the primary one stands for the slot
abbrev pub view_in : Shown → Option View
view_in Nothing = None
view_in (One view) = Some view
view_in (Level view) = Some view
view_in (TwoDiffer primary secondary) = Some primary

abbrev pub sequence_in : Shown → ℕ
sequence_in shown = option_map_or (λ view. view.sequence) (view_in shown) 0

-- the group that a slot shows: that of its newest copy, which lists the slot's own disk as a current member
abbrev pub group_shown : Shown → Option (List ℕ)
group_shown shown = option_map (λ view. view.group) (find lists_itself (views_of shown))

abbrev pub shows_group : (group : List ℕ) → Shown → Bool
shows_group group shown = option_map_or (bytes_eq group) (group_shown shown) false

-- ---- slots

-- the slot with this number, and nothing past the last
abbrev pub slot_at : List Shown → ℕ → Shown
slot_at slots slot = unwrap_or (slice_get slots slot) Nothing

abbrev pub numbers : List Shown → List ℕ
numbers slots = range_with_len 0 (length slots)

-- the disk's reference, where the slot shows one
abbrev pub reference_at : List Shown → (slot : ℕ) → Option ℕ
reference_at slots slot = option_map (λ view. view.reference) (view_in (slot_at slots slot))

-- ---- leaders

-- no slot that shows the group has a greater sequence
abbrev pub none_later : List Shown → (group : List ℕ) → (sequence : ℕ) → Bool
none_later slots group sequence =
    list_all (λ slot. not (shows_group group (slot_at slots slot)) || nat_le (sequence_in (slot_at slots slot)) sequence) (numbers slots)

-- a slot shows the group, and none that does has a greater sequence
abbrev pub leads : List Shown → (group : List ℕ) → (slot : ℕ) → Bool
leads slots group slot = shows_group group (slot_at slots slot) && none_later slots group (sequence_in (slot_at slots slot))

unfoldable pub leaders : List Shown → (group : List ℕ) → List ℕ
leaders slots group = filter (leads slots group) (numbers slots)

-- the view of the lowest leader
unfoldable pub leading_view : List Shown → (group : List ℕ) → Option View
leading_view slots group = option_and_then (λ slot. view_in (slot_at slots slot)) (find (leads slots group) (numbers slots))

-- ---- claims

abbrev pub lists_disk_of : (leader : View) → (disk : View) → Bool
lists_disk_of leader disk = lists_current leader disk.guid disk.reference

-- a leader lists the slot's disk as a current member
abbrev pub claims_by : (leader : Option View) → Shown → Bool
claims_by None shown = false
claims_by (Some leader) shown = option_map_or (lists_disk_of leader) (view_in shown) false

-- the group's lowest leader does
abbrev pub claims : List Shown → (group : List ℕ) → (slot : ℕ) → Bool
claims slots group slot = claims_by (leading_view slots group) (slot_at slots slot)

unfoldable pub claimed : List Shown → (group : List ℕ) → List ℕ
claimed slots group = filter (claims slots group) (numbers slots)
