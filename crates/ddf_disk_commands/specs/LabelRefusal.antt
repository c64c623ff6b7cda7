-- What `label` is refused for.
use Rattle.std.specs.Prelude.{◌≡◌, ℕ, ◌<◌, ◌≤◌, Bool, true, false, not, ◌==◌, nat_le, nat_lt, List, [], ◌∷◌, length, All, Option, Some, option_map, Result, Err, slice_index, filter, ◌||◌, if◌then◌else◌}
use Rattle.std.specs.List.{find, list_any, range_with_len}
use Rattle.ddf_bytes.specs.Choices.{first_of, when}
use Rattle.ddf_bay.specs.State.{BayState}
use Rattle.ddf_bay.specs.Sectors.{Image}
use Rattle.ddf_bay.specs.ReadsOnly.{SlotRose}
use Rattle.ddf_header.specs.declared.reading.Header.{Header}
use Rattle.ddf_copy.specs.declared.fault.AnchorFault.{AnchorFault}
use Rattle.ddf_copy.specs.declared.fault.AnchorFault.TheVariants.{Blank}
use Rattle.ddf_copy.specs.Anchor.{anchor_at}
use Rattle.ddf_update.specs.declared.new_layout.NewLayout.{NewLayout}
use Rattle.ddf_update.specs.declared.new_layout.NewLayout.TheVariants as layouts
use Rattle.ddf_update.specs.NewLayouts.{least_sectors, rows_of}
use Rattle.ddf_answer.specs.declared.failure.Failure.{Failure}
use Rattle.ddf_answer.specs.declared.failure.Failure.TheVariants.{Conflict, Disk, Memory, Refused, Split}
use Rattle.ddf_config.specs.declared.refusal.FullTable.TheVariants.{Disks}
use Rattle.ddf_config.specs.declared.refusal.Refusal.{Refusal}
use Rattle.ddf_config.specs.declared.refusal.Refusal.TheVariants.{Full, NoSlot, NotBlank, Small}

-- ---- which slots

-- a slot is one of those that the words name
abbrev pub is_named : (named : List ℕ) → ℕ → Bool
is_named named slot = list_any (λ other. other == slot) named

-- without names every slot is chosen
abbrev pub is_chosen : (named : List ℕ) → ℕ → Bool
is_chosen [] slot = true
is_chosen (name ∷ named) slot = is_named (name ∷ named) slot

-- the slots to label, in rising order
abbrev pub chosen : (count : ℕ) → (named : List ℕ) → List ℕ
chosen count named = filter (is_chosen named) (range_with_len 0 count)

-- the first named slot that isn't there: without names and without slots it is slot 0
abbrev pub missing : (count : ℕ) → (named : List ℕ) → Option ℕ
missing count [] = when (count == 0) 0
missing count (name ∷ named) = find (λ slot. nat_le count slot) (name ∷ named)

-- ---- how they are made

-- The disks of a new group of so many are those of a large one where it is asked for, or where a small one has no room for so many (profile).
abbrev pub layout_of : (large : Bool) → (count : ℕ) → NewLayout
layout_of large count = if large || nat_lt (rows_of layouts.Small) count then layouts.Large else layouts.Small

-- the layout of the disks that are made on a bay of these sizes
abbrev pub label_layout : (large : Bool) → List ℕ → (named : List ℕ) → NewLayout
label_layout large sizes named = layout_of large (length (chosen (length sizes) named))

-- ---- what is wrong with them

-- a disk's last sector doesn't begin as an anchor
abbrev pub is_blank : Result Header AnchorFault → Bool
is_blank (Err Blank) = true
is_blank other = false

abbrev pub is_anchored : List ℕ → Image → ℕ → Bool
is_anchored sizes held slot = not (is_blank (anchor_at (slice_index sizes slot) (held slot)))

-- A disk has fewer sectors than a new one of a layout.
abbrev pub is_small : NewLayout → List ℕ → ℕ → Bool
is_small layout sizes slot = nat_lt (slice_index sizes slot) (least_sectors layout)

-- slots are refused: where one isn't blank, then where one is small, then where there are too many
abbrev pub misfit : NewLayout → List ℕ → (anchored : Option ℕ) → (slots : List ℕ) → Option Refusal
misfit layout sizes anchored slots = first_of
    (option_map NotBlank anchored
    ∷ option_map (λ slot. Small (least_sectors layout) (slice_index sizes slot)) (find (is_small layout sizes) slots)
    ∷ when (nat_lt (rows_of layout) (length slots)) (Full Disks)
    ∷ [])

abbrev pub unfit : NewLayout → List ℕ → Image → (slots : List ℕ) → Option Refusal
unfit layout sizes held slots = misfit layout sizes (find (is_anchored sizes held) slots) slots

-- what `label` is refused for, with `large` or without it
unfoldable pub label_refusal : (large : Bool) → List ℕ → Image → (named : List ℕ) → Option Refusal
label_refusal large sizes held named = first_of
    (option_map NoSlot (missing (length sizes) named)
    ∷ unfit (label_layout large sizes named) sizes held (chosen (length sizes) named)
    ∷ [])

-- Slots can get copies of a layout: they are few and large.
pub record IsFit (layout : NewLayout) (sizes slots : List ℕ) : Type 0 where
  pub few : length slots ≤ rows_of layout
  pub large : All (λ slot. least_sectors layout ≤ slice_index sizes slot) slots

-- why slots aren't labelled, before one is written
abbrev pub IsFitFailure : {D : Type 0} (old new : BayState D) → (tells : Type 0) → (large : Bool) → (named : List ℕ) → Failure → Type 0
IsFitFailure old new tells large named (Refused refusal) = tells → label_refusal large old.sizes old.held named ≡ Some refusal
IsFitFailure old new tells large named (Disk slot) = (slot < length old.sizes) × SlotRose old new slot
IsFitFailure old new tells large named (Conflict i j sequence differ) = ⊥
IsFitFailure old new tells large named (Split i j) = ⊥
IsFitFailure old new tells large named Memory = Unit {0}
