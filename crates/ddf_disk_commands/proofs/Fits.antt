-- Slots that can be labelled.
use Rattle.std.proofs.Common.{◌≡◌, ℕ, ◌<◌, ◌≤◌, List, [], ◌∷◌, length, Bool, true, false, Option, Some, None, Result, Ok, Err, refl}
use Rattle.std.proofs.lemmas.Bool.{ltb-false}
use Rattle.std.proofs.lemmas.List.{get_or-map}
use Rattle.std.specs.List.{All, find}
use Rattle.std.specs.Option.{option_or}
use Rattle.std.specs.Prelude.{get_or, nat_lt, not, option_map, slice_get, slice_index}
use Rattle.std.proofs.lemmas.Option.{get_or_from_slice_get, slice_get_within}
use Rattle.ddf_lemmas.proofs.Options.{none_from_map, none_of_both}
use Rattle.ddf_bytes.specs.Choices.{first_of, when}
use Rattle.ddf_bay.specs.Sectors.{Image}
use Rattle.ddf_header.specs.declared.reading.Header.{Header}
use Rattle.ddf_copy.specs.declared.fault.AnchorFault.{AnchorFault}
use Rattle.ddf_copy.specs.declared.fault.AnchorFault.TheVariants as anchors
use Rattle.ddf_copy.specs.declared.fault.AnchorFault.TheVariants.{Blank, Damaged}
use Rattle.ddf_copy.specs.Anchor.{anchor_at}
use Rattle.ddf_words.proofs.Finds.{none_is}
use Rattle.ddf_config.specs.declared.refusal.FullTable.TheVariants.{Disks}
use Rattle.ddf_config.specs.declared.refusal.Refusal.{Refusal}
use Rattle.ddf_config.specs.declared.refusal.Refusal.TheVariants.{Full, NoSlot, NotBlank, Small}
use Rattle.ddf_update.specs.declared.new_layout.NewLayout.{NewLayout}
use Rattle.ddf_update.specs.Group.{slot_sizes}
use Rattle.ddf_update.specs.NewLayouts.{least_sectors, rows_of}
use Rattle.ddf_disk_commands.specs.LabelRefusal.{IsFit, chosen, is_anchored, is_blank, is_small, label_layout, label_refusal, misfit, missing, unfit}

not_when : (test : Bool) (refusal : Refusal) → when test refusal ≡ None → test ≡ false
not_when true refusal none = absurd cc
not_when false refusal none = refl

not_small : (layout : NewLayout) (sizes slots : List ℕ) → find (is_small layout sizes) slots ≡ None → All (λ slot. least_sectors layout ≤ slice_index sizes slot) slots
not_small layout sizes slots none k d lt = let large = none_is (is_small layout sizes) slots none k d lt in ltb-false (slice_index sizes (get_or slots k d)) (least_sectors layout) large

pub fits : (layout : NewLayout) (sizes slots : List ℕ) (anchored : Option ℕ) → misfit layout sizes anchored slots ≡ None → IsFit layout sizes slots
fits layout sizes slots anchored none =
    let blank = none_of_both (option_map NotBlank anchored) (first_of (option_map (λ slot. Small (least_sectors layout) (slice_index sizes slot)) (find (is_small layout sizes) slots) ∷ when (nat_lt (rows_of layout) (length slots)) (Full Disks) ∷ [])) none in
    let small = none_of_both (option_map (λ slot. Small (least_sectors layout) (slice_index sizes slot)) (find (is_small layout sizes) slots)) (first_of (when (nat_lt (rows_of layout) (length slots)) (Full Disks) ∷ [])) blank.1 in
    let full = none_of_both (when (nat_lt (rows_of layout) (length slots)) (Full Disks)) None small.1 in
    record {
      few = ltb-false (rows_of layout) (length slots) (not_when (nat_lt (rows_of layout) (length slots)) (Full Disks) full.0);
      large = not_small layout sizes slots (none_from_map (λ slot. Small (least_sectors layout) (slice_index sizes slot)) (find (is_small layout sizes) slots) small.0);
    }

-- ---- what `label` is refused for

pub refused_missing : (large : Bool) (sizes : List ℕ) (held : Image) (named : List ℕ) (slot : ℕ) → missing (length sizes) named ≡ Some slot → label_refusal large sizes held named ≡ Some (NoSlot slot)
unfolding label_refusal
refused_missing large sizes held named slot is = rw is refl

or_none : (o : Option Refusal) → option_or o None ≡ o
or_none None = refl
or_none (Some refusal) = refl

pub refused_unfit : (large : Bool) (sizes : List ℕ) (held : Image) (named : List ℕ) (refusal : Option Refusal) → missing (length sizes) named ≡ None → unfit (label_layout large sizes named) sizes held (chosen (length sizes) named) ≡ refusal → label_refusal large sizes held named ≡ refusal
unfolding label_refusal
refused_unfit large sizes held named refusal there is = rw (there, is) (or_none refusal)

-- ---- the sizes of slots

pub large_sizes : (least : ℕ) (sizes slots : List ℕ) → All (λ slot. least ≤ slice_index sizes slot) slots → (i : ℕ) → i < length slots → least ≤ slice_index (slot_sizes sizes slots) i
large_sizes least sizes slots large i lt = rw (get_or-map (slice_index sizes) slots i 0 0 lt) (large i 0 lt)

-- ---- slots that aren't refused are blank

blank_is : (read : Result Header AnchorFault) → not (is_blank read) ≡ false → read ≡ Err Blank
blank_is (Ok header) is = absurd cc
blank_is (Err Blank) is = refl
blank_is (Err (Damaged fault)) is = absurd cc
blank_is (Err (anchors.Disk slot)) is = absurd cc

none_missing : (large : Bool) (sizes : List ℕ) (held : Image) (named : List ℕ) → label_refusal large sizes held named ≡ None → unfit (label_layout large sizes named) sizes held (chosen (length sizes) named) ≡ None
unfolding label_refusal
none_missing large sizes held named none =
    let parts = none_of_both (option_map NoSlot (missing (length sizes) named)) (option_or (unfit (label_layout large sizes named) sizes held (chosen (length sizes) named)) None) none in
    (none_of_both (unfit (label_layout large sizes named) sizes held (chosen (length sizes) named)) None parts.1).0

none_anchored : (layout : NewLayout) (sizes : List ℕ) (held : Image) (slots : List ℕ) → unfit layout sizes held slots ≡ None → find (is_anchored sizes held) slots ≡ None
none_anchored layout sizes held slots none =
    none_from_map NotBlank (find (is_anchored sizes held) slots)
    (none_of_both (option_map NotBlank (find (is_anchored sizes held) slots)) (first_of (option_map (λ slot. Small (least_sectors layout) (slice_index sizes slot)) (find (is_small layout sizes) slots) ∷ when (nat_lt (rows_of layout) (length slots)) (Full Disks) ∷ [])) none).0

pub all_blank : (large : Bool) (sizes : List ℕ) (held : Image) (named : List ℕ) → label_refusal large sizes held named ≡ None
    → (place slot : ℕ) → slice_get (chosen (length sizes) named) place ≡ Some slot → anchor_at (slice_index sizes slot) (held slot) ≡ Err Blank
all_blank large sizes held named none place slot at =
    let slots = chosen (length sizes) named in
    let all = none_is (is_anchored sizes held) slots (none_anchored (label_layout large sizes named) sizes held slots (none_missing large sizes held named none)) in
    let here : get_or slots place 0 ≡ slot = get_or_from_slice_get slots place slot 0 at in
    blank_is (anchor_at (slice_index sizes slot) (held slot)) (rw here at (all place 0 (slice_get_within slots place slot at)))

-- Those that aren't refused are few.
pub few_labelled : (large : Bool) (sizes : List ℕ) (held : Image) (named : List ℕ) → label_refusal large sizes held named ≡ None → length (chosen (length sizes) named) ≤ rows_of (label_layout large sizes named)
few_labelled large sizes held named none =
    let slots = chosen (length sizes) named in
    (fits (label_layout large sizes named) sizes slots (find (is_anchored sizes held) slots) (none_missing large sizes held named none)).few
