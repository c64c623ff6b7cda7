-- What `label` leaves of a bay whose slots it labels all, and that nothing refuses it on disks of zeros.
use Rattle.std.proofs.Common.{◌≡◌, ℕ, zero, suc, ◌+◌, ◌<◌, ◌≤◌, ◌^◌, ◌==◌, Bool, false, not, nat_lt, List, [], ◌∷◌, length, get_or, map, replicate, Option, Some, None, Result, refl, ap, sym, ◌∙◌, subst, arith}
use Rattle.std.proofs.lemmas.Bool.{le-ltb, ltb-false, ne_eqb}
use Rattle.std.proofs.lemmas.Option.{get_or_from_slice_get, slice_get_within}
use Rattle.std.specs.Prelude.{find, option_map, slice_get, slice_index}
use Rattle.std.specs.List.{AllByRecursion, range_with_len}
use Rattle.std.proofs.lemmas.List.FromFn.{length-range_with_len}
use Rattle.ddf_lemmas.proofs.Lists.{all_from, none_found, placed_all, range_at, range_get}
use Rattle.ddf_lemmas.proofs.Options.{none_from_map}
use Rattle.ddf_bytes.specs.Choices.{first_of, when}
use Rattle.ddf_bytes.proofs.Nones.{none_first, none_when}
use Rattle.ddf_bay.specs.Logged.{held_of}
use Rattle.ddf_bay.specs.Memory.{MemoryState, blank, disks_of, state_of}
use Rattle.ddf_bay.specs.Sectors.{Image}
use Rattle.ddf_bay.specs.declared.memory.MemoryBay.{MemoryBay}
use Rattle.ddf_bay.specs.State.{BayState}
use Rattle.ddf_bytes.specs.declared.stamp.Stamp.{Stamp}
use Rattle.ddf_header.specs.declared.kind.Revision.{Revision}
use Rattle.ddf_header.specs.declared.reading.Header.{Header}
use Rattle.ddf_copy.specs.declared.fault.AnchorFault.{AnchorFault}
use Rattle.ddf_copy.specs.Headers.{anchor_header}
use Rattle.ddf_config.specs.declared.refusal.FullTable.TheVariants.{Disks}
use Rattle.ddf_config.specs.declared.refusal.Refusal.TheVariants.{Full, NoSlot, NotBlank, Small}
use Rattle.ddf_update.specs.Group.{HaveFirstCopies, slot_sizes}
use Rattle.ddf_update.specs.declared.new_layout.NewLayout.{NewLayout}
use Rattle.ddf_update.specs.declared.new_layout.NewLayout.TheVariants as layouts
use Rattle.ddf_update.specs.NewCopies.{new_copy}
use Rattle.ddf_update.specs.Update.{AreBoth}
use Rattle.ddf_disk_commands.specs.Label.{label_copy, label_slots}
use Rattle.ddf_disk_commands.specs.LabelRefusal.{chosen, is_anchored, is_blank, is_small, label_layout, label_refusal, missing, unfit}
use Rattle.ddf_disk_commands.proofs.Common.{all_chosen}
use Rattle.ddf_uncut_group.specs.Labelled.{labelled_group}
use Rattle.ddf_uncut_group.specs.Settled.{AreSettledAs}
use Rattle.ddf_uncut_group.proofs.PlainBlank.{held_blank}
use Rattle.ddf_uncut_group.proofs.PlainLabel.{labelled_as}

-- ---- all slots

-- The slots are all slots, and their sizes those of the bay.
slots_all : (sizes : List ℕ) → label_slots sizes [] ≡ range_with_len 0 (length sizes)
slots_all sizes = all_chosen 0 (length sizes)

sizes_all : (sizes : List ℕ) → slot_sizes sizes (label_slots sizes []) ≡ sizes
sizes_all sizes =
    ap (map (slice_index sizes)) (slots_all sizes)
    ∙ placed_all (slice_index sizes) 0 sizes
    (λ k size at. let here : 0 + k ≡ k = omega arith in ap (slice_index sizes) here ∙ get_or_from_slice_get sizes k size 0 at)

counted : (sizes : List ℕ) → length (label_slots sizes []) ≡ length sizes
counted sizes = ap length (slots_all sizes) ∙ length-range_with_len 0 (length sizes)

-- Few disks are those of a small group.
small_layout : (sizes : List ℕ) → length sizes ≤ 15 → label_layout false sizes [] ≡ layouts.Small
small_layout sizes few =
    let same = counted sizes in
    let many : nat_lt 15 (length (label_slots sizes [])) ≡ false = le-ltb 15 (length (label_slots sizes [])) (omega (arith, few, same)) in
    rw many refl

-- ---- what isn't refused

-- A bay of few slots on which `label` of all of them isn't refused has slots, and these are large.
pub record AreFit (sizes : List ℕ) : Type 0 where
  pub some : 0 < length sizes
  pub few : length sizes ≤ 15
  pub large : (place : ℕ) → place < length sizes → 33000 ≤ get_or sizes place 0

fit_unrefused : (sizes : List ℕ) (held : Image) → length sizes ≤ 15 → label_refusal false sizes held [] ≡ None → AreFit sizes
unfolding label_refusal
fit_unrefused sizes held few none =
    let slots = chosen (length sizes) [] in
    let all = slots_all sizes in
    let parts = none_first (option_map NoSlot (missing (length sizes) []) ∷ unfit (label_layout false sizes []) sizes held slots ∷ []) none in
    let there = none_when (length sizes == 0) 0 (none_from_map NoSlot (missing (length sizes) []) parts.0) in
    let fits : unfit layouts.Small sizes held slots ≡ None = subst (λ (layout : NewLayout). unfit layout sizes held slots ≡ None) (small_layout sizes few) parts.1.0 in
    let own = none_first (option_map NotBlank (find (is_anchored sizes held) slots)
    ∷ option_map (λ slot. Small 33000 (slice_index sizes slot)) (find (is_small layouts.Small sizes) slots)
    ∷ when (nat_lt 15 (length slots)) (Full Disks)
    ∷ []) fits in
    let large = none_found (is_small layouts.Small sizes) slots (none_from_map (λ slot. Small 33000 (slice_index sizes slot)) (find (is_small layouts.Small sizes) slots) own.1.0) in
    record {
      some = some_by (length sizes) there;
      few = few;
      large = λ place low. ltb-false (slice_index sizes place) 33000 (large place place (ap (λ (every : List ℕ). slice_get every place) all ∙ range_at (length sizes) place low));
    }
  where
    some_by : (count : ℕ) → (count == 0) ≡ false → 0 < count
    some_by zero none = absurd cc
    some_by (suc count) none = omega arith

-- ---- what it leaves

-- Sizes that fit a word do so at each place.
sizes_fit : (sizes : List ℕ) → AllByRecursion (λ size. size < 2 ^ 64) sizes → (place : ℕ) → get_or sizes place 0 < 2 ^ 64
sizes_fit [] fit place = omega arith
sizes_fit (size ∷ sizes) fit zero = fit.0
sizes_fit (size ∷ sizes) fit (suc place) = sizes_fit sizes fit.1 place

-- The disks of a bay whose slots all got their first copies are the new group, settled.
settled_by : (revision : Revision) (stamp : Stamp) (sizes : List ℕ) (image : Image) → AreFit sizes → AllByRecursion (λ size. size < 2 ^ 64) sizes
    → ((place : ℕ) → place < length sizes → AreBoth (slice_index sizes place) (image place) (anchor_header (new_copy layouts.Small revision stamp sizes place)) (new_copy layouts.Small revision stamp sizes place))
    → AreSettledAs sizes image (replicate (length sizes) false) (labelled_group revision stamp sizes)
settled_by revision stamp [] image are fit both = let some = are.some in absurd (omega (arith, some))
settled_by revision stamp (size ∷ more) image are fit both = labelled_as revision stamp size more are.few are.large (sizes_fit (size ∷ more) fit) image both

pub labelled_settles : {D : Type 0} (revision : Revision) (stamp : Stamp) (old new : BayState D) → length old.sizes ≤ 15 → label_refusal false old.sizes old.held [] ≡ None → AllByRecursion (λ size. size < 2 ^ 64) old.sizes
    → HaveFirstCopies old new (label_slots old.sizes []) (label_copy false revision stamp old.sizes []) (length (label_slots old.sizes []))
    → AreSettledAs old.sizes new.held (replicate (length old.sizes) false) (labelled_group revision stamp old.sizes)
labelled_settles revision stamp old new few none fit first =
    settled_by revision stamp old.sizes new.held (fit_unrefused old.sizes old.held few none) fit
    (λ place low.
    let slots = label_slots old.sizes [] in
    let all = slots_all old.sizes in
    let at : slice_get slots place ≡ Some place = ap (λ (every : List ℕ). slice_get every place) all ∙ range_at (length old.sizes) place low in
    let within : place < length slots = slice_get_within slots place place at in
    let placed = subst (λ (layout : NewLayout). AreBoth (slice_index old.sizes place) (new.held place)
    (anchor_header (new_copy layout revision stamp (slot_sizes old.sizes slots) place)) (new_copy layout revision stamp (slot_sizes old.sizes slots) place)) (small_layout old.sizes few)
    (first.are_both place place within at) in
    subst (λ (sizes : List ℕ). AreBoth (slice_index old.sizes place) (new.held place) (anchor_header (new_copy layouts.Small revision stamp sizes place)) (new_copy layouts.Small revision stamp sizes place)) (sizes_all old.sizes)
    placed)

-- ---- disks of zeros

-- None of them has an anchor.
none_anchored : (sizes slots : List ℕ) → find (is_anchored sizes (held_of [])) slots ≡ None
none_anchored sizes [] = refl
none_anchored sizes (slot ∷ slots) =
    let blank : is_anchored sizes (held_of []) slot ≡ false = ap (λ (found : Result Header AnchorFault). not (is_blank found)) (held_blank (slice_index sizes slot) slot) in
    rw blank (none_anchored sizes slots)

-- None of large disks is small.
none_small : (sizes slots : List ℕ) → AllByRecursion (λ slot. 33000 ≤ slice_index sizes slot) slots → find (is_small layouts.Small sizes) slots ≡ None
none_small sizes [] large = refl
none_small sizes (slot ∷ slots) large =
    let here : is_small layouts.Small sizes slot ≡ false = le-ltb (slice_index sizes slot) 33000 large.0 in
    rw here (none_small sizes slots large.1)

-- So nothing refuses to label few large disks of zeros.
pub zeros_unrefused : (sizes : List ℕ) → AreFit sizes → label_refusal false sizes (held_of []) [] ≡ None
unfolding label_refusal
zeros_unrefused sizes are =
    let slots = chosen (length sizes) [] in
    let all = slots_all sizes in
    let few = are.few in
    let some = are.some in
    let same = counted sizes in
    let large : AllByRecursion (λ slot. 33000 ≤ slice_index sizes slot) slots =
    subst (AllByRecursion (λ slot. 33000 ≤ slice_index sizes slot)) (sym all)
    (all_from (λ slot. 33000 ≤ slice_index sizes slot) (range_with_len 0 (length sizes))
    (λ k slot at. let placed = range_get 0 (length sizes) k slot at in let here = placed.0 in let below = placed.1 in are.large slot (omega (arith, here, below)))) in
    let there : (length sizes == 0) ≡ false = ne_eqb (length sizes) 0 (λ (none : length sizes ≡ 0). absurd (omega (arith, none, some))) in
    let many : nat_lt 15 (length slots) ≡ false = le-ltb 15 (length slots) (omega (arith, few, same)) in
    subst (λ (layout : NewLayout). first_of (option_map NoSlot (missing (length sizes) []) ∷ unfit layout sizes (held_of []) slots ∷ []) ≡ None) (sym (small_layout sizes few))
    (none_of (missing (length sizes) []) (find (is_anchored sizes (held_of [])) slots) (find (is_small layouts.Small sizes) slots) (nat_lt 15 (length slots))
    (ap (λ (none : Bool). when none 0) there) (none_anchored sizes slots) (none_small sizes slots large) many)
  where
    none_of : (lacking anchored small : Option ℕ) (many : Bool) → lacking ≡ None → anchored ≡ None → small ≡ None → many ≡ false
        → first_of (option_map NoSlot lacking
        ∷ first_of (option_map NotBlank anchored ∷ option_map (λ slot. Small 33000 (slice_index sizes slot)) small ∷ when many (Full Disks) ∷ [])
        ∷ []) ≡ None
    none_of lacking anchored small many p q r s = rw (p, q, r, s) refl

-- Large sizes are so at each place.
all_large : (sizes : List ℕ) → AllByRecursion (λ size. 33000 ≤ size) sizes → (place : ℕ) → place < length sizes → 33000 ≤ get_or sizes place 0
all_large [] large place low = absurd (omega (arith, low))
all_large (size ∷ sizes) large zero low = large.0
all_large (size ∷ sizes) large (suc place) low = all_large sizes large.1 place (omega (arith, low))

-- Nor does it on a bay in memory that was just made.
pub memory_unrefused : (bay : MemoryBay) (sizes : List ℕ) (writes : ℕ) (failing : List ℕ) (stop_after : Option ℕ) → state_of bay ≡ blank sizes writes failing stop_after
    → 0 < length sizes → length sizes ≤ 15 → AllByRecursion (λ size. 33000 ≤ size) sizes → label_refusal false (disks_of bay).sizes (disks_of bay).held [] ≡ None
memory_unrefused bay sizes writes failing stop_after is some few large =
    ap (λ (state : MemoryState). label_refusal false state.sizes (held_of state.logged) []) is
    ∙ zeros_unrefused sizes (record { some = some; few = few; large = all_large sizes large })
