-- The copies that a change gives disks: each can be written, under the anchor of its disk.
use Rattle.std.proofs.Common.{◌≡◌, ◌≢◌, if◌then◌else◌, ℕ, ◌^◌, ◌<◌, ◌≤◌, true, false, cond, List, [], ◌∷◌, length, map, filter, Some, None, refl, sym, ap, subst, ◌∙◌, arith}
use Rattle.std.specs.Prelude.{slice_get}
use Rattle.std.specs.List.{AllByRecursion}
use Rattle.ddf_header.specs.declared.reading.Header.{Header}
use Rattle.ddf_config.specs.declared.array.Array.{Array}
use Rattle.ddf_config.specs.ElementValue.{ElementValue}
use Rattle.ddf_config.specs.Configuration.{Configuration}
use Rattle.ddf_config.specs.Shapes.{array_capacity}
use Rattle.ddf_config.proofs.Capacity.{AreFew, capacity_fits}
use Rattle.ddf_copy.specs.declared.copy.DiskCopy.{DiskCopy}
use Rattle.ddf_copy.specs.declared.which.Which.TheVariants.{Primary}
use Rattle.ddf_copy.specs.Headers.{IsUnder, anchor_header, written_as}
use Rattle.ddf_copy.specs.Written.{CanBeCopy}
use Rattle.ddf_copy.proofs.Again.{under_adopted, under_changed}
use Rattle.ddf_copy.proofs.HeadersWritten.{gate_can}
use Rattle.ddf_view.specs.Shows.{shows}
use Rattle.ddf_view.specs.View.{view_of}
use Rattle.ddf_rewrite.specs.Before.{Before}
use Rattle.ddf_rewrite.specs.Copies.{changed_copy}
use Rattle.ddf_rewrite.specs.Hold.{IsHoldable}
use Rattle.ddf_rewrite.specs.Wanted.{Wanted, all_wanted}
use Rattle.ddf_rewrite.proofs.AllWanted.{is_wanted, wanted_place}
use Rattle.ddf_rewrite.proofs.Changed.{changed_shows}
use Rattle.ddf_rewrite.proofs.Roomy.{change_can, write_can, roomy_change_can}
use Rattle.ddf_rewrite.proofs.Under.{changed_under}
use Rattle.ddf_seats.specs.declared.seated.Seated.{Seated}
use Rattle.ddf_steps.specs.Full.{full_on}
use Rattle.ddf_seats.specs.Changing.{record_length}
use Rattle.ddf_update.specs.declared.prepared.Mode.TheVariants.{Adopt, Change, Found, Move}
use Rattle.ddf_update.specs.declared.prepared.Mode.{Mode}
use Rattle.ddf_view.proofs.Tests.{same_bytes}
use Rattle.std.specs.Str.{bytes_eq}
use Rattle.ddf_lemmas.proofs.Lists.{all_from, bytes_same}
use Rattle.ddf_steps.specs.Committed.{HasPlacesOf}
use Rattle.ddf_steps.specs.Steps.{mode_of, rewritten, stays_in}
use Rattle.ddf_steps.specs.Trying.{CanTry}

-- ---- capacities

few_parts : (most : ℕ) (config : Configuration) → IsHoldable most config → (a : ℕ) (entry : List ℕ × Array) → slice_get config.arrays a ≡ Some entry → AreFew entry.1.elements
few_parts most config can a entry at =
    all_from (λ part. (plan : ElementValue) → part ≡ Some plan → length plan.positions ≤ 64) entry.1.elements
    (λ i part there plan is.
    let found = is_wanted config a i entry plan at (there ∙ ap Some is) in
    (can.can_hold.plans found.0 (record { guid = entry.0; array = entry.1; index = i; plan = plan }) found.1).few)

pub capacities : (most : ℕ) (config : Configuration) → IsHoldable most config → (n : ℕ) (wanted : Wanted) → slice_get (all_wanted config) n ≡ Some wanted → array_capacity wanted.array < 2 ^ 64
capacities most config can n wanted at =
    let of = wanted_place config n wanted at in
    subst (λ (array : Array). array_capacity array < 2 ^ 64) (sym of.array_is) (capacity_fits of.entry.1 (few_parts most config can of.a of.entry of.at))

-- ---- a copy in its primary place

pub closed_can : (copy : DiskCopy) → CanBeCopy copy → CanBeCopy (written_as copy Primary)
closed_can copy is = record {
  header_can = gate_can copy.header Primary 0 (omega arith) is.header_can;
  is_closed = refl;
  controller_can = is.controller_can;
  disks_can = is.disks_can;
  disks_size = is.disks_size;
  arrays_can = is.arrays_can;
  arrays_size = is.arrays_size;
  slots_can = is.slots_can;
  slots_fit = is.slots_fit;
  slots_count = is.slots_count;
  disk_data_can = is.disk_data_can;
  has_log = is.has_log;
}

pub closed_under : (size : ℕ) (anchor : Header) (copy : DiskCopy) → IsUnder size anchor copy → IsUnder size anchor (written_as copy Primary)
closed_under size anchor copy under = under_changed size anchor copy (written_as copy Primary) under (closed_can copy under.is_copy) refl

pub changed_header : (old : DiskCopy) (leaders : Before) (config : Configuration) (timestamp : ℕ)
    → (changed_copy old leaders config timestamp).header ≡ record old.header { guid = config.group; sequence = config.sequence }
unfolding changed_copy
changed_header old leaders config timestamp = refl

-- It is of the configuration's group, and has the old one's places.
pub changed_places : (old : DiskCopy) (leaders : Before) (config : Configuration) (timestamp : ℕ) → HasPlacesOf old (written_as (changed_copy old leaders config timestamp) Primary)
changed_places old leaders config timestamp = record {
  same_primary = ap (λ (header : Header). header.primary_lba) (changed_header old leaders config timestamp);
  same_secondary = ap (λ (header : Header). header.secondary_lba) (changed_header old leaders config timestamp);
  same_sections = ap (λ (header : Header). header.geometry) (changed_header old leaders config timestamp);
}

-- A copy as its primary place has it says what it says.
pub closed_view : (copy : DiskCopy) → view_of (written_as copy Primary) ≡ view_of copy
unfolding view_of
closed_view copy = refl

-- ---- how a disk is written

-- A disk that is changed is of the group.
pub changed_own : (config : Configuration) (disk : Seated) → mode_of config disk ≡ Change → disk.copy.header.guid ≡ config.group
changed_own config disk = by (bytes_eq disk.copy.header.guid config.group) refl
  where
    by : (b : _) → bytes_eq disk.copy.header.guid config.group ≡ b → ◌≡◌ {A = Mode} (if b then Change else Adopt) Change → disk.copy.header.guid ≡ config.group
    by true e h = same_bytes disk.copy.header.guid config.group e
    by false e h = absurd cc

-- One that is adopted is of another.
pub adopted_other : (config : Configuration) (disk : Seated) → mode_of config disk ≡ Adopt → disk.copy.header.guid ≢ config.group
adopted_other config disk h same =
    let own : bytes_eq disk.copy.header.guid config.group ≡ true = ap (λ (guid : List ℕ). bytes_eq guid config.group) same ∙ bytes_same config.group in
    let changes : mode_of config disk ≡ Change = ap (λ (b : _). if b then Change else Adopt) own in
    let no : ◌≡◌ {A = Mode} Change Adopt = sym changes ∙ h in
    absurd cc

-- None is founded.
pub none_founded : (config : Configuration) (disk : Seated) → mode_of config disk ≡ Found → ⊥
none_founded config disk = by (bytes_eq disk.copy.header.guid config.group)
  where
    by : (b : _) → ◌≡◌ {A = Mode} (if b then Change else Adopt) Found → ⊥
    by true h = absurd cc
    by false h = absurd cc

-- None is moved yet.
pub none_moved : (config : Configuration) (disk : Seated) → mode_of config disk ≡ Move → ⊥
none_moved config disk = by (bytes_eq disk.copy.header.guid config.group)
  where
    by : (b : _) → ◌≡◌ {A = Mode} (if b then Change else Adopt) Move → ⊥
    by true h = absurd cc
    by false h = absurd cc

-- A copy in the places and sections of another one stands where that one does, under an anchor of its own.
pub places_under : (size : ℕ) (anchor : Header) (old new : DiskCopy) → IsUnder size anchor old → CanBeCopy new → HasPlacesOf old new → IsUnder size (anchor_header new) new
places_under size anchor old new under can places = under_adopted size anchor old new under can places.same_sections places.same_primary places.same_secondary

-- ---- disks

module _ (leaders : Before) (config : Configuration) (timestamp : ℕ) (time : timestamp < 2 ^ 32) where
  pub rewritten_can : (disk : Seated) → CanTry leaders config disk → full_on leaders config timestamp disk ≡ None → CanBeCopy (rewritten leaders config timestamp disk).copy
  rewritten_can disk try room =
      closed_can (changed_copy disk.copy leaders config timestamp)
      (roomy_change_can disk.copy leaders config timestamp try.is_copy try.holdable try.leaders_held time
      (λ n wanted at none. capacities disk.copy.header.geometry.max_members config try.holdable n wanted at) room)

  -- Its copy shows the configuration.
  pub rewritten_shows : (disk : Seated) → CanTry leaders config disk → full_on leaders config timestamp disk ≡ None → shows config (view_of (rewritten leaders config timestamp disk).copy) ≡ true
  rewritten_shows disk try room =
      let can = change_can disk.copy leaders config timestamp try.is_copy try.holdable room in
      ap (shows config) (closed_view (changed_copy disk.copy leaders config timestamp)) ∙ changed_shows disk.copy leaders config timestamp can.names can.rebuilt can.room

  pub rewritten_group : (disk : Seated) → (rewritten leaders config timestamp disk).copy.header.guid ≡ config.group
  rewritten_group disk = ap (λ (header : Header). header.guid) (changed_header disk.copy leaders config timestamp)

  pub rewritten_most : (disk : Seated) → (rewritten leaders config timestamp disk).copy.header.geometry.max_members ≡ disk.copy.header.geometry.max_members
  rewritten_most disk = ap (λ (header : Header). header.geometry.max_members) (changed_header disk.copy leaders config timestamp)

  rewritten_length : (disk : Seated) → record_length (rewritten leaders config timestamp disk) ≡ record_length disk
  rewritten_length disk = ap (λ (header : Header). header.geometry.record_length) (changed_header disk.copy leaders config timestamp)

  pub rewritten_under : (disk : Seated) → CanTry leaders config disk → full_on leaders config timestamp disk ≡ None → config.group ≡ disk.copy.header.guid
      → (size : ℕ) (anchor : Header) → IsUnder size anchor disk.copy → IsUnder size anchor (rewritten leaders config timestamp disk).copy
  rewritten_under disk try room group size anchor under =
      closed_under size anchor (changed_copy disk.copy leaders config timestamp)
      (changed_under size anchor disk.copy leaders config timestamp under group
      (change_can disk.copy leaders config timestamp try.is_copy try.holdable room)
      (write_can disk.copy leaders config timestamp try.is_copy try.holdable try.leaders_held time
      (λ n wanted at none. capacities disk.copy.header.geometry.max_members config try.holdable n wanted at) room))

  -- those of the disks that stay
  abbrev after : List Seated → List Seated
  after disks = map (rewritten leaders config timestamp) (filter (stays_in config) disks)

  module _ (P Q : Seated → Type 0) (gives : (disk : Seated) → stays_in config disk ≡ true → P disk → Q (rewritten leaders config timestamp disk)) where
    pub staying_have : (disks : List Seated) → AllByRecursion P disks → AllByRecursion Q (after disks)
    staying_have [] all = tt
    staying_have (disk ∷ disks) all = by (stays_in config disk) refl (staying_have disks all.1)
      where
        by : (b : _) → stays_in config disk ≡ b → AllByRecursion Q (after disks) → AllByRecursion Q (map (rewritten leaders config timestamp) (cond b (disk ∷ filter (stays_in config) disks) (filter (stays_in config) disks)))
        by true stays rest = (gives disk stays all.0, rest)
        by false stays rest = rest
