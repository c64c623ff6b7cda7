-- An array of the one configuration that a group has: what becomes of its blocks keeps the data of the group.
use Rattle.std.proofs.Common.{◌≡◌, ◌∙◌, inl, ℕ, ◌<◌, ◌^◌, Bool, true, false, List, Option, Some, None, Ok, refl, sym, ap, subst}
use Rattle.std.specs.Prelude.{option_map, if◌then◌else◌}
use Rattle.std.specs.Map.{lookup}
use Rattle.ddf_lemmas.proofs.Options.{same_some}
use Rattle.ddf_lemmas.proofs.Tests.{true_false}
use Rattle.ddf_bay.specs.Sectors.{Image}
use Rattle.ddf_config.specs.declared.array.Array.{Array}
use Rattle.ddf_config.specs.declared.seat.Seat.{Seat}
use Rattle.ddf_config.specs.Configuration.{Configuration}
use Rattle.ddf_config.specs.Members.{same_guid}
use Rattle.ddf_config.proofs.Common.{same_self}
use Rattle.ddf_plan.specs.declared.change.Change.TheVariants.{Unmark}
use Rattle.ddf_array.specs.Apart.{IsApart}
use Rattle.ddf_array.specs.Redundant.{IsRedundant}
use Rattle.ddf_array.specs.Sound.{AreSectors}
use Rattle.ddf_array.specs.Values.{given}
use Rattle.ddf_array.specs.Viewing.{view_of}
use Rattle.ddf_array.specs.Volume.{IsVolume, Volume}
use Rattle.ddf_array.specs.Within.{is_within}
use Rattle.ddf_array.proofs.Apart.{view_apart}
use Rattle.ddf_cells.specs.Degraded.{is_degraded}
use Rattle.ddf_data_array.specs.Allowed.{Allowed, May, any_bytes, once_consistent}
use Rattle.ddf_data_array.specs.Changing.{IsWritable, with_mark}
use Rattle.ddf_data_array.specs.Kept.{IsKeptData}
use Rattle.ddf_data_array.specs.Rows.{AreRowsKept}
use Rattle.ddf_data_array.proofs.Consistent.{kept_consistent, whole_consistent}
use Rattle.ddf_data_array.proofs.Same.{kept_same}
use Rattle.ddf_data_array.proofs.Written.{kept_any}
use Rattle.ddf_data_group.specs.Clear.{ChangesItsCells}
use Rattle.ddf_data_group.specs.Clearing.{MayBeCleared}
use Rattle.ddf_data_group.specs.Grouped.{MayChange, Promises}
use Rattle.ddf_data_group.specs.Kept.{KeepsArray}
use Rattle.ddf_data_group.specs.Over.{IsOver, absent_in}
use Rattle.ddf_data_group.proofs.Clearly.{IsUsed, others_same, used}
use Rattle.ddf_data_group.proofs.Entries.{guid_is}
use Rattle.ddf_data_group.proofs.Readied.{redundant_may}
use Rattle.ddf_history.specs.Groups.{groups}
use Rattle.ddf_history.specs.Issued.{IsSince, Past}
use Rattle.ddf_data_history.specs.Promised.{IsAlone, KeepsData, OthersStay, seats_in, with_promise}
use Rattle.ddf_data_history.proofs.Steps.{by_data, seats_are}
use Rattle.ddf_data_history.proofs.Viewed.{are_members, over_unique}
use Rattle.ddf_data_calls.specs.Promised.{counted, with_allowed}
use Rattle.ddf_data_calls.proofs.Begun.{fewer_keep}

-- ---- promises that say less

-- a block may have what it might, and perhaps more
module _ (next : Allowed → Allowed) (weaker : (allowed : Allowed) (block : ℕ) (bytes : List ℕ) → May (allowed block) bytes → May (next allowed block) bytes) where
  pub weaker_kept : (is_absent : ℕ → ℕ → Bool) (v : Volume) (image : Image) (allowed : Allowed) → IsKeptData is_absent v image allowed → IsKeptData is_absent v image (next allowed)
  weaker_kept is_absent v image allowed kept =
      record { sound = kept.sound; reads = λ block k source at. weaker allowed block (given image source) (kept.reads block k source at); rows = kept.rows }

  pub weaker_promised : (group : List ℕ) (past : Past (groups group)) (floor : ℕ → ℕ) (image : Image) (promises : Promises) (guid : List ℕ)
      → KeepsData group past floor image promises → KeepsData group past floor image (with_allowed next guid promises)
  weaker_promised group past floor image promises guid kept number config since other allowed array promised found v over =
      by (same_guid guid other) refl promised
    where
      mapped : (o : Option Allowed) → option_map next o ≡ Some allowed → (was : Allowed) × (o ≡ Some was) × (next was ≡ allowed)
      mapped None is = absurd cc
      mapped (Some was) is = let same : next was ≡ allowed = cc in (was, refl, same)

      by : (b : Bool) → same_guid guid other ≡ b → ◌≡◌ {A = Option Allowed} (if b then option_map next (promises guid) else promises other) (Some allowed)
          → IsKeptData (absent_in config.members (seats_in group past floor config) array.elements) v image allowed
      by true same is =
          let was = mapped (promises guid) is in
          let own : promises other ≡ Some was.0 = ap promises (sym (guid_is guid other same)) ∙ was.1 in
          subst (IsKeptData (absent_in config.members (seats_in group past floor config) array.elements) v image) was.2
          (weaker_kept (absent_in config.members (seats_in group past floor config) array.elements) v image was.0 (kept number config since other was.0 array own found v over))
      by false differs is = kept number config since other allowed array is found v over

-- ---- the array

module _ (group : List ℕ) (floor : ℕ → ℕ) (small : (slot : ℕ) → floor slot < 2 ^ 64) (past : Past (groups group)) (config : Configuration) (alone : IsAlone group past config) (guid : List ℕ) (v : Volume)
    (view : view_of config guid (seats_in group past floor config) ≡ Ok v) (known : IsVolume v) where
  abbrev seats : List Seat
  seats = seats_in group past floor config

  abbrev pub use_of : IsUsed config guid (seats_in group past floor config) v
  use_of = used config guid (seats_in group past floor config) v view known

  pub apart : IsApart v
  apart = view_apart config guid (seats_in group past floor config) v view (are_members group floor past config)

  abbrev pub absent : ℕ → ℕ → Bool
  absent = absent_in config.members (seats_in group past floor config) (use_of).array.elements

  -- What is promised of it, it keeps.
  pub own_kept : (image : Image) (promises : Promises) → KeepsData group past floor image promises → (number : ℕ) → IsSince past.changes number config
      → (allowed : Allowed) → promises guid ≡ Some allowed → IsKeptData absent v image allowed
  own_kept image promises kept number since allowed promised = kept number config since guid allowed (use_of).array promised (use_of).is_found v (use_of).over

  module _ (before image : Image) (promises : Promises) (kept : KeepsData group past floor before promises) (are : AreSectors image) (changes : ChangesItsCells v before image) where
    others : OthersStay group config (seats_in group past floor config) promises guid before image
    others other array w differs found over =
        others_same config guid (seats_in group past floor config) v use_of (seats_are group floor small past config) (are_members group floor past config) before image changes other array w differs found over

    own : (new : Allowed) → IsKeptData absent v image new → (array : Array) → lookup (same_guid guid) config.arrays ≡ Some array → (number : ℕ) → IsSince past.changes number config
        → KeepsArray config.members (seats_in group past floor config) array image new
    own new is array found number since w over =
        let one = same_some (lookup (same_guid guid) config.arrays) (use_of).array array (use_of).is_found found in
        let here : IsOver (seats_in group past floor config) array v = subst (λ (a : Array). IsOver (seats_in group past floor config) a v) one (use_of).over in
        subst (λ (a : Array). IsKeptData (absent_in config.members (seats_in group past floor config) a.elements) w image new) one
        (subst (λ (x : Volume). IsKeptData absent x image new) (over_unique (seats_in group past floor config) array v w here over) is)

    -- It gets a promise that it keeps,
    pub gets : (new : Allowed) → IsKeptData absent v image new → KeepsData group past floor image (with_promise promises guid (Some new))
    gets new is = by_data group floor small past before promises kept image are config alone guid new (own new is) others

    -- or its promise becomes another one.
    pub becomes : IsWritable v → (next : Allowed → Allowed) → ((allowed : Allowed) → promises guid ≡ Some allowed → IsKeptData absent v image (next allowed))
        → KeepsData group past floor image (with_allowed next guid promises)
    becomes writable next is = by (promises guid) refl
      where
        less_by : (b : Bool) (other : List ℕ) (allowed : Allowed) → ◌≡◌ {A = Option Allowed} (if b then None else promises other) (Some allowed)
            → ◌≡◌ {A = Option Allowed} (if b then Some any_bytes else promises other) (Some allowed)
        less_by true other allowed e = absurd cc
        less_by false other allowed e = e

        by : (o : Option Allowed) → promises guid ≡ o → KeepsData group past floor image (with_promise promises guid (option_map next o))
        by (Some allowed) e = gets (next allowed) (is allowed e)
        by None e =
            fewer_keep group past floor image (with_promise promises guid (Some any_bytes)) (with_promise promises guid None) (λ other allowed is. less_by (same_guid guid other) other allowed is)
            (gets any_bytes (kept_any absent v image are writable))

    -- or keeps what is promised of it.
    pub stays : ((allowed : Allowed) → promises guid ≡ Some allowed → IsKeptData absent v image allowed) → KeepsData group past floor image promises
    stays is number other_config since other allowed array promised found =
        by (alone number other_config since) (same_guid guid other) refl
      where
        kept_at : (b : Bool) → same_guid guid other ≡ b → IsSince past.changes number config → lookup (same_guid other) config.arrays ≡ Some array
            → KeepsArray config.members (seats_in group past floor config) array image allowed
        kept_at true same here there =
            let one = guid_is guid other same in
            own allowed (is allowed (ap promises one ∙ promised)) array (ap (λ (g : List ℕ). lookup (same_guid g) config.arrays) one ∙ there) number here
        kept_at false differs here there = λ w over.
            kept_same (absent_in config.members (seats_in group past floor config) array.elements) w before image allowed over.is_volume are
            (others other array w (λ same. true_false (same_guid guid other) (ap (same_guid guid) same ∙ same_self guid) differs) there over) (kept number config here other allowed array promised there w over)

        by : other_config ≡ config → (b : Bool) → same_guid guid other ≡ b → KeepsArray other_config.members (seats_in group past floor other_config) array image allowed
        by same b e =
            subst (λ (c : Configuration). KeepsArray c.members (seats_in group past floor c) array image allowed) (sym same)
            (kept_at b e (subst (IsSince past.changes number) same since) (subst (λ (c : Configuration). lookup (same_guid other) c.arrays ≡ Some array) same found))

  -- Where it is redundant it may be unmarked, with rows that hold what they should where any count as rebuilt,
  pub may_unmark : (image : Image) (promises : Promises) → ((is_absent : ℕ → ℕ → Bool) → AreRowsKept is_absent (with_mark false v) image) → KeepsData group past floor image promises → (number : ℕ) → IsSince past.changes number config → is_within v ≡ true → is_degraded v ≡ false
      → ((allowed : Allowed) → promises guid ≡ Some allowed → IsRedundant v image) → (init : ℕ) → MayChange config (seats_in group past floor config) image promises (Unmark guid init)
  may_unmark image promises rows kept number since within whole is init named allowed array promised found same w over =
      let found_own : lookup (same_guid guid) config.arrays ≡ Some array = ap (λ (name : List ℕ). lookup (same_guid name) config.arrays) (sym same) ∙ found in
      let one = same_some (lookup (same_guid guid) config.arrays) (use_of).array array (use_of).is_found found_own in
      let here : IsOver (seats_in group past floor config) array v = subst (λ (a : Array). IsOver (seats_in group past floor config) a v) one (use_of).over in
      let lacks = absent_in config.members (seats_in group past floor config) array.elements in
      subst (λ (x : Volume). MayBeCleared lacks x image allowed) (over_unique (seats_in group past floor config) array v w here over)
      (redundant_may lacks v image allowed known within whole (is allowed (ap promises (sym same) ∙ promised)) (rows lacks) (kept number config since named allowed array promised found v here))

  -- and count with what it holds.
  pub counts : (image : Image) (promises : Promises) → ((is_absent : ℕ → ℕ → Bool) → AreRowsKept is_absent v image) → KeepsData group past floor image promises → AreSectors image → is_degraded v ≡ false → IsRedundant v image
      → KeepsData group past floor image (counted guid v image promises)
  counts image promises rows kept are whole is =
      gets image image promises kept are (λ slot lba. inl refl) (once_consistent v image) (kept_consistent absent v.marked v image are (whole_consistent absent v image whole is) (rows absent))
