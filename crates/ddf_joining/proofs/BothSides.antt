-- What holds of the disks of two groups together.
use Rattle.std.proofs.Common.{◌≡◌, ℕ, ◌+◌, ◌<◌, ◌^◌, Bool, true, false, not, cond, nat_lt, List, [], ◌∷◌, length, map, filter, Some, None, refl, sym, subst, arith}
use Rattle.std.proofs.lemmas.Bool.{ltb-false}
use Rattle.std.specs.List.{AllByRecursion}
use Rattle.ddf_lemmas.proofs.Lists.{all_append, all_filter, all_weaken, first_all, second_all}
use Rattle.ddf_header.specs.declared.geometry.Geometry.{Geometry}
use Rattle.ddf_header.specs.Geometry.{IsSound}
use Rattle.ddf_config_records.specs.Elements.{CanBeElement}
use Rattle.ddf_config.specs.declared.refusal.FullTable.TheVariants.{Disks, Arrays}
use Rattle.ddf_config.specs.Configuration.{Configuration}
use Rattle.ddf_copy.specs.Written.{CanBeCopy}
use Rattle.ddf_import.specs.Clash.{join_cause}
use Rattle.ddf_view.specs.View.{HeldRecord}
use Rattle.ddf_rewrite.specs.Before.{Before, before}
use Rattle.ddf_rewrite.specs.Hold.{AreHeld, IsHoldable}
use Rattle.ddf_rewrite.proofs.Leaders.{same_members}
use Rattle.ddf_rewrite.proofs.Premises.{is_sound}
use Rattle.ddf_seats.specs.declared.seated.Seated.{Seated}
use Rattle.ddf_seats.specs.Changing.{record_length, AreCopies, CanBeHeldOn, CanBeLed, HaveLength}
use Rattle.ddf_joining.specs.Joining.{both_disks, by_itself, full_of_entries, is_behind, is_of_listed, most_entries, placed, told}
use Rattle.ddf_seats.specs.Leading.{some}
use Rattle.ddf_seats.specs.Seated.{views_in}
use Rattle.ddf_joining.specs.Telling.{IsSide, SideValue, entries_full, sides_disks, sides_joined, sides_told}
use Rattle.ddf_joining.proofs.JoinHoldable.{joined_holdable}
use Rattle.ddf_seats.proofs.RecordsHeld.{held_under}

-- ---- what all have

all_parted : {X : Type 0} (P : X → Type 0) (p : X → Bool) (xs : List X) → AllByRecursion P (filter (λ x. not (p x)) xs) → AllByRecursion P (filter p xs) → AllByRecursion P xs
all_parted P p [] none some_have = tt
all_parted {X = X} P p (x ∷ xs) none some_have = by (p x) (all_parted P p xs) none some_have
  where
    by : (b : Bool) → (AllByRecursion P (filter (λ y. not (p y)) xs) → AllByRecursion P (filter p xs) → AllByRecursion P xs)
        → AllByRecursion P (cond (not b) (x ∷ filter (λ y. not (p y)) xs) (filter (λ y. not (p y)) xs)) → AllByRecursion P (cond b (x ∷ filter p xs) (filter p xs)) → P x × AllByRecursion P xs
    by true rest none some_have = (some_have.0, rest none some_have.1)
    by false rest none some_have = (none.0, rest none.1 some_have)

-- What a disk has and all others have, all have with it placed among them.
pub all_placed : (P : Seated → Type 0) (disks : List Seated) (disk : Seated) → AllByRecursion P disks → P disk → AllByRecursion P (placed disks disk)
all_placed P disks disk all one =
    all_append P (filter (λ other. not (is_behind disk other)) disks) (disk ∷ filter (is_behind disk) disks) (all_filter P (λ other. not (is_behind disk other)) disks all) (one, all_filter P (is_behind disk) disks all)

pub placed_all : (P : Seated → Type 0) (disks : List Seated) (disk : Seated) → AllByRecursion P (placed disks disk) → AllByRecursion P disks × P disk
placed_all P disks disk all =
    let behind = second_all P (filter (λ other. not (is_behind disk other)) disks) (disk ∷ filter (is_behind disk) disks) all in
    (all_parted P (is_behind disk) disks (first_all P (filter (λ other. not (is_behind disk other)) disks) (disk ∷ filter (is_behind disk) disks) all) behind.1, behind.0)

-- What the disks of each group have, those of both have.
pub both_have : (P : Seated → Type 0) (native joining : List Seated) → AllByRecursion P native → AllByRecursion P joining → AllByRecursion P (both_disks native joining)
both_have P native [] own its = own
both_have P native (disk ∷ joining) own its = both_have P (placed native disk) joining (all_placed P native disk own its.0) its.1

pub have_both : (P : Seated → Type 0) (native joining : List Seated) → AllByRecursion P (both_disks native joining) → AllByRecursion P native × AllByRecursion P joining
have_both P native [] all = (all, tt)
have_both P native (disk ∷ joining) all =
    let rest = have_both P (placed native disk) joining all in
    let own = placed_all P native disk rest.0 in
    (own.0, (own.1, rest.1))

-- ---- what is recorded

-- What is told of records has what they have.
told_held : (geometry : Geometry) (config : Configuration) (leaders : Before) → AreHeld geometry leaders → AreHeld geometry (told config leaders)
told_held geometry config leaders all = mapped (filter (is_of_listed config) leaders.elements) (all_filter (λ (held : HeldRecord). CanBeElement geometry held.element) (is_of_listed config) leaders.elements all)
  where
    mapped : (records : List HeldRecord) → AllByRecursion (λ (held : HeldRecord). CanBeElement geometry held.element) records → AllByRecursion (λ (held : HeldRecord). CanBeElement geometry held.element) (map by_itself records)
    mapped [] all = tt
    mapped (held ∷ records) all = (all.0, mapped records all.1)

module _ (native other : SideValue) (own : IsSide native) (its : IsSide other) where
  abbrev both : List Seated
  both = sides_disks native other

  pub both_copies : AreCopies both
  both_copies = both_have (λ disk. CanBeCopy disk.copy) native.disks other.disks own.are_copies its.are_copies

  lengths : (sectors : ℕ) → HaveLength sectors both → HaveLength sectors native.disks × HaveLength sectors other.disks
  lengths sectors same = have_both (λ disk. record_length disk ≡ sectors) native.disks other.disks same

  side_led : (geometry : Geometry) → IsSound geometry → (side : SideValue) → IsSide side → HaveLength geometry.record_length side.disks → AreHeld geometry (before (views_in side.leaders))
  side_led geometry sound side is same = held_under geometry side.leaders sound is.are_leaders (is.same_length geometry.record_length same)

  pub both_led : CanBeLed (sides_told native other) both
  both_led =
      all_weaken (λ (disk : Seated). CanBeCopy disk.copy) (λ (disk : Seated). HaveLength (record_length disk) both → AreHeld disk.copy.header.geometry (sides_told native other))
      (λ disk is same.
      let geometry = disk.copy.header.geometry in
      let sound = is_sound disk.copy is in
      let each = lengths (record_length disk) same in
      all_append (λ (held : HeldRecord). CanBeElement geometry held.element) (told native.config (before (views_in native.leaders))).elements (told other.config (before (views_in other.leaders))).elements
      (told_held geometry native.config (before (views_in native.leaders)) (side_led geometry sound native own each.0))
      (told_held geometry other.config (before (views_in other.leaders)) (side_led geometry sound other its each.1)))
      both both_copies

  -- A geometry with records of their length can hold the configuration of a side.
  side_holds : (geometry : Geometry) → IsSound geometry → (side : SideValue) → IsSide side → HaveLength geometry.record_length side.disks → IsHoldable geometry.max_members side.config
  side_holds geometry sound side is same = by side.disks is.some_disk is.are_copies is.can_hold same
    where
      by : (disks : List Seated) → some disks ≡ true → AreCopies disks → CanBeHeldOn side.config disks → HaveLength geometry.record_length disks → IsHoldable geometry.max_members side.config
      by [] there are held same = absurd cc
      by (disk ∷ disks) there are held same =
          let one = disk.copy.header.geometry in
          let here : HaveLength (record_length disk) (disk ∷ disks) = subst (λ (n : ℕ). HaveLength n (disk ∷ disks)) (sym same.0) same in
          let members : one.max_members ≡ geometry.max_members = same_members one geometry (is_sound disk.copy are.0) sound same.0 in
          subst (λ (most : ℕ). IsHoldable most side.config) members (held.0 here)

  pub both_held : join_cause native.config other.config ≡ None → length native.config.arrays + length other.config.arrays < 2 ^ 16 → CanBeHeldOn (sides_joined native other) both
  both_held free few =
      all_weaken (λ (disk : Seated). CanBeCopy disk.copy) (λ (disk : Seated). HaveLength (record_length disk) both → IsHoldable disk.copy.header.geometry.max_members (sides_joined native other))
      (λ disk is same.
      let geometry = disk.copy.header.geometry in
      let sound = is_sound disk.copy is in
      let each = lengths (record_length disk) same in
      joined_holdable geometry.max_members native.config other.config (side_holds geometry sound native own each.0) (side_holds geometry sound other its each.1) free few)
      both both_copies

-- ---- how many there are

few_by : (disks arrays : ℕ) → full_of_entries disks arrays ≡ None → arrays < 2 ^ 16
few_by disks arrays none = by (nat_lt most_entries disks) (nat_lt most_entries arrays) refl none
  where
    by : (a b : Bool) → nat_lt most_entries arrays ≡ b → cond a (Some Disks) (cond b (Some Arrays) None) ≡ None → arrays < 2 ^ 16
    by true b e h = absurd cc
    by false true e h = absurd cc
    by false false e h = let most = ltb-false most_entries arrays e in omega (arith, most)

pub few_arrays : (native other : SideValue) → entries_full native other ≡ None → length native.config.arrays + length other.config.arrays < 2 ^ 16
few_arrays native other none = few_by (length (before (views_in native.leaders)).disks + length (before (views_in other.leaders)).disks) (length native.config.arrays + length other.config.arrays) none
