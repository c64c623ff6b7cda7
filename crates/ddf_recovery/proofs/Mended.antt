-- The disks of an assembled group that lag, with the copies that recovery gives them.
use Rattle.std.proofs.Common.{◌≡◌, ℕ, ◌<◌, ◌^◌, Bool, true, false, cond, List, [], ◌∷◌, map, filter, fold, Option, Some, None, refl, sym, ap, subst, ◌∙◌, if◌then◌else◌}
use Rattle.std.specs.List.{AllByRecursion}
use Rattle.ddf_lemmas.proofs.Lists.{all_filter, all_weaken, all_both}
use Rattle.ddf_config.specs.declared.refusal.FullTable.{FullTable}
use Rattle.ddf_config.specs.declared.refusal.FullTable.TheVariants.{Records}
use Rattle.ddf_config.specs.declared.seat.Seat.{Seat}
use Rattle.ddf_config.specs.Configuration.{Configuration}
use Rattle.ddf_header.specs.declared.geometry.Geometry.{Geometry}
use Rattle.ddf_header.specs.declared.reading.Header.{Header}
use Rattle.ddf_copy.specs.declared.copy.DiskCopy.{DiskCopy}
use Rattle.ddf_copy.specs.Headers.{IsUnder, anchor_header}
use Rattle.ddf_copy.specs.Written.{CanBeCopy}
use Rattle.ddf_view.specs.Shows.{shows}
use Rattle.ddf_view.specs.View.{view_of}
use Rattle.ddf_rewrite.specs.Before.{Before}
use Rattle.ddf_rewrite.specs.Copies.{recovered_copy}
use Rattle.ddf_rewrite.specs.Hold.{AreHeld, CanBeRecovered, IsHoldable}
use Rattle.ddf_rewrite.specs.Room.{full_after_recovery}
use Rattle.ddf_rewrite.proofs.Lists.{all_mapped}
use Rattle.ddf_rewrite.proofs.Recovered.{recovered_shows}
use Rattle.ddf_rewrite.proofs.Roomy.{recovery_can}
use Rattle.ddf_rewrite.proofs.Under.{recovered_under}
use Rattle.ddf_rewrite.proofs.Writable.{recovered_copy_can}
use Rattle.ddf_seats.specs.declared.seated.Seated.{Seated}
use Rattle.ddf_update.specs.declared.prepared.Mode.TheVariants.{Change}
use Rattle.ddf_assembly.specs.Assembled.{IsAsGroup, IsAssembledGroup}
use Rattle.ddf_steps.specs.Committed.{HasPlacesOf}
use Rattle.ddf_steps.specs.Full.{lengths_differ, lesser}
use Rattle.ddf_seats.specs.Changing.{record_length, AreCopies, CanBeChanged, HaveLength, IsOfGroup, SlotsRise}
use Rattle.ddf_seats.specs.Group.{GroupValue}
use Rattle.ddf_recovery.specs.Mending.{CanMend}
use Rattle.ddf_recovery.specs.Recovery.{full_mended, full_of_mending, mended, mended_copy, mended_or_kept, mending_step}
use Rattle.ddf_seats.specs.Leading.{lags, leading, leading_views, some}
use Rattle.ddf_steps.specs.Ready.{ReadyStep}
use Rattle.ddf_seats.specs.Seated.{seated, seats_in, levelled}
use Rattle.ddf_steps.specs.Steps.{Step, in_order, mode_of}
use Rattle.ddf_steps.specs.Trying.{ArePrepared, Follows, HasPlace}
use Rattle.ddf_assembly.proofs.Leaders.{held_on, leading_fit, leading_many, led_on}
use Rattle.ddf_steps.proofs.OneLength.{lesser_none, one_length, own_length}
use Rattle.ddf_steps.proofs.Rewritten.{changed_own, closed_can, closed_under, closed_view, places_under}
use Rattle.ddf_assembly.proofs.SettledSeats.{same_group}
use Rattle.ddf_seats.proofs.KeptSlots.{kept_rise}

-- ---- what is asked

-- The leaders' configuration may be given to each disk, where the records of all have one length.
pub can_mend_all : (group : GroupValue) → IsAssembledGroup group → lengths_differ (seated group) ≡ false → AllByRecursion (CanMend (leading group) group.config) (seated group)
can_mend_all group is same = from (seated group) refl
  where
    each : some (seated group) ≡ true → (sectors : ℕ) → HaveLength sectors (seated group) → (disks : List Seated) → AreCopies disks → HaveLength sectors disks
        → AllByRecursion (λ (disk : Seated). HaveLength (record_length disk) (seated group) → AreHeld disk.copy.header.geometry (leading group)) disks
        → AllByRecursion (λ (disk : Seated). HaveLength (record_length disk) (seated group) → IsHoldable disk.copy.header.geometry.max_members group.config) disks
        → AllByRecursion (CanMend (leading group) group.config) disks
    each seats sectors all [] are lengths led held = tt
    each seats sectors all (disk ∷ disks) are lengths led held =
        let here = own_length sectors (seated group) disk all lengths.0 in (
          record { is_copy = are.0; leaders_held = led.0 here; disks_fit = leading_fit group is seats; many = leading_many group is; holdable = held.0 here },
          each seats sectors all disks are.1 lengths.1 led.1 held.1,
        )

    from : (disks : List Seated) → seated group ≡ disks → AllByRecursion (CanMend (leading group) group.config) (seated group)
    from [] e = subst (λ (disks : List Seated). AllByRecursion (CanMend (leading group) group.config) disks) (sym e) tt
    from (disk ∷ disks) e =
        let one = one_length disk disks (ap lengths_differ (sym e) ∙ same) in
        let all = subst (λ (some_disks : List Seated). HaveLength (record_length disk) some_disks) (sym e) one in
        each (ap (λ (some_disks : List Seated). some some_disks) e) (record_length disk) all (seated group) is.are_copies all (led_on group is) (held_on group is)

-- ---- room

-- Nothing is full: the records have one length, and no disk that lags has a full table.
pub record HasMendingRoom (group : GroupValue) : Type 0 where
  pub same : lengths_differ (seated group) ≡ false
  pub none : AllByRecursion (λ disk. full_mended (leading group) group.config disk ≡ None) (filter (lags group) (seated group))

none_least : {X : Type 0} (full : X → Option FullTable) (least : Option FullTable) (xs : List X) → fold (λ one x. lesser one (full x)) least xs ≡ None
    → (least ≡ None) × AllByRecursion (λ x. full x ≡ None) xs
none_least full least [] h = (h, tt)
none_least full least (x ∷ xs) h =
    let rest = none_least full (lesser least (full x)) xs h in
    let both = lesser_none least (full x) rest.0 in
    (both.0, (both.1, rest.1))

pub mending_room : (group : GroupValue) → full_of_mending group ≡ None → HasMendingRoom group
mending_room group h = by (lengths_differ (seated group)) refl h
  where
    by : (b : Bool) → lengths_differ (seated group) ≡ b
        → (if b then Some Records else fold (λ least disk. lesser least (full_mended (leading group) group.config disk)) None (filter (lags group) (seated group))) ≡ None → HasMendingRoom group
    by true e h = absurd cc
    by false e h = record { same = e; none = (none_least (full_mended (leading group) group.config) None (filter (lags group) (seated group)) h).1 }

-- Where the records have one length, the least table counts that is full on some disk that lags.
pub least_is : (group : GroupValue) → lengths_differ (seated group) ≡ false
    → full_of_mending group ≡ fold (λ least disk. lesser least (full_mended (leading group) group.config disk)) None (filter (lags group) (seated group))
least_is group same =
    ap (λ (b : Bool). if b then Some Records else fold (λ least disk. lesser least (full_mended (leading group) group.config disk)) None (filter (lags group) (seated group))) same

-- What those have that a test keeps, each has where it passes.
pub where_kept : {X : Type 0} (P : X → Type 0) (test : X → Bool) (xs : List X) → AllByRecursion P (filter test xs) → AllByRecursion (λ x. test x ≡ true → P x) xs
where_kept P test [] all = tt
where_kept {X = X} P test (x ∷ xs) all = by (where_kept P test xs) (test x) refl all
  where
    by : (AllByRecursion P (filter test xs) → AllByRecursion (λ y. test y ≡ true → P y) xs) → (b : Bool) → test x ≡ b → AllByRecursion P (cond b (x ∷ filter test xs) (filter test xs))
        → (test x ≡ true → P x) × AllByRecursion (λ y. test y ≡ true → P y) xs
    by later true e all = (λ passes. all.0, later all.1)
    by later false e all = (λ passes. absurd (let no : true ≡ false = sym passes ∙ e in cc), later all)

-- ---- the copies

module _ (leaders : Before) (config : Configuration) (timestamp : ℕ) (time : timestamp < 2 ^ 32) where
  -- A disk which may get the leaders' configuration, and has room for it.
  pub record IsMendable (disk : Seated) : Type 0 where
    pub can : CanMend leaders config disk
    pub room : full_mended leaders config disk ≡ None

  module _ (disk : Seated) (is : IsMendable disk) where
    abbrev old : DiskCopy
    old = disk.copy

    pub recovers : shows config (view_of old) ≡ false → CanBeRecovered old leaders config timestamp
    recovers not_shown =
        let none : full_after_recovery old leaders config ≡ None = sym (ap (λ (b : Bool). if b then None else full_after_recovery old leaders config) not_shown) ∙ is.room in
        recovery_can old leaders config timestamp is.can.is_copy is.can.holdable is.can.leaders_held is.can.disks_fit is.can.many time none

    -- What the copy has that stays, and the one that the leaders give, has the copy that the disk gets.
    by_shown : (P : DiskCopy → Type 0) → (shows config (view_of old) ≡ true → P old) → (shows config (view_of old) ≡ false → P (recovered_copy old leaders config timestamp)) → P (mended_copy leaders config timestamp old)
    by_shown P stays gets = by (shows config (view_of old)) refl
      where
        by : (b : Bool) → shows config (view_of old) ≡ b → P (if b then old else recovered_copy old leaders config timestamp)
        by true e = stays e
        by false e = gets e

    -- The copy can be written.
    pub mended_can : CanBeCopy (mended leaders config timestamp disk).copy
    mended_can =
        closed_can (mended_copy leaders config timestamp old)
        (by_shown CanBeCopy (λ e. is.can.is_copy) (λ e. recovered_copy_can old leaders config timestamp is.can.is_copy (recovers e)))

    recovered_group : (recovered_copy old leaders config timestamp).header.guid ≡ config.group
    unfolding recovered_copy
    recovered_group = refl

    recovered_geometry : (recovered_copy old leaders config timestamp).header.geometry ≡ old.header.geometry
    unfolding recovered_copy
    recovered_geometry = refl

    -- It is of the group.
    pub mended_group : (mended leaders config timestamp disk).copy.header.guid ≡ config.group
    mended_group = by_shown (λ (copy : DiskCopy). copy.header.guid ≡ config.group) (λ e. same_group config old e) (λ e. recovered_group)

    -- Its sections are as large as before.
    pub mended_most : (mended leaders config timestamp disk).copy.header.geometry ≡ old.header.geometry
    mended_most = by_shown (λ (copy : DiskCopy). copy.header.geometry ≡ old.header.geometry) (λ e. refl) (λ e. recovered_geometry)

    -- It stands where the one before it does, under the same anchor where that one is of the group.
    pub mended_under : mode_of config disk ≡ Change → (size : ℕ) (anchor : Header) → IsUnder size anchor old → IsUnder size anchor (mended leaders config timestamp disk).copy
    mended_under changes size anchor under =
        closed_under size anchor (mended_copy leaders config timestamp old)
        (by_shown (IsUnder size anchor) (λ e. under) (λ e. recovered_under size anchor old leaders config timestamp under (sym (changed_own config disk changes)) (recovers e)))

    recovered_places : HasPlacesOf old (recovered_copy old leaders config timestamp)
    unfolding recovered_copy
    recovered_places = record { same_primary = refl; same_secondary = refl; same_sections = refl }

    pub mended_places : HasPlacesOf old (mended leaders config timestamp disk).copy
    mended_places =
        let places = by_shown (HasPlacesOf old) (λ e. record { same_primary = refl; same_secondary = refl; same_sections = refl }) (λ e. recovered_places) in
        record { same_primary = places.same_primary; same_secondary = places.same_secondary; same_sections = places.same_sections }

-- ---- the step

module _ (timestamp : ℕ) (time : timestamp < 2 ^ 32) (group : GroupValue) (is : IsAssembledGroup group) (free : full_of_mending group ≡ None) where
  abbrev leaders : Before
  leaders = leading group

  abbrev kept : List Seated
  kept = filter (lags group) (seated group)

  abbrev made : List Seated
  made = map (mended leaders group.config timestamp) kept

  abbrev Mendable : Seated → Type 0
  Mendable disk = IsMendable leaders group.config timestamp time disk

  all_mendable : (disks : List Seated) → AllByRecursion (CanMend leaders group.config) disks
      → AllByRecursion (λ disk. full_mended leaders group.config disk ≡ None) disks → AllByRecursion Mendable disks
  all_mendable [] can room = tt
  all_mendable (disk ∷ disks) can room = (record { can = can.0; room = room.0 }, all_mendable disks can.1 room.1)

  mendable : AllByRecursion Mendable kept
  mendable =
      let room = mending_room group free in
      all_mendable kept
      (all_filter (CanMend leaders group.config) (lags group) (seated group) (can_mend_all group is room.same)) room.none

  made_have : (P : Seated → Type 0) → ((disk : Seated) → Mendable disk → P (mended leaders group.config timestamp disk)) → AllByRecursion P made
  made_have P gives =
      all_mapped P (mended leaders group.config timestamp) kept (all_weaken Mendable (λ disk. P (mended leaders group.config timestamp disk)) gives kept mendable)

  made_both : (P Q : Seated → Type 0) → ((disk : Seated) → Mendable disk → P disk → Q (mended leaders group.config timestamp disk)) → AllByRecursion P (seated group) → AllByRecursion Q made
  made_both P Q gives all =
      all_mapped Q (mended leaders group.config timestamp) kept
      (all_weaken (λ disk. Mendable disk × P disk) (λ disk. Q (mended leaders group.config timestamp disk)) (λ disk both. gives disk both.0 both.1) kept
      (all_both Mendable P kept mendable (all_filter P (lags group) (seated group) all)))

  -- The copies that the disks get can be written.
  pub made_copies : AreCopies made
  made_copies = made_have (λ disk. CanBeCopy disk.copy) (λ disk can. mended_can leaders group.config timestamp time disk can)

  mended_of : (disk : Seated) → Mendable disk → IsOfGroup group.config (mended leaders group.config timestamp disk)
  mended_of disk can = record { is_copy = mended_can leaders group.config timestamp time disk can; same_group = mended_group leaders group.config timestamp time disk can }

  mended_holds : (disk : Seated) → Mendable disk → IsHoldable (mended leaders group.config timestamp disk).copy.header.geometry.max_members group.config
  mended_holds disk can =
      subst (λ (geometry : Geometry). IsHoldable geometry.max_members group.config) (sym (mended_most leaders group.config timestamp time disk can)) can.can.holdable

  recovered_shown : (copy : DiskCopy) → CanBeRecovered copy leaders group.config timestamp → shows group.config (view_of (recovered_copy copy leaders group.config timestamp)) ≡ true
  recovered_shown copy can =
      subst (λ (config : Configuration). shows config (view_of (recovered_copy copy leaders config timestamp)) ≡ true) is.is_read
      (recovered_shows copy group.config.group group.config.sequence (leading_views group) timestamp
      (subst (λ (config : Configuration). CanBeRecovered copy leaders config timestamp) (sym is.is_read) can))

  -- The copy that a disk gets shows the configuration.
  mended_shows : (disk : Seated) → Mendable disk → shows group.config (view_of (mended leaders group.config timestamp disk).copy) ≡ true
  mended_shows disk can = ap (shows group.config) (closed_view (mended_copy leaders group.config timestamp disk.copy)) ∙ by (shows group.config (view_of disk.copy)) refl
    where
      by : (b : Bool) → shows group.config (view_of disk.copy) ≡ b → shows group.config (view_of (if b then disk.copy else recovered_copy disk.copy leaders group.config timestamp)) ≡ true
      by true e = e
      by false e = recovered_shown disk.copy (recovers leaders group.config timestamp time disk can e)

  seats_kept : (disks : List Seated) → seats_in (map (mended leaders group.config timestamp) disks) ≡ seats_in disks
  seats_kept [] = refl
  seats_kept (disk ∷ disks) = ap (λ (others : List Seat). disk.seat ∷ others) (seats_kept disks)

  -- The step that was made of it follows.
  pub mending_follows : (one : ReadyStep) → one.step ≡ mending_step timestamp group → ArePrepared (in_order one.step.disks) one.updates → Follows (seated group) one
  mending_follows one same prepared =
      subst (λ (step : Step). ArePrepared (in_order step.disks) one.updates → Follows (seated group) (record { step = step; updates = one.updates })) (sym same)
      (λ updates. record {
        can_be_changed = record {
          of_group = made_have (IsOfGroup group.config) mended_of;
          can_hold = made_have (λ disk. HaveLength (record_length disk) made → IsHoldable disk.copy.header.geometry.max_members group.config) (λ disk can same_length. mended_holds disk can);
        };
        show = made_have (λ disk. shows group.config (view_of disk.copy) ≡ true) mended_shows;
        are_prepared = updates;
        slots_rise = λ rise. subst SlotsRise (sym (seats_kept kept)) (kept_rise (lags group) (seated group) rise);
        have_places = λ sizes places. made_both (HasPlace sizes) (HasPlace sizes)
            (λ disk can place. record {
              there = place.there;
              anchor = anchor_header (mended leaders group.config timestamp disk).copy;
              under = places_under _ place.anchor disk.copy (mended leaders group.config timestamp disk).copy place.under (mended_can leaders group.config timestamp time disk can) (mended_places leaders group.config timestamp time disk can);
            }) places;
        stand_on = λ slot size anchor stand. made_both (λ disk. disk.seat.slot ≡ slot → IsUnder size anchor disk.copy) (λ disk. disk.seat.slot ≡ slot → disk.mode ≡ Change → IsUnder size anchor disk.copy)
            (λ disk can stands here changes. mended_under leaders group.config timestamp time disk can changes size anchor (stands here)) stand;
      })
      prepared

  -- ---- the disks behind it

  abbrev or_kept : Seated → Seated
  or_kept disk = mended_or_kept timestamp group disk

  by_lagging : (P : Seated → Type 0) (disk : Seated) → (lags group disk ≡ false → P disk) → ((lags group disk ≡ true) → P (levelled (mended leaders group.config timestamp disk))) → P (or_kept disk)
  by_lagging P disk stays gets = by (lags group disk) refl
    where
      by : (b : Bool) → lags group disk ≡ b → P (if b then levelled (mended leaders group.config timestamp disk) else disk)
      by true e = gets e
      by false e = stays e

  each_mendable : AllByRecursion (λ disk. lags group disk ≡ true → Mendable disk) (seated group)
  each_mendable = where_kept Mendable (lags group) (seated group) mendable

  all_or_kept : (P : Seated → Type 0) → AllByRecursion (λ disk. lags group disk ≡ false → P disk) (seated group) → ((disk : Seated) → Mendable disk → P (levelled (mended leaders group.config timestamp disk))) → AllByRecursion P (map or_kept (seated group))
  all_or_kept P all gives =
      all_mapped P or_kept (seated group)
      (all_weaken (λ disk. (lags group disk ≡ false → P disk) × (lags group disk ≡ true → Mendable disk)) (λ disk. P (or_kept disk)) (λ disk both. by_lagging P disk both.0 (λ h. gives disk (both.1 h))) (seated group)
      (all_both (λ disk. lags group disk ≡ false → P disk) (λ disk. lags group disk ≡ true → Mendable disk) (seated group) all each_mendable))

  -- What doesn't lag is of the group.
  kept_own : AllByRecursion (λ disk. lags group disk ≡ false → IsOfGroup group.config disk) (seated group)
  kept_own =
      all_weaken (λ disk. CanBeCopy disk.copy × (lags group disk ≡ false → IsAsGroup group disk)) (λ disk. lags group disk ≡ false → IsOfGroup group.config disk)
      (λ disk both stays. record { is_copy = both.0; same_group = same_group group.config disk.copy (both.1 stays).is_shown }) (seated group)
      (all_both (λ disk. CanBeCopy disk.copy) (λ disk. lags group disk ≡ false → IsAsGroup group disk) (seated group) is.are_copies is.unless_lags)

  -- Changes may be tried on the disks behind it.
  pub mended_changed : CanBeChanged group.config (map or_kept (seated group))
  mended_changed =
      let room = mending_room group free in
      let can = can_mend_all group is room.same in
      record {
        of_group = all_or_kept (IsOfGroup group.config) kept_own (λ disk able. record { is_copy = (mended_of disk able).is_copy; same_group = (mended_of disk able).same_group });
        can_hold = all_or_kept (λ disk. HaveLength (record_length disk) (map or_kept (seated group)) → IsHoldable disk.copy.header.geometry.max_members group.config)
            (all_weaken (CanMend leaders group.config) (λ disk. lags group disk ≡ false → HaveLength (record_length disk) (map or_kept (seated group)) → IsHoldable disk.copy.header.geometry.max_members group.config) (λ disk one stays same. one.holdable) (seated group) can)
            (λ disk able same. mended_holds disk able);
      }
