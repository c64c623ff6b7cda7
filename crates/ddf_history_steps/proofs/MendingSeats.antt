-- The copies that a recovery writes to the seats of what a call assembled, with its sequence number as it is.
use Rattle.std.proofs.Common.{◌≡◌, ◌≢◌, ◌⊎◌, ℕ, ◌≤◌, Bool, true, false, if◌then◌else◌, List, [], ◌∷◌, map, None, Some, slice_get, nat_eq, eqb, refl, sym, ap, ◌∙◌, inl, inr, ⊎_elim, arith, subst}
use Rattle.std.proofs.lemmas.Bool.{and_from, and_parts, eqb-true, false≢true}
use Rattle.std.specs.List.{AllByRecursion, IsDistinct}
use Rattle.std.specs.Str.{bytes_eq}
use Rattle.std.specs.Cmp.Lexicographic.{pointwise}
use Rattle.std.proofs.lemmas.Map.Keys.{any_passes_from_place}
use Rattle.ddf_lemmas.proofs.Lists.{bytes_same, in_map, mapped_at}
use Rattle.ddf_tables.specs.declared.disks.DiskEntry.{DiskEntry}
use Rattle.ddf_tables.specs.declared.arrays.ArrayEntry.{ArrayEntry}
use Rattle.ddf_config.specs.Configuration.{Configuration}
use Rattle.ddf_config.specs.declared.member.Member.{Member}
use Rattle.ddf_config.specs.declared.array.Array.{Array}
use Rattle.ddf_copy.specs.declared.copy.DiskCopy.{DiskCopy}
use Rattle.ddf_copy.specs.Written.{CanBeCopy}
use Rattle.ddf_view.specs.View.{View, view_of, is_missing}
use Rattle.ddf_view.specs.Reading.{are_noted, read}
use Rattle.ddf_view.specs.Readable.{HasNotes}
use Rattle.ddf_view.specs.Shows.{gives_array, gives_member, same_flag, shows, shows_fully}
use Rattle.ddf_view.specs.Differ.{difference}
use Rattle.ddf_view.proofs.Agreement.{shown_from, fully_from}
use Rattle.ddf_view.proofs.Names.{names_differ}
use Rattle.ddf_view.proofs.Tests.{and_five, and_four, same_bytes}
use Rattle.ddf_rewrite.specs.Before.{Before, before}
use Rattle.ddf_rewrite.specs.Copies.{recovered_copy}
use Rattle.ddf_rewrite.specs.Hold.{CanBeRecovered, DoAgree}
use Rattle.ddf_rewrite.proofs.Agreed.{recovered_agree}
use Rattle.ddf_rewrite.proofs.AgreedLeaders.{copies_agreed}
use Rattle.ddf_rewrite.proofs.Recovered.{recovered_fully, recovered_has_notes, recovered_shows}
use Rattle.ddf_rewrite.proofs.Writable.{recovered_copy_can}
use Rattle.ddf_history.specs.Reading.{Scene, Shown, IsCopyOf}
use Rattle.ddf_history.specs.Reading.Shown.{Nothing}
use Rattle.ddf_history.specs.Groups.{Shows, ShowsFully, disk_of, groups, has_current}
use Rattle.ddf_history.specs.Issued.{Past, IsSince, take_off}
use Rattle.ddf_history.specs.Leaders.{seen, leading_copies}
use Rattle.ddf_history.specs.Promise.{IsKept, IsStanding}
use Rattle.ddf_history.specs.Answer.{IsClaimed}
use Rattle.ddf_history.specs.Steps.{MayWrite}
use Rattle.ddf_history.specs.Calls.{IsAssembled, AreSure, NoneAbsent}
use Rattle.ddf_history.proofs.Since.{first_is_copy}
use Rattle.ddf_history.proofs.Sound.{groups_are_sound}
use Rattle.ddf_history_steps.proofs.MendingPlaces.{IsPlace, of_place, place_of, places_of}
use Rattle.ddf_history_steps.proofs.MendingLeaders.{IsSeat, IsShowing, cut_last, leads_showing, lowest_showing, seat_of, showing_agree, showing_below, stands_showing}

-- The copy that a seat is to have: a disk that shows the configuration keeps its own.
abbrev pub mended_copy : Configuration → (leaders : List DiskCopy) → (timestamp : ℕ) → DiskCopy → DiskCopy
mended_copy config leaders timestamp old = if shows config (view_of old) then old else recovered_copy old (before (map view_of leaders)) config timestamp

-- Where each item matches one of the same name, the names are the same.
names_given : {A B K : Type 0} (match : A → B → Bool) (name : A → K) (other : B → K) → ((a : A) (b : B) → match a b ≡ true → name a ≡ other b) → (xs : List A) (ys : List B) → pointwise match xs ys ≡ true → map name xs ≡ map other ys
names_given match name other same [] [] h = refl
names_given match name other same [] (y ∷ ys) h = absurd (false≢true h)
names_given match name other same (x ∷ xs) [] h = absurd (false≢true h)
names_given match name other same (x ∷ xs) (y ∷ ys) h =
    let parts = and_parts (match x y) (pointwise match xs ys) h in
    let first = same x y parts.0 in
    let rest = names_given match name other same xs ys parts.1 in
    rw (first, rest) refl

-- ---- copies that show one configuration

-- the references of the disks, and the GUIDs of the arrays, are the configuration's
names_are : (config : Configuration) (view : View) → shows config view ≡ true → (map (λ disk. disk.reference) view.disks ≡ map (λ entry. entry.0) config.members) × (map (λ row. row.guid) view.arrays ≡ map (λ entry. entry.0) config.arrays)
names_are config view h =
    let shown = shown_from config view h in (
      names_given gives_member (λ (disk : DiskEntry). disk.reference) (λ (entry : ℕ × Member). entry.0) (λ disk entry is. eqb-true disk.reference entry.0 (and_four (eqb disk.reference entry.0) (bytes_eq disk.guid entry.1.guid) (eqb disk.size entry.1.size) (same_flag (is_missing disk) entry.1.missing) is).0)
          view.disks config.members shown.members,
      names_given gives_array (λ (row : ArrayEntry). row.guid) (λ (entry : List ℕ × Array). entry.0)
          (λ row entry is. same_bytes row.guid entry.0 (and_five (bytes_eq row.guid entry.0) (bytes_eq row.name entry.1.name) (eqb row.number entry.1.number) (eqb row.state entry.1.state) (eqb row.init entry.1.init) is).0)
          view.arrays config.arrays shown.arrays,
    )

-- Where one names each disk and each array once, the other does so too.
pub names_alike : (config : Configuration) (one other : View) → Shows one config → shows config other ≡ true → Shows other config
names_alike config one other shown h =
    let first = names_are config one shown.shows in
    let second = names_are config other h in
    record {
      shows = h;
      names = record {
        references = subst (λ (names : List ℕ). IsDistinct nat_eq names) (first.0 ∙ sym second.0) shown.names.references;
        guids = subst (λ (names : List (List ℕ)). IsDistinct bytes_eq names) (first.1 ∙ sym second.1) shown.names.guids;
      };
    }

-- ---- a recovered copy

-- It names the disk that the old copy names.
recovered_names : (old : DiskCopy) (leaders : Before) (config : Configuration) (timestamp : ℕ) → disk_of (view_of (recovered_copy old leaders config timestamp)) ≡ disk_of (view_of old)
unfolding recovered_copy view_of
recovered_names old leaders config timestamp = refl

-- It is of the configuration's group.
pub recovered_group : (old : DiskCopy) (leaders : Before) (config : Configuration) (timestamp : ℕ) → (view_of (recovered_copy old leaders config timestamp)).group ≡ config.group
unfolding recovered_copy view_of
recovered_group old leaders config timestamp = refl

-- ---- the seats

module _ {group : List ℕ} (past : Past (groups group)) (held scene : Scene View) (readable : ℕ → Bool) (j : ℕ) (config : Configuration)
    (assembled : IsAssembled past held readable config) (since : IsSince past.changes j config) (kept : IsKept past scene)
    (sure : AreSure (groups group) readable held scene) (none_absent : NoneAbsent (groups group) readable held config) (same_group : config.group ≡ group)
    (leaders : List DiskCopy) (are_leaders : map view_of leaders ≡ leading_copies (groups group) config.sequence (seen readable held) past.slots)
    (leaders_can : AllByRecursion CanBeCopy leaders) (is_read : read group config.sequence (map view_of leaders) ≡ config)
    (timestamp : ℕ) (seats : ℕ → Bool) (old : ℕ → DiskCopy)
    (claimed : (slot : ℕ) → seats slot ≡ true → IsClaimed (groups group) (seen readable held) slot (view_of (old slot)))
    (can : (slot : ℕ) → seats slot ≡ true → shows config (view_of (old slot)) ≡ false → CanBeRecovered (old slot) (before (map view_of leaders)) config timestamp)
    (old_can : (slot : ℕ) → seats slot ≡ true → CanBeCopy (old slot)) where
  abbrev views : List View
  views = map view_of leaders

  -- the copy that a seat gets where its own doesn't show the configuration
  abbrev recovered : ℕ → DiskCopy
  recovered slot = recovered_copy (old slot) (before views) config timestamp

  -- what a seat is to show
  abbrev new : ℕ → View
  new slot = view_of (mended_copy config leaders timestamp (old slot))

  -- a slot shows the configuration
  abbrev Showing : ℕ → View → Type 0
  Showing s view = IsShowing (groups group) past held scene readable j config s view

  -- a seat has its own copy, or a recovered one
  pub mended_either : (slot : ℕ) → ((shows config (view_of (old slot)) ≡ true) × (new slot ≡ view_of (old slot))) ⊎ ((shows config (view_of (old slot)) ≡ false) × (new slot ≡ view_of (recovered slot)))
  mended_either slot = go (shows config (view_of (old slot))) refl
    where
      go : (b : Bool) → shows config (view_of (old slot)) ≡ b → ((shows config (view_of (old slot)) ≡ true) × (new slot ≡ view_of (old slot))) ⊎ ((shows config (view_of (old slot)) ≡ false) × (new slot ≡ view_of (recovered slot)))
      go true e = inl (e, ap (λ (b : Bool). view_of (if b then old slot else recovered slot)) e)
      go false e = inr (e, ap (λ (b : Bool). view_of (if b then old slot else recovered slot)) e)

  -- ---- the leaders

  -- A slot that shows the configuration is that of a leader.
  pub showing_leader : (s : ℕ) (view : View) → Showing s view → (k : ℕ) × (leader : DiskCopy) × (slice_get leaders k ≡ Some leader) × (view_of leader ≡ view)
  showing_leader s view shown =
      let below = showing_below (groups group) (groups_are_sound group) past held scene readable j config assembled since kept sure none_absent s view shown in
      let place = of_place (groups group) config.sequence (seen readable held) past.slots s view below (record { is_only = shown.is_held; is_standing = shown.is_standing; same = shown.same }) in
      let from = in_map view_of leaders place.0 view (ap (λ (xs : List View). slice_get xs place.0) are_leaders ∙ place.1) in
      (place.0, from.0, from.1, from.2)

  -- what a place shows shows the configuration
  pub place_showing : (s : ℕ) (view : View) → IsPlace (groups group) config.sequence (seen readable held) s view → Showing s view
  place_showing s view place =
      leads_showing (groups group) (groups_are_sound group) past held scene readable j config assembled since kept sure none_absent s view (subst (λ (shown : Shown View). IsCopyOf shown view) (sym place.is_only) refl) place.is_standing place.same

  -- A leader's slot shows the configuration.
  pub leader_showing : (k : ℕ) (view : View) → slice_get views k ≡ Some view → (s : ℕ) × Showing s view
  leader_showing k view at =
      let place = place_of (groups group) config.sequence (seen readable held) past.slots k view (ap (λ (xs : List View). slice_get xs k) (sym are_leaders) ∙ at) in
      (place.0, place_showing place.0 view place.2)

  -- No two leaders differ.
  pub leaders_agree : DoAgree views
  leaders_agree i k one other less at there =
      let same = ap (λ (xs : List View). slice_get xs i) (sym are_leaders) ∙ at in
      let same' = ap (λ (xs : List View). slice_get xs k) (sym are_leaders) ∙ there in
      let places = places_of (groups group) config.sequence (seen readable held) past.slots i k one other less same same' in
      showing_agree (groups group) (groups_are_sound group) past held scene readable j config assembled since kept sure none_absent places.0 places.1 one other (λ e. omega (arith, e, places.2))
      (place_showing places.0 one places.4) (place_showing places.1 other places.5)

  -- The lowest leader shows the configuration.
  pub lowest : Showing assembled.is_read.leader assembled.is_read.leading
  lowest = lowest_showing (groups group) (groups_are_sound group) past held scene readable j config assembled since kept sure none_absent

  -- Where the configuration is this engine's a leader has valid notes.
  leaders_noted : past.changes.own_from ≤ j → are_noted views ≡ true
  leaders_noted own =
      let from = showing_leader assembled.is_read.leader assembled.is_read.leading lowest in
      let at : slice_get views from.0 ≡ Some assembled.is_read.leading = get_view from.0 from.1 from.2 ∙ ap (λ (v : View). Some v) from.3 in
      any_passes_from_place (λ (view : View). view.noted) views from.0 assembled.is_read.leading at (fully_from config assembled.is_read.leading (lowest.is_full own).fully).noted
    where
      get_view : (k : ℕ) (leader : DiskCopy) → slice_get leaders k ≡ Some leader → slice_get views k ≡ Some (view_of leader)
      get_view k leader at = mapped_at view_of leaders k leader at

  -- ---- one seat

  -- A seat is claimed.
  pub is_seat : (slot : ℕ) → seats slot ≡ true → IsSeat (groups group) past held scene readable j config slot (view_of (old slot))
  is_seat slot seat = seat_of (groups group) (groups_are_sound group) past held scene readable j config assembled since kept sure none_absent slot (view_of (old slot)) (claimed slot seat)

  -- It can be recovered to what the leaders give.
  pub can_recover : (slot : ℕ) → seats slot ≡ true → shows config (view_of (old slot)) ≡ false → CanBeRecovered (old slot) (before views) (read group config.sequence views) timestamp
  can_recover slot seat lags = subst (λ (x : Configuration). CanBeRecovered (old slot) (before views) x timestamp) (sym is_read) (can slot seat lags)

  -- Its recovered copy shows the configuration.
  recovered_is : (slot : ℕ) → seats slot ≡ true → shows config (view_of (old slot)) ≡ false → Shows (view_of (recovered slot)) config
  recovered_is slot seat lags = record {
    shows = subst (λ (x : Configuration). shows x (view_of (recovered_copy (old slot) (before views) x timestamp)) ≡ true) is_read (recovered_shows (old slot) group config.sequence views timestamp (can_recover slot seat lags));
    names = names_differ (recovered slot) [] (recovered_copy_can (old slot) (before views) config timestamp (old_can slot seat) (can slot seat lags));
  }

  -- So does its own copy where it keeps that.
  old_is : (slot : ℕ) → seats slot ≡ true → shows config (view_of (old slot)) ≡ true → Shows (view_of (old slot)) config
  old_is slot seat h = record { shows = h; names = names_differ (old slot) [] (old_can slot seat) }

  -- A seat that keeps its copy is that of a leader.
  pub old_showing : (slot : ℕ) → seats slot ≡ true → shows config (view_of (old slot)) ≡ true → Showing slot (view_of (old slot))
  old_showing slot seat h =
      let is = is_seat slot seat in
      let view = view_of (old slot) in
      let shown = shown_from config view h in
      let ours : bytes_eq group view.group ≡ true = ap (bytes_eq group) (shown.group ∙ same_group) ∙ bytes_same group in
      let listed : (groups group).lists_current view (disk_of view) ≡ true = (groups_are_sound group).same_current view config (disk_of view) (old_is slot seat h) ∙ ap (has_current config) is.names ∙ is.is_member in
      let copy : IsCopyOf (held slot) view = first_is_copy (held slot) view is.is_first in
      leads_showing (groups group) (groups_are_sound group) past held scene readable j config assembled since kept sure none_absent slot view
      (subst (λ (b : Bool). IsCopyOf (if b then held slot else Nothing) view) (sym is.is_read) copy) (and_from _ _ ours listed) shown.sequence

  -- The new copy names the seat's disk.
  pub new_names : (slot : ℕ) → seats slot ≡ true → disk_of (new slot) ≡ past.disk slot
  new_names slot seat = ⊎_elim
      (λ same. ap disk_of same.1 ∙ (is_seat slot seat).names)
      (λ lags. ap disk_of lags.1 ∙ recovered_names (old slot) (before views) config timestamp ∙ (is_seat slot seat).names)
      (mended_either slot)

  -- It shows the configuration.
  pub new_shows : (slot : ℕ) → seats slot ≡ true → Shows (new slot) config
  new_shows slot seat = ⊎_elim
      (λ same. subst (λ (v : View). Shows v config) (sym same.1) (old_is slot seat same.0))
      (λ lags. subst (λ (v : View). Shows v config) (sym lags.1) (recovered_is slot seat lags.0))
      (mended_either slot)

  -- It is of the group.
  pub new_ours : (slot : ℕ) → seats slot ≡ true → bytes_eq group (new slot).group ≡ true
  new_ours slot seat = ap (bytes_eq group) ((shown_from config (new slot) (new_shows slot seat).shows).group ∙ same_group) ∙ bytes_same group

  -- Where the configuration is this engine's it shows it fully.
  pub new_fully : (slot : ℕ) → seats slot ≡ true → past.changes.own_from ≤ j → ShowsFully (new slot) config
  new_fully slot seat own = ⊎_elim
      (λ same. subst (λ (v : View). ShowsFully v config) (sym same.1) ((old_showing slot seat same.0).is_full own))
      (λ lags. subst (λ (v : View). ShowsFully v config) (sym lags.1) (record {
        shows = recovered_is slot seat lags.0;
        fully = subst (λ (x : Configuration). shows_fully x (view_of (recovered_copy (old slot) (before views) x timestamp)) ≡ true) is_read (recovered_fully (old slot) group config.sequence views timestamp (can_recover slot seat lags.0) (leaders_noted own));
        notes = subst (λ (x : Configuration). HasNotes (view_of (recovered_copy (old slot) (before views) x timestamp))) is_read (recovered_has_notes (old slot) group config.sequence views timestamp (can_recover slot seat lags.0) (leaders_noted own));
        readable = (lowest.is_full own).readable;
      }))
      (mended_either slot)

  -- ---- they agree

  -- a recovered copy agrees with what shows the configuration
  recovered_showing : (slot : ℕ) → seats slot ≡ true → shows config (view_of (old slot)) ≡ false → (t : ℕ) (view : View) → Showing t view → (difference (view_of (recovered slot)) view ≡ None) × (difference view (view_of (recovered slot)) ≡ None)
  recovered_showing slot seat lags t view shown =
      let from = showing_leader t view shown in
      let agreed = copies_agreed (old slot) group config.sequence leaders timestamp (can_recover slot seat lags) leaders_can leaders_agree from.0 from.1 from.2 in (
        subst (λ (v : View). difference (view_of (recovered slot)) v ≡ None) from.3 (subst (λ (x : Configuration). difference (view_of (recovered_copy (old slot) (before views) x timestamp)) (view_of from.1) ≡ None) is_read agreed.0),
        subst (λ (v : View). difference v (view_of (recovered slot)) ≡ None) from.3 (subst (λ (x : Configuration). difference (view_of from.1) (view_of (recovered_copy (old slot) (before views) x timestamp)) ≡ None) is_read agreed.1),
      )

  -- a new copy agrees with what shows the configuration elsewhere
  pub new_showing : (slot : ℕ) → seats slot ≡ true → (t : ℕ) (view : View) → slot ≢ t → Showing t view → (difference (new slot) view ≡ None) × (difference view (new slot) ≡ None)
  new_showing slot seat t view apart shown = ⊎_elim
      (λ same.
      let own = old_showing slot seat same.0 in (
        subst (λ (v : View). difference v view ≡ None) (sym same.1)
            (showing_agree (groups group) (groups_are_sound group) past held scene readable j config assembled since kept sure none_absent slot t (view_of (old slot)) view apart own shown),
        subst (λ (v : View). difference view v ≡ None) (sym same.1)
            (showing_agree (groups group) (groups_are_sound group) past held scene readable j config assembled since kept sure none_absent t slot view (view_of (old slot)) (λ e. apart (sym e)) shown own),
      ))
      (λ lags.
      let agreed = recovered_showing slot seat lags.0 t view shown in (
        subst (λ (v : View). difference v view ≡ None) (sym lags.1) agreed.0,
        subst (λ (v : View). difference view v ≡ None) (sym lags.1) agreed.1,
      ))
      (mended_either slot)

  -- new copies agree with one another
  pub new_agree : (s t : ℕ) → s ≢ t → seats s ≡ true → seats t ≡ true → difference (new s) (new t) ≡ None
  new_agree s t apart seat other = ⊎_elim
      (λ same. subst (λ (v : View). difference v (new t) ≡ None) (sym same.1) (new_showing t other s (view_of (old s)) (λ e. apart (sym e)) (old_showing s seat same.0)).1)
      (λ lags. ⊎_elim
      (λ same. subst (λ (v : View). difference (new s) v ≡ None) (sym same.1) (new_showing s seat t (view_of (old t)) apart (old_showing t other same.0)).0)
      (λ lags'.
      let agreed = subst (λ (x : Configuration). difference (view_of (recovered_copy (old s) (before views) x timestamp)) (view_of (recovered_copy (old t) (before views) x timestamp)) ≡ None) is_read
      (recovered_agree (old s) (old t) group config.sequence views timestamp (can_recover s seat lags.0) (can_recover t other lags'.0)) in
      subst (λ (v : View). difference v (new t) ≡ None) (sym lags.1) (subst (λ (v : View). difference (view_of (recovered s)) v ≡ None) (sym lags'.1) agreed))
      (mended_either t))
      (mended_either s)

  -- what stands and shows the configuration
  pub standing_showing : (t : ℕ) (view : View) → IsStanding (take_off past j) scene t view → Shows view config → Showing t view
  standing_showing t view stand shown =
      stands_showing (groups group) (groups_are_sound group) past held scene readable j config assembled since kept sure none_absent t view stand.is_here stand.is_copy stand.is_standing ((groups_are_sound group).same_sequence view config shown)

  -- ---- all

  -- What a recovery gives the seats may be written.
  pub mending_may_write : MayWrite (take_off past j) scene j config seats new
  mending_may_write = record {
    at_last = cut_last (groups group) (groups_are_sound group) past held scene readable j config assembled since kept sure none_absent;
    names = new_names;
    are_ours = new_ours;
    show = new_shows;
    are_full = new_fully;
    are_members = λ slot seat. (is_seat slot seat).is_member;
    agree = new_agree;
    agree_before = λ s t other apart seat stand shown. (new_showing s seat t other apart (standing_showing t other stand shown)).0;
    agree_after = λ s t other apart seat stand shown. (new_showing s seat t other apart (standing_showing t other stand shown)).1;
  }
