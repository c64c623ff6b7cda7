-- What recovery gives seats that lag may be written, as histories ask it: the configuration that a call assembled, with its
-- sequence number as it is, where no member is absent.
use Rattle.std.proofs.Common.{◌≡◌, ℕ, Bool, true, false, not, List, [], ◌∷◌, map, Some, slice_get, sym, ap, ◌∙◌, inl, inr, ⊎_elim, subst}
use Rattle.std.proofs.lemmas.Bool.{false≢true}
use Rattle.std.specs.List.{AllByRecursion}
use Rattle.std.specs.Str.{bytes_eq}
use Rattle.ddf_lemmas.proofs.Lists.{bytes_same}
use Rattle.ddf_config.specs.Configuration.{Configuration}
use Rattle.ddf_copy.specs.declared.copy.DiskCopy.{DiskCopy}
use Rattle.ddf_copy.specs.Written.{CanBeCopy}
use Rattle.ddf_view.specs.View.{View, view_of}
use Rattle.ddf_view.specs.Reading.{read}
use Rattle.ddf_view.specs.Shows.{shows}
use Rattle.ddf_view.proofs.Agreement.{shown_from}
use Rattle.ddf_rewrite.specs.Before.{before}
use Rattle.ddf_rewrite.specs.Copies.{recovered_copy}
use Rattle.ddf_rewrite.specs.Hold.{CanBeRecovered}
use Rattle.ddf_rewrite.proofs.Writable.{recovered_copy_can}
use Rattle.ddf_history.specs.Reading.{Scene, Shown, IsFirstOf}
use Rattle.ddf_history.specs.Reading.Shown.{One}
use Rattle.ddf_history.specs.Groups.{groups, has_current, read_leaders}
use Rattle.ddf_history.specs.Issued.{Past, IsSince, acknowledge, is_away, take_off}
use Rattle.ddf_history.specs.Leaders.{leading_copy, seen, leading_copies}
use Rattle.ddf_history.specs.Promise.{IsKept}
use Rattle.ddf_history.specs.Answer.{IsClaimed}
use Rattle.ddf_history.specs.Steps.{AllShow, AreWritten, GivesAfter, IsLast, JoinLast, MayWrite, OthersLast}
use Rattle.ddf_history.specs.Calls.{IsAssembled, AreSure, NoneAbsent}
use Rattle.ddf_history.proofs.Sound.{groups_are_sound}
use Rattle.ddf_history_steps.proofs.MendingPlaces.{place_get, place_of}
use Rattle.ddf_history_steps.proofs.MendingLeaders.{IsShowing, cut_kept, cut_last}
use Rattle.ddf_history_steps.proofs.MendingSeats.{can_recover, is_seat, leader_showing, leaders_agree, lowest, mended_copy, mended_either, names_alike, old_showing, showing_leader}
use Rattle.ddf_history_steps.proofs.MendingSeats as seated
use Rattle.ddf_history_steps.proofs.MendingWritten as writing
use Rattle.ddf_history_steps.proofs.MendingGrown as growing
use Rattle.ddf_history_steps.proofs.MendingGives.{AreGrown, IsRecovered, grown_gives}

module _ {group : List ℕ} (past : Past (groups group)) (held scene : Scene View) (readable : ℕ → Bool) (j : ℕ) (config : Configuration)
    (assembled : IsAssembled past held readable config) (since : IsSince past.changes j config) (kept : IsKept past scene)
    (sure : AreSure (groups group) readable held scene) (none_absent : NoneAbsent (groups group) readable held config) (same_group : config.group ≡ group)
    -- the leaders' copies, in rising slots: what they say is what histories read
    (leaders : List DiskCopy) (are_leaders : map view_of leaders ≡ leading_copies (groups group) config.sequence (seen readable held) past.slots)
    (leaders_can : AllByRecursion CanBeCopy leaders) (is_read : read group config.sequence (map view_of leaders) ≡ config)
    (timestamp : ℕ) (seats : ℕ → Bool) (old : ℕ → DiskCopy)
    (claimed : (slot : ℕ) → seats slot ≡ true → IsClaimed (groups group) (seen readable held) slot (view_of (old slot)))
    (can : (slot : ℕ) → seats slot ≡ true → shows config (view_of (old slot)) ≡ false → CanBeRecovered (old slot) (before (map view_of leaders)) config timestamp)
    (old_can : (slot : ℕ) → seats slot ≡ true → CanBeCopy (old slot))
    -- the members that aren't written show the configuration
    (others : (slot : ℕ) → seats slot ≡ false → is_away past slot ≡ false → has_current config (past.disk slot) ≡ true → (view : View) × (scene slot ≡ One view) × (shows config view ≡ true)) where
  abbrev views : List View
  views = map view_of leaders

  -- what a seat is to show
  abbrev new : ℕ → View
  new slot = view_of (mended_copy config leaders timestamp (old slot))

  -- with the changes behind the configuration taken off
  abbrev begun : Past (groups group)
  begun = take_off past j

  -- a slot shows the configuration
  abbrev Showing : ℕ → View → Type 0
  Showing s view = IsShowing (groups group) past held scene readable j config s view

  -- Each slot shows what it should before.
  pub begun_kept : IsKept begun scene
  begun_kept = cut_kept (groups group) (groups_are_sound group) past held scene readable j config assembled since kept sure none_absent

  -- The configuration is the last.
  pub begun_last : IsLast begun.changes j config
  begun_last = cut_last (groups group) (groups_are_sound group) past held scene readable j config assembled since kept sure none_absent

  -- What the seats are to show may be written.
  pub mending_may_write : MayWrite begun scene j config seats new
  mending_may_write = seated.mending_may_write past held scene readable j config assembled since kept sure none_absent same_group leaders are_leaders leaders_can is_read timestamp seats old claimed can old_can

  -- What the others show.
  others_show : (slot : ℕ) → seats slot ≡ false → is_away past slot ≡ false → has_current config (past.disk slot) ≡ true
      → (view : View) × (scene slot ≡ One view) × ((groups group).is_ours view ≡ true) × (groups group).Shows view config
  others_show slot rest here now =
      let other = others slot rest here now in
      let leads = lowest past held scene readable j config assembled since kept sure none_absent same_group leaders are_leaders leaders_can is_read timestamp seats old claimed can old_can in (
        other.0,
        other.1,
        ap (bytes_eq group) ((shown_from config other.0 other.2).group ∙ same_group) ∙ bytes_same group,
        names_alike config assembled.is_read.leading other.0 leads.shows other.2,
      )

  -- ---- what the leaders give then

  -- A seat that shows the configuration keeps its copy.
  keeps : (slot : ℕ) (view : View) → seats slot ≡ true → Showing slot view → new slot ≡ view
  keeps slot view seat shown =
      let is = is_seat past held scene readable j config assembled since kept sure none_absent same_group leaders are_leaders leaders_can is_read timestamp seats old claimed can old_can slot seat in
      let own : view_of (old slot) ≡ view = subst (λ (it : Shown View). IsFirstOf it (view_of (old slot))) (sym is.is_sure ∙ shown.is_only) is.is_first in
      ⊎_elim
      (λ same. same.1 ∙ own)
      (λ lags. absurd (false≢true (sym lags.0 ∙ ap (shows config) own ∙ shown.shows.shows)))
      (mended_either past held scene readable j config assembled since kept sure none_absent same_group leaders are_leaders leaders_can is_read timestamp seats old claimed can old_can slot)

  module _ (after : Scene View) (written : AreWritten seats new scene after) where
    -- what the slots that aren't away show to lead
    abbrev grown : List View
    grown = leading_copies (groups group) config.sequence (seen (λ slot. not (is_away past slot)) after) past.slots

    -- a new copy of a slot that didn't lead
    abbrev IsFresh : View → Type 0
    IsFresh view = (s : ℕ) × (seats s ≡ true) × (leading_copy (groups group) config.sequence (seen readable held s) ≡ []) × (new s ≡ view)

    -- a new copy of a slot that didn't lead is a recovered one
    fresh_recovered : (view : View) → IsFresh view → IsRecovered group config.sequence timestamp views view
    fresh_recovered view fresh = ⊎_elim
        (λ same.
        let own = old_showing past held scene readable j config assembled since kept sure none_absent same_group leaders are_leaders leaders_can is_read timestamp seats old claimed can old_can fresh.0 fresh.1 same.0 in
        absurd (growing.not_empty (view_of (old fresh.0)) [] (sym fresh.2 ∙ place_get (groups group) config.sequence (seen readable held) fresh.0 (view_of (old fresh.0)) (record { is_only = own.is_held; is_standing = own.is_standing; same = own.same }))))
        (λ lags.
        let can_be = can_recover past held scene readable j config assembled since kept sure none_absent same_group leaders are_leaders leaders_can is_read timestamp seats old claimed can old_can fresh.0 fresh.1 lags.0 in
        record {
          old = old fresh.0;
          can = can_be;
          is_copy = recovered_copy_can (old fresh.0) (before views) (read group config.sequence views) timestamp (old_can fresh.0 fresh.1) can_be;
          is_view = ap (λ (x : Configuration). view_of (recovered_copy (old fresh.0) (before views) x timestamp)) is_read ∙ sym lags.1 ∙ fresh.3;
        })
        (mended_either past held scene readable j config assembled since kept sure none_absent same_group leaders are_leaders leaders_can is_read timestamp seats old claimed can old_can fresh.0)

    -- a slot leads as it did, or with its new copy
    slots_grown : (s : ℕ) → growing.IsGrown (groups group) config.sequence (seen readable held) (seen (λ slot. not (is_away past slot)) after) IsFresh s
    slots_grown = growing.slots_grown (groups group) (groups_are_sound group) past held scene readable j config assembled since kept sure none_absent seats new mending_may_write keeps after written

    -- there is a leader
    some_leads : leading_copies (groups group) config.sequence (seen readable held) past.slots ≡ [] → ⊥
    some_leads none =
        let leads = lowest past held scene readable j config assembled since kept sure none_absent same_group leaders are_leaders leaders_can is_read timestamp seats old claimed can old_can in
        let from = showing_leader past held scene readable j config assembled since kept sure none_absent same_group leaders are_leaders leaders_can is_read timestamp seats old claimed can old_can assembled.is_read.leader assembled.is_read.leading leads in
        no_item leaders from.0 from.1 (are_leaders ∙ none) from.2
      where
        no_item : (copies : List DiskCopy) (k : ℕ) (copy : DiskCopy) → map view_of copies ≡ [] → slice_get copies k ≡ Some copy → ⊥
        no_item [] k copy e at = absurd cc
        no_item (one ∷ copies) k copy e at = absurd cc

    -- the leaders then are those that led, with recovered copies among them
    are_grown : AreGrown group config.sequence timestamp views grown
    are_grown = ⊎_elim
        (λ none. absurd (some_leads none.0))
        (λ head. record {
          each = λ k view at. ⊎_elim
              (λ led. inl (led.0, ap (λ (xs : List View). slice_get xs led.0) are_leaders ∙ led.1))
              (λ fresh. inr (fresh_recovered view fresh))
              (growing.each_grown (groups group) config.sequence (seen readable held) (seen (λ slot. not (is_away past slot)) after) IsFresh slots_grown past.slots k view at);
          all = λ m view at. growing.all_lead (groups group) config.sequence (seen readable held) (seen (λ slot. not (is_away past slot)) after) IsFresh slots_grown past.slots m view
              (ap (λ (xs : List View). slice_get xs m) (sym are_leaders) ∙ at);
          head = head.head;
          rest = head.rest;
          are = head.are;
          led = ⊎_elim (λ led. inl (led.0, are_leaders ∙ led.1)) (λ fresh. inr (fresh_recovered head.head fresh)) head.led;
        })
        (growing.head_grown (groups group) config.sequence (seen readable held) (seen (λ slot. not (is_away past slot)) after) IsFresh slots_grown past.slots)

    -- The slots that show the configuration give it together.
    pub mended_gives : GivesAfter begun j config after
    mended_gives young =
        let head = are_grown.head in
        let first = place_of (groups group) config.sequence (seen (λ slot. not (is_away past slot)) after) past.slots 0 head (ap (λ (xs : List View). slice_get xs 0) are_grown.are) in
        let shown : (m : ℕ) (view : View) → slice_get views m ≡ Some view → shows (read group config.sequence views) view ≡ true = λ m view at.
        let is = leader_showing past held scene readable j config assembled since kept sure none_absent same_group leaders are_leaders leaders_can is_read timestamp seats old claimed can old_can m view at in
        subst (λ (x : Configuration). shows x view ≡ true) (sym is_read) is.1.shows.shows in
        ap (read_leaders group) are_grown.are
        ∙ ap (λ (n : ℕ). read group n (head ∷ are_grown.rest)) first.2.same
        ∙ ap (read group config.sequence) (sym are_grown.are)
        ∙ grown_gives group config.sequence timestamp leaders leaders_can
        (leaders_agree past held scene readable j config assembled since kept sure none_absent same_group leaders are_leaders leaders_can is_read timestamp seats old claimed can old_can) shown grown are_grown
        ∙ is_read

    -- ---- what the slots show then

    -- Disks that join are written last.
    pub mending_joins_last : OthersLast (groups group) seats new scene after → JoinLast begun seats new after
    mending_joins_last last = writing.join_last (groups group) (groups_are_sound group) past held scene readable j config assembled since kept sure none_absent seats new mending_may_write others_show after written last

    -- Each slot shows what it should after.
    pub mending_kept : OthersLast (groups group) seats new scene after → IsKept begun after
    mending_kept last = writing.mended_kept (groups group) (groups_are_sound group) past held scene readable j config assembled since kept sure none_absent seats new mending_may_write others_show after written last mended_gives

    -- ---- at the end

    module _ (done : (slot : ℕ) → seats slot ≡ true → after slot ≡ One (new slot)) where
      -- Each member that is here shows the configuration.
      pub mending_shown : AllShow begun after j config
      mending_shown = writing.mended_show (groups group) (groups_are_sound group) past held scene readable j config assembled since kept sure none_absent seats new mending_may_write others_show after written mended_gives done

      -- It may be acknowledged, and is the last then.
      pub mending_acknowledged : IsKept (acknowledge begun j) after × IsLast (acknowledge begun j).changes j config
      mending_acknowledged = writing.mended_acknowledged (groups group) (groups_are_sound group) past held scene readable j config assembled since kept sure none_absent seats new mending_may_write others_show after written mended_gives done
