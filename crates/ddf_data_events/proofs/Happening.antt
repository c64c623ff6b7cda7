-- Behind each event all is kept that was kept before it.
use Rattle.std.proofs.Common.{◌≡◌, ℕ, ◌≤◌, zero, suc, Bool, true, false, not, ◌&&◌, ◌||◌, ◌==◌, List, Option, Some, refl, sym, ap, subst, ◌∙◌, arith, if◌then◌else◌}
use Rattle.std.proofs.Math.Path.{fun_ext}
use Rattle.std.specs.Prelude.{filter_map}
use Rattle.std.specs.List.{range_with_len}
use Rattle.ddf_bytes.specs.Streams.{SourceState}
use Rattle.ddf_bay.specs.Sectors.{Image, IsLeft}
use Rattle.ddf_bay.specs.State.{BayState}
use Rattle.ddf_array.specs.Sound.{AreSectors}
use Rattle.ddf_array.specs.Values.{given}
use Rattle.std.specs.Map.{lookup}
use Rattle.ddf_config.specs.declared.array.Array.{Array}
use Rattle.ddf_config.specs.Members.{same_guid}
use Rattle.ddf_array.specs.Volume.{Volume}
use Rattle.ddf_data_array.specs.Allowed.{Allowed, any_bytes}
use Rattle.ddf_data_array.specs.Changing.{IsWritable}
use Rattle.ddf_data_array.specs.Kept.{IsKeptData}
use Rattle.ddf_data_array.proofs.From.{source_at}
use Rattle.ddf_data_array.proofs.Written.{kept_any}
use Rattle.ddf_config.specs.declared.seat.Seat.{Seat}
use Rattle.ddf_config.specs.Configuration.{Configuration}
use Rattle.ddf_data_group.specs.Grouped.{KeepsArrays, Promises}
use Rattle.ddf_data_group.specs.Kept.{KeepsArray}
use Rattle.ddf_data_group.proofs.Entries.{guid_is}
use Rattle.ddf_rewrite.proofs.Lists.{some_same}
use Rattle.ddf_data_group.specs.Over.{IsOver, absent_in}
use Rattle.ddf_history.specs.Groups.{groups, has_current, has_missing}
use Rattle.ddf_history.specs.History.{KeepsAcked}
use Rattle.ddf_history.specs.Issued.{IsSince, Past, give_back, lose}
use Rattle.ddf_history.specs.Promise.{IsKept}
use Rattle.ddf_history.specs.Scenes.{scene_of}
use Rattle.ddf_history.proofs.Cutting.{given_back_kept, lost_kept}
use Rattle.ddf_data_history.specs.Promised.{KeepsData, is_seat, seat_if, seats_in, with_promise}
use Rattle.ddf_data_history.proofs.Steps.{by_loss, by_return}
use Rattle.ddf_data_events.specs.Calls.{Call, EndsAt, HasComeTo, MayPromise, PromisesThen, course_of, exit_of}
use Rattle.ddf_data_events.specs.Events.{IsAgreeing, Event, Follows, KeepsOn, Resumes}
use Rattle.ddf_data_events.specs.Events.Event.{Agreed, Cut, Ended, Forgotten, Kept, Lost, Noticed, Refloored, Returned, Stopped}
use Rattle.ddf_data_events.specs.Moments.{KeepsAll, Moment}
use Rattle.ddf_data_events.proofs.Bays.{AreBays, held_sectors, sectors}
use Rattle.ddf_data_events.proofs.Calls.{sound as sound_of}
use Rattle.ddf_data_events.proofs.Floors.{by_image, by_slots}
use Rattle.ddf_data_events.proofs.Sound.{cuts_acked, ends_acked}
use Rattle.std.proofs.lemmas.Bool.{eqb-true, not-true}
use Rattle.std.specs.Prelude.{slice_index}
use Rattle.ddf_lemmas.proofs.Tests.{and_first, and_second}
use Rattle.ddf_history.proofs.Sound.{groups_are_sound}
use Rattle.ddf_history_steps.specs.Floors.{HasFloor}
use Rattle.ddf_data_calls.specs.Floors.{HaveFloorsIn}

-- Data are kept where no current member's floor is another one.
floors_keep : (guid : List ℕ) (past : Past (groups guid)) (floor other : ℕ → ℕ)
    → ((slot number : ℕ) (config : Configuration) → IsSince past.changes number config → past.lost slot ≡ false → has_current config (past.disk slot) ≡ true → other slot ≡ floor slot)
    → (image : Image) (promises : Promises) → KeepsData guid past floor image promises → KeepsData guid past other image promises
floors_keep guid past floor other same image promises keeps number config since =
    subst (λ (seat : ℕ → Option Seat). KeepsArrays config (filter_map seat (range_with_len 0 past.slots)) image promises) (fun_ext (λ (slot : ℕ). seat_same slot)) (keeps number config since)
  where
    seat_same : (slot : ℕ) → seat_if (is_seat guid past config slot) floor (past.disk slot) slot ≡ seat_if (is_seat guid past config slot) other (past.disk slot) slot
    seat_same slot = by (is_seat guid past config slot) refl
      where
        by : (here : Bool) → is_seat guid past config slot ≡ here → seat_if here floor (past.disk slot) slot ≡ seat_if here other (past.disk slot) slot
        by true is =
            ap (λ (f : ℕ). Some (record { reference = (past.disk slot).reference; slot = slot; floor = f; bad = 0 }))
            (sym (same slot number config since (not-true (past.lost slot) (and_first (not (past.lost slot)) (has_current config (past.disk slot)) is))
            (and_second (not (past.lost slot)) (has_current config (past.disk slot)) is)))
        by false is = refl

-- Data are kept where of an array that keeps them by it a promise is made.
promised_keep : (guid : List ℕ) (past : Past (groups guid)) (floor : ℕ → ℕ) (array : List ℕ) (own : Allowed) (image : Image)
    → ((number : ℕ) (config : Configuration) (entry : Array) → IsSince past.changes number config → lookup (same_guid array) config.arrays ≡ Some entry
    → KeepsArray config.members (seats_in guid past floor config) entry image own)
    → (promises : Promises) → KeepsData guid past floor image promises → KeepsData guid past floor image (with_promise promises array (Some own))
promised_keep guid past floor array own image keeps promises kept number config since other allowed made promised there = by (same_guid array other) refl promised
  where
    by : (b : Bool) → same_guid array other ≡ b → ◌≡◌ {A = Option Allowed} (if b then Some own else promises other) (Some allowed)
        → KeepsArray config.members (seats_in guid past floor config) made image allowed
    by true same e =
        let one = guid_is array other same in
        let allowed_is : own ≡ allowed = sym (some_same e refl) in
        let here : lookup (same_guid array) config.arrays ≡ Some made = ap (λ (g : List ℕ). lookup (same_guid g) config.arrays) one ∙ there in
        subst (KeepsArray config.members (seats_in guid past floor config) made image) allowed_is (keeps number config made since here)
    by false differs e = kept number config since other allowed made e there

-- Data are kept where of an array it is promised alone that its blocks may have any bytes.
any_kept : (guid : List ℕ) (past : Past (groups guid)) (floor : ℕ → ℕ) (array : List ℕ)
    → ((number : ℕ) (config : Configuration) (entry : Array) → IsSince past.changes number config → lookup (same_guid array) config.arrays ≡ Some entry
    → (seats : List Seat) (volume : Volume) → IsOver seats entry volume → IsWritable volume)
    → (image : Image) → AreSectors image → (promises : Promises) → KeepsData guid past floor image promises → KeepsData guid past floor image (with_promise promises array (Some any_bytes))
any_kept guid past floor array writable image sound =
    promised_keep guid past floor array any_bytes image (λ number config entry since there volume over.
    kept_any (absent_in config.members (seats_in guid past floor config) entry.elements) volume image sound (writable number config entry since there (seats_in guid past floor config) volume over))

-- An array that agrees keeps the bytes that it has.
agreed_kept : (is_absent : ℕ → ℕ → Bool) (volume : Volume) (image : Image) (allowed : Allowed) → AreSectors image → IsAgreeing is_absent volume image allowed → IsKeptData is_absent volume image allowed
agreed_kept is_absent volume image allowed sound agrees = record {
  sound = record {
    are_sectors = sound;
    redundant = λ unmarked within. agrees.consistent.redundant;
    parity = λ unmarked within. agrees.consistent.parity;
  };
  reads = λ block k source at.
      let there = source_at volume block k source at in
      agrees.may block (given image source) (agrees.consistent.redundant.agree block there.0 source there.1);
  rows = agrees.rows;
}

agreed_keep : (guid : List ℕ) (past : Past (groups guid)) (floor : ℕ → ℕ) (array : List ℕ) (own : Allowed) (image : Image) → AreSectors image
    → ((number : ℕ) (config : Configuration) (entry : Array) → IsSince past.changes number config → lookup (same_guid array) config.arrays ≡ Some entry
    → (volume : Volume) → IsOver (seats_in guid past floor config) entry volume → IsAgreeing (absent_in config.members (seats_in guid past floor config) entry.elements) volume image own)
    → (promises : Promises) → KeepsData guid past floor image promises → KeepsData guid past floor image (with_promise promises array (Some own))
agreed_keep guid past floor array own image sound agrees =
    promised_keep guid past floor array own image (λ number config entry since there volume over.
    agreed_kept (absent_in config.members (seats_in guid past floor config) entry.elements) volume image own sound (agrees number config entry since there volume over))

module _ {B : Type 0} {tells : Type 0} (told : tells) (disks : B → BayState B) {S : Type 0} (tells_bytes : Type 0) (streams : S → SourceState) (guid : List ℕ) (are : AreBays disks) where
  -- a moment that follows an event, at which all is kept
  record HasNext (old : Moment guid B) (event : Event told disks tells_bytes streams guid old) : Type 0 where
    pub next : Moment guid B
    pub follows : Follows told disks tells_bytes streams guid old event next
    pub acked : KeepsAcked old.past next.past
    pub keeps : KeepsAll disks next

  pub resumed : (old : Moment guid B) (bay : B) (Left : Image → Type 0) → Resumes (disks old.bay) (disks bay) Left → (past : Past (groups guid)) (promises : Promises)
      → ((image : Image) → Left image → IsKept past (scene_of (disks old.bay).sizes image)) → ((image : Image) → Left image → KeepsData guid past old.floor image promises)
      → ((image : Image) → Left image → HaveFloorsIn guid past (disks old.bay).sizes image old.floor)
      → KeepsAll disks (record { past = past; bay = bay; promises = promises; floor = old.floor; small = old.small })
  resumed old bay Left resumes past promises shows keeps floored = record {
    shows = λ image left. subst (λ (sizes : List ℕ). IsKept past (scene_of sizes image)) (sym resumes.same_sizes) (shows image (resumes.is_left image left));
    keeps = λ image left. keeps image (resumes.is_left image left);
    floored = by_slots guid disks are past old.floor bay resumes.tells_left (disks old.bay).sizes resumes.same_sizes (λ image left. floored image (resumes.is_left image left));
  }

  -- A call came to an end, or a stop cut it: so far the history came, and so is promised.
  pub record HasCome (old : Moment guid B) (bay : B) (Comes : Past (groups guid) → Type 0) (Is : Promises → Type 0) : Type 0 where
    pub now : Past (groups guid)
    pub promised : Promises
    pub comes : Comes now
    pub is_so : Is promised
    pub acked : KeepsAcked old.past now
    pub keeps : KeepsAll disks (record { past = now; bay = bay; promises = promised; floor = old.floor; small = old.small })

  pub ended : (old : Moment guid B) → KeepsAll disks old → (call : Call told disks tells_bytes streams guid old) → (disks (exit_of told disks tells_bytes streams guid call)).tells_left
      → (disks (exit_of told disks tells_bytes streams guid call)).sizes ≡ (disks old.bay).sizes
      → HasCome old (exit_of told disks tells_bytes streams guid call) (EndsAt told disks tells_bytes streams guid call) (PromisesThen told disks tells_bytes streams guid call)
  ended old all call tells_left same_sizes =
      let sound = sound_of told disks tells_bytes streams guid are old all call in
      let both = sound.ends tells_left in
      record {
        now = both.now;
        promised = both.promised;
        comes = both.ends;
        is_so = both.is_so;
        acked = ends_acked told disks tells_bytes streams guid are old all (course_of told disks tells_bytes streams guid call) both.now both.ends;
        keeps = record {
          shows = both.all_kept;
          keeps = both.all_data;
          floored = by_slots guid disks are both.now old.floor (exit_of told disks tells_bytes streams guid call) tells_left (disks old.bay).sizes same_sizes
              (λ image left. sound.ends_floored both.now both.ends image ((are (exit_of told disks tells_bytes streams guid call)).counts (disks old.bay).moment image sound.later left));
        };
      }

  pub was_cut : (old : Moment guid B) → KeepsAll disks old → (call : Call told disks tells_bytes streams guid old) (image : Image)
      → (disks (exit_of told disks tells_bytes streams guid call)).left_since (disks old.bay).moment image → (bay : B) → Resumes (disks old.bay) (disks bay) (λ left. left ≡ image)
      → HasCome old bay (HasComeTo told disks tells_bytes streams guid call) (MayPromise told disks tells_bytes streams guid call)
  was_cut old all call image was_left bay resumes =
      let held_is : (disks bay).held ≡ image = resumes.is_left (disks bay).held ((are bay).held resumes.tells_left) in
      let whole : AreSectors image = subst AreSectors held_is (held_sectors disks are bay resumes.tells_left) in
      let sound = sound_of told disks tells_bytes streams guid are old all call in
      let both = sound.cuts image was_left whole in
      record {
        now = both.now;
        promised = both.promised;
        comes = both.goes;
        is_so = both.may;
        acked = cuts_acked told disks tells_bytes streams guid are old all (course_of told disks tells_bytes streams guid call) both.now both.goes;
        keeps = resumed old bay (λ left. left ≡ image) resumes both.now both.promised
            (λ left same. subst (λ (one : Image). IsKept both.now (scene_of (disks old.bay).sizes one)) (sym same) both.is_kept)
            (λ left same. subst (λ (one : Image). KeepsData guid both.now old.floor one both.promised) (sym same) both.keeps)
            (λ left same. subst (λ (one : Image). HaveFloorsIn guid both.now (disks old.bay).sizes one old.floor) (sym same) (sound.cuts_floored both.now both.goes image was_left));
      }

  pub lost_keeps : (old : Moment guid B) → KeepsAll disks old → (slot : ℕ) → old.past.changes.own_from ≤ old.past.changes.acked
      → KeepsAll disks (record { past = lose old.past slot; bay = old.bay; promises = old.promises; floor = old.floor; small = old.small })
  lost_keeps old all slot own = record {
    shows = λ image left. lost_kept old.past (scene_of (disks old.bay).sizes image) slot own (all.shows image left);
    keeps = λ image left.
        let after = lose old.past slot in
        by_loss guid old.floor old.small old.past image old.promises (all.keeps image left) (all.shows image left).alone after.lost after.returned (λ other gone. still (old.past.lost other) (other == slot) gone);
    floored = λ other number config since stays current. all.floored other number config (record { late = since.late; is_there = since.is_there }) (not_either (old.past.lost other) (other == slot) stays) current;
  }
    where
      still : (b c : Bool) → b ≡ true → (b || c) ≡ true
      still true c gone = refl
      still false c gone = absurd cc

      not_either : (b c : Bool) → (b || c) ≡ false → b ≡ false
      not_either true c stays = absurd cc
      not_either false c stays = refl

  pub returned_keeps : (old : Moment guid B) → KeepsAll disks old → (slot : ℕ) → old.past.changes.own_from ≤ old.past.changes.acked
      → ((number : ℕ) (config : Configuration) → IsSince old.past.changes number config → has_missing config (old.past.disk slot) ≡ true)
      → KeepsAll disks (record { past = give_back old.past slot; bay = old.bay; promises = old.promises; floor = old.floor; small = old.small })
  returned_keeps old all slot own missing = record {
    shows = λ image left. given_back_kept old.past (scene_of (disks old.bay).sizes image) slot own (all.shows image left) missing;
    keeps = λ image left. by_return guid old.floor old.small old.past image old.promises (all.keeps image left) slot missing;
    floored = λ other number config since stays current. by_slot other number config (record { late = since.late; is_there = since.is_there }) stays current (other == slot) refl;
  }
    where
      was_not : (b c : Bool) → c ≡ false → (b && not c) ≡ false → b ≡ false
      was_not true c is stays = cc
      was_not false c is stays = refl

      by_slot : (other number : ℕ) (config : Configuration) → IsSince old.past.changes number config → (old.past.lost other && not (other == slot)) ≡ false → has_current config (old.past.disk other) ≡ true
          → (b : Bool) → (other == slot) ≡ b → (sector : ℕ → List ℕ) → ((l : ℕ) → (disks old.bay).may_hold other l (sector l)) → HasFloor (slice_index (disks old.bay).sizes other) sector (old.floor other)
      by_slot other number config since stays current true here =
          absurd ((groups_are_sound guid).not_both config (old.past.disk slot) (subst (λ (n : ℕ). has_current config (old.past.disk n) ≡ true) (eqb-true other slot here) current) (missing number config since))
      by_slot other number config since stays current false differs = all.floored other number config since (was_not (old.past.lost other) (other == slot) differs stays) current

  happens : (old : Moment guid B) → KeepsAll disks old → (event : Event told disks tells_bytes streams guid old) → HasNext old event
  happens old all (Ended call tells_left same_sizes) =
      let on = ended old all call tells_left same_sizes in
      record {
        next = record { past = on.now; bay = exit_of told disks tells_bytes streams guid call; promises = on.promised; floor = old.floor; small = old.small };
        follows = record { comes = on.comes; is_bay = refl; is_promised = on.is_so; is_floor = refl };
        acked = on.acked;
        keeps = on.keeps;
      }
  happens old all (Cut call image was_left bay resumes) =
      let on = was_cut old all call image was_left bay resumes in
      record {
        next = record { past = on.now; bay = bay; promises = on.promised; floor = old.floor; small = old.small };
        follows = record { comes = on.comes; is_bay = refl; is_promised = on.is_so; is_floor = refl };
        acked = on.acked;
        keeps = on.keeps;
      }
  happens old all (Stopped bay resumes) = record {
    next = record { past = old.past; bay = bay; promises = old.promises; floor = old.floor; small = old.small };
    follows = record { comes = refl; is_bay = refl; is_promised = refl; is_floor = refl };
    acked = record { later = omega arith; same = λ i config le at. at };
    keeps = resumed old bay (IsLeft (disks old.bay).may_hold) resumes old.past old.promises all.shows all.keeps (by_image guid disks are old.past old.floor old.bay all.floored);
  }
  happens old all (Lost slot own) = record {
    next = record { past = lose old.past slot; bay = old.bay; promises = old.promises; floor = old.floor; small = old.small };
    follows = record { comes = refl; is_bay = refl; is_promised = refl; is_floor = refl };
    acked = record { later = omega arith; same = λ i config le at. at };
    keeps = lost_keeps old all slot own;
  }
  happens old all (Returned slot own missing) = record {
    next = record { past = give_back old.past slot; bay = old.bay; promises = old.promises; floor = old.floor; small = old.small };
    follows = record { comes = refl; is_bay = refl; is_promised = refl; is_floor = refl };
    acked = record { later = omega arith; same = λ i config le at. at };
    keeps = returned_keeps old all slot own missing;
  }
  happens old all (Forgotten fewer less) = record {
    next = record { past = old.past; bay = old.bay; promises = fewer; floor = old.floor; small = old.small };
    follows = record { comes = refl; is_bay = refl; is_promised = refl; is_floor = refl };
    acked = record { later = omega arith; same = λ i config le at. at };
    keeps = record { shows = all.shows; keeps = λ image left number config since array allowed value promised. all.keeps image left number config since array allowed value (less array allowed promised); floored = all.floored };
  }
  happens old all (Noticed array writable) = record {
    next = record { past = old.past; bay = old.bay; promises = with_promise old.promises array (Some any_bytes); floor = old.floor; small = old.small };
    follows = record { comes = refl; is_bay = refl; is_promised = refl; is_floor = refl };
    acked = record { later = omega arith; same = λ i config le at. at };
    keeps = record {
      shows = all.shows;
      keeps = λ image left. any_kept guid old.past old.floor array writable image (sectors disks are old.bay image left) old.promises (all.keeps image left);
      floored = all.floored;
    };
  }
  happens old all (Agreed array allowed agrees) = record {
    next = record { past = old.past; bay = old.bay; promises = with_promise old.promises array (Some allowed); floor = old.floor; small = old.small };
    follows = record { comes = refl; is_bay = refl; is_promised = refl; is_floor = refl };
    acked = record { later = omega arith; same = λ i config le at. at };
    keeps = record {
      shows = all.shows;
      keeps = λ image left.
          agreed_keep guid old.past old.floor array allowed image (sectors disks are old.bay image left) (λ number config entry. agrees image left number config entry) old.promises (all.keeps image left);
      floored = all.floored;
    };
  }
  happens old all (Kept array allowed keeps) = record {
    next = record { past = old.past; bay = old.bay; promises = with_promise old.promises array (Some allowed); floor = old.floor; small = old.small };
    follows = record { comes = refl; is_bay = refl; is_promised = refl; is_floor = refl };
    acked = record { later = omega arith; same = λ i config le at. at };
    keeps = record {
      shows = all.shows;
      keeps = λ image left. promised_keep guid old.past old.floor array allowed image (λ number config entry. keeps image left number config entry) old.promises (all.keeps image left);
      floored = all.floored;
    };
  }
  happens old all (Refloored floor small same) = record {
    next = record { past = old.past; bay = old.bay; promises = old.promises; floor = floor; small = small };
    follows = record { comes = refl; is_bay = refl; is_promised = refl; is_floor = refl };
    acked = record { later = omega arith; same = λ i config le at. at };
    keeps = record {
      shows = all.shows;
      keeps = λ image left. floors_keep guid old.past old.floor floor same image old.promises (all.keeps image left);
      floored = λ slot number config since stays current sector left.
          subst (HasFloor (slice_index (disks old.bay).sizes slot) sector) (sym (same slot number config since stays current)) (all.floored slot number config since stays current sector left);
    };
  }

  -- So it goes on.
  pub keeps_on : (events : ℕ) (moment : Moment guid B) → KeepsAll disks moment → KeepsOn told disks tells_bytes streams guid events moment
  keeps_on zero moment all = all
  keeps_on (suc more) moment all = (all, λ event. let on = happens moment all event in (on.next, on.follows, on.acked, keeps_on more on.next on.keeps))
