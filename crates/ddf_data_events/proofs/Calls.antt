-- Each call of a history keeps it and the data of the group: at its end, and where a stop cuts it.
use Rattle.std.proofs.Common.{◌≡◌, ℕ, Bool, true, false, List, refl, sym, subst}
use Rattle.std.specs.Prelude.{slice_index}
use Rattle.ddf_bytes.specs.Streams.{SourceState}
use Rattle.ddf_bay.specs.ReadsOnly.{ReadsOnly}
use Rattle.ddf_bay.specs.Sectors.{Image, IsLeft}
use Rattle.ddf_bay.specs.State.{BayState}
use Rattle.ddf_bay.proofs.Steps.{stops_weaken}
use Rattle.ddf_config.specs.Configuration.{Configuration}
use Rattle.ddf_history.specs.Groups.{has_current}
use Rattle.ddf_history.specs.Issued.{IsSince}
use Rattle.ddf_history.specs.Promise.{IsKept}
use Rattle.ddf_history.specs.Scenes.{scene_of}
use Rattle.ddf_history_steps.specs.Floors.{HasFloor}
use Rattle.ddf_history_steps.specs.Kept.{is_slot}
use Rattle.ddf_data_history.specs.Carried.{Stays}
use Rattle.ddf_data_calls.specs.Calls.{KeepsBoth}
use Rattle.ddf_data_calls.specs.Floors.{HaveFloorsIn}
use Rattle.ddf_data_calls.proofs.Taken.{only_reads}
use Rattle.ddf_data_events.specs.Calls.{Call, OtherCall, course_of}
use Rattle.ddf_data_events.specs.Calls.Call.{Accepts, Changes, Copies, Joins, Others, Reads, Rebuilds, Resyncs, Writes}
use Rattle.ddf_data_events.specs.Calls.Course.{Passing}
use Rattle.ddf_data_events.specs.Moments.{KeepsAll, Moment}
use Rattle.ddf_data_events.proofs.Bays.{AreBays, sectors}
use Rattle.ddf_data_events.proofs.Blocks.{copyback_sound, rebuild_sound, resync_sound, write_sound}
use Rattle.ddf_data_events.proofs.Changed.{accept_sound, change_sound}
use Rattle.ddf_data_events.proofs.Floors.{by_image, since_entry}
use Rattle.ddf_data_events.proofs.Joined.{join_sound}
use Rattle.ddf_data_events.proofs.Others.{other_keeps, other_shows, others}
use Rattle.ddf_data_events.proofs.Sound.{IsSound, by_moment, same_past}

module _ {B : Type 0} {tells : Type 0} (told : tells) (disks : B → BayState B) {S : Type 0} (tells_bytes : Type 0) (streams : S → SourceState) (guid : List ℕ) (are : AreBays disks)
    (old : Moment guid B) (all : KeepsAll disks old) where
  -- ---- a call that only reads

  module _ (exit : B) (reads : ReadsOnly (disks old.bay) (disks exit)) where
    reads_keep : KeepsBoth guid (disks old.bay) (disks exit) old.floor (λ now. now ≡ old.past) (λ now. now ≡ old.past) (Stays old.promises) (Stays old.promises)
    reads_keep = only_reads guid (disks old.bay) (disks exit) old.past old.floor old.promises reads all.shows all.keeps

    reads_floors : (image : Image) → (disks exit).left_since (disks old.bay).moment image → HaveFloorsIn guid old.past (disks old.bay).sizes image old.floor
    reads_floors = since_entry guid disks are old.past old.floor old.bay exit all.floored (stops_weaken reads.any_moment (by_image guid disks are old.past old.floor old.bay all.floored))

    reads_sound : IsSound told disks tells_bytes streams guid are old all (Passing exit)
    reads_sound = record {
      later = reads.any_moment.later;
      ends = reads_keep.ends;
      cuts = λ image was_left sound. by_moment told disks tells_bytes streams guid are old all exit reads_keep refl refl image was_left sound;
      ends_floored = same_past told disks tells_bytes streams guid are old all exit reads_floors;
      cuts_floored = same_past told disks tells_bytes streams guid are old all exit reads_floors;
    }

  -- ---- a call on other disks

  module _ (call : OtherCall told disks tells_bytes streams guid old) where
    other_was : (image : Image) → IsLeft (disks call.beside.exit).may_hold image → (disks call.beside.exit).left_since (disks old.bay).moment image
    other_was image left = (are call.beside.exit).counts (disks old.bay).moment image call.beside.leaves_others.later left

    other_floors : (image : Image) → (disks call.beside.exit).left_since (disks old.bay).moment image → HaveFloorsIn guid old.past (disks old.bay).sizes image old.floor
    other_floors image was_left = λ slot number config since stays current. by slot number config since stays current (is_slot call.beside.written slot) refl
      where
        by : (slot number : ℕ) (config : Configuration) → IsSince old.past.changes number config → old.past.lost slot ≡ false → has_current config (old.past.disk slot) ≡ true
            → (b : Bool) → is_slot call.beside.written slot ≡ b → HasFloor (slice_index (disks old.bay).sizes slot) (image slot) (old.floor slot)
        by slot number config since stays current true here = absurd (call.no_member slot number config here since current)
        by slot number config since stays current false other =
            all.floored slot number config since stays current (image slot) (λ l. others told disks tells_bytes streams guid (λ bay. (are bay).only_now) old all call image was_left slot l other)

    other_sound : IsSound told disks tells_bytes streams guid are old all (Passing call.beside.exit)
    other_sound = record {
      later = call.beside.leaves_others.later;
      ends = λ tells_left. record {
        now = old.past;
        promised = old.promises;
        ends = refl;
        is_so = refl;
        all_kept = λ image left.
            subst (λ (sizes : List ℕ). IsKept old.past (scene_of sizes image)) (sym call.same_sizes) (other_shows told disks tells_bytes streams guid (λ bay. (are bay).only_now) old all call image (other_was image left));
        all_data = λ image left.
            other_keeps told disks tells_bytes streams guid (λ bay. (are bay).only_now) old all call image (other_was image left) (sectors disks are call.beside.exit image left);
      };
      cuts = λ image was_left sound. record {
        now = old.past;
        promised = old.promises;
        goes = refl;
        may = refl;
        is_kept = other_shows told disks tells_bytes streams guid (λ bay. (are bay).only_now) old all call image was_left;
        keeps = other_keeps told disks tells_bytes streams guid (λ bay. (are bay).only_now) old all call image was_left sound;
      };
      ends_floored = same_past told disks tells_bytes streams guid are old all call.beside.exit other_floors;
      cuts_floored = same_past told disks tells_bytes streams guid are old all call.beside.exit other_floors;
    }

  -- ---- each call

  pub sound : (call : Call told disks tells_bytes streams guid old) → IsSound told disks tells_bytes streams guid are old all (course_of told disks tells_bytes streams guid call)
  sound (Changes call) = change_sound told disks tells_bytes streams guid are old all call
  sound (Accepts accept) = accept_sound told disks tells_bytes streams guid are old all accept
  sound (Resyncs call) = resync_sound told disks tells_bytes streams guid are old all call
  sound (Writes call) = write_sound told disks tells_bytes streams guid are old all call
  sound (Rebuilds call) = rebuild_sound told disks tells_bytes streams guid are old all call
  sound (Copies call) = copyback_sound told disks tells_bytes streams guid are old all call
  sound (Joins call) = join_sound told disks tells_bytes streams guid are old all call
  sound (Others call) = other_sound call
  sound (Reads exit reads) = reads_sound exit reads
