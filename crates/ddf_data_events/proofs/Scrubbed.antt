-- An array that a scrub found clean agrees in what the disks hold.
use Rattle.std.proofs.Common.{◌≡◌, ◌∙◌, ℕ, Bool, false, List, [], length, Option, Some, Ok, if◌then◌else◌, sym, ap, subst}
use Rattle.std.proofs.Math.Path.{fun_ext}
use Rattle.std.specs.Map.{lookup}
use Rattle.ddf_bay.specs.Moments.{IsSettled}
use Rattle.ddf_bay.specs.Sectors.{Image}
use Rattle.ddf_bay.specs.State.{BayState}
use Rattle.ddf_config.specs.declared.array.Array.{Array}
use Rattle.ddf_config.specs.declared.seat.Seat.{Seat}
use Rattle.ddf_config.specs.Configuration.{Configuration}
use Rattle.ddf_config.specs.Members.{same_guid}
use Rattle.ddf_copy.specs.declared.newest_copy.Newest.{Newest}
use Rattle.ddf_array.specs.Redundant.{IsRedundant}
use Rattle.ddf_array.specs.Viewing.{view_of}
use Rattle.ddf_array.specs.Volume.{IsVolume, Volume}
use Rattle.ddf_cells.specs.Degraded.{is_degraded}
use Rattle.ddf_resync.specs.declared.outcome.Scrub.TheVariants.{Clean}
use Rattle.ddf_data_array.specs.Allowed.{once_consistent}
use Rattle.ddf_data_array.specs.Rows.{HasNoRows}
use Rattle.ddf_data_array.proofs.Consistent.{counted_may, whole_consistent}
use Rattle.ddf_data_array.proofs.RowsKept.{no_rows_kept}
use Rattle.ddf_data_group.specs.Over.{IsOver, absent_in}
use Rattle.ddf_data_group.proofs.Clearly.{IsUsed, used}
use Rattle.ddf_rewrite.proofs.Lists.{some_same}
use Rattle.ddf_history.specs.Groups.{groups}
use Rattle.ddf_history.specs.Issued.{Past, leave_out}
use Rattle.ddf_seats.specs.Group.{GroupValue}
use Rattle.ddf_assembly.specs.Group.{group_of}
use Rattle.ddf_recovery.specs.Recovery.{config_lost, config_recovered, trusted_seats}
use Rattle.ddf_seats.specs.Leading.{some}
use Rattle.ddf_assembly.specs.Slots.{newest_from}
use Rattle.ddf_history_steps.specs.Going.{IsAdmitted}
use Rattle.ddf_history_steps.specs.Kept.{is_read}
use Rattle.ddf_data_history.specs.Promised.{IsAlone, seats_in}
use Rattle.ddf_data_history.proofs.Viewed.{over_unique}
use Rattle.ddf_data_disks.specs.Seats.{AreAlikeSeats}
use Rattle.ddf_data_disks.proofs.Alike.{view_same}
use Rattle.ddf_answer.specs.Call.{work_of}
use Rattle.ddf_read_commands.specs.Scrub.{IsArrayScrubbed}
use Rattle.ddf_data_calls.specs.Calls.{left_over}
use Rattle.ddf_data_calls.specs.Reading.{AdmitsRead, Means}
use Rattle.ddf_data_calls.proofs.Printed.{known, meant_group}
use Rattle.ddf_data_calls.proofs.Recovered.{recovered_alike}
use Rattle.ddf_data_events.specs.Events.{AgreesAt, IsAgreeing}
use Rattle.ddf_data_events.specs.Moments.{KeepsAll, Moment}
use Rattle.ddf_data_events.proofs.Bays.{AreBays, held_sectors}
use Rattle.ddf_data_events.proofs.Floors.{by_held}

module _ {B : Type 0} (tells : Type 0) (told : tells) (disks : B → BayState B) (are : AreBays disks) (group : List ℕ) (moment : Moment group B) (all : KeepsAll disks moment)
    (tells_left : (disks moment.bay).tells_left) (new : B) (left : List Bool) (long : length left ≡ length (disks moment.bay).sizes) (newest : List (Option Newest))
    (read : newest ≡ newest_from (disks moment.bay) 0 left) (named : Option (List ℕ)) (means : Means group newest named) (found : GroupValue) (is_found : group_of newest named ≡ Ok found)
    (admitted : IsAdmitted group moment.past (disks moment.bay) left found) (absent : found.absent ≡ []) (trusted : trusted_seats found ≡ found.seats) (alone : IsAlone group moment.past found.config)
    (settled : (slot : ℕ) → IsSettled (disks moment.bay).may_hold (disks moment.bay).held slot) (word : List ℕ)
    (scrub : IsArrayScrubbed (work_of tells (disks moment.bay) (disks new)) found.config (trusted_seats found) word Clean) (whole : is_degraded scrub.used.1 ≡ false) (no_rows : HasNoRows scrub.used.1) where
  abbrev held : Image
  held = (disks moment.bay).held

  abbrev guid : List ℕ
  guid = scrub.used.0

  abbrev v : Volume
  v = scrub.used.1

  admits : AdmitsRead group moment.past moment.floor moment.promises (disks moment.bay) left
  admits = record {
    same_slots = admitted.same_slots;
    may_read = admitted.may_read;
    member = admitted.member;
    is_kept = admitted.is_kept;
    keeps = all.keeps held ((are moment.bay).held tells_left);
    have_floors = by_held group disks are moment.past moment.floor moment.bay all.floored tells_left;
  }

  own : found.config.group ≡ group
  own = meant_group group (disks moment.bay) left newest long read moment.past moment.floor moment.promises admits named means found is_found

  known_view : IsVolume scrub.used.1
  known_view =
      known group tells told (disks moment.bay) (disks new) moment.past moment.floor moment.small moment.promises left admits newest long read named found is_found own guid v scrub.usable.is_view

  -- ---- the seats

  none : some found.absent ≡ false
  none = ap some absent

  config_is : config_recovered found ≡ found.config
  unfolding config_recovered
  config_is = ap (λ (b : Bool). if b then config_lost found else found.config) none

  over_is : left_over group moment.past (is_read left) found ≡ moment.past
  over_is = ap (λ (b : Bool). if b then leave_out moment.past (is_read left) found.config else moment.past) none

  abbrev listed : List Seat
  listed = seats_in group moment.past moment.floor found.config

  alike : AreAlikeSeats found.seats (seats_in group moment.past moment.floor found.config)
  alike =
      subst (λ (past : Past (groups group)). AreAlikeSeats found.seats (seats_in group past moment.floor found.config)) over_is
      (subst (λ (config : Configuration). AreAlikeSeats found.seats (seats_in group (left_over group moment.past (is_read left) found) moment.floor config)) config_is
      (recovered_alike group (disks moment.bay) left newest long read moment.past admitted.same_slots admitted.is_kept admitted.may_read admitted.member named found is_found own
      moment.floor (by_held group disks are moment.past moment.floor moment.bay all.floored tells_left)))

  use_of : IsUsed found.config scrub.used.0 (seats_in group moment.past moment.floor found.config) scrub.used.1
  use_of = used found.config guid listed v (sym (view_same found.seats listed alike found.config guid) ∙ ap (view_of found.config guid) (sym trusted) ∙ scrub.usable.is_view) known_view

  -- ---- the array

  volume_is : (config : Configuration) → config ≡ found.config → (entry : Array) → lookup (same_guid scrub.used.0) config.arrays ≡ Some entry → (volume : Volume)
      → IsOver (seats_in group moment.past moment.floor config) entry volume → scrub.used.1 ≡ volume
  volume_is config same entry there volume over =
      let here : lookup (same_guid guid) found.config.arrays ≡ Some entry = ap (λ (one : Configuration). lookup (same_guid guid) one.arrays) (sym same) ∙ there in
      over_unique listed entry v volume
      (subst (λ (array : Array). IsOver listed array v) (some_same (use_of).is_found here) (use_of).over)
      (subst (λ (one : Configuration). IsOver (seats_in group moment.past moment.floor one) entry volume) same over)

  clean : IsRedundant scrub.used.1 (disks moment.bay).held
  clean = scrub.scrubbed told (held_sectors disks are moment.bay tells_left)

  in_held : (is_absent : ℕ → ℕ → Bool) → IsAgreeing is_absent scrub.used.1 (disks moment.bay).held (once_consistent scrub.used.1 (disks moment.bay).held)
  in_held is_absent = record {
    consistent = whole_consistent is_absent v held whole clean;
    rows = no_rows_kept is_absent v held no_rows;
    may = counted_may v held;
  }

  pub scrubbed_agrees : AgreesAt disks moment scrub.used.0 (once_consistent scrub.used.1 (disks moment.bay).held)
  scrubbed_agrees image is_left number config entry since there volume over =
      let same : image ≡ held = fun_ext (λ s. fun_ext (λ l. settled s l (image s l) (is_left s l))) in
      let is_absent = absent_in config.members (seats_in group moment.past moment.floor config) entry.elements in
      subst (λ (one : Image). IsAgreeing is_absent volume one (once_consistent v held)) (sym same)
      (subst (λ (one : Volume). IsAgreeing is_absent one held (once_consistent v held)) (volume_is config (alone number config since) entry there volume over) (in_held is_absent))
