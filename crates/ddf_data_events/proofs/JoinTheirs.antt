-- Where a group joins another one wholly, its history and that of the group that it joins know the same disks.
use Rattle.std.proofs.Common.{◌≡◌, ◌∙◌, inl, inr, ℕ, ◌<◌, Bool, true, false, not, List, [], length, Option, Some, None, Ok, ap, sym, subst}
use Rattle.std.proofs.lemmas.Bool.{and_parts}
use Rattle.std.specs.Prelude.{slice_index_or}
use Rattle.ddf_lemmas.proofs.Lists.{in_map}
use Rattle.ddf_bay.specs.Sectors.{IsLeft}
use Rattle.ddf_bay.specs.State.{BayState}
use Rattle.ddf_config.specs.declared.seat.Seat.{Seat}
use Rattle.ddf_config.specs.Configuration.{Configuration}
use Rattle.ddf_copy.specs.declared.newest_copy.Newest.{Newest}
use Rattle.ddf_import.specs.Joined.{without_lost}
use Rattle.ddf_rewrite.proofs.Lists.{all_at}
use Rattle.ddf_history.specs.Groups.{Disk, groups, has_current, disk_of}
use Rattle.ddf_history.specs.Issued.{IsSince, Past}
use Rattle.ddf_history.specs.Leaders.{seen}
use Rattle.ddf_history.specs.Reading.{IsCopyOf}
use Rattle.ddf_history.specs.Scenes.{scene_of}
use Rattle.ddf_history.proofs.Calls.{seen_copy, seen_read}
use Rattle.ddf_history.proofs.Since.{first_is_copy}
use Rattle.ddf_steps.specs.Committed.{slots_of}
use Rattle.ddf_seats.specs.Group.{GroupValue}
use Rattle.ddf_assembly.specs.Group.{group_of}
use Rattle.ddf_joining.specs.Joining.{config_joining}
use Rattle.ddf_assembly.specs.Slots.{first_left_out, newest_from}
use Rattle.ddf_assembly.proofs.LeftOut.{none_left_out}
use Rattle.ddf_history_steps.specs.Going.{IsAdmitted}
use Rattle.ddf_history_joins.specs.Joins.{AdmitsBoth}
use Rattle.ddf_history_steps.specs.Kept.{is_read, is_slot}
use Rattle.ddf_history_steps.proofs.Begun.{assembled_since}
use Rattle.ddf_history_steps.proofs.Claimed as claims
use Rattle.ddf_history_steps.proofs.Slots.{slot_placed}
use Rattle.ddf_history_steps.proofs.Told.{found_name}
use Rattle.ddf_history_memory.proofs.Slots.{read_at, read_below}
use Rattle.ddf_data_history.specs.Promised.{is_seat}
use Rattle.ddf_data_calls.specs.Floors.{AllHaveFloors}
use Rattle.ddf_data_calls.proofs.Seats.{seats_listed}
use Rattle.ddf_data_events.specs.Joins.{HaveJoiningFloors}

module _ (group former : List ℕ) {D : Type 0} (state : BayState D) (left also_left : List Bool) (long : length left ≡ length state.sizes) (also_long : length also_left ≡ length state.sizes)
    (also_newest : List (Option Newest)) (also_read : also_newest ≡ newest_from state 0 also_left) (native other : GroupValue) (is_found : group_of also_newest (Some former) ≡ Ok other)
    (past : Past (groups group)) (admits : AdmitsBoth group past (scene_of state.sizes state.held) native other)
    (theirs : Past (groups former)) (admitted : IsAdmitted former theirs state also_left other) (whole : other.absent ≡ []) (none_out : first_left_out left other.seats ≡ None) where
  own : other.config.group ≡ former
  own = found_name also_newest former other is_found

  pub their_since : (number : ℕ) × IsSince theirs.changes number other.config
  their_since =
      assembled_since former state also_left also_newest also_long also_read theirs admitted.same_slots admitted.is_kept admitted.may_read admitted.member (Some former) other is_found own

  -- What joins is the whole group.
  pub all_joins : config_joining other ≡ other.config
  all_joins = ap (without_lost other.config) whole

  -- ---- the slot of a member

  record IsIn (disk : Disk) : Type 0 where
    pub slot : ℕ
    pub in_theirs : theirs.disk slot ≡ disk
    pub in_past : past.disk slot ≡ disk
    pub is_read_too : is_read also_left slot ≡ true
    pub joins : is_slot (slots_of other.seats) slot ≡ true

  is_in : (disk : Disk) → has_current other.config disk ≡ true → IsIn disk
  is_in disk current =
      let found =
      claims.none_absent former state also_left also_newest also_long also_read theirs admitted.same_slots admitted.is_kept admitted.may_read admitted.member (Some former) other is_found own whole disk current in
      let slot = found.0 in
      let view = found.1 in
      let first : IsCopyOf (seen (is_read also_left) (scene_of state.sizes state.held) slot) view = first_is_copy (seen (is_read also_left) (scene_of state.sizes state.held) slot) view found.2.is_first in
      let shown = seen_copy (is_read also_left slot) (scene_of state.sizes state.held slot) view first in
      let current_too : has_current other.config (disk_of view) ≡ true = ap (has_current other.config) found.3 ∙ current in
      let since = their_since in
      record {
        slot = slot;
        in_theirs = sym (admitted.is_kept.named slot view shown (inr (since.0, other.config, since.1, current_too))) ∙ found.3;
        in_past = sym (admits.names slot view shown (inr (subst (λ (config : Configuration). has_current config (disk_of view) ≡ true) (sym all_joins) current_too))) ∙ found.3;
        is_read_too = seen_read (is_read also_left slot) (scene_of state.sizes state.held slot) view first;
        joins = claims.claimed_seated former state also_left also_newest also_long also_read theirs admitted.same_slots admitted.is_kept admitted.may_read admitted.member (Some former) other is_found own slot view found.2;
      }

  -- The first look read each slot that joins.
  read_first : (slot : ℕ) → is_slot (slots_of other.seats) slot ≡ true → slot < length left → is_read left slot ≡ true
  read_first slot joins below =
      let at = slot_placed (slots_of other.seats) slot joins in
      let seat = in_map (λ (one : Seat). one.slot) other.seats at.0 slot at.1 in
      read_at left slot below
      (subst (λ (n : ℕ). slice_index_or left n false ≡ false) seat.2 (all_at (λ (one : Seat). slice_index_or left one.slot false ≡ false) other.seats at.0 seat.0 (none_left_out left other.seats none_out) seat.1))

  -- ---- what each of both knows of the other's disks

  pub brought : (slot : ℕ) → is_seat former theirs other.config slot ≡ true → (past.disk slot ≡ theirs.disk slot) × (is_read left slot ≡ true)
  brought slot here =
      let current = (and_parts (not (theirs.lost slot)) (has_current other.config (theirs.disk slot)) here).1 in
      let at = is_in (theirs.disk slot) current in
      let since = their_since in
      let one : slot ≡ at.slot = admitted.is_kept.alone slot at.slot since.0 other.config since.1 current (sym at.in_theirs) in
      let below : at.slot < length left = subst (λ (n : ℕ). at.slot < n) (also_long ∙ sym long) (read_below also_left at.slot at.is_read_too) in (
        ap past.disk one ∙ at.in_past,
        ap (is_read left) one ∙ read_first at.slot at.joins below,
      )

  pub known : (slot : ℕ) → has_current other.config (past.disk slot) ≡ true → (past.disk slot ≡ theirs.disk slot) × (theirs.lost slot ≡ false)
  known slot current =
      let at = is_in (past.disk slot) current in
      let one : slot ≡ at.slot = admits.alone slot at.slot (subst (λ (config : Configuration). has_current config (past.disk slot) ≡ true) (sym all_joins) current) (sym at.in_past) in (
        sym (ap theirs.disk one ∙ at.in_theirs),
        ap theirs.lost one ∙ admitted.may_read.not_lost at.slot at.is_read_too,
      )

  -- ---- floors

  -- So each disk that joins has the floor that it has there.
  pub joining_floors : (held : IsLeft state.may_hold state.held) (floor : ℕ → ℕ) → AllHaveFloors former theirs state floor → HaveJoiningFloors group past state floor other
  joining_floors held floor floors slot (inl joins) sector left =
      let at = slot_placed (slots_of other.seats) slot joins in
      let seat = in_map (λ (one : Seat). one.slot) other.seats at.0 slot at.1 in
      let since = their_since in
      let listed =
      seats_listed former state also_left also_newest also_long also_read theirs admitted.same_slots admitted.is_kept admitted.may_read admitted.member (Some former) other is_found own floor
      (λ k number config is_since stays current. floors k number config is_since stays current (state.held k) (λ l. held k l)) at.0 seat.0 seat.1 in
      floors slot since.0 other.config since.1 (subst (λ (k : ℕ). theirs.lost k ≡ false) seat.2 listed.not_lost)
      (subst (λ (k : ℕ). has_current other.config (theirs.disk k) ≡ true) seat.2 listed.is_current) sector left
  joining_floors held floor floors slot (inr joins) sector left =
      let current : has_current other.config (past.disk slot) ≡ true = subst (λ (config : Configuration). has_current config (past.disk slot) ≡ true) all_joins joins.1 in
      let there = known slot current in
      let since = their_since in
      floors slot since.0 other.config since.1 there.1 (ap (has_current other.config) (sym there.0) ∙ current) sector left
