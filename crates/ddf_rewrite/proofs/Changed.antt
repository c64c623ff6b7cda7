-- The copy that a change gives a disk shows the configuration.
use Rattle.std.proofs.Common.{◌≡◌, ℕ, ◌≤◌, true, List, length, Some, None, refl, ap, ◌∙◌, arith}
use Rattle.std.proofs.lemmas.List.{length-map}
use Rattle.std.specs.Prelude.{slice_get}
use Rattle.std.specs.List.{list_all}
use Rattle.ddf_lemmas.proofs.Lists.{in_map, mapped_at}
use Rattle.ddf_tables.specs.declared.disks.DiskEntry.{DiskEntry}
use Rattle.ddf_copy.specs.declared.copy.DiskCopy.{DiskCopy}
use Rattle.ddf_config.specs.Configuration.{Configuration}
use Rattle.ddf_view.specs.Shows.{holds_all, shows}
use Rattle.ddf_view.specs.View.{find_held, view_of}
use Rattle.ddf_rewrite.specs.Arrays.{arrays_after}
use Rattle.ddf_rewrite.specs.Before.{Before, leading_record}
use Rattle.ddf_rewrite.specs.Changing.{HasRoomFor}
use Rattle.ddf_rewrite.specs.Copies.{changed_copy, changed_holding, changed_holdings, is_copied_on, own_record}
use Rattle.ddf_rewrite.specs.Disks.{block_size_of, changed_disks, disk_on, disks_for, member_entry}
use Rattle.ddf_rewrite.specs.Elements.{changed_record}
use Rattle.ddf_rewrite.specs.Notes.{Holding, note_of}
use Rattle.ddf_rewrite.specs.Readable.{AreRebuilt, HasOwnNames}
use Rattle.ddf_rewrite.specs.Wanted.{Wanted, all_wanted}
use Rattle.ddf_rewrite.proofs.Showing.{copy_arrays, copy_disks, copy_shows}
use Rattle.ddf_rewrite.proofs.Tables.{members_given}
use Rattle.ddf_rewrite.proofs.Holdings.{record_planned}
use Rattle.ddf_rewrite.proofs.Given.{HasAll, all_given, all_held, elements_given, elements_held}
use Rattle.ddf_rewrite.proofs.Made.{AreApart, Makes, made_apart, made_found, made_none, made_noted}

-- ---- the records

pub changed_makes : (old : DiskCopy) (leaders : Before) (config : Configuration) (timestamp : ℕ) → Makes config (changed_holding old leaders config timestamp)
changed_makes old leaders config timestamp = record {
  wanted_is = λ wanted. refl;
  planned = λ n wanted at. record_planned config timestamp old.header.geometry old.header.revision (own_record old wanted) (leading_record leaders wanted.guid wanted.index) wanted;
}

pub changed_apart : (old : DiskCopy) (leaders : Before) (config : Configuration) (timestamp : ℕ) → HasOwnNames config → AreApart (changed_holdings old leaders config timestamp)
unfolding changed_holdings
changed_apart old leaders config timestamp names = made_apart config (changed_holding old leaders config timestamp) names (changed_makes old leaders config timestamp)

module _ (old : DiskCopy) (leaders : Before) (config : Configuration) (timestamp : ℕ) (names : HasOwnNames config) (room : HasRoomFor old leaders config timestamp) where
  abbrev disks : List DiskEntry
  disks = changed_disks config leaders.disks old.header.revision (view_of old).disks

  pub changed_noted : (view_of (changed_copy old leaders config timestamp)).noted ≡ true
  unfolding changed_copy
  changed_noted = made_noted old true config timestamp disks (changed_holdings old leaders config timestamp) (changed_apart old leaders config timestamp names) room.records

  -- the record of an element, with its note
  pub record_found : (n : ℕ) (wanted : Wanted) → slice_get (all_wanted config) n ≡ Some wanted
      → find_held wanted.guid wanted.index (view_of (changed_copy old leaders config timestamp)).elements
      ≡ Some (record { element = changed_record config timestamp old.header.geometry old.header.revision (own_record old wanted) (leading_record leaders wanted.guid wanted.index) wanted; note = Some (note_of (is_copied_on old.disk_data.reference wanted) wanted.plan) })
  unfolding changed_copy changed_holdings
  record_found n wanted at =
      made_found old true config timestamp disks (changed_holdings old leaders config timestamp) (changed_apart old leaders config timestamp names) room.records n (changed_holding old leaders config timestamp wanted) (mapped_at (changed_holding old leaders config timestamp) (all_wanted config) n wanted at)

  -- and of no other element there is one
  pub none_found : (guid : List ℕ) (index : ℕ) → ((n : ℕ) (wanted : Wanted) → slice_get (all_wanted config) n ≡ Some wanted → wanted.guid ≡ guid → wanted.index ≡ index → ⊥)
      → find_held guid index (view_of (changed_copy old leaders config timestamp)).elements ≡ None
  unfolding changed_copy changed_holdings
  none_found guid index away =
      made_none old true config timestamp disks (changed_holdings old leaders config timestamp) (changed_apart old leaders config timestamp names) room.records guid index (λ n holding at is there.
      let from = in_map (changed_holding old leaders config timestamp) (all_wanted config) n holding at in
      away n from.0 from.1 (ap (λ (h : Holding). h.wanted.guid) from.2 ∙ is) (ap (λ (h : Holding). h.wanted.index) from.2 ∙ there))

  -- Of each complete element the copy holds the record with its note, and of no other one.
  pub has_all : HasAll config (view_of (changed_copy old leaders config timestamp)).elements
  has_all = record {
    found = λ n wanted at. (
      is_copied_on old.disk_data.reference wanted,
      changed_record config timestamp old.header.geometry old.header.revision (own_record old wanted) (leading_record leaders wanted.guid wanted.index) wanted,
      record_found n wanted at,
      record_planned config timestamp old.header.geometry old.header.revision (own_record old wanted) (leading_record leaders wanted.guid wanted.index) wanted,
    );
    none = λ guid index away. none_found guid index away;
  }

-- ---- what the copy shows

disks_fit : (old : DiskCopy) (leaders : Before) (config : Configuration) (timestamp : ℕ) → HasRoomFor old leaders config timestamp → length (changed_disks config leaders.disks old.header.revision (view_of old).disks) ≤ length old.disks.rows
unfolding changed_disks
disks_fit old leaders config timestamp room =
    let long = length-map config.members (λ entry. disk_on (view_of old).disks (block_size_of old.header.revision) (member_entry (all_wanted config) leaders.disks entry)) in
    let few = room.disks in
    omega (arith, long, few)

pub disks_are : (old : DiskCopy) (leaders : Before) (config : Configuration) (timestamp : ℕ) → HasRoomFor old leaders config timestamp
    → (view_of (changed_copy old leaders config timestamp)).disks ≡ disks_for old.header.revision true config (changed_disks config leaders.disks old.header.revision (view_of old).disks)
unfolding changed_copy
disks_are old leaders config timestamp room =
    copy_disks old true config timestamp (changed_disks config leaders.disks old.header.revision (view_of old).disks) (changed_holdings old leaders config timestamp) (disks_fit old leaders config timestamp room)

pub arrays_are : (old : DiskCopy) (leaders : Before) (config : Configuration) (timestamp : ℕ) → HasRoomFor old leaders config timestamp
    → (view_of (changed_copy old leaders config timestamp)).arrays ≡ arrays_after config (view_of old).arrays
unfolding changed_copy
arrays_are old leaders config timestamp room =
    copy_arrays old true config timestamp (changed_disks config leaders.disks old.header.revision (view_of old).disks) (changed_holdings old leaders config timestamp) room.arrays

-- The copy that a change gives a disk shows the configuration, with valid notes and every complete element.
pub changed_shows : (old : DiskCopy) (leaders : Before) (config : Configuration) (timestamp : ℕ) → HasOwnNames config → AreRebuilt config → HasRoomFor old leaders config timestamp
    → shows config (view_of (changed_copy old leaders config timestamp)) ≡ true
unfolding changed_copy
changed_shows old leaders config timestamp names rebuilt room =
    let view = view_of (changed_copy old leaders config timestamp) in
    let elements = elements_given config view.elements names (all_given config view.elements rebuilt (has_all old leaders config timestamp names room)) in
    copy_shows old true config timestamp (changed_disks config leaders.disks old.header.revision (view_of old).disks) (changed_holdings old leaders config timestamp)
    (disks_fit old leaders config timestamp room) room.arrays (members_given config leaders.disks (view_of old).disks old.header.revision) elements

pub changed_holds : (old : DiskCopy) (leaders : Before) (config : Configuration) (timestamp : ℕ) → HasOwnNames config → HasRoomFor old leaders config timestamp
    → list_all (holds_all (view_of (changed_copy old leaders config timestamp)).elements) config.arrays ≡ true
changed_holds old leaders config timestamp names room =
    let elements = (view_of (changed_copy old leaders config timestamp)).elements in
    elements_held config elements (all_held config elements (has_all old leaders config timestamp names room))
