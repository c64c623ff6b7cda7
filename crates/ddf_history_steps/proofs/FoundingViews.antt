-- Views with notes, no array and no record: what they give, and that those of one disk table agree.
use Rattle.std.proofs.Common.{◌≡◌, ℕ, Bool, true, false, not, List, [], ◌∷◌, Option, None, Some, if◌then◌else◌, refl, ap, map, nat_eq}
use Rattle.std.proofs.lemmas.Bool.{and_from, eq-eqb}
use Rattle.std.specs.List.{IsDistinct}
use Rattle.std.specs.Option.{option_eq}
use Rattle.std.specs.Cmp.Lexicographic.{pointwise}
use Rattle.ddf_lemmas.proofs.Lists.{bytes_same, none_passes}
use Rattle.ddf_tables.specs.declared.disks.DiskEntry.{DiskEntry}
use Rattle.ddf_config.specs.declared.member.SpareUse.TheVariants as spares
use Rattle.ddf_config.specs.Configuration.{Configuration}
use Rattle.ddf_view.specs.View.{View, has_bit, is_missing}
use Rattle.ddf_view.specs.Reading.{member_entry_in, read, spare_in}
use Rattle.ddf_view.specs.Shows.{gives_member, gives_spare, same_spare, shows, shows_fully}
use Rattle.ddf_view.specs.Differ.{difference, differing_disks, disk_differs, numbered_disk, same_disk}
use Rattle.ddf_view.proofs.AlikeCopies.{flag_again}
use Rattle.ddf_view.proofs.Common.{disk_itself}
use Rattle.ddf_history.specs.Groups.{ShowsFully}

-- a view with these disks, with notes, and with no array and no record
abbrev pub plain_view : (group guid : List ℕ) → (reference : ℕ) → List DiskEntry → View
plain_view group guid reference disks = record {
  group = group;
  sequence = 1;
  guid = guid;
  reference = reference;
  disks = disks;
  arrays = [];
  elements = [];
  noted = true;
  spare = None;
}

-- ---- what is shown

-- A disk gives the member that is read of it.
member_given : (views : List View) (disk : DiskEntry) → gives_member disk (member_entry_in views disk) ≡ true
member_given views disk =
    rw (eq-eqb disk.reference disk.reference refl, bytes_same disk.guid, eq-eqb disk.size disk.size refl, flag_again (is_missing disk)) refl

-- So do all.
pub members_given : (views : List View) (disks : List DiskEntry) → pointwise gives_member disks (map (member_entry_in views) disks) ≡ true
members_given views [] = refl
members_given views (disk ∷ disks) =
    and_from (gives_member disk (member_entry_in views disk)) (pointwise gives_member disks (map (member_entry_in views) disks))
    (member_given views disk) (members_given views disks)

module _ (group first_guid guid : List ℕ) (first reference : ℕ) (all : List DiskEntry) where
  -- the first view alone
  abbrev alone : List View
  alone = plain_view group first_guid first all ∷ []

  -- what it gives
  abbrev config : Configuration
  config = read group 1 alone

  -- the view
  abbrev view : View
  view = plain_view group guid reference all

  -- Without an array a disk is a spare of all or of none, by whichever view.
  spare_given : (disk : DiskEntry) → gives_spare view disk (member_entry_in alone disk) ≡ true
  unfolding spare_in
  spare_given disk = by_type (has_bit disk.kind.0 2) (has_bit disk.kind.0 3)
    where
      by_type : (global third : Bool) → same_spare (if global then (if third then spares.Revertible else spares.Global) else spares.No) (if global then (if third then spares.Revertible else spares.Global) else spares.No) ≡ true
      by_type true true = refl
      by_type true false = refl
      by_type false third = refl

  -- So is each.
  spares_given : (disks : List DiskEntry) → pointwise (gives_spare view) disks (map (member_entry_in alone) disks) ≡ true
  spares_given [] = refl
  spares_given (disk ∷ disks) =
      and_from (gives_spare view disk (member_entry_in alone disk))
      (pointwise (gives_spare view) disks (map (member_entry_in alone) disks)) (spare_given disk) (spares_given disks)

  -- The view shows it.
  is_shown : shows config view ≡ true
  unfolding shows read
  is_shown = rw (bytes_same group, members_given alone all) refl

  -- It shows it fully.
  is_full : shows_fully config view ≡ true
  unfolding shows_fully read
  is_full = rw (is_shown, spares_given all) refl

  -- So it does where each disk has a reference of its own.
  pub plain_shows : IsDistinct nat_eq (map (λ disk. disk.reference) all) → ShowsFully view config
  unfolding read IsDistinct
  plain_shows distinct = record {
    shows = record { shows = is_shown; names = record { references = distinct; guids = tt } };
    fully = is_full;
    notes = tt;
    readable = tt;
  }

-- ---- agreement

-- What is found in a table is the same as itself.
found_itself : (found : Option (ℕ × DiskEntry)) → option_eq same_disk found found ≡ true
found_itself None = refl
found_itself (Some placed) = disk_itself placed

-- A table doesn't differ from itself.
none_differs : (disks : List DiskEntry) → differing_disks disks disks ≡ []
none_differs disks = none_passes (disk_differs disks disks) (λ reference. ap not (found_itself (numbered_disk reference disks))) _

-- Two such views of one table agree.
pub plain_agree : (group one_guid other_guid : List ℕ) (one other : ℕ) (disks : List DiskEntry)
    → difference (plain_view group one_guid one disks) (plain_view group other_guid other disks) ≡ None
unfolding difference
plain_agree group one_guid other_guid one other disks = let none = none_differs disks in rw none refl
