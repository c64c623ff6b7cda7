-- What is read from copies that can be written can be held, and what is held and has room can be written.
use Rattle.std.proofs.Common.{◌≡◌, ℕ, ◌<◌, ◌^◌, List, ◌∷◌, length, map, None, arith}
use Rattle.std.proofs.lemmas.List.{length-map}
use Rattle.std.specs.List.{AllByRecursion}
use Rattle.ddf_header.specs.declared.geometry.Geometry.{Geometry}
use Rattle.ddf_header.specs.Geometry.{IsSound}
use Rattle.ddf_header.proofs.Sound.{sound}
use Rattle.ddf_copy.specs.declared.copy.DiskCopy.{DiskCopy}
use Rattle.ddf_copy.specs.Written.{CanBeCopy}
use Rattle.ddf_view.specs.Reading.{disks_in, elements_in, member_entry_in, read}
use Rattle.ddf_view.specs.View.{View, view_of}
use Rattle.ddf_rewrite.specs.Before.{before}
use Rattle.ddf_rewrite.specs.Copies.{recovered_copy}
use Rattle.ddf_rewrite.specs.Hold.{CanBeRecovered, IsHoldable, IsLeader}
use Rattle.ddf_rewrite.specs.Room.{full_after_recovery}
use Rattle.ddf_rewrite.proofs.NamesCan.{own_names}
use Rattle.ddf_rewrite.proofs.ReadCan.{fits_all, read_can_hold}
use Rattle.ddf_rewrite.proofs.ReadHas.{read_rebuilt, read_readable, read_spares}
use Rattle.ddf_rewrite.proofs.Leaders.{leaders_held, leader_disks}
use Rattle.ddf_rewrite.proofs.Roomy.{recovery_can}
use Rattle.ddf_rewrite.proofs.Writable.{recovered_copy_can}
use Rattle.ddf_view.proofs.Names.{names_differ}

-- ---- what is read

pub read_is_holdable : (geometry : Geometry) (copy : DiskCopy) (copies : List DiskCopy) → IsSound geometry → AllByRecursion (IsLeader geometry) (copy ∷ copies)
    → IsHoldable geometry.max_members (read copy.header.guid copy.header.sequence (map view_of (copy ∷ copies)))
read_is_holdable geometry copy copies sound all =
    let views = map view_of (copy ∷ copies) in
    let config = read copy.header.guid copy.header.sequence views in
    let fit = fits_all geometry (elements_in views) (leaders_held geometry (copy ∷ copies) sound all) in
    let can = read_can_hold geometry copy copies sound all in
    record {
      can_hold = can;
      names = own_names config can.guids;
      readable = read_readable geometry.max_members copy.header.guid copy.header.sequence views fit;
      rebuilt = read_rebuilt copy.header.guid copy.header.sequence views;
      spares = read_spares geometry.max_members copy.header.guid copy.header.sequence views fit (leader_disks copy (map view_of copies) all.0.is_copy) (names_differ copy (map view_of copies) all.0.is_copy).guids;
    }

-- ---- a recovery from leaders

-- there are as many members as entries
pub members_many : (group : List ℕ) (sequence : ℕ) (views : List View) → length (read group sequence views).members ≡ length (disks_in views)
unfolding read
members_many group sequence views = length-map (disks_in views) (member_entry_in views)

pub leaders_recover : (old copy : DiskCopy) (copies : List DiskCopy) (timestamp : ℕ) → CanBeCopy old → AllByRecursion (IsLeader old.header.geometry) (copy ∷ copies) → timestamp < 2 ^ 32
    → full_after_recovery old (before (map view_of (copy ∷ copies))) (read copy.header.guid copy.header.sequence (map view_of (copy ∷ copies))) ≡ None
    → CanBeRecovered old (before (map view_of (copy ∷ copies))) (read copy.header.guid copy.header.sequence (map view_of (copy ∷ copies))) timestamp
leaders_recover old copy copies timestamp is all time none =
    let views = map view_of (copy ∷ copies) in
    let geometry = old.header.geometry in
    let sound = sound geometry is.header_can.is_header.has_geometry in
    let many = members_many copy.header.guid copy.header.sequence views in
    recovery_can old (before views) (read copy.header.guid copy.header.sequence views) timestamp is (read_is_holdable geometry copy copies sound all) (leaders_held geometry (copy ∷ copies) sound all)
    (leader_disks copy (map view_of copies) all.0.is_copy) (omega (arith, many)) time none

-- A recovery of what leaders give, for which a disk has room, gives it a copy that can be written.
pub roomy_recovery_can : (old copy : DiskCopy) (copies : List DiskCopy) (timestamp : ℕ) → CanBeCopy old → AllByRecursion (IsLeader old.header.geometry) (copy ∷ copies) → timestamp < 2 ^ 32
    → full_after_recovery old (before (map view_of (copy ∷ copies))) (read copy.header.guid copy.header.sequence (map view_of (copy ∷ copies))) ≡ None
    → CanBeCopy (recovered_copy old (before (map view_of (copy ∷ copies))) (read copy.header.guid copy.header.sequence (map view_of (copy ∷ copies))) timestamp)
roomy_recovery_can old copy copies timestamp is all time none =
    recovered_copy_can old (before (map view_of (copy ∷ copies))) (read copy.header.guid copy.header.sequence (map view_of (copy ∷ copies))) timestamp is (leaders_recover old copy copies timestamp is all time none)
