-- Records of copies with one length can stand under a geometry with that length.
use Rattle.std.proofs.Common.{◌≡◌, List, [], ◌∷◌, map, refl, ap, subst}
use Rattle.std.specs.List.{AllByRecursion}
use Rattle.ddf_header.specs.declared.geometry.Geometry.{Geometry}
use Rattle.ddf_header.specs.Geometry.{IsSound}
use Rattle.ddf_view.specs.View.{View, view_of}
use Rattle.ddf_rewrite.specs.Before.{before}
use Rattle.ddf_rewrite.specs.Hold.{AreHeld, IsLeader}
use Rattle.ddf_rewrite.proofs.Leaders.{leaders_held}
use Rattle.ddf_seats.specs.declared.seated.Seated.{Seated}
use Rattle.ddf_seats.specs.Seated.{views_in}
use Rattle.ddf_seats.specs.Changing.{AreCopies, HaveLength}

pub leaders_all : (geometry : Geometry) (disks : List Seated) → AreCopies disks → HaveLength geometry.record_length disks → AllByRecursion (IsLeader geometry) (map (λ (disk : Seated). disk.copy) disks)
leaders_all geometry [] are same = tt
leaders_all geometry (disk ∷ disks) are same = (record { is_copy = are.0; same_records = same.0 }, leaders_all geometry disks are.1 same.1)

pub views_are : (disks : List Seated) → map view_of (map (λ (disk : Seated). disk.copy) disks) ≡ views_in disks
views_are [] = refl
views_are (disk ∷ disks) = ap (λ l. view_of disk.copy ∷ l) (views_are disks)

-- Records of copies with one length can stand under a geometry with that length.
pub held_under : (geometry : Geometry) (disks : List Seated) → IsSound geometry → AreCopies disks → HaveLength geometry.record_length disks → AreHeld geometry (before (views_in disks))
held_under geometry disks is are same =
    subst (λ (views : List View). AreHeld geometry (before views)) (views_are disks)
    (leaders_held geometry (map (λ (disk : Seated). disk.copy) disks) is (leaders_all geometry disks are same))
