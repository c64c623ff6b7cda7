-- The seats of a group that blocks may be read from.
use Rattle.std.proofs.Common.{◌≡◌, ℕ, Bool, true, false, List, [], ◌∷◌, map, filter, Option, Some, None, refl, subst, ap, ◌∙◌, if◌then◌else◌}
use Rattle.std.specs.Prelude.{filter_map, slice_get}
use Rattle.std.specs.List.{cons_option, list_any}
use Rattle.std.proofs.lemmas.Bool.{or_parts}
use Rattle.ddf_copy.specs.declared.newest_copy.Newest.{Newest}
use Rattle.ddf_config.specs.declared.seat.Seat.{Seat}
use Rattle.ddf_config.specs.Configuration.{Configuration}
use Rattle.ddf_config.specs.Seats.{SeatsFit}
use Rattle.ddf_view.specs.Reading.{are_noted}
use Rattle.ddf_group.specs.declared.shown.Shown.{Shown}
use Rattle.ddf_group.specs.Shown.{shown_of}
use Rattle.ddf_rewrite.proofs.AllWanted.{filter_map_get}
use Rattle.ddf_seats.specs.declared.seated.Seated.{Seated}
use Rattle.ddf_seats.specs.Group.{GroupValue}
use Rattle.ddf_recovery.specs.Recovery.{has_stray, trusted_seats}
use Rattle.ddf_seats.specs.Leading.{leading_disks, leading_views, leads}
use Rattle.ddf_seats.specs.Seated.{seated, seats_in, views_in}
use Rattle.ddf_recovery.specs.Stray.{is_stray, trusted_seat}
use Rattle.ddf_seats.proofs.CommittedSeats.{seated_is}

-- What is found of each disk is found of the group.
pub trusted_disk_by_disk : (group : GroupValue) (disks : List Seated) (seats : List Seat) → disks ≡ seated group
    → seats ≡ filter_map (trusted_seat (map shown_of group.newest) group.newest (are_noted (views_in (filter (leads group.config) disks))) group.config) disks
    → seats ≡ trusted_seats group
unfolding trusted_seats leading_disks
trusted_disk_by_disk group disks seats same is =
    subst (λ (all : List Seated). seats ≡ filter_map (trusted_seat (map shown_of group.newest) group.newest (are_noted (views_in (filter (leads group.config) all))) group.config) all) same is

-- It is the seat of its disk.
own_seat : (slots : List Shown) (newest : List (Option Newest)) (noted : Bool) (config : Configuration) (disk : Seated) (seat : Seat) → trusted_seat slots newest noted config disk ≡ Some seat → disk.seat ≡ seat
own_seat slots newest noted config disk seat = by (is_stray slots newest noted config disk)
  where
    by : (b : Bool) → (if b then None else Some disk.seat) ≡ Some seat → disk.seat ≡ seat
    by true is = absurd cc
    by false is = cc

-- Each is a seat of the group.
pub trusted_there : (group : GroupValue) (k : ℕ) (seat : Seat) → slice_get (trusted_seats group) k ≡ Some seat → (place : ℕ) × (slice_get group.seats place ≡ Some seat)
unfolding trusted_seats
trusted_there group k seat at =
    let from = filter_map_get (trusted_seat (map shown_of group.newest) group.newest (are_noted (leading_views group)) group.config) (seated group) k seat at in
    let own = seated_is group from.0 from.1 from.2 in
    (own.place, own.is_seat ∙ ap (λ (one : Seat). Some one) (own_seat (map shown_of group.newest) group.newest (are_noted (leading_views group)) group.config from.1 seat from.3))

pub trusted_fit : (sizes : List ℕ) (group : GroupValue) → SeatsFit sizes group.seats → SeatsFit sizes (trusted_seats group)
trusted_fit sizes group fit k seat at = let there = trusted_there group k seat at in fit there.0 seat there.1

-- Where no disk is stray they are all.
all_seats : (slots : List Shown) (newest : List (Option Newest)) (noted : Bool) (config : Configuration) (disks : List Seated) → list_any (is_stray slots newest noted config) disks ≡ false
    → filter_map (trusted_seat slots newest noted config) disks ≡ seats_in disks
all_seats slots newest noted config [] none = refl
all_seats slots newest noted config (disk ∷ disks) none =
    let parts = or_parts (is_stray slots newest noted config disk) (list_any (is_stray slots newest noted config) disks) none in
    ap (λ (b : Bool). cons_option (if b then None else Some disk.seat) (filter_map (trusted_seat slots newest noted config) disks)) parts.0
    ∙ ap (λ (seats : List Seat). disk.seat ∷ seats) (all_seats slots newest noted config disks parts.1)

pub trusted_all : (group : GroupValue) → seats_in (seated group) ≡ group.seats → has_stray group ≡ false → trusted_seats group ≡ group.seats
unfolding trusted_seats
trusted_all group are_seated none = all_seats (map shown_of group.newest) group.newest (are_noted (leading_views group)) group.config (seated group) none ∙ are_seated
