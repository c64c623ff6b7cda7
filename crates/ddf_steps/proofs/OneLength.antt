-- Disks whose records have one length: a change may be tried on their copies.
use Rattle.std.proofs.Common.{◌≡◌, ℕ, Bool, true, false, eqb, nat_le, List, [], ◌∷◌, fold, Option, Some, None, refl, sym, ap, subst, ◌∙◌, if◌then◌else◌}
use Rattle.std.proofs.lemmas.Bool.{and_parts, eqb-true, not-false}
use Rattle.std.specs.List.{AllByRecursion, list_all}
use Rattle.ddf_config.specs.declared.refusal.FullTable.{FullTable}
use Rattle.ddf_config.specs.declared.refusal.FullTable.TheVariants.{Records}
use Rattle.ddf_config.specs.Configuration.{Configuration}
use Rattle.ddf_rewrite.specs.Before.{Before, before}
use Rattle.ddf_rewrite.specs.Hold.{AreHeld, IsHoldable}
use Rattle.ddf_rewrite.proofs.Premises.{is_sound}
use Rattle.ddf_seats.specs.declared.seated.Seated.{Seated}
use Rattle.ddf_seats.specs.Seated.{views_in}
use Rattle.ddf_steps.specs.Steps.{stays_in}
use Rattle.ddf_steps.specs.Full.{full_of, full_on, full_where_written, least_full, lengths_differ, lesser, rank}
use Rattle.ddf_seats.specs.Changing.{record_length, AreCopies, CanBeHeldOn, CanBeLed, HaveLength}
use Rattle.ddf_steps.specs.Trying.{CanTry}
use Rattle.ddf_seats.proofs.RecordsHeld.{held_under}

-- ---- one length

lengths_same : (sectors : ℕ) (disks : List Seated) → list_all (λ other. eqb (record_length other) sectors) disks ≡ true → HaveLength sectors disks
lengths_same sectors [] h = tt
lengths_same sectors (disk ∷ disks) h =
    let parts = and_parts (eqb (record_length disk) sectors) (list_all (λ other. eqb (record_length other) sectors) disks) h in
    (eqb-true (record_length disk) sectors parts.0, lengths_same sectors disks parts.1)

pub one_length : (disk : Seated) (disks : List Seated) → lengths_differ (disk ∷ disks) ≡ false → HaveLength (record_length disk) (disk ∷ disks)
one_length disk disks h = (refl, lengths_same (record_length disk) disks (not-false _ h))

-- what one disk has, where all have one length
pub own_length : (sectors : ℕ) (disks : List Seated) (disk : Seated) → HaveLength sectors disks → record_length disk ≡ sectors → HaveLength (record_length disk) disks
own_length sectors disks disk same own = subst (λ (n : ℕ). HaveLength n disks) (sym own) same

-- What the disks themselves record can stand in the records of each.
pub led_by_all : (disks : List Seated) → AreCopies disks → CanBeLed (before (views_in disks)) disks
led_by_all disks are = each disks are
  where
    each : (some : List Seated) → AreCopies some
        → AllByRecursion (λ (disk : Seated). HaveLength (record_length disk) disks → AreHeld disk.copy.header.geometry (before (views_in disks))) some
    each [] are_copies = tt
    each (disk ∷ some) are_copies = (λ same. held_under disk.copy.header.geometry disks (is_sound disk.copy are_copies.0) are same, each some are_copies.1)

-- A change may be tried on each of them.
pub can_try_all : (leaders : Before) (config : Configuration) (disks : List Seated) → AreCopies disks → lengths_differ disks ≡ false → CanBeLed leaders disks → CanBeHeldOn config disks
    → AllByRecursion (CanTry leaders config) disks
can_try_all leaders config [] are same led held = tt
can_try_all leaders config (disk ∷ disks) are same led held = each (disk ∷ disks) are one led held
  where
    one : HaveLength (record_length disk) (disk ∷ disks)
    one = one_length disk disks same

    each : (some : List Seated) → AreCopies some → HaveLength (record_length disk) some
        → AllByRecursion (λ (other : Seated). HaveLength (record_length other) (disk ∷ disks) → AreHeld other.copy.header.geometry leaders) some
        → AllByRecursion (λ (other : Seated). HaveLength (record_length other) (disk ∷ disks) → IsHoldable other.copy.header.geometry.max_members config) some
        → AllByRecursion (CanTry leaders config) some
    each [] are_copies lengths leads holds = tt
    each (other ∷ others) are_copies lengths leads holds =
        let here = own_length (record_length disk) (disk ∷ disks) other one lengths.0 in (
          record { is_copy = are_copies.0; leaders_held = leads.0 here; holdable = holds.0 here },
          each others are_copies.1 lengths.1 leads.1 holds.1,
        )

-- ---- a full table

pub lesser_none : (one other : Option FullTable) → lesser one other ≡ None → (one ≡ None) × (other ≡ None)
lesser_none None other h = (refl, h)
lesser_none (Some one) None h = absurd cc
lesser_none (Some one) (Some other) h = by (nat_le (rank one) (rank other)) h
  where
    by : (b : Bool) → (if b then Some one else Some other) ≡ None → (Some one ≡ None) × (Some other ≡ None)
    by true h = absurd cc
    by false h = absurd cc

-- no disk has a full table
pub none_full : (leaders : Before) (config : Configuration) (timestamp : ℕ) (disks : List Seated) → least_full leaders config timestamp disks ≡ None
    → AllByRecursion (λ disk. full_where_written leaders config timestamp disk ≡ None) disks
unfolding least_full
none_full leaders config timestamp disks h = (from None disks h).1
  where
    from : (least : Option FullTable) (some : List Seated) → fold (λ one disk. lesser one (full_where_written leaders config timestamp disk)) least some ≡ None
        → (least ≡ None) × AllByRecursion (λ disk. full_where_written leaders config timestamp disk ≡ None) some
    from least [] h = (h, tt)
    from least (disk ∷ some) h =
        let rest = from (lesser least (full_where_written leaders config timestamp disk)) some h in
        let both = lesser_none least (full_where_written leaders config timestamp disk) rest.0 in
        (both.0, (both.1, rest.1))

-- Nothing is full: the records have one length, and no disk that is written has a full table.
pub record HasRoom (timestamp : ℕ) (leaders : Before) (config : Configuration) (disks : List Seated) : Type 0 where
  pub same : lengths_differ disks ≡ false
  pub none : AllByRecursion (λ disk. full_where_written leaders config timestamp disk ≡ None) disks

-- A disk that is written has room itself.
pub room_on : (leaders : Before) (config : Configuration) (timestamp : ℕ) (disk : Seated) → stays_in config disk ≡ true → full_where_written leaders config timestamp disk ≡ None
    → full_on leaders config timestamp disk ≡ None
room_on leaders config timestamp disk stays none = sym (ap (λ b. if b then full_on leaders config timestamp disk else None) stays) ∙ none

pub has_room : (timestamp : ℕ) (leaders : Before) (config : Configuration) (disks : List Seated) → full_of timestamp leaders config disks ≡ None → HasRoom timestamp leaders config disks
unfolding full_of
has_room timestamp leaders config disks h = by (lengths_differ disks) refl h
  where
    by : (b : Bool) → lengths_differ disks ≡ b → (if b then Some Records else least_full leaders config timestamp disks) ≡ None → HasRoom timestamp leaders config disks
    by true e h = absurd cc
    by false e h = record { same = e; none = none_full leaders config timestamp disks h }
