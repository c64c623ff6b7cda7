-- Slots whose members a change takes away may as well be lost: the seats behind it are those before it on the slots that are left then.
use Rattle.std.proofs.Common.{◌≡◌, ℕ, Bool, true, false, not, List, refl, sym, ap, ◌&&◌, ◌||◌}
use Rattle.std.proofs.Math.Path.{fun_ext}
use Rattle.std.specs.Prelude.{filter_map}
use Rattle.std.specs.List.{range_with_len}
use Rattle.ddf_config.specs.Configuration.{Configuration}
use Rattle.ddf_history.specs.Groups.{Disk, groups, has_current}
use Rattle.ddf_history.specs.Issued.{Past}
use Rattle.ddf_data_history.specs.Promised.{is_seat, seat_if}
use Rattle.ddf_stage_promise.specs.Footing.{Footing}
use Rattle.ddf_stage_promise.specs.Staged.{losing, seats_on}

module _ (group : List ℕ) (past : Past (groups group)) (next : Configuration) (lost : ℕ → Bool) where
  pub more : ℕ → Bool
  more slot = lost slot || not (has_current next (past.disk slot))

  or_first : (a b : Bool) → a ≡ true → (a || b) ≡ true
  or_first true b e = refl
  or_first false b e = absurd (cc)

  pub more_stay : ((slot : ℕ) → past.lost slot ≡ true → lost slot ≡ true) → (slot : ℕ) → past.lost slot ≡ true → more slot ≡ true
  unfolding more
  more_stay stay slot gone = or_first (lost slot) (not (has_current next (past.disk slot))) (stay slot gone)

  module _ (footing : Footing) (last : Configuration) (no_more : (disk : Disk) → has_current next disk ≡ true → has_current last disk ≡ true) where
    seat_is_by : (a c d : Bool) → (c ≡ true → d ≡ true) → (not a && c) ≡ (not (a || not c) && d)
    seat_is_by true c d up = refl
    seat_is_by false true d up = sym (up refl)
    seat_is_by false false d up = refl

    seat_is : (slot : ℕ) → is_seat group (losing group footing past lost) next slot ≡ is_seat group (losing group footing past more) last slot
    unfolding more
    seat_is slot = seat_is_by (lost slot) (has_current next (past.disk slot)) (has_current last (past.disk slot)) (no_more (past.disk slot))

    pub seats_same : seats_on group footing (losing group footing past lost) next ≡ seats_on group footing (losing group footing past more) last
    seats_same = ap (λ (here : ℕ → Bool). filter_map (λ slot. seat_if (here slot) footing.floor (past.disk slot) slot) (range_with_len 0 past.slots)) (fun_ext seat_is)
