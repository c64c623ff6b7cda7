-- Changes behind a recovery for which a table is full.
use Rattle.std.proofs.Common.{◌≡◌, ℕ, Bool, true, false, max, List, [], ◌∷◌, map, filter, fold, Option, Some, None, Result, Err, refl, sym, ap, ◌∙◌, if◌then◌else◌}
use Rattle.std.specs.Prelude.{unwrap_or}
use Rattle.ddf_config.specs.declared.refusal.FullTable.{FullTable}
use Rattle.ddf_config.specs.declared.refusal.Refusal.{Refusal}
use Rattle.ddf_config.specs.declared.refusal.Refusal.TheVariants.{Full}
use Rattle.ddf_config.specs.declared.seat.Seat.{Seat}
use Rattle.ddf_config.specs.Configuration.{Configuration}
use Rattle.ddf_config.specs.Refusals.{first_refusal}
use Rattle.ddf_header.specs.declared.reading.Header.{Header}
use Rattle.ddf_view.specs.Shows.{shows}
use Rattle.ddf_view.specs.View.{view_of}
use Rattle.ddf_plan.specs.declared.change.Change.{Change}
use Rattle.ddf_plan.specs.Causes.{causes}
use Rattle.ddf_plan.specs.Same.{is_step}
use Rattle.ddf_rewrite.specs.Copies.{recovered_copy}
use Rattle.ddf_seats.specs.declared.seated.Seated.{Seated}
use Rattle.ddf_seats.specs.Group.{GroupValue}
use Rattle.ddf_seats.specs.Seated.{seated, seats_in, levelled}
use Rattle.ddf_steps.specs.Steps.{Step, disks_after, rewritten, stays_in, step_of}
use Rattle.ddf_steps.specs.Refusing.{most_members, room_if_step, step_refusal}
use Rattle.ddf_steps.specs.Ready.{steps_from, with_step}
use Rattle.ddf_recovery.specs.Recovery.{config_lost, config_recovered, disks_recovered, lost_step, mended, mended_or_kept}
use Rattle.ddf_seats.specs.Leading.{lags, leading, some}
use Rattle.ddf_steps.proofs.Rewritten.{changed_header}

module _ (timestamp : ℕ) (table : FullTable) (config : Configuration) where
  -- The first change is refused for its own causes, and else for the table.
  pub full_first : (disks : List Seated) (change : Change) (changes : List Change)
      → steps_from timestamp (Some table) (change ∷ changes) config disks ≡ Err (unwrap_or (causes (Some (most_members disks)) config change (seats_in disks)) (Full table))
  unfolding step_refusal
  full_first disks change changes = by (causes (Some (most_members disks)) config change (seats_in disks))
    where
      by : (cause : Option Refusal) → ◌≡◌ {A = Result (List Step) Refusal}
          (elim (first_refusal (cause ∷ Some (Full table) ∷ room_if_step timestamp config disks change ∷ [])) [
            | Some refusal ↦ Err refusal
            | None ↦
                if is_step config change
                then with_step (step_of timestamp config disks change)
                (steps_from timestamp None changes (step_of timestamp config disks change).config (map levelled (step_of timestamp config disks change).disks))
                else steps_from timestamp None changes config disks
          ])
          (Err (unwrap_or cause (Full table)))
      by None = refl
      by (Some refusal) = refl

  -- Disks of the same seats, and with room for as many members, are refused alike.
  pub full_alike : (one other : List Seated) → seats_in one ≡ seats_in other → most_members one ≡ most_members other → (changes : List Change)
      → steps_from timestamp (Some table) changes config one ≡ steps_from timestamp (Some table) changes config other
  full_alike one other seats most [] = refl
  full_alike one other seats most (change ∷ changes) =
      full_first one change changes
      ∙ ap (λ (n : ℕ). Err (unwrap_or (causes (Some n) config change (seats_in one)) (Full table))) most
      ∙ ap (λ (on : List Seat). Err (unwrap_or (causes (Some (most_members other)) config change on) (Full table))) seats
      ∙ sym (full_first other change changes)

-- ---- disks that are written

-- Written disks have the same seats.
pub seats_same : (write : Seated → Seated) → ((disk : Seated) → (write disk).seat ≡ disk.seat) → (disks : List Seated) → seats_in (map write disks) ≡ seats_in disks
seats_same write same_seat [] = refl
seats_same write same_seat (disk ∷ disks) =
    ap (λ (seat : Seat). seat ∷ seats_in (map write disks)) (same_seat disk) ∙ ap (λ (others : List Seat). disk.seat ∷ others) (seats_same write same_seat disks)

module _ (write : Seated → Seated)
    (same_most : (disk : Seated) → (write disk).copy.header.geometry.max_members ≡ disk.copy.header.geometry.max_members) where
  most_from : (most : ℕ) (disks : List Seated) → fold (λ n disk. max n disk.copy.header.geometry.max_members) most (map write disks) ≡ fold (λ n disk. max n disk.copy.header.geometry.max_members) most disks
  most_from most [] = refl
  most_from most (disk ∷ disks) =
      ap (λ (n : ℕ). fold (λ n disk. max n disk.copy.header.geometry.max_members) (max most n) (map write disks)) (same_most disk)
      ∙ most_from (max most disk.copy.header.geometry.max_members) disks

  -- They have room for as many members.
  pub most_same : (disks : List Seated) → most_members (map write disks) ≡ most_members disks
  most_same disks = most_from 0 disks

-- A disk keeps its seat.
pub mended_seat : (timestamp : ℕ) (group : GroupValue) (disk : Seated) → (mended_or_kept timestamp group disk).seat ≡ disk.seat
mended_seat timestamp group disk = by (lags group disk)
  where
    by : (b : Bool) → (if b then levelled (mended (leading group) group.config timestamp disk) else disk).seat ≡ disk.seat
    by true = refl
    by false = refl

module _ (timestamp : ℕ) (table : FullTable) (group : GroupValue) (changes : List Change) where
  abbrev refused_behind : Result (List Step) Refusal
  refused_behind = steps_from timestamp (Some table) changes (config_recovered group) (disks_recovered timestamp group)

  -- Behind a loss.
  pub full_lost : some group.absent ≡ true → steps_from timestamp (Some table) changes (config_lost group) (filter (stays_in (config_lost group)) (seated group)) ≡ refused_behind
  unfolding config_recovered disks_recovered disks_after
  full_lost are =
      let leaders = leading group in
      let config = config_lost group in
      let kept = filter (stays_in config) (seated group) in
      let after = map (rewritten leaders config timestamp) kept in
      let write_seats = seats_same (rewritten leaders config timestamp) (λ disk. refl) kept in
      let write_most = most_same (rewritten leaders config timestamp) (λ disk. ap (λ (header : Header). header.geometry.max_members) (changed_header disk.copy leaders config timestamp)) kept in
      full_alike timestamp table config kept (map levelled after)
      (sym (seats_same levelled (λ disk. refl) after ∙ write_seats))
      (sym (most_same levelled (λ disk. refl) after ∙ write_most)) changes
      ∙ ap (λ (b : Bool). steps_from timestamp (Some table) changes (if b then config else group.config) (if b then map levelled after else map (mended_or_kept timestamp group) (seated group))) (sym are)

  mended_members : (disk : Seated) → (mended_or_kept timestamp group disk).copy.header.geometry.max_members ≡ disk.copy.header.geometry.max_members
  unfolding recovered_copy
  mended_members disk = by (lags group disk) (shows group.config (view_of disk.copy))
    where
      copy_by : (shown : Bool) → (if shown then disk.copy else recovered_copy disk.copy (leading group) group.config timestamp).header.geometry.max_members ≡ disk.copy.header.geometry.max_members
      copy_by true = refl
      copy_by false = refl

      by : (b shown : Bool) → (if b then levelled (mended (leading group) group.config timestamp disk) else disk).copy.header.geometry.max_members ≡ disk.copy.header.geometry.max_members
      by true shown = copy_by (shows group.config (view_of disk.copy))
      by false shown = refl

  -- Where nothing is lost.
  pub full_kept : some group.absent ≡ false → steps_from timestamp (Some table) changes group.config (seated group) ≡ refused_behind
  unfolding config_recovered disks_recovered
  full_kept none =
      full_alike timestamp table group.config (seated group) (map (mended_or_kept timestamp group) (seated group))
      (sym (seats_same (mended_or_kept timestamp group) (mended_seat timestamp group) (seated group)))
      (sym (most_same (mended_or_kept timestamp group) mended_members (seated group))) changes
      ∙ ap (λ (b : Bool). steps_from timestamp (Some table) changes (if b then config_lost group else group.config)
      (if b then map levelled (lost_step timestamp group).disks else map (mended_or_kept timestamp group) (seated group))) (sym none)
