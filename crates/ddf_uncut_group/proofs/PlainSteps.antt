-- The disks of all steps that were readied for a group of plain disks are plain, and how much is written of them.
use Rattle.std.proofs.Common.{◌≡◌, ◌∙◌, ℕ, suc, ◌+◌, ◌*◌, ◌≤◌, Bool, true, false, cond, List, [], ◌∷◌, length, map, filter, fold, Option, Some, None, Ok, if◌then◌else◌, ap, arith}
use Rattle.std.proofs.lemmas.List.{length-map}
use Rattle.std.specs.Prelude.{filter_map, slice_index}
use Rattle.std.specs.List.{AllByRecursion, cons_option, sum_by}
use Rattle.ddf_lemmas.proofs.Lists.{all_filter}
use Rattle.ddf_config.specs.Configuration.{Configuration}
use Rattle.ddf_copy.specs.Runs.{parts_of}
use Rattle.ddf_copy.specs.declared.which.Which.TheVariants.{Primary}
use Rattle.ddf_plan.specs.declared.change.Change.{Change}
use Rattle.ddf_view.specs.Shows.{shows}
use Rattle.ddf_view.specs.View.{view_of}
use Rattle.ddf_rewrite.specs.Before.{Before}
use Rattle.ddf_rewrite.specs.Copies.{recovered_copy}
use Rattle.ddf_seats.specs.declared.seated.Seated.{Seated}
use Rattle.ddf_seats.specs.Group.{GroupValue}
use Rattle.ddf_recovery.specs.Ready.{readied}
use Rattle.ddf_seats.specs.Leading.{lags, leading}
use Rattle.ddf_recovery.specs.Recovery.{mended, mended_copy, mended_or_kept, mending_step}
use Rattle.ddf_seats.specs.Seated.{seated, seated_at, levelled}
use Rattle.ddf_steps.specs.Steps.{Step, disks_after, rewritten, stays_in}
use Rattle.ddf_uncut_group.specs.Plain.{ArePlain, IsPlain}
use Rattle.ddf_uncut_group.proofs.PlainCopies.{after_plain, levelled_plain, plain_sectors, recovered_plain, written_plain}
use Rattle.ddf_uncut_group.proofs.PlainReadied.{readied_have}

module _ (sizes : List ℕ) where
  abbrev IsPlainDisk : Seated → Type 0
  IsPlainDisk disk = IsPlain (slice_index sizes disk.seat.slot) disk.copy

  -- ---- recovery

  -- A plain disk that is mended is plain.
  mended_plain : (leaders : Before) (config : Configuration) (timestamp : ℕ) (disk : Seated) → IsPlain (slice_index sizes disk.seat.slot) disk.copy
      → IsPlain (slice_index sizes disk.seat.slot) (mended leaders config timestamp disk).copy
  mended_plain leaders config timestamp disk is = written_plain (slice_index sizes disk.seat.slot) (mended_copy leaders config timestamp disk.copy) Primary (by (shows config (view_of disk.copy)))
    where
      by : (shown : Bool) → IsPlain (slice_index sizes disk.seat.slot) (if shown then disk.copy else recovered_copy disk.copy leaders config timestamp)
      by true = is
      by false = recovered_plain (slice_index sizes disk.seat.slot) disk.copy is leaders config timestamp

  all_mended : (leaders : Before) (config : Configuration) (timestamp : ℕ) (disks : List Seated) → ArePlain sizes disks → ArePlain sizes (map (mended leaders config timestamp) disks)
  all_mended leaders config timestamp [] are = tt
  all_mended leaders config timestamp (disk ∷ disks) are = (mended_plain leaders config timestamp disk are.0, all_mended leaders config timestamp disks are.1)

  kept_plain : (timestamp : ℕ) (group : GroupValue) (disks : List Seated) → ArePlain sizes disks → ArePlain sizes (map (mended_or_kept timestamp group) disks)
  kept_plain timestamp group [] all = tt
  kept_plain timestamp group (disk ∷ disks) all = (by (lags group disk), kept_plain timestamp group disks all.1)
    where
      by : (behind : Bool) → IsPlainDisk (if behind then levelled (mended (leading group) group.config timestamp disk) else disk)
      by true = mended_plain (leading group) group.config timestamp disk all.0
      by false = all.0

  -- All that was readied writes plain copies.
  pub readied_plain : (group : GroupValue) (changes : List Change) (timestamp : ℕ) (steps : List Step) → ArePlain sizes (seated group) → readied group changes timestamp ≡ Ok steps
      → AllByRecursion (λ step. ArePlain sizes step.disks) steps
  readied_plain =
      readied_have (ArePlain sizes) (after_plain sizes) (levelled_plain sizes)
      (λ timestamp group are. all_mended (leading group) group.config timestamp (filter (lags group) (seated group)) (all_filter IsPlainDisk (lags group) (seated group) are))
      (λ timestamp group are. kept_plain timestamp group (seated group) are)

-- ---- how much it writes

-- A test keeps no more items than there are.
few_kept : {X : Type 0} (test : X → Bool) (xs : List X) → length (filter test xs) ≤ length xs
few_kept test [] = omega arith
few_kept {X} test (x ∷ xs) = by (test x) (few_kept test xs)
  where
    by : (b : Bool) → length (filter test xs) ≤ length xs → length (cond b (x ∷ filter test xs) (filter test xs)) ≤ suc (length xs)
    by true rest = omega (arith, rest)
    by false rest = omega (arith, rest)

-- What is made of some items is no more than there are.
few_made : {X Y : Type 0} (f : X → Option Y) (xs : List X) → length (filter_map f xs) ≤ length xs
few_made f [] = omega arith
few_made {Y = Y} f (x ∷ xs) = by (f x) (few_made f xs)
  where
    by : (found : Option Y) → length (filter_map f xs) ≤ length xs → length (cons_option found (filter_map f xs)) ≤ suc (length xs)
    by None rest = omega (arith, rest)
    by (Some y) rest = omega (arith, rest)

module _ (most : ℕ) where
  -- there are no more of them
  abbrev AreFew : List Seated → Type 0
  AreFew disks = length disks ≤ most

  few_after : (timestamp : ℕ) (leaders : Before) (config : Configuration) (disks : List Seated) → length disks ≤ most → length (disks_after timestamp leaders config disks) ≤ most
  unfolding disks_after
  few_after timestamp leaders config disks few =
      let kept = few_kept (stays_in config) disks in
      let made = length-map (filter (stays_in config) disks) (rewritten leaders config timestamp) in
      omega (arith, few, kept, made)

  few_levelled : (disks : List Seated) → length disks ≤ most → length (map levelled disks) ≤ most
  few_levelled disks few = let same = length-map disks levelled in omega (arith, few, same)

  few_mending : (timestamp : ℕ) (group : GroupValue) → length (seated group) ≤ most → length (mending_step timestamp group).disks ≤ most
  few_mending timestamp group few =
      let kept = few_kept (lags group) (seated group) in
      let made = length-map (filter (lags group) (seated group)) (mended (leading group) group.config timestamp) in
      omega (arith, few, kept, made)

  few_behind : (timestamp : ℕ) (group : GroupValue) → length (seated group) ≤ most → length (map (mended_or_kept timestamp group) (seated group)) ≤ most
  few_behind timestamp group few = let same = length-map (seated group) (mended_or_kept timestamp group) in omega (arith, few, same)

  few_readied : (group : GroupValue) (changes : List Change) (timestamp : ℕ) (steps : List Step) → length (seated group) ≤ most → readied group changes timestamp ≡ Ok steps
      → AllByRecursion (λ step. length step.disks ≤ most) steps
  few_readied = readied_have AreFew few_after few_levelled few_mending few_behind

-- Each step writes no more disks than the group has seats.
pub seats_readied : (group : GroupValue) (changes : List Change) (timestamp : ℕ) (steps : List Step) → readied group changes timestamp ≡ Ok steps
    → AllByRecursion (λ step. length step.disks ≤ length group.seats) steps
unfolding seated
seats_readied group changes timestamp steps is = few_readied (length group.seats) group changes timestamp steps (few_made (seated_at group.newest) group.seats) is

costs_from : (sizes : List ℕ) (count : ℕ) (disks : List Seated) → ArePlain sizes disks
    → fold (λ sum disk. sum + (2 * (sum_by (λ part. part.length) (parts_of disk.copy.header.geometry) + 2) + 1)) count disks ≡ count + 83 * length disks
costs_from sizes count [] are = omega arith
costs_from sizes count (disk ∷ disks) are =
    let parts = plain_sectors (slice_index sizes disk.seat.slot) disk.copy are.0 in
    let here : count + (2 * (sum_by (λ part. part.length) (parts_of disk.copy.header.geometry) + 2) + 1) ≡ count + 83 = ap (λ (sectors : ℕ). count + (2 * (sectors + 2) + 1)) parts in
    let rest = costs_from sizes (count + (2 * (sum_by (λ part. part.length) (parts_of disk.copy.header.geometry) + 2) + 1)) disks are.1 in
    rest ∙ ap (λ (n : ℕ). n + 83 * length disks) here ∙ omega arith

-- Both copies of a plain disk, with the headers that are written twice and its anchor.
pub disks_cost : (sizes : List ℕ) (disks : List Seated) → ArePlain sizes disks
    → sum_by (λ disk. 2 * (sum_by (λ part. part.length) (parts_of disk.copy.header.geometry) + 2) + 1) disks ≡ 83 * length disks
disks_cost sizes disks are = costs_from sizes 0 disks are ∙ omega arith
