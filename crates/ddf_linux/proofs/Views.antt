-- What a run that was written turned means to one who sees the bay turned.
use Rattle.std.proofs.Common.{◌≡◌, ℕ, ◌+◌, ◌-◌, ◌<◌, ◌≤◌, List, [], ◌∷◌, length, get_or, inl, inr, ⊎_elim, sym, ◌∙◌, ap, arith}
use Rattle.std.proofs.Math.Path.{fun_ext}
use Rattle.std.proofs.lemmas.Bool.{cases_lt, cases_eq}
use Rattle.ddf_bay.specs.Sectors.{Image, Outcomes, InRun, put_run}
use Rattle.ddf_bay.specs.State.{BayState}
use Rattle.ddf_bay.specs.Moments.{StopsLeave, Adds, Mixes, IsAmong, IsSettled}
use Rattle.ddf_bay.proofs.Runs.{inside, before, after, other}
use Rattle.ddf_linux.specs.declared.kind.SlotKind.{SlotKind}
use Rattle.ddf_linux.specs.Kinds.{kind_at, turn}
use Rattle.ddf_linux.specs.State.{turned_image, turned_state}
use Rattle.ddf_linux.specs.TurnLaws.{turn_twice}

module _ (kinds : List SlotKind) (slot lba : ℕ) (vs ws : List (List ℕ)) (same : length ws ≡ length vs)
    (each : (k : ℕ) → k < length vs → get_or ws k [] ≡ turn (kind_at kinds slot) (lba + k) (get_or vs k [])) where
  there : (l : ℕ) → lba ≤ l → l < lba + length ws → get_or ws (l - lba) [] ≡ turn (kind_at kinds slot) l (get_or vs (l - lba) [])
  there l from below =
      let k : l - lba < length vs = omega (arith, from, below, same) in
      let at : lba + (l - lba) ≡ l = omega (arith, from) in
      each (l - lba) k ∙ ap (λ (m : ℕ). turn (kind_at kinds slot) m (get_or vs (l - lba) [])) at

  -- a sector that turned is the inner run's is the run's
  pub run_back : (l : ℕ) (v : List ℕ) → InRun lba ws l (turn (kind_at kinds slot) l v) → InRun lba vs l v
  run_back l v run = record {
    from = run.from;
    below = omega (arith, run.below, same);
    are = sym (turn_twice (kind_at kinds slot) l v) ∙ ap (turn (kind_at kinds slot) l) (run.are ∙ there l run.from run.below) ∙ turn_twice (kind_at kinds slot) l (get_or vs (l - lba) []);
  }

  pub run_here : (s l : ℕ) (v : List ℕ) → s ≡ slot → InRun lba ws l (turn (kind_at kinds s) l v) → InRun lba vs l v
  run_here s l v here run = run_back l v (rw here at run)

  pub adds_turned : (old new : Outcomes) → Adds old new slot lba ws
      → Adds (λ s l v. old s l (turn (kind_at kinds s) l v)) (λ s l v. new s l (turn (kind_at kinds s) l v)) slot lba vs
  adds_turned old new adds s l v left = ⊎_elim inl (λ run. inr (run.0, run_here s l v run.0 run.1)) (adds s l (turn (kind_at kinds s) l v) left)

  pub among_turned : (may : Outcomes) (image : Image) → IsAmong may slot lba ws (turned_image kinds image)
      → IsAmong (λ s l v. may s l (turn (kind_at kinds s) l v)) slot lba vs image
  among_turned may image among s l = ⊎_elim inl (λ run. inr (run.0, run_here s l (image s l) run.0 run.1)) (among s l)

  pub stops_turned : {D : Type 0} (old new : BayState D) → StopsLeave old new (IsAmong old.may_hold slot lba ws)
      → StopsLeave (turned_state kinds old) (turned_state kinds new) (IsAmong (turned_state kinds old).may_hold slot lba vs)
  stops_turned old new stops = record {
    later = stops.later;
    since = λ t image le left. ⊎_elim inl (λ now. inr (among_turned old.may_hold image now)) (stops.since t (turned_image kinds image) le left);
  }

  pub mixes_turned : (old new : Image) → Mixes old new slot lba ws → Mixes (turned_image kinds old) (turned_image kinds new) slot lba vs
  mixes_turned old new mixes s l = ⊎_elim
      (λ was. inl (ap (turn (kind_at kinds s) l) was))
      (λ run. inr (run.0, run_here s l (turn (kind_at kinds s) l (new s l)) run.0 (rw (turn_twice (kind_at kinds s) l (new s l)) run.1)))
      (mixes s l)

  at_slot : (image : Image) (l : ℕ) → turn (kind_at kinds slot) l (put_run image slot lba ws slot l) ≡ put_run (turned_image kinds image) slot lba vs slot l
  at_slot image l = ⊎_elim
      (λ under. ap (turn (kind_at kinds slot) l) (before image slot lba ws slot l under) ∙ sym (before (turned_image kinds image) slot lba vs slot l under))
      (λ from. ⊎_elim
      (λ below. ap (turn (kind_at kinds slot) l) (inside image slot lba ws l from below ∙ there l from below)
      ∙ turn_twice (kind_at kinds slot) l (get_or vs (l - lba) [])
      ∙ sym (inside (turned_image kinds image) slot lba vs l from (omega (arith, below, same))))
      (λ over. ap (turn (kind_at kinds slot) l) (after image slot lba ws slot l over) ∙ sym (after (turned_image kinds image) slot lba vs slot l (omega (arith, over, same))))
      (cases_lt l (lba + length ws)))
      (cases_lt l lba)

  at_any : (image : Image) (s l : ℕ) → turn (kind_at kinds s) l (put_run image slot lba ws s l) ≡ put_run (turned_image kinds image) slot lba vs s l
  at_any image s l = ⊎_elim
      (λ here. rw here (at_slot image l))
      (λ differs. ap (turn (kind_at kinds s) l) (other image slot lba ws s l differs) ∙ sym (other (turned_image kinds image) slot lba vs s l differs))
      (cases_eq s slot)

  pub put_turned : (image : Image) → turned_image kinds (put_run image slot lba ws) ≡ put_run (turned_image kinds image) slot lba vs
  put_turned image = fun_ext (λ s. fun_ext (λ l. at_any image s l))

-- a sector by itself
pub one_each : (kinds : List SlotKind) (slot lba : ℕ) (v w : List ℕ) → w ≡ turn (kind_at kinds slot) lba v
    → (k : ℕ) → k < length (v ∷ []) → get_or (w ∷ []) k [] ≡ turn (kind_at kinds slot) (lba + k) (get_or (v ∷ []) k [])
one_each kinds slot lba v w is k lt =
    let first : k ≡ 0 = omega (arith, lt) in
    let at : lba ≡ lba + 0 = omega arith in
    rw first (is ∙ ap (λ (m : ℕ). turn (kind_at kinds slot) m v) at)

-- nothing is pending on a slot
pub settled_turned : (kinds : List SlotKind) (may : Outcomes) (held : Image) (slot : ℕ) → IsSettled may held slot
    → IsSettled (λ s l v. may s l (turn (kind_at kinds s) l v)) (turned_image kinds held) slot
settled_turned kinds may held slot settled l v left = sym (turn_twice (kind_at kinds slot) l v) ∙ ap (turn (kind_at kinds slot) l) (settled l (turn (kind_at kinds slot) l v) left)
