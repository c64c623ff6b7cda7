-- What a run that was written turned means to one who sees the bay turned.
use Rattle.std.proofs.Common.{◌≡◌, ℕ, ◌+◌, ◌-◌, ◌<◌, ◌≤◌, List, [], ◌∷◌, length, get_or, inl, inr, ⊎_elim, sym, ◌∙◌, ap, arith}
use Rattle.std.specs.Prelude.{Option}
use Rattle.std.proofs.Math.Path.{fun_ext}
use Rattle.std.proofs.lemmas.Bool.{cases_lt, cases_eq}
use Rattle.ddf_bay.specs.Sectors.{Image, Outcomes, InRun, put_run}
use Rattle.ddf_bay.specs.State.{BayState}
use Rattle.ddf_bay.specs.Moments.{StopsLeave, Adds, Mixes, IsAmong, IsSettled}
use Rattle.ddf_bay.proofs.Runs.{inside, before, after, other}
use Rattle.ddf_hidden_logs.specs.declared.mask.Mask.{Mask}
use Rattle.ddf_hidden_logs.specs.Masks.{mask_of, turn}
use Rattle.ddf_hidden_logs.specs.State.{shown_image, shown_state}
use Rattle.ddf_hidden_logs.specs.TurnLaws.{turn_twice}

module _ (masks : List (Option Mask)) (slot lba : ℕ) (vs ws : List (List ℕ)) (same : length ws ≡ length vs)
    (each : (k : ℕ) → k < length vs → get_or ws k [] ≡ turn (mask_of masks slot) (lba + k) (get_or vs k [])) where
  there : (l : ℕ) → lba ≤ l → l < lba + length ws → get_or ws (l - lba) [] ≡ turn (mask_of masks slot) l (get_or vs (l - lba) [])
  there l from below =
      let k : l - lba < length vs = omega (arith, from, below, same) in
      let at : lba + (l - lba) ≡ l = omega (arith, from) in
      each (l - lba) k ∙ ap (λ (m : ℕ). turn (mask_of masks slot) m (get_or vs (l - lba) [])) at

  -- a sector that turned is the inner run's is the run's
  pub run_back : (l : ℕ) (v : List ℕ) → InRun lba ws l (turn (mask_of masks slot) l v) → InRun lba vs l v
  run_back l v run = record {
    from = run.from;
    below = omega (arith, run.below, same);
    are = sym (turn_twice (mask_of masks slot) l v) ∙ ap (turn (mask_of masks slot) l) (run.are ∙ there l run.from run.below) ∙ turn_twice (mask_of masks slot) l (get_or vs (l - lba) []);
  }

  pub run_here : (s l : ℕ) (v : List ℕ) → s ≡ slot → InRun lba ws l (turn (mask_of masks s) l v) → InRun lba vs l v
  run_here s l v here run = run_back l v (rw here at run)

  pub adds_shown : (old new : Outcomes) → Adds old new slot lba ws
      → Adds (λ s l v. old s l (turn (mask_of masks s) l v)) (λ s l v. new s l (turn (mask_of masks s) l v)) slot lba vs
  adds_shown old new adds s l v left = ⊎_elim inl (λ run. inr (run.0, run_here s l v run.0 run.1)) (adds s l (turn (mask_of masks s) l v) left)

  pub among_shown : (may : Outcomes) (image : Image) → IsAmong may slot lba ws (shown_image masks image)
      → IsAmong (λ s l v. may s l (turn (mask_of masks s) l v)) slot lba vs image
  among_shown may image among s l = ⊎_elim inl (λ run. inr (run.0, run_here s l (image s l) run.0 run.1)) (among s l)

  pub stops_shown : {D : Type 0} (old new : BayState D) → StopsLeave old new (IsAmong old.may_hold slot lba ws)
      → StopsLeave (shown_state masks old) (shown_state masks new) (IsAmong (shown_state masks old).may_hold slot lba vs)
  stops_shown old new stops = record {
    later = stops.later;
    since = λ t image le left. ⊎_elim inl (λ now. inr (among_shown old.may_hold image now)) (stops.since t (shown_image masks image) le left);
  }

  pub mixes_shown : (old new : Image) → Mixes old new slot lba ws → Mixes (shown_image masks old) (shown_image masks new) slot lba vs
  mixes_shown old new mixes s l = ⊎_elim
      (λ was. inl (ap (turn (mask_of masks s) l) was))
      (λ run. inr (run.0, run_here s l (turn (mask_of masks s) l (new s l)) run.0 (rw (turn_twice (mask_of masks s) l (new s l)) run.1)))
      (mixes s l)

  at_slot : (image : Image) (l : ℕ) → turn (mask_of masks slot) l (put_run image slot lba ws slot l) ≡ put_run (shown_image masks image) slot lba vs slot l
  at_slot image l = ⊎_elim
      (λ under. ap (turn (mask_of masks slot) l) (before image slot lba ws slot l under) ∙ sym (before (shown_image masks image) slot lba vs slot l under))
      (λ from. ⊎_elim
      (λ below. ap (turn (mask_of masks slot) l) (inside image slot lba ws l from below ∙ there l from below)
      ∙ turn_twice (mask_of masks slot) l (get_or vs (l - lba) [])
      ∙ sym (inside (shown_image masks image) slot lba vs l from (omega (arith, below, same))))
      (λ over. ap (turn (mask_of masks slot) l) (after image slot lba ws slot l over) ∙ sym (after (shown_image masks image) slot lba vs slot l (omega (arith, over, same))))
      (cases_lt l (lba + length ws)))
      (cases_lt l lba)

  at_any : (image : Image) (s l : ℕ) → turn (mask_of masks s) l (put_run image slot lba ws s l) ≡ put_run (shown_image masks image) slot lba vs s l
  at_any image s l = ⊎_elim
      (λ here. rw here (at_slot image l))
      (λ differs. ap (turn (mask_of masks s) l) (other image slot lba ws s l differs) ∙ sym (other (shown_image masks image) slot lba vs s l differs))
      (cases_eq s slot)

  pub put_shown : (image : Image) → shown_image masks (put_run image slot lba ws) ≡ put_run (shown_image masks image) slot lba vs
  put_shown image = fun_ext (λ s. fun_ext (λ l. at_any image s l))

-- a sector by itself
pub one_each : (masks : List (Option Mask)) (slot lba : ℕ) (v w : List ℕ) → w ≡ turn (mask_of masks slot) lba v
    → (k : ℕ) → k < length (v ∷ []) → get_or (w ∷ []) k [] ≡ turn (mask_of masks slot) (lba + k) (get_or (v ∷ []) k [])
one_each masks slot lba v w is k lt =
    let first : k ≡ 0 = omega (arith, lt) in
    let at : lba ≡ lba + 0 = omega arith in
    rw first (is ∙ ap (λ (m : ℕ). turn (mask_of masks slot) m v) at)

-- nothing is pending on a slot
pub settled_shown : (masks : List (Option Mask)) (may : Outcomes) (held : Image) (slot : ℕ) → IsSettled may held slot
    → IsSettled (λ s l v. may s l (turn (mask_of masks s) l v)) (shown_image masks held) slot
settled_shown masks may held slot settled l v left = sym (turn_twice (mask_of masks slot) l v) ∙ ap (turn (mask_of masks slot) l) (settled l (turn (mask_of masks slot) l v) left)
