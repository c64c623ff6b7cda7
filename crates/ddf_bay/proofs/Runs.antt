-- Reading an image after a run was put in it.
use Rattle.std.proofs.Common.{◌≡◌, ◌≢◌, ◌⊎◌, ℕ, ◌+◌, ◌-◌, ◌<◌, ◌≤◌, List, [], ◌∷◌, length, get_or, take, inl, inr, ⊎_elim, refl, sym, ◌∙◌, arith, get_or-take, length-take}
use Rattle.std.proofs.Math.Path.{fun_ext}
use Rattle.std.proofs.lemmas.Bool.{cases_lt, cases_eq}
use Rattle.std.proofs.lemmas.Grind.{common_steps}
use Rattle.ddf_bay.specs.Sectors.{Image, InRun, put_run}
use Rattle.ddf_bay.specs.Moments.{Mixes}

module _ (image : Image) (slot lba : ℕ) (sectors : List (List ℕ)) where
  pub inside : (l : ℕ) → lba ≤ l → l < lba + length sectors → put_run image slot lba sectors slot l ≡ get_or sectors (l - lba) []
  inside l from below = grind (arith, common_steps)

  pub before : (s l : ℕ) → l < lba → put_run image slot lba sectors s l ≡ image s l
  before s l under = grind (arith, common_steps)

  pub after : (s l : ℕ) → lba + length sectors ≤ l → put_run image slot lba sectors s l ≡ image s l
  after s l over = grind (arith, common_steps)

  pub other : (s l : ℕ) → s ≢ slot → put_run image slot lba sectors s l ≡ image s l
  other s l differs = grind (arith, common_steps)

-- after a run was put in, each sector is as it was or has the run's bytes
pub put_mixes : (image : Image) (slot lba : ℕ) (sectors : List (List ℕ)) → Mixes image (put_run image slot lba sectors) slot lba sectors
put_mixes image slot lba sectors s l = ⊎_elim
    (λ here. ⊎_elim
    (λ under. inl (before image slot lba sectors s l under))
    (λ from. ⊎_elim
    (λ below. inr (here, record { from = from; below = below; are = rw here (inside image slot lba sectors l from below) }))
    (λ over. inl (after image slot lba sectors s l over))
    (cases_lt l (lba + length sectors)))
    (cases_lt l lba))
    (λ differs. inl (other image slot lba sectors s l differs))
    (cases_eq s slot)

-- a write leaves other slots as they were, failed or not
pub mixes_other : (old new : Image) (slot lba : ℕ) (sectors : List (List ℕ)) → Mixes old new slot lba sectors → (s l : ℕ) → s ≢ slot → new s l ≡ old s l
mixes_other old new slot lba sectors mixes s l differs = ⊎_elim (λ same. same) (λ written. absurd (differs written.0)) (mixes s l)

-- and the sectors of its slot outside the run
pub mixes_outside : (old new : Image) (slot lba : ℕ) (sectors : List (List ℕ)) → Mixes old new slot lba sectors → (l : ℕ) → (l < lba) ⊎ (lba + length sectors ≤ l) → new slot l ≡ old slot l
mixes_outside old new slot lba sectors mixes l outside =
    ⊎_elim (λ same. same) (λ written. absurd (⊎_elim (λ under. omega (arith, under, written.1.from)) (λ over. omega (arith, over, written.1.below)) outside)) (mixes slot l)

-- one sector of a run more
module _ (slot lba : ℕ) (vs : List (List ℕ)) (i : ℕ) (d : List ℕ) (lt : i < length vs) where
  same_item : get_or vs i d ≡ get_or vs i []
  same_item = grind (arith, common_steps)

  front : (l : ℕ) → lba ≤ l → l < lba + i → get_or (take i vs) (l - lba) [] ≡ get_or (take (i + 1) vs) (l - lba) []
  front l from under = let k : l - lba < i = omega arith in let k' : l - lba < i + 1 = omega arith in rw (get_or-take, get_or-take) refl

  item : get_or (take (i + 1) vs) i [] ≡ get_or vs i d
  item = let k : i < i + 1 = omega arith in rw get_or-take (sym same_item)

  length_one : length (take i vs) ≡ i
  length_one = simp length-take (omega arith)

  length_more : length (take (i + 1) vs) ≡ i + 1
  length_more = simp length-take (omega arith)

  pub in_run_front : (l : ℕ) (v : List ℕ) → InRun lba (take i vs) l v → InRun lba (take (i + 1) vs) l v
  in_run_front l v run =
      let under : l < lba + i = omega (arith, run.below, length_one) in
      record { from = run.from; below = omega (arith, under, length_more); are = run.are ∙ front l run.from under }

  pub in_run_item : (l : ℕ) (v : List ℕ) → InRun (lba + i) (get_or vs i d ∷ []) l v → InRun lba (take (i + 1) vs) l v
  in_run_item l v run =
      let here : l - lba ≡ i = omega (arith, run.from, run.below) in
      let first : l - (lba + i) ≡ 0 = omega (arith, run.from, run.below) in
      record {
        from = omega (arith, run.from);
        below = omega (arith, run.below, length_more);
        are = (rw first at run.are) ∙ (rw here (sym item));
      }

  pub in_run_whole : (l : ℕ) (v : List ℕ) → InRun lba (take (i + 1) vs) l v → InRun lba vs l v
  in_run_whole l v run =
      let k : l - lba < i + 1 = omega (arith, run.from, run.below, length_more) in
      record { from = run.from; below = omega (arith, run.below, length_more, lt); are = run.are ∙ (rw get_or-take refl) }

  pub put_run_more : (image : Image) → put_run (put_run image slot lba (take i vs)) slot (lba + i) (get_or vs i d ∷ []) ≡ put_run image slot lba (take (i + 1) vs)
  put_run_more image = fun_ext (λ s. fun_ext (λ l. ⊎_elim (here s l) (λ differs. other one slot (lba + i) (get_or vs i d ∷ []) s l differs ∙ other image slot lba (take i vs) s l differs ∙ sym (other image slot lba (take (i + 1) vs) s l differs)) (cases_eq s slot)))
    where
      one : Image
      one = put_run image slot lba (take i vs)

      at_slot : (l : ℕ) → put_run one slot (lba + i) (get_or vs i d ∷ []) slot l ≡ put_run image slot lba (take (i + 1) vs) slot l
      at_slot l = ⊎_elim
          (λ under. before one slot (lba + i) (get_or vs i d ∷ []) slot l under ∙ ⊎_elim
          (λ low. before image slot lba (take i vs) slot l low ∙ sym (before image slot lba (take (i + 1) vs) slot l low))
          (λ from. inside image slot lba (take i vs) l from (omega (arith, under, length_one)) ∙ front l from under ∙ sym (inside image slot lba (take (i + 1) vs) l from (omega (arith, under, length_more))))
          (cases_lt l lba))
          (λ from. ⊎_elim
          (λ over. after one slot (lba + i) (get_or vs i d ∷ []) slot l (omega (arith, over)) ∙ after image slot lba (take i vs) slot l (omega (arith, over, length_one)) ∙ sym (after image slot lba (take (i + 1) vs) slot l (omega (arith, over, length_more))))
          (λ upto. let e : l ≡ lba + i = omega arith in
          let first : (lba + i) - (lba + i) ≡ 0 = omega arith in
          let k : (lba + i) - lba ≡ i = omega arith in
          let outer : get_or (get_or vs i d ∷ []) ((lba + i) - (lba + i)) [] ≡ get_or vs i d = rw first refl in
          let inner : get_or (take (i + 1) vs) ((lba + i) - lba) [] ≡ get_or vs i d = rw k item in
          rw e (inside one slot (lba + i) (get_or vs i d ∷ []) (lba + i) (omega arith) (omega arith) ∙ outer ∙ sym inner ∙ sym (inside image slot lba (take (i + 1) vs) (lba + i) (omega arith) (omega (arith, length_more)))))
          (cases_lt (lba + i) l))
          (cases_lt l (lba + i))

      here : (s l : ℕ) → s ≡ slot → put_run one slot (lba + i) (get_or vs i d ∷ []) s l ≡ put_run image slot lba (take (i + 1) vs) s l
      here s l e = rw e (at_slot l)
