-- `examine` between two slots.
use Rattle.std.proofs.Common.{◌≡◌, ℕ, suc, ◌+◌, ◌-◌, ◌*◌, ◌<◌, ◌≤◌, ◌⊎◌, inl, inr, ⊎_elim, List, [], ◌∷◌, ◌++◌, length, take, Bool, true, false, Result, Ok, Err, refl, sym, ap, ◌∙◌, arith, append_assoc, length-append, replicate, zero-add}
use Rattle.std.specs.Prelude.{IfOk, OnOk, if◌then◌else◌, ◌||◌}
use Rattle.std.proofs.lemmas.List.{append-nil, take_all, take-append-le, length-replicate}
use Rattle.std.proofs.Math.Seq.{take-append-add}
use Rattle.ddf_bytes.specs.Streams.{SinkState, TakesFront}
use Rattle.ddf_bay.specs.State.{BayState}
use Rattle.ddf_bay.specs.Sectors.{Image}
use Rattle.ddf_bay.specs.ReadsOnly.{AreFailed, LooksAt, SlotSame}
use Rattle.ddf_bay.proofs.Looks.{failed_more, failed_padded, later_more, none_failed}
use Rattle.ddf_answer.specs.Call.{answer_of, work_of}
use Rattle.ddf_disk_commands.specs.Examine.{one_text, slots_text, some_failed, IsExamined, IsSlotShown}
use Rattle.ddf_disk_commands.specs.declared.examining.Stop.{Stop}

slots_text-append : (slot : ℕ) (fs gs : List Bool) (sizes : List ℕ) (held : Image) → slots_text slot (fs ++ gs) sizes held ≡ slots_text slot fs sizes held ++ slots_text (slot + length fs) gs sizes held
slots_text-append slot [] gs sizes held = ap (λ (n : ℕ). slots_text n gs sizes held) (omega arith)
slots_text-append slot (f ∷ fs) gs sizes held =
    let e : suc slot + length fs ≡ slot + suc (length fs) = omega arith in
    ap (λ (ts : List ℕ). one_text slot f sizes held ++ ts) (slots_text-append (suc slot) fs gs sizes held)
    ∙ sym (append_assoc (one_text slot f sizes held) (slots_text (suc slot) fs sizes held) (slots_text (suc slot + length fs) gs sizes held))
    ∙ ap (λ (n : ℕ). (one_text slot f sizes held ++ slots_text (suc slot) fs sizes held) ++ slots_text n gs sizes held) e

some_failed-append : (fs : List Bool) (b : Bool) → some_failed (fs ++ b ∷ []) ≡ some_failed fs || b
some_failed-append [] true = refl
some_failed-append [] false = refl
some_failed-append (true ∷ fs) b = refl
some_failed-append (false ∷ fs) b = some_failed-append fs b

-- ---- the whole

-- So many slots were shown.
pub record IsPartway {D : Type 0} (old now : BayState D) (slot : ℕ) (told : Type 0) (before after : SinkState) (fault : Bool) : Type 0 where
  pub failed : List Bool
  pub slots : length failed ≡ slot
  pub are_failed : AreFailed old now failed
  pub later : (s : ℕ) → slot ≤ s → SlotSame old now s
  pub fault_is : fault ≡ some_failed failed
  pub tells : told → after.taken ≡ before.taken ++ slots_text 0 failed old.sizes old.held
  pub calls : now.calls ≤ old.calls + 17 * slot

-- ---- the text

-- a front of a slot's lines, behind those of the slots before it
pub front_told : (before after later : SinkState) (fs gs : List Bool) (b : Bool) (sizes : List ℕ) (held : Image)
    → after.taken ≡ before.taken ++ slots_text 0 fs sizes held → TakesFront after later (one_text (length fs) b sizes held)
    → TakesFront before later (slots_text 0 (fs ++ b ∷ gs) sizes held)
front_told before after later fs gs b sizes held so_far step =
    let text : List ℕ = slots_text 0 fs sizes held in
    let one : List ℕ = one_text (length fs) b sizes held in
    let rest : List ℕ = slots_text (suc (length fs)) gs sizes held in
    let parts : slots_text 0 (fs ++ b ∷ gs) sizes held ≡ text ++ (one ++ rest) = slots_text-append 0 fs (b ∷ gs) sizes held ∙ ap (λ (n : ℕ). text ++ slots_text n (b ∷ gs) sizes held) (zero-add (length fs)) in
    rw parts (record {
      count = length text + step.count;
      within = omega (arith, step.within, length-append text (one ++ rest), length-append one rest);
      front = step.front ∙ ap (λ (ts : List ℕ). ts ++ take step.count one) so_far ∙ append_assoc before.taken text (take step.count one)
          ∙ ap (λ (ts : List ℕ). before.taken ++ ts) (sym (take-append-add text (one ++ rest) step.count ∙ ap (λ (ts : List ℕ). text ++ ts) (take-append-le step.count one rest step.within)));
    })

-- all lines of a slot, behind those of the slots before it
whole_told : (before after later : List ℕ) (fs : List Bool) (b : Bool) (sizes : List ℕ) (held : Image)
    → after ≡ before ++ slots_text 0 fs sizes held → later ≡ after ++ one_text (length fs) b sizes held
    → later ≡ before ++ slots_text 0 (fs ++ b ∷ []) sizes held
whole_told before after later fs b sizes held so_far step =
    let text : List ℕ = slots_text 0 fs sizes held in
    let parts : slots_text 0 (fs ++ b ∷ []) sizes held ≡ text ++ one_text (length fs) b sizes held =
    slots_text-append 0 fs (b ∷ []) sizes held ∙ ap (λ (n : ℕ). text ++ slots_text n (b ∷ []) sizes held) (zero-add (length fs))
    ∙ ap (λ (ts : List ℕ). text ++ ts) (append-nil (one_text (length fs) b sizes held)) in
    step ∙ ap (λ (ts : List ℕ). ts ++ one_text (length fs) b sizes held) so_far ∙ append_assoc before text (one_text (length fs) b sizes held)
    ∙ ap (λ (ts : List ℕ). before ++ ts) (sym parts)

on_ok : {P : Type 0} (result : Result Bool Stop) (b : Bool) → result ≡ Ok b → OnOk result P → P
on_ok (Ok a) b e h = h
on_ok (Err stop) b e h = cc

answered : (result : Result Bool Stop) (b failed : Bool) → result ≡ Ok b → IfOk result (λ answer. answer ≡ failed) → b ≡ failed
answered (Ok a) b failed e h = cc
answered (Err stop) b failed e h = cc

module _ (tells told : Type 0) where
  -- before the first slot
  pub partway_start : {D : Type 0} (a : BayState D) (before : SinkState) → IsPartway a a 0 (tells × told) before before false
  partway_start a before = record {
    failed = [];
    slots = refl;
    are_failed = none_failed a a;
    later = λ s le. (refl, refl);
    fault_is = refl;
    tells = λ told. sym (append-nil before.taken);
    calls = omega arith;
  }

  module _ {D : Type 0} (old now next : BayState D) (slot : ℕ) (before after later : SinkState) (fault : Bool) (result : Result Bool Stop)
      (so_far : IsPartway old now slot (tells × told) before after fault)
      (same_sizes : now.sizes ≡ old.sizes) (same_held : now.held ≡ old.held)
      (shown : IsSlotShown now next slot (tells × told) after later result) (looked : next.calls ≤ now.calls + 17) where
    look : LooksAt now next (length so_far.failed) shown.failed
    look = rw so_far.slots shown.look

    rest : (s : ℕ) → length so_far.failed ≤ s → SlotSame old now s
    rest s le = so_far.later s (omega (arith, so_far.slots))

    failed : List Bool
    failed = so_far.failed ++ shown.failed ∷ []

    more : AreFailed old next (so_far.failed ++ shown.failed ∷ [])
    more = failed_more old now next so_far.failed shown.failed so_far.are_failed rest same_sizes look

    beyond : (s : ℕ) → length so_far.failed + 1 ≤ s → SlotSame old next s
    beyond = later_more old now next so_far.failed shown.failed so_far.are_failed rest same_sizes look

    next_slot : length (so_far.failed ++ shown.failed ∷ []) ≡ slot + 1
    next_slot = length-append so_far.failed (shown.failed ∷ []) ∙ omega (arith, so_far.slots)

    same_text : one_text slot shown.failed now.sizes now.held ≡ one_text (length so_far.failed) shown.failed old.sizes old.held
    same_text = rw (same_sizes, same_held, so_far.slots) refl

    -- one slot more
    pub partway_more : (b : Bool) → result ≡ Ok b → IsPartway old next (slot + 1) (tells × told) before later (fault || b)
    partway_more b ok = record {
      failed = so_far.failed ++ shown.failed ∷ [];
      slots = next_slot;
      are_failed = more;
      later = λ s le. beyond s (omega (arith, so_far.slots));
      fault_is = rw (so_far.fault_is, answered result b shown.failed ok shown.answer) (sym (some_failed-append so_far.failed shown.failed));
      tells = λ both. whole_told before.taken after.taken later.taken so_far.failed shown.failed old.sizes old.held (so_far.tells both) (on_ok result b ok (shown.whole both) ∙ ap (λ (ts : List ℕ). after.taken ++ ts) same_text);
      calls = let before_it = so_far.calls in omega (arith, before_it, looked);
    }

    -- memory or the output gave out
    pub partway_stopped : (status : ℕ) → slot < length old.sizes → (status ≡ 5) ⊎ (status ≡ 6) → IsExamined (work_of tells old next) (answer_of told before later status)
    partway_stopped status lt stop = record {
      failed = (so_far.failed ++ shown.failed ∷ []) ++ replicate (length old.sizes - (slot + 1)) false;
      every_slot = length-append (so_far.failed ++ shown.failed ∷ []) (replicate (length old.sizes - (slot + 1)) false) ∙ omega (arith, next_slot, length-replicate (length old.sizes - (slot + 1)) false);
      are_failed = failed_padded old next (so_far.failed ++ shown.failed ∷ []) (length old.sizes - (slot + 1)) more (λ s le. beyond s (omega (arith, next_slot, so_far.slots)));
      ends = inr stop;
      tells = λ disks output. record {
        whole = λ low. absurd (⊎_elim (λ e. omega (arith, e, low)) (λ e. omega (arith, e, low)) stop);
        front = rw append_assoc (front_told before after later so_far.failed (replicate (length old.sizes - (slot + 1)) false) shown.failed old.sizes old.held (so_far.tells (disks, output)) (rw same_text at (shown.front (disks, output))));
      };
      calls = let before_it = so_far.calls in omega (arith, before_it, looked, lt);
    }

  -- after the last slot
  pub partway_done : {D : Type 0} (old now : BayState D) (slot : ℕ) (before after : SinkState) (fault : Bool) (status : ℕ) → IsPartway old now slot (tells × told) before after fault
      → slot ≡ length old.sizes → status ≡ (if fault then 3 else 0) → IsExamined (work_of tells old now) (answer_of told before after status)
  partway_done old now slot before after fault status so_far last e = record {
    failed = so_far.failed;
    every_slot = so_far.slots ∙ last;
    are_failed = so_far.are_failed;
    ends = inl (e ∙ ap (λ (b : Bool). if b then 3 else 0) so_far.fault_is);
    tells = λ disks output. record {
      whole = λ low. so_far.tells (disks, output);
      front = record {
        count = length (slots_text 0 so_far.failed old.sizes old.held);
        within = omega arith;
        front = so_far.tells (disks, output) ∙ ap (λ (ts : List ℕ). before.taken ++ ts) (sym (take_all _ (slots_text 0 so_far.failed old.sizes old.held) (omega arith)));
      };
    };
    calls = let all = so_far.calls in omega (arith, all, last);
  }
