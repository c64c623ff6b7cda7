-- Laws for those who call a bay: how they go on from call to call.
use Rattle.std.proofs.Common.{◌≡◌, ◌≢◌, ◌⊎◌, ℕ, ◌+◌, ◌≤◌, List, inl, inr, ⊎_elim, refl, sym, ap, ◌∙◌, arith}
use Rattle.ddf_bytes.specs.Counts.{Rose}
use Rattle.ddf_bay.specs.Sectors.{Image, Outcomes, IsLeft, InRun}
use Rattle.ddf_bay.specs.State.{BayState}
use Rattle.ddf_bay.specs.Moments.{StopsLeave, Spends, SpendsOver, Costs, SpendsReads, SpendsWrites, Keeps, Adds, Mixes, IsSettled, IsAmong}

-- before the first call
pub stops_start : {D : Type 0} (a : BayState D) (P : Image → Type 0) → StopsLeave a a P
stops_start a P = record { later = omega arith; since = λ t image le left. inl left }

-- after one call more
pub stops_then : {D : Type 0} {a b c : BayState D} {P Q : Image → Type 0} → StopsLeave a b P → StopsLeave b c Q
    → ((image : Image) → Q image → P image) → StopsLeave a c P
stops_then so_far step here = record {
  later = omega (arith, so_far.later, step.later);
  since = λ t image le left. ⊎_elim (so_far.since t image le) (λ now. inr (here image now)) (step.since t image (omega (arith, le, so_far.later)) left);
}

-- with less said of the images
pub stops_weaken : {D : Type 0} {a b : BayState D} {P Q : Image → Type 0} → StopsLeave a b Q
    → ((image : Image) → Q image → P image) → StopsLeave a b P
stops_weaken step here = record {
  later = step.later;
  since = λ t image le left. ⊎_elim inl (λ now. inr (here image now)) (step.since t image le left);
}

-- all images since the first call, where those that a stop may leave before it have P too
pub stops_all : {D : Type 0} {a b : BayState D} {P : Image → Type 0}
    → ((image : Image) → a.left_since a.moment image → IsLeft a.may_hold image)
    → StopsLeave a b P → ((image : Image) → IsLeft a.may_hold image → P image)
    → (image : Image) → b.left_since a.moment image → P image
stops_all {a = a} only_now steps at_first image left =
    ⊎_elim (λ before. at_first image (only_now image before)) (λ now. now) (steps.since a.moment image (omega arith) left)

-- what a stop may leave, from call to call
pub keeps_start : (may : Outcomes) → Keeps may may
keeps_start may s l bytes left = left

pub keeps_then : {a b c : Outcomes} → Keeps a b → Keeps b c → Keeps a c
keeps_then first second s l bytes left = first s l bytes (second s l bytes left)

pub keeps_adds : (a b c : Outcomes) (slot lba : ℕ) (sectors : List (List ℕ)) → Keeps a b → Adds b c slot lba sectors → Adds a c slot lba sectors
keeps_adds a b c slot lba sectors first second s l bytes left = ⊎_elim (λ old. inl (first s l bytes old)) inr (second s l bytes left)

pub adds_keeps : (a b c : Outcomes) (slot lba : ℕ) (sectors : List (List ℕ)) → Adds a b slot lba sectors → Keeps b c → Adds a c slot lba sectors
adds_keeps a b c slot lba sectors first second s l bytes left = first s l bytes (second s l bytes left)

-- an image that a stop may leave after calls that add nothing might be left before them
pub left_keeps : (a b : Outcomes) (image : Image) → Keeps a b → IsLeft b image → IsLeft a image
left_keeps a b image keeps left s l = keeps s l (image s l) (left s l)

-- a run that is written: an image is among the old ones and the run
module _ (may : Outcomes) (slot lba : ℕ) (sectors : List (List ℕ)) (image : Image) where
  -- after the write
  pub left_adds : (new : Outcomes) → Adds may new slot lba sectors → IsLeft new image → IsAmong may slot lba sectors image
  left_adds new adds left s l = adds s l (image s l) (left s l)

  -- before it
  pub left_among : IsLeft may image → IsAmong may slot lba sectors image
  left_among left s l = inl (left s l)

  -- while it is written after calls that add nothing
  pub among_keeps : (new : Outcomes) → Keeps may new → IsAmong new slot lba sectors image → IsAmong may slot lba sectors image
  among_keeps new keeps among s l = ⊎_elim (λ old. inl (keeps s l (image s l) old)) inr (among s l)

  -- other slots are as they might be left before
  pub among_other : IsAmong may slot lba sectors image → (s l : ℕ) → s ≢ slot → may s l (image s l)
  among_other among s l differs = ⊎_elim (λ old. old) (λ new. absurd (differs new.0)) (among s l)

  -- and so are the sectors of the slot outside the run
  pub among_outside : IsAmong may slot lba sectors image → (l : ℕ) → (InRun lba sectors l (image slot l) → ⊥) → may slot l (image slot l)
  among_outside among l outside = ⊎_elim (λ old. old) (λ new. absurd (outside new.1)) (among slot l)

  -- where nothing was pending on the slot, each sector has what the slot held, or what is written
  pub settled_among : (held : Image) → IsSettled may held slot → IsAmong may slot lba sectors image → (l : ℕ) → (image slot l ≡ held slot l) ⊎ InRun lba sectors l (image slot l)
  settled_among held settled among l = ⊎_elim (λ old. inl (settled l (image slot l) old)) (λ new. inr new.1) (among slot l)

-- Nothing is pending on a slot: each image has what the slot holds.
pub settled_left : (may : Outcomes) (held : Image) (slot : ℕ) (image : Image) → IsSettled may held slot → IsLeft may image → (l : ℕ) → image slot l ≡ held slot l
settled_left may held slot image settled left l = settled l (image slot l) (left slot l)

-- It stays so while no call adds to the slot and its sectors stay.
pub settled_keeps : (a b : Outcomes) (held held' : Image) (slot : ℕ) → IsSettled a held slot → Keeps a b → ((l : ℕ) → held' slot l ≡ held slot l) → IsSettled b held' slot
settled_keeps a b held held' slot settled keeps same l bytes left = settled l bytes (keeps slot l bytes left) ∙ sym (same l)

pub settled_other : (a b : Outcomes) (held held' : Image) (slot lba : ℕ) (sectors : List (List ℕ)) (s : ℕ)
    → IsSettled a held s → Adds a b slot lba sectors → s ≢ slot → ((l : ℕ) → held' s l ≡ held s l) → IsSettled b held' s
settled_other a b held held' slot lba sectors s settled adds differs same l bytes left =
    ⊎_elim (λ old. settled l bytes old) (λ new. absurd (differs new.0)) (adds s l bytes left) ∙ sym (same l)

-- the sector of an image from before a write: as it is where the write left it, or as it was held
abbrev pub sector_before : {P Q : Type 0} → List ℕ → List ℕ → P ⊎ Q → List ℕ
sector_before now held (inl was) = now
sector_before now held (inr written) = held

before_left : {Q : Type 0} (P : List ℕ → Type 0) (now held : List ℕ) (case : P now ⊎ Q) → P held → P (sector_before now held case)
before_left P now held (inl was) left = was
before_left P now held (inr written) left = left

before_same : {P Q : Type 0} (now held : List ℕ) (case : P ⊎ Q) → (now ≡ sector_before now held case) ⊎ Q
before_same now held (inl was) = inl refl
before_same now held (inr written) = inr written

-- An image of the moments of a write comes from one that might be left before it.
pub image_before : (may : Outcomes) (held : Image) (slot lba : ℕ) (sectors : List (List ℕ)) (image : Image) → IsLeft may held → IsAmong may slot lba sectors image
    → (before : Image) × IsLeft may before × Mixes before image slot lba sectors
image_before may held slot lba sectors image left among = (
  λ s l. sector_before (image s l) (held s l) (among s l),
  λ s l. before_left (may s l) (image s l) (held s l) (among s l) (left s l),
  λ s l. before_same (image s l) (held s l) (among s l),
)

-- counts of faults
pub rose_then : (a b c : ℕ) → a ≤ b → Rose a b → b ≤ c → Rose a c
rose_then a b c up rose later = ⊎_elim (λ below. inl (omega arith)) (λ last. grind arith) rose

pub rose_since : (a b c : ℕ) → a ≤ b → Rose b c → Rose a c
rose_since a b c up rose = ⊎_elim (λ below. inl (omega arith)) inr rose

-- what calls cost, together
pub costs_start : {D : Type 0} (a : BayState D) → Costs a a 0 0
costs_start a = record {
  asked_up = omega arith;
  asked = omega arith;
  written_up = omega arith;
  written = omega arith;
  calls_up = omega arith;
  calls_most = omega arith;
}

pub costs_then : {D : Type 0} {a b c : BayState D} {n m i j : ℕ} → Costs a b n i → Costs b c m j → Costs a c (n + m) (i + j)
costs_then first second = record {
  asked_up = omega (arith, first.asked_up, second.asked_up);
  asked = omega (arith, first.asked, second.asked);
  written_up = omega (arith, first.written_up, second.written_up);
  written = omega (arith, first.written, second.written);
  calls_up = omega (arith, first.calls_up, second.calls_up);
  calls_most = omega (arith, first.calls_most, second.calls_most);
}

-- less is said of them
pub costs_most : {D : Type 0} {a b : BayState D} {n i : ℕ} (m j : ℕ) → Costs a b n i → n ≤ m → i ≤ j → Costs a b m j
costs_most m j costs sectors most = record {
  asked_up = costs.asked_up;
  asked = omega (arith, costs.asked, sectors);
  written_up = costs.written_up;
  written = omega (arith, costs.written, sectors);
  calls_up = costs.calls_up;
  calls_most = omega (arith, costs.calls_most, most);
}

-- what calls on one slot leave, together
module _ {D : Type 0} {kept rising : BayState D → ℕ → ℕ} {slot : ℕ} where
  pub spends_start : (a : BayState D) → Spends kept rising a a slot 0 0
  spends_start a = record {
    goes_on = λ bay leads. leads;
    told = λ told. told;
    same_sizes = refl;
    same = refl;
    rises = λ s. omega arith;
    other_slots = λ s differs. refl;
    costs = costs_start a;
  }

  pub spends_then : {a b c : BayState D} {n m i j : ℕ} → Spends kept rising a b slot n i → Spends kept rising b c slot m j
      → Spends kept rising a c slot (n + m) (i + j)
  spends_then first second = record {
    goes_on = λ bay leads. first.goes_on bay (second.goes_on bay leads);
    told = λ told. first.told (second.told told);
    same_sizes = second.same_sizes ∙ first.same_sizes;
    same = second.same ∙ first.same;
    rises = λ s. omega (arith, first.rises s, second.rises s);
    other_slots = λ s differs. second.other_slots s differs ∙ first.other_slots s differs;
    costs = costs_then first.costs second.costs;
  }

-- what calls on any slots leave, together
pub over_start : {D : Type 0} (a : BayState D) → SpendsOver a a 0 0
over_start a = record {
  goes_on = λ bay leads. leads;
  told = λ told. told;
  same_sizes = refl;
  reads_rise = λ s. omega arith;
  writes_rise = λ s. omega arith;
  costs = costs_start a;
}

pub over_then : {D : Type 0} {a b c : BayState D} {n m i j : ℕ} → SpendsOver a b n i → SpendsOver b c m j → SpendsOver a c (n + m) (i + j)
over_then first second = record {
  goes_on = λ bay leads. first.goes_on bay (second.goes_on bay leads);
  told = λ told. first.told (second.told told);
  same_sizes = second.same_sizes ∙ first.same_sizes;
  reads_rise = λ s. omega (arith, first.reads_rise s, second.reads_rise s);
  writes_rise = λ s. omega (arith, first.writes_rise s, second.writes_rise s);
  costs = costs_then first.costs second.costs;
}

-- less is said of them
pub over_most : {D : Type 0} {a b : BayState D} {n i : ℕ} (m j : ℕ) → SpendsOver a b n i → n ≤ m → i ≤ j → SpendsOver a b m j
over_most m j spends sectors most = record {
  goes_on = spends.goes_on;
  told = spends.told;
  same_sizes = spends.same_sizes;
  reads_rise = spends.reads_rise;
  writes_rise = spends.writes_rise;
  costs = costs_most m j spends.costs sectors most;
}

-- calls on one slot
pub over_writes : {D : Type 0} {a b : BayState D} {slot n i : ℕ} → SpendsWrites a b slot n i → SpendsOver a b n i
over_writes spends = record {
  goes_on = spends.goes_on;
  told = spends.told;
  same_sizes = spends.same_sizes;
  reads_rise = λ s. let same = ap (λ (counts : ℕ → ℕ). counts s) spends.same in omega (arith, same);
  writes_rise = spends.rises;
  costs = spends.costs;
}

pub over_reads : {D : Type 0} {a b : BayState D} {slot i : ℕ} → SpendsReads a b slot i → SpendsOver a b 0 i
over_reads spends = record {
  goes_on = spends.goes_on;
  told = spends.told;
  same_sizes = spends.same_sizes;
  reads_rise = spends.rises;
  writes_rise = λ s. let same = ap (λ (counts : ℕ → ℕ). counts s) spends.same in omega (arith, same);
  costs = spends.costs;
}
