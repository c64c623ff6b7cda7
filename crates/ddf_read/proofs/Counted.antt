-- How many stretches a range of blocks makes, counted stretch by stretch.
use Rattle.std.proofs.Common.{◌≡◌, ◌≢◌, ◌∙◌, ℕ, zero, suc, ◌+◌, ◌-◌, ◌≤◌, Bool, true, false, Option, Some, None, refl, sym, ap, arith}
use Rattle.std.specs.Prelude.{◌&&◌, ◌==◌, if◌then◌else◌}
use Rattle.std.proofs.lemmas.Bool.{eqb-true, eq-eqb}
use Rattle.ddf_lemmas.proofs.Tests.{and_first, and_second}
use Rattle.ddf_array.specs.declared.site.Site.{Site}
use Rattle.ddf_array.specs.Places.{site_on}
use Rattle.ddf_array.specs.Volume.{Volume}
use Rattle.ddf_array.specs.Sources.{first_copy}
use Rattle.ddf_read.specs.Stretches.{follows, is_break, copy_stretches, IsStretch}

-- ---- two neighbours

pub followed : (slot lba : ℕ) → follows (site_on slot lba) (site_on slot (lba + 1)) ≡ true
followed slot lba =
    ap (λ b. b && (lba + 1 == lba + 1)) (eq-eqb slot slot refl) ∙ eq-eqb (lba + 1) (lba + 1) refl

joined : (slot lba : ℕ) (one next : Option Site) → one ≡ Some (site_on slot lba) → next ≡ Some (site_on slot (lba + 1)) → is_break one next ≡ 0
joined slot lba one next e f =
    ap (λ o. is_break o next) e ∙ ap (is_break (Some (site_on slot lba))) f ∙ ap (λ b. if b then 0 else 1) (followed slot lba)

pub follower : (slot lba : ℕ) (next : Site) → follows (site_on slot lba) next ≡ true → next ≡ site_on slot (lba + 1)
follower slot lba next e =
    let same_slot = eqb-true next.slot slot (and_first (next.slot == slot) (next.lba == lba + 1) e) in
    let same_lba = eqb-true next.lba (lba + 1) (and_second (next.slot == slot) (next.lba == lba + 1) e) in
    ap (λ s. site_on s next.lba) same_slot ∙ ap (site_on slot) same_lba

pub broken_by : (slot lba : ℕ) (next : Site) (b : Bool) → follows (site_on slot lba) next ≡ b → next ≢ site_on slot (lba + 1) → ◌≡◌ {A = ℕ} (if b then 0 else 1) 1
broken_by slot lba next true e other = absurd (other (follower slot lba next e))
broken_by slot lba next false e other = refl

broken : (slot lba : ℕ) (next : Option Site) → next ≢ Some (site_on slot (lba + 1)) → is_break (Some (site_on slot lba)) next ≡ 1
broken slot lba None other = refl
broken slot lba (Some next) other = broken_by slot lba next (follows (site_on slot lba) next) refl (λ same. other (ap Some same))

-- ---- a stretch

module _ (v : Volume) where
  -- the blocks behind the first
  behind : (first : Site) (a count most : ℕ) → IsStretch v first a (suc (suc count)) (suc (suc most))
      → IsStretch v (site_on first.slot (first.lba + 1)) (a + 1) (suc count) (suc most)
  behind first a count most is = record {
    some = omega arith;
    within = omega (arith, is.within);
    follow = λ k below.
        let block : a + suc k ≡ a + 1 + k = omega arith in
        let lba : first.lba + suc k ≡ first.lba + 1 + k = omega arith in
        ap (first_copy v) (sym block) ∙ is.follow (suc k) (omega arith) ∙ ap (λ n. Some (site_on first.slot n)) lba;
    ends = λ below same.
        let block : a + suc (suc count) ≡ a + 1 + suc count = omega arith in
        let lba : first.lba + 1 + suc count ≡ first.lba + suc (suc count) = omega arith in
        is.ends (omega arith) (ap (first_copy v) block ∙ same ∙ ap (λ n. Some (site_on first.slot n)) lba);
  }

  -- a stretch counts once
  pub counted : (first : Site) (count a most : ℕ) → IsStretch v first a count most → copy_stretches v a most ≡ 1 + copy_stretches v (a + count) (most - count)
  counted first zero a most is = absurd (omega (arith, is.some))
  counted first (suc zero) a zero is = absurd (omega (arith, is.within))
  counted first (suc zero) a (suc zero) is = refl
  counted first (suc zero) a (suc (suc most)) is =
      let here : first_copy v a ≡ Some (site_on first.slot first.lba) =
      ap (first_copy v) (omega arith) ∙ is.follow 0 (omega arith) ∙ ap (λ n. Some (site_on first.slot n)) (omega arith) in
      let rest : suc (suc most) - 1 ≡ suc most = omega arith in
      ap (λ n. n + copy_stretches v (a + 1) (suc most)) (ap (λ o. is_break o (first_copy v (a + 1))) here ∙ broken first.slot first.lba (first_copy v (a + 1)) (is.ends (omega arith)))
      ∙ ap (λ n. 1 + copy_stretches v (a + 1) n) (sym rest)
  counted first (suc (suc count)) a zero is = absurd (omega (arith, is.within))
  counted first (suc (suc count)) a (suc zero) is = absurd (omega (arith, is.within))
  counted first (suc (suc count)) a (suc (suc most)) is =
      let here : first_copy v a ≡ Some (site_on first.slot first.lba) =
      ap (first_copy v) (omega arith) ∙ is.follow 0 (omega arith) ∙ ap (λ n. Some (site_on first.slot n)) (omega arith) in
      let later = counted (site_on first.slot (first.lba + 1)) (suc count) (a + 1) (suc most) (behind first a count most is) in
      let block : a + 1 + suc count ≡ a + suc (suc count) = omega arith in
      let left : suc most - suc count ≡ suc (suc most) - suc (suc count) = omega arith in
      ap (λ n. n + copy_stretches v (a + 1) (suc most)) (joined first.slot first.lba (first_copy v a) (first_copy v (a + 1)) here (is.follow 1 (omega arith)))
      ∙ omega arith ∙ later
      ∙ ap (λ b. 1 + copy_stretches v b (suc most - suc count)) block
      ∙ ap (λ n. 1 + copy_stretches v (a + suc (suc count)) n) left

  -- the calls for one piece more of a range
  pub calls_more : (start at count total old now new : ℕ)
      → now + copy_stretches v (start + at) (total - at) ≤ old + copy_stretches v start total
      → new + copy_stretches v (start + at + count) (total - at - count) ≤ now + copy_stretches v (start + at) (total - at)
      → new + copy_stretches v (start + (at + count)) (total - (at + count)) ≤ old + copy_stretches v start total
  calls_more start at count total old now new so_far next =
      let block : start + at + count ≡ start + (at + count) = omega arith in
      let left : total - at - count ≡ total - (at + count) = omega arith in
      let same : copy_stretches v (start + at + count) (total - at - count) ≡ copy_stretches v (start + (at + count)) (total - (at + count)) =
      ap (λ b. copy_stretches v b (total - at - count)) block ∙ ap (copy_stretches v (start + (at + count))) left in
      omega (arith, so_far, next, same)
