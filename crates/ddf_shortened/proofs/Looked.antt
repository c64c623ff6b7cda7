-- A look at a slot: its reads together, and what they show.
use Rattle.std.proofs.Common.{◌≡◌, ◌<◌, ◌≤◌, ℕ, ◌+◌, ◌-◌, Bool, List, true, false, refl, sym, arith}
use Rattle.std.specs.Prelude.{◌&&◌, ◌==◌, nat_lt}
use Rattle.std.proofs.lemmas.Grind.{common_steps}
use Rattle.ddf_bay.specs.State.{BayState}
use Rattle.ddf_bay.proofs.Looks.{reads_start, reads_then}
use Rattle.ddf_bay.proofs.Steps.{spends_start, spends_then, costs_most}
use Rattle.ddf_bay.proofs.Fronts.{remembers_then}
use Rattle.ddf_header.specs.Header.{header_signature}
use Rattle.ddf_shortened.specs.SlotEnds.{ends_early, is_any_signature, signature_of}
use Rattle.ddf_shortened.specs.Looking.{Looks}

-- before the first read
pub looks_start : {D : Type 0} (a : BayState D) (slot : ℕ) → Looks a a slot 0
looks_start a slot = record { reads = reads_start a; remembers = λ tells t image le left. left; spends = spends_start a }

-- one look more
pub looks_then : {D : Type 0} {a b c : BayState D} {slot n m : ℕ} → Looks a b slot n → Looks b c slot m → Looks a c slot (n + m)
looks_then {a = a} {b = b} {c = c} first second = record {
  reads = reads_then first.reads second.reads;
  remembers = remembers_then a b c first.remembers second.remembers second.spends.told first.reads.any_moment.later;
  spends = spends_then first.spends second.spends;
}

-- less is said of them
pub looks_most : {D : Type 0} {a b : BayState D} {slot n : ℕ} (most : ℕ) → n ≤ most → Looks a b slot n → Looks a b slot most
looks_most most le looks = record {
  reads = looks.reads;
  remembers = looks.remembers;
  spends = record {
    goes_on = looks.spends.goes_on;
    told = looks.spends.told;
    same_sizes = looks.spends.same_sizes;
    same = looks.spends.same;
    rises = looks.spends.rises;
    other_slots = looks.spends.other_slots;
    costs = costs_most 0 most looks.spends.costs (omega arith) le;
  };
}

module _ (size : ℕ) (sector : ℕ → List ℕ) where
  -- a slot of too few sectors
  pub too_small : size ≤ 257 → false ≡ ends_early size sector
  unfolding ends_early
  too_small small = let none : nat_lt 257 size ≡ false = grind (arith, common_steps) in rw none refl

  -- one whose last sector begins as a header
  pub at_end : 257 < size → is_any_signature (signature_of (sector (size - 1))) ≡ true → false ≡ ends_early size sector
  unfolding ends_early
  at_end large is = rw is (sym (none_both (nat_lt 257 size)))
    where
      none_both : (b : Bool) → (b && (false && (signature_of (sector (size - 257)) == header_signature))) ≡ false
      none_both true = refl
      none_both false = refl

  -- any other
  pub by_other : 257 < size → is_any_signature (signature_of (sector (size - 1))) ≡ false
      → (signature_of (sector (size - 257)) == header_signature) ≡ ends_early size sector
  unfolding ends_early
  by_other large none = let is : nat_lt 257 size ≡ true = grind (arith, common_steps) in rw (is, none) refl
