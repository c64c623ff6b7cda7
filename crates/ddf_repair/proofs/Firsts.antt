-- The first position that is out of sync is a position of the array.
use Rattle.std.proofs.Common.{◌≡◌, ℕ, suc, ◌+◌, Bool, true, false, List, [], ◌∷◌, Option, Some, None, cond, find, refl, sym, ap, ◌∙◌, arith}
use Rattle.std.specs.Prelude.{slice_get}
use Rattle.std.specs.List.{enumerate_from}
use Rattle.ddf_config.specs.declared.element.Position.{Position}
use Rattle.ddf_config.specs.ElementValue.{ElementValue}
use Rattle.ddf_config.specs.States.{is_out}
use Rattle.ddf_repair.specs.declared.first.Out.{Out}
use Rattle.ddf_repair.specs.First.{out_at, out_from, out_in, part_out}

-- what a search among numbered items finds stands at its number
found_at : {X : Type 0} (p : ℕ × X → Bool) (n : ℕ) (xs : List X) (at : ℕ × X) → find p (enumerate_from n xs) ≡ Some at → (k : ℕ) × (at.0 ≡ n + k) × (slice_get xs k ≡ Some at.1)
found_at p n [] at h = absurd cc
found_at {X = X} p n (x ∷ xs) at h = by (p (n, x)) (found_at p (n + 1) xs at) h
  where
    by : (b : Bool) → (find p (enumerate_from (n + 1) xs) ≡ Some at → (k : ℕ) × (at.0 ≡ (n + 1) + k) × (slice_get xs k ≡ Some at.1)) → cond b (Some (n, x)) (find p (enumerate_from (n + 1) xs)) ≡ Some at
        → (k : ℕ) × (at.0 ≡ n + k) × (slice_get (x ∷ xs) k ≡ Some at.1)
    by true rest e =
        let same : (n, x) ≡ at = cc in
        let number : n ≡ at.0 = ap (λ (one : ℕ × X). one.0) same in
        (0, omega (arith, number), ap (λ (one : ℕ × X). Some one.1) same)
    by false rest e =
        let found = rest e in
        let number = found.1 in
        (suc found.0, omega (arith, number), found.2)

-- The position, its element and their places.
pub record IsPlaced (elements n : ℕ) (parts : List (Option ElementValue)) (out : Out) : Type 0 where
  pub place : ℕ
  pub plan : ElementValue
  pub held : Position
  pub number : out.target.element ≡ n + place
  pub there : slice_get parts place ≡ Some (Some plan)
  pub position : slice_get plan.positions out.target.position ≡ Some held
  pub blocks : out.blocks ≡ plan.blocks

part_placed : (elements n : ℕ) (parts : List (Option ElementValue)) (plan : ElementValue) (out : Out) → part_out elements n (Some plan) ≡ Some out → IsPlaced elements n (Some plan ∷ parts) out
part_placed elements n parts plan out h = by (out_in plan) refl h
  where
    by : (found : Option (ℕ × Position)) → out_in plan ≡ found → (elim found [ None ↦ None | Some at ↦ Some (out_at elements n plan at) ]) ≡ Some out → IsPlaced elements n (Some plan ∷ parts) out
    by None e h = absurd cc
    by (Some at) e h =
        let same : out_at elements n plan at ≡ out = cc in
        let found = found_at (λ one. is_out one.1) 0 plan.positions at e in
        let number : at.0 ≡ 0 + found.0 = found.1 in
        let place : found.0 ≡ out.target.position = omega (arith, number, ap (λ (one : Out). one.target.position) same) in
        record {
          place = 0;
          plan = plan;
          held = at.1;
          number = omega (arith, ap (λ (one : Out). one.target.element) same);
          there = refl;
          position = ap (λ (k : ℕ). slice_get plan.positions k) (sym place) ∙ found.2;
          blocks = sym (ap (λ (one : Out). one.blocks) same);
        }

pub out_placed : (elements n : ℕ) (parts : List (Option ElementValue)) (out : Out) → out_from elements n parts ≡ Some out → IsPlaced elements n parts out
out_placed elements n [] out h = absurd cc
out_placed elements n (None ∷ parts) out h = behind elements n None parts out (out_placed elements (n + 1) parts out h)
  where
    behind : (elements n : ℕ) (part : Option ElementValue) (parts : List (Option ElementValue)) (out : Out) → IsPlaced elements (n + 1) parts out → IsPlaced elements n (part ∷ parts) out
    behind elements n part parts out is = let number = is.number in record {
      place = suc is.place;
      plan = is.plan;
      held = is.held;
      number = omega (arith, number);
      there = is.there;
      position = is.position;
      blocks = is.blocks;
    }
out_placed elements n (Some plan ∷ parts) out h = by (part_out elements n (Some plan)) refl h (out_placed elements (n + 1) parts out)
  where
    by : (found : Option Out) → part_out elements n (Some plan) ≡ found → (elim found [ None ↦ out_from elements (n + 1) parts | Some one ↦ Some one ]) ≡ Some out
        → (out_from elements (n + 1) parts ≡ Some out → IsPlaced elements (n + 1) parts out) → IsPlaced elements n (Some plan ∷ parts) out
    by None e h rest = let is = rest h in let number = is.number in record {
      place = suc is.place;
      plan = is.plan;
      held = is.held;
      number = omega (arith, number);
      there = is.there;
      position = is.position;
      blocks = is.blocks;
    }
    by (Some one) e h rest = part_placed elements n parts plan out (e ∙ h)
