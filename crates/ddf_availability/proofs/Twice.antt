-- An array of which no disk holds two positions, where one of them goes to a disk that holds none.
use Rattle.std.proofs.Common.{◌≡◌, ◌∙◌, ℕ, Bool, false, ◌==◌, List, [], ◌∷◌, ◌++◌, map, nat_eq, refl, sym, ap}
use Rattle.std.proofs.lemmas.Bool.{or_from, or_parts}
use Rattle.std.specs.List.{list_any}
use Rattle.ddf_lemmas.proofs.Tests.{eqb_false_turned}
use Rattle.ddf_config.specs.declared.extent.Extent.{Extent}
use Rattle.ddf_plan.specs.CreateRefusal.{names_twice}
use Rattle.ddf_availability.proofs.Moves.{IsMoved}

abbrev named_by : List Extent → List ℕ
named_by all = map (λ (one : Extent). one.reference) all

abbrev lie_on : List Extent → ℕ → Bool
lie_on all reference = list_any (λ (one : Extent). one.reference == reference) all

-- what is named among others isn't another
away_from : (reference : ℕ) (all : List Extent) → lie_on all reference ≡ false → list_any (nat_eq reference) (named_by all) ≡ false
away_from reference [] h = refl
away_from reference (one ∷ all) h =
    let parts = or_parts (one.reference == reference) (lie_on all reference) h in
    or_from (nat_eq reference one.reference) (list_any (nat_eq reference) (named_by all)) (eqb_false_turned one.reference reference parts.0) (away_from reference all parts.1)

module _ (old found : Extent) (post : List Extent) where
  -- a disk that isn't among them isn't with another one among them
  not_among : (x : ℕ) (pre : List Extent) → nat_eq x found.reference ≡ false → list_any (nat_eq x) (named_by (pre ++ old ∷ post)) ≡ false → list_any (nat_eq x) (named_by (pre ++ found ∷ post)) ≡ false
  not_among x [] other h = or_from (nat_eq x found.reference) (list_any (nat_eq x) (named_by post)) other (or_parts (nat_eq x old.reference) (list_any (nat_eq x) (named_by post)) h).1
  not_among x (one ∷ pre) other h =
      let parts = or_parts (nat_eq x one.reference) (list_any (nat_eq x) (named_by (pre ++ old ∷ post))) h in
      or_from (nat_eq x one.reference) (list_any (nat_eq x) (named_by (pre ++ found ∷ post))) parts.0 (not_among x pre other parts.1)

  still_once : (pre : List Extent) → lie_on (pre ++ old ∷ post) found.reference ≡ false → names_twice (named_by (pre ++ old ∷ post)) ≡ false → names_twice (named_by (pre ++ found ∷ post)) ≡ false
  still_once [] away h =
      let rest = or_parts (old.reference == found.reference) (lie_on post found.reference) away in
      let once = or_parts (list_any (nat_eq old.reference) (named_by post)) (names_twice (named_by post)) h in
      or_from (list_any (nat_eq found.reference) (named_by post)) (names_twice (named_by post)) (away_from found.reference post rest.1) once.1
  still_once (one ∷ pre) away h =
      let rest = or_parts (one.reference == found.reference) (lie_on (pre ++ old ∷ post) found.reference) away in
      let once = or_parts (list_any (nat_eq one.reference) (named_by (pre ++ old ∷ post))) (names_twice (named_by (pre ++ old ∷ post))) h in
      or_from (list_any (nat_eq one.reference) (named_by (pre ++ found ∷ post))) (names_twice (named_by (pre ++ found ∷ post))) (not_among one.reference pre rest.0 once.0) (still_once pre rest.1 once.1)

-- no disk is named twice where one is replaced by another that isn't named
pub once_moved : (old found : Extent) (before after : List Extent) → IsMoved old found before after → lie_on before found.reference ≡ false → names_twice (named_by before) ≡ false → names_twice (named_by after) ≡ false
once_moved old found before after moved away once =
    ap (λ (l : List Extent). names_twice (named_by l)) moved.is
    ∙ still_once old found moved.post moved.pre (sym (ap (λ (l : List Extent). lie_on l found.reference) moved.was) ∙ away) (sym (ap (λ (l : List Extent). names_twice (named_by l)) moved.was) ∙ once)
