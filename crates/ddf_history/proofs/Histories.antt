-- Every moment of a history.
use Rattle.std.proofs.Common.{List, [], ◌∷◌, inl, inr, arith}
use Rattle.ddf_history.specs.Reading.{Reading, Scene, IsSound, Each}
use Rattle.ddf_history.specs.Issued.{Past}
use Rattle.ddf_history.specs.History.{Moment, AllKept, KeepsAcked, IsStep, IsHistory, DoCallsKeep, Answers}
use Rattle.ddf_history.proofs.Assembling.{promised}
use Rattle.ddf_history.proofs.Cutting.{lost_kept, given_back_kept}

-- What is kept over two stretches of a history is kept over both.
acked_trans : {r : Reading} (one two three : Past r) → KeepsAcked one two → KeepsAcked two three → KeepsAcked one three
acked_trans one two three first second = record {
  later = let le = first.later in let le' = second.later in omega arith;
  same = λ i c le at. second.same i c (let le' = first.later in omega arith) (first.same i c le at);
}

-- What follows from what all items of a list have, all have.
each_more : {A : Type 0} (P Q : A → Type 0) → ((x : A) → P x → Q x) → (xs : List A) → Each P xs → Each Q xs
each_more P Q more [] each = tt
each_more P Q more (x ∷ xs) each = (more x each.0, each_more P Q more xs each.1)

module _ (r : Reading) (sound : IsSound r) (B : Type 0) (Leaves : B → Scene r.Copy → Type 0) (Call : Moment r B → Moment r B → Type 0) (keep : DoCallsKeep Leaves Call) where
  -- a step keeps what each slot shows
  pub step_kept : (old new : Moment r B) → IsStep Leaves Call old new → AllKept Leaves old → AllKept Leaves new
  step_kept old new (inl call) kept = (keep old new call kept).0
  step_kept old new (inr (inl stop)) kept = λ scene left. rw stop.same_past (kept scene (stop.is_left scene left))
  step_kept old new (inr (inr (inl loss))) kept = λ scene left. rw loss.is_lost (lost_kept old.past scene loss.slot loss.own (kept scene (loss.is_left scene left)))
  step_kept old new (inr (inr (inr back))) kept = λ scene left. rw back.is_back (given_back_kept old.past scene back.slot back.own (kept scene (back.is_left scene left)) back.is_missing)

  -- and what was acknowledged
  pub step_acked : (old new : Moment r B) → IsStep Leaves Call old new → AllKept Leaves old → KeepsAcked old.past new.past
  step_acked old new (inl call) kept = (keep old new call kept).1
  step_acked old new (inr (inl stop)) kept = rw stop.same_past (record { later = omega arith; same = λ i c le at. at })
  step_acked old new (inr (inr (inl loss))) kept = rw loss.is_lost (record { later = omega arith; same = λ i c le at. at })
  step_acked old new (inr (inr (inr back))) kept = rw back.is_back (record { later = omega arith; same = λ i c le at. at })

  -- Where each slot shows what it should, assembly answers as promised.
  kept_answers : (m : Moment r B) → AllKept Leaves m → Answers Leaves m
  kept_answers m kept scene left readable may member answer is = promised r sound m.past scene (kept scene left) readable may member answer is

  -- At every moment of a history assembly answers as promised.
  pub a_history_answers_at_every_moment : (start : Moment r B) (history : List (Moment r B)) → AllKept Leaves start → IsHistory Leaves Call start history → Each (Answers Leaves) (start ∷ history)
  a_history_answers_at_every_moment start [] kept is = (kept_answers start kept, tt)
  a_history_answers_at_every_moment start (next ∷ rest) kept is = (kept_answers start kept, a_history_answers_at_every_moment next rest (step_kept start next is.0 kept) is.1)

  -- What was acknowledged at its start stays in the list at every moment.
  pub a_history_keeps_what_was_acknowledged : (start : Moment r B) (history : List (Moment r B)) → AllKept Leaves start → IsHistory Leaves Call start history → Each (λ m. KeepsAcked start.past m.past) history
  a_history_keeps_what_was_acknowledged start [] kept is = tt
  a_history_keeps_what_was_acknowledged start (next ∷ rest) kept is =
      let first = step_acked start next is.0 kept in
      let later = a_history_keeps_what_was_acknowledged next rest (step_kept start next is.0 kept) is.1 in
      (first, each_more (λ m. KeepsAcked next.past m.past) (λ m. KeepsAcked start.past m.past) (λ m one. acked_trans start.past next.past m.past first one) rest later)
