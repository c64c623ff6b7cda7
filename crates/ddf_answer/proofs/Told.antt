-- What a call tells.
use Rattle.std.proofs.Common.{◌++◌, ⊎_elim, inl, inr, ℕ, List, Option, Some, None, refl, sym, arith, append-nil}
use Rattle.std.specs.Prelude.{IfSome, codes}
use Rattle.ddf_bytes.specs.Streams.{SinkState}
use Rattle.ddf_answer.specs.Call.{Answer, answer_of}
use Rattle.ddf_answer.specs.Tells.{ClosesWith, EndsWith}

-- what a call tells without memory it tells
pub closes_ends : {expected : ℕ} {text : List ℕ} {answer : Answer} → ClosesWith expected text answer → EndsWith expected text answer
closes_ends closes = record { ends = ⊎_elim inl (λ six. inr (inr six)) closes.ends; tells = closes.tells }

-- where memory ran out before, nothing is told
pub untold : (line : Option (List ℕ)) (expected : ℕ) (tells : Type 0) (before : SinkState) → IfSome line (λ text. EndsWith expected (text ++ codes "\n") (answer_of tells before before 5))
untold None expected tells before = tt
untold (Some text) expected tells before = record {
  ends = inr (inl refl);
  tells = λ told. record { whole = λ low. absurd (omega (arith, low)); front = record { count = 0; within = omega arith; front = sym (append-nil before.taken) } };
}
