-- Faults that are passed on.
use Rattle.std.proofs.Common.{◌≡◌, ℕ, ◌∙◌, ap, sym, Result, Err}
use Rattle.std.specs.Result.{IsErrAnd}
use Rattle.std.proofs.lemmas.Result.{err_from_is_err_and}
use Rattle.ddf_words.specs.declared.words.WordFault.{WordFault}
use Rattle.ddf_words.specs.declared.words.WordFault.TheVariants.{Place}

pub same_error : {T E : Type 0} (one other : E) → ◌≡◌ {A = Result T E} (Err one) (Err other) → one ≡ other
same_error one other e = cc

-- what passes a fault on answers it
pub passed_on : {T U : Type 0} (before : Result U WordFault) (fault : WordFault) (r : Result T WordFault) (place : ℕ) → before ≡ Err fault → IsErrAnd r (λ given. given ≡ fault)
    → r ≡ Err (Place place) → before ≡ Err (Place place)
passed_on before fault r place was kept e =
    let given = err_from_is_err_and r kept in
    was ∙ ap Err (sym given.2 ∙ same_error given.0 (Place place) (sym given.1 ∙ e))
