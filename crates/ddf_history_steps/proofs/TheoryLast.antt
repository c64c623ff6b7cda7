-- The last of the changes that were issued.
use Rattle.std.proofs.Common.{◌≡◌, ℕ, ◌+◌, ◌≤◌, length, get_or, inl, inr, ⊎_elim, arith}
use Rattle.std.proofs.lemmas.Bool.{cases_lt}
use Rattle.std.proofs.lemmas.Option.{slice_get-get_or, slice_get_within}
use Rattle.ddf_lemmas.proofs.Lists.{get_last}
use Rattle.ddf_history.specs.Reading.{Reading}
use Rattle.ddf_history.specs.Issued.{Changes, issued, acknowledged}
use Rattle.ddf_history.specs.Steps.{IsLast}
use Rattle.ddf_history.proofs.Issuing.{since_more}

-- The last change stands at the end of the list.
pub issued_count : {r : Reading} (changes : Changes r) (number : ℕ) (last : r.Config) → IsLast changes number last → length changes.issued ≡ number + 1
issued_count changes number last at_last =
    let within = slice_get_within changes.issued number last at_last.since.is_there in
    elim (cases_lt (number + 1) (length changes.issued)) [
      | inl more ↦
          let late = at_last.since.late in
          let later = at_last.none_later (number + 1) (get_or changes.issued (number + 1) last)
          (record { late = omega arith; is_there = slice_get-get_or changes.issued (number + 1) last more }) in
          absurd (omega arith)
      | inr few ↦ omega arith
    ]

-- A change that is issued behind it has a greater number than the last acknowledged one.
pub number_next : {r : Reading} (changes : Changes r) (number : ℕ) (last : r.Config) → IsLast changes number last → changes.acked + 1 ≤ length changes.issued
number_next changes number last at_last =
    let within = slice_get_within changes.issued number last at_last.since.is_there in
    let late = at_last.since.late in
    omega arith

-- A change that is issued behind the last one is the last.
pub last_next : {r : Reading} (changes : Changes r) (number : ℕ) (last next : r.Config) → IsLast changes number last
    → IsLast (issued changes next) (length changes.issued) next
last_next changes number last next at_last = record {
  since = let more = number_next changes number last at_last in record { late = omega arith; is_there = get_last changes.issued next };
  none_later = λ i config at. ⊎_elim
      (λ was. let within = slice_get_within changes.issued i config was.is_there in omega arith)
      (λ is. omega (arith, is.0))
      (since_more changes next i config at);
}

-- The last change stays so where it is acknowledged.
pub last_acknowledged : {r : Reading} (changes : Changes r) (number : ℕ) (last : r.Config) → IsLast changes number last
    → IsLast (acknowledged changes number) number last
last_acknowledged changes number last at_last = record {
  since = record { late = omega arith; is_there = at_last.since.is_there };
  none_later = λ i config at.
      let late = at.late in
      let early = at_last.since.late in
      at_last.none_later i config (record { late = omega arith; is_there = at.is_there });
}
