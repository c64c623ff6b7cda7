-- Updates of disks, one after another.
use Rattle.std.proofs.Common.{◌≡◌, ℕ, zero, suc, ◌+◌, ◌<◌, ◌≤◌, Bool, List, [], ◌∷◌, ◌++◌, length, filter, get_or, take, refl, sym, ap, ◌∙◌, subst, ⊎_elim, arith}
use Rattle.std.proofs.lemmas.List.{append_assoc, take_more, length_push}
use Rattle.std.proofs.lemmas.List.Elements.{filter-append}
use Rattle.ddf_update.specs.declared.prepared.Prepared.{Prepared}
use Rattle.ddf_update.specs.Prepared.{IsPrepared}
use Rattle.ddf_seats.specs.declared.seated.Seated.{Seated}
use Rattle.ddf_steps.specs.Trying.{ArePrepared}
use Rattle.ddf_seats.proofs.Lists.{get_more, get_within}

pub prepared_more : (disks : List Seated) (updates : List Prepared) (disk : Seated) (update : Prepared)
    → ArePrepared disks updates → IsPrepared disk.copy disk.last disk.mode update → ArePrepared (disks ++ disk ∷ []) (updates ++ update ∷ [])
prepared_more disks updates disk update are is = record {
  counted = length_push updates update ∙ ap (λ n. n + 1) are.counted ∙ sym (length_push disks disk);
  each = λ place one other at there.
      ⊎_elim
      (λ before. ⊎_elim
      (λ also. are.each place one other before also)
      (λ last. let below = get_within disks one place before in absurd (omega (arith, last.0, are.counted, below)))
      (get_more updates update other place there))
      (λ last. ⊎_elim
      (λ also. let below = get_within updates other place also in absurd (omega (arith, last.0, are.counted, below)))
      (λ same. subst (λ (d : Seated). IsPrepared d.copy d.last d.mode other) last.1 (subst (IsPrepared disk.copy disk.last disk.mode) same.1 is))
      (get_more updates update other place there))
      (get_more disks disk one place at);
}

-- the disks of a test among the first ones, with one more
pub where_next : (test : Seated → Bool) (disks : List Seated) (i : ℕ) (disk : Seated) → i < length disks → disk ≡ get_or disks i disk → (before : List Seated)
    → (before ++ filter test (take i disks)) ++ filter test (disk ∷ []) ≡ before ++ filter test (take (i + 1) disks)
where_next test disks i disk below at before =
    let more : filter test (take (i + 1) disks) ≡ filter test (take i disks) ++ filter test (disk ∷ []) =
    ap (filter test) (take_more disks i disk below ∙ ap (λ (d : Seated). take i disks ++ d ∷ []) (sym at)) ∙ filter-append test (take i disks) (disk ∷ []) in
    append_assoc before (filter test (take i disks)) (filter test (disk ∷ [])) ∙ ap (λ (l : List Seated). before ++ l) (sym more)

-- none
pub none_prepared : ArePrepared [] []
none_prepared = record { counted = refl; each = λ place one other at there. absurd cc }

-- as many as there are are all
pub take_all : (disks : List Seated) (i : ℕ) → length disks ≤ i → take i disks ≡ disks
take_all [] zero within = refl
take_all [] (suc i) within = refl
take_all (disk ∷ disks) zero within = absurd (omega (arith, within))
take_all (disk ∷ disks) (suc i) within = ap (λ (l : List Seated). disk ∷ l) (take_all disks i (omega (arith, within)))
