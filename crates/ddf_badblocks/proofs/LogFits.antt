-- Whether a log fits, by the exchange of its ranges.
use Rattle.std.specs.Prelude.{ℕ, zero, suc, ◌+◌, ◌^◌, ◌<◌, Bool, true, false, ◌==◌, ◌&&◌, List, [], ◌∷◌, length, map, Option, Some, None, Result, Ok, Err, slice_get, IfOk, MatchOption}
use Rattle.std.specs.List.{list_all}
use Rattle.std.proofs.Common.{◌≡◌, refl, sym, ◌∙◌, ⊎_elim, arith}
use Rattle.std.proofs.lemmas.Bool.{and_parts, and_from, cases_Bool, eqb-true, eq-eqb}
use Rattle.ddf_tables.specs.declared.bad_blocks.BadBlock.{BadBlock}
use Rattle.ddf_tables.specs.BadBlocks.{LogValue}
use Rattle.ddf_badblocks.specs.declared.fitting.Stretch.{Stretch}
use Rattle.ddf_badblocks.specs.declared.range.Range.{Range}
use Rattle.ddf_badblocks.specs.Ranges.{are_apart, are_exchangeable, is_sound, share}
use Rattle.ddf_badblocks.specs.Fits.{all_lone, are_lone, area_fits, entry_fits, fits, range_of, ranges_of}
use Rattle.ddf_badblocks.specs.ExchangeLaws.{apart_of}
use Rattle.ddf_badblocks.specs.FitsLaws.{all_exchangeable, area_of, fit_of, unshifted}

module _ (log : LogValue) (size : ℕ) (kept : List Stretch) (last : ℕ) where
  abbrev pub may_fit : Bool
  may_fit = area_fits log size kept last && list_all (entry_fits size log.spare_count kept) log.entries

  pub fits_empty : length log.entries ≡ 0 → fits log size kept last ≡ true
  unfolding fits
  fits_empty none = let is : (length log.entries == 0) ≡ true = eq-eqb _ _ none in rw is refl

  pub fits_not : may_fit ≡ false → (length log.entries ≡ 0 → ⊥) → fits log size kept last ≡ false
  unfolding fits
  fits_not fails some =
      let not_none : (length log.entries == 0) ≡ false = ⊎_elim (λ is. absurd (some (eqb-true _ _ is))) (λ no. no) (cases_Bool (length log.entries == 0)) in
      rw (not_none, fails) refl

  pub fits_is : may_fit ≡ true → (length log.entries ≡ 0 → ⊥) → fits log size kept last ≡ all_lone log.entries
  unfolding fits
  fits_is holds some =
      let not_none : (length log.entries == 0) ≡ false = ⊎_elim (λ is. absurd (some (eqb-true _ _ is))) (λ no. no) (cases_Bool (length log.entries == 0)) in
      rw (not_none, holds) refl

-- ranges that lie apart are those of entries that do
lone_of : (first : ℕ) (one other : BadBlock) → are_apart (range_of first one) (range_of first other) ≡ true → are_lone one other ≡ true
lone_of first one other is =
    let apart = apart_of (range_of first one) (range_of first other) is in
    lone_by one other apart.starts (unshifted first one.spare one.count other.spare other.count apart.spares)
  where
    lone_by : (one other : BadBlock) → share one.start one.count other.start other.count ≡ false → share one.spare one.count other.spare other.count ≡ false → are_lone one other ≡ true
    lone_by one other a b = rw (a, b) refl

all_lone_of : (first : ℕ) (one : BadBlock) (blocks : List BadBlock) → list_all (are_apart (range_of first one)) (map (range_of first) blocks) ≡ true → list_all (are_lone one) blocks ≡ true
all_lone_of first one [] all = refl
all_lone_of first one (block ∷ blocks) all =
    let parts = and_parts (are_apart (range_of first one) (range_of first block)) (list_all (are_apart (range_of first one)) (map (range_of first) blocks)) all in
    and_from (are_lone one block) (list_all (are_lone one) blocks) (lone_of first one block parts.0) (all_lone_of first one blocks parts.1)

exchangeable_lone : (over first : ℕ) (blocks : List BadBlock) → are_exchangeable over (map (range_of first) blocks) ≡ true → all_lone blocks ≡ true
exchangeable_lone over first [] can = refl
exchangeable_lone over first (block ∷ blocks) can =
    let others = map (range_of first) blocks in
    let a = and_parts (is_sound over (range_of first block) && list_all (are_apart (range_of first block)) others) (are_exchangeable over others) can in
    let b = and_parts (is_sound over (range_of first block)) (list_all (are_apart (range_of first block)) others) a.0 in
    and_from (list_all (are_lone block) blocks) (all_lone blocks) (all_lone_of first block blocks b.1) (exchangeable_lone over first blocks a.1)

module _ (log : LogValue) (size : ℕ) (kept : List Stretch) (last : ℕ) (holds : may_fit log size kept last ≡ true) (some : length log.entries ≡ 0 → ⊥) where
  -- a log whose entries lie where they may fits where they can be exchanged
  pub fits_exchange : fits log size kept last ≡ are_exchangeable last (ranges_of log)
  fits_exchange =
      let parts = and_parts (area_fits log size kept last) (list_all (entry_fits size log.spare_count kept) log.entries) holds in
      let area = area_of log size kept last parts.0 in
      fits_is log size kept last holds some ∙ ⊎_elim
      (λ lone. lone ∙ sym (all_exchangeable log size kept last area last (omega arith) log.entries parts.1 lone))
      (λ met. met ∙ sym (⊎_elim
      (λ can. absurd (clash (exchangeable_lone last log.first_spare log.entries can) met))
      (λ no. no)
      (cases_Bool (are_exchangeable last (ranges_of log)))))
      (cases_Bool (all_lone log.entries))
    where
      clash : {b : Bool} → b ≡ true → b ≡ false → ⊥
      clash is fails = let both : true ≡ false = sym is ∙ fails in absurd cc

  -- a spare range's LBA is a number of 64 bits
  pub spare_small : last < 2 ^ 64 → (k : ℕ) (block : BadBlock) → slice_get log.entries k ≡ Some block → log.first_spare + block.spare < 2 ^ 64
  spare_small small k block here =
      let parts = and_parts (area_fits log size kept last) (list_all (entry_fits size log.spare_count kept) log.entries) holds in
      let area = area_of log size kept last parts.0 in
      let fit = fit_of size log.first_spare log.spare_count kept block (entry_at log.entries k parts.1 here) in
      omega (arith, small, area.ends, fit.spare_ends, fit.some)
    where
      entry_at : (blocks : List BadBlock) (k : ℕ) → list_all (entry_fits size log.spare_count kept) blocks ≡ true → slice_get blocks k ≡ Some block → entry_fits size log.spare_count kept block ≡ true
      entry_at [] k all is = absurd cc
      entry_at (one ∷ others) zero all is =
          let same : one ≡ block = cc in
          rw same at ((and_parts (entry_fits size log.spare_count kept one) (list_all (entry_fits size log.spare_count kept) others) all).0)
      entry_at (one ∷ others) (suc k) all is = entry_at others k ((and_parts (entry_fits size log.spare_count kept one) (list_all (entry_fits size log.spare_count kept) others) all).1) is

-- what was found of the ranges is what is found of the log
pub found_of : (log : LogValue) (size : ℕ) (kept : List Stretch) (last : ℕ) → fits log size kept last ≡ are_exchangeable last (ranges_of log) → (found : Option (List Range))
    → MatchOption found (are_exchangeable last (ranges_of log) ≡ false) (λ exchange. (exchange ≡ ranges_of log) × (are_exchangeable last (ranges_of log) ≡ true))
    → MatchOption found (fits log size kept last ≡ false) (λ exchange. (exchange ≡ ranges_of log) × (fits log size kept last ≡ true))
found_of log size kept last same None fails = same ∙ fails
found_of log size kept last same (Some exchange) is = (is.0, same ∙ is.1)

pub found_ok : {E : Type 0} (log : LogValue) (size : ℕ) (kept : List Stretch) (last : ℕ) → fits log size kept last ≡ are_exchangeable last (ranges_of log)
    → (ranges : List Range) → ranges ≡ ranges_of log → (result : Result (Option (List Range)) E)
    → IfOk result (λ found. MatchOption found (are_exchangeable last ranges ≡ false) (λ exchange. (exchange ≡ ranges) × (are_exchangeable last ranges ≡ true)))
    → IfOk result (λ found. MatchOption found (fits log size kept last ≡ false) (λ exchange. (exchange ≡ ranges_of log) × (fits log size kept last ≡ true)))
found_ok log size kept last same ranges is (Ok found) there = found_of log size kept last same found (rw is at there)
found_ok log size kept last same ranges is (Err fault) there = tt

pub ranges_empty : (log : LogValue) → length log.entries ≡ 0 → ranges_of log ≡ []
ranges_empty log none = none_of log.entries none
  where
    none_of : (blocks : List BadBlock) → length blocks ≡ 0 → map (range_of log.first_spare) blocks ≡ []
    none_of [] e = refl
    none_of (block ∷ blocks) e = absurd (omega (arith, e))
