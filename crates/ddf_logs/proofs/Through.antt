-- A slot that is seen through the exchange of its own logs.
use Rattle.std.proofs.Common.{◌≡◌, ◌⊎◌, ℕ, ◌+◌, ◌-◌, ◌<◌, true, List, [], Option, Result, Ok, Err, Some, None, refl, sym, ap, subst, ◌∙◌, inl, inr, ⊎_elim, arith}
use Rattle.std.proofs.Math.Path.{fun_ext}
use Rattle.std.proofs.lemmas.Bool.{cases_eq, eq-eqb}
use Rattle.std.specs.Option.{option_map_or}
use Rattle.ddf_header.specs.declared.reading.Header.{Header}
use Rattle.ddf_tables.specs.BadBlocks.{LogValue}
use Rattle.ddf_copy.specs.declared.copies.Copies.{Copies}
use Rattle.ddf_copy.specs.declared.copy.DiskCopy.{DiskCopy}
use Rattle.ddf_copy.specs.declared.fault.AnchorFault.{AnchorFault}
use Rattle.ddf_copy.specs.Anchor.{anchor_at}
use Rattle.ddf_copy.specs.Copies.{copies_of, newest_at, newest_of, newest_of_copies, newest_under, standing_copy}
use Rattle.ddf_copy.proofs.Places.{standing_whole}
use Rattle.ddf_badblocks.specs.declared.range.Range.{Range}
use Rattle.ddf_badblocks.specs.Fits.{ranges_of}
use Rattle.ddf_badblocks.specs.FitsLaws.{fits_exchangeable}
use Rattle.ddf_badblocks.specs.Ranges.{are_exchangeable, swap}
use Rattle.ddf_badblocks.specs.SwapLaws.{swap_none}
use Rattle.ddf_logs.specs.Logs.{exchange_at, exchange_in, exchange_under, honoured, seen_at}
use Rattle.ddf_logs.proofs.Fitting.{last_kept, records_kept}
use Rattle.ddf_logs.proofs.Honoured.{honoured_is, log_or}
use Rattle.ddf_logs.proofs.SeenBeside.{anchor_seen, copies_seen}

-- ---- the ranges can be exchanged

by_log : (last : ℕ) (anchor : Header) (copies : Copies) → ((log : LogValue) × (honoured last anchor copies ≡ Some log)) ⊎ (honoured last anchor copies ≡ None)
    → are_exchangeable (last + 1) (exchange_in last anchor copies) ≡ true
by_log last anchor copies (inl found) =
    let is = honoured_is last anchor copies found.0 found.1 in
    ap (λ (o : Option LogValue). are_exchangeable (last + 1) (option_map_or ranges_of o [])) found.1 ∙ fits_exchangeable found.0 is.given _ last is.has_fit
by_log last anchor copies (inr none) = ap (λ (o : Option LogValue). are_exchangeable (last + 1) (option_map_or ranges_of o [])) none

pub exchange_can : (last : ℕ) (anchor : Header) (copies : Copies) → are_exchangeable (last + 1) (exchange_in last anchor copies) ≡ true
exchange_can last anchor copies = by_log last anchor copies (log_or (honoured last anchor copies))

-- ---- what is seen

ok_or : (read : Result Header AnchorFault) → ((anchor : Header) × (read ≡ Ok anchor)) ⊎ ((fault : AnchorFault) × (read ≡ Err fault))
ok_or (Ok anchor) = inl (anchor, refl)
ok_or (Err fault) = inr (fault, refl)

-- The anchor is the same, and so are the copies under it.
pub record IsSeen (size : ℕ) (sector seen : ℕ → List ℕ) : Type 0 where
  pub anchor_is : anchor_at size seen ≡ anchor_at size sector
  pub copies_are : (anchor : Header) → anchor_at size sector ≡ Ok anchor → copies_of size seen anchor ≡ copies_of size sector anchor

module _ (size : ℕ) (sector seen : ℕ → List ℕ) (is : IsSeen size sector seen) where
  newest_same : (anchor : Header) → copies_of size seen anchor ≡ copies_of size sector anchor → newest_of size seen anchor ≡ newest_of size sector anchor
  unfolding newest_of
  newest_same anchor same = ap newest_of_copies same

  newest_by : ((anchor : Header) × (anchor_at size sector ≡ Ok anchor)) ⊎ ((fault : AnchorFault) × (anchor_at size sector ≡ Err fault)) → newest_at size seen ≡ newest_at size sector
  newest_by (inl found) =
      ap (newest_under size seen) (is.anchor_is ∙ found.1) ∙ ap Some (newest_same found.0 (is.copies_are found.0 found.1)) ∙ sym (ap (newest_under size sector) found.1)
  newest_by (inr none) = ap (newest_under size seen) (is.anchor_is ∙ none.1) ∙ sym (ap (newest_under size sector) none.1)

  pub newest_seen : newest_at size seen ≡ newest_at size sector
  newest_seen = newest_by (ok_or (anchor_at size sector))

  exchange_by : ((anchor : Header) × (anchor_at size sector ≡ Ok anchor)) ⊎ ((fault : AnchorFault) × (anchor_at size sector ≡ Err fault)) → exchange_at size seen ≡ exchange_at size sector
  unfolding exchange_at
  exchange_by (inl found) =
      ap (exchange_under size seen) (is.anchor_is ∙ found.1) ∙ ap (exchange_in (size - 1) found.0) (is.copies_are found.0 found.1) ∙ sym (ap (exchange_under size sector) found.1)
  exchange_by (inr none) = ap (exchange_under size seen) (is.anchor_is ∙ none.1) ∙ sym (ap (exchange_under size sector) none.1)

  pub exchange_seen : exchange_at size seen ≡ exchange_at size sector
  exchange_seen = exchange_by (ok_or (anchor_at size sector))

-- a slot without sectors has no ranges
none_of_none : (sector : ℕ → List ℕ) → exchange_at 0 sector ≡ []
unfolding exchange_at anchor_at
none_of_none sector = refl

pub none_on_empty : (size : ℕ) (sector : ℕ → List ℕ) → size ≡ 0 → exchange_at size sector ≡ []
none_on_empty size sector none = subst (λ (n : ℕ). exchange_at n sector ≡ []) (sym none) (none_of_none sector)

-- ---- through the exchange

-- a slot with an anchor has a sector
has_sector : (size : ℕ) (sector : ℕ → List ℕ) (anchor : Header) → anchor_at size sector ≡ Ok anchor → 0 < size
unfolding anchor_at
has_sector size sector anchor is = ⊎_elim
    (λ none. let blank = rw (eq-eqb size 0 none) at is in absurd cc)
    (λ some. omega arith)
    (cases_eq size 0)

module _ (size : ℕ) (sector : ℕ → List ℕ) where
  none_seen : exchange_at size sector ≡ [] → IsSeen size sector (seen_at size sector)
  none_seen none =
      let same : sector ≡ seen_at size sector = fun_ext (λ l. ap sector (sym (ap (λ (ranges : List Range). swap size ranges l) none ∙ swap_none size l))) in
      subst (λ (seen : ℕ → List ℕ). IsSeen size sector seen) same (record { anchor_is = refl; copies_are = λ anchor anchored. refl })

  module _ (anchor : Header) (anchored : anchor_at size sector ≡ Ok anchor) where
    pub exchange_is : exchange_at size sector ≡ exchange_in (size - 1) anchor (copies_of size sector anchor)
    unfolding exchange_at
    exchange_is = ap (exchange_under size sector) anchored

    stands_so : (copy : DiskCopy) → standing_copy (newest_of_copies (copies_of size sector anchor)) ≡ Some copy → standing_copy (newest_of size sector anchor) ≡ Some copy
    unfolding newest_of
    stands_so copy stands = stands

    log_seen : (log : LogValue) → honoured (size - 1) anchor (copies_of size sector anchor) ≡ Some log → IsSeen size sector (seen_at size sector)
    log_seen log found =
        let is = honoured_is (size - 1) anchor (copies_of size sector anchor) log found in
        let some = has_sector size sector anchor anchored in
        let back : size - 1 + 1 ≡ size = omega (arith, some) in
        let whole = standing_whole size sector anchor is.copy (stands_so is.copy is.stands) in
        let ranges : exchange_at size sector ≡ ranges_of log = exchange_is ∙ ap (λ (o : Option LogValue). option_map_or ranges_of o []) found in
        let at : ℕ → ℕ = λ l. swap size (ranges_of log) l in
        let kept = last_kept size (size - 1) back refl sector anchor whole.0 is.copy log is.given whole.1 is.has_fit in
        let stays = records_kept size (size - 1) back refl sector anchor whole.0 is.copy log is.given whole.1 is.has_fit in
        subst (λ (all : List Range). IsSeen size sector (λ l. sector (swap size all l))) (sym ranges) (record {
          anchor_is = anchor_seen size sector at kept;
          copies_are = λ other also.
              let same : anchor ≡ other = let both = sym anchored ∙ also in cc in
              subst (λ (one : Header). copies_of size (λ l. sector (at l)) one ≡ copies_of size sector one) same (copies_seen size sector at kept anchor whole.0 is.copy whole.1 stays);
        })

    anchor_through : ((log : LogValue) × (honoured (size - 1) anchor (copies_of size sector anchor) ≡ Some log)) ⊎ (honoured (size - 1) anchor (copies_of size sector anchor) ≡ None)
        → IsSeen size sector (seen_at size sector)
    anchor_through (inl found) = log_seen found.0 found.1
    anchor_through (inr none) = none_seen (exchange_is ∙ ap (λ (o : Option LogValue). option_map_or ranges_of o []) none)

    can_here : are_exchangeable size (exchange_at size sector) ≡ true
    can_here =
        let some = has_sector size sector anchor anchored in
        let back : size - 1 + 1 ≡ size = omega (arith, some) in
        ap (are_exchangeable size) exchange_is
        ∙ subst (λ (n : ℕ). are_exchangeable n (exchange_in (size - 1) anchor (copies_of size sector anchor)) ≡ true) back (exchange_can (size - 1) anchor (copies_of size sector anchor))

  none_there : (fault : AnchorFault) → anchor_at size sector ≡ Err fault → exchange_at size sector ≡ []
  unfolding exchange_at
  none_there fault is = ap (exchange_under size sector) is

  pub through : IsSeen size sector (seen_at size sector)
  through = ⊎_elim
      (λ found. anchor_through found.0 found.1 (log_or (honoured (size - 1) found.0 (copies_of size sector found.0))))
      (λ none. none_seen (none_there none.0 none.1))
      (ok_or (anchor_at size sector))

  pub can_at : are_exchangeable size (exchange_at size sector) ≡ true
  can_at = ⊎_elim
      (λ found. can_here found.0 found.1)
      (λ none. ap (are_exchangeable size) (none_there none.0 none.1))
      (ok_or (anchor_at size sector))
