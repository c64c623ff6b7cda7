-- The newest copy of a disk is seen where it stands, whatever the other copy is.
use Rattle.std.proofs.Common.{◌≡◌, ◌⊎◌, ◌∙◌, ℕ, ◌+◌, ◌*◌, ◌-◌, ◌<◌, ◌≤◌, ◌^◌, Bool, true, false, List, ◌++◌, length, take, map, Option, Some, None, Result, Ok, Err, refl, sym, ap, subst, inl, inr, ⊎_elim, arith, drop_at, length-take-le}
use Rattle.std.specs.Prelude.{nat_lt, if◌then◌else◌}
use Rattle.std.specs.List.{range_with_len}
use Rattle.std.specs.Int.{w16}
use Rattle.ddf_bay.specs.Sectors.{IsWhole}
use Rattle.ddf_bytes.specs.Bytes.{number_at}
use Rattle.ddf_seal.specs.Seal.{IsSealed}
use Rattle.ddf_seal.specs.Unread.{AreBytes}
use Rattle.ddf_header.specs.declared.geometry.Section.{Section}
use Rattle.ddf_header.specs.declared.reading.Header.{Header}
use Rattle.ddf_header.specs.Geometry.{section_of}
use Rattle.ddf_tables.specs.declared.layout.TheConstants.{LOG_COUNT_AT, LOG_ENTRIES_AT, LOG_ENTRY_BYTES}
use Rattle.ddf_tables.specs.BadBlocks.{LogValue, log_at, log_bytes, log_signature}
use Rattle.ddf_copy.specs.declared.copy.DiskCopy.{DiskCopy}
use Rattle.ddf_copy.specs.declared.fault.CopyFault.{CopyFault}
use Rattle.ddf_copy.specs.declared.newest_copy.Newest.TheVariants as newests
use Rattle.ddf_copy.specs.declared.which.Which.{Which}
use Rattle.ddf_copy.specs.declared.which.Which.TheVariants.{Primary, Secondary}
use Rattle.ddf_copy.specs.Copies.{are_level, copy_of, newest_in, newest_of, newest_of_both, standing_copy}
use Rattle.ddf_copy.specs.Sections.{bytes_in}
use Rattle.ddf_copy.specs.Which.{place_of}
use Rattle.ddf_hidden_logs.specs.declared.mask.Mask.{Mask}
use Rattle.ddf_hidden_logs.specs.Masks.{turned_by}
use Rattle.ddf_hidden_logs.specs.Recounts.{mask_of_log, recounted}
use Rattle.ddf_hidden_logs.specs.TurnLaws.{shown_whole, turn_twice}
use Rattle.ddf_hidden_logs.proofs.Logged.{first_and_rest}
use Rattle.ddf_hidden_logs.proofs.Other.{IsEither, IsFrontOf, is_there}
use Rattle.ddf_hidden_logs.proofs.Recounted.{count_stands, parts_are, recounted_bytes, recounted_sealed, recounted_size}
use Rattle.ddf_hidden_logs.proofs.Shows.{below_is, bytes_are, bytes_size, copy_now, long, read_log, shown_is}
use Rattle.ddf_hidden_logs.proofs.Whole.{IsReadOf, sectors_size}

-- ---- which of two copies stands

abbrev AreAlike : Result DiskCopy CopyFault → Result DiskCopy CopyFault → Type 0
AreAlike (Ok one) (Ok other) = other.header ≡ one.header
AreAlike (Err one) (Err other) = Unit {0}
AreAlike one other = ⊥

-- the copy that stands of two results
abbrev stands : Result DiskCopy CopyFault → Result DiskCopy CopyFault → Option DiskCopy
stands (Ok primary) (Ok secondary) = Some (if nat_lt primary.header.sequence secondary.header.sequence then secondary else primary)
stands (Ok primary) (Err fault) = Some primary
stands (Err fault) (Ok secondary) = Some secondary
stands (Err first) (Err second) = None

stands_both : (level : Bool) (primary secondary : DiskCopy) → standing_copy (newest_of_both level primary secondary) ≡ Some (if nat_lt primary.header.sequence secondary.header.sequence then secondary else primary)
stands_both level primary secondary = by (nat_lt primary.header.sequence secondary.header.sequence) (nat_lt secondary.header.sequence primary.header.sequence) level
  where
    by : (less more same : Bool)
        → standing_copy (if less then newests.One Secondary secondary else if more then newests.One Primary primary else if same then newests.Level primary else newests.TwoDiffer primary secondary)
        ≡ Some (if less then secondary else primary)
    by true more same = refl
    by false true same = refl
    by false false true = refl
    by false false false = refl

stands_in : (level : Bool) (primary secondary : Result DiskCopy CopyFault) → standing_copy (newest_in level primary secondary) ≡ stands primary secondary
stands_in level (Ok primary) (Ok secondary) = stands_both level primary secondary
stands_in level (Ok primary) (Err fault) = refl
stands_in level (Err fault) (Ok secondary) = refl
stands_in level (Err first) (Err second) = refl

pub stands_of : (size : ℕ) (sector : ℕ → List ℕ) (anchor : Header) → standing_copy (newest_of size sector anchor) ≡ stands (copy_of size sector anchor Primary) (copy_of size sector anchor Secondary)
unfolding newest_of
stands_of size sector anchor = stands_in (are_level (copy_of size sector anchor Primary) (copy_of size sector anchor Secondary)) (copy_of size sector anchor Primary) (copy_of size sector anchor Secondary)

abbrev good : DiskCopy → Result DiskCopy CopyFault
good copy = Ok copy

-- the copy that stands is that of one place, and so it is of results that are alike
abbrev SamePlace : (primary secondary seen_primary seen_secondary : Result DiskCopy CopyFault) → DiskCopy → Type 0
SamePlace primary secondary seen_primary seen_secondary copy =
    ((primary ≡ Ok copy) × ((seen : DiskCopy) → seen_primary ≡ Ok seen → stands seen_primary seen_secondary ≡ Some seen))
    ⊎ ((secondary ≡ Ok copy) × ((seen : DiskCopy) → seen_secondary ≡ Ok seen → stands seen_primary seen_secondary ≡ Some seen))

same_place : (primary secondary seen_primary seen_secondary : Result DiskCopy CopyFault) → AreAlike primary seen_primary → AreAlike secondary seen_secondary → (copy : DiskCopy) → stands primary secondary ≡ Some copy
    → SamePlace primary secondary seen_primary seen_secondary copy
same_place (Ok p) (Ok s) (Ok seen_p) (Ok seen_s) first second copy is =
    let later : nat_lt seen_p.header.sequence seen_s.header.sequence ≡ nat_lt p.header.sequence s.header.sequence =
    ap (λ (header : Header). nat_lt header.sequence seen_s.header.sequence) first ∙ ap (λ (header : Header). nat_lt p.header.sequence header.sequence) second in
    by (nat_lt p.header.sequence s.header.sequence) (nat_lt seen_p.header.sequence seen_s.header.sequence) later is
  where
    by : (test again : Bool) → again ≡ test → Some (if test then s else p) ≡ Some copy
        → ((good p ≡ good copy) × ((seen : DiskCopy) → good seen_p ≡ good seen → Some (if again then seen_s else seen_p) ≡ Some seen))
        ⊎ ((good s ≡ good copy) × ((seen : DiskCopy) → good seen_s ≡ good seen → Some (if again then seen_s else seen_p) ≡ Some seen))
    by true true same e = let whole : s ≡ copy = cc in inr (ap good whole, λ seen also. let one : seen_s ≡ seen = cc in ap Some one)
    by false false same e = let whole : p ≡ copy = cc in inl (ap good whole, λ seen also. let one : seen_p ≡ seen = cc in ap Some one)
    by true false same e = absurd cc
    by false true same e = absurd cc
same_place (Ok p) (Err fault) (Ok seen_p) (Err seen_fault) first second copy is = let whole : p ≡ copy = cc in inl (ap good whole, λ seen also. let one : seen_p ≡ seen = cc in ap Some one)
same_place (Err fault) (Ok s) (Err seen_fault) (Ok seen_s) first second copy is = let whole : s ≡ copy = cc in inr (ap good whole, λ seen also. let one : seen_s ≡ seen = cc in ap Some one)
same_place (Err first_fault) (Err second_fault) seen_primary seen_secondary first second copy is = absurd cc
same_place (Ok p) secondary (Err seen_fault) seen_secondary first second copy is = absurd first
same_place (Err fault) secondary (Ok seen_p) seen_secondary first second copy is = absurd first
same_place primary (Ok s) seen_primary (Err seen_fault) first second copy is = absurd second
same_place primary (Err fault) seen_primary (Ok seen_s) first second copy is = absurd second

-- ---- both fronts of the standing copy's log

module _ (size : ℕ) (sector : ℕ → List ℕ) (whole : (l : ℕ) → IsWhole (sector l)) (anchor : Header) (which : Which) (copy : DiskCopy) (is : copy_of size sector anchor which ≡ Ok copy)
    (log : LogValue) (has : copy.bad ≡ Some log) (count : ℕ) (small : count < 2 ^ 16) (fits : LOG_ENTRIES_AT + LOG_ENTRY_BYTES * count ≤ 512 * (section_of copy.header.geometry 5).length) where
  abbrev section : Section
  section = section_of copy.header.geometry 5

  abbrev front : ℕ
  front = place_of which anchor + section.offset

  abbrev mask : Mask
  mask = mask_of_log anchor section log count

  abbrev after : List ℕ
  after = bytes_in (map sector (range_with_len (front + 1) (section.length - 1)))

  abbrev bytes : List ℕ
  bytes = sector front ++ after

  there : IsReadOf sector front section.length log
  there = read_log size sector whole anchor which copy is log has

  below_bytes : mask.below ++ after ≡ bytes
  below_bytes = ap (λ (head : List ℕ). head ++ after) (below_is size sector whole anchor which copy is log has count small fits)

  enough : 512 ≤ length bytes
  enough = long size sector whole anchor which copy is log has count small fits

  are : AreBytes bytes
  are = bytes_are size sector whole anchor which copy is log has count small fits

  shown_bytes : mask.shown ++ after ≡ recounted count bytes
  shown_bytes =
      ap (λ (head : List ℕ). head ++ after) (shown_is size sector whole anchor which copy is log has count small fits)
      ∙ ap (λ (others : List ℕ). take 512 (recounted count bytes) ++ others) (sym (drop_at (sector front) after 512 (whole front).size))
      ∙ parts_are bytes enough count

  below_front : IsFrontOf mask.below after
  below_front =
      let stands = rw (ap bytes_in (first_and_rest sector front section.length (there).some)) at (there).stands in
      let stated : number_at w16 bytes LOG_COUNT_AT ≡ length log.entries = stands.is_record.fields_stand.0 in
      let room = stands.long in
      let here : LOG_ENTRIES_AT + LOG_ENTRY_BYTES * number_at w16 bytes LOG_COUNT_AT ≤ length bytes = omega (arith, stated, room) in
      record {
        size = ap length (below_is size sector whole anchor which copy is log has count small fits) ∙ (whole front).size;
        are = subst AreBytes (sym below_bytes) are;
        sealed = subst (IsSealed log_signature) (sym below_bytes) stands.is_record.is_sealed;
        fits = subst (λ (section : List ℕ). LOG_ENTRIES_AT + LOG_ENTRY_BYTES * number_at w16 section LOG_COUNT_AT ≤ length section) (sym below_bytes) here;
      }

  shown_front : IsFrontOf mask.shown after
  shown_front =
      let size_is = bytes_size size sector whole anchor which copy is log has count small fits in
      let now_size = recounted_size bytes enough count in
      let more = enough in
      let stated = count_stands bytes enough count are small in
      let here : LOG_ENTRIES_AT + LOG_ENTRY_BYTES * number_at w16 (recounted count bytes) LOG_COUNT_AT ≤ length (recounted count bytes) = omega (arith, stated, now_size, size_is, fits) in
      record {
        size = ap length (shown_is size sector whole anchor which copy is log has count small fits) ∙ length-take-le 512 (recounted count bytes) (omega (arith, now_size, more));
        are = subst AreBytes (sym shown_bytes) (recounted_bytes bytes enough count are small);
        sealed = subst (IsSealed log_signature) (sym shown_bytes) (recounted_sealed bytes enough count are small);
        fits = subst (λ (section : List ℕ). LOG_ENTRIES_AT + LOG_ENTRY_BYTES * number_at w16 section LOG_COUNT_AT ≤ length section) (sym shown_bytes) here;
      }

  pub either : IsEither mask section.length
  either = record { some = (there).some; after = after; after_size = sectors_size sector whole (front + 1) (section.length - 1); below_is = below_front; shown_is = shown_front }

  abbrev now : ℕ → List ℕ
  now l = turned_by mask l (sector l)

  whole_now : (l : ℕ) → IsWhole (now l)
  whole_now l = shown_whole (Some mask) l (now l) (rw (turn_twice (Some mask) l (sector l)) (whole l))

  -- each copy is seen whole where it is whole, behind the same header
  alike_at : (place : Which) → AreAlike (copy_of size sector anchor place) (copy_of size now anchor place)
  alike_at place = by (copy_of size sector anchor place) refl (copy_of size now anchor place) refl
    where
      by : (found : Result DiskCopy CopyFault) → copy_of size sector anchor place ≡ found → (seen : Result DiskCopy CopyFault) → copy_of size now anchor place ≡ seen → AreAlike found seen
      by (Ok one) e (Ok other) e' =
          let place_now = is_there size anchor which sector copy is log count either sector now whole (λ l. refl) place one e in
          let both = sym e' ∙ place_now.is in
          let same : other ≡ place_now.copy = cc in
          ap (λ (c : DiskCopy). c.header) same ∙ place_now.same_header
      by (Ok one) e (Err fault) e' =
          let place_now = is_there size anchor which sector copy is log count either sector now whole (λ l. refl) place one e in
          let both = sym e' ∙ place_now.is in
          absurd cc
      by (Err fault) e (Ok other) e' =
          let place_then = is_there size anchor which sector copy is log count either now sector whole_now (λ l. sym (turn_twice (Some mask) l (sector l))) place other e' in
          let both = sym e ∙ place_then.is in
          absurd cc
      by (Err fault) e (Err other) e' = tt

  -- the copy that stands is seen standing
  pub newest_shown : standing_copy (newest_of size sector anchor) ≡ Some copy → standing_copy (newest_of size now anchor) ≡ Some (record copy { bad = Some (log_at (recounted count (log_bytes log))) })
  newest_shown standing =
      stands_of size now anchor
      ∙ pick (same_place (copy_of size sector anchor Primary) (copy_of size sector anchor Secondary) (copy_of size now anchor Primary) (copy_of size now anchor Secondary) (alike_at Primary) (alike_at Secondary) copy
      (sym (stands_of size sector anchor) ∙ standing))
    where
      pick : SamePlace (copy_of size sector anchor Primary) (copy_of size sector anchor Secondary) (copy_of size now anchor Primary) (copy_of size now anchor Secondary) copy
          → stands (copy_of size now anchor Primary) (copy_of size now anchor Secondary) ≡ Some (record copy { bad = Some (log_at (recounted count (log_bytes log))) })
      pick same = ⊎_elim
          (λ first. first.1 (record copy { bad = Some (log_at (recounted count (log_bytes log))) }) (copy_now size sector whole anchor Primary copy first.0 log has count small fits))
          (λ second. second.1 (record copy { bad = Some (log_at (recounted count (log_bytes log))) }) (copy_now size sector whole anchor Secondary copy second.0 log has count small fits))
          same
