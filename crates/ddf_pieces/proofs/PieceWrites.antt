-- Blocks that come and are written piece by piece.
use Rattle.std.proofs.Common.{◌≡◌, ◌∙◌, inl, inr, ⊎_elim, ℕ, zero, suc, ◌+◌, ◌-◌, ◌*◌, ◌<◌, ◌≤◌, Bool, false, true, List, [], ◌∷◌, ◌++◌, None, Ok, Err, length, sym, ap, subst, refl, arith, append_assoc, length-append}
use Rattle.std.proofs.lemmas.Bool.{cases_lt}
use Rattle.std.proofs.lemmas.List.{append-nil, nil_from_length}
use Rattle.ddf_bytes.specs.Counts.{Rose}
use Rattle.ddf_bytes.specs.Streams.{SourceState}
use Rattle.ddf_bay.specs.State.{BayState}
use Rattle.ddf_bay.proofs.Steps.{rose_since, stops_start}
use Rattle.ddf_array.specs.Apart.{IsApart}
use Rattle.ddf_array.specs.Volume.{Volume, IsVolume}
use Rattle.ddf_read.specs.declared.fault.VolumeFault.TheVariants.{Range, Lost, Unsure, Degraded, Disk}
use Rattle.ddf_cells.specs.CellsOn.{write_stretches}
use Rattle.ddf_cells.specs.Touching.{GoesBetween}
use Rattle.ddf_write.specs.RowWrites.{keeps_parity_anywhere}
use Rattle.ddf_write.specs.WriteRefused.{IsStopped, write_refusal}
use Rattle.ddf_write.specs.Writing.{IsAmongWrites, IsWritten}
use Rattle.ddf_write.proofs.WrittenValues.{not_refused}
use Rattle.ddf_pieces.specs.declared.fault.PieceFault.{PieceFault}
use Rattle.ddf_pieces.specs.declared.fault.PieceFault.TheVariants as faults
use Rattle.ddf_pieces.specs.Coming.{AreSectorsOf512, HaveCome, IsFilled}
use Rattle.ddf_write.specs.Keeping.{Keeping, KeepsNone}
use Rattle.ddf_write.specs.Looking.{piece_of}
use Rattle.ddf_pieces.specs.Pieces as sizes
use Rattle.ddf_pieces.specs.Pieces.{EndWithPiece, bytes_of, over_pieces}
use Rattle.ddf_pieces.specs.Writing.{AreGivenBlocks, ArePiecesPut, ArePut, EndsAt, IsPieceStopped, LeaveWrites}
use Rattle.ddf_pieces.proofs.Joining.{leave_both, put_both}
use Rattle.ddf_pieces.proofs.PieceCounts.{AreDone, done_more, done_start, ends_more, ends_start, over_more, plain_size, size_some}
use Rattle.ddf_pieces.proofs.Ranges.{written_behind}
use Rattle.ddf_pieces.proofs.ReadSteps.{bytes_joined}

-- ---- what came

sectors_joined : (xs ys : List (List ℕ)) → AreSectorsOf512 xs → AreSectorsOf512 ys → AreSectorsOf512 (xs ++ ys)
sectors_joined [] ys first next k sector at = next k sector at
sectors_joined (x ∷ xs) ys first next zero sector at = first zero sector at
sectors_joined (x ∷ xs) ys first next (suc k) sector at = sectors_joined xs ys (λ j one is. first (suc j) one is) next k sector at

-- Before the first piece nothing has come, and behind it these sectors have.
pub record IsCome (tells : Type 0) (old now : SourceState) (first : List ℕ) (sectors : List (List ℕ)) (at : ℕ) : Type 0 where
  pub none : at ≡ 0 → now.left ≡ old.left
  pub come : 0 < at → HaveCome tells old first sectors now.left
  pub same_faults : now.faults ≡ old.faults

-- the first piece is there before, and a later one comes from the source
pub record IsNext (tells : Type 0) (now new : SourceState) (first bytes : List ℕ) (at : ℕ) : Type 0 where
  pub is_first : at ≡ 0 → (bytes ≡ first) × (new ≡ now)
  pub is_later : 0 < at → (tells → now.left ≡ bytes ++ new.left) × (new.faults ≡ now.faults)

module _ (tells : Type 0) (old now new : SourceState) (first : List ℕ) (xs ys : List (List ℕ)) (at size : ℕ) (come : IsCome tells old now first xs at) (next : IsNext tells now new first (bytes_of ys) at)
    (long : length xs ≡ at) (some : 0 < size) (whole : AreSectorsOf512 ys) where
  come_first : at ≡ 0 → HaveCome tells old first (xs ++ ys) new.left
  come_first none =
      let empty : xs ≡ [] = nil_from_length xs (omega (arith, long, none)) in
      let both : xs ++ ys ≡ ys = ap (λ (l : List (List ℕ)). l ++ ys) empty in
      let is = next.is_first none in
      record {
        whole = subst AreSectorsOf512 (sym both) whole;
        came = [];
        are = ap bytes_of both ∙ is.0 ∙ sym (append-nil first);
        from = λ told. sym (ap (λ (s : SourceState). s.left) is.1 ∙ come.none none);
      }

  come_later : 0 < at → HaveCome tells old first (xs ++ ys) new.left
  come_later behind =
      let before = come.come behind in
      let is = next.is_later behind in
      record {
        whole = sectors_joined xs ys before.whole whole;
        came = before.came ++ bytes_of ys;
        are = bytes_joined xs ys ∙ ap (λ (l : List ℕ). l ++ bytes_of ys) before.are ∙ append_assoc first before.came (bytes_of ys);
        from = λ told. before.from told ∙ ap (λ (l : List ℕ). before.came ++ l) (is.0 told) ∙ sym (append_assoc before.came (bytes_of ys) new.left);
      }

  pub come_more : IsCome tells old new first (xs ++ ys) (at + size)
  come_more = record {
    none = λ none. absurd (omega (arith, some, none));
    come = λ behind. ⊎_elim (λ (later : 0 < at). come_later later) (λ (none : at ≤ 0). let zero_at : at ≡ 0 = omega (arith, none) in come_first zero_at) (cases_lt 0 at);
    same_faults =
        ⊎_elim (λ (later : 0 < at). (next.is_later later).1) (λ (none : at ≤ 0). let zero_at : at ≡ 0 = omega (arith, none) in ap (λ (s : SourceState). s.faults) (next.is_first zero_at).1) (cases_lt 0 at)
        ∙ come.same_faults;
  }

-- ---- what is written

-- of an array without parity all pieces but the last are as long
pub record IsPlain {D : Type 0} (old now : BayState D) (v : Volume) (start count each ahead at : ℕ) : Type 0 where
  pub none_ahead : ahead ≡ 0
  pub done : AreDone each count at
  pub calls : now.calls ≤ old.calls + over_pieces (write_stretches v) each start count done.pieces

pub record HaveBeenWritten {D : Type 0} (tells : Type 0) (old now : BayState D) (v : Volume) (start count each ahead : ℕ) (kept : Keeping) (noted_before noted : List Bool) (source_tells : Type 0) (before mid : SourceState) (first : List ℕ) (at : ℕ) : Type 0 where
  pub sectors : List (List ℕ)
  pub long : length sectors ≡ at
  pub ends : EndWithPiece each ahead count at
  pub come : IsCome source_tells before mid first sectors at
  pub leave : LeaveWrites tells old now v start sectors
  pub is_written : ArePut tells old now v start sectors kept noted_before noted
  pub goes : GoesBetween old now
  pub plain : keeps_parity_anywhere v ≡ false → IsPlain old now v start count each ahead at

none_written : (v : Volume) (start slot : ℕ) → IsWritten v start 0 slot → ⊥
none_written v start slot (lba, inl cell) = omega (arith, cell.below)
none_written v start slot (lba, inr of) = omega (arith, of.is_at.touched.below)

module _ {D : Type 0} (tells : Type 0) (v : Volume) (start count each ahead : ℕ) (kept : Keeping) (noted_before : List Bool) (source_tells : Type 0) (before : SourceState) (first : List ℕ) where
  pub written_start : (old : BayState D) → 0 < each → (keeps_parity_anywhere v ≡ false → ahead ≡ 0) → HaveBeenWritten tells old old v start count each ahead kept noted_before noted_before source_tells before before first 0
  written_start old some none_ahead = record {
    sectors = [];
    long = refl;
    ends = ends_start each ahead count;
    come = record { none = λ none. refl; come = λ behind. absurd (omega (arith, behind)); same_faults = refl };
    leave = record {
      any_moment = stops_start old (IsAmongWrites v start [] old.may_hold);
      held = λ told s l. inl refl;
      left = λ s l bytes left. inl left;
      asked = omega arith;
      written = omega arith;
    };
    is_written = record {
      written = λ told. record {
        cells = λ k i one below at. absurd (omega (arith, below));
        parity = λ values element sector part one at. absurd (omega (arith, at.touched.below));
      };
      are_noted = λ told slot written. absurd (none_written v start slot written);
      notes = record { stays = λ slot is. is; only = λ slot is. inl is };
      unfailed = refl;
    };
    goes = record { goes_on = λ bay leads. leads; same_sizes = refl; reads_rise = λ s. omega arith; writes_rise = λ s. omega arith };
    plain = λ none. record { none_ahead = none_ahead none; done = done_start each count some; calls = omega arith };
  }

  module _ (old now : BayState D) (mid : SourceState) (noted : List Bool) (at : ℕ) (so_far : HaveBeenWritten tells old now v start count each ahead kept noted_before noted source_tells before mid first at) (accepted : write_refusal v start count ≡ None) where
    abbrev Put : List (List ℕ) → Type 0
    Put sectors = ArePut tells old now v start sectors kept noted_before noted

    -- the blocks that were given, once there are any
    given_blocks : (after : SourceState) → 0 < at → AreGivenBlocks tells old now v start count each ahead 0 Put source_tells before after first so_far.sectors mid.left
    given_blocks after some = record {
      accepted = accepted;
      whole = subst (EndWithPiece each ahead count) (sym so_far.long) so_far.ends;
      come = so_far.come.come some;
      leave = so_far.leave;
      calls = λ none. let plain = so_far.plain none in record { pieces = plain.done.pieces; few = plain.done.few; grew = omega (arith, plain.calls) };
    }

    -- all of them are written
    pub written_all : count ≤ at → (count ≡ 0 → first ≡ []) → EndsAt tells old now v start count each ahead 0 Put source_tells before mid first at
    written_all all none = record {
      sectors = so_far.sectors;
      many = so_far.long;
      left = mid.left;
      are = ⊎_elim (λ (some : 0 < at). given_blocks mid some) (λ (zero_at : at ≤ 0). let is : at ≡ 0 = omega (arith, zero_at) in no_blocks is) (cases_lt 0 at);
      is_written = so_far.is_written;
      same_faults = so_far.come.same_faults;
      ends = inl (omega (arith, all, so_far.ends.within), λ told. refl);
    }
      where
        no_blocks : at ≡ 0 → AreGivenBlocks tells old now v start count each ahead 0 Put source_tells before mid first so_far.sectors mid.left
        no_blocks zero_at =
            let empty : so_far.sectors ≡ [] = nil_from_length so_far.sectors (omega (arith, so_far.long, zero_at)) in
            let nothing : count ≡ 0 = omega (arith, all, zero_at) in
            record {
              accepted = accepted;
              whole = subst (EndWithPiece each ahead count) (sym so_far.long) so_far.ends;
              come = record {
                whole = subst AreSectorsOf512 (sym empty) (λ k sector is. absurd cc);
                came = [];
                are = ap bytes_of empty ∙ sym (ap (λ (l : List ℕ). l ++ []) (none nothing));
                from = λ told. sym (so_far.come.none zero_at);
              };
              leave = so_far.leave;
              calls = λ never. let plain = so_far.plain never in record { pieces = plain.done.pieces; few = plain.done.few; grew = omega (arith, plain.calls) };
            }

    -- the source ended before the next piece was full
    pub written_cut : at < count → 0 < at → (after : SourceState) (piece : List ℕ) → length piece ≡ 512 * piece_of each ahead at (count - at) → IsFilled source_tells mid after piece (Ok false)
        → EndsAt tells old now v start count each ahead 0 Put source_tells before after first at
    written_cut more some after piece long filled = record {
      sectors = so_far.sectors;
      many = so_far.long;
      left = mid.left;
      are = given_blocks after some;
      is_written = so_far.is_written;
      same_faults = filled.1 ∙ so_far.come.same_faults;
      ends = inr (some, more, λ told. let short = filled.0 told in (omega (arith, short.0, long), short.1));
    }

    -- a read of it failed
    pub source_failed : at < count → 0 < at → (after : SourceState) (piece : List ℕ) (fault : PieceFault) → IsFilled source_tells mid after piece (Err fault)
        → ArePiecesPut tells old now v start count each ahead kept noted_before noted source_tells before after first (Err fault)
    source_failed more some after piece (faults.Volume fault) filled = absurd filled
    source_failed more some after piece faults.Source filled = record {
      sectors = so_far.sectors;
      more = omega (arith, so_far.long, more);
      left = mid.left;
      are = given_blocks after some;
      is_written = so_far.is_written;
      rose = subst (λ (n : ℕ). Rose n after.faults) so_far.come.same_faults filled.1;
      came = λ told. let front = filled.0 told in record { count = front.count; enough = front.enough; others = front.others };
    }
    source_failed more some after piece (faults.Sink fault) filled = absurd filled

    -- ---- one piece more

    module _ (more : at < count) (some : 0 < each) (size : ℕ) (is : size ≡ piece_of each ahead at (count - at)) (after : SourceState) (ys : List (List ℕ)) (many : length ys ≡ size) (whole : AreSectorsOf512 ys)
        (next : IsNext source_tells mid after first (bytes_of ys) at) (new : BayState D) (noted_more : List Bool) (leave : LeaveWrites tells now new v (start + at) ys) (goes : GoesBetween now new)
        (calls : keeps_parity_anywhere v ≡ false → new.calls ≤ now.calls + write_stretches v (start + at) (length ys)) where
      here : start + at ≡ start + length so_far.sectors
      here = ap (λ n. start + n) (sym so_far.long)

      leave_here : LeaveWrites tells now new v (start + length so_far.sectors) ys
      leave_here = subst (λ n. LeaveWrites tells now new v n ys) here leave

      both : LeaveWrites tells old new v start (so_far.sectors ++ ys)
      both = leave_both tells v start so_far.sectors ys so_far.leave leave_here

      goes_both : GoesBetween old new
      goes_both = record {
        goes_on = λ bay leads. so_far.goes.goes_on bay (goes.goes_on bay leads);
        same_sizes = goes.same_sizes ∙ so_far.goes.same_sizes;
        reads_rise = λ s. omega (arith, so_far.goes.reads_rise s, goes.reads_rise s);
        writes_rise = λ s. omega (arith, so_far.goes.writes_rise s, goes.writes_rise s);
      }

      long : length (so_far.sectors ++ ys) ≡ at + size
      long = omega (arith, length-append so_far.sectors ys, so_far.long, many)

      come : IsCome source_tells before after first (so_far.sectors ++ ys) (at + size)
      come = come_more source_tells before mid after first so_far.sectors ys at size so_far.come next so_far.long (size_some each ahead count at size some more is) whole

      plain_both : keeps_parity_anywhere v ≡ false → IsPlain old new v start count each ahead (at + size)
      plain_both none =
          let plain = so_far.plain none in
          let here_calls : write_stretches v (start + at) (length ys) ≡ write_stretches v (start + at) size = ap (write_stretches v (start + at)) many in
          let full : size ≡ sizes.piece_of each (count - at) =
          plain_size each count at size plain.done.pieces (plain.done.are more) more (is ∙ ap (λ n. piece_of each n at (count - at)) plain.none_ahead) in
          record {
            none_ahead = plain.none_ahead;
            done = done_more each count at plain.done more size full;
            calls = omega (arith, plain.calls, calls none, here_calls, over_more each count at plain.done more size full (write_stretches v) start);
          }

      pub written_more : IsVolume v → IsApart v → KeepsNone v start count kept → ArePut tells now new v (start + at) ys kept noted noted_more → HaveBeenWritten tells old new v start count each ahead kept noted_before noted_more source_tells before after first (at + size)
      written_more known apart none is_written = record {
        sectors = so_far.sectors ++ ys;
        long = long;
        ends = ends_more each ahead count at size some more is;
        come = come;
        leave = both;
        is_written =
            put_both tells v start so_far.sectors ys so_far.leave leave_here known apart (not_refused v start count accepted).1 kept
            (λ element position sector bytes there k below. none element position sector bytes there k (omega (arith, below, so_far.long, more))) noted_before noted noted_more so_far.is_written
            (subst (λ n. ArePut tells now new v n ys kept noted noted_more) here is_written);
        goes = goes_both;
        plain = plain_both;
      }

      stopped_here : (slot : ℕ) → IsStopped now new v (start + at) (length ys) slot → IsStopped old new v start (length (so_far.sectors ++ ys)) slot
      stopped_here slot failed =
          let wider : length so_far.sectors + length ys ≡ length (so_far.sectors ++ ys) = sym (length-append so_far.sectors ys) in (
            subst (λ n. IsWritten v start n slot) wider (written_behind v start (length so_far.sectors) (length ys) slot (subst (λ n. IsWritten v n (length ys) slot) here failed.0)),
            rose_since (old.failed_writes slot) (now.failed_writes slot) (new.failed_writes slot) (so_far.goes.writes_rise slot) failed.1,
          )

      pub write_failed : (fault : PieceFault) → IsPieceStopped now new v (start + at) (length ys) fault → ArePiecesPut tells old new v start count each ahead kept noted_before noted_more source_tells before after first (Err fault)
      write_failed (faults.Volume (Range most)) stopped = absurd stopped
      write_failed (faults.Volume Lost) stopped = absurd stopped
      write_failed (faults.Volume Unsure) stopped = absurd stopped
      write_failed (faults.Volume Degraded) stopped = absurd stopped
      write_failed (faults.Volume (Disk slot)) stopped = record {
        sectors = so_far.sectors ++ ys;
        left = after.left;
        are = record {
          accepted = accepted;
          whole = subst (EndWithPiece each ahead count) (sym long) (ends_more each ahead count at size some more is);
          come = come.come (omega (arith, size_some each ahead count at size some more is));
          leave = both;
          calls = λ none. let plain = plain_both none in record { pieces = plain.done.pieces; few = plain.done.few; grew = omega (arith, plain.calls) };
        };
        stopped = stopped_here slot stopped;
        rest = inl (come.same_faults, λ told. refl);
      }
      write_failed faults.Source stopped = absurd stopped
      write_failed (faults.Sink fault) stopped = absurd stopped

-- ---- the next piece

module _ (tells : Type 0) (mid after : SourceState) (first piece : List ℕ) (ys : List (List ℕ)) (at : ℕ) (bytes : bytes_of ys ≡ piece) (given : at ≡ 0 → (piece ≡ first) × (after ≡ mid)) where
  by_fill : (there : Bool) → there ≡ true → IsFilled tells mid after piece (Ok there) → (tells → mid.left ≡ bytes_of ys ++ after.left) × (after.faults ≡ mid.faults)
  by_fill false is filled = absurd cc
  by_fill true is filled = (λ told. filled.0 told ∙ ap (λ (l : List ℕ). l ++ after.left) (sym bytes), filled.1)

  pub next_is : (there : Bool) → there ≡ true → (0 < at → IsFilled tells mid after piece (Ok there)) → IsNext tells mid after first (bytes_of ys) at
  next_is there is filled = record {
    is_first = λ none. (bytes ∙ (given none).0, (given none).1);
    is_later = λ behind. by_fill there is (filled behind);
  }

pub short_is : (tells : Type 0) (mid after : SourceState) (piece : List ℕ) (there : Bool) → there ≡ false → IsFilled tells mid after piece (Ok there) → IsFilled tells mid after piece (Ok false)
short_is tells mid after piece true is filled = absurd cc
short_is tells mid after piece false is filled = filled
