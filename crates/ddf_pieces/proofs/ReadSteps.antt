-- Blocks that are read and handed on piece by piece.
use Rattle.std.proofs.Common.{⊎_elim, ◌≡◌, ◌∙◌, ℕ, suc, ◌+◌, ◌-◌, ◌<◌, ◌≤◌, List, [], ◌++◌, None, Err, length, take, sym, ap, subst, refl, arith, append_assoc, length-append}
use Rattle.std.specs.Prelude.{IsSome, slice_index_or}
use Rattle.std.proofs.lemmas.Grind.{flat_map-append}
use Rattle.std.proofs.lemmas.Bool.{cases_lt}
use Rattle.std.proofs.lemmas.List.{append-nil, get_or_append_left, get_or-append_right, take_all}
use Rattle.ddf_bytes.specs.Counts.{Rose}
use Rattle.ddf_bytes.specs.Streams.{SinkSame, SinkState, TakesFront}
use Rattle.ddf_bytes.specs.declared.sink.SinkFault.{SinkFault}
use Rattle.ddf_bytes.specs.declared.sink.SinkFault.TheVariants as sinks
use Rattle.ddf_bay.specs.Sectors.{Image}
use Rattle.ddf_bay.specs.State.{BayState}
use Rattle.ddf_array.specs.Sources.{first_copy, sources}
use Rattle.ddf_array.specs.Volume.{Volume}
use Rattle.ddf_read.specs.declared.fault.VolumeFault.TheVariants.{Range, Lost, Unsure, Degraded, Disk}
use Rattle.ddf_read.specs.Given.{AreGiven, NoneLeftIn}
use Rattle.ddf_read.specs.Reading.{Failed, IsGivenBy, NoneFailed, OnlyReads}
use Rattle.ddf_read.specs.Refused.{read_refusal}
use Rattle.ddf_read.specs.Stretches.{HaveCopies, copy_stretches}
use Rattle.ddf_read.proofs.OnlyReading.{failed_before, failed_behind, only_reads_start, only_reads_then}
use Rattle.ddf_read.proofs.Pieces.{given_after, given_more, left_after}
use Rattle.ddf_read.proofs.Tries.{IsGivenBy-wider}
use Rattle.ddf_pieces.specs.declared.fault.PieceFault.{PieceFault}
use Rattle.ddf_pieces.specs.declared.fault.PieceFault.TheVariants as faults
use Rattle.ddf_pieces.specs.Pieces.{AreWholePieces, GrewByPieces, bytes_of, over_pieces, piece_of}
use Rattle.ddf_pieces.specs.Reading.{AllAreRead, AreFirst, ArePiecesRead, IsCutAt, IsPiece, IsPieceRead, IsSinkFault, IsStoppedAt}
use Rattle.ddf_pieces.proofs.PieceCounts.{AreDone, done_more, done_start, over_more, whole_of}

pub bytes_joined : (front piece : List (List ℕ)) → bytes_of (front ++ piece) ≡ bytes_of front ++ bytes_of piece
bytes_joined front piece = flat_map-append (λ (sector : List ℕ). sector) front piece

-- So many first blocks were read and handed on.
pub record HaveGone {D : Type 0} (tells : Type 0) (old now : BayState D) (v : Volume) (start count each : ℕ) (sink_tells : Type 0) (before after : SinkState) (at : ℕ) : Type 0 where
  pub sectors : List (List ℕ)
  pub long : length sectors ≡ at
  pub done : AreDone each count at
  pub reads : OnlyReads old now
  pub given : IsPiece tells old now v start sectors
  pub taken : sink_tells → after.taken ≡ before.taken ++ bytes_of sectors
  pub same : SinkSame before after
  pub calls : HaveCopies v start count → NoneFailed v old now → now.calls ≤ old.calls + over_pieces (copy_stretches v) each start count done.pieces

-- a fault of a sink that hadn't any before
sink_fault_since : (before now after : SinkState) → SinkSame before now → (fault : SinkFault) → IsSinkFault now after fault → IsSinkFault before after fault
sink_fault_since before now after same sinks.Failed rose = subst (λ (n : ℕ). Rose n after.faults) same.faults rose
sink_fault_since before now after same sinks.Nothing rose = subst (λ (n : ℕ). Rose n after.empty_takes) same.empty_takes rose

module _ {D : Type 0} (tells : Type 0) (v : Volume) (start count each : ℕ) (sink_tells : Type 0) where
  pub gone_start : (old : BayState D) (before : SinkState) → 0 < each → HaveGone tells old old v start count each sink_tells before before 0
  gone_start old before some = record {
    sectors = [];
    long = refl;
    done = done_start each count some;
    reads = only_reads_start old;
    given = λ told k below. absurd (omega (arith, below));
    taken = λ told. sym (append-nil before.taken);
    same = record { faults = refl; empty_takes = refl };
    calls = λ copied none. omega arith;
  }

  module _ (old now : BayState D) (before mid : SinkState) (at : ℕ) (gone : HaveGone tells old now v start count each sink_tells before mid at) where
    are_first : read_refusal v start count ≡ None → AreFirst tells old now v start count each sink_tells before mid at gone.sectors
    are_first accepted = record { accepted = accepted; whole = subst (AreWholePieces each count) (sym gone.long) (whole_of each count at gone.done); given = gone.given }

    -- all of them
    pub gone_all : read_refusal v start count ≡ None → count ≤ at → AllAreRead tells old now v start count each sink_tells before mid at
    gone_all accepted all = record {
      sectors = gone.sectors;
      are = are_first accepted;
      many = gone.long;
      all = omega (arith, all, gone.done.within);
      taken = gone.taken;
      same = gone.same;
    }

    pub gone_calls : HaveCopies v start count → NoneFailed v old now → GrewByPieces (copy_stretches v) each start count old.calls now.calls
    gone_calls copied none = record { pieces = gone.done.pieces; few = gone.done.few; grew = gone.calls copied none }

    module _ (new : BayState D) (next : OnlyReads now new) (more : at < count) (size : ℕ) (is : size ≡ piece_of each (count - at)) where
      copies_here : HaveCopies v start count → HaveCopies v (start + at) size
      copies_here copied k below =
          let same : start + (at + k) ≡ start + at + k = omega arith in
          subst (λ (block : ℕ). IsSome (first_copy v block)) same (copied (at + k) (omega (arith, below, is, more)))

      calls_more : (HaveCopies v (start + at) size → NoneFailed v now new → new.calls ≤ now.calls + copy_stretches v (start + at) size) → HaveCopies v start count → NoneFailed v old new
          → new.calls ≤ old.calls + over_pieces (copy_stretches v) each start count (suc gone.done.pieces)
      calls_more here copied none =
          let so_far = gone.calls copied (λ slot on rose. none slot on (failed_behind gone.reads next slot rose)) in
          let added = here (copies_here copied) (λ slot on rose. none slot on (failed_before gone.reads next slot rose)) in
          omega (arith, so_far, added, over_more each count at gone.done more size is (copy_stretches v) start)

      pub cut_calls : (HaveCopies v (start + at) size → NoneFailed v now new → new.calls ≤ now.calls + copy_stretches v (start + at) size) → HaveCopies v start count → NoneFailed v old new
          → GrewByPieces (copy_stretches v) each start count old.calls new.calls
      cut_calls here copied none = record {
        pieces = suc gone.done.pieces;
        few = (done_more each count at gone.done more size is).few;
        grew = calls_more here copied none;
      }

      -- one piece more
      module _ (last : SinkState) (piece : List (List ℕ)) (long : length piece ≡ size) where
        given_both : IsPiece tells now new v (start + at) piece → IsPiece tells old new v start (gone.sectors ++ piece)
        given_both given told =
            let joined : take at gone.sectors ++ (piece ++ []) ≡ gone.sectors ++ piece =
            ap (λ (l : List (List ℕ)). l ++ (piece ++ [])) (take_all at gone.sectors (omega (arith, gone.long))) ∙ ap (λ (l : List (List ℕ)). gone.sectors ++ l) (append-nil piece) in
            let many : at + size ≡ length (gone.sectors ++ piece) = omega (arith, length-append gone.sectors piece, gone.long, long) in
            subst (λ (n : ℕ). AreGiven (Failed old new) old.held v start n (gone.sectors ++ piece)) many
            (subst (λ (l : List (List ℕ)). AreGiven (Failed old new) old.held v start (at + size) l) joined
            (given_more gone.reads next v start at size gone.sectors piece [] (omega (arith, gone.long)) (omega (arith, long))
            (subst (λ (n : ℕ). AreGiven (Failed old now) old.held v start n gone.sectors) gone.long (gone.given told))
            (subst (λ (n : ℕ). AreGiven (Failed now new) now.held v (start + at) n piece) long (given told))))

        pub gone_more : IsPiece tells now new v (start + at) piece → (sink_tells → last.taken ≡ mid.taken ++ bytes_of piece) → SinkSame mid last
            → (HaveCopies v (start + at) size → NoneFailed v now new → new.calls ≤ now.calls + copy_stretches v (start + at) size) → HaveGone tells old new v start count each sink_tells before last (at + size)
        gone_more given taken same calls = record {
          sectors = gone.sectors ++ piece;
          long = omega (arith, length-append gone.sectors piece, gone.long, long);
          done = done_more each count at gone.done more size is;
          reads = only_reads_then gone.reads next;
          given = given_both given;
          taken = λ told.
              taken told ∙ ap (λ (l : List ℕ). l ++ bytes_of piece) (gone.taken told) ∙ append_assoc before.taken (bytes_of gone.sectors) (bytes_of piece)
              ∙ ap (λ (l : List ℕ). before.taken ++ l) (sym (bytes_joined gone.sectors piece));
          same = record { faults = same.faults ∙ gone.same.faults; empty_takes = same.empty_takes ∙ gone.same.empty_takes };
          calls = calls_more calls;
        }

      -- the same blocks, after reads
      first_later : read_refusal v start count ≡ None → (last : SinkState) → AreFirst tells old new v start count each sink_tells before last at gone.sectors
      first_later accepted last = record {
        accepted = accepted;
        whole = subst (AreWholePieces each count) (sym gone.long) (whole_of each count at gone.done);
        given = λ told k below. IsGivenBy-wider (failed_behind gone.reads next) old.held (sources v (start + k)) (slice_index_or gone.sectors k []) (gone.given told k below);
      }

      -- a block of the next piece without a source
      stopped : read_refusal v start count ≡ None → (last : SinkState) (slot : ℕ) → NoneLeftIn (Failed now new) v (start + at) size slot → last ≡ mid → IsStoppedAt tells old new v start count each sink_tells before last at slot
      stopped accepted last slot left same = record {
        sectors = gone.sectors;
        are = first_later accepted last;
        many = gone.long;
        more = more;
        none_left = subst (λ (n : ℕ). NoneLeftIn (Failed old new) v (start + at) n slot) is (left_after gone.reads next v (start + at) size slot left);
        taken = λ told. ap (λ (s : SinkState). s.taken) same ∙ gone.taken told;
        same = record { faults = ap (λ (s : SinkState). s.faults) same ∙ gone.same.faults; empty_takes = ap (λ (s : SinkState). s.empty_takes) same ∙ gone.same.empty_takes };
      }

      -- a sink that gave out
      cut : read_refusal v start count ≡ None → (last : SinkState) (piece : List (List ℕ)) → length piece ≡ size → (fault : SinkFault) → IsPiece tells now new v (start + at) piece → (sink_tells → TakesFront mid last (bytes_of piece))
          → IsSinkFault mid last fault → IsCutAt tells old new v start count each sink_tells before last at fault
      cut accepted last piece long fault given front cause = record {
        sectors = gone.sectors;
        are = first_later accepted last;
        many = gone.long;
        more = more;
        piece = piece;
        size = long ∙ is;
        next = λ told. given_after gone.reads next v (start + at) (length piece) piece (given told);
        taken = λ told.
            let took = front told in (
              took.count,
              took.within,
              took.front ∙ ap (λ (l : List ℕ). l ++ take took.count (bytes_of piece)) (gone.taken told) ∙ append_assoc before.taken (bytes_of gone.sectors) (take took.count (bytes_of piece)),
            );
        cause = sink_fault_since before mid last gone.same fault cause;
      }

      pub gone_fault : read_refusal v start count ≡ None → (last : SinkState) (piece : List (List ℕ)) → length piece ≡ size → (fault : PieceFault) → IsPieceRead tells now new sink_tells mid last v (start + at) piece (Err fault)
          → ArePiecesRead tells old new v start count each sink_tells before last at (Err fault)
      gone_fault accepted last piece long (faults.Volume (Range most)) is_read = absurd is_read
      gone_fault accepted last piece long (faults.Volume Lost) is_read = absurd is_read
      gone_fault accepted last piece long (faults.Volume Unsure) is_read = absurd is_read
      gone_fault accepted last piece long (faults.Volume Degraded) is_read = absurd is_read
      gone_fault accepted last piece long (faults.Volume (Disk slot)) is_read = stopped accepted last slot (subst (λ (n : ℕ). NoneLeftIn (Failed now new) v (start + at) n slot) long is_read.0) is_read.1
      gone_fault accepted last piece long faults.Source is_read = absurd is_read
      gone_fault accepted last piece long (faults.Sink fault) is_read = cut accepted last piece long fault is_read.0 is_read.1 is_read.2

-- blocks behind others
pub given_joined : (failed : ℕ → Type 0) (image : Image) (v : Volume) (start : ℕ) (xs ys : List (List ℕ)) → AreGiven failed image v start (length xs) xs → AreGiven failed image v (start + length xs) (length ys) ys
    → AreGiven failed image v start (length (xs ++ ys)) (xs ++ ys)
given_joined failed image v start xs ys first next k below =
    ⊎_elim
    (λ (earlier : k < length xs). subst (λ (bytes : List ℕ). IsGivenBy failed image (sources v (start + k)) bytes) (sym (get_or_append_left xs ys [] k earlier)) (first k earlier))
    (λ (behind : length xs ≤ k).
    let same : start + length xs + (k - length xs) ≡ start + k = omega (arith, behind) in
    subst (λ (bytes : List ℕ). IsGivenBy failed image (sources v (start + k)) bytes) (sym (get_or-append_right xs ys (length xs) k [] refl behind))
    (subst (λ (block : ℕ). IsGivenBy failed image (sources v block) (slice_index_or ys (k - length xs) [])) same (next (k - length xs) (omega (arith, below, behind, length-append xs ys)))))
    (cases_lt k (length xs))
