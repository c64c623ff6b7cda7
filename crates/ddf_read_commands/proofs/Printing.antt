-- Blocks that are read and printed piece by piece.
use Rattle.std.proofs.Common.{◌≡◌, ◌∙◌, inl, inr, ℕ, ◌+◌, ◌-◌, ◌<◌, List, ◌++◌, length, take, min, sym, ap, subst, refl, arith, length-append}
use Rattle.std.proofs.lemmas.List.{append-nil, nil_from_length}
use Rattle.std.proofs.Math.Seq.{take-append-add}
use Rattle.ddf_bytes.specs.Streams.{SinkRose, SinkState}
use Rattle.ddf_bytes.specs.declared.sink.SinkFault.{SinkFault}
use Rattle.ddf_bytes.specs.declared.sink.SinkFault.TheVariants as sinks
use Rattle.ddf_bay.specs.State.{BayState}
use Rattle.ddf_array.specs.Volume.{Fits, Volume}
use Rattle.ddf_read.specs.Given.{AreGiven, NoneLeftIn}
use Rattle.ddf_read.specs.Reading.{Failed}
use Rattle.ddf_read.proofs.SourceSlots.{slot_there}
use Rattle.ddf_pieces.specs.Pieces.{AreWholePieces, bytes_of, piece_blocks, room_for}
use Rattle.ddf_pieces.specs.Reading.{AllAreRead, IsCutAt, IsSinkFault, IsStoppedAt}
use Rattle.ddf_pieces.proofs.PieceCounts.{full_pieces, next_piece, whole_more}
use Rattle.ddf_pieces.proofs.ReadSteps.{bytes_joined, given_joined}
use Rattle.ddf_text.specs.Refusal.{disk_fault_line}
use Rattle.ddf_answer.specs.declared.failure.Failure.TheVariants.{Disk}
use Rattle.ddf_answer.specs.Call.{answer_of, work_of}
use Rattle.ddf_read_commands.specs.Read.{AreFirstBlocks, CameTo, CutShort, IsArrayRead, IsWithoutSource, NotRead, Stopped, Whole}
use Rattle.ddf_answer.specs.Tells.{ClosesWith}
use Rattle.ddf_read_commands.proofs.ReadBlocks.{are_blocks}

-- where nothing was printed before, a line is told as at first
pub closes_first : (tells : Type 0) (old now new : SinkState) (text : List ℕ) (expected status : ℕ) → (tells → now.taken ≡ old.taken)
    → ClosesWith expected text (answer_of tells now new status) → ClosesWith expected text (answer_of tells old new status)
closes_first tells old now new text expected status same closes = record {
  ends = closes.ends;
  tells = λ told. record {
    whole = λ low. (closes.tells told).whole low ∙ ap (λ (l : List ℕ). l ++ text) (same told);
    front = record {
      count = (closes.tells told).front.count;
      within = (closes.tells told).front.within;
      front = (closes.tells told).front.front ∙ ap (λ (l : List ℕ). l ++ take (closes.tells told).front.count text) (same told);
    };
  };
}

-- a sink that gave out
pub sink_rose : (before after : SinkState) (fault : SinkFault) → IsSinkFault before after fault → SinkRose before after
sink_rose before after sinks.Failed rose = inl rose
sink_rose before after sinks.Nothing rose = inr rose

module _ {D : Type 0} (tells : Type 0) (v : Volume) (start count : ℕ) (told : Type 0) (old new : BayState D) (before after : SinkState) (gone : ℕ) where
  abbrev each : ℕ
  each = room_for count

  first_blocks : (front : List (List ℕ)) → AreWholePieces each count (length front) → (tells → AreGiven (Failed old new) old.held v start (length front) front) → AreFirstBlocks (work_of tells old new) v start count front
  first_blocks front whole given = record {
    blocks = are_blocks (work_of tells old new) v start front given;
    within = whole.within;
    pieces = λ more. full_pieces count (length front) whole more;
  }

  pub come_whole : AllAreRead tells old new v start count each told before after gone → CameTo (IsArrayRead (work_of tells old new) v start count) (answer_of told before after 0)
  come_whole all = record {
    outcome = Whole all.sectors;
    has = (all.many ∙ all.all, are_blocks (work_of tells old new) v start all.sectors all.are.given);
    ends = record { ends = refl; tells = all.taken };
  }

  -- the output gave out
  pub come_cut : (fault : SinkFault) → IsCutAt tells old new v start count each told before after gone fault → CameTo (IsArrayRead (work_of tells old new) v start count) (answer_of told before after 6)
  come_cut fault cut =
      let from : start + length cut.sectors ≡ start + gone = ap (λ n. start + n) cut.many in
      let many : length cut.sectors + length cut.piece ≡ length (cut.sectors ++ cut.piece) = sym (length-append cut.sectors cut.piece) in
      let more : length cut.sectors < count = omega (arith, cut.many, cut.more) in
      record {
        outcome = CutShort (cut.sectors ++ cut.piece);
        has = first_blocks (cut.sectors ++ cut.piece)
            (subst (AreWholePieces each count) many (whole_more each count (length cut.sectors) (length cut.piece) cut.are.whole more (cut.size ∙ ap (λ n. min (count - n) each) (sym cut.many))))
            (λ is. given_joined (Failed old new) old.held v start cut.sectors cut.piece (cut.are.given is) (subst (λ n. AreGiven (Failed old new) old.held v n (length cut.piece) cut.piece) (sym from) (cut.next is)));
        ends = (
          refl,
          λ is.
              let taken = cut.taken is in
              record {
                count = length (bytes_of cut.sectors) + taken.0;
                within = rw (bytes_joined cut.sectors cut.piece) (omega (arith, taken.1, length-append (bytes_of cut.sectors) (bytes_of cut.piece)));
                front = taken.2 ∙ ap (λ (l : List ℕ). before.taken ++ l) (sym (take-append-add (bytes_of cut.sectors) (bytes_of cut.piece) taken.0))
                    ∙ ap (λ (l : List ℕ). before.taken ++ take (length (bytes_of cut.sectors) + taken.0) l) (sym (bytes_joined cut.sectors cut.piece));
              },
        );
      }

  -- a block has no source left
  module _ (fits : Fits old.sizes v) (slot : ℕ) (stopped : IsStoppedAt tells old new v start count each told before after gone slot) where
    without_source : IsWithoutSource (work_of tells old new) v (start + gone) (min (count - gone) piece_blocks) slot
    without_source = record {
      there = slot_there old.sizes v fits (start + gone + stopped.none_left.block) slot stopped.none_left.none_left.is_of_first;
      none_left = subst (λ n. NoneLeftIn (Failed old new) v (start + gone) n slot) (next_piece count gone stopped.more) stopped.none_left;
    }

    pub come_stopped : 0 < gone → CameTo (IsArrayRead (work_of tells old new) v start count) (answer_of told before after 3)
    come_stopped some = record {
      outcome = Stopped stopped.sectors slot;
      has = (
        omega (arith, some, stopped.many),
        first_blocks stopped.sectors stopped.are.whole stopped.are.given,
        subst (λ n. IsWithoutSource (work_of tells old new) v (start + n) (min (count - n) piece_blocks) slot) (sym stopped.many) without_source,
      );
      ends = record { ends = refl; tells = stopped.taken };
    }

    pub come_none : gone ≡ 0 → (last : SinkState) (status : ℕ) → ClosesWith 3 (disk_fault_line slot) (answer_of told after last status)
        → CameTo (IsArrayRead (work_of tells old new) v start count) (answer_of told before last status)
    come_none first last status closes = record {
      outcome = NotRead (Disk slot);
      has =
          let from : start + gone ≡ start = omega (arith, first) in
          let most : count - gone ≡ count = omega (arith, first) in
          subst (λ (n : ℕ). IsWithoutSource (work_of tells old new) v n (min count piece_blocks) slot) from
          (subst (λ (n : ℕ). IsWithoutSource (work_of tells old new) v (start + gone) (min n piece_blocks) slot) most without_source);
      ends = closes_first told before after last (disk_fault_line slot) 3 status
          (λ is.
          stopped.taken is ∙ ap (λ (l : List (List ℕ)). before.taken ++ bytes_of l) (nil_from_length stopped.sectors (omega (arith, stopped.many, first))) ∙ append-nil before.taken)
          closes;
    }
