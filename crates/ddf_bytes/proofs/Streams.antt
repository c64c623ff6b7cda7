-- A piece that is handed on front by front.
use Rattle.std.proofs.Common.{◌≡◌, ℕ, ◌+◌, ◌-◌, ◌≤◌, List, ◌++◌, length, take, drop, sym, ap, arith, ◌∙◌, length-drop}
use Rattle.std.proofs.Math.Seq.{take-add}
use Rattle.std.proofs.lemmas.Grind.{common_steps}
use Rattle.std.proofs.lemmas.List.{take-append-le, drop-drop, drop_at, take_at}
use Rattle.ddf_bytes.specs.Streams.{SourceState, Gives}
use borrow.Rule.Slice.PartMut.{put_mid}

-- so many bytes more were taken, of the rest of the piece
pub taken_more : (before now later piece : List ℕ) (done count : ℕ) → now ≡ before ++ take done piece
    → later ≡ now ++ take count (take (length piece - done) (drop done piece)) → later ≡ before ++ take (done + count) piece
taken_more before now later piece done count so_far step = grind (arith, common_steps, take-add done count piece)

-- a front of both parts
take_both : (front part rest : List ℕ) (done count : ℕ) → length front ≡ done → count ≤ length part
    → take (done + count) (front ++ (part ++ rest)) ≡ front ++ take count part
take_both front part rest done count long some =
    let first : take done (front ++ (part ++ rest)) ≡ front = take_at front (part ++ rest) done long in
    let later : drop done (front ++ (part ++ rest)) ≡ part ++ rest = drop_at front (part ++ rest) done long in
    take-add done count (front ++ (part ++ rest)) ∙ (rw (first, later) (ap (λ (xs : List ℕ). front ++ xs) (take-append-le count part rest some)))

pub length_front : (xs : List ℕ) (n : ℕ) → n ≤ length xs → length (take n xs) ≡ n
length_front xs n within = grind (arith, common_steps)

-- so many bytes more came, into the rest of the piece
pub gives_more : (old mid new : SourceState) (into part : List ℕ) (done count : ℕ) → done ≤ length into → length part ≡ length into - done → count ≤ length part
    → Gives old mid into done → Gives mid new part count → Gives old new (put_mid done (length into - done) into part) (done + count)
gives_more old mid new into part done count within fits some so_far step =
    let rest : List ℕ = drop (length into - done) (drop done into) in
    let later : take count part ≡ take count (drop done old.left) = step.first ∙ ap (take count) so_far.others in
    record {
      first = take_both (take done into) part rest done count (length_front into done within) some
          ∙ (rw (so_far.first, later) (sym (take-add done count old.left)));
      enough = omega (arith, so_far.enough, step.enough, ap length so_far.others, length-drop done old.left);
      others = step.others ∙ ap (drop count) so_far.others ∙ drop-drop count done old.left;
    }
