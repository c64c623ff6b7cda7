-- A name of 16 bytes, padded with spaces.
use Rattle.std.proofs.Common.{◌≡◌, ◌∙◌, ℕ, ◌+◌, ◌-◌, ◌≤◌, List, ◌++◌, length, take, drop, replicate, sym, ap, arith}
use Rattle.std.proofs.Math.Seq.{take-append-add}
use Rattle.std.proofs.lemmas.List.{drop-replicate, take-replicate}
use Rattle.ddf_request.specs.NewArray.{padded}

-- of 16 equal bytes, those behind a number of them are as many first ones
last_ones : (byte count : ℕ) → count ≤ 16 → drop count (replicate 16 byte) ≡ take (16 - count) (replicate 16 byte)
last_ones byte count few = drop-replicate count 16 byte ∙ sym (take-replicate (16 - count) 16 byte (omega arith))

-- the bytes of the name, and behind them the last of 16 spaces
pub padded_is : (name : List ℕ) → length name ≤ 16 → name ++ drop (length name) (replicate 16 0x20) ≡ padded name
padded_is name short =
    let whole : length name + (16 - length name) ≡ 16 = omega arith in
    ap (λ (spaces : List ℕ). name ++ spaces) (last_ones 0x20 (length name) short)
    ∙ sym (take-append-add name (replicate 16 0x20) (16 - length name))
    ∙ ap (λ (count : ℕ). take count (name ++ replicate 16 0x20)) whole
