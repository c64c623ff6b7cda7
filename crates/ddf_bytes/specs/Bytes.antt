-- Bytes within a list of bytes, and the big-endian numbers that they stand for.
use Rattle.std.specs.Prelude.{ℕ, ◌+◌, List, ◌++◌, length, take, drop}
use Rattle.std.specs.Int.{Width, byte_len, from_be_bytes}

-- the bytes from an offset on, so many of them
abbrev pub bytes_at : List ℕ → ℕ → ℕ → List ℕ
bytes_at bytes at count = take count (drop at bytes)

-- the big-endian number of a width at an offset
abbrev pub number_at : Width → List ℕ → ℕ → ℕ
number_at width bytes at = from_be_bytes width (bytes_at bytes at (byte_len width))

-- the list with other bytes from an offset on
abbrev pub with_bytes_at : List ℕ → ℕ → List ℕ → List ℕ
with_bytes_at bytes at new = take at bytes ++ new ++ drop (at + length new) bytes
