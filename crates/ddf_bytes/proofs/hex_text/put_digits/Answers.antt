use Rattle.hex.specs.Hex.{lower_digits}
use Rattle.hex.proofs.HexLemmas.{IsAscii-encode_with}
use Rattle.ddf_bytes.proofs.HexDigits.{lower_digits_ascii}
use Rattle.ddf_bytes.proofs.hex_text.put_digits.Goals as goal

pub returns-clause-ascii : goal.returns-clause-ascii
returns-clause-ascii c = rw c.in-Ok.ensures.written (IsAscii-encode_with lower_digits c.args.bytes.now lower_digits_ascii)
