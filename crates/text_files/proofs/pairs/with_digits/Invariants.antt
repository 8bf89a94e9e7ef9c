use Rattle.std.proofs.Common.{◌≡◌, drop}
use Rattle.world_api.specs.Writing.{with_digits}
use Rattle.text_files.proofs.pairs.with_digits.Given as goal

abbrev pub invariant-loop-byte : goal.invariant-loop-byte
invariant-loop-byte l = with_digits l.number (drop l.byte-index l.bytes) ≡ with_digits 0 l.bytes
