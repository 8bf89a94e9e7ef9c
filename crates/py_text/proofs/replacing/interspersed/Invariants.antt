use Rattle.std.proofs.Common.{◌≡◌, ◌++◌, string_bytes, encode_utf8, flat_map}
use Rattle.py_text.proofs.replacing.interspersed.Given as goal

abbrev pub invariant-loop-c : goal.invariant-loop-c
invariant-loop-c l = string_bytes l.made ≡ flat_map (λ c. l.new ++ encode_utf8 c) l.yielded
