use Rattle.std.proofs.Common.{◌≡◌, ◌++◌, string_bytes, encode_utf8, flat_map}
use Rattle.py_text.specs.Quoting.{escaped}
use Rattle.py_text.proofs.quoting.quoted.Given as goal

abbrev pub invariant-loop-c : goal.invariant-loop-c
invariant-loop-c l = string_bytes l.shown ≡ encode_utf8 l.quote ++ flat_map (escaped l.quote) l.yielded
