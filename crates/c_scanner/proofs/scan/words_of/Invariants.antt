use Rattle.std.proofs.Common.{◌≡◌, ◌++◌, length}
use Rattle.c_scanner.specs.Includes.{includes_of}
use Rattle.c_scanner.proofs.scan.words_of.Given as goal

abbrev pub invariant-loop-line : goal.invariant-loop-line
invariant-loop-line l = l.found.items ++ includes_of l.rest ≡ includes_of l.bytes

abbrev pub decreases-loop-line : goal.decreases-loop-line
decreases-loop-line l = length l.rest
