use Rattle.std.proofs.Common.{◌≢◌, ℕ, ◌<◌, ◌≤◌, length, get_or}
use Rattle.scons_base.specs.Normal.{slash}
use Rattle.scons_decls.proofs.glob.behind_slash.Given as goal

-- every byte from here on differs
abbrev pub invariant-loop-behind : goal.invariant-loop-behind
invariant-loop-behind l = (l.behind ≤ length l.bytes) × ((k : ℕ) → l.behind ≤ k → k < length l.bytes → get_or l.bytes k 0 ≢ slash)

abbrev pub decreases-loop-behind : goal.decreases-loop-behind
decreases-loop-behind l = l.behind
