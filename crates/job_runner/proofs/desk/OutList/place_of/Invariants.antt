use Rattle.std.proofs.Common.{◌≡◌, ◌<◌, ◌-◌, ℕ, Some}
use Rattle.std.specs.Prelude.{slice_get, vec_len}
use Rattle.job_runner.specs.Outs.{out_of}
use Rattle.job_runner.proofs.desk.OutList.place_of.Given as goal

abbrev pub invariant-loop-place : goal.invariant-loop-place
invariant-loop-place l = (k : ℕ) → k < l.place → slice_get (out_of l.self) k ≡ Some (l.number, l.slip) → ⊥

abbrev pub decreases-loop-place : goal.decreases-loop-place
decreases-loop-place l = vec_len l.self.slips - l.place
