use Rattle.std.proofs.Common.{arith, ◌≡◌, ◌≤◌, Some, ap, length, length-append}
use Rattle.std.specs.Prelude.{slice_get}
use Rattle.task_plan.proofs.ListLemmas.{longer_trans}
use Rattle.task_plan.proofs.ReachLemmas.{walk_rest, walking_next}
use Rattle.task_plan.specs.declared.reach.Reach.{Reach}
use Rattle.task_plan.proofs.reach.Reach.walk.Goals as goal

pub loop-place-preserved : goal.loop-place-preserved
loop-place-preserved c =
    let i = c.loop-place.invariant in
    let e = c.in_ok-include.ensures in
    let at : slice_get c.loop-place.self.files.keys c.loop-place.place ≡ Some c.in-Some.node = cc in
    let sources : c.loop-place.self.sources ≡ c.args.self.now.sources = ap (λ (x : Reach). x.sources) i.rest in
    let n = ap length i.longer.is in
    let m = length-append c.args.self.now.files.keys i.longer.more in
    let within : c.loop-place.self.sources ≤ length c.loop-place.self.files.keys = omega arith in
    record {
      rest = walk_rest c.args.self.now c.loop-place.self c.include.new.self i.rest e.rest;
      longer = longer_trans c.args.self.now.files.keys c.loop-place.self.files.keys c.include.new.self.files.keys i.longer e.longer;
      walking = walking_next c.loop-place.self c.include.new.self c.loop-place.place c.in-Some.node i.walking within at (ap (λ (x : Reach). x.sources) e.rest) (ap (λ (x : Reach). x.excluded.keys) e.rest)
          (ap (λ (x : Reach). x.found.entries) e.rest) e.files e.longer e.front;
    }
