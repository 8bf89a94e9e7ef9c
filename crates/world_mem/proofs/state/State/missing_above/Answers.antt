use Rattle.std.proofs.Common.{◌≡◌, ◌∙◌, ◌↔◌, subst, arith, List, ℕ, Contains, take, false}
use Rattle.std.proofs.lemmas.List.{take_all}
use Rattle.world_mem.specs.Standing.{is_dir}
use Rattle.world_mem.proofs.Fresh.{SomeBelow, none_gathered, one_more}
use Rattle.world_mem.proofs.state.State.missing_above.Goals as goal

pub loop-target-init : goal.loop-target-init
loop-target-init c = λ dir. none_gathered c.args.dirs.now dir (is_dir c.args.self.now.dirs dir ≡ false) c.requires

pub loop-target-preserved : goal.loop-target-preserved
loop-target-preserved c = λ dir.
    one_more c.as_slice-target-items.result.now c.loop-target.target-index c.target-item.result dir c.loop-target.dirs c.missing_above.new.fresh (is_dir c.args.self.now.dirs dir ≡ false)
    c.loop-target-test.true c.target-item.is (c.loop-target.invariant dir) (c.in_ok-missing_above.ensures dir)

pub returns : goal.returns
returns c = λ dir.
    let items = c.as_slice-target-items.result.now in
    let all : take c.loop-target.target-index items ≡ c.args.targets.now = take_all c.loop-target.target-index items (omega (arith, c.loop-target-test.false)) ∙ c.as_slice-target-items.ensures in
    subst (λ (ts : List (List ℕ)). Contains c.loop-target.dirs dir ↔ (SomeBelow ts dir × (is_dir c.args.self.now.dirs dir ≡ false))) all (c.loop-target.invariant dir)
