use Rattle.std.proofs.Common.{◌≡◌, ◌+◌, ◌-◌, ◌++◌, ◌∷◌, [], arith, rules}
use Rattle.env_subst.proofs.CharCuts.{one_passed, all_passed}
use Rattle.env_subst.proofs.select.front_len.Goals as goal

pub characters-preserved : goal.characters-preserved
characters-preserved c =
    let passed = c.characters.invariant.0 in
    let step = c.in-Some.ensures {u = tt} in
    let fewer : (c.characters.left - 1) + 1 ≡ c.characters.left = omega arith in (
      (passed.0 ++ step.0 ∷ [], one_passed c.args.text.now passed.0 c.characters.rest.now c.in-Some.behind.now step.0 c.characters.left (c.characters.left - 1) c.args.count passed.1 c.characters.invariant.1 step.1 fewer),
      search rules,
    )

pub returns-in-None : goal.returns-in-None
returns-in-None c =
    let passed = c.characters.invariant.0 in
    all_passed c.args.text.now passed.0 c.characters.rest.now c.characters.left c.args.count passed.1 (c.in-None.ensures {u = tt})
