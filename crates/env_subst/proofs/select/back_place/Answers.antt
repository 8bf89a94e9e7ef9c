use Rattle.std.proofs.Common.{◌≡◌, ◌+◌, ◌-◌, ◌∷◌, arith, rules}
use Rattle.std.specs.Str.{IsUtf8}
use Rattle.env_subst.proofs.CharCuts.{one_left, nothing_left, back_is}
use Rattle.env_subst.proofs.select.back_place.Goals as goal

pub characters-preserved : goal.characters-preserved
characters-preserved c =
    let passed = c.characters.invariant.0 in
    let step = c.in-Some.ensures {u = tt} in
    let text : IsUtf8 c.in-Some.before.now = search rules in
    let fewer : (c.characters.left - 1) + 1 ≡ c.characters.left = omega arith in (
      (step.0 ∷ passed.0, one_left c.args.text.now passed.0 c.characters.rest.now c.in-Some.before.now step.0 c.characters.left (c.characters.left - 1) c.args.count passed.1 c.characters.invariant.1 text step.1 fewer),
      text,
    )

pub returns-in-None : goal.returns-in-None
returns-in-None c =
    let passed = c.characters.invariant.0 in
    nothing_left c.args.text.now passed.0 c.characters.rest.now c.characters.left c.args.count passed.1 (c.in-None.ensures {u = tt})

pub returns : goal.returns
returns c =
    let passed = c.characters.invariant.0 in
    let none : c.characters.left ≡ 0 = omega arith in
    back_is c.args.text.now passed.0 c.characters.rest.now c.characters.left c.args.count passed.1 c.characters.invariant.1 none
