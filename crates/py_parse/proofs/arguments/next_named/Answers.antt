use Rattle.std.proofs.Common.{ap, ◌∷◌, ◌++◌, [], ◌∙◌}
use Rattle.py_parse.proofs.Steps.{link_continues_over, named_unfit}
use Rattle.py_parse.proofs.Puts.{no_more_named, another_named}
use Rattle.py_parse.proofs.arguments.next_named.Goals as goal

pub returns-in_default-clause-goes : goal.returns-in_default-clause-goes
returns-in_default-clause-goes c = link_continues_over _ _ _ _ _ (λ d o r. no_more_named _ _ _ c.in_default.ensures r) c.close_call.ensures.goes

pub returns-in_default-strip-clause-goes : goal.returns-in_default-strip-clause-goes
returns-in_default-strip-clause-goes c = λ d. named_unfit _ _ c.in-Some.ensures.taking c.in_default-strip.ensures

pub returns-clause-goes : goal.returns-clause-goes
returns-clause-goes c = λ d o r.
    let e = c.in_ok-insert.ensures ∙ ap (λ n. c.args.seen ++ n ∷ []) (c.in_ok-copy.ensures ∙ c.in_ok-name.ensures) in
    another_named _ _ _ _ _ _ _ c.in-Some.ensures c.in-Some-strip.ensures c.in_ok-name.ensures e r
