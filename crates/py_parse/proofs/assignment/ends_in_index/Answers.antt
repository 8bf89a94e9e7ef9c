use Rattle.std.proofs.Common.{sym, ap, ◌∙◌}
use Rattle.py_tree.specs.Tree.{link_tree}
use Rattle.py_tree.proofs.Views.{link_tree-Index}
use Rattle.py_parse.specs.Grammar as grammar
use Rattle.py_parse.proofs.Targets.{ends_as_last, ends_nowhere, no_index}
use Rattle.py_parse.proofs.assignment.ends_in_index.Goals as goal

pub returns-in_default : goal.returns-in_default
returns-in_default c = ends_nowhere _ c.in_default.ensures.cases

pub returns-in-Index : goal.returns-in-Index
returns-in-Index c =
    let e = ends_as_last c.args.links.now c.in-Some.field-0-1.now c.in-Some.last.now c.in-Some.ensures.cases.0 in
    let p = ap (λ x. grammar.is_index (link_tree x)) c.in-Index.is in
    let q = ap grammar.is_index (link_tree-Index c.in-Index.line c.in-Index.index) in
    sym (e ∙ p ∙ q)

pub returns-in_default-matches : goal.returns-in_default-matches
returns-in_default-matches c =
    no_index c.in-Some.last.now c.in_default-matches.not-Index ∙ sym (ends_as_last c.args.links.now c.in-Some.field-0-1.now c.in-Some.last.now c.in-Some.ensures.cases.0)
