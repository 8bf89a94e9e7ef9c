use Rattle.std.proofs.Common.{sym, ap, true, ◌≡◌, ◌∙◌}
use Rattle.py_parse.specs.Kinds as kinds
use Rattle.py_parse.specs.Kinds.{behind_expression, behind_none, another}
use Rattle.py_parse.proofs.kind.kind_at.Goals as goal

pub returns-then-branch : goal.returns-then-branch
returns-then-branch c = λ n. behind_expression c.in-Some.unsupported n (sym c.unsupported_behind.ensures ∙ c.in-Some.is) (c.in_ok-ends_expression-in-Some.ensures.0 c.if-branch.true)

pub returns-else-branch : goal.returns-else-branch
returns-else-branch c = λ n. behind_none c.in-Some.unsupported n (sym c.unsupported_behind.ensures ∙ c.in-Some.is)
    (λ e. let t : c.in_ok-ends_expression-in-Some.field-0 ≡ true = c.in_ok-ends_expression-in-Some.ensures.1 e in cc (t, c.if-branch.false))

pub returns-in-None : goal.returns-in-None
returns-in-None c = λ n. another _ n (sym c.unsupported_behind.ensures ∙ c.in-None.is) (c.kind_of.ensures ∙ ap (λ u. kinds.kind_of u) c.unsupported_at.ensures)
