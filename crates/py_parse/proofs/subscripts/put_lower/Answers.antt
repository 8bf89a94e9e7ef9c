use Rattle.std.proofs.Common.{refl, ap}
use Rattle.py_tree.specs.Tree.{expr_tree}
use Rattle.py_tree.proofs.Views.{link_tree-Index}
use Rattle.py_parse.proofs.Cases.{reads_gives}
use Rattle.py_parse.proofs.Steps.{link_continues_over}
use Rattle.py_parse.proofs.Puts.{slice_begins}
use Rattle.py_parse.proofs.Paths.{index_unfit0, index_ok}
use Rattle.py_parse.proofs.subscripts.put_lower.Goals as goal

pub returns-in-Some-clause-goes : goal.returns-in-Some-clause-goes
returns-in-Some-clause-goes c = link_continues_over _ _ _ _ _ (λ d o r. slice_begins _ _ _ (ap expr_tree c.in_ok-value.ensures.ok) c.in-Some.ensures r) c.open_upper.ensures.goes

pub returns-in_default-strip-clause-goes : goal.returns-in_default-strip-clause-goes
returns-in_default-strip-clause-goes c = λ d. reads_gives (index_unfit0 d _ _ c.in_default.ensures c.in_default-strip.ensures)

pub returns-clause-goes : goal.returns-clause-goes
returns-clause-goes c = λ d. reads_gives (index_ok d _ _ c.in_default.ensures c.in-Some-strip.ensures (rw (link_tree-Index, c.in_ok-value.ensures.ok) refl))
