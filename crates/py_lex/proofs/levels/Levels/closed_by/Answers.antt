use Rattle.std.proofs.Common.{sym, ap, ◌∙◌, nat_eq}
use Rattle.std.specs.Cmp.Lexicographic.{pointwise}
use Rattle.py_lex.specs.Levels.{closed_by}
use Rattle.py_lex.proofs.OpenLevels.{position-map}
use Rattle.py_lex.proofs.levels.Levels.closed_by.Goals as goal

pub returns : goal.returns
returns c =
    c.place_of.ensures ∙ sym (position-map (λ level. pointwise nat_eq level c.args.indentation.now) (λ v. v.items) c.self.inside.open.items) ∙ ap (λ l. closed_by l c.args.indentation.now) c.self.view_is
