use Rattle.std.proofs.Common.{sym, ap, ◌∙◌, map, drop}
use Rattle.std.proofs.lemmas.List.{drop-map}
use Rattle.py_lex.proofs.levels.Levels.close.Goals as goal

pub returns : goal.returns
returns c =
    ap (λ xs. map (λ v. v.items) xs) c.pop_all.ensures ∙ sym (drop-map (λ v. v.items) c.args.count c.self.inside.open.items) ∙ ap (λ l. drop c.args.count l) c.self.view_is
