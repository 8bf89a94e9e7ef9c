use Rattle.std.proofs.Common.{◌≡◌, ◌∙◌, ◌++◌, ◌∷◌, [], sym, ap, append_assoc, rules}
use Rattle.scons_declare.specs.Owns.{lines_in}
use Rattle.scons_declare.proofs.Lines.{first_line, last_line}
use Rattle.scons_declare.proofs.own.push_lines.Goals as goal

pub parts-preserved : goal.parts-preserved
parts-preserved c =
    let after = lines_in c.in-Some.after.now in
    let new : c.push_line.new.lines ≡ c.parts.lines ++ c.in-Some.line.now ∷ [] = (c.in_ok-push_line.ensures {u = tt}).ok in (
      ap (λ l. l ++ after) new ∙ append_assoc c.parts.lines (c.in-Some.line.now ∷ []) after
          ∙ ap (λ t. c.parts.lines ++ t) (sym (first_line _ _ _ c.split_once.ensures.cases c.in-Some.is)) ∙ c.parts.invariant.0,
      search rules,
    )

pub returns-clause-ok : goal.returns-clause-ok
returns-clause-ok c =
    let whole : c.args.lines.now ++ lines_in c.args.text.now ≡ c.parts.lines ++ c.parts.rest.now ∷ [] =
    sym c.parts.invariant.0 ∙ ap (λ t. c.parts.lines ++ t) (last_line _ _ c.split_once.ensures.cases c.in_default.is) in
    rw whole c.push_line-2.ensures.ok
