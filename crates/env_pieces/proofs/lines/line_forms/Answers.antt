use Rattle.std.proofs.Common.{rules, arith, ◌≡◌, Ok, subst}
use Rattle.std.proofs.lemmas.Grind.{common_steps}
use Rattle.env_pieces.specs.Lines.{line_forms}
use Rattle.env_pieces.proofs.Hiding.{lines_hide}
use Rattle.env_pieces.proofs.lines.line_forms.Goals as goal

pub returns-clause-hidden : goal.returns-clause-hidden
returns-clause-hidden c =
    let whole : line_forms c.args.mode c.args.pieces.now ≡ Ok c.push_lines.new.forms = first_of (search rules, grind (arith, common_steps)) in
    λ m. lines_hide c.args.pieces.now c.push_lines.new.forms (subst (λ x. line_forms x c.args.pieces.now ≡ Ok c.push_lines.new.forms) m whole)
