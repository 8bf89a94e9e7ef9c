use Rattle.std.proofs.Common.{List, ℕ, ap, sym, ◌∙◌, length, map}
use denote.Ref.{Bor}
use Rattle.py_text.specs.Joining.{joined}
use Rattle.py_text.specs.Sizes.{saturated}
use Rattle.py_text.proofs.joining.joined_length.Goals as goal

pub returns-in-Some : goal.returns-in-Some
returns-in-Some c =
    let shown : List (Bor (List ℕ)) → List (List ℕ) = λ l. map (λ p. p.now) l in
    c.length_from.ensures ∙ ap (λ l. saturated (length (joined c.args.separator.now (shown l)))) (sym (c.in-Some.ensures {u = tt}).cases.0)
