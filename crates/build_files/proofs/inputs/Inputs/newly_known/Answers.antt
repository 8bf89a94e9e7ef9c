use Rattle.std.proofs.Common.{◌∙◌, ap, sym, refl}
use Rattle.std.specs.List.{list_any}
use Rattle.std.specs.Str.{bytes_eq}
use Rattle.world_api.proofs.Looking.{looks_joined}
use Rattle.build_means.specs.Copies.{is_known}
use Rattle.build_files.proofs.Looking.{quiet}
use Rattle.build_files.proofs.Noting.{stood, undeclared, file_known, copy_known, nothing_known, known_noted, unknown_kept, unknown_more}
use Rattle.build_files.proofs.Truths.{asked}
use Rattle.build_files.proofs.inputs.Inputs.newly_known.Goals as goal

pub returns-in_err-has_copy_rule-clause-looks : goal.returns-in_err-has_copy_rule-clause-looks
returns-in_err-has_copy_rule-clause-looks g c = looks_joined _ _ _ _ c.stands.ensures.looks c.has_copy_rule.ensures.looks

pub returns-then-branch-2-clause-looks : goal.returns-then-branch-2-clause-looks
returns-then-branch-2-clause-looks g c = looks_joined _ _ _ _ c.stands.ensures.looks c.has_copy_rule.ensures.looks

pub returns-in_err-copy-clause-looks : goal.returns-in_err-copy-clause-looks
returns-in_err-copy-clause-looks g c = looks_joined _ _ _ _ c.stands.ensures.looks c.has_copy_rule.ensures.looks

pub returns-in_err-insert-clause-looks : goal.returns-in_err-insert-clause-looks
returns-in_err-insert-clause-looks g c = looks_joined _ _ _ _ c.stands.ensures.looks c.has_copy_rule.ensures.looks

pub returns-clause-looks : goal.returns-clause-looks
returns-clause-looks g c = looks_joined _ _ _ _ c.stands.ensures.looks c.has_copy_rule.ensures.looks

pub returns-then-branch-clause-cause : goal.returns-then-branch-clause-cause
returns-then-branch-clause-cause g c = quiet _ _ c.note.result c.in_ok-stands.ensures.cause c.note.ensures.quiet

pub returns-then-branch-2-clause-cause : goal.returns-then-branch-2-clause-cause
returns-then-branch-2-clause-cause g c = quiet _ _ c.note-then-branch-2.result (c.in_ok-has_copy_rule.ensures.cause ∙ c.in_ok-stands.ensures.cause) c.note-then-branch-2.ensures.quiet

pub returns-in_err-stands-clause-truth : goal.returns-in_err-stands-clause-truth
returns-in_err-stands-clause-truth g c = λ none told b is. asked b _ _ _ _ (c.stands.ensures.looks.around told) is

pub returns-then-branch-clause-truth : goal.returns-then-branch-clause-truth
returns-then-branch-clause-truth g c = λ none told b is.
    let later = asked b _ _ _ _ (c.stands.ensures.looks.around told) is in
    c.note.ensures.truth b _ none
    (sym c.if-branch.true ∙ c.in_ok-stands.ensures.stands told ∙ stood b c.args.graph.now c.args.self.now _ _ later none) later

pub returns-then-branch-clause-known : goal.returns-then-branch-clause-known
returns-then-branch-clause-known g c = λ none told b is.
    let later = asked b _ _ _ _ (c.stands.ensures.looks.around told) is in
    known_noted b c.note.new.graph c.args.path.now c.note.result
    (file_known b.graph b.tree c.args.path.now (sym (sym c.if-branch.true ∙ c.in_ok-stands.ensures.stands told ∙ stood b c.args.graph.now c.args.self.now _ _ later none)))
    (c.note.ensures.node none) c.note.ensures.some

pub returns-in_err-has_copy_rule-clause-truth : goal.returns-in_err-has_copy_rule-clause-truth
returns-in_err-has_copy_rule-clause-truth g c = λ none told b is.
    let before = c.has_copy_rule.ensures.looks.told.told told in
    asked b _ _ _ _ (c.has_copy_rule.ensures.looks.around told) (asked b _ _ _ _ (c.stands.ensures.looks.around before) is)

pub returns-then-branch-2-clause-truth : goal.returns-then-branch-2-clause-truth
returns-then-branch-2-clause-truth g c = λ none told b is.
    let before = c.has_copy_rule.ensures.looks.told.told told in
    let later = asked b _ _ _ _ (c.stands.ensures.looks.around before) is in
    c.note-then-branch-2.ensures.truth b _ none
    (sym c.if-branch.false ∙ c.in_ok-stands.ensures.stands before ∙ stood b c.args.graph.now c.args.self.now _ _ later none)
    (asked b _ _ _ _ (c.has_copy_rule.ensures.looks.around told) later)

pub returns-then-branch-2-clause-known : goal.returns-then-branch-2-clause-known
returns-then-branch-2-clause-known g c = λ none told b is.
    let before = c.has_copy_rule.ensures.looks.told.told told in
    let later = asked b _ _ _ _ (c.stands.ensures.looks.around before) is in
    known_noted b c.note-then-branch-2.new.graph c.args.path.now c.note-then-branch-2.result
    (copy_known b.graph b.tree c.args.path.now (sym (c.in_ok-has_copy_rule.ensures.copied told b later) ∙ c.if-branch-2.true))
    (c.note-then-branch-2.ensures.node none) c.note-then-branch-2.ensures.some

pub returns-in_err-copy-clause-truth : goal.returns-in_err-copy-clause-truth
returns-in_err-copy-clause-truth g c = λ none told b is.
    let before = c.has_copy_rule.ensures.looks.told.told told in
    asked b _ _ _ _ (c.has_copy_rule.ensures.looks.around told) (asked b _ _ _ _ (c.stands.ensures.looks.around before) is)

pub returns-in_err-insert-clause-truth : goal.returns-in_err-insert-clause-truth
returns-in_err-insert-clause-truth g c = λ none told b is.
    let before = c.has_copy_rule.ensures.looks.told.told told in
    let later = asked b _ _ _ _ (c.has_copy_rule.ensures.looks.around told) (asked b _ _ _ _ (c.stands.ensures.looks.around before) is) in
    unknown_kept b c.args.graph.now c.args.self.now _ _ refl
    (λ path among. later.unknown path (ap (list_any (bytes_eq path)) (sym c.in_err-insert.ensures.err) ∙ among)) later

pub returns-clause-truth : goal.returns-clause-truth
returns-clause-truth g c = λ none told b is.
    let before = c.has_copy_rule.ensures.looks.told.told told in
    let first = asked b _ _ _ _ (c.stands.ensures.looks.around before) is in
    let later = asked b _ _ _ _ (c.has_copy_rule.ensures.looks.around told) first in
    let unknown = nothing_known b.graph b.tree c.args.path.now (undeclared b c.args.graph.now c.args.self.now _ _ first none c.laws.ensures.apart)
    (sym (c.in_ok-has_copy_rule.ensures.copied told b first) ∙ c.if-branch-2.false)
    (sym (sym c.if-branch.false ∙ c.in_ok-stands.ensures.stands before ∙ stood b c.args.graph.now c.args.self.now _ _ first none)) in
    unknown_kept b c.args.graph.now c.args.self.now _ _ refl
    (unknown_more b _ _ _ c.in_ok-insert.ensures.keys (ap (is_known b.graph b.tree) c.in_ok-copy.ensures ∙ unknown) later.unknown) later

pub returns-clause-known : goal.returns-clause-known
returns-clause-known g c = λ none told b is.
    let before = c.has_copy_rule.ensures.looks.told.told told in
    let first = asked b _ _ _ _ (c.stands.ensures.looks.around before) is in
    nothing_known b.graph b.tree c.args.path.now (undeclared b c.args.graph.now c.args.self.now _ _ first none c.laws.ensures.apart)
    (sym (c.in_ok-has_copy_rule.ensures.copied told b first) ∙ c.if-branch-2.false)
    (sym (sym c.if-branch.false ∙ c.in_ok-stands.ensures.stands before ∙ stood b c.args.graph.now c.args.self.now _ _ first none))
