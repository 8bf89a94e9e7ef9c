use Rattle.std.proofs.Common.{◌≡◌, ◌∙◌, ap, sym, Some, None}
use Rattle.scons_decls.specs.State.{declared_of}
use Rattle.scons_rules.specs.Libraries.{copied_from, found_in, or_at, is_source}
use Rattle.scons_rules.proofs.Walking.{on_ok}
use Rattle.scons_rules.proofs.Finding.{both_asked, known_by, unknown_by}
use Rattle.scons_rules.proofs.libraries.ask.Goals as goal

pub returns-in-Some : goal.returns-in-Some
returns-in-Some c =
    let from : copied_from (declared_of c.args.state.now) c.args.path ≡ Some c.in-Some.source = sym c.in_ok-source.ensures ∙ c.in-Some.is in
    on_ok c.ask_source.result c.ask_source.ensures (λ asked f.
    both_asked _ _ _ (f.stands c.args.path) (is_source f (declared_of c.args.state.now) c.in-Some.source) c.args.path
    (rw (c.in_ok-copy.ensures, c.in_ok-copy-2.ensures) at (c.in_ok-ask_file.ensures.found f)) (asked f)
    ∙ ap (λ b. or_at (found_in f c.args.wanted.now) b c.args.path)
    (sym (known_by f (declared_of c.args.state.now) _ (f.stands c.args.path) _ c.in-Some.source (sym c.contains.ensures ∙ c.if-contains.false) from)))

pub returns-in-None : goal.returns-in-None
returns-in-None c =
    let from : copied_from (declared_of c.args.state.now) c.args.path ≡ None = sym c.in_ok-source.ensures ∙ c.in-None.is in
    λ f.
    (rw (c.in_ok-copy.ensures, c.in_ok-copy-2.ensures) at (c.in_ok-ask_file.ensures.found f))
    ∙ ap (λ b. or_at (found_in f c.args.wanted.now) b c.args.path)
    (sym (unknown_by f (declared_of c.args.state.now) _ (f.stands c.args.path) _ (sym c.contains.ensures ∙ c.if-contains.false) from))
