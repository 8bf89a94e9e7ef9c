use Rattle.std.proofs.Common.{◌∙◌, ap, sym}
use Rattle.scons_rules.specs.Libraries.{found_in, or_at}
use Rattle.scons_rules.proofs.Walking.{on_ok}
use Rattle.scons_rules.proofs.Finding.{source_by}
use Rattle.scons_rules.proofs.libraries.ask_source.Goals as goal

pub returns : goal.returns
returns c =
    on_ok c.ask_file.result c.ask_file.ensures.found (λ pushed f.
    pushed f ∙ ap (λ b. or_at (found_in f c.args.wanted.now) b c.args.library)
    (sym (source_by _ _ (f.stands c.args.source) (sym c.contains.ensures ∙ c.if-contains.false) (sym c.is_copied.ensures ∙ c.if-is_copied.false))))
