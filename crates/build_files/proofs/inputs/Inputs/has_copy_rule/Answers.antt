use Rattle.std.proofs.Common.{◌∙◌}
use Rattle.build_files.proofs.Knowing.{has_copied}
use Rattle.build_files.proofs.inputs.Inputs.has_copy_rule.Goals as goal

pub returns-clause-copied : goal.returns-clause-copied
returns-clause-copied g c = λ told b is.
    c.is_some.ensures
    ∙ has_copied b c.args.graph.now c.args.self.now _ _ _ _ (record { apart = c.laws.ensures.apart; single = c.laws.ensures.single; named = c.laws.ensures.named })
    (c.copied_from.ensures.looks.around told) (c.in_ok-copied_from.ensures.from told) is
