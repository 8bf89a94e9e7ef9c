use Rattle.std.proofs.Common.{◌∙◌, ap, subst, ◌++◌, ◌∷◌, []}
use Rattle.one_rule.specs.Conclusion.{EndsOutput, stop_faults}
use Rattle.one_rule.specs.Texts.{fault_text}
use Rattle.one_rule.proofs.Closing.{close_output, close_errors}
use Rattle.one_rule.proofs.conclusion.close.Goals as goal

pub returns-in-Ok-clause-closes : goal.returns-in-Ok-clause-closes
returns-in-Ok-clause-closes g c =
    close_output g.O.Sink.meaning g.E.Sink.meaning (c.args.fault ∷ []) c.args.last.now (fault_text c.args.fault) c.args.out.now c.end_output.new.out c.args.err.now c.print_fault-printed.new.err
    c.in-Ok.ensures
    (subst (λ faults. EndsOutput g.O.Sink.meaning c.args.out.now c.end_output.new.out 2 faults c.args.last.now c.end_output.result.status c.end_output.result.faults) {x = c.push_reserved.new.self.items} {y = c.args.fault ∷ []} (c.push_reserved.ensures.items ∙ ap (λ faults. faults ++ c.args.fault ∷ []) c.requires.empty) c.end_output.ensures.ends)

pub returns-in-Err-clause-closes : goal.returns-in-Err-clause-closes
returns-in-Err-clause-closes g c =
    let found = c.push_reserved.ensures.items ∙ ap (λ faults. faults ++ c.args.fault ∷ []) c.requires.empty in
    close_errors g.O.Sink.meaning g.E.Sink.meaning (c.args.fault ∷ []) c.args.last.now (fault_text c.args.fault) c.args.out.now c.args.err.now c.print_fault-printed.new.err
    c.in-Err.stop c.cut_off.result.status c.cut_off.result.faults c.cut_off.ensures.status
    (c.cut_off.ensures.faults ∙ ap (λ faults. faults ++ stop_faults c.in-Err.stop) found) c.in-Err.ensures
