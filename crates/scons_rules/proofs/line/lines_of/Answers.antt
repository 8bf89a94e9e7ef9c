use Rattle.std.proofs.Common.{arith, ◌+◌, ◌∙◌, ap, sym, drop}
use Rattle.std.specs.Borrow.{Bor}
use Rattle.std.specs.Prelude.{Err, List, ℕ}
use Rattle.std.proofs.lemmas.Result.{err_from_is_err_and}
use Rattle.scons_rules.specs.declared.line.RuleLines.{RuleLines}
use Rattle.scons_rules.specs.ActionsLeft.{texts_in}
use Rattle.scons_rules.specs.Expanding.{expanding, command_of}
use Rattle.scons_rules.specs.Lines.{with_command}
use Rattle.scons_rules.proofs.Stepping.{gathered, gather_on, gather_stop_on}
use Rattle.scons_rules.proofs.line.lines_of.Goals as goal

pub returns-in_err-command-clause-fault : goal.returns-in_err-command-clause-fault
returns-in_err-command-clause-fault c =
    let told = err_from_is_err_and c.from_residual.result c.from_residual.ensures.1 in
    rw told.1 (λ other.
    gather_stop_on (command_of (expanding c.args.rule.now)) with_command (λ (t : Bor (List ℕ)). t.now) c.args.texts.now c.loop-text.text-index _ c.loop-text.lines
    c.in_err-command.field-0.0 _ (omega arith) c.loop-text.invariant (c.in_err-command.ensures.fault (λ h. other (told.2 ∙ h))) ∙ ap Err (sym told.2))

pub loop-text-preserved : goal.loop-text-preserved
loop-text-preserved c =
    ap (λ (s : RuleLines). gathered (command_of (expanding c.args.rule.now)) with_command s (drop (c.loop-text.text-index + 1) (texts_in c.args.texts.now))) c.in_ok-add_command.ensures
    ∙ gather_on (command_of (expanding c.args.rule.now)) with_command (λ (t : Bor (List ℕ)). t.now) c.args.texts.now c.loop-text.text-index _ c.loop-text.lines
    c.in_ok-command.command _ (omega arith) c.loop-text.invariant c.in_ok-command.ensures.ok
