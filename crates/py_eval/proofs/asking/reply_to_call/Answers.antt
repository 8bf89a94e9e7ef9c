use Rattle.std.proofs.Common.{Result, Err, ap}
use Rattle.py_host.specs.declared.refusal.HostRefusal.{HostRefusal}
use Rattle.py_host.specs.declared.reply.Reply.{Reply}
use Rattle.py_host.specs.Calls.{called, arguments_of, given_of}
use Rattle.py_meaning.specs.States.{place_at, globals_at}
use Rattle.py_state.specs.Stores.{state_of}
use Rattle.py_eval.proofs.Questions.{with_heap, answered, not_answered}
use Rattle.py_eval.proofs.asking.reply_to_call.Goals as goal

pub returns-in-Ok-clause-leads : goal.returns-in-Ok-clause-leads
returns-in-Ok-clause-leads g c = λ calls k.
    let s = state_of c.args.machine.now c.args.frame.now in
    answered g.H.Host.meaning calls (called (place_at c.args.line s) c.args.frame.now.values (globals_at s c.args.frame.now.script) c.args.object.0 (arguments_of c.args.args.now)) s (state_of c.ask_call.new.machine c.args.frame.now) (place_at c.args.line s) k (given_of c.in-Ok.reply) c.args.host.now c.ask_call.new.host c.ask_call.new.machine.heap c.in-Ok.ensures.ok
    (with_heap c.args.machine.now c.ask_call.new.machine c.args.frame.now c.ask_call.ensures.stays)

pub returns-in-Err-clause-leads : goal.returns-in-Err-clause-leads
returns-in-Err-clause-leads g c = λ calls k.
    let s = state_of c.args.machine.now c.args.frame.now in
    not_answered g.H.Host.meaning calls (called (place_at c.args.line s) c.args.frame.now.values (globals_at s c.args.frame.now.script) c.args.object.0 (arguments_of c.args.args.now)) s (place_at c.args.line s) k c.in-Err.refusal c.refused.result c.args.host.now c.ask_call.new.host c.ask_call.new.machine.heap (λ e. c.in-Err.ensures.refused (ap (λ (x : HostRefusal). let r : Result Reply HostRefusal = Err x in r) e)) c.refused.ensures
