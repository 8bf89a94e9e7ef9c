use Rattle.std.proofs.Common.{arith, ◌≡◌, ◌∙◌, Option, Result, Err, length, ap, refl}
use Rattle.py_tree.specs.declared.line.Script.{Script}
use Rattle.py_host.specs.declared.refusal.HostRefusal.{HostRefusal}
use Rattle.py_host.specs.Calls.{next_script, tree_of}
use Rattle.py_meaning.specs.States.{State, Frame, with_objects}
use Rattle.py_meaning.specs.Calls.{next_place}
use Rattle.py_state.specs.Stops.{refusal_stop}
use Rattle.py_state.specs.Stores.{store_of, state_by}
use Rattle.py_eval.proofs.Questions.{answered, not_answered}
use Rattle.py_eval.proofs.asking.script_behind.Goals as goal

pub returns-in-Ok-clause-leads : goal.returns-in-Ok-clause-leads
returns-in-Ok-clause-leads g c = λ calls f k.
    let s : State = state_by (store_of c.args.machine.now) f in
    answered g.H.Host.meaning calls next_script s (with_objects s c.next_script.new.heap) (next_place s) k (tree_of c.in-Ok.next) c.args.host.now c.next_script.new.self c.next_script.new.heap c.in-Ok.ensures.ok refl

pub returns-clause-leads : goal.returns-clause-leads
returns-clause-leads g c = λ calls f k.
    let count : c.len.result ≡ length c.args.machine.now.globals.items = omega (arith, c.args.machine.now.globals.ok.0) in
    let s : State = state_by (store_of c.args.machine.now) f in
    not_answered g.H.Host.meaning calls next_script s (next_place s) k c.in-Err.refusal c.refused.result c.args.host.now c.next_script.new.self c.next_script.new.heap (λ e. c.in-Err.ensures.refused (ap (λ (x : HostRefusal). let r : Result (Option Script) HostRefusal = Err x in r) e))
    (c.refused.ensures ∙ ap (λ n. refusal_stop n 1 c.in-Err.refusal) (ap (λ (x : Frame). x.script) c.of_script-frame.ensures ∙ count))
