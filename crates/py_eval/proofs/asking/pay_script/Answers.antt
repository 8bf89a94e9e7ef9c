use Rattle.std.proofs.Common.{arith, ◌≡◌, ◌∙◌, length, ap}
use Rattle.py_meaning.specs.States.{State, Frame}
use Rattle.py_state.specs.Stores.{Store, store_of, state_by}
use Rattle.py_eval.proofs.Questions.{script_payment}
use Rattle.py_eval.proofs.asking.pay_script.Goals as goal

pub returns : goal.returns
returns c = λ f k.
    let count : c.len.result ≡ length c.args.machine.now.globals.items = omega (arith, c.args.machine.now.globals.ok.0) in
    let s : State = state_by (store_of c.args.machine.now) f in
    script_payment s (state_by (store_of c.pay.new.self) f) k c.pay.new.self.budget c.of_script-frame.result.script c.pay.result c.pay.ensures.ok c.pay.ensures.fault (ap (λ (x : Store). state_by x f) c.pay.ensures.paid) (ap (λ (x : Frame). x.script) c.of_script-frame.ensures ∙ count)
