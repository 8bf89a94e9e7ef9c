use Rattle.std.proofs.Common.{arith, ◌<◌, ◌∙◌, ◌++◌, ◌∷◌, List, [], length, set, ap, sym}
use Rattle.std.proofs.lemmas.List.{map-set, get_or-map}
use Rattle.std.specs.declared.alloc.Global.{Global}
use Rattle.std.specs.declared.vec.Vec.{Vec}
use Rattle.scons_base.specs.declared.ids.RuleId.{RuleId}
use Rattle.task_plan.specs.Noted.{lists_of}
use Rattle.task_plan.proofs.files.Files.add_waiter.Goals as goal

pub returns-in_ok-push-clause-waiters : goal.returns-in_ok-push-clause-waiters
returns-in_ok-push-clause-waiters c =
    let ws = c.args.self.now.waiters.items in
    let items = λ (w : Vec RuleId Global). w.items in
    let within : c.args.node.0 < length ws = omega (arith, c.args.self.now.waiters.ok.0, c.len.ensures, c.if-number-len.true) in
    let there = get_or-map items ws c.args.node.0 c.index_mut.result.now [] within in
    let pushed = (c.in_ok-push.ensures {u = tt}).items in
    map-set items ws c.args.node.0 c.push.new.self
    ∙ ap (set (lists_of ws) c.args.node.0) (pushed ∙ ap (λ (xs : List RuleId). xs ++ c.args.rule ∷ []) (ap items c.index_mut.ensures.value ∙ sym there))
