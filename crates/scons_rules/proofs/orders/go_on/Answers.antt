use Rattle.std.proofs.Common.{◌∙◌, ap, map, length}
use Rattle.std.proofs.lemmas.List.{map_push}
use Rattle.scons_rules.specs.Walks.{left_of, gone_of}
use Rattle.scons_rules.proofs.Walking.{over_none, stepped, on_ok}
use Rattle.scons_rules.proofs.orders.go_on.Goals as goal

pub returns-in-None : goal.returns-in-None
returns-in-None c =
    over_none c.args.lists.now (length c.args.lists.now) (left_of c.args.walk.now) c.args.steps.now (gone_of c.args.walk.now) c.in-None.ensures.cases

pub returns-in_ok-push-in-Some : goal.returns-in_ok-push-in-Some
returns-in_ok-push-in-Some c =
    on_ok c.take.result c.take.ensures (λ takes.
    stepped c.args.lists.now (left_of c.args.walk.now) (map (λ s. s.now) c.push.new.self.items) (left_of c.take.new.walk) c.args.steps.now c.in-Some.rest.now c.in-Some.step.now
    (gone_of c.args.walk.now) (gone_of c.take.new.walk) (ap (map (λ s. s.now)) c.in_ok-push-in-Some.ensures.items ∙ map_push (λ s. s.now) c.args.walk.now.left.items c.in-Some.rest) c.in-Some.ensures.cases.0 takes)
