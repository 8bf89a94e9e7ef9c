use Rattle.std.proofs.Common.{◌∷◌, ◌∙◌, ap}
use Rattle.env_subst.specs.Desks.{plain}
use Rattle.env_subst.proofs.calls.push_middle.Goals as goal

pub returns : goal.returns
returns c = λ locals. (c.in_ok-push-2.ensures {u = tt}) locals ∙ ap (λ ts. plain locals c.args.middle ∷ ts) ((c.in_ok-push.ensures {u = tt}) locals)
