use Rattle.std.proofs.Common.{◌∙◌}
use Rattle.env_vars.proofs.PairLemmas.{set_there, set_new}
use Rattle.env_vars.proofs.added.set_pair.Goals as goal

pub returns-in-Some : goal.returns-in-Some
returns-in-Some c =
    set_there c.args.pairs.now.items (c.args.name, c.args.item) c.in-Some.place (rw (← c.as_slice.ensures.value, ← c.place_of.ensures) c.in-Some.is)

pub returns-in_ok-push-in-None : goal.returns-in_ok-push-in-None
returns-in_ok-push-in-None c =
    (c.in_ok-push-in-None.ensures {u = tt}).items ∙ set_new c.args.pairs.now.items (c.args.name, c.args.item) (rw (← c.as_slice.ensures.value, ← c.place_of.ensures) c.in-None.is)
