use Rattle.std.proofs.Common.{◌∙◌}
use Rattle.scons_rules.proofs.Leaving.{place_at}
use Rattle.scons_rules.proofs.aliases.place_of.Goals as goal

pub returns : goal.returns
returns c = rw (← c.as_str.ensures) (c.get_index_of.ensures ∙ place_at c.as_str.result.now c.args.state.now.aliases)
