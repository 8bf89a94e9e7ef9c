use Rattle.std.proofs.Common.{◌∙◌, ap}
use Rattle.rule_graph.specs.Aliases.{aliases_of}
use Rattle.rule_graph.proofs.AliasLemmas.{put_is}
use Rattle.rule_graph.proofs.aliases.Aliases.put.Goals as goal

pub returns-clause-ok : goal.returns-clause-ok
returns-clause-ok c =
    rw (← c.self.view_is) (ap aliases_of (c.in_ok-insert.ensures {u = tt}).entries ∙ put_is c.self.inside.aliases.entries c.args.name c.args.members)
