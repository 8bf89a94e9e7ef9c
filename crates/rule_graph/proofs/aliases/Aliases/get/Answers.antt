use Rattle.std.proofs.Common.{◌∙◌, ap, Some, Vec}
use Rattle.std.specs.Option.{option_map}
use Rattle.scons_base.specs.declared.ids.NodeId.{NodeId}
use Rattle.rule_graph.proofs.AliasLemmas.{members_of_is}
use Rattle.rule_graph.proofs.aliases.Aliases.get.Goals as goal

pub returns-in-Some : goal.returns-in-Some
returns-in-Some c = rw (← c.self.view_is) (ap Some c.as_slice.ensures.value ∙ ap (option_map (λ v. v.items)) c.in-Some.ensures.value ∙ members_of_is c.self.inside.aliases.entries c.args.name.now)

pub returns-in-None : goal.returns-in-None
returns-in-None c = rw (← c.self.view_is) (ap (option_map (λ v. v.items)) c.in-None.ensures.value ∙ members_of_is c.self.inside.aliases.entries c.args.name.now)
