-- The faults of the layers below, as faults of a rule.
use Rattle.std.specs.Prelude.{Result, Ok, Err}
use Rattle.node_tree.specs.declared.nodes.NodeRefusal.{NodeRefusal}
use Rattle.node_tree.specs.declared.nodes.NodeRefusal.TheVariants as node
use Rattle.rule_graph.specs.declared.build_fault.What.TheVariants.{Nodes, Rules}
use Rattle.rule_graph.specs.declared.fault.RuleFault.{RuleFault}
use Rattle.rule_graph.specs.declared.fault.RuleFault.TheVariants as rule
use Rattle.env_subst.specs.declared.fault.SubstFault.TheVariants as subst
use Rattle.text_files.specs.declared.refusal.TextRefusal.{TextRefusal}
use Rattle.text_files.specs.declared.refusal.TextRefusal.TheVariants as text
use Rattle.scons_decls.specs.declared.fault.NameFault.{NameFault}
use Rattle.scons_decls.specs.declared.fault.NameFault.TheVariants as name
use Rattle.scons_rules.specs.declared.fault.RuleReadFault.{RuleReadFault}
use Rattle.scons_rules.specs.declared.fault.RuleReadFault.TheVariants.{Name, TooMany, Memory}

abbrev pub of_name : NameFault → RuleReadFault
of_name name.Memory = Memory
of_name (name.BadArgument t) = Name (name.BadArgument t)
of_name (name.OutOfProfile t) = Name (name.OutOfProfile t)
of_name (name.UnknownBuilder t) = Name (name.UnknownBuilder t)
of_name name.NoSource = Name name.NoSource
of_name (name.BadSuffix path) = Name (name.BadSuffix path)
of_name name.EmptyAction = Name name.EmptyAction
of_name (name.NotExported t) = Name (name.NotExported t)
of_name (name.BadPath fault) = Name (name.BadPath fault)
of_name (name.ShellPath path) = Name (name.ShellPath path)
of_name (name.NoRule path) = Name (name.NoRule path)
of_name (name.Variant fault) = Name (name.Variant fault)
of_name (name.Kinds t) = Name (name.Kinds t)
of_name name.ScriptDepth = Name name.ScriptDepth
of_name (name.TwoRules path) = Name (name.TwoRules path)
of_name (name.SelfSource path) = Name (name.SelfSource path)
of_name (name.Subst fault) = Name (name.Subst fault)

-- a path that gets no number
abbrev pub of_node : NodeRefusal → RuleReadFault
of_node (node.Full count) = TooMany Nodes count
of_node node.Memory = Memory

-- a rule that isn't taken
abbrev pub of_rule : RuleFault → RuleReadFault
of_rule (rule.SelfSource path) = Name (name.SelfSource path)
of_rule (rule.TwoRules path) = Name (name.TwoRules path)
of_rule (rule.Full count) = TooMany Rules count
of_rule rule.Memory = Memory

-- a text that isn't written
abbrev pub of_text : TextRefusal → RuleReadFault
of_text (text.TooLarge bytes) = Name (name.Subst (subst.TooLong bytes))
of_text text.Memory = Memory

-- what a name gives, or its fault
abbrev pub or_name : {X : Type 0} → Result X NameFault → Result X RuleReadFault
or_name (Ok x) = Ok x
or_name (Err fault) = Err (of_name fault)
