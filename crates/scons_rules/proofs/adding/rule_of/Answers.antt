use Rattle.scons_rules.proofs.adding.rule_of.Goals as goal

pub returns-clause-valid : goal.returns-clause-valid
returns-clause-valid c = λ count nodes. record {
  has_target = nodes.has_target;
  distinct = nodes.distinct;
  targets = nodes.targets;
  sources = nodes.sources;
  libs = nodes.libs;
  depends = nodes.depends;
  required = nodes.required;
  ignored = nodes.ignored;
}
