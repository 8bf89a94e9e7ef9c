-- The rule that copies a file.
use Rattle.std.specs.Prelude.{[], ◌∷◌, false}
use Rattle.scons_base.specs.declared.ids.NodeId.{NodeId}
use Rattle.world_api.specs.declared.job.Work.TheVariants.{Copy}
use Rattle.world_api.specs.declared.decider.Decider.TheVariants.{Content}
use Rattle.rule_graph.specs.declared.rule.Rule.{Rule}

-- it has no line, and none is printed for it
abbrev pub copying : NodeId → NodeId → Rule
copying target source = record {
  work = Copy;
  targets = target ∷ [];
  sources = source ∷ [];
  libs = [];
  depends = [];
  required = [];
  ignored = [];
  lines = [];
  signed = [];
  paths = [];
  scans = false;
  always = false;
  decider = Content;
  builder = [];
}
