use Rattle.std.proofs.Common.{◌≡◌, drop}
use Rattle.scons_decls.specs.State.{declared_of}
use Rattle.scons_rules.specs.Finishing.{with_aliases}
use Rattle.scons_rules.specs.PathGraphs.{graph_by}
use Rattle.scons_rules.proofs.finish.add_aliases.Given as goal

abbrev pub invariant-aliases : goal.invariant-aliases
invariant-aliases l =
    with_aliases (declared_of l.state) l.aliases (drop l.place l.state.aliases) l.place (graph_by l.graph)
    ≡ with_aliases (declared_of l.state) l.aliases l.state.aliases 0 (graph_by l.initial.graph)
