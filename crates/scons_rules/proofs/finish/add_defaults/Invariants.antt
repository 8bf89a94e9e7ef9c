use Rattle.std.proofs.Common.{◌≡◌, ◌++◌, [], map, take, fold}
use Rattle.scons_decls.specs.State.{declared_of}
use Rattle.scons_rules.specs.Finishing.{with_wish, wish_of, word_of}
use Rattle.scons_rules.proofs.finish.add_defaults.Given as goal

abbrev pub invariant-loop-asked : goal.invariant-loop-asked
invariant-loop-asked l = record {
  met : l.met.keys ≡ map word_of (fold with_wish [] (map (wish_of (declared_of l.state)) (take l.asked-index l.state.defaults.items)));
  graph : l.graph ≡ record l.initial.graph { defaults = l.initial.graph.defaults ++ fold with_wish [] (map (wish_of (declared_of l.state)) (take l.asked-index l.state.defaults.items)) };
}
