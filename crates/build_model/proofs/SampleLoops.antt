-- Nothing can be decided of two rules that need each other.
use Rattle.std.proofs.Common.{◌≡◌, false, List, [], Some, refl}
use Rattle.build_model.specs.Rules.{Path, content, Rule, Setting, Among, here, there}
use Rattle.build_model.specs.Reach.{is_declared}
use Rattle.build_model.specs.Needs.{Found, Needs, as_dependency, Needed}
use Rattle.build_model.specs.Graphs.{IsGraph, declared_rule, setting, rule_at}
use Rattle.build_model.specs.Laws.{TestsDue}
use Rattle.build_model.specs.Resting.{whole_found, IsLeft, IsAtRest}
use Rattle.build_model.specs.Headline.{BuildsByContent}
use Rattle.build_model.specs.Examples.{header, object, sources_alone, failing_build, one_way, other_way, loop_graph}
use Rattle.build_model.proofs.Lists.{none_some}
use Rattle.build_model.proofs.Placed.{lawful}
use Rattle.build_model.proofs.Scanning.{all_is_found}
use Rattle.build_model.proofs.Samples.{one, needed_declared, missing_tested}

-- the two rules that need each other
abbrev pub loop_set : Setting
loop_set = setting loop_graph sources_alone

loop_two : (P : Rule → Type 0) → P one_way → P other_way → (r : Rule) → Among r loop_graph.rules → P r
loop_two P h o r here = h
loop_two P h o r (there here) = o
loop_two P h o r (there (there m)) = elim m [ ]

loop_among : {f : Found} {requested : List Path} {r : Rule} → Needed (rule_at loop_graph sources_alone) f requested r → Among r loop_graph.rules
loop_among needed = needed_declared loop_graph (λ p. refl) sources_alone needed

loop_is_graph : IsGraph loop_graph
loop_is_graph = record {
  no_copies = loop_two (λ r. r.copies ≡ false) refl refl;
  one_rule = λ r p m n. loop_two (λ x. Among p x.targets → declared_rule loop_graph.rules p ≡ Some x)
      (one (λ q. declared_rule loop_graph.rules q ≡ Some one_way) refl) (one (λ q. declared_rule loop_graph.rules q ≡ Some other_way) refl) r m n;
}

pub loop_builds : BuildsByContent loop_graph failing_build []
loop_builds = record {
  graph = loop_is_graph;
  by = record {
    tests = λ r n. loop_two (λ x. TestsDue loop_set failing_build x) (missing_tested loop_set failing_build one_way header here refl refl)
        (missing_tested loop_set failing_build other_way object here refl refl) r (loop_among n);
    distinct = λ a b n k e. e;
    sound = record { at_targets = λ p r e. none_some e; true_of_files = λ p r bytes e file. none_some e };
    decider = λ r n. loop_two (λ x. x.decider ≡ content) refl refl r (loop_among n);
  };
  sources = λ p none. refl;
  run = tt;
}

pub one_needs_other : (f : Found) → Needs (rule_at loop_graph sources_alone) f one_way other_way
one_needs_other f = as_dependency object (is_declared here) refl

pub other_needs_one : (f : Found) → Needs (rule_at loop_graph sources_alone) f other_way one_way
other_needs_one f = as_dependency header (is_declared here) refl

pub loop_rests : IsAtRest loop_set failing_build [] (whole_found loop_set failing_build [])
loop_rests = record {
  found_whole = all_is_found loop_set failing_build [] (lawful loop_graph sources_alone loop_is_graph) tt;
  rules = loop_graph.rules;
  all = λ r n. loop_among n;
  left = λ r n. loop_two (λ x. IsLeft loop_set [] (whole_found loop_set failing_build []) x)
      (IsLeft.waits other_way (one_needs_other (whole_found loop_set failing_build [])) (λ k. elim k [ ]))
      (IsLeft.waits one_way (other_needs_one (whole_found loop_set failing_build [])) (λ k. elim k [ ])) r (loop_among n);
}
