use Rattle.std.proofs.Common.{◌≡◌, ◌++◌, ◌∷◌, [], ℕ, List, map, take, length}
use Rattle.std.specs.List.{filter}
use Rattle.std.specs.Str.{bytes_eq}
use Rattle.scons_rules.specs.Sayings.{numbers_at}
use Rattle.scons_rules.proofs.said.SaidOf.add.Given as goal

abbrev pub invariant-loop-target : goal.invariant-loop-target
invariant-loop-target l = record {
  numbers : (path : List ℕ) → numbers_at l.self path ≡ numbers_at l.initial.self path ++ map (λ _. l.number) (filter (bytes_eq path) (take l.target-index l.said.targets));
  sentences : l.self.sentences ≡ l.initial.self.sentences;
}
