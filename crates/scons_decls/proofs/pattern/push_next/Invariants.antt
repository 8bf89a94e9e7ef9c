use Rattle.std.proofs.Common.{◌≡◌, ◌-◌, ◌∷◌, ℕ, List, length, drop}
use Rattle.scons_decls.specs.Patterns.{ends_split, are_split}
use Rattle.scons_decls.proofs.Matching.{Ends}
use Rattle.scons_decls.proofs.pattern.push_next.Given as goal

abbrev pub invariant-places : goal.invariant-places
invariant-places l = (name : List ℕ) → l.reached ≡ ends_split l.parts name
    → Ends (drop (length l.parts - l.place) l.parts) (l.char ∷ name) l.next.items l.behind
