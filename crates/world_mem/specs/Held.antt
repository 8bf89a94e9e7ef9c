-- What a file holds has been met.
use Rattle.std.proofs.Common.{◌≡◌, ℕ, suc, List, [], ◌∷◌, Bool, true, false, Some, Contains, arith, sym, inl, inr, ◌||◌}
use Rattle.std.specs.Cmp.Lexicographic.{bytes_decides}
use Rattle.std.specs.List.{list_any}
use Rattle.std.specs.Str.{bytes_eq}
use Rattle.std.proofs.lemmas.Bool.{cases_Bool}
use Rattle.world_mem.specs.AsAround.{around_of}
use Rattle.world_mem.specs.Kept.{met_of}
use Rattle.world_mem.specs.declared.state.State.{State}

later : (b : List ℕ) (x : List ℕ) (xs : List (List ℕ)) → Contains xs b → Contains (x ∷ xs) b
later b x xs h = (suc h.0, omega (arith, h.1), h.2)

or_second : (a d : Bool) → a ≡ false → (a || d) ≡ true → d ≡ true
or_second true d n h = cc
or_second false d n h = h

found : (b : List ℕ) (xs : List (List ℕ)) → list_any (bytes_eq b) xs ≡ true → Contains xs b
found b [] h = absurd (cc)
found b (x ∷ xs) h = elim (cases_Bool (bytes_eq b x)) [
  | inl y ↦ (0, omega arith, sym ((bytes_decides b x).0 y))
  | inr n ↦ later b x xs (found b xs (or_second (bytes_eq b x) (list_any (bytes_eq b) xs) n h))
]

pub held_of : (s : State) (path bytes : List ℕ) → (around_of s).tree path ≡ Some bytes
    → Contains (around_of s).met bytes
held_of s path bytes is = found bytes (met_of s.met.items) (s.held path bytes is)
