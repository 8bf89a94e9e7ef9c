-- What each item gives is as many.
use Rattle.std.proofs.Common.{arith, ◌≡◌, List, [], ◌∷◌, ap, sym, refl, length}
use Rattle.std.specs.Prelude.{Result, Ok, Err}
use Rattle.scons_decls.specs.declared.fault.NameFault.{NameFault}
use Rattle.scons_decls.specs.Steps.{and_then, each}

module _ {X Y : Type 0} (f : X → Result Y NameFault) where
  pub each_length : (xs : List X) (ys : List Y) → each f xs ≡ Ok ys → length ys ≡ length xs
  each_length [] ys e = let none : [] ≡ ys = cc in sym (ap length none)
  each_length (x ∷ xs) ys e = by (f x) (each f xs) (each_length xs) e
    where
      by : (r : Result Y NameFault) (rs : Result (List Y) NameFault) → ((zs : List Y) → rs ≡ Ok zs → length zs ≡ length xs) → and_then r (λ y. and_then rs (λ zs. Ok (y ∷ zs))) ≡ Ok ys
          → length ys ≡ length (x ∷ xs)
      by (Ok y) (Ok zs) more is =
          let all : y ∷ zs ≡ ys = cc in
          let rest : length zs ≡ length xs = more zs refl in
          omega (arith, ap length all)
      by (Ok y) (Err k) more is = cc
      by (Err k) rs more is = cc
