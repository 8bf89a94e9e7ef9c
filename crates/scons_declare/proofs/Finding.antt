-- Paths that are found one after another.
use Rattle.std.proofs.Common.{◌≡◌, ◌<◌, ◌+◌, ℕ, List, [], ◌∷◌, ◌++◌, ap, refl, sym, ◌∙◌, length, drop, get_or, append_assoc}
use Rattle.std.specs.Prelude.{Result, Ok, Err}
use Rattle.scons_decls.specs.declared.fault.NameFault.{NameFault}
use Rattle.scons_decls.specs.declared.given.Given.{Given}
use Rattle.scons_decls.specs.State.{Declared}
use Rattle.scons_decls.specs.Steps.{and_then}
use Rattle.scons_decls.proofs.Stepping.{drop_next}
use Rattle.scons_declare.specs.Linking.{Found, found_in_turn}

-- what is left gives, behind what was found
abbrev pub found_behind : List (List ℕ) → Found → Found
found_behind done (Ok found) = Ok (done ++ found.0, found.1)
found_behind done (Err e) = Err e

one_behind : (ys : List (List ℕ)) (y : List ℕ) (rest : Found) → found_behind (ys ++ y ∷ []) rest ≡ found_behind ys (and_then rest (λ more. Ok (y ∷ more.0, more.1)))
one_behind ys y (Ok more) = ap (λ l. Ok (l, more.1)) (append_assoc ys (y ∷ []) more.0)
one_behind ys y (Err e) = refl

module _ (step : Given → Declared → Result (List ℕ × Declared) NameFault) where
  pub found_step : (xs : List Given) (i : ℕ) (x : Given) (d e : Declared) (ys : List (List ℕ)) (y : List ℕ) (r : Found) → i < length xs
      → found_behind ys (found_in_turn step (drop i xs) d) ≡ r → step (get_or xs i x) d ≡ Ok (y, e) → found_behind (ys ++ y ∷ []) (found_in_turn step (drop (i + 1) xs) e) ≡ r
  found_step xs i x d e ys y r l left one =
      let all : found_behind ys (and_then (step (get_or xs i x) d) (λ z. and_then (found_in_turn step (drop (i + 1) xs) z.1) (λ more. Ok (z.0 ∷ more.0, more.1)))) ≡ r = rw (drop_next xs i x l) at left in
      one_behind ys y (found_in_turn step (drop (i + 1) xs) e) ∙ (rw one at all)

  pub found_stop : (xs : List Given) (i : ℕ) (x : Given) (d : Declared) (ys : List (List ℕ)) (e : NameFault) (r : Found) → i < length xs
      → found_behind ys (found_in_turn step (drop i xs) d) ≡ r → step (get_or xs i x) d ≡ Err e → r ≡ Err e
  found_stop xs i x d ys e r l left one =
      let all : found_behind ys (and_then (step (get_or xs i x) d) (λ z. and_then (found_in_turn step (drop (i + 1) xs) z.1) (λ more. Ok (z.0 ∷ more.0, more.1)))) ≡ r = rw (drop_next xs i x l) at left in
      sym (rw one at all)
