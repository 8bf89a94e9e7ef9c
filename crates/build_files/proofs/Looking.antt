-- What the ends of looks stand for.
use Rattle.std.proofs.Common.{◌≡◌, ◌<◌, ℕ, List, [], ◌∷◌, ◌++◌, Option, Some, None, length, length-append, ap, subst, sym, arith}
use Rattle.std.specs.Prelude.{Result, MatchOption}
use Rattle.node_tree.specs.Nodes.{number_of, Interns}
use Rattle.world_api.specs.Counts.{Counts}
use Rattle.world_api.proofs.Looking.{looks_same, looks_joined, since_call, alone_same, alone_failed}
use Rattle.build_files.specs.declared.end.ListEnd.{ListEnd}
use Rattle.build_files.specs.Causes.{HasEndCause, HasLookCause, IsInside, IsQuiet}

-- an end for which nothing outside is at fault
pub inside : (a b : Counts) (e : ListEnd) → b ≡ a → IsInside e → HasEndCause a b e
inside a b e same is = subst (λ c. HasEndCause a c e) (sym same) (is a)

-- nothing was at fault before
pub cause_on : {T : Type 0} (a b c : Counts) (r : Result T ListEnd) → b ≡ a → HasLookCause b c r → HasLookCause a c r
cause_on a b c r same cause = subst (λ x. HasLookCause x c r) same cause

-- a result for which nothing outside is at fault
pub quiet : {T : Type 0} (a b : Counts) (r : Result T ListEnd) → b ≡ a → IsQuiet r → HasLookCause a b r
quiet a b r same is = subst (λ c. HasLookCause a c r) (sym same) (is a)

-- a number stays one where a path gets a number
pub interned_below : (old : List (List ℕ)) (path : List ℕ) (id : ℕ) (new : List (List ℕ)) (n : ℕ) → Interns old path id new → n < length old → n < length new
interned_below old path id new n interns below = by (number_of old path) interns
  where
    by : (o : Option ℕ) → MatchOption o ((id ≡ length old) × (new ≡ old ++ path ∷ [])) (λ number. (id ≡ number) × (new ≡ old)) → n < length new
    by None h = let len = ap (λ (x : List (List ℕ)). length x) h.1 in omega (arith, len, length-append old (path ∷ []))
    by (Some number) h = let len = ap (λ (x : List (List ℕ)). length x) h.1 in omega (arith, len)

pub ruleset looking = (looks_same, looks_joined, since_call, alone_same, alone_failed, inside)
