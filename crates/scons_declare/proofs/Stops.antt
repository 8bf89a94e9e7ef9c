-- Steps of which the last ends.
use Rattle.std.proofs.Common.{◌≡◌, ◌∙◌, ap, refl}
use Rattle.std.specs.Prelude.{◌≢◌, IfErr, Result, Ok, Err}
use Rattle.scons_decls.specs.declared.fault.NameFault.{NameFault}
use Rattle.scons_decls.specs.declared.fault.NameFault.TheVariants.{Memory}
use Rattle.scons_decls.specs.Steps.{and_then}

pub third_stops : {X Y Z W : Type 0} (a : Result X NameFault) (b : Result Y NameFault) (c : Result Z NameFault) (x : X) (y : Y) (e : NameFault) (next : X → Y → Z → Result W NameFault)
    → a ≡ Ok x → b ≡ Ok y → c ≡ Err e → and_then a (λ x. and_then b (λ y. and_then c (next x y))) ≡ Err e
third_stops a b c x y e next p q r = rw (p, q, r) refl

pub second_stops : {X Y Z : Type 0} (a : Result X NameFault) (x : X) (e : NameFault) (b : X → Result Y NameFault) (next : Y → Result Z NameFault)
    → a ≡ Ok x → b x ≡ Err e → and_then a (λ x. and_then (b x) next) ≡ Err e
second_stops a x e b next p q = ap (λ r. and_then r (λ x. and_then (b x) next)) p ∙ ap (λ r. and_then r next) q

-- the answer of the second step is the answer
pub last_stops : {X Y Z : Type 0} (a : Result X NameFault) (x : X) (next : X → Result Y NameFault) (r : Result Z NameFault) → a ≡ Ok x
    → IfErr r (λ e. e ≢ Memory → next x ≡ Err e) → IfErr r (λ e. e ≢ Memory → and_then a next ≡ Err e)
last_stops a x next (Ok z) p h = h
last_stops a x next (Err e) p h = λ n. rw p (h n)
