use Rattle.std.proofs.Common.{◌≡◌, refl, sym, ap, List, ℕ, Bor, take, drop, length, arith, ◌-◌, map, true}
use Rattle.std.specs.List.{starts_with}
use Rattle.std.specs.Str.{bytes_eq}
use Rattle.std.proofs.lemmas.List.{length-map, length-drop, drop-map, take_all}
use Rattle.scons_base.specs.Resolve.{spelled, relative_text}
use Rattle.scons_base.proofs.resolve.spelled.Goals as goal

relative : (top place : List (List ℕ)) → starts_with bytes_eq place top ≡ true → spelled top place ≡ relative_text (drop (length top) place)
relative top place e = rw e refl

rest_is : {A : Type 0} → (f : A → List ℕ) (top place : List A)
    → map f (take (length place - length top) (drop (length top) place)) ≡ drop (length (map f top)) (map f place)
rest_is f top place =
    rw (length-map top f, drop-map f (length top) place) (ap (map f) (take_all (length place - length top) (drop (length top) place) (omega (arith, length-drop (length top) place))))

pub returns-then-begins_with : goal.returns-then-begins_with
returns-then-begins_with c =
    let rest = rest_is {A = Bor (List ℕ)} (λ x. x.now) c.args.top.now c.args.place.now in
    let whole = relative (map (λ x. x.now) c.args.top.now) (map (λ x. x.now) c.args.place.now) (sym (c.if-begins_with.ensures {u = tt})) in
    rw (whole, ← rest) c.relative_text.ensures
