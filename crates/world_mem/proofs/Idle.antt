-- Where no job ran, and as many run as before, none runs.
use Rattle.std.proofs.Common.{◌≡◌, ◌∙◌, sym, refl, ap, arith, List, [], ◌∷◌, length, map, vec_len}
use Rattle.std.proofs.lemmas.List.{length-map}
use Rattle.world_mem.specs.AsAround.{around_of}
use Rattle.world_mem.specs.Kept.{running_of}
use Rattle.world_mem.specs.declared.state.State.{State}

empty_of : {X : Type 0} (xs : List X) → length xs ≡ 0 → xs ≡ []
empty_of [] e = refl
empty_of (x ∷ xs) e = absurd (omega (arith, e))

pub idle_on : (old new : State) → vec_len new.running ≡ vec_len old.running → (around_of old).running ≡ [] → (around_of new).running ≡ []
idle_on old new same none =
    let was : length old.running.items ≡ 0 = sym (length-map old.running.items running_of) ∙ ap length none in
    let is : length new.running.items ≡ 0 = omega (arith, was, same, old.running.ok.0, new.running.ok.0) in
    ap (map running_of) (empty_of new.running.items is)
