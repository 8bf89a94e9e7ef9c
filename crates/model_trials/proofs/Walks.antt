-- Steps of a walk breadth first.
use Rattle.std.proofs.Common.{◌≡◌, ◌<◌, ◌-◌, ◌+◌, ℕ, zero, suc, List, [], ◌∷◌, ◌++◌, length, remove, get_or, refl, sym, ap, ◌∙◌, arith, append_assoc, append-nil}
use Rattle.build_model.specs.Rules.{Path}
use Rattle.build_model.specs.Reach.{unseen, breadth_first}
use Rattle.model_trials.specs.Plain.{IsTaken}

-- the first path is put behind those that were found, and what it includes behind those that wait
pub first_taken : (f : Path → List Path) (room : ℕ) (seen waiting found : List Path) (p : Path) → 0 < length waiting →
    p ≡ get_or waiting 0 p →
    (found ++ p ∷ []) ++ breadth_first f room (unseen seen (f p) ++ seen) (remove waiting 0 ++ unseen seen (f p))
    ≡ found ++ breadth_first f (suc room) seen waiting
first_taken f room seen [] found p long is = absurd (omega arith)
first_taken f room seen (q ∷ waiting) found p long is = rw is (append_assoc found (q ∷ []) _)

-- nothing more where nothing waits
pub none_waits : (f : Path → List Path) (room : ℕ) (seen waiting : List Path) → length waiting ≡ 0 → breadth_first f room seen waiting ≡ []
none_waits f zero seen waiting none = refl
none_waits f (suc room) seen [] none = refl
none_waits f (suc room) seen (p ∷ waiting) none = absurd (omega arith)

pub no_room : (f : Path → List Path) (room : ℕ) (seen waiting : List Path) → room ≡ 0 → breadth_first f room seen waiting ≡ []
no_room f room seen waiting none = rw none refl

-- a step more of the walk
pub goes_on : (f : Path → List Path) (room i : ℕ) (seen waiting found later still more all : List Path) → i < room →
    IsTaken f seen waiting found later still more → found ++ breadth_first f (room - i) seen waiting ≡ all →
    more ++ breadth_first f (room - (i + 1)) later still ≡ all
goes_on f room i seen waiting found later still more all below taken so_far =
    let e : suc (room - (i + 1)) ≡ room - i = omega arith in
    taken (room - (i + 1)) ∙ rw e so_far

pub ends : {found rest all : List Path} → rest ≡ [] → found ++ rest ≡ all → found ≡ all
ends {found} none so_far = sym (append-nil found) ∙ (ap (λ (l : List Path). found ++ l) (sym none) ∙ so_far)
