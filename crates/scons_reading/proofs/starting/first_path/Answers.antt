use Rattle.std.proofs.Common.{◌≡◌, IfOk, ℕ, List, subst, sym}
use Rattle.scons_reading.specs.Firsts.{first_of}
use Rattle.scons_reading.proofs.Firsts.{none_named}
use Rattle.scons_reading.proofs.starting.first_path.Goals as goal

pub returns-in-empty-clause-ok : goal.returns-in-empty-clause-ok
returns-in-empty-clause-ok g c = λ f s.
    subst (λ (scripts : List (List ℕ)). IfOk c.standing.result (λ path. path ≡ first_of f scripts)) (sym (none_named c.args.scripts.now c.in-empty.len_below)) (c.standing.ensures.ok f s)
