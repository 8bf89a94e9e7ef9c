-- A task upon others.
use Rattle.std.proofs.Common.{◌≡◌, ◌≢◌, ◌∙◌, ℕ, ◌+◌, ◌-◌, List, [], ◌∷◌, ◌++◌, map, take, Some, None, ap}
use Rattle.std.specs.Prelude.{reverse, Option, MatchOption}
use Rattle.std.specs.Option.{option_to_list}
use Rattle.std.proofs.lemmas.List.{reverse-append, map-append}
use Rattle.env_pieces.specs.declared.pieces.PieceFault.{PieceFault}
use Rattle.env_pieces.specs.declared.pieces.PieceFault.TheVariants as piece
use Rattle.env_subst.specs.declared.fault.SubstFault.{SubstFault}
use Rattle.env_subst.specs.declared.fault.SubstFault.TheVariants.{TooLong, Memory}
use Rattle.env_subst.specs.declared.locals.Locals.{Locals}
use Rattle.env_subst.specs.declared.task.Task.{Task}
use Rattle.env_subst.specs.Desks.{plain, tasks_of, piece_fault}

pub upon : (locals : Locals) (tasks : List Task) (t : Task) → tasks_of locals (tasks ++ t ∷ []) ≡ plain locals t ∷ tasks_of locals tasks
upon locals tasks t = ap reverse (map-append (plain locals) tasks (t ∷ [])) ∙ reverse-append (map (plain locals) tasks) (plain locals t ∷ [])

pub popped : (locals : Locals) (old new : List Task) (n m : ℕ) (r : Option Task) → old ≡ new ++ option_to_list r → new ≡ take (n - 1) old → MatchOption r ((n ≡ 0) × (m ≡ 0)) (λ _. m + 1 ≡ n)
    → MatchOption r (tasks_of locals old ≡ []) (λ t. tasks_of locals old ≡ plain locals t ∷ tasks_of locals new)
popped locals old new n m None e rest c = ap (tasks_of locals) (e ∙ ap (λ xs. xs ++ []) (rest ∙ ap (λ k. take (k - 1) old) c.0))
popped locals old new n m (Some t) e rest c = ap (tasks_of locals) e ∙ upon locals new t

pub piece_faulted : {P : Type 0} → (f : PieceFault) (e : SubstFault) → e ≡ piece_fault f → (f ≢ piece.Memory → (f ≡ piece.TooLong) × P) → e ≢ Memory → (e ≡ TooLong 1048577) × P
piece_faulted piece.TooLong e is h n = (is, (h (λ k. cc)).1)
piece_faulted piece.Memory e is h n = absurd (n is)
