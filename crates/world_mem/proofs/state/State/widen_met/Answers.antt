use Rattle.std.proofs.Common.{◌≡◌, sym, ap, refl, subst, true}
use Rattle.std.specs.List.{list_any}
use Rattle.std.specs.Str.{bytes_eq}
use Rattle.world_mem.specs.Kept.{met_of}
use Rattle.world_mem.proofs.Backs.{same_around, same_course}
use Rattle.world_mem.proofs.state.State.widen_met.Goals as goal

pub invariant_of-self-clause-held : goal.invariant_of-self-clause-held
invariant_of-self-clause-held c = λ path bytes h.
    subst (λ groups. list_any (bytes_eq bytes) (met_of groups) ≡ true) (sym c.widen.ensures.items) (c.args.self.now.held path bytes h)

pub returns-clause-course : goal.returns-clause-course
returns-clause-course c =
    same_course _ _ (same_around _ _ (λ _. refl) (λ _. refl) (λ _. refl) refl refl (ap met_of c.widen.ensures.items) refl refl) refl
