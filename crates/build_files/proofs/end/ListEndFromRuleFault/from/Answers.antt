use Rattle.std.proofs.Common.{subst, sym, refl}
use Rattle.build_files.specs.declared.end.ListEnd.{ListEnd}
use Rattle.build_files.specs.Causes.{IsInside}
use Rattle.world_api.proofs.Looking.{alone_same}
use Rattle.build_files.proofs.end.ListEndFromRuleFault.from.Goals.{in-Full, in_default}
use Rattle.build_files.proofs.end.ListEndFromRuleFault.from.Goals as goal

pub returns : goal.returns
returns c = elim c.match-fault.branch [
  | in-Full w ↦ subst (λ (e : ListEnd). IsInside e) (sym w.result-is) w.too_many.ensures
  | in_default w ↦ subst (λ (e : ListEnd). IsInside e) (sym w.result-is) (λ counts. alone_same counts counts refl)
]
