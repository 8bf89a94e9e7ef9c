-- The fault that ended a run, alone.
use Rattle.std.proofs.Common.{◌≡◌, ◌∙◌, ap, sym, subst, List, [], ◌∷◌, ◌++◌}
use Rattle.scons_top.specs.Alone.{AreOne}
use Rattle.scons_top.specs.Alone.AreOne.{no_fault, one_fault, unprinted}
use Rattle.scons_top.specs.declared.report.Top.{Top}
use Rattle.scons_top.specs.declared.report.Top.TheVariants as top

pub one_as : (faults same : List Top) → same ≡ faults → AreOne faults → AreOne same
one_as faults same is one = subst AreOne (sym is) one

-- none, one, and that its line wasn't printed
pub one_none : (old new : List Top) → new ≡ old → old ≡ [] → AreOne new
one_none old new is none = subst AreOne (sym (is ∙ none)) no_fault

pub one_pushed : (old : List Top) (f : Top) (new : List Top) → new ≡ old ++ f ∷ [] → old ≡ [] → AreOne new
one_pushed old f new is none = subst AreOne (sym (is ∙ ap (λ (fs : List Top). fs ++ f ∷ []) none)) (one_fault f)

pub one_refused : (old : List Top) (f : Top) (new : List Top) → new ≡ (old ++ f ∷ []) ++ top.OutFault ∷ [] → old ≡ [] → AreOne new
one_refused old f new is none = subst AreOne (sym (is ∙ ap (λ (fs : List Top). (fs ++ f ∷ []) ++ top.OutFault ∷ []) none)) (unprinted f)
