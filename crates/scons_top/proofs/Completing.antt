-- That a run ends well unless something stands in its way.
use Rattle.std.proofs.Common.{◌≡◌, ◌≢◌, ◌⊎◌, inl, inr, refl, subst, ℕ, List, [], ◌∷◌, Contains, arith}
use Rattle.std.specs.Prelude.{All}
use Rattle.std.proofs.lemmas.List.Elements.{All-head, Contains-get_or}
use Rattle.scons_words.specs.declared.fault.UsageKind.{UsageKind}
use Rattle.rule_graph.specs.declared.build_fault.What.TheVariants as what
use Rattle.world_api.specs.Statuses.{HasStatus}
use Rattle.build_run.specs.Causes.{Outside}
use Rattle.scons_top.specs.Causes.{HasAny, HasCause, IsCaused}
use Rattle.scons_top.specs.Complete.{Completes, NoneRose, StandsInTheWay}
use Rattle.scons_top.specs.Steps.{AllComeAt, ComesAt}
use Rattle.scons_top.specs.declared.report.Report.{Report}
use Rattle.scons_top.specs.declared.report.Top.{Top}
use Rattle.scons_top.specs.declared.report.Top.TheVariants as top
use Rattle.scons_top.specs.declared.step.Step.{Step}
use Rattle.scons_top.specs.declared.step.Step.TheVariants as step

-- a fault of the outside, or of the words
abbrev IsOuter : Top → Type 0
IsOuter (top.Usage place kind) = Unit {0}
IsOuter (top.ActionFailed target code) = Unit {0}
IsOuter (top.TreeFault path) = Unit {0}
IsOuter (top.StartFault target) = Unit {0}
IsOuter top.StoreFault = Unit {0}
IsOuter top.OutFault = Unit {0}
IsOuter other = ⊥

abbrev IsNoUsage : Top → Type 0
IsNoUsage f = (place : ℕ) (kind : UsageKind) → f ≡ top.Usage place kind → ⊥

-- it doesn't come
not_outer : (old new : Outside) (f : Top) → NoneRose old new → IsNoUsage f → HasCause old new f → IsOuter f → ⊥
not_outer old new (top.Usage place kind) none words cause is = words place kind refl
not_outer old new (top.Reading file line kind) none words cause is = is
not_outer old new (top.Missing node target) none words cause is = is
not_outer old new (top.UnknownTarget word) none words cause is = is
not_outer old new (top.Cycle paths) none words cause is = is
not_outer old new (top.ActionFailed target code) none words cause is = none.action cause
not_outer old new (top.TreeFault path) none words cause is = none.tree cause
not_outer old new (top.StartFault target) none words cause is = none.start cause
not_outer old new top.StoreFault none words cause is = none.disk cause
not_outer old new (top.StoreForeign bank) none words cause is = is
not_outer old new top.OutFault none words (inl cause) is = none.out cause
not_outer old new top.OutFault none words (inr cause) is = none.err cause
not_outer old new (top.TooLarge path size) none words cause is = is
not_outer old new (top.TooMany what count) none words cause is = is

-- so another stands in the way

reading_stands : (f : Top) → (IsOuter f → ⊥) → ComesAt step.Reading f → StandsInTheWay step.Reading f
reading_stands (top.Usage place kind) not comes = not tt
reading_stands (top.Reading file line kind) not comes = tt
reading_stands (top.Missing node target) not comes = comes
reading_stands (top.UnknownTarget word) not comes = comes
reading_stands (top.Cycle paths) not comes = comes
reading_stands (top.ActionFailed target code) not comes = not tt
reading_stands (top.TreeFault path) not comes = not tt
reading_stands (top.StartFault target) not comes = not tt
reading_stands top.StoreFault not comes = not tt
reading_stands (top.StoreForeign bank) not comes = comes
reading_stands top.OutFault not comes = not tt
reading_stands (top.TooLarge path size) not comes = tt
reading_stands (top.TooMany what count) not comes = tt

asking_stands : (f : Top) → (IsOuter f → ⊥) → ComesAt step.Requests f → StandsInTheWay step.Requests f
asking_stands (top.Usage place kind) not comes = not tt
asking_stands (top.Reading file line kind) not comes = comes
asking_stands (top.Missing node target) not comes = tt
asking_stands (top.UnknownTarget word) not comes = tt
asking_stands (top.Cycle paths) not comes = comes
asking_stands (top.ActionFailed target code) not comes = not tt
asking_stands (top.TreeFault path) not comes = not tt
asking_stands (top.StartFault target) not comes = not tt
asking_stands top.StoreFault not comes = not tt
asking_stands (top.StoreForeign bank) not comes = tt
asking_stands top.OutFault not comes = not tt
asking_stands (top.TooLarge path size) not comes = tt
asking_stands (top.TooMany what count) not comes = tt

store_stands : (f : Top) → (IsOuter f → ⊥) → ComesAt step.Store f → StandsInTheWay step.Store f
store_stands (top.Usage place kind) not comes = not tt
store_stands (top.Reading file line kind) not comes = comes
store_stands (top.Missing node target) not comes = comes
store_stands (top.UnknownTarget word) not comes = comes
store_stands (top.Cycle paths) not comes = comes
store_stands (top.ActionFailed target code) not comes = not tt
store_stands (top.TreeFault path) not comes = not tt
store_stands (top.StartFault target) not comes = not tt
store_stands top.StoreFault not comes = not tt
store_stands (top.StoreForeign bank) not comes = tt
store_stands top.OutFault not comes = not tt
store_stands (top.TooLarge path size) not comes = comes
store_stands (top.TooMany what.Nodes count) not comes = comes
store_stands (top.TooMany what.Rules count) not comes = comes
store_stands (top.TooMany what.Deps count) not comes = comes
store_stands (top.TooMany what.StoreBytes count) not comes = tt

listing_stands : (f : Top) → (IsOuter f → ⊥) → ComesAt step.Listing f → StandsInTheWay step.Listing f
listing_stands (top.Usage place kind) not comes = not tt
listing_stands (top.Reading file line kind) not comes = comes
listing_stands (top.Missing node target) not comes = tt
listing_stands (top.UnknownTarget word) not comes = comes
listing_stands (top.Cycle paths) not comes = tt
listing_stands (top.ActionFailed target code) not comes = not tt
listing_stands (top.TreeFault path) not comes = not tt
listing_stands (top.StartFault target) not comes = not tt
listing_stands top.StoreFault not comes = not tt
listing_stands (top.StoreForeign bank) not comes = comes
listing_stands top.OutFault not comes = not tt
listing_stands (top.TooLarge path size) not comes = tt
listing_stands (top.TooMany what count) not comes = tt

building_stands : (f : Top) → (IsOuter f → ⊥) → ComesAt step.Building f → StandsInTheWay step.Building f
building_stands (top.Usage place kind) not comes = comes
building_stands (top.Reading file line kind) not comes = comes
building_stands (top.Missing node target) not comes = tt
building_stands (top.UnknownTarget word) not comes = comes
building_stands (top.Cycle paths) not comes = tt
building_stands (top.ActionFailed target code) not comes = not tt
building_stands (top.TreeFault path) not comes = not tt
building_stands (top.StartFault target) not comes = not tt
building_stands top.StoreFault not comes = not tt
building_stands (top.StoreForeign bank) not comes = comes
building_stands top.OutFault not comes = not tt
building_stands (top.TooLarge path size) not comes = tt
building_stands (top.TooMany what count) not comes = tt

-- at the other steps none but such comes

words_outer : (f : Top) → ComesAt step.Words f → IsOuter f
words_outer (top.Usage place kind) comes = tt
words_outer top.OutFault comes = tt
words_outer (top.Reading file line kind) comes = comes
words_outer (top.Missing node target) comes = comes
words_outer (top.UnknownTarget word) comes = comes
words_outer (top.Cycle paths) comes = comes
words_outer (top.ActionFailed target code) comes = tt
words_outer (top.TreeFault path) comes = tt
words_outer (top.StartFault target) comes = tt
words_outer top.StoreFault comes = tt
words_outer (top.StoreForeign bank) comes = comes
words_outer (top.TooLarge path size) comes = comes
words_outer (top.TooMany what count) comes = comes

sinks_outer : (f : Top) → ComesAt step.Load f → IsOuter f
sinks_outer (top.Usage place kind) comes = tt
sinks_outer top.OutFault comes = tt
sinks_outer (top.Reading file line kind) comes = comes
sinks_outer (top.Missing node target) comes = comes
sinks_outer (top.UnknownTarget word) comes = comes
sinks_outer (top.Cycle paths) comes = comes
sinks_outer (top.ActionFailed target code) comes = tt
sinks_outer (top.TreeFault path) comes = tt
sinks_outer (top.StartFault target) comes = tt
sinks_outer top.StoreFault comes = tt
sinks_outer (top.StoreForeign bank) comes = comes
sinks_outer (top.TooLarge path size) comes = comes
sinks_outer (top.TooMany what count) comes = comes

tree_outer : (f : Top) → ComesAt step.Top f → IsOuter f
tree_outer (top.Usage place kind) comes = tt
tree_outer top.OutFault comes = tt
tree_outer (top.Reading file line kind) comes = comes
tree_outer (top.Missing node target) comes = comes
tree_outer (top.UnknownTarget word) comes = comes
tree_outer (top.Cycle paths) comes = comes
tree_outer (top.ActionFailed target code) comes = tt
tree_outer (top.TreeFault path) comes = tt
tree_outer (top.StartFault target) comes = tt
tree_outer top.StoreFault comes = tt
tree_outer (top.StoreForeign bank) comes = comes
tree_outer (top.TooLarge path size) comes = comes
tree_outer (top.TooMany what count) comes = comes

stands : (at : Step) (f : Top) → (IsOuter f → ⊥) → ComesAt at f → StandsInTheWay at f
stands step.Words f not comes = not (words_outer f comes)
stands step.Load f not comes = not (sinks_outer f comes)
stands step.Top f not comes = not (tree_outer f comes)
stands step.Reading f not comes = reading_stands f not comes
stands step.Help f not comes = not (sinks_outer f comes)
stands step.Requests f not comes = asking_stands f not comes
stands step.Cleaning f not comes = not (tree_outer f comes)
stands step.Store f not comes = store_stands f not comes
stands step.Listing f not comes = listing_stands f not comes
stands step.Building f not comes = building_stands f not comes

-- ---- the report

some_stands : (old new : Outside) (at : Step) (faults : List Top) → NoneRose old new → ((place : ℕ) (kind : UsageKind) → Contains faults (top.Usage place kind) → ⊥)
    → All (HasCause old new) faults → AllComeAt at faults → faults ≢ [] → HasAny (StandsInTheWay at) faults
some_stands old new at [] none words causes comes some = absurd (some refl)
some_stands old new at (f ∷ faults) none words causes comes some =
    let here : Contains (f ∷ faults) f = Contains-get_or (f ∷ faults) 0 f (omega arith) in
    let usage : IsNoUsage f = λ place kind is. words place kind (subst (Contains (f ∷ faults)) is here) in
    (f, here, stands at f (not_outer old new f none usage (All-head (HasCause old new) f faults causes)) (All-head (ComesAt at) f faults comes))

pub completes : (old new : Outside) (report : Report) → ((place : ℕ) (kind : UsageKind) → Contains report.faults (top.Usage place kind) → ⊥) → AllComeAt report.step report.faults
    → IsCaused old new report → HasStatus report.status report.faults → Completes old new report
completes old new report words comes caused (inl well) none = inl well.0
completes old new report words comes caused (inr (inl faulty)) none = inr (inr (some_stands old new report.step report.faults none words caused.each comes faulty.1))
completes old new report words comes caused (inr (inr wanting)) none = inr (inl wanting)
