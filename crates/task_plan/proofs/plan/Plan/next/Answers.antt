use Rattle.std.proofs.Common.{◌≡◌, ◌∙◌, ℕ, false, get_or, ap, refl, sym}
use Rattle.task_plan.specs.Plans.{Planned}
use Rattle.task_plan.specs.Admits.{AllFollow}
use Rattle.task_plan.proofs.KeptLemmas.{decided_first}
use Rattle.task_plan.proofs.WantLemmas.{planned, decided_next}
use Rattle.task_plan.proofs.FollowLemmas.{all_follow}
use Rattle.task_plan.proofs.NextLemmas.{has_places, none_ready, is_still}
use Rattle.task_plan.proofs.plan.Plan.next.Goals as goal

pub returns-in-Some-first-clause-decide : goal.returns-in-Some-first-clause-decide
returns-in-Some-first-clause-decide c = λ rule e.
    let i = c.self.inside in
    let same : c.in-Some-first.rule ≡ rule = cc in
    rw (sym same, sym c.self.view_is)
    (decided_next i.states i.queue i.halted i.tasks.items i.files.origins.items i.scannable i.files.waiters.items i.is_ordered i.roots.items c.in-Some-first.rule.0 c.self.invariant c.in-Some-first.ensures.some c.if-self.false)

pub returns-in-Some-first-clause-first : goal.returns-in-Some-first-clause-first
returns-in-Some-first-clause-first c = λ rule e.
    let i = c.self.inside in
    let same : c.in-Some-first.rule ≡ rule = cc in
    let unmarked : (r : ℕ) → get_or i.scannable r false ≡ false = λ r. ap (λ (x : Planned). get_or x.marks r false) c.self.view_is ∙ c.in_default.ensures.none r in
    rw (sym same, sym c.self.view_is)
    (decided_first i.states i.queue i.halted i.tasks.items i.files.origins.items i.scannable i.files.waiters.items i.is_ordered i.roots.items c.in-Some-first.rule c.self.invariant c.first.ensures.places c.in-Some-first.ensures.some unmarked)

pub returns-in-Some-first-clause-scanned : goal.returns-in-Some-first-clause-scanned
returns-in-Some-first-clause-scanned c = λ rule e k.
    let i = c.self.inside in
    none_ready c.args.self.now (rw (sym c.self.view_is) (has_places (planned i.states i.queue i.halted i.tasks.items i.files.origins.items i.scannable i.files.waiters.items i.is_ordered i.roots.items) i.tasks.items refl refl)) c.in_default.ensures.none k

pub returns-in-None-clause-still : goal.returns-in-None-clause-still
returns-in-None-clause-still c = λ e h k.
    let i = c.self.inside in
    let follows : AllFollow c.args.self.now = rw (sym c.self.view_is) (all_follow i.states i.queue i.tasks.items i.files.origins.items i.scannable c.self.invariant) in
    is_still c.args.self.now follows (rw (sym c.self.view_is) (has_places (planned i.states i.queue i.halted i.tasks.items i.files.origins.items i.scannable i.files.waiters.items i.is_ordered i.roots.items) i.tasks.items refl refl)) c.in_default.ensures.none (rw (sym c.self.view_is) c.in-None.ensures.none) k
