use Rattle.std.proofs.Common.{◌≡◌, ◌∙◌, sym, ap, subst}
use Rattle.world_api.specs.Around.{Around}
use Rattle.world_api.specs.Calls.{Starts}
use Rattle.world_api.specs.declared.job.Job.{Job}
use Rattle.world_mem.specs.AsAround.{around_of}
use Rattle.world_mem.specs.Kept.{counts_of}
use Rattle.world_mem.specs.Past.{Course}
use Rattle.world_mem.specs.Raises.{Raises}
use Rattle.world_mem.specs.declared.event.Event.TheVariants.{Started}
use Rattle.world_mem.proofs.state.State.start.Goals as goal

pub returns-clause-ok : goal.returns-clause-ok
returns-clause-ok c =
    let faults = c.args.faults in
    let new = around_of c.enter_ready.new.self in
    let job = c.in_ok-entering.ensures.job in
    let same : around_of c.ready.new.self ≡ around_of c.args.self.now = ap (λ (course : Course). course.around) c.ready.ensures.course in
    subst (λ (old : Around). Starts c.args.job (counts_of faults) old new) same
    (subst (λ (j : Job). Starts j (counts_of faults) (around_of c.ready.new.self) new) job
    (c.enter_ready.ensures.started faults (c.in_ok-entering.ensures.event ∙ ap (λ (j : Job). Started j faults) (sym job))))

pub returns-clause-raised : goal.returns-clause-raised
returns-clause-raised c =
    let new = around_of c.enter_ready.new.self in
    let same : around_of c.ready.new.self ≡ around_of c.args.self.now = ap (λ (course : Course). course.around) c.ready.ensures.course in
    subst (λ (old : Around). Raises c.args.job old new) same
    (subst (λ (j : Job). Raises j (around_of c.ready.new.self) new) c.in_ok-entering.ensures.job c.enter_ready.ensures.raised)

pub returns-clause-back : goal.returns-clause-back
returns-clause-back c = c.enter_ready.ensures.back ∙ c.ready.ensures.course
