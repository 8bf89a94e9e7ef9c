use Rattle.std.proofs.Common.{◌≡◌, ◌∙◌, sym, ap, subst, refl, List, Contains, map, true}
use Rattle.world_mem.specs.Kept.{running_of, IdsApart, is_target}
use Rattle.world_mem.specs.declared.running.RunningJob.{RunningJob}
use Rattle.world_mem.proofs.Backs.{same_around, same_course}
use Rattle.world_mem.proofs.state.State.refill.Goals as goal

pub invariant_of-self-clause-owned : goal.invariant_of-self-clause-owned
invariant_of-self-clause-owned c = λ run path here target. c.args.self.now.owned run path (subst (λ (items : List RunningJob). Contains items run) c.put_made.ensures.items here) target

pub invariant_of-self-clause-marks : goal.invariant_of-self-clause-marks
invariant_of-self-clause-marks c = λ path id h. subst (λ (items : List RunningJob). is_target items path ≡ true) (sym c.put_made.ensures.items) (c.args.self.now.marks path id h)

pub invariant_of-self-clause-apart : goal.invariant_of-self-clause-apart
invariant_of-self-clause-apart c = subst IdsApart (sym c.put_made.ensures.items) c.args.self.now.apart

pub invariant_of-self-clause-planned : goal.invariant_of-self-clause-planned
invariant_of-self-clause-planned c = λ run here. c.args.self.now.planned run (subst (λ (items : List RunningJob). Contains items run) c.put_made.ensures.items here)

pub invariant_of-self-clause-kept : goal.invariant_of-self-clause-kept
invariant_of-self-clause-kept c = λ run here. c.args.self.now.kept run (subst (λ (items : List RunningJob). Contains items run) c.put_made.ensures.items here)

pub invariant_of-self-clause-gains : goal.invariant_of-self-clause-gains
invariant_of-self-clause-gains c = λ run here. c.args.self.now.gains run (subst (λ (items : List RunningJob). Contains items run) c.put_made.ensures.items here)

pub invariant_of-self-clause-ending : goal.invariant_of-self-clause-ending
invariant_of-self-clause-ending c = λ run here. c.args.self.now.ending run (subst (λ (items : List RunningJob). Contains items run) c.put_made.ensures.items here)

pub returns-clause-course : goal.returns-clause-course
returns-clause-course c = same_course _ _ (same_around _ _ (λ _. refl) (λ _. refl) (λ _. refl) (ap (map running_of) c.put_made.ensures.items) refl refl refl refl) refl
