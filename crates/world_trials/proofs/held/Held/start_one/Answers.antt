use Rattle.std.proofs.Common.{◌≡◌, ◌∙◌, sym, ap, subst, List, ℕ, None, if◌then◌else◌}
use Rattle.world_mem.specs.AsAround.{around_of}
use Rattle.world_trials.proofs.OneJob.{can_start, idle_of, only_path}
use Rattle.world_trials.proofs.held.Held.start_one.Goals as goal

pub start-requires-clause-free : goal.start-requires-clause-free
start-requires-clause-free c = λ u. can_start _ _
    (c.remove_file.ensures.lost.running ∙ idle_of _ (c.args.self.now.one ∙ ap (λ b. if b then 1 else 0) c.requires))
    (λ path h. subst (λ (q : List ℕ). (around_of c.remove_file.new.self.state).tree q ≡ None)
    (sym (only_path _ _ path (c.job_of-job.ensures ∙ c.in-Some.ensures) h))
    c.remove_file.ensures.lost.gone)
