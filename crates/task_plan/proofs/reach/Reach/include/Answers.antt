use Rattle.std.proofs.Common.{◌∙◌, sym, ap}
use Rattle.task_plan.specs.Named.{put_all}
use Rattle.task_plan.proofs.ReachLemmas.{seen_some, seen_none, scanned_some, scanned_nothing}
use Rattle.task_plan.proofs.reach.Reach.include.Goals as goal

pub returns-in_ok-put_all-clause-files : goal.returns-in_ok-put_all-clause-files
returns-in_ok-put_all-clause-files c =
    let r = c.args.self.now in
    let seen = seen_some (λ v. v.items) r.found.entries c.args.node c.in-Some.included.now c.in-Some.ensures.value in
    c.in_ok-put_all.ensures.all ∙ ap (put_all r.excluded.keys r.files.keys) (c.as_slice.ensures.value ∙ sym seen)

pub returns-in_ok-put_all-clause-front : goal.returns-in_ok-put_all-clause-front
returns-in_ok-put_all-clause-front c =
    rw (scanned_some c.args.self.now.found.entries c.args.node c.in-Some.included.now c.in-Some.ensures.value)

pub returns-in_default-clause-files : goal.returns-in_default-clause-files
returns-in_default-clause-files c =
    let r = c.args.self.now in
    sym (ap (put_all r.excluded.keys r.files.keys) (seen_none (λ v. v.items) r.found.entries c.args.node c.in_default.ensures.value))

pub returns-in_default-clause-front : goal.returns-in_default-clause-front
returns-in_default-clause-front c =
    rw (scanned_nothing c.args.self.now.found.entries c.args.node c.in_default.ensures.value)
