use Rattle.std.proofs.Common.{refl, sym}
use Rattle.build_means.proofs.Lists.{true_false}
use Rattle.explain_report.proofs.Below.{below_gone, below_moved, below_changed, none_holds}
use Rattle.explain_report.proofs.finding.reason_beside.Goals as goal

pub returns-in-Some-first_new : goal.returns-in-Some-first_new
returns-in-Some-first_new c =
    let work = c.if-not-is_same_work.ensures.0 refl in
    ((refl, c.in-Some-first_new.ensures), below_gone c.args.decider c.args.now.now c.args.place c.args.first_stamp c.args.old.now work c.in_default.ensures)

pub returns-then-not-have_same_names : goal.returns-then-not-have_same_names
returns-then-not-have_same_names c =
    let work = c.if-not-is_same_work.ensures.0 refl in (
      (refl, λ e. true_false (sym (c.if-not-have_same_names.ensures.1 e))),
      below_moved c.args.decider c.args.now.now c.args.place c.args.first_stamp c.args.old.now work c.in_default.ensures c.in_default-first_new.ensures,
    )

pub returns-in-Some-first_changed : goal.returns-in-Some-first_changed
returns-in-Some-first_changed c =
    let work = c.if-not-is_same_work.ensures.0 refl in (
      (refl, c.in-Some-first_changed.ensures),
      below_changed c.args.decider c.args.now.now c.args.place c.args.first_stamp c.args.old.now work c.in_default.ensures c.in_default-first_new.ensures (c.if-not-have_same_names.ensures.0 refl),
    )

pub returns-in-None : goal.returns-in-None
returns-in-None c =
    let work = c.if-not-is_same_work.ensures.0 refl in
    none_holds c.args.decider c.args.now.now c.args.place c.args.first_stamp c.args.old.now work c.in_default.ensures c.in_default-first_new.ensures
    (c.if-not-have_same_names.ensures.0 refl) c.in-None.ensures
