use Rattle.std.specs.Prelude.{string_bytes}
use Rattle.scons_top.proofs.Telling.{line_here, shown_printed, shown_refused}
use Rattle.scons_top.proofs.Stepping.{or_same, or_more, has_pushed, has_before}
use Rattle.std.proofs.Common.{◌∙◌, ◌++◌, ◌∷◌, [], ap, List, inl, inr, refl, subst, sym}
use Rattle.scons_top.specs.Told.{IsLine}
use Rattle.scons_top.specs.Faults.{IsEarly}
use Rattle.scons_top.specs.declared.report.Top.{Top}
use Rattle.scons_top.specs.declared.report.Top.TheVariants as top
use Rattle.scons_top.proofs.Alone.{one_none, one_pushed, one_refused}
use Rattle.scons_top.proofs.Early.{added}
use Rattle.scons_top.proofs.Causing.{on_err}
use Rattle.scons_top.proofs.Reporting.{finds_dropped, finds_wanting, finds_printed, finds_refused, finds_refused_dropped}
use Rattle.scons_top.proofs.ending.keep.Goals as goal

pub returns-in_err-push-clause-lacks : goal.returns-in_err-push-clause-lacks
returns-in_err-push-clause-lacks g c = on_err _ c.from_residual.result (finds_dropped g.E.Sink.meaning _ c.args.fault _ _ c.in_err-push.ensures.err)

pub returns-in_err-text-clause-lacks : goal.returns-in_err-text-clause-lacks
returns-in_err-text-clause-lacks g c = on_err _ c.from_residual-in_err-text.result (finds_wanting g.E.Sink.meaning _ _ _ c.in_ok-push.ensures.ok)

pub returns-in-Ok-clause-finds : goal.returns-in-Ok-clause-finds
returns-in-Ok-clause-finds g c = finds_printed g.E.Sink.meaning _ _ _ _ c.in-Ok.ensures.ok.faults c.in_ok-push.ensures.ok

pub returns-in_err-push-in-Err-clause-lacks : goal.returns-in_err-push-in-Err-clause-lacks
returns-in_err-push-in-Err-clause-lacks g c = on_err _ c.from_residual-in_err-push-in-Err.result (finds_refused_dropped g.E.Sink.meaning _ _ _ _ c.in-Err.ensures.err.faults (c.in_err-push-in-Err.ensures.err ∙ c.in_ok-push.ensures.ok))

pub returns-clause-early : goal.returns-clause-early
returns-clause-early g c = λ each.
    let P = IsEarly c.args.fault in
    added P _ _ _ c.in_ok-push-in-Err.ensures.ok (λ is. absurd is) (added P _ _ _ c.in_ok-push.ensures.ok (λ is. is) each)

pub returns-clause-finds : goal.returns-clause-finds
returns-clause-finds g c =
    finds_refused g.E.Sink.meaning _ _ _ _ c.in-Err.ensures.err.faults (c.in_ok-push-in-Err.ensures.ok ∙ ap (λ (fs : List Top). fs ++ top.OutFault ∷ []) c.in_ok-push.ensures.ok)

pub returns-in_err-push-clause-alone : goal.returns-in_err-push-clause-alone
returns-in_err-push-clause-alone g c = λ all. or_same c.args.fault _ _ c.in_err-push.ensures.err all

pub returns-in_err-text-clause-alone : goal.returns-in_err-text-clause-alone
returns-in_err-text-clause-alone g c = λ all. or_more c.args.fault _ c.args.fault _ c.in_ok-push.ensures.ok (inl refl) all

pub returns-in-Ok-clause-alone : goal.returns-in-Ok-clause-alone
returns-in-Ok-clause-alone g c = λ all. or_more c.args.fault _ c.args.fault _ c.in_ok-push.ensures.ok (inl refl) all

pub returns-in-Ok-clause-holds : goal.returns-in-Ok-clause-holds
returns-in-Ok-clause-holds g c = has_pushed _ c.args.fault _ c.in_ok-push.ensures.ok

pub returns-in_err-push-in-Err-clause-alone : goal.returns-in_err-push-in-Err-clause-alone
returns-in_err-push-in-Err-clause-alone g c = λ all. or_more c.args.fault _ c.args.fault _ (c.in_err-push-in-Err.ensures.err ∙ c.in_ok-push.ensures.ok) (inl refl) all

pub returns-clause-alone : goal.returns-clause-alone
returns-clause-alone g c = λ all.
    or_more c.args.fault _ top.OutFault _ c.in_ok-push-in-Err.ensures.ok (inr refl) (or_more c.args.fault _ c.args.fault _ c.in_ok-push.ensures.ok (inl refl) all)

pub returns-clause-holds : goal.returns-clause-holds
returns-clause-holds g c = has_before _ c.args.fault top.OutFault _ c.in_ok-push-in-Err.ensures.ok (has_pushed _ c.args.fault _ c.in_ok-push.ensures.ok)

pub returns-in-Ok-clause-shown : goal.returns-in-Ok-clause-shown
returns-in-Ok-clause-shown g c = λ none kind tells.
    let line = subst (IsLine c.args.fault) (sym c.as_str.ensures.value) (line_here string_bytes c.args.fault c.args.text c.in_ok-text.text c.in_ok-text.was kind) in
    shown_printed g.E.Sink.meaning _ _ c.args.fault _ line _ _ none c.in_ok-push.ensures.ok c.in-Ok.ensures.ok tells

pub returns-clause-shown : goal.returns-clause-shown
returns-clause-shown g c = λ none kind tells.
    let line = subst (IsLine c.args.fault) (sym c.as_str.ensures.value) (line_here string_bytes c.args.fault c.args.text c.in_ok-text.text c.in_ok-text.was kind) in
    shown_refused g.E.Sink.meaning _ _ c.args.fault _ line _ _ none (c.in_ok-push-in-Err.ensures.ok ∙ ap (λ (fs : List Top). fs ++ top.OutFault ∷ []) c.in_ok-push.ensures.ok) c.in-Err.ensures.err tells

pub returns-in_err-push-clause-one : goal.returns-in_err-push-clause-one
returns-in_err-push-clause-one g c = λ none. one_none _ _ c.in_err-push.ensures.err none

pub returns-in_err-text-clause-one : goal.returns-in_err-text-clause-one
returns-in_err-text-clause-one g c = λ none. one_pushed _ c.args.fault _ c.in_ok-push.ensures.ok none

pub returns-in-Ok-clause-one : goal.returns-in-Ok-clause-one
returns-in-Ok-clause-one g c = λ none. one_pushed _ c.args.fault _ c.in_ok-push.ensures.ok none

pub returns-in_err-push-in-Err-clause-one : goal.returns-in_err-push-in-Err-clause-one
returns-in_err-push-in-Err-clause-one g c = λ none. one_pushed _ c.args.fault _ (c.in_err-push-in-Err.ensures.err ∙ c.in_ok-push.ensures.ok) none

pub returns-clause-one : goal.returns-clause-one
returns-clause-one g c = λ none.
    one_refused _ c.args.fault _ (c.in_ok-push-in-Err.ensures.ok ∙ ap (λ (fs : List Top). fs ++ top.OutFault ∷ []) c.in_ok-push.ensures.ok) none
