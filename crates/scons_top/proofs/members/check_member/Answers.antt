use Rattle.std.proofs.Common.{◌∙◌, subst, sym}
use Rattle.sign_store.specs.Ends.{image_in}
use Rattle.scons_top.specs.Asked.{IsMissing, IsNoPath, NamesNone, StopsFor}
use Rattle.scons_top.specs.Naming.{IsThere}
use Rattle.scons_top.proofs.Opening.{bytes_exit}
use Rattle.scons_top.proofs.Asking.{asked_exit, misses_by, missing_as, stops_weaker, none_as}
use Rattle.scons_top.proofs.Finding.{silent_exit}
use Rattle.scons_top.proofs.Membership.{path_at}
use Rattle.scons_top.proofs.Causing.{inside, world_exit}
use Rattle.scons_top.proofs.members.check_member.Goals as goal

pub returns-in_err-has-clause-step : goal.returns-in_err-has-clause-step
returns-in_err-has-clause-step g c = let r = c.from_residual in world_exit _ _ r.result _ r.ensures.1 c.in_err-has.ensures.step

pub returns-clause-step : goal.returns-clause-step
returns-clause-step g c = inside _ _ c.missing.result c.in_ok-has.ensures.step c.missing.ensures.inside

pub returns-in_err-has-clause-stops : goal.returns-in_err-has-clause-stops
returns-in_err-has-clause-stops g c =
    let is_word = IsNoPath c.args.word.now in
    asked_exit is_word c.from_residual.result _ c.from_residual.ensures.1 (stops_weaker NamesNone is_word _ (none_as is_word) c.in_err-has.ensures.stops)

pub returns-in_err-has-clause-bytes : goal.returns-in_err-has-clause-bytes
returns-in_err-has-clause-bytes g c = λ t. bytes_exit _ c.from_residual.result _ c.from_residual.ensures.1 (c.in_err-has.ensures.bytes t)

pub returns-clause-bytes : goal.returns-clause-bytes
returns-clause-bytes g c = λ t. c.missing.ensures.bytes _

pub returns-in_err-has-clause-finds : goal.returns-in_err-has-clause-finds
returns-in_err-has-clause-finds g c = λ h rest. silent_exit _ _ c.from_residual.result _ c.from_residual.ensures.1 c.in_err-has.ensures.stops

pub returns-then-has-clause-finds : goal.returns-then-has-clause-finds
returns-then-has-clause-finds g c = λ h rest.
    let m = g.W.Disk.meaning in
    let new = c.is_there.new.world in
    subst (IsThere c.args.graph.now (m.around new) (image_in (m.seen new))) (path_at m c.args.graph.now c.args.member _ c.path-path.ensures.at)
    ((c.in_ok-has.ensures.there h rest).so c.if-has.true)

pub returns-clause-finds : goal.returns-clause-finds
returns-clause-finds g c = λ h rest word told there.
    let m = g.W.Disk.meaning in
    let new = c.is_there.new.world in
    (c.in_ok-has.ensures.there h rest).not c.if-has.false
    (subst (IsThere c.args.graph.now (m.around new) (image_in (m.seen new))) (sym (path_at m c.args.graph.now c.args.member _ c.path-path.ensures.at)) there)

pub returns-clause-stops : goal.returns-clause-stops
returns-clause-stops g c =
    let word = c.args.word.now in
    let path = c.path-path.result.now in
    stops_weaker (IsMissing word path) (IsNoPath word) c.missing.result (missing_as word path) c.missing.ensures.stops

pub returns-in_err-has-clause-misses : goal.returns-in_err-has-clause-misses
returns-in_err-has-clause-misses g c = λ h rest.
    misses_by NamesNone _ c.from_residual.result (λ node target never. never) (asked_exit NamesNone c.from_residual.result _ c.from_residual.ensures.1 c.in_err-has.ensures.stops)

pub returns-clause-misses : goal.returns-clause-misses
returns-clause-misses g c = λ h rest node target told.
    let fault = subst (StopsFor (IsMissing c.args.word.now c.path-path.result.now)) told c.missing.ensures.stops in (
      fault.0 ∙ path_at g.W.Disk.meaning c.args.graph.now c.args.member _ c.path-path.ensures.at,
      λ there.
          let m = g.W.Disk.meaning in
          let new = c.is_there.new.world in
          (c.in_ok-has.ensures.there h rest).not c.if-has.false
          (subst (IsThere c.args.graph.now (m.around new) (image_in (m.seen new))) (sym (path_at m c.args.graph.now c.args.member _ c.path-path.ensures.at)) there),
    )
