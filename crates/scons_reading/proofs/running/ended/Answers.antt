use Rattle.std.proofs.Common.{Option, sym, subst}
use Rattle.py_meaning.specs.declared.fault.EvalFault.{EvalFault}
use Rattle.py_meaning.specs.declared.fault.EvalKind.{EvalKind}
use Rattle.scons_host.specs.declared.end.HostEnd.{HostEnd}
use Rattle.scons_host.specs.Laws.{own_at}
use Rattle.scons_host.specs.SoFar.{so_far}
use Rattle.scons_host.specs.Untold.{untold_end}
use Rattle.scons_reading.specs.Coming.{IsFaultOf, StopsBy, StopsKept, StopsWith}
use Rattle.scons_reading.specs.Reads.{Runs, stops}
use Rattle.scons_reading.specs.Running.{HasKindCause, HasFaultCause}
use Rattle.scons_reading.proofs.Carrying.{own_kind}
use Rattle.scons_reading.proofs.Coming.{own_stops}
use Rattle.scons_reading.proofs.running.ended.Goals as goal

pub returns-in-Host : goal.returns-in-Host
returns-in-Host c = record {
  cause = λ old new cause.
      let kept = c.args.kept.end in
      let first = subst (λ (f : EvalFault). HasFaultCause old new kept f) c.in-At.is cause in
      c.kept_end.ensures.cause old new (subst (λ (k : EvalKind). HasKindCause old new kept k) c.in-Host.is first);
  stops = λ f b text was t.
      let s = so_far c.args.state.now in
      let kept = c.args.kept.end in
      let first = subst (λ (e : EvalFault). IsFaultOf f b text s kept e) c.in-At.is was in
      let second = subst (λ (k : EvalKind). StopsBy f b text s kept (record { script = c.in-At.script; line = c.in-At.line }) k) c.in-Host.is first in
      subst (λ (k : Option HostEnd). StopsKept f b text k) (c.kept_end.ensures.told t) second t;
}

pub returns-in_default : goal.returns-in_default
returns-in_default c = record {
  cause = λ old new cause.
      let kept = c.args.kept.end in
      let first = subst (λ (f : EvalFault). HasFaultCause old new kept f) c.in-At.is cause in
      own_at old new c.own_end.result (own_kind old new kept c.in-At.kind c.in_default.not-Host first) c.own_end.ensures.own;
  stops = λ f b text was t.
      let s = so_far c.args.state.now in
      let kept = c.args.kept.end in
      let first = subst (λ (e : EvalFault). IsFaultOf f b text s kept e) c.in-At.is was in
      let is = c.own_end.ensures.told t in
      subst (λ (e : HostEnd). Runs f b (stops (untold_end e) text)) (sym is) (own_stops f b text s kept (record { script = c.in-At.script; line = c.in-At.line }) c.in-At.kind c.in_default.not-Host first tt);
}
