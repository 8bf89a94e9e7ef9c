use Rattle.scons_top.specs.declared.step.Step.TheVariants as step
use Rattle.scons_top.proofs.Stepping.{stops_ok, stops_as}
use Rattle.world_api.proofs.Looking.{asked}
use Rattle.scons_top.proofs.Causing.{top_named, top_wanting, top_refused}
use Rattle.scons_top.proofs.Watching.{watches_host}
use Rattle.scons_top.proofs.reading.ask_for_top.Goals as goal
use Rattle.scons_top.proofs.reading.ask_for_top.Goals.{in-Ok, in-Err-Memory, in-Err-Fault}

pub returns-clause-watches : goal.returns-clause-watches
returns-clause-watches g c =
    let top = c.top_path.ensures in
    watches_host _ _ _ (asked _ _ _ top.told top.recalls top.around top.banks top.time c.top_path.result top.kept top.rose)

pub returns-clause-step : goal.returns-clause-step
returns-clause-step g c =
    let top = c.top_path in
    elim c.match-top_path.branch [
      | in-Ok w ↦ top_named _ _ top.result _ c.match-top_path.result w.in-Ok.is w.result-is top.ensures.kept
      | in-Err-Memory w ↦ top_wanting _ _ top.result _ c.match-top_path.result w.in-Err-Memory.is w.in-Err-Memory.field-0-is w.result-is top.ensures.kept
      | in-Err-Fault w ↦ top_refused _ _ top.result _ c.match-top_path.result _ w.in-Err-Fault.is w.in-Err-Fault.field-0-is w.result-is w.no_top.ensures.top top.ensures.rose
    ]

pub returns-clause-stops : goal.returns-clause-stops
returns-clause-stops g c =
    elim c.match-top_path.branch [
      | in-Ok w ↦ stops_ok step.Top c.match-top_path.result _ w.result-is
      | in-Err-Memory w ↦ stops_as step.Top c.match-top_path.result _ w.result-is tt
      | in-Err-Fault w ↦ stops_as step.Top c.match-top_path.result _ w.result-is w.no_top.ensures.stops
    ]
