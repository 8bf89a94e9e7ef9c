use Rattle.std.proofs.Common.{◌+◌, arith, subst, sym}
use Rattle.std.proofs.lemmas.Bool.Decides.{nat_tests}
use Rattle.scons_report.proofs.Ringing.{IsLeastSoFar, least_of_all, tested_less, tested_not}
use Rattle.scons_report.proofs.dry.place_of_least.Goals.{in-Some, in-Some+else-lt, in-None-1}
use Rattle.scons_report.proofs.dry.place_of_least.Goals as goal

pub loop-place-preserved : goal.loop-place-preserved
loop-place-preserved c = elim c.match-get.branch [
  | in-Some w ↦
      subst (λ least. IsLeastSoFar c.args.paths.now (c.loop-place.place + 1) least) (sym w.least-is)
      (tested_less c.args.paths.now c.loop-place.place c.loop-place.least w.in-Some.found.now c.index-paths-place.result c.loop-place.invariant
      c.loop-place-test.true w.in-Some.ensures.lookup.1 c.index-paths-place.is w.lt.result w.lt.ensures w.if-lt.true)
  | in-Some+else-lt w ↦
      subst (λ least. IsLeastSoFar c.args.paths.now (c.loop-place.place + 1) least) (sym w.least-is)
      (tested_not c.args.paths.now c.loop-place.place c.loop-place.least w.in-Some.found.now c.index-paths-place.result c.loop-place.invariant
      c.loop-place-test.true w.in-Some.ensures.lookup.1 c.index-paths-place.is w.lt.result w.lt.ensures w.if-lt.false)
  | in-None-1 w ↦
      let at = c.loop-place-test.true in
      let lt = c.loop-place.invariant.some (omega (arith, at)) in
      let there = c.get.ensures.lookup.0 in
      absurd (let none : ⊥ = grind (arith, nat_tests, lt, there) in none)
]

pub returns-clause-least : goal.returns-clause-least
returns-clause-least c = least_of_all c.args.paths.now c.loop-place.place c.loop-place.least c.loop-place-test.false c.loop-place.invariant
