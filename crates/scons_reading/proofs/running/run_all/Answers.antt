use Rattle.scons_host.specs.SoFar.{so_far}
use Rattle.scons_reading.proofs.Overs.{over_map}
use Rattle.scons_reading.proofs.running.run_all.Goals as goal

pub returns-clause-causes : goal.returns-clause-causes
returns-clause-causes g c = c.told.ensures.cause _ _ c.run_kept-outcome.ensures.cause

pub returns-clause-ended : goal.returns-clause-ended
returns-clause-ended g c =
    over_map g.W.Disk.meaning g.O.Sink.meaning _ _ _ _ _ _ (λ f text. c.told.ensures.ended f _ text) c.run_kept-outcome.ensures.came
