use Rattle.std.proofs.Common.{arith}
use Rattle.std.proofs.lemmas.Grind.{common_steps}
use Rattle.std.proofs.lemmas.List.Concat.{flat_map-append}
use Rattle.trial_text.proofs.told.Told.put_all.Goals as goal

pub loop-text-preserved : goal.loop-text-preserved
loop-text-preserved c = grind (arith, common_steps, flat_map-append)
