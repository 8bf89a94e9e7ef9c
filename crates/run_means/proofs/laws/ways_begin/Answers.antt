use Rattle.run_means.proofs.Keeping.{begin}
use Rattle.run_means.proofs.laws.ways_begin.Goals as goal

pub returns : goal.returns
returns c = begin
