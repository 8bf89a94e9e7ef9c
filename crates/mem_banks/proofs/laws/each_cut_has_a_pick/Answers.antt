use Rattle.mem_banks.proofs.Picks.{each_cut_has_pick}
use Rattle.mem_banks.proofs.laws.each_cut_has_a_pick.Goals as goal

pub returns : goal.returns
returns c = each_cut_has_pick
