use Rattle.std.proofs.Common.{◌-◌}
use Rattle.scons_host.proofs.byte_text.refused_at.Given as goal

abbrev pub decreases-loop-least : goal.decreases-loop-least
decreases-loop-least l = l.most - l.least
