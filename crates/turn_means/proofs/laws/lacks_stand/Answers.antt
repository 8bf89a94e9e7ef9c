use Rattle.turn_means.proofs.Turns.{lacks}
use Rattle.turn_means.proofs.laws.lacks_stand.Goals as goal

pub returns : goal.returns
returns c = λ o jobs old new past rule node r path outset at goes_on next is absent is_told faulted keeps.
    lacks o outset jobs old new past rule node r path at goes_on next is absent is_told faulted keeps
