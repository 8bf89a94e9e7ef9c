use Rattle.turn_means.proofs.Turns.{scanned}
use Rattle.turn_means.proofs.laws.scans_stand.Goals as goal

pub returns : goal.returns
returns c = λ o jobs old new past rule file found outset at goes_on next is is_told.
    scanned o outset jobs old new past rule file found at goes_on next is is_told
