use Rattle.std.proofs.Common.{◌≡◌, subst, IfOk}
use Rattle.build_files.specs.Kept.{stamp_past}
use Rattle.build_files.proofs.Presence.{stamp_stays}
use Rattle.build_files.proofs.inputs.Inputs.stamp_for.Goals as goal

pub returns-in_default-clause-stamp : goal.returns-in_default-clause-stamp
returns-in_default-clause-stamp g c = λ path at told b is.
    subst (λ stamp. IfOk c.stamp.result (λ time. time ≡ stamp))
    (stamp_stays c.args.decider (stamp_past c.args.self.now.gone.keys (g.W.Disk.meaning.around c.stamp.new.world) path) c.in_default.not-Content)
    (c.stamp.ensures.stamp told b path at is)
