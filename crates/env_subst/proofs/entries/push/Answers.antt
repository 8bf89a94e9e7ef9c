use Rattle.std.proofs.Common.{◌∙◌, ap}
use Rattle.env_subst.specs.Frames.{frames_of}
use Rattle.env_subst.proofs.EntrySteps.{frame_upon}
use Rattle.env_subst.proofs.entries.push.Goals as goal

pub returns : goal.returns
returns c = λ locals. ap (frames_of locals) (c.in_ok-push.ensures {u = tt}).items ∙ frame_upon locals c.args.frames.now.frames.items c.args.frame
