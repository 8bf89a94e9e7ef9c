use Rattle.std.proofs.Common.{◌∙◌, sym}
use Rattle.world_mem.proofs.Taken.{made, is_kept_for}
use Rattle.world_mem.proofs.state.State.is_made.Goals as goal

pub returns : goal.returns
returns c =
    let state = c.args.self.now in
    let path = c.args.path.now in
    (λ y. made state path (sym c.is_kept.ensures ∙ y), λ target. c.is_kept.ensures ∙ is_kept_for state path target)
