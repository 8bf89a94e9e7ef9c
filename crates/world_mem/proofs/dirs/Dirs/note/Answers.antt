use Rattle.std.proofs.Common.{◌∙◌, sym}
use Rattle.mem_banks.proofs.Cuts.{on_ok}
use Rattle.world_mem.specs.Standing.{is_dir}
use Rattle.world_mem.proofs.Fresh.{added}
use Rattle.world_mem.proofs.dirs.Dirs.note.Goals as goal

pub returns : goal.returns
returns c =
    on_ok c.push.result _ _
    (λ is. added (is_dir c.args.self.now) c.args.fresh.now c.push.new.self c.args.dir.now c.in_ok-path_of.field-0 is c.in_ok-path_of.ensures (sym c.stands.ensures ∙ c.if-stands.false))
    c.push.ensures.ok
