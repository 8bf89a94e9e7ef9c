use Rattle.one_rule.proofs.Builds.{source_read, source_refused}
use Rattle.one_rule.proofs.building.find_source.Goals as goal

pub returns-in-Ok-clause-gives : goal.returns-in-Ok-clause-gives
returns-in-Ok-clause-gives g c told =
    let around = g.W.Disk.meaning.around in
    let calls = c.in-Ok.ensures in
    rw c.with_source.ensures
    (source_read c.args.rule (around c.args.world.now) (around c.read_file.new.self) (c.requires (calls.told.told told)) (calls.around told)
    c.in-Ok.content (calls.content told) calls.within)

pub returns-in-Err-clause-gives : goal.returns-in-Err-clause-gives
returns-in-Err-clause-gives g c told =
    let around = g.W.Disk.meaning.around in
    let calls = c.in-Err.ensures in
    rw c.unread.ensures
    (source_refused c.args.rule (around c.args.world.now) (around c.read_file.new.self) (c.requires (calls.told.told told)) (calls.around told)
    c.in-Err.refusal (calls.large told) calls.over)
