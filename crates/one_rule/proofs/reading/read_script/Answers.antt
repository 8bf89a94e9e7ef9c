use Rattle.one_rule.proofs.Misread.{read_content, read_refusal}
use Rattle.one_rule.proofs.reading.read_script.Goals as goal

pub returns-in-Ok-clause-gives : goal.returns-in-Ok-clause-gives
returns-in-Ok-clause-gives g c told =
    let around = g.W.Disk.meaning.around in
    let calls = c.in-Ok.ensures in
    read_content (around c.args.world.now) (around c.read_file.new.self) c.in_ok-path.path c.in_ok-path.ensures (c.requires (calls.told.told told)) (calls.around told)
    c.in-Ok.content c.rule_in.result (calls.content told) calls.within c.rule_in.ensures

pub returns-in-Err-clause-gives : goal.returns-in-Err-clause-gives
returns-in-Err-clause-gives g c told =
    let around = g.W.Disk.meaning.around in
    let calls = c.in-Err.ensures in
    rw c.refused.ensures
    (read_refusal (around c.args.world.now) (around c.read_file.new.self) c.in_ok-path.path c.in_ok-path.ensures (c.requires (calls.told.told told)) (calls.around told)
    c.in-Err.refusal (calls.large told) calls.over)
