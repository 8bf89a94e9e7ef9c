use Rattle.one_rule.proofs.Builds.{asked_only}
use Rattle.one_rule.proofs.Runs.{leaves_all, refuses, misreads, ends_build, no_word, some_word}
use Rattle.one_rule.proofs.run.run.Goals as goal

pub returns-then-not-is_empty-clause-ends : goal.returns-then-not-is_empty-clause-ends
returns-then-not-is_empty-clause-ends g c = refuses g.W.Disk.meaning g.O.Sink.meaning c.args.words.now c.args.world.now c.args.out.now c.requires.idle (some_word c.args.words.now c.is_empty.result c.is_empty.ensures c.if-not-is_empty.true)

pub returns-in-Ok-clause-leaves : goal.returns-in-Ok-clause-leaves
returns-in-Ok-clause-leaves g c now =
    let around = g.W.Disk.meaning.around in
    let counts = g.W.Disk.meaning.counts in
    let before = c.build.ensures.told.told now in
    leaves_all c.args.words.now c.in-Ok.rule (counts c.read_rule.new.world) (counts c.args.world.now) (around c.args.world.now) (around c.read_rule.new.world) (around c.build.new.world)
    (no_word c.args.words.now c.is_empty.result c.is_empty.ensures c.if-not-is_empty.false) (c.in-Ok.ensures.gives before) c.in-Ok.ensures.cause
    (asked_only (around c.args.world.now) (around c.read_rule.new.world) (c.requires.idle (c.read_rule.ensures.told.told before)) (c.in-Ok.ensures.around before))
    (c.build.ensures.leaves now)

pub returns-in-Ok-clause-ends : goal.returns-in-Ok-clause-ends
returns-in-Ok-clause-ends g c =
    let around = g.W.Disk.meaning.around in
    rw c.of_build.ensures
    (ends_build g.W.Disk.meaning g.O.Sink.meaning c.args.words.now c.in-Ok.rule c.args.world.now c.read_rule.new.world c.build.new.world c.args.out.now c.read_rule.new.out c.build.new.out
    (no_word c.args.words.now c.is_empty.result c.is_empty.ensures c.if-not-is_empty.false) c.build.ensures.told c.in-Ok.ensures.others c.in-Ok.ensures.gives
    (λ before. asked_only (around c.args.world.now) (around c.read_rule.new.world) (c.requires.idle (c.read_rule.ensures.told.told before)) (c.in-Ok.ensures.around before))
    c.in-Ok.ensures.cause c.in-Ok.ensures.printed
    c.build.result c.build.ensures.gives c.build.ensures.makes c.build.ensures.cause c.build.ensures.printed)

pub returns-in-Err-clause-ends : goal.returns-in-Err-clause-ends
returns-in-Err-clause-ends g c =
    rw c.of_reading.ensures
    (misreads g.W.Disk.meaning g.O.Sink.meaning c.args.words.now c.args.world.now c.read_rule.new.world c.args.out.now c.read_rule.new.out
    (no_word c.args.words.now c.is_empty.result c.is_empty.ensures c.if-not-is_empty.false) c.in-Err.stop (λ now. asked_only (g.W.Disk.meaning.around c.args.world.now) (g.W.Disk.meaning.around c.read_rule.new.world) (c.requires.idle (c.read_rule.ensures.told.told now)) (c.in-Err.ensures.around now)) c.in-Err.ensures.gives c.in-Err.ensures.cause c.in-Err.ensures.printed)
