use Rattle.env_subst.specs.Desks.{tasks_of}
use Rattle.env_subst.proofs.Doing.{is_opened}
use Rattle.env_subst.proofs.reading.open.Goals as goal

pub returns : goal.returns
returns c =
    let d = c.args.desk.now in
    is_opened (λ l. tasks_of l d.tasks.tasks.items) (λ l. tasks_of l c.push.new.stack.tasks.items) d.names c.enter.new.self d.pieces d.references c.args.name.now c.in_ok-copy.field-0 c.push.result
    (c.in_ok-enter.ensures {u = tt}).ok (c.in_ok-copy.ensures {u = tt}) c.push.ensures
