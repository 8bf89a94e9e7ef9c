use Rattle.std.proofs.Common.{arith, ◌≡◌, ◌+◌, ◌-◌, length}
use Rattle.py_steps.proofs.Stacks.{second_of}
use Rattle.py_steps.proofs.desk.Desk.second.Goals as goal

pub returns : goal.returns
returns c =
    let count : length c.args.self.now.values.items ≡ c.len-count.result - 2 + 2 = omega (arith, c.args.self.now.values.ok.0) in
    second_of c.args.self.now.values.items (c.len-count.result - 2) c.index.result.now count c.index.ensures
