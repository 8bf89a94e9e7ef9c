use Rattle.std.proofs.Common.{length, take}
use Rattle.std.specs.Cmp.Lexicographic.{bytes_decides}
use Rattle.world_mem.proofs.Below.{below_by_rest, not_below}
use Rattle.world_mem.proofs.slots.is_below.Goals as goal

pub returns-in-Some : goal.returns-in-Some
returns-in-Some c =
    let path = c.args.path.now in
    let dir = c.args.dir.now in
    let cases = c.in-Some.ensures.cases in
    below_by_rest path dir c.in-Some.rest.now c.starts_with.result ((bytes_decides (take (length dir) path) dir).0 cases.0) cases.1 c.starts_with.ensures.value

pub returns-in-None : goal.returns-in-None
returns-in-None c = not_below c.args.path.now c.args.dir.now c.in-None.ensures.cases
