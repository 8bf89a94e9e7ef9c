use Rattle.std.proofs.Common.{arith, ◌<◌, length}
use Rattle.scons_declare.proofs.Once.{some_made}
use Rattle.scons_declare.proofs.objects.each_once.Goals as goal

pub returns-in_default-clause-some : goal.returns-in_default-clause-some
returns-in_default-clause-some c =
    let several : 0 < length c.as_slice.result.now = omega (arith, c.in_default.len_at_least) in
    some_made c.distinct.result c.as_slice.result.now several c.distinct.ensures.ok
