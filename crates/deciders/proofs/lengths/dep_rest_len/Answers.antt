use Rattle.std.proofs.Common.{arith, length-append, length, ◌++◌}
use Rattle.std.specs.Int.{w32, to_be_bytes}
use Rattle.deciders.specs.Spelling.{sized, digest_spelling, stamp_spelling}
use Rattle.deciders.proofs.lengths.dep_rest_len.Goals as goal

pub returns : goal.returns
returns c =
    let dep = c.args.dep.now in
    omega (arith, c.digest_len.ensures.value, c.stamp_len.ensures.value, length-append (to_be_bytes w32 (length dep.name)) dep.name, length-append (sized dep.name) (digest_spelling dep.digest), length-append (sized dep.name ++ digest_spelling dep.digest) (stamp_spelling dep.stamp))
