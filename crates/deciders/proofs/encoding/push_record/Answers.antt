use Rattle.std.proofs.Common.{arith}
use Rattle.deciders.proofs.Sizes.{lists_within}
use Rattle.deciders.proofs.encoding.push_record.Goals as goal

pub push_lists-requires : goal.push_lists-requires
push_lists-requires c = omega (arith, c.requires, lists_within c.args.version c.args.rec.now)
