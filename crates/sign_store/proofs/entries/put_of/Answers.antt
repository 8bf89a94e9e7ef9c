use Rattle.std.proofs.Common.{sym, subst}
use Rattle.sign_store.specs.Orders.{IsWholeChange}
use Rattle.sign_store.proofs.OrderLemmas.{whole_put}
use Rattle.sign_store.proofs.entries.put_of.Goals as goal

pub returns-in-Some-clause-whole : goal.returns-in-Some-clause-whole
returns-in-Some-clause-whole c =
    let spells = rw c.in-Some.is at c.in_ok-rec.ensures.found in
    subst IsWholeChange (sym c.put_in.ensures) (whole_put c.args.version c.args.bytes.now c.in-Some.rec spells c.requires)
