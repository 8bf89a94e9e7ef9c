use Rattle.std.proofs.Common.{◌<◌, ap, sym, subst}
use Rattle.eval_hosts.specs.Replying.{seen}
use Rattle.eval_hosts.proofs.Scripts.{next_taken, left_taken}
use Rattle.eval_hosts.proofs.replying.Replying.next_further.Goals as goal

pub returns-clause-next : goal.returns-clause-next
returns-clause-next c =
    next_taken c.args.self.now.first.items c.pop.new.self.items c.pop.result c.pop.ensures.items
    (λ l. c.pop.ensures.variant.1 (subst (λ n. 0 < n) (sym c.args.self.now.first.ok.0) l))

pub returns-clause-left : goal.returns-clause-left
returns-clause-left c =
    ap (λ ts. record (seen c.args.self.now) { further = ts }) (left_taken c.args.self.now.first.items c.pop.new.self.items c.pop.result c.pop.ensures.items
    (λ l. c.pop.ensures.variant.1 (subst (λ n. 0 < n) (sym c.args.self.now.first.ok.0) l)))
