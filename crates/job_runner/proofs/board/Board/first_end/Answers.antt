use Rattle.std.proofs.Common.{◌<◌, refl, sym, subst}
use Rattle.job_runner.proofs.Found.{first_is}
use Rattle.job_runner.proofs.board.Board.first_end.Goals as goal

pub returns-clause-some : goal.returns-clause-some
returns-clause-some c = record {
  ending = c.in_ok-oldest.oldest.now.ending;
  first = first_is c.args.self.now.ended.items c.in_ok-oldest.oldest.now (subst (λ n. 0 < n) c.args.self.now.ended.ok.0 (c.in_ok-oldest.ensures.variant.0 refl)) c.in_ok-oldest.ensures.lookup;
  own = sym c.deref-slip.ensures;
}
