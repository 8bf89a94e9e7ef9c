use Rattle.std.proofs.Common.{ℕ, List, sym, subst, Contains}
use Rattle.build_run.proofs.tickets.Hold.is_apart.Goals as goal

pub returns : goal.returns
returns c = λ e. record {
  new_id = c.if-self-job.false;
  made = λ path a b. c.shares.ensures c.if-shares.false path (subst (λ (xs : List (List ℕ)). Contains xs path) (sym c.as_slice.ensures) a) b;
  read = λ path a b. c.shares-2.ensures c.if-shares-2.false path (subst (λ (xs : List (List ℕ)). Contains xs path) (sym c.as_slice-2.ensures) a) b;
  settled = λ path a b. c.shares-else-shares-2.ensures c.if-shares-3.false path (subst (λ (xs : List (List ℕ)). Contains xs path) (sym c.as_slice-else-shares-2.ensures) a) b;
}
