use Rattle.std.proofs.Common.{arith, nat_eq}
use Rattle.std.specs.Cmp.Lexicographic.{pointwise}
use Rattle.std.specs.HashSet.{contains}
use Rattle.py_parse.proofs.SeenNames.{has_one_more}
use Rattle.py_parse.proofs.seen.Seen.insert.Goals as goal

pub invariant_of-self : goal.invariant_of-self
invariant_of-self c = λ q. rw c.reserve.ensures.items (c.self.invariant q)

pub invariant_of-self-in_err-insert : goal.invariant_of-self-in_err-insert
invariant_of-self-in_err-insert c = λ q. rw (c.in_err-insert.ensures.err, c.reserve.ensures.items) (c.self.invariant q)

pub invariant_of-self-in_err-push : goal.invariant_of-self-in_err-push
invariant_of-self-in_err-push c = λ q. absurd (omega (arith, c.in_err-push.ensures.full, c.in_ok-reserve.ensures.ok))

pub invariant_of-self-2 : goal.invariant_of-self-2
invariant_of-self-2 c =
    let e = rw c.reserve.ensures.items at c.in_ok-push.ensures.items in
    let u = rw c.in_ok-key.ensures at c.in_ok-insert.ensures.updates in
    λ q. has_one_more _ _ _ q (contains (pointwise nat_eq) c.self.inside.known q) _ e (u.0 q) (c.self.invariant q)
