use Rattle.std.proofs.Common.{rules, ◌≡◌, ◌∙◌, ◌+◌, ◌-◌, ◌∷◌, sym, subst, ap, arith, take, reverse, List, true, get_or, length, ◌<◌}
use Rattle.mem_banks.specs.declared.change.Change.{Change}
use Rattle.mem_banks.specs.declared.change.Change.TheVariants.{Wrote}
use Rattle.mem_banks.specs.Past.{IsLeft, IsAt, same_bank}
use Rattle.mem_banks.proofs.Cuts.{one_more, cut_short, left_at, on_ok}
use Rattle.mem_banks.proofs.outcome.leave.Goals as goal

pub returns-then-eq-clause-left : goal.returns-then-eq-clause-left
returns-then-eq-clause-left c =
    let left = reverse (take c.loop-left.left c.args.changes.now) in
    let saved = take c.loop-left.end c.args.saved.now in
    c.loop-left.invariant.leads c.loop-left.bytes.items (left_at c.args.bank left c.loop-left.bytes.items saved c.loop-left.invariant.at)

pub returns-then-ne-clause-left : goal.returns-then-ne-clause-left
returns-then-ne-clause-left c =
    let changes = c.args.changes.now in
    let w = c.in-Wrote.write in
    let k = c.loop-left.left - 1 in
    let up : k + 1 ≡ c.loop-left.left = omega (arith, c.loop-left-test.true) in
    let lt : k < length changes = omega (arith, c.loop-left-test.true, c.loop-left.invariant.within) in
    let at : get_or changes k (Wrote w) ≡ Wrote w = search rules in
    let newest : reverse (take c.loop-left.left changes) ≡ Wrote w ∷ reverse (take k changes) =
    ap (λ n. reverse (take n changes)) (sym up) ∙ one_more changes k (Wrote w) lt ∙ ap (λ (change : Change). change ∷ reverse (take k changes)) at in
    let same : same_bank w.bank c.args.bank ≡ true = search rules in
    let saved = take c.loop-left.end c.args.saved.now in
    let out = c.tear.new.bytes.items in
    on_ok c.tear.result _ _
    (λ torn. c.loop-left.invariant.leads out
    (subst (λ (l : List Change). IsLeft c.args.bank l c.loop-left.bytes.items saved out) (sym newest)
    (cut_short c.args.bank w (reverse (take k changes)) c.loop-left.bytes.items saved out same
    (subst (λ (l : List Change). IsAt c.args.bank l c.loop-left.bytes.items saved) newest c.loop-left.invariant.at)
    torn)))
    c.tear.ensures.torn
