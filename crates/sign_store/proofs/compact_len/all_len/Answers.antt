use Rattle.std.proofs.Common.{◌∙◌, List, ℕ, ◌-◌, ◌^◌, length, min, sym, ap}
use Rattle.sign_store.proofs.LenLemmas.{none_up_to, sum_on}
use Rattle.sign_store.proofs.compact_len.all_len.Goals as goal

pub loop-number-init : goal.loop-number-init
loop-number-init c = ap (λ (x : List ℕ). min (length x) (2 ^ 64 - 1)) (sym (none_up_to c.args.map.now))

pub loop-number-preserved : goal.loop-number-preserved
loop-number-preserved c = c.saturating_add-len.ensures ∙ sum_on c.args.map.now c.loop-number.number c.loop-number.len c.entries_len.result c.loop-number.invariant c.entries_len.ensures
