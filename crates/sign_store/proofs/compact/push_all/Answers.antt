use Rattle.std.proofs.Common.{◌++◌, List, ℕ, sym, ap, ◌∙◌, append_assoc}
use Rattle.std.proofs.lemmas.List.{append-nil}
use Rattle.sign_store.specs.Compacts.{entries_at, entries_up_to}
use Rattle.sign_store.proofs.CompactLemmas.{next_up_to}
use Rattle.sign_store.proofs.compact.push_all.Goals as goal

pub loop-number-init : goal.loop-number-init
unfolding entries_up_to
loop-number-init c = λ ordered. sym (append-nil c.args.form.now.items)

pub loop-number-preserved : goal.loop-number-preserved
loop-number-preserved c = λ ordered.
    c.in_ok-push_entries.ensures ordered ∙ ap (λ (x : List ℕ). x ++ entries_at c.args.map.now c.loop-number.number) (c.loop-number.invariant ordered)
    ∙ append_assoc c.args.form.now.items (entries_up_to c.args.map.now c.loop-number.number) (entries_at c.args.map.now c.loop-number.number)
    ∙ ap (λ (x : List ℕ). c.args.form.now.items ++ x) (sym (next_up_to c.args.map.now c.loop-number.number))
