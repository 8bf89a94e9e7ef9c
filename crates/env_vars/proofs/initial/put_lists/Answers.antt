use Rattle.std.proofs.Common.{◌∙◌, List, [], ℕ, Bor}
use Rattle.env_vars.specs.declared.value.EnvValue.TheVariants as value
use Rattle.env_vars.proofs.VarLemmas.{row_more}
use Rattle.env_vars.proofs.initial.put_lists.Goals as goal

pub loop-name-preserved : goal.loop-name-preserved
loop-name-preserved c =
    let d : Bor (List ℕ) = record { ref_ptr = (0, 0); now = [] } in
    let name = (c.in_ok-from_str.ensures {u = tt}).ok in
    let empty = c.new-in-loop-name.ensures ∙ c.new.ensures.items in
    row_more (λ n. (n.now, value.List [])) c.args.names.now c.loop-name.name-index d c.args.vars.now c.loop-name.vars c.put.new.self _
    c.loop-name-test.true (λ j. (name j, value.List (empty j))) c.loop-name.invariant (c.in_ok-put.ensures {u = tt}).ok
