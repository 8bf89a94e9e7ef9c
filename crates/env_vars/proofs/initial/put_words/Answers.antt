use Rattle.std.proofs.Common.{List, [], ◌∷◌, ℕ, Bor, filter}
use Rattle.env_vars.specs.declared.value.EnvValue.TheVariants as value
use Rattle.env_text.specs.White.{is_word}
use Rattle.env_vars.proofs.VarLemmas.{row_more}
use Rattle.env_vars.proofs.initial.put_words.Goals as goal

pub loop-name-preserved : goal.loop-name-preserved
loop-name-preserved c =
    let d : Bor (List ℕ) = record { ref_ptr = (0, 0); now = [] } in
    let name = (c.in_ok-from_str.ensures {u = tt}).ok in
    let text = (c.in_ok-one_word.ensures {u = tt}) in
    row_more (λ n. (n.0.now, value.Words (filter is_word (n.1.now ∷ [])))) c.args.rows.now c.loop-name.name-index (d, d) c.args.vars.now c.loop-name.vars c.put.new.self _
    c.loop-name-test.true (λ j. (name j, value.Words (text j))) c.loop-name.invariant (c.in_ok-put.ensures {u = tt}).ok
