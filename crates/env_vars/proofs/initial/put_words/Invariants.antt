use Rattle.std.proofs.Common.{◌≡◌, [], ◌∷◌, map, take, filter}
use Rattle.env_vars.specs.declared.value.EnvValue.TheVariants as value
use Rattle.env_vars.specs.Vars.{put_all}
use Rattle.env_text.specs.White.{is_word}
use Rattle.env_vars.proofs.initial.put_words.Given as goal

abbrev pub invariant-loop-name : goal.invariant-loop-name
invariant-loop-name l = l.vars ≡ put_all l.initial.vars (take l.name-index (map (λ row. (row.0.now, value.Words (filter is_word (row.1.now ∷ [])))) l.rows))
