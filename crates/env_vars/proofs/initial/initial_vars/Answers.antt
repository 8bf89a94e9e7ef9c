use Rattle.std.proofs.Common.{◌≡◌, ◌∙◌, ap, refl, List, []}
use Rattle.env_vars.specs.Vars.{Var, put_all}
use Rattle.env_vars.specs.Initial.{text_vars, word_vars, list_vars, initial_vars}
use Rattle.env_vars.proofs.initial.initial_vars.Goals as goal

-- no name stands twice in the table
table : put_all (put_all (put_all [] text_vars) word_vars) list_vars ≡ initial_vars
table = refl

whole : (start texts words lists : List Var) → start ≡ [] → texts ≡ put_all start text_vars → words ≡ put_all texts word_vars → lists ≡ put_all words list_vars → lists ≡ initial_vars
whole start texts words lists s t w l =
    l ∙ ap (λ v. put_all v list_vars) (w ∙ ap (λ v. put_all v word_vars) (t ∙ ap (λ v. put_all v text_vars) s)) ∙ table

pub returns : goal.returns
returns c =
    whole c.new-vars.result c.put_texts.new.vars c.put_words.new.vars c.put_lists.new.vars c.new-vars.ensures
    (c.in_ok-put_texts.ensures {u = tt}) (c.in_ok-put_words.ensures {u = tt}) (c.in_ok-put_lists.ensures {u = tt})
