-- Lines, cut one after another.
use Rattle.std.proofs.Common.{◌≡◌, ◌==◌, ◌∙◌, ap, sym, ℕ, List, [], ◌∷◌, ◌++◌, Option, Some, None, Bor, lit<, map, append_assoc}
use Rattle.std.proofs.lemmas.List.Sums.{fails_before_first}
use Rattle.std.proofs.lemmas.List.Splits.{slice_split_first, slice_split_none}
use Rattle.std.proofs.lemmas.Str.Pattern.{IsSplitOnceResult, split_once_first}
use Rattle.env_pieces.specs.declared.form.Mode.{Mode}
use Rattle.env_pieces.specs.Lines.{line_form, lines_in}

lines_first : (m : Mode) (rest : List ℕ) (r : Option (Bor (List ℕ) × Bor (List ℕ))) (x : Bor (List ℕ) × Bor (List ℕ))
    → IsSplitOnceResult 10 rest r → r ≡ Some x → lines_in m rest ≡ line_form m x.0.now ∷ lines_in m x.1.now
lines_first m rest r x h e =
    let k = split_once_first 10 rest (Some x) (rw e at h) (lit< tt) in
    rw (k.1, k.2) (ap (map (line_form m)) (slice_split_first (λ b. b == 10) rest 0 k.0))

lines_last : (m : Mode) (rest : List ℕ) (r : Option (Bor (List ℕ) × Bor (List ℕ))) → IsSplitOnceResult 10 rest r → r ≡ None → lines_in m rest ≡ line_form m rest ∷ []
lines_last m rest r h e =
    let k = split_once_first 10 rest None (rw e at h) (lit< tt) in
    ap (map (line_form m)) (slice_split_none (λ b. b == 10) rest (λ i d l. fails_before_first (λ b. b == 10) rest i d (rw k l)))

pub lines_step : (m : Mode) (old new whole : List (List ℕ)) (rest form : List ℕ) (r : Option (Bor (List ℕ) × Bor (List ℕ))) (x : Bor (List ℕ) × Bor (List ℕ))
    → IsSplitOnceResult 10 rest r → r ≡ Some x → form ≡ line_form m x.0.now → new ≡ old ++ form ∷ [] → old ++ lines_in m rest ≡ whole → new ++ lines_in m x.1.now ≡ whole
lines_step m old new whole rest form r x h e f n inv =
    ap (λ l. l ++ lines_in m x.1.now) (n ∙ ap (λ y. old ++ y ∷ []) f)
    ∙ append_assoc old (line_form m x.0.now ∷ []) (lines_in m x.1.now)
    ∙ ap (λ l. old ++ l) (sym (lines_first m rest r x h e))
    ∙ inv

pub lines_end : (m : Mode) (old new whole : List (List ℕ)) (rest form : List ℕ) (r : Option (Bor (List ℕ) × Bor (List ℕ)))
    → IsSplitOnceResult 10 rest r → r ≡ None → form ≡ line_form m rest → new ≡ old ++ form ∷ [] → old ++ lines_in m rest ≡ whole → new ≡ whole
lines_end m old new whole rest form r h e f n inv =
    n ∙ ap (λ y. old ++ y ∷ []) f ∙ ap (λ l. old ++ l) (sym (lines_last m rest r h e)) ∙ inv
