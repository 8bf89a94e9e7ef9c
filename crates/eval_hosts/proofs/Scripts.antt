-- Scripts that are taken from the end of a list.
use Rattle.std.proofs.Common.{arith, ◌≡◌, ◌∙◌, ◌<◌, ℕ, List, [], ◌∷◌, ◌++◌, Option, Some, None, map, length, reverse, ap, sym, refl, append-nil, true≢false}
use Rattle.std.specs.Prelude.{option_to_list, IsSome}
use Rattle.std.proofs.lemmas.List.{map-append, reverse-append}
use Rattle.py_tree.specs.declared.line.Script.{Script}
use Rattle.py_tree.specs.Tree.{Tree, script_tree}
use Rattle.py_host.specs.Calls.{tree_of}
use Rattle.eval_hosts.specs.Replying.{next_of, left_of}

last_first : (new : List Script) (s : Script) → reverse (map script_tree (new ++ s ∷ [])) ≡ script_tree s ∷ reverse (map script_tree new)
last_first new s = ap reverse (map-append script_tree new (s ∷ [])) ∙ reverse-append (map script_tree new) (script_tree s ∷ [])

empty_by : (xs : List Script) → (0 < length xs → ⊥) → xs ≡ []
empty_by [] f = refl
empty_by (x ∷ xs) f = absurd (f (omega arith))

pub next_taken : (old new : List Script) (r : Option Script) → old ≡ new ++ option_to_list r → (0 < length old → IsSome r) → tree_of r ≡ next_of (reverse (map script_tree old))
next_taken old new (Some s) e v = ap next_of (sym (ap (λ xs. reverse (map script_tree xs)) e ∙ last_first new s))
next_taken old new None e v = ap (λ xs. next_of (reverse (map script_tree xs))) (sym (empty_by old (λ l. true≢false (sym (v l)))))

left_empty : (old new : List Script) → old ≡ new ++ [] → old ≡ [] → reverse (map script_tree new) ≡ left_of (reverse (map script_tree old))
left_empty old new e f = ap (λ xs. reverse (map script_tree xs)) (sym (append-nil new) ∙ sym e ∙ f) ∙ ap (λ xs. left_of (reverse (map script_tree xs))) (sym f)

pub left_taken : (old new : List Script) (r : Option Script) → old ≡ new ++ option_to_list r → (0 < length old → IsSome r) → reverse (map script_tree new) ≡ left_of (reverse (map script_tree old))
left_taken old new (Some s) e v = ap left_of (sym (ap (λ xs. reverse (map script_tree xs)) e ∙ last_first new s))
left_taken old new None e v = left_empty old new e (empty_by old (λ l. true≢false (sym (v l))))
