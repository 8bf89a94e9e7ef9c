-- The innermost loop among the tasks: where a stack of tasks, the uppermost last, has it on top, and where it has nothing.
use Rattle.std.proofs.Common.{arith, ◌≡◌, ◌∙◌, ◌<◌, ◌-◌, List, [], ◌∷◌, ◌++◌, true, false, cond, Option, Some, None, length, get_or, slice_get, reverse, ap, sym, refl, subst}
use Rattle.std.proofs.lemmas.List.{reverse-append, length-reverse, get_or-reverse, nil_from_length}
use Rattle.std.proofs.lemmas.Option.{slice_get-get_or, slice_get_within, get_or_from_slice_get}
use Rattle.py_heap.specs.declared.value.Value.{Value}
use Rattle.py_steps.specs.Desks.{Stacks, is_loop, in_loop, past_loop}
use Rattle.py_steps.specs.declared.task.Task.{Task}

abbrev pub stacks : List Task → List Value → Stacks
stacks ts vs = record { tasks = ts; values = vs }

pub stacks_are : (ts us : List Task) (vs ws : List Value) → ts ≡ us → vs ≡ ws → stacks ts vs ≡ stacks us ws
stacks_are ts us vs ws e f = ap (λ x. stacks x vs) e ∙ ap (λ x. stacks us x) f

-- the loop that is taken from the top is left, another task is passed over, and with no task there is none
pub loop_taken : (xs rest old : List Task) (t : Task) → past_loop (reverse xs) ≡ past_loop (reverse old) → xs ≡ rest ++ t ∷ [] → is_loop t ≡ true → reverse rest ≡ past_loop (reverse old)
loop_taken xs rest old t i e g =
    sym (ap (λ ys. past_loop (reverse ys)) e ∙ ap past_loop (reverse-append rest (t ∷ [])) ∙ ap (λ b. cond b (reverse rest) (past_loop (reverse rest))) g) ∙ i

pub other_taken : (xs rest old : List Task) (t : Task) → past_loop (reverse xs) ≡ past_loop (reverse old) → xs ≡ rest ++ t ∷ [] → is_loop t ≡ false → past_loop (reverse rest) ≡ past_loop (reverse old)
other_taken xs rest old t i e g =
    sym (ap (λ ys. past_loop (reverse ys)) e ∙ ap past_loop (reverse-append rest (t ∷ [])) ∙ ap (λ b. cond b (reverse rest) (past_loop (reverse rest))) g) ∙ i

pub none_taken : (xs rest old : List Task) → past_loop (reverse xs) ≡ past_loop (reverse old) → length xs ≡ 0 → length rest ≡ 0 → reverse rest ≡ past_loop (reverse old)
none_taken xs rest old i e g = ap reverse (nil_from_length rest g) ∙ sym (ap (λ ys. past_loop (reverse ys)) (nil_from_length xs e)) ∙ i

-- what is seen on top
seen_on_top : (xs ys : List Task) (t : Task) → ys ≡ xs → Some t ≡ slice_get ys (length ys - 1) → (0 < length (reverse xs)) × (get_or (reverse xs) 0 t ≡ t)
seen_on_top xs ys t e g =
    let there : slice_get xs (length xs - 1) ≡ Some t = sym (g ∙ ap (λ (zs : List Task). slice_get zs (length zs - 1)) e) in
    let some : length xs - 1 < length xs = slice_get_within xs (length xs - 1) t there in
    let top : get_or (reverse xs) 0 t ≡ t = get_or-reverse xs 0 t (omega arith) ∙ ap (λ n. get_or xs n t) (omega arith) ∙ get_or_from_slice_get xs (length xs - 1) t t there in
    (omega (arith, length-reverse xs), top)

loop_on_top : (ys : List Task) (t : Task) → 0 < length ys → get_or ys 0 t ≡ t → is_loop t ≡ true → in_loop ys ≡ ys
loop_on_top [] t p e g = absurd (omega arith)
loop_on_top (y ∷ ys) t p e g = ap (λ b. cond b (y ∷ ys) (in_loop ys)) (ap is_loop e ∙ g)

-- the loop that is seen on top stays, and another task that is seen there is passed over
pub loop_seen : (xs ys old : List Task) (t : Task) → in_loop (reverse xs) ≡ in_loop (reverse old) → ys ≡ xs → Some t ≡ slice_get ys (length ys - 1) → is_loop t ≡ true → reverse xs ≡ in_loop (reverse old)
loop_seen xs ys old t i e g h =
    let seen = seen_on_top xs ys t e g in
    sym (loop_on_top (reverse xs) t seen.0 seen.1 h) ∙ i

pub other_seen : (xs ys rest old : List Task) (t u : Task) → in_loop (reverse xs) ≡ in_loop (reverse old) → ys ≡ xs → Some t ≡ slice_get ys (length ys - 1) → is_loop t ≡ false → xs ≡ rest ++ u ∷ [] → in_loop (reverse rest) ≡ in_loop (reverse old)
other_seen xs ys rest old t u i e g h w =
    let parts : reverse xs ≡ u ∷ reverse rest = ap reverse w ∙ reverse-append rest (u ∷ []) in
    let same : u ≡ t = sym (ap (λ (zs : List Task). get_or zs 0 t) parts) ∙ (seen_on_top xs ys t e g).1 in
    sym (ap in_loop parts ∙ ap (λ b. cond b (u ∷ reverse rest) (in_loop (reverse rest))) (ap is_loop same ∙ h)) ∙ i

no_last : (xs : List Task) → None ≡ slice_get xs (length xs - 1) → reverse xs ≡ in_loop (reverse xs)
no_last [] e = refl
no_last (x ∷ xs) e =
    let there : slice_get (x ∷ xs) (length (x ∷ xs) - 1) ≡ Some (get_or (x ∷ xs) (length (x ∷ xs) - 1) x) = slice_get-get_or (x ∷ xs) (length (x ∷ xs) - 1) x (omega arith) in
    absurd (none_some (e ∙ there))
  where
    none_some : {t : Task} → (let o : Option Task = None in o ≡ Some t) → ⊥
    none_some p = cc

pub none_seen : (xs ys old : List Task) → in_loop (reverse xs) ≡ in_loop (reverse old) → ys ≡ xs → None ≡ slice_get ys (length ys - 1) → reverse xs ≡ in_loop (reverse old)
none_seen xs ys old i e g = no_last xs (g ∙ ap (λ zs. slice_get zs (length zs - 1)) e) ∙ i
