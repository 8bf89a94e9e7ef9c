-- An environment and those behind it, one after another.
use Rattle.std.proofs.Common.{arith, ◌≡◌, ◌≢◌, ◌≤◌, ◌<◌, ◌∙◌, ℕ, ◌+◌, ◌-◌, List, [], ◌∷◌, ap, sym, refl, length, map, drop, get_or, Some, None, false, ◌==◌}
use Rattle.std.proofs.lemmas.Bool.{eqb-false}
use Rattle.std.specs.Prelude.{slice_get}
use Rattle.std.proofs.lemmas.List.{length-map, get_or-map, drop_more}
use Rattle.scons_base.specs.declared.ids.EnvId.{EnvId}
use Rattle.env_vars.specs.declared.value.EnvValue.{EnvValue}
use Rattle.env_vars.specs.Vars.{Var, value_at, put_all}
use Rattle.env_vars.specs.Envs.{Scope, own_of, or_else, first_value, flattened, copied}

abbrev numbers : List EnvId → List ℕ
numbers ids = map (λ id. id.0) ids

-- the numbers from a place on
numbers_from : (ids : List EnvId) (i : ℕ) (d : EnvId) → i < length ids → drop i (numbers ids) ≡ (get_or ids i d).0 ∷ drop (i + 1) (numbers ids)
numbers_from ids i d l = drop_more (numbers ids) i 0 (omega (arith, length-map ids (λ (id : EnvId). id.0))) ∙ ap (λ n. n ∷ drop (i + 1) (numbers ids)) (get_or-map (λ (id : EnvId). id.0) ids i d 0 l)

pub first_found : (envs : List Scope) (ids : List EnvId) (i : ℕ) (d : EnvId) (name : List ℕ) (v : EnvValue) → i < length ids → value_at (own_of envs (get_or ids i d).0) name ≡ Some v
    → first_value envs (drop i (numbers ids)) name ≡ first_value envs (numbers ids) name → Some v ≡ first_value envs (numbers ids) name
first_found envs ids i d name v l own rest =
    sym (ap (λ n. first_value envs n name) (numbers_from ids i d l) ∙ ap (λ o. or_else o (first_value envs (drop (i + 1) (numbers ids)) name)) own) ∙ rest

pub first_passed : (envs : List Scope) (ids : List EnvId) (i : ℕ) (d : EnvId) (name : List ℕ) → i < length ids → value_at (own_of envs (get_or ids i d).0) name ≡ None
    → first_value envs (drop i (numbers ids)) name ≡ first_value envs (numbers ids) name → first_value envs (drop (i + 1) (numbers ids)) name ≡ first_value envs (numbers ids) name
first_passed envs ids i d name l own rest =
    sym (ap (λ n. first_value envs n name) (numbers_from ids i d l) ∙ ap (λ o. or_else o (first_value envs (drop (i + 1) (numbers ids)) name)) own) ∙ rest

pub flattened_more : (envs : List Scope) (ids : List EnvId) (left : ℕ) (d : EnvId) (vars new : List Var) → 0 < left → left ≤ length ids → vars ≡ flattened envs (drop left (numbers ids))
    → new ≡ put_all vars (own_of envs (get_or ids (left - 1) d).0) → new ≡ flattened envs (drop (left - 1) (numbers ids))
flattened_more envs ids left d vars new above low v n =
    let next : left - 1 + 1 ≡ left = omega arith in
    let more = rw next at (numbers_from ids (left - 1) d (omega arith)) in
    n ∙ ap (λ l. put_all l (own_of envs (get_or ids (left - 1) d).0)) v ∙ sym (ap (flattened envs) more)

pub copied_alone : (envs : List Scope) (id : ℕ) (scope : Scope) (ids : List ℕ) → slice_get envs id ≡ Some scope → ids ≡ scope.behind → length ids ≡ 0 → copied envs id ≡ scope.own
copied_alone envs id scope [] at b z = rw (at, ← b) (rw at refl)
copied_alone envs id scope (next ∷ ids) at b z = absurd (omega arith)

pub copied_chain : (envs : List Scope) (id : ℕ) (scope : Scope) (ids : List ℕ) (vars new : List Var) → slice_get envs id ≡ Some scope → ids ≡ scope.behind → length ids ≢ 0
    → vars ≡ flattened envs ids → new ≡ put_all vars scope.own → new ≡ copied envs id
copied_chain envs id scope [] vars new at b z v n = absurd (z refl)
copied_chain envs id scope (next ∷ ids) vars new at b z v n = rw (at, ← b) (n ∙ rw (v, at) refl)

pub still_full : (xs ys : List EnvId) (behind : List ℕ) → numbers xs ≡ behind → numbers ys ≡ behind → false ≡ (length xs == 0) → length (numbers ys) ≢ 0
still_full xs ys behind p q h z = eqb-false (length xs) 0 (sym h) (omega (arith, ap length (p ∙ sym q), length-map xs (λ (id : EnvId). id.0)))
