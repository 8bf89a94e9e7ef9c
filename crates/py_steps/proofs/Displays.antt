-- The displays: what they make of the values above a height.
use Rattle.std.proofs.Common.{◌≡◌, ◌≢◌, ◌∙◌, ℕ, Bool, true, false, List, [], ◌∷◌, Option, Some, None, Result, Ok, Err, length, refl, sym, subst, ap}
use Rattle.std.specs.Prelude.{nat_le}
use Rattle.std.proofs.lemmas.List.{get_or_push}
use Rattle.py_heap.specs.declared.value.Value.{Value}
use Rattle.py_heap.specs.declared.value.Value.TheVariants as v
use Rattle.py_heap.specs.declared.ids.DictId.{DictId}
use Rattle.py_heap.specs.declared.fault.ValueFault.{ValueFault}
use Rattle.py_heap.specs.declared.fault.ValueFault.TheVariants as fault
use Rattle.py_heap.specs.Heap.{Objects, Entries, dict_at, with_dict}
use Rattle.py_heap.specs.Given.{given_dict, next_dict, with_pairs, unkeyed}
use Rattle.scons_base.specs.declared.limits.TheConstants.{LIST_LIMIT}
use Rattle.py_heap.specs.Units.{Units, room, limited, told_length}
use Rattle.py_meaning.specs.Plans.{Plan}
use Rattle.py_meaning.specs.States.{Frame, goes_on, after_operation}
use Rattle.py_meaning.specs.Expressions.{displayed, paired}
use Rattle.py_state.specs.Stops.{value_stop}
use Rattle.py_state.specs.Stores.{state_of}
use Rattle.py_state.specs.declared.machine.Machine.{Machine}
use Rattle.py_state.specs.declared.stop.Stop.{Stop}
use Rattle.py_steps.specs.Desks.{Stacks, stacks_of, tasks_of, values_of, above, under}
use Rattle.py_steps.specs.Leads.{Unfolds, Steps, left_with}
use Rattle.py_steps.specs.Shapes.{task_of, display_of}
use Rattle.py_steps.specs.Todos.{left, made_on}
use Rattle.py_steps.specs.declared.desk.Desk.{Desk}
use Rattle.py_steps.specs.declared.expressions.Shape.{Shape}
use Rattle.py_steps.specs.declared.expressions.Shape.TheVariants as shape
use Rattle.py_steps.proofs.Going.{given, made_comes, made_stops}
use Rattle.py_steps.proofs.Stepping.{steps_value}

-- a display is made of the values above a height
display_is : (k : Shape) (l base : ℕ) (d : Desk) (m : Machine) (f : Frame) → left_with (task_of k l base) d m f ≡ made_on l (state_of m f) (display_of k m.heap m.budget (above base (values_of d))) (under base (values_of d)) (left (tasks_of d))
display_is shape.Tuple l base d m f = refl
display_is shape.List l base d m f = refl
display_is shape.Dict l base d m f = refl

pub display_goes : (k : Shape) (l base : ℕ) (d d1 d2 : Desk) (m : Machine) (f : Frame) (xs ys : List Value) (x : Value) (h : Objects) (u : Units) → xs ≡ above base (values_of d) → stacks_of d1 ≡ record { tasks = tasks_of d; values = under base (values_of d) } → ys ≡ xs → display_of k m.heap m.budget ys ≡ Ok (x, h, u) → stacks_of d2 ≡ record { tasks = tasks_of d1; values = x ∷ values_of d1 } →
    Unfolds (left_with (task_of k l base) d m f) (left (tasks_of d2) (values_of d2) (goes_on (after_operation (state_of m f) (x, h, u))))
display_goes k l base d d1 d2 m f xs ys x h u e a i g b =
    let s = state_of m f in
    let q = left (tasks_of d2) (values_of d2) (goes_on (after_operation s (x, h, u))) in
    subst (λ p. Unfolds p q) (sym (display_is k l base d m f))
    (made_comes l s (display_of k m.heap m.budget (above base (values_of d))) (x, h, u) (under base (values_of d)) (left (tasks_of d)) q
    (ap (display_of k m.heap m.budget) (sym (i ∙ e)) ∙ g)
    (given d1 d2 x (after_operation s (x, h, u)) b ∙ ap (λ (st : Stacks). left st.tasks (x ∷ st.values) (goes_on (after_operation s (x, h, u)))) a))

pub display_stops : (X : Type 0) (k : Shape) (l base : ℕ) (d : Desk) (m : Machine) (f : Frame) (xs ys : List Value) (e : ValueFault) (stop : Stop) (q : Plan) → xs ≡ above base (values_of d) → ys ≡ xs → (e ≢ fault.Memory → display_of k m.heap m.budget ys ≡ Err e) → stop ≡ value_stop f.script l e → Steps {X = X} (left_with (task_of k l base) d m f) (Err stop) q
display_stops X k l base d m f xs ys e stop q a i g b =
    let s = state_of m f in
    subst (λ z. Steps {X = X} (left_with (task_of k l base) d m f) (Err z) q) (sym b)
    (subst (λ p. Steps {X = X} p (Err (value_stop f.script l e)) q) (sym (display_is k l base d m f))
    (steps_value X _ q l s e (λ w. made_stops l s (display_of k m.heap m.budget (above base (values_of d))) e (under base (values_of d)) (left (tasks_of d))
    (ap (display_of k m.heap m.budget) (sym (i ∙ a)) ∙ g w))))

-- what has no room within the limit has none in units
pub no_room : {X : Type 0} (limit n : ℕ) (x : X) (u : Units) (e : ValueFault) → limited limit n x ≡ Err e → room limit u n ≡ Err e
unfolding limited room
no_room limit n x u e h = by (nat_le n limit) refl
  where
    by : (b : Bool) → nat_le n limit ≡ b → room limit u n ≡ Err e
    by true t = let g = rw t at h in absurd cc
    by false t =
        let g = rw t at h in
        let same : fault.TooBig (told_length n) ≡ e = cc in
        rw t (ap (λ z. Err z) same)

pub within : {X : Type 0} (limit n : ℕ) (x y : X) → limited limit n x ≡ Ok y → x ≡ y
unfolding limited
within limit n x y h = by (nat_le n limit) refl
  where
    by : (b : Bool) → nat_le n limit ≡ b → x ≡ y
    by true t = let g = rw t at h in cc
    by false t = let g = rw t at h in absurd cc

-- a dict that can't be made
pub dict_unmade : (h : Objects) (u : Units) (ps : List (Value × Value)) (xs : List Value) (e : ValueFault) → ps ≡ paired xs → given_dict h ps ≡ Err e → displayed h u xs ≡ Err e
dict_unmade h u ps xs e p g = by (with_pairs h [] (paired xs)) refl
  where
    told : given_dict h (paired xs) ≡ Err e
    told = ap (given_dict h) (sym p) ∙ g

    by : (o : Option Entries) → with_pairs h [] (paired xs) ≡ o → displayed h u xs ≡ Err e
    by None t =
        let w = rw t at told in
        let same : fault.KeyKind (unkeyed h (paired xs)) ≡ e = cc in
        rw t (ap (λ z. Err z) same)
    by (Some es) t =
        let w = rw t at told in
        rw (t, no_room LIST_LIMIT (length es) (next_dict h, with_dict h es) u e w) refl

-- one that is made, and charged for then
abbrev pub DictMade : Objects → Objects → List Value → Value → Type 0
DictMade h h1 xs x = (es : Entries) × (with_pairs h [] (paired xs) ≡ Some es) × (x ≡ next_dict h) × (h1 ≡ with_dict h es)

dict_made : (h h1 : Objects) (ps : List (Value × Value)) (xs : List Value) (x : Value) → ps ≡ paired xs → given_dict h ps ≡ Ok (x, h1) → DictMade h h1 xs x
dict_made h h1 ps xs x p g = by (with_pairs h [] (paired xs)) refl
  where
    told : given_dict h (paired xs) ≡ Ok (x, h1)
    told = ap (given_dict h) (sym p) ∙ g

    by : (o : Option Entries) → with_pairs h [] (paired xs) ≡ o → DictMade h h1 xs x
    by None t = let w = rw t at told in absurd cc
    by (Some es) t =
        let w = rw t at told in
        let pair : (next_dict h, with_dict h es) ≡ (x, h1) = within LIST_LIMIT (length es) (next_dict h, with_dict h es) (x, h1) w in
        (es, t, sym (ap (λ (r : Value × Objects). r.0) pair), sym (ap (λ (r : Value × Objects). r.1) pair))

pub is_dict : (h h1 : Objects) (ps : List (Value × Value)) (xs : List Value) (x : Value) → ps ≡ paired xs → given_dict h ps ≡ Ok (x, h1) → x ≡ next_dict h
is_dict h h1 ps xs x p g = (dict_made h h1 ps xs x p g).2

-- its length is that of its entries
dict_length : (h h1 : Objects) (xs : List Value) (x : Value) (id : DictId) (w : DictMade h h1 xs x) → x ≡ v.Dict id → length (dict_at h1 id.0) ≡ length w.0
dict_length h h1 xs x id w e =
    let next : DictId = record { 0 = length h.dicts } in
    let is_next : v.Dict id ≡ v.Dict next = sym e ∙ w.2 in
    let same : id ≡ next = cc in
    ap (λ (o : Objects). length (dict_at o id.0)) w.3 ∙ ap (λ (i : DictId). length (dict_at (with_dict h w.0) i.0)) same ∙ ap length (get_or_push h.dicts w.0 [] (length h.dicts) refl)

room_of : (h h1 : Objects) (u : Units) (xs : List Value) (x : Value) (id : DictId) (n : ℕ) (r : Result Units ValueFault) (w : DictMade h h1 xs x) → x ≡ v.Dict id → n ≡ length (dict_at h1 id.0) → room LIST_LIMIT u n ≡ r → room LIST_LIMIT u (length w.0) ≡ r
room_of h h1 u xs x id n r w d l e = ap (room LIST_LIMIT u) (sym (l ∙ dict_length h h1 xs x id w d)) ∙ e

unpaid_by : (h : Objects) (u : Units) (xs : List Value) (es : Entries) (e : ValueFault) → with_pairs h [] (paired xs) ≡ Some es → room LIST_LIMIT u (length es) ≡ Err e → displayed h u xs ≡ Err e
unpaid_by h u xs es e t r = rw (t, r) refl

pub dict_unpaid : (h h1 : Objects) (u : Units) (ps : List (Value × Value)) (xs : List Value) (x : Value) (id : DictId) (n : ℕ) (e : ValueFault) → ps ≡ paired xs → given_dict h ps ≡ Ok (x, h1) → x ≡ v.Dict id → n ≡ length (dict_at h1 id.0) → room LIST_LIMIT u n ≡ Err e → displayed h u xs ≡ Err e
dict_unpaid h h1 u ps xs x id n e p g d l r =
    let w = dict_made h h1 ps xs x p g in
    unpaid_by h u xs w.0 e w.1 (room_of h h1 u xs x id n (Err e) w d l r)

paid_by : (h h1 : Objects) (u u1 : Units) (xs : List Value) (x : Value) (es : Entries) → with_pairs h [] (paired xs) ≡ Some es → room LIST_LIMIT u (length es) ≡ Ok u1 → x ≡ next_dict h → h1 ≡ with_dict h es → displayed h u xs ≡ Ok (x, h1, u1)
paid_by h h1 u u1 xs x es t r a b = rw (t, r, a, b) refl

pub dict_paid : (h h1 : Objects) (u u1 : Units) (ps : List (Value × Value)) (xs : List Value) (x : Value) (id : DictId) (n : ℕ) → ps ≡ paired xs → given_dict h ps ≡ Ok (x, h1) → x ≡ v.Dict id → n ≡ length (dict_at h1 id.0) → room LIST_LIMIT u n ≡ Ok u1 → displayed h u xs ≡ Ok (v.Dict id, h1, u1)
dict_paid h h1 u u1 ps xs x id n p g d l r =
    let w = dict_made h h1 ps xs x p g in
    paid_by h h1 u u1 xs (v.Dict id) w.0 w.1 (room_of h h1 u xs x id n (Ok u1) w d l r) (sym d ∙ w.2) w.3
