-- What a call gives that calls nothing in its turn.
use Rattle.std.proofs.Common.{◌≡◌, ◌≢◌, ℕ, List, [], Result, Ok, Err, refl, sym, subst}
use Rattle.py_heap.specs.declared.value.Value.{Value}
use Rattle.py_heap.specs.declared.value.Value.TheVariants as v
use Rattle.py_heap.specs.declared.value.Builtin.{Builtin}
use Rattle.py_heap.specs.declared.value.Builtin.TheVariants as builtin
use Rattle.py_heap.specs.declared.fault.ValueFault.{ValueFault}
use Rattle.py_heap.specs.declared.fault.ValueFault.TheVariants as fault
use Rattle.py_heap.specs.Units.{Units}
use Rattle.py_builtins.specs.Builtins.{builtin_of}
use Rattle.py_host.specs.declared.refusal.HostRefusal.{HostRefusal}
use Rattle.py_host.specs.declared.refusal.HostRefusal.TheVariants as refusal
use Rattle.py_host.specs.Calls.{answers, refuses}
use Rattle.py_host.specs.Meaning.{Meaning}
use Rattle.py_meaning.specs.States.{State, gives, with_units, place_at}
use Rattle.py_meaning.specs.Jobs.{a_value}
use Rattle.py_meaning.specs.Plans.{Plan, value, checked, made, prints}
use Rattle.py_meaning.specs.Calls.{printed, plan_perform}
use Rattle.py_meaning.specs.Evaluates.{Follows, done, stopped, print_refused}
use Rattle.py_meaning.specs.Evaluates as follows
use Rattle.py_state.specs.Stops.{value_stop, refusal_stop}
use Rattle.py_state.specs.declared.stop.Stop.{Stop}
use Rattle.py_state.specs.declared.stop.Stop.TheVariants as stop
use Rattle.py_eval.specs.Bodies.{Halts, GivesOrHalts, GivesAlone}

-- the host has no part in it
pub gives_alone : {H : Type 0} (m : Meaning H) (c : ℕ) (p : Plan) (r : Result Value Stop) (s : State) (h : H) → GivesAlone p r s → GivesOrHalts m c p h r s h
gives_alone m c p (Ok x) s h e = subst (λ y. Follows m c y h (Ok (gives x s)) h) (sym e) done
gives_alone m c p (Err (stop.Fault script line k)) s h g = subst (λ y. GivesOrHalts m c y h (Err (stop.Fault script line k)) s h) (sym g.1) (stopped g.0)
gives_alone m c p (Err stop.End) s h g = absurd g
gives_alone m c p (Err stop.Memory) s h g = tt

-- a built-in function but `print`
not_print : (b : Builtin) (l : ℕ) (xs : List Value) (s : State) → (b ≡ builtin.Print → ⊥) → plan_perform l (a_value (v.Builtin b)) (record { positional = xs; named = [] }) s ≡ made l s (builtin_of s.objects s.units b xs)
not_print builtin.Print l xs s n = absurd (n refl)
not_print b l xs s n = refl

-- `print`: a fault of what is to be shown, the text printed, or the host's refusal
faulty_halts : {H X : Type 0} (m : Meaning H) (c l : ℕ) (s s1 : State) (f : X → Plan) (e : ValueFault) (h : H) → Halts m c (checked l s (Err e) f) h (value_stop s.frame.script l e) s1 h
faulty_halts m c l s s1 f fault.Memory h = tt
faulty_halts m c l s s1 f e h = stopped tt

told_halts : {H X : Type 0} (m : Meaning H) (c l : ℕ) (s s1 : State) (r : Result X ValueFault) (f : X → Plan) (e : ValueFault) (h : H) → (e ≢ fault.Memory → r ≡ Err e) → Halts m c (checked l s r f) h (value_stop s.frame.script l e) s1 h
told_halts m c l s s1 r f fault.Memory h w = tt
told_halts m c l s s1 r f e h w = subst (λ q. Halts m c (checked l s q f) h (value_stop s.frame.script l e) s1 h) (sym (w (λ p. cc))) (faulty_halts m c l s s1 f e h)

abbrev print_on : ℕ → State → Result (List ℕ × Units) ValueFault → Plan
print_on l s r = checked l s r (λ shown. prints shown.0 (place_at l s) (value v.Nil (with_units s shown.1)))

pub print_fails : {H : Type 0} (m : Meaning H) (c l : ℕ) (s s1 : State) (xs : List Value) (e : ValueFault) (x : Stop) (h : H) → (e ≢ fault.Memory → printed s.objects s.units xs ≡ Err e) → x ≡ value_stop s.frame.script l e → Halts m c (print_on l s (printed s.objects s.units xs)) h x s1 h
print_fails m c l s s1 xs e x h w p =
    subst (λ y. Halts m c (print_on l s (printed s.objects s.units xs)) h y s1 h) (sym p)
    (told_halts m c l s s1 (printed s.objects s.units xs) (λ shown. prints shown.0 (place_at l s) (value v.Nil (with_units s shown.1))) e h w)

pub print_done : {H : Type 0} (m : Meaning H) (c l : ℕ) (s s1 : State) (xs : List Value) (text bytes : List ℕ) (u : Units) (h h1 : H) → printed s.objects s.units xs ≡ Ok (bytes, u) → text ≡ bytes → s1 ≡ with_units s u → m.prints h text (answers tt) h1 → Follows m c (print_on l s (printed s.objects s.units xs)) h (Ok (gives v.Nil s1)) h1
print_done m c l s s1 xs text bytes u h h1 e f g x =
    subst (λ r. Follows m c (print_on l s r) h (Ok (gives v.Nil s1)) h1) (sym e)
    (follows.printed h1 (subst (λ t. m.prints h t (answers tt) h1) f x)
    (subst (λ y. Follows m c (value v.Nil (with_units s u)) h1 (Ok (gives v.Nil y)) h1) (sym g) done))

refusal_halts : {H : Type 0} (m : Meaning H) (c l : ℕ) (s s1 : State) (text : List ℕ) (u : Units) (e : HostRefusal) (h h1 : H) → (e ≡ refusal.Host → m.prints h text refuses h1) → Halts m c (print_on l s (Ok (text, u))) h (refusal_stop s.frame.script l e) s1 h1
refusal_halts m c l s s1 text u refusal.Host h h1 x = print_refused (x refl)
refusal_halts m c l s s1 text u refusal.Memory h h1 x = tt

pub print_not_done : {H : Type 0} (m : Meaning H) (c l : ℕ) (s s1 : State) (xs : List Value) (text bytes : List ℕ) (u : Units) (e : HostRefusal) (y : Stop) (h h1 : H) → printed s.objects s.units xs ≡ Ok (bytes, u) → text ≡ bytes → (e ≡ refusal.Host → m.prints h text refuses h1) → y ≡ refusal_stop s.frame.script l e → Halts m c (print_on l s (printed s.objects s.units xs)) h y s1 h1
print_not_done m c l s s1 xs text bytes u e y h h1 p f x q =
    subst (λ r. Halts m c (print_on l s r) h y s1 h1) (sym p)
    (subst (λ z. Halts m c (print_on l s (Ok (bytes, u))) h z s1 h1) (sym q)
    (refusal_halts m c l s s1 bytes u e h h1 (λ i. subst (λ t. m.prints h t refuses h1) f (x i))))

pub builtin_gives : {H : Type 0} (m : Meaning H) (c : ℕ) (b : Builtin) (l : ℕ) (xs : List Value) (s s1 : State) (r : Result Value Stop) (h : H) → (b ≡ builtin.Print → ⊥) → GivesAlone (made l s (builtin_of s.objects s.units b xs)) r s1 → GivesOrHalts m c (plan_perform l (a_value (v.Builtin b)) (record { positional = xs; named = [] }) s) h r s1 h
builtin_gives m c b l xs s s1 r h n g =
    subst (λ p. GivesOrHalts m c p h r s1 h) (sym (not_print b l xs s n)) (gives_alone m c (made l s (builtin_of s.objects s.units b xs)) r s1 h g)
