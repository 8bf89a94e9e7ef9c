-- A call that is begun, by what is called.
use Rattle.std.proofs.Common.{◌≡◌, ◌≢◌, ◌∙◌, ℕ, zero, suc, Bool, true, false, Option, Some, None, Result, Ok, Err, List, [], map, length, refl, sym, subst, ap}
use Rattle.std.specs.Prelude.{slice_get}
use Rattle.py_tree.specs.Tree.{trees, line_tree}
use Rattle.py_tree.specs.declared.line.Line.{Line}
use Rattle.py_heap.specs.declared.value.Value.{Value}
use Rattle.py_heap.specs.declared.value.Value.TheVariants as v
use Rattle.py_heap.specs.declared.value.Builtin.{Builtin}
use Rattle.py_heap.specs.declared.ids.FuncId.{FuncId}
use Rattle.py_heap.specs.declared.ids.HostId.{HostId}
use Rattle.py_methods.specs.Names.{takes as method_takes}
use Rattle.py_builtins.specs.Takes.{takes}
use Rattle.py_host.specs.Names.{Names}
use Rattle.py_host.specs.Calls.{Arguments}
use Rattle.py_host.specs.Meaning.{Meaning}
use Rattle.py_meaning.specs.declared.fault.EvalKind.TheVariants as kind
use Rattle.py_meaning.specs.declared.fault.Called.{Called}
use Rattle.py_meaning.specs.declared.fault.Called.TheVariants as named
use Rattle.py_meaning.specs.States.{State, Frame, Function, Out, gives, all_give, goes_on, breaks, continues, returns, ends, exits, with_frame, function_frame, place_at}
use Rattle.py_meaning.specs.Jobs.{Callee, a_value, a_method, perform, exec_all}
use Rattle.py_meaning.specs.Plans.{Plan}
use Rattle.py_meaning.specs.Arguments.{bound}
use Rattle.py_meaning.specs.Calls.{begun, plan_perform, plain_arguments}
use Rattle.py_meaning.specs.Evaluates.{Follows, plan, done, stopped, too_deep, called, called_stopped}
use Rattle.py_state.specs.Stores.{Store, state_by}
use Rattle.py_state.specs.declared.stop.Stop.{Stop}
use Rattle.py_state.specs.declared.stop.Stop.TheVariants as stop
use Rattle.py_steps.specs.Todos.{settled}
use Rattle.py_eval.specs.Bodies.{Halts, GivesOrHalts, EndsOrHalts}
use Rattle.py_eval.proofs.Halting.{gives_called}

-- what takes only plain arguments: a built-in function, or a method
abbrev pub IsPlain : Callee → Type 0
IsPlain (a_value (v.Builtin b)) = Unit {0}
IsPlain (a_method x n) = Unit {0}
IsPlain other = ⊥

-- whether it takes so many
abbrev pub taken_by : Callee → ℕ → Bool
taken_by (a_value (v.Builtin b)) count = takes b count
taken_by (a_method x n) count = method_takes n count
taken_by other count = false

-- its name
abbrev pub named_by : Callee → Called
named_by (a_value (v.Builtin b)) = named.Builtin b
named_by (a_method x n) = named.Method n
named_by other = named.Function []

abbrev fits : Callee → Arguments → Bool
fits x given = plain_arguments (taken_by x (length given.positional)) given

plain_args : {H : Type 0} (m : Meaning H) (c l : ℕ) (x : Callee) (i : IsPlain x) (given : Arguments) (s s1 : State) (h : H) → fits x given ≡ false → Halts m c (begun l x given s) h (stop.Fault s.frame.script l (kind.Args (named_by x))) s1 h
plain_args m c l (a_value (v.Builtin b)) i given s s1 h e = rw e (stopped tt)
plain_args m c l (a_method x n) i given s s1 h e = rw e (stopped tt)
plain_args m c l (a_value x) i given s s1 h e = absurd i

plain_depth : {H : Type 0} (m : Meaning H) (l : ℕ) (x : Callee) (i : IsPlain x) (given : Arguments) (s s1 : State) (h : H) → fits x given ≡ true → Halts m zero (begun l x given s) h (stop.Fault s.frame.script l kind.Depth) s1 h
plain_depth m l (a_value (v.Builtin b)) i given s s1 h e = rw e too_deep
plain_depth m l (a_method x n) i given s s1 h e = rw e too_deep
plain_depth m l (a_value x) i given s s1 h e = absurd i

plain_inside : {H : Type 0} (m : Meaning H) (c l : ℕ) (x : Callee) (i : IsPlain x) (given : Arguments) (s s1 : State) (h h1 : H) (r : Result Value Stop) → fits x given ≡ true → GivesOrHalts m c (plan_perform l x given s) h r s1 h1 → GivesOrHalts m (suc c) (begun l x given s) h r s1 h1
unfolding plan
plain_inside m c l (a_value (v.Builtin b)) i given s s1 h h1 r e d = rw e (gives_called m c (perform l (a_value (v.Builtin b)) given) s s1 (place_at l s) h h1 r d)
plain_inside m c l (a_method x n) i given s s1 h h1 r e d = rw e (gives_called m c (perform l (a_method x n) given) s s1 (place_at l s) h h1 r d)
plain_inside m c l (a_value x) i given s s1 h h1 r e d = absurd i

taken_as : (b taken : Bool) (x : Callee) (given : Arguments) → taken ≡ taken_by x (length given.positional) → plain_arguments taken given ≡ b → fits x given ≡ b
taken_as b taken x given t e = ap (λ y. plain_arguments y given) (sym t) ∙ e

-- its arguments don't fit, it is one call too deep, or it gives what its plan gives
pub plain_refused : {H : Type 0} (m : Meaning H) (c l : ℕ) (x : Callee) (i : IsPlain x) (given : Arguments) (s s1 : State) (h : H) (taken : Bool) (z : Stop) → taken ≡ taken_by x (length given.positional) → (plain_arguments taken given ≡ false) × (z ≡ stop.Fault s.frame.script l (kind.Args (named_by x))) → Halts m c (begun l x given s) h z s1 h
plain_refused m c l x i given s s1 h taken z t w =
    subst (λ y. Halts m c (begun l x given s) h y s1 h) (sym w.1) (plain_args m c l x i given s s1 h (taken_as false taken x given t w.0))

pub plain_too_deep : {H : Type 0} (m : Meaning H) (c l : ℕ) (x : Callee) (i : IsPlain x) (given : Arguments) (s s1 : State) (h : H) (taken : Bool) (z : Stop) → taken ≡ taken_by x (length given.positional) → plain_arguments taken given ≡ true → (c ≡ 0) × (z ≡ stop.Fault s.frame.script l kind.Depth) → Halts m c (begun l x given s) h z s1 h
plain_too_deep m c l x i given s s1 h taken z t e w =
    subst (λ y. Halts m c (begun l x given s) h y s1 h) (sym w.1)
    (subst (λ calls. Halts m calls (begun l x given s) h (stop.Fault s.frame.script l kind.Depth) s1 h) (sym w.0) (plain_depth m l x i given s s1 h (taken_as true taken x given t e)))

pub plain_gives : {H : Type 0} (m : Meaning H) (c c1 l : ℕ) (x : Callee) (i : IsPlain x) (given : Arguments) (s s1 : State) (h h1 : H) (taken : Bool) (r : Result Value Stop) → taken ≡ taken_by x (length given.positional) → plain_arguments taken given ≡ true → c ≡ suc c1 → GivesOrHalts m c1 (plan_perform l x given s) h r s1 h1 → GivesOrHalts m c (begun l x given s) h r s1 h1
plain_gives m c c1 l x i given s s1 h h1 taken r t e f d =
    subst (λ calls. GivesOrHalts m calls (begun l x given s) h r s1 h1) (sym f) (plain_inside m c1 l x i given s s1 h h1 r (taken_as true taken x given t e) d)

-- an object
object_depth : {H : Type 0} (m : Meaning H) (l : ℕ) (id : HostId) (given : Arguments) (s s1 : State) (h : H) → Halts m zero (begun l (a_value (v.Object id)) given s) h (stop.Fault s.frame.script l kind.Depth) s1 h
object_depth m l id given s s1 h = too_deep

pub object_too_deep : {H : Type 0} (m : Meaning H) (c l : ℕ) (id : HostId) (given : Arguments) (s s1 : State) (h : H) (z : Stop) → (c ≡ 0) × (z ≡ stop.Fault s.frame.script l kind.Depth) → Halts m c (begun l (a_value (v.Object id)) given s) h z s1 h
object_too_deep m c l id given s s1 h z w =
    subst (λ y. Halts m c (begun l (a_value (v.Object id)) given s) h y s1 h) (sym w.1)
    (subst (λ calls. Halts m calls (begun l (a_value (v.Object id)) given s) h (stop.Fault s.frame.script l kind.Depth) s1 h) (sym w.0) (object_depth m l id given s s1 h))

object_inside : {H : Type 0} (m : Meaning H) (c l : ℕ) (id : HostId) (given : Arguments) (s s1 : State) (h h1 : H) (r : Result Value Stop) → GivesOrHalts m c (plan_perform l (a_value (v.Object id)) given s) h r s1 h1 → GivesOrHalts m (suc c) (begun l (a_value (v.Object id)) given s) h r s1 h1
unfolding plan
object_inside m c l id given s s1 h h1 r d = gives_called m c (perform l (a_value (v.Object id)) given) s s1 (place_at l s) h h1 r d

pub object_gives : {H : Type 0} (m : Meaning H) (c i l : ℕ) (id : HostId) (given : Arguments) (s s1 : State) (h h1 : H) (r : Result Value Stop) → c ≡ suc i → GivesOrHalts m i (plan_perform l (a_value (v.Object id)) given s) h r s1 h1 → GivesOrHalts m c (begun l (a_value (v.Object id)) given s) h r s1 h1
object_gives m c i l id given s s1 h h1 r e d =
    subst (λ calls. GivesOrHalts m calls (begun l (a_value (v.Object id)) given s) h r s1 h1) (sym e) (object_inside m i l id given s s1 h h1 r d)

-- what can't be called
pub not_callable : {H : Type 0} (m : Meaning H) (c l : ℕ) (x : Value) (given : Arguments) (s s1 : State) (h : H) → ((id : FuncId) → x ≡ v.Func id → ⊥) → ((b : Builtin) → x ≡ v.Builtin b → ⊥) → ((id : HostId) → x ≡ v.Object id → ⊥) → Halts m c (begun l (a_value x) given s) h (stop.Fault s.frame.script l kind.NotCallable) s1 h
not_callable m c l (v.Func id) given s s1 h f b o = absurd (f id refl)
not_callable m c l (v.Builtin b') given s s1 h f b o = absurd (b b' refl)
not_callable m c l (v.Object id) given s s1 h f b o = absurd (o id refl)
not_callable m c l x given s s1 h f b o = stopped tt

-- a function: there is none, its arguments don't fit, it is one call too deep
pub no_function : {H : Type 0} (m : Meaning H) (c l : ℕ) (id : FuncId) (given : Arguments) (s s1 : State) (h : H) → slice_get s.functions id.0 ≡ None → Halts m c (begun l (a_value (v.Func id)) given s) h (stop.Fault s.frame.script l kind.NotCallable) s1 h
no_function m c l id given s s1 h e = rw e (stopped tt)

bound_not : {H : Type 0} (m : Meaning H) (c l : ℕ) (id : FuncId) (given : Arguments) (s s1 : State) (h : H) (f : Function) → slice_get s.functions id.0 ≡ Some f → bound f.parameters given ≡ None → Halts m c (begun l (a_value (v.Func id)) given s) h (stop.Fault s.frame.script l (kind.Args (named.Function f.name))) s1 h
bound_not m c l id given s s1 h f e b = rw (e, b) (stopped tt)

pub not_bound : {H : Type 0} (m : Meaning H) (c l : ℕ) (id : FuncId) (given : Arguments) (s s1 : State) (h : H) (f : Function) (z : Stop) → slice_get s.functions id.0 ≡ Some f → bound f.parameters given ≡ None → (z ≢ stop.Memory → z ≡ stop.Fault s.frame.script l (kind.Args (named.Function f.name))) → Halts m c (begun l (a_value (v.Func id)) given s) h z s1 h
not_bound m c l id given s s1 h f stop.Memory e b w = tt
not_bound m c l id given s s1 h f z e b w =
    subst (λ y. Halts m c (begun l (a_value (v.Func id)) given s) h y s1 h) (sym (w (λ n. cc))) (bound_not m c l id given s s1 h f e b)

function_depth : {H : Type 0} (m : Meaning H) (l : ℕ) (id : FuncId) (given : Arguments) (s s1 : State) (h : H) (f : Function) (names : Names) → slice_get s.functions id.0 ≡ Some f → bound f.parameters given ≡ Some names → Halts m zero (begun l (a_value (v.Func id)) given s) h (stop.Fault s.frame.script l kind.Depth) s1 h
function_depth m l id given s s1 h f names e b = rw (e, b) too_deep

pub function_too_deep : {H : Type 0} (m : Meaning H) (c l : ℕ) (id : FuncId) (given : Arguments) (s s1 : State) (h : H) (f : Function) (names : Names) (z : Stop) → slice_get s.functions id.0 ≡ Some f → bound f.parameters given ≡ Some names → (c ≡ 0) × (z ≡ stop.Fault s.frame.script l kind.Depth) → Halts m c (begun l (a_value (v.Func id)) given s) h z s1 h
function_too_deep m c l id given s s1 h f names z e b w =
    subst (λ y. Halts m c (begun l (a_value (v.Func id)) given s) h y s1 h) (sym w.1)
    (subst (λ calls. Halts m calls (begun l (a_value (v.Func id)) given s) h (stop.Fault s.frame.script l kind.Depth) s1 h) (sym w.0) (function_depth m l id given s s1 h f names e b))

-- its body returns, ends without a `return`, or halts; then the names of the caller stand again
abbrev body_plan : State → Function → Names → Plan
body_plan s f names = plan (exec_all f.body) (with_frame s (function_frame s.frame f names))

function_returns : {H : Type 0} (m : Meaning H) (c l : ℕ) (id : FuncId) (given : Arguments) (s s1 : State) (h h1 : H) (f : Function) (names : Names) (x : Value) → slice_get s.functions id.0 ≡ Some f → bound f.parameters given ≡ Some names → Follows m c (body_plan s f names) h (Ok (returns x s1)) h1 → Follows m (suc c) (begun l (a_value (v.Func id)) given s) h (Ok (gives x (with_frame s1 s.frame))) h1
function_returns m c l id given s s1 h h1 f names x e b d = rw (e, b) (called (returns x s1) h1 d done)

over_goes_on : {H : Type 0} (m : Meaning H) (c l : ℕ) (id : FuncId) (given : Arguments) (s s1 : State) (h h1 : H) (f : Function) (names : Names) (o : Out) → slice_get s.functions id.0 ≡ Some f → bound f.parameters given ≡ Some names → Follows m c (body_plan s f names) h (Ok o) h1 → settled o ≡ goes_on s1 → Follows m (suc c) (begun l (a_value (v.Func id)) given s) h (Ok (gives v.Nil (with_frame s1 s.frame))) h1
over_goes_on m c l id given s s1 h h1 f names (gives x s2) e b d i = absurd (cc)
over_goes_on m c l id given s s1 h h1 f names (all_give xs s2) e b d i = absurd (cc)
over_goes_on m c l id given s s1 h h1 f names (goes_on s2) e b d i = let same : s2 ≡ s1 = cc in rw (e, b, ← same) (called (goes_on s2) h1 d done)
over_goes_on m c l id given s s1 h h1 f names (breaks s2) e b d i = let same : s2 ≡ s1 = cc in rw (e, b, ← same) (called (breaks s2) h1 d done)
over_goes_on m c l id given s s1 h h1 f names (continues s2) e b d i = let same : s2 ≡ s1 = cc in rw (e, b, ← same) (called (continues s2) h1 d done)
over_goes_on m c l id given s s1 h h1 f names (returns x s2) e b d i = absurd (cc)
over_goes_on m c l id given s s1 h h1 f names (ends s2) e b d i = absurd (cc)
over_goes_on m c l id given s s1 h h1 f names (exits x s2) e b d i = absurd (cc)

-- what a call gives by what the body comes to
abbrev pub given_by : Result (Option Value) Stop → Result Value Stop
given_by (Ok (Some x)) = Ok x
given_by (Ok None) = Ok v.Nil
given_by (Err e) = Err e

function_inside : {H : Type 0} (m : Meaning H) (c l : ℕ) (id : FuncId) (given : Arguments) (s s1 : State) (h h1 : H) (f : Function) (names : Names) (r : Result (Option Value) Stop) → slice_get s.functions id.0 ≡ Some f → bound f.parameters given ≡ Some names → EndsOrHalts m c (body_plan s f names) h r s1 h1 → GivesOrHalts m (suc c) (begun l (a_value (v.Func id)) given s) h (given_by r) (with_frame s1 s.frame) h1
function_inside m c l id given s s1 h h1 f names (Ok (Some x)) e b d = function_returns m c l id given s s1 h h1 f names x e b d
function_inside m c l id given s s1 h h1 f names (Ok None) e b d = over_goes_on m c l id given s s1 h h1 f names d.0 e b d.1 d.2
function_inside m c l id given s s1 h h1 f names (Err (stop.Fault script line i)) e b d = rw (e, b) (called_stopped _ d)
function_inside m c l id given s s1 h h1 f names (Err stop.End) e b d = (d.0, rw (e, b) (called (ends (with_frame s1 d.0)) h1 d.1 done))
function_inside m c l id given s s1 h h1 f names (Err stop.Memory) e b d = tt

pub function_gives : {H : Type 0} (m : Meaning H) (c i l : ℕ) (id : FuncId) (given : Arguments) (s s1 : State) (h h1 : H) (f : Function) (names : Names) (r : Result (Option Value) Stop) → slice_get s.functions id.0 ≡ Some f → bound f.parameters given ≡ Some names → c ≡ suc i → EndsOrHalts m i (body_plan s f names) h r s1 h1 → GivesOrHalts m c (begun l (a_value (v.Func id)) given s) h (given_by r) (with_frame s1 s.frame) h1
function_gives m c i l id given s s1 h h1 f names r e b o d =
    subst (λ calls. GivesOrHalts m calls (begun l (a_value (v.Func id)) given s) h (given_by r) (with_frame s1 s.frame) h1) (sym o) (function_inside m i l id given s s1 h h1 f names r e b d)

-- the lines, the frame and the outcome of a body as they stand elsewhere
pub body_as : {H : Type 0} (m : Meaning H) (c : ℕ) (xs ys : List Line) (kept : Store) (f f1 : Frame) (r r1 : Result (Option Value) Stop) (s : State) (h h1 : H) → xs ≡ ys → f ≡ f1 → r ≡ r1 → EndsOrHalts m c (plan (exec_all (trees (map line_tree xs))) (state_by kept f)) h r s h1 → EndsOrHalts m c (plan (exec_all (trees (map line_tree ys))) (state_by kept f1)) h r1 s h1
body_as m c xs ys kept f f1 r r1 s h h1 e i o d =
    subst (λ x. EndsOrHalts m c (plan (exec_all (trees (map line_tree ys))) (state_by kept f1)) h x s h1) o
    (subst (λ x. EndsOrHalts m c (plan (exec_all (trees (map line_tree ys))) (state_by kept x)) h r s h1) i
    (subst (λ x. EndsOrHalts m c (plan (exec_all (trees (map line_tree x))) (state_by kept f)) h r s h1) e d))
