-- Scripts that are over, and how it goes on behind them.
use Rattle.std.proofs.Common.{◌≡◌, ◌∙◌, ℕ, List, [], ◌∷◌, ◌++◌, map, length, Option, Some, None, Result, Ok, Err, refl, sym, subst, ap}
use Rattle.py_tree.specs.Tree.{Tree, trees, line_tree}
use Rattle.py_tree.specs.declared.line.Line.{Line}
use Rattle.py_tree.specs.declared.line.Script.{Script}
use Rattle.py_heap.specs.declared.value.Value.{Value}
use Rattle.py_heap.specs.declared.value.Value.TheVariants as v
use Rattle.py_host.specs.Calls.{Given, a_value, a_script, some_names, the_end, script_done, given_of}
use Rattle.py_host.specs.Names.{Names}
use Rattle.py_host.specs.declared.reply.Reply.{Reply}
use Rattle.py_host.specs.declared.reply.Reply.TheVariants as reply'
use Rattle.py_host.specs.Meaning.{Meaning}
use Rattle.py_meaning.specs.declared.fault.Exit.{Exit}
use Rattle.py_meaning.specs.declared.fault.Exit.TheVariants as exit'
use Rattle.py_meaning.specs.States.{State, Frame, Out, gives, all_give, goes_on, breaks, continues, returns, ends, exits, with_globals, globals_at, script_frame}
use Rattle.py_meaning.specs.Jobs.{exec_all, inner_script, reply}
use Rattle.py_meaning.specs.Plans.{Plan, comes_to, goes, asked_on}
use Rattle.py_meaning.specs.Calls.{script_begun, after_script, paid_script}
use Rattle.py_meaning.specs.Evaluates.{Follows, plan, done, then, then_stopped}
use Rattle.py_state.specs.Stores.{Store, store_of, state_of, state_by}
use Rattle.py_state.specs.declared.machine.Machine.{Machine}
use Rattle.py_state.specs.declared.stop.Stop.{Stop}
use Rattle.py_state.specs.declared.stop.Stop.TheVariants as stop
use Rattle.py_steps.specs.Leads.{Unfolds, LeadsOn, Stops, Steps, told}
use Rattle.py_steps.specs.Todos.{settled}
use Rattle.py_eval.specs.Bodies.{Halts, EndsOrHalts, IsOver, IsOverOrStops}
use Rattle.py_steps.proofs.Stepping.{leads}
use Rattle.py_steps.proofs.Stepping.{goes as step_goes}
use Rattle.py_eval.proofs.Halting.{whole, halts_after, halts_by}

-- the lines of a script that ended as a body does
over_as : (o : Out) (s : State) → settled o ≡ goes_on s → IsOver exit'.End o s
over_as (gives x s1) s e = absurd (cc)
over_as (all_give xs s1) s e = absurd (cc)
over_as (goes_on s1) s e = cc
over_as (breaks s1) s e = cc
over_as (continues s1) s e = cc
over_as (returns x s1) s e = absurd (cc)
over_as (ends s1) s e = absurd (cc)
over_as (exits x s1) s e = absurd (cc)

pub ends_over : {H : Type 0} (m : Meaning H) (c : ℕ) (p : Plan) (h h2 : H) (kept : Store) (f : Frame) (x : Option Value) → EndsOrHalts m c p h (Ok x) (state_by kept f) h2 → IsOverOrStops m c p h (Ok exit'.End) kept h2
ends_over m c p h h2 kept f (Some x) d = (f, returns x (state_by kept f), d, refl)
ends_over m c p h h2 kept f None d = (f, d.0, d.1, over_as d.0 (state_by kept f) d.2)

-- one that the host ended, and one that stopped
pub ended_over : {H : Type 0} (m : Meaning H) (c : ℕ) (p : Plan) (h h2 : H) (kept : Store) (f : Frame) → Halts m c p h stop.End (state_by kept f) h2 → IsOverOrStops m c p h (Ok exit'.Returned) kept h2
ended_over m c p h h2 kept f d = (d.0, ends (state_by kept d.0), d.1, refl)

pub stopped_over : {H : Type 0} (m : Meaning H) (c : ℕ) (p : Plan) (h h2 : H) (s : State) (x : Stop) → (x ≡ stop.End → ⊥) → Halts m c p h x s h2 → Stops m c p h x h2
stopped_over m c p h h2 s (stop.Fault script line k) n d = d
stopped_over m c p h h2 s stop.End n d = n refl
stopped_over m c p h h2 s stop.Memory n d = tt

-- whichever way a script is over, what stands behind it goes on
over_goes : (exit : Exit) (o : Out) (s : State) (f : State → Plan) → IsOver exit o s → after_script f o ≡ f s
over_goes exit'.Returned o s f e = ap (after_script f) e
over_goes exit'.End (gives x s1) s f e = absurd e
over_goes exit'.End (all_give xs s1) s f e = absurd e
over_goes exit'.End (goes_on s1) s f e = ap f e
over_goes exit'.End (breaks s1) s f e = ap f e
over_goes exit'.End (continues s1) s f e = ap f e
over_goes exit'.End (returns x s1) s f e = ap f e
over_goes exit'.End (ends s1) s f e = absurd e
over_goes exit'.End (exits x s1) s f e = absurd e

-- a script that a call began stops
pub inner_stops : {H : Type 0} (m : Meaning H) (c l : ℕ) (t : Tree) (s s2 : State) (x : Stop) (h h1 : H) → Stops m c (plan (exec_all t) (script_begun s)) h x h1 → Halts m c (plan (inner_script l t) s) h x s2 h1
unfolding plan
inner_stops m c l t s s2 (stop.Fault script line k) h h1 d = then_stopped _ d
inner_stops m c l t s s2 stop.End h h1 d = absurd d
inner_stops m c l t s s2 stop.Memory h h1 d = tt

-- the host's reply once it is over
abbrev behind : ℕ → Given → State → Plan
behind l (a_script t) s = paid_script s (λ s1. goes (inner_script l t) s1)
behind l g s = goes (reply l g) s

behind_it : {H : Type 0} (m : Meaning H) (c l : ℕ) (t : Tree) (s s2 : State) (exit : Exit) (kept : Store) (h h1 h2 : H) (g : Given) → IsOverOrStops m c (plan (exec_all t) (script_begun s)) h (Ok exit) kept h1 → ((k : Given → State → Plan) → LeadsOn m c (asked_on l (script_done (globals_at (state_by kept s.frame) (length s.globals))) (state_by kept s.frame) k) h1 (k g s2) h2) → LeadsOn m c (plan (inner_script l t) s) h (behind l g s2) h2
unfolding plan
behind_it m c l t s s2 exit kept h h1 h2 (a_script t2) over answer = λ r h3 d.
    then over.1 h1 over.2 (subst (λ p. Follows m c p h1 r h3) (sym (over_goes exit over.1 (state_by kept over.0) _ over.3)) (answer _ r h3 d))
behind_it m c l t s s2 exit kept h h1 h2 g over answer = λ r h3 d.
    then over.1 h1 over.2 (subst (λ p. Follows m c p h1 r h3) (sym (over_goes exit over.1 (state_by kept over.0) _ over.3)) (answer _ r h3 d))

replied : {H : Type 0} (m : Meaning H) (c l : ℕ) (t : Tree) (s s2 : State) (exit : Exit) (kept : Store) (number : ℕ) (h h1 h2 : H) (g g1 : Given) → IsOverOrStops m c (plan (exec_all t) (script_begun s)) h (Ok exit) kept h1 → number ≡ length s.globals → g ≡ g1 → ((k : Given → State → Plan) → LeadsOn m c (asked_on l (script_done (globals_at (state_by kept s.frame) number)) (state_by kept s.frame) k) h1 (k g s2) h2) → LeadsOn m c (plan (inner_script l t) s) h (behind l g1 s2) h2
replied m c l t s s2 exit kept number h h1 h2 g g1 over e f answer =
    subst (λ x. LeadsOn m c (plan (inner_script l t) s) h (behind l x s2) h2) f
    (behind_it m c l t s s2 exit kept h h1 h2 g over (subst (λ n. (k : Given → State → Plan) → LeadsOn m c (asked_on l (script_done (globals_at (state_by kept s.frame) n)) (state_by kept s.frame) k) h1 (k g s2) h2) e answer))

-- it doesn't reply
unanswered : {H : Type 0} (m : Meaning H) (c l : ℕ) (t : Tree) (s s2 : State) (exit : Exit) (kept : Store) (h h1 h2 : H) (x : Stop) → IsOverOrStops m c (plan (exec_all t) (script_begun s)) h (Ok exit) kept h1 → ((k : Given → State → Plan) → Stops m c (asked_on l (script_done (globals_at (state_by kept s.frame) (length s.globals))) (state_by kept s.frame) k) h1 x h2) → Halts m c (plan (inner_script l t) s) h x s2 h2
unfolding plan
unanswered m c l t s s2 exit kept h h1 h2 (stop.Fault script line i) over answer =
    then over.1 h1 over.2 (subst (λ p. Follows m c p h1 (told script line i) h2) (sym (over_goes exit over.1 (state_by kept over.0) _ over.3)) (answer _))
unanswered m c l t s s2 exit kept h h1 h2 stop.End over answer = absurd (answer (λ g s3. comes_to (ends s3)))
unanswered m c l t s s2 exit kept h h1 h2 stop.Memory over answer = tt

pub not_replied : {H : Type 0} (m : Meaning H) (c l : ℕ) (t : Tree) (s s2 : State) (exit : Exit) (kept : Store) (number : ℕ) (h h1 h2 : H) (x : Stop) → IsOverOrStops m c (plan (exec_all t) (script_begun s)) h (Ok exit) kept h1 → number ≡ length s.globals → ((k : Given → State → Plan) → Stops m c (asked_on l (script_done (globals_at (state_by kept s.frame) number)) (state_by kept s.frame) k) h1 x h2) → Halts m c (plan (inner_script l t) s) h x s2 h2
not_replied m c l t s s2 exit kept number h h1 h2 x over e answer =
    unanswered m c l t s s2 exit kept h h1 h2 x over (subst (λ n. (k : Given → State → Plan) → Stops m c (asked_on l (script_done (globals_at (state_by kept s.frame) n)) (state_by kept s.frame) k) h1 x h2) e answer)

-- it replies with no script
behind_other : {H : Type 0} (m : Meaning H) (c l : ℕ) (s : State) (h : H) (g : Given) → ((t : Tree) → g ≡ a_script t → ⊥) → LeadsOn m c (behind l g s) h (plan (reply l g) s) h
behind_other m c l s h (a_script t) n = absurd (n t refl)
behind_other m c l s h g n = λ r h3 d. whole r d

no_script : (x : Reply) → ((t : Script) → x ≡ reply'.Script t → ⊥) → (t : Tree) → given_of x ≡ a_script t → ⊥
no_script (reply'.Script t1) n t e = n t1 refl
no_script (reply'.Value y) n t e = cc
no_script (reply'.Names names) n t e = cc
no_script reply'.Return n t e = cc

pub no_further : {H : Type 0} (m : Meaning H) (c l : ℕ) (t : Tree) (s s2 : State) (exit : Exit) (kept : Store) (number : ℕ) (h h1 h2 : H) (x : Reply) → IsOverOrStops m c (plan (exec_all t) (script_begun s)) h (Ok exit) kept h1 → number ≡ length s.globals → ((t2 : Script) → x ≡ reply'.Script t2 → ⊥) → ((k : Given → State → Plan) → LeadsOn m c (asked_on l (script_done (globals_at (state_by kept s.frame) number)) (state_by kept s.frame) k) h1 (k (given_of x) s2) h2) → LeadsOn m c (plan (inner_script l t) s) h (plan (reply l (given_of x)) s2) h2
no_further m c l t s s2 exit kept number h h1 h2 x over e n answer = λ r h3 d.
    replied m c l t s s2 exit kept number h h1 h2 (given_of x) (given_of x) over e refl answer r h3 (behind_other m c l s2 h2 (given_of x) (no_script x n) r h3 d)

-- it replies with a further script, which is paid for or not
pub further_paid : {H : Type 0} (m : Meaning H) (c l : ℕ) (t t2 : Tree) (s s2 s3 : State) (exit : Exit) (kept : Store) (number : ℕ) (h h1 h2 : H) (g : Given) → IsOverOrStops m c (plan (exec_all t) (script_begun s)) h (Ok exit) kept h1 → number ≡ length s.globals → g ≡ a_script t2 → ((k : Given → State → Plan) → LeadsOn m c (asked_on l (script_done (globals_at (state_by kept s.frame) number)) (state_by kept s.frame) k) h1 (k g s2) h2) → ((k : State → Plan) → Unfolds (paid_script s2 k) (k s3)) → LeadsOn m c (plan (inner_script l t) s) h (plan (reply l g) s3) h2
unfolding plan
further_paid m c l t t2 s s2 s3 exit kept number h h1 h2 g over e f answer pays = λ r h3 d.
    replied m c l t s s2 exit kept number h h1 h2 g (a_script t2) over e f answer r h3 (step_goes (pays (λ s1. goes (inner_script l t2) s1)) (subst (λ x. Follows m c (plan (reply l x) s3) h2 r h3) f d))

pub further_unpaid : {H : Type 0} (m : Meaning H) (c l : ℕ) (t t2 : Tree) (s s2 s3 : State) (exit : Exit) (kept : Store) (number : ℕ) (h h1 h2 : H) (g : Given) (x : Stop) → IsOverOrStops m c (plan (exec_all t) (script_begun s)) h (Ok exit) kept h1 → number ≡ length s.globals → g ≡ a_script t2 → ((k : Given → State → Plan) → LeadsOn m c (asked_on l (script_done (globals_at (state_by kept s.frame) number)) (state_by kept s.frame) k) h1 (k g s2) h2) → ((k : State → Plan) → Steps {X = Unit {0}} (paid_script s2 k) (Err x) (k s3)) → Halts m c (plan (inner_script l t) s) h x s3 h2
further_unpaid m c l t t2 s s2 s3 exit kept number h h1 h2 g x over e f answer pays =
    let k : State → Plan = λ s1. goes (inner_script l t2) s1 in
    halts_after m c (plan (inner_script l t) s) (behind l (a_script t2) s2) h h2 h2 s3 x (replied m c l t s s2 exit kept number h h1 h2 g (a_script t2) over e f answer)
    (halts_by m c (paid_script s2 k) h2 h2 s3 x (leads m c (paid_script s2 k) (k s3) h2 (let r : Result (Unit {0}) Stop = Err x in r) (pays k)))

-- a script that has begun, and its lines as they stand elsewhere
pub script_begins : (m m1 : Machine) (f : Frame) (number : ℕ) → store_of m1 ≡ record (store_of m) { globals = m.globals.items ++ [] ∷ [] } → number ≡ length m.globals.items → state_by (store_of m1) (script_frame number) ≡ script_begun (state_of m f)
script_begins m m1 f number e n =
    ap (λ (x : Store). state_by x (script_frame number)) e ∙ ap (λ i. state_by (record (store_of m) { globals = m.globals.items ++ [] ∷ [] }) (script_frame i)) n

pub lines_as : {H : Type 0} (m : Meaning H) (c : ℕ) (xs ys : List Line) (s s1 : State) (r : Result Exit Stop) (kept : Store) (h h1 : H) → xs ≡ ys → s ≡ s1 → IsOverOrStops m c (plan (exec_all (trees (map line_tree xs))) s) h r kept h1 → IsOverOrStops m c (plan (exec_all (trees (map line_tree ys))) s1) h r kept h1
lines_as m c xs ys s s1 r kept h h1 e f d =
    subst (λ x. IsOverOrStops m c (plan (exec_all (trees (map line_tree ys))) x) h r kept h1) f
    (subst (λ x. IsOverOrStops m c (plan (exec_all (trees (map line_tree x))) s) h r kept h1) e d)

-- what a reply comes to
pub value_replied : {H : Type 0} (m : Meaning H) (c l : ℕ) (g : Given) (x : Value) (s : State) (h : H) → g ≡ a_value x → Follows m c (plan (reply l g) s) h (Ok (gives x s)) h
unfolding plan
value_replied m c l g x s h e = subst (λ y. Follows m c (plan (reply l y) s) h (Ok (gives x s)) h) (sym e) done

pub names_replied : {H : Type 0} (m : Meaning H) (c l : ℕ) (g : Given) (names : Names) (s s1 : State) (h : H) → g ≡ some_names names → s1 ≡ with_globals s s.frame.running names → Follows m c (plan (reply l g) s) h (Ok (gives v.Nil s1)) h
unfolding plan
names_replied m c l g names s s1 h e f =
    subst (λ y. Follows m c (plan (reply l y) s) h (Ok (gives v.Nil s1)) h) (sym e)
    (subst (λ z. Follows m c (plan (reply l (some_names names)) s) h (Ok (gives v.Nil z)) h) (sym f) done)

pub end_replied : {H : Type 0} (m : Meaning H) (c l : ℕ) (g : Given) (s : State) (h : H) → g ≡ the_end → Halts m c (plan (reply l g) s) h stop.End s h
unfolding plan
end_replied m c l g s h e = (s.frame, subst (λ y. Follows m c (plan (reply l y) s) h (Ok (ends s)) h) (sym e) done)

pub script_replied : {H : Type 0} (m : Meaning H) (c l : ℕ) (g : Given) (t : Tree) (s : State) (h : H) → g ≡ a_script t → LeadsOn m c (plan (reply l g) s) h (plan (inner_script l t) s) h
unfolding plan
script_replied m c l g t s h e = λ r h3 d. subst (λ y. Follows m c (plan (reply l y) s) h r h3) (sym e) (whole r d)
