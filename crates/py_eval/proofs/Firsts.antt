-- First scripts, one after another.
use Rattle.std.proofs.Common.{◌≡◌, ℕ, Option, Some, None, Result, Ok, Err, sym, subst, ap}
use Rattle.py_tree.specs.Tree.{Tree, script_tree}
use Rattle.py_tree.specs.declared.line.Script.{Script}
use Rattle.py_host.specs.Calls.{next_script}
use Rattle.py_host.specs.Meaning.{Meaning}
use Rattle.py_meaning.specs.declared.fault.Exit.{Exit}
use Rattle.py_meaning.specs.declared.fault.Exit.TheVariants as exit'
use Rattle.py_meaning.specs.States.{State, Frame, Out, gives, all_give, goes_on, breaks, continues, returns, ends, exits}
use Rattle.py_meaning.specs.Jobs.{exec_all, first_scripts}
use Rattle.py_meaning.specs.Plans.{Plan, comes_to, first, goes, asks}
use Rattle.py_meaning.specs.Calls.{script_begun, paid_script, next_place}
use Rattle.py_meaning.specs.Evaluates.{Follows, plan, done, then, then_stopped}
use Rattle.py_state.specs.Stores.{Store, state_by}
use Rattle.py_state.specs.declared.stop.Stop.{Stop}
use Rattle.py_state.specs.declared.stop.Stop.TheVariants as stop
use Rattle.py_steps.specs.Leads.{Unfolds, LeadsOn, Stops, Steps, told}
use Rattle.py_steps.proofs.Stepping.{leads}
use Rattle.py_steps.proofs.Stepping.{goes as step_goes}
use Rattle.py_eval.specs.Bodies.{IsOver, IsOverOrStops, LeadsToNext, ExitsOrStops, next_plan}
use Rattle.py_eval.specs.declared.scripts.Next.{Next}
use Rattle.py_eval.specs.declared.scripts.Next.TheVariants as next'
use Rattle.py_eval.proofs.Halting.{whole}

-- a stop behind what leads there
pub stops_after : {H : Type 0} (m : Meaning H) (c : ℕ) (p q : Plan) (h h1 h2 : H) (x : Stop) → LeadsOn m c p h q h1 → Stops m c q h1 x h2 → Stops m c p h x h2
stops_after m c p q h h1 h2 (stop.Fault script line k) f d = f (told script line k) h2 d
stops_after m c p q h h1 h2 stop.End f d = d
stops_after m c p q h h1 h2 stop.Memory f d = tt

-- a first script stops
pub first_stops : {H : Type 0} (m : Meaning H) (c : ℕ) (t : Tree) (s : State) (x : Stop) (h h1 : H) → Stops m c (plan (exec_all t) (script_begun s)) h x h1 → Stops m c (plan (first_scripts t) s) h x h1
unfolding plan
first_stops m c t s (stop.Fault script line k) h h1 d = then_stopped _ d
first_stops m c t s stop.End h h1 d = d
first_stops m c t s stop.Memory h h1 d = tt

-- how a plan goes on behind its first job, and by which outcome it may be thought to
abbrev behind_job : Plan → Out → Plan
behind_job (first j s k) o = k o
behind_job other o = comes_to o

abbrev out_by : Exit → State → Out
out_by exit'.Returned s = ends s
out_by exit'.End s = goes_on s

over_goes : (t : Tree) (s0 : State) (exit : Exit) (o : Out) (s : State) → IsOver exit o s → behind_job (plan (first_scripts t) s0) o ≡ behind_job (plan (first_scripts t) s0) (out_by exit s)
unfolding plan
over_goes t s0 exit'.Returned o s e = ap (behind_job (plan (first_scripts t) s0)) e
over_goes t s0 exit'.End (gives x s1) s e = absurd e
over_goes t s0 exit'.End (all_give xs s1) s e = absurd e
over_goes t s0 exit'.End (goes_on s1) s e = ap (λ y. behind_job (plan (first_scripts t) s0) (goes_on y)) e
over_goes t s0 exit'.End (breaks s1) s e = ap (λ y. behind_job (plan (first_scripts t) s0) (goes_on y)) e
over_goes t s0 exit'.End (continues s1) s e = ap (λ y. behind_job (plan (first_scripts t) s0) (goes_on y)) e
over_goes t s0 exit'.End (returns x s1) s e = ap (λ y. behind_job (plan (first_scripts t) s0) (goes_on y)) e
over_goes t s0 exit'.End (ends s1) s e = absurd e
over_goes t s0 exit'.End (exits x s1) s e = absurd e

-- it is over, and the host gives the next one, or none
abbrev behind : Exit → Option Tree → State → Plan
behind exit None s = comes_to (exits exit s)
behind exit (Some t) s = paid_script s (λ s1. goes (first_scripts t) s1)

abbrev Answered : {H : Type 0} → Meaning H → ℕ → Store → Store → H → H → Option Tree → Type 0
Answered m c kept kept2 h1 h2 a = (f : Frame) (k : Option Tree → State → Plan) → LeadsOn m c (asks next_script (state_by kept f) (next_place (state_by kept f)) k) h1 (k a (state_by kept2 f)) h2

first_leads : {H : Type 0} (m : Meaning H) (c : ℕ) (t : Tree) (s : State) (exit : Exit) (kept kept2 : Store) (h h1 h2 : H) (a : Option Tree) (f : Frame) (o : Out) → Follows m c (plan (exec_all t) (script_begun s)) h (Ok o) h1 → IsOver exit o (state_by kept f) → Answered m c kept kept2 h1 h2 a → LeadsOn m c (plan (first_scripts t) s) h (behind exit a (state_by kept2 f)) h2
unfolding plan
first_leads m c t s exit'.End kept kept2 h h1 h2 None f o over i answer = λ r h3 d. then o h1 over (subst (λ p. Follows m c p h1 r h3) (sym (over_goes t s exit'.End o (state_by kept f) i)) (answer f _ r h3 d))
first_leads m c t s exit'.Returned kept kept2 h h1 h2 None f o over i answer = λ r h3 d. then o h1 over (subst (λ p. Follows m c p h1 r h3) (sym (over_goes t s exit'.Returned o (state_by kept f) i)) (answer f _ r h3 d))
first_leads m c t s exit'.End kept kept2 h h1 h2 (Some t2) f o over i answer = λ r h3 d. then o h1 over (subst (λ p. Follows m c p h1 r h3) (sym (over_goes t s exit'.End o (state_by kept f) i)) (answer f _ r h3 d))
first_leads m c t s exit'.Returned kept kept2 h h1 h2 (Some t2) f o over i answer = λ r h3 d. then o h1 over (subst (λ p. Follows m c p h1 r h3) (sym (over_goes t s exit'.Returned o (state_by kept f) i)) (answer f _ r h3 d))

pub no_answer : {H : Type 0} (m : Meaning H) (c : ℕ) (t : Tree) (s : State) (exit : Exit) (kept : Store) (h h1 h2 : H) (x : Stop) → IsOverOrStops m c (plan (exec_all t) (script_begun s)) h (Ok exit) kept h1 → ((f : Frame) (k : Option Tree → State → Plan) → Stops m c (asks next_script (state_by kept f) (next_place (state_by kept f)) k) h1 x h2) → Stops m c (plan (first_scripts t) s) h x h2
unfolding plan
no_answer m c t s exit'.End kept h h1 h2 (stop.Fault script line i) over answer =
    then over.1 h1 over.2 (subst (λ p. Follows m c p h1 (told script line i) h2) (sym (over_goes t s exit'.End over.1 (state_by kept over.0) over.3)) (answer over.0 _))
no_answer m c t s exit'.Returned kept h h1 h2 (stop.Fault script line i) over answer =
    then over.1 h1 over.2 (subst (λ p. Follows m c p h1 (told script line i) h2) (sym (over_goes t s exit'.Returned over.1 (state_by kept over.0) over.3)) (answer over.0 _))
no_answer m c t s exit kept h h1 h2 stop.End over answer = answer over.0 (λ a s3. comes_to (ends s3))
no_answer m c t s exit kept h h1 h2 stop.Memory over answer = tt

pub last_script : {H : Type 0} (m : Meaning H) (c : ℕ) (t : Tree) (s : State) (exit : Exit) (kept kept2 : Store) (h h1 h2 : H) (a : Option Tree) → IsOverOrStops m c (plan (exec_all t) (script_begun s)) h (Ok exit) kept h1 → a ≡ None → Answered m c kept kept2 h1 h2 a → LeadsToNext m c (plan (first_scripts t) s) h (Ok (next'.Exit exit)) kept2 h2
last_script m c t s exit kept kept2 h h1 h2 a over e answer =
    (over.0, first_leads m c t s exit kept kept2 h h1 h2 None over.0 over.1 over.2 over.3 (subst (λ b. Answered m c kept kept2 h1 h2 b) e answer))

pub further_paid : {H : Type 0} (m : Meaning H) (c : ℕ) (t : Tree) (t2 : Script) (s : State) (exit : Exit) (kept kept2 kept3 : Store) (h h1 h2 : H) (a : Option Tree) → IsOverOrStops m c (plan (exec_all t) (script_begun s)) h (Ok exit) kept h1 → a ≡ Some (script_tree t2) → Answered m c kept kept2 h1 h2 a → ((f : Frame) (k : State → Plan) → Unfolds (paid_script (state_by kept2 f) k) (k (state_by kept3 f))) → LeadsToNext m c (plan (first_scripts t) s) h (Ok (next'.Script t2)) kept3 h2
further_paid m c t t2 s exit kept kept2 kept3 h h1 h2 a over e answer pays = (
  over.0,
  λ r h3 d. first_leads m c t s exit kept kept2 h h1 h2 (Some (script_tree t2)) over.0 over.1 over.2 over.3 (subst (λ b. Answered m c kept kept2 h1 h2 b) e answer) r h3
      (step_goes (pays over.0 (λ s1. goes (first_scripts (script_tree t2)) s1)) d),
)

pub further_unpaid : {H : Type 0} (m : Meaning H) (c : ℕ) (t t2 : Tree) (s : State) (exit : Exit) (kept kept2 kept3 : Store) (h h1 h2 : H) (a : Option Tree) (x : Stop) → IsOverOrStops m c (plan (exec_all t) (script_begun s)) h (Ok exit) kept h1 → a ≡ Some t2 → Answered m c kept kept2 h1 h2 a → ((f : Frame) (k : State → Plan) → Steps {X = Unit {0}} (paid_script (state_by kept2 f) k) (Err x) (k (state_by kept3 f))) → Stops m c (plan (first_scripts t) s) h x h2
further_unpaid m c t t2 s exit kept kept2 kept3 h h1 h2 a x over e answer pays =
    let k : State → Plan = λ s1. goes (first_scripts t2) s1 in
    stops_after m c (plan (first_scripts t) s) (behind exit (Some t2) (state_by kept2 over.0)) h h2 h2 x
    (first_leads m c t s exit kept kept2 h h1 h2 (Some t2) over.0 over.1 over.2 over.3 (subst (λ b. Answered m c kept kept2 h1 h2 b) e answer))
    (leads m c (paid_script (state_by kept2 over.0) k) (k (state_by kept3 over.0)) h2 (let r : Result (Unit {0}) Stop = Err x in r) (pays over.0 k))

-- what is left behind a first script: another one, or nothing
pub next_runs : {H : Type 0} (m : Meaning H) (c : ℕ) (p : Plan) (h h1 : H) (next : Next) (t : Script) (s : State) → next ≡ next'.Script t → LeadsOn m c p h (next_plan next s) h1 → LeadsOn m c p h (plan (first_scripts (script_tree t)) s) h1
next_runs m c p h h1 next t s e f = λ r h3 d. f r h3 (subst (λ n. Follows m c (next_plan n s) h1 r h3) (sym e) (whole r d))

pub next_exits : {H : Type 0} (m : Meaning H) (c : ℕ) (p : Plan) (h h1 : H) (next : Next) (exit : Exit) (kept : Store) → next ≡ next'.Exit exit → (f : Frame) × LeadsOn m c p h (next_plan next (state_by kept f)) h1 → ExitsOrStops m c p h (Ok exit) kept h1
next_exits m c p h h1 next exit kept e w =
    (w.0, w.1 (Ok (exits exit (state_by kept w.0))) h1 (subst (λ n. Follows m c (next_plan n (state_by kept w.0)) h1 (Ok (exits exit (state_by kept w.0))) h1) (sym e) done))
