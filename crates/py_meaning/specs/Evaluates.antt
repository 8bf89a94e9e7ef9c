-- What scripts come to.
use Rattle.std.specs.Prelude.{ℕ, zero, suc, List, [], Option, Result, Ok, Err}
use Rattle.scons_base.specs.declared.limits.TheConstants.{CALL_DEPTH_LIMIT}
use Rattle.py_tree.specs.Tree.{Tree, absent}
use Rattle.py_heap.specs.Heap.{Objects}
use Rattle.py_heap.specs.Units.{Units}
use Rattle.py_host.specs.Calls.{Question, Answer, answers, refuses}
use Rattle.py_host.specs.Meaning.{Meaning}
use Rattle.py_heap.specs.declared.value.Value.{Value}
use Rattle.py_meaning.specs.declared.fault.EvalKind.{EvalKind}
use Rattle.py_meaning.specs.declared.fault.EvalKind.TheVariants as kind
use Rattle.py_meaning.specs.States.{State, Out, Fault, with_objects, script_frame}
use Rattle.py_host.specs.declared.place.Place.{Place}
use Rattle.py_meaning.specs.Jobs.{Job, eval, eval_all, eval_or_nil, links, operations, collect, tests, call, perform}
use Rattle.py_meaning.specs.Jobs.{reply, inner_script, exec, exec_all, branches, turns, rounds, first_scripts}
use Rattle.py_meaning.specs.Plans.{Plan, comes_to, stops, first, within_call, asks_name, prints, asks}
use Rattle.py_meaning.specs.Expressions.{plan_expression, plan_all, plan_operations, plan_collect, plan_tests}
use Rattle.py_meaning.specs.Links.{plan_links}
use Rattle.py_meaning.specs.Calls.{plan_call, plan_perform, plan_reply, plan_inner_script}
use Rattle.py_meaning.specs.Statements.{plan_exec, plan_exec_all, plan_or_nil, plan_branches, plan_turns, plan_rounds}
use Rattle.py_meaning.specs.Scripts.{plan_first_scripts}

-- how a job goes on
unfoldable pub plan : Job → State → Plan
plan (eval t) s = plan_expression t s
plan (eval_all ts) s = plan_all ts s
plan (eval_or_nil t) s = plan_or_nil t s
plan (links x named ls) s = plan_links x named ls s
plan (operations x os) s = plan_operations x os s
plan (collect l walk xs t ns ts) s = plan_collect l walk xs t ns ts s
plan (tests l ts) s = plan_tests l ts s
plan (call l callee given) s = plan_call l callee given s
plan (perform l callee given) s = plan_perform l callee given s
plan (reply l g) s = plan_reply l g s
plan (inner_script l t) s = plan_inner_script l t s
plan (exec t) s = plan_exec t s
plan (exec_all ts) s = plan_exec_all ts s
plan (branches bs ls) s = plan_branches bs ls s
plan (turns l walk ns block) s = plan_turns l walk ns block s
plan (rounds l t block) s = plan_rounds l t block s
plan (first_scripts t) s = plan_first_scripts t s

-- a fault that isn't the host's refusal
abbrev pub IsOwn : EvalKind → Type 0
IsOwn kind.Host = ⊥
IsOwn other = Unit {0}

abbrev pub fault_at : Place → EvalKind → Result Out Fault
fault_at place k = Err (record { place = place; kind = k })

-- what a plan comes to with a host in a state, where so many further calls may be open: an outcome or a fault, and the host
-- after it. A fault in a part is that of the whole.
pub data Follows {H : Type 0} (m : Meaning H) : ℕ → Plan → H → Result Out Fault → H → Type 0 where
  done : {c : ℕ} {o : Out} {h : H} → Follows m c (comes_to o) h (Ok o) h
  stopped : {c : ℕ} {place : Place} {k : EvalKind} {h : H} → IsOwn k →
      Follows m c (stops place k) h (fault_at place k) h
  then : {c : ℕ} {j : Job} {s : State} {k : Out → Plan} {r : Result Out Fault} {h h2 : H} (o : Out) (h1 : H) →
      Follows m c (plan j s) h (Ok o) h1 → Follows m c (k o) h1 r h2 → Follows m c (first j s k) h r h2
  then_stopped : {c : ℕ} {j : Job} {s : State} {k : Out → Plan} {h h1 : H} (e : Fault) →
      Follows m c (plan j s) h (Err e) h1 → Follows m c (first j s k) h (Err e) h1
  too_deep : {j : Job} {s : State} {place : Place} {k : Out → Plan} {h : H} →
      Follows m zero (within_call j s place k) h (fault_at place kind.Depth) h
  called : {c : ℕ} {j : Job} {s : State} {place : Place} {k : Out → Plan} {r : Result Out Fault} {h h2 : H} (o : Out)
      (h1 : H) → Follows m c (plan j s) h (Ok o) h1 → Follows m (suc c) (k o) h1 r h2 →
      Follows m (suc c) (within_call j s place k) h r h2
  called_stopped : {c : ℕ} {j : Job} {s : State} {place : Place} {k : Out → Plan} {h h1 : H} (e : Fault) →
      Follows m c (plan j s) h (Err e) h1 → Follows m (suc c) (within_call j s place k) h (Err e) h1
  named : {c : ℕ} {n : List ℕ} {k : Option Value → Plan} {r : Result Out Fault} {h h2 : H} (v : Option Value)
      (h1 : H) → m.names h n v h1 → Follows m c (k v) h1 r h2 → Follows m c (asks_name n k) h r h2
  printed : {c : ℕ} {text : List ℕ} {place : Place} {p : Plan} {r : Result Out Fault} {h h2 : H} (h1 : H) →
      m.prints h text (answers tt) h1 → Follows m c p h1 r h2 → Follows m c (prints text place p) h r h2
  print_refused : {c : ℕ} {text : List ℕ} {place : Place} {p : Plan} {h h1 : H} → m.prints h text refuses h1 →
      Follows m c (prints text place p) h (fault_at place kind.Host) h1
  asked : {c : ℕ} {q : Question} {s : State} {place : Place} {k : Answer q → State → Plan} {r : Result Out Fault}
      {h h2 : H} (a : Answer q) (h1 : H) (objects : Objects) → m.replies q h s.objects (answers a) h1 objects →
      Follows m c (k a (with_objects s objects)) h1 r h2 → Follows m c (asks q s place k) h r h2
  refused : {c : ℕ} {q : Question} {s : State} {place : Place} {k : Answer q → State → Plan} {h h1 : H}
      (objects : Objects) → m.replies q h s.objects refuses h1 objects →
      Follows m c (asks q s place k) h (fault_at place kind.Host) h1

-- before anything has run
abbrev pub start : Objects → Units → State
start h u = record { objects = h; units = u; globals = []; functions = []; frame = script_frame 0 }

-- what the reading that begins with a script comes to: from a heap, units and a host, to an outcome and the host after it
abbrev pub Evaluates : {H : Type 0} → Meaning H → Tree → Objects → Units → H → Result Out Fault → H → Type 0
Evaluates m t objects units h r h2 = Follows m CALL_DEPTH_LIMIT (plan (first_scripts t) (start objects units)) h r h2
