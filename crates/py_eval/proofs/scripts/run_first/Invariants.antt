-- What follows from what is left behind a script followed from the first one, and what the host keeps is kept.
use Rattle.py_tree.specs.Tree.{script_tree}
use Rattle.py_meaning.specs.States.{Frame, script_frame}
use Rattle.py_meaning.specs.Jobs.{first_scripts}
use Rattle.py_meaning.specs.Evaluates.{plan}
use Rattle.scons_base.specs.declared.limits.TheConstants.{CALL_DEPTH_LIMIT}
use Rattle.py_state.specs.Stores.{store_of, state_by}
use Rattle.py_steps.specs.Leads.{LeadsOn}
use Rattle.py_eval.specs.Bodies.{next_plan}
use Rattle.py_eval.proofs.scripts.run_first.Given as goal

abbrev pub invariant-scripts : goal.invariant-scripts
invariant-scripts g l = record {
  keeps : g.H.Host.meaning.keeps l.fn.host l.host;
  leads : (f : Frame) × LeadsOn g.H.Host.meaning CALL_DEPTH_LIMIT (plan (first_scripts (script_tree l.fn.script)) (state_by (store_of l.fn.machine) (script_frame 0))) l.fn.host (next_plan l.next (state_by (store_of l.machine) f)) l.host;
}
