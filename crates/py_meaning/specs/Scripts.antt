-- First scripts, one after another (own).
use Rattle.std.specs.Prelude.{Option, Some, None}
use Rattle.py_tree.specs.Tree.{Tree}
use Rattle.py_host.specs.Calls as question
use Rattle.py_meaning.specs.declared.fault.Exit.{Exit}
use Rattle.py_meaning.specs.declared.fault.Exit.TheVariants.{End, Returned}
use Rattle.py_meaning.specs.States.{State, Out, goes_on, breaks, continues, returns, ends, exits}
use Rattle.py_meaning.specs.Jobs.{exec_all, first_scripts}
use Rattle.py_meaning.specs.Plans.{Plan, comes_to, first, asks, goes}
use Rattle.py_meaning.specs.Calls.{script_begun, paid_script, next_place}

abbrev following : Exit → Option Tree → State → Plan
following exit None s = comes_to (exits exit s)
following exit (Some t) s = paid_script s (λ s1. goes (first_scripts t) s1)

-- the host gives the next one; a refusal is told of the script that would be next, on its first line
abbrev script_ended : Exit → State → Plan
script_ended exit s = asks question.next_script s (next_place s) (following exit)

abbrev first_over : Out → Plan
first_over (ends s) = script_ended Returned s
first_over (goes_on s) = script_ended End s
first_over (breaks s) = script_ended End s
first_over (continues s) = script_ended End s
first_over (returns x s) = script_ended End s
first_over other = comes_to other

abbrev pub plan_first_scripts : Tree → State → Plan
plan_first_scripts t s = first (exec_all t) (script_begun s) first_over
