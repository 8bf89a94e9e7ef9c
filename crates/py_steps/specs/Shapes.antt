-- The displays: the task that makes one, and what it makes.
use Rattle.std.specs.Prelude.{ℕ, List}
use Rattle.py_heap.specs.declared.value.Value.{Value}
use Rattle.py_heap.specs.Heap.{Objects}
use Rattle.py_heap.specs.Units.{Units}
use Rattle.py_compare.specs.Outcomes.{Outcome, new_list, new_tuple}
use Rattle.py_meaning.specs.Expressions.{displayed}
use Rattle.py_steps.specs.declared.expressions.Shape.{Shape}
use Rattle.py_steps.specs.declared.expressions.Shape.TheVariants as shape
use Rattle.py_steps.specs.declared.task.Task.{Task}
use Rattle.py_steps.specs.declared.task.Task.TheVariants as task

abbrev pub task_of : Shape → ℕ → ℕ → Task
task_of shape.Tuple line base = task.Tuple line base
task_of shape.List line base = task.List line base
task_of shape.Dict line base = task.Dict line base

abbrev pub display_of : Shape → Objects → Units → List Value → Outcome
display_of shape.Tuple h u values = new_tuple h u values
display_of shape.List h u values = new_list h u values
display_of shape.Dict h u values = displayed h u values
