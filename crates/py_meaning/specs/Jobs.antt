-- What there is to do.
use Rattle.std.specs.Prelude.{ℕ, List, Option}
use Rattle.py_tree.specs.Tree.{Tree}
use Rattle.py_heap.specs.declared.value.Value.{Value}
use Rattle.py_methods.specs.declared.name.Name.{Name}
use Rattle.py_host.specs.Calls.{Arguments, Given}
use Rattle.py_meaning.specs.Loops.{Walk}

-- what is called: a value, or a method of one
pub data Callee : Type 0 where
  a_value : Value → Callee
  a_method : Value → Name → Callee

pub data Job : Type 0 where
  -- an expression; several; nothing or an expression, which gives None where it is left out
  eval : Tree → Job
  eval_all : Tree → Job
  eval_or_nil : Tree → Job
  -- what stands behind a value: the line of the name token before it, if there is one, and calls, indices and attributes
  links : Value → Option ℕ → Tree → Job
  -- operators behind their left operand
  operations : Value → Tree → Job
  -- the turns of a comprehension: its line, what is left to go over, the items so far, the item, the names, the tests
  collect : ℕ → Walk → List Value → Tree → Tree → Tree → Job
  -- the `if` tests of a comprehension on this line: whether all hold
  tests : ℕ → Tree → Job
  -- a call on this line; the call once it is open; and what a host replied to it
  call : ℕ → Callee → Arguments → Job
  perform : ℕ → Callee → Arguments → Job
  reply : ℕ → Given → Job
  -- a script that a call on this line began, and then what the host says of it
  inner_script : ℕ → Tree → Job
  -- a statement, or lines
  exec : Tree → Job
  exec_all : Tree → Job
  -- the branches of an `if`, and its `else`
  branches : Tree → Tree → Job
  -- the turns of a `for`: its line, what is left to go over, its names, its block
  turns : ℕ → Walk → Tree → Tree → Job
  -- the turns of a `while`: its line, its test, its block
  rounds : ℕ → Tree → Tree → Job
  -- first scripts, from this one on
  first_scripts : Tree → Job
