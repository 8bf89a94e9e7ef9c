-- What a host is asked, and what it may answer.
use Rattle.std.specs.Prelude.{ℕ, List, Option, Some, None}
use Rattle.std.specs.declared.option.Option.{Option as option'}
use Rattle.py_tree.specs.declared.line.Script.{Script}
use Rattle.py_tree.specs.Tree.{Tree, script_tree}
use Rattle.py_heap.specs.declared.value.Value.{Value}
use Rattle.py_host.specs.declared.args.Args.{Args}
use Rattle.py_host.specs.declared.place.Place.{Place}
use Rattle.py_host.specs.declared.reply.Reply.{Reply}
use Rattle.py_host.specs.declared.reply.Reply.TheVariants as reply'
use Rattle.py_host.specs.Names.{Names}

-- the arguments of a call
pub record Arguments : Type 0 where
  pub positional : List Value
  pub named : Names

abbrev pub arguments_of : Args → Arguments
arguments_of args = record { positional = args.positional.items; named = args.named }

-- what is asked with the heap at hand
pub data Question : Type 0 where
  -- an object is called: where, the names of the function that calls, those of its script, the object, the arguments
  called : Place → Names → Names → ℕ → Arguments → Question
  -- an attribute of an object, an item of it, and an item of it set
  attribute : Place → ℕ → List ℕ → Question
  item : Place → ℕ → Value → Question
  set_item : Place → ℕ → Value → Value → Question
  -- a script that a call began has ended, with these names
  script_done : Names → Question
  -- a first script has ended
  next_script : Question

-- what a call gives: a value, a script to run first, names to set, the end of the script that runs
pub data Given : Type 0 where
  a_value : Value → Given
  a_script : Tree → Given
  some_names : Names → Given
  the_end : Given

abbrev pub given_of : Reply → Given
given_of (reply'.Value v) = a_value v
given_of (reply'.Script s) = a_script (script_tree s)
given_of (reply'.Names names) = some_names names
given_of reply'.Return = the_end

abbrev pub tree_of : Option Script → Option Tree
tree_of None = None
tree_of (Some s) = Some (script_tree s)

abbrev pub Answer : Question → Type 0
Answer (called place locals globals object arguments) = Given
Answer (attribute place object name) = Value
Answer (item place object key) = Value
Answer (set_item place object key v) = Unit {0}
Answer (script_done names) = Given
Answer next_script = Option Tree

-- an answer, or the host's refusal
pub data Answered (X : Type 0) : Type 0 where
  answers : X → Answered X
  refuses : Answered X
