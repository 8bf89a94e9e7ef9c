-- What is left to show, behind the text so far; the heap stays as it is.
use Rattle.std.proofs.Common.{◌≡◌, [], drop}
use Rattle.std.specs.String.{string_bytes}
use Rattle.py_meaning.specs.Calls.{shown_line}
use Rattle.py_state.specs.Stores.{store_of}
use Rattle.py_eval.proofs.printing.printed.Given as goal

abbrev pub invariant-values : goal.invariant-values
invariant-values l = record {
  shown : shown_line l.place l.fn.machine.heap (string_bytes l.text) l.machine.budget (drop l.place l.values) ≡ shown_line 0 l.fn.machine.heap [] l.fn.machine.budget l.values;
  stays : store_of l.machine ≡ record (store_of l.fn.machine) { units = l.machine.budget };
}
