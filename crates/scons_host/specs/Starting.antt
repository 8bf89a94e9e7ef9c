-- What stands as the first script begins: nothing was read yet, and scripts see the words `NAME=value` of the command line.
use Rattle.std.specs.Prelude.{◌≡◌, ℕ, List, [], ◌∷◌, ◌++◌, Result, Ok, codes}
use Rattle.py_heap.specs.declared.value.Value.{Value}
use Rattle.py_heap.specs.declared.fault.ValueFault.{ValueFault}
use Rattle.py_heap.specs.Given.{given_text, given_dict}
use Rattle.py_heap.specs.Heap.{Objects}
use Rattle.env_subst.specs.declared.locals.Locals.{Locals}
use Rattle.scons_decls.specs.Environs.{with_new}
use Rattle.scons_decls.specs.State.{Declared}
use Rattle.scons_calls.specs.Results.{and_then, along}
use Rattle.scons_calls.specs.Things.{with_names}
use Rattle.scons_host.specs.Asked.{OnHeap}
use Rattle.scons_host.specs.Refusals.{of_value, told_by}
use Rattle.scons_host.specs.SoFar.{SoFar}

-- the two texts of a word `NAME=value`
abbrev pub pair_of : Objects → List ℕ × List ℕ → Result ((Value × Value) × Objects) ValueFault
pair_of h word = and_then (given_text h word.0) (λ n. and_then (given_text n.1 word.1) (λ x. Ok ((n.0, x.0), x.1)))

abbrev pub one_pair : List (Value × Value) × Objects → List ℕ × List ℕ → Result (List (Value × Value) × Objects) ValueFault
one_pair made word = and_then (pair_of made.1 word) (λ p. Ok (made.0 ++ p.0 ∷ [], p.1))

-- those of all such words, one after another
abbrev pub pairs_of : Objects → List (List ℕ × List ℕ) → Result (List (Value × Value) × Objects) ValueFault
pairs_of h words = along one_pair ([], h) words

abbrev pub arguments_given : Objects → List (List ℕ × List ℕ) → Result (Value × Objects) ValueFault
arguments_given h words = and_then (pairs_of h words) (λ m. given_dict m.1 m.0)

-- `ARGUMENTS`: the words `NAME=value` of the command line as a dict
abbrev pub arguments : Objects → List (List ℕ × List ℕ) → OnHeap Value
arguments h words = told_by of_value (arguments_given h words)

-- what texts of scripts are read with at first: the nodes of no rule, from the top directory on, and no variant directory
pub record AreFirst (path : List ℕ) (l : Locals) : Type 0 where
  pub targets : l.targets.items ≡ []
  pub sources : l.sources.items ≡ []
  pub smartlink : l.smartlink ≡ codes "$CC"
  pub dir : l.dir ≡ codes "."
  pub top : l.top ≡ path
  pub variants : l.variants ≡ []

-- nothing is declared
abbrev pub undeclared : Locals → Declared
undeclared l = record {
  envs = with_new (record { scopes = []; choices = [] });
  locals = l;
  builders = [];
  rules = [];
  made = [];
  said = [];
  aliases = [];
  defaults = [];
  helps = [];
  outer = [];
}

-- nothing was read, where these are the arguments of the command line
abbrev pub unread : List ℕ → Locals → Value → SoFar
unread top l arguments = record {
  objects = with_names [];
  declared = undeclared l;
  arguments = arguments;
  exports = [];
  waiting = [];
  scripts = [];
  first = [];
  top = top;
}
