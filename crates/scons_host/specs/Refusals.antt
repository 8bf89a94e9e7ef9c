-- The faults of the layers below, as refusals of a line of a script.
use Rattle.std.specs.Prelude.{ℕ, List, Result, Ok, Err, codes, unwrap_or}
use Rattle.py_heap.specs.Heap.{Objects, shown_of}
use Rattle.py_heap.specs.declared.fault.ValueFault.{ValueFault}
use Rattle.py_heap.specs.declared.fault.ValueFault.TheVariants as value
use Rattle.py_meaning.specs.declared.fault.EvalKind.TheVariants as eval
use Rattle.scons_decls.specs.declared.fault.NameFault.{NameFault}
use Rattle.scons_decls.specs.declared.fault.NameFault.TheVariants as name
use Rattle.scons_calls.specs.declared.fault.CallFault.{CallFault}
use Rattle.scons_calls.specs.declared.fault.CallFault.TheVariants as call
use Rattle.scons_host.specs.declared.end.ReadKind.TheVariants as read
use Rattle.scons_host.specs.declared.stop.Refusal.{Refusal}
use Rattle.scons_host.specs.declared.stop.Refusal.TheVariants.{Kind, Memory}
use Rattle.scons_host.specs.declared.stop.Stop.{Stop}
use Rattle.scons_host.specs.declared.stop.Stop.TheVariants as stop

abbrev pub of_name : NameFault → Refusal
of_name name.Memory = Memory
of_name (name.BadArgument argument) = Kind (read.Name (name.BadArgument argument))
of_name (name.OutOfProfile word) = Kind (read.Name (name.OutOfProfile word))
of_name (name.UnknownBuilder word) = Kind (read.Name (name.UnknownBuilder word))
of_name name.NoSource = Kind (read.Name name.NoSource)
of_name (name.BadSuffix path) = Kind (read.Name (name.BadSuffix path))
of_name name.EmptyAction = Kind (read.Name name.EmptyAction)
of_name (name.NotExported word) = Kind (read.Name (name.NotExported word))
of_name (name.BadPath fault) = Kind (read.Name (name.BadPath fault))
of_name (name.ShellPath path) = Kind (read.Name (name.ShellPath path))
of_name (name.NoRule path) = Kind (read.Name (name.NoRule path))
of_name (name.Variant fault) = Kind (read.Name (name.Variant fault))
of_name (name.Kinds variable) = Kind (read.Name (name.Kinds variable))
of_name name.ScriptDepth = Kind (read.Name name.ScriptDepth)
of_name (name.TwoRules path) = Kind (read.Name (name.TwoRules path))
of_name (name.SelfSource path) = Kind (read.Name (name.SelfSource path))
of_name (name.Subst fault) = Kind (read.Name (name.Subst fault))

abbrev pub of_value : ValueFault → Refusal
of_value value.Memory = Memory
of_value (value.Mismatch first second) = Kind (read.Eval (eval.Value (value.Mismatch first second)))
of_value (value.Index place length) = Kind (read.Eval (eval.Value (value.Index place length)))
of_value (value.Key key) = Kind (read.Eval (eval.Value (value.Key key)))
of_value (value.KeyKind kind) = Kind (read.Eval (eval.Value (value.KeyKind kind)))
of_value value.Overflow = Kind (read.Eval (eval.Value value.Overflow))
of_value value.Zero = Kind (read.Eval (eval.Value value.Zero))
of_value value.BadText = Kind (read.Eval (eval.Value value.BadText))
of_value value.NoMethod = Kind (read.Eval (eval.Value value.NoMethod))
of_value (value.TooBig size) = Kind (read.Eval (eval.Value (value.TooBig size)))
of_value value.Deep = Kind (read.Eval (eval.Value value.Deep))
of_value (value.Budget used) = Kind (read.Eval (eval.Value (value.Budget used)))

abbrev pub bad_argument : List ℕ → Refusal
bad_argument word = Kind (read.Name (name.BadArgument word))

abbrev pub left_out : List ℕ → Refusal
left_out word = Kind (read.Name (name.OutOfProfile word))

abbrev pub not_exported : List ℕ → Refusal
not_exported word = Kind (read.Name (name.NotExported word))

-- an environment has nothing under this name
abbrev pub no_such_key : List ℕ → Refusal
no_such_key word = Kind (read.Key word)

-- a call by this name that isn't taken
abbrev pub of_call : List ℕ → CallFault → Refusal
of_call called call.Arguments = bad_argument called
of_call called (call.Argument word) = bad_argument word
of_call called (call.LeftOut word) = left_out word
of_call called call.Memory = Memory

abbrev pub of_refusal : Refusal → Stop
of_refusal (Kind kind) = stop.Here kind
of_refusal Memory = stop.Memory

-- what comes of a step, with its fault told in other words
abbrev pub told_by : {X D E : Type 0} → (D → E) → Result X D → Result X E
told_by f (Ok x) = Ok x
told_by f (Err fault) = Err (f fault)

-- how an object shows, for what is told of it; one that shows as nothing is an environment
abbrev pub shown_as : Objects → ℕ → List ℕ
shown_as h object = unwrap_or (shown_of h object) (codes "env")
