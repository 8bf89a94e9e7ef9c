-- What a call of each name asks, from its arguments in the order of its parameters: part by part as the manual's table of names.
use Rattle.std.specs.Prelude.{ℕ, Bool, true, false, List, [], ◌∷◌, Option, Some, None, Result, Ok, Err, codes, ◌++◌, drop, fold, slice_get, if◌then◌else◌}
use Rattle.std.specs.Option.{option_flatten}
use Rattle.std.specs.Str.{bytes_eq}
use Rattle.env_pieces.specs.declared.form.Mode.{Mode}
use Rattle.env_pieces.specs.declared.form.Mode.TheVariants as mode
use Rattle.env_vars.specs.declared.value.EnvValue.{EnvValue}
use Rattle.py_heap.specs.declared.value.Value.{Value}
use Rattle.py_heap.specs.declared.value.Value.TheVariants as v
use Rattle.py_heap.specs.Heap.{Objects}
use Rattle.py_host.specs.Calls.{Arguments}
use Rattle.py_host.specs.Names.{Names, with_name}
use Rattle.scons_decls.specs.declared.builder.Builder.{Builder}
use Rattle.scons_decls.specs.declared.call.Call.{Call}
use Rattle.scons_decls.specs.declared.call.Call.TheVariants as call
use Rattle.scons_decls.specs.declared.call.Change.TheVariants as change
use Rattle.scons_decls.specs.declared.call.Maker.{Maker}
use Rattle.scons_decls.specs.declared.call.Maker.TheVariants as maker
use Rattle.scons_decls.specs.declared.call.RuleCall.TheVariants as rule
use Rattle.scons_decls.specs.declared.call.SayCall.TheVariants as say
use Rattle.scons_decls.specs.declared.given.Given.{Given}
use Rattle.scons_decls.specs.declared.given.Variables.{Variables}
use Rattle.scons_calls.specs.declared.argument.Argument.{Argument}
use Rattle.scons_calls.specs.declared.argument.Argument.TheVariants as argument
use Rattle.scons_calls.specs.declared.exports.Exports.{Exports}
use Rattle.scons_calls.specs.declared.fault.CallFault.{CallFault}
use Rattle.scons_calls.specs.declared.fault.CallFault.TheVariants as fault
use Rattle.scons_calls.specs.declared.name.Name.{Name}
use Rattle.scons_calls.specs.declared.name.Name.TheVariants as name
use Rattle.scons_calls.specs.declared.name.Builds.{Builds}
use Rattle.scons_calls.specs.declared.name.Builds.TheVariants as builds
use Rattle.scons_calls.specs.declared.name.Environs.{Environs}
use Rattle.scons_calls.specs.declared.name.Environs.TheVariants as environs
use Rattle.scons_calls.specs.declared.name.Says.{Says}
use Rattle.scons_calls.specs.declared.name.Says.TheVariants as says
use Rattle.scons_calls.specs.declared.name.Tells.{Tells}
use Rattle.scons_calls.specs.declared.name.Tells.TheVariants as tells
use Rattle.scons_calls.specs.declared.name.Shares.{Shares}
use Rattle.scons_calls.specs.declared.name.Shares.TheVariants as shares
use Rattle.scons_calls.specs.declared.request.Request.{Request}
use Rattle.scons_calls.specs.declared.request.Request.TheVariants as request
use Rattle.scons_calls.specs.declared.request.Shared.TheVariants as shared
use Rattle.scons_calls.specs.declared.request.Valued.TheVariants as valued
use Rattle.scons_calls.specs.declared.signature.Others.{Others}
use Rattle.scons_calls.specs.declared.signature.Others.TheVariants as others
use Rattle.scons_calls.specs.Things.{Things}
use Rattle.scons_calls.specs.Kinds.{no_exports}
use Rattle.scons_calls.specs.Variables.{variable_by, builders_by}
use Rattle.scons_calls.specs.Signatures.{Signature, of_builds, signature_of}
use Rattle.scons_calls.specs.Binding.{place_of, bound_by}
use Rattle.scons_calls.specs.Results.{and_then, along}

-- the arguments of a call in the order of its parameters; none where none is given
abbrev pub Bound : Type 0
Bound = List (Option Argument)

abbrev pub front : Bound → Option Argument
front args = option_flatten (slice_get args 0)

abbrev pub behind : Bound → Bound
behind args = drop 1 args

abbrev pub second : Bound → Option Argument
second args = front (behind args)

abbrev pub third : Bound → Option Argument
third args = front (behind (behind args))

abbrev pub fourth : Bound → Option Argument
fourth args = front (behind (behind (behind args)))

-- an argument as what its kind says; what stands for one that isn't given
abbrev pub text_in : Option Argument → List ℕ
text_in (Some (argument.Text text)) = text
text_in other = []

abbrev pub nodes_in : Option Argument → List Given
nodes_in (Some (argument.Nodes nodes)) = nodes
nodes_in other = []

abbrev pub texts_in : Option Argument → List (List ℕ)
texts_in (Some (argument.Texts texts)) = texts
texts_in other = []

abbrev pub pairs_in : Option Argument → List (List ℕ × List ℕ)
pairs_in (Some (argument.Pairs pairs)) = pairs
pairs_in other = []

abbrev pub exports_in : Option Argument → Exports
exports_in (Some (argument.Exports exports)) = exports
exports_in other = no_exports

abbrev pub flag_in : Option Argument → Bool
flag_in (Some (argument.Flag flag)) = flag
flag_in other = true

abbrev pub mode_in : Option Argument → Mode
mode_in (Some (argument.Mode m)) = m
mode_in other = mode.Text

abbrev pub value_in : Option Argument → Value
value_in (Some (argument.Any x)) = x
value_in other = v.Nil

abbrev pub place_in : Option Argument → Option Given
place_in (Some (argument.Place place)) = Some place
place_in other = None

-- a place that must stand
abbrev pub place_for : Option Argument → Result Given CallFault
place_for (Some (argument.Place place)) = Ok place
place_for other = Err fault.Arguments

-- targets, if any are given, and sources: where one list alone is given it is the sources
abbrev targets_and : Option Argument → Option Argument → Result (Option (List Given) × List Given) CallFault
targets_and None None = Err fault.Arguments
targets_and (Some one) None = Ok (None, nodes_in (Some one))
targets_and None (Some one) = Ok (None, nodes_in (Some one))
targets_and (Some targets) (Some sources) = Ok (Some (nodes_in (Some targets)), nodes_in (Some sources))

abbrev pub targets_and_sources : Bound → Result (Option (List Given) × List Given) CallFault
targets_and_sources args = targets_and (front args) (second args)

abbrev pub maker_of : Builds → Maker
maker_of builds.Object = maker.Object
maker_of builds.Program = maker.Program
maker_of builds.StaticLibrary = maker.StaticLibrary
maker_of builds.Library = maker.StaticLibrary

abbrev pub declares : Call → Request
declares one = request.Gives (valued.Declare one)

-- a call of a builder
abbrev pub built : Maker → Bound → Variables → Result Request CallFault
built by args variables =
    and_then (targets_and_sources args) (λ nodes.
    Ok (declares (call.Rules (rule.Build by nodes.0 nodes.1 variables))))

abbrev pub builder_of : Bound → Builder
builder_of args = record {
  action = texts_in (front args);
  prefix = text_in (fourth args);
  suffix = text_in (second args);
  src_suffix = text_in (third args);
}

-- the names that are called with variables, or act on them
abbrev pub environs_call : Environs → Bound → Variables → Result Call CallFault
environs_call environs.Environment args variables = Ok (call.Environment variables)
environs_call environs.DefaultEnvironment args variables = Ok (call.DefaultEnvironment variables)
environs_call environs.Clone args variables = Ok (call.Clone variables)
environs_call environs.Append args variables = Ok (call.Change change.Append variables)
environs_call environs.Prepend args variables = Ok (call.Change change.Prepend variables)
environs_call environs.AppendUnique args variables = Ok (call.Change change.AppendUnique variables)
environs_call environs.Replace args variables = Ok (call.Change change.Replace variables)
environs_call environs.SetDefault args variables = Ok (call.Change change.SetDefault variables)
environs_call environs.Subst args variables = Ok (call.Subst (text_in (front args)) (mode_in (second args)))
environs_call environs.Command args variables =
    Ok (call.Rules (rule.Command (nodes_in (front args)) (nodes_in (second args)) (texts_in (third args)) variables))
environs_call environs.Textfile args variables =
    Ok (call.Rules (rule.Textfile (nodes_in (front args)) (texts_in (second args)) (pairs_in (third args)) variables))
environs_call environs.Substfile args variables =
    and_then (targets_and_sources args) (λ nodes.
    Ok (call.Rules (rule.Substfile nodes.0 nodes.1 (pairs_in (third args)) variables)))
environs_call environs.Builder args variables = Ok (call.NewBuilder (builder_of args))
environs_call environs.Decider args variables = Ok (call.Decider (text_in (front args)))
environs_call environs.Help args variables = Ok (call.Help (text_in (front args)))

-- nothing, or None, is left out of what `Default` takes
abbrev pub default_of : List Given → Result Call CallFault
default_of [] = Err (fault.LeftOut (codes "Default(None)"))
default_of (node ∷ nodes) = Ok (call.Default (node ∷ nodes))

-- the names that say something of nodes
abbrev pub says_call : Says → Bound → Result Call CallFault
says_call says.Install args = Ok (call.Rules (rule.Install (nodes_in (front args)) (nodes_in (second args))))
says_call says.InstallAs args = Ok (call.Rules (rule.InstallAs (nodes_in (front args)) (nodes_in (second args))))
says_call says.VariantDir args =
    and_then (place_for (front args)) (λ variant.
    and_then (place_for (second args)) (λ source.
    Ok (call.VariantDir variant source (flag_in (third args)))))
says_call says.Depends args = Ok (call.Says (say.Depends (nodes_in (front args)) (nodes_in (second args))))
says_call says.Requires args = Ok (call.Says (say.Requires (nodes_in (front args)) (nodes_in (second args))))
says_call says.Ignore args = Ok (call.Says (say.Ignore (nodes_in (front args)) (nodes_in (second args))))
says_call says.AlwaysBuild args = Ok (call.Says (say.AlwaysBuild (nodes_in (front args))))
says_call says.Alias args = Ok (call.Says (say.Alias (nodes_in (front args)) (nodes_in (second args))))
says_call says.Default args = default_of (nodes_in (front args))
says_call says.File args = and_then (place_for (front args)) (λ place. Ok (call.File place))
says_call says.Dir args = and_then (place_for (front args)) (λ place. Ok (call.Dir place))

-- the names that the host answers by itself
abbrev pub tells_request : Tells → Bound → Request
tells_request tells.Get args = request.Gives (valued.Get (text_in (front args)) (value_in (second args)))
tells_request tells.Glob args = request.Glob (text_in (front args))
tells_request tells.Split args = request.Gives (valued.Split (value_in (front args)))
tells_request tells.Flatten args = request.Gives (valued.Flatten (value_in (front args)))
tells_request tells.EnsureSConsVersion args = request.Gives valued.Nothing
tells_request tells.EnsurePythonVersion args = request.Gives valued.Nothing

-- Export takes names with their values as named arguments too
abbrev pub named_one : Names → List ℕ × Value → Names
named_one names pair = if bytes_eq pair.0 (codes "names") then names else with_name names pair.0 pair.1

abbrev pub named_all : Names → Names → Names
named_all values named = fold named_one values named

abbrev pub with_named : Exports → Names → Exports
with_named exports named = record { names = exports.names; values = named_all exports.values named }

-- the names that scripts share
abbrev pub shares_request : Shares → Bound → Names → Request
shares_request shares.SConscript args named = request.Scripts (record {
  files = nodes_in (front args);
  exports = exports_in (second args);
  variant = place_in (third args);
  duplicate = flag_in (fourth args);
})
shares_request shares.Export args named = request.Shares (shared.Export (with_named (exports_in (front args)) named))
shares_request shares.Import args named = request.Shares (shared.Import (texts_in (front args)))
shares_request shares.Return args named = request.Shares (shared.Return (texts_in (front args)))

abbrev pub no_variables : Variables
no_variables = record { values = []; builders = [] }

abbrev put_value : Variables → List ℕ → EnvValue → Variables
put_value variables name x = record { values = variables.values ++ (name, x) ∷ []; builders = variables.builders }

abbrev pub put_variable : Objects → Things → Variables → List ℕ × Value → Bool → Result Variables CallFault
put_variable h things variables pair true =
    and_then (builders_by h things pair.1) (λ builders. Ok (record { values = variables.values; builders = builders }))
put_variable h things variables pair false =
    and_then (variable_by h things pair.0 pair.1) (λ x. Ok (put_value variables pair.0 x))

abbrev pub is_builders : List ℕ → Bool
is_builders name = bytes_eq name (codes "BUILDERS")

abbrev unless_parameter : Objects → Things → Variables → List ℕ × Value → Option ℕ → Result Variables CallFault
unless_parameter h things variables pair (Some place) = Ok variables
unless_parameter h things variables pair None = put_variable h things variables pair (is_builders pair.0)

-- a named argument that no parameter is called by is a variable
abbrev pub one_variable : Objects → Things → Signature → Variables → List ℕ × Value → Result Variables CallFault
one_variable h things sig variables pair = unless_parameter h things variables pair (place_of sig pair.0)

abbrev pub all_variables : Objects → Things → Signature → Names → Result Variables CallFault
all_variables h things sig named = along (one_variable h things sig) no_variables named

abbrev variables_if : Objects → Things → Signature → Names → Others → Result Variables CallFault
variables_if h things sig named others.Variables = all_variables h things sig named
variables_if h things sig named rest = Ok no_variables

-- the variables that a call gives, in its order
abbrev pub variables_by : Objects → Things → Signature → Names → Result Variables CallFault
variables_by h things sig named = variables_if h things sig named sig.others

abbrev pub asked : Name → Bound → Variables → Names → Result Request CallFault
asked (name.Builds one) args variables named = built (maker_of one) args variables
asked (name.Environs one) args variables named = and_then (environs_call one args variables) (λ c. Ok (declares c))
asked (name.Says one) args variables named = and_then (says_call one args) (λ c. Ok (declares c))
asked (name.Tells one) args variables named = Ok (tells_request one args)
asked (name.Shares one) args variables named = Ok (shares_request one args named)

-- what a call of a name asks
abbrev pub request_of : Objects → Things → Name → Arguments → Result Request CallFault
request_of h things one args =
    and_then (bound_by h things (signature_of one) args) (λ given.
    and_then (variables_by h things (signature_of one) args.named) (λ variables.
    asked one given variables args.named))

-- what a call of an environment's own builder asks
abbrev pub own_request_of : Objects → Things → List ℕ → Arguments → Result Request CallFault
own_request_of h things own args =
    and_then (bound_by h things of_builds args) (λ given.
    and_then (variables_by h things of_builds args.named) (λ variables.
    built (maker.Own own) given variables))
