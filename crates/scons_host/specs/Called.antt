-- Calls of objects: what is asked, bound and typed, and in which environment; and what is answered of the names that scripts share.
use Rattle.std.specs.Prelude.{ℕ, Bool, true, false, List, Option, Some, None, Result, Ok, Err, is_some, slice_get}
use Rattle.py_heap.specs.declared.value.Value.TheVariants as v
use Rattle.py_heap.specs.Heap.{Objects}
use Rattle.py_host.specs.Calls.{Arguments, Given, a_value, some_names, the_end}
use Rattle.py_host.specs.Names.{Names}
use Rattle.scons_decls.specs.Environs.{builder_of}
use Rattle.scons_calls.specs.declared.fault.CallFault.{CallFault}
use Rattle.scons_calls.specs.declared.request.Request.{Request}
use Rattle.scons_calls.specs.declared.request.Shared.{Shared}
use Rattle.scons_calls.specs.declared.request.Shared.TheVariants as shared
use Rattle.scons_calls.specs.declared.thing.Thing.{Thing}
use Rattle.scons_calls.specs.declared.thing.Thing.TheVariants as thing
use Rattle.scons_calls.specs.Names.{name_at, text_at}
use Rattle.scons_calls.specs.Requests.{request_of, own_request_of}
use Rattle.scons_calls.specs.Results.{and_then}
use Rattle.scons_host.specs.declared.stop.Refusal.{Refusal}
use Rattle.scons_host.specs.Asked.{Step}
use Rattle.scons_host.specs.Refusals.{of_call, bad_argument, told_by, shown_as}
use Rattle.scons_host.specs.Sharing.{export, import, return}
use Rattle.scons_host.specs.SoFar.{SoFar}

-- what is asked, in which environment
abbrev pub Asks : Type 0
Asks = Result (ℕ × Request) Refusal

abbrev pub taken : List ℕ → Result Request CallFault → Result Request Refusal
taken called asked = told_by (of_call called) asked

abbrev pub in_env : ℕ → List ℕ → Result Request CallFault → Asks
in_env env called asked = and_then (taken called asked) (λ r. Ok (env, r))

abbrev pub named_if : SoFar → Objects → ℕ → Arguments → Bool → Result Request CallFault
named_if s h n args true = own_request_of h s.objects (text_at n) args
named_if s h n args false = request_of h s.objects (name_at n) args

-- what a name asks of an environment: its own builder where it has one that is called so
abbrev pub named : SoFar → Objects → ℕ → ℕ → Arguments → Asks
named s h env n args = in_env env (text_at n) (named_if s h n args (is_some (builder_of s.declared.envs env (text_at n))))

-- a name that stands alone is asked of the default environment, the first
abbrev pub asks_of : SoFar → Objects → ℕ → Arguments → Option Thing → Asks
asks_of s h object args (Some (thing.Name n)) = named s h 0 n.0 args
asks_of s h object args (Some (thing.Method env n)) = in_env env.0 (text_at n.0) (request_of h s.objects (name_at n.0) args)
asks_of s h object args (Some (thing.OwnMethod env own)) = in_env env.0 own (own_request_of h s.objects own args)
asks_of s h object args (Some (thing.Env env)) = Err (bad_argument (shown_as h object))
asks_of s h object args (Some (thing.Builders env)) = Err (bad_argument (shown_as h object))
asks_of s h object args (Some (thing.Builder number)) = Err (bad_argument (shown_as h object))
asks_of s h object args (Some (thing.File path)) = Err (bad_argument (shown_as h object))
asks_of s h object args (Some (thing.Dir path)) = Err (bad_argument (shown_as h object))
asks_of s h object args (Some (thing.Alias name)) = Err (bad_argument (shown_as h object))
asks_of s h object args None = Err (bad_argument (shown_as h object))

-- what the call of an object asks
abbrev pub asks : SoFar → Objects → ℕ → Arguments → Asks
asks s h object args = asks_of s h object args (slice_get s.objects object)

-- `Export(..)`, `Import(..)` and `Return(..)`, by the names of the function that calls and of its script
abbrev pub shares : SoFar → Objects → Names → Names → Shared → Step Given
shares s h locals globals (shared.Export exports) = and_then (export s locals globals exports) (λ t. Ok (a_value v.Nil, t, h))
shares s h locals globals (shared.Import names) = and_then (import s names) (λ scope. Ok (some_names scope, s, h))
shares s h locals globals (shared.Return names) = and_then (return s h locals globals names) (λ m. Ok (the_end, m.0, m.1))
