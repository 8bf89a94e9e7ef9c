-- What the values of an argument are by the argument's kind, or the fault of a value of another kind.
use Rattle.std.specs.Prelude.{ℕ, pos, true, false, Bool, ◌||◌, ◌==◌, List, [], ◌∷◌, ◌++◌, Option, Some, None, Result, Ok, Err, codes, length, map, slice_get, if◌then◌else◌}
use Rattle.std.specs.Option.{ok_or}
use Rattle.std.specs.Ordering.{int_eq}
use Rattle.std.specs.Str.{bytes_eq}
use Rattle.env_pieces.specs.declared.form.Mode.{Mode}
use Rattle.env_pieces.specs.declared.form.Mode.TheVariants as mode
use Rattle.py_text.specs.Splitting.{words_of}
use Rattle.py_text.specs.Numbers.{decimals}
use Rattle.py_heap.specs.declared.value.Value.{Value}
use Rattle.py_heap.specs.declared.value.Value.TheVariants as v
use Rattle.py_heap.specs.Heap.{Objects, text_of, items_of, dict_at}
use Rattle.py_host.specs.Names.{Names, with_name}
use Rattle.scons_decls.specs.declared.given.Given.{Given}
use Rattle.scons_decls.specs.declared.given.Given.TheVariants as given
use Rattle.scons_calls.specs.declared.fault.CallFault.{CallFault}
use Rattle.scons_calls.specs.declared.fault.CallFault.TheVariants as fault
use Rattle.scons_calls.specs.declared.exports.Exports.{Exports}
use Rattle.scons_calls.specs.declared.thing.Thing.{Thing}
use Rattle.scons_calls.specs.declared.thing.Thing.TheVariants as thing
use Rattle.scons_calls.specs.Things.{Things}
use Rattle.scons_calls.specs.Flattening.{flattened}
use Rattle.scons_calls.specs.Identifiers.{is_identifier}
use Rattle.scons_calls.specs.Results.{and_then, each, each_joined, along}

-- the text that a value is
abbrev pub text_by : Objects → Value → Result (List ℕ) CallFault
text_by h x = ok_or (text_of h x) fault.Arguments

-- the node, directory or alias that an object stands for
abbrev pub place_at : Option Thing → Result Given CallFault
place_at (Some (thing.File path)) = Ok (given.File path)
place_at (Some (thing.Dir path)) = Ok (given.Dir path)
place_at (Some (thing.Alias name)) = Ok (given.Alias name)
place_at other = Err fault.Arguments

-- a path text, or a node, directory or alias
abbrev pub place_by : Objects → Things → Value → Result Given CallFault
place_by h things (v.Object id) = place_at (slice_get things id.0)
place_by h things x = and_then (text_by h x) (λ text. Ok (given.Text text))

-- path texts and nodes, flattened
abbrev pub nodes_by : Objects → Things → List Value → Result (List Given) CallFault
nodes_by h things values = and_then (flattened h values) (each (place_by h things))

-- texts as they stand, flattened
abbrev pub texts_by : Objects → List Value → Result (List (List ℕ)) CallFault
texts_by h values = and_then (flattened h values) (each (text_by h))

-- a list in a list of lines is one command and its words to SCons, and is left out here
abbrev line_of : Objects → Value → Option (List Value) → Result (List ℕ) CallFault
line_of h x (Some items) = Err (fault.LeftOut (codes "list in an action"))
line_of h x None = text_by h x

abbrev pub line_by : Objects → Value → Result (List ℕ) CallFault
line_by h x = line_of h x (items_of h x)

abbrev items_or : Option (List Value) → List Value → List Value
items_or (Some items) values = items
items_or None values = values

-- what stands for lines: the items of one list, or one value; None by itself stands for no line
abbrev pub lines_in : Objects → List Value → List Value
lines_in h (v.Nil ∷ []) = []
lines_in h (x ∷ []) = items_or (items_of h x) (x ∷ [])
lines_in h values = values

-- the texts of an action
abbrev pub lines_by : Objects → List Value → Result (List (List ℕ)) CallFault
lines_by h values = each (line_by h) (lines_in h values)

-- a word that may stand for a name; `*` stands for all names
abbrev pub word_by : List ℕ → Result (List ℕ) CallFault
word_by word = if bytes_eq word (codes "*") || is_identifier word then Ok word else Err fault.Arguments

-- the names in a text, cut at white space
abbrev pub words_by : Objects → Value → Result (List (List ℕ)) CallFault
words_by h x = and_then (text_by h x) (λ text. each word_by (words_of text))

-- names, flattened
abbrev pub names_by : Objects → List Value → Result (List (List ℕ)) CallFault
names_by h values = and_then (flattened h values) (each_joined (words_by h))

-- the pairs of a dict: each value that was given as a key, with its item
abbrev pub pairs_in : Objects → ℕ → List (Value × Value)
pairs_in h id = map (λ e. (e.1.key, e.1.item)) (dict_at h id)

-- the name that a key is
abbrev identifier_if : List ℕ → Bool → Result (List ℕ) CallFault
identifier_if name true = Ok name
identifier_if name false = Err fault.Arguments

abbrev pub identifier_by : Objects → Value → Result (List ℕ) CallFault
identifier_by h x = and_then (text_by h x) (λ name. identifier_if name (is_identifier name))

abbrev pub exported_pair : Objects → Names → Value × Value → Result Names CallFault
exported_pair h names pair = and_then (identifier_by h pair.0) (λ name. Ok (with_name names name pair.1))

-- what is exported: names whose values are looked up where the call stands, and names with their values
abbrev pub exported_one : Objects → Exports → Value → Result Exports CallFault
exported_one h exports (v.Dict id) =
    and_then (along (exported_pair h) exports.values (pairs_in h id.0)) (λ values.
    Ok (record { names = exports.names; values = values }))
exported_one h exports x =
    and_then (words_by h x) (λ names.
    Ok (record { names = exports.names ++ names; values = exports.values }))

abbrev pub no_exports : Exports
no_exports = record { names = []; values = [] }

-- names, cut at white space, and dicts of names and values, flattened
abbrev pub exports_by : Objects → List Value → Result Exports CallFault
exports_by h values = and_then (flattened h values) (along (exported_one h) no_exports)

-- the argument that says what is replaced in a text
abbrev pub replacing_fault : CallFault
replacing_fault = fault.Argument (codes "SUBST_DICT")

abbrev key_if : List ℕ → Bool → Result (List ℕ) CallFault
key_if key true = Err replacing_fault
key_if key false = Ok key

-- a key that isn't empty
abbrev pub key_by : Objects → Value → Result (List ℕ) CallFault
key_by h x = and_then (ok_or (text_of h x) replacing_fault) (λ key. key_if key (length key == 0))

-- a text, or a number in decimal digits
abbrev pub replacement_by : Objects → Value → Result (List ℕ) CallFault
replacement_by h (v.Int n) = Ok (decimals n)
replacement_by h x = ok_or (text_of h x) replacing_fault

abbrev pub replaced_pair : Objects → Value × Value → Result (List ℕ × List ℕ) CallFault
replaced_pair h pair = and_then (key_by h pair.0) (λ key. and_then (replacement_by h pair.1) (λ text. Ok (key, text)))

-- what is replaced in a text: the pairs of a dict, in its order
abbrev pub pairs_by : Objects → Value → Result (List (List ℕ × List ℕ)) CallFault
pairs_by h (v.Dict id) = each (replaced_pair h) (pairs_in h id.0)
pairs_by h x = Err replacing_fault

-- True or False, or an integer that is 1 or 0
abbrev pub flag_by : Value → Result Bool CallFault
flag_by (v.Bool flag) = Ok flag
flag_by (v.Int n) = if int_eq n (pos 1) then Ok true else (if int_eq n (pos 0) then Ok false else Err fault.Arguments)
flag_by x = Err fault.Arguments

-- how a text is substituted: 0, 1 or 2
abbrev pub mode_by : Value → Result Mode CallFault
mode_by (v.Int n) =
    if int_eq n (pos 0) then Ok mode.Text
    else (if int_eq n (pos 1) then Ok mode.Raw
    else (if int_eq n (pos 2) then Ok mode.Signed else Err fault.Arguments))
mode_by x = Err fault.Arguments
