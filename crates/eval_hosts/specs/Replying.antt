-- What the host that replies means: what each of its objects replies, and which scripts are left then.
use Rattle.std.specs.Prelude.{◌≡◌, ℕ, pos, ◌==◌, ◌≤◌, ◌^◌, List, [], ◌∷◌, ◌++◌, Option, Some, None, if◌then◌else◌}
use Rattle.std.specs.Prelude.{nat_lt, length, codes, map, reverse, string_bytes}
use Rattle.std.specs.Str.{bytes_eq}
use Rattle.py_tree.specs.Tree.{Tree, script_tree}
use Rattle.py_heap.specs.declared.value.Value.{Value}
use Rattle.py_heap.specs.declared.value.Value.TheVariants as v
use Rattle.py_heap.specs.Heap.{Objects, text_of}
use Rattle.py_host.specs.Names.{Names, value_of, with_names}
use Rattle.py_host.specs.Calls.{Question, Answer, Answered, Arguments, Given, answers, refuses, called, attribute}
use Rattle.py_host.specs.Calls.{item, set_item, script_done, next_script, a_value, a_script, some_names, the_end}
use Rattle.py_host.specs.Meaning.{Meaning}
use Rattle.eval_hosts.specs.Refusals.{raised}
use Rattle.eval_hosts.specs.declared.replying.Replying.{Replying}
use Rattle.eval_hosts.specs.Texts.{Grown}

pub record Replier : Type 0 where
  pub text : List ℕ
  -- the scripts that calls of `run` begin, and those behind the first one, the next ones first
  pub inner : List Tree
  pub further : List Tree
  pub refusals : ℕ

-- what is seen of the host
abbrev pub seen : Replying → Replier
seen r =
    record {
      text = string_bytes r.printed;
      inner = reverse (map script_tree r.inner.items);
      further = reverse (map script_tree r.first.items);
      refusals = r.refusals;
    }

-- an answer, and the host after it
abbrev pub Turn : Type 0 → Type 0
Turn X = Answered X × Replier

abbrev pub answer : {X : Type 0} → X → Replier → Turn X
answer x h = (answers x, h)

abbrev pub refusal : {X : Type 0} → Replier → Turn X
refusal h = (refuses, record h { refusals = raised h.refusals })

-- the objects by their names
abbrev pub object_in : List (List ℕ × ℕ) → List ℕ → Option Value
object_in [] n = None
object_in (e ∷ es) n = if bytes_eq n e.0 then Some (v.Object (record { 0 = e.1 })) else object_in es n

abbrev pub objects : List (List ℕ × ℕ)
objects =
    (codes "value", 0) ∷ (codes "run", 1) ∷ (codes "names", 2) ∷ (codes "stop", 3)
    ∷ (codes "locals", 4) ∷ (codes "globals", 5) ∷ (codes "thing", 6) ∷ []

-- a number as a value, where it is one
abbrev pub number_of : ℕ → Value
number_of n = if nat_lt n (2 ^ 63) then v.Int (pos n) else v.Nil

abbrev pub first_or_nil : List Value → Value
first_or_nil [] = v.Nil
first_or_nil (x ∷ xs) = x

-- the next script, if there is one, and those behind it
abbrev pub next_of : List Tree → Option Tree
next_of [] = None
next_of (t ∷ ts) = Some t

abbrev pub left_of : List Tree → List Tree
left_of [] = []
left_of (t ∷ ts) = ts

abbrev pub script_or : (Replier → Turn Given) → Option Tree → Replier → Turn Given
script_or other None h = other h
script_or other (Some t) h = answer (a_script t) h

-- the next script within; where there is none, something else
abbrev pub next_inner : (Replier → Turn Given) → Replier → Turn Given
next_inner other h = script_or other (next_of h.inner) (record h { inner = left_of h.inner })

-- `value` gives its first argument, `run` runs the next script, `names` sets the arguments by name, `stop` ends the script,
-- `locals` and `globals` count the names; no other object is called
abbrev pub call_turn : ℕ → Names → Names → Arguments → Replier → Turn Given
call_turn object locals globals given h =
    if object == 0 then answer (a_value (first_or_nil given.positional)) h
    else if object == 1 then next_inner refusal h
    else if object == 2 then answer (some_names (with_names [] given.named)) h
    else if object == 3 then answer the_end h
    else if object == 4 then answer (a_value (number_of (length locals))) h
    else if object == 5 then answer (a_value (number_of (length globals))) h
    else refusal h

-- `run` is the object of that name, and another attribute the count of its bytes
abbrev pub attribute_turn : List ℕ → Replier → Turn Value
attribute_turn name h =
    if bytes_eq name (codes "run") then answer (v.Object (record { 0 = 1 })) h
    else if nat_lt (length name) (2 ^ 63) then answer (v.Int (pos (length name))) h
    else refusal h

-- a value as it is told of
abbrev pub told : Option (List ℕ) → List ℕ
told None = codes "no text"
told (Some text) = text

abbrev pub set_turn : Objects → Value → Value → Replier → Turn (Unit {0})
set_turn o key x h =
    answer tt (record h {
      text = h.text ++ (told (text_of o key) ++ codes " is set to " ++ told (text_of o x) ++ 10 ∷ []);
    })

-- a script within gives what it set as `answer`; where it set nothing, the next one is run, if there is one
abbrev pub done_turn : Option Value → Replier → Turn Given
done_turn (Some x) h = answer (a_value x) h
done_turn None h = next_inner (answer (a_value v.Nil)) h

abbrev pub further_turn : Replier → Turn (Option Tree)
further_turn h = answer (next_of h.further) (record h { further = left_of h.further })

abbrev pub turn : (q : Question) → Objects → Replier → Turn (Answer q)
turn (called place locals globals object given) o h = call_turn object locals globals given h
turn (attribute place object name) o h = attribute_turn name h
turn (item place object key) o h = answer key h
turn (set_item place object key x) o h = set_turn o key x h
turn (script_done names) o h = done_turn (value_of names (codes "answer")) h
turn next_script o h = further_turn h

abbrev pub prints : Replier → List ℕ → Answered (Unit {0}) → Replier → Type 0
prints h text (answers u) h2 = h2 ≡ record h { text = h.text ++ text }
prints h text refuses h2 = ⊥

-- what was printed stays printed, whatever is asked, and refusals are counted
pub record Keeps (h h2 : Replier) : Type 0 where
  pub text : Grown h.text h2.text
  pub refusals : h.refusals ≤ h2.refusals

abbrev pub replying : Meaning Replier
replying = record {
  names = λ h name v h2. (v ≡ object_in objects name) × (h2 ≡ h);
  prints = prints;
  replies = λ q h o a h2 o2. (a ≡ (turn q o h).0) × (h2 ≡ (turn q o h).1) × (o2 ≡ o);
  keeps = Keeps;
  tells = λ h. Unit {0};
  alike = λ h k. h ≡ k;
  escaped = λ h h2. ⊥;
  refusals = λ h. h.refusals;
}
