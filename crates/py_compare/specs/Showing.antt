-- How values show: `str` and `repr` of the Python library reference, cut down to this subset; the forms of functions and
-- objects, units and levels are own. What a value shows is put behind a text piece by piece; what is known of that text
-- is left open, as is how pieces are put behind it.
use Rattle.std.specs.Prelude.{ℕ, zero, suc, Bool, true, false, ◌==◌, List, [], ◌∷◌, ◌++◌, Option, Some, None, Result}
use Rattle.std.specs.Prelude.{Ok, Err, if◌then◌else◌, length, map, codes}
use Rattle.py_text.specs.Numbers.{decimals}
use Rattle.py_text.specs.Quoting.{quoted as in_quotes}
use Rattle.py_heap.specs.declared.value.Value.{Value}
use Rattle.py_heap.specs.declared.value.Value.TheVariants as v
use Rattle.py_heap.specs.declared.dict.Entry.{Entry}
use Rattle.py_heap.specs.declared.fault.ValueFault.{ValueFault}
use Rattle.py_heap.specs.declared.fault.ValueFault.TheVariants as fault
use Rattle.py_heap.specs.Heap.{Objects, Entries, text_at, list_at, tuple_at, dict_at, shown_of}
use Rattle.scons_base.specs.declared.limits.TheConstants.{TEXT_LIMIT, VALUE_DEPTH_LIMIT}
use Rattle.py_heap.specs.Units.{Units, charged, limited}
use Rattle.py_compare.specs.Outcomes.{then_by}

-- a text with what was shown behind it, and the units left then
abbrev pub Shown : Type 0 → Type 0
Shown T = Result (T × Units) ValueFault

-- what stands in front of the item at a place
abbrev pub separator : ℕ → List ℕ
separator zero = []
separator (suc n) = codes ", "

abbrev pub tuple_end : ℕ → List ℕ
tuple_end n = if n == 1 then codes ",)" else codes ")"

abbrev object_text : Option (List ℕ) → List ℕ
object_text None = codes "<object>"
object_text (Some s) = s

-- values in which no others stand; a text stands in quotes within a list, tuple or dict
abbrev pub flat_text : Objects → Bool → Value → List ℕ
flat_text h quoted v.Nil = codes "None"
flat_text h quoted (v.Bool true) = codes "True"
flat_text h quoted (v.Bool false) = codes "False"
flat_text h quoted (v.Int n) = decimals n
flat_text h quoted (v.Text id) = if quoted then in_quotes (text_at h id.0) else text_at h id.0
flat_text h quoted (v.Func id) = codes "<function>"
flat_text h quoted (v.Builtin b) = codes "<built-in>"
flat_text h quoted (v.Object id) = object_text (shown_of h id.0)
flat_text h quoted (v.List id) = []
flat_text h quoted (v.Tuple id) = []
flat_text h quoted (v.Dict id) = []

-- the entries of a dict without what they are found by
abbrev pub entries_of : Entries → List Entry
entries_of es = map (λ e. e.1) es

module _ {T : Type 0} (put : T → List ℕ → T) where
  -- items one after another, from the one at a place on
  abbrev pub onto_items : (T → Units → Value → Shown T) → ℕ → T → Units → List Value → Shown T
  onto_items f n text u [] = Ok (text, u)
  onto_items f n text u (x ∷ xs) = then_by (f (put text (separator n)) u x) (λ s. onto_items f (suc n) s.0 s.1 xs)

  -- a key, a colon and the item
  abbrev pub onto_entry : (T → Units → Value → Shown T) → T → Units → Entry → Shown T
  onto_entry f text u e = then_by (f text u e.key) (λ k. f (put k.0 (codes ": ")) k.1 e.item)

  abbrev pub onto_entries : (T → Units → Value → Shown T) → ℕ → T → Units → List Entry → Shown T
  onto_entries f n text u [] = Ok (text, u)
  onto_entries f n text u (e ∷ es) =
      then_by (onto_entry f (put text (separator n)) u e) (λ s. onto_entries f (suc n) s.0 s.1 es)

  -- a closing bracket behind what was shown
  abbrev pub closed : List ℕ → Shown T → Shown T
  closed end shown = then_by shown (λ s. Ok (put s.0 end, s.1))

  abbrev pub shown_by : (T → Units → List Value → Shown T) → (T → Units → List Entry → Shown T) → Objects → Bool → T →
      Units → Value → Shown T
  shown_by items entries h quoted text u (v.List id) =
      closed (codes "]") (items (put text (codes "[")) u (list_at h id.0))
  shown_by items entries h quoted text u (v.Tuple id) =
      closed (tuple_end (length (tuple_at h id.0))) (items (put text (codes "(")) u (tuple_at h id.0))
  shown_by items entries h quoted text u (v.Dict id) =
      closed (codes "}") (entries (put text (codes "{")) u (entries_of (dict_at h id.0)))
  shown_by items entries h quoted text u v.Nil = Ok (put text (flat_text h quoted v.Nil), u)
  shown_by items entries h quoted text u (v.Bool b) = Ok (put text (flat_text h quoted (v.Bool b)), u)
  shown_by items entries h quoted text u (v.Int n) = Ok (put text (flat_text h quoted (v.Int n)), u)
  shown_by items entries h quoted text u (v.Text id) = Ok (put text (flat_text h quoted (v.Text id)), u)
  shown_by items entries h quoted text u (v.Func id) = Ok (put text (flat_text h quoted (v.Func id)), u)
  shown_by items entries h quoted text u (v.Builtin b) = Ok (put text (flat_text h quoted (v.Builtin b)), u)
  shown_by items entries h quoted text u (v.Object id) = Ok (put text (flat_text h quoted (v.Object id)), u)

  -- a value behind a text, where so many levels may still be opened. Each value met costs one unit; past the last level it
  -- is Deep.
  unfoldable pub show_at : ℕ → Objects → Bool → T → Units → Value → Shown T
  show_at zero h quoted text u x =
      then_by (charged u 1) (λ left.
      shown_by (λ t w xs. Err fault.Deep) (λ t w es. Err fault.Deep) h quoted text left x)
  show_at (suc levels) h quoted text u x =
      then_by (charged u 1) (λ left. shown_by (onto_items (show_at levels h true) 0)
      (onto_entries (show_at levels h true) 0) h quoted text left x)

  -- the same of what stands inside
  abbrev pub items_shown : ℕ → Objects → T → Units → List Value → Shown T
  items_shown zero h text u xs = Err fault.Deep
  items_shown (suc levels) h text u xs = onto_items (show_at levels h true) 0 text u xs

  abbrev pub entries_shown : ℕ → Objects → T → Units → List Entry → Shown T
  entries_shown zero h text u es = Err fault.Deep
  entries_shown (suc levels) h text u es = onto_entries (show_at levels h true) 0 text u es

-- the text itself
abbrev pub behind : List ℕ → List ℕ → List ℕ
behind text piece = text ++ piece

-- what a value shows: no longer than a text may be
abbrev pub show_of : Objects → Units → Value → Bool → Shown (List ℕ)
show_of h u x quoted =
    then_by (show_at behind VALUE_DEPTH_LIMIT h quoted [] u x) (λ s. limited TEXT_LIMIT (length s.0) s)
