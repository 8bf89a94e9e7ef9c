-- The names that parameters set are those of the parameters.
use Rattle.std.proofs.Common.{◌≡◌, ◌∙◌, ℕ, Bool, true, false, List, [], ◌∷◌, Option, Some, None, cond, ap, sym, refl}
use Rattle.std.specs.Prelude.{◌||◌, ◌&&◌, is_some, if◌then◌else◌}
use Rattle.std.specs.List.{list_any}
use Rattle.std.specs.Str.{bytes_eq}
use Rattle.std.proofs.lemmas.Slice.Eq.{bytes_eq-Decides}
use Rattle.py_heap.specs.declared.value.Value.{Value}
use Rattle.py_host.specs.Names.{Names, value_of, with_name}
use Rattle.py_meaning.specs.States.{Parameter}
use Rattle.py_meaning.specs.Arguments.{bound_onto, and_then, bind_first, bind_one, by_name, all_known}
use Rattle.py_state.specs.Arguments.{all_set}

abbrev has : Names → List ℕ → Bool
has names n = is_some (value_of names n)

or_false : (b : Bool) → (b || false) ≡ b
or_false true = refl
or_false false = refl

or_true : (b : Bool) → (b || true) ≡ true
or_true true = refl
or_true false = refl

or_assoc : (a b c : Bool) → ((a || b) || c) ≡ (a || (b || c))
or_assoc true b c = refl
or_assoc false b c = refl

-- a name in the place of the one that was there, by whether it is the one that is looked for
replaced : (b : Bool) (x y : Value) (o : Option Value) → is_some (cond b (Some x) o) ≡ (is_some (cond b (Some y) o) || b)
replaced true x y o = refl
replaced false x y o = sym (or_false (is_some o))

behind : (b c : Bool) (x : Value) (o p : Option Value) → is_some p ≡ (is_some o || c) → is_some (cond b (Some x) p) ≡ (is_some (cond b (Some x) o) || c)
behind true c x o p e = refl
behind false c x o p e = e

only_new : (b : Bool) (x : Value) → is_some (cond b (Some x) None) ≡ b
only_new true x = refl
only_new false x = refl

has_by : (e : List ℕ × Value) (es : Names) (k : List ℕ) (v : Value) (n : List ℕ) (b : Bool) → bytes_eq k e.0 ≡ b → has (with_name es k v) n ≡ (has es n || bytes_eq n k) → has (if b then (e.0, v) ∷ es else e ∷ with_name es k v) n ≡ (has (e ∷ es) n || bytes_eq n k)
has_by e es k v n true same rest = rw ((bytes_eq-Decides k e.0).0 same) (replaced (bytes_eq n e.0) v e.1 (value_of es n))
has_by e es k v n false same rest = behind (bytes_eq n e.0) (bytes_eq n k) e.1 (value_of es n) (value_of (with_name es k v) n) rest

-- with a name set, it is there, and those that were
has_set : (es : Names) (k : List ℕ) (v : Value) (n : List ℕ) → has (with_name es k v) n ≡ (has es n || bytes_eq n k)
has_set [] k v n = only_new (bytes_eq n k) v
has_set (e ∷ es) k v n = has_by e es k v n (bytes_eq k e.0) refl (has_set es k v n)

abbrev any_of : List ℕ → List Parameter → Bool
any_of n ps = list_any (λ (p : Parameter). bytes_eq n p.name) ps

next_set : (acc names : Names) (k : List ℕ) (v : Value) (ps : List Parameter) (n : List ℕ) → has names n ≡ (has (with_name acc k v) n || any_of n ps) → has names n ≡ (has acc n || (bytes_eq n k || any_of n ps))
next_set acc names k v ps n e = e ∙ ap (λ b. b || any_of n ps) (has_set acc k v n) ∙ or_assoc (has acc n) (bytes_eq n k) (any_of n ps)

some_same : {x y : Names} → (let o : Option Names = Some x in o ≡ Some y) → x ≡ y
some_same e = cc

none_some : {y : Names} → (let o : Option Names = None in o ≡ Some y) → ⊥
none_some e = cc

names_by_first : (acc names by : Names) (p : Parameter) (ps : List Parameter) (v : Value) (n : List ℕ) (rest : Names → Option Names) (b : Bool) → ((acc2 : Names) → rest acc2 ≡ Some names → has names n ≡ (has acc2 n || any_of n ps)) → and_then (if b then None else Some (with_name acc p.name v)) rest ≡ Some names → has names n ≡ (has acc n || any_of n (p ∷ ps))
names_by_first acc names by p ps v n rest true f e = absurd (none_some e)
names_by_first acc names by p ps v n rest false f e = next_set acc names p.name v ps n (f (with_name acc p.name v) e)

names_by_one : (acc names : Names) (p : Parameter) (ps : List Parameter) (o : Option Value) (n : List ℕ) (rest : Names → Option Names) → ((acc2 : Names) → rest acc2 ≡ Some names → has names n ≡ (has acc2 n || any_of n ps)) → and_then (bind_one acc p.name o) rest ≡ Some names → has names n ≡ (has acc n || any_of n (p ∷ ps))
names_by_one acc names p ps None n rest f e = absurd (none_some e)
names_by_one acc names p ps (Some v) n rest f e = next_set acc names p.name v ps n (f (with_name acc p.name v) e)

bound_names : (acc names : Names) (ps : List Parameter) (vs : List Value) (by : Names) (n : List ℕ) → bound_onto acc ps vs by ≡ Some names → has names n ≡ (has acc n || any_of n ps)
bound_names acc names [] [] by n e = ap (λ (x : Names). has x n) (sym (some_same e)) ∙ sym (or_false (has acc n))
bound_names acc names [] (v ∷ vs) by n e = absurd (none_some e)
bound_names acc names (p ∷ ps) (v ∷ vs) by n e = names_by_first acc names by p ps v n (λ more. bound_onto more ps vs by) (is_some (value_of by p.name)) (λ acc2 f. bound_names acc2 names ps vs by n f) e
bound_names acc names (p ∷ ps) [] by n e = names_by_one acc names p ps (by_name (value_of by p.name) p.default) n (λ more. bound_onto more ps [] by) (λ acc2 f. bound_names acc2 names ps [] by n f) e

-- each argument by name names a parameter where its name was set
pub all_set_is : (names : Names) (ps : List Parameter) (vs : List Value) (by given : Names) → bound_onto [] ps vs by ≡ Some names → all_set names given ≡ all_known ps given
all_set_is names ps vs by [] e = refl
all_set_is names ps vs by (x ∷ given) e = rw (bound_names [] names ps vs by x.0 e, all_set_is names ps vs by given e) refl
