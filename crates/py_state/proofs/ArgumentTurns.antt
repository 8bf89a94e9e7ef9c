-- Arguments and parameters, one after another.
use Rattle.std.proofs.Common.{arith, ◌≡◌, ◌∙◌, ◌<◌, ◌≤◌, ◌+◌, ℕ, Bool, true, false, List, [], ◌∷◌, Option, Some, None, length, drop, get_or, ap, sym, refl, inl, inr}
use Rattle.std.specs.Prelude.{slice_get, is_some, if◌then◌else◌}
use Rattle.std.proofs.lemmas.List.{drop_more, drop_all}
use Rattle.std.proofs.lemmas.Option.{slice_get_within, get_or_from_slice_get, slice_get_cases}
use Rattle.py_heap.specs.declared.value.Value.{Value}
use Rattle.py_host.specs.Names.{Names, value_of, with_name}
use Rattle.py_host.specs.Calls.{Arguments}
use Rattle.py_meaning.specs.States.{Parameter}
use Rattle.py_meaning.specs.Arguments.{bound_onto, and_then, bind_first, all_known, bound}
use Rattle.py_state.specs.Arguments.{taken_value, all_set}

there : {X : Type 0} (xs : List X) (i : ℕ) (x : X) → slice_get xs i ≡ Some x → drop i xs ≡ x ∷ drop (i + 1) xs
there xs i x s = drop_more xs i x (slice_get_within xs i x s) ∙ ap (λ y. y ∷ drop (i + 1) xs) (get_or_from_slice_get xs i x x s)

none_past : {X : Type 0} (xs : List X) (i : ℕ) → slice_get xs i ≡ None → length xs ≤ i
none_past xs i none = elim (slice_get_cases xs i).1 [
  | inl s ↦ let some : slice_get xs i ≡ Some s.0 = s.2 in cc
  | inr p ↦ p.0
]

none_there : {X : Type 0} (xs : List X) (i : ℕ) → slice_get xs i ≡ None → drop i xs ≡ []
none_there xs i s = drop_all i xs (none_past xs i s)

none_after : {X : Type 0} (xs : List X) (i : ℕ) → slice_get xs i ≡ None → drop (i + 1) xs ≡ []
none_after xs i s = let p = none_past xs i s in drop_all (i + 1) xs (omega arith)

-- a parameter takes no value
refused_by : (names by : Names) (p : Parameter) (ps : List Parameter) (vs : List Value) (o w : Option Value) (i : ℕ) → slice_get vs i ≡ o → value_of by p.name ≡ w → taken_value o w p.default ≡ None → bound_onto names (p ∷ ps) (drop i vs) by ≡ None
refused_by names by p ps vs None None i s n t = rw (none_there vs i s, n, t) refl
refused_by names by p ps vs None (Some x) i s n t = cc
refused_by names by p ps vs (Some v) None i s n t = cc
refused_by names by p ps vs (Some v) (Some x) i s n t = rw (there vs i v s, n) refl

taken_by : (names by : Names) (p : Parameter) (ps : List Parameter) (vs : List Value) (o w : Option Value) (v : Value) (i : ℕ) → slice_get vs i ≡ o → value_of by p.name ≡ w → taken_value o w p.default ≡ Some v → bound_onto names (p ∷ ps) (drop i vs) by ≡ bound_onto (with_name names p.name v) ps (drop (i + 1) vs) by
taken_by names by p ps vs None None v i s n t = rw (none_there vs i s, none_after vs i s, n, t) refl
taken_by names by p ps vs None (Some x) v i s n t = let q : x ≡ v = cc in rw (none_there vs i s, none_after vs i s, n, q) refl
taken_by names by p ps vs (Some y) None v i s n t = let q : y ≡ v = cc in rw (there vs i y s, n, q) refl
taken_by names by p ps vs (Some y) (Some x) v i s n t = cc

here : {X : Type 0} (xs : List X) (i : ℕ) (x : X) → i < length xs → x ≡ get_or xs i x → drop i xs ≡ x ∷ drop (i + 1) xs
here xs i x l e = drop_more xs i x l ∙ ap (λ y. y ∷ drop (i + 1) xs) (sym e)

pub bound_turn : (ps : List Parameter) (vs : List Value) (i : ℕ) (p : Parameter) (v : Value) (names new by : Names) (whole : Option Names) → i < length ps → p ≡ get_or ps i p → Some v ≡ taken_value (slice_get vs i) (value_of by p.name) p.default → bound_onto names (drop i ps) (drop i vs) by ≡ whole → new ≡ with_name names p.name v → bound_onto new (drop (i + 1) ps) (drop (i + 1) vs) by ≡ whole
bound_turn ps vs i p v names new by whole l e t w n =
    ap (λ b. bound_onto b (drop (i + 1) ps) (drop (i + 1) vs) by) n
    ∙ sym (ap (λ xs. bound_onto names xs (drop i vs) by) (here ps i p l e) ∙ taken_by names by p (drop (i + 1) ps) vs (slice_get vs i) (value_of by p.name) v i refl refl (sym t)) ∙ w

pub bound_refused : (ps : List Parameter) (vs : List Value) (i : ℕ) (p : Parameter) (names by : Names) (whole : Option Names) → i < length ps → p ≡ get_or ps i p → None ≡ taken_value (slice_get vs i) (value_of by p.name) p.default → bound_onto names (drop i ps) (drop i vs) by ≡ whole → None ≡ whole
bound_refused ps vs i p names by whole l e t w =
    sym (ap (λ xs. bound_onto names xs (drop i vs) by) (here ps i p l e) ∙ refused_by names by p (drop (i + 1) ps) vs (slice_get vs i) (value_of by p.name) i refl refl (sym t)) ∙ w

and_none : (o : Option Names) (f : Names → Option Names) → ((m : Names) → f m ≡ None) → and_then o f ≡ None
and_none None f h = refl
and_none (Some m) f h = h m

-- more positional arguments than parameters
pub bound_long : (names : Names) (ps : List Parameter) (vs : List Value) (by : Names) → length ps < length vs → bound_onto names ps vs by ≡ None
bound_long names [] [] by l = absurd (omega arith)
bound_long names [] (v ∷ vs) by l = refl
bound_long names (p ∷ ps) [] by l = absurd (omega arith)
bound_long names (p ∷ ps) (v ∷ vs) by l = and_none (bind_first names by p.name v) (λ more. bound_onto more ps vs by) (λ more. bound_long more ps vs by (omega arith))

none_by : (b : Bool) (o : Option Names) → None ≡ o → None ≡ (if b then o else None)
none_by true o e = e
none_by false o e = refl

pub bound_longer : (ps : List Parameter) (given : Arguments) → length ps < length given.positional → None ≡ bound ps given
bound_longer ps given l = none_by (all_known ps given.named) (bound_onto [] ps given.positional given.named) (sym (bound_long [] ps given.positional given.named l))

pub bound_none : (ps : List Parameter) (given : Arguments) → None ≡ bound_onto [] ps given.positional given.named → None ≡ bound ps given
bound_none ps given e = none_by (all_known ps given.named) (bound_onto [] ps given.positional given.named) e

-- at the end all parameters have their values
pub bound_whole : (ps : List Parameter) (given : Arguments) (names : Names) (i : ℕ) → length ps ≤ i → length given.positional ≤ length ps → bound_onto names (drop i ps) (drop i given.positional) given.named ≡ bound_onto [] ps given.positional given.named → bound_onto [] ps given.positional given.named ≡ Some names
bound_whole ps given names i l k e = sym e ∙ rw (drop_all i ps l, drop_all i given.positional (omega arith)) refl

pub bound_fits : (ps : List Parameter) (given : Arguments) (names : Names) → all_known ps given.named ≡ true → bound_onto [] ps given.positional given.named ≡ Some names → Some names ≡ bound ps given
bound_fits ps given names e f = rw e (sym f)

pub bound_unknown : (ps : List Parameter) (given : Arguments) → all_known ps given.named ≡ false → None ≡ bound ps given
bound_unknown ps given e = rw e refl

-- the arguments by name in turn
pub set_turn : (names by : Names) (i : ℕ) (e : List ℕ × Value) (whole : Bool) → slice_get by i ≡ Some e → is_some (value_of names e.0) ≡ true → all_set names (drop i by) ≡ whole → all_set names (drop (i + 1) by) ≡ whole
set_turn names by i e whole s t w = sym (ap (all_set names) (there by i e s) ∙ rw t refl) ∙ w

pub set_refused : (names by : Names) (i : ℕ) (e : List ℕ × Value) (whole : Bool) → slice_get by i ≡ Some e → is_some (value_of names e.0) ≡ false → all_set names (drop i by) ≡ whole → false ≡ whole
set_refused names by i e whole s t w = sym (ap (all_set names) (there by i e s) ∙ rw t refl) ∙ w

pub set_none : (names by : Names) (i : ℕ) (whole : Bool) → slice_get by i ≡ None → all_set names (drop i by) ≡ whole → all_set names (drop (i + 1) by) ≡ whole
set_none names by i whole s w = ap (all_set names) (none_after by i s ∙ sym (none_there by i s)) ∙ w
