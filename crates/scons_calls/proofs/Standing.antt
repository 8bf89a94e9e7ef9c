-- What a heap is given leaves what stands in it.
use Rattle.std.specs.Prelude.{◌≡◌, ℕ, List, [], Bool, true, false, if◌then◌else◌, Option, Some, None, Result, Ok, Err, IfOk, OnErr, nat_le, length}
use Rattle.std.proofs.Common.{sym, ap, subst, refl}
use Rattle.scons_base.specs.declared.limits.TheConstants.{TEXT_LIMIT, LIST_LIMIT}
use Rattle.py_heap.specs.declared.value.Value.{Value}
use Rattle.py_heap.specs.declared.value.Value.TheVariants as value
use Rattle.py_heap.specs.declared.fault.ValueFault.{ValueFault}
use Rattle.py_heap.specs.declared.fault.ValueFault.TheVariants as fault
use Rattle.py_heap.specs.Heap.{Objects, Entries, with_text, with_list, with_tuple, with_dict, with_shown}
use Rattle.py_heap.specs.Given.{given_text, given_list, given_tuple, given_dict, given_object, with_pairs, next_text, next_list, next_tuple, next_dict}
use Rattle.py_heap.specs.Units.{limited, told_length}
use Rattle.py_host.specs.Extends.{Extends}
use Rattle.py_host.proofs.Extending.{extends_same, extends_text, extends_list, extends_tuple, extends_dict, extends_shown}

-- a value, and the heap in which it stands
abbrev Made : Type 0
Made = Value × Objects

if_gives : (b : Bool) (x y : Made) (f : ValueFault) → (if b then Ok x else Err f) ≡ Ok y → x ≡ y
if_gives true x y f e = cc
if_gives false x y f e = cc

limited_gives : (limit n : ℕ) (x y : Made) → limited limit n x ≡ Ok y → x ≡ y
unfolding limited
limited_gives limit n x y e = if_gives (nat_le n limit) x y (fault.TooBig (told_length n)) e

abbrev object_of : ℕ → Value
object_of id = value.Object (record { 0 = id })

-- what a call leaves: what it made, within a limit
left_by : (h h2 made : Objects) (v w : Value) (limit n : ℕ) → Extends h made → limited {X = Made} limit n (v, made) ≡ Ok (w, h2) → Extends h h2
left_by h h2 made v w limit n more e =
    let new : Made = (v, made) in
    let left : Made = (w, h2) in
    let at : made ≡ h2 = ap (λ (p : Made). p.1) (limited_gives limit n new left e) in
    subst (λ (o : Objects). Extends h o) at more

-- or what was there
kept : (h h2 : Objects) → h2 ≡ h → Extends h h2
kept h h2 e = subst (λ (o : Objects). Extends h o) (sym e) (extends_same h)

pub text_stands : (h h2 : Objects) (text : List ℕ) (r : Result Value ValueFault) → IfOk r (λ v. given_text h text ≡ Ok (v, h2)) → OnErr r (h2 ≡ h) → Extends h h2
text_stands h h2 text (Ok v) ok err = left_by h h2 (with_text h text) (next_text h) v TEXT_LIMIT (length text) (extends_text h text) ok
text_stands h h2 text (Err e) ok err = kept h h2 err

pub list_stands : (h h2 : Objects) (items : List Value) (r : Result Value ValueFault) → IfOk r (λ v. given_list h items ≡ Ok (v, h2)) → OnErr r (h2 ≡ h) → Extends h h2
list_stands h h2 items (Ok v) ok err = left_by h h2 (with_list h items) (next_list h) v LIST_LIMIT (length items) (extends_list h items) ok
list_stands h h2 items (Err e) ok err = kept h h2 err

pub tuple_stands : (h h2 : Objects) (items : List Value) (r : Result Value ValueFault) → IfOk r (λ v. given_tuple h items ≡ Ok (v, h2)) → OnErr r (h2 ≡ h) → Extends h h2
tuple_stands h h2 items (Ok v) ok err = left_by h h2 (with_tuple h items) (next_tuple h) v LIST_LIMIT (length items) (extends_tuple h items) ok
tuple_stands h h2 items (Err e) ok err = kept h h2 err

dict_made : (h h2 : Objects) (pairs : List (Value × Value)) (v : Value) (entries : Option Entries) → with_pairs h [] pairs ≡ entries → given_dict h pairs ≡ Ok (v, h2) → Extends h h2
dict_made h h2 pairs v None is e = let f = rw is at e in cc
dict_made h h2 pairs v (Some entries) is e = left_by h h2 (with_dict h entries) (next_dict h) v LIST_LIMIT (length entries) (extends_dict h entries) (rw is at e)

pub dict_stands : (h h2 : Objects) (pairs : List (Value × Value)) (r : Result Value ValueFault) → IfOk r (λ v. given_dict h pairs ≡ Ok (v, h2)) → OnErr r (h2 ≡ h) → Extends h h2
dict_stands h h2 pairs (Ok v) ok err = dict_made h h2 pairs v (with_pairs h [] pairs) refl ok
dict_stands h h2 pairs (Err e) ok err = kept h h2 err

pub object_stands : (h h2 : Objects) (id : ℕ) (shown : List ℕ) (r : Result Value ValueFault) → IfOk r (λ v. given_object h id shown ≡ Ok (v, h2)) → OnErr r (h2 ≡ h) → Extends h h2
object_stands h h2 id shown (Ok v) ok err = left_by h h2 (with_shown h id shown) (object_of id) v TEXT_LIMIT (length shown) (extends_shown h id shown) ok
object_stands h h2 id shown (Err e) ok err = kept h h2 err

-- for functions with one call on the heap
pub ruleset standing = (extends_same)
