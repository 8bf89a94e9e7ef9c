-- The pairs of a dict, made one after another.
use Rattle.std.proofs.Common.{arith, ◌≡◌, ◌∙◌, ◌<◌, ◌≤◌, ◌+◌, ◌*◌, ◌^◌, ℕ, List, [], ◌∷◌, ◌++◌, Ok, Err, Some, None, refl, ap, take, length}
use Rattle.std.specs.Prelude.{slice_get}
use Rattle.std.specs.Option.{option_map}
use Rattle.std.proofs.lemmas.List.{length-map}
use Rattle.std.proofs.lemmas.Option.{slice_get-map}
use Rattle.py_heap.specs.declared.value.Value.{Value}
use Rattle.py_heap.specs.declared.key.Key.{Key}
use Rattle.py_heap.specs.declared.dict.Entry.{Entry}
use Rattle.py_heap.specs.declared.fault.ValueFault.{ValueFault}
use Rattle.py_heap.specs.declared.fault.ValueFault.TheVariants as fault
use Rattle.py_heap.specs.Heap.{Entries}
use Rattle.scons_base.specs.declared.limits.TheConstants.{LIST_LIMIT}
use Rattle.py_heap.specs.Units.{Units, charged}
use Rattle.py_heap.proofs.Rooms.{limited_within, limited_passes}
use Rattle.py_heap.proofs.Turns.{taken_more, taken_none, taken_all}
use Rattle.py_compare.specs.Showing.{entries_of}
use Rattle.py_methods.specs.Many.{pair_rows, paid_pairs}

abbrev row : Entry → List Value
row e = e.key ∷ e.item ∷ []

pub rows_more : (es : Entries) (made new : List (List Value)) (i : ℕ) (e : Entry) → made ≡ take i (pair_rows es) → slice_get (entries_of es) i ≡ Some e → new ≡ made ++ (e.key ∷ e.item ∷ []) ∷ [] → new ≡ take (i + 1) (pair_rows es)
rows_more es made new i e m s n = taken_more (pair_rows es) made new i (row e) m (slice_get-map row (entries_of es) i ∙ ap (option_map row) s) n

pub rows_none : (es : Entries) (made : List (List Value)) (i : ℕ) → made ≡ take i (pair_rows es) → slice_get (entries_of es) i ≡ None → made ≡ take (i + 1) (pair_rows es)
rows_none es made i m s = taken_none (pair_rows es) made i m (slice_get-map row (entries_of es) i ∙ ap (option_map row) s)

pub rows_done : (es : Entries) (made : List (List Value)) (i : ℕ) → made ≡ take i (pair_rows es) → length es ≤ i → made ≡ pair_rows es
rows_done es made i m l = taken_all row (entries_of es) made i m (omega (arith, length-map es (λ (e : Key × Entry). e.1)))

length-pair_rows : (es : Entries) → length (pair_rows es) ≡ length es
length-pair_rows es = length-map (entries_of es) row ∙ length-map es (λ (e : Key × Entry). e.1)

pub pairs_pass : (u : Units) (es : Entries) → LIST_LIMIT < length es → length es < 2 ^ 64 → paid_pairs u (pair_rows es) ≡ Err (fault.TooBig (length es))
pairs_pass u es l fits = rw (length-pair_rows es, limited_passes LIST_LIMIT (length es) (3 * length es) l) (ap (λ n. Err (fault.TooBig n)) (omega arith))

pub pairs_unpaid : (u : Units) (es : Entries) (e : ValueFault) → length es ≤ LIST_LIMIT → charged u (3 * length es) ≡ Err e → paid_pairs u (pair_rows es) ≡ Err e
pairs_unpaid u es e l h = rw (length-pair_rows es, limited_within LIST_LIMIT (length es) (3 * length es) l, h) refl

pub pairs_paid : (u left : Units) (es : Entries) (made : List (List Value)) → length es ≤ LIST_LIMIT → charged u (3 * length es) ≡ Ok left → made ≡ pair_rows es → paid_pairs u (pair_rows es) ≡ Ok (made, left)
pairs_paid u left es made l h m = rw (length-pair_rows es, limited_within LIST_LIMIT (length es) (3 * length es) l, h, m) refl

pub ruleset pair_turns = (rows_more, rows_none, rows_done)

pub ruleset pair_limits = (pairs_pass, pairs_unpaid, pairs_paid)
