-- A dict copied entry after entry.
use Rattle.std.proofs.Common.{arith, ◌≡◌, ◌∙◌, ◌<◌, ◌+◌, ℕ, suc, [], ◌∷◌, ◌++◌, Bool, true, false, Some, refl, ap, sym, length, take, get_or, true≢false}
use Rattle.std.specs.Prelude.{slice_get}
use Rattle.std.specs.List.{IsDistinct}
use Rattle.std.specs.Map.{keys_of}
use Rattle.std.proofs.lemmas.List.{length-map, length-take-le, get_or-map, get_or-take, take_more}
use Rattle.std.proofs.lemmas.Option.{slice_get_within, get_or_from_slice_get}
use Rattle.std.proofs.lemmas.Map.Keys.{apart_from_distinct}
use Rattle.indexmap.specs.IndexMap.{insert_entry}
use Rattle.py_heap.specs.declared.key.Key.{Key}
use Rattle.py_heap.specs.declared.dict.Entry.{Entry}
use Rattle.py_heap.specs.Heap.{Entries}
use Rattle.py_heap.specs.Keys.{key_eq, key_eq-Decides}

differ : (x y : Key) → key_eq y x ≡ false → key_eq x y ≡ false
differ x y h = by (key_eq x y) refl
  where
    by : (b : Bool) → key_eq x y ≡ b → b ≡ false
    by false e = refl
    by true e =
        let same : x ≡ y = (key_eq-Decides x y).0 e in
        absurd (true≢false (sym ((key_eq-Decides y y).1 refl) ∙ (rw same at h)))

insert_new : (es : Entries) (k : Key) (x : Entry) → ((n : ℕ) → n < length es → key_eq k (get_or es n (k, x)).0 ≡ false) → insert_entry key_eq es k x ≡ es ++ (k, x) ∷ []
insert_new [] k x none = refl
insert_new (e ∷ es) k x none = rw (none 0 (omega arith)) (ap (λ rest. e ∷ rest) (insert_new es k x (λ n h. none (suc n) (omega arith))))

-- the key at a place is none of those before it
apart : (es : Entries) (i n : ℕ) (e : Key × Entry) → IsDistinct key_eq (keys_of es) → slice_get es i ≡ Some e → n < i → key_eq e.0 (get_or es n e).0 ≡ false
apart es i n e distinct at l =
    let within : i < length es = slice_get_within es i e at in
    let k = apart_from_distinct key_eq (keys_of es) n i e.0 distinct l (omega (arith, length-map es (λ (x : Key × Entry). x.0))) in
    let m = rw (get_or-map (λ (x : Key × Entry). x.0) es n e e.0 (omega arith), get_or-map (λ (x : Key × Entry). x.0) es i e e.0 within, get_or_from_slice_get es i e e at) at k in
    differ e.0 (get_or es n e).0 m

pub copied_more : (es made new : Entries) (i : ℕ) (e : Key × Entry) → IsDistinct key_eq (keys_of es) → slice_get es i ≡ Some e → made ≡ take i es → new ≡ insert_entry key_eq made e.0 e.1 → new ≡ take (i + 1) es
copied_more es made new i e distinct at m n =
    let within : i < length es = slice_get_within es i e at in
    let added : insert_entry key_eq (take i es) e.0 e.1 ≡ take i es ++ e ∷ [] =
    insert_new (take i es) e.0 e.1 (λ k l.
    let below : k < i = omega (arith, length-take-le i es (omega arith)) in
    rw (get_or-take i es k e below) (apart es i k e distinct at below)) in
    let more : take (i + 1) es ≡ take i es ++ e ∷ [] = take_more es i e within ∙ ap (λ y. take i es ++ y ∷ []) (get_or_from_slice_get es i e e at) in
    n ∙ ap (λ xs. insert_entry key_eq xs e.0 e.1) m ∙ added ∙ sym more
