-- A table of the code, read as a list of rows.
use Rattle.std.proofs.Common.{arith, ◌≡◌, ◌≤◌, ◌<◌, ◌∙◌, ℕ, zero, suc, ◌+◌, List, [], ◌∷◌, ◌++◌, Bool, true, false, cond, not, ap, sym, subst, refl, length, map, take, get_or, add-one, String, Option, Some, None, true≢false}
use Rattle.std.specs.Prelude.{if◌then◌else◌, string_bytes, slice_get, position, Result, Ok, Err, OnOk}
use Rattle.std.specs.List.{IsDistinct, position_or_len}
use Rattle.std.specs.Map.{lookup, set_value, keys_of}
use Rattle.std.specs.Option.{option_map}
use Rattle.std.specs.Str.{bytes_eq}
use Rattle.std.specs.String.{string_eq}
use Rattle.std.proofs.lemmas.List.{length-map, get_or-map, take_all, take_more}
use Rattle.std.proofs.lemmas.Option.{slice_get_within, get_or_from_slice_get, slice_get-get_or, slice_get-map}
use Rattle.std.proofs.lemmas.Map.Keys.{apart_from_distinct}
use Rattle.std.proofs.lemmas.Slice.Eq.{bytes_eq-Decides}
use Rattle.indexmap.specs.IndexMap.{insert_entry}
use Rattle.scons_decls.specs.Tables.{Table, value_at, put, rows_of}

module _ {X Z : Type 0} where
  pub value_at_is : (entries : List (String Z × X)) (name : List ℕ) → lookup (λ k. bytes_eq name (string_bytes k)) entries ≡ value_at (rows_of entries) name
  value_at_is [] name = refl
  value_at_is (e ∷ entries) name = ap (cond (bytes_eq name (string_bytes e.0)) (Some e.1)) (value_at_is entries name)

  put_by : (key : String Z) (x : X) (e : String Z × X) (entries : List (String Z × X)) (b : Bool) → bytes_eq (string_bytes key) (string_bytes e.0) ≡ b
      → rows_of (insert_entry string_eq entries key x) ≡ put (rows_of entries) (string_bytes key) x
      → rows_of (if b then (e.0, x) ∷ entries else e ∷ insert_entry string_eq entries key x)
      ≡ (if b then (string_bytes key, x) ∷ rows_of entries else (string_bytes e.0, e.1) ∷ put (rows_of entries) (string_bytes key) x)
  put_by key x e entries true same rest =
      let bytes = (bytes_eq-Decides (string_bytes key) (string_bytes e.0)).0 same in
      ap (λ n. (n, x) ∷ rows_of entries) (sym bytes)
  put_by key x e entries false same rest = ap (λ l. (string_bytes e.0, e.1) ∷ l) rest

  pub put_is : (entries : List (String Z × X)) (key : String Z) (x : X) → rows_of (insert_entry string_eq entries key x) ≡ put (rows_of entries) (string_bytes key) x
  put_is [] key x = refl
  put_is (e ∷ entries) key x = put_by key x e entries (bytes_eq (string_bytes key) (string_bytes e.0)) refl (put_is entries key x)

  written_by : (name : List ℕ) (x : X) (e : String Z × X) (entries : List (String Z × X)) (v : X) (b : Bool) → bytes_eq name (string_bytes e.0) ≡ b
      → cond b (Some e.1) (lookup (λ k. bytes_eq name (string_bytes k)) entries) ≡ Some v
      → (lookup (λ k. bytes_eq name (string_bytes k)) entries ≡ Some v → rows_of (set_value (λ k. bytes_eq name (string_bytes k)) entries x) ≡ put (rows_of entries) name x)
      → rows_of (cond b ((e.0, x) ∷ entries) (e ∷ set_value (λ k. bytes_eq name (string_bytes k)) entries x))
      ≡ (if b then (name, x) ∷ rows_of entries else (string_bytes e.0, e.1) ∷ put (rows_of entries) name x)
  written_by name x e entries v true same there rest =
      let bytes = (bytes_eq-Decides name (string_bytes e.0)).0 same in
      ap (λ n. (n, x) ∷ rows_of entries) (sym bytes)
  written_by name x e entries v false same there rest = ap (λ l. (string_bytes e.0, e.1) ∷ l) (rest there)

  -- what is written in the place of what a name has
  pub written_is : (entries : List (String Z × X)) (name : List ℕ) (x v : X) → lookup (λ k. bytes_eq name (string_bytes k)) entries ≡ Some v
      → rows_of (set_value (λ k. bytes_eq name (string_bytes k)) entries x) ≡ put (rows_of entries) name x
  written_is [] name x v there = cc
  written_is (e ∷ entries) name x v there = written_by name x e entries v (bytes_eq name (string_bytes e.0)) refl there (written_is entries name x v)

  -- an entry as a row
  abbrev pub row_of : String Z × X → List ℕ × X
  row_of e = (string_bytes e.0, e.1)

  passed : (entries : List (String Z × X)) (name : List ℕ) → position_or_len (λ k. bytes_eq name (string_bytes k)) (keys_of entries) ≡ position_or_len (λ (row : List ℕ × X). bytes_eq name row.0) (rows_of entries)
  passed [] name = refl
  passed (e ∷ entries) name = ap (λ n. cond (not (bytes_eq name (string_bytes e.0))) (1 + n) 0) (passed entries name)

  -- the place of a name
  pub place_is : (entries : List (String Z × X)) (name : List ℕ) → position (λ k. bytes_eq name (string_bytes k)) (keys_of entries) ≡ position (λ (row : List ℕ × X). bytes_eq name row.0) (rows_of entries)
  place_is entries name =
      let count : length (keys_of entries) ≡ length (rows_of entries) = length-map entries (λ (x : String Z × X). x.0) ∙ sym (length-map entries row_of) in
      rw (passed entries name, count) refl

  -- the names of a table differ
  pub rows_apart : (e : String Z × X) (entries : List (String Z × X)) → IsDistinct string_eq (keys_of entries) → (i j : ℕ) → i < j → j < length entries
      → bytes_eq (get_or (rows_of entries) j (row_of e)).0 (get_or (rows_of entries) i (row_of e)).0 ≡ false
  rows_apart e entries distinct i j l h =
      let k = apart_from_distinct string_eq (keys_of entries) i j e.0 distinct l (omega (arith, length-map entries (λ (x : String Z × X). x.0))) in
      let m = rw (get_or-map (λ (x : String Z × X). x.0) entries i e e.0 (omega arith), get_or-map (λ (x : String Z × X). x.0) entries j e e.0 h) at k in
      rw (get_or-map row_of entries j e (row_of e) h, get_or-map row_of entries i e (row_of e) (omega arith)) (differ (string_bytes (get_or entries j e).0) (string_bytes (get_or entries i e).0) m)
    where
      differ : (x y : List ℕ) → bytes_eq y x ≡ false → bytes_eq x y ≡ false
      differ x y n = by (bytes_eq x y) refl
        where
          by : (b : Bool) → bytes_eq x y ≡ b → b ≡ false
          by false m = refl
          by true m =
              let same : x ≡ y = (bytes_eq-Decides x y).0 m in
              absurd (true≢false (sym ((bytes_eq-Decides y y).1 refl) ∙ (rw same at n)))

-- a new name goes last
pub put_new : {X : Type 0} (rows : Table X) (name : List ℕ) (x : X) → value_at rows name ≡ None → put rows name x ≡ rows ++ (name, x) ∷ []
put_new [] name x none = refl
put_new (row ∷ rows) name x none = by (bytes_eq name row.0) none (put_new rows name x)
  where
    by : (b : Bool) → (if b then Some row.1 else value_at rows name) ≡ None → (value_at rows name ≡ None → put rows name x ≡ rows ++ (name, x) ∷ [])
        → (if b then (name, x) ∷ rows else row ∷ put rows name x) ≡ row ∷ (rows ++ (name, x) ∷ [])
    by true n rest = cc
    by false n rest = ap (λ l. row ∷ l) (rest n)

none_of : {X : Type 0} (rows : Table X) (n : ℕ) (name : List ℕ) (d : List ℕ × X) → n ≤ length rows → ((k : ℕ) → k < n → bytes_eq name (get_or rows k d).0 ≡ false) → value_at (take n rows) name ≡ None
none_of rows zero name d l differ = refl
none_of [] (suc n) name d l differ = refl
none_of (row ∷ rows) (suc n) name d l differ =
    rw (differ 0 (omega arith)) (none_of rows n name d (omega arith) (λ k h. differ (suc k) (omega arith)))

-- the rows of a table put one after another into an empty one: one row more
pub put_row : {X Z : Type 0} (entries : List (String Z × X)) (i : ℕ) (name : List ℕ) (x : X) → IsDistinct string_eq (keys_of entries) → slice_get (rows_of entries) i ≡ Some (name, x)
    → put (take i (rows_of entries)) name x ≡ take (i + 1) (rows_of entries)
put_row {X = X} [] i name x distinct at = absurd (cc)
put_row {X = X} (e ∷ entries) i name x distinct at =
    let rows = rows_of (e ∷ entries) in
    let d = row_of e in
    let l : i < length rows = slice_get_within rows i (name, x) at in
    let here : get_or rows i d ≡ (name, x) = get_or_from_slice_get rows i (name, x) d at in
    let count : length rows ≡ length (e ∷ entries) = length-map (e ∷ entries) row_of in
    let new : value_at (take i rows) name ≡ None =
    none_of rows i name d (omega arith) (λ k h. subst (λ (row : List ℕ × X). bytes_eq row.0 (get_or rows k d).0 ≡ false) here (rows_apart e (e ∷ entries) distinct k i h (omega arith))) in
    put_new (take i rows) name x new ∙ sym (take_more rows i d l ∙ ap (λ row. take i rows ++ row ∷ []) here)

pub on_ok : {T E P Q : Type 0} (r : Result T E) → OnOk r P → (P → Q) → OnOk r Q
on_ok (Ok x) p f = f p
on_ok (Err e) p f = tt
