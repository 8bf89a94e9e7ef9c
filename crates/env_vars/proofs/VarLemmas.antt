-- A table of variables, read as a list of pairs.
use Rattle.std.proofs.Common.{arith, ◌≡◌, ◌≤◌, ◌<◌, ◌∙◌, ℕ, zero, suc, ◌+◌, List, [], ◌∷◌, ◌++◌, Bool, true, false, cond, ap, sym, refl, length, map, take, get_or, add-one, String, Some, None, true≢false}
use Rattle.std.specs.Prelude.{if◌then◌else◌, string_bytes, slice_get, Result, Ok, Err, OnErr}
use Rattle.std.specs.List.{IsDistinct}
use Rattle.std.specs.Map.{lookup, keys_of}
use Rattle.std.specs.Option.{option_map}
use Rattle.std.specs.Str.{bytes_eq}
use Rattle.std.specs.String.{string_eq}
use Rattle.std.proofs.lemmas.List.{length-map, length-take-le, get_or-map, take_all, take_more, get_or-take, get_or_default}
use Rattle.std.proofs.lemmas.List.Sums.{fold_more}
use Rattle.std.proofs.lemmas.Option.{slice_get_within, get_or_from_slice_get, slice_get-get_or, slice_get-map}
use Rattle.std.proofs.lemmas.Map.Keys.{apart_from_distinct}
use Rattle.std.proofs.lemmas.Slice.Eq.{bytes_eq-Decides}
use Rattle.indexmap.specs.IndexMap.{insert_entry}
use Rattle.env_vars.specs.declared.value.EnvValue.{EnvValue}
use Rattle.env_vars.specs.Vars.{Var, value_at, put, put_all, vars_of}

module _ {Z : Type 0} where
  pub value_at_is : (entries : List (String Z × EnvValue)) (name : List ℕ) → lookup (λ k. bytes_eq name (string_bytes k)) entries ≡ value_at (vars_of entries) name
  value_at_is [] name = refl
  value_at_is (e ∷ entries) name = ap (cond (bytes_eq name (string_bytes e.0)) (Some e.1)) (value_at_is entries name)

  put_by : (key : String Z) (value : EnvValue) (e : String Z × EnvValue) (entries : List (String Z × EnvValue)) (b : Bool) → bytes_eq (string_bytes key) (string_bytes e.0) ≡ b
      → vars_of (insert_entry string_eq entries key value) ≡ put (vars_of entries) (string_bytes key, value)
      → vars_of (if b then (e.0, value) ∷ entries else e ∷ insert_entry string_eq entries key value)
      ≡ (if b then (string_bytes key, value) ∷ vars_of entries else (string_bytes e.0, e.1) ∷ put (vars_of entries) (string_bytes key, value))
  put_by key value e entries true same rest =
      let bytes = (bytes_eq-Decides (string_bytes key) (string_bytes e.0)).0 same in
      ap (λ n. (n, value) ∷ vars_of entries) (sym bytes)
  put_by key value e entries false same rest = ap (λ l. (string_bytes e.0, e.1) ∷ l) rest

  pub put_is : (entries : List (String Z × EnvValue)) (key : String Z) (value : EnvValue) → vars_of (insert_entry string_eq entries key value) ≡ put (vars_of entries) (string_bytes key, value)
  put_is [] key value = refl
  put_is (e ∷ entries) key value = put_by key value e entries (bytes_eq (string_bytes key) (string_bytes e.0)) refl (put_is entries key value)

  abbrev var_of : String Z × EnvValue → Var
  var_of e = (string_bytes e.0, e.1)

  -- names of a table differ
  apart : (e : String Z × EnvValue) (entries : List (String Z × EnvValue)) → IsDistinct string_eq (keys_of entries) → (i j : ℕ) → i < j → j < length entries
      → bytes_eq (get_or (vars_of entries) j (var_of e)).0 (get_or (vars_of entries) i (var_of e)).0 ≡ false
  apart e entries distinct i j l h =
      let k = apart_from_distinct string_eq (keys_of entries) i j e.0 distinct l (omega (arith, length-map entries (λ (x : String Z × EnvValue). x.0))) in
      let m = rw (get_or-map (λ (x : String Z × EnvValue). x.0) entries i e e.0 (omega arith), get_or-map (λ (x : String Z × EnvValue). x.0) entries j e e.0 h) at k in
      rw (get_or-map var_of entries j e (var_of e) h, get_or-map var_of entries i e (var_of e) (omega arith)) (differ (string_bytes (get_or entries j e).0) (string_bytes (get_or entries i e).0) m)
    where
      differ : (x y : List ℕ) → bytes_eq y x ≡ false → bytes_eq x y ≡ false
      differ x y n = by (bytes_eq x y) refl
        where
          by : (b : Bool) → bytes_eq x y ≡ b → b ≡ false
          by false m = refl
          by true m =
              let same : x ≡ y = (bytes_eq-Decides x y).0 m in
              absurd (true≢false (sym ((bytes_eq-Decides y y).1 refl) ∙ (rw same at n)))

put_new : (vars : List Var) (new : Var) → ((k : ℕ) → k < length vars → bytes_eq new.0 (get_or vars k new).0 ≡ false) → put vars new ≡ vars ++ new ∷ []
put_new [] new none = refl
put_new (var ∷ vars) new none = rw (none 0 (omega arith)) (ap (λ rest. var ∷ rest) (put_new vars new (λ k h. none (suc k) (omega arith))))

same_name : (name : List ℕ) → bytes_eq name name ≡ true
same_name name = (bytes_eq-Decides name name).1 refl

-- a loop's turn: one more variable is put
pub put_more : (start vars self new : List Var) (i : ℕ) (var : Var) → slice_get vars i ≡ Some var → self ≡ put_all start (take i vars) → new ≡ put self var → new ≡ put_all start (take (i + 1) vars)
put_more start vars self new i var at s n =
    n ∙ rw (s, fold_more put start vars i var (slice_get_within vars i var at), get_or_from_slice_get vars i var var at) refl

-- the same for a loop over rows
pub row_more : {X : Type 0} → (row : X → Var) (rows : List X) (i : ℕ) (d : X) (start self new : List Var) (var : Var) → i < length rows → var ≡ row (get_or rows i d)
    → self ≡ put_all start (take i (map row rows)) → new ≡ put self var → new ≡ put_all start (take (i + 1) (map row rows))
row_more row rows i d start self new var l v s n =
    put_more start (map row rows) self new i var (slice_get-map row rows i ∙ ap (option_map row) (slice_get-get_or rows i d l) ∙ ap Some (sym v)) s n

-- variables whose names differ, put into nothing, are the same list
put_front : (vars : List Var) (d : Var) (n : ℕ) → n ≤ length vars → ((i j : ℕ) → i < j → j < length vars → bytes_eq (get_or vars j d).0 (get_or vars i d).0 ≡ false) → put_all [] (take n vars) ≡ take n vars
put_front vars d zero l differ = refl
put_front vars d (suc n) l differ =
    let rest = put_front vars d n (omega arith) differ in
    let last = get_or vars n d in
    let at : length (take n vars) ≡ n = length-take-le n vars (omega arith) in
    rw (sym (add-one n), fold_more put [] vars n d (omega arith), rest, take_more vars n d (omega arith))
    (put_new (take n vars) last (λ k h. rw (get_or-take n vars k last (omega arith)) (same k (omega arith))))
  where
    same : (k : ℕ) → k < n → bytes_eq (get_or vars n d).0 (get_or vars k (get_or vars n d)).0 ≡ false
    same k h = rw (get_or_default vars k (get_or vars n d) d (omega arith)) (differ k n h (omega arith))

pub put_all_new : {Z : Type 0} → (entries : List (String Z × EnvValue)) → IsDistinct string_eq (keys_of entries) → put_all [] (vars_of entries) ≡ vars_of entries
put_all_new [] distinct = refl
put_all_new (e ∷ entries) distinct =
    let vars = vars_of (e ∷ entries) in
    let whole : take (length vars) vars ≡ vars = take_all (length vars) vars (omega arith) in
    sym (ap (put_all []) whole) ∙ (put_front vars (var_of e) (length vars) (omega arith) (λ i j l h. apart e (e ∷ entries) distinct i j l (omega (arith, length-map (e ∷ entries) var_of)))) ∙ whole

pub none_at : {X : Type 0} → (xs : List X) (i : ℕ) → slice_get xs i ≡ None → i < length xs → ⊥
none_at [] i none l = absurd (omega arith)
none_at (x ∷ xs) i none l = let some : slice_get (x ∷ xs) i ≡ Some (get_or (x ∷ xs) i x) = slice_get-get_or (x ∷ xs) i x l in cc

twice_by : (var : Var) (vars : List Var) (name : List ℕ) (a b : EnvValue) (e : Bool) → bytes_eq name var.0 ≡ e
    → put (put vars (name, a)) (name, b) ≡ put vars (name, b) → put (put (var ∷ vars) (name, a)) (name, b) ≡ put (var ∷ vars) (name, b)
twice_by var vars name a b true e rest = rw (e, same_name name) refl
twice_by var vars name a b false e rest = rw (e, e) (ap (λ more. var ∷ more) rest)

-- a value put behind another one of the name takes its place
pub put_twice : (vars : List Var) (name : List ℕ) (a b : EnvValue) → put (put vars (name, a)) (name, b) ≡ put vars (name, b)
put_twice [] name a b = rw (same_name name) refl
put_twice (var ∷ vars) name a b = twice_by var vars name a b (bytes_eq name var.0) refl (put_twice vars name a b)

same_by : (var : Var) (vars : List Var) (name : List ℕ) (v : EnvValue) (e : Bool) → bytes_eq name var.0 ≡ e → value_at (var ∷ vars) name ≡ Some v
    → (value_at vars name ≡ Some v → put vars (name, v) ≡ vars) → put (var ∷ vars) (name, v) ≡ var ∷ vars
same_by var vars name v true e has rest =
    let there : Some var.1 ≡ Some v = rw e at has in
    let value : v ≡ var.1 = cc in
    let same : name ≡ var.0 = (bytes_eq-Decides name var.0).0 e in
    rw e (ap (λ n. (n, v) ∷ vars) same ∙ ap (λ w. (var.0, w) ∷ vars) value)
same_by var vars name v false e has rest =
    let behind : value_at vars name ≡ Some v = rw e at has in
    rw e (ap (λ more. var ∷ more) (rest behind))

-- the value that the name has, put again
pub put_same : (vars : List Var) (name : List ℕ) (v : EnvValue) → value_at vars name ≡ Some v → put vars (name, v) ≡ vars
put_same [] name v has = absurd (cc)
put_same (var ∷ vars) name v has = same_by var vars name v (bytes_eq name var.0) refl has (put_same vars name v)

there_by : (var : Var) (vars : List Var) (name : List ℕ) (v : EnvValue) (e : Bool) → bytes_eq name var.0 ≡ e
    → value_at (put vars (name, v)) name ≡ Some v → value_at (put (var ∷ vars) (name, v)) name ≡ Some v
there_by var vars name v true e rest = rw (e, same_name name) refl
there_by var vars name v false e rest = rw (e, e) rest

pub value_at_put : (vars : List Var) (name : List ℕ) (v : EnvValue) → value_at (put vars (name, v)) name ≡ Some v
value_at_put [] name v = rw (same_name name) refl
value_at_put (var ∷ vars) name v = there_by var vars name v (bytes_eq name var.0) refl (value_at_put vars name v)

pub on_err_true : {T E P : Type 0} (r : Result T E) → P → OnErr r P
on_err_true (Ok x) p = tt
on_err_true (Err y) p = p
