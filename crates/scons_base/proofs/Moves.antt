-- A path below a directory, cut at the directory.
use Rattle.std.proofs.Common.{◌≡◌, ◌==◌, ◌&&◌, ◌||◌, not, ap, sym, refl, ◌∙◌, ℕ, ◌+◌, ◌<◌, ◌≤◌, List, [], ◌∷◌, ◌++◌, length, drop, get_or, true, false, Bool, cond, arith, true≢false}
use Rattle.std.specs.Prelude.{if◌then◌else◌, IsTrue, nat_eq}
use Rattle.std.specs.List.{slice_split, starts_with, list_all, onto_first}
use Rattle.std.specs.Str.{IsUtf8, IsCharBoundary}
use Rattle.std.proofs.lemmas.Str.{IsCharBoundary-start, IsCharBoundary-after_ascii}
use Rattle.std.proofs.lemmas.Bool.{false≢true, and_parts, eqb-true, not-true}
use Rattle.std.proofs.lemmas.Bool.Decides.{Decides-eqb}
use Rattle.std.proofs.lemmas.Slice.Eq.{starts_is}
use Rattle.std.proofs.lemmas.List.{drop-drop, length-append}
use Rattle.std.proofs.lemmas.List.Folds.{list_all-append}
use Rattle.std.proofs.lemmas.List.Splits.{length-slice_split}
use Rattle.scons_base.specs.declared.limits.TheConstants.{PATH_LIMIT}
use Rattle.scons_base.specs.Normal.{slash, is_name, is_normal, parts_of, below_root, is_top, is_root}
use Rattle.scons_base.specs.Parts.{is_absolute, is_below, rest_below, joined}
use Rattle.scons_base.specs.PathFaults.{is_path}
use Rattle.scons_base.proofs.NormalForms.{IsSound, path_sound, path_from, is_zero_free, normal_by_parts, cut_pass}

abbrev cut : List ℕ → List (List ℕ)
cut text = slice_split (λ b. b == slash) text

onto_append : {X : Type 0} → (x : X) (parts more : List (List X)) → 0 < length parts → onto_first x (parts ++ more) ≡ onto_first x parts ++ more
onto_append x [] more h = absurd (omega arith)
onto_append x (part ∷ parts) more h = refl

-- a slash between two texts is a cut
cut_append : (xs ys : List ℕ) → cut (xs ++ slash ∷ ys) ≡ cut xs ++ cut ys
cut_append [] ys = refl
cut_append (x ∷ xs) ys = by (x == slash) (cut_append xs ys)
  where
    by : (t : Bool) → cut (xs ++ slash ∷ ys) ≡ cut xs ++ cut ys → cond t ([] ∷ cut (xs ++ slash ∷ ys)) (onto_first x (cut (xs ++ slash ∷ ys))) ≡ cond t ([] ∷ cut xs) (onto_first x (cut xs)) ++ cut ys
    by true e = ap (λ l. [] ∷ l) e
    by false e = ap (onto_first x) e ∙ onto_append x (cut xs) (cut ys) (omega (arith, length-slice_split (λ b. b == slash) xs))

parts_append : (dir rest : List ℕ) → 0 < length dir → parts_of (dir ++ slash ∷ rest) ≡ parts_of dir ++ cut rest
parts_append [] rest h = absurd (omega arith)
parts_append (d ∷ ds) rest h = by (d == slash)
  where
    by : (t : Bool) → cut (if t then ds ++ slash ∷ rest else d ∷ (ds ++ slash ∷ rest)) ≡ cut (if t then ds else d ∷ ds) ++ cut rest
    by true = cut_append ds rest
    by false = cut_append (d ∷ ds) rest

-- a normal path that is neither `.` nor `/` is made of names
pub names_of_normal : (path : List ℕ) → is_normal path ≡ true → is_top path ≡ false → is_root path ≡ false → list_all is_name (parts_of path) ≡ true
names_of_normal path n t r = sym (rw (t, r) refl) ∙ n

pub relative_root : (path : List ℕ) → is_absolute path ≡ false → (is_root path ≡ false) × (below_root path ≡ path)
relative_root [] h = (refl, refl)
relative_root (a ∷ []) h = (h, rw h refl)
relative_root (a ∷ b ∷ bs) h = (refl, rw h refl)

pub absolute_top : (path : List ℕ) → is_absolute path ≡ true → (is_top path ≡ false) × (below_root path ≡ drop 1 path)
absolute_top [] h = absurd (false≢true h)
absolute_top (a ∷ []) h = let e = eqb-true a slash h in (rw e refl, rw h refl)
absolute_top (a ∷ b ∷ bs) h = (refl, rw h refl)

-- where names follow, no slash does
names_relative : (rest : List ℕ) → list_all is_name (cut rest) ≡ true → (0 < length rest) × (below_root rest ≡ rest)
names_relative [] h = absurd (false≢true h)
names_relative (b ∷ bs) h = (omega arith, by (b == slash) refl h)
  where
    by : (t : Bool) → (b == slash) ≡ t → list_all is_name (cond t ([] ∷ cut bs) (onto_first b (cut bs))) ≡ true → (if t then bs else b ∷ bs) ≡ b ∷ bs
    by true e k = absurd (false≢true k)
    by false e k = refl

long_path : (dir rest : List ℕ) → 0 < length dir → (is_top (dir ++ slash ∷ rest) ≡ false) × (is_root (dir ++ slash ∷ rest) ≡ false)
long_path [] rest h = absurd (omega arith)
long_path (d ∷ []) rest h = (refl, refl)
long_path (d ∷ e ∷ ds) rest h = (refl, refl)

-- a path that goes on behind a directory
behind_dir : (path dir : List ℕ) → starts_with nat_eq path dir && is_absolute (drop (length dir) path) ≡ true → path ≡ dir ++ slash ∷ drop (length dir + 1) path
behind_dir path dir h =
    let k = and_parts _ _ h in
    let e = (starts_is Decides-eqb path dir (starts_with nat_eq path dir) refl).0 k.0 in
    e ∙ ap (λ l. dir ++ l) (head (drop (length dir) path) k.1 ∙ ap (λ l. slash ∷ l) (drop-drop 1 (length dir) path))
  where
    head : (l : List ℕ) → is_absolute l ≡ true → l ≡ slash ∷ drop 1 l
    head [] h = absurd (false≢true h)
    head (b ∷ bs) h = ap (λ x. x ∷ bs) (eqb-true b slash h)

or_false : (a b : Bool) → (a || b) ≡ false → (a ≡ false) × (b ≡ false)
or_false true b e = absurd (true≢false e)
or_false false b e = (refl, e)

-- what stands behind a directory in a path below it is made of names
pub rest_names : (path dir : List ℕ) → IsSound path → IsSound dir → is_below path dir ≡ true → list_all is_name (cut (rest_below path dir)) ≡ true
rest_names path dir p d h = by (is_top dir) (is_root dir) h
  where
    by : (t r : Bool) → (if t then not (is_absolute path || is_top path) else (if r then is_absolute path && not (is_root path) else starts_with nat_eq path dir && is_absolute (drop (length dir) path))) ≡ true
        → list_all is_name (cut (if t then path else (if r then drop 1 path else drop (length dir + 1) path))) ≡ true
    by true r k =
        let o = or_false (is_absolute path) (is_top path) (not-true _ k) in
        let f = relative_root path o.0 in
        ap (λ l. list_all is_name (cut l)) (sym f.1) ∙ names_of_normal path p.normal o.1 f.0
    by false true k =
        let o = and_parts (is_absolute path) (not (is_root path)) k in
        let f = absolute_top path o.0 in
        ap (λ l. list_all is_name (cut l)) (sym f.1) ∙ names_of_normal path p.normal f.0 (not-true _ o.1)
    by false false k =
        let e = behind_dir path dir k in
        let rest = drop (length dir + 1) path in
        let l = long_path dir rest d.full in
        let n = names_of_normal (dir ++ slash ∷ rest) (rw e at p.normal) l.0 l.1 in
        (and_parts (list_all is_name (parts_of dir)) _ (sym (list_all-append is_name (parts_of dir) (cut rest)) ∙ ap (list_all is_name) (sym (parts_append dir rest d.full)) ∙ n)).1

-- the place behind a directory in a path below it
abbrev pub lead_len : List ℕ → ℕ
lead_len dir = if is_top dir then 0 else (if is_root dir then 1 else length dir + 1)

pub rest_at : (path dir : List ℕ) → drop (lead_len dir) path ≡ rest_below path dir
rest_at path dir = by (is_top dir) (is_root dir)
  where
    by : (t r : Bool) → drop (if t then 0 else (if r then 1 else length dir + 1)) path ≡ (if t then path else (if r then drop 1 path else drop (length dir + 1) path))
    by true r = refl
    by false true = refl
    by false false = refl

first : (p : List ℕ) → IsUtf8 p → is_absolute p ≡ true → IsCharBoundary p 1
first [] u a = absurd (false≢true a)
first (b ∷ bs) u a = let at : b ≡ slash = eqb-true b slash a in IsCharBoundary-after_ascii (b ∷ bs) 0 u (omega arith) (omega arith)

get_or-append_seam : (xs : List ℕ) (x : ℕ) (ys : List ℕ) → get_or (xs ++ x ∷ ys) (length xs) 0 ≡ x
get_or-append_seam [] x ys = refl
get_or-append_seam (y ∷ xs) x ys = get_or-append_seam xs x ys

pub lead_boundary : (path dir : List ℕ) → IsUtf8 path → is_below path dir ≡ true → IsCharBoundary path (lead_len dir)
lead_boundary path dir utf8 h = by (is_top dir) (is_root dir) h
  where
    by : (t r : Bool) → (if t then not (is_absolute path || is_top path) else (if r then is_absolute path && not (is_root path) else starts_with nat_eq path dir && is_absolute (drop (length dir) path))) ≡ true
        → IsCharBoundary path (if t then 0 else (if r then 1 else length dir + 1))
    by true r k = IsCharBoundary-start path utf8
    by false true k = first path utf8 (and_parts _ _ k).0
    by false false k =
        let e = behind_dir path dir k in
        let rest = drop (length dir + 1) path in
        let l : length dir < length path = omega (arith, ap length e, length-append dir (slash ∷ rest)) in
        let at : get_or path (length dir) 0 ≡ slash = ap (λ p. get_or p (length dir) 0) e ∙ get_or-append_seam dir slash rest in
        IsCharBoundary-after_ascii path (length dir) utf8 l (omega (arith, at))

if_pass : (P : List ℕ → Type 0) (t r : Bool) (xs ys zs : List ℕ) → (t ≡ true → P xs) → (t ≡ false → r ≡ true → P ys) → (t ≡ false → r ≡ false → P zs) → P (if t then xs else (if r then ys else zs))
if_pass P true r xs ys zs f g h = f refl
if_pass P false true xs ys zs f g h = g refl refl
if_pass P false false xs ys zs f g h = h refl refl

joined_parts : (to rest : List ℕ) → IsSound to → list_all is_name (cut rest) ≡ true → list_all is_name (parts_of (joined to rest)) ≡ true
joined_parts to rest s n =
    if_pass (λ l. list_all is_name (parts_of l) ≡ true) (is_top to) (is_root to) rest (slash ∷ rest) (to ++ slash ∷ rest)
    (λ _. ap (λ l. list_all is_name (cut l)) (names_relative rest n).1 ∙ n) (λ _ _. n)
    (λ t r. ap (list_all is_name) (parts_append to rest s.full) ∙ list_all-append is_name (parts_of to) (cut rest) ∙ rw (names_of_normal to s.normal t r, n) refl)

joined_zero_free : (to rest : List ℕ) → is_zero_free to ≡ true → is_zero_free rest ≡ true → is_zero_free (joined to rest) ≡ true
joined_zero_free to rest s z =
    if_pass (λ l. is_zero_free l ≡ true) (is_top to) (is_root to) rest (slash ∷ rest) (to ++ slash ∷ rest)
    (λ _. z) (λ _ _. z) (λ _ _. list_all-append (λ b. not (b == 0)) to (slash ∷ rest) ∙ rw (s, z) refl)

joined_full : (to rest : List ℕ) → list_all is_name (cut rest) ≡ true → 0 < length (joined to rest)
joined_full to rest n =
    if_pass (λ l. 0 < length l) (is_top to) (is_root to) rest (slash ∷ rest) (to ++ slash ∷ rest)
    (λ _. (names_relative rest n).0) (λ _ _. omega arith) (λ _ _. omega (arith, length-append to (slash ∷ rest)))

rest_zero_free : (path dir : List ℕ) → is_zero_free path ≡ true → is_zero_free (rest_below path dir) ≡ true
rest_zero_free path dir z =
    if_pass (λ l. is_zero_free l ≡ true) (is_top dir) (is_root dir) path (drop 1 path) (drop (length dir + 1) path)
    (λ _. z) (λ _ _. (cut_pass (λ b. not (b == 0)) 1 path z).1) (λ _ _. (cut_pass (λ b. not (b == 0)) (length dir + 1) path z).1)

-- what stands behind a directory, put behind another one, is a path
pub joined_path : (path from to path' from' to' rest text : List ℕ) → IsTrue (is_path path) → IsTrue (is_path from) → IsTrue (is_path to) → is_below path from ≡ true
    → path' ≡ path → from' ≡ from → to' ≡ to → rest ≡ rest_below path' from' → text ≡ joined to' rest → length text ≤ PATH_LIMIT → IsTrue (is_path text)
joined_path path from to path' from' to' rest text p f t below e1 e2 e3 r j l =
    let sound = path_sound to t in
    let n : list_all is_name (cut rest) ≡ true = rw (r, e1, e2) (rest_names path from (path_sound path p) (path_sound from f) below) in
    let z : is_zero_free rest ≡ true = rw (r, e1, e2) (rest_zero_free path from (path_sound path p).zero_free) in
    let whole : text ≡ joined to rest = j ∙ rw e3 refl in
    rw whole (path_from (joined to rest) (normal_by_parts (joined to rest) (joined_parts to rest sound n)) (joined_zero_free to rest sound.zero_free z) (joined_full to rest n) (rw whole at l))
