-- Texts made of names are in normal form.
use Rattle.std.proofs.Common.{◌≡◌, ◌==◌, ◌&&◌, ◌||◌, not, ap, sym, refl, ◌∙◌, ℕ, ◌-◌, ◌<◌, List, [], ◌∷◌, ◌++◌, length, take, drop, Option, Some, None, true, false, Bool, cond, arith, lit<, true≢false, append-nil, ne_eqb, ◌≤◌}
use Rattle.std.specs.Prelude.{if◌then◌else◌, position, nat_lt, is_none, IsTrue}
use Rattle.std.specs.List.{slice_split, starts_with, list_all, onto_first, All, position_or_len}
use Rattle.std.specs.Str.{bytes_eq}
use Rattle.std.proofs.lemmas.List.{take-append-drop}
use Rattle.std.proofs.lemmas.Bool.{and_parts, eqb-false, not-true, le-ltb, ltb-false}
use Rattle.std.proofs.lemmas.List.Folds.{list_all-append}
use Rattle.std.proofs.lemmas.List.Sums.{AllPass-from_list_all, list_all-from_AllPass, position_or_len_is, fails_before_first}
use Rattle.std.proofs.lemmas.List.Splits.{slice_split_none, slice_split_at}
use Rattle.scons_base.specs.declared.limits.TheConstants.{PATH_LIMIT}
use Rattle.scons_base.specs.Normal.{slash, is_name, is_normal, parts_of, below_root, is_top, is_root}
use Rattle.scons_base.specs.Parts.{is_absolute}
use Rattle.scons_base.specs.PathFaults.{fault_in, fault_past_zero, is_path}
use Rattle.scons_base.specs.declared.fault.PathFault.{PathFault}
use Rattle.scons_base.specs.declared.fault.PathFault.TheVariants.{Empty, BadByte, TooLong, NotNormal}
use Rattle.scons_base.specs.Resolve.{enter, follow, walk, steps, relative_text, absolute_text, spelled, target, place_of, is_up, is_from_top, resolved}

-- no zero byte
abbrev pub is_zero_free : List ℕ → Bool
is_zero_free text = list_all (λ b. not (b == 0)) text

abbrev pub is_solid : List ℕ → Bool
is_solid part = list_all (λ b. not (b == slash) && not (b == 0)) part

-- a name with neither a slash nor a zero byte
abbrev pub is_part : List ℕ → Bool
is_part name = is_name name && is_solid name

-- each part between slashes is solid
onto_solid : (b : ℕ) (parts : List (List ℕ)) → (not (b == slash) && not (b == 0)) ≡ true → list_all is_solid parts ≡ true → list_all is_solid (onto_first b parts) ≡ true
onto_solid b [] s h = rw s refl
onto_solid b (part ∷ parts) s h = let k = and_parts (is_solid part) (list_all is_solid parts) h in rw (s, k.0, k.1) refl

split_cond : (b : ℕ) (parts : List (List ℕ)) (t : Bool) → (b == slash) ≡ t → not (b == 0) ≡ true → list_all is_solid parts ≡ true
    → list_all is_solid (cond t ([] ∷ parts) (onto_first b parts)) ≡ true
split_cond b parts true e z h = h
split_cond b parts false e z h = onto_solid b parts (rw (e, z) refl) h

pub split_solid : (text : List ℕ) → is_zero_free text ≡ true → list_all is_solid (slice_split (λ b. b == slash) text) ≡ true
split_solid [] h = refl
split_solid (b ∷ bs) h = let k = and_parts _ _ h in split_cond b _ (b == slash) refl k.0 (split_solid bs k.1)

pub cut_pass : {X : Type 0} → (p : X → Bool) (n : ℕ) (xs : List X) → list_all p xs ≡ true → (list_all p (take n xs) ≡ true) × (list_all p (drop n xs) ≡ true)
cut_pass p n xs h = and_parts _ _ (sym (list_all-append p (take n xs) (drop n xs)) ∙ ap (list_all p) (take-append-drop n xs) ∙ h)

-- each name of a place that is entered is a part
enter_by : (place : List (List ℕ)) (part : List ℕ) (u n : Bool) → is_name part ≡ n → list_all is_part place ≡ true → is_solid part ≡ true
    → list_all is_part (if u then take (length place - 1) place else (if n then place ++ part ∷ [] else place)) ≡ true
enter_by place part true n e h s = (cut_pass is_part (length place - 1) place h).0
enter_by place part false true e h s = list_all-append is_part place (part ∷ []) ∙ rw (h, e, s) refl
enter_by place part false false e h s = h

follow_parts : (place : List (List ℕ)) (parts : List (List ℕ)) → list_all is_part place ≡ true → list_all is_solid parts ≡ true → list_all is_part (follow place parts) ≡ true
follow_parts place [] h s = h
follow_parts place (part ∷ parts) h s =
    let k = and_parts (is_solid part) (list_all is_solid parts) s in
    follow_parts (enter place part) parts (enter_by place part (is_up part) (is_name part) refl h k.0) k.1

pub walk_parts : (place : List (List ℕ)) (text : List ℕ) → list_all is_part place ≡ true → is_zero_free text ≡ true → list_all is_part (walk place text) ≡ true
walk_parts place text h z = follow_parts place (slice_split (λ b. b == slash) text) h (split_solid text z)

if_parts : (b : Bool) (xs ys : List (List ℕ)) → list_all is_part xs ≡ true → list_all is_part ys ≡ true → list_all is_part (if b then xs else ys) ≡ true
if_parts true xs ys h k = h
if_parts false xs ys h k = k

pub target_parts : (top dir text : List ℕ) → is_zero_free top ≡ true → is_zero_free dir ≡ true → is_zero_free text ≡ true → list_all is_part (target top dir text) ≡ true
target_parts top dir text t d z =
    let at_top = walk_parts [] top refl t in
    let at_dir = walk_parts (if is_absolute dir then [] else walk [] top) dir (if_parts (is_absolute dir) [] (walk [] top) refl at_top) d in
    if_parts (is_from_top text) _ _ (walk_parts (walk [] top) (drop 1 text) at_top (cut_pass (λ b. not (b == 0)) 1 text z).1)
    (walk_parts (if is_absolute text then [] else place_of top dir) text (if_parts (is_absolute text) [] (place_of top dir) refl at_dir) z)

pub both : (names : List (List ℕ)) → list_all is_part names ≡ true → (list_all is_name names ≡ true) × (list_all is_solid names ≡ true)
both [] h = (refl, refl)
both (name ∷ names) h =
    let k = and_parts (is_part name) (list_all is_part names) h in
    let l = and_parts (is_name name) (is_solid name) k.0 in
    let m = both names k.1 in
    (rw (l.0, m.0) refl, rw (l.1, m.1) refl)

slash_free : (name : List ℕ) → is_solid name ≡ true → All (λ b. (b == slash) ≡ false) name
slash_free name h k d l = not-true _ (and_parts _ _ (AllPass-from_list_all _ name h k d l)).0

-- names with slashes between them are cut at the slashes
pub split_steps : (name : List ℕ) (names : List (List ℕ)) → is_solid name ≡ true → list_all is_solid names ≡ true → slice_split (λ b. b == slash) (name ++ steps names) ≡ name ∷ names
split_steps name [] s h = ap (slice_split (λ b. b == slash)) (append-nil name) ∙ slice_split_none _ name (slash_free name s)
split_steps name (next ∷ names) s h =
    let k = and_parts (is_solid next) (list_all is_solid names) h in
    slice_split_at (λ b. b == slash) name slash (next ++ steps names) (slash_free name s) refl ∙ ap (λ l. name ∷ l) (split_steps next names k.0 k.1)

or_true : (b : Bool) → (b || true) ≡ true
or_true true = refl
or_true false = refl

-- a text whose parts are names is in normal form
pub normal_by_parts : (text : List ℕ) → list_all is_name (parts_of text) ≡ true → is_normal text ≡ true
normal_by_parts text h = rw h (or_true (is_top text || is_root text))

-- what begins with a name is not absolute
below_name : (name rest : List ℕ) → is_part name ≡ true → below_root (name ++ rest) ≡ name ++ rest
below_name [] rest h = absurd (true≢false (sym h))
below_name (b ∷ bs) rest h =
    let s = (and_parts (is_name (b ∷ bs)) (is_solid (b ∷ bs)) h).1 in
    let free = not-true (b == slash) (and_parts (not (b == slash)) (not (b == 0)) (and_parts _ (is_solid bs) s).0).0 in
    rw free refl

pub relative_normal : (names : List (List ℕ)) → list_all is_part names ≡ true → is_normal (relative_text names) ≡ true
relative_normal [] h = refl
relative_normal (name ∷ names) h =
    let k = and_parts (is_part name) (list_all is_part names) h in
    let l = and_parts (is_name name) (is_solid name) k.0 in
    let m = both names k.1 in
    let e : parts_of (name ++ steps names) ≡ name ∷ names = ap (slice_split (λ b. b == slash)) (below_name name (steps names) k.0) ∙ split_steps name names l.1 m.1 in
    normal_by_parts (name ++ steps names) (rw (e, l.0, m.0) refl)

pub absolute_normal : (names : List (List ℕ)) → list_all is_part names ≡ true → is_normal (absolute_text names) ≡ true
absolute_normal [] h = refl
absolute_normal (name ∷ names) h =
    let k = both (name ∷ names) h in
    let l = and_parts (is_solid name) (list_all is_solid names) k.1 in
    let e : parts_of (slash ∷ (name ++ steps names)) ≡ name ∷ names = split_steps name names l.0 l.1 in
    normal_by_parts (slash ∷ (name ++ steps names)) (ap (list_all is_name) e ∙ k.0)

solid_zero_free : (name : List ℕ) → is_solid name ≡ true → is_zero_free name ≡ true
solid_zero_free [] h = refl
solid_zero_free (b ∷ bs) h =
    let k = and_parts (not (b == slash) && not (b == 0)) (is_solid bs) h in
    rw ((and_parts (not (b == slash)) (not (b == 0)) k.0).1, solid_zero_free bs k.1) refl

steps_zero_free : (names : List (List ℕ)) → list_all is_solid names ≡ true → is_zero_free (steps names) ≡ true
steps_zero_free [] h = refl
steps_zero_free (name ∷ names) h =
    let k = and_parts (is_solid name) (list_all is_solid names) h in
    list_all-append _ name (steps names) ∙ rw (solid_zero_free name k.0, steps_zero_free names k.1) refl

pub relative_zero_free : (names : List (List ℕ)) → list_all is_part names ≡ true → is_zero_free (relative_text names) ≡ true
relative_zero_free [] h = refl
relative_zero_free (name ∷ names) h =
    let k = and_parts (is_solid name) (list_all is_solid names) (both (name ∷ names) h).1 in
    list_all-append _ name (steps names) ∙ rw (solid_zero_free name k.0, steps_zero_free names k.1) refl

pub absolute_zero_free : (names : List (List ℕ)) → list_all is_part names ≡ true → is_zero_free (absolute_text names) ≡ true
absolute_zero_free [] h = refl
absolute_zero_free (name ∷ names) h = steps_zero_free (name ∷ names) (both (name ∷ names) h).1

pub relative_full : (names : List (List ℕ)) → list_all is_part names ≡ true → 0 < length (relative_text names)
relative_full [] h = lit< tt
relative_full ([] ∷ names) h = absurd (true≢false (sym h))
relative_full ((b ∷ bs) ∷ names) h = omega arith

pub absolute_full : (names : List (List ℕ)) → 0 < length (absolute_text names)
absolute_full [] = lit< tt
absolute_full (name ∷ names) = omega arith

position_none : (text : List ℕ) → is_zero_free text ≡ true → position (λ b. b == 0) text ≡ None
position_none text h =
    let n : position_or_len (λ b. b == 0) text ≡ length text =
    position_or_len_is (λ b. b == 0) text (length text) 0 (omega arith) (λ k l. not-true _ (AllPass-from_list_all (λ b. not (b == 0)) text h k 0 l)) (λ l. absurd (omega arith)) in
    rw (n, le-ltb (length text) (length text) (omega arith)) refl

-- a text in normal form that is neither empty nor too long and has no zero byte is a path
pub path_from : (text : List ℕ) → is_normal text ≡ true → is_zero_free text ≡ true → 0 < length text → length text ≤ PATH_LIMIT → IsTrue (is_path text)
path_from text n z f l =
    let full : (length text == 0) ≡ false = ne_eqb _ _ (omega arith) in
    let fits : nat_lt PATH_LIMIT (length text) ≡ false = le-ltb _ _ l in
    let e : fault_in text ≡ None = rw (full, position_none text z, fits, n) refl in
    rw e refl

pub spelled_path : (top place : List (List ℕ)) → list_all is_part place ≡ true → length (spelled top place) ≤ PATH_LIMIT → IsTrue (is_path (spelled top place))
spelled_path top place h l = by (starts_with bytes_eq place top) refl
  where
    by : (b : Bool) → starts_with bytes_eq place top ≡ b → IsTrue (is_path (spelled top place))
    by true e =
        let k = (cut_pass is_part (length top) place h).1 in
        let s : spelled top place ≡ relative_text (drop (length top) place) = rw e refl in
        rw s (path_from (relative_text (drop (length top) place)) (relative_normal (drop (length top) place) k) (relative_zero_free (drop (length top) place) k) (relative_full (drop (length top) place) k) (rw s at l))
    by false e =
        let s : spelled top place ≡ absolute_text place = rw e refl in
        rw s (path_from (absolute_text place) (absolute_normal place h) (absolute_zero_free place h) (absolute_full place) (rw s at l))

abbrev by_zero : List ℕ → Option ℕ → Bool → Bool → Option PathFault
by_zero text (Some place) long n = Some (BadByte place)
by_zero text None long n = if long then Some (TooLong (length text)) else (if n then None else Some NotNormal)

some≢none : {X : Type 0} → (x : X) → Some x ≡ None → ⊥
some≢none x e = cc

pub zero_free_from_position : (text : List ℕ) → position (λ b. b == 0) text ≡ None → is_zero_free text ≡ true
zero_free_from_position text h = by (nat_lt (position_or_len (λ b. b == 0) text) (length text)) refl
  where
    by : (b : Bool) → nat_lt (position_or_len (λ b. b == 0) text) (length text) ≡ b → is_zero_free text ≡ true
    by true e =
        let found : position (λ b. b == 0) text ≡ Some (position_or_len (λ b. b == 0) text) = rw e refl in
        absurd (some≢none _ (sym found ∙ h))
    by false e =
        let none : length text ≤ position_or_len (λ b. b == 0) text = ltb-false _ _ e in
        list_all-from_AllPass (λ b. not (b == 0)) text (λ k d l. ap not (fails_before_first (λ b. b == 0) text k d (omega arith)))

-- a path has no zero byte, and is in normal form
pub record IsSound (text : List ℕ) : Type 0 where
  pub zero_free : is_zero_free text ≡ true
  pub normal : is_normal text ≡ true
  pub full : 0 < length text
  pub fits : length text ≤ PATH_LIMIT

sound_by : (text : List ℕ) (e : Bool) (o : Option ℕ) (long n : Bool) → (length text == 0) ≡ e → position (λ b. b == 0) text ≡ o → nat_lt PATH_LIMIT (length text) ≡ long → is_normal text ≡ n
    → is_none (if e then Some Empty else by_zero text o long n) ≡ true → IsSound text
sound_by text true o long n f p l m h = absurd (true≢false (sym h))
sound_by text false (Some k) long n f p l m h = absurd (true≢false (sym h))
sound_by text false None true n f p l m h = absurd (true≢false (sym h))
sound_by text false None false false f p l m h = absurd (true≢false (sym h))
sound_by text false None false true f p l m h = record { zero_free = zero_free_from_position text p; normal = m; full = let k = eqb-false _ _ f in omega arith; fits = ltb-false _ _ l }

pub path_sound : (text : List ℕ) → IsTrue (is_path text) → IsSound text
path_sound text h = sound_by text (length text == 0) (position (λ b. b == 0) text) (nat_lt PATH_LIMIT (length text)) (is_normal text) refl refl refl refl (by_same text (position (λ b. b == 0) text) ∙ h)
  where
    by_same : (text : List ℕ) (o : Option ℕ) → is_none (if length text == 0 then Some Empty else by_zero text o (nat_lt PATH_LIMIT (length text)) (is_normal text)) ≡ is_none (if length text == 0 then Some Empty else fault_past_zero text o)
    by_same text None = refl
    by_same text (Some k) = refl

-- what a text resolves to is a path where it isn't too long
pub resolved_path : (top dir text top' dir' normal : List ℕ) → IsTrue (is_path top) → IsTrue (is_path dir) → position (λ b. b == 0) text ≡ None
    → top' ≡ top → dir' ≡ dir → normal ≡ resolved top' dir' text → length normal ≤ PATH_LIMIT → IsTrue (is_path normal)
resolved_path top dir text top' dir' normal t d z e f n l =
    let m : normal ≡ resolved top dir text = n ∙ rw (e, f) refl in
    rw m (spelled_path (walk [] top) (target top dir text) (target_parts top dir text (path_sound top t).zero_free (path_sound dir d).zero_free (zero_free_from_position text z)) (rw m at l))
