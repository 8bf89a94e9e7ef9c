-- A path that is spelled again is the same path.
use Rattle.std.proofs.Common.{◌≡◌, ◌==◌, not, ap, sym, refl, ◌∙◌, ℕ, ◌<◌, ◌≤◌, List, [], ◌∷◌, ◌++◌, length, drop, true, false, Bool, cond, arith, lit≤, true≢false, append-nil, append_assoc, zero, suc}
use Rattle.std.specs.Prelude.{if◌then◌else◌, IsTrue}
use Rattle.std.specs.List.{slice_split, starts_with, list_all, onto_first}
use Rattle.std.specs.Str.{bytes_eq}
use Rattle.std.proofs.lemmas.Bool.{and_parts, not-true, eqb-true, false≢true}
use Rattle.std.proofs.lemmas.List.{length-append}
use Rattle.std.proofs.lemmas.List.Splits.{length-slice_split}
use Rattle.std.proofs.lemmas.Slice.Eq.{starts_is, bytes_eq-Decides}
use Rattle.std.proofs.Math.Seq.{drop-append_seam}
use Rattle.scons_base.specs.declared.limits.TheConstants.{PATH_LIMIT}
use Rattle.scons_base.specs.Normal.{slash, dot, is_name, is_top, is_root}
use Rattle.scons_base.specs.Parts.{is_absolute}
use Rattle.scons_base.specs.PathFaults.{is_path}
use Rattle.scons_base.specs.Resolve.{enter, follow, walk, steps, relative_text, absolute_text, spelled, spelling, target, place_of, is_up, is_from_top, resolved, IsResolved}
use Rattle.scons_base.proofs.NormalForms.{is_zero_free, is_solid, is_part, both, cut_pass, split_steps, split_solid, target_parts, spelled_path, path_sound, IsSound}
use Rattle.scons_base.proofs.Moves.{names_of_normal, relative_root, absolute_top}

abbrev cut : List ℕ → List (List ℕ)
cut text = slice_split (λ b. b == slash) text

not_up : (part : List ℕ) → is_name part ≡ true → is_up part ≡ false
not_up [] h = refl
not_up (a ∷ []) h = refl
not_up (a ∷ b ∷ []) h = not-true _ h
not_up (a ∷ b ∷ c ∷ rest) h = refl

-- names lead on, one after another
follow_names : (place names : List (List ℕ)) → list_all is_name names ≡ true → follow place names ≡ place ++ names
follow_names place [] h = sym (append-nil place)
follow_names place (name ∷ names) h =
    let k = and_parts (is_name name) (list_all is_name names) h in
    let e : enter place name ≡ place ++ name ∷ [] = rw (not_up name k.0, k.0) refl in
    rw e (follow_names (place ++ name ∷ []) names k.1 ∙ append_assoc place (name ∷ []) names)

-- the text of a place leads to it
relative_walk : (place names : List (List ℕ)) → list_all is_part names ≡ true → walk place (relative_text names) ≡ place ++ names
relative_walk place [] h = sym (append-nil place)
relative_walk place (name ∷ names) h =
    let k = both (name ∷ names) h in
    let l = and_parts (is_solid name) (list_all is_solid names) k.1 in
    ap (follow place) (split_steps name names l.0 l.1) ∙ follow_names place (name ∷ names) k.0

absolute_walk : (names : List (List ℕ)) → list_all is_part names ≡ true → walk [] (absolute_text names) ≡ names
absolute_walk [] h = refl
absolute_walk (name ∷ names) h =
    let k = both (name ∷ names) h in
    let l = and_parts (is_solid name) (list_all is_solid names) k.1 in
    ap (follow []) (split_steps name names l.0 l.1) ∙ follow_names [] (name ∷ names) k.0

relative_text_relative : (names : List (List ℕ)) → list_all is_part names ≡ true → is_absolute (relative_text names) ≡ false
relative_text_relative [] h = refl
relative_text_relative ([] ∷ names) h = absurd (true≢false (sym h))
relative_text_relative ((b ∷ bs) ∷ names) h =
    let s = (and_parts _ _ (both ((b ∷ bs) ∷ names) h).1).0 in
    not-true (b == slash) (and_parts (not (b == slash)) (not (b == 0)) (and_parts _ (is_solid bs) s).0).0

absolute_text_absolute : (names : List (List ℕ)) → is_absolute (absolute_text names) ≡ true
absolute_text_absolute [] = refl
absolute_text_absolute (name ∷ names) = refl

begins : (place top : List (List ℕ)) → starts_with bytes_eq place top ≡ true → place ≡ top ++ drop (length top) place
begins place top h = (starts_is bytes_eq-Decides place top (starts_with bytes_eq place top) refl).0 h

begins_append : (top names : List (List ℕ)) → starts_with bytes_eq (top ++ names) top ≡ true
begins_append top names = (starts_is bytes_eq-Decides (top ++ names) top (starts_with bytes_eq (top ++ names) top) refl).1 names refl

abbrev place_if : List ℕ → Bool → List ℕ → List (List ℕ)
place_if top absolute path = walk (if absolute then [] else walk [] top) path

-- the spelling of a place leads to it
leads_back : (top : List ℕ) (place : List (List ℕ)) → list_all is_part place ≡ true → list_all is_part (drop (length (walk [] top)) place) ≡ true → place_of top (spelled (walk [] top) place) ≡ place
leads_back top place h k = by (starts_with bytes_eq place (walk [] top)) refl
  where
    by : (b : Bool) → starts_with bytes_eq place (walk [] top) ≡ b → place_of top (spelled (walk [] top) place) ≡ place
    by true e =
        let names = drop (length (walk [] top)) place in
        let s : spelled (walk [] top) place ≡ relative_text names = rw e refl in
        ap (place_of top) s ∙ ap (λ a. place_if top a (relative_text names)) (relative_text_relative names k) ∙ relative_walk (walk [] top) names k ∙ sym (begins place (walk [] top) e)
    by false e =
        let s : spelled (walk [] top) place ≡ absolute_text place = rw e refl in
        ap (place_of top) s ∙ ap (λ a. place_if top a (absolute_text place)) (absolute_text_absolute place) ∙ absolute_walk place h

-- read from the top directory, a text without the mark names what it names as a path
from_top : (top path : List ℕ) → is_from_top path ≡ false → resolved top (dot ∷ []) path ≡ spelling top path
from_top top path h = rw h refl

resolved_by : (top path : List ℕ) (place : List (List ℕ)) → path ≡ spelled (walk [] top) place → place_of top path ≡ place → IsResolved top path
resolved_by top path place s e =
    let again : spelling top path ≡ path = ap (spelled (walk [] top)) e ∙ sym s in
    record { spelling = again; named = λ h. from_top top path h ∙ again }

-- what `resolve` gives
pub resolved_again : (top dir text top' dir' path : List ℕ) → IsTrue (is_path top) → IsTrue (is_path dir) → is_zero_free text ≡ true → top' ≡ top → dir' ≡ dir
    → path ≡ resolved top' dir' text → IsResolved top path
resolved_again top dir text top' dir' path t d z e f p =
    let place = target top dir text in
    let q : path ≡ spelled (walk [] top) place = p ∙ rw (e, f) refl in
    let h = target_parts top dir text (path_sound top t).zero_free (path_sound dir d).zero_free z in
    resolved_by top path place q (ap (place_of top) q ∙ leads_back top place h (cut_pass is_part (length (walk [] top)) place h).1)

-- names joined by slashes
abbrev join : List (List ℕ) → List ℕ
join [] = []
join (name ∷ names) = name ++ steps names

steps_join : (names : List (List ℕ)) → 0 < length names → steps names ≡ slash ∷ join names
steps_join [] h = absurd (omega arith)
steps_join (name ∷ names) h = refl

onto_join : (b : ℕ) (names : List (List ℕ)) → 0 < length names → join (onto_first b names) ≡ b ∷ join names
onto_join b [] h = absurd (omega arith)
onto_join b (name ∷ names) h = refl

full_cut : (text : List ℕ) → 0 < length (cut text)
full_cut text = omega (arith, length-slice_split (λ b. b == slash) text)

join_cut : (text : List ℕ) → join (cut text) ≡ text
join_cut [] = refl
join_cut (b ∷ bs) = by (b == slash) refl (join_cut bs)
  where
    by : (t : Bool) → (b == slash) ≡ t → join (cut bs) ≡ bs → join (cond t ([] ∷ cut bs) (onto_first b (cut bs))) ≡ b ∷ bs
    by true e k = steps_join (cut bs) (full_cut bs) ∙ ap (λ l. slash ∷ l) k ∙ ap (λ x. x ∷ bs) (sym (eqb-true b slash e))
    by false e k = onto_join b (cut bs) (full_cut bs) ∙ ap (λ l. b ∷ l) k

relative_join : (names : List (List ℕ)) → 0 < length names → relative_text names ≡ join names
relative_join [] h = absurd (omega arith)
relative_join (name ∷ names) h = refl

absolute_join : (names : List (List ℕ)) → 0 < length names → absolute_text names ≡ slash ∷ join names
absolute_join [] h = absurd (omega arith)
absolute_join (name ∷ names) h = refl

all_parts : (names : List (List ℕ)) → list_all is_name names ≡ true → list_all is_solid names ≡ true → list_all is_part names ≡ true
all_parts [] h k = refl
all_parts (name ∷ names) h k =
    let n = and_parts (is_name name) (list_all is_name names) h in
    let s = and_parts (is_solid name) (list_all is_solid names) k in
    rw (n.0, s.0, all_parts names n.1 s.1) refl

top_text : (path : List ℕ) → is_top path ≡ true → path ≡ dot ∷ []
top_text [] h = absurd (false≢true h)
top_text (a ∷ []) h = ap (λ x. x ∷ []) (eqb-true a dot h)
top_text (a ∷ b ∷ rest) h = absurd (false≢true h)

root_text : (path : List ℕ) → is_root path ≡ true → path ≡ slash ∷ []
root_text [] h = absurd (false≢true h)
root_text (a ∷ []) h = ap (λ x. x ∷ []) (eqb-true a slash h)
root_text (a ∷ b ∷ rest) h = absurd (false≢true h)

head_slash : (path : List ℕ) → is_absolute path ≡ true → path ≡ slash ∷ drop 1 path
head_slash [] h = absurd (false≢true h)
head_slash (b ∷ bs) h = ap (λ x. x ∷ bs) (eqb-true b slash h)

-- the names of a path
record Named (spell : List (List ℕ) → List ℕ) (path : List ℕ) : Type 0 where
  names : List (List ℕ)
  parts : list_all is_part names ≡ true
  text : path ≡ spell names

relative_named : (path : List ℕ) → IsSound path → is_absolute path ≡ false → Named relative_text path
relative_named path p a = by (is_top path) refl
  where
    by : (t : Bool) → is_top path ≡ t → Named relative_text path
    by true t = record { names = []; parts = refl; text = top_text path t }
    by false t =
        let r = relative_root path a in
        let n : list_all is_name (cut path) ≡ true = ap (λ l. list_all is_name (cut l)) (sym r.1) ∙ names_of_normal path p.normal t r.0 in
        record { names = cut path; parts = all_parts (cut path) n (split_solid path p.zero_free); text = sym (relative_join (cut path) (full_cut path) ∙ join_cut path) }

absolute_named : (path : List ℕ) → IsSound path → is_absolute path ≡ true → Named absolute_text path
absolute_named path p a = by (is_root path) refl
  where
    rest : List ℕ
    rest = drop 1 path

    by : (r : Bool) → is_root path ≡ r → Named absolute_text path
    by true r = record { names = []; parts = refl; text = root_text path r }
    by false r =
        let t = absolute_top path a in
        let n : list_all is_name (cut (drop 1 path)) ≡ true = ap (λ l. list_all is_name (cut l)) (sym t.1) ∙ names_of_normal path p.normal t.0 r in
        record {
          names = cut (drop 1 path);
          parts = all_parts (cut (drop 1 path)) n (split_solid (drop 1 path) (cut_pass (λ b. not (b == 0)) 1 path p.zero_free).1);
          text = head_slash path a ∙ sym (absolute_join (cut (drop 1 path)) (full_cut (drop 1 path)) ∙ ap (λ l. slash ∷ l) (join_cut (drop 1 path)));
        }

-- a relative path is its own spelling
spelling_relative : (top path : List ℕ) → IsSound path → is_absolute path ≡ false → spelling top path ≡ path
spelling_relative top path p a =
    let named = relative_named path p a in
    let place : place_of top path ≡ walk [] top ++ named.names =
    ap (λ b. place_if top b path) a ∙ ap (walk (walk [] top)) named.text ∙ relative_walk (walk [] top) named.names named.parts in
    let begin = begins_append (walk [] top) named.names in
    let back : spelled (walk [] top) (walk [] top ++ named.names) ≡ relative_text named.names = rw (begin, drop-append_seam (walk [] top) named.names) refl in
    ap (spelled (walk [] top)) place ∙ back ∙ sym named.text

pub relative_again : (top path : List ℕ) → IsTrue (is_path path) → is_absolute path ≡ false → (spelling top path ≡ path) × IsResolved top path
relative_again top path p a =
    let again = spelling_relative top path (path_sound path p) a in
    (again, record { spelling = again; named = λ h. from_top top path h ∙ again })

absolute_longer : (name : List ℕ) (names : List (List ℕ)) → length (absolute_text names) ≤ length (absolute_text (name ∷ names))
absolute_longer name [] = omega arith
absolute_longer name (next ∷ names) = omega (arith, length-append name (steps (next ∷ names)))

relative_shorter : (n : ℕ) (names : List (List ℕ)) → length (relative_text (drop n names)) ≤ length (absolute_text names)
relative_shorter zero [] = lit≤ tt
relative_shorter (suc n) [] = lit≤ tt
relative_shorter zero (name ∷ names) = omega arith
relative_shorter (suc n) (name ∷ names) = omega (arith, relative_shorter n names, absolute_longer name names)

spelled_shorter : (top names : List (List ℕ)) → length (spelled top names) ≤ length (absolute_text names)
spelled_shorter top names = by (starts_with bytes_eq names top)
  where
    by : (b : Bool) → length (if b then relative_text (drop (length top) names) else absolute_text names) ≤ length (absolute_text names)
    by true = relative_shorter (length top) names
    by false = omega arith

-- the spelling of an absolute path is a path
pub absolute_spelled : (top path top' path' text : List ℕ) → IsTrue (is_path top) → IsTrue (is_path path) → is_absolute path ≡ true
    → top' ≡ top → path' ≡ path → text ≡ spelling top' path' → IsTrue (is_path text) × IsResolved top text
absolute_spelled top path top' path' text t p a e f s =
    let fits = (path_sound path p).fits in
    let named = absolute_named path (path_sound path p) a in
    let place : place_of top path ≡ named.names = ap (λ b. place_if top b path) a ∙ ap (walk []) named.text ∙ absolute_walk named.names named.parts in
    let whole : text ≡ spelled (walk [] top) named.names = s ∙ rw (e, f) refl ∙ ap (spelled (walk [] top)) place in
    let short : length (spelled (walk [] top) named.names) ≤ PATH_LIMIT = omega (arith, fits, spelled_shorter (walk [] top) named.names, ap length named.text) in
    let back = leads_back top named.names named.parts (cut_pass is_part (length (walk [] top)) named.names named.parts).1 in
    (rw whole (spelled_path (walk [] top) named.names named.parts short), resolved_by top text named.names whole (ap (place_of top) whole ∙ back))
