-- What a text below a directory names, where both together are a path.
use Rattle.std.proofs.Common.{◌≡◌, ◌==◌, not, ap, sym, refl, ◌∙◌, ℕ, ◌<◌, ◌≤◌, List, [], ◌∷◌, ◌++◌, length, true, false, Bool, cond, arith, true≢false, ne_eqb, None}
use Rattle.std.specs.Prelude.{if◌then◌else◌, IsTrue, position, nat_lt}
use Rattle.std.specs.List.{slice_split, onto_first, position_or_len}
use Rattle.std.proofs.lemmas.Bool.{and_parts, eqb-true, false≢true, not-true, le-ltb}
use Rattle.std.proofs.lemmas.List.Folds.{list_all-append}
use Rattle.std.proofs.lemmas.List.Splits.{length-slice_split}
use Rattle.std.proofs.lemmas.List.Sums.{AllPass-from_list_all, position_or_len_is}
use Rattle.scons_base.specs.declared.limits.TheConstants.{PATH_LIMIT}
use Rattle.scons_base.specs.Normal.{slash, dot, is_top, is_root}
use Rattle.scons_base.specs.Parts.{is_absolute, joined}
use Rattle.scons_base.specs.PathFaults.{is_path, fault_in}
use Rattle.scons_base.specs.Resolve.{follow, enter, walk, target, place_of, spelled, resolved, resolve_fault, is_from_top, IsResolved}
use Rattle.scons_base.proofs.NormalForms.{is_zero_free, path_sound}
use Rattle.scons_base.proofs.Moves.{relative_root}
use Rattle.scons_base.proofs.Spellings.{relative_again}

abbrev cut : List ℕ → List (List ℕ)
cut text = slice_split (λ b. b == slash) text

onto_append : (x : ℕ) (parts more : List (List ℕ)) → 0 < length parts → onto_first x (parts ++ more) ≡ onto_first x parts ++ more
onto_append x [] more h = absurd (omega arith)
onto_append x (part ∷ parts) more h = refl

-- a slash between two texts is a cut
cut_append : (xs ys : List ℕ) → cut (xs ++ slash ∷ ys) ≡ cut xs ++ cut ys
cut_append [] ys = refl
cut_append (x ∷ xs) ys = by (x == slash) (cut_append xs ys)
  where
    by : (t : Bool) → cut (xs ++ slash ∷ ys) ≡ cut xs ++ cut ys → cond t ([] ∷ cut (xs ++ slash ∷ ys)) (onto_first x (cut (xs ++ slash ∷ ys))) ≡ cond t ([] ∷ cut xs) (onto_first x (cut xs)) ++ cut ys
    by true e = ap (λ l. [] ∷ l) e
    by false e = ap (onto_first x) e ∙ onto_append x (cut xs) (cut ys) (omega (arith, length-slice_split (λ b. b == slash) xs))

follow_append : (place parts more : List (List ℕ)) → follow place (parts ++ more) ≡ follow (follow place parts) more
follow_append place [] more = refl
follow_append place (part ∷ parts) more = follow_append (enter place part) parts more

-- a walk goes on behind a slash
walk_on : (place : List (List ℕ)) (dir text : List ℕ) → walk place (dir ++ slash ∷ text) ≡ walk (walk place dir) text
walk_on place dir text = ap (follow place) (cut_append dir text) ∙ follow_append place (cut dir) (cut text)

top_text : (path : List ℕ) → is_top path ≡ true → path ≡ dot ∷ []
top_text [] h = absurd (false≢true h)
top_text (a ∷ []) h = ap (λ x. x ∷ []) (eqb-true a dot h)
top_text (a ∷ b ∷ rest) h = absurd (false≢true h)

longer_relative : (dir rest : List ℕ) → 0 < length dir → is_absolute dir ≡ false → is_absolute (dir ++ rest) ≡ false
longer_relative [] rest l h = absurd (omega arith)
longer_relative (d ∷ ds) rest l h = h

-- what is joined to a directory is relative as the directory is, leads where the text leads from there, and has a zero byte
-- where the text has one
record IsJoined (place : List (List ℕ)) (dir text path : List ℕ) : Type 0 where
  relative : is_absolute path ≡ false
  leads : walk (walk place dir) text ≡ walk place path
  zero_free : is_zero_free path ≡ true → is_zero_free text ≡ true

is_below : (place : List (List ℕ)) (dir text : List ℕ) → 0 < length dir → is_absolute dir ≡ false → is_absolute text ≡ false → IsJoined place dir text (joined dir text)
is_below place dir text l a b = by (is_top dir) (is_root dir) refl (relative_root dir a).0
  where
    by : (t r : Bool) → is_top dir ≡ t → r ≡ false → IsJoined place dir text (if t then text else (if r then slash ∷ text else dir ++ slash ∷ text))
    by true r t e = record { relative = b; leads = ap (λ d. walk (walk place d) text) (top_text dir t); zero_free = λ z. z }
    by false true t e = absurd (true≢false e)
    by false false t e = record {
      relative = longer_relative dir (slash ∷ text) l a;
      leads = sym (walk_on place dir text);
      zero_free = λ z. (and_parts (is_zero_free dir) (is_zero_free (slash ∷ text)) (sym (list_all-append (λ b. not (b == 0)) dir (slash ∷ text)) ∙ z)).1;
    }

no_zero : (text : List ℕ) → is_zero_free text ≡ true → position (λ b. b == 0) text ≡ None
no_zero text h =
    let n : position_or_len (λ b. b == 0) text ≡ length text =
    position_or_len_is (λ b. b == 0) text (length text) 0 (omega arith) (λ k l. not-true _ (AllPass-from_list_all (λ b. not (b == 0)) text h k 0 l)) (λ l. absurd (omega arith)) in
    rw (n, le-ltb (length text) (length text) (omega arith)) refl

-- a path that is what a text names, as `resolve` tells it
pub record IsNamed (top dir text path : List ℕ) : Type 0 where
  pub named : path ≡ resolved top dir text
  pub again : IsResolved top path
  pub no_fault : resolve_fault top dir text ≡ None

faultless : (top dir text path : List ℕ) → 0 < length text → path ≡ resolved top dir text → is_zero_free text ≡ true → length path ≤ PATH_LIMIT → resolve_fault top dir text ≡ None
faultless top dir text path l e z f =
    let full : (length text == 0) ≡ false = ne_eqb _ _ (omega arith) in
    let fits : nat_lt PATH_LIMIT (length (resolved top dir text)) ≡ false = le-ltb _ _ (rw (sym e) f) in
    rw (full, no_zero text z, fits) refl

pub joined_named : (top dir text path : List ℕ) → IsTrue (is_path dir) → is_absolute dir ≡ false → 0 < length text → is_absolute text ≡ false → is_from_top text ≡ false
    → fault_in path ≡ None → path ≡ joined dir text → IsNamed top dir text path
joined_named top dir text path d a l b h f e =
    let valid : IsTrue (is_path path) = rw f refl in
    let sound = path_sound path valid in
    let below : IsJoined (walk [] top) dir text path = rw e (is_below (walk [] top) dir text (path_sound dir d).full a b) in
    let same = relative_again top path valid below.relative in
    let there : target top dir text ≡ place_of top path = rw (h, b, a, below.relative) below.leads in
    let named : path ≡ resolved top dir text = sym same.0 ∙ ap (spelled (walk [] top)) (sym there) in
    record { named = named; again = same.1; no_fault = faultless top dir text path l named (below.zero_free sound.zero_free) sound.fits }
