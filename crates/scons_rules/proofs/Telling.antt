-- What is kept of the calls that say something of targets.
use Rattle.std.proofs.Common.{arith, ◌≡◌, ◌<◌, ◌≤◌, ◌∙◌, ℕ, suc, zero, ◌+◌, List, [], ◌∷◌, ◌++◌, ◌&&◌, Bool, true, false, ap, sym, refl, length, map, Some, None, Option}
use Rattle.std.specs.Borrow.{Bor}
use Rattle.std.specs.Prelude.{Result, Ok, Err, OnOk, nat_lt, is_some, get_or, take, fold, slice_get}
use Rattle.std.specs.Slice.{IsItemAt}
use Rattle.std.proofs.lemmas.Option.{slice_get_past, slice_get_read}
use Rattle.std.proofs.lemmas.List.Sums.{fold-append}
use Rattle.scons_base.specs.declared.memory.Memory.{Memory}
use Rattle.scons_rules.specs.declared.said.OfRule.{OfRule}
use Rattle.std.specs.List.{list_all, filter, filter_map, flat_map}
use Rattle.std.specs.Str.{bytes_eq}
use Rattle.std.proofs.lemmas.Bool.{ltb-true, ltb-false, lt-ltb}
use Rattle.std.proofs.lemmas.List.{length-append, take_more}
use Rattle.std.proofs.lemmas.List.Elements.{filter_map-append}
use Rattle.std.proofs.lemmas.List.Folds.{list_all-append}
use Rattle.std.proofs.lemmas.Grind.{flat_map-append}
use Rattle.scons_rules.specs.declared.said.SaidOf.{SaidOf}
use Rattle.scons_rules.specs.declared.said.Sentence.{Sentence}
use Rattle.scons_rules.specs.Sayings.{Spoken, sentences_of, numbers_at, sentences_at, with_sentence, Tells}

and_left : (a b : Bool) → (a && b) ≡ true → a ≡ true
and_left true b e = refl
and_left false b e = absurd (cc)

and_right : (a b : Bool) → (a && b) ≡ true → b ≡ true
and_right true b e = e
and_right false b e = absurd (cc)

and_both : (a b : Bool) → a ≡ true → b ≡ true → (a && b) ≡ true
and_both a b e f = rw (e, f) refl

last_at : (xs : List Sentence) (x : Sentence) → slice_get (xs ++ x ∷ []) (length xs) ≡ Some x
last_at [] x = refl
last_at (y ∷ xs) x = last_at xs x

first_at : (xs : List Sentence) (x : Sentence) (n : ℕ) → n < length xs → slice_get (xs ++ x ∷ []) n ≡ slice_get xs n
first_at [] x n l = absurd (omega arith)
first_at (y ∷ xs) x zero l = refl
first_at (y ∷ xs) x (suc n) l = first_at xs x n (omega arith)

below_same : (xs : List Sentence) (x : Sentence) (ns : List ℕ) → list_all (λ n. nat_lt n (length xs)) ns ≡ true
    → filter_map (slice_get (xs ++ x ∷ [])) ns ≡ filter_map (slice_get xs) ns
below_same xs x [] e = refl
below_same xs x (n ∷ ns) e =
    let first = first_at xs x n (ltb-true n (length xs) (and_left (nat_lt n (length xs)) (list_all (λ n. nat_lt n (length xs)) ns) e)) in
    let rest = below_same xs x ns (and_right (nat_lt n (length xs)) (list_all (λ n. nat_lt n (length xs)) ns) e) in
    rw (first, rest) refl

each_last : (xs : List Sentence) (x : Sentence) (ts : List (List ℕ)) → filter_map (slice_get (xs ++ x ∷ [])) (map (λ t. length xs) ts) ≡ map (λ t. x) ts
each_last xs x [] = refl
each_last xs x (t ∷ ts) = rw (last_at xs x, each_last xs x ts) refl

nil_behind : {X : Type 0} → (xs : List X) → xs ++ [] ≡ xs
nil_behind [] = refl
nil_behind (x ∷ xs) = ap (λ l. x ∷ l) (nil_behind xs)

below_more : (m n : ℕ) (ns : List ℕ) → m ≤ n → list_all (λ k. nat_lt k m) ns ≡ true → list_all (λ k. nat_lt k n) ns ≡ true
below_more m n [] l e = refl
below_more m n (k ∷ ns) l e =
    let first : k < m = ltb-true k m (and_left (nat_lt k m) (list_all (λ k. nat_lt k m) ns) e) in
    and_both (nat_lt k n) (list_all (λ k. nat_lt k n) ns) (lt-ltb k n (omega arith)) (below_more m n ns l (and_right (nat_lt k m) (list_all (λ k. nat_lt k m) ns) e))

each_below : (m n : ℕ) (ts : List (List ℕ)) → m < n → list_all (λ k. nat_lt k n) (map (λ t. m) ts) ≡ true
each_below m n [] l = refl
each_below m n (t ∷ ts) l = and_both (nat_lt m n) (list_all (λ k. nat_lt k n) (map (λ t. m) ts)) (lt-ltb m n l) (each_below m n ts l)

-- one call more
pub said_more : (spoken : Spoken) (old new : SaidOf) (targets : List (List ℕ)) (s : Sentence) → Tells spoken old
    → new.sentences.items ≡ old.sentences.items ++ s ∷ []
    → ((path : List ℕ) → numbers_at new path ≡ numbers_at old path ++ map (λ t. length old.sentences.items) (filter (bytes_eq path) targets))
    → Tells (spoken ++ (targets, s) ∷ []) new
said_more spoken old new targets s was sentences numbers = record {
  told = λ t. told t;
  there = λ t. there t;
}
  where
    olds : List Sentence
    olds = old.sentences.items

    told : (t : List ℕ) → sentences_at new t ≡ sentences_of (spoken ++ (targets, s) ∷ []) t
    told t =
        ap (λ (l : List Sentence). filter_map (slice_get l) (numbers_at new t)) sentences ∙ ap (filter_map (slice_get (olds ++ s ∷ []))) (numbers t)
        ∙ filter_map-append (slice_get (olds ++ s ∷ [])) (numbers_at old t) (map (λ x. length olds) (filter (bytes_eq t) targets))
        ∙ ap (λ (l : List Sentence). l ++ filter_map (slice_get (olds ++ s ∷ [])) (map (λ x. length olds) (filter (bytes_eq t) targets))) (below_same olds s (numbers_at old t) (was.there t) ∙ was.told t)
        ∙ ap (λ (l : List Sentence). sentences_of spoken t ++ l) (each_last olds s (filter (bytes_eq t) targets))
        ∙ sym (flat_map-append (λ (c : List (List ℕ) × Sentence). map (λ x. c.1) (filter (bytes_eq t) c.0)) spoken ((targets, s) ∷ [])
        ∙ ap (λ (l : List Sentence). sentences_of spoken t ++ l) (nil_behind (map (λ x. s) (filter (bytes_eq t) targets))))

    count : length new.sentences.items ≡ length olds + 1
    count = ap length sentences ∙ length-append olds (s ∷ [])

    there : (t : List ℕ) → list_all (λ n. nat_lt n (length new.sentences.items)) (numbers_at new t) ≡ true
    there t =
        ap (list_all (λ n. nat_lt n (length new.sentences.items))) (numbers t)
        ∙ list_all-append (λ n. nat_lt n (length new.sentences.items)) (numbers_at old t) (map (λ x. length olds) (filter (bytes_eq t) targets))
        ∙ and_both (list_all (λ n. nat_lt n (length new.sentences.items)) (numbers_at old t))
        (list_all (λ n. nat_lt n (length new.sentences.items)) (map (λ x. length olds) (filter (bytes_eq t) targets)))
        (below_more (length olds) (length new.sentences.items) (numbers_at old t) (omega (arith, count)) (was.there t))
        (each_below (length olds) (length new.sentences.items) (filter (bytes_eq t) targets) (omega (arith, count)))

-- a call by its number
module _ (sentences : List Sentence) (number : ℕ) (r : Option (Bor Sentence)) (found : IsItemAt sentences number r) where
  pub none_told : r ≡ None → filter_map (slice_get sentences) (number ∷ []) ≡ []
  none_told none = rw nothing refl
    where
      nothing : slice_get sentences number ≡ None
      nothing = slice_get_past sentences number (ltb-false number (length sentences) (sym found.0 ∙ ap is_some none))

  pub one_told : (s : Bor Sentence) → r ≡ Some s → filter_map (slice_get sentences) (number ∷ []) ≡ s.now ∷ []
  one_told s some = rw got refl
    where
      within : number < length sentences
      within = ltb-true number (length sentences) (sym found.0 ∙ ap is_some some)

      item : s.now ≡ get_or sentences number s.now
      item = rw some at found.1

      got : slice_get sentences number ≡ Some s.now
      got = slice_get_read sentences (length sentences) number s.now refl within item

pub told_one : (r : Result (Unit {0}) Memory) (a b : OfRule) (sentences : List Sentence) (number : ℕ) (s : Sentence) → filter_map (slice_get sentences) (number ∷ []) ≡ s ∷ []
    → OnOk r (b ≡ with_sentence a s) → OnOk r (b ≡ fold with_sentence a (filter_map (slice_get sentences) (number ∷ [])))
told_one (Ok u) a b sentences number s is added = rw is added
told_one (Err e) a b sentences number s is added = tt

pub told_more : (g : ℕ → Option Sentence) (ns : List ℕ) (i : ℕ) (a b c : OfRule) → i < length ns → b ≡ fold with_sentence a (filter_map g (take i ns))
    → c ≡ fold with_sentence b (filter_map g (get_or ns i 0 ∷ [])) → c ≡ fold with_sentence a (filter_map g (take (i + 1) ns))
told_more g ns i a b c within before is =
    let n = get_or ns i 0 in
    is ∙ ap (λ (r : OfRule). fold with_sentence r (filter_map g (n ∷ []))) before
    ∙ sym (ap (λ l. fold with_sentence a (filter_map g l)) (take_more ns i 0 within)
    ∙ ap (fold with_sentence a) (filter_map-append g (take i ns) (n ∷ []))
    ∙ fold-append with_sentence a (filter_map g (take i ns)) (filter_map g (n ∷ [])))
