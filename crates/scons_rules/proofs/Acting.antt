-- The actions of a rule: what comes of a text, and of a list in its place.
use Rattle.std.proofs.Common.{arith, ◌≡◌, ◌<◌, ◌≤◌, ◌∙◌, ℕ, zero, suc, ◌+◌, ◌-◌, List, [], ◌∷◌, ◌++◌, ◌&&◌, Bool, true, false, ap, sym, refl, ◌≢◌, length, map, take, reverse, Some, None, Option, append_assoc, append-nil}
use Rattle.std.specs.Prelude.{nat_lt, nat_le, Result, Ok, Err, OnOk, IfErr, MatchResult, if◌then◌else◌}
use Rattle.std.specs.Borrow.{Bor}
use Rattle.std.proofs.lemmas.Bool.{ltb-true, ltb-false}
use Rattle.std.proofs.lemmas.List.{length-map, length-reverse, map-append, map_push, reverse-append, reverse-reverse}
use Rattle.scons_base.specs.declared.limits.TheConstants.{LIST_LIMIT, REFERENCE_LIMIT}
use Rattle.scons_rules.specs.declared.actions.Actions.{Actions}
use Rattle.scons_rules.specs.declared.fault.RuleReadFault.{RuleReadFault}
use Rattle.scons_rules.specs.declared.fault.RuleReadFault.TheVariants.{Memory}
use Rattle.scons_rules.specs.Actions.{Texts, Items, items_at, actions_in, actions_by, too_many_references}
use Rattle.scons_rules.specs.ActionsLeft.{texts_in, left_of, behind, comes, may_follow, following, Follows}
use Rattle.scons_rules.specs.Expanding.{Expanding}
use Rattle.scons_rules.specs.Steps.{and_then}

behind_one : (found : Texts) (t : List ℕ) (r : Result Texts RuleReadFault) → behind (found ++ t ∷ []) r ≡ behind found (and_then r (λ more. Ok (t ∷ more)))
behind_one found t (Ok more) = ap Ok (append_assoc found (t ∷ []) more)
behind_one found t (Err e) = refl

module _ (x : Expanding) where
  pub none_left : (n : ℕ) → actions_in x n [] ≡ Ok []
  unfolding actions_in
  none_left zero = refl
  none_left (suc n) = refl

  text_in : (n : ℕ) (t : List ℕ) (ts : Texts) → items_at x t ≡ None → actions_in x n (t ∷ ts) ≡ and_then (actions_in x n ts) (λ more. Ok (t ∷ more))
  unfolding actions_in
  text_in zero t ts none = rw none refl
  text_in (suc n) t ts none = rw none refl

  list_in : (n : ℕ) (t : List ℕ) (ts : Texts) (items : Items) → items_at x t ≡ Some items
      → actions_in x (suc n) (t ∷ ts) ≡ (if nat_le (length ts) LIST_LIMIT then and_then items (λ inner. actions_in x n (inner ++ ts)) else Err too_many_references)
  unfolding actions_in
  list_in n t ts items some = rw some refl

  no_more : (t : List ℕ) (ts : Texts) (items : Items) → items_at x t ≡ Some items → actions_in x 0 (t ∷ ts) ≡ Err too_many_references
  unfolding actions_in
  no_more t ts items some = rw some refl

  nothing_found : (r : Result Texts RuleReadFault) → behind [] r ≡ r
  nothing_found (Ok more) = refl
  nothing_found (Err e) = refl

  -- nothing was looked at yet, and nothing is left
  pub begins : (a : Actions) (texts : Texts) → a.references ≡ 0 → texts_in a.found.items ≡ [] → left_of a ≡ texts ++ [] → comes x a (left_of a) ≡ actions_by x texts
  begins a texts count found left = rw (found, count, left, append-nil texts) (nothing_found (actions_in x REFERENCE_LIMIT texts))

  pub ends : (a : Actions) (all : Result Texts RuleReadFault) → left_of a ≡ [] → comes x a (left_of a) ≡ all → all ≡ Ok (texts_in a.found.items)
  ends a all left was = sym was ∙ rw (left, none_left (REFERENCE_LIMIT - a.references)) (ap Ok (append-nil (texts_in a.found.items)))

  -- a text that stands as it is
  pub after_text : (a b : Actions) (t : List ℕ) → items_at x t ≡ None → texts_in b.found.items ≡ texts_in a.found.items ++ t ∷ []
      → b.references ≡ a.references → left_of b ≡ left_of a → comes x b (left_of b) ≡ comes x a (t ∷ left_of a)
  after_text a b t none is same left =
      rw (is, same, left)
      (behind_one (texts_in a.found.items) t (actions_in x (REFERENCE_LIMIT - a.references) (left_of a))
      ∙ ap (behind (texts_in a.found.items)) (sym (text_in (REFERENCE_LIMIT - a.references) t (left_of a) none)))

  left_count : (a : Actions) → length (left_of a) ≡ length a.left.items
  left_count a = length-reverse (texts_in a.left.items) ∙ length-map a.left.items (λ (s : Bor (List ℕ)). s.now)

  and_left : (p q : Bool) → (p && q) ≡ true → p ≡ true
  and_left true q e = refl
  and_left false q e = absurd (cc)

  and_right : (p q : Bool) → (p && q) ≡ true → q ≡ true
  and_right true q e = e
  and_right false q e = absurd (cc)

  -- a list whose items come in its place
  pub after_list : (a b : Actions) (t : List ℕ) (items : Items) → items_at x t ≡ Some items → Follows items a b → comes x b (left_of b) ≡ comes x a (t ∷ left_of a)
  after_list a b t items some f = by (may_follow a) items refl some f
    where
      by : (may : Bool) (its : Items) → may_follow a ≡ may → items_at x t ≡ Some its → Follows its a b → comes x b (left_of b) ≡ comes x a (t ∷ left_of a)
      by false its e some f =
          let told : Some too_many_references ≡ None = rw e at f.may in
          absurd (cc)
      by true (Err k) e some f =
          let told : Some k ≡ None = rw e at f.may in
          absurd (cc)
      by true (Ok inner) e some f =
          let low : a.references < REFERENCE_LIMIT = ltb-true a.references REFERENCE_LIMIT (and_left (nat_lt a.references REFERENCE_LIMIT) (nat_le (length a.left.items) LIST_LIMIT) e) in
          let few : nat_le (length (left_of a)) LIST_LIMIT ≡ true =
          ap (λ n. nat_le n LIST_LIMIT) (left_count a) ∙ and_right (nat_lt a.references REFERENCE_LIMIT) (nat_le (length a.left.items) LIST_LIMIT) e in
          let count : REFERENCE_LIMIT - a.references ≡ suc (REFERENCE_LIMIT - b.references) = omega (arith, low, f.more) in
          let step : actions_in x (REFERENCE_LIMIT - a.references) (t ∷ left_of a) ≡ actions_in x (REFERENCE_LIMIT - b.references) (inner ++ left_of a) =
          ap (λ n. actions_in x n (t ∷ left_of a)) count ∙ list_in (REFERENCE_LIMIT - b.references) t (left_of a) (Ok inner) some ∙ rw few refl in
          ap (λ l. behind l (actions_in x (REFERENCE_LIMIT - b.references) (left_of b))) f.found
          ∙ ap (λ l. behind (texts_in a.found.items) (actions_in x (REFERENCE_LIMIT - b.references) l)) (f.left inner refl)
          ∙ ap (behind (texts_in a.found.items)) (sym step)

  -- a list that isn't followed
  pub after_refusal : (a : Actions) (t : List ℕ) (items : Items) (e : RuleReadFault) → items_at x t ≡ Some items → following items a ≡ Some e → comes x a (t ∷ left_of a) ≡ Err e
  after_refusal a t items e some f = by (nat_lt a.references REFERENCE_LIMIT) (nat_le (length a.left.items) LIST_LIMIT) items refl refl some f
    where
      by : (low few : Bool) (its : Items) → nat_lt a.references REFERENCE_LIMIT ≡ low → nat_le (length a.left.items) LIST_LIMIT ≡ few → items_at x t ≡ Some its → following its a ≡ Some e
          → comes x a (t ∷ left_of a) ≡ Err e
      by false few its l k some f =
          let high : REFERENCE_LIMIT ≤ a.references = ltb-false a.references REFERENCE_LIMIT l in
          let none : REFERENCE_LIMIT - a.references ≡ 0 = omega (arith, high) in
          let told : Some too_many_references ≡ Some e = rw l at f in
          ap (λ n. behind (texts_in a.found.items) (actions_in x n (t ∷ left_of a))) none ∙ ap (behind (texts_in a.found.items)) (no_more t (left_of a) its some) ∙ (cc)
      by true few its l k some f =
          let low : a.references < REFERENCE_LIMIT = ltb-true a.references REFERENCE_LIMIT l in
          let count : REFERENCE_LIMIT - a.references ≡ suc (REFERENCE_LIMIT - a.references - 1) = omega (arith, low) in
          let enough : nat_le (length (left_of a)) LIST_LIMIT ≡ few = ap (λ n. nat_le n LIST_LIMIT) (left_count a) ∙ k in
          let step = list_in (REFERENCE_LIMIT - a.references - 1) t (left_of a) its some in
          ap (λ n. behind (texts_in a.found.items) (actions_in x n (t ∷ left_of a))) count ∙ ap (behind (texts_in a.found.items)) step
          ∙ ap (λ (b : Bool). behind (texts_in a.found.items) (if b then and_then its (λ inner. actions_in x (REFERENCE_LIMIT - a.references - 1) (inner ++ left_of a)) else Err too_many_references)) enough
          ∙ last few its l k f
        where
          last : (few : Bool) (its : Items) → nat_lt a.references REFERENCE_LIMIT ≡ true → nat_le (length a.left.items) LIST_LIMIT ≡ few → following its a ≡ Some e
              → behind (texts_in a.found.items) (if few then and_then its (λ inner. actions_in x (REFERENCE_LIMIT - a.references - 1) (inner ++ left_of a)) else Err too_many_references) ≡ Err e
          last false its l k f = let told : Some too_many_references ≡ Some e = rw (l, k) at f in (cc)
          last true (Ok inner) l k f = let told : None ≡ Some e = rw (l, k) at f in absurd (cc)
          last true (Err g) l k f = let told : Some g ≡ Some e = rw (l, k) at f in (cc)

  -- a list in the place of a text
  pub took : (a b : Actions) (t : List ℕ) (items : Items) (r : Result (Unit {0}) RuleReadFault) → items_at x t ≡ Some items → OnOk r (Follows items a b)
      → IfErr r (λ e. e ≢ Memory → following items a ≡ Some e)
      → MatchResult r (λ u. comes x b (left_of b) ≡ comes x a (t ∷ left_of a)) (λ e. e ≢ Memory → comes x a (t ∷ left_of a) ≡ Err e)
  took a b t items (Ok u) some ok err = after_list a b t items some ok
  took a b t items (Err e) some ok err = λ other. after_refusal a t items e some (err other)

-- what is followed, and what isn't
pub followed : (items : Items) (a b : Actions) (inner : Texts) → may_follow a ≡ true → items ≡ Ok inner → b.references ≡ a.references + 1
    → texts_in b.found.items ≡ texts_in a.found.items → left_of b ≡ inner ++ left_of a → Follows items a b
followed items a b inner may got more found left = record {
  may = rw (may, got) refl;
  more = more;
  found = found;
  left = λ other e. let same : Ok inner ≡ Ok other = sym got ∙ e in left ∙ ap (λ l. l ++ left_of a) (cc);
}

pub not_followed : (items : Items) (a : Actions) (e : RuleReadFault) → may_follow a ≡ false → e ≡ too_many_references → following items a ≡ Some e
not_followed items a e may is = rw may (ap Some (sym is))

pub no_items : (items : Items) (a : Actions) (e : RuleReadFault) → may_follow a ≡ true → items ≡ Err e → following items a ≡ Some e
no_items items a e may got = rw (may, got) refl

reverse_cons : {X : Type 0} (y : X) (xs : List X) → reverse (y ∷ xs) ≡ reverse xs ++ y ∷ []
reverse_cons y xs = reverse-append (y ∷ []) xs

map_reverse : {X Y : Type 0} (f : X → Y) (xs : List X) → map f (reverse xs) ≡ reverse (map f xs)
map_reverse f [] = refl
map_reverse f (y ∷ xs) =
    ap (map f) (reverse_cons y xs) ∙ map_push f (reverse xs) y ∙ ap (λ l. l ++ f y ∷ []) (map_reverse f xs) ∙ sym (reverse_cons (f y) (map f xs))

-- texts in front of what is left
pub in_front : (left texts new : List (Bor (List ℕ))) → new ≡ left ++ reverse texts → reverse (texts_in new) ≡ texts_in texts ++ reverse (texts_in left)
in_front left texts new is =
    ap (λ l. reverse (texts_in l)) is ∙ ap reverse (map-append (λ (t : Bor (List ℕ)). t.now) left (reverse texts))
    ∙ reverse-append (texts_in left) (texts_in (reverse texts)) ∙ ap (λ l. reverse l ++ reverse (texts_in left)) (map_reverse (λ (t : Bor (List ℕ)). t.now) texts)
    ∙ ap (λ l. l ++ reverse (texts_in left)) (reverse-reverse (texts_in texts))

-- the last text is looked at, if there is one
pub last_left : (old new : List (Bor (List ℕ))) (t : Bor (List ℕ)) → old ≡ new ++ t ∷ [] → reverse (texts_in old) ≡ t.now ∷ reverse (texts_in new)
last_left old new t is =
    ap (λ l. reverse (texts_in l)) is ∙ ap reverse (map_push (λ (s : Bor (List ℕ)). s.now) new t) ∙ reverse-append (texts_in new) (t.now ∷ [])

pub nothing_left : (old new : List (Bor (List ℕ))) (n m : ℕ) → old ≡ new ++ [] → new ≡ take (n - 1) old → (n ≡ 0) × (m ≡ 0) → reverse (texts_in old) ≡ []
nothing_left old new n m e rest c = ap (λ l. reverse (texts_in l)) (e ∙ ap (λ l. l ++ []) (rest ∙ ap (λ k. take (k - 1) old) c.0))
