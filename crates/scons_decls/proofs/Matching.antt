-- Items read from a text, and characters split among the last parts of a pattern.
use Rattle.std.proofs.Common.{arith, ◌≡◌, ◌∙◌, ap, sym, subst, refl, ℕ, zero, suc, ◌+◌, ◌-◌, ◌<◌, ◌≤◌, List, [], ◌∷◌, ◌++◌, length, take, drop, get_or, Bool, true, false, length-append, length-drop, append_assoc, append-nil}
use Rattle.std.specs.Prelude.{◌||◌, ◌&&◌, if◌then◌else◌}
use Rattle.std.proofs.lemmas.List.{get_or_append_left, take-append-drop, take_all}
use Rattle.std.proofs.Math.Seq.{get_or-append_seam}
use Rattle.scons_decls.specs.declared.pattern.Part.{Part}
use Rattle.scons_decls.specs.declared.pattern.Part.TheVariants.{One, Any, Run, Set}
use Rattle.scons_decls.specs.Patterns.{are_split, some_end, takes, is_run, items_of, ends_split}
use Rattle.scons_decls.proofs.Stepping.{drop_next}

pub nothing_behind : {X : Type 0} (xs : List X) (k : ℕ) → length xs ≤ k → drop k xs ≡ []
nothing_behind [] zero l = refl
nothing_behind [] (suc k) l = refl
nothing_behind (x ∷ xs) zero l = absurd (omega arith)
nothing_behind (x ∷ xs) (suc k) l = nothing_behind xs k (omega arith)

module _ {X : Type 0} (begun : ℕ → List ℕ → X × ℕ) where
  -- a character that is passed over
  pub one_passed : (items more : List X) (text : List ℕ) (k n m : ℕ) (c : ℕ) (all : List X) → k < length text → 0 < n → more ≡ items → m ≡ n - 1
      → items ++ items_of begun n (drop k text) ≡ all → more ++ items_of begun m (drop (k + 1) text) ≡ all
  unfolding items_of
  one_passed items more text k zero m c all l above same less left = absurd (omega arith)
  one_passed items more text k (suc n) m c all l above same less left =
      let e : m ≡ n = less ∙ (omega arith) in
      rw (same, e) (rw (drop_next text k c l) at left)

  -- a character that begins an item
  pub one_begun : (items more : List X) (text : List ℕ) (k m p : ℕ) (c : ℕ) (item : X × ℕ) (all : List X) → k < length text → c ≡ get_or text k c → p ≤ 0
      → item ≡ begun c (take (length text - (k + 1)) (drop (k + 1) text)) → more ≡ items ++ item.0 ∷ [] → m ≡ item.1
      → items ++ items_of begun p (drop k text) ≡ all → more ++ items_of begun m (drop (k + 1) text) ≡ all
  unfolding items_of
  one_begun items more text k m p c item all l is none b same count left =
      let rest = drop (k + 1) text in
      let e : drop k text ≡ c ∷ rest = drop_next text k c l ∙ ap (λ x. x ∷ rest) (sym is) in
      let z : p ≡ 0 = omega arith in
      let whole : take (length text - (k + 1)) rest ≡ rest = take_all (length text - (k + 1)) rest (omega (arith, length-drop (k + 1) text)) in
      ap (λ l. l ++ items_of begun m rest) same ∙ ap (λ j. (items ++ item.0 ∷ []) ++ items_of begun j rest) count
      ∙ append_assoc items (item.0 ∷ []) (items_of begun item.1 rest)
      ∙ ap (λ (r : X × ℕ). items ++ r.0 ∷ items_of begun r.1 rest) (b ∙ ap (begun c) whole) ∙ (rw (z, e) at left)

  -- no character is left
  pub all_read : (items : List X) (text : List ℕ) (k n : ℕ) (all : List X) → length text ≤ k → items ++ items_of begun n (drop k text) ≡ all → items ≡ all
  unfolding items_of
  all_read items text k n all l left = sym (append-nil items) ∙ (rw (nothing_behind text k l) at left)

-- what is found of the last parts, and of all of them together
pub record Ends (parts : List Part) (name : List ℕ) (found : List Bool) (behind : Bool) : Type 0 where
  pub all : found ≡ ends_split parts name
  pub last : behind ≡ are_split parts name

pub none_split : are_split [] [] ≡ true
unfolding are_split
none_split = refl

pub none_take : (c : ℕ) (name : List ℕ) → are_split [] (c ∷ name) ≡ false
unfolding are_split
none_take c name = refl

pub split_none : (part : Part) (parts : List Part) → are_split (part ∷ parts) [] ≡ (is_run part && are_split parts [])
unfolding are_split
split_none (One c) parts = refl
split_none Any parts = refl
split_none Run parts = refl
split_none (Set ranges without) parts = refl

pub split_one : (part : Part) (parts : List Part) (c : ℕ) (name : List ℕ)
    → are_split (part ∷ parts) (c ∷ name) ≡ (if is_run part then are_split parts (c ∷ name) || are_split (part ∷ parts) name else takes part c && are_split parts name)
unfolding are_split
split_one (One d) parts c name = refl
split_one Any parts c name = refl
split_one Run parts c name = refl
split_one (Set ranges without) parts c name = refl

pub length_ends : (parts : List Part) (name : List ℕ) → length (ends_split parts name) ≡ length parts + 1
length_ends [] name = refl
length_ends (part ∷ parts) name = omega (arith, length_ends parts name, length-append (ends_split parts name) (are_split (part ∷ parts) name ∷ []))

ends_at : (front back : List Part) (name : List ℕ) (d : Bool) → get_or (ends_split (front ++ back) name) (length back) d ≡ are_split back name
ends_at [] [] name d = refl
ends_at [] (part ∷ back) name d =
    let e : suc (length back) ≡ length (ends_split back name) = omega (arith, length_ends back name) in
    rw e (get_or-append_seam (ends_split back name) (are_split (part ∷ back) name) [] d)
ends_at (part ∷ front) back name d =
    get_or_append_left (ends_split (front ++ back) name) (are_split (part ∷ (front ++ back)) name ∷ []) d (length back) (omega (arith, length_ends (front ++ back) name, length-append front back))
    ∙ ends_at front back name d

pub found_at : (parts : List Part) (name : List ℕ) (k : ℕ) (d : Bool) → k ≤ length parts → get_or (ends_split parts name) k d ≡ are_split (drop (length parts - k) parts) name
found_at parts name k d l =
    let count : length (drop (length parts - k) parts) ≡ k = omega (arith, length-drop (length parts - k) parts) in
    rw (take-append-drop (length parts - k) parts, count) at (ends_at (take (length parts - k) parts) (drop (length parts - k) parts) name d)

pub part_next : (parts : List Part) (k : ℕ) (part : Part) → k < length parts → part ≡ get_or parts (length parts - 1 - k) part
    → drop (length parts - (k + 1)) parts ≡ part ∷ drop (length parts - k) parts
part_next parts k part l is =
    let e : length parts - (k + 1) ≡ length parts - 1 - k = omega arith in
    let f : length parts - (k + 1) + 1 ≡ length parts - k = omega arith in
    drop_next parts (length parts - (k + 1)) part (omega arith)
    ∙ ap (λ n. get_or parts (length parts - (k + 1)) part ∷ drop n parts) f
    ∙ ap (λ n. get_or parts n part ∷ drop (length parts - k) parts) e
    ∙ ap (λ p. p ∷ drop (length parts - k) parts) (sym is)

pub ends_none : (parts : List Part) (name : List ℕ) (found : List Bool) (b : Bool) → found ≡ b ∷ [] → b ≡ are_split [] name → Ends (drop (length parts - 0) parts) name found b
ends_none parts name found b f n =
    let e : drop (length parts - 0) parts ≡ [] = nothing_behind parts (length parts - 0) (omega arith) in
    subst (λ ps. Ends ps name found b) (sym e) (record { all = f ∙ ap (λ x. x ∷ []) n; last = n })

pub ends_more : (parts : List Part) (name : List ℕ) (k : ℕ) (part : Part) (found more : List Bool) (behind next : Bool) → k < length parts → part ≡ get_or parts (length parts - 1 - k) part
    → Ends (drop (length parts - k) parts) name found behind → next ≡ are_split (part ∷ drop (length parts - k) parts) name → more ≡ found ++ next ∷ []
    → Ends (drop (length parts - (k + 1)) parts) name more next
ends_more parts name k part found more behind next l is ends n m =
    let back = drop (length parts - k) parts in
    subst (λ ps. Ends ps name more next) (sym (part_next parts k part l is))
    (record { all = m ∙ ap (λ f. f ++ next ∷ []) ends.all ∙ ap (λ b. ends_split back name ++ b ∷ []) n; last = n })

pub ends_all : (parts : List Part) (name : List ℕ) (k : ℕ) (found : List Bool) (behind : Bool) → length parts ≤ k → Ends (drop (length parts - k) parts) name found behind → found ≡ ends_split parts name
ends_all parts name k found behind l ends =
    let e : length parts - k ≡ 0 = omega arith in
    subst (λ n. found ≡ ends_split (drop n parts) name) e ends.all

-- one part more takes characters with one more in front of them
pub next_split : (parts : List Part) (name : List ℕ) (k : ℕ) (part : Part) (c : ℕ) (behind next : Bool) (reached : List Bool) (d e : Bool) → k < length parts → part ≡ get_or parts (length parts - 1 - k) part
    → reached ≡ ends_split parts name → behind ≡ are_split (drop (length parts - k) parts) (c ∷ name)
    → next ≡ (if is_run part then behind || get_or reached (k + 1) e else takes part c && get_or reached k d)
    → next ≡ are_split (part ∷ drop (length parts - k) parts) (c ∷ name)
next_split parts name k part c behind next reached d e l is r b n =
    let back = drop (length parts - k) parts in
    let here : get_or reached k d ≡ are_split back name = ap (λ xs. get_or xs k d) r ∙ found_at parts name k d (omega arith) in
    let there : get_or reached (k + 1) e ≡ are_split (part ∷ back) name =
    ap (λ xs. get_or xs (k + 1) e) r ∙ found_at parts name (k + 1) e (omega arith) ∙ ap (λ ps. are_split ps name) (part_next parts k part l is) in
    n ∙ ap (λ x. if is_run part then behind || x else takes part c && get_or reached k d) there
    ∙ ap (λ x. if is_run part then behind || are_split (part ∷ back) name else takes part c && x) here
    ∙ ap (λ x. if is_run part then x || are_split (part ∷ back) name else takes part c && are_split back name) b
    ∙ sym (split_one part back c name)

pub one_back : (name : List ℕ) (k c : ℕ) → 0 < k → k ≤ length name → c ≡ get_or name (k - 1) c → c ∷ drop k name ≡ drop (k - 1) name
one_back name k c above l is =
    let e : k - 1 + 1 ≡ k = omega arith in
    ap (λ n. c ∷ drop n name) (sym e) ∙ ap (λ x. x ∷ drop (k - 1 + 1) name) is ∙ sym (drop_next name (k - 1) c (omega arith))
