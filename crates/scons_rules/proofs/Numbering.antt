-- Paths that get numbers: each once, one after another, and each at its number from then on.
use Rattle.std.proofs.Common.{arith, ◌≡◌, ◌≢◌, ◌<◌, ◌≤◌, ◌∙◌, ℕ, zero, suc, ◌+◌, List, [], ◌∷◌, ◌++◌, ◌||◌, Bool, true, false, not, cond, ap, sym, refl, length, map, Some, None, Option, true≢false}
use Rattle.std.specs.Prelude.{nat_eq, nat_lt, nat_le, slice_get, Result, Ok, Err}
use Rattle.std.specs.List.{list_any, position_or_len}
use Rattle.std.specs.Str.{bytes_eq}
use Rattle.std.proofs.lemmas.Bool.{leb-true, leb-false, le-leb, lt-leb, lt-ltb}
use Rattle.std.proofs.lemmas.List.{length-append, map_push}
use Rattle.std.proofs.lemmas.List.Sums.{fold-append, fold_push}
use Rattle.std.proofs.lemmas.List.Folds.{list_any-append}
use Rattle.std.proofs.lemmas.Option.{slice_get_within}
use Rattle.std.proofs.lemmas.Bool.Decides.{nat_tests}
use Rattle.std.proofs.lemmas.Slice.Eq.{bytes_eq-Decides}
use Rattle.scons_base.specs.declared.limits.TheConstants.{NODE_LIMIT}
use Rattle.scons_base.specs.declared.ids.NodeId.{NodeId}
use Rattle.node_tree.specs.Nodes.{number_of, with_path}
use Rattle.node_tree.specs.declared.nodes.NodeRefusal.{NodeRefusal}
use Rattle.node_tree.specs.declared.nodes.NodeRefusal.TheVariants as node
use Rattle.rule_graph.specs.declared.build_fault.What.TheVariants.{Nodes}
use Rattle.rule_graph.specs.Rules.{is_target_of, are_below, are_distinct}
use Rattle.scons_rules.specs.declared.fault.RuleReadFault.{RuleReadFault}
use Rattle.scons_rules.specs.declared.fault.RuleReadFault.TheVariants.{TooMany, Memory}
use Rattle.scons_rules.specs.Faults.{of_node}
use Rattle.scons_rules.specs.Numbers.{each_once, with_paths, interned, paths_at, Numbers}
use Rattle.scons_rules.proofs.NodeLemmas.{below_more, distinct_with, below_with}

Path : Type 0
Path = List ℕ

ltb-suc : (a b : ℕ) → nat_lt (1 + a) (suc b) ≡ nat_lt a b
ltb-suc a b = grind (arith, nat_tests)

any_is : (p : List ℕ → Bool) (xs : List (List ℕ)) → list_any p xs ≡ nat_lt (position_or_len p xs) (length xs)
any_is p [] = refl
any_is p (x ∷ xs) = by (p x) (any_is p xs)
  where
    by : (b : Bool) → list_any p xs ≡ nat_lt (position_or_len p xs) (length xs) → (b || list_any p xs) ≡ nat_lt (cond (not b) (1 + position_or_len p xs) 0) (suc (length xs))
    by true e = sym (lt-ltb 0 (suc (length xs)) (omega arith))
    by false e = e ∙ sym (ltb-suc (position_or_len p xs) (length xs))

-- a path without a number isn't among the paths
unnumbered : (paths : List (List ℕ)) (path : List ℕ) → number_of paths path ≡ None → list_any (bytes_eq path) paths ≡ false
unnumbered paths path none = any_is (bytes_eq path) paths ∙ by (nat_lt (position_or_len (bytes_eq path) paths) (length paths)) refl
  where
    by : (b : Bool) → nat_lt (position_or_len (bytes_eq path) paths) (length paths) ≡ b → b ≡ false
    by true e = let found : number_of paths path ≡ Some (position_or_len (bytes_eq path) paths) = rw e refl in absurd (cc)
    by false e = refl

same_of : (p x : List ℕ) → bytes_eq p x ≡ true → p ≡ x
same_of p x e = (bytes_eq-Decides p x).0 e

self_same : (p : List ℕ) → bytes_eq p p ≡ true
self_same p = (bytes_eq-Decides p p).1 refl

-- what one path more leaves

pub there : (nodes : List (List ℕ)) (p : List ℕ) → list_any (bytes_eq p) nodes ≡ true → with_path nodes p ≡ nodes
there nodes p e = rw e refl

pub new_one : (nodes : List (List ℕ)) (p : List ℕ) → list_any (bytes_eq p) nodes ≡ false → with_path nodes p ≡ nodes ++ p ∷ []
new_one nodes p e = rw e refl

slice_get-left : (xs ys : List (List ℕ)) (i : ℕ) (x : List ℕ) → slice_get xs i ≡ Some x → slice_get (xs ++ ys) i ≡ Some x
slice_get-left [] ys i x e = absurd (cc)
slice_get-left (y ∷ xs) ys zero x e = e
slice_get-left (y ∷ xs) ys (suc i) x e = slice_get-left xs ys i x e

pub kept : (nodes : List (List ℕ)) (p : List ℕ) (i : ℕ) (x : List ℕ) → slice_get nodes i ≡ Some x → slice_get (with_path nodes p) i ≡ Some x
kept nodes p i x e = by (list_any (bytes_eq p) nodes) refl
  where
    by : (b : Bool) → list_any (bytes_eq p) nodes ≡ b → slice_get (with_path nodes p) i ≡ Some x
    by true h = rw (there nodes p h) e
    by false h = rw (new_one nodes p h) (slice_get-left nodes (p ∷ []) i x e)

longer : (nodes : List (List ℕ)) (p : List ℕ) → length nodes ≤ length (with_path nodes p)
longer nodes p = by (list_any (bytes_eq p) nodes) refl
  where
    by : (b : Bool) → list_any (bytes_eq p) nodes ≡ b → length nodes ≤ length (with_path nodes p)
    by true h = rw (there nodes p h) (omega arith)
    by false h = rw (new_one nodes p h) (omega (arith, length-append nodes (p ∷ [])))

pub all_longer : (nodes paths : List (List ℕ)) → length nodes ≤ length (with_paths nodes paths)
all_longer nodes [] = omega arith
all_longer nodes (p ∷ paths) = omega (arith, longer nodes p, all_longer (with_path nodes p) paths)

-- paths, each once

pub any_with : (t : List ℕ) (acc : List (List ℕ)) (p : List ℕ) → list_any (bytes_eq t) (with_path acc p) ≡ (list_any (bytes_eq t) acc || bytes_eq t p)
any_with t acc p = by (list_any (bytes_eq p) acc) refl
  where
    or_false : (b : Bool) → (b || false) ≡ b
    or_false true = refl
    or_false false = refl

    or_true : (b : Bool) → (b || true) ≡ true
    or_true true = refl
    or_true false = refl

    met : (b : Bool) → bytes_eq t p ≡ b → list_any (bytes_eq p) acc ≡ true → list_any (bytes_eq t) acc ≡ (list_any (bytes_eq t) acc || b)
    met true e h =
        let same : t ≡ p = same_of t p e in
        let any : list_any (bytes_eq t) acc ≡ true = rw same h in
        rw any refl
    met false e h = sym (or_false (list_any (bytes_eq t) acc))

    by : (b : Bool) → list_any (bytes_eq p) acc ≡ b → list_any (bytes_eq t) (with_path acc p) ≡ (list_any (bytes_eq t) acc || bytes_eq t p)
    by true h = rw (there acc p h) (met (bytes_eq t p) refl h)
    by false h =
        rw (new_one acc p h)
        (list_any-append (bytes_eq t) acc (p ∷ []) ∙ ap (λ b. list_any (bytes_eq t) acc || b) (or_false (bytes_eq t p)))

or_assoc : (a b c : Bool) → ((a || b) || c) ≡ (a || (b || c))
or_assoc true b c = refl
or_assoc false b c = refl

pub among_from : (t : List ℕ) (acc paths : List (List ℕ)) → list_any (bytes_eq t) (with_paths acc paths) ≡ (list_any (bytes_eq t) acc || list_any (bytes_eq t) paths)
among_from t acc [] = sym (or_none (list_any (bytes_eq t) acc))
  where
    or_none : (b : Bool) → (b || false) ≡ b
    or_none true = refl
    or_none false = refl
among_from t acc (p ∷ paths) =
    among_from t (with_path acc p) paths ∙ ap (λ b. b || list_any (bytes_eq t) paths) (any_with t acc p)
    ∙ or_assoc (list_any (bytes_eq t) acc) (bytes_eq t p) (list_any (bytes_eq t) paths)

-- a path stands among these, each once, where it stands among these
pub among_once : (t : List ℕ) (paths : List (List ℕ)) → list_any (bytes_eq t) (each_once paths) ≡ list_any (bytes_eq t) paths
among_once t paths = among_from t [] paths

pub once_again : (paths : List (List ℕ)) (p : List ℕ) → list_any (bytes_eq p) paths ≡ true → each_once (paths ++ p ∷ []) ≡ each_once paths
once_again paths p e = fold_push with_path [] paths p ∙ there (each_once paths) p (among_once p paths ∙ e)

pub once_more : (paths : List (List ℕ)) (p : List ℕ) → list_any (bytes_eq p) paths ≡ false → each_once (paths ++ p ∷ []) ≡ each_once paths ++ p ∷ []
once_more paths p e = fold_push with_path [] paths p ∙ new_one (each_once paths) p (among_once p paths ∙ e)

-- what comes of more paths begins with what came of these
pub record Begins (front all : List (List ℕ)) : Type 0 where
  pub rest : List (List ℕ)
  pub is : all ≡ front ++ rest

append_assoc : (a b c : List (List ℕ)) → (a ++ b) ++ c ≡ a ++ (b ++ c)
append_assoc [] b c = refl
append_assoc (x ∷ a) b c = ap (λ l. x ∷ l) (append_assoc a b c)

nil_behind : (a : List (List ℕ)) → a ≡ a ++ []
nil_behind [] = refl
nil_behind (x ∷ a) = ap (λ l. x ∷ l) (nil_behind a)

pub begins : (acc paths : List (List ℕ)) → Begins acc (with_paths acc paths)
begins acc [] = record { rest = []; is = nil_behind acc }
begins acc (p ∷ paths) = by (list_any (bytes_eq p) acc) refl (begins (with_path acc p) paths)
  where
    by : (b : Bool) → list_any (bytes_eq p) acc ≡ b → Begins (with_path acc p) (with_paths (with_path acc p) paths) → Begins acc (with_paths (with_path acc p) paths)
    by true h more = record { rest = more.rest; is = more.is ∙ ap (λ l. l ++ more.rest) (there acc p h) }
    by false h more = record {
      rest = p ∷ more.rest;
      is = more.is ∙ ap (λ l. l ++ more.rest) (new_one acc p h) ∙ append_assoc acc (p ∷ []) more.rest;
    }

-- numbers

eq_number : (a b : ℕ) → nat_eq a b ≡ true → a ≡ b
eq_number a b e = grind (arith, nat_tests)

absent_node : (nodes : List (List ℕ)) (p : List ℕ) (n : ℕ) (paths : List (List ℕ)) (numbers : List NodeId) → paths_at nodes numbers ≡ map Some paths
    → slice_get nodes n ≡ Some p → list_any (bytes_eq p) paths ≡ false → is_target_of numbers n ≡ false
absent_node nodes p n paths [] at is absent = refl
absent_node nodes p n [] (m ∷ numbers) at is absent = absurd (cc)
absent_node nodes p n (q ∷ paths) (m ∷ numbers) at is absent =
    let first : slice_get nodes m.0 ≡ Some q = cc in
    let rest : paths_at nodes numbers ≡ map Some paths = cc in
    by (nat_eq m.0 n) refl first (or_false_right (bytes_eq p q) (list_any (bytes_eq p) paths) absent)
    (or_false_left (bytes_eq p q) (list_any (bytes_eq p) paths) absent) (absent_node nodes p n paths numbers rest is)
  where
    or_false_left : (a b : Bool) → (a || b) ≡ false → a ≡ false
    or_false_left true b e = absurd (cc)
    or_false_left false b e = refl

    or_false_right : (a b : Bool) → (a || b) ≡ false → b ≡ false
    or_false_right true b e = absurd (cc)
    or_false_right false b e = e

    by : (b : Bool) → nat_eq m.0 n ≡ b → slice_get nodes m.0 ≡ Some q → list_any (bytes_eq p) paths ≡ false → bytes_eq p q ≡ false
        → (list_any (bytes_eq p) paths ≡ false → is_target_of numbers n ≡ false) → (b || is_target_of numbers n) ≡ false
    by true e first others other rest =
        let number : m.0 ≡ n = eq_number m.0 n e in
        let there : slice_get nodes n ≡ Some q = rw (sym number) first in
        let same : q ≡ p = cc in
        absurd (true≢false (sym (self_same p) ∙ rw same at other))
    by false e first others other rest = rest others

pub all_kept : (nodes : List (List ℕ)) (p : List ℕ) (paths : List (List ℕ)) (numbers : List NodeId) → paths_at nodes numbers ≡ map Some paths
    → paths_at (with_path nodes p) numbers ≡ map Some paths
all_kept nodes p [] [] at = refl
all_kept nodes p (q ∷ paths) [] at = absurd (cc)
all_kept nodes p [] (m ∷ numbers) at = absurd (cc)
all_kept nodes p (q ∷ paths) (m ∷ numbers) at =
    let first : slice_get (with_path nodes p) m.0 ≡ Some q = kept nodes p m.0 q (cc) in
    let rest : paths_at (with_path nodes p) numbers ≡ map Some paths = all_kept nodes p paths numbers (cc) in
    cc

pub no_numbers : (nodes : List (List ℕ)) → length nodes ≤ NODE_LIMIT → Numbers nodes nodes [] []
no_numbers nodes room = record { grown = refl; at = refl; distinct = refl; below = refl; within = room }

pub numbered : (old nodes new paths : List (List ℕ)) (p : List ℕ) (numbers more : List NodeId) (n : NodeId) → Numbers old nodes paths numbers
    → new ≡ with_path nodes p → slice_get new n.0 ≡ Some p → length new ≤ NODE_LIMIT → more ≡ numbers ++ n ∷ []
    → list_any (bytes_eq p) paths ≡ false → Numbers old new (paths ++ p ∷ []) more
numbered old nodes new paths p numbers more n was is at room pushed absent = record {
  grown = is ∙ ap (λ l. with_path l p) was.grown ∙ sym (fold_push with_path old paths p);
  at = rw pushed (map_push (λ m. slice_get new m.0) numbers n ∙ ap (λ l. l ++ slice_get new n.0 ∷ []) before ∙ ap (λ o. map Some paths ++ o ∷ []) at ∙ sym (map_push Some paths p));
  distinct = rw pushed (distinct_with numbers n was.distinct other);
  below = rw pushed (below_with (length new) numbers n (slice_get_within new n.0 p at) (below_more (length nodes) (length new) numbers grows was.below));
  within = room;
}
  where
    before : paths_at new numbers ≡ map Some paths
    before = rw is (all_kept nodes p paths numbers was.at)

    grows : length nodes ≤ length new
    grows = rw is (longer nodes p)

    other : is_target_of numbers n.0 ≡ false
    other = absent_node new p n.0 paths numbers before at absent

pub some_numbers : (old new paths : List (List ℕ)) (numbers : List NodeId) → Numbers old new (each_once paths) numbers → 0 < length paths → 0 < length numbers
some_numbers old new [] numbers is some = absurd (omega arith)
some_numbers old new (p ∷ paths) [] is some = absurd (omega (arith, ap length is.at, length_map (each_once (p ∷ paths)), all_longer (p ∷ []) paths))
  where
    length_map : (xs : List (List ℕ)) → length (map Some xs) ≡ length xs
    length_map [] = refl
    length_map (x ∷ xs) = ap suc (length_map xs)
some_numbers old new (p ∷ paths) (n ∷ numbers) is some = omega arith

-- where there may be so many

pub interned_ok : (old new paths : List (List ℕ)) (numbers : List NodeId) → Numbers old new (each_once paths) numbers → interned old paths ≡ Ok new
unfolding interned
interned_ok old new paths numbers is =
    let room : nat_le (length (with_paths old (each_once paths))) NODE_LIMIT ≡ true = le-leb _ _ (rw (sym is.grown) is.within) in
    rw room (ap Ok (sym is.grown))

-- a path for which there is no room
record Lacks (nodes : List (List ℕ)) (p : List ℕ) (e : RuleReadFault) : Type 0 where
  more : NODE_LIMIT < length (with_path nodes p)
  told : e ≡ TooMany Nodes (NODE_LIMIT + 1)

lacks : (nodes : List (List ℕ)) (p : List ℕ) (e : RuleReadFault) → interned nodes (p ∷ []) ≡ Err e → Lacks nodes p e
unfolding interned
lacks nodes p e is = by (nat_le (length (with_path nodes p)) NODE_LIMIT) refl is
  where
    by : (b : Bool) → nat_le (length (with_path nodes p)) NODE_LIMIT ≡ b
        → cond b (Ok (with_path nodes p)) (Err (TooMany Nodes (NODE_LIMIT + 1))) ≡ Err e → Lacks nodes p e
    by true h f = absurd (cc)
    by false h f = record { more = leb-false _ _ h; told = cc }

pub interned_full : (nodes : List (List ℕ)) (p : List ℕ) (e : RuleReadFault) → length nodes ≡ NODE_LIMIT → number_of nodes p ≡ None
    → e ≡ TooMany Nodes (NODE_LIMIT + 1) → interned nodes (p ∷ []) ≡ Err e
unfolding interned
interned_full nodes p e full none told =
    let absent : list_any (bytes_eq p) nodes ≡ false = unnumbered nodes p none in
    let room : nat_le (length (with_path nodes p)) NODE_LIMIT ≡ false = lt-leb _ _ (rw (new_one nodes p absent) (omega (arith, full, length-append nodes (p ∷ [])))) in
    rw (room, told) refl

pub refused_node : (nodes : List (List ℕ)) (p : List ℕ) (r : NodeRefusal) (e : RuleReadFault) → e ≡ of_node r → (e ≢ Memory)
    → ((r ≢ node.Memory) → (r ≡ node.Full (NODE_LIMIT + 1)) × (length nodes ≡ NODE_LIMIT) × (number_of nodes p ≡ None)) → interned nodes (p ∷ []) ≡ Err e
refused_node nodes p (node.Full count) e is other full =
    let f : (node.Full count ≡ node.Full (NODE_LIMIT + 1)) × (length nodes ≡ NODE_LIMIT) × (number_of nodes p ≡ None) = full (λ h. cc) in
    interned_full nodes p e f.1 f.2 (is ∙ ap of_node f.0)
refused_node nodes p node.Memory e is other full = absurd (other is)

pub lacking : (old nodes front back : List (List ℕ)) (p : List ℕ) (e : RuleReadFault) (numbers : List NodeId) → Numbers old nodes (each_once front) numbers
    → list_any (bytes_eq p) front ≡ false → interned nodes (p ∷ []) ≡ Err e → interned old (front ++ p ∷ back) ≡ Err e
unfolding interned
lacking old nodes front back p e numbers is absent full =
    let lack = lacks nodes p e full in
    let all : each_once (front ++ p ∷ back) ≡ with_paths (each_once (front ++ p ∷ [])) back = split in
    let more = begins (each_once (front ++ p ∷ [])) back in
    let grown : with_paths old (each_once (front ++ p ∷ back)) ≡ with_paths (with_path nodes p) more.rest =
    ap (with_paths old) (all ∙ more.is ∙ ap (λ l. l ++ more.rest) (once_more front p absent))
    ∙ fold-append with_path old (each_once front ++ p ∷ []) more.rest
    ∙ ap (λ l. with_paths l more.rest) (fold_push with_path old (each_once front) p ∙ ap (λ l. with_path l p) (sym is.grown)) in
    let room : nat_le (length (with_paths old (each_once (front ++ p ∷ back)))) NODE_LIMIT ≡ false =
    lt-leb _ _ (rw grown (omega (arith, lack.more, all_longer (with_path nodes p) more.rest))) in
    rw (room, lack.told) refl
  where
    split : each_once (front ++ p ∷ back) ≡ with_paths (each_once (front ++ p ∷ [])) back
    split = ap each_once (sym (append_assoc front (p ∷ []) back)) ∙ fold-append with_path [] (front ++ p ∷ []) back
