-- Loops that give paths numbers: what holds after one path more.
use Rattle.std.proofs.Common.{arith, ◌≡◌, ◌<◌, ◌≤◌, ◌∙◌, ℕ, suc, ◌+◌, ◌-◌, List, [], ◌∷◌, ◌++◌, Bool, true, false, not, cond, ap, sym, refl, length, map, take, drop, get_or, drop-cons, Option}
use Rattle.std.specs.Prelude.{Result, Ok, Err, IfOk, OnOk}
use Rattle.std.specs.List.{list_any}
use Rattle.std.specs.Str.{bytes_eq}
use Rattle.std.proofs.lemmas.List.{take_more, take-append-drop, map_push, map-append, length-map}
use Rattle.std.proofs.lemmas.List.Sums.{fold_push}
use Rattle.scons_base.specs.declared.ids.NodeId.{NodeId}
use Rattle.rule_graph.specs.Graphs.{RuleGraph}
use Rattle.node_tree.specs.Nodes.{with_path}
use Rattle.scons_rules.specs.declared.fault.RuleReadFault.{RuleReadFault}
use Rattle.scons_rules.specs.Numbers.{each_once, interned, Numbers}
use Rattle.scons_rules.proofs.Numbering.{once_again, once_more, among_once, interned_ok, some_numbers, lacking}

-- the paths in front of a place of a list, and the one that stands there
module _ {T : Type 0} (f : T → List ℕ) (xs : List T) (i : ℕ) (x : T) (p : List ℕ) (within : i < length xs) (at : x ≡ get_or xs i x) (is : p ≡ f x) where
  longer : map f (take (i + 1) xs) ≡ map f (take i xs) ++ p ∷ []
  longer =
      ap (map f) (take_more xs i x within) ∙ map_push f (take i xs) (get_or xs i x) ∙ ap (λ q. map f (take i xs) ++ q ∷ []) (sym (is ∙ ap f at))

  whole : map f xs ≡ map f (take i xs) ++ p ∷ map f (drop (suc i) xs)
  whole =
      ap (map f) (sym (take-append-drop i xs)) ∙ map-append f (take i xs) (drop i xs) ∙ ap (λ l. map f (take i xs) ++ map f l) (drop-cons xs i x within)
      ∙ ap (λ q. map f (take i xs) ++ q ∷ map f (drop (suc i) xs)) (sym (is ∙ ap f at))

  pub longer_by : list_any (bytes_eq p) (map f (take i xs)) ≡ false → each_once (map f (take (i + 1) xs)) ≡ each_once (map f (take i xs)) ++ p ∷ []
  longer_by absent = ap each_once longer ∙ once_more (map f (take i xs)) p absent

  pub same_by : list_any (bytes_eq p) (map f (take i xs)) ≡ true → each_once (map f (take (i + 1) xs)) ≡ each_once (map f (take i xs))
  same_by there = ap each_once longer ∙ once_again (map f (take i xs)) p there

  pub noted : with_path (each_once (map f (take i xs))) p ≡ each_once (map f (take (i + 1) xs))
  noted = sym (ap each_once longer ∙ fold_push with_path [] (map f (take i xs)) p)

  module _ (old nodes : List (List ℕ)) (numbers : List NodeId) (was : Numbers old nodes (each_once (map f (take i xs))) numbers) where
    pub put : (new : List (List ℕ)) (more : List NodeId) → list_any (bytes_eq p) (map f (take i xs)) ≡ false
        → ((first paths : List (List ℕ)) → Numbers first nodes paths numbers → list_any (bytes_eq p) paths ≡ false → Numbers first new (paths ++ p ∷ []) more)
        → Numbers old new (each_once (map f (take (i + 1) xs))) more
    put new more absent pushed =
        rw (longer_by absent) (pushed old (each_once (map f (take i xs))) was (among_once p (map f (take i xs)) ∙ absent))

    pub passed : list_any (bytes_eq p) (map f (take i xs)) ≡ true → Numbers old nodes (each_once (map f (take (i + 1) xs))) numbers
    passed there = rw (same_by there) was

    pub lacked : (e : RuleReadFault) → list_any (bytes_eq p) (map f (take i xs)) ≡ false → interned nodes (p ∷ []) ≡ Err e → interned old (map f xs) ≡ Err e
    lacked e absent full = rw whole (lacking old nodes (map f (take i xs)) (map f (drop (suc i) xs)) p e numbers was absent full)

-- whether a path stands in front of a place
pub absent_in : {T : Type 0} → (f : T → List ℕ) (xs : List T) (i : ℕ) (p : List ℕ) (b : Bool) → b ≡ list_any (bytes_eq p) (map f (take i xs)) → b ≡ false
    → list_any (bytes_eq p) (map f (take i xs)) ≡ false
absent_in f xs i p b is e = sym is ∙ e

pub there_in : {T : Type 0} → (f : T → List ℕ) (xs : List T) (i : ℕ) (p : List ℕ) (b : Bool) → b ≡ list_any (bytes_eq p) (map f (take i xs)) → b ≡ true
    → list_any (bytes_eq p) (map f (take i xs)) ≡ true
there_in f xs i p b is e = sym is ∙ e

-- keys of a set, seen through what is compared of them
module _ {K : Type 0} (v : K → List ℕ) where
  pub any_key : (p : List ℕ) (keys : List K) → list_any (λ k. bytes_eq p (v k)) keys ≡ list_any (bytes_eq p) (map v keys)
  any_key p [] = refl
  any_key p (k ∷ keys) = rw (any_key p keys) refl

  pub key_more : (keys new : List K) (k : K) → new ≡ cond (list_any (λ x. bytes_eq (v k) (v x)) keys) keys (keys ++ k ∷ []) → map v new ≡ with_path (map v keys) (v k)
  key_more keys new k is = by (list_any (λ x. bytes_eq (v k) (v x)) keys) refl
    where
      by : (b : Bool) → list_any (λ x. bytes_eq (v k) (v x)) keys ≡ b → map v new ≡ with_path (map v keys) (v k)
      by true e =
          let there : new ≡ keys = is ∙ rw e refl in
          let met : list_any (bytes_eq (v k)) (map v keys) ≡ true = sym (any_key (v k) keys) ∙ e in
          rw (there, met) refl
      by false e =
          let pushed : new ≡ keys ++ k ∷ [] = is ∙ rw e refl in
          let absent : list_any (bytes_eq (v k)) (map v keys) ≡ false = sym (any_key (v k) keys) ∙ e in
          rw (pushed, absent) (map_push v keys k)

-- where the keys are the paths in front of a place, each once
pub met_before : (p : List ℕ) (paths keys : List (List ℕ)) (b there : Bool) → keys ≡ each_once paths → b ≡ not there → there ≡ list_any (bytes_eq p) keys
    → list_any (bytes_eq p) paths ≡ not b
met_before p paths keys b there is added found =
    sym (among_once p paths) ∙ ap (list_any (bytes_eq p)) (sym is) ∙ sym found ∙ twice there ∙ ap not (sym added)
  where
    twice : (c : Bool) → c ≡ not (not c)
    twice true = refl
    twice false = refl

-- what the loops give
pub ok_numbers : (r : Result (List NodeId) RuleReadFault) (old new paths : List (List ℕ)) → IfOk r (Numbers old new (each_once paths)) → OnOk r (interned old paths ≡ Ok new)
ok_numbers (Ok ns) old new paths is = interned_ok old new paths ns is
ok_numbers (Err e) old new paths is = tt

pub some_of : {T : Type 0} → (f : T → List ℕ) (xs : List T) (r : Result (List NodeId) RuleReadFault) (old new : List (List ℕ))
    → IfOk r (Numbers old new (each_once (map f xs))) → IfOk r (λ n. 0 < length xs → 0 < length n)
some_of f xs (Ok ns) old new is = λ some. some_numbers old new (map f xs) ns is (rw (length-map xs f) some)
some_of f xs (Err e) old new is = tt

pub rests : (a b c : RuleGraph) → a ≡ record b { nodes = a.nodes } → b ≡ record c { nodes = b.nodes } → a ≡ record c { nodes = a.nodes }
rests a b c first second = first ∙ ap (λ (g : RuleGraph). record g { nodes = a.nodes }) second
