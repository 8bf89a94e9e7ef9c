-- Rules by nodes.
use Rattle.std.proofs.Common.{arith, ◌≡◌, ◌<◌, ◌≤◌, ◌∙◌, ℕ, zero, suc, ◌+◌, List, [], ◌∷◌, ◌++◌, ◌&&◌, ◌||◌, Bool, true, false, not, cond, ap, sym, refl, length, Some, None, Option, take, drop, get_or, true≢false, add-one, drop-cons}
use Rattle.std.specs.Prelude.{nat_eq, nat_lt, position, slice_get, slice_set, is_some, if◌then◌else◌}
use Rattle.std.specs.List.{list_any, list_all, find}
use Rattle.std.specs.Option.{option_map}
use Rattle.std.specs.Str.{bytes_eq}
use Rattle.std.specs.Cmp.Lexicographic.{pointwise}
use Rattle.std.proofs.lemmas.Bool.{ltb-true, ltb-false, lt-ltb}
use Rattle.std.proofs.lemmas.Bool.Decides.{nat_tests}
use Rattle.std.proofs.lemmas.List.{length-append}
use Rattle.std.proofs.lemmas.Option.{slice_get_within}
use Rattle.scons_base.specs.declared.ids.NodeId.{NodeId}
use Rattle.scons_base.specs.declared.ids.RuleId.{RuleId}
use Rattle.rule_graph.specs.declared.rule.Rule.{Rule}
use Rattle.rule_graph.specs.Rules.{is_target_of, rule_of, is_same, runs_same, equal_rule, node_eq, taken, are_below, rule_at, IsTable}
use Rattle.rule_graph.proofs.Positions.{nowhere, at, longer_some, longer_none}

eq-suc : (m n : ℕ) → nat_eq (suc m) (suc n) ≡ nat_eq m n
eq-suc m n = grind (arith, nat_tests)

zero-suc : (n : ℕ) → nat_eq 0 (suc n) ≡ false
zero-suc n = grind (arith, nat_tests)

suc-zero : (n : ℕ) → nat_eq (suc n) 0 ≡ false
suc-zero n = grind (arith, nat_tests)

eq-self : (n : ℕ) → nat_eq n n ≡ true
eq-self n = grind (arith, nat_tests)

pub eq-true : (m n : ℕ) → nat_eq m n ≡ true → m ≡ n
eq-true m n e = grind (arith, nat_tests)

-- a table with one more entry that says nothing
pub rule_at-none : (table : List (Option RuleId)) (n : ℕ) → rule_at (table ++ None ∷ []) n ≡ rule_at table n
rule_at-none [] zero = refl
rule_at-none [] (suc n) = refl
rule_at-none (x ∷ table) zero = refl
rule_at-none (x ∷ table) (suc n) = rule_at-none table n

pub rule_at-set : (table : List (Option RuleId)) (m n : ℕ) (id : RuleId) → m < length table → rule_at (slice_set table m (Some id)) n ≡ (if nat_eq m n then Some id.0 else rule_at table n)
rule_at-set [] m n id l = absurd (omega arith)
rule_at-set (x ∷ table) zero zero id l = refl
rule_at-set (x ∷ table) zero (suc n) id l = rw (zero-suc n) refl
rule_at-set (x ∷ table) (suc m) zero id l = rw (suc-zero m) refl
rule_at-set (x ∷ table) (suc m) (suc n) id l = rw (eq-suc m n) (rule_at-set table m n id (omega arith))

-- one more node has the rule
pub entered_more : (a b : Bool) (id : ℕ) (old now : Option ℕ) → now ≡ (if a then Some id else old) → (if b then Some id else now) ≡ (if a || b then Some id else old)
entered_more true true id old now e = refl
entered_more true false id old now e = e
entered_more false true id old now e = refl
entered_more false false id old now e = e

pub slice_get-append_left : {X : Type 0} (xs ys : List X) (i : ℕ) → i < length xs → slice_get (xs ++ ys) i ≡ slice_get xs i
slice_get-append_left [] ys i l = absurd (omega arith)
slice_get-append_left (x ∷ xs) ys zero l = refl
slice_get-append_left (x ∷ xs) ys (suc i) l = slice_get-append_left xs ys i (omega arith)

-- what stands behind all others is the last
pub last_at : {X : Type 0} (xs : List X) (x y : X) (i : ℕ) → length xs ≤ i → slice_get (xs ++ x ∷ []) i ≡ Some y → (i ≡ length xs) × (x ≡ y)
last_at [] x y zero l e = (refl, cc)
last_at [] x y (suc i) l e = absurd (cc)
last_at (z ∷ xs) x y zero l e = absurd (omega arith)
last_at (z ∷ xs) x y (suc i) l e = let rest = last_at xs x y i (omega arith) e in (ap suc rest.0, rest.1)

pub and_left : (a b : Bool) → (a && b) ≡ true → a ≡ true
and_left true b e = refl
and_left false b e = absurd (cc)

pub and_right : (a b : Bool) → (a && b) ≡ true → b ≡ true
and_right true b e = e
and_right false b e = absurd (cc)

pub and_both : (a b : Bool) → a ≡ true → b ≡ true → (a && b) ≡ true
and_both a b e f = rw (e, f) refl

-- more nodes
pub below_more : (m n : ℕ) (nodes : List NodeId) → m ≤ n → are_below m nodes ≡ true → are_below n nodes ≡ true
below_more m n [] l e = refl
below_more m n (x ∷ nodes) l e =
    let first : x.0 < m = ltb-true x.0 m (and_left (nat_lt x.0 m) (are_below m nodes) e) in
    and_both (nat_lt x.0 n) (are_below n nodes) (lt-ltb x.0 n (omega arith)) (below_more m n nodes l (and_right (nat_lt x.0 m) (are_below m nodes) e))

pub first_below : (n : ℕ) (nodes : List NodeId) (i : ℕ) (d : NodeId) → i < length nodes → are_below n (drop i nodes) ≡ true → (get_or nodes i d).0 < n
first_below n nodes i d within low =
    let all : are_below n (get_or nodes i d ∷ drop (suc i) nodes) ≡ true = rw (drop-cons nodes i d within) at low in
    ltb-true (get_or nodes i d).0 n (and_left (nat_lt (get_or nodes i d).0 n) (are_below n (drop (suc i) nodes)) all)

pub rest_below : (n : ℕ) (nodes : List NodeId) (i : ℕ) (d : NodeId) → i < length nodes → are_below n (drop i nodes) ≡ true → are_below n (drop (i + 1) nodes) ≡ true
rest_below n nodes i d within low =
    let all : are_below n (get_or nodes i d ∷ drop (suc i) nodes) ≡ true = rw (drop-cons nodes i d within) at low in
    rw (add-one i) (and_right (nat_lt (get_or nodes i d).0 n) (are_below n (drop (suc i) nodes)) all)

-- a node that doesn't pass
pub find_past : (p : NodeId → Bool) (xs : List NodeId) (i : ℕ) (d : NodeId) → i < length xs → p (get_or xs i d) ≡ false → find p (drop i xs) ≡ find p (drop (i + 1) xs)
find_past p xs i d within fails = rw (add-one i, drop-cons xs i d within, fails) refl

-- a list that isn't empty
pub first_and_rest : (xs : List NodeId) (d : NodeId) → 0 < length xs → (ts : List NodeId) × (xs ≡ get_or xs 0 d ∷ ts)
first_and_rest [] d l = absurd (omega arith)
first_and_rest (x ∷ xs) d l = (xs, refl)

-- a rule that does the same has the same first target
first_target : (xs : List NodeId) (t : NodeId) (ts : List NodeId) → pointwise node_eq xs (t ∷ ts) ≡ true → is_target_of xs t.0 ≡ true
first_target [] t ts e = absurd (cc)
first_target (x ∷ xs) t ts e = by (nat_eq x.0 t.0) e
  where
    by : (b : Bool) → (b && pointwise node_eq xs ts) ≡ true → (b || is_target_of xs t.0) ≡ true
    by true f = refl
    by false f = absurd (cc)

same_targets : (a b c : Bool) → (a && (b && c)) ≡ true → b ≡ true
same_targets true true c e = refl
same_targets true false c e = absurd (cc)
same_targets false b c e = absurd (cc)

same_target : (r rule : Rule) (t : NodeId) (ts : List NodeId) → rule.targets ≡ t ∷ ts → is_same r rule ≡ true → is_target_of r.targets t.0 ≡ true
same_target r rule t ts first e =
    let targets : pointwise node_eq r.targets rule.targets ≡ true = same_targets (bytes_eq r.builder rule.builder) (pointwise node_eq r.targets rule.targets) (pointwise node_eq r.sources rule.sources && (pointwise bytes_eq r.signed rule.signed && runs_same r rule)) e in
    first_target r.targets t ts (rw first at targets)

-- the rule that does the same is that of the first target
pub equal_is : (table : List (Option RuleId)) (rules : List Rule) (rule : Rule) (t : NodeId) (ts : List NodeId) (i : ℕ) → IsTable table rules → rule.targets ≡ t ∷ ts → equal_rule rules rule ≡ Some i → rule_of rules t.0 ≡ Some i
equal_is table rules rule t ts i valid first e =
    let there = at (λ r. is_same r rule) rules i e in
    valid.single i t.0 there.0 there.1 (same_target there.0 rule t ts first there.2)

-- the rule of a node is one of the rules
pub rule_there : (rules : List Rule) (n i : ℕ) → rule_of rules n ≡ Some i → (r : Rule) × (slice_get rules i ≡ Some r)
rule_there rules n i e = let there = at (λ r. is_target_of r.targets n) rules i e in (there.0, there.1)

pub rule_below : (rules : List Rule) (n i : ℕ) → rule_of rules n ≡ Some i → i < length rules
rule_below rules n i e = let there = rule_there rules n i e in slice_get_within rules i there.0 there.1

pub equal_none : (table : List (Option RuleId)) (rules : List Rule) (rule : Rule) (t : NodeId) (ts : List NodeId) → IsTable table rules → rule.targets ≡ t ∷ ts → rule_of rules t.0 ≡ None → equal_rule rules rule ≡ None
equal_none table rules rule t ts valid first none = by (equal_rule rules rule) refl
  where
    by : (o : Option ℕ) → equal_rule rules rule ≡ o → o ≡ None
    by None e = refl
    by (Some i) e = let some : rule_of rules t.0 ≡ Some i = equal_is table rules rule t ts i valid first e in absurd (cc)

pub equal_some : (table : List (Option RuleId)) (rules : List Rule) (rule r : Rule) (t : NodeId) (ts : List NodeId) (j : ℕ) → IsTable table rules → rule.targets ≡ t ∷ ts → rule_of rules t.0 ≡ Some j → slice_get rules j ≡ Some r → is_same r rule ≡ true → equal_rule rules rule ≡ Some j
equal_some table rules rule r t ts j valid first of there same = by (equal_rule rules rule) refl
  where
    by : (o : Option ℕ) → equal_rule rules rule ≡ o → o ≡ Some j
    by None e = absurd (true≢false (sym same ∙ nowhere (λ x. is_same x rule) rules e j r there))
    by (Some i) e = let some : rule_of rules t.0 ≡ Some i = equal_is table rules rule t ts i valid first e in cc

pub equal_other : (table : List (Option RuleId)) (rules : List Rule) (rule r : Rule) (t : NodeId) (ts : List NodeId) (j : ℕ) → IsTable table rules → rule.targets ≡ t ∷ ts → rule_of rules t.0 ≡ Some j → slice_get rules j ≡ Some r → is_same r rule ≡ false → equal_rule rules rule ≡ None
equal_other table rules rule r t ts j valid first of there other = by (equal_rule rules rule) refl
  where
    by : (o : Option ℕ) → equal_rule rules rule ≡ o → o ≡ None
    by None e = refl
    by (Some i) e =
        let some : rule_of rules t.0 ≡ Some i = equal_is table rules rule t ts i valid first e in
        let one : i ≡ j = cc in
        let match_at = at (λ x. is_same x rule) rules i e in
        let h : slice_get rules i ≡ Some r = rw one there in
        let same_rule : match_at.0 ≡ r = cc match_at.1 in
        absurd (true≢false (sym match_at.2 ∙ ap (λ x. is_same x rule) same_rule ∙ other))

is_none : (o : Option ℕ) → is_some o ≡ false → o ≡ None
is_none None f = refl
is_none (Some i) f = absurd (cc)

untaken_by : (rules : List Rule) (t : NodeId) (nodes : List NodeId) (n : ℕ) (b : Bool) → is_some (rule_of rules t.0) ≡ b → cond b (Some t) (taken rules nodes) ≡ None
    → (c : Bool) → nat_eq t.0 n ≡ c → (c || is_target_of nodes n) ≡ true → (taken rules nodes ≡ None → is_target_of nodes n ≡ true → rule_of rules n ≡ None) → rule_of rules n ≡ None
untaken_by rules t nodes n true f g c h k rest = absurd (cc)
untaken_by rules t nodes n false f g true h k rest = let same : t.0 ≡ n = eq-true t.0 n h in rw (sym same) (is_none (rule_of rules t.0) f)
untaken_by rules t nodes n false f g false h k rest = rest g k

-- where no target has a rule, a target has none
pub none_of_taken : (rules : List Rule) (nodes : List NodeId) (n : ℕ) → taken rules nodes ≡ None → is_target_of nodes n ≡ true → rule_of rules n ≡ None
none_of_taken rules [] n free e = absurd (cc)
none_of_taken rules (t ∷ nodes) n free e = untaken_by rules t nodes n (is_some (rule_of rules t.0)) refl free (nat_eq t.0 n) refl e (none_of_taken rules nodes n)

-- one more rule
pub longer : (table new : List (Option RuleId)) (rules : List Rule) (rule : Rule) → IsTable table rules → taken rules rule.targets ≡ None → length rules < 50000
    → ((n : ℕ) → rule_at new n ≡ (if is_target_of rule.targets n then Some (length rules) else rule_at table n)) → IsTable new (rules ++ rule ∷ [])
longer table new rules rule valid free room entered = record {
  agrees = λ n. entered n ∙ of_new n (is_target_of rule.targets n) refl;
  single = λ i n r at_i is_target. single i n r (nat_lt i (length rules)) refl at_i is_target;
  limit = omega (arith, length-append rules (rule ∷ []));
}
  where
    of_new : (n : ℕ) (b : Bool) → is_target_of rule.targets n ≡ b → (if b then Some (length rules) else rule_at table n) ≡ rule_of (rules ++ rule ∷ []) n
    of_new n true e = sym (longer_none (λ r. is_target_of r.targets n) rules rule (none_of_taken rules rule.targets n free e) ∙ ap (λ b. cond b (Some (length rules)) None) e)
    of_new n false e = valid.agrees n ∙ old (rule_of rules n) refl
      where
        old : (o : Option ℕ) → rule_of rules n ≡ o → o ≡ rule_of (rules ++ rule ∷ []) n
        old None f = sym (longer_none (λ r. is_target_of r.targets n) rules rule f ∙ ap (λ b. cond b (Some (length rules)) None) e)
        old (Some i) f = sym (longer_some (λ r. is_target_of r.targets n) rules rule i f)

    single : (i n : ℕ) (r : Rule) (b : Bool) → nat_lt i (length rules) ≡ b → slice_get (rules ++ rule ∷ []) i ≡ Some r → is_target_of r.targets n ≡ true → rule_of (rules ++ rule ∷ []) n ≡ Some i
    single i n r true l at_i is_target =
        let before : slice_get rules i ≡ Some r = sym (slice_get-append_left rules (rule ∷ []) i (ltb-true _ _ l)) ∙ at_i in
        longer_some (λ x. is_target_of x.targets n) rules rule i (valid.single i n r before is_target)
    single i n r false l at_i is_target =
        let last = last_at rules rule r i (ltb-false _ _ l) at_i in
        let is_rule : rule ≡ r = last.1 in
        let has : is_target_of rule.targets n ≡ true = ap (λ x. is_target_of x.targets n) is_rule ∙ is_target in
        longer_none (λ x. is_target_of x.targets n) rules rule (none_of_taken rules rule.targets n free has) ∙ ap (λ b. cond b (Some (length rules)) None) has ∙ ap Some (sym last.0)

pub entered_as : (ts targets : List NodeId) (id place : ℕ) (now old x : Option ℕ) (n : ℕ) → x ≡ (if is_target_of ts n then Some id else now) → ts ≡ targets → id ≡ place → now ≡ old → x ≡ (if is_target_of targets n then Some place else old)
entered_as ts targets id place now old x n e a b c = rw (← a, ← b, ← c) e
