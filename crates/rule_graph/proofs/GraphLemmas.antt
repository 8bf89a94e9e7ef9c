-- What the rules and aliases of a graph name are nodes.
use Rattle.std.proofs.Common.{arith, ◌≡◌, ◌<◌, ◌≤◌, ◌∙◌, ℕ, suc, ◌+◌, List, [], ◌∷◌, ◌++◌, ◌&&◌, ◌||◌, Bool, true, false, cond, ap, sym, refl, length, Some, None, Option}
use Rattle.std.specs.Prelude.{nat_eq, nat_lt, slice_get, position, unwrap_or, MatchOption, Result, Ok, Err, IfOk, OnOk, OnErr, IfSome, is_some}
use Rattle.std.specs.List.{list_all, find}
use Rattle.std.specs.Option.{option_map}
use Rattle.std.specs.Str.{bytes_eq}
use Rattle.std.proofs.lemmas.Bool.{ltb-true, ltb-false, lt-ltb}
use Rattle.std.proofs.lemmas.List.{length-append}
use Rattle.std.proofs.lemmas.List.Folds.{list_all-append}
use Rattle.scons_base.specs.declared.ids.NodeId.{NodeId}
use Rattle.node_tree.specs.Nodes.{number_of, Interns}
use Rattle.rule_graph.specs.declared.rule.Rule.{Rule}
use Rattle.scons_base.specs.declared.ids.RuleId.{RuleId}
use Rattle.rule_graph.specs.Rules.{are_below, is_target_of, rule_of, own_source, equal_rule, taken, IsRule}
use Rattle.rule_graph.specs.Aliases.{Alias, members_of, put, with_members}
use Rattle.rule_graph.specs.Graphs.{RuleGraph, IsGraph, rule_fault}
use Rattle.rule_graph.proofs.Positions.{at}
use Rattle.rule_graph.proofs.RuleLemmas.{eq-true, slice_get-append_left, last_at, and_left, and_right, and_both, below_more}

find_by : (p : NodeId → Bool) (n : ℕ) (x : NodeId) (nodes : List NodeId) (t : NodeId) → are_below n (x ∷ nodes) ≡ true → (b : Bool) → cond b (Some x) (find p nodes) ≡ Some t
    → (are_below n nodes ≡ true → find p nodes ≡ Some t → t.0 < n) → t.0 < n
find_by p n x nodes t low true f rest = let same : x ≡ t = cc in rw (sym same) (ltb-true x.0 n (and_left (nat_lt x.0 n) (are_below n nodes) low))
find_by p n x nodes t low false f rest = rest (and_right (nat_lt x.0 n) (are_below n nodes) low) f

-- the first node that passes a test is one of the nodes
pub find_below : (p : NodeId → Bool) (n : ℕ) (nodes : List NodeId) (t : NodeId) → are_below n nodes ≡ true → find p nodes ≡ Some t → t.0 < n
find_below p n [] t low e = absurd (cc)
find_below p n (x ∷ nodes) t low e = find_by p n x nodes t low (p x) e (find_below p n nodes t)

rule_more : (m n : ℕ) (rule : Rule) → m ≤ n → IsRule m rule → IsRule n rule
rule_more m n rule l valid = record {
  has_target = valid.has_target;
  distinct = valid.distinct;
  targets = below_more m n rule.targets l valid.targets;
  sources = below_more m n rule.sources l valid.sources;
  libs = below_more m n rule.libs l valid.libs;
  depends = below_more m n rule.depends l valid.depends;
  required = below_more m n rule.required l valid.required;
  ignored = below_more m n rule.ignored l valid.ignored;
}

abbrev all_below : ℕ → List Alias → Bool
all_below n aliases = list_all (λ a. are_below n a.1) aliases

aliases_more : (m n : ℕ) (aliases : List Alias) → m ≤ n → list_all (λ a. are_below m a.1) aliases ≡ true → list_all (λ a. are_below n a.1) aliases ≡ true
aliases_more m n [] l e = refl
aliases_more m n (a ∷ aliases) l e =
    and_both (are_below n a.1) (all_below n aliases) (below_more m n a.1 l (and_left (are_below m a.1) (all_below m aliases) e)) (aliases_more m n aliases l (and_right (are_below m a.1) (all_below m aliases) e))

pub graph_more : (m n : ℕ) (rules : List Rule) (aliases : List Alias) → m ≤ n → IsGraph m rules aliases → IsGraph n rules aliases
graph_more m n rules aliases l valid = record {
  each_rule = λ i r e. rule_more m n r l (valid.each_rule i r e);
  each_alias = aliases_more m n aliases l valid.each_alias;
}

-- an interned path takes none away
pub interns_more : (old : List (List ℕ)) (path : List ℕ) (id : ℕ) (new : List (List ℕ)) → Interns old path id new → length old ≤ length new
interns_more old path id new h = by (number_of old path) h
  where
    by : (o : Option ℕ) → MatchOption o ((id ≡ length old) × (new ≡ old ++ path ∷ [])) (λ number. (id ≡ number) × (new ≡ old)) → length old ≤ length new
    by None h = rw (h.1, length-append old (path ∷ [])) (omega arith)
    by (Some n) h = rw h.1 (omega arith)

-- one more rule
pub rule_added : (n : ℕ) (rules : List Rule) (aliases : List Alias) (rule : Rule) → IsGraph n rules aliases → IsRule n rule → IsGraph n (rules ++ rule ∷ []) aliases
rule_added n rules aliases rule valid new = record {
  each_rule = λ i r e. by i r (nat_lt i (length rules)) refl e;
  each_alias = valid.each_alias;
}
  where
    by : (i : ℕ) (r : Rule) (b : Bool) → nat_lt i (length rules) ≡ b → slice_get (rules ++ rule ∷ []) i ≡ Some r → IsRule n r
    by i r true l e = valid.each_rule i r (sym (slice_get-append_left rules (rule ∷ []) i (ltb-true _ _ l)) ∙ e)
    by i r false l e = let same : rule ≡ r = (last_at rules rule r i (ltb-false _ _ l) e).1 in rw (sym same) new

members_by : (n : ℕ) (a : Alias) (aliases : List Alias) (name : List ℕ) (members : List NodeId) → list_all (λ x. are_below n x.1) (a ∷ aliases) ≡ true → (b : Bool) → cond b (Some a.1) (members_of aliases name) ≡ Some members
    → (list_all (λ x. are_below n x.1) aliases ≡ true → members_of aliases name ≡ Some members → are_below n members ≡ true) → are_below n members ≡ true
members_by n a aliases name members low true f rest = let same : a.1 ≡ members = cc in rw (sym same) (and_left (are_below n a.1) (all_below n aliases) low)
members_by n a aliases name members low false f rest = rest (and_right (are_below n a.1) (all_below n aliases) low) f

-- an alias's members are nodes
pub members_below : (n : ℕ) (aliases : List Alias) (name : List ℕ) (members : List NodeId) → list_all (λ a. are_below n a.1) aliases ≡ true → members_of aliases name ≡ Some members → are_below n members ≡ true
members_below n [] name members low e = absurd (cc)
members_below n (a ∷ aliases) name members low e = members_by n a aliases name members low (bytes_eq name a.0) e (members_below n aliases name members)

put_by : (n : ℕ) (a : Alias) (aliases : List Alias) (new : Alias) → list_all (λ x. are_below n x.1) (a ∷ aliases) ≡ true → are_below n new.1 ≡ true → (b : Bool)
    → list_all (λ x. are_below n x.1) (put aliases new) ≡ true → list_all (λ x. are_below n x.1) (cond b (new ∷ aliases) (a ∷ put aliases new)) ≡ true
put_by n a aliases new low e true rest = and_both (are_below n new.1) (all_below n aliases) e (and_right (are_below n a.1) (all_below n aliases) low)
put_by n a aliases new low e false rest = and_both (are_below n a.1) (all_below n (put aliases new)) (and_left (are_below n a.1) (all_below n aliases) low) rest

put_below : (n : ℕ) (aliases : List Alias) (new : Alias) → list_all (λ a. are_below n a.1) aliases ≡ true → are_below n new.1 ≡ true → list_all (λ a. are_below n a.1) (put aliases new) ≡ true
put_below n [] new low e = and_both (are_below n new.1) true e refl
put_below n (a ∷ aliases) new low e = put_by n a aliases new low e (bytes_eq new.0 a.0) (put_below n aliases new (and_right (are_below n a.1) (all_below n aliases) low) e)

pub alias_added : (n : ℕ) (rules : List Rule) (aliases : List Alias) (name : List ℕ) (more : List NodeId) → IsGraph n rules aliases → are_below n more ≡ true → IsGraph n rules (with_members aliases name more)
alias_added n rules aliases name more valid low = record {
  each_rule = valid.each_rule;
  each_alias = put_below n aliases (name, unwrap_or (members_of aliases name) [] ++ more) valid.each_alias (all (members_of aliases name) refl);
}
  where
    all : (o : Option (List NodeId)) → members_of aliases name ≡ o → are_below n (unwrap_or o [] ++ more) ≡ true
    all None e = low
    all (Some members) e = list_all-append (λ t. nat_lt t.0 n) members more ∙ and_both (are_below n members) (are_below n more) (members_below n aliases name members valid.each_alias e) low

pub intern_grows : {E : Type 0} → (r : Result NodeId E) (old : List (List ℕ)) (path : List ℕ) (new : List (List ℕ)) → IfOk r (λ id. Interns old path id.0 new) → OnErr r (new ≡ old) → length old ≤ length new
intern_grows (Ok id) old path new ok err = interns_more old path id.0 new ok
intern_grows (Err e) old path new ok err = rw err (omega arith)

pub alias_kept : {E : Type 0} → (r : Result (Unit {0}) E) (n : ℕ) (rules : List Rule) (old new : List Alias) (name : List ℕ) (more : List NodeId)
    → OnOk r (new ≡ with_members old name more) → OnErr r (new ≡ old) → IsGraph n rules old → are_below n more ≡ true → IsGraph n rules new
alias_kept (Ok u) n rules old new name more ok err valid low = rw ok (alias_added n rules old name more valid low)
alias_kept (Err e) n rules old new name more ok err valid low = rw err valid

pub some_below : {A : Type 0} → (now : A → List NodeId) (r : Option A) (n : ℕ) (aliases : List Alias) (name : List ℕ) → list_all (λ a. are_below n a.1) aliases ≡ true → option_map now r ≡ members_of aliases name → IfSome r (λ m. are_below n (now m) ≡ true)
some_below now None n aliases name low e = tt
some_below now (Some m) n aliases name low e = members_below n aliases name (now m) low (sym e)

pub is_some-map : {A B : Type 0} → (f : A → B) (o : Option A) → is_some (option_map f o) ≡ is_some o
is_some-map f None = refl
is_some-map f (Some x) = refl

pub no_fault : (g : RuleGraph) (rule : Rule) → own_source rule ≡ None → is_some (equal_rule g.rules rule) ≡ false → taken g.rules rule.targets ≡ None → nat_lt (length g.rules) 50000 ≡ true → rule_fault g rule ≡ None
no_fault g rule own equal free room = rw (own, equal, free, room) refl

target_below : (k : ℕ) (nodes : List NodeId) (n : ℕ) → are_below k nodes ≡ true → is_target_of nodes n ≡ true → n < k
target_below k [] n low h = absurd (cc)
target_below k (t ∷ ts) n low h = by (nat_eq t.0 n) refl h (target_below k ts n (and_right (nat_lt t.0 k) (are_below k ts) low))
  where
    by : (b : Bool) → nat_eq t.0 n ≡ b → (b || is_target_of ts n) ≡ true → (is_target_of ts n ≡ true → n < k) → n < k
    by true e h rest =
        let same = eq-true t.0 n e in
        let lt = ltb-true t.0 k (and_left (nat_lt t.0 k) (are_below k ts) low) in
        omega arith
    by false e h rest = rest h

-- what has a rule is a node
pub node_of_rule : (found : Option RuleId) (nodes : ℕ) (rules : List Rule) (aliases : List Alias) (n : ℕ) → IsGraph nodes rules aliases → option_map (λ id. id.0) found ≡ rule_of rules n → IfSome found (λ id. n < nodes)
node_of_rule None nodes rules aliases n g e = tt
node_of_rule (Some id) nodes rules aliases n g e =
    let there = at (λ r. is_target_of r.targets n) rules id.0 (sym e) in
    target_below nodes there.0.targets n (g.each_rule id.0 there.0 there.1).targets there.2
