-- Nodes of a rule: numbers below a count, each once.
use Rattle.std.proofs.Common.{arith, ◌≡◌, ◌<◌, ◌≤◌, ◌∙◌, ℕ, List, [], ◌∷◌, ◌++◌, ◌&&◌, ◌||◌, Bool, true, false, not, refl, length}
use Rattle.std.specs.Prelude.{nat_eq, nat_lt}
use Rattle.std.proofs.lemmas.Bool.{ltb-true, lt-ltb}
use Rattle.std.proofs.lemmas.Bool.Decides.{nat_tests}
use Rattle.scons_base.specs.declared.ids.NodeId.{NodeId}
use Rattle.rule_graph.specs.Rules.{is_target_of, are_below, are_distinct}

and_left : (a b : Bool) → (a && b) ≡ true → a ≡ true
and_left true b e = refl
and_left false b e = absurd (cc)

and_right : (a b : Bool) → (a && b) ≡ true → b ≡ true
and_right true b e = e
and_right false b e = absurd (cc)

and_both : (a b : Bool) → a ≡ true → b ≡ true → (a && b) ≡ true
and_both a b e f = rw (e, f) refl

or_left : (a b : Bool) → (a || b) ≡ false → a ≡ false
or_left true b e = absurd (cc)
or_left false b e = refl

or_right : (a b : Bool) → (a || b) ≡ false → b ≡ false
or_right true b e = absurd (cc)
or_right false b e = e

not_so : (a : Bool) → not a ≡ true → a ≡ false
not_so true e = absurd (cc)
not_so false e = refl

same_test : (m n : ℕ) → nat_eq m n ≡ nat_eq n m
same_test m n = grind (arith, nat_tests)

-- more nodes
pub below_more : (m n : ℕ) (nodes : List NodeId) → m ≤ n → are_below m nodes ≡ true → are_below n nodes ≡ true
below_more m n [] l e = refl
below_more m n (x ∷ nodes) l e =
    let first : x.0 < m = ltb-true x.0 m (and_left (nat_lt x.0 m) (are_below m nodes) e) in
    and_both (nat_lt x.0 n) (are_below n nodes) (lt-ltb x.0 n (omega arith)) (below_more m n nodes l (and_right (nat_lt x.0 m) (are_below m nodes) e))

-- one more node
pub below_with : (count : ℕ) (nodes : List NodeId) (n : NodeId) → n.0 < count → are_below count nodes ≡ true → are_below count (nodes ++ n ∷ []) ≡ true
below_with count [] n l e = and_both (nat_lt n.0 count) true (lt-ltb n.0 count l) refl
below_with count (x ∷ nodes) n l e =
    and_both (nat_lt x.0 count) (are_below count (nodes ++ n ∷ [])) (and_left (nat_lt x.0 count) (are_below count nodes) e)
    (below_with count nodes n l (and_right (nat_lt x.0 count) (are_below count nodes) e))

other_target : (nodes : List NodeId) (n : NodeId) (m : ℕ) → is_target_of nodes m ≡ false → nat_eq n.0 m ≡ false → is_target_of (nodes ++ n ∷ []) m ≡ false
other_target [] n m a b = rw b refl
other_target (x ∷ nodes) n m a b =
    rw (or_left (nat_eq x.0 m) (is_target_of nodes m) a) (other_target nodes n m (or_right (nat_eq x.0 m) (is_target_of nodes m) a) b)

pub distinct_with : (nodes : List NodeId) (n : NodeId) → are_distinct nodes ≡ true → is_target_of nodes n.0 ≡ false → are_distinct (nodes ++ n ∷ []) ≡ true
distinct_with [] n d f = refl
distinct_with (t ∷ ts) n d f =
    let lacks : is_target_of ts t.0 ≡ false = not_so (is_target_of ts t.0) (and_left (not (is_target_of ts t.0)) (are_distinct ts) d) in
    let other : nat_eq n.0 t.0 ≡ false = same_test n.0 t.0 ∙ or_left (nat_eq t.0 n.0) (is_target_of ts n.0) f in
    let first : is_target_of (ts ++ n ∷ []) t.0 ≡ false = other_target ts n t.0 lacks other in
    rw first (distinct_with ts n (and_right (not (is_target_of ts t.0)) (are_distinct ts) d) (or_right (nat_eq t.0 n.0) (is_target_of ts n.0) f))
