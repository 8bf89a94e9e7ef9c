-- Nodes put behind others, one after another.
use Rattle.std.proofs.Common.{arith, ◌≡◌, ◌<◌, ◌∙◌, ℕ, ◌+◌, List, [], ◌∷◌, ◌++◌, Bool, true, false, ◌||◌, ap, sym, refl, length, take, get_or}
use Rattle.std.specs.Prelude.{if◌then◌else◌, nat_eq, filter}
use Rattle.std.proofs.lemmas.List.{take_more}
use Rattle.std.proofs.lemmas.List.Sums.{fold_more, fold-append}
use Rattle.std.proofs.lemmas.List.Folds.{list_any-append}
use Rattle.std.proofs.lemmas.Bool.Decides.{nat_tests}
use Rattle.scons_base.specs.declared.ids.NodeId.{NodeId}
use Rattle.task_plan.specs.Settled.{IsLonger}
use Rattle.task_plan.specs.Named.{stands, put, put_all}
use Rattle.task_plan.proofs.ListLemmas.{longer_same, longer_insert, longer_trans}

pub put_left_out : (out there new : List NodeId) (n : NodeId) → stands out n ≡ true → new ≡ there → new ≡ put out there n
put_left_out out there new n h e = rw h e

pub put_in : (out there new : List NodeId) (n : NodeId) → stands out n ≡ false → new ≡ (if stands there n then there else there ++ n ∷ []) → new ≡ put out there n
put_in out there new n h e = rw h e

pub put_more : (out there now new nodes : List NodeId) (i : ℕ) (n d : NodeId) → i < length nodes → n ≡ get_or nodes i d → now ≡ put_all out there (take i nodes) → new ≡ put out now n
    → new ≡ put_all out there (take (i + 1) nodes)
put_more out there now new nodes i n d lt is e f =
    f ∙ ap (λ t. put out t n) e ∙ ap (put out (put_all out there (take i nodes))) is ∙ sym (fold_more (put out) there nodes i d lt)

pub ruleset put_one = (longer_same, longer_insert, put_left_out, put_in)

pub ruleset put_steps = (longer_same, longer_trans, put_more)

pub put_all-append : (out there xs ys : List NodeId) → put_all out there (xs ++ ys) ≡ put_all out (put_all out there xs) ys
put_all-append out there xs ys = fold-append (put out) there xs ys

pub or_first : (a b : Bool) → a ≡ true → (a || b) ≡ true
or_first true b h = refl
or_first false b h = absurd (cc)

pub or_second : (a b : Bool) → b ≡ true → (a || b) ≡ true
or_second true b h = refl
or_second false b h = h

or_later : (a b c : Bool) → (b ≡ true → c ≡ true) → (a || b) ≡ true → (a || c) ≡ true
or_later true b c f h = refl
or_later false b c f h = f h

pub same_eq : (n : ℕ) → nat_eq n n ≡ true
same_eq n = grind (arith, nat_tests)

-- one node more that passes a test, or fails it
module _ (test : NodeId → Bool) where
  filter_by : (b : Bool) (x : NodeId) (xs : List NodeId) → test x ≡ b → filter test (x ∷ []) ≡ (if b then x ∷ [] else [])
  filter_by true x xs e = rw e refl
  filter_by false x xs e = rw e refl

  append_by : (b : Bool) (x : NodeId) (xs ys : List NodeId) → filter test (xs ++ ys) ≡ filter test xs ++ filter test ys
      → (if b then x ∷ filter test (xs ++ ys) else filter test (xs ++ ys)) ≡ (if b then x ∷ filter test xs else filter test xs) ++ filter test ys
  append_by true x xs ys e = ap (λ zs. x ∷ zs) e
  append_by false x xs ys e = e

  filter-append : (xs ys : List NodeId) → filter test (xs ++ ys) ≡ filter test xs ++ filter test ys
  filter-append [] ys = refl
  filter-append (x ∷ xs) ys = append_by (test x) x xs ys (filter-append xs ys)

  filter_more : (there nodes : List NodeId) (i : ℕ) (d : NodeId) → i < length nodes
      → put_all [] there (filter test (take (i + 1) nodes)) ≡ put_all [] (put_all [] there (filter test (take i nodes))) (filter test (get_or nodes i d ∷ []))
  filter_more there nodes i d lt =
      ap (λ xs. put_all [] there (filter test xs)) (take_more nodes i d lt)
      ∙ ap (put_all [] there) (filter-append (take i nodes) (get_or nodes i d ∷ []))
      ∙ put_all-append [] there (filter test (take i nodes)) (filter test (get_or nodes i d ∷ []))

  pub scanned_in : (there now new nodes : List NodeId) (i : ℕ) (n d : NodeId) → i < length nodes → n ≡ get_or nodes i d → now ≡ put_all [] there (filter test (take i nodes))
      → test n ≡ true → new ≡ put [] now n → new ≡ put_all [] there (filter test (take (i + 1) nodes))
  scanned_in there now new nodes i n d lt is e h f =
      let one : filter test (get_or nodes i d ∷ []) ≡ n ∷ [] = ap (λ x. filter test (x ∷ [])) (sym is) ∙ filter_by true n nodes h in
      f ∙ ap (λ t. put [] t n) e ∙ ap (put_all [] (put_all [] there (filter test (take i nodes)))) (sym one) ∙ sym (filter_more there nodes i d lt)

  pub scanned_out : (there now nodes : List NodeId) (i : ℕ) (n d : NodeId) → i < length nodes → n ≡ get_or nodes i d → now ≡ put_all [] there (filter test (take i nodes))
      → test n ≡ false → now ≡ put_all [] there (filter test (take (i + 1) nodes))
  scanned_out there now nodes i n d lt is e h =
      let none : filter test (get_or nodes i d ∷ []) ≡ [] = ap (λ x. filter test (x ∷ [])) (sym is) ∙ filter_by false n nodes h in
      e ∙ ap (put_all [] (put_all [] there (filter test (take i nodes)))) (sym none) ∙ sym (filter_more there nodes i d lt)

  filter_stands_by : (b : Bool) (n x : NodeId) (xs : List NodeId) → (stands (filter test xs) n ≡ true → stands xs n ≡ true)
      → stands (if b then x ∷ filter test xs else filter test xs) n ≡ true → stands (x ∷ xs) n ≡ true
  filter_stands_by true n x xs f h = or_later (nat_eq n.0 x.0) (stands (filter test xs) n) (stands xs n) f h
  filter_stands_by false n x xs f h = or_second (nat_eq n.0 x.0) (stands xs n) (f h)

  -- what passes a test among nodes is one of them
  pub filter_stands : (n : NodeId) (xs : List NodeId) → stands (filter test xs) n ≡ true → stands xs n ≡ true
  filter_stands n [] h = h
  filter_stands n (x ∷ xs) h = filter_stands_by (test x) n x xs (filter_stands n xs) h

pub ruleset scanned_steps = (scanned_in, scanned_out)

put_longer_by : (b c : Bool) (there : List NodeId) (n : NodeId) → IsLonger there (if b then there else (if c then there else there ++ n ∷ []))
put_longer_by true c there n = longer_same there there refl
put_longer_by false true there n = longer_same there there refl
put_longer_by false false there n = record { more = n ∷ []; is = refl }

put_longer : (out there : List NodeId) (n : NodeId) → IsLonger there (put out there n)
put_longer out there n = put_longer_by (stands out n) (stands there n) there n

pub put_all_longer : (out there nodes : List NodeId) → IsLonger there (put_all out there nodes)
put_all_longer out there [] = longer_same there there refl
put_all_longer out there (n ∷ nodes) = longer_trans there (put out there n) (put_all out (put out there n) nodes) (put_longer out there n) (put_all_longer out (put out there n) nodes)

pub stands_longer : (a b : List NodeId) (n : NodeId) → IsLonger a b → stands a n ≡ true → stands b n ≡ true
stands_longer a b n l h = rw l.is (list_any-append (λ m. nat_eq n.0 m.0) a l.more ∙ or_first (stands a n) (stands l.more n) h)

-- nodes that all stand there change nothing
pub put_all_there : (there nodes : List NodeId) → ((n : NodeId) → stands nodes n ≡ true → stands there n ≡ true) → put_all [] there nodes ≡ there
put_all_there there [] f = refl
put_all_there there (x ∷ nodes) f =
    let at : stands there x ≡ true = f x (or_first (nat_eq x.0 x.0) (stands nodes x) (same_eq x.0)) in
    let e : put [] there x ≡ there = rw at refl in
    ap (λ t. put_all [] t nodes) e ∙ put_all_there there nodes (λ n h. f n (or_second (nat_eq n.0 x.0) (stands nodes n) h))
