-- The rules of a graph have their places, and no more of them stand on one another than are declared.
use Rattle.std.proofs.Common.{◌≡◌, ◌<◌, ◌≤◌, ◌+◌, ◌*◌, ℕ, suc, Bool, true, false, if◌then◌else◌, List, [], ◌∷◌, length, Option, Some, None, refl, sym, subst, ap, ◌∙◌, inl, inr, ◌⊎◌, arith}
use Rattle.build_model.specs.Rules.{Path, Content, Tree, Rule, Among, here, there, Unique}
use Rattle.build_model.specs.Reach.{has, IsScanned, scans_source, scans_found, Reaches, is_declared, is_scanned}
use Rattle.build_model.specs.Contents.{View, found_in, dependencies, IsLawful, height}
use Rattle.build_model.specs.Graphs.{Graph, IsGraph, declared_rule, copy_rule, copy_of_file, copy_of_source, copy_at, or_copy, rule_at, setting}
use Rattle.build_model.specs.Steps.{Step, Build, settled, IsRun}
use Rattle.build_model.proofs.Lists.{none_some, some_same, true_false, has_among}
use Rattle.build_model.proofs.Whole.{reach_reaches}
use Rattle.build_model.proofs.Ready.{needed_place}
use Rattle.build_model.proofs.Runs.{settled_prepared, settled_once}

declared_step : {r x : Rule} {rules : List Rule} {p : Path} (b : Bool) → has p x.targets ≡ b →
    (if b then Some x else declared_rule rules p) ≡ Some r →
    (declared_rule rules p ≡ Some r → Among r rules × Among p r.targets) → Among r (x ∷ rules) × Among p r.targets
declared_step {r} {x} {rules} {p} true e same next =
    subst (λ y. Among y (x ∷ rules) × Among p y.targets) (some_same same) (here, has_among p x.targets e)
declared_step false e same next = let h = next same in (there h.0, h.1)

-- a declared rule is one of the graph's, and has the path among its targets
pub declared_there : {r : Rule} {p : Path} (rules : List Rule) → declared_rule rules p ≡ Some r → Among r rules × Among p r.targets
declared_there [] e = none_some e
declared_there {p = p} (x ∷ rules) e = declared_step (has p x.targets) refl e (declared_there rules)

module _ (g : Graph) (t : Tree) where
  -- which rule a path has
  pub data HasRule (p : Path) : Rule → Type 0 where
    is_declared_rule : (r : Rule) → declared_rule g.rules p ≡ Some r → HasRule p r
    is_copy_of : (q : Path) → declared_rule g.rules p ≡ None → ((x : Rule) → declared_rule g.rules q ≡ None → g.source_of q ≡ None) → HasRule p (copy_rule p q)

  copy_of_file_rule : {r : Rule} {p q : Path} (c : Content) (o : Option Path) → copy_of_file p q c o ≡ Some r → (r ≡ copy_rule p q) × (o ≡ None)
  copy_of_file_rule None o e = none_some e
  copy_of_file_rule (Some bytes) None e = (sym (some_same e), refl)
  copy_of_file_rule (Some bytes) (Some o) e = none_some e

  copy_of_source_rule : {r : Rule} {p q : Path} (o : Option Rule) → copy_of_source g t p q o ≡ Some r →
      (r ≡ copy_rule p q) × (o ≡ None → g.source_of q ≡ None)
  copy_of_source_rule (Some x) e = (sym (some_same e), λ none. none_some (sym none))
  copy_of_source_rule {q = q} None e = let h = copy_of_file_rule (t q) (g.source_of q) e in (h.0, λ none. h.1)

  copy_at_rule : {r : Rule} {p : Path} (o : Option Path) → declared_rule g.rules p ≡ None → copy_at g t p o ≡ Some r → HasRule p r
  copy_at_rule None none e = none_some e
  copy_at_rule {r} {p} (Some q) none e =
      let h = copy_of_source_rule (declared_rule g.rules q) e in
      subst (λ x. HasRule p x) (sym h.0) (is_copy_of q none (λ x. h.1))

  or_copy_rule : {r : Rule} {p : Path} (o : Option Rule) → declared_rule g.rules p ≡ o → or_copy g t p o ≡ Some r → HasRule p r
  or_copy_rule {r} {p} (Some x) is e = is_declared_rule r (is ∙ e)
  or_copy_rule {p = p} None is e = copy_at_rule (g.source_of p) is e

  pub has_rule : {r : Rule} {p : Path} → rule_at g t p ≡ Some r → HasRule p r
  has_rule {p = p} e = or_copy_rule (declared_rule g.rules p) refl e

  module _ (graph : IsGraph g) where
    makes_target : {p : Path} {r : Rule} → HasRule p r → Among p r.targets
    makes_target (is_declared_rule r e) = (declared_there g.rules e).1
    makes_target (is_copy_of q none deeper) = here

    rule_of_declared : (p : Path) {r : Rule} → declared_rule g.rules p ≡ Some r → rule_at g t p ≡ Some r
    rule_of_declared p e = ap (or_copy g t p) e

    only_one : {x y : Path} → Among x (y ∷ []) → y ≡ x
    only_one here = refl
    only_one (there m) = elim m [ ]

    alone_there : {p : Path} {r : Rule} → HasRule p r → rule_at g t p ≡ Some r → (q : Path) → Among q r.targets → rule_at g t q ≡ Some r
    alone_there (is_declared_rule r e) is q m = rule_of_declared q (graph.one_rule r q (declared_there g.rules e).0 m)
    alone_there {p} {r} (is_copy_of o none deeper) is q m = subst (λ x. rule_at g t x ≡ Some (copy_rule p o)) (only_one m) is

    -- what a copy depends on
    copy_unscanned : {f : Path → List Path} {p o q : Path} → IsScanned f (copy_rule p o) q → ⊥
    copy_unscanned (scans_source m) = elim m [ ]
    copy_unscanned (scans_found x h m out) = copy_unscanned h

    copy_depends : (view : View) (p : Path) {o q : Path} → Reaches (found_in (setting g t) view (copy_rule p o)) (copy_rule p o) q → o ≡ q
    copy_depends view p (is_declared m) = only_one m
    copy_depends view p (is_scanned h) = absurd (copy_unscanned h)

    declared_plain : (p : Path) {r : Rule} → declared_rule g.rules p ≡ Some r → r.copies ≡ false
    declared_plain p {r} e = graph.no_copies r (declared_there g.rules e).0

    deep_copy : {p : Path} {x : Rule} → (declared_rule g.rules p ≡ None → g.source_of p ≡ None) → declared_rule g.rules p ≡ None →
        rule_at g t p ≡ Some x → ⊥
    deep_copy {p} {x} deeper none is =
        none_some (sym (ap (or_copy g t p) none ∙ ap (copy_at g t p) (deeper none)) ∙ is)

    source_plain : {p : Path} {x : Rule} → (declared_rule g.rules p ≡ None → g.source_of p ≡ None) → HasRule p x → rule_at g t p ≡ Some x →
        x.copies ≡ false
    source_plain {p} deeper (is_declared_rule r e) is = declared_plain p e
    source_plain deeper (is_copy_of q none other) is = absurd (deep_copy deeper none is)

    copied_once_there : {p : Path} {r : Rule} → HasRule p r → r.copies ≡ true → (view : View) → (q : Path) →
        Among q (dependencies (setting g t) view r) → (x : Rule) → rule_at g t q ≡ Some x → x.copies ≡ false
    copied_once_there {p} (is_declared_rule r e) copies view q m x is = true_false (sym copies ∙ declared_plain p e)
    copied_once_there {p} (is_copy_of o none deeper) copies view q m x is =
        let same = copy_depends view p (reach_reaches (found_in (setting g t) view (copy_rule p o)) g.limit m) in
        source_plain (subst (λ y. declared_rule g.rules y ≡ None → g.source_of y ≡ None) same (deeper x)) (has_rule is) is

    pub lawful : IsLawful (setting g t)
    lawful = record {
      makes = λ p r e. makes_target (has_rule e);
      alone = λ p r e q m. alone_there (has_rule e) e q m;
      copied_once = λ p r e copies view q m x is. copied_once_there (has_rule e) copies view q m x is;
    }

    declared_if_plain : {p : Path} {r : Rule} → HasRule p r → r.copies ≡ false → Among r g.rules
    declared_if_plain (is_declared_rule r e) plain = (declared_there g.rules e).0
    declared_if_plain (is_copy_of q none deeper) plain = true_false plain

    pub settled_declared : (b : Build) (steps : List Step) → IsRun (setting g t) b steps → (r : Rule) → Among r (settled steps) →
        r.copies ≡ false → Among r g.rules
    settled_declared b steps run r m plain =
        let place = needed_place (settled_prepared (setting g t) b steps run m).wanted.is_needed in
        declared_if_plain (has_rule place.1) plain

-- A list without one of its members.
pub record Without (rules : List Rule) (r : Rule) : Type 0 where
  pub rest : List Rule
  pub counts : length rules ≡ suc (length rest)
  pub others : (x : Rule) → Among x rules → (x ≡ r) ⊎ Among x rest

keeps_other : {x r y : Rule} {rest : List Rule} → (x ≡ r) ⊎ Among x rest → (x ≡ r) ⊎ Among x (y ∷ rest)
keeps_other (inl e) = inl e
keeps_other (inr m) = inr (there m)

others_there : {r y x : Rule} {rules rest : List Rule} → ((z : Rule) → Among z rules → (z ≡ r) ⊎ Among z rest) → Among x (y ∷ rules) →
    (x ≡ r) ⊎ Among x (y ∷ rest)
others_there h here = inr here
others_there h (there m) = keeps_other (h _ m)

others_here : {r x : Rule} {rules : List Rule} → Among x (r ∷ rules) → (x ≡ r) ⊎ Among x rules
others_here here = inl refl
others_here (there m) = inr m

pub without : {r : Rule} {rules : List Rule} → Among r rules → Without rules r
without (here {xs = xs}) = record { rest = xs; counts = refl; others = λ x m. others_here m }
without (there {y = y} m) =
    let w = without m in record { rest = y ∷ w.rest; counts = ap suc w.counts; others = λ x n. others_there w.others n }

still_there : {x r : Rule} {rs rest : List Rule} → (Among r rs → ⊥) → Among x rs → (x ≡ r) ⊎ Among x rest → Among x rest
still_there {rs = rs} out m (inl e) = absurd (out (subst (λ y. Among y rs) e m))
still_there out m (inr n) = n

two_more : {h n m : ℕ} → h ≤ 2 * n → m ≡ suc n → suc (suc h) ≤ 2 * m
two_more le e = omega arith

bounded_cases : (r : Rule) (rs rules : List Rule) (c : Bool) → r.copies ≡ c → Unique (r ∷ rs) →
    ((x : Rule) → Among x (r ∷ rs) → x.copies ≡ false → Among x rules) →
    ((more : List Rule) → Unique rs → ((x : Rule) → Among x rs → x.copies ≡ false → Among x more) → height rs ≤ 2 * length more) →
    (if c then height rs else suc (suc (height rs))) ≤ 2 * length rules
bounded_cases r rs rules true e once there_all next = next rules once.1 (λ x m plain. there_all x (there m) plain)
bounded_cases r rs rules false e once there_all next =
    let w = without (there_all r here e) in
    two_more (next w.rest once.1 (λ x m plain. still_there once.0 m (w.others x (there_all x (there m) plain)))) w.counts

-- Rules of which those that are no copies stand among the declared ones, each once, aren't higher than twice their number.
pub height_bounded : (rs rules : List Rule) → Unique rs → ((r : Rule) → Among r rs → r.copies ≡ false → Among r rules) →
    height rs ≤ 2 * length rules
height_bounded [] rules once there_all = omega arith
height_bounded (r ∷ rs) rules once there_all = bounded_cases r rs rules r.copies refl once there_all (height_bounded rs)

-- a clean build is high enough for what a build of the graph settles
pub high_enough : (g : Graph) (b : Build) (steps : List Step) → IsGraph g → IsRun (setting g b.before) b steps →
    height (settled steps) < 2 * length g.rules + 1
high_enough g b steps graph run =
    let le = height_bounded (settled steps) g.rules (settled_once (setting g b.before) b steps run)
    (settled_declared g b.before graph b steps run) in
    omega (arith, le)
