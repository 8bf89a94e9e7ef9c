-- What isn't stuck at a height is the same at every greater one.
use Rattle.std.proofs.Common.{◌≡◌, ◌≤◌, ℕ, zero, suc, Bool, true, false, if◌then◌else◌, List, [], ◌∷◌, Option, Some, None, refl, sym, subst, ◌∙◌, ◌⊎◌, ⊎_elim, arith}
use Rattle.build_model.specs.Rules.{Path, Content, Tree, Rule, Setting, Among, here, there}
use Rattle.build_model.specs.Contents.{Known, View, dependencies, contents_in, with_known, act_on, made, by_rule, source_content, clean, height}
use Rattle.build_model.proofs.Lists.{none_some}
use Rattle.build_model.proofs.Agree.{same_made}

known_first : (p : Path) (k : Known) (rest : Option (List (Path × Content))) (g : List (Path × Content)) →
    with_known p k rest ≡ Some g → (x : Content) × (k ≡ Some x)
known_first p None rest g e = none_some e
known_first p (Some x) rest g e = (x, refl)

known_rest : (p : Path) (k : Known) (rest : Option (List (Path × Content))) (g : List (Path × Content)) →
    with_known p k rest ≡ Some g → (l : List (Path × Content)) × (rest ≡ Some l)
known_rest p None rest g e = none_some e
known_rest p (Some x) None g e = none_some e
known_rest p (Some x) (Some l) g e = (l, refl)

known_members : (v : View) (ps : List Path) (g : List (Path × Content)) → contents_in v ps ≡ Some g →
    (q : Path) → Among q ps → (x : Content) × (v q ≡ Some x)
known_members v [] g e q m = elim m [ ]
known_members v (p ∷ ps) g e q here = known_first p (v p) (contents_in v ps) g e
known_members v (p ∷ ps) g e q (there m) =
    let rest = known_rest p (v p) (contents_in v ps) g e in known_members v ps rest.0 rest.1 q m

known_given : (s : Setting) (r : Rule) (p : Path) (given : Option (List (Path × Content))) (x : Content) →
    act_on s r p given ≡ Some x → (g : List (Path × Content)) × (given ≡ Some g)
known_given s r p None x e = none_some e
known_given s r p (Some g) x e = (g, refl)

-- what a rule makes is known only where its dependencies are
pub made_known : (s : Setting) (v : View) (r : Rule) (p : Path) (x : Content) → made s v r p ≡ Some x →
    (q : Path) → Among q (dependencies s v r) → (y : Content) × (v q ≡ Some y)
made_known s v r p x e q m =
    let given = known_given s r p (contents_in v (dependencies s v r)) x e in
    known_members v (dependencies s v r) given.0 given.1 q m

higher_none : (o : Option Rule) (a : Known) (f : Rule → Known) (x : Content) → by_rule o a (λ r. None) ≡ Some x → by_rule o a f ≡ Some x
higher_none None a f x e = e
higher_none (Some r) a f x e = none_some e

higher_rule : (o : Option Rule) (a : Known) (f g : Rule → Known) (x : Content) → ((r : Rule) → f r ≡ Some x → g r ≡ Some x) →
    by_rule o a f ≡ Some x → by_rule o a g ≡ Some x
higher_rule None a f g x h e = e
higher_rule (Some r) a f g x h e = h r e

pub higher : (s : Setting) (t : Tree) (h : ℕ) (p : Path) (x : Content) → clean s t h p ≡ Some x → clean s t (suc h) p ≡ Some x
higher s t zero p x e = higher_none (s.rule_of p) (source_content (t p)) (λ r. made s (clean s t zero) r p) x e
higher s t (suc h) p x e =
    higher_rule (s.rule_of p) (source_content (t p)) (λ r. made s (clean s t h) r p) (λ r. made s (clean s t (suc h)) r p) x
    (λ r known. same_made s r (clean s t h) (clean s t (suc h))
    (λ q m. let y = made_known s (clean s t h) r p x known q m in y.1 ∙ sym (higher s t h q y.0 y.1)) p ∙ known) e

below_or_at : {h k : ℕ} → h ≤ suc k → (h ≤ k) ⊎ (h ≡ suc k)
below_or_at le = grind arith

pub higher_le : (s : Setting) (t : Tree) (h k : ℕ) → h ≤ k → (p : Path) (x : Content) → clean s t h p ≡ Some x → clean s t k p ≡ Some x
higher_le s t h zero le p x e = let same : h ≡ 0 = omega arith in subst (λ n. clean s t n p ≡ Some x) same e
higher_le s t h (suc k) le p x e =
    ⊎_elim (λ below. higher s t k p x (higher_le s t h k below p x e)) (λ same. subst (λ n. clean s t n p ≡ Some x) same e) (below_or_at le)

-- the height at which a settled rule's targets are known
abbrev pub level : Rule → ℕ → ℕ
level r h = if r.copies then suc h else h

level_cases : (c : Bool) (h : ℕ) → (if c then suc h else h) ≤ suc h
level_cases true h = omega arith
level_cases false h = omega arith

pub level_le : (r : Rule) (h : ℕ) → level r h ≤ suc h
level_le r h = level_cases r.copies h

level_more_cases : (c : Bool) {h k : ℕ} → h ≤ k → (if c then suc h else h) ≤ (if c then suc k else k)
level_more_cases true le = omega arith
level_more_cases false le = le

pub level_more : (r : Rule) {h k : ℕ} → h ≤ k → level r h ≤ level r k
level_more r le = level_more_cases r.copies le

height_cases : (c : Bool) (h : ℕ) → h ≤ (if c then h else suc (suc h))
height_cases true h = omega arith
height_cases false h = omega arith

pub height_more : (r : Rule) (rules : List Rule) → height rules ≤ height (r ∷ rules)
height_more r rules = height_cases r.copies (height rules)
