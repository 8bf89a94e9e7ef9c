-- Which rules were started, by their marks, and tests over lists that are gone over.
use Rattle.std.proofs.Common.{◌≡◌, ◌≢◌, ◌∙◌, ◌<◌, ◌+◌, sym, subst, refl, ap, ℕ, zero, suc, Bool, true, false, List, [], ◌∷◌, ◌++◌, Option, Some, None, length, get_or, take, arith}
use Rattle.std.specs.Prelude.{◌||◌, ◌&&◌, slice_get, slice_set, nat_eq}
use Rattle.std.specs.List.{list_any, list_all}
use Rattle.std.proofs.lemmas.Bool.{false≢true, eq-eqb, eqb-true}
use Rattle.std.proofs.lemmas.List.{take_more, length-set, get_or-set_same, get_or-set_other}
use Rattle.std.proofs.lemmas.Option.{slice_get_within, slice_get-get_or}
use Rattle.std.proofs.lemmas.List.Folds.{list_any-append}
use Rattle.scons_base.specs.declared.ids.RuleId.{RuleId}
use Rattle.rule_graph.specs.Graphs.{RuleGraph}
use Rattle.scons_top.specs.RunLines.{AreMarks, is_among}

or_true : (b : Bool) → (b || true) ≡ true
or_true true = refl
or_true false = refl

or_false : (b : Bool) → (b || false) ≡ b
or_false true = refl
or_false false = refl

and_false : (b : Bool) → (b && false) ≡ false
and_false true = refl
and_false false = refl

module _ {X : Type 0} (p : X → Bool) where
  any_at : (xs : List X) (i : ℕ) (d : X) → i < length xs → p (get_or xs i d) ≡ true → list_any p xs ≡ true
  any_at [] i d lt is = absurd (omega (arith, lt))
  any_at (x ∷ xs) zero d lt is = ap (λ b. b || list_any p xs) is
  any_at (x ∷ xs) (suc i) d lt is = ap (λ b. p x || b) (any_at xs i d (omega (arith, lt)) is) ∙ or_true (p x)

  all_fails : (xs : List X) (i : ℕ) (d : X) → i < length xs → p (get_or xs i d) ≡ false → list_all p xs ≡ false
  all_fails [] i d lt is = absurd (omega (arith, lt))
  all_fails (x ∷ xs) zero d lt is = ap (λ b. b && list_all p xs) is
  all_fails (x ∷ xs) (suc i) d lt is = ap (λ b. p x && b) (all_fails xs i d (omega (arith, lt)) is) ∙ and_false (p x)

  all_append : (xs : List X) (y : X) → list_all p xs ≡ true → p y ≡ true → list_all p (xs ++ y ∷ []) ≡ true
  all_append [] y all is = ap (λ b. b && true) is
  all_append (x ∷ xs) y all is = ap (λ b. p x && b) (all_append xs y (second (p x) (list_all p xs) all) is) ∙ ap (λ b. b && true) (first (p x) (list_all p xs) all)
    where
      first : (a b : Bool) → (a && b) ≡ true → a ≡ true
      first true b is = refl
      first false b is = is

      second : (a b : Bool) → (a && b) ≡ true → b ≡ true
      second true b is = is
      second false b is = absurd (let no = is in cc)

  -- an element that passes
  pub any_here : (xs : List X) (i : ℕ) (x : X) → i < length xs → x ≡ get_or xs i x → p x ≡ true → list_any p xs ≡ true
  any_here xs i x lt at is = any_at xs i x lt (sym (ap p at) ∙ is)

  -- and one that doesn't
  pub any_next : (xs : List X) (i : ℕ) (x : X) → i < length xs → x ≡ get_or xs i x → p x ≡ false → list_any p (take i xs) ≡ false → list_any p (take (i + 1) xs) ≡ false
  any_next xs i x lt at is none =
      ap (list_any p) (take_more xs i x lt) ∙ list_any-append p (take i xs) (get_or xs i x ∷ [])
      ∙ ap (λ b. b || list_any p (get_or xs i x ∷ [])) none ∙ ap (λ b. b || false) (sym (ap p at) ∙ is)

  pub all_here : (xs : List X) (i : ℕ) (x : X) → i < length xs → x ≡ get_or xs i x → p x ≡ false → list_all p xs ≡ false
  all_here xs i x lt at is = all_fails xs i x lt (sym (ap p at) ∙ is)

  pub all_next : (xs : List X) (i : ℕ) (x : X) → i < length xs → x ≡ get_or xs i x → p x ≡ true → list_all p (take i xs) ≡ true → list_all p (take (i + 1) xs) ≡ true
  all_next xs i x lt at is all = ap (list_all p) (take_more xs i x lt) ∙ all_append (take i xs) (get_or xs i x) all (sym (ap p at) ∙ is)

-- one rule more is marked

among_more : (started : List RuleId) (i : ℕ) (d x : RuleId) (rule : ℕ) → i < length started → x ≡ get_or started i d
    → is_among (take (i + 1) started) rule ≡ (is_among (take i started) rule || nat_eq x.0 rule)
among_more started i d x rule lt at =
    let test = λ (id : RuleId). nat_eq id.0 rule in
    ap (list_any test) (take_more started i d lt) ∙ list_any-append test (take i started) (get_or started i d ∷ [])
    ∙ ap (λ b. list_any test (take i started) || b) (or_false (nat_eq (get_or started i d).0 rule) ∙ ap test (sym at))

kept_length : (marks : List Bool) (x rule : ℕ) → rule < length marks → rule < length (slice_set marks x true)
kept_length marks x rule lt = subst (λ n. rule < n) (sym (length-set marks x true)) lt

marked_same : (marks : List Bool) (rule : ℕ) → rule < length marks → slice_get (slice_set marks rule true) rule ≡ Some true
marked_same marks rule lt =
    slice_get-get_or (slice_set marks rule true) rule false (kept_length marks rule rule lt) ∙ ap (λ b. Some b) (get_or-set_same marks rule true false lt)

marked_other : (marks : List Bool) (x rule : ℕ) → rule < length marks → nat_eq x rule ≡ false → slice_get (slice_set marks x true) rule ≡ slice_get marks rule
marked_other marks x rule lt ne =
    slice_get-get_or (slice_set marks x true) rule false (kept_length marks x rule lt)
    ∙ ap (λ b. Some b) (get_or-set_other marks x rule true false (λ same. false≢true (sym ne ∙ eq-eqb x rule (sym same)))) ∙ sym (slice_get-get_or marks rule false lt)

module _ (g : RuleGraph) (started : List RuleId) (i : ℕ) (x : RuleId) (marks : List Bool) (before : AreMarks g (take i started) marks) (rule : ℕ) (there : rule < length g.rules) where
  within : rule < length marks
  within = slice_get_within marks rule (is_among (take i started) rule) (before rule there)

  marked_by : (same : Bool) → nat_eq x.0 rule ≡ same → slice_get (slice_set marks x.0 true) rule ≡ Some (is_among (take i started) rule || same)
  marked_by true is =
      ap (λ n. slice_get (slice_set marks n true) rule) (eqb-true x.0 rule is) ∙ marked_same marks rule within ∙ ap (λ b. Some b) (sym (or_true (is_among (take i started) rule)))
  marked_by false is = marked_other marks x.0 rule within is ∙ before rule there ∙ ap (λ b. Some b) (sym (or_false (is_among (take i started) rule)))

pub marks_more : (g : RuleGraph) (started : List RuleId) (i : ℕ) (d x : RuleId) (marks new : List Bool) → i < length started → x ≡ get_or started i d → new ≡ slice_set marks x.0 true
    → AreMarks g (take i started) marks → AreMarks g (take (i + 1) started) new
marks_more g started i d x marks new lt at is before = λ rule there.
    subst (λ (list : List Bool). slice_get list rule ≡ Some (is_among (take (i + 1) started) rule)) (sym is)
    (subst (λ b. slice_get (slice_set marks x.0 true) rule ≡ Some b) (sym (among_more started i d x rule lt at)) (marked_by g started i x marks before rule there (nat_eq x.0 rule) refl))
