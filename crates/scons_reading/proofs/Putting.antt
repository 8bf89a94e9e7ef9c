-- Declared rules put into a graph one behind another.
use Rattle.std.proofs.Common.{◌≡◌, ◌<◌, ◌+◌, ◌∙◌, arith, refl, sym, ap, subst, ℕ, suc, List, Option, Some, None, Result, Ok, Err, IfOk, IfErr, OnOk, length, map, inl, inr}
use Rattle.std.specs.Prelude.{slice_get}
use Rattle.std.proofs.lemmas.Option.{slice_get_cases}
use Rattle.env_subst.specs.declared.locals.Locals.{Locals}
use Rattle.rule_graph.specs.Graphs.{RuleGraph, empty_graph}
use Rattle.scons_decls.specs.State.{Declared, Rule}
use Rattle.scons_rules.specs.declared.fault.RuleReadFault.{RuleReadFault}
use Rattle.scons_rules.specs.declared.libraries.Wanted.{Wanted}
use Rattle.scons_rules.specs.Knowing.{Known, known_of, of_no_rule, of_rule, cplusplus_objects, begun, may_stand}
use Rattle.scons_rules.specs.Libraries.{found_in}
use Rattle.scons_rules.specs.PathGraphs.{PathGraph, graph_by}
use Rattle.scons_rules.specs.Ruling.{libraries_of, added}
use Rattle.scons_rules.specs.Steps.{and_then}
use Rattle.scons_host.specs.declared.stop.Stop.{Stop}
use Rattle.scons_host.specs.Files.{Files}
use Rattle.scons_host.specs.Shown.{IsTold}
use Rattle.scons_reading.specs.Graphs.{standing_in, found, put_in, known_at, IsWithin, Adds, unknown, known, empty, Puts, none, more, IsRuleStop, IsEndOfRules, closed, Graphs, refused, made}

-- the rule of a number
there : {X : Type 0} (xs : List X) (n : ℕ) → n < length xs → (x : X) × (slice_get xs n ≡ Some x)
there xs n within = elim (slice_get_cases xs n).1 [
  | inl s ↦ (s.0, s.2)
  | inr p ↦ let past = p.0 in absurd (omega arith)
]

begun_at : (d : Declared) (n : ℕ) (k : Known) (r : Rule) → slice_get d.rules n ≡ Some r → begun d n k ≡ of_rule d (cplusplus_objects d.rules) r k
begun_at d n k r at = rw at refl

-- of what was known before only the top and the variant directories count
of_rule_same : (d : Declared) (objects : List (List ℕ)) (r : Rule) (k : Known) → k.top ≡ d.locals.top → k.variants ≡ d.locals.variants → of_rule d objects r k ≡ of_rule d objects r (of_no_rule d)
of_rule_same d objects r k top variants = λ i. of_rule d objects r (record {
  targets = k.targets;
  sources = k.sources;
  smartlink = k.smartlink;
  dir = k.dir;
  top = top i;
  variants = variants i;
})

pub known_same : (d : Declared) (n : ℕ) (l : Locals) → n < length d.rules → IsWithin d l → begun d n (known_of l) ≡ known_at d n
known_same d n l within is =
    let rule = there d.rules n within in
    begun_at d n (known_of l) rule.0 rule.1 ∙ of_rule_same d (cplusplus_objects d.rules) rule.0 (known_of l) is.top is.variants ∙ sym (begun_at d n (of_no_rule d) rule.0 rule.1)

then_ok : {X Y E : Type 0} (r : Result X E) (y z : Y) → (let made : Result Y E = Ok z in and_then r (λ x. Ok y) ≡ made) → y ≡ z
then_ok (Ok x) y z e = cc
then_ok (Err f) y z e = absurd cc

pub within_still : (d : Declared) (n : ℕ) (l k : Locals) → n < length d.rules → IsWithin d l → (let made : Result Known RuleReadFault = Ok (known_of k) in begun d n (known_of l) ≡ made) → IsWithin d k
within_still d n l k within is comes =
    let rule = there d.rules n within in
    let same = then_ok (may_stand d rule.0) _ (known_of k) (sym (begun_at d n (known_of l) rule.0 rule.1) ∙ comes) in
    record { top = sym (ap (λ (x : Known). x.top) same) ∙ is.top; variants = sym (ap (λ (x : Known). x.variants) same) ∙ is.variants }

pub within_none : (d : Declared) (l : Locals) → known_of l ≡ of_no_rule d → IsWithin d l
within_none d l same = record { top = ap (λ (x : Known). x.top) same; variants = ap (λ (x : Known). x.variants) same }

-- a fault of what a rule's lines know, and one of the libraries that it names
pub no_libraries : (f : Files) (d : Declared) (n : ℕ) (g : PathGraph) (l : Locals) (e : RuleReadFault) → known_at d n ≡ Ok (known_of l) → libraries_of (standing_in f) d n l ≡ Err e → Adds f d n g (Err e)
no_libraries f d n g l e knows lacks = known l knows (ap (λ (r : Result (List (Option (List ℕ))) RuleReadFault). and_then r (λ wanted. added d n l (found wanted) g)) lacks)

pub adds : (f : Files) (d : Declared) (n : ℕ) (g : PathGraph) (l : Locals) (wanted : List Wanted) (libraries : List (List ℕ)) (r : Result PathGraph RuleReadFault) → known_at d n ≡ Ok (known_of l)
    → libraries_of (standing_in f) d n l ≡ Ok (map (found_in (standing_in f)) wanted) → libraries ≡ found (map (found_in (standing_in f)) wanted) → added d n l libraries g ≡ r → Adds f d n g r
adds f d n g l wanted libraries r knows names found_them put =
    known l knows (ap (λ (r : Result (List (Option (List ℕ))) RuleReadFault). and_then r (λ wanted. added d n l (found wanted) g)) names
    ∙ ap (λ (libs : List (List ℕ)). added d n l libs g) (sym found_them) ∙ put)

pub put_none : (f : Files) (d : Declared) (g : RuleGraph) → g ≡ empty_graph d.locals.top → Puts f d 0 (graph_by g)
put_none f d g is = subst (λ (x : RuleGraph). Puts f d 0 (graph_by x)) (sym is) none

pub put_more : (f : Files) (d : Declared) (n : ℕ) (g next : PathGraph) → Puts f d n g → Adds f d n g (Ok next) → Puts f d (n + 1) next
put_more f d n g next puts one = let same : suc n ≡ n + 1 = omega arith in subst (λ k. Puts f d k next) same (more puts one)

pub put_all : (f : Files) (d : Declared) (n : ℕ) (g : PathGraph) → n ≡ length d.rules → Puts f d n g → Puts f d (length d.rules) g
put_all f d n g is puts = subst (λ k. Puts f d k g) is puts

pub put_stop : (f : Files) (d : Declared) (scripts : List (List ℕ)) (n : ℕ) (g : PathGraph) (s : Stop) → n < length d.rules → Puts f d n g → IsRuleStop f d scripts n g s → Graphs f d scripts (Err s)
put_stop f d scripts n g s within puts stop = refused within puts stop

-- the graph of all rules, or the stop of one or of what stands behind them
pub graph_ok : (f : Files) (d e : Declared) (scripts : List (List ℕ)) (rules : Result (Unit {0}) Stop) (g : RuleGraph) (r : Result RuleGraph Stop) → e ≡ d
    → IfOk r (λ x. (rules ≡ Ok tt) × (closed scripts e (graph_by g) ≡ Ok (graph_by x))) → OnOk rules (Puts f d (length d.rules) (graph_by g)) → IfOk r (λ x. Graphs f d scripts (Ok (graph_by x)))
graph_ok f d e scripts rules g (Ok x) same is puts =
    made (subst (λ (y : Result (Unit {0}) Stop). OnOk y (Puts f d (length d.rules) (graph_by g))) is.0 puts) (ap (λ (y : Declared). closed scripts y (graph_by g)) (sym same) ∙ is.1)
graph_ok f d e scripts rules g (Err s) same is puts = tt

pub graph_stop : (f : Files) (d e : Declared) (scripts : List (List ℕ)) (rules : Result (Unit {0}) Stop) (g : RuleGraph) (r : Result RuleGraph Stop) → e ≡ d
    → IfErr r (λ s. IsTold s → IsEndOfRules rules (closed scripts e (graph_by g)) s) → OnOk rules (Puts f d (length d.rules) (graph_by g)) → IfErr rules (λ s. IsTold s → Graphs f d scripts (Err s))
    → IfErr r (λ s. IsTold s → Graphs f d scripts (Err s))
graph_stop f d e scripts rules g (Ok x) same is puts stops = tt
graph_stop f d e scripts (Ok u) g (Err s) same is puts stops = λ t. made puts (ap (λ (y : Declared). closed scripts y (graph_by g)) (sym same) ∙ is t)
graph_stop f d e scripts (Err why) g (Err s) same is puts stops = λ t.
    subst (λ (x : Stop). Graphs f d scripts (Err x)) (sym (is t)) (stops (subst IsTold (is t) t))
