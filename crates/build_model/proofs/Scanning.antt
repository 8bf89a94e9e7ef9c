-- Whether a path waits for nothing can be tested; so after any steps there is what is found when all is scanned that can be.
use Rattle.std.proofs.Common.{◌≡◌, Bool, true, false, if◌then◌else◌, List, [], ◌∷◌, Option, Some, None, refl, sym, ap, ◌∙◌, inl, inr, ◌⊎◌}
use Rattle.build_model.specs.Rules.{Path, Content, Rule, Setting, Among, here, there}
use Rattle.build_model.specs.Reach.{has}
use Rattle.build_model.specs.Contents.{in_tree, found_in, IsLawful}
use Rattle.build_model.specs.Steps.{Step, Build, settled, IsReady, is_source, is_made, IsRun}
use Rattle.build_model.specs.Resting.{IsFoundWhole, is_target, is_ready, whole_found}
use Rattle.build_model.proofs.Lists.{true_false, has_among, among_has}
use Rattle.build_model.proofs.Ready.{needed_place}
use Rattle.build_model.proofs.Runs.{settled_prepared}

-- one of these rules makes the path
record Makes (rules : List Rule) (p : Path) : Type 0 where
  rule : Rule
  stands : Among rule rules
  target : Among p rule.targets

makes_later : {x : Rule} {rules : List Rule} {p : Path} → Makes rules p → Makes (x ∷ rules) p
makes_later h = record { rule = h.rule; stands = there h.stands; target = h.target }

makes_step : {rules : List Rule} {p : Path} (x : Rule) (c : Bool) → has p x.targets ≡ c → (if c then true else is_target rules p) ≡ true →
    (is_target rules p ≡ true → Makes rules p) → Makes (x ∷ rules) p
makes_step {p = p} x true e is next = record { rule = x; stands = here; target = has_among p x.targets e }
makes_step x false e is next = makes_later (next is)

is_target_makes : {p : Path} (rules : List Rule) → is_target rules p ≡ true → Makes rules p
is_target_makes [] e = true_false (sym e)
is_target_makes {p} (x ∷ rules) e = makes_step x (has p x.targets) refl e (is_target_makes rules)

if_first : {c : Bool} (d : Bool) → c ≡ true → (if c then true else d) ≡ true
if_first d e = ap (λ x. if x then true else d) e

if_later : (c : Bool) {d : Bool} → d ≡ true → (if c then true else d) ≡ true
if_later true e = refl
if_later false e = e

pub makes_is_target : {p : Path} {r : Rule} {rules : List Rule} → Among r rules → Among p r.targets → is_target rules p ≡ true
makes_is_target (here {xs = xs}) m = if_first (is_target xs _) (among_has m)
makes_is_target {p = p} (there {y = y} n) m = if_later (has p y.targets) (makes_is_target n m)

module _ (s : Setting) (b : Build) (steps : List Step) (lawful : IsLawful s) (run : IsRun s b steps) where
  -- a settled rule is that of each of its targets
  pub settled_rule : {r : Rule} {p : Path} → Among r (settled steps) → Among p r.targets → s.rule_of p ≡ Some r
  settled_rule {r} {p} m n =
      let place = needed_place (settled_prepared s b steps run m).wanted.is_needed in lawful.alone place.0 r place.1 p n

  tested_ready : {p : Path} (o : Option Rule) (c : Content) → s.rule_of p ≡ o → b.after p ≡ c → is_ready o c (settled steps) p ≡ true →
      IsReady s b.after (settled steps) p
  tested_ready None None none file e = true_false (sym e)
  tested_ready None (Some bytes) none file e = is_source bytes none file
  tested_ready (Some r) c is file e =
      let h = is_target_makes (settled steps) e in is_made h.rule (settled_rule h.stands h.target) h.stands

  ready_tested : {p : Path} → IsReady s b.after (settled steps) p → is_ready (s.rule_of p) (b.after p) (settled steps) p ≡ true
  ready_tested {p} (is_source bytes none file) =
      ap (λ o. is_ready o (b.after p) (settled steps) p) none ∙ ap (λ c. is_ready None c (settled steps) p) file
  ready_tested {p} (is_made r e m) =
      ap (λ o. is_ready o (b.after p) (settled steps) p) e ∙ makes_is_target m (lawful.makes p r e)

  found_by : {p : Path} (l : List Path) (c : Bool) → is_ready (s.rule_of p) (b.after p) (settled steps) p ≡ c →
      (IsReady s b.after (settled steps) p × ((if c then l else []) ≡ l))
      ⊎ ((IsReady s b.after (settled steps) p → ⊥) × ((if c then l else []) ≡ []))
  found_by {p} l true e = inl (tested_ready (s.rule_of p) (b.after p) refl refl e, refl)
  found_by l false e = inr (λ h. true_false (sym (ready_tested h) ∙ e), refl)

  pub all_is_found : IsFoundWhole s b steps (whole_found s b steps)
  all_is_found r p = found_by (found_in s (in_tree b.after) r p) (is_ready (s.rule_of p) (b.after p) (settled steps) p) refl
