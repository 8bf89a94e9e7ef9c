-- The rule of a number.
use Rattle.std.proofs.Common.{◌≡◌, ◌∙◌, ℕ, List, ap, sym, refl, map, Some, None, Option}
use Rattle.std.specs.Prelude.{slice_get, Result, Ok}
use Rattle.std.specs.Option.{option_map}
use Rattle.std.proofs.lemmas.Option.{slice_get-map}
use Rattle.env_subst.specs.declared.locals.Locals.{Locals}
use Rattle.scons_decls.specs.declared.rule.Declaration.{Declaration}
use Rattle.scons_decls.specs.State.{Declared, Rule, rule_of}
use Rattle.scons_rules.specs.declared.fault.RuleReadFault.{RuleReadFault}
use Rattle.scons_rules.specs.Expanding.{Expanding}
use Rattle.scons_rules.specs.Making.{put_made}
use Rattle.scons_rules.specs.PathGraphs.{PathGraph}
use Rattle.scons_rules.specs.Ruling.{added, spoken}
use Rattle.scons_rules.specs.Sayings.{said_of}

pub rule_there : (rules : List Declaration) (n : ℕ) (r : Declaration) → slice_get rules n ≡ Some r → slice_get (map rule_of rules) n ≡ Some (rule_of r)
rule_there rules n r e = slice_get-map rule_of rules n ∙ ap (option_map rule_of) e

pub no_rule : (rules : List Declaration) (n : ℕ) → slice_get rules n ≡ None → slice_get (map rule_of rules) n ≡ None
no_rule rules n e = slice_get-map rule_of rules n ∙ ap (option_map rule_of) e

module _ (d : Declared) (n : ℕ) (r : Rule) (there : slice_get d.rules n ≡ Some r) where
  pub added_at : (l : Locals) (libs : List (List ℕ)) (g : PathGraph)
      → added d n l libs g ≡ put_made (record { declared = d; rule = r; locals = l }) (said_of (spoken d) r.targets) libs g
  added_at l libs g = rw there refl

pub nothing_added : (d : Declared) (n : ℕ) (l : Locals) (libs : List (List ℕ)) (g : PathGraph) → slice_get d.rules n ≡ None → added d n l libs g ≡ Ok g
nothing_added d n l libs g none = rw none refl

-- what was put into the graph is the rule of the number
pub put_is_added : (x : Expanding) (d : Declared) (n : ℕ) (l : Locals) (libs : List (List ℕ)) (g : PathGraph) (r : Result PathGraph RuleReadFault)
    → slice_get d.rules n ≡ Some x.rule → x.declared ≡ d → x.locals ≡ l → put_made x (said_of (spoken d) x.rule.targets) libs g ≡ r → added d n l libs g ≡ r
put_is_added x d n l libs g r there of with_locals put =
    added_at d n x.rule there l libs g
    ∙ ap (λ (e : Declared). put_made (record { declared = e; rule = x.rule; locals = l }) (said_of (spoken d) x.rule.targets) libs g) (sym of)
    ∙ ap (λ (m : Locals). put_made (record { declared = x.declared; rule = x.rule; locals = m }) (said_of (spoken d) x.rule.targets) libs g) (sym with_locals)
    ∙ put
