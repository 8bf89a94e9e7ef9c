-- The numbers of rules at some paths.
use Rattle.std.proofs.Common.{◌≡◌, ◌<◌, ◌+◌, ℕ, List, [], ◌∷◌, ◌++◌, Option, Some, None, map, length, drop, get_or, refl, append_assoc, add-one, drop-cons}
use Rattle.std.specs.Option.{option_map}
use Rattle.build_model.specs.Rules.{Path, Rule}
use Rattle.build_model.specs.Needs.{RuleOf, with_rule, rules_at}
use Rattle.model_trials.specs.Plain.{number}

pub one_number : (rule : Option Rule) (n : ℕ) → Some n ≡ option_map number rule → map number (with_rule rule []) ≡ n ∷ []
one_number None n e = cc
one_number (Some r) n e = cc

pub no_number : (rule : Option Rule) → None ≡ option_map number rule → map number (with_rule rule []) ≡ []
no_number None e = refl
no_number (Some r) e = cc

with_rest : (rule : Option Rule) (rules : List Rule) → map number (with_rule rule rules) ≡ map number (with_rule rule []) ++ map number rules
with_rest None rules = refl
with_rest (Some r) rules = refl

-- the rule of one path more
pub one_more : (rule_of : RuleOf) (paths : List Path) (i : ℕ) (p : Path) (found more all : List ℕ) → i < length paths →
    p ≡ get_or paths i p → more ≡ found ++ map number (with_rule (rule_of p) []) →
    found ++ map number (rules_at rule_of (drop i paths)) ≡ all → more ++ map number (rules_at rule_of (drop (i + 1) paths)) ≡ all
one_more rule_of paths i p found more all below is step so_far =
    let first : drop i paths ≡ p ∷ drop (i + 1) paths = rw (add-one, drop-cons paths i p, ← is) refl in
    let before : found ++ map number (with_rule (rule_of p) (rules_at rule_of (drop (i + 1) paths))) ≡ all = rw first at so_far in
    rw (step, append_assoc, ← with_rest (rule_of p) (rules_at rule_of (drop (i + 1) paths))) before
