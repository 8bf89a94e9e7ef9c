-- The order in which the needed rules are built.
use Rattle.std.specs.Prelude.{◌≡◌, ◌<◌, ◌≤◌, ◌⊎◌, ◌++◌, ◌∷◌, [], ℕ, Bool, true, false, List, Option, Some, None, length, nat_eq, slice_get}
use Rattle.std.specs.List.{filter_map, list_any}
use Rattle.scons_base.specs.declared.ids.NodeId.{NodeId}
use Rattle.scons_base.specs.declared.ids.RuleId.{RuleId}
use Rattle.task_plan.specs.Settled.{Kept, origin_of}
use Rattle.task_plan.specs.declared.files.Origin.{Origin}
use Rattle.task_plan.specs.declared.files.Origin.TheVariants.{Unmet, Source, Made}

-- the rule that makes a file, by where the file comes from
abbrev pub maker_of : Origin → Option RuleId
maker_of Unmet = None
maker_of Source = None
maker_of (Made rule) = Some rule

-- the rules that make these files, in the order of the files; a file that no rule makes gives none
abbrev pub makers_of : List Origin → List NodeId → List RuleId
makers_of origins files = filter_map (λ file. maker_of (origin_of origins file.0)) files

abbrev pub needed_in : List Origin → Option Kept → List RuleId
needed_in origins None = []
needed_in origins (Some kept) = makers_of origins (kept.required ++ kept.deps)

-- what a rule needs, in order: the rules that make what it requires, and then those that make its dependencies
abbrev pub needed_of : List Kept → List Origin → ℕ → List RuleId
needed_of rules origins rule = needed_in origins (slice_get rules rule)

-- whether a rule stands among these
abbrev pub is_among : ℕ → List RuleId → Bool
is_among rule rules = list_any (λ r. nat_eq r.0 rule) rules

-- Depth first over these rules, from those that were met before to those that were met after: the rules that are met for the first time,
-- each behind what it needs. One that is met again is passed over, and so is one of which nothing is known: rules are known below a count.
pub data Visits (count : ℕ) (needed : ℕ → List RuleId) : List RuleId → List RuleId → List RuleId → List RuleId → Type 0 where
  nothing_left : {met : List RuleId} → Visits count needed met [] met []
  met_again : {met rules after order : List RuleId} {rule : RuleId} → is_among rule.0 met ≡ true → Visits count needed met rules after order
      → Visits count needed met (rule ∷ rules) after order
  not_known : {met rules after order : List RuleId} {rule : RuleId} → count ≤ rule.0 → Visits count needed met rules after order
      → Visits count needed met (rule ∷ rules) after order
  met_first : {met between rules after below behind : List RuleId} {rule : RuleId} → rule.0 < count → is_among rule.0 met ≡ false
      → Visits count needed (rule ∷ met) (needed rule.0) between below → Visits count needed between rules after behind
      → Visits count needed met (rule ∷ rules) after (below ++ rule ∷ behind)

-- The build order: depth first from the rules of the requested nodes, where none was met before.
pub record IsOrder (rules : List Kept) (origins : List Origin) (roots order : List RuleId) : Type 0 where
  pub met : List RuleId
  pub visits : Visits (length rules) (needed_of rules origins) [] roots met order

-- A rule is reached from the roots by needs: it is one of them, or a rule that is reached needs it.
pub data IsReached (needed : ℕ → List RuleId) (roots : List RuleId) : ℕ → Type 0 where
  is_root : {rule : ℕ} → is_among rule roots ≡ true → IsReached needed roots rule
  is_needed : {rule : ℕ} (other : ℕ) → IsReached needed roots other → is_among rule (needed other) ≡ true → IsReached needed roots rule

-- the rules of an order are those that are reached and of which something is known
pub record HasReached (rules : List Kept) (origins : List Origin) (roots order : List RuleId) : Type 0 where
  pub all : (rule : ℕ) → IsReached (needed_of rules origins) roots rule → rule < length rules → is_among rule order ≡ true
  pub only : (rule : ℕ) → is_among rule order ≡ true → IsReached (needed_of rules origins) roots rule
  pub known : (rule : ℕ) → is_among rule order ≡ true → rule < length rules

-- a rule needs another one, directly or through others
abbrev pub NeedsThrough : (ℕ → List RuleId) → ℕ → ℕ → Type 0
NeedsThrough needed rule other = IsReached needed (needed rule) other

-- Behind the rules that stand before them, rules in an order in which each stands once, and behind what it needs: a rule that it needs, and of
-- which something is known, stands before it, or needs it in turn.
pub data AreBehind (count : ℕ) (needed : ℕ → List RuleId) : List RuleId → List RuleId → Type 0 where
  nothing : {before : List RuleId} → AreBehind count needed before []
  more : {before order : List RuleId} (rule : RuleId) → is_among rule.0 before ≡ false
      → ((other : ℕ) → is_among other (needed rule.0) ≡ true → other < count → (is_among other before ≡ true) ⊎ NeedsThrough needed other rule.0)
      → AreBehind count needed (rule ∷ before) order → AreBehind count needed before (rule ∷ order)

-- an order has each rule once, and behind what it needs
abbrev pub HasNeedsFirst : List Kept → List Origin → List RuleId → Type 0
HasNeedsFirst rules origins order = AreBehind (length rules) (needed_of rules origins) [] order
