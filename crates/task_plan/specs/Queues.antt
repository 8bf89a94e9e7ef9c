-- Rules in an order, some of which are open: the first open one is to be decided next.
use Rattle.std.specs.Prelude.{◌≡◌, ◌<◌, ◌≤◌, ◌^◌, ◌-◌, ℕ, Bool, true, false, List, Some, length, get_or, slice_get, nat_lt, nat_eq}
use Rattle.std.specs.List.{list_any}
use Rattle.scons_base.specs.declared.ids.RuleId.{RuleId}

-- the order, the place of each rule in it, and whether the rule at each place is open
pub record Queued : Type 0 where
  pub order : List RuleId
  pub numbers : List ℕ
  pub opens : List Bool

-- the place of a rule that has none
abbrev pub unnumbered : ℕ
unnumbered = 2 ^ 64 - 1

-- the place of a rule in the order
abbrev pub number_of : Queued → ℕ → ℕ
number_of q rule = get_or q.numbers rule unnumbered

-- whether a rule stands in the order
abbrev pub is_placed : Queued → ℕ → Bool
is_placed q rule = nat_lt (number_of q rule) (length q.order)

abbrev pub is_open : Queued → ℕ → Bool
is_open q rule = get_or q.opens (number_of q rule) false

-- a rule that has a place stands there
pub record AreNumbers (order : List RuleId) (numbers : List ℕ) : Type 0 where
  pub stands : (rule n : ℕ) → get_or numbers rule unnumbered ≡ n → n < length order → slice_get order n ≡ Some (record { 0 = rule })

-- each of the rules below a count that stands among these has a place before one
pub record ArePlaced (count : ℕ) (rules : List RuleId) (numbers : List ℕ) (place : ℕ) : Type 0 where
  pub size : length numbers ≡ count
  pub each : (rule : ℕ) → rule < count → list_any (λ q. nat_eq q.0 rule) rules ≡ true → get_or numbers rule unnumbered < place

-- beside that, what is open is a rule's place
pub record IsQueue (order : List RuleId) (numbers : List ℕ) (opens : List Bool) : Type 0 where
  pub numbered : AreNumbers order numbers
  pub opened : (n : ℕ) → get_or opens n false ≡ true → (rule : RuleId) × (slice_get order n ≡ Some rule) × (get_or numbers rule.0 unnumbered ≡ n)
  pub room : length order ≤ length opens

-- an open rule before which none is open
pub record IsFirst (q : Queued) (rule : ℕ) : Type 0 where
  pub opened : is_open q rule ≡ true
  pub first : (other : ℕ) → is_open q other ≡ true → number_of q rule ≤ number_of q other
