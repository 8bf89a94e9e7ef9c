-- A walk down through lists, by a stack of what is left of those that stand in each other.
use Rattle.std.specs.Prelude.{◌≡◌, ◌-◌, nat_eq, ℕ, List, [], ◌∷◌, ◌++◌, length, map, if◌then◌else◌}
use Rattle.std.specs.List.{list_any}
use Rattle.indexmap.specs.IndexSet.{insert_key}
use Rattle.scons_rules.specs.declared.orders.Step.{Step}
use Rattle.scons_rules.specs.declared.orders.Walk.{Walk}
use Rattle.scons_rules.specs.Orders.{Lists, Gone, over, list_at}

-- what is left of lists that stand in each other, the innermost last and gone over first
unfoldable pub unwound : Lists → ℕ → List (List Step) → Gone → Gone
unwound lists more [] g = g
unwound lists more (steps ∷ inner) g = over (list_at lists more) steps (unwound lists (more - 1) inner g)

abbrev pub left_of : Walk → List (List Step)
left_of walk = map (λ s. s.now) walk.left.items

abbrev pub gone_of : Walk → Gone
gone_of walk = record { met = walk.met.keys; found = map (λ m. m.now) walk.found.items }

-- a list is begun: what is left, and what was found, before and behind that
abbrev pub Begins : List (List Step) → Gone → ℕ → List Step → List (List Step) → Gone → Type 0
Begins left g place steps more new =
    (new ≡ record { met = insert_key nat_eq g.met place; found = g.found })
    × (more ≡ (if list_any (nat_eq place) g.met then left else left ++ steps ∷ []))

-- a step is taken, behind which these are left last
pub record Takes (lists : Lists) (step : Step) (left : List (List Step)) (g : Gone) (more : List (List Step)) (new : Gone) : Type 0 where
  pub takes : (front : List (List Step)) (rest : List Step) → left ≡ front ++ rest ∷ []
      → unwound lists (length lists) more new ≡ unwound lists (length lists) (front ++ (step ∷ rest) ∷ []) g
