-- Lists in lists, gone over depth first: the members of a list that stands in another one stand in its place, and a list that
-- was begun before is passed over.
use Rattle.std.specs.Prelude.{◌+◌, nat_eq, ℕ, zero, suc, List, [], ◌∷◌, ◌++◌, Option, Some, None, length, slice_get, if◌then◌else◌}
use Rattle.std.specs.List.{list_any}
use Rattle.scons_decls.specs.declared.given.Given.{Given}
use Rattle.scons_rules.specs.declared.orders.Step.{Step}
use Rattle.scons_rules.specs.declared.orders.Step.TheVariants.{Member, Inner}

abbrev pub Lists : Type 0
Lists = List (List Step)

-- the lists that were begun, by their places, and the members that were found
pub record Gone : Type 0 where
  pub met : List ℕ
  pub found : List Given

abbrev pub nothing_gone : Gone
nothing_gone = record { met = []; found = [] }

abbrev pub with_member : Gone → Given → Gone
with_member g member = record { met = g.met; found = g.found ++ member ∷ [] }

-- all steps of a list, where `into` goes into the list at a place
abbrev pub over : (ℕ → Gone → Gone) → List Step → Gone → Gone
over into [] g = g
over into (Member member ∷ steps) g = over into steps (with_member g member)
over into (Inner place ∷ steps) g = over into steps (into place g)

abbrev pub entered : (List Step → Gone → Gone) → Option (List Step) → ℕ → Gone → Gone
entered go None place g = g
entered go (Some steps) place g = if list_any (nat_eq place) g.met then g else go steps (record { met = g.met ++ place ∷ []; found = g.found })

-- the list at a place, in which so many lists may stand in each other
unfoldable pub list_at : Lists → ℕ → ℕ → Gone → Gone
list_at lists zero place g = g
list_at lists (suc more) place g = entered (over (list_at lists more)) (slice_get lists place) place g

-- the members of the list at a place: there are no more lists that stand in each other than there are
unfoldable pub flattened : Lists → ℕ → List Given
flattened lists place = (list_at lists (length lists + 1) place nothing_gone).found
