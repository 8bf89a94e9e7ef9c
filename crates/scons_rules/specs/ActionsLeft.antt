-- How the actions of a rule are found: what is left to look at, and what was found.
use Rattle.std.specs.Prelude.{◌≡◌, ℕ, ◌+◌, ◌-◌, ◌&&◌, nat_lt, nat_le, length, Bool, List, [], ◌∷◌, ◌++◌, Option, Some, None, Result, Ok, Err, map, reverse, if◌then◌else◌}
use Rattle.std.specs.Borrow.{Bor}
use Rattle.scons_base.specs.declared.limits.TheConstants.{LIST_LIMIT, REFERENCE_LIMIT}
use Rattle.scons_rules.specs.declared.actions.Actions.{Actions}
use Rattle.scons_rules.specs.declared.actions.NamedList.{NamedList}
use Rattle.scons_rules.specs.declared.actions.NamedList.TheVariants.{Words, Items}
use Rattle.scons_rules.specs.declared.fault.RuleReadFault.{RuleReadFault}
use Rattle.scons_rules.specs.Expanding.{Expanding}
use Rattle.scons_rules.specs.Steps.{each}
use Rattle.scons_rules.specs.Actions as spec

abbrev pub texts_in : List (Bor (List ℕ)) → spec.Texts
texts_in texts = map (λ t. t.now) texts

abbrev pub list_items : NamedList → spec.Items
list_items (Words words) = Ok words.now
list_items (Items name items) = each (spec.item_text name.now) items.now

abbrev pub left_of : Actions → spec.Texts
left_of a = reverse (texts_in a.left.items)

-- what was found, and what comes of more
abbrev pub behind : spec.Texts → Result spec.Texts RuleReadFault → Result spec.Texts RuleReadFault
behind found (Ok more) = Ok (found ++ more)
behind found (Err e) = Err e

-- what comes in the end where these texts are left
abbrev pub comes : Expanding → Actions → spec.Texts → Result spec.Texts RuleReadFault
comes x a left = behind (texts_in a.found.items) (spec.actions_in x (REFERENCE_LIMIT - a.references) left)

abbrev pub may_follow : Actions → Bool
may_follow a = nat_lt a.references REFERENCE_LIMIT && nat_le (length a.left.items) LIST_LIMIT

abbrev or_items : spec.Items → Option RuleReadFault
or_items (Ok items) = None
or_items (Err e) = Some e

-- why a list isn't followed
abbrev pub following : spec.Items → Actions → Option RuleReadFault
following items a = if may_follow a then or_items items else Some spec.too_many_references

-- a list is followed: its items come in front of what is left
pub record Follows (items : spec.Items) (old new : Actions) : Type 0 where
  pub may : following items old ≡ None
  pub more : new.references ≡ old.references + 1
  pub found : texts_in new.found.items ≡ texts_in old.found.items
  pub left : (inner : spec.Texts) → items ≡ Ok inner → left_of new ≡ inner ++ left_of old
