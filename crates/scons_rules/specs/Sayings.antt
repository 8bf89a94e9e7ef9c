-- What was said of targets: calls of Depends, Requires, Ignore and AlwaysBuild, in their order.
use Rattle.std.specs.Prelude.{◌≡◌, ℕ, nat_lt, true, false, List, [], ◌∷◌, ◌++◌, Option, length, map, fold, slice_get, unwrap_or}
use Rattle.std.specs.List.{list_all, filter, filter_map, flat_map}
use Rattle.std.specs.Option.{option_map}
use Rattle.std.specs.Str.{bytes_eq}
use Rattle.indexmap.specs.IndexMap.{get}
use Rattle.scons_decls.specs.declared.said.Said.{Said}
use Rattle.scons_decls.specs.declared.said.Saying.{Saying}
use Rattle.scons_decls.specs.declared.said.Saying.TheVariants.{Depends, Requires, Ignore, Always}
use Rattle.scons_rules.specs.declared.said.OfRule.{OfRule}
use Rattle.scons_rules.specs.declared.said.SaidOf.{SaidOf}
use Rattle.scons_rules.specs.declared.said.Sentence.{Sentence}
use Rattle.scons_rules.specs.Aliased.{paths_in}
use Rattle.scons_rules.specs.Orders.{Lists}

-- each call: the targets of which it says something, and what it says
abbrev pub Spoken : Type 0
Spoken = List (List (List ℕ) × Sentence)

-- the calls with the files that they name, where these are the aliases
abbrev pub spoken_in : List (List ℕ) → Lists → List Said → Spoken
spoken_in names lists said = map (λ s. (s.targets, record { saying = s.saying; nodes = flat_map (paths_in names lists) s.nodes })) said

abbrev pub nothing_said : OfRule
nothing_said = record { depends = []; required = []; ignored = []; always = false }

abbrev pub with_nodes : Saying → List (List ℕ) → OfRule → OfRule
with_nodes Depends nodes r = record { depends = r.depends ++ nodes; required = r.required; ignored = r.ignored; always = r.always }
with_nodes Requires nodes r = record { depends = r.depends; required = r.required ++ nodes; ignored = r.ignored; always = r.always }
with_nodes Ignore nodes r = record { depends = r.depends; required = r.required; ignored = r.ignored ++ nodes; always = r.always }
with_nodes Always nodes r = record { depends = r.depends; required = r.required; ignored = r.ignored; always = true }

-- what a call adds to what was said of a rule
abbrev pub with_sentence : OfRule → Sentence → OfRule
with_sentence r s = with_nodes s.saying s.nodes r

-- what was said of a target, by each call as often as it names the target
abbrev pub sentences_of : Spoken → List ℕ → List Sentence
sentences_of spoken target = flat_map (λ s. map (λ t. s.1) (filter (bytes_eq target) s.0)) spoken

-- all that was said of the targets of a rule, of each in turn
abbrev pub said_of : Spoken → List (List ℕ) → OfRule
said_of spoken targets = fold with_sentence nothing_said (flat_map (sentences_of spoken) targets)

-- the numbers of the calls that name a target, as the code keeps them
abbrev pub numbers_at : SaidOf → List ℕ → List ℕ
numbers_at s target = unwrap_or (option_map (λ v. v.items) (get bytes_eq s.by_target target)) []

abbrev pub sentences_at : SaidOf → List ℕ → List Sentence
sentences_at s target = filter_map (slice_get s.sentences.items) (numbers_at s target)

-- what is kept tells these calls
pub record Tells (spoken : Spoken) (s : SaidOf) : Type 0 where
  pub told : (target : List ℕ) → sentences_at s target ≡ sentences_of spoken target
  pub there : (target : List ℕ) → list_all (λ n. nat_lt n (length s.sentences.items)) (numbers_at s target) ≡ true
