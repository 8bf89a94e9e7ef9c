-- Rules that are put on the steps of a walk.
use Rattle.std.proofs.Common.{arith, ◌≡◌, ◌≤◌, ◌∙◌, ◌⊎◌, inl, inr, ℕ, zero, suc, List, [], ◌∷◌, ◌++◌, Option, Some, None, ap, sym, refl, length, drop, length-append}
use Rattle.std.specs.Prelude.{slice_get, option_and_then, option_to_list}
use Rattle.std.specs.List.{cons_option}
use Rattle.std.proofs.lemmas.List.Elements.{filter_map-append}
use Rattle.std.proofs.lemmas.Option.{same_Some, none-some}
use Rattle.scons_base.specs.declared.ids.NodeId.{NodeId}
use Rattle.scons_base.specs.declared.ids.RuleId.{RuleId}
use Rattle.task_plan.specs.Settled.{origin_of}
use Rattle.task_plan.specs.Cycles.{IsMadeBy}
use Rattle.task_plan.specs.Orders.{maker_of, makers_of}
use Rattle.task_plan.specs.Walks.{IsToCome, with_entered}
use Rattle.task_plan.specs.declared.files.Origin.{Origin}
use Rattle.task_plan.specs.declared.files.Origin.TheVariants.{Unmet, Source, Made}
use Rattle.task_plan.specs.declared.walk.Step.{Step}
use Rattle.task_plan.specs.declared.walk.Step.TheVariants.{Enter, Leave}
use Rattle.task_plan.proofs.ListLemmas.{get-front}

drop_here : {X : Type 0} (xs : List X) (place : ℕ) → option_to_list (slice_get xs place) ++ drop (suc place) xs ≡ drop place xs
drop_here [] zero = refl
drop_here [] (suc place) = refl
drop_here (x ∷ xs) zero = refl
drop_here (x ∷ xs) (suc place) = drop_here xs place

entered_append : (steps : List Step) (front rest : List RuleId) → with_entered (with_entered steps rest) front ≡ with_entered steps (front ++ rest)
entered_append steps [] rest = refl
entered_append steps (rule ∷ front) rest = ap (λ s. s ++ Enter rule ∷ []) (entered_append steps front rest)

-- one rule more
pub entered_next : (rules : List RuleId) (place : ℕ) (rule : RuleId) (steps new : List Step) → slice_get rules place ≡ Some rule → steps ≡ with_entered [] (drop (suc place) rules)
    → new ≡ steps ++ Enter rule ∷ [] → new ≡ with_entered [] (drop place rules)
entered_next rules place rule steps new at e f =
    f ∙ ap (λ s. s ++ Enter rule ∷ []) e
    ∙ ap (with_entered []) (ap (λ o. option_to_list o ++ drop (suc place) rules) (sym at) ∙ drop_here rules place)

module _ (o : List Origin) where
  cons_listed : (rule : Option RuleId) → cons_option rule [] ≡ option_to_list rule
  cons_listed None = refl
  cons_listed (Some rule) = refl

  maker_listed : (file : Option NodeId) → makers_of o (option_to_list file) ≡ option_to_list (option_and_then (λ f. maker_of (origin_of o f.0)) file)
  maker_listed None = refl
  maker_listed (Some file) = cons_listed (maker_of (origin_of o file.0))

  -- the rule of one file, if it has one
  pub entered_one : (file : Option NodeId) (rule : Option RuleId) (steps : List Step) → rule ≡ option_and_then (λ f. maker_of (origin_of o f.0)) file
      → with_entered steps (option_to_list rule) ≡ with_entered steps (makers_of o (option_to_list file))
  entered_one file rule steps e = ap (with_entered steps) (ap option_to_list e ∙ sym (maker_listed file))

  -- the rules of one file more
  pub entered_more : (files : List NodeId) (place : ℕ) (old steps new : List Step) → steps ≡ with_entered old (makers_of o (drop (suc place) files))
      → new ≡ with_entered steps (makers_of o (option_to_list (slice_get files place))) → new ≡ with_entered old (makers_of o (drop place files))
  entered_more files place old steps new e f =
      let this = option_to_list (slice_get files place) in
      let rest = drop (suc place) files in
      f ∙ ap (λ s. with_entered s (makers_of o this)) e ∙ entered_append old (makers_of o this) (makers_of o rest)
      ∙ ap (with_entered old) (sym (filter_map-append (λ (f : NodeId). maker_of (origin_of o f.0)) this rest) ∙ ap (makers_of o) (drop_here files place))

  made_later : (file : NodeId) (files : List NodeId) (rule : RuleId) → IsMadeBy o files rule → IsMadeBy o (file ∷ files) rule
  made_later file files rule m = record { place = suc m.place; file = m.file; at = m.at; made = m.made }

  made_by : (file : NodeId) (files : List NodeId) (origin : Origin) → origin_of o file.0 ≡ origin → ((n : ℕ) (rule : RuleId) → slice_get (makers_of o files) n ≡ Some rule → IsMadeBy o files rule)
      → (n : ℕ) (rule : RuleId) → slice_get (cons_option (maker_of origin) (makers_of o files)) n ≡ Some rule → IsMadeBy o (file ∷ files) rule
  made_by file files Unmet is f n rule e = made_later file files rule (f n rule e)
  made_by file files Source is f n rule e = made_later file files rule (f n rule e)
  made_by file files (Made r) is f zero rule e = record { place = 0; file = file; at = refl; made = is ∙ ap (λ x. Made x) (same_Some r rule e) }
  made_by file files (Made r) is f (suc n) rule e = made_later file files rule (f n rule e)

  -- each of the rules that make these files makes one of them
  pub maker_made : (files : List NodeId) (n : ℕ) (rule : RuleId) → slice_get (makers_of o files) n ≡ Some rule → IsMadeBy o files rule
  maker_made [] n rule e = absurd (none-some rule e)
  maker_made (file ∷ files) n rule e = made_by file files (origin_of o file.0) refl (maker_made files) n rule e

  maker_later : (other : Option RuleId) (rules : List RuleId) (rule : RuleId) → (n : ℕ) × (slice_get rules n ≡ Some rule) → (n : ℕ) × (slice_get (cons_option other rules) n ≡ Some rule)
  maker_later None rules rule h = h
  maker_later (Some other) rules rule h = (suc h.0, h.1)

  -- and the rule that makes one of them is among those
  pub made_maker : (files : List NodeId) (place : ℕ) (file : NodeId) (rule : RuleId) → slice_get files place ≡ Some file → origin_of o file.0 ≡ Made rule
      → (n : ℕ) × (slice_get (makers_of o files) n ≡ Some rule)
  made_maker [] place file rule at made = absurd (none-some file at)
  made_maker (f ∷ files) zero file rule at made =
      (0, ap (λ x. slice_get (cons_option (maker_of x) (makers_of o files)) 0) (ap (λ (x : NodeId). origin_of o x.0) (same_Some f file at) ∙ made))
  made_maker (f ∷ files) (suc place) file rule at made = maker_later (maker_of (origin_of o f.0)) (makers_of o files) rule (made_maker files place file rule at made)

entered_longer : (steps : List Step) (rules : List RuleId) → length steps ≤ length (with_entered steps rules)
entered_longer steps [] = omega arith
entered_longer steps (rule ∷ rules) =
    let l = entered_longer steps rules in
    let n = length-append (with_entered steps rules) (Enter rule ∷ []) in
    omega arith

step_last : {X : Type 0} (xs : List X) (x : X) → slice_get (xs ++ x ∷ []) (length xs) ≡ Some x
step_last [] x = refl
step_last (y ∷ xs) x = step_last xs x

front_either : (steps : List Step) (other : Step) (place : ℕ) (rule : RuleId) → (slice_get steps place ≡ Some (Enter rule)) ⊎ (slice_get steps place ≡ Some (Leave rule))
    → (slice_get (steps ++ other ∷ []) place ≡ Some (Enter rule)) ⊎ (slice_get (steps ++ other ∷ []) place ≡ Some (Leave rule))
front_either steps other place rule (inl e) = inl (get-front steps (other ∷ []) place (Enter rule) e)
front_either steps other place rule (inr e) = inr (get-front steps (other ∷ []) place (Leave rule) e)

-- each of the rules that were put on the steps is to come
pub entered_comes : (steps : List Step) (rules : List RuleId) (n : ℕ) (rule : RuleId) → slice_get rules n ≡ Some rule → IsToCome (with_entered steps rules) (length steps) rule
entered_comes steps [] n rule e = absurd (none-some rule e)
entered_comes steps (r ∷ rules) zero rule e = record {
  place = length (with_entered steps rules);
  behind = entered_longer steps rules;
  at = inl (step_last (with_entered steps rules) (Enter r) ∙ ap (λ x. Some (Enter x)) (same_Some r rule e));
}
entered_comes steps (r ∷ rules) (suc n) rule e =
    let t = entered_comes steps rules n rule e in
    record { place = t.place; behind = t.behind; at = front_either (with_entered steps rules) (Enter r) t.place rule t.at }
