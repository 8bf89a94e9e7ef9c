-- What the graph gets once all rules are in it.
use Rattle.std.proofs.Common.{◌≡◌, ◌<◌, ◌∙◌, ℕ, ◌+◌, List, [], ◌++◌, ap, sym, refl, length, map, drop, get_or, Some}
use Rattle.std.specs.Prelude.{slice_get, Result, Ok, Err}
use Rattle.std.specs.Option.{option_map}
use Rattle.std.proofs.lemmas.Option.{slice_get-map, slice_get-get_or}
use Rattle.rule_graph.specs.Graphs.{RuleGraph}
use Rattle.scons_decls.specs.Aliased.{Aliases, no_parts}
use Rattle.scons_decls.specs.declared.aliases.AliasParts.{AliasParts}
use Rattle.scons_decls.specs.State.{Declared}
use Rattle.scons_rules.specs.declared.fault.RuleReadFault.{RuleReadFault}
use Rattle.scons_rules.specs.AliasTable.{names_in}
use Rattle.scons_rules.specs.Finishing.{have_rules, with_variants, with_alias, with_aliases, alias_files, wishes, finished}
use Rattle.scons_rules.specs.Orders.{Lists}
use Rattle.scons_rules.specs.PathGraphs.{PathGraph, graph_by}
use Rattle.scons_rules.specs.Ruling.{alias_lists}
use Rattle.scons_rules.specs.Steps.{and_then}
use Rattle.scons_rules.proofs.Stepping.{drop_next}

-- one alias more
module _ (d : Declared) (lists : Lists) (aliases : Aliases) (place : ℕ) (name : List ℕ) (within : place < length aliases) (at : slice_get (names_in aliases) place ≡ Some name) where
  row : List ℕ × AliasParts
  row = get_or aliases place (name, no_parts)

  name_is : row.0 ≡ name
  unfolding row
  name_is =
      let here : slice_get aliases place ≡ Some (get_or aliases place (name, no_parts)) = slice_get-get_or aliases place (name, no_parts) within in
      let named : option_map (λ (a : List ℕ × AliasParts). a.0) (slice_get aliases place) ≡ Some name = sym (slice_get-map (λ (a : List ℕ × AliasParts). a.0) aliases place) ∙ at in
      let both : Some (get_or aliases place (name, no_parts)).0 ≡ Some name = rw here at named in
      (cc)

  next : (g : PathGraph) → with_aliases d lists (drop place aliases) place g ≡ and_then (with_alias name (alias_files d lists place) g) (with_aliases d lists (drop (place + 1) aliases) (place + 1))
  unfolding row
  next g =
      ap (λ l. with_aliases d lists l place g) (drop_next aliases place (name, no_parts) within)
      ∙ ap (λ n. and_then (with_alias n (alias_files d lists place) g) (with_aliases d lists (drop (place + 1) aliases) (place + 1))) name_is

  pub alias_step : (g h : PathGraph) (r : Result PathGraph RuleReadFault) → with_aliases d lists (drop place aliases) place g ≡ r
      → with_alias name (alias_files d lists place) g ≡ Ok h → with_aliases d lists (drop (place + 1) aliases) (place + 1) h ≡ r
  alias_step g h r left one = sym (ap (λ a. and_then a (with_aliases d lists (drop (place + 1) aliases) (place + 1))) one) ∙ sym (next g) ∙ left

  pub alias_stop : (g : PathGraph) (e : RuleReadFault) (r : Result PathGraph RuleReadFault) → with_aliases d lists (drop place aliases) place g ≡ r
      → with_alias name (alias_files d lists place) g ≡ Err e → r ≡ Err e
  alias_stop g e r left one = sym left ∙ next g ∙ ap (λ a. and_then a (with_aliases d lists (drop (place + 1) aliases) (place + 1))) one

-- the name of the alias at a place
pub name_of : Aliases → ℕ → List ℕ
name_of aliases place = (get_or aliases place ([], no_parts)).0

pub name_at : (aliases : Aliases) (place : ℕ) → place < length aliases → slice_get (names_in aliases) place ≡ Some (name_of aliases place)
unfolding name_of
name_at aliases place l =
    slice_get-map (λ (a : List ℕ × AliasParts). a.0) aliases place
    ∙ ap (option_map (λ (a : List ℕ × AliasParts). a.0)) (slice_get-get_or aliases place ([], no_parts) l)

-- all of it, where everything goes well
pub closed : (d : Declared) (g0 g1 g2 g3 g4 : RuleGraph) → have_rules d ≡ Ok tt → with_variants d.locals.variants (graph_by g0) ≡ Ok (graph_by g1)
    → with_aliases d (alias_lists d) d.aliases 0 (graph_by g1) ≡ Ok (graph_by g2) → g3 ≡ record g2 { defaults = g2.defaults ++ wishes d } → g4 ≡ record g3 { helps = g3.helps ++ d.helps }
    → finished d (graph_by g0) ≡ Ok (graph_by g4)
closed d g0 g1 g2 g3 g4 a b c e f =
    rw (a, b, c) (ap Ok (sym (ap graph_by (f ∙ ap (λ (g : RuleGraph). record g { helps = g.helps ++ d.helps }) e))))

-- what ends it
pub rules_stop : (d : Declared) (g : RuleGraph) (e : RuleReadFault) → have_rules d ≡ Err e → finished d (graph_by g) ≡ Err e
rules_stop d g e a = rw a refl

pub variants_stop : (d : Declared) (g : RuleGraph) (e : RuleReadFault) → have_rules d ≡ Ok tt → with_variants d.locals.variants (graph_by g) ≡ Err e → finished d (graph_by g) ≡ Err e
variants_stop d g e a b = rw (a, b) refl

pub aliases_stop : (d : Declared) (g0 g1 : RuleGraph) (e : RuleReadFault) → have_rules d ≡ Ok tt → with_variants d.locals.variants (graph_by g0) ≡ Ok (graph_by g1)
    → with_aliases d (alias_lists d) d.aliases 0 (graph_by g1) ≡ Err e → finished d (graph_by g0) ≡ Err e
aliases_stop d g0 g1 e a b c = rw (a, b, c) refl
