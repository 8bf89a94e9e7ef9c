-- What a search finds is what an include line means.
use Rattle.std.proofs.Common.{◌≡◌, ◌∙◌, ap, sym, subst, refl, Bool, true, false, List, [], ◌∷◌, length, ℕ, Option, None, arith}
use Rattle.std.specs.Prelude.{find, flat_map, ◌==◌, if◌then◌else◌}
use Rattle.std.specs.Str.{IsUtf8, is_utf8}
use Rattle.std.proofs.lemmas.Str.{IsUtf8-from_is_utf8, is_utf8-from_IsUtf8}
use Rattle.scons_base.specs.declared.ids.NodeId.{NodeId}
use Rattle.c_scanner.specs.declared.line.Include.{Include}
use Rattle.rule_graph.specs.Graphs.{RuleGraph}
use Rattle.build_model.specs.Rules.{Path}
use Rattle.build_means.specs.Copies.{is_known}
use Rattle.build_means.specs.Finds.{dirs_for, found_for, places_in}
use Rattle.build_means.specs.Grown.{Begun}
use Rattle.std.proofs.lemmas.Bool.Decides.{Decides-eqb}
use Rattle.build_files.proofs.Searching.{each_alone, node_none}
use Rattle.build_files.specs.Searched.{IsNodeOf, first_known}

-- what is found among places is found among those that are the same
pub found_in : (b : Begun) (g : RuleGraph) (places others : List Path) (node : Option NodeId) → places ≡ others
    → IsNodeOf g (find (is_known b.graph b.tree) (flat_map (λ path. path ∷ []) places)) node → IsNodeOf g (first_known b others) node
found_in b g places others node same is = subst (λ ps. IsNodeOf g (find (is_known b.graph b.tree) ps) node) (each_alone places ∙ same) is

no_text : (name : List ℕ) → (IsUtf8 name → ⊥) → is_utf8 name ≡ false
no_text name none = by (is_utf8 name) refl
  where
    by : (c : Bool) → is_utf8 name ≡ c → c ≡ false
    by true e = absurd (none (IsUtf8-from_is_utf8 name e))
    by false e = refl

-- a name that is no text means nothing
pub found_nothing : (b : Begun) (g : RuleGraph) (paths : List Path) (file : Path) (include : Include) → (IsUtf8 include.name → ⊥)
    → IsNodeOf g (found_for b.graph b.tree paths file include) None
found_nothing b g paths file include none =
    node_none g (found_for b.graph b.tree paths file include)
    (ap (λ c. find (is_known b.graph b.tree) (if c then flat_map (places_in b.graph include.name) (dirs_for paths file include.quoted) else [])) (no_text include.name none))

-- another one means what is found in its directories
pub found_in_dirs : (b : Begun) (g : RuleGraph) (paths : List Path) (file : Path) (include : Include) (name : List ℕ) (dirs : List Path) (node : Option NodeId)
    → IsUtf8 include.name → name ≡ include.name → dirs ≡ dirs_for paths file include.quoted
    → IsNodeOf g (find (is_known b.graph b.tree) (flat_map (places_in b.graph name) dirs)) node → IsNodeOf g (found_for b.graph b.tree paths file include) node
found_in_dirs b g paths file include name dirs node text same in_order is =
    subst (λ o. IsNodeOf g o node)
    (ap (λ n. find (is_known b.graph b.tree) (flat_map (places_in b.graph n) dirs)) same
    ∙ ap (λ ds. find (is_known b.graph b.tree) (flat_map (places_in b.graph include.name) ds)) in_order
    ∙ sym (ap (λ c. find (is_known b.graph b.tree) (if c then flat_map (places_in b.graph include.name) (dirs_for paths file include.quoted) else [])) (is_utf8-from_IsUtf8 include.name text)))
    is

-- a list of no items
pub no_items : {A : Type 0} (xs : List A) → (length xs == 0) ≡ true → xs ≡ []
no_items [] e = refl
no_items (x ∷ xs) e = absurd (omega (arith, (Decides-eqb (length (x ∷ xs)) 0).0 e))
