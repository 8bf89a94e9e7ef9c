-- What aliases ignore, and the steps of their nodes.
use Rattle.std.proofs.Common.{arith, ◌≡◌, ◌≢◌, ◌<◌, ◌+◌, ◌∙◌, ℕ, List, [], ◌∷◌, ◌++◌, ◌||◌, Bool, true, false, cond, ap, sym, refl, map, Some, None, Option, true≢false, length, take, get_or, append_assoc, append-nil}
use Rattle.std.specs.Prelude.{position, slice_get, String, string_bytes}
use Rattle.std.proofs.lemmas.Option.{slice_get-map, slice_get_within, get_or_from_slice_get, slice_get-get_or}
use Rattle.scons_decls.specs.Aliased.{no_parts}
use Rattle.std.specs.List.{list_any}
use Rattle.std.specs.Option.{option_map}
use Rattle.std.specs.Str.{bytes_eq}
use Rattle.std.specs.List.{filter_map}
use Rattle.std.proofs.lemmas.List.{map_push, take_more}
use Rattle.std.proofs.lemmas.List.Elements.{filter_map-append}
use Rattle.std.proofs.lemmas.List.Folds.{list_any-append}
use Rattle.node_tree.specs.Nodes.{with_path}
use Rattle.scons_decls.specs.declared.aliases.AliasParts.{AliasParts}
use Rattle.scons_decls.specs.declared.given.Given.{Given}
use Rattle.scons_decls.specs.declared.given.Given.TheVariants as given
use Rattle.scons_rules.specs.declared.orders.Step.{Step}
use Rattle.scons_rules.specs.declared.orders.Step.TheVariants.{Member, Inner}
use Rattle.scons_rules.specs.Aliased.{is_alias, is_at, step_of, steps_of, lists_of, Left, is_left, Leaves}
use Rattle.scons_rules.proofs.Numbering.{any_with}
use Rattle.scons_rules.proofs.Seeing.{position_map}

-- names of a table
pub place_at : {V : Type 0} → (name : List ℕ) (rows : List (List ℕ × V)) → position (λ a. bytes_eq name a.0) rows ≡ position (bytes_eq name) (map (λ a. a.0) rows)
place_at name rows = position_map (λ a. bytes_eq name a.0) (bytes_eq name) (λ a. a.0) rows (λ i x e. refl)

pub second_at : {S V : Type 0} → (f : S → List ℕ × V) (g : S → V) (rows : List (List ℕ × V)) (place : ℕ) (r : Option S) → ((x : S) → (f x).1 ≡ g x)
    → option_map f r ≡ slice_get rows place → option_map g r ≡ slice_get (map (λ a. a.1) rows) place
second_at f g rows place None same is = ap (option_map (λ a. a.1)) is ∙ sym (slice_get-map (λ a. a.1) rows place)
second_at f g rows place (Some x) same is = ap Some (sym (same x)) ∙ ap (option_map (λ a. a.1)) is ∙ sym (slice_get-map (λ a. a.1) rows place)

pub any_name : {Z : Type 0} → (name : List ℕ) (keys : List (String Z)) → list_any (λ k. bytes_eq name (string_bytes k)) keys ≡ list_any (bytes_eq name) (map string_bytes keys)
any_name name [] = refl
any_name name (k ∷ keys) = ap (λ b. bytes_eq name (string_bytes k) || b) (any_name name keys)

pub has_alias : (left : Left) (node : Given) (name n : List ℕ) (b : Bool) → node ≡ given.Alias name → n ≡ name → b ≡ list_any (bytes_eq n) left.aliases → b ≡ is_left left node
has_alias left node name n b is same found = found ∙ rw (is, same) refl

-- one node more

or_false : (b : Bool) → (b || false) ≡ b
or_false true = refl
or_false false = refl

one_more : (p : Given → Bool) (nodes : List Given) (node : Given) → list_any p (nodes ++ node ∷ []) ≡ (list_any p nodes || p node)
one_more p nodes node = list_any-append p nodes (node ∷ []) ∙ ap (λ b. list_any p nodes || b) (or_false (p node))

pub more_alias : (nodes : List Given) (left new : Left) (node : Given) (name : List ℕ) → Leaves nodes left → node ≡ given.Alias name → new.paths ≡ left.paths
    → new.aliases ≡ with_path left.aliases name → Leaves (nodes ++ node ∷ []) new
more_alias nodes left new node name was is paths aliases = record {
  paths = λ path.
      ap (list_any (bytes_eq path)) paths ∙ was.paths path
      ∙ sym (one_more (is_at path) nodes node ∙ ap (λ b. list_any (is_at path) nodes || b) (rw is refl) ∙ or_false (list_any (is_at path) nodes));
  aliases = λ other.
      ap (list_any (bytes_eq other)) aliases ∙ any_with other left.aliases name ∙ ap (λ b. b || bytes_eq other name) (was.aliases other)
      ∙ sym (one_more (is_alias other) nodes node ∙ ap (λ b. list_any (is_alias other) nodes || b) (rw is refl));
}

-- whether a node is the file or the directory of a path
pub record IsAt (path : List ℕ) (node : Given) : Type 0 where
  pub paths : (other : List ℕ) → is_at other node ≡ bytes_eq other path
  pub aliases : (other : List ℕ) → is_alias other node ≡ false

pub file_at : (path : List ℕ) (node : Given) → node ≡ given.File path → IsAt path node
file_at path node is = record { paths = λ other. rw is refl; aliases = λ other. rw is refl }

pub dir_at : (path : List ℕ) (node : Given) → node ≡ given.Dir path → IsAt path node
dir_at path node is = record { paths = λ other. rw is refl; aliases = λ other. rw is refl }

pub more_path : (nodes : List Given) (left new : Left) (node : Given) (path : List ℕ) → Leaves nodes left → IsAt path node → new.aliases ≡ left.aliases
    → new.paths ≡ with_path left.paths path → Leaves (nodes ++ node ∷ []) new
more_path nodes left new node path was is aliases paths = record {
  paths = λ other.
      ap (list_any (bytes_eq other)) paths ∙ any_with other left.paths path ∙ ap (λ b. b || bytes_eq other path) (was.paths other)
      ∙ sym (one_more (is_at other) nodes node ∙ ap (λ b. list_any (is_at other) nodes || b) (is.paths other));
  aliases = λ other.
      ap (list_any (bytes_eq other)) aliases ∙ was.aliases other
      ∙ sym (one_more (is_alias other) nodes node ∙ ap (λ b. list_any (is_alias other) nodes || b) (is.aliases other) ∙ or_false (list_any (is_alias other) nodes));
}

pub more_text : (nodes : List Given) (left : Left) (node : Given) (text : List ℕ) → Leaves nodes left → node ≡ given.Text text → Leaves (nodes ++ node ∷ []) left
more_text nodes left node text was is = record {
  paths = λ other. was.paths other ∙ sym (one_more (is_at other) nodes node ∙ ap (λ b. list_any (is_at other) nodes || b) (rw is refl) ∙ or_false (list_any (is_at other) nodes));
  aliases = λ other.
      was.aliases other ∙ sym (one_more (is_alias other) nodes node ∙ ap (λ b. list_any (is_alias other) nodes || b) (rw is refl) ∙ or_false (list_any (is_alias other) nodes));
}

-- names as bytes
pub bytes_inserted : {Z : Type 0} → (keys new : List (String Z)) (s : String Z) (name : List ℕ) → string_bytes s ≡ name
    → new ≡ cond (list_any (λ k. bytes_eq (string_bytes s) (string_bytes k)) keys) keys (keys ++ s ∷ []) → map string_bytes new ≡ with_path (map string_bytes keys) name
bytes_inserted keys new s name same is = by (list_any (λ k. bytes_eq (string_bytes s) (string_bytes k)) keys) refl
  where
    any : list_any (bytes_eq name) (map string_bytes keys) ≡ list_any (λ k. bytes_eq (string_bytes s) (string_bytes k)) keys
    any = rw (← same) (sym (any_name (string_bytes s) keys))

    by : (b : Bool) → list_any (λ k. bytes_eq (string_bytes s) (string_bytes k)) keys ≡ b → map string_bytes new ≡ with_path (map string_bytes keys) name
    by true e =
        let there : new ≡ keys = is ∙ rw e refl in
        let met : list_any (bytes_eq name) (map string_bytes keys) ≡ true = any ∙ e in
        rw (there, met) refl
    by false e =
        let pushed : new ≡ keys ++ s ∷ [] = is ∙ rw e refl in
        let absent : list_any (bytes_eq name) (map string_bytes keys) ≡ false = any ∙ e in
        rw (pushed, absent) (map_push string_bytes keys s ∙ ap (λ n. map string_bytes keys ++ n ∷ []) same)

-- steps

pub step_left : (names : List (List ℕ)) (nodes : List Given) (left : Left) (node : Given) → Leaves nodes left → is_left left node ≡ true → step_of names nodes node ≡ None
step_left names nodes left (given.Alias name) leaves is = let any : list_any (is_alias name) nodes ≡ true = sym (leaves.aliases name) ∙ is in rw any refl
step_left names nodes left (given.File path) leaves is = let any : list_any (is_at path) nodes ≡ true = sym (leaves.paths path) ∙ is in rw any refl
step_left names nodes left (given.Dir path) leaves is = let any : list_any (is_at path) nodes ≡ true = sym (leaves.paths path) ∙ is in rw any refl
step_left names nodes left (given.Text text) leaves is = absurd (cc)

pub step_alias : (names : List (List ℕ)) (nodes : List Given) (left : Left) (node : Given) (name : List ℕ) (place : Option ℕ) → Leaves nodes left → node ≡ given.Alias name
    → is_left left node ≡ false → place ≡ position (bytes_eq name) names → step_of names nodes node ≡ option_map Inner place
step_alias names nodes left node name place leaves is other found =
    let free : list_any (bytes_eq name) left.aliases ≡ false = rw is at other in
    let any : list_any (is_alias name) nodes ≡ false = sym (leaves.aliases name) ∙ free in
    rw is (rw any (ap (option_map Inner) (sym found)))

pub step_member : (names : List (List ℕ)) (nodes : List Given) (left : Left) (node : Given) → Leaves nodes left → ((name : List ℕ) → (node ≢ given.Alias name))
    → is_left left node ≡ false → step_of names nodes node ≡ Some (Member node)
step_member names nodes left (given.Alias name) leaves other is = absurd (other name refl)
step_member names nodes left (given.File path) leaves other is = let any : list_any (is_at path) nodes ≡ false = sym (leaves.paths path) ∙ is in rw any refl
step_member names nodes left (given.Dir path) leaves other is = let any : list_any (is_at path) nodes ≡ false = sym (leaves.paths path) ∙ is in rw any refl
step_member names nodes left (given.Text text) leaves other is = refl

-- one node more
more_steps : (f : Given → Option Step) (nodes : List Given) (i : ℕ) (n : Given) → i < length nodes → n ≡ get_or nodes i n
    → filter_map f (take (i + 1) nodes) ≡ filter_map f (take i nodes) ++ filter_map f (n ∷ [])
more_steps f nodes i n l at =
    ap (filter_map f) (take_more nodes i n l ∙ ap (λ k. take i nodes ++ k ∷ []) (sym at)) ∙ filter_map-append f (take i nodes) (n ∷ [])

pub step_pushed : (f : Given → Option Step) (nodes : List Given) (i : ℕ) (n : Given) (s : Step) (old now new : List Step) → i < length nodes → n ≡ get_or nodes i n
    → now ≡ old ++ filter_map f (take i nodes) → f n ≡ Some s → new ≡ now ++ s ∷ [] → new ≡ old ++ filter_map f (take (i + 1) nodes)
step_pushed f nodes i n s old now new l at was got is =
    let one : filter_map f (n ∷ []) ≡ s ∷ [] = rw got refl in
    is ∙ ap (λ k. k ++ s ∷ []) was ∙ append_assoc old (filter_map f (take i nodes)) (s ∷ [])
    ∙ ap (λ k. old ++ k) (sym (more_steps f nodes i n l at ∙ ap (λ k. filter_map f (take i nodes) ++ k) one))

pub step_passed : (f : Given → Option Step) (nodes : List Given) (i : ℕ) (n : Given) (old now : List Step) → i < length nodes → n ≡ get_or nodes i n
    → now ≡ old ++ filter_map f (take i nodes) → f n ≡ None → now ≡ old ++ filter_map f (take (i + 1) nodes)
step_passed f nodes i n old now l at was got =
    let one : filter_map f (n ∷ []) ≡ [] = rw got refl in
    was ∙ ap (λ k. old ++ k) (sym (more_steps f nodes i n l at ∙ ap (λ k. filter_map f (take i nodes) ++ k) one ∙ append-nil (filter_map f (take i nodes))))

pub steps_both : (names : List (List ℕ)) (p : AliasParts) (required members ignored : List Given) (a b c : List Step) → c ≡ []
    → b ≡ c ++ filter_map (step_of names []) required → a ≡ b ++ filter_map (step_of names ignored) members → required ≡ p.required → members ≡ p.members → ignored ≡ p.ignored
    → a ≡ steps_of names p
steps_both names p required members ignored a b c e second third r m i = rw (third, second, e, r, m, i) refl

-- one alias more
pub list_pushed : (names : List (List ℕ)) (parts : List AliasParts) (i : ℕ) (p : AliasParts) (s : List Step) (now new : List (List Step)) → slice_get parts i ≡ Some p
    → now ≡ lists_of names (take i parts) → s ≡ steps_of names p → new ≡ now ++ s ∷ [] → new ≡ lists_of names (take (i + 1) parts)
list_pushed names parts i p s now new at was one is =
    let within : i < length parts = slice_get_within parts i p at in
    let here : get_or parts i p ≡ p = get_or_from_slice_get parts i p p at in
    is ∙ ap (λ k. k ++ s ∷ []) was ∙ ap (λ x. map (steps_of names) (take i parts) ++ x ∷ []) one
    ∙ sym (ap (map (steps_of names)) (take_more parts i p within ∙ ap (λ x. take i parts ++ x ∷ []) here) ∙ map_push (steps_of names) (take i parts) p)

pub no_list : (names : List (List ℕ)) (parts : List AliasParts) (i : ℕ) (now : List (List Step)) → i < length parts → slice_get parts i ≡ None
    → now ≡ lists_of names (take (i + 1) parts)
no_list names parts i now within none = let got : slice_get parts i ≡ Some (get_or parts i no_parts) = slice_get-get_or parts i no_parts within in absurd (cc)
