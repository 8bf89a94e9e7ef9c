-- What a word names, where these are the graph, the files and the records of former builds.
use Rattle.std.specs.Prelude.{◌≡◌, ◌++◌, ℕ, Bool, true, false, List, Some, All, Contains, MatchOption, length, slice_get, take}
use Rattle.scons_base.specs.PathFaults.{is_path}
use Rattle.scons_base.specs.Resolve.{spelling}
use Rattle.scons_base.specs.declared.ids.NodeId.{NodeId}
use Rattle.world_api.specs.Around.{Around}
use Rattle.world_api.specs.Reads.{kind_of}
use Rattle.world_api.specs.declared.world.Kind.TheVariants.{File, Dir}
use Rattle.rule_graph.specs.Aliases.{members_of}
use Rattle.rule_graph.specs.Graphs.{RuleGraph, path_of}
use Rattle.deciders.specs.declared.recorded.Rec.{Rec}
use Rattle.sign_store.specs.Tables.{Map}
use Rattle.build_files.specs.Leftovers.{copied_from, is_copied, is_made, IsLeftover}
use Rattle.scons_top.specs.Below.{has_below}

-- the path lies in a variant directory with copies, and its record is that of a leftover copy: then it counts as not there
pub record IsLeftOver (g : RuleGraph) (around : Around) (map : Map) (path : List ℕ) : Type 0 where
  pub copied : is_copied g path ≡ true
  pub rec : Rec
  pub has : map path ≡ Some rec
  pub left : IsLeftover g around rec

-- What there is at a path: a declared rule makes it, or it is copied; a file stands there, or a directory; or a declared target lies below it.
pub data IsThere (g : RuleGraph) (around : Around) (map : Map) (path : List ℕ) : Type 0 where
  made : is_made g path ≡ true → IsThere g around map path
  copied : (source : List ℕ) → copied_from g (length g.rules) around path ≡ Some source → IsThere g around map path
  file : kind_of around path ≡ File → (IsLeftOver g around map path → ⊥) → IsThere g around map path
  dir : kind_of around path ≡ Dir → IsThere g around map path
  above : has_below g path ≡ true → IsThere g around map path

-- ---- members of an alias

-- there is something at the path of a member
abbrev pub IsMemberThere : RuleGraph → Around → Map → NodeId → Type 0
IsMemberThere g around map member = IsThere g around map (path_of g.nodes member)

-- so it is of all of them
abbrev pub AreThere : RuleGraph → Around → Map → List NodeId → Type 0
AreThere g around map members = All (IsMemberThere g around map) members

-- of one it isn't
pub record LacksOne (g : RuleGraph) (around : Around) (map : Map) (members : List NodeId) : Type 0 where
  pub member : NodeId
  pub is : Contains members member
  pub lacks : IsMemberThere g around map member → ⊥

-- the path of the first that isn't there
pub record IsFirstLacking (g : RuleGraph) (around : Around) (map : Map) (members : List NodeId) (node : List ℕ) : Type 0 where
  pub member : NodeId
  pub place : ℕ
  pub at : slice_get members place ≡ Some member
  pub before : AreThere g around map (take place members)
  pub lacks : IsMemberThere g around map member → ⊥
  pub path : node ≡ path_of g.nodes member

-- the word names an alias, and this is the path of its first member that isn't there
pub record LacksFor (g : RuleGraph) (around : Around) (map : Map) (word node : List ℕ) : Type 0 where
  pub members : List NodeId
  pub alias : members_of g.aliases word ≡ Some members
  pub first : IsFirstLacking g around map members node

-- ---- words

-- What a word names: the members of an alias, all of which are there unless targets are to be removed; or what there is at the path.
pub data NamesSome (clean : Bool) (g : RuleGraph) (around : Around) (map : Map) (word : List ℕ) : Type 0 where
  alias : (members : List NodeId) → members_of g.aliases word ≡ Some members → (clean ≡ false → AreThere g around map members) → NamesSome clean g around map word
  path : is_path word ≡ true → IsThere g around map (spelling g.top word) → NamesSome clean g around map word

-- It is no alias, and no path at which there is anything. An alias is told so too where a member of it isn't there and its name is no path: with
-- one that is, the member is told to be missing.
abbrev pub NamesNothing : RuleGraph → Around → Map → List ℕ → Type 0
NamesNothing g around map word =
    MatchOption (members_of g.aliases word) (is_path word ≡ true → IsThere g around map (spelling g.top word) → ⊥)
    (λ members. (is_path word ≡ false) × LacksOne g around map members)

-- the first of these words that names nothing
pub record IsFirstUnknown (clean : Bool) (g : RuleGraph) (around : Around) (map : Map) (asked : List (List ℕ)) (word : List ℕ) : Type 0 where
  pub place : ℕ
  pub at : slice_get asked place ≡ Some word
  pub before : All (NamesSome clean g around map) (take place asked)
  pub nothing : NamesNothing g around map word

-- the first of these words that doesn't name what there is is an alias, of which this member is missing
pub record IsFirstMissing (clean : Bool) (g : RuleGraph) (around : Around) (map : Map) (asked : List (List ℕ)) (node target : List ℕ) : Type 0 where
  pub place : ℕ
  pub at : slice_get asked place ≡ Some target
  pub before : All (NamesSome clean g around map) (take place asked)
  pub lacks : LacksFor g around map target node

-- nothing changed of a graph but that paths got numbers, behind the others.
pub record HasGrown (old new : RuleGraph) : Type 0 where
  pub same : new ≡ record old { nodes = new.nodes }
  pub more : List (List ℕ)
  pub nodes : new.nodes ≡ old.nodes ++ more
