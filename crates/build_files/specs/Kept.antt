-- What is kept of the files of a build, and when it is true.
use Rattle.std.specs.Prelude.{◌≡◌, ◌≢◌, ◌⊎◌, ◌≤◌, ◌&&◌, ℕ, Bool, true, false, List, [], Option, Some, None, Result, IfOk, is_some, length, nat_eq, slice_get, if◌then◌else◌}
use Rattle.std.specs.List.{list_any}
use Rattle.std.specs.Option.{option_map}
use Rattle.std.specs.Str.{bytes_eq}
use Rattle.std.specs.Global.{Vec}
use Rattle.indexmap.specs.IndexMap.{get}
use Rattle.scons_base.specs.declared.ids.NodeId.{NodeId}
use Rattle.scons_base.specs.declared.ids.RuleId.{RuleId}
use Rattle.c_scanner.specs.Includes.{includes_of}
use Rattle.c_scanner.specs.declared.line.Include.{Include}
use Rattle.deciders.specs.Digests.{digest_of}
use Rattle.deciders.specs.declared.content.Digest.{Digest}
use Rattle.rule_graph.specs.Graphs.{RuleGraph}
use Rattle.rule_graph.specs.Rules.{rule_of}
use Rattle.rule_graph.specs.declared.rule.Rule.{Rule}
use Rattle.world_api.specs.Act.{Content}
use Rattle.world_api.specs.Around.{Around, Tree, IsRunningTarget}
use Rattle.world_api.specs.Meaning.{Meaning}
use Rattle.world_api.specs.Reads.{stamp_of}
use Rattle.world_api.specs.declared.hash.Hash.{Hash}
use Rattle.build_model.specs.Rules.{Path}
use Rattle.build_means.specs.Copies.{is_copied, is_known, copied_from}
use Rattle.build_means.specs.Grown.{Begun, IsGrown}
use Rattle.build_means.specs.Rules.{IsReading}
use Rattle.build_files.specs.Leftovers.{is_made}
use Rattle.build_files.specs.Searched.{meant, AreNodesOf}
use Rattle.build_files.specs.Seen.{seen_at, unseen}
use Rattle.build_files.specs.declared.end.ListEnd.{ListEnd}
use Rattle.build_files.specs.declared.includes.Found.{Found}
use Rattle.build_files.specs.declared.includes.Scan.{Scan}
use Rattle.build_files.specs.declared.inputs.Inputs.{Inputs}
use Rattle.build_files.specs.declared.seen.Seen.{Seen}

-- What stands at a path for a build that looks past some: nothing at these.
abbrev pub past : List Path → Tree → Tree
past gone tree path = if list_any (bytes_eq path) gone then None else tree path

-- when it last changed
abbrev pub stamp_past : List Path → Around → Path → Option ℕ
stamp_past gone around path = if list_any (bytes_eq path) gone then None else stamp_of around path

-- what a content includes: nothing where no file stands
abbrev pub includes_in : Content → List Include
includes_in None = []
includes_in (Some bytes) = includes_of bytes

-- What is kept of a file is so, where it holds this and last changed then.
pub record IsSeenAs (hash : Hash) (content : Content) (changed : Option ℕ) (seen : Seen) : Type 0 where
  pub digest : (digest : Option Digest) → seen.digest ≡ Some digest → digest ≡ option_map (digest_of hash) content
  pub includes : (includes : List Include) → seen.includes ≡ Some includes → includes ≡ includes_in content
  pub stamp : (time : Option ℕ) → seen.stamp ≡ Some time → time ≡ changed

-- nothing is kept of what a file holds, nor of when it changed
pub record IsUnread (seen : Seen) : Type 0 where
  pub digest : seen.digest ≡ None
  pub includes : seen.includes ≡ None
  pub stamp : seen.stamp ≡ None

-- What is kept of a file is so now, and no running job writes it; or nothing is kept of it. Whether it stood there is told of the
-- beginning of the build.
pub record IsTrueOf (b : Begun) (gone : List Path) (around : Around) (path : Path) (seen : Seen) : Type 0 where
  pub now : IsSeenAs b.hash (past gone around.tree path) (stamp_past gone around path) seen
  pub still : (IsRunningTarget around.running path → ⊥) ⊎ IsUnread seen
  pub is_file : (is : Bool) → seen.is_file ≡ Some is → is ≡ is_some (b.tree path)

-- the list of directories that has this number
abbrev pub dirs_at : Found → ℕ → Option (List Path)
dirs_at found number = option_map (λ dirs. dirs.items) (slice_get found.lists.keys number)

-- whether two scans are of one file with one list of directories
abbrev pub same_scan : Scan → Scan → Bool
same_scan a b = nat_eq a.file.0 b.file.0 && nat_eq a.dirs b.dirs

-- What a scan found is so: the nodes of what the file includes now, looked for in the directories of that number; and no running
-- job writes the file.
pub record IsFoundAs (b : Begun) (g : RuleGraph) (gone : List Path) (around : Around) (found : Found) (scan : Scan) (nodes : List NodeId) : Type 0 where
  pub paths : List Path
  pub path : Path
  pub dirs : dirs_at found scan.dirs ≡ Some paths
  pub file : slice_get g.nodes scan.file.0 ≡ Some path
  pub still : IsRunningTarget around.running path → ⊥
  pub meaning : AreNodesOf g (meant b paths path (includes_in (past gone around.tree path))) nodes

-- the directories of a rule have this number
pub record IsListOf (g : RuleGraph) (found : Found) (rule : RuleId) (list : ℕ) : Type 0 where
  pub declared : Rule
  pub at : slice_get g.rules rule.0 ≡ Some declared
  pub dirs : dirs_at found list ≡ Some declared.paths

-- What scans found is so, and the rule that was scanned last has the directories that are noted of it.
pub record AreFound (b : Begun) (g : RuleGraph) (gone : List Path) (around : Around) (found : Found) : Type 0 where
  pub each : (scan : Scan) (nodes : Vec NodeId) → get same_scan found.files scan ≡ Some nodes → IsFoundAs b g gone around found scan nodes.items
  pub last : (rule : RuleId) (list : ℕ) → found.last ≡ Some (rule, list) → IsListOf g found rule list

-- What is kept of the files of a build is true: of what stands there now, and of what stood there as the build began. The graph
-- is the one that was read, with nodes and copy rules behind. What no rule makes stands as it did, and running jobs write
-- targets of rules alone. Where the copy rule of a file was looked for it has its rule. What is looked past lies in variant directories with copies.
pub record AreTrue (b : Begun) (g : RuleGraph) (inputs : Inputs) (around : Around) : Type 0 where
  pub reading : IsReading b.graph
  pub grown : IsGrown b g
  pub hash : inputs.hash ≡ b.hash
  pub declared : inputs.declared ≡ length b.graph.rules
  pub rest : (path : Path) → is_made g path ≡ false → past inputs.gone.keys around.tree path ≡ b.tree path
  pub idle : (path : Path) → is_made g path ≡ false → IsRunningTarget around.running path → ⊥
  pub seen : (node : ℕ) (path : Path) → slice_get g.nodes node ≡ Some path →
      IsTrueOf b inputs.gone.keys around path (seen_at inputs.files.seen.items node)
  pub settled : (node : ℕ) (path : Path) → slice_get g.nodes node ≡ Some path → (seen_at inputs.files.seen.items node).is_settled ≡ true
      → rule_of g.rules node ≡ None → copied_from b.graph b.tree path ≡ None
  pub behind : (node : ℕ) → length g.nodes ≤ node → seen_at inputs.files.seen.items node ≡ unseen
  pub unknown : (path : Path) → list_any (bytes_eq path) inputs.unknown.keys ≡ true → is_known b.graph b.tree path ≡ false
  pub gone : (path : Path) → list_any (bytes_eq path) inputs.gone.keys ≡ true → is_copied b.graph path ≡ true
  pub found : AreFound b g inputs.gone.keys around inputs.found

-- no running job writes the file of this number
abbrev pub IsStill : RuleGraph → Around → ℕ → Type 0
IsStill g around node = (path : Path) → slice_get g.nodes node ≡ Some path → IsRunningTarget around.running path → ⊥

-- no rule makes the file of this number
abbrev pub IsUnmade : RuleGraph → ℕ → Type 0
IsUnmade g node = (path : Path) → slice_get g.nodes node ≡ Some path → is_made g path ≡ false

-- What was true of the files of a build is still: of those kept before, over the world before, it is of those kept now.
abbrev pub StaysTrue : {W : Type 0} → Meaning W → RuleGraph → Inputs → W → RuleGraph → Inputs → W → Type 0
StaysTrue m before old old_world after new new_world =
    m.tells new_world → (b : Begun) → AreTrue b before old (m.around old_world) → AreTrue b after new (m.around new_world)

-- What comes of a call has P, whatever the build began with, where what was kept before it is true.
abbrev pub Gives : {W T : Type 0} → Meaning W → RuleGraph → Inputs → W → W → Result T ListEnd → (Begun → T → Type 0) → Type 0
Gives m g inputs old new result P = m.tells new → (b : Begun) → AreTrue b g inputs (m.around old) → IfOk result (P b)

-- Of a file that no running job writes these are the nodes of what it includes now, as a rule finds it.
pub record IsFoundFor (b : Begun) (g : RuleGraph) (inputs : Inputs) (around : Around) (rule file : ℕ) (nodes : List NodeId) : Type 0 where
  pub path : Path
  pub at : slice_get g.nodes file ≡ Some path
  pub still : IsRunningTarget around.running path → ⊥
  pub meaning : (x : Rule) → slice_get g.rules rule ≡ Some x
      → AreNodesOf g (meant b x.paths path (includes_in (past inputs.gone.keys around.tree path))) nodes

-- the same files are looked past
abbrev pub SameGone : Inputs → Inputs → Type 0
SameGone old new = new.gone ≡ old.gone

-- only which rules were looked at changes
abbrev pub LooksAt : Inputs → Inputs → Type 0
LooksAt old new = new ≡ record old { looked_at = new.looked_at }

-- Where no rule makes the file of this number it has no copy rule.
pub record IsLeftAlone (b : Begun) (g : RuleGraph) (node : ℕ) : Type 0 where
  pub path : Path
  pub at : slice_get g.nodes node ≡ Some path
  pub uncopied : rule_of g.rules node ≡ None → copied_from b.graph b.tree path ≡ None

-- What is kept changes of one file alone, by a content that it holds.
pub record KeepsContent (old new : Inputs) (node : ℕ) (content : Content) : Type 0 where
  pub rest : new ≡ record old { files = new.files }
  pub others : (other : ℕ) → other ≢ node → seen_at new.files.seen.items other ≡ seen_at old.files.seen.items other
  pub this : (stamp : Option ℕ) → IsSeenAs old.hash content stamp (seen_at old.files.seen.items node)
      → IsSeenAs old.hash content stamp (seen_at new.files.seen.items node)
  pub is_file : (seen_at new.files.seen.items node).is_file ≡ (seen_at old.files.seen.items node).is_file
  pub settled : (seen_at new.files.seen.items node).is_settled ≡ (seen_at old.files.seen.items node).is_settled

-- the node of a path that is known; none of one that isn't
abbrev pub IsKnownAs : Begun → RuleGraph → Path → Option NodeId → Type 0
IsKnownAs b g path None = is_known b.graph b.tree path ≡ false
IsKnownAs b g path (Some node) = (is_known b.graph b.tree path ≡ true) × (slice_get g.nodes node.0 ≡ Some path)
