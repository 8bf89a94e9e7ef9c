-- What is found of words, over a world in which nothing runs: the files and the records stay as they are.
use Rattle.std.specs.Prelude.{◌≡◌, ◌≢◌, ◌⊎◌, ℕ, Bool, true, false, List, Some, None, Option, All, Contains, IfErr, IfOk, IfSome, Result, Ok, Err, length}
use Rattle.world_api.specs.Around.{Around}
use Rattle.world_api.specs.Meaning.{Meaning}
use Rattle.world_api.specs.Reads.{kind_of}
use Rattle.world_api.specs.declared.world.Kind.TheVariants.{File, Dir}
use Rattle.scons_base.specs.declared.ids.NodeId.{NodeId}
use Rattle.deciders.specs.declared.recorded.Rec.{Rec}
use Rattle.rule_graph.specs.Graphs.{RuleGraph, path_of}
use Rattle.rule_graph.specs.declared.build_fault.BuildFault.TheVariants as fault
use Rattle.sign_store.specs.Ends.{image_in}
use Rattle.sign_store.specs.Stores.{map_of_view, ShowsMapOf}
use Rattle.sign_store.specs.Tables.{Map}
use Rattle.sign_store.specs.declared.view.View.{View}
use Rattle.build_files.specs.Leftovers.{copied_from, is_made, AtRest, IsLeftover}
use Rattle.scons_words.specs.declared.words.Words.{Words}
use Rattle.scons_top.specs.Asked.{asked_by}
use Rattle.scons_top.specs.Below.{has_below, KnowsTargets}
use Rattle.scons_top.specs.Naming.{AreThere, IsFirstLacking, IsFirstMissing, IsFirstUnknown, IsLeftOver, IsMemberThere, IsThere, LacksFor, LacksOne, NamesNothing, NamesSome}
use Rattle.scons_top.specs.declared.lookups.Lookups.{Lookups}
use Rattle.scons_top.specs.declared.report.Report.{Report}
use Rattle.scons_top.specs.declared.report.Top.{Top}
use Rattle.scons_top.specs.declared.report.Top.TheVariants as top
use Rattle.scons_top.specs.declared.step.Step.{Step}
use Rattle.scons_top.specs.declared.step.Step.TheVariants as step
use Rattle.scons_top.specs.declared.stop.OwnFault.TheVariants as own
use Rattle.scons_top.specs.declared.stop.Stop.{Stop}
use Rattle.scons_top.specs.declared.stop.Stop.TheVariants as stop

-- ---- what was looked up

-- the records of former builds, once they were read, are those of the banks
abbrev pub KnowsRecords : {W : Type 0} → Meaning W → W → Option View → Type 0
KnowsRecords m world view = m.tells world → IfSome view (ShowsMapOf (m.seen world))

-- what was looked up is of this graph, and of the banks of this world
pub record AreOf {W : Type 0} (m : Meaning W) (g : RuleGraph) (world : W) (lookups : Lookups) : Type 0 where
  pub targets : KnowsTargets g lookups.below
  pub records : KnowsRecords m world lookups.view

-- the record of a path, where the records were read
abbrev pub record_in : Option View → List ℕ → Option Rec
record_in None path = None
record_in (Some view) path = map_of_view view path

-- the record of a path is that of a leftover copy
pub record HasLeft (g : RuleGraph) (around : Around) (map : Map) (path : List ℕ) : Type 0 where
  pub rec : Rec
  pub has : map path ≡ Some rec
  pub left : IsLeftover g around rec

-- a test says whether it is so
pub record Tells (P : Type 0) (is : Bool) : Type 0 where
  pub so : is ≡ true → P
  pub not : is ≡ false → P → ⊥

-- a path has a declared rule or is copied, and so a test says
pub record TellsRule (g : RuleGraph) (around : Around) (path : List ℕ) (has : Bool) : Type 0 where
  pub some : has ≡ true → (is_made g path ≡ true) ⊎ ((source : List ℕ) × (copied_from g (length g.rules) around path ≡ Some source))
  pub unmade : has ≡ false → is_made g path ≡ false
  pub uncopied : has ≡ false → copied_from g (length g.rules) around path ≡ None

-- ---- what was looked for

-- a word is told to be unknown only where this is so
abbrev pub UnknownOnlyIf : Type 0 → Stop → Type 0
UnknownOnlyIf P s = (word : List ℕ) → s ≡ stop.Fault (own.UnknownTarget word) → P

-- a member is told to be missing only where this is so of its path
abbrev pub MissingOnlyIf : (List ℕ → Type 0) → Stop → Type 0
MissingOnlyIf P s = (node target : List ℕ) → s ≡ stop.Build (fault.Missing node target) → P node

-- what was looked for is found only where the one is so, and a word is told to be unknown only where the other is
abbrev pub FoundOrUnknown : {T : Type 0} → Type 0 → Type 0 → Result T Stop → Type 0
FoundOrUnknown P Q (Ok value) = P
FoundOrUnknown P Q (Err s) = UnknownOnlyIf Q s

-- the same, by the files and records of a world in which nothing runs
abbrev pub Finds : {W T : Type 0} → Meaning W → (Around → Map → Type 0) → (Around → Map → Type 0) → W → Result T Stop → Type 0
Finds m Found Bare world result =
    AtRest m world → FoundOrUnknown (Found (m.around world) (image_in (m.seen world))) (Bare (m.around world) (image_in (m.seen world))) result

-- a file that stands there counts, or a declared target lies below
abbrev pub CountsOrAbove : RuleGraph → List ℕ → Around → Map → Type 0
CountsOrAbove g path around map = (IsLeftOver g around map path → ⊥) ⊎ (has_below g path ≡ true)

-- it is a leftover copy, and none lies below
abbrev pub IsLeftAlone : RuleGraph → List ℕ → Around → Map → Type 0
IsLeftAlone g path around map = IsLeftOver g around map path × (has_below g path ≡ false)

-- no file but a leftover copy stands there, no directory does, and no declared target lies below
pub record IsBare (g : RuleGraph) (path : List ℕ) (around : Around) (map : Map) : Type 0 where
  pub file : kind_of around path ≡ File → IsLeftOver g around map path
  pub dir : kind_of around path ≡ Dir → ⊥
  pub below : has_below g path ≡ false

abbrev pub FindsPath : {W T : Type 0} → Meaning W → RuleGraph → List ℕ → W → Result T Stop → Type 0
FindsPath m g path world result = Finds m (λ around map. IsThere g around map path) (IsBare g path) world result

-- Of a path it is told whether there is something.
abbrev pub TellsThere : {W E : Type 0} → Meaning W → RuleGraph → List ℕ → W → Result Bool E → Type 0
TellsThere m g path world result = AtRest m world → IfOk result (Tells (IsThere g (m.around world) (image_in (m.seen world)) path))

-- of a file, whether it is no leftover copy
abbrev pub TellsKept : {W E : Type 0} → Meaning W → RuleGraph → List ℕ → W → Result Bool E → Type 0
TellsKept m g path world result = AtRest m world → IfOk result (Tells (IsLeftOver g (m.around world) (image_in (m.seen world)) path → ⊥))

-- a directory stands there, or a file that is no leftover copy
pub data IsStanding (g : RuleGraph) (path : List ℕ) (around : Around) (map : Map) : Type 0 where
  is_dir : kind_of around path ≡ Dir → IsStanding g path around map
  is_file : kind_of around path ≡ File → (IsLeftOver g around map path → ⊥) → IsStanding g path around map

abbrev pub TellsStanding : {W E : Type 0} → Meaning W → RuleGraph → List ℕ → W → Result Bool E → Type 0
TellsStanding m g path world result = AtRest m world → IfOk result (Tells (IsStanding g path (m.around world) (image_in (m.seen world))))

-- a member of an alias is there, or it is told that it isn't
abbrev pub FindsMember : {W T : Type 0} → Meaning W → RuleGraph → NodeId → W → Result T Stop → Type 0
FindsMember m g member world result =
    Finds m (λ around map. IsMemberThere g around map member) (λ around map. IsMemberThere g around map member → ⊥) world result

-- it is told to be missing only where it isn't there
abbrev pub MissesMember : {W T : Type 0} → Meaning W → RuleGraph → NodeId → W → Result T Stop → Type 0
MissesMember m g member world result = AtRest m world →
    IfErr result (MissingOnlyIf (λ node. (node ≡ path_of g.nodes member) × (IsMemberThere g (m.around world) (image_in (m.seen world)) member → ⊥)))

-- so of all of them, unless targets are to be removed
abbrev pub FindsMembers : {W T : Type 0} → Meaning W → Bool → RuleGraph → List NodeId → W → Result T Stop → Type 0
FindsMembers m clean g members world result =
    Finds m (λ around map. clean ≡ false → AreThere g around map members) (λ around map. LacksOne g around map members) world result

abbrev pub FindsWord : {W T : Type 0} → Meaning W → Bool → RuleGraph → List ℕ → W → Result T Stop → Type 0
FindsWord m clean g word world result = Finds m (λ around map. NamesSome clean g around map word) (λ around map. NamesNothing g around map word) world result

-- of them the first that isn't there is told to be missing
abbrev pub MissesFirst : {W T : Type 0} → Meaning W → RuleGraph → List NodeId → W → Result T Stop → Type 0
MissesFirst m g members world result =
    AtRest m world → IfErr result (MissingOnlyIf (λ node. IsFirstLacking g (m.around world) (image_in (m.seen world)) members node))

-- so it is of an alias, and of no other word
abbrev pub MissesWord : {W T : Type 0} → Meaning W → RuleGraph → List ℕ → W → Result T Stop → Type 0
MissesWord m g word world result =
    AtRest m world → IfErr result (MissingOnlyIf (λ node. LacksFor g (m.around world) (image_in (m.seen world)) word node))

-- ---- what was asked for

-- a member that is told to be missing is of the first of these words that doesn't name what there is
abbrev pub TellsMissing : Bool → RuleGraph → Around → Map → List (List ℕ) → Stop → Type 0
TellsMissing clean g around map asked s =
    (node target : List ℕ) → s ≡ stop.Build (fault.Missing node target) → IsFirstMissing clean g around map asked node target

abbrev pub MissesWords : {W T : Type 0} → Meaning W → Bool → RuleGraph → List (List ℕ) → W → Result T Stop → Type 0
MissesWords m clean g asked world result =
    AtRest m world → IfErr result (TellsMissing clean g (m.around world) (image_in (m.seen world)) asked)

-- Each of these words names something; or the one that is told to be unknown is the first that doesn't.
abbrev pub AskedOf : {T : Type 0} → Bool → RuleGraph → Around → Map → List (List ℕ) → Result T Stop → Type 0
AskedOf clean g around map asked (Ok value) = All (NamesSome clean g around map) asked
AskedOf clean g around map asked (Err s) = (word : List ℕ) → s ≡ stop.Fault (own.UnknownTarget word) → IsFirstUnknown clean g around map asked word

abbrev pub FindsWords : {W T : Type 0} → Meaning W → Bool → RuleGraph → List (List ℕ) → W → Result T Stop → Type 0
FindsWords m clean g asked world result = AtRest m world → AskedOf clean g (m.around world) (image_in (m.seen world)) asked result

-- ---- a run

-- what was asked for was looked up
abbrev pub IsBehindRequests : Step → Type 0
IsBehindRequests step.Cleaning = Unit {0}
IsBehindRequests step.Store = Unit {0}
IsBehindRequests step.Listing = Unit {0}
IsBehindRequests step.Building = Unit {0}
IsBehindRequests other = ⊥

-- By a graph, the files and the records as the run found them: a word that is told to be unknown is the first of those asked for that names
-- nothing; a member that is told to be missing before anything is built is the first of the first such alias; and in a run that came behind its requests each of them names something.
pub record TellsWords (said : Words) (around : Around) (map : Map) (at : Step) (tells : List ℕ → Type 0) (misses : List ℕ → List ℕ → Type 0) : Type 0 where
  pub graph : RuleGraph
  pub first : (word : List ℕ) → tells word → IsFirstUnknown said.clean graph around map (asked_by graph said) word
  pub missing : (node target : List ℕ) → misses node target → IsFirstMissing said.clean graph around map (asked_by graph said) node target
  pub named : IsBehindRequests at → All (NamesSome said.clean graph around map) (asked_by graph said)

-- a report tells so, and so does a stop
abbrev pub ReportTellsWords : Words → Around → Map → Step → List Top → Type 0
ReportTellsWords said around map at faults = TellsWords said around map at (λ word. Contains faults (top.UnknownTarget word))
    (λ node target. (at ≡ step.Requests) × Contains faults (top.Missing node target))

abbrev pub StopTellsWords : {T : Type 0} → Words → Around → Map → Step → Result T Stop → Type 0
StopTellsWords said around map at (Ok value) = TellsWords said around map at (λ word. ⊥) (λ node target. at ≡ step.Requests)
StopTellsWords said around map at (Err s) = TellsWords said around map at (λ word. s ≡ stop.Fault (own.UnknownTarget word))
    (λ node target. (at ≡ step.Requests) × (s ≡ stop.Build (fault.Missing node target)))

-- over the world as a run found it
abbrev pub RunTellsWords : {W T : Type 0} → Meaning W → Words → Step → W → W → Result T Stop → Type 0
RunTellsWords m said at old new result = m.tells new → StopTellsWords said (m.around old) (image_in (m.seen old)) at result

abbrev pub TellsWordsOf : {W : Type 0} → Meaning W → Words → W → W → Report → Type 0
TellsWordsOf m said old new report = m.tells new → ReportTellsWords said (m.around old) (image_in (m.seen old)) report.step report.faults
