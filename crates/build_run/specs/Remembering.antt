-- Nothing is forgotten: what may be recorded of each path, wherever a build is stopped.
use Rattle.std.specs.Prelude.{◌≡◌, ◌⊎◌, true, Option, Some, None, length}
use Rattle.deciders.specs.declared.recorded.Rec.{Rec}
use Rattle.rule_graph.specs.Rules.{are_below}
use Rattle.sign_store.specs.Ends.{image_in}
use Rattle.sign_store.specs.Tables.{Map}
use Rattle.world_api.specs.Around.{Around}
use Rattle.world_api.specs.Counts.{Counts}
use Rattle.world_api.specs.Meaning.{Meaning, Surely}
use Rattle.build_model.specs.Headline.{IsNeeded, IsStaleBefore, clean_record}
use Rattle.build_model.specs.Records.{AreDistinct}
use Rattle.build_model.specs.Rules.{Path, Record, Rule, Among, content}
use Rattle.build_means.specs.Builds.{Kept, Wanted, build_in, graph_in, setting_in}
use Rattle.build_means.specs.Records.{record_in}
use Rattle.turn_means.specs.Standing.{Outset}
use Rattle.build_run.specs.Outsets.{LeavesRest}
use Rattle.build_run.specs.Takes.{IsLeftAt}
use Rattle.build_run.specs.Truth.{TellsTruth}
use Rattle.build_run.specs.Watches.{MayStart}

-- at every moment between, whatever a stop may leave of the banks then: what they have for a path is so
abbrev pub HasThroughout : {W : Type 0} → Meaning W → W → W → Path → (Around → Option Rec → Type 0) → Type 0
HasThroughout m old new path IsSo = Surely m old new (λ around banks. IsSo around (image_in banks path))

-- the record that a path had, none, or one that means this
pub data IsOneOf (had : Option Rec) (due : Record) (found : Option Rec) : Type 0 where
  had_before : found ≡ had → IsOneOf had due found
  has_none : found ≡ None → IsOneOf had due found
  has_due : (rec : Rec) → record_in rec ≡ due → found ≡ Some rec → IsOneOf had due found

-- a build began with these records and counts, in these surroundings
abbrev pub begun_with : Wanted → Kept → Counts → Around → Outset
begun_with w kept counts left = record { wanted = w; kept = kept; counts = counts; before = left }

-- no rule that makes this path may start, on any way of the build
abbrev pub MayStartNone : Outset → Path → Type 0
MayStartNone o path = (r : Rule) → MayStart o r → Among path r.targets → ⊥

-- by the clean build a needed and stale rule makes this path
pub record IsMadeStale (w : Wanted) (kept : Kept) (left : Around) (path : Path) (r : Rule) : Type 0 where
  pub needed : IsNeeded (graph_in w left) (build_in w kept left left) r
  pub is_stale : IsStaleBefore (graph_in w left) (build_in w kept left left) r
  pub among : Among path r.targets

-- each needed rule goes by content
abbrev pub AllByContent : Wanted → Kept → Around → Type 0
AllByContent w kept left = (r : Rule) → IsNeeded (graph_in w left) (build_in w kept left left) r → r.decider ≡ content

-- Leftover copies went. Of the records that there were, wherever the build is stopped:
pub record HasRemembered {W : Type 0} (m : Meaning W) (w : Wanted) (map : Map) (old new : W) : Type 0 where
  pub left : Around
  pub kept : Map
  pub rest : LeavesRest (IsLeftAt w.graph (m.around old) map) (m.around old) map left kept
  -- what no rule makes that may start, and is no leftover copy, has its own
  pub others : (path : Path) → (IsLeftAt w.graph (m.around old) map path → ⊥) → MayStartNone (begun_with w kept (m.counts old) left) path →
      HasThroughout m old new path (λ around found. found ≡ map path)
  -- a leftover copy has its own, or none
  pub leftovers : (path : Path) → IsLeftAt w.graph (m.around old) map path → MayStartNone (begun_with w kept (m.counts old) left) path →
      HasThroughout m old new path (λ around found. (found ≡ map path) ⊎ (found ≡ None))
  -- Where what stood before told the truth, and by content, while no two contents that were met have one digest: what no needed and
  -- stale rule makes has its own, unless it is a leftover copy;
  pub spared : TellsTruth m (setting_in w (m.around old)) old → AllByContent w kept left → (path : Path) →
      (IsLeftAt w.graph (m.around old) map path → ⊥) → ((r : Rule) → IsMadeStale w kept left path r → ⊥) →
      HasThroughout m old new path (λ around found. AreDistinct (setting_in w left) around.met → found ≡ map path)
  -- such a leftover copy has its own, or none;
  pub spared_leftovers : TellsTruth m (setting_in w (m.around old)) old → AllByContent w kept left → (path : Path) →
      IsLeftAt w.graph (m.around old) map path → ((r : Rule) → IsMadeStale w kept left path r → ⊥) →
      HasThroughout m old new path (λ around found. AreDistinct (setting_in w left) around.met → (found ≡ map path) ⊎ (found ≡ None))
  -- and what one makes has its own, none, or that of the clean build.
  pub made : TellsTruth m (setting_in w (m.around old)) old → AllByContent w kept left → (path : Path) (r : Rule) →
      IsMadeStale w kept left path r → HasThroughout m old new path (λ around found. AreDistinct (setting_in w left) around.met →
      IsOneOf (map path) (clean_record (graph_in w left) (build_in w kept left left) r) found)

-- So builds do, in a world that tells and is sure, where the requested nodes are the graph's.
abbrev pub Remembers : {W : Type 0} → Meaning W → Wanted → Map → W → W → Type 0
Remembers m w map old new = m.tells new → m.sure new → are_below (length w.graph.nodes) w.requested ≡ true → HasRemembered m w map old new
