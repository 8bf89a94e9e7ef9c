-- Nothing is forgotten: what may be recorded of each path, wherever a run is stopped. What a stop could already have left of the banks as the
-- run began, by writes of before, is excepted.
use Rattle.std.specs.Prelude.{◌≡◌, ◌⊎◌, Option, None}
use Rattle.deciders.specs.declared.recorded.Rec.{Rec}
use Rattle.sign_store.specs.Ends.{image_in}
use Rattle.sign_store.specs.Tables.{Map}
use Rattle.world_api.specs.Around.{Around}
use Rattle.world_api.specs.Counts.{Counts}
use Rattle.world_api.specs.Meaning.{Meaning, IsImage, Surely, Throughout}
use Rattle.build_model.specs.Headline.{clean_record}
use Rattle.build_model.specs.Records.{AreDistinct}
use Rattle.build_model.specs.Rules.{Path, Rule}
use Rattle.build_means.specs.Builds.{Wanted, build_in, graph_in, setting_in}
use Rattle.build_run.specs.Goings.{Stays}
use Rattle.build_run.specs.Outsets.{LeavesRest}
use Rattle.build_run.specs.Remembering.{AllByContent, IsMadeStale, IsOneOf, MayStartNone, begun_with}
use Rattle.build_run.specs.Takes.{IsLeftAt}
use Rattle.build_run.specs.Truth.{TellsTruth}

-- at every moment of a run the banks are as a stop could have left them when it began
abbrev pub LeavesBanks : {W : Type 0} → Meaning W → W → W → Type 0
LeavesBanks m old new = Throughout m old new (λ around banks. IsImage m old banks)

-- or they stand for the records that they held then
abbrev pub LeavesRecords : {W : Type 0} → Meaning W → W → W → Type 0
LeavesRecords m old new = Throughout m old new (λ around banks. IsImage m old banks ⊎ (image_in banks ≡ image_in (m.seen old)))

-- or what they have for a path is so
abbrev pub HasSince : {W : Type 0} → Meaning W → W → W → Path → (Around → Option Rec → Type 0) → Type 0
HasSince m old new path IsSo = Surely m old new (λ around banks. IsImage m old banks ⊎ IsSo around (image_in banks path))

-- neither bank was written, and none was at any moment
pub record KeepsBanks {W : Type 0} (m : Meaning W) (old new : W) : Type 0 where
  pub stays : Stays m old new
  pub moments : LeavesBanks m old new

-- Leftover copies went, and what was wanted was built with the files and records behind them. Of the records that there were, at every moment
-- of which this is said:
pub record RemembersFrom (w : Wanted) (map : Map) (start : Around) (counts : Counts) (truth : Type 0)
    (Has : Path → (Around → Option Rec → Type 0) → Type 0) : Type 0 where
  pub left : Around
  pub kept : Map
  pub rest : LeavesRest (IsLeftAt w.graph start map) start map left kept
  -- what no rule makes that may start, and is no leftover copy, has its own
  pub others : (path : Path) → (IsLeftAt w.graph start map path → ⊥) → MayStartNone (begun_with w kept counts left) path →
      Has path (λ around found. found ≡ map path)
  -- a leftover copy has its own, or none
  pub leftovers : (path : Path) → IsLeftAt w.graph start map path → MayStartNone (begun_with w kept counts left) path →
      Has path (λ around found. (found ≡ map path) ⊎ (found ≡ None))
  -- Where what stood before told the truth, and by content, while no two contents that were met have one digest: what no needed and
  -- stale rule makes has its own, unless it is a leftover copy;
  pub spared : truth → AllByContent w kept left → (path : Path) → (IsLeftAt w.graph start map path → ⊥) →
      ((r : Rule) → IsMadeStale w kept left path r → ⊥) → Has path (λ around found. AreDistinct (setting_in w left) around.met → found ≡ map path)
  -- such a leftover copy has its own, or none;
  pub spared_leftovers : truth → AllByContent w kept left → (path : Path) → IsLeftAt w.graph start map path →
      ((r : Rule) → IsMadeStale w kept left path r → ⊥) →
      Has path (λ around found. AreDistinct (setting_in w left) around.met → (found ≡ map path) ⊎ (found ≡ None))
  -- and what one makes has its own, none, or that of the clean build.
  pub made : truth → AllByContent w kept left → (path : Path) (r : Rule) → IsMadeStale w kept left path r → Has path (λ around found.
      AreDistinct (setting_in w left) around.met → IsOneOf (map path) (clean_record (graph_in w left) (build_in w kept left left) r) found)

-- So it is at every moment of a run that built this, of the records that its banks held.
abbrev pub HasRememberedSince : {W : Type 0} → Meaning W → Wanted → W → W → Type 0
HasRememberedSince m w old new = RemembersFrom w (image_in (m.seen old)) (m.around old) (m.counts old)
    (TellsTruth m (setting_in w (m.around old)) old) (HasSince m old new)
