-- A path that is watched through a build: what may be recorded of it, wherever the build is stopped.
use Rattle.std.specs.Prelude.{◌≡◌, Bool, true, List, Option, Some, None, Contains}
use Rattle.deciders.specs.declared.recorded.Rec.{Rec}
use Rattle.sign_store.specs.Tables.{Map}
use Rattle.world_api.specs.Around.{Around, Entry}
use Rattle.build_model.specs.Rules.{Path, Rule, Record, Setting, Among}
use Rattle.build_model.specs.Moments.{Job as Given}
use Rattle.build_model.specs.Records.{AreDistinct}
use Rattle.build_model.specs.Steps.{Step, present_record}
use Rattle.build_means.specs.Records.{record_in}
use Rattle.run_means.specs.Turns.{MayBegin}
use Rattle.turn_means.specs.Recording.{IsWayTo, build_at}
use Rattle.turn_means.specs.Standing.{Outset, setting_at}
use Rattle.build_run.specs.Unmade.{HasNoMaker, HasNoneUnmade, Since}

-- when anything is said of it: never, always, or as long as no two contents that were met have one digest
pub data Scope : Type 0 where
  Never : Scope
  Always : Scope
  WhileDistinct : Scope

-- the log as the build began, whether what stood before told the truth, and a path: when anything is said of it, the record that it
-- had, whether it may come to have none, and the record that may be put there, if any
pub record Watch : Type 0 where
  pub setting : Setting
  pub start : List Entry
  pub truth : Bool
  pub scope : Scope
  pub path : Path
  pub had : Option Rec
  pub goes : Bool
  pub due : Option Record

abbrev pub IsWithin : Scope → Setting → Around → Type 0
IsWithin Never s around = ⊥
IsWithin Always s around = Unit {0}
IsWithin WhileDistinct s around = AreDistinct s around.met

-- something is said of the watched path now
abbrev pub Minds : Watch → Around → Type 0
Minds k around = IsWithin k.scope k.setting around

-- this is the record that the path had, none, or the one that may be put
pub data MayHave (k : Watch) (found : Option Rec) : Type 0 where
  had_before : found ≡ k.had → MayHave k found
  has_none : k.goes ≡ true → found ≡ None → MayHave k found
  has_due : (rec : Rec) → k.due ≡ Some (record_in rec) → found ≡ Some rec → MayHave k found

-- these records have no other one for it, and none while it is unmade
pub record IsWatched (k : Watch) (around : Around) (records : Map) : Type 0 where
  pub may : Minds k around → MayHave k (records k.path)
  pub none : Since k.start around.log (HasNoneUnmade k.path (records k.path))

-- the records of these paths may be withdrawn
abbrev pub MayGo : Watch → Around → List Path → Type 0
MayGo k around paths = Minds k around → Contains paths k.path → k.goes ≡ true

-- this record may be put
abbrev pub MayPut : Watch → Around → Rec → Type 0
MayPut k around rec = Minds k around → Contains rec.targets k.path → k.due ≡ Some (record_in rec)

-- a rule may be started with this record: those of its targets may be withdrawn, and then this one put; and no job has started for
-- them before
pub record Allows (k : Watch) (around : Around) (rec : Rec) : Type 0 where
  pub goes : MayGo k around rec.targets
  pub puts : MayPut k around rec
  pub first : Contains rec.targets k.path → Since k.start around.log (HasNoMaker k.path)

-- On some way of a build that began so its rule may begin: it may be decided then, and is due.
pub record MayStart (o : Outset) (r : Rule) : Type 0 where
  pub jobs : List Given
  pub around : Around
  pub past : List Step
  pub way : IsWayTo o jobs around past
  pub may : MayBegin o.wanted o.kept o.before around past r

-- it began with this log, and whichever rule may start that makes the path, this is its record then
pub record Covers (k : Watch) (o : Outset) : Type 0 where
  pub start : o.before.log ≡ k.start
  pub each : (r : Rule) → (starts : MayStart o r) → Minds k starts.around → Among k.path r.targets →
      (k.goes ≡ true) × (k.due ≡ Some (present_record (setting_at o) (build_at o starts.around) r))
