-- What a build leaves of the records, from step to step.
use Rattle.std.specs.Prelude.{◌≡◌, true, false, List, [], ◌∷◌, Contains, Some, None}
use Rattle.scons_base.specs.declared.ids.RuleId.{RuleId}
use Rattle.deciders.specs.declared.recorded.Rec.{Rec}
use Rattle.world_api.specs.Around.{Around}
use Rattle.build_model.specs.Rules.{Path, Rule, Among}
use Rattle.build_model.specs.Moments.{Job as Given}
use Rattle.build_model.specs.Steps.{Step, Fresh, Began, Ended, Lacks, Halts, Build, began, present_record, IsDecided, IsRunning}
use Rattle.build_means.specs.Builds.{Kept, KeepsRecords, build_in}
use Rattle.build_means.specs.Records.{record_in}
use Rattle.run_means.specs.Ways.{IsWay}
use Rattle.turn_means.specs.Standing.{Outset, IsOutset, setting_at, Standing, IsAt}
use Rattle.turn_means.specs.Laws.{IsWeighed}
use Rattle.turn_means.specs.Writing.{Writes}

-- so far a build has come by its world
abbrev pub IsWayTo : Outset → List Given → Around → List Step → Type 0
IsWayTo o jobs around past = IsWay o.wanted o.kept o.counts o.before jobs around past

-- the build, if it ended with what stands around
abbrev pub build_at : Outset → Around → Build
build_at o around = build_in o.wanted o.kept o.before around

-- each path has the record that these steps leave, by what stands around
abbrev pub AreRecorded : Outset → Around → List Step → Kept → Type 0
AreRecorded o around past records = KeepsRecords o.wanted o.kept o.before around past records

-- this is the record of a rule over its dependencies, as they stand around
abbrev pub IsRecordOf : Outset → Around → Rule → Rec → Type 0
IsRecordOf o around r rec = record_in rec ≡ present_record (setting_at o) (build_at o around) r

-- no path but these has another record
abbrev pub KeepsOthers : List Path → Kept → Kept → Type 0
KeepsOthers paths old new = (path : Path) → (Contains paths path → ⊥) → new path ≡ old path

-- these have this one
abbrev pub HaveRecord : List Path → Rec → Kept → Type 0
HaveRecord paths rec records = (path : Path) → Contains paths path → records path ≡ Some rec

-- these have none
abbrev pub HaveNone : List Path → Kept → Type 0
HaveNone paths records = (path : Path) → Contains paths path → records path ≡ None

-- As a build begins each path has the record that it had.
abbrev pub RecordsBegin : Type 0
RecordsBegin = (o : Outset) (around : Around) → AreRecorded o around [] o.kept

-- A rule that is decided has the record that is kept of it once its action ended well.
pub record HasRecord (o : Outset) (s : Standing) (past : List Step) (r : Rule) (rec : Rec) : Type 0 where
  pub decided : IsDecided (setting_at o) (build_at o s.around) past r
  pub is : IsRecordOf o s.around r rec

abbrev pub WeighedHaveRecords : Type 0
WeighedHaveRecords = (o : Outset) (jobs : List Given) (s : Standing) (past : List Step) (rule : RuleId) (r : Rule) (rec : Rec) →
    IsOutset o → IsAt o jobs s past → s.ended ≡ false → IsWeighed o s rule r rec → HasRecord o s past r rec

-- While running jobs alone write, what steps left of the records is as it was, and so is the record that a rule which began is
-- to have.
pub record Stay (o : Outset) (old new : Around) (past : List Step) : Type 0 where
  pub records : (records : Kept) → AreRecorded o old past records → AreRecorded o new past records
  pub to_have : (r : Rule) (rec : Rec) → Among r (began past) → IsRecordOf o old r rec → IsRecordOf o new r rec

abbrev pub RecordsStay : Type 0
RecordsStay = (o : Outset) (jobs : List Given) (old new : Around) (past : List Step) → IsOutset o → IsWayTo o jobs old past →
    Writes [] old new → Stay o old new past

-- A rule that is found up to date, one that lacks a dependency, and a halt leave the records as they are.
pub record Leave (o : Outset) (around : Around) (past : List Step) (records : Kept) : Type 0 where
  pub fresh : (r : Rule) → (Among r (began past) → ⊥) → AreRecorded o around (Fresh r ∷ past) records
  pub lacks : (r : Rule) (path : Path) → AreRecorded o around (Lacks r path ∷ past) records
  pub halts : AreRecorded o around (Halts ∷ past) records

abbrev pub RecordsAreLeft : Type 0
RecordsAreLeft = (o : Outset) (around : Around) (past : List Step) (records : Kept) → AreRecorded o around past records →
    Leave o around past records

-- A rule began, and its targets have no record any more, whether its job started or was refused. The record that it is to have
-- is the same still.
pub record Begin (o : Outset) (old new : Around) (past : List Step) (r : Rule) (after : Kept) : Type 0 where
  pub started : AreRecorded o new (Began r ∷ past) after
  pub refused : AreRecorded o new (Ended r false ∷ Began r ∷ past) after
  pub to_have : (rec : Rec) → IsRecordOf o old r rec → IsRecordOf o new r rec

abbrev pub BegunHaveNone : Type 0
BegunHaveNone = (o : Outset) (jobs : List Given) (old new : Around) (past : List Step) (r : Rule) (records after : Kept) →
    IsOutset o → IsWayTo o jobs old past → IsDecided (setting_at o) (build_at o old) past r → Writes r.targets old new →
    AreRecorded o old past records → HaveNone r.targets after → KeepsOthers r.targets records after →
    Begin o old new past r after

-- Its action ended: where it did so well its targets have the record that it was to have, and else none has come.
pub record End (o : Outset) (old new : Around) (past : List Step) (r : Rule) (records : Kept) : Type 0 where
  pub well : (rec : Rec) (after : Kept) → IsRecordOf o old r rec → HaveRecord r.targets rec after →
      KeepsOthers r.targets records after → AreRecorded o new (Ended r true ∷ past) after
  pub failed : AreRecorded o new (Ended r false ∷ past) records

abbrev pub EndedHaveTheirs : Type 0
EndedHaveTheirs = (o : Outset) (jobs : List Given) (old new : Around) (past : List Step) (r : Rule) (records : Kept) →
    IsOutset o → IsWayTo o jobs old past → IsRunning past r → Writes [] old new → AreRecorded o old past records →
    End o old new past r records
