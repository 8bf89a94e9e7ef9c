-- That a build may be stopped at any moment: what a stop leaves of the files and of the banks tells the truth, and of a path
-- that is watched nothing is recorded that may not be.
use Rattle.std.specs.Prelude.{◌≡◌, ◌++◌, ◌∷◌, [], true, false, List, length, map, Contains}
use Rattle.scons_base.specs.declared.ids.RuleId.{RuleId}
use Rattle.deciders.specs.Records.{name_of}
use Rattle.deciders.specs.declared.recorded.Rec.{Rec}
use Rattle.rule_graph.specs.Graphs.{RuleGraph}
use Rattle.rule_graph.specs.Rules.{are_below}
use Rattle.sign_store.specs.Ends.{image_in}
use Rattle.sign_store.specs.Stores.{IsTicket}
use Rattle.sign_store.specs.declared.store.Store.{Store}
use Rattle.task_plan.specs.declared.want.Want.{Want}
use Rattle.world_api.specs.Around.{Around, Running, IsRunningTarget, given_of}
use Rattle.world_api.specs.Banks.{Banks}
use Rattle.world_api.specs.Meaning.{Meaning, IsImage, Surely}
use Rattle.build_model.specs.Rules.{Path, Setting}
use Rattle.build_model.specs.Records.{digested, named_digest}
use Rattle.build_means.specs.Builds.{Wanted}
use Rattle.build_means.specs.Graphs.{digest_by}
use Rattle.build_means.specs.Records.{record_in}
use Rattle.turn_means.specs.Laws.{HasMet}
use Rattle.turn_means.specs.Safety.{ActsAs, IsSafe, IsTicketOf, IsTrue}
use Rattle.turn_means.specs.Standing.{Outset, IsOutset}
use Rattle.build_run.specs.Along.{IsAlong, IsDue, IsReliable, IsWantedOf}
use Rattle.build_run.specs.Holds.{Busy}
use Rattle.build_run.specs.Outs.{ShareNone}
use Rattle.build_run.specs.Outsets.{IsReadyFor}
use Rattle.build_run.specs.Sites.{most_jobs}
use Rattle.build_run.specs.Truth.{IsSafeMoment, TellsTruth}
use Rattle.build_run.specs.Unmade.{HasOneMaker, IsNotUnmade, Since}
use Rattle.build_run.specs.Watches.{Watch, Allows, Covers, IsWatched, MayGo, MayPut}
use Rattle.build_run.specs.declared.account.Account.{Account}
use Rattle.build_run.specs.declared.building.Options.{Options}
use Rattle.build_run.specs.declared.site.Run.{Run}
use Rattle.build_run.specs.declared.site.Site.{Site}

-- ---- worlds

-- actions make what the law says, and digests are made by the functions that there are
pub record IsOfLaw (s : Setting) (around : Around) : Type 0 where
  pub acts : ActsAs s around
  pub digests : s.digest ≡ digest_by

-- whatever a stop leaves of the banks now is safe, if it was, and has of the watched path what it may
pub record IsSafeWorld {W : Type 0} (m : Meaning W) (k : Watch) (world : W) : Type 0 where
  pub of : IsOfLaw k.setting (m.around world)
  pub images : k.truth ≡ true → (banks : Banks) → IsImage m world banks → IsSafe k.setting (m.around world) (image_in banks)
  pub watched : (banks : Banks) → IsImage m world banks → IsWatched k (m.around world) (image_in banks)

-- so it is where the world tells and is sure
abbrev pub IsSafeNow : {W : Type 0} → Meaning W → Watch → W → Type 0
IsSafeNow m k world = m.tells world → m.sure world → IsSafeWorld m k world

-- whatever a stop leaves of the files, these banks tell the truth of it, and have of the watched path what they may
pub record IsKeptMoment (k : Watch) (around : Around) (banks : Banks) : Type 0 where
  pub safe : k.truth ≡ true → IsSafeMoment k.setting around banks
  pub watched : IsWatched k around (image_in banks)

-- it was safe at every moment between, and is so behind
pub record StaysSafe {W : Type 0} (m : Meaning W) (k : Watch) (old new : W) : Type 0 where
  pub moments : Surely m old new (IsKeptMoment k)
  pub now : IsSafeNow m k new

-- Calls on the world that keep it safe.
abbrev pub GoesSafely : {W : Type 0} → Meaning W → W → W → Type 0
GoesSafely m old new = (k : Watch) → IsSafeNow m k old → StaysSafe m k old new

-- So do calls that withdraw records of these paths, if the watched one may go where it is one of them.
abbrev pub TakesSafely : {W : Type 0} → Meaning W → (Path → Type 0) → W → W → Type 0
TakesSafely m may old new = (k : Watch) → (m.tells old → may k.path → k.goes ≡ true) → IsSafeNow m k old → StaysSafe m k old new

-- ---- tickets

-- a ticket is for a record that is true of what stands, and may be put: what it is of isn't unmade
pub record HasTrueRecord (k : Watch) (store : Store) (around : Around) (busy : Busy) : Type 0 where
  pub rec : Rec
  pub is : IsTicket store rec busy.ticket
  pub targets : rec.targets ≡ busy.hold.targets
  pub true_now : IsTrue k.setting around rec
  pub puts : MayPut k around rec
  pub made : Contains rec.targets k.path → Since k.start around.log (IsNotUnmade k.path)

-- a ticket is for the record that the running job of its rule is to have, and that may be put then: no other job makes what it is of
pub record HasOwnRecord (k : Watch) (store : Store) (around : Around) (busy : Busy) : Type 0 where
  pub rec : Rec
  pub is : IsTicket store rec busy.ticket
  pub targets : rec.targets ≡ busy.hold.targets
  pub each : (run : Running) → Contains around.running run → run.job.id ≡ busy.hold.rule.0 → IsTicketOf k.setting around.met run rec
  pub puts : MayPut k around rec
  pub alone : Contains rec.targets k.path → Since k.start around.log (HasOneMaker k.path busy.hold.rule.0)

-- what is held is true, unless the disk has refused, and what runs is to have the record of its ticket
pub record AreSafeIn {W : Type 0} (m : Meaning W) (k : Watch) (world : W) (store : Store) (rest busies : List Busy) (account : Account)
    : Type 0 where
  pub held : account.is_store_shut ≡ false → (busy : Busy) → Contains rest busy → HasTrueRecord k store (m.around world) busy
  pub tickets : (busy : Busy) → Contains busies busy → HasOwnRecord k store (m.around world) busy

abbrev pub AreSafe : {W O E : Type 0} → Meaning W → Watch → Site W O E → Type 0
AreSafe m k site = m.tells site.world.now → m.sure site.world.now →
    AreSafeIn m k site.world.now site.store.now site.run.now.held site.run.now.tickets site.account.now

-- a site is safe
pub record IsSafeSite {W O E : Type 0} (m : Meaning W) (k : Watch) (site : Site W O E) : Type 0 where
  pub world : IsSafeNow m k site.world.now
  pub tickets : AreSafe m k site

-- it was so at every moment between, and is so behind
pub record SiteStaysSafe {W O E : Type 0} (m : Meaning W) (k : Watch) (old new : Site W O E) : Type 0 where
  pub moments : Surely m old.world.now new.world.now (IsKeptMoment k)
  pub now : IsSafeSite m k new

-- Calls of a site that keep it safe.
abbrev pub SiteGoesSafely : {W O E : Type 0} → Meaning W → Site W O E → Site W O E → Type 0
SiteGoesSafely m old new = (k : Watch) → IsSafeSite m k old → SiteStaysSafe m k old new

-- So do calls that withdraw the records of these paths, if the watched one may go where it is one of them.
abbrev pub SiteTakesSafely : {W O E : Type 0} → Meaning W → List Path → Site W O E → Site W O E → Type 0
SiteTakesSafely m paths old new = (k : Watch) →
    (m.tells old.world.now → m.sure old.world.now → MayGo k (m.around old.world.now) paths) → IsSafeSite m k old →
    SiteStaysSafe m k old new

-- A further record is held, and it is true: so they are safe with it.
abbrev pub HoldsSafely : {W O E : Type 0} → Meaning W → Busy → Site W O E → Site W O E → Type 0
HoldsSafely m busy old new = (k : Watch) → IsSafeNow m k old.world.now →
    (m.tells old.world.now → m.sure old.world.now →
    AreSafeIn m k old.world.now old.store.now (old.run.now.held ++ busy ∷ []) old.run.now.tickets old.account.now) →
    SiteStaysSafe m k old new

-- ---- starts

-- A record is that of what its dependencies hold, which was met. No running job writes them, nor does its own action.
pub record IsOverFiles (s : Setting) (around : Around) (rec : Rec) : Type 0 where
  pub digests : map (digested s (record_in rec).hash) (given_of around.tree (map name_of rec.deps)) ≡ map named_digest (record_in rec).dependencies
  pub met : HasMet around
  pub still : (path : Path) → Contains (map name_of rec.deps) path → IsRunningTarget around.running path → ⊥
  pub apart : ShareNone rec.targets (map name_of rec.deps)

-- and its rule may be started with it
pub record IsStartable (k : Watch) (around : Around) (rec : Rec) : Type 0 where
  pub over : IsOverFiles k.setting around rec
  pub allows : Allows k around rec

abbrev pub IsStartableNow : {W : Type 0} → Meaning W → Watch → W → Rec → Type 0
IsStartableNow m k world rec = m.tells world → m.sure world → IsStartable k (m.around world) rec

-- So its action starts.
abbrev pub StartsSafely : {W O E : Type 0} → Meaning W → Site W O E → Site W O E → Rec → Type 0
StartsSafely m old new rec = (k : Watch) → IsSafeSite m k old → IsStartableNow m k old.world.now rec → SiteStaysSafe m k old new

-- a rule with this record is weighed in a build that goes along from some outset
pub record IsWeighedSome {W O E : Type 0} (m : Meaning W) (k : Watch) (site : Site W O E) (rule : RuleId) (rec : Rec) : Type 0 where
  pub over : IsOverFiles k.setting (m.around site.world.now) rec
  pub o : Outset
  pub outset : IsOutset o
  pub covers : Covers k o
  pub along : IsAlong m o site
  pub due : IsDue m o site rule rec

abbrev pub IsWeighedNow : {W O E : Type 0} → Meaning W → Watch → Site W O E → RuleId → Rec → Type 0
IsWeighedNow m k site rule rec = m.tells site.world.now → m.sure site.world.now → IsWeighedSome m k site rule rec

-- So it is found up to date, or its action starts.
abbrev pub DecidesSafely : {W O E : Type 0} → Meaning W → Site W O E → Site W O E → RuleId → Rec → Type 0
DecidesSafely m old new rule rec = (k : Watch) → IsSafeSite m k old → IsWeighedNow m k old rule rec → SiteStaysSafe m k old new

-- ---- turns

-- a build goes along from some outset, and the watch is over what it may start
pub record IsAlongSome {W O E : Type 0} (m : Meaning W) (k : Watch) (site : Site W O E) : Type 0 where
  pub o : Outset
  pub outset : IsOutset o
  pub covers : Covers k o
  pub along : IsAlong m o site

-- so it does where its world tells and is sure
abbrev pub IsAlongNow : {W O E : Type 0} → Meaning W → Watch → Site W O E → Type 0
IsAlongNow m k site = m.tells site.world.now → m.sure site.world.now → IsAlongSome m k site

-- So turns are safe, whatever the build began with.
abbrev pub TurnsSafely : {W O E : Type 0} → Meaning W → Site W O E → Site W O E → Type 0
TurnsSafely m old new = (k : Watch) → IsAlongNow m k old → IsSafeSite m k old → SiteStaysSafe m k old new

-- so is one that is wanted, where its plan is reliable unless it has halted
abbrev pub TurnsSafelyAs : {W O E : Type 0} → Meaning W → Site W O E → Site W O E → Want → Type 0
TurnsSafelyAs m old new wanted =
    ((old.run.now.plan.halted ≡ false → IsReliable old.run.now.plan) →
    IsWantedOf (length old.run.now.tickets) (most_jobs old.options) old.run.now.plan wanted) → TurnsSafely m old new

-- ---- builds

-- a build has set out from some outset, and the watch is over what it may start
pub record HasOutset {W : Type 0} (m : Meaning W) (k : Watch) (g : RuleGraph) (run : Run) (store : Store) (world : W) (account : Account)
    (options : Options) : Type 0 where
  pub o : Outset
  pub covers : Covers k o
  pub ready : IsReadyFor m o g run store world account options

-- So all turns are safe, where the build has set out.
abbrev pub MakesSafely : {W : Type 0} → Meaning W → RuleGraph → Run → Store → W → Account → Options → W → Type 0
MakesSafely m g run store world account options new = (k : Watch) →
    (m.tells world → m.sure world → HasOutset m k g run store world account options) → IsSafeNow m k world → StaysSafe m k world new

-- actions make what the law says, where the world tells and is sure
abbrev pub IsOfLawNow : {W : Type 0} → Meaning W → Setting → W → Type 0
IsOfLawNow m s world = m.tells world → m.sure world → IsOfLaw s (m.around world)

-- what stands told the truth at every moment between, and does so behind, where actions make what they made before
pub record StaysTrue {W : Type 0} (m : Meaning W) (s : Setting) (old new : W) : Type 0 where
  pub moments : Surely m old new (IsSafeMoment s)
  pub now : TellsTruth m s new
  pub law : IsOfLawNow m s new

-- A build tells the truth wherever it is stopped, whatever it answers, where what stood before told the truth, nothing ran, and
-- the requested nodes are the graph's. Of the world it is asked only that it tells and is sure.
abbrev pub BuildsSafely : {W : Type 0} → Meaning W → Wanted → W → W → Type 0
BuildsSafely m w old new = (s : Setting) → IsOfLawNow m s old → TellsTruth m s old →
    are_below (length w.graph.nodes) w.requested ≡ true → StaysTrue m s old new
