-- What a site has printed on standard output, from call to call.
use Rattle.std.specs.Prelude.{◌≡◌, ℕ, Bool, true, false, List, [], ◌∷◌, ◌++◌, length, Result, Ok, Err}
use Rattle.scons_base.specs.declared.ids.RuleId.{RuleId}
use Rattle.world_api.specs.Around.{Entry, Finished}
use Rattle.world_api.specs.Meaning.{Meaning}
use Rattle.world_api.specs.Printed.{SinkMeaning}
use Rattle.world_api.specs.Printing.{Cuts, Prints}
use Rattle.world_api.specs.declared.job.Outcome.{Outcome}
use Rattle.rule_graph.specs.Graphs.{RuleGraph}
use Rattle.rule_graph.specs.Rules.{are_below}
use Rattle.deciders.specs.declared.recorded.Rec.{Rec}
use Rattle.sign_store.specs.Stores.{map_of}
use Rattle.sign_store.specs.Tables.{Map}
use Rattle.sign_store.specs.declared.store.Store.{Store}
use Rattle.task_plan.specs.declared.want.PlanEvent.{PlanEvent}
use Rattle.task_plan.specs.declared.want.Want.{Want}
use Rattle.build_files.specs.declared.end.ListEnd.{ListEnd}
use Rattle.build_means.specs.Builds.{Wanted}
use Rattle.turn_means.specs.Laws.{is_due_now}
use Rattle.turn_means.specs.Standing.{Outset, IsOutset}
use Rattle.turn_means.specs.Writing.{Writes}
use Rattle.build_run.specs.Along.{IsAlong, IsDue, IsWantedOf, standing_of}
use Rattle.build_run.specs.Outsets.{HasRun, IsReadyFor}
use Rattle.build_run.specs.Sites.{most_jobs}
use Rattle.build_run.specs.StartTexts.{AreStepTexts, EndsPrinted, HasOwnText, HasPrinted}
use Rattle.build_run.specs.Whys.{IsWhyText, TellsReason}
use Rattle.build_run.specs.declared.account.Account.{Account}
use Rattle.build_run.specs.declared.building.Options.{Options}
use Rattle.build_run.specs.declared.end.BuildEnd.{BuildEnd}
use Rattle.build_run.specs.declared.site.Run.{Run}
use Rattle.build_run.specs.declared.site.Site.{Site}

-- ---- calls that print nothing

-- a log went on with endings alone
pub data AddsEndings (old : List Entry) : List Entry → Type 0 where
  none_added : AddsEndings old old
  one_added : {log : List Entry} (id : ℕ) (outcome : Outcome) → AddsEndings old log → AddsEndings old (log ++ Finished id outcome ∷ [])

-- No job started and nothing was printed: only running jobs wrote, and an end wasn't taken back.
pub record IsQuiet {W O E : Type 0} (m : Meaning W) (old new : Site W O E) : Type 0 where
  pub out : new.out.now ≡ old.out.now
  pub options : new.options ≡ old.options
  pub ended : new.account.now.is_ended ≡ false → old.account.now.is_ended ≡ false
  pub writes : m.tells new.world.now → Writes [] (m.around old.world.now) (m.around new.world.now)
  pub log : m.tells new.world.now → AddsEndings (m.around old.world.now).log (m.around new.world.now).log

-- ---- calls that print

-- nothing was printed, or a text, or a front of it
pub data PrintsLast {S : Type 0} (p : SinkMeaning S) (old new : S) (text : List ℕ) : Type 0 where
  nothing : new ≡ old → PrintsLast p old new text
  whole : Prints p old new text → PrintsLast p old new text
  cut : Cuts p old new text → PrintsLast p old new text

-- since the build began with this sink
abbrev pub SiteHasPrinted : {W O E : Type 0} → Meaning W → SinkMeaning O → Outset → O → Site W O E → Type 0
SiteHasPrinted m p o start site = HasPrinted p o site.options (m.around site.world.now) start site.out.now

-- A site has printed the texts of the rules that started, and until an end comes nothing more.
pub record IsPrinted {W O E : Type 0} (m : Meaning W) (p : SinkMeaning O) (o : Outset) (start : O) (site : Site W O E) : Type 0 where
  pub has : SiteHasPrinted m p o start site
  pub none : site.account.now.is_ended ≡ false → has.rest ≡ []

abbrev pub IsPrintedBy : {W O E T : Type 0} → Meaning W → SinkMeaning O → Outset → O → Site W O E → Result T ListEnd → Type 0
IsPrintedBy m p o start site (Ok value) = IsPrinted m p o start site
IsPrintedBy m p o start site (Err end) = SiteHasPrinted m p o start site

-- So turns print, in a world that tells and is sure, where standard output tells.
pub record PrintsAlong {W O E : Type 0} (m : Meaning W) (p : SinkMeaning O) (old new : Site W O E) : Type 0 where
  pub told : p.tells new.out.now → p.tells old.out.now
  pub prints : m.tells new.world.now → m.sure new.world.now → p.tells new.out.now → (o : Outset) → IsOutset o → IsAlong m o old →
      (start : O) → IsPrinted m p o start old → IsPrinted m p o start new

-- So does a turn that is wanted,
pub record TurnsPrinting {W O E : Type 0} (m : Meaning W) (p : SinkMeaning O) (old new : Site W O E) (wanted : Want)
    (result : Result PlanEvent ListEnd) : Type 0 where
  pub told : p.tells new.out.now → p.tells old.out.now
  pub prints : m.tells new.world.now → m.sure new.world.now → p.tells new.out.now → (o : Outset) → IsOutset o → IsAlong m o old →
      IsWantedOf (length old.run.now.tickets) (most_jobs old.options) old.run.now.plan wanted →
      (start : O) → IsPrinted m p o start old → IsPrintedBy m p o start new result

-- a rule that may start, with this record,
pub record MakesPrinting {W O E : Type 0} (m : Meaning W) (p : SinkMeaning O) (old new : Site W O E) (rule : RuleId) (rec : Rec)
    (result : Result PlanEvent ListEnd) : Type 0 where
  pub told : p.tells new.out.now → p.tells old.out.now
  pub prints : m.tells new.world.now → m.sure new.world.now → p.tells new.out.now → (o : Outset) → IsOutset o → IsAlong m o old →
      IsDue m o old rule rec → (start : O) → IsPrinted m p o start old → IsPrintedBy m p o start new result

-- a text says, of the files and records as they are, why the rule with this record runs
pub record SaysWhy {W O E : Type 0} (m : Meaning W) (site : Site W O E) (rule : RuleId) (rec : Rec) (why : List ℕ) : Type 0 where
  pub is : IsWhyText site.graph.now site.options rule.0 (map_of site.store.now) rec (m.around site.world.now) why
  pub tells : TellsReason site.graph.now site.options rule.0 (map_of site.store.now) rec (m.around site.world.now) why

-- and one that is due, where the text says why it runs.
pub record StartsPrinting {W O E T : Type 0} (m : Meaning W) (p : SinkMeaning O) (old new : Site W O E) (rule : RuleId) (rec : Rec)
    (why : List ℕ) (result : Result T ListEnd) : Type 0 where
  pub told : p.tells new.out.now → p.tells old.out.now
  pub prints : m.tells new.world.now → m.sure new.world.now → p.tells new.out.now → (o : Outset) → IsOutset o → IsAlong m o old →
      (due : IsDue m o old rule rec) → is_due_now (standing_of m old) due.model rec ≡ true → SaysWhy m old rule rec why →
      (start : O) → IsPrinted m p o start old → IsPrintedBy m p o start new result

-- ---- builds

-- all that is made is printed, whatever the build began with
pub record MakesPrinted {W O : Type 0} (m : Meaning W) (p : SinkMeaning O) (g : RuleGraph) (run : Run) (store : Store) (world : W) (account : Account)
    (options : Options) (out : O) (new : W) (new_account : Account) (new_out : O) : Type 0 where
  pub told : p.tells new_out → p.tells out
  pub prints : m.tells new → m.sure new → p.tells new_out → (o : Outset) → IsReadyFor m o g run store world account options →
      EndsPrinted p o options (m.around new) out new_out new_account.is_ended

-- what a run of a build began with
abbrev pub outset_of : {W : Type 0} (m : Meaning W) (w : Wanted) (map : Map) (old new : W) (behind : Map) (ended : Bool) →
    HasRun m w map old new behind ended → Outset
outset_of m w map old new behind ended ran = record { wanted = w; kept = ran.kept; counts = m.counts old; before = ran.left }

-- A build ran, and printed the texts of the rules that its log says it started, which are those that began by its steps.
pub record HasRunPrinting {W O : Type 0} (m : Meaning W) (p : SinkMeaning O) (w : Wanted) (map : Map) (options : Options) (old : W) (out : O)
    (new : W) (new_out : O) (behind : Map) (ended : Bool) : Type 0 where
  pub ran : HasRun m w map old new behind ended
  pub printed : HasPrinted p (outset_of m w map old new behind ended ran) options (m.around new) out new_out
  -- nothing else stands behind them, unless a fault came after which nothing new starts
  pub none : ended ≡ false → printed.rest ≡ []
  pub steps : AreStepTexts (HasOwnText (outset_of m w map old new behind ended ran) options (m.around new)) ran.runs.steps printed.text

-- So builds do, in a world that tells and is sure, where the requested nodes are the graph's, and where standard output tells.
pub record BuildPrints {W O : Type 0} (m : Meaning W) (p : SinkMeaning O) (w : Wanted) (map : Map) (options : Options) (old : W) (out : O)
    (new : W) (new_out : O) (behind : Map) (answer : BuildEnd) : Type 0 where
  pub told : p.tells new_out → p.tells out
  pub prints : m.tells new → m.sure new → p.tells new_out → are_below (length w.graph.nodes) w.requested ≡ true →
      HasRunPrinting m p w map options old out new new_out behind answer.is_ended
