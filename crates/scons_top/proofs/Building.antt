-- What a run built, told of the world as the run found it.
use Rattle.std.proofs.Common.{◌≡◌, ◌++◌, ◌∙◌, inl, inr, refl, sym, subst, ap, ℕ, Bool, List, [], true, false, Some}
use Rattle.std.specs.Prelude.{◌≢◌, Result, Ok, Err, IsErrAnd}
use Rattle.std.proofs.lemmas.Bool.{false≢true}
use Rattle.scons_base.specs.Rising.{Rose}
use Rattle.world_api.specs.declared.disk.Bank.TheVariants.{A, B}
use Rattle.world_api.specs.Around.{Around, Entry}
use Rattle.world_api.specs.Calls.{Asks}
use Rattle.world_api.specs.Causes.{Later}
use Rattle.world_api.specs.Counts.{Counts}
use Rattle.world_api.specs.Looks.{Looks}
use Rattle.world_api.specs.Meaning.{Meaning, BanksKept}
use Rattle.world_api.proofs.Looking.{looks_joined, looks_same}
use Rattle.sign_store.specs.Ends.{image_in}
use Rattle.sign_store.specs.Images.{image_of}
use Rattle.sign_store.specs.Tables.{Map}
use Rattle.build_model.specs.Rules.{Path}
use Rattle.build_means.specs.Builds.{Wanted, KeepsRecords, Rests, Runs, Succeeded, setting_in}
use Rattle.build_files.proofs.Left.{none_runs}
use Rattle.build_run.specs.Outsets.{AreRight, GoesByContent, HasRun, HasSucceeded, IsCleanly, LeavesRest, StandFor}
use Rattle.build_run.specs.Takes.{IsLeftAt}
use Rattle.build_run.specs.Truth.{TellsTruth}
use Rattle.world_mem.proofs.Backs.{same_around}
use Rattle.scons_words.specs.declared.words.Words.{Words}
use Rattle.scons_top.specs.Builds.{AskForBuild, BeginsStore, EndsBefore, RunBuilds}
use Rattle.scons_top.specs.Stopping.{RunsSafely}
use Rattle.scons_top.specs.declared.report.Report.{Report}
use Rattle.scons_top.specs.declared.stop.Stop.{Stop}
use Rattle.build_run.specs.Skips.{AreSkips}
use Rattle.rule_graph.specs.declared.build_fault.BuildFault.{BuildFault}
use Rattle.scons_top.proofs.Causing.{rose_on}
use Rattle.std.proofs.lemmas.List.{append_cancel_left}
use Rattle.build_run.proofs.Counting.{rose_so}
use Rattle.build_run.specs.Unrecorded.{CountsJobs, HasCounted}

-- looks

-- where nothing runs, what stands around is the same after looks
pub around_asked : (a b : Around) → a.running ≡ [] → Asks a b → b ≡ a
around_asked a b idle asks =
    let none = λ (path : List ℕ). none_runs a.running path idle in
    same_around b a (λ path. asks.files path (none path)) asks.dirs (λ path. asks.stamps path (none path))
    asks.running asks.log asks.met asks.law asks.top

-- and so are the records of the banks
pub records_kept : {W : Type 0} (m : Meaning W) (a b : W) → BanksKept m a b → image_in (m.seen b) ≡ image_in (m.seen a)
records_kept m a b kept =
    ap (λ bytes. image_of bytes (m.seen b B)) (kept A).same ∙ ap (λ bytes. image_of (m.seen a A) bytes) (kept B).same

-- jobs that are counted

-- where no count fell behind
jobs_on : (old mid new : Counts) (memory : Bool) (behind : Map) (entries : List Entry) → Later mid new → CountsJobs old mid memory behind entries
    → CountsJobs old new memory behind entries
jobs_on old mid new memory behind entries later jobs = record {
  failed = rose_so _ _ _ _ jobs.failed later.action;
  broken = rose_so _ _ _ _ jobs.broken later.start;
  few = λ none. jobs.few (λ rose. none (rose_on old.disk_faults mid.disk_faults new.disk_faults rose later.disk));
}

module _ {W : Type 0} (m : Meaning W) (w : Wanted) (map : Map) (old new : W) (behind : Map) (ended memory : Bool) where
  log_grown : (run : HasRun m w map old new behind ended) → (m.around new).log ≡ (m.around old).log ++ run.runs.log.entries
  log_grown run = run.runs.log.grown ∙ ap (λ (log : List Entry). log ++ run.runs.log.entries) run.rest.log

  -- however its steps are told, a build started the same jobs: those that the log grew by
  pub jobs_of : (run : HasRun m w map old new behind ended) → HasCounted m w map old new behind ended memory
      → CountsJobs (m.counts old) (m.counts new) memory behind run.runs.log.entries
  jobs_of run counted =
      let same = append_cancel_left (m.around old).log counted.run.runs.log.entries run.runs.log.entries (sym (log_grown counted.run) ∙ log_grown run) in
      subst (λ (entries : List Entry). CountsJobs (m.counts old) (m.counts new) memory behind entries) same counted.jobs

-- what was done, from what was around, the counts and the records

-- a run of a build, with what it skipped, and what it counted of its jobs
pub record SkipsBy {W : Type 0} (m : Meaning W) (w : Wanted) (map : Map) (old new : W) (behind : Map) (ended : Bool) (found : List BuildFault)
    (skipped : List (Path × Path)) (memory : Bool) : Type 0 where
  pub run : HasRun m w map old new behind ended
  pub skips : ended ≡ false → AreSkips w run.kept run.left (m.around new) run.runs.steps found skipped
  pub jobs : CountsJobs (m.counts old) (m.counts new) memory behind run.runs.log.entries

record RanFrom {W : Type 0} (m : Meaning W) (w : Wanted) (map : Map) (start : Around) (counts : Counts) (new : W)
    (behind : Map) (ended : Bool) (found : List BuildFault) (skipped : List (Path × Path)) (memory : Bool) (truth : Type 0) : Type 0 where
  left : Around
  kept : Map
  rest : LeavesRest (IsLeftAt w.graph start map) start map left kept
  runs : Runs w kept counts left (m.around new)
  records : (Rose counts.disk_faults (m.counts new).disk_faults → ⊥) → KeepsRecords w kept left (m.around new) runs.steps behind
  rests : ended ≡ false → Rests w kept left (m.around new) runs.steps
  stored : ended ≡ false → StandFor m new behind
  right : truth → GoesByContent w kept left (m.around new) → AreRight w kept left (m.around new) runs.steps
  skips : ended ≡ false → AreSkips w kept left (m.around new) runs.steps found skipped
  jobs : CountsJobs counts (m.counts new) memory behind runs.log.entries

record SucceededFrom {W : Type 0} (m : Meaning W) (w : Wanted) (map : Map) (start : Around) (counts : Counts) (new : W)
    (behind : Map) (truth : Type 0) : Type 0 where
  left : Around
  kept : Map
  rest : LeavesRest (IsLeftAt w.graph start map) start map left kept
  succeeded : Succeeded w kept counts left (m.around new)
  records : KeepsRecords w kept left (m.around new) succeeded.runs.steps behind
  stored : StandFor m new behind
  clean : truth → GoesByContent w kept left (m.around new) → IsCleanly w kept left (m.around new) succeeded.runs.steps

module _ {W : Type 0} (m : Meaning W) (w : Wanted) (before after : Map) (a b new : W) (behind : Map)
    (around : m.around b ≡ m.around a) (counts : m.counts b ≡ m.counts a) (records : after ≡ before) where
  pub truth_on : RunsSafely m a b → TellsTruth m (setting_in w (m.around a)) a → TellsTruth m (setting_in w (m.around b)) b
  truth_on safe told =
      subst (λ x. TellsTruth m (setting_in w x) b) (sym around)
      (safe (setting_in w (m.around a)) (λ tells sure. record { acts = refl; digests = refl }) told).now

  pub run_back : RunsSafely m a b → (ended : Bool) (found : List BuildFault) (skipped : List (Path × Path)) (memory : Bool)
      → SkipsBy m w after b new behind ended found skipped memory → SkipsBy m w before a new behind ended found skipped memory
  run_back safe ended found skipped memory by =
      let h = by.run in
      let truth = TellsTruth m (setting_in w (m.around b)) b in
      let r : RanFrom m w after (m.around b) (m.counts b) new behind ended found skipped memory truth =
      record {
        left = h.left;
        kept = h.kept;
        rest = h.rest;
        runs = h.runs;
        records = h.records;
        rests = h.rests;
        stored = h.stored;
        right = h.right;
        skips = by.skips;
        jobs = by.jobs;
      } in
      let one = subst (λ x. RanFrom m w after x (m.counts b) new behind ended found skipped memory truth) around r in
      let two = subst (λ c. RanFrom m w after (m.around a) c new behind ended found skipped memory truth) counts one in
      let back = subst (λ (map : Map). RanFrom m w map (m.around a) (m.counts a) new behind ended found skipped memory truth) records two in
      record {
        run = record {
          left = back.left;
          kept = back.kept;
          rest = back.rest;
          runs = back.runs;
          records = back.records;
          rests = back.rests;
          stored = back.stored;
          right = λ told. back.right (truth_on safe told);
        };
        skips = back.skips;
        jobs = back.jobs;
      }

  pub success_back : RunsSafely m a b → HasSucceeded m w after b new behind → HasSucceeded m w before a new behind
  success_back safe h =
      let truth = TellsTruth m (setting_in w (m.around b)) b in
      let r : SucceededFrom m w after (m.around b) (m.counts b) new behind truth =
      record {
        left = h.left;
        kept = h.kept;
        rest = h.rest;
        succeeded = h.succeeded;
        records = h.records;
        stored = h.stored;
        clean = h.clean;
      } in
      let one = subst (λ x. SucceededFrom m w after x (m.counts b) new behind truth) around r in
      let two = subst (λ c. SucceededFrom m w after (m.around a) c new behind truth) counts one in
      let back = subst (λ (map : Map). SucceededFrom m w map (m.around a) (m.counts a) new behind truth) records two in
      record {
        left = back.left;
        kept = back.kept;
        rest = back.rest;
        succeeded = back.succeeded;
        records = back.records;
        stored = back.stored;
        clean = λ told. back.clean (truth_on safe told);
      }

-- looks behind a build that rests

-- all that a stop may leave of the banks it could have left before
stand_looked : {W : Type 0} (m : Meaning W) (a b : W) (map : Map) → BanksKept m a b → StandFor m a map → StandFor m b map
stand_looked m a b map same stands banks image = stands banks (λ bank. (same bank).no_more (banks bank) (image bank))

-- what was done, up to what is around and the count of the disk
record RanTo {W : Type 0} (m : Meaning W) (w : Wanted) (map : Map) (old : W) (end : Around) (disk : ℕ) (behind : Map) (ended : Bool)
    (found : List BuildFault) (skipped : List (Path × Path)) (after : Counts) (memory : Bool) : Type 0 where
  left : Around
  kept : Map
  rest : LeavesRest (IsLeftAt w.graph (m.around old) map) (m.around old) map left kept
  runs : Runs w kept (m.counts old) left end
  records : (Rose (m.counts old).disk_faults disk → ⊥) → KeepsRecords w kept left end runs.steps behind
  rests : ended ≡ false → Rests w kept left end runs.steps
  right : TellsTruth m (setting_in w (m.around old)) old → GoesByContent w kept left end → AreRight w kept left end runs.steps
  skips : ended ≡ false → AreSkips w kept left end runs.steps found skipped
  jobs : CountsJobs (m.counts old) after memory behind runs.log.entries

record SucceededTo {W : Type 0} (m : Meaning W) (w : Wanted) (map : Map) (old : W) (end : Around) (behind : Map) : Type 0 where
  left : Around
  kept : Map
  rest : LeavesRest (IsLeftAt w.graph (m.around old) map) (m.around old) map left kept
  succeeded : Succeeded w kept (m.counts old) left end
  records : KeepsRecords w kept left end succeeded.runs.steps behind
  clean : TellsTruth m (setting_in w (m.around old)) old → GoesByContent w kept left end → IsCleanly w kept left end succeeded.runs.steps

module _ {W : Type 0} (m : Meaning W) (w : Wanted) (map : Map) (old a b : W) (behind : Map)
    (around : m.around b ≡ m.around a) (same : BanksKept m a b) where
  pub run_on : Later (m.counts a) (m.counts b) → (ended : Bool) (found : List BuildFault) (skipped : List (Path × Path)) (memory : Bool)
      → SkipsBy m w map old a behind ended found skipped memory → SkipsBy m w map old b behind ended found skipped memory
  run_on later ended found skipped memory by =
      let h = by.run in
      let first = (m.counts old).disk_faults in
      let disk = (m.counts a).disk_faults in
      let r : RanTo m w map old (m.around a) disk behind ended found skipped (m.counts b) memory =
      record {
        left = h.left;
        kept = h.kept;
        rest = h.rest;
        runs = h.runs;
        records = h.records;
        rests = h.rests;
        right = h.right;
        skips = by.skips;
        jobs = jobs_on (m.counts old) (m.counts a) (m.counts b) memory behind h.runs.log.entries later by.jobs;
      } in
      let on = subst (λ x. RanTo m w map old x disk behind ended found skipped (m.counts b) memory) (sym around) r in
      record {
        run = record {
          left = on.left;
          kept = on.kept;
          rest = on.rest;
          runs = on.runs;
          records = λ none. on.records (λ rose. none (rose_on first disk (m.counts b).disk_faults rose later.disk));
          rests = on.rests;
          stored = λ is. stand_looked m a b behind same (h.stored is);
          right = on.right;
        };
        skips = on.skips;
        jobs = on.jobs;
      }

  pub success_on : HasSucceeded m w map old a behind → HasSucceeded m w map old b behind
  success_on h =
      let r : SucceededTo m w map old (m.around a) behind =
      record { left = h.left; kept = h.kept; rest = h.rest; succeeded = h.succeeded; records = h.records; clean = h.clean } in
      let on = subst (λ x. SucceededTo m w map old x behind) (sym around) r in
      record {
        left = on.left;
        kept = on.kept;
        rest = on.rest;
        succeeded = on.succeeded;
        records = on.records;
        stored = stand_looked m a b behind same h.stored;
        clean = on.clean;
      }

-- a run that had looked before

pub ends_looked : {W : Type 0} (m : Meaning W) (a b new : W) → Looks m a b → EndsBefore m b new → EndsBefore m a new
ends_looked m a b new looks (inl more) = inl (looks_joined m a b new looks more)
ends_looked m a b new looks (inr begun) =
    inr (record { looked = begun.looked; looks = looks_joined m a b begun.looked looks begun.looks; begins = begun.begins })

-- a run that stops
pub stops : {W : Type 0} (m : Meaning W) (said : Words) (old new : W) (r : Result Report Stop) (P : Stop → Type 0) → IsErrAnd r P
    → EndsBefore m old new → RunBuilds m said old new r
stops m said old new (Ok report) P is ends = absurd is
stops m said old new (Err stop) P is ends = λ ask tells sure. ends

pub stops_begun : {W : Type 0} (m : Meaning W) (said : Words) (old new : W) (r : Result Report Stop) (P : Stop → Type 0) → IsErrAnd r P
    → BeginsStore m old new → RunBuilds m said old new r
stops_begun m said old new r P is begins =
    stops m said old new r P is (inr (record { looked = old; looks = looks_same m old; begins = begins }))

-- a run that builds isn't asked to do these
pub no_help : {P : Type 0} (said : Words) → said.help ≡ true → AskForBuild said → P
no_help said is ask = absurd (false≢true (sym ask.help ∙ is))

pub no_clean : {P : Type 0} (said : Words) → said.clean ≡ true → AskForBuild said → P
no_clean said is ask = absurd (false≢true (sym ask.clean ∙ is))

pub no_dry : {P : Type 0} (said : Words) → said.dry ≡ true → AskForBuild said → P
no_dry said is ask = absurd (false≢true (sym ask.dry ∙ is))

pub no_load : {P : Type 0} (said : Words) (rules : ℕ) → said.load ≡ Some rules → AskForBuild said → P
no_load said rules is ask = let no = sym is ∙ ask.load in absurd (cc)

-- the words that were read
pub words_said : {E : Type 0} (read : Result Words E) (words said : Words) → read ≡ Ok words → read ≡ Ok said → words ≡ said
words_said read words said one other = let same = sym one ∙ other in cc
