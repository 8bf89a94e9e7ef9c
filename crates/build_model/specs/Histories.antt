-- Histories: edits, builds that ended well or not, and builds that were stopped, one after another.
use Rattle.std.specs.Prelude.{◌≡◌, ◌⊎◌, ℕ, List, None}
use Rattle.build_model.specs.Rules.{Path, Bytes, Digest, Content, Tree, content, Rule, Records, Among}
use Rattle.build_model.specs.Records.{AreDistinct}
use Rattle.build_model.specs.Steps.{Step, Build, IsRun, Succeeds}
use Rattle.build_model.specs.Graphs.{Graph, IsGraph, setting, rule_at}
use Rattle.build_model.specs.Laws.{TestsDue, IsBuild}
use Rattle.build_model.specs.Headline.{IsNeeded, IsBuilt}
use Rattle.build_model.specs.Leaving.{IsRecordAfter, IsUntouched}

-- what actions make of what they are given, whoever calls for them
abbrev pub Act : Type 0
Act = ℕ → List Bytes → List Path → List (Path × Content) → Path → Content

-- no path has a record
abbrev pub no_records : Records
no_records p = None

-- An edit: what changed has no record, or is no file any more. So is what a stop leaves at targets of actions that ran.
abbrev pub IsEdit : Tree → Records → Tree → Type 0
IsEdit t m u = (p : Path) → (t p ≡ u p) ⊎ ((u p ≡ None) ⊎ (m p ≡ None))

-- a build begins with this tree and these records, and meets more contents
pub record BeginsWith (act : Act) (digest : ℕ → Bytes → Digest) (t : Tree) (m : Records) (met : List Bytes) (g : Graph) (b : Build) : Type 0 where
  pub act_is : g.act ≡ act
  pub digest_is : g.digest ≡ digest
  pub tree : b.before ≡ t
  pub records : b.records ≡ m
  pub met_more : (bytes : Bytes) → Among bytes met → Among bytes b.met

-- A history ends with this tree, these records and these contents met. It begins without records; then come edits, and
-- builds of any graph by any deciders, as far as they came: each is the list of the steps that it took.
pub data IsHistory (act : Act) (digest : ℕ → Bytes → Digest) : Tree → Records → List Bytes → Type 0 where
  begins : (t : Tree) (met : List Bytes) → IsHistory act digest t no_records met
  edited : {t : Tree} {m : Records} {met : List Bytes} (u : Tree) → IsEdit t m u → IsHistory act digest t m met → IsHistory act digest u m met
  built : {t : Tree} {m : Records} {met : List Bytes} (g : Graph) (b : Build) (steps : List Step) (later : Records) →
      BeginsWith act digest t m met g b → IsBuild (setting g b.before) b steps → IsUntouched b steps →
      ((p : Path) → IsRecordAfter (setting g b.before) b steps later p) → IsHistory act digest t m met →
      IsHistory act digest b.after later b.met

-- every needed rule goes by content, and no two contents that were met share a digest
pub record GoesByContent (g : Graph) (b : Build) : Type 0 where
  pub tests : (r : Rule) → IsNeeded g b r → TestsDue (setting g b.before) b r
  pub distinct : AreDistinct (setting g b.before) b.met
  pub decider : (r : Rule) → IsNeeded g b r → r.decider ≡ content

-- After any history a build by content that ends well equals a clean build.
abbrev pub HistoriesEndClean : Type 0
HistoriesEndClean = (act : Act) (digest : ℕ → Bytes → Digest) (t : Tree) (m : Records) (met : List Bytes) → IsHistory act digest t m met →
    (g : Graph) (b : Build) (steps : List Step) → BeginsWith act digest t m met g b → IsGraph g → GoesByContent g b →
    ((p : Path) → rule_at g b.before p ≡ None → b.before p ≡ b.after p) → IsRun (setting g b.before) b steps →
    Succeeds (setting g b.before) b steps → IsBuilt g b steps
