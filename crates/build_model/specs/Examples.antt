-- Builds that meet what laws ask: a source that includes a generated header, built from nothing, and then again; the same at
-- two jobs, and where the header's action fails; two rules that need each other; and one that is always carried out.
use Rattle.std.specs.Prelude.{◌≡◌, ◌++◌, Bool, true, false, List, [], ◌∷◌, Some, None, if◌then◌else◌, is_none}
use Rattle.std.specs.Str.{bytes_eq}
use Rattle.build_model.specs.Rules.{Path, Content, Tree, content, Rule, Records}
use Rattle.build_model.specs.Needs.{IsCycle, IsBuildOrder}
use Rattle.build_model.specs.Contents.{in_tree, found_in}
use Rattle.build_model.specs.Steps.{Step, Fresh, Began, Ended, Build, Succeeds}
use Rattle.build_model.specs.Moments.{Job, IsCourse}
use Rattle.build_model.specs.Graphs.{Graph, setting, rule_at, clean_build}
use Rattle.build_model.specs.Laws.{NeededIn, NeedsIn, TestsDue}
use Rattle.build_model.specs.Resting.{IsAtRest, whole_found}
use Rattle.build_model.specs.OneJob.{TakesFirst, TakesInOrder, SeesReady, SeesMissing}
use Rattle.build_model.specs.Waiting.{WaitsRightly}
use Rattle.build_model.specs.Headline.{clean_record, IsNeeded, IsStaleBefore, BuildsByContent, IsAgain}
use Rattle.build_model.specs.Leaving.{IsRecordAfter, IsUntouched}
use Rattle.build_model.specs.Histories.{IsHistory}

abbrev pub notes : Path
notes = 110 ∷ []

abbrev pub header : Path
header = 104 ∷ []

abbrev pub source : Path
source = 99 ∷ []

abbrev pub object : Path
object = 111 ∷ []

abbrev pub making : Path → Path → List Path → Rule
making target from scanned = record {
  copies = false;
  keeps_sources = false;
  work = 0;
  signed = [];
  targets = target ∷ [];
  sources = from ∷ [];
  scanned = scanned;
  depends = [];
  libraries = [];
  ignored = [];
  required = [];
  always = false;
  decider = content;
}

-- the header is made of the notes, and the object of the source
abbrev pub header_rule : Rule
header_rule = making header notes []

abbrev pub object_rule : Rule
object_rule = making object source (source ∷ [])

abbrev pub appended : Content → Content → Content
appended None rest = rest
appended (Some bytes) None = Some bytes
appended (Some bytes) (Some more) = Some (bytes ++ more)

-- all that an action is given, end to end
abbrev pub joined : List (Path × Content) → Content
joined [] = None
joined (x ∷ given) = appended x.1 (joined given)

abbrev pub first_missing : Tree → List Path → Bool
first_missing t [] = false
first_missing t (p ∷ ps) = is_none (t p)

-- the source includes the header
abbrev pub graph : Graph
graph = record {
  rules = header_rule ∷ object_rule ∷ [];
  source_of = λ p. None;
  includes = λ r p bytes. if bytes_eq p source then header ∷ [] else [];
  act = λ work signed targets given p. joined given;
  digest = λ hash bytes. bytes;
  hash = 0;
  is_due = λ r t stamps m now. first_missing t r.targets;
  limit = 10;
}

abbrev pub sources_alone : Tree
sources_alone p = if bytes_eq p notes then Some (1 ∷ []) else (if bytes_eq p source then Some (2 ∷ []) else None)

abbrev pub all_made : Tree
all_made p =
    if bytes_eq p header then Some (1 ∷ [])
    else (if bytes_eq p object then Some (2 ∷ 1 ∷ []) else sources_alone p)

abbrev pub first_build : Build
first_build = record {
  before = sources_alone;
  stamps_before = λ p. None;
  records = λ p. None;
  requested = object ∷ [];
  jobs = 1;
  keeps_going = false;
  met = (1 ∷ []) ∷ (2 ∷ []) ∷ [];
  after = all_made;
  stamps_after = λ p. None;
}

abbrev pub first_steps : List Step
first_steps = Ended object_rule true ∷ Began object_rule ∷ Ended header_rule true ∷ Began header_rule ∷ []

-- what the two actions were given
abbrev pub header_job : Job
header_job = record { rule = header_rule; given = (notes, Some (1 ∷ [])) ∷ [] }

abbrev pub object_job : Job
object_job = record { rule = object_rule; given = (source, Some (2 ∷ [])) ∷ (header, Some (1 ∷ [])) ∷ [] }

abbrev pub records_kept : Records
records_kept p =
    if bytes_eq p header then Some (clean_record graph first_build header_rule)
    else (if bytes_eq p object then Some (clean_record graph first_build object_rule) else None)

abbrev pub second_build : Build
second_build = record first_build { before = all_made; records = records_kept }

abbrev pub second_steps : List Step
second_steps = Fresh object_rule ∷ Fresh header_rule ∷ []

-- the same where two actions may run at once
abbrev pub wide_build : Build
wide_build = record first_build { jobs = 2 }

-- the header's action fails, in a build that doesn't go on after a fault, and in one that does
abbrev pub stopped_build : Build
stopped_build = record first_build { after = sources_alone }

abbrev pub failing_build : Build
failing_build = record stopped_build { keeps_going = true }

abbrev pub failing_steps : List Step
failing_steps = Ended header_rule false ∷ Began header_rule ∷ []

-- the order in which the two rules are built
abbrev pub both_rules : List Rule
both_rules = header_rule ∷ object_rule ∷ []

-- two rules of which each makes what the other is made of
abbrev pub one_way : Rule
one_way = making header object []

abbrev pub other_way : Rule
other_way = making object header []

abbrev pub loop_graph : Graph
loop_graph = record graph { rules = one_way ∷ other_way ∷ [] }

-- the header alone, by a rule that is always carried out; built once, and then again
abbrev pub always_rule : Rule
always_rule = record header_rule { always = true }

abbrev pub always_graph : Graph
always_graph = record graph { rules = always_rule ∷ [] }

abbrev pub header_made : Tree
header_made p = if bytes_eq p header then Some (1 ∷ []) else sources_alone p

abbrev pub always_build : Build
always_build = record first_build { requested = header ∷ []; after = header_made }

abbrev pub always_again : Build
always_again = record always_build { before = header_made; records = λ p. Some (clean_record always_graph always_build always_rule) }

-- a build meets what the headline asks
pub record MeetsPremises (b : Build) (steps : List Step) : Type 0 where
  pub builds : BuildsByContent graph b steps
  pub succeeds : Succeeds (setting graph b.before) b steps

-- a build of the graph at one job, as far as it came, meets what is asked of the order
pub record MeetsOrder (b : Build) (steps : List Step) : Type 0 where
  pub builds : BuildsByContent graph b steps
  pub one : b.jobs ≡ 1
  pub stops : b.keeps_going ≡ false
  pub first : TakesFirst (setting graph b.before) b steps
  pub in_order : TakesInOrder (setting graph b.before) b steps
  pub sees : SeesReady (setting graph b.before) b steps (clean_build graph b.before)
  pub sees_missing : SeesMissing (setting graph b.before) b (clean_build graph b.before)
  pub is_order : IsBuildOrder (rule_at graph b.before) graph.limit (found_in (setting graph b.before) (clean_build graph b.before))
      b.requested both_rules

-- a build of a graph has come to rest, by what is found then
abbrev pub Rests : Graph → Build → List Step → Type 0
Rests g b steps = BuildsByContent g b steps × IsAtRest (setting g b.before) b steps (whole_found (setting g b.before) b steps)

pub record AreMet : Type 0 where
  pub first : MeetsPremises first_build first_steps
  pub second : MeetsPremises second_build second_steps
  pub again : IsAgain graph first_build second_build
  -- a rule that the next build starts, with no edit between
  pub always : IsAgain always_graph always_build always_again
  pub always_sources : (p : Path) → rule_at always_graph sources_alone p ≡ None → sources_alone p ≡ header_made p
  pub always_stale : IsNeeded always_graph always_again always_rule × IsStaleBefore always_graph always_again always_rule
  -- the first build as a program sees it
  pub course : IsCourse (setting graph sources_alone) first_build (object_job ∷ header_job ∷ []) all_made (λ p. None) first_steps
  -- what the first build leaves of files and records, and so a history that the second one may go on from
  pub untouched : IsUntouched first_build first_steps
  pub records : (p : Path) → IsRecordAfter (setting graph sources_alone) first_build first_steps records_kept p
  pub history : IsHistory graph.act graph.digest all_made records_kept first_build.met
  pub needs : NeedsIn (setting graph sources_alone) (in_tree all_made) object_rule header_rule
  pub tests : (r : Rule) → NeededIn (setting graph sources_alone) first_build (in_tree all_made) r →
      TestsDue (setting graph sources_alone) first_build r
  -- at one job, to its end or up to its fault
  pub ended : MeetsOrder first_build first_steps
  pub stopped : MeetsOrder stopped_build failing_steps
  -- at two jobs, where each ending is waited for while nothing can be decided
  pub wide : MeetsPremises wide_build first_steps
  pub wide_waits : WaitsRightly (setting graph sources_alone) wide_build first_steps
  -- at rest behind a fault, and over a cycle
  pub failing : Rests graph failing_build failing_steps
  pub loop : Rests loop_graph failing_build []
  pub cycle : IsCycle (rule_at loop_graph sources_alone) (found_in (setting loop_graph sources_alone) (in_tree sources_alone))
      (one_way ∷ other_way ∷ [])
