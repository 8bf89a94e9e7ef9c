-- The lines that a run prints on standard output besides those of rules, by its words and by what is requested.
use Rattle.std.specs.Prelude.{◌≡◌, ◌<◌, ◌||◌, ◌&&◌, ℕ, Bool, true, false, List, [], ◌∷◌, ◌++◌, Option, Some, None, flat_map, length, nat_eq, slice_get, not, if◌then◌else◌}
use Rattle.std.specs.List.{list_all, list_any}
use Rattle.std.specs.Str.{bytes_eq}
use Rattle.scons_base.specs.declared.ids.NodeId.{NodeId}
use Rattle.scons_base.specs.declared.ids.RuleId.{RuleId}
use Rattle.rule_graph.specs.Graphs.{RuleGraph}
use Rattle.rule_graph.specs.Rules.{rule_of}
use Rattle.rule_graph.specs.declared.build_fault.BuildFault.{BuildFault}
use Rattle.rule_graph.specs.declared.build_fault.BuildFault.TheVariants as fault
use Rattle.rule_graph.specs.declared.rule.Rule.{Rule}
use Rattle.report_texts.specs.Lines.{rule_text}
use Rattle.report_texts.specs.Texts.{reading_text, read_text, nothing_text, removed_text, up_to_date_text, done_text, done_with_errors_text, terminated_text}
use Rattle.build_run.specs.declared.building.Options.{Options}
use Rattle.scons_words.specs.declared.words.Words.{Words}
use Rattle.scons_top.specs.declared.requests.Request.{Request}

abbrev pub unless : Bool → List ℕ → List ℕ
unless true text = []
unless false text = text

-- a line on the progress of a run: `-Q` and `-s` leave it out
abbrev pub progress : Words → List ℕ → List ℕ
progress said text = unless (said.quiet || said.silent) text

-- a line that `-s` alone leaves out
abbrev pub notice : Words → List ℕ → List ℕ
notice said text = unless said.silent text

-- before the scripts are read and once they are, and between them what they print themselves
abbrev pub opening_text : Words → List ℕ → List ℕ
opening_text said scripts = progress said reading_text ++ scripts ++ progress said read_text

-- what is built how
abbrev pub options_of : Words → Options
options_of said = record { jobs = said.jobs; keep = said.keep; hash = said.hash; silent = said.silent; explain = said.explain }

-- ---- of a list, and of what is removed

abbrev pub line_by : RuleGraph → Option Rule → List ℕ
line_by g None = []
line_by g (Some r) = rule_text g r

-- what is printed of some rules of a graph, by their numbers
abbrev pub rules_text : Words → RuleGraph → List RuleId → List ℕ
rules_text said g rules = flat_map (λ id. notice said (line_by g (slice_get g.rules id.0))) rules

-- where files stand once the one at this path went: with `-n` it stays
abbrev pub without : Words → (List ℕ → Bool) → List ℕ → List ℕ → Bool
without said there path other = if said.dry || not (bytes_eq path other) then there other else false

-- A line for each of these paths at which a file stands, and the file goes.
abbrev pub removed_texts : Words → (List ℕ → Bool) → List (List ℕ) → List ℕ
removed_texts said there [] = []
removed_texts said there (path ∷ paths) =
    (if there path then notice said (removed_text path) else []) ++ removed_texts said (without said there path) paths

-- ---- at the end without a fault, of each request

-- whether this rule is among those that were started or listed
abbrev pub is_among : List RuleId → ℕ → Bool
is_among started rule = list_any (λ id. nat_eq id.0 rule) started

abbrev pub is_made_by : List RuleId → Option ℕ → Bool
is_made_by started None = false
is_made_by started (Some rule) = is_among started rule

-- whether the rule of one of these nodes is
abbrev pub has_started : RuleGraph → List RuleId → List NodeId → Bool
has_started g started nodes = list_any (λ node. is_made_by started (rule_of g.rules node.0)) nodes

-- by a mark for each rule
abbrev pub AreMarks : RuleGraph → List RuleId → List Bool → Type 0
AreMarks g started marks = (rule : ℕ) → rule < length g.rules → slice_get marks rule ≡ Some (is_among started rule)

abbrev pub request_by : Bool → Bool → List ℕ → List ℕ
request_by true has word = nothing_text word
request_by false true word = []
request_by false false word = up_to_date_text word

-- that there is nothing to be done for a file without a rule, and of anything else that it is up to date where none of its rules started
abbrev pub request_text : RuleGraph → List RuleId → Request → List ℕ
request_text g started request = request_by request.is_plain (has_started g started request.nodes.items) request.word

abbrev pub requests_text : Words → RuleGraph → List RuleId → List Request → List ℕ
requests_text said g started requests = flat_map (λ request. notice said (request_text g started request)) requests

-- ---- the last line

-- a fault after which a build may go on
abbrev pub goes_on : BuildFault → Bool
goes_on (fault.Missing node target) = true
goes_on (fault.Cycle paths) = true
goes_on (fault.ActionFailed target code) = true
goes_on (fault.TreeFault path) = false
goes_on (fault.StartFault target) = false
goes_on fault.StoreFault = false
goes_on fault.OutFault = false
goes_on (fault.TooLarge path size) = false
goes_on (fault.TooMany what count) = false

-- of a run with these faults
abbrev pub closing_text : Words → List BuildFault → List ℕ
closing_text said found = if said.keep && list_all goes_on found then done_with_errors_text else terminated_text

-- what stands behind a list or a build
abbrev pub ending_text : Words → RuleGraph → List Request → List RuleId → List BuildFault → List ℕ
ending_text said g requests started [] = requests_text said g started requests ++ progress said done_text
ending_text said g requests started (f ∷ found) = progress said (closing_text said (f ∷ found))

-- what stands of a list: the lines of its rules, and the ending, of each rule that is listed as if it were started
abbrev pub list_text : Words → RuleGraph → List Request → List RuleId → List ℕ
list_text said g requests rules = rules_text said g rules ++ ending_text said g requests rules []
