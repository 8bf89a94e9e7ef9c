-- What a run prints on standard output, by the step at which it ended.
use Rattle.std.specs.Prelude.{◌≡◌, ◌≢◌, ◌⊎◌, ℕ, Bool, true, false, List, [], ◌∷◌, ◌++◌, length, Contains, IfSome, is_some, map, Result, Ok, Err}
use Rattle.world_api.specs.Meaning.{Meaning}
use Rattle.world_api.specs.Printed.{SinkMeaning}
use Rattle.world_api.specs.Printing.{IsPrefixed, PrintsSome}
use Rattle.scons_base.specs.declared.ids.RuleId.{RuleId}
use Rattle.rule_graph.specs.Graphs.{RuleGraph}
use Rattle.rule_graph.specs.declared.build_fault.BuildFault.{BuildFault}
use Rattle.rule_graph.specs.declared.build_fault.BuildFault.TheVariants as fault
use Rattle.rule_graph.specs.declared.wish.Wish.{Wish}
use Rattle.sign_store.specs.Ends.{image_in}
use Rattle.sign_store.specs.Tables.{Map}
use Rattle.report_texts.specs.Texts.{reading_text, building_text, cleaned_text, cleaning_text, help_text, load_text}
use Rattle.world_api.specs.Around.{Around}
use Rattle.scons_report.specs.Cleaning.{IsCleanList, rules_numbered}
use Rattle.scons_report.specs.Dry.{ListsDry}
use Rattle.build_run.specs.Output.{HasRunPrinting}
use Rattle.build_run.specs.declared.end.BuildEnd.{BuildEnd}
use Rattle.scons_words.specs.Readings.{read}
use Rattle.scons_words.specs.declared.words.Words.{Words}
use Rattle.scons_top.specs.declared.report.Report.{Report}
use Rattle.scons_top.specs.declared.report.Top.{Top}
use Rattle.scons_top.specs.declared.report.Top.TheVariants as top
use Rattle.scons_top.specs.declared.requests.Request.{Request}
use Rattle.scons_top.specs.declared.step.Step.{Step}
use Rattle.scons_top.specs.declared.step.Step.TheVariants as step
use Rattle.scons_top.specs.declared.stop.Stop.{Stop}
use Rattle.scons_top.specs.declared.stop.Stop.TheVariants as stop
use Rattle.scons_top.specs.Asked.{asked_of, words_asked}
use Rattle.scons_top.specs.Builds.{wanted_by}
use Rattle.scons_top.specs.Cleaned.{targets_of}
use Rattle.scons_top.specs.Requested.{AskForNodes, nodes_asked}
use Rattle.scons_top.specs.RunLines.{progress, notice, opening_text, options_of, closing_text, ending_text, list_text, removed_texts, request_text, without, AreMarks}
use Rattle.scons_top.specs.Sinks.{PrintsUnless, PrintsUpTo, PrintsSuch, IsCut, IsCutBy, IsCutShort}
use Rattle.scons_top.specs.Stops.{top_of}
use Rattle.scons_top.specs.Trees.{shows_trees, IsTreesEnding}

-- ---- what cuts a build short

-- standard output refused, which its faults tell, or memory was wanting
abbrev pub LosesOut : BuildEnd → Type 0
LosesOut end = (end.memory ≡ true) ⊎ Contains end.faults fault.OutFault

-- ---- the texts, step by step

-- the faults of a run that are those of a build, and maybe that a line behind it wasn't printed
abbrev pub AreFaultsOf : List BuildFault → List Top → Type 0
AreFaultsOf found faults = (faults ≡ map top_of found) ⊎ (faults ≡ map top_of found ++ top.OutFault ∷ [])

-- Behind a build stands the ending; or, where trees are shown, what stands with them.
pub record IsPlainEnding (said : Words) (g : RuleGraph) (requests : List Request) (started : List RuleId) (found : List BuildFault) (report : Report) (text : List ℕ) : Type 0 where
  pub plain : report.status ≢ 3 → shows_trees said found ≡ false
  pub faults : report.status ≢ 3 → AreFaultsOf found report.faults
  pub whole : text ≡ ending_text said g requests started found

abbrev pub IsEnding : Words → ℕ → Around → RuleGraph → List Request → List RuleId → List BuildFault → Report → List ℕ → Type 0
IsEnding said declared around g requests started found report text =
    IsPlainEnding said g requests started found report text
    ⊎ (shows_trees said found ≡ true) × IsTreesEnding said declared around g requests started (Ok report) text

-- Behind the line that says so a build printed the texts of the rules that it started, and behind these stands how it ended. The
-- build began with the files and records that the run had found.
pub record IsBuildText {W O : Type 0} (m : Meaning W) (p : SinkMeaning O) (said : Words) (g : RuleGraph) (requests : List Request) (old new : W)
    (report : Report) (text : List ℕ) : Type 0 where
  -- the world and standard output, as the build began and as it ended
  pub begun : W
  pub built : W
  pub before : O
  pub after : O
  pub around : m.around begun ≡ m.around old
  pub around_behind : m.around new ≡ m.around built
  pub behind : Map
  pub is_ended : Bool
  pub builds : HasRunPrinting m p (wanted_by said g (nodes_asked requests)) (image_in (m.seen old)) (options_of said) begun before built after behind is_ended
  -- the graph as it grew by copies, the rules that were started, and the faults
  pub grown : RuleGraph
  pub started : List RuleId
  pub found : List BuildFault
  pub rest : List ℕ
  pub ends : IsEnding said (length g.rules) (m.around built) grown requests started found report rest
  pub whole : text ≡ progress said building_text ++ (builds.printed.text ++ builds.printed.rest) ++ rest

-- or the run was cut short before it built
abbrev pub IsBuildingText : {W O : Type 0} → Meaning W → SinkMeaning O → Words → RuleGraph → List Request → W → W → Result Report Stop → List ℕ → Type 0
IsBuildingText m p said g requests old new (Ok report) text =
    IsBuildText m p said g requests old new report text ⊎ (IsCutShort report × (text ≡ progress said building_text))
IsBuildingText m p said g requests old new (Err s) text = IsCutBy s × (text ≡ progress said building_text)

-- Behind that line a list has the lines of its rules, all of each and in their order, and the ending: of each rule that is listed as
-- if it were started. In a world that tells these are just the rules that a dry run lists over the files and records that the run had
-- found.
pub record IsListText {W : Type 0} (m : Meaning W) (said : Words) (g : RuleGraph) (requests : List Request) (old new : W) (text : List ℕ) : Type 0 where
  -- the graph as it grew by copies
  pub grown : RuleGraph
  pub rules : List RuleId
  pub lists : m.tells new → ListsDry g grown said.hash (image_in (m.seen old)) (m.around old) (nodes_asked requests) rules
  pub whole : text ≡ progress said building_text ++ list_text said grown requests rules

-- or the last line alone, where a fault of the graph or of the files came
pub record IsFaultyText (said : Words) (report : Report) (text : List ℕ) : Type 0 where
  pub fault : BuildFault
  pub told : report.status ≢ 3 → Contains report.faults (top_of fault)
  pub whole : text ≡ progress said building_text ++ progress said (closing_text said (fault ∷ []))

-- where a run is cut short, the list may not have been made yet
abbrev pub IsListOrNone : {W : Type 0} → Meaning W → Words → RuleGraph → List Request → W → W → List ℕ → Type 0
IsListOrNone m said g requests old new text = (text ≡ progress said building_text) ⊎ IsListText m said g requests old new text

abbrev pub IsListingText : {W : Type 0} → Meaning W → Words → RuleGraph → List Request → W → W → Result Report Stop → List ℕ → Type 0
IsListingText m said g requests old new (Ok report) text =
    (report.faults ≡ []) × IsListText m said g requests old new text
    ⊎ IsFaultyText said report text
    ⊎ IsCutShort report × IsListOrNone m said g requests old new text
IsListingText m said g requests old new (Err s) text = IsCutBy s × IsListOrNone m said g requests old new text

-- where files stand
abbrev pub there_in : Around → List ℕ → Bool
there_in around path = is_some (around.tree path)

-- where they stand once those at these paths went
abbrev pub left_by : Words → (List ℕ → Bool) → List (List ℕ) → List ℕ → Bool
left_by said there [] = there
left_by said there (path ∷ paths) = left_by said (without said there path) paths

-- the same of a world that tells
abbrev pub LeavesBy : {W : Type 0} → Meaning W → Words → List (List ℕ) → W → W → Type 0
LeavesBy m said paths old new = m.tells new → (path : List ℕ) → there_in (m.around new) path ≡ left_by said (there_in (m.around old)) paths path

-- the lines of a front of these paths
pub record IsRemovedFront (said : Words) (there : List ℕ → Bool) (paths : List (List ℕ)) (text : List ℕ) : Type 0 where
  pub front : List (List ℕ)
  pub back : List (List ℕ)
  pub parts : paths ≡ front ++ back
  pub whole : text ≡ removed_texts said there front

-- A step that removes files at these paths prints their lines, and where it stops those of a front.
abbrev pub RemovesPrinting : {W O T : Type 0} → Meaning W → SinkMeaning O → Words → List (List ℕ) → W → O → W → O → Result T Stop → Type 0
RemovesPrinting m p said paths old out new new_out (Ok value) =
    PrintsSuch p (m.tells new) (λ text. text ≡ removed_texts said (there_in (m.around old)) paths) ⊥ out new_out
RemovesPrinting m p said paths old out new new_out (Err s) =
    PrintsSuch p (m.tells new) (IsRemovedFront said (there_in (m.around old)) paths) (IsCutBy s) out new_out

-- Behind the line that says so, cleaning prints the line of each target of the clean list that is a file, and at its end the last line.
pub record IsCleanedText (said : Words) (g : RuleGraph) (requests : List Request) (around : Around) (text : List ℕ) : Type 0 where
  pub list : List RuleId
  pub is : IsCleanList g (nodes_asked requests) list
  pub whole : text ≡ progress said cleaning_text ++ removed_texts said (there_in around) (targets_of (rules_numbered g list)) ++ progress said cleaned_text

-- where it stopped the lines of a front of the targets
pub record IsCleanFront (said : Words) (g : RuleGraph) (requests : List Request) (around : Around) (text : List ℕ) : Type 0 where
  pub list : List RuleId
  pub is : IsCleanList g (nodes_asked requests) list
  pub lines : List ℕ
  pub removed : IsRemovedFront said (there_in around) (targets_of (rules_numbered g list)) lines
  pub whole : text ≡ progress said cleaning_text ++ lines

-- or, where it was cut short, a front of all that
abbrev pub IsCleanStopped : Type 0 → Words → RuleGraph → List Request → Around → List ℕ → Type 0
IsCleanStopped cut said g requests around text =
    cut × (text ≡ progress said cleaning_text) ⊎ IsCleanFront said g requests around text ⊎ cut × IsCleanedText said g requests around text

abbrev pub IsCleaningText : Words → RuleGraph → List Request → Around → Result Report Stop → List ℕ → Type 0
IsCleaningText said g requests around (Ok report) text =
    IsCleanedText said g requests around text ⊎ (report.status ≢ 0) × IsCleanStopped (IsCutShort report) said g requests around text
IsCleaningText said g requests around (Err s) text = IsCleanStopped (IsCutBy s) said g requests around text

-- what is printed once it is known what is requested
abbrev pub IsServedText : {W O : Type 0} → Meaning W → SinkMeaning O → Words → Step → RuleGraph → List Request → W → W → Result Report Stop → List ℕ → Type 0
IsServedText m p said step.Building g requests old new result text = IsBuildingText m p said g requests old new result text
IsServedText m p said step.Store g requests old new result text = text ≡ []
IsServedText m p said step.Listing g requests old new result text = IsListingText m said g requests old new result text
IsServedText m p said step.Cleaning g requests old new result text = IsCleaningText said g requests (m.around old) result text
IsServedText m p said other g requests old new result text = ⊥

-- ---- behind the opening

abbrev pub IsOpeningText : Words → List ℕ → Type 0
IsOpeningText said text = (scripts : List ℕ) × (text ≡ opening_text said scripts)

-- the opening and what stands behind it, by a graph and by what was requested of it
pub record IsBehindText (said : Words) (IsRest : RuleGraph → List Request → List ℕ → Type 0) (text : List ℕ) : Type 0 where
  pub opening : List ℕ
  pub opens : IsOpeningText said opening
  pub defaults : List Wish
  pub graph : RuleGraph
  pub requests : List Request
  pub words : words_asked requests ≡ asked_of defaults said.requested
  pub nodes : AskForNodes graph requests
  pub rest : List ℕ
  pub is : IsRest graph requests rest
  pub whole : text ≡ opening ++ rest

-- where the reading ended: what the scripts had printed stands behind the first line
abbrev pub IsReadText : Words → Step → List ℕ → Type 0
IsReadText said step.Top text = text ≡ []
IsReadText said step.Reading text = (scripts : List ℕ) × (text ≡ progress said reading_text ++ scripts)
IsReadText said other text = ⊥

-- the help texts of a graph
pub record IsHelpText (said : Words) (text : List ℕ) : Type 0 where
  pub opening : List ℕ
  pub opens : IsOpeningText said opening
  pub graph : RuleGraph
  pub whole : text ≡ opening ++ help_text graph.helps

-- all that a run prints which ended at this step
abbrev pub IsRunText : {W O : Type 0} → Meaning W → SinkMeaning O → Words → Step → W → W → Result Report Stop → List ℕ → Type 0
IsRunText m p said step.Words old new result text = text ≡ []
IsRunText m p said step.Load old new result text = IfSome said.load (λ rules. text ≡ load_text rules)
IsRunText m p said step.Top old new result text = IsReadText said step.Top text
IsRunText m p said step.Reading old new result text = IsReadText said step.Reading text
IsRunText m p said step.Help old new result text = IsHelpText said text
IsRunText m p said step.Requests old new result text = IsOpeningText said text
IsRunText m p said other old new result text = IsBehindText said (λ g requests rest. IsServedText m p said other g requests old new result rest) text

-- ---- the clauses

-- Cleaning prints so in a world that tells, and a build in one that is sure too.
abbrev pub Surely : {W : Type 0} → Meaning W → Words → Step → W → Type 0
Surely m said step.Building new = m.tells new × m.sure new
Surely m said step.Cleaning new = m.tells new
Surely m said other new = Unit {0}

abbrev pub ReadPrints : {O T : Type 0} → SinkMeaning O → Words → Step → O → O → Result T Stop → Type 0
ReadPrints p said at out new_out (Ok graph) = PrintsSuch p (Unit {0}) (IsOpeningText said) ⊥ out new_out
ReadPrints p said at out new_out (Err s) = PrintsSuch p (Unit {0}) (IsReadText said at) (IsCutBy s) out new_out

-- where the fault that ended a list is told, and the last line is written
abbrev pub FaultPrints : {O : Type 0} → SinkMeaning O → Words → BuildFault → O → O → Result Report Stop → Type 0
FaultPrints p said fault out new_out (Ok report) =
    PrintsSuch p (Unit {0}) (λ text. text ≡ progress said (closing_text said (fault ∷ []))) (IsCutShort report) out new_out
    × (report.status ≢ 3 → Contains report.faults (top_of fault))
FaultPrints p said fault out new_out (Err s) = IsCutBy s × (new_out ≡ out)

abbrev pub ServePrints : {W O : Type 0} → Meaning W → SinkMeaning O → Words → Step → RuleGraph → List Request → W → O → W → O → Result Report Stop → Type 0
ServePrints m p said at g requests old out new new_out result =
    PrintsSuch p (Surely m said at new) (IsServedText m p said at g requests old new result) (IsCut result) out new_out

abbrev pub RunPrints : {W O : Type 0} → Meaning W → SinkMeaning O → Words → Step → W → O → W → O → Result Report Stop → Type 0
RunPrints m p said at old out new new_out result =
    PrintsSuch p (Surely m said at new) (IsRunText m p said at old new result) (IsCut result) out new_out

-- where the requested nodes are the graph's
abbrev pub ServesPrinting : {W O : Type 0} → Meaning W → SinkMeaning O → Words → Step → RuleGraph → List Request → W → O → W → O → Result Report Stop → Type 0
ServesPrinting m p said at g requests old out new new_out result = AskForNodes g requests → ServePrints m p said at g requests old out new new_out result

-- where these words are read
abbrev pub WordsPrint : {W O : Type 0} → Meaning W → SinkMeaning O → List (List ℕ) → Step → W → O → W → O → Result Report Stop → Type 0
WordsPrint m p words at old out new new_out result = (said : Words) → read words ≡ Ok said → RunPrints m p said at old out new new_out result

-- up to its report
abbrev pub ReportPrints : {W O : Type 0} → Meaning W → SinkMeaning O → List (List ℕ) → W → O → W → O → Report → Type 0
ReportPrints m p words old out new new_out report = WordsPrint m p words report.step old out new new_out (Ok report)

-- behind a build, unless that lost its output
abbrev pub EndsPrinting : {O T : Type 0} → SinkMeaning O → Words → RuleGraph → List Request → BuildEnd → O → O → Result T Stop → Type 0
EndsPrinting p said g requests end old new result = PrintsUnless p (LosesOut end) (ending_text said g requests end.started end.faults) old new result

-- as the targets of rules are removed
abbrev pub CleansPrinting : {W O T : Type 0} → Meaning W → SinkMeaning O → Words → RuleGraph → List RuleId → W → O → W → O → Result T Stop → Type 0
CleansPrinting m p said g rules old out new new_out result = RemovesPrinting m p said (targets_of (rules_numbered g rules)) old out new new_out result

-- of one request, where marks say which rules were started
abbrev pub RequestPrints : {O T : Type 0} → SinkMeaning O → Words → RuleGraph → Request → List Bool → O → O → Result T Stop → Type 0
RequestPrints p said g request marks old new result =
    (started : List RuleId) → AreMarks g started marks → PrintsUpTo p (notice said (request_text g started request)) old new result
