-- What a run prints of the trees of what was asked for, and why they aren't printed to their end.
use Rattle.std.specs.Prelude.{◌≡◌, ◌≢◌, ◌⊎◌, ◌&&◌, ℕ, Bool, true, false, not, List, [], ◌∷◌, ◌++◌, length, Contains, Result, Ok, Err}
use Rattle.scons_base.specs.declared.ids.RuleId.{RuleId}
use Rattle.world_api.specs.Around.{Around}
use Rattle.world_api.specs.Meaning.{Meaning}
use Rattle.world_api.specs.Printed.{SinkMeaning}
use Rattle.rule_graph.specs.Graphs.{RuleGraph}
use Rattle.rule_graph.specs.Rules.{are_below}
use Rattle.rule_graph.specs.declared.build_fault.BuildFault.{BuildFault}
use Rattle.rule_graph.specs.declared.build_fault.BuildFault.TheVariants as fault
use Rattle.task_plan.specs.Plans.{Planned, IsIdle}
use Rattle.build_means.specs.Grown.{Begun}
use Rattle.report_texts.specs.Texts.{done_text}
use Rattle.scons_report.specs.Asked.{children_asked, HasTreeCause}
use Rattle.scons_report.specs.Built.{IsBehind, IsShownBy, ShowsBuilds}
use Rattle.scons_report.specs.Trees.{shown_in, tree_text}
use Rattle.scons_report.specs.declared.tree_end.TreeEnd.{TreeEnd}
use Rattle.scons_report.specs.declared.tree_end.TreeEnd.TheVariants as end
use Rattle.scons_words.specs.declared.words.Words.{Words}
use Rattle.scons_top.specs.declared.report.Report.{Report}
use Rattle.scons_top.specs.declared.requests.Request.{Request}
use Rattle.scons_top.specs.declared.stop.Stop.{Stop}
use Rattle.scons_top.specs.RunLines.{closing_text, progress, requests_text}
use Rattle.scons_top.specs.Sinks.{PrintsSuch, IsCut, IsCutBy, IsCutShort}
use Rattle.scons_top.specs.Stops.{top_of}

-- over a world and a sink
abbrev pub AreTreesCaused : {W O T : Type 0} → Meaning W → SinkMeaning O → W → O → W → O → Result T TreeEnd → Type 0
AreTreesCaused m o world out new_world new_out result =
    HasTreeCause (m.counts world) (m.counts new_world) (o.faults out) (o.faults new_out) result

-- where the words ask for trees, and not for silence, they stand behind a build that has no fault
abbrev pub shows_trees : Words → List BuildFault → Bool
shows_trees said [] = said.tree && not said.silent
shows_trees said (f ∷ found) = false

-- ---- the texts

-- The text is the tree of a request, by a plan with nothing left to scan or to decide, and the graph may have grown by copies for it. It
-- shows what a build goes by that stands before it, whichever that is, over these files; its rules are the first so many of the graph.
pub record IsTree (declared : ℕ) (around : Around) (g h : RuleGraph) (request : Request) (text : List ℕ) : Type 0 where
  pub plan : Planned
  pub idle : IsIdle plan
  pub shows : are_below (length g.nodes) request.nodes.items ≡ true → (b : Begun) → IsBehind b g declared around →
      IsShownBy b around.tree h request.nodes.items plan
  pub whole : text ≡ tree_text (shown_in h plan) request.word (children_asked h plan request.is_node request.nodes.items)

-- The trees of requests, one behind the other, and how the graph grew for them.
pub data AreTrees (declared : ℕ) (around : Around) (g : RuleGraph) : RuleGraph → List Request → List ℕ → Type 0 where
  no_tree : AreTrees declared around g g [] []
  one_more : {h k : RuleGraph} {requests : List Request} {text tree : List ℕ} (request : Request) → AreTrees declared around g h requests text →
      IsTree declared around h k request tree → AreTrees declared around g k (requests ++ request ∷ []) (text ++ tree)

-- those of a front of them
pub record AreFrontTrees (declared : ℕ) (around : Around) (g : RuleGraph) (requests : List Request) (text : List ℕ) : Type 0 where
  pub grown : RuleGraph
  pub front : List Request
  pub back : List Request
  pub parts : requests ≡ front ++ back
  pub trees : AreTrees declared around g grown front text

-- Behind a build that shows trees stands what is up to date of each request, then the tree of each, and the last line.
pub record IsTreesText (said : Words) (declared : ℕ) (around : Around) (g : RuleGraph) (requests : List Request) (started : List RuleId) (text : List ℕ) : Type 0 where
  pub grown : RuleGraph
  pub trees : List ℕ
  pub are : AreTrees declared around g grown requests trees
  pub whole : text ≡ requests_text said g started requests ++ trees ++ progress said done_text

-- the same up to the trees of a front of the requests
pub record IsTreesFront (said : Words) (declared : ℕ) (around : Around) (g : RuleGraph) (requests : List Request) (started : List RuleId) (text : List ℕ) : Type 0 where
  pub trees : List ℕ
  pub are : AreFrontTrees declared around g requests trees
  pub whole : text ≡ requests_text said g started requests ++ trees

-- where a fault of the graph or of the files came at the next one, the last line is behind these
pub record IsTreesFaulty (said : Words) (declared : ℕ) (around : Around) (g : RuleGraph) (requests : List Request) (started : List RuleId) (report : Report) (text : List ℕ) : Type 0 where
  pub fault : BuildFault
  pub told : report.status ≢ 3 → Contains report.faults (top_of fault)
  pub front : List ℕ
  pub is_front : IsTreesFront said declared around g requests started front
  pub whole : text ≡ front ++ progress said (closing_text said (fault ∷ []))

-- where it is cut short, one or the other
abbrev pub IsTreesCut : Words → ℕ → Around → RuleGraph → List Request → List RuleId → List ℕ → Type 0
IsTreesCut said declared around g requests started text =
    IsTreesFront said declared around g requests started text ⊎ IsTreesText said declared around g requests started text

abbrev pub IsTreesEnding : Words → ℕ → Around → RuleGraph → List Request → List RuleId → Result Report Stop → List ℕ → Type 0
IsTreesEnding said declared around g requests started (Ok report) text =
    (report.faults ≡ []) × IsTreesText said declared around g requests started text
    ⊎ IsTreesFaulty said declared around g requests started report text
    ⊎ IsCutShort report × IsTreesCut said declared around g requests started text
IsTreesEnding said declared around g requests started (Err s) text = IsCutBy s × IsTreesCut said declared around g requests started text

-- ---- the clauses, in a world that tells

-- the tree of one request is printed, or a front of it, or nothing where the files weren't looked at to their end
abbrev pub PrintsTreeOf : {W O T : Type 0} → Meaning W → SinkMeaning O → ℕ → Request → RuleGraph → W → O → RuleGraph → W → O → Result T TreeEnd → Type 0
PrintsTreeOf m p declared request g old out h new new_out result =
    ShowsBuilds m p g h declared request.word request.nodes.items request.is_node old new out new_out result

-- the sink refused, or memory was wanting
abbrev pub IsCutTree : TreeEnd → Type 0
IsCutTree (end.Fault fault.OutFault) = Unit {0}
IsCutTree (end.Fault other) = ⊥
IsCutTree end.Memory = Unit {0}

-- the trees of all requests are, or where that ends before, those of a front of them
abbrev pub PrintsTreesOf : {W O T : Type 0} → Meaning W → SinkMeaning O → ℕ → List Request → RuleGraph → W → O → RuleGraph → W → O → Result T TreeEnd → Type 0
PrintsTreesOf m p declared requests g old out h new new_out (Ok value) =
    PrintsSuch p (m.tells new) (AreTrees declared (m.around old) g h requests) ⊥ out new_out
PrintsTreesOf m p declared requests g old out h new new_out (Err e) =
    PrintsSuch p (m.tells new) (AreFrontTrees declared (m.around old) g requests) (IsCutTree e) out new_out

-- with what stands before and behind them
abbrev pub TreesPrint : {W O : Type 0} → Meaning W → SinkMeaning O → Words → ℕ → RuleGraph → List Request → List RuleId → W → O → W → O → Result Report Stop → Type 0
TreesPrint m p said declared g requests started old out new new_out result =
    PrintsSuch p (m.tells new) (IsTreesEnding said declared (m.around old) g requests started result) (IsCut result) out new_out
