-- What a rule prints as it starts or is listed.
use Rattle.std.specs.Prelude.{ℕ, Bool, true, false, List, [], ◌∷◌, ◌++◌, codes, flat_map}
use Rattle.scons_base.specs.declared.ids.NodeId.{NodeId}
use Rattle.world_api.specs.declared.job.Line.{Line}
use Rattle.world_api.specs.declared.job.Work.{Work}
use Rattle.world_api.specs.declared.job.Work.TheVariants.{Shell, Copy, Write}
use Rattle.rule_graph.specs.declared.rule.Rule.{Rule}
use Rattle.rule_graph.specs.Graphs.{RuleGraph, path_of}
use Rattle.report_texts.specs.Texts.{line_text}

-- a quiet line and an empty one aren't printed
abbrev pub shown : Bool → List ℕ → List ℕ
shown true text = []
shown false [] = []
shown false (byte ∷ bytes) = line_text (byte ∷ bytes)

abbrev pub lines_text : List Line → List ℕ
lines_text lines = flat_map (λ line. shown line.quiet line.text) lines

abbrev pub install_line : List ℕ → List ℕ → List ℕ
install_line source target = line_text (codes "Install file: \"" ++ source ++ codes "\" as \"" ++ target ++ codes "\"")

-- which file is put where
abbrev pub install_text : List (List ℕ) → List NodeId → List NodeId → List ℕ
install_text nodes [] targets = []
install_text nodes (source ∷ sources) [] = []
install_text nodes (source ∷ sources) (target ∷ targets) = install_line (path_of nodes source) (path_of nodes target)

-- a copy that no script names prints nothing
abbrev copy_text : List ℕ → List ℕ → List ℕ
copy_text [] text = []
copy_text (byte ∷ builder) text = text

-- what is written
abbrev pub write_line : List ℕ → List ℕ
write_line target = line_text (codes "Creating '" ++ target ++ codes "'")

abbrev pub write_text : List (List ℕ) → List NodeId → List ℕ
write_text nodes [] = []
write_text nodes (target ∷ targets) = write_line (path_of nodes target)

abbrev work_text : RuleGraph → Rule → Work → List ℕ
work_text graph rule Shell = lines_text rule.lines
work_text graph rule Copy = copy_text rule.builder (install_text graph.nodes rule.sources rule.targets)
work_text graph rule Write = write_text graph.nodes rule.targets

abbrev pub rule_text : RuleGraph → Rule → List ℕ
rule_text graph rule = work_text graph rule rule.work
