-- How a run goes, and what it prints.
use Rattle.std.specs.Prelude.{ℕ, List, [], ◌∷◌, ◌++◌}
use Rattle.one_rule.specs.declared.rule.Rule.{Rule}
use Rattle.one_rule.specs.declared.report.Top.{Top}
use Rattle.one_rule.specs.Texts.{reading_text, read_text, building_text, done_text, terminated_text, line_text, fault_text}

-- Refused: by a word. Misread: reading ends with a fault. Stopped: building ends with one before the rule's line is
-- printed. Failed: the line is printed, and the action isn't started or fails. Built: the target is made.
pub data Course : Type 0 where
  Refused : Top → Course
  Misread : Top → Course
  Stopped : Top → Course
  Failed : Rule → Top → Course
  Built : Rule → Course

abbrev pub faults_of : Course → List Top
faults_of (Refused fault) = fault ∷ []
faults_of (Misread fault) = fault ∷ []
faults_of (Stopped fault) = fault ∷ []
faults_of (Failed rule fault) = fault ∷ []
faults_of (Built rule) = []

-- on standard output: what is printed before the rule is looked at, and up to its line
abbrev pub announced_text : List ℕ
announced_text = read_text ++ building_text

abbrev pub body_text : Rule → List ℕ
body_text rule = announced_text ++ line_text rule.line

-- all but the last line
abbrev pub begun_text : Course → List ℕ
begun_text (Refused fault) = []
begun_text (Misread fault) = reading_text
begun_text (Stopped fault) = reading_text ++ announced_text
begun_text (Failed rule fault) = reading_text ++ body_text rule
begun_text (Built rule) = reading_text ++ body_text rule

-- the last line, of a run that came to building
abbrev pub end_text : Course → List ℕ
end_text (Refused fault) = []
end_text (Misread fault) = []
end_text (Stopped fault) = terminated_text
end_text (Failed rule fault) = terminated_text
end_text (Built rule) = done_text

abbrev pub output_of : Course → List ℕ
output_of course = begun_text course ++ end_text course

-- on standard error
abbrev pub errors_of : Course → List ℕ
errors_of (Refused fault) = fault_text fault
errors_of (Misread fault) = fault_text fault
errors_of (Stopped fault) = fault_text fault
errors_of (Failed rule fault) = fault_text fault
errors_of (Built rule) = []
