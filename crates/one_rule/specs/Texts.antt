-- What is printed. The wording is this project's own and follows SCons.
use Rattle.std.specs.Prelude.{ℕ, List, [], ◌∷◌, ◌++◌, codes}
use Rattle.std.specs.Fmt.{decimal, signed_decimal}
use Rattle.one_rule.specs.declared.report.Top.{Top}
use Rattle.one_rule.specs.declared.report.Top.TheVariants.{Usage, Reading, Missing, ActionFailed, TreeFault, StartFault, OutFault, TooLarge}
use Rattle.one_rule.specs.declared.report.UsageKind.{UsageKind}
use Rattle.one_rule.specs.declared.report.UsageKind.TheVariants.{NotBuilt}
use Rattle.one_rule.specs.declared.report.ReadKind.{ReadKind}
use Rattle.one_rule.specs.declared.report.ReadKind.TheVariants.{NoScript, LineForm}

-- a line with its line feed
abbrev pub line_text : List ℕ → List ℕ
line_text line = line ++ 10 ∷ []

-- on standard output
unfoldable pub reading_text : List ℕ
reading_text = line_text (codes "scons: Reading SConscript files ...")

unfoldable pub read_text : List ℕ
read_text = line_text (codes "scons: done reading SConscript files.")

unfoldable pub building_text : List ℕ
building_text = line_text (codes "scons: Building targets ...")

unfoldable pub done_text : List ℕ
done_text = line_text (codes "scons: done building targets.")

unfoldable pub terminated_text : List ℕ
terminated_text = line_text (codes "scons: building terminated because of errors.")

-- on standard error
abbrev pub usage_kind_name : UsageKind → List ℕ
usage_kind_name NotBuilt = codes "NotBuilt"

abbrev pub read_kind_name : ReadKind → List ℕ
read_kind_name NoScript = codes "NoScript"
read_kind_name LineForm = codes "LineForm"

-- a fault of printing has no text: there is nowhere left to print it
abbrev pub fault_text : Top → List ℕ
fault_text (Usage place kind) = line_text (codes "scons: *** Word " ++ decimal place ++ codes " is refused: " ++ usage_kind_name kind)
fault_text (Reading file line kind) = line_text (codes "scons: *** " ++ file ++ codes ", line " ++ decimal line ++ codes ": " ++ read_kind_name kind)
fault_text (Missing node target) = line_text (codes "scons: *** [" ++ target ++ codes "] Source `" ++ node ++ codes "' not found, needed by target `" ++ target ++ codes "'.")
fault_text (ActionFailed target code) = line_text (codes "scons: *** [" ++ target ++ codes "] Error " ++ signed_decimal code)
fault_text (TreeFault path) = line_text (codes "scons: *** [" ++ path ++ codes "] The file tree refused.")
fault_text (StartFault target) = line_text (codes "scons: *** [" ++ target ++ codes "] The action could not be started.")
fault_text OutFault = []
fault_text (TooLarge path size) = line_text (codes "scons: *** [" ++ path ++ codes "] The file has " ++ decimal size ++ codes " bytes, more than the limit.")
