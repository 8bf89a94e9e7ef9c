-- What the faults of a run's first steps say on standard error. The wording is this project's own and follows SCons.
use Rattle.std.specs.Prelude.{◌≡◌, ℕ, List, [], ◌∷◌, ◌++◌, codes}
use Rattle.std.specs.Fmt.{decimal}
use Rattle.world_api.specs.declared.disk.Bank.{Bank}
use Rattle.world_api.specs.declared.disk.Bank.TheVariants.{A, B}
use Rattle.scons_words.specs.declared.fault.UsageKind.{UsageKind}
use Rattle.scons_words.specs.Names.{usage_name}
use Rattle.scons_host.specs.Kinds.{IsKindText}
use Rattle.scons_top.specs.declared.report.Top.{Top}
use Rattle.scons_top.specs.declared.report.Top.TheVariants.{Usage, Reading, UnknownTarget, StoreForeign}

abbrev pub usage_text : ℕ → UsageKind → List ℕ
usage_text place kind = codes "scons: *** Word " ++ decimal place ++ codes " is refused: " ++ usage_name kind ++ 10 ∷ []

-- a script that can't be read, the line, and why
abbrev pub reading_text : List ℕ → ℕ → List ℕ → List ℕ
reading_text file line why = codes "scons: *** " ++ file ++ codes ", line " ++ decimal line ++ codes ": " ++ why ++ 10 ∷ []

abbrev pub unknown_text : List ℕ → List ℕ
unknown_text word = codes "scons: *** Do not know how to make target `" ++ word ++ codes "'.\n"

abbrev pub bank_name : Bank → List ℕ
bank_name A = codes "A"
bank_name B = codes "B"

abbrev pub foreign_text : Bank → List ℕ
foreign_text bank = codes "scons: *** Bank " ++ bank_name bank ++ codes " is not a signature file.\n"

-- The line of such a fault. Those that a build finds have none here.
abbrev pub IsTopText : Top → List ℕ → Type 0
IsTopText (Usage place kind) text = text ≡ usage_text place kind
IsTopText (Reading file line kind) text = (why : List ℕ) × IsKindText kind why × (text ≡ reading_text file line why)
IsTopText (UnknownTarget word) text = text ≡ unknown_text word
IsTopText (StoreForeign bank) text = text ≡ foreign_text bank
IsTopText other text = ⊥
