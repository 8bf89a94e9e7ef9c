-- The steps of reading a script.
use Rattle.std.specs.Prelude.{◌≡◌, ℕ, List, Option, Some, None, Result, Ok, Err}
use Rattle.world_api.specs.declared.refusal.ReadRefusal.{ReadRefusal}
use Rattle.world_api.specs.declared.refusal.ReadRefusal.TheVariants as refusal
use Rattle.one_rule.specs.declared.rule.Rule.{Rule}
use Rattle.one_rule.specs.declared.line_form.LineFault.{LineFault}
use Rattle.one_rule.specs.declared.line_form.LineFault.TheVariants as line
use Rattle.one_rule.specs.declared.report.Top.TheVariants.{Reading, TooLarge, TreeFault}
use Rattle.one_rule.specs.declared.report.ReadKind.TheVariants.{NoScript, LineForm}
use Rattle.one_rule.specs.declared.stops.ReadStop.{ReadStop}
use Rattle.one_rule.specs.declared.stops.ReadStop.TheVariants.{Fault, NoMemory}
use Rattle.one_rule.specs.LineForm.{Declares, IsFaultLine}

abbrev pub refused_stop : List ℕ → ReadRefusal → ReadStop
refused_stop path refusal.Fault = Fault (TreeFault path)
refused_stop path (refusal.TooLarge size) = Fault (TooLarge path size)
refused_stop path refusal.Memory = NoMemory

abbrev pub misread_stop : List ℕ → LineFault → ReadStop
misread_stop path (line.At number) = Fault (Reading path number LineForm)
misread_stop path line.Memory = NoMemory

abbrev pub MisreadAs : List ℕ → List ℕ → LineFault → Type 0
MisreadAs path bytes (line.At number) = IsFaultLine bytes number
MisreadAs path bytes line.Memory = Unit {0}

-- the rule that these bytes declare, or why they declare none
abbrev pub IsRuleOf : List ℕ → List ℕ → Result Rule ReadStop → Type 0
IsRuleOf path bytes (Ok rule) = Declares bytes rule
IsRuleOf path bytes (Err stop) = (fault : LineFault) × (stop ≡ misread_stop path fault) × MisreadAs path bytes fault

-- the rule of a script with this content
abbrev pub IsRuleIn : List ℕ → Option (List ℕ) → Result Rule ReadStop → Type 0
IsRuleIn path None result = result ≡ Err (Fault (Reading path 0 NoScript))
IsRuleIn path (Some bytes) result = IsRuleOf path bytes result
