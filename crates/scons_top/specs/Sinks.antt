-- What a step leaves on a sink: a text of some kind, whole or up to where it was cut short.
use Rattle.std.specs.Prelude.{◌≡◌, ◌≢◌, ◌⊎◌, ℕ, List, ◌++◌, Contains, Result, Ok, Err}
use Rattle.world_api.specs.Printed.{SinkMeaning}
use Rattle.world_api.specs.Printing.{IsPrefixed, PrintsSome}
use Rattle.rule_graph.specs.declared.build_fault.BuildFault.TheVariants as fault
use Rattle.scons_top.specs.declared.report.Report.{Report}
use Rattle.scons_top.specs.declared.report.Top.TheVariants as top
use Rattle.scons_top.specs.declared.stop.Stop.{Stop}
use Rattle.scons_top.specs.declared.stop.Stop.TheVariants as stop

-- this text stands printed, all of it
pub record Printed {S : Type 0} (p : SinkMeaning S) (old new : S) (text : List ℕ) : Type 0 where
  pub told : p.tells new → p.tells old
  pub whole : p.tells new → p.text new ≡ p.text old ++ text

-- a sink refused, or memory was wanting
abbrev pub IsCutBy : Stop → Type 0
IsCutBy (stop.Fault fault) = ⊥
IsCutBy (stop.Build fault.OutFault) = Unit {0}
IsCutBy (stop.Build other) = ⊥
IsCutBy stop.Memory = Unit {0}

-- so it does where a step on the sink alone went on, and a front of it where that stopped, which cuts it short
abbrev pub PrintsUpTo : {S T : Type 0} → SinkMeaning S → List ℕ → S → S → Result T Stop → Type 0
PrintsUpTo p text old new (Ok value) = Printed p old new text
PrintsUpTo p text old new (Err s) = IsCutBy s × PrintsSome p old new text

-- or where there was a reason not to print it to its end
abbrev pub PrintsUnless : {S T : Type 0} → SinkMeaning S → Type 0 → List ℕ → S → S → Result T Stop → Type 0
PrintsUnless p reason text old new (Ok value) = Printed p old new text ⊎ (reason × PrintsSome p old new text)
PrintsUnless p reason text old new (Err s) = PrintsSome p old new text

-- A text of this kind stands printed, all of it, or where the run was cut short maybe only a front of it.
pub record IsPrintedOf {S : Type 0} (p : SinkMeaning S) (IsText : List ℕ → Type 0) (cut : Type 0) (old new : S) : Type 0 where
  pub text : List ℕ
  pub is : IsText text
  pub printed : (p.text new ≡ p.text old ++ text) ⊎ (cut × IsPrefixed (p.text old) (p.text new) text)

-- So it does on a sink that tells, where more is so.
pub record PrintsSuch {S : Type 0} (p : SinkMeaning S) (where_so : Type 0) (IsText : List ℕ → Type 0) (cut : Type 0) (old new : S) : Type 0 where
  pub told : p.tells new → p.tells old
  pub such : where_so → p.tells new → IsPrintedOf p IsText cut old new

-- ---- what cuts a run short

-- unless memory was wanting a sink's refusal is reported
abbrev pub IsCutShort : Report → Type 0
IsCutShort report = report.status ≢ 3 → Contains report.faults top.OutFault

abbrev pub IsCut : Result Report Stop → Type 0
IsCut (Ok report) = IsCutShort report
IsCut (Err s) = IsCutBy s
