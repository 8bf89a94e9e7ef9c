-- What a run prints on standard error: of each fault that it reports its line, in their order.
use Rattle.std.specs.Prelude.{◌≡◌, ◌≢◌, ◌⊎◌, ℕ, List, [], ◌∷◌, ◌++◌, IfOk, OnOk, Result, Ok, Err, String, string_bytes}
use Rattle.scons_base.specs.Rising.{Rose}
use Rattle.world_api.specs.Printed.{SinkMeaning}
use Rattle.world_api.specs.Printing.{IsPrefixed}
use Rattle.rule_graph.specs.declared.build_fault.BuildFault.TheVariants as fault
use Rattle.report_texts.specs.Faults.{fault_text}
use Rattle.scons_top.specs.declared.report.Report.{Report}
use Rattle.scons_top.specs.declared.report.Top.{Top}
use Rattle.scons_top.specs.declared.report.Top.TheVariants as top
use Rattle.scons_top.specs.declared.stop.Stop.{Stop}
use Rattle.scons_top.specs.Texts.{IsTopText}

-- the line of a fault: one of a build has a build's line, and for one of printing there is none
abbrev pub IsLine : Top → List ℕ → Type 0
IsLine (top.Usage place kind) text = IsTopText (top.Usage place kind) text
IsLine (top.Reading file line kind) text = IsTopText (top.Reading file line kind) text
IsLine (top.Missing node target) text = text ≡ fault_text (fault.Missing node target)
IsLine (top.UnknownTarget word) text = IsTopText (top.UnknownTarget word) text
IsLine (top.Cycle paths) text = text ≡ fault_text (fault.Cycle paths)
IsLine (top.ActionFailed target code) text = text ≡ fault_text (fault.ActionFailed target code)
IsLine (top.TreeFault path) text = text ≡ fault_text (fault.TreeFault path)
IsLine (top.StartFault target) text = text ≡ fault_text (fault.StartFault target)
IsLine top.StoreFault text = text ≡ fault_text fault.StoreFault
IsLine (top.StoreForeign bank) text = IsTopText (top.StoreForeign bank) text
IsLine top.OutFault text = text ≡ []
IsLine (top.TooLarge path size) text = text ≡ fault_text (fault.TooLarge path size)
IsLine (top.TooMany what count) text = text ≡ fault_text (fault.TooMany what count)

-- the lines of these faults, one behind the other
pub data AreLines : List Top → List ℕ → Type 0 where
  no_line : AreLines [] []
  one_more : {faults : List Top} {text : List ℕ} (f : Top) (line : List ℕ) → IsLine f line → AreLines faults text → AreLines (f ∷ faults) (line ++ text)

-- The lines of these faults stand printed, all of them, or where standard error refused maybe only a front.
pub record AreShown {E : Type 0} (e : SinkMeaning E) (err new : E) (faults : List Top) : Type 0 where
  pub text : List ℕ
  pub lines : AreLines faults text
  pub printed : IsPrefixed (e.text err) (e.text new) text
  pub whole : (e.text new ≡ e.text err ++ text) ⊎ Rose (e.faults err) (e.faults new)

-- So they do on a standard error that tells, unless memory was wanting.
pub record TellsFaults {E : Type 0} (e : SinkMeaning E) (err new : E) (report : Report) : Type 0 where
  pub told : e.tells new → e.tells err
  pub shown : report.status ≢ 3 → e.tells new → AreShown e err new report.faults

-- a step that stops has printed none there
abbrev pub TellsOrStops : {E : Type 0} → SinkMeaning E → E → E → Result Report Stop → Type 0
TellsOrStops e err new (Ok report) = TellsFaults e err new report
TellsOrStops e err new (Err s) = new ≡ err

-- So the first fault does that is kept, where its line could be made.
abbrev pub ShowsFirst : {E A F T G : Type 0} → SinkMeaning E → Top → Result (String A) F → List Top → List Top → E → E → Result T G → Type 0
ShowsFirst e fault text before after err new result =
    before ≡ [] → IfOk text (λ t. IsLine fault (string_bytes t)) → OnOk result (e.tells new → AreShown e err new after)
