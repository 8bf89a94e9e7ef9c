-- What stands printed on standard error as a run ends.
use Rattle.std.proofs.Common.{◌≡◌, ◌≢◌, ◌∙◌, ◌⊎◌, ◌≤◌, inl, inr, sym, subst, refl, ap, ℕ, Bool, true, false, List, [], ◌∷◌, ◌++◌, map, append-nil, append_assoc, arith}
use Rattle.std.specs.Prelude.{Result, Ok, Err, IfOk, OnOk, OnErr, IsErrAnd}
use Rattle.std.proofs.lemmas.Bool.{false≢true}
use Rattle.std.proofs.lemmas.List.Elements.{All-nil}
use Rattle.scons_top.specs.Faults.{EarlyOnlyIf, top_of_own}
use Rattle.scons_base.specs.Rising.{Rose}
use Rattle.world_api.specs.Printed.{SinkMeaning}
use Rattle.world_api.specs.Printing.{IsPrefixed, Prints, Cuts}
use Rattle.world_api.specs.declared.refusal.Fault.{Fault}
use Rattle.rule_graph.specs.declared.build_fault.BuildFault.{BuildFault}
use Rattle.rule_graph.specs.declared.build_fault.BuildFault.TheVariants as fault
use Rattle.report_texts.specs.Faults.{fault_text}
use Rattle.build_run.specs.FaultTexts.{BuildTells, texts_of}
use Rattle.build_run.specs.declared.end.BuildEnd.{BuildEnd}
use Rattle.scons_top.specs.Endings.{AddsUnprinted, ClosesWith}
use Rattle.scons_top.specs.Stops.{top_of}
use Rattle.scons_top.specs.Texts.{IsTopText}
use Rattle.scons_top.specs.Told.{IsLine, AreLines, AreShown, TellsFaults, TellsOrStops}
use Rattle.scons_top.specs.Told.AreLines.{no_line, one_more}
use Rattle.scons_top.specs.declared.report.Report.{Report}
use Rattle.scons_top.specs.declared.report.Top.{Top}
use Rattle.scons_top.specs.declared.report.Top.TheVariants as top
use Rattle.scons_top.specs.declared.stop.OwnFault.{OwnFault}
use Rattle.scons_top.specs.declared.stop.Stop.{Stop}
use Rattle.scons_top.proofs.Printing.{prefixed_all, prefixed_more}

-- the lines of faults

pub line_of_top : (f : Top) (text : List ℕ) → IsTopText f text → IsLine f text
line_of_top (top.Usage place kind) text is = is
line_of_top (top.Reading file line kind) text is = is
line_of_top (top.Missing node target) text is = absurd is
line_of_top (top.UnknownTarget word) text is = is
line_of_top (top.Cycle paths) text is = absurd is
line_of_top (top.ActionFailed target code) text is = absurd is
line_of_top (top.TreeFault path) text is = absurd is
line_of_top (top.StartFault target) text is = absurd is
line_of_top top.StoreFault text is = absurd is
line_of_top (top.StoreForeign bank) text is = is
line_of_top top.OutFault text is = absurd is
line_of_top (top.TooLarge path size) text is = absurd is
line_of_top (top.TooMany what count) text is = absurd is

pub line_of_build : (f : BuildFault) → IsLine (top_of f) (fault_text f)
line_of_build (fault.Missing node target) = refl
line_of_build (fault.Cycle paths) = refl
line_of_build (fault.ActionFailed target code) = refl
line_of_build (fault.TreeFault path) = refl
line_of_build (fault.StartFault target) = refl
line_of_build fault.StoreFault = refl
line_of_build fault.OutFault = refl
line_of_build (fault.TooLarge path size) = refl
line_of_build (fault.TooMany what count) = refl

pub own_lines : {T R : Type 0} (bytes : T → List ℕ) (f : OwnFault) (told : Top) (text : Result T R) → told ≡ top_of_own f → IfOk text (λ t. IsTopText (top_of_own f) (bytes t)) → IfOk text (λ t. IsLine told (bytes t))
own_lines bytes f told (Ok t) same is = subst (λ (x : Top). IsLine x (bytes t)) (sym same) (line_of_top (top_of_own f) (bytes t) is)
own_lines bytes f told (Err e) same is = tt

pub build_lines : {T R : Type 0} (bytes : T → List ℕ) (f : BuildFault) (told : Top) (text : Result T R) → told ≡ top_of f → IfOk text (λ t. bytes t ≡ fault_text f) → IfOk text (λ t. IsLine told (bytes t))
build_lines bytes f told (Ok t) same is = subst (λ (x : Top). IsLine x (bytes t)) (sym same) (subst (IsLine (top_of f)) (sym is) (line_of_build f))
build_lines bytes f told (Err e) same is = tt

lines_built : (found : List BuildFault) → AreLines (map top_of found) (texts_of found)
lines_built [] = no_line
lines_built (f ∷ found) = one_more (top_of f) (fault_text f) (line_of_build f) (lines_built found)

lines_refused : (found : List BuildFault) → AreLines (map top_of found ++ top.OutFault ∷ []) (texts_of found)
lines_refused [] = one_more top.OutFault [] refl no_line
lines_refused (f ∷ found) = one_more (top_of f) (fault_text f) (line_of_build f) (lines_refused found)

pub lines_closed : (found : List BuildFault) (written : Result (Unit {0}) Stop) (faults : List Top) → ClosesWith found written faults → AreLines faults (texts_of found)
lines_closed found (Ok value) faults is = subst (λ (fs : List Top). AreLines fs (texts_of found)) (sym is) (lines_built found)
lines_closed found (Err s) faults is = subst (λ (fs : List Top). AreLines fs (texts_of found)) (sym is) (lines_refused found)

-- one fault

pub line_here : {T R : Type 0} (bytes : T → List ℕ) (f : Top) (text : Result T R) (t : T) → text ≡ Ok t → IfOk text (λ t. IsLine f (bytes t)) → IsLine f (bytes t)
line_here bytes f text t is h = subst (λ r. IfOk r (λ t. IsLine f (bytes t))) is h

module _ {E : Type 0} (e : SinkMeaning E) (err new : E) (f : Top) (line : List ℕ) (kind : IsLine f line) where
  pub shown_printed : (old faults : List Top) → old ≡ [] → faults ≡ old ++ f ∷ [] → Prints e err new line → e.tells new → AreShown e err new faults
  shown_printed old faults none is h t =
      let all = h.printed t in
      let same = is ∙ ap (λ (fs : List Top). fs ++ f ∷ []) none in
      record {
        text = line ++ [];
        lines = subst (λ (fs : List Top). AreLines fs (line ++ [])) (sym same) (one_more f line kind no_line);
        printed = prefixed_more (e.text err) (e.text new) line [] (prefixed_all (e.text err) (e.text new) line all);
        whole = inl (all ∙ ap (λ x. e.text err ++ x) (sym (append-nil line)));
      }

  pub shown_refused : (old faults : List Top) → old ≡ [] → faults ≡ (old ++ f ∷ []) ++ top.OutFault ∷ [] → Cuts e err new line → e.tells new → AreShown e err new faults
  shown_refused old faults none is h t =
      let same = is ∙ ap (λ (fs : List Top). (fs ++ f ∷ []) ++ top.OutFault ∷ []) none in
      record {
        text = line ++ ([] ++ []);
        lines = subst (λ (fs : List Top). AreLines fs (line ++ ([] ++ []))) (sym same) (one_more f line kind (one_more top.OutFault [] refl no_line));
        printed = prefixed_more (e.text err) (e.text new) line ([] ++ []) (h.printed t);
        whole = inr h.faults;
      }

-- reports

pub tells_wanting : {E : Type 0} (e : SinkMeaning E) (err new : E) (report : Report) → (report.status ≢ 3 → true ≡ false) → (e.tells new → e.tells err) → TellsFaults e err new report
tells_wanting e err new report wants told = record { told = told; shown = λ ne. absurd (false≢true (sym (wants ne))) }

pub tells_shown : {E : Type 0} (e : SinkMeaning E) (err new : E) (report : Report) (faults : List Top) → report.faults ≡ faults → (e.tells new → e.tells err)
    → (e.tells new → AreShown e err new faults) → TellsFaults e err new report
tells_shown e err new report faults is told h = record { told = told; shown = λ ne t. subst (AreShown e err new) (sym is) (h t) }

pub tells_none : {E : Type 0} (e : SinkMeaning E) (err : E) (report : Report) → report.faults ≡ [] → TellsFaults e err err report
tells_none e err report is =
    tells_shown e err err report [] is (λ t. t) (λ t. record {
      text = [];
      lines = no_line;
      printed = prefixed_all (e.text err) (e.text err) [] (sym (append-nil (e.text err)));
      whole = inl (sym (append-nil (e.text err)));
    })

-- a build and what stands behind it
pub tells_closed : {E : Type 0} (e : SinkMeaning E) (err new : E) (answer : BuildEnd) (written : Result (Unit {0}) Stop) (report : Report) → BuildTells e err new answer
    → (report.status ≢ 3 → answer.memory ≡ false) → (report.status ≢ 3 → ClosesWith answer.faults written report.faults) → TellsFaults e err new report
tells_closed e err new answer written report h memory closes = record {
  told = h.told;
  shown = λ ne t. record {
    text = texts_of answer.faults;
    lines = lines_closed answer.faults written report.faults (closes ne);
    printed = h.printed (memory ne) t;
    whole = h.whole (memory ne) t;
  };
}

-- a build that had no fault printed nothing there

front_none : (front rest : List ℕ) → [] ≡ front ++ rest → front ≡ []
front_none [] rest is = refl
front_none (b ∷ front) rest is = absurd (let no = is in cc)

none_printed : (old now text : List ℕ) → text ≡ [] → IsPrefixed old now text → now ≡ old
none_printed old now text is h = h.printed ∙ ap (λ x. old ++ x) (front_none h.front h.rest (sym is ∙ h.parts)) ∙ append-nil old

pub tells_behind : {E : Type 0} (e : SinkMeaning E) (err mid new : E) (answer : BuildEnd) (report : Report) → BuildTells e err mid answer → answer.faults ≡ [] → answer.memory ≡ false
    → e.faults mid ≡ e.faults err → TellsFaults e mid new report → TellsFaults e err new report
tells_behind e err mid new answer report h none memory count behind = record {
  told = λ t. h.told (behind.told t);
  shown = λ ne t.
      let one = behind.shown ne t in
      let same = none_printed (e.text err) (e.text mid) (texts_of answer.faults) (ap texts_of none) (h.printed memory (behind.told t)) in
      record {
        text = one.text;
        lines = one.lines;
        printed = subst (λ x. IsPrefixed x (e.text new) one.text) same one.printed;
        whole = back one.text same one.whole;
      };
}
  where
    back : (text : List ℕ) → e.text mid ≡ e.text err → (e.text new ≡ e.text mid ++ text) ⊎ Rose (e.faults mid) (e.faults new) → (e.text new ≡ e.text err ++ text) ⊎ Rose (e.faults err) (e.faults new)
    back text same (inl all) = inl (all ∙ ap (λ x. x ++ text) same)
    back text same (inr rose) = inr (subst (λ n. Rose n (e.faults new)) count rose)

-- the exits of a `?`

pub stops_silent : {E : Type 0} (e : SinkMeaning E) (err : E) (P : Stop → Type 0) (r : Result Report Stop) → IsErrAnd r P → TellsOrStops e err err r
stops_silent e err P (Ok report) is = absurd is
stops_silent e err P (Err s) is = refl

-- a step that stopped, whose stop is told
pub tells_stopped : {E : Type 0} (e : SinkMeaning E) (err mid new : E) (report : Report) → mid ≡ err → TellsFaults e mid new report → TellsFaults e err new report
tells_stopped e err mid new report same h = subst (λ x. TellsFaults e x new report) same h

-- a step that has no fault and prints none there
pub none_told : {E : Type 0} (e : SinkMeaning E) (err : E) (r : Result Report Stop) → IfOk r (λ report. report.faults ≡ []) → TellsOrStops e err err r
none_told e err (Ok report) is = tells_none e err report is
none_told e err (Err s) is = refl

pub early_none : (r : Result Report Stop) → IfOk r (λ report. report.faults ≡ []) → IfOk r (λ report. EarlyOnlyIf ⊥ report.faults)
early_none (Ok report) is = subst (EarlyOnlyIf ⊥) (sym is) (All-nil _)
early_none (Err s) is = tt

-- a fault that ended a list

found_as : (f : BuildFault) (none one found : List BuildFault) → none ≡ [] → one ≡ none ++ f ∷ [] → found ≡ one → found ≡ f ∷ []
found_as f none one found is pushed same = same ∙ pushed ∙ ap (λ (fs : List BuildFault). fs ++ f ∷ []) is

pub tells_listed : {E : Type 0} (e : SinkMeaning E) (err new : E) (f : BuildFault) (none one found : List BuildFault) (text : List ℕ) (written : Result (Unit {0}) Stop) (report : Report)
    → none ≡ [] → one ≡ none ++ f ∷ [] → found ≡ one → text ≡ fault_text f → Prints e err new text → (report.status ≢ 3 → ClosesWith found written report.faults) → TellsFaults e err new report
tells_listed e err new f none one found text written report is pushed same line h closes =
    let listed = found_as f none one found is pushed same in
    let kind = subst (IsLine (top_of f)) (sym line) (line_of_build f) in
    record {
      told = h.told;
      shown = λ ne t.
          let all = h.printed t in
          let shows = subst (λ x. x ≡ texts_of found) (sym line) (sym (append-nil (fault_text f)) ∙ sym (ap texts_of listed)) in
          record {
            text = texts_of found;
            lines = lines_closed found written report.faults (closes ne);
            printed = subst (IsPrefixed (e.text err) (e.text new)) shows (prefixed_all (e.text err) (e.text new) text all);
            whole = inl (subst (λ x. e.text new ≡ e.text err ++ x) shows all);
          };
    }

pub tells_unlisted : {E : Type 0} (e : SinkMeaning E) (err new : E) (f : BuildFault) (none one found : List BuildFault) (text : List ℕ) (written : Result (Unit {0}) Stop) (report : Report)
    → none ≡ [] → one ≡ none ++ f ∷ [] → (report.status ≢ 3 → found ≡ one ++ fault.OutFault ∷ []) → text ≡ fault_text f → Cuts e err new text
    → (report.status ≢ 3 → ClosesWith found written report.faults) → TellsFaults e err new report
tells_unlisted e err new f none one found text written report is pushed same line h closes =
    record {
      told = h.told;
      shown = λ ne t.
          let listed = same ne ∙ ap (λ (fs : List BuildFault). fs ++ fault.OutFault ∷ []) (pushed ∙ ap (λ (fs : List BuildFault). fs ++ f ∷ []) is) in
          let shows = subst (λ x. x ≡ texts_of found) (sym line) (sym (append-nil (fault_text f)) ∙ sym (ap texts_of listed)) in
          record {
            text = texts_of found;
            lines = lines_closed found written report.faults (closes ne);
            printed = subst (IsPrefixed (e.text err) (e.text new)) shows (h.printed t);
            whole = inr h.faults;
          };
    }

-- by whether it was printed
pub tells_ended : {E : Type 0} (e : SinkMeaning E) (err new : E) (f : BuildFault) (none one found : List BuildFault) (text line : List ℕ) (printed : Result (Unit {0}) Fault) (lost : Bool)
    (written : Result (Unit {0}) Stop) (report : Report)
    → none ≡ [] → one ≡ none ++ f ∷ [] → line ≡ fault_text f → text ≡ line → OnOk printed (Prints e err new text) → OnErr printed (Cuts e err new text)
    → AddsUnprinted printed one found lost → (report.status ≢ 3 → lost ≡ false) → (report.status ≢ 3 → ClosesWith found written report.faults) → TellsFaults e err new report
tells_ended e err new f none one found text line (Ok value) lost written report is pushed kind at prints cuts adds kept closes =
    tells_listed e err new f none one found text written report is pushed adds.0 (at ∙ kind) prints closes
tells_ended e err new f none one found text line (Err refused) lost written report is pushed kind at prints cuts adds kept closes =
    tells_unlisted e err new f none one found text written report is pushed (λ ne. adds.0 (kept ne)) (at ∙ kind) cuts closes
