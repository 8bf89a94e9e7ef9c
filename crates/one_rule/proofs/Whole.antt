-- A run, put together of its way and its end.
use Rattle.std.proofs.Common.{◌≡◌, ◌∙◌, ◌++◌, ◌∷◌, List, ℕ, [], sym, ap, subst, refl, arith, append_assoc, append-nil}
use Rattle.scons_base.specs.Rising.{Rose}
use Rattle.world_api.specs.Meaning.{Meaning}
use Rattle.world_api.specs.Printed.{SinkMeaning}
use Rattle.one_rule.specs.declared.rule.Rule.{Rule}
use Rattle.one_rule.specs.declared.report.Top.{Top}
use Rattle.one_rule.specs.declared.report.Top.TheVariants.{Usage, OutFault}
use Rattle.one_rule.specs.declared.report.UsageKind.TheVariants.{NotBuilt}
use Rattle.one_rule.specs.declared.ending.Ending.{Ending}
use Rattle.one_rule.specs.declared.ending.Ending.TheVariants as end
use Rattle.one_rule.specs.Conclusion.{Closes, closed, cut, EndsOutput, ended, refused, Concludes}
use Rattle.one_rule.specs.Course.{Course, Refused, Misread, Stopped, Failed, Built, begun_text, end_text, output_of, errors_of, faults_of}
use Rattle.one_rule.specs.Endings.{Comes, EndsAs}
use Rattle.world_api.specs.Printing.{Prints, PrintsThen, PrintsPart, PrintsSome}
use Rattle.one_rule.specs.Run.{status_of, MayPrint, IsCut, out_refused, no_memory, Runs, whole, unprinted, broken}
use Rattle.one_rule.specs.Texts.{done_text}
use Rattle.world_api.proofs.PrintRuns.{prints_nothing, prints_both}
use Rattle.one_rule.proofs.Closing.{some_of, none_of, cut_of}

module _ {S : Type 0} (meaning : SinkMeaning S) where
  -- a text and some of another
  then_some : (old mid new : S) (first second : List ℕ) → Prints meaning old mid first → PrintsSome meaning mid new second → PrintsThen meaning old new first second
  then_some old mid new first second p q = record {
    told = λ t. p.told (q.told t);
    printed = λ t. let part = q.printed t in record {
      front = part.front;
      rest = part.rest;
      parts = part.parts;
      printed = part.printed ∙ ap (λ text. text ++ part.front) (p.printed (q.told t));
    };
  }

  -- some of a text, and nothing more: some of a longer text
  some_longer : (old mid new : S) (text more : List ℕ) → PrintsSome meaning old mid text → Prints meaning mid new [] → PrintsSome meaning old new (text ++ more)
  some_longer old mid new text more p q = record {
    told = λ t. p.told (q.told t);
    printed = λ t. let part = p.printed (q.told t) in record {
      front = part.front;
      rest = part.rest ++ more;
      parts = ap (λ front. front ++ more) part.parts ∙ append_assoc part.front part.rest more;
      printed = q.printed t ∙ (append-nil (meaning.text mid) ∙ part.printed);
    };
  }

  some_of_part : (old new : S) (text : List ℕ) → PrintsPart meaning old new text → PrintsSome meaning old new text
  some_of_part old new text p = record { told = p.told; printed = p.printed }

module _ {W O E : Type 0} (world : Meaning W) (out : SinkMeaning O) (err : SinkMeaning E) (words : List (List ℕ)) (old_world new_world : W) (old_out mid_out new_out : O) (old_err new_err : E) where
  -- a cut that was seen behind the first part of the output
  later_cut : {status : ℕ} {tail : List Top} → out.faults mid_out ≡ out.faults old_out → IsCut (out.faults mid_out) (out.faults new_out) (err.faults old_err) (err.faults new_err) status tail → IsCut (out.faults old_out) (out.faults new_out) (err.faults old_err) (err.faults new_err) status tail
  later_cut {status} {tail} same h = subst (λ n. IsCut n (out.faults new_out) (err.faults old_err) (err.faults new_err) status tail) same h

  -- a course with a fault
  closes_course : (course : Course) {status : ℕ} {told : List Top} → status_of course ≡ 2 → Comes world out words old_world new_world old_out mid_out course
      → Closes out err mid_out new_out old_err new_err (faults_of course) (end_text course) (errors_of course) status told
      → Runs world out err words old_world new_world old_out new_out old_err new_err status told
  closes_course course two comes (closed printed written) =
      subst (λ s. Runs world out err words old_world new_world old_out new_out old_err new_err s (faults_of course)) two
      (whole course comes.takes (prints_both out old_out mid_out new_out (begun_text course) (end_text course) comes.printed printed) written)
  closes_course course two comes (cut {status} {tail} broken_by printed written) =
      unprinted course status tail comes.takes (later_cut comes.printed.faults broken_by)
      (then_some out old_out mid_out new_out (begun_text course) (end_text course) comes.printed printed) written

  -- a course without one
  completes_course : (rule : Rule) {status : ℕ} {told : List Top} → Comes world out words old_world new_world old_out mid_out (Built rule)
      → EndsOutput out mid_out new_out 0 [] done_text status told → Prints err old_err new_err []
      → Runs world out err words old_world new_world old_out new_out old_err new_err status told
  completes_course rule comes (ended printed) written = whole (Built rule) comes.takes (prints_both out old_out mid_out new_out (begun_text (Built rule)) done_text comes.printed printed) written
  completes_course rule comes (refused printed) written =
      unprinted (Built rule) 2 (OutFault ∷ []) comes.takes (later_cut comes.printed.faults (out_refused printed.faults))
      (then_some out old_out mid_out new_out (begun_text (Built rule)) done_text comes.printed (cut_of out mid_out new_out done_text printed))
      (some_of err old_err new_err [] written)

  -- a run that was cut on its way
  breaks : (status : ℕ) (tail : List Top) (said : ℕ) (told : List Top) (course : Course) → said ≡ status → told ≡ tail
      → world.counts new_world ≡ world.counts old_world
      → (world.tells new_world → MayPrint words (world.around old_world).tree course)
      → (status ≡ 2 → world.tells new_world → (world.around new_world).log ≡ (world.around old_world).log)
      → IsCut (out.faults old_out) (out.faults new_out) (err.faults old_err) (err.faults new_err) status tail
      → PrintsSome out old_out mid_out (begun_text course) → Prints out mid_out new_out [] → Prints err old_err new_err []
      → Runs world out err words old_world new_world old_out new_out old_err new_err said told
  breaks status tail said told course is all counts may unstarted by printed nothing written =
      subst (λ s. Runs world out err words old_world new_world old_out new_out old_err new_err s told) (sym is)
      (subst (Runs world out err words old_world new_world old_out new_out old_err new_err status) (sym all)
      (broken course status tail counts may unstarted by (some_longer out old_out mid_out new_out (begun_text course) (end_text course) printed nothing) written))

  pub runs : (ending : Ending) (status : ℕ) (told : List Top) → EndsAs world out words old_world new_world old_out mid_out ending → Concludes out err mid_out new_out old_err new_err ending status told
      → Runs world out err words old_world new_world old_out new_out old_err new_err status told
  runs (end.Refused fault) status told comes ends = closes_course (Refused fault) refl comes ends
  runs (end.Misread fault) status told comes ends = closes_course (Misread fault) refl comes ends
  runs (end.Stopped fault) status told comes ends = closes_course (Stopped fault) refl comes ends
  runs (end.Failed fault) status told comes ends = closes_course (Failed comes.0 fault) refl comes.1 ends
  runs end.Built status told comes ends = completes_course comes.0 comes.1 ends.output ends.errors
  runs end.Unprinted status told off ends =
      breaks 2 (OutFault ∷ []) status told off.1.course ends.status ends.faults off.1.counts off.1.may (λ two. off.0)
      (out_refused (subst (Rose (out.faults old_out)) (sym ends.output.faults) off.1.printed.faults))
      (cut_of out old_out mid_out (begun_text off.1.course) off.1.printed) ends.output ends.errors
  runs end.NoMemory status told off ends =
      breaks 3 [] status told off.course ends.status ends.faults off.counts off.may (λ two. absurd (omega arith)) no_memory
      (some_of_part out old_out mid_out (begun_text off.course) off.printed) ends.output ends.errors

-- memory ran out before the first word was looked at
module _ {W O E : Type 0} (world : Meaning W) (out : SinkMeaning O) (err : SinkMeaning E) (now : W) (same_out : O) (same_err : E) where
  not_begun : (words : List (List ℕ)) (course : Course) → MayPrint words (world.around now).tree course → Runs world out err words now now same_out same_out same_err same_err 3 []
  not_begun words course may =
      broken course 3 [] refl (λ told. may) (λ two told. refl) no_memory (none_of out same_out same_out (output_of course) (prints_nothing out same_out)) (prints_nothing err same_err)

  pub no_start : (words : List (List ℕ)) (status : ℕ) (told : List Top) → status ≡ 3 → told ≡ [] → Runs world out err words now now same_out same_out same_err same_err status told
  no_start [] status told is all = subst (λ s. Runs world out err [] now now same_out same_out same_err same_err s told) (sym is) (subst (Runs world out err [] now now same_out same_out same_err same_err 3) (sym all) (not_begun [] (Misread (Usage 0 NotBuilt)) refl))
  no_start (word ∷ words) status told is all = subst (λ s. Runs world out err (word ∷ words) now now same_out same_out same_err same_err s told) (sym is) (subst (Runs world out err (word ∷ words) now now same_out same_out same_err same_err 3) (sym all) (not_begun (word ∷ words) (Refused (Usage 0 NotBuilt)) (λ e. cc)))
