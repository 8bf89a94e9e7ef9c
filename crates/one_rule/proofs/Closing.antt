-- The report of a run, by its status and faults.
use Rattle.std.proofs.Common.{◌≡◌, ◌∙◌, ℕ, List, [], ◌∷◌, ◌++◌, sym, ap, subst, refl, append-nil, Err}
use Rattle.world_api.specs.Printed.{SinkMeaning}
use Rattle.one_rule.specs.declared.report.Top.{Top}
use Rattle.one_rule.specs.declared.report.Top.TheVariants.{OutFault}
use Rattle.one_rule.specs.declared.stops.PrintStop.{PrintStop}
use Rattle.one_rule.specs.declared.stops.PrintStop.TheVariants as stop
use Rattle.one_rule.specs.Conclusion.{Closes, closed, cut, EndsOutput, ended, refused, Reports, stop_status, stop_faults, ErrorPrints}
use Rattle.world_api.specs.Printing.{Prints, PrintsSome, Cuts}
use Rattle.one_rule.specs.Run.{out_refused, err_refused, no_memory}
use Rattle.world_api.proofs.PrintRuns.{prints_nothing}

module _ {S : Type 0} (meaning : SinkMeaning S) where
  pub some_of : (old new : S) (text : List ℕ) → Prints meaning old new text → PrintsSome meaning old new text
  some_of old new text p = record { told = p.told; printed = λ t. record { front = text; rest = []; parts = sym (append-nil text); printed = p.printed t } }

  pub none_of : (old new : S) (text : List ℕ) → Prints meaning old new [] → PrintsSome meaning old new text
  none_of old new text p = record { told = p.told; printed = λ t. record { front = []; rest = text; parts = refl; printed = p.printed t } }

  pub cut_of : (old new : S) (text : List ℕ) → Cuts meaning old new text → PrintsSome meaning old new text
  cut_of old new text c = record { told = c.told; printed = c.printed }

module _ {O : Type 0} (out : SinkMeaning O) (old new : O) (status : ℕ) (found : List Top) (last : List ℕ) (said : ℕ) (told : List Top) where
  output_at : (due : ℕ) (tops : List Top) → said ≡ due → told ≡ tops → EndsOutput out old new status found last due tops → EndsOutput out old new status found last said told
  output_at due tops is all ends = subst (λ s. EndsOutput out old new status found last s told) (sym is) (subst (EndsOutput out old new status found last due) (sym all) ends)

  pub ended_at : said ≡ status → told ≡ found → Prints out old new last → EndsOutput out old new status found last said told
  ended_at is all printed = output_at status found is all (ended printed)

  pub refused_at : said ≡ 2 → told ≡ found ++ OutFault ∷ [] → Cuts out old new last → EndsOutput out old new status found last said told
  refused_at is all printed = output_at 2 (found ++ OutFault ∷ []) is all (refused printed)

module _ {O E : Type 0} (out : SinkMeaning O) (err : SinkMeaning E) (found : List Top) (last errors : List ℕ) where
  -- the fault's text is printed, and the last line of output ends or is cut
  pub close_output : (old_out new_out : O) (old_err new_err : E) {said : ℕ} {told : List Top} → Prints err old_err new_err errors → EndsOutput out old_out new_out 2 found last said told → Closes out err old_out new_out old_err new_err found last errors said told
  close_output old_out new_out old_err new_err written (ended printed) = closed printed written
  close_output old_out new_out old_err new_err written (refused printed) = cut (out_refused printed.faults) (cut_of out old_out new_out last printed) (some_of err old_err new_err errors written)

  closes_cut : (same : O) (old_err new_err : E) (why : PrintStop) → ErrorPrints err errors old_err new_err (Err why) → Closes out err same same old_err new_err found last errors (stop_status why) (found ++ stop_faults why)
  closes_cut same old_err new_err stop.Unprinted written = cut (err_refused written.faults) (none_of out same same last (prints_nothing out same)) (cut_of err old_err new_err errors written)
  closes_cut same old_err new_err stop.NoMemory written = cut no_memory (none_of out same same last (prints_nothing out same)) (none_of err old_err new_err errors written)

  -- the fault's text is cut
  pub close_errors : (same : O) (old_err new_err : E) (why : PrintStop) (said : ℕ) (told : List Top) → said ≡ stop_status why → told ≡ found ++ stop_faults why → ErrorPrints err errors old_err new_err (Err why) → Closes out err same same old_err new_err found last errors said told
  close_errors same old_err new_err why said told is all written =
      subst (λ s. Closes out err same same old_err new_err found last errors s told) (sym is)
      (subst (Closes out err same same old_err new_err found last errors (stop_status why)) (sym all) (closes_cut same old_err new_err why written))

module _ {O E : Type 0} (out : SinkMeaning O) (err : SinkMeaning E) (same_out : O) (same_err : E) where
  pub reports_at : (why : PrintStop) (before : List Top) (said : ℕ) (told : List Top) → before ≡ [] → said ≡ stop_status why → told ≡ before ++ stop_faults why → Reports out err same_out same_out same_err same_err why said told
  reports_at why before said told none is all = record {
    status = is;
    faults = all ∙ ap (λ xs. xs ++ stop_faults why) none;
    output = prints_nothing out same_out;
    errors = prints_nothing err same_err;
  }
