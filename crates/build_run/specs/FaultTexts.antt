-- What a build prints on standard error: of each fault that it reports its text, in their order.
use Rattle.std.specs.Prelude.{◌≡◌, ◌≤◌, ◌⊎◌, Bool, true, false, ℕ, List, [], ◌∷◌, ◌++◌, flat_map, Result, Ok, Err}
use Rattle.scons_base.specs.Rising.{Rose}
use Rattle.world_api.specs.Printed.{SinkMeaning}
use Rattle.world_api.specs.Printing.{Cuts, IsPrefixed, Prints}
use Rattle.rule_graph.specs.declared.build_fault.BuildFault.{BuildFault}
use Rattle.rule_graph.specs.declared.build_fault.BuildFault.TheVariants.{OutFault}
use Rattle.report_texts.specs.Faults.{fault_text}
use Rattle.build_run.specs.declared.account.Account.{Account}
use Rattle.build_run.specs.declared.end.BuildEnd.{BuildEnd}
use Rattle.build_run.specs.declared.site.Site.{Site}

-- the texts of some faults, one behind the other
abbrev pub texts_of : List BuildFault → List ℕ
texts_of faults = flat_map fault_text faults

-- ---- accounts

-- Since it began standard error printed the texts of these faults, or a front of them where it refused. Of a run for which memory
-- was wanting nothing is said.
pub record StandPrinted {E : Type 0} (e : SinkMeaning E) (start now : E) (faults : List BuildFault) (memory shut : Bool) : Type 0 where
  pub told : e.tells now → e.tells start
  pub printed : memory ≡ false → e.tells now → IsPrefixed (e.text start) (e.text now) (texts_of faults)
  pub whole : memory ≡ false → shut ≡ false → e.tells now → e.text now ≡ e.text start ++ texts_of faults
  pub later : e.faults start ≤ e.faults now
  pub refused : shut ≡ true → Rose (e.faults start) (e.faults now)

-- those of the faults that were kept
abbrev pub HasTold : {E : Type 0} → SinkMeaning E → E → E → Account → Type 0
HasTold e start now account = StandPrinted e start now account.faults.items account.memory account.is_err_shut

-- So it is still, over calls on standard error.
abbrev pub KeepsTold : {E : Type 0} → SinkMeaning E → E → Account → E → Account → Type 0
KeepsTold {E} e err old new_err new = (start : E) → HasTold e start err old → HasTold e start new_err new

-- nothing more was kept, and standard error wasn't called
pub record SameTold (old new : Account) : Type 0 where
  pub faults : new.faults.items ≡ old.faults.items
  pub shut : new.is_err_shut ≡ old.is_err_shut
  pub memory : new.memory ≡ false → old.memory ≡ false

-- a fault more was kept, unless memory was wanting
pub record KeepsFault (old : Account) (fault : BuildFault) (new : Account) : Type 0 where
  pub shut : new.is_err_shut ≡ old.is_err_shut
  pub memory : new.memory ≡ false → old.memory ≡ false
  pub faults : new.memory ≡ false → new.faults.items ≡ old.faults.items ++ fault ∷ []

-- A text was printed, unless standard error had refused before, or there was none for want of memory; where it refuses that is
-- a fault more.
pub data Shows {E : Type 0} (e : SinkMeaning E) (err : E) (old : Account) (text : List ℕ) (new_err : E) (new : Account) : Type 0 where
  is_shut : old.is_err_shut ≡ true → new ≡ old → new_err ≡ err → Shows e err old text new_err new
  is_wanting : new.memory ≡ true → new.is_err_shut ≡ old.is_err_shut → new_err ≡ err → Shows e err old text new_err new
  is_printed : old.is_err_shut ≡ false → Prints e err new_err text → new ≡ old → Shows e err old text new_err new
  is_refused : old.is_err_shut ≡ false → Cuts e err new_err text → new.is_err_shut ≡ true → (new.memory ≡ false → old.memory ≡ false) →
      (new.memory ≡ false → new.faults.items ≡ old.faults.items ++ OutFault ∷ []) → Shows e err old text new_err new

-- so it is with a text that could be made, and with none
abbrev pub ShowsIf : {E T R : Type 0} → SinkMeaning E → E → Account → (T → List ℕ) → Result T R → E → Account → Type 0
ShowsIf e err old bytes (Ok text) new_err new = Shows e err old (bytes text) new_err new
ShowsIf e err old bytes (Err wanting) new_err new = (text : List ℕ) → Shows e err old text new_err new

-- ---- sites

abbrev pub SiteHasTold : {W O E : Type 0} → SinkMeaning E → E → Site W O E → Type 0
SiteHasTold e start site = HasTold e start site.err.now site.account.now

abbrev pub SiteKeepsTold : {W O E : Type 0} → SinkMeaning E → Site W O E → Site W O E → Type 0
SiteKeepsTold {E = E} e old new = (start : E) → SiteHasTold e start old → SiteHasTold e start new

-- ---- builds

-- Unless memory was wanting a build printed the texts of the faults that it reports on standard error, in their order and
-- nothing else; where that refused, a front of them.
pub record BuildTells {E : Type 0} (e : SinkMeaning E) (err new : E) (answer : BuildEnd) : Type 0 where
  pub told : e.tells new → e.tells err
  pub printed : answer.memory ≡ false → e.tells new → IsPrefixed (e.text err) (e.text new) (texts_of answer.faults)
  pub whole : answer.memory ≡ false → e.tells new → (e.text new ≡ e.text err ++ texts_of answer.faults) ⊎ Rose (e.faults err) (e.faults new)
