-- What a look at the script says of the tree as it was.
use Rattle.std.proofs.Common.{◌≡◌, ◌∙◌, ◌<◌, ◌≤◌, ℕ, List, [], length, sym, subst, Some, None, Option, Result, Ok, Err, IfSome, refl}
use Rattle.scons_base.specs.declared.limits.TheConstants.{SCRIPT_LIMIT}
use Rattle.world_api.specs.Around.{Around}
use Rattle.world_api.specs.Calls.{Asks}
use Rattle.world_api.specs.Reads.{IsOver}
use Rattle.world_api.specs.declared.refusal.ReadRefusal.{ReadRefusal}
use Rattle.world_api.specs.declared.refusal.ReadRefusal.TheVariants as refusal
use Rattle.one_rule.specs.declared.rule.Rule.{Rule}
use Rattle.one_rule.specs.declared.report.Top.TheVariants.{Reading, TooLarge, TreeFault}
use Rattle.one_rule.specs.declared.report.ReadKind.TheVariants.{NoScript, LineForm}
use Rattle.one_rule.specs.LineForm.{Declares, IsFaultLine}
use Rattle.one_rule.specs.Reading.{script, HasScript, Reads, Misreads, no_script, large_script, not_in_form, unreadable}
use Rattle.one_rule.specs.declared.line_form.LineFault.{LineFault}
use Rattle.one_rule.specs.declared.line_form.LineFault.TheVariants as line
use Rattle.one_rule.specs.declared.stops.ReadStop.{ReadStop}
use Rattle.one_rule.specs.Ends.{ReadGives}
use Rattle.one_rule.specs.ReadSteps.{refused_stop, misread_stop, MisreadAs, IsRuleOf, IsRuleIn}
use Rattle.one_rule.proofs.Quiet.{same_file}

module _ (old new : Around) (path : List ℕ) (named : path ≡ script) (idle : old.running ≡ []) (asks : Asks old new) where
  at_script : old.tree script ≡ new.tree path
  at_script = sym (same_file old new script idle asks) ∙ subst (λ p. new.tree script ≡ new.tree p) (sym named) refl

  pub none_read : None ≡ new.tree path → Misreads old.tree (Reading path 0 NoScript)
  none_read none = subst (λ p. Misreads old.tree (Reading p 0 NoScript)) (sym named) (no_script (at_script ∙ sym none))

  pub large_read : (size : ℕ) → IsOver (new.tree path) (refusal.TooLarge size) → SCRIPT_LIMIT < size → Misreads old.tree (TooLarge path size)
  large_read size over above =
      subst (λ p. Misreads old.tree (TooLarge p size)) (sym named)
      (subst (λ n. Misreads old.tree (TooLarge script n)) over.2 (large_script over.0 (at_script ∙ over.1) (subst (λ n. SCRIPT_LIMIT < n) (sym over.2) above)))

  has_script : (bytes : List ℕ) → Some bytes ≡ new.tree path → length bytes ≤ SCRIPT_LIMIT → HasScript old.tree bytes
  has_script bytes is small = record { is = at_script ∙ sym is; small = small }

  pub bad_line : (bytes : List ℕ) (line : ℕ) → Some bytes ≡ new.tree path → length bytes ≤ SCRIPT_LIMIT → IsFaultLine bytes line → Misreads old.tree (Reading path line LineForm)
  bad_line bytes line is small fault = subst (λ p. Misreads old.tree (Reading p line LineForm)) (sym named) (not_in_form bytes line (has_script bytes is small) fault)

  pub fault_read : Misreads old.tree (TreeFault path)
  fault_read = subst (λ p. Misreads old.tree (TreeFault p)) (sym named) unreadable

  pub rule_read : (bytes : List ℕ) (rule : Rule) → Some bytes ≡ new.tree path → length bytes ≤ SCRIPT_LIMIT → Declares bytes rule → Reads old.tree rule
  rule_read bytes rule is small declares = record { bytes = bytes; script = has_script bytes is small; declares = declares }

  bad_script : (bytes : List ℕ) (fault : LineFault) → Some bytes ≡ new.tree path → length bytes ≤ SCRIPT_LIMIT → MisreadAs path bytes fault → ReadGives old.tree (Err (misread_stop path fault))
  bad_script bytes (line.At number) is small misread = bad_line bytes number is small misread
  bad_script bytes line.Memory is small misread = tt

  read_script : (bytes : List ℕ) (result : Result Rule ReadStop) → Some bytes ≡ new.tree path → length bytes ≤ SCRIPT_LIMIT → IsRuleOf path bytes result → ReadGives old.tree result
  read_script bytes (Ok rule) is small declares = rule_read bytes rule is small declares
  read_script bytes (Err stop) is small misread = subst (λ s. ReadGives old.tree (Err s)) (sym misread.1) (bad_script bytes misread.0 is small misread.2)

  -- the content of the script, read
  pub read_content : (content : Option (List ℕ)) (result : Result Rule ReadStop) → content ≡ new.tree path → IfSome content (λ bytes. length bytes ≤ SCRIPT_LIMIT) → IsRuleIn path content result → ReadGives old.tree result
  read_content None result is small misread = subst (ReadGives old.tree) (sym misread) (none_read is)
  read_content (Some bytes) result is small rule = read_script bytes result is small rule

  -- the script, not read
  pub read_refusal : (why : ReadRefusal) → IsOver (new.tree path) why → ((size : ℕ) → why ≡ refusal.TooLarge size → SCRIPT_LIMIT < size) → ReadGives old.tree (Err (refused_stop path why))
  read_refusal refusal.Fault over above = fault_read
  read_refusal (refusal.TooLarge size) over above = large_read size over (above size refl)
  read_refusal refusal.Memory over above = tt
