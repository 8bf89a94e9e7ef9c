-- What a write makes, or why it doesn't.
use Rattle.std.proofs.Common.{◌≡◌, ◌≢◌, ◌∙◌, ℕ, List, ap, sym, refl, subst, map, Some, None, Option}
use Rattle.std.specs.Prelude.{Result, Ok, Err}
use Rattle.text_files.specs.declared.refusal.TextRefusal.{TextRefusal}
use Rattle.text_files.specs.declared.refusal.TextRefusal.TheVariants as refusal
use Rattle.scons_base.specs.declared.limits.TheConstants.{FILE_LIMIT}
use Rattle.world_api.specs.Writing as writing
use Rattle.text_files.specs.Refusals.{Makes, told, written_too_long}
use Rattle.env_subst.specs.declared.fault.SubstFault.TheVariants.{TooLong}
use Rattle.scons_decls.specs.declared.fault.NameFault.TheVariants.{Subst}
use Rattle.scons_rules.specs.declared.fault.RuleReadFault.{RuleReadFault}
use Rattle.scons_rules.specs.declared.fault.RuleReadFault.TheVariants.{Name, Memory}
use Rattle.scons_rules.specs.Faults.{of_text}
use Rattle.scons_rules.specs.Writes.{Texts, unless_long, made_of}

abbrev pub Made : Type 0
Made = Option (List ℕ)

pub made_ok : (r : Result Made TextRefusal) (made whole : Made) (long : Option ℕ) → r ≡ Ok made → Makes r long whole → unless_long long whole ≡ Ok made
made_ok (Ok m) made whole None is makes = let same : m ≡ made = cc in ap Ok (sym makes ∙ same)
made_ok (Ok m) made whole (Some len) is makes = absurd makes
made_ok (Err f) made whole long is makes = absurd (cc)

pub made_err : (r : Result Made TextRefusal) (f : TextRefusal) (e : RuleReadFault) (whole : Made) (long : Option ℕ) → r ≡ Err f → e ≡ of_text f → e ≢ Memory → Makes r long whole
    → unless_long long whole ≡ Err e
made_err (Ok m) f e whole long is from other makes = absurd (cc)
made_err (Err (refusal.TooLarge len)) f e whole None is from other makes = absurd makes
made_err (Err (refusal.TooLarge len)) f e whole (Some first) is from other makes =
    let same : refusal.TooLarge len ≡ f = cc in
    let told_so : e ≡ Name (Subst (TooLong len)) = from ∙ ap of_text (sym same) in
    ap (λ n. Err (Name (Subst (TooLong n)))) (sym makes) ∙ ap Err (sym told_so)
made_err (Err refusal.Memory) f e whole long is from other makes =
    let same : refusal.Memory ≡ f = cc in
    absurd (other (from ∙ ap of_text (sym same)))

-- the same of texts in the place of files
module _ (signed texts s : Texts) (given : List Made) (first : s ≡ signed) (second : given ≡ map Some texts) where
  makes_of : (r : Result Made TextRefusal) → Makes r (written_too_long FILE_LIMIT s given) (writing.written s given)
      → Makes r (written_too_long FILE_LIMIT signed (map Some texts)) (writing.written signed (map Some texts))
  makes_of r makes =
      subst (λ t. Makes r (written_too_long FILE_LIMIT t (map Some texts)) (writing.written t (map Some texts))) first
      (subst (λ g. Makes r (written_too_long FILE_LIMIT s g) (writing.written s g)) second makes)

  pub written_ok : (made : Made) → Makes (Ok made) (written_too_long FILE_LIMIT s given) (writing.written s given) → made_of signed texts ≡ Ok made
  written_ok made makes =
      made_ok (Ok made) made (writing.written signed (map Some texts)) (written_too_long FILE_LIMIT signed (map Some texts)) refl (makes_of (Ok made) makes)

  pub written_err : (f : TextRefusal) (e : RuleReadFault) → e ≡ of_text f → e ≢ Memory → Makes (Err f) (written_too_long FILE_LIMIT s given) (writing.written s given)
      → made_of signed texts ≡ Err e
  written_err f e from other makes =
      made_err (Err f) f e (writing.written signed (map Some texts)) (written_too_long FILE_LIMIT signed (map Some texts)) refl from other (makes_of (Err f) makes)
