-- The words and the files call for one course, where nothing outside is at fault.
use Rattle.std.proofs.Common.{◌≡◌, ◌∙◌, ◌<◌, ◌≤◌, ℕ, List, length, sym, ap, subst, refl, arith, inl, inr, Option, Some, None}
use Rattle.world_api.specs.Around.{Tree}
use Rattle.one_rule.specs.declared.rule.Rule.{Rule}
use Rattle.one_rule.specs.declared.report.Top.{Top}
use Rattle.one_rule.specs.declared.report.Top.TheVariants.{Reading, TooLarge}
use Rattle.one_rule.specs.declared.report.ReadKind.TheVariants.{LineForm}
use Rattle.one_rule.specs.Building.{MayBuild, no_source, large_source, unreadable_source, kept_target, not_started, failed, built}
use Rattle.one_rule.specs.Course.{Course, Misread, Stopped}
use Rattle.one_rule.specs.Fields.{fields_of}
use Rattle.one_rule.specs.LineForm.{Declares, DeclaresRule, IsFaultLine, first_line}
use Rattle.one_rule.specs.Promises.{IsInner, IsOfInput}
use Rattle.one_rule.specs.Reading.{script, Misreads, no_script, large_script, not_in_form, unreadable, Reads}
use Rattle.one_rule.specs.Run.{MayTake, refused, misread, builds}
use Rattle.one_rule.proofs.LineParts.{fields_from_parts}

some_none : {content : Option (List ℕ)} {bytes : List ℕ} → content ≡ None → content ≡ Some bytes → ⊥
some_none none some = cc

same_bytes : {content : Option (List ℕ)} {a b : List ℕ} → content ≡ Some a → content ≡ Some b → a ≡ b
same_bytes a b = cc

too_large : {a b : List ℕ} {limit : ℕ} → a ≡ b → limit < length a → length b ≤ limit → ⊥
too_large {a} {b} {limit} same above small = let long : length a ≡ length b = ap length same in omega arith

rule_one : (line : List ℕ) (a b : Rule) → DeclaresRule line a → DeclaresRule line b → a ≡ b
rule_one line a b first second =
    let fields = sym (fields_from_parts a) ∙ (ap fields_of (sym first.parts ∙ second.parts) ∙ fields_from_parts b) in
    cc

line_one : (bytes : List ℕ) (a b : ℕ) → IsFaultLine bytes a → IsFaultLine bytes b → a ≡ b
line_one bytes a b (inl first) (inl second) = first.0 ∙ sym second.0
line_one bytes a b (inl first) (inr second) = absurd (first.1 second.1 second.2)
line_one bytes a b (inr first) (inl second) = absurd (second.1 first.1 first.2)
line_one bytes a b (inr first) (inr second) = first.0 ∙ sym second.0

declared_line : (bytes : List ℕ) (rule : Rule) (line : ℕ) → Declares bytes rule → IsFaultLine bytes line → ⊥
declared_line bytes rule line declares (inl fault) = fault.1 rule declares.line
declared_line bytes rule line declares (inr fault) = fault.3 declares.nothing_more

module _ {tree : Tree} where
  read_one : {a b : Top} → Misreads tree a → IsOfInput a → Misreads tree b → IsOfInput b → a ≡ b
  read_one (no_script a_none) inner (no_script b_none) other = refl
  read_one (no_script a_none) inner (large_script b_bytes b_is b_above) other = absurd (some_none a_none b_is)
  read_one (no_script a_none) inner (not_in_form b_bytes b_line b_script b_fault) other = absurd (some_none a_none b_script.is)
  read_one (no_script a_none) inner unreadable other = elim other [ ]
  read_one (large_script a_bytes a_is a_above) inner (no_script b_none) other = absurd (some_none b_none a_is)
  read_one (large_script a_bytes a_is a_above) inner (large_script b_bytes b_is b_above) other = ap (λ bytes. TooLarge script (length bytes)) (same_bytes a_is b_is)
  read_one (large_script a_bytes a_is a_above) inner (not_in_form b_bytes b_line b_script b_fault) other = absurd (too_large (same_bytes a_is b_script.is) a_above b_script.small)
  read_one (large_script a_bytes a_is a_above) inner unreadable other = elim other [ ]
  read_one (not_in_form a_bytes a_line a_script a_fault) inner (no_script b_none) other = absurd (some_none b_none a_script.is)
  read_one (not_in_form a_bytes a_line a_script a_fault) inner (large_script b_bytes b_is b_above) other = absurd (too_large (same_bytes b_is a_script.is) b_above a_script.small)
  read_one (not_in_form a_bytes a_line a_script a_fault) inner (not_in_form b_bytes b_line b_script b_fault) other = ap (λ line. Reading script line LineForm) (line_one a_bytes a_line b_line a_fault (subst (λ bytes. IsFaultLine bytes b_line) (sym (same_bytes a_script.is b_script.is)) b_fault))
  read_one (not_in_form a_bytes a_line a_script a_fault) inner unreadable other = elim other [ ]
  read_one unreadable inner m other = elim inner [ ]

  -- a script that is read isn't misread
  read_not_misread : {fault : Top} {rule : Rule} → Misreads tree fault → IsOfInput fault → Reads tree rule → ⊥
  read_not_misread (no_script none) inner reads = some_none none reads.script.is
  read_not_misread (large_script bytes is above) inner reads = too_large (same_bytes is reads.script.is) above reads.script.small
  read_not_misread {fault} {rule} (not_in_form bytes line has fault_line) inner reads = declared_line bytes rule line (subst (λ bs. Declares bs rule) (sym (same_bytes has.is reads.script.is)) reads.declares) fault_line
  read_not_misread unreadable inner reads = elim inner [ ]

  reads_one : (a b : Rule) → Reads tree a → Reads tree b → a ≡ b
  reads_one a b first second =
      rule_one (first_line first.bytes) a b first.declares.line (subst (λ bs. DeclaresRule (first_line bs) b) (sym (same_bytes first.script.is second.script.is)) second.declares.line)

  module _ {rule : Rule} where
    build_one : {a b : Course} → MayBuild tree rule a → IsInner a → MayBuild tree rule b → IsInner b → a ≡ b
    build_one (no_source a_none) inner (no_source b_none) other = refl
    build_one (no_source a_none) inner (large_source b_bytes b_is b_above) other = absurd (some_none a_none b_is)
    build_one (no_source a_none) inner unreadable_source other = elim other [ ]
    build_one (no_source a_none) inner (kept_target b_source) other = elim other [ ]
    build_one (no_source a_none) inner (not_started b_source) other = elim other [ ]
    build_one (no_source a_none) inner (failed b_code b_source) other = elim other [ ]
    build_one (no_source a_none) inner (built b_source) other = absurd (some_none a_none b_source.is)
    build_one (large_source a_bytes a_is a_above) inner (no_source b_none) other = absurd (some_none b_none a_is)
    build_one (large_source a_bytes a_is a_above) inner (large_source b_bytes b_is b_above) other = ap (λ bytes. Stopped (TooLarge rule.source (length bytes))) (same_bytes a_is b_is)
    build_one (large_source a_bytes a_is a_above) inner unreadable_source other = elim other [ ]
    build_one (large_source a_bytes a_is a_above) inner (kept_target b_source) other = elim other [ ]
    build_one (large_source a_bytes a_is a_above) inner (not_started b_source) other = elim other [ ]
    build_one (large_source a_bytes a_is a_above) inner (failed b_code b_source) other = elim other [ ]
    build_one (large_source a_bytes a_is a_above) inner (built b_source) other = absurd (too_large (same_bytes a_is b_source.is) a_above b_source.small)
    build_one unreadable_source inner m other = elim inner [ ]
    build_one (kept_target a_source) inner m other = elim inner [ ]
    build_one (not_started a_source) inner m other = elim inner [ ]
    build_one (failed a_code a_source) inner m other = elim inner [ ]
    build_one (built a_source) inner (no_source b_none) other = absurd (some_none b_none a_source.is)
    build_one (built a_source) inner (large_source b_bytes b_is b_above) other = absurd (too_large (same_bytes b_is a_source.is) b_above a_source.small)
    build_one (built a_source) inner unreadable_source other = elim other [ ]
    build_one (built a_source) inner (kept_target b_source) other = elim other [ ]
    build_one (built a_source) inner (not_started b_source) other = elim other [ ]
    build_one (built a_source) inner (failed b_code b_source) other = elim other [ ]
    build_one (built a_source) inner (built b_source) other = refl

  pub course_one : (words : List (List ℕ)) (a b : Course) → MayTake words tree a → IsInner a → MayTake words tree b → IsInner b → a ≡ b
  course_one words a b (refused some) inner (refused other_some) other = refl
  course_one words a b (refused some) inner (misread none m) other = absurd (some none)
  course_one words a b (refused some) inner (builds rule none reads m) other = absurd (some none)
  course_one words a b (misread none m) inner (refused some) other = absurd (some none)
  course_one words a b (misread none m) inner (misread other_none n) other = ap Misread (read_one m inner n other)
  course_one words a b (misread none m) inner (builds rule other_none reads n) other = absurd (read_not_misread m inner reads)
  course_one words a b (builds rule none reads m) inner (refused some) other = absurd (some none)
  course_one words a b (builds rule none reads m) inner (misread other_none n) other = absurd (read_not_misread n other reads)
  course_one words a b (builds rule none reads m) inner (builds rule' other_none reads' n) other =
      build_one m inner (subst (λ r. MayBuild tree r b) (reads_one rule' rule reads' reads) n) other
