-- Why a rule runs: the least of the reasons of its targets, found target by target.
use Rattle.std.proofs.Common.{◌≡◌, ◌∙◌, ◌+◌, ◌⊎◌, inl, inr, ℕ, zero, suc, Bool, true, false, List, [], ◌∷◌, ◌++◌, Option, Some, None, length, length-append, refl, sym, subst, ap, arith}
use Rattle.std.specs.Prelude.{MatchOption, is_some, slice_get}
use Rattle.std.specs.Option.{option_map}
use Rattle.deciders.specs.declared.recorded.Rec.{Rec}
use Rattle.rule_graph.specs.Graphs.{RuleGraph}
use Rattle.rule_graph.specs.declared.rule.Rule.{Rule}
use Rattle.sign_store.specs.Tables.{Map}
use Rattle.world_api.specs.Around.{Around, IsRunningTarget, Running}
use Rattle.world_api.specs.Calls.{Asks}
use Rattle.world_api.specs.Reads.{stamp_of}
use Rattle.build_model.specs.Rules as model
use Rattle.build_model.specs.Rules.{Path, here}
use Rattle.build_model.specs.Stale.{first_stamp}
use Rattle.build_means.specs.Due.{is_due}
use Rattle.build_means.specs.Grown.{Begun, IsGrown, copy_in, or_copy_in, rule_numbered}
use Rattle.build_means.specs.Records.{record_in, records_in}
use Rattle.build_means.specs.Rules.{rule_in}
use Rattle.build_means.proofs.Growing.{get_front}
use Rattle.build_means.proofs.Lists.{at_place, none_some, some_same, true_false}
use Rattle.build_files.specs.Dueness.{AreIdle}
use Rattle.build_files.specs.Leftovers.{stands}
use Rattle.explain_report.specs.declared.reason.Reason.{Reason}
use Rattle.explain_report.specs.Reasons.{IsReason}
use Rattle.explain_report.specs.Laws.{AreRecords}
use Rattle.explain_report.specs.Rules.{AreAnswers, IsReasonOfRule, LeastIsReason, least_of}
use Rattle.explain_report.specs.Texts.{reason_text}
use Rattle.explain_report.proofs.Leasts.{least_more}
use Rattle.build_run.specs.Whys.{IsLeastSoFar, IsLine, IsWhyBy, IsWhyText, TellsReason, is_told, line_for, old_of}
use Rattle.build_run.specs.declared.building.Options.{Options}
use Rattle.build_run.proofs.Choosing.{stamp_at}

-- what stands in a list with one more behind it
behind : {A : Type 0} (xs : List A) (x y : A) (i : ℕ) → slice_get (xs ++ x ∷ []) i ≡ Some y → (slice_get xs i ≡ Some y) ⊎ ((i ≡ length xs) × (x ≡ y))
behind [] x y zero e = inr (refl, some_same e)
behind [] x y (suc i) e = absurd (none_some e)
behind (z ∷ xs) x y zero e = inl e
behind (z ∷ xs) x y (suc i) e = elim (behind xs x y i e) [
  | inl before ↦ inl before
  | inr last ↦ inr (ap suc last.0, last.1)
]

-- the stamp of the first target, which no job writes, is the same behind a look
first_same : (old new : Around) (paths : List Path) → AreIdle old paths → Asks old new → first_stamp (stamp_of new) paths ≡ first_stamp (stamp_of old) paths
first_same old new [] idle asks = refl
first_same old new (p ∷ paths) idle asks = stamp_at old new asks p (idle p here)

-- so what was found of it is as it was
pub stamp_same : (old new : Around) (items targets : List Path) (stamp : Option ℕ) → items ≡ targets → AreIdle old targets → Asks old new →
    stamp ≡ first_stamp (stamp_of new) items → stamp ≡ first_stamp (stamp_of old) targets
stamp_same old new items targets stamp same idle asks is =
    is ∙ ap (λ (ps : List Path). first_stamp (stamp_of new) ps) same ∙ first_same old new targets idle asks

module _ (x : Rule) (kept : Map) (now : Rec) (old : Around) where
  -- of no targets
  pub least_first : IsLeastSoFar x kept now old 0 None
  least_first = record {
    answers = [];
    are = record { as_many = refl; each = λ place p answer at e. absurd (none_some e) };
    least = refl;
  }

  module _ (new : Around) (idle : AreIdle old now.targets) (asks : Asks old new) (i : ℕ) (p : Path) (at : slice_get now.targets i ≡ Some p) where
    free : IsRunningTarget old.running p → ⊥
    free = idle p (at_place now.targets i at)

    -- the reason that is found for a target is that by the files as they were
    answer_by : (present : Bool) (stamp : Option ℕ) (recorded : Option Rec) (found : Option Reason) → present ≡ stands new p →
        stamp ≡ first_stamp (stamp_of old) now.targets → recorded ≡ kept p → IsReason x.decider x.always now i present stamp recorded found →
        IsReason x.decider x.always now i (is_some (old.tree p)) (first_stamp (stamp_of old) now.targets) (kept p) found
    answer_by present stamp recorded found is same kept_so reason =
        subst (λ (o : Option Rec). IsReason x.decider x.always now i (is_some (old.tree p)) (first_stamp (stamp_of old) now.targets) o found) kept_so
        (subst (λ (t : Option ℕ). IsReason x.decider x.always now i (is_some (old.tree p)) t recorded found) same
        (subst (λ (b : Bool). IsReason x.decider x.always now i b stamp recorded found) (is ∙ ap is_some (asks.files p free)) reason))

    -- one target more
    pub least_next : (first found : Option Reason) (present : Bool) (stamp : Option ℕ) (recorded : Option Rec) → IsLeastSoFar x kept now old i first →
        present ≡ stands new p → stamp ≡ first_stamp (stamp_of old) now.targets → recorded ≡ kept p →
        IsReason x.decider x.always now i present stamp recorded found → IsLeastSoFar x kept now old (i + 1) (least_of (first ∷ found ∷ []))
    least_next first found present stamp recorded so is same kept_so reason = record {
      answers = so.answers ++ found ∷ [];
      are = record { as_many = omega (arith, length-append so.answers (found ∷ []), so.are.as_many); each = each };
      least = ap (λ (a : Option Reason). least_of (a ∷ found ∷ [])) so.least ∙ sym (least_more so.answers found);
    }
      where
        each : (place : ℕ) (q : Path) (answer : Option Reason) → slice_get now.targets place ≡ Some q →
            slice_get (so.answers ++ found ∷ []) place ≡ Some answer →
            IsReason x.decider x.always now place (is_some (old.tree q)) (first_stamp (stamp_of old) now.targets) (kept q) answer
        each place q answer there e = elim (behind so.answers found answer place e) [
          | inl before ↦ so.are.each place q answer there before
          | inr last ↦
              let here : i ≡ place = sym (last.0 ∙ so.are.as_many) in
              let path : p ≡ q = some_same (sym at ∙ (ap (slice_get now.targets) here ∙ there)) in
              subst (λ (a : Option Reason). IsReason x.decider x.always now place (is_some (old.tree q)) (first_stamp (stamp_of old) now.targets) (kept q) a) last.1
              (subst (λ (r : Path). IsReason x.decider x.always now place (is_some (old.tree r)) (first_stamp (stamp_of old) now.targets) (kept r) found) path
              (subst (λ (n : ℕ). IsReason x.decider x.always now n (is_some (old.tree p)) (first_stamp (stamp_of old) now.targets) (kept p) found) here
              (answer_by present stamp recorded found is same kept_so reason)))
        ]

  -- of all targets
  pub least_all : (count : ℕ) (reason : Option Reason) → count ≡ length now.targets → IsLeastSoFar x kept now old count reason →
      IsLeastSoFar x kept now old (length now.targets) reason
  least_all count reason all so = subst (λ (n : ℕ). IsLeastSoFar x kept now old n reason) all so

-- ---- a line behind a look

module _ (old new : Around) (kept : Map) (now : Rec) (idle : AreIdle old now.targets) (asks : Asks old new) where
  pub idle_on : AreIdle new now.targets
  idle_on path h target = idle path h (subst (λ (runs : List Running). IsRunningTarget runs path) asks.running target)

  line_before : (x : Rule) (text : List ℕ) → IsLine x kept now new text → IsLine x kept now old text
  line_before x text line = record {
    reason = line.reason;
    is = record {
      answers = line.is.answers;
      are = record {
        as_many = line.is.are.as_many;
        each = λ place p answer there e.
            subst (λ (b : Bool). IsReason x.decider x.always now place b (first_stamp (stamp_of old) now.targets) (kept p) answer)
            (ap is_some (asks.files p (idle p (at_place now.targets place there))))
            (subst (λ (t : Option ℕ). IsReason x.decider x.always now place (is_some (new.tree p)) t (kept p) answer) (first_same old new now.targets idle asks)
            (line.is.are.each place p answer there e));
      };
      least = line.is.least;
    };
    line = line.line;
  }

  -- it says why by the files as they were
  pub why_before : (g : RuleGraph) (options : Options) (number : ℕ) (text : List ℕ) → IsWhyText g options number kept now new text →
      IsWhyText g options number kept now old text
  why_before g options number text why = λ x at. by x (is_told options x) (why x at)
    where
      by : (x : Rule) (told : Bool) → IsWhyBy told x kept now new text → IsWhyBy told x kept now old text
      by x true line = line_before x text line
      by x false none = none

-- ---- the reason that a line tells

-- a rule of the model is always built just where that of its number is
always_of : (b : Begun) (g : RuleGraph) → IsGrown b g → (number : ℕ) (x : Rule) (r : model.Rule) → slice_get g.rules number ≡ Some x →
    rule_numbered b g number ≡ Some r → r.always ≡ x.always
always_of b g grown number x r at is = by (slice_get b.graph.rules number) refl
  where
    by : (o : Option Rule) → slice_get b.graph.rules number ≡ o → r.always ≡ x.always
    by (Some y) front =
        let there = ap (λ rules. slice_get rules number) grown.rules ∙ get_front b.graph.rules grown.copies number y front in
        let rule : Some (rule_in g y) ≡ Some r = sym (ap (λ o. or_copy_in g o (slice_get g.rules number)) front) ∙ is in
        ap (λ (q : model.Rule). q.always) (sym (some_same rule)) ∙ ap (λ (z : Rule). z.always) (some_same (sym there ∙ at))
    by None front =
        let rule : Some (copy_in g x) ≡ Some r =
        sym (ap (λ o. or_copy_in g o (slice_get g.rules number)) front ∙ ap (option_map (copy_in g)) at) ∙ is in
        ap (λ (q : model.Rule). q.always) (sym (some_same rule))

module _ (law : LeastIsReason) (r : model.Rule) (x : Rule) (always : r.always ≡ x.always) (kept : Map) (now : Rec) (around : Around)
    (are : AreRecords r x.decider kept now) (due : is_due r around.tree (stamp_of around) (records_in kept) (record_in now) ≡ true)
    (text : List ℕ) (line : IsLine x kept now around text) where
  answers_are : AreAnswers r around.tree (stamp_of around) kept x.decider now line.is.answers
  answers_are = record {
    as_many = line.is.are.as_many ∙ ap (λ (ps : List Path). length ps) are.targets;
    each = λ place p answer there e.
        subst (λ (ps : List Path). IsReason x.decider r.always now place (is_some (around.tree p)) (first_stamp (stamp_of around) ps) (kept p) answer) are.targets
        (subst (λ (b : Bool). IsReason x.decider b now place (is_some (around.tree p)) (first_stamp (stamp_of around) now.targets) (kept p) answer) (sym always)
        (line.is.are.each place p answer (ap (λ (ps : List Path). slice_get ps place) are.targets ∙ there) e));
  }

  abbrev Reasoned : Type 0
  Reasoned = (reason : Reason) × IsReasonOfRule r around.tree (stamp_of around) kept x.decider now reason × (text ≡ reason_text reason now (old_of kept now reason))

  reasoned_by : (o : Option Reason) → MatchOption o (is_due r around.tree (stamp_of around) (records_in kept) (record_in now) ≡ false)
      (λ reason. (is_due r around.tree (stamp_of around) (records_in kept) (record_in now) ≡ true) ×
      IsReasonOfRule r around.tree (stamp_of around) kept x.decider now reason) → text ≡ line_for kept now o → Reasoned
  reasoned_by None undue told = true_false (sym due ∙ undue)
  reasoned_by (Some reason) is told = (reason, is.1, told)

  reasoned : Reasoned
  reasoned =
      reasoned_by (least_of line.is.answers) (law r around.tree (stamp_of around) kept x.decider now are line.is.answers answers_are)
      (line.line ∙ ap (line_for kept now) line.is.least)

pub tells_reason : LeastIsReason → (g : RuleGraph) (options : Options) (number : ℕ) (kept : Map) (now : Rec) (around : Around) (text : List ℕ) →
    IsWhyText g options number kept now around text → TellsReason g options number kept now around text
tells_reason law g options number kept now around text why = λ b r x grown is at told are due.
    reasoned law r x (always_of b g grown number x r at is) kept now around are due text
    (subst (λ (t : Bool). IsWhyBy t x kept now around text) told (why x at))

-- ---- a look leaves what a line says

module _ (old new : Around) (kept : Map) (now : Rec) (idle : AreIdle old now.targets) (asks : Asks old new) where
  line_after : (x : Rule) (text : List ℕ) → IsLine x kept now old text → IsLine x kept now new text
  line_after x text line = record {
    reason = line.reason;
    is = record {
      answers = line.is.answers;
      are = record {
        as_many = line.is.are.as_many;
        each = λ place p answer there e.
            subst (λ (b : Bool). IsReason x.decider x.always now place b (first_stamp (stamp_of new) now.targets) (kept p) answer)
            (sym (ap is_some (asks.files p (idle p (at_place now.targets place there)))))
            (subst (λ (t : Option ℕ). IsReason x.decider x.always now place (is_some (old.tree p)) t (kept p) answer)
            (sym (first_same old new now.targets idle asks)) (line.is.are.each place p answer there e));
      };
      least = line.is.least;
    };
    line = line.line;
  }

  pub why_after : (g : RuleGraph) (options : Options) (number : ℕ) (text : List ℕ) → IsWhyText g options number kept now old text →
      IsWhyText g options number kept now new text
  why_after g options number text why = λ x at. by x (is_told options x) (why x at)
    where
      by : (x : Rule) (told : Bool) → IsWhyBy told x kept now old text → IsWhyBy told x kept now new text
      by x true line = line_after x text line
      by x false none = none
