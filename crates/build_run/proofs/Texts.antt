-- The texts of the rules that started stay theirs while nothing starts.
use Rattle.std.proofs.Common.{◌≡◌, ◌∙◌, ◌++◌, ◌∷◌, inl, inr, ℕ, Bool, true, false, List, [], ap, append_assoc, subst, sym}
use Rattle.std.proofs.lemmas.List.{append_cancel_left}
use Rattle.scons_base.specs.Rising.{Rose}
use Rattle.rule_graph.specs.Graphs.{RuleGraph}
use Rattle.rule_graph.specs.declared.rule.Rule.{Rule}
use Rattle.world_api.specs.Around.{Around, Entry, Started, Finished}
use Rattle.world_api.specs.Counts.{Counts}
use Rattle.world_api.specs.Printed.{SinkMeaning}
use Rattle.world_api.specs.declared.decider.Decider.{Decider}
use Rattle.world_api.specs.declared.job.Job.{Job}
use Rattle.world_api.specs.declared.job.Outcome.{Outcome}
use Rattle.deciders.specs.declared.recorded.Rec.{Rec}
use Rattle.build_model.specs.Rules as model
use Rattle.build_model.specs.Rules.{Path, Among, here, there}
use Rattle.build_model.specs.Moments.{Job as Given}
use Rattle.build_model.specs.Steps.{Step, began}
use Rattle.build_model.proofs.Lists.{among_either, among_left, among_right, among_same}
use Rattle.build_means.specs.Builds.{IsJobIn}
use Rattle.build_means.specs.Logs.{AreUnrisen, IsNewId}
use Rattle.build_means.proofs.Logging.{each_start}
use Rattle.turn_means.specs.Standing.{Outset, IsOutset}
use Rattle.turn_means.specs.Recording.{IsRecordOf, IsWayTo}
use Rattle.turn_means.proofs.Running.{begun_place, makes_each, one_rule}
use Rattle.build_run.specs.Output.{AddsEndings, none_added, one_added}
use Rattle.build_run.specs.StartTexts.{AreTexts, HasPrinted, IsJobText, IsLineIf, IsOwnText, IsReasonLine, IsRest, IsTextOf, no_more, no_text, of_copy, of_declared, of_ending, of_start, one_more}
use Rattle.build_run.specs.Whys.{is_told}
use Rattle.build_run.specs.declared.building.Options.{Options}

-- ---- of one rule

-- where its record is that still
module _ (o : Outset) (options : Options) (old new : Around) (r : model.Rule)
    (keeps : (rec : Rec) → IsRecordOf o old r rec → IsRecordOf o new r rec) where
  line_on : (decider : Decider) (line : List ℕ) → IsReasonLine o old r decider line → IsReasonLine o new r decider line
  line_on decider line is = record { now = is.now; is = keeps is.now is.is; reason = is.reason; of_rule = is.of_rule; told = is.told }

  line_if : (told : Bool) (decider : Decider) (line : List ℕ) → IsLineIf told (IsReasonLine o old r decider) line →
      IsLineIf told (IsReasonLine o new r decider) line
  line_if true decider line is = line_on decider line is
  line_if false decider line none = none

  text_on : (g : RuleGraph) (x : Rule) (text : List ℕ) → IsTextOf g options x (IsReasonLine o old r x.decider) text →
      IsTextOf g options x (IsReasonLine o new r x.decider) text
  text_on g x text is = record { why = is.why; is = line_if (is_told options x) x.decider is.why is.is; whole = is.whole }

  pub own_on : (number : ℕ) (text : List ℕ) → IsOwnText o options old number r text → IsOwnText o options new number r text
  own_on number text (of_declared x at is) = of_declared x at (text_on o.wanted.graph x text is)
  own_on number text (of_copy undeclared none) = of_copy undeclared none

-- ---- of each job that started

module _ (o : Outset) (outset : IsOutset o) (options : Options) (jobs : List Given) (old new : Around) (past : List Step)
    (way : IsWayTo o jobs old past)
    (keeps : (r : model.Rule) (rec : Rec) → Among r (began past) → IsRecordOf o old r rec → IsRecordOf o new r rec) where
  -- its rule began
  pub job_on : (job : Job) (counts : Counts) (text : List ℕ) → Among (Started job counts) way.log.entries → IsJobText o options old job text →
      IsJobText o options new job text
  job_on job counts text m is =
      let start = each_start (IsJobIn o.wanted o.kept o.before old) (AreUnrisen o.wanted.keep o.counts) way.log.are m in
      let place = begun_place o outset jobs old past way start.stands in
      let makes = makes_each o outset place.0 place.1 is.target (among_same start.of_rule.targets is.among) in
      let same : start.rule ≡ is.rule = one_rule o outset is.target makes (is.makes is.target is.among) in
      record {
        rule = is.rule;
        target = is.target;
        among = is.among;
        makes = is.makes;
        own = own_on o options old new is.rule (λ rec record_of. keeps is.rule rec (subst (λ (r : model.Rule). Among r (began past)) same start.stands) record_of)
            job.id text is.own;
      }

  -- the entries are those of the log
  pub jobs_on : (entries : List Entry) → old.log ≡ o.before.log ++ entries → (job : Job) (counts : Counts) (text : List ℕ) →
      Among (Started job counts) entries → IsJobText o options old job text → IsJobText o options new job text
  jobs_on entries grown job counts text m is =
      job_on job counts text
      (among_same (append_cancel_left o.before.log entries way.log.entries (sym grown ∙ way.log.grown)) m) is

-- ---- of all

module _ {IsText IsTextToo : Job → List ℕ → Type 0} where
  pub texts_on : {entries : List Entry} {text : List ℕ} → AreTexts IsText entries text →
      ((job : Job) (counts : Counts) (own : List ℕ) → Among (Started job counts) entries → IsText job own → IsTextToo job own) →
      AreTexts IsTextToo entries text
  texts_on no_text on = no_text
  texts_on (of_start {entries} job counts own is rest) on =
      of_start job counts own (on job counts own (among_right entries here) is)
      (texts_on rest (λ j c t m. on j c t (among_left (Started job counts ∷ []) m)))
  texts_on (of_ending {entries} id outcome rest) on =
      of_ending id outcome (texts_on rest (λ j c t m. on j c t (among_left (Finished id outcome ∷ []) m)))

-- endings add nothing
pub record MoreTexts (IsText : Job → List ℕ → Type 0) (base log : List Entry) (text : List ℕ) : Type 0 where
  pub entries : List Entry
  pub grown : log ≡ base ++ entries
  pub are : AreTexts IsText entries text

no_start : {A : Type 0} {job : Job} {counts : Counts} {id : ℕ} {outcome : Outcome} → Among (Started job counts) (Finished id outcome ∷ []) → A
no_start (there m) = elim m [ ]

more_new : (entries : List Entry) (id : ℕ) (outcome : Outcome) (number : ℕ) → IsNewId entries number → IsNewId (entries ++ Finished id outcome ∷ []) number
more_new entries id outcome number is job counts m = elim (among_either entries m) [ inl was ↦ is job counts was | inr last ↦ no_start last ]

-- no job more started
pub record MoreEntries (IsText : Job → List ℕ → Type 0) (base log : List Entry) (text : List ℕ) (old : List Entry) : Type 0 where
  pub more : MoreTexts IsText base log text
  pub new : (number : ℕ) → IsNewId old number → IsNewId more.entries number

pub endings_on : {IsText : Job → List ℕ → Type 0} (base : List Entry) {old new : List Entry} (text : List ℕ) → AddsEndings old new →
    (is : MoreTexts IsText base old text) → MoreEntries IsText base new text is.entries
endings_on base text none_added is = record { more = is; new = λ number new. new }
endings_on base text (one_added {log} id outcome before) is =
    let on = endings_on base text before is in
    record {
      more = record {
        entries = on.more.entries ++ Finished id outcome ∷ [];
        grown = ap (λ (l : List Entry). l ++ Finished id outcome ∷ []) on.more.grown ∙ append_assoc base on.more.entries (Finished id outcome ∷ []);
        are = of_ending id outcome on.more.are;
      };
      new = λ number new. more_new on.more.entries id outcome number (on.new number new);
    }

pub rest_on : (o : Outset) (options : Options) (refused : Type 0) (entries more : List Entry) (rest : List ℕ) →
    ((number : ℕ) → IsNewId entries number → IsNewId more number) → IsRest o options refused entries rest → IsRest o options refused more rest
rest_on o options refused entries more _ new no_more = no_more
rest_on o options refused entries more _ new (one_more around number r back is own whole) = one_more around number r back (new number is) own whole

-- what was printed stays so where endings alone came
abbrev pub has_on : {O : Type 0} (p : SinkMeaning O) (o : Outset) (options : Options) (old new : Around) (start out : O) →
    (has : HasPrinted p o options old start out) → AddsEndings old.log new.log →
    ((job : Job) (counts : Counts) (own : List ℕ) → Among (Started job counts) has.entries → IsJobText o options old job own →
    IsJobText o options new job own) → HasPrinted p o options new start out
has_on p o options old new start out has log on =
    let is = endings_on o.before.log has.text log (record { entries = has.entries; grown = has.grown; are = texts_on has.are on }) in
    record {
      entries = is.more.entries;
      grown = is.more.grown;
      text = has.text;
      are = is.more.are;
      rest = has.rest;
      is_rest = rest_on o options (Rose (p.faults start) (p.faults out)) has.entries is.more.entries has.rest is.new has.is_rest;
      printed = has.printed;
      later = has.later;
    }
