-- What is printed where a rule starts, or is refused.
use Rattle.std.proofs.Common.{◌≡◌, ◌∙◌, ◌≤◌, ◌++◌, ◌∷◌, inl, inr, ℕ, Bool, true, false, List, [], Contains, None, append-nil, append_assoc, ap, arith, cond, refl, subst, sym}
use Rattle.std.specs.Prelude.{slice_get, Some}
use Rattle.scons_base.specs.Rising.{Rose}
use Rattle.scons_base.specs.declared.ids.RuleId.{RuleId}
use Rattle.deciders.specs.Records.{IsValid}
use Rattle.deciders.specs.declared.recorded.Rec.{Rec}
use Rattle.rule_graph.specs.declared.rule.Rule.{Rule}
use Rattle.sign_store.specs.Tables.{Map, with_each}
use Rattle.world_api.specs.Around.{Around, Entry, Started}
use Rattle.world_api.specs.Meaning.{IsImage, Meaning}
use Rattle.world_api.specs.Printed.{SinkMeaning}
use Rattle.world_api.specs.Printing.{Prints, Cuts}
use Rattle.world_api.specs.declared.job.Job.{Job}
use Rattle.build_model.specs.Rules as model
use Rattle.build_model.specs.Rules.{Path, Among}
use Rattle.build_model.specs.Steps.{began}
use Rattle.build_model.proofs.Lists.{among_same, some_same}
use Rattle.build_means.specs.Grown.{rule_numbered}
use Rattle.build_means.specs.Logs.{IsNewId}
use Rattle.run_means.specs.Clears.{Clears}
use Rattle.turn_means.specs.Laws.{IsJobFrom, is_due_now}
use Rattle.turn_means.specs.Recording.{Begin, IsRecordOf}
use Rattle.turn_means.specs.Standing.{Outset, IsOutset, Knows, begun_at}
use Rattle.turn_means.specs.Writing.{Writes}
use Rattle.turn_means.proofs.Deciding.{decided, makes, place, place_among}
use Rattle.turn_means.proofs.Recording.{begins_without, begun_others}
use Rattle.build_run.specs.Along.{IsAlong, IsDue, standing_of}
use Rattle.build_run.specs.Goings.{Launches}
use Rattle.build_run.specs.Output.{IsPrinted, PrintsLast, SaysWhy, SiteHasPrinted, nothing, whole, cut}
use Rattle.build_run.specs.Sites.{IsSound, records_of}
use Rattle.build_run.specs.StartTexts.{AreTexts, IsJobText, IsOwnText, IsRest, no_more, of_start, one_more}
use Rattle.build_run.specs.Whys.{started_text}
use Rattle.build_run.specs.declared.building.Options.{Options}
use Rattle.build_run.specs.declared.site.Site.{Site}
use Rattle.build_run.proofs.Booking.{clears_write, starts_write, with_others}
use Rattle.build_run.proofs.Outs.{in_among, outs_front}
use Rattle.build_run.proofs.Reasoned.{own_text}
use Rattle.build_run.proofs.Texts.{jobs_on, own_on, texts_on}
use Rattle.build_run.proofs.Valid.{records_valid}

-- a later count has risen too
rose_on : (a b c : ℕ) → a ≤ b → Rose b c → Rose a c
rose_on a b c before rose = record { later = omega (arith, before, rose.later); more = omega (arith, before, rose.more) }

-- these have no record any more
withdrawn_each : (paths : List Path) (map : Map) (path : Path) → Contains paths path → with_each paths None map path ≡ None
withdrawn_each paths map path h = ap (λ (b : Bool). cond b None (map path)) (in_among paths path h)

module _ {W O E : Type 0} (m : Meaning W) (p : SinkMeaning O) (o : Outset) (outset : IsOutset o) (old : Site W O E) (along : IsAlong m o old)
    (rule : RuleId) (rec : Rec) (due : IsDue m o old rule rec) where
  abbrev around : Around
  around = m.around old.world.now

  abbrev r : model.Rule
  r = due.model

  known : Knows o (standing_of m old) along.on.past
  known = along.on.at.knows due.weighed.goes_on

  unshut : old.account.now.is_store_shut ≡ false
  unshut = (along.well due.weighed.goes_on).unshut

  -- ---- the records of rules that began, where this one's targets are written

  module _ (new : Around) (writes : Writes r.targets around new) where
    abbrev after : Map
    after = with_each r.targets None (records_of old)

    begins_so : Begin o around new along.on.past r after
    begins_so =
        begins_without o outset along.on.jobs around new along.on.past r (records_of old) after along.on.at.way
        (decided o outset along.on.jobs (standing_of m old) along.on.past along.on.at.way known rule r rec due.weighed) writes
        (along.on.booked unshut).records (withdrawn_each r.targets (records_of old)) (λ path out. with_others r.targets None (records_of old) path out)

    others_keep : (q : model.Rule) (of : Rec) → Among q (began along.on.past) → IsRecordOf o around q of → IsRecordOf o new q of
    others_keep =
        begun_others o outset along.on.jobs around new along.on.past r (records_of old) after along.on.at.way
        (decided o outset along.on.jobs (standing_of m old) along.on.past along.on.at.way known rule r rec due.weighed) writes
        (along.on.booked unshut).records (withdrawn_each r.targets (records_of old)) (λ path out. with_others r.targets None (records_of old) path out)

    -- so the texts that were printed are those of their rules still
    texts_keep : (options : Options) (entries : List Entry) → around.log ≡ o.before.log ++ entries → {text : List ℕ} →
        AreTexts (IsJobText o options around) entries text → AreTexts (IsJobText o options new) entries text
    texts_keep options entries grown are =
        texts_on are (jobs_on o outset options along.on.jobs around new along.on.past along.on.at.way others_keep entries grown)

  -- no job of the rule has started
  new_number : (entries : List Entry) → around.log ≡ o.before.log ++ entries → IsNewId entries rule.0
  new_number entries grown job counts among same =
      let numbered = known.numbered entries grown job counts among in
      let is_r : numbered.rule ≡ r =
      some_same (sym numbered.numbered ∙ ap (rule_numbered (begun_at o) old.graph.now) same ∙ due.weighed.is) in
      (decided o outset along.on.jobs (standing_of m old) along.on.past along.on.at.way known rule r rec due.weighed).not_began
      (subst (λ (q : model.Rule). Among q (began along.on.past)) is_r numbered.stands)

  -- ---- the text of the rule

  module _ (sound : IsSound m old) (reads_as : (disk : W) → m.tells disk → IsImage m disk (m.seen disk)) (tells : m.tells old.world.now)
      (valid : IsValid rec) (why : List ℕ) (says : SaysWhy m old rule rec why) (is_due : is_due_now (standing_of m old) r rec ≡ true)
      (text : List ℕ)
      (is_text : (x : Rule) → slice_get old.graph.now.rules rule.0 ≡ Some x → text ≡ started_text old.graph.now old.options x why) where
    own : IsOwnText o old.options around rule.0 r text
    own =
        own_text o outset along.on.jobs (standing_of m old) along.on.past along.on.at.way known rule r rec due.weighed old.store.now
        old.run.now.held along.on.began (outs_front old.store.now old.run.now.held old.run.now.tickets (sound.stored.outs unshut)) refl valid
        (records_valid m old.world.now old.store.now reads_as tells (sound.stored.kept unshut)) old.options why says.is says.tells is_due text is_text

    -- it starts
    module _ (job : Job) (from : IsJobFrom old.graph.now rule rec job) (new : Site W O E)
        (launch : Launches job (m.counts old.world.now) around (m.around new.world.now)) (options : new.options ≡ old.options)
        (targets : job.targets ≡ r.targets) (start : O) (has : SiteHasPrinted m p o start old) (none : has.rest ≡ [])
        (prints : Prints p old.out.now new.out.now text) (shows : p.tells new.out.now) where
      writes : Writes r.targets around (m.around new.world.now)
      writes =
          subst (λ (paths : List Path). Writes paths around (m.around new.world.now)) targets
          (starts_write job (m.counts old.world.now) around launch.mid (m.around new.world.now) launch.clears launch.starts)

      job_text : IsJobText o old.options (m.around new.world.now) job text
      job_text = record {
        rule = r;
        target = (place o outset along.on.jobs (standing_of m old) along.on.past along.on.at.way known rule r rec due.weighed).0;
        among =
            among_same (sym targets)
            (place_among o outset along.on.jobs (standing_of m old) along.on.past along.on.at.way known rule r rec due.weighed);
        makes = λ path among.
            makes o outset along.on.jobs (standing_of m old) along.on.past along.on.at.way known rule r rec due.weighed path (among_same targets among);
        own =
            subst (λ (number : ℕ). IsOwnText o old.options (m.around new.world.now) number r text) (sym from.id)
            (own_on o old.options around (m.around new.world.now) r (begins_so (m.around new.world.now) writes).to_have rule.0 text own);
      }

      abbrev started_has : SiteHasPrinted m p o start new
      started_has = record {
        entries = has.entries ++ Started job (m.counts old.world.now) ∷ [];
        grown = launch.starts.log
            ∙ ap (λ (l : List Entry). l ++ Started job (m.counts old.world.now) ∷ []) (launch.clears.log ∙ has.grown)
            ∙ append_assoc o.before.log has.entries (Started job (m.counts old.world.now) ∷ []);
        text = has.text ++ text;
        are =
            subst (λ (x : Options). AreTexts (IsJobText o x (m.around new.world.now)) (has.entries ++ Started job (m.counts old.world.now) ∷ []) (has.text ++ text))
            (sym options)
            (of_start job (m.counts old.world.now) text job_text (texts_keep (m.around new.world.now) writes old.options has.entries has.grown has.are));
        rest = [];
        is_rest = no_more;
        printed = prints.printed shows
            ∙ ap (λ (l : List ℕ). l ++ text)
            (has.printed ∙ ap (λ (l : List ℕ). p.text start ++ (has.text ++ l)) none ∙ ap (λ (l : List ℕ). p.text start ++ l) (append-nil has.text))
            ∙ append_assoc (p.text start) has.text text
            ∙ ap (λ (l : List ℕ). p.text start ++ l) (sym (append-nil (has.text ++ text)));
        later = omega (arith, has.later, prints.faults);
      }

      pub started_printed : IsPrinted m p o start new
      started_printed = record { has = started_has; none = λ e. refl }

    -- or it is refused
    module _ (job : Job) (targets : job.targets ≡ r.targets) (new : Site W O E) (clears : Clears job.targets around (m.around new.world.now))
        (options : new.options ≡ old.options) (start : O) (has : SiteHasPrinted m p o start old) (none : has.rest ≡ [])
        (last : PrintsLast p old.out.now new.out.now text) (shows : p.tells new.out.now) where
      writes_no : Writes r.targets around (m.around new.world.now)
      writes_no =
          subst (λ (paths : List Path). Writes paths around (m.around new.world.now)) targets
          (clears_write job.targets around (m.around new.world.now) clears)

      before : p.text old.out.now ≡ p.text start ++ has.text
      before = has.printed ∙ ap (λ (l : List ℕ). p.text start ++ (has.text ++ l)) none ∙ ap (λ (l : List ℕ). p.text start ++ l) (append-nil has.text)

      printed_with : (rest : List ℕ) → IsRest o old.options (Rose (p.faults start) (p.faults new.out.now)) has.entries rest →
          p.text new.out.now ≡ p.text old.out.now ++ rest → p.faults old.out.now ≤ p.faults new.out.now → SiteHasPrinted m p o start new
      printed_with rest is_rest printed later = record {
        entries = has.entries;
        grown = clears.log ∙ has.grown;
        text = has.text;
        are =
            subst (λ (x : Options). AreTexts (IsJobText o x (m.around new.world.now)) has.entries has.text) (sym options)
            (texts_keep (m.around new.world.now) writes_no old.options has.entries has.grown has.are);
        rest = rest;
        is_rest = subst (λ (x : Options). IsRest o x (Rose (p.faults start) (p.faults new.out.now)) has.entries rest) (sym options) is_rest;
        printed = printed ∙ ap (λ (l : List ℕ). l ++ rest) before ∙ append_assoc (p.text start) has.text rest;
        later = omega (arith, has.later, later);
      }

      by : PrintsLast p old.out.now new.out.now text → SiteHasPrinted m p o start new
      by (nothing same) =
          printed_with [] no_more (ap (λ (out : O). p.text out) same ∙ sym (append-nil (p.text old.out.now)))
          (omega (arith, ap (λ (out : O). p.faults out) same))
      by (whole prints) =
          printed_with text
          (one_more around rule.0 r [] (new_number has.entries has.grown) (subst (λ (l : List ℕ). IsOwnText o old.options around rule.0 r l) (sym (append-nil text)) own) (inl refl))
          (prints.printed shows) (omega (arith, prints.faults))
      by (cut cuts) =
          let part = cuts.printed shows in
          printed_with part.front
          (one_more around rule.0 r part.rest (new_number has.entries has.grown) (subst (λ (l : List ℕ). IsOwnText o old.options around rule.0 r l) part.parts own)
          (inr (rose_on (p.faults start) (p.faults old.out.now) (p.faults new.out.now) has.later cuts.faults)))
          part.printed cuts.faults.later

      pub refused_printed : SiteHasPrinted m p o start new
      refused_printed = by last

-- ---- what is printed of a text

module _ {S : Type 0} (p : SinkMeaning S) (old mid new : S) (text : List ℕ) (same : mid ≡ old) where
  pub last_whole : Prints p mid new text → PrintsLast p old new text
  last_whole prints = whole (subst (λ (s : S). Prints p s new text) same prints)

  pub last_cut : Cuts p mid new text → PrintsLast p old new text
  last_cut cuts = cut (subst (λ (s : S). Cuts p s new text) same cuts)

-- where a text was printed maybe, the sink told before if it tells now
pub last_told : {S : Type 0} (p : SinkMeaning S) (old new : S) (text : List ℕ) → PrintsLast p old new text → p.tells new → p.tells old
last_told p old new text (nothing same) t = subst p.tells same t
last_told p old new text (whole prints) t = prints.told t
last_told p old new text (cut cuts) t = cuts.told t
