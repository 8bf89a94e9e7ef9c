-- What a site has printed, from call to call.
use Rattle.std.proofs.Common.{◌≡◌, ◌∙◌, ◌≤◌, inl, inr, ℕ, true, false, List, [], ap, subst, sym}
use Rattle.std.specs.Prelude.{Result, Ok, Err, IsErrAnd, OnErr, length}
use Rattle.scons_base.specs.Rising.{Rose}
use Rattle.scons_base.specs.declared.ids.RuleId.{RuleId}
use Rattle.world_api.specs.Around.{Around, Entry, Started}
use Rattle.world_api.specs.Calls.{Asks, Ends}
use Rattle.world_api.specs.Counts.{Counts}
use Rattle.world_api.specs.Laws.{EndsJob}
use Rattle.world_api.specs.Meaning.{Meaning, Told}
use Rattle.world_api.specs.Printed.{SinkMeaning}
use Rattle.world_api.specs.declared.job.Ended.{Ended}
use Rattle.world_api.specs.declared.job.Job.{Job}
use Rattle.deciders.specs.declared.recorded.Rec.{Rec}
use Rattle.rule_graph.specs.Graphs.{RuleGraph}
use Rattle.task_plan.specs.Plans.{Planned}
use Rattle.task_plan.specs.declared.want.PlanEvent.{PlanEvent}
use Rattle.task_plan.specs.declared.want.Want.{Want}
use Rattle.build_files.specs.declared.end.ListEnd.{ListEnd}
use Rattle.build_model.specs.Rules.{Among}
use Rattle.build_model.proofs.Lists.{true_false}
use Rattle.run_means.proofs.Clearing.{calls_clear}
use Rattle.turn_means.specs.Standing.{Outset, IsOutset}
use Rattle.turn_means.specs.Writing.{Writes}
use Rattle.turn_means.proofs.Recording.{stays}
use Rattle.build_run.specs.Along.{IsAlong, IsReliable, IsWantedOf, StandsPut, StaysAlong, StepsOr, Tells, stepped, wanted, was_put, was_refused}
use Rattle.build_run.specs.Output.{AddsEndings, IsPrinted, IsPrintedBy, IsQuiet, MakesPrinting, PrintsAlong, SiteHasPrinted, TurnsPrinting, none_added, one_added}
use Rattle.build_run.specs.Sites.{SitePuts, most_jobs}
use Rattle.build_run.specs.StartTexts.{AreTexts, HasPrinted, IsJobText, IsRest}
use Rattle.build_run.specs.declared.account.Account.{Account}
use Rattle.build_run.specs.declared.building.Options.{Options}
use Rattle.build_run.specs.declared.site.Site.{Site}
use Rattle.build_run.proofs.Alongs.{is_reliable}
use Rattle.build_run.proofs.Booking.{clears_write, ends_write}
use Rattle.build_run.proofs.Clearing.{clears_same}
use Rattle.build_run.proofs.Texts.{has_on, jobs_on}

-- ---- quiet calls

-- around it nothing changed
pub writes_same : (old new : Around) → new ≡ old → Writes [] old new
writes_same old new same = clears_write [] old new (clears_same [] old new same)

adds_same : (old new : List Entry) → new ≡ old → AddsEndings old new
adds_same old new same = subst (λ (log : List Entry). AddsEndings old log) (sym same) none_added

pub adds_on : {old mid new : List Entry} → AddsEndings old mid → AddsEndings mid new → AddsEndings old new
adds_on first none_added = first
adds_on first (one_added id outcome more) = one_added id outcome (adds_on first more)

pub writes_on : (old mid new : Around) → Writes [] old mid → Writes [] mid new → Writes [] old new
writes_on old mid new first more = record {
  files = λ path free out. more.files path (λ t. elim (first.running path t) [ inl was ↦ free was | inr among ↦ out among ]) out ∙ first.files path free out;
  stamps = λ path free out. more.stamps path (λ t. elim (first.running path t) [ inl was ↦ free was | inr among ↦ out among ]) out ∙ first.stamps path free out;
  running = λ path t. elim (more.running path t) [ inl was ↦ first.running path was | inr among ↦ inr among ];
}

-- an ending, where around it nothing changed since
pub ends_same : {W : Type 0} (m : Meaning W) (ended : Ended) (old mid new : W) → m.around new ≡ m.around mid → EndsJob m ended old mid →
    Ends (m.sure mid) ended (m.around old) (m.around new)
ends_same m ended old mid new same ends = subst (λ (a : Around). Ends (m.sure mid) ended (m.around old) a) (sym same) ends

module _ {W O E : Type 0} (m : Meaning W) where
  -- one behind the other
  pub quiet_on : (old mid new : Site W O E) → Told m mid.world.now new.world.now → IsQuiet m old mid → IsQuiet m mid new → IsQuiet m old new
  quiet_on old mid new told first more = record {
    out = more.out ∙ first.out;
    options = more.options ∙ first.options;
    ended = λ e. first.ended (more.ended e);
    writes = λ t.
        writes_on (m.around old.world.now) (m.around mid.world.now) (m.around new.world.now) (first.writes (told.told t)) (more.writes t);
    log = λ t. adds_on (first.log (told.told t)) (more.log t);
  }

  -- around it nothing changed
  pub quiet_around : (old new : Site W O E) → new.out.now ≡ old.out.now → new.options ≡ old.options →
      (new.account.now.is_ended ≡ false → old.account.now.is_ended ≡ false) →
      (m.tells new.world.now → m.around new.world.now ≡ m.around old.world.now) → IsQuiet m old new
  quiet_around old new out options ended same = record {
    out = out;
    options = options;
    ended = ended;
    writes = λ t. writes_same (m.around old.world.now) (m.around new.world.now) (same t);
    log = λ t. adds_same (m.around old.world.now).log (m.around new.world.now).log (ap (λ (a : Around). a.log) (same t));
  }

  -- it was looked at
  pub quiet_looked : (old new : Site W O E) → new.out.now ≡ old.out.now → new.options ≡ old.options →
      (new.account.now.is_ended ≡ false → old.account.now.is_ended ≡ false) →
      (m.tells new.world.now → Asks (m.around old.world.now) (m.around new.world.now)) → IsQuiet m old new
  quiet_looked old new out options ended asks = record {
    out = out;
    options = options;
    ended = ended;
    writes = λ t.
        clears_write [] (m.around old.world.now) (m.around new.world.now)
        ((calls_clear []).looks (m.around old.world.now) (m.around new.world.now) (asks t));
    log = λ t. adds_same (m.around old.world.now).log (m.around new.world.now).log (asks t).log;
  }

  -- an end isn't taken back where records are put
  pub put_ended : (old new : Site W O E) → StandsPut m old new → new.account.now.is_ended ≡ false → old.account.now.is_ended ≡ false
  put_ended old new (was_put same counts) e = sym (ap (λ (a : Account). a.is_ended) same) ∙ e
  put_ended old new (was_refused is) e = true_false (sym is.ended ∙ e)

  -- records are put
  pub quiet_put : (old new : Site W O E) → SitePuts m old new → StandsPut m old new → IsQuiet m old new
  quiet_put old new puts stands = quiet_around old new puts.out puts.same.options (put_ended old new stands) puts.around

  -- a job ended
  pub quiet_ended : {Sure : Type 0} (old new : Site W O E) (ended : Ended) → new.out.now ≡ old.out.now → new.options ≡ old.options →
      (new.account.now.is_ended ≡ false → old.account.now.is_ended ≡ false) →
      (m.tells new.world.now → Ends Sure ended (m.around old.world.now) (m.around new.world.now)) → IsQuiet m old new
  quiet_ended {Sure} old new ended out options stays ends = record {
    out = out;
    options = options;
    ended = stays;
    writes = λ t. ends_write Sure ended (m.around old.world.now) (m.around new.world.now) (ends t);
    log = λ t.
        subst (λ (log : List Entry). AddsEndings (m.around old.world.now).log log) (sym (ends t).log)
        (one_added ended.id ended.outcome none_added);
  }

  -- ---- what was printed

  module _ (p : SinkMeaning O) (o : Outset) (start : O) (old new : Site W O E) (quiet : IsQuiet m old new) (tells : m.tells new.world.now) where
    module _ (has : SiteHasPrinted m p o start old)
        (on : (job : Job) (counts : Counts) (own : List ℕ) → Among (Started job counts) has.entries →
        IsJobText o old.options (m.around old.world.now) job own → IsJobText o old.options (m.around new.world.now) job own) where
      abbrev has_now : HasPrinted p o old.options (m.around new.world.now) start old.out.now
      has_now = has_on p o old.options (m.around old.world.now) (m.around new.world.now) start old.out.now has (quiet.log tells) on

      abbrev rest_now : IsRest o old.options (Rose (p.faults start) (p.faults old.out.now)) has_now.entries has.rest
      rest_now = has_now.is_rest

      abbrev pub still_printed : SiteHasPrinted m p o start new
      still_printed = record {
        entries = has_now.entries;
        grown = has_now.grown;
        text = has.text;
        are = subst (λ (x : Options). AreTexts (IsJobText o x (m.around new.world.now)) has_now.entries has.text) (sym quiet.options) has_now.are;
        rest = has.rest;
        is_rest =
            subst (λ (x : Options). IsRest o x (Rose (p.faults start) (p.faults new.out.now)) has_now.entries has.rest) (sym quiet.options)
            (subst (λ (out : O). IsRest o old.options (Rose (p.faults start) (p.faults out)) has_now.entries has.rest) (sym quiet.out) rest_now);
        printed = ap (λ (out : O). p.text out) quiet.out ∙ has.printed;
        later = subst (λ (out : O). p.faults start ≤ p.faults out) (sym quiet.out) has.later;
      }

    -- where it goes along
    module _ (outset : IsOutset o) (along : IsAlong m o old) (has : SiteHasPrinted m p o start old) where
      abbrev pub quiet_printed : SiteHasPrinted m p o start new
      quiet_printed =
          still_printed has
          (jobs_on o outset old.options along.on.jobs (m.around old.world.now) (m.around new.world.now) along.on.past along.on.at.way
          (stays o outset along.on.jobs (m.around old.world.now) (m.around new.world.now) along.on.past along.on.at.way (quiet.writes tells)).to_have
          has.entries has.grown)

    -- where its world is the same
    module _ (same : new.world.now ≡ old.world.now) (has : SiteHasPrinted m p o start old) where
      abbrev pub told_printed : SiteHasPrinted m p o start new
      told_printed =
          still_printed has
          (λ job counts own among is. subst (λ (w : W). IsJobText o old.options (m.around w) job own) (sym same) is)

  module _ (p : SinkMeaning O) where
    pub quiet_tells : (old new : Site W O E) → IsQuiet m old new → p.tells new.out.now → p.tells old.out.now
    quiet_tells old new quiet t = subst p.tells quiet.out t

    pub quiet_prints : (old new : Site W O E) → IsQuiet m old new → PrintsAlong m p old new
    quiet_prints old new quiet = record {
      told = quiet_tells old new quiet;
      prints = λ tells sure shows o outset along start is. record {
        has = quiet_printed p o start old new quiet tells outset along is.has;
        none = λ e. is.none (quiet.ended e);
      };
    }

    pub quiet_by : {T : Type 0} (result : Result T ListEnd) (o : Outset) (start : O) (old new : Site W O E) → IsQuiet m old new →
        m.tells new.world.now → IsOutset o → IsAlong m o old → IsPrinted m p o start old → IsPrintedBy m p o start new result
    quiet_by (Ok value) o start old new quiet tells outset along is = record {
      has = quiet_printed p o start old new quiet tells outset along is.has;
      none = λ e. is.none (quiet.ended e);
    }
    quiet_by (Err end) o start old new quiet tells outset along is = quiet_printed p o start old new quiet tells outset along is.has

    -- the same of one that was decided
    pub quiet_make : (old new : Site W O E) (rule : RuleId) (rec : Rec) (result : Result PlanEvent ListEnd) → IsQuiet m old new →
        MakesPrinting m p old new rule rec result
    quiet_make old new rule rec result quiet = record {
      told = quiet_tells old new quiet;
      prints = λ tells sure shows o outset along due start is. quiet_by result o start old new quiet tells outset along is;
    }

    -- an end that a call passes on
    pub end_printed : {T : Type 0} (P : ListEnd → Type 0) (result : Result T ListEnd) (o : Outset) (start : O) (site : Site W O E) → IsErrAnd result P →
        SiteHasPrinted m p o start site → IsPrintedBy m p o start site result
    end_printed P (Ok value) o start site is has = absurd is
    end_printed P (Err end) o start site is has = has

    -- a turn that is quiet
    pub quiet_turn : (old new : Site W O E) (wish : Want) (result : Result PlanEvent ListEnd) → IsQuiet m old new → TurnsPrinting m p old new wish result
    quiet_turn old new wish result quiet = record {
      told = quiet_tells old new quiet;
      prints = λ tells sure shows o outset along may start is. quiet_by result o start old new quiet tells outset along is;
    }

    pub prints_on : (old mid new : Site W O E) → Told m mid.world.now new.world.now → StaysAlong m old mid → PrintsAlong m p old mid →
        PrintsAlong m p mid new → PrintsAlong m p old new
    prints_on old mid new told along first more = record {
      told = λ t. first.told (more.told t);
      prints = λ tells sure shows o outset on start is.
          more.prints tells sure shows o outset (along (told.told tells) (told.sure tells sure) o outset on) start
          (first.prints (told.told tells) (told.sure tells sure) (more.told shows) o outset on start is);
    }

    told_by : (o : Outset) (start : O) (mid new : Site W O E) (done : Result PlanEvent ListEnd) → IsQuiet m mid new → m.tells new.world.now →
        new.world.now ≡ mid.world.now → OnErr done (new.account.now.is_ended ≡ true) → IsPrintedBy m p o start mid done → IsPrinted m p o start new
    told_by o start mid new (Ok event) quiet tells same ended is = record {
      has = told_printed p o start mid new quiet tells same is.has;
      none = λ e. is.none (quiet.ended e);
    }
    told_by o start mid new (Err end) quiet tells same ended has = record {
      has = told_printed p o start mid new quiet tells same has;
      none = λ e. true_false (sym ended ∙ e);
    }

    -- what came of a turn is told
    pub turn_prints : (old mid new : Site W O E) (wish : Want) (done : Result PlanEvent ListEnd) → Told m mid.world.now new.world.now →
        ((old.run.now.plan.halted ≡ false → IsReliable old.run.now.plan) →
        IsWantedOf (length old.run.now.tickets) (most_jobs old.options) old.run.now.plan wish) →
        TurnsPrinting m p old mid wish done → IsQuiet m mid new → new.world.now ≡ mid.world.now → OnErr done (new.account.now.is_ended ≡ true) →
        PrintsAlong m p old new
    turn_prints old mid new wish done told may turn quiet same ended = record {
      told = λ t. turn.told (quiet_tells mid new quiet t);
      prints = λ tells sure shows o outset along start is.
          told_by o start mid new done quiet tells same ended
          (turn.prints (told.told tells) (told.sure tells sure) (quiet_tells mid new quiet shows) o outset along (may (is_reliable m o old along)) start is);
    }

-- ---- a plan is told

-- an end isn't taken back
step_ended : (g : RuleGraph) (old new : Planned) (event : PlanEvent) (before after : Account) → StepsOr g old event new before after →
    after.is_ended ≡ false → before.is_ended ≡ false
step_ended g old new event before after (stepped step halted same) e = sym (ap (λ (a : Account). a.is_ended) same) ∙ e
step_ended g old new event before after (wanted ended faulted scan) e = true_false (sym ended ∙ e)

pub tells_ended : (g : RuleGraph) (old new : Planned) (done : Result PlanEvent ListEnd) (before after : Account) → Tells g old before done new after →
    after.is_ended ≡ false → before.is_ended ≡ false
tells_ended g old new (Ok event) before after told e = step_ended g old new event before after told e
tells_ended g old new (Err end) before after told e = true_false (sym told.1.ended ∙ e)

-- and one that is told is noted
pub tells_end : (g : RuleGraph) (old new : Planned) (done : Result PlanEvent ListEnd) (before after : Account) → Tells g old before done new after →
    OnErr done (after.is_ended ≡ true)
tells_end g old new (Ok event) before after told = tt
tells_end g old new (Err end) before after told = told.1.ended
