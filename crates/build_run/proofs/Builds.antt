-- A build, from what it began with: leftover copies went, and from there it took its steps.
use Rattle.std.proofs.Common.{arith, ◌≡◌, ◌∙◌, ℕ, Bool, true, false, ◌||◌, List, [], Contains, append-nil, length, refl, subst, sym, ap}
use Rattle.std.proofs.lemmas.List.{append_cancel_left}
use Rattle.std.specs.Prelude.{Result, Ok, Err, IfOk, OnErr, max, min, nat_lt}
use Rattle.build_model.proofs.Lists.{true_false}
use Rattle.scons_base.specs.declared.ids.NodeId.{NodeId}
use Rattle.world_api.specs.Around.{Around, IsRunningTarget}
use Rattle.world_api.specs.Calls.{Asks, Grows}
use Rattle.world_api.specs.Meaning.{Meaning, IsImage, Told}
use Rattle.world_api.specs.Printed.{SinkMeaning}
use Rattle.world_api.specs.declared.hash.Hash.{Hash}
use Rattle.rule_graph.specs.Graphs.{RuleGraph}
use Rattle.rule_graph.specs.declared.build_fault.BuildFault.{BuildFault}
use Rattle.rule_graph.specs.declared.build_fault.BuildFault.TheVariants as fault
use Rattle.rule_graph.specs.Rules.{are_below}
use Rattle.sign_store.specs.Stores.{IsKept, map_of}
use Rattle.sign_store.specs.Ends.{image_in}
use Rattle.sign_store.specs.Tables.{Map}
use Rattle.sign_store.specs.declared.store.Store.{Store}
use Rattle.build_files.specs.declared.end.ListEnd.{ListEnd}
use Rattle.build_means.specs.Builds.{IsByContent, IsJobIn, KeepsRecords, Wanted, build_in, graph_in, jobs_at_once, setting_in}
use Rattle.build_means.specs.Laws.{RunsAreRight}
use Rattle.build_means.specs.Logs.{AreUnrisen}
use Rattle.build_means.specs.Records.{records_in}
use Rattle.build_means.specs.Graphs.{act_by}
use Rattle.build_model.specs.Contents.{View}
use Rattle.build_model.specs.Graphs.{clean_build}
use Rattle.build_model.specs.Laws.{EachStep}
use Rattle.build_model.specs.Records.{AreSound}
use Rattle.build_model.specs.Rules.{Among, Bytes, Path, Setting}
use Rattle.build_model.specs.Steps.{Build, Step, running}
use Rattle.build_model.proofs.Histories.{sound_too}
use Rattle.scons_base.specs.Rising.{Rose}
use Rattle.turn_means.proofs.Recording.{begins}
use Rattle.build_means.specs.Rules.{IsReading}
use Rattle.run_means.proofs.Keeping.{begin, did}
use Rattle.run_means.proofs.Lists.{among_contains, contains_among}
use Rattle.turn_means.specs.Safety.{IsSafe}
use Rattle.turn_means.specs.Standing.{Outset}
use Rattle.turn_means.proofs.Safety.{stop}
use Rattle.build_run.specs.Along.{is_faulted}
use Rattle.build_run.specs.Ledgers.{Ledger, ledger_of, blank}
use Rattle.build_run.specs.Output.{BuildPrints, MakesPrinted}
use Rattle.build_run.specs.Outsets.{wanted_of, GoesByContent, BuildRuns, BuildSucceeds, HasMade, HasRun, HasSetOut, IsBlank, IsReadyFor, Leaves, MakesAll, SetsOut, SetsOutBehind, StandFor, StaysKept}
use Rattle.build_run.specs.Faulted.{AddsEnd, AreFaultsOf, BuildFaults, IsFirstOf, IsPlainEnd, MadeFaulted, StandsBeside}
use Rattle.build_run.specs.Forgetting.{HasForgotten}
use Rattle.build_run.specs.Remembering.{HasRemembered}
use Rattle.build_run.specs.Safe.{HasOutset, MakesSafely, TakesSafely}
use Rattle.build_run.specs.Skips.{AreSkips, BuildSkips, MakesSkipping}
use Rattle.build_run.specs.Takes.{IsLeftAt}
use Rattle.build_run.specs.Endings.{CountsEndings}
use Rattle.build_run.specs.Unrecorded.{BuildCounts, EndsAll}
use Rattle.build_run.specs.Truth.{TellsTruth}
use Rattle.build_run.specs.Watches.{Covers, Watch}
use Rattle.build_run.specs.declared.account.Account.{Account}
use Rattle.build_run.proofs.Unrecorded.{has_counted}
use Rattle.build_run.proofs.BuildPrinting.{none_printed}
use Rattle.build_run.proofs.StepTexts.{steps_printed}
use Rattle.build_run.proofs.EndingOn.{not_before}
use Rattle.build_run.proofs.Forgetting.{forgets_none, has_forgotten, watch_unmade}
use Rattle.build_run.proofs.Remembering.{has_remembered}
use Rattle.build_run.proofs.Reported.{refused_reported, refused_rings, reported}
use Rattle.build_run.proofs.Safely.{safe_on}
use Rattle.build_run.proofs.Stopped.{never_covers, none_watched, safe_first, unwatched}
use Rattle.build_run.specs.declared.building.Options.{Options}
use Rattle.build_run.specs.declared.end.BuildEnd.{BuildEnd}
use Rattle.build_run.specs.declared.site.Run.{Run}

-- ---- it sets out behind the leftovers

pub sets_behind : {W : Type 0} (m : Meaning W) (g : RuleGraph) (requested : List NodeId) (hash : Hash) (a b c : W) (store mid : Store)
    (h : RuleGraph) (r : Result Run ListEnd) → (m.tells c → m.tells b) → Leaves m a store b mid (IsLeftAt g (m.around a) (map_of store)) →
    IfOk r (λ run. SetsOut m g requested hash b h run c) → IfOk r (SetsOutBehind m g requested hash a store h c mid)
sets_behind m g requested hash a b c store mid h (Ok run) told leaves sets = λ tells rest below.
    let left = leaves (told tells) rest in
    record { left = m.around b; rest = left; sets = λ o by. sets tells (left.running ∙ rest) below o by }
sets_behind m g requested hash a b c store mid h (Err end) told leaves sets = tt

pub refused_with : {T P : Type 0} (r : Result T ListEnd) → P → OnErr r P
refused_with (Ok value) p = tt
refused_with (Err end) p = p

-- ---- and makes all

not_true : (b : Bool) → (b ≡ true → ⊥) → b ≡ false
not_true true none = absurd (none refl)
not_true false none = refl

as_many : (jobs : ℕ) → max (min jobs 64) 1 ≡ jobs_at_once jobs
as_many jobs = omega arith

pub is_blank : (account : Account) → ledger_of account ≡ blank → account.is_ended ≡ false → IsBlank account
is_blank account is ended = record {
  ended = ended;
  faulted = ap (λ (l : Ledger). l.memory || nat_lt 0 (length l.faults)) is;
  unshut = ap (λ (l : Ledger). l.shut) is;
}

-- no step is a wrong one
none_among : {A P : Type 0} {x : A} → Among x [] → P
none_among m = elim m [ ]

no_steps : (s : Setting) (b : Build) (view : View) → EachStep s b view []
no_steps s b view = record {
  settled = λ r m. none_among m;
  fresh = λ r m. none_among m;
  began = λ r m. none_among m;
  lacking = λ r p m. none_among m;
}

-- ---- the records that it went by tell the truth

-- what was safe behind looks was so before them, for all that was met since
sound_before : (s u : Setting) (left around after : Around) (records : Map) → u.act ≡ s.act → u.digest ≡ s.digest →
    Asks left around → Grows left.met after.met → IsSafe s around records → AreSound u after.met left.tree (records_in records)
sound_before s u left around after records acts digests asks grows safe =
    sound_too s u acts digests more (stop s records around left.tree safe
    (λ path free. sym (asks.files path (λ target. free (subst (λ runs. IsRunningTarget runs path) (sym asks.running) target)))))
  where
    more : (bytes : Bytes) → Among bytes around.met → Among bytes after.met
    more bytes m = contains_among after.met (grows bytes (subst (λ (met : List Bytes). Contains met bytes) asks.met (among_contains m)))

module _ {W : Type 0} (m : Meaning W) (g : RuleGraph) (requested : List NodeId) (options : Options) (read : IsReading g) (a b c : W)
    (store mid : Store) (rest : m.tells a → (m.around a).running ≡ []) where
  abbrev w : Wanted
  w = wanted_of g requested options

  module _ (h : RuleGraph) (run : Run) (account : Account) (back : m.tells b → m.tells a) (same : m.counts b ≡ m.counts a)
      (sets : SetsOutBehind m g requested options.hash a store h b mid run) (first : IsBlank account)
      (reads : m.tells b → IsImage m b (m.seen b)) (kept : IsKept m b mid) (sure_back : m.tells c → m.sure c → m.sure b)
      (safe : TakesSafely m (IsLeftAt g (m.around a) (map_of store)) a b) (are_right : RunsAreRight) where
    module _ (tells : m.tells b) (below : are_below (length g.nodes) requested ≡ true) where
      pub has : HasSetOut m g requested options.hash a (map_of store) h run b (map_of mid)
      has = sets tells (rest (back tells)) below

      abbrev o : Outset
      o = record { wanted = w; kept = map_of mid; counts = m.counts a; before = has.left }

      ready : IsReadyFor m o h run mid b account options
      ready = record {
        outset = record { reading = read; below = below };
        sets = has.sets o (record { graph = refl; requested = refl; hash = refl; before = refl });
        kept = refl;
        asked = record { keep = refl; jobs = as_many options.jobs };
        counts = sym same;
        blank = first;
      }

      pub has_outset : (k : Watch) → Covers k o → HasOutset m k h run mid b account options
      has_outset k covers = record { o = o; covers = covers; ready = ready }

      pub has_unwatched : (s : Setting) → HasOutset m (unwatched s (m.around a).log) h run mid b account options
      has_unwatched s = has_outset (unwatched s (m.around a).log) (never_covers s (m.around a).log o has.rest.log)

      -- as it began what stood was safe
      begun_safe : m.sure b → TellsTruth m (setting_in w (m.around a)) a → IsSafe (setting_in w (m.around a)) (m.around b) (map_of mid)
      begun_safe sure truth =
          let s = setting_in w (m.around a) in
          let k = unwatched s (m.around a).log in
          let now = (safe k (λ t left. refl) (safe_first m k a rest (λ t u. record { acts = refl; digests = refl }) (λ e. truth)
          (λ t banks image. none_watched s (m.around a) (image_in banks)))).now tells sure in
          subst (λ (records : Map). IsSafe s (m.around b) records) (kept.each tells (m.seen b) (reads tells)).image
          (now.images refl (m.seen b) (reads tells))

      -- and what was met since leaves it so
      pub sound_then : m.sure b → TellsTruth m (setting_in w (m.around a)) a → (after : Around) → Grows has.left.met after.met →
          AreSound (setting_in w has.left) after.met has.left.tree (records_in (map_of mid))
      sound_then sure truth after grows =
          sound_before (setting_in w (m.around a)) (setting_in w has.left) has.left (m.around b) after (map_of mid)
          (ap act_by has.rest.law) refl ready.sets.set.around grows (begun_safe sure truth)

    module _ (after : Account) (told : m.tells c → m.tells b) (last : Store) (makes : MakesAll m h run mid b account options c after last)
        (rose : after.is_store_shut ≡ true → Rose (m.counts a).disk_faults (m.counts c).disk_faults) (stays : StaysKept m c last after) where
      stands : m.tells c → after.is_store_shut ≡ false → StandFor m c (map_of last)
      stands tells unshut banks image = ((stays unshut).each tells banks image).image

      made : (tells : m.tells c) → m.sure c → (below : are_below (length g.nodes) requested ≡ true) →
          HasMade (o (told tells) below) (m.around c) after (map_of last)
      made tells sure below = makes tells sure (o (told tells) below) (ready (told tells) below)

      -- where what stood before told the truth, and by content, the build goes by sound records
      by_content : (tells : m.tells c) → m.sure c → (below : are_below (length g.nodes) requested ≡ true) → TellsTruth m (setting_in w (m.around a)) a →
          GoesByContent w (map_of mid) (has (told tells) below).left (m.around c) → IsByContent w (map_of mid) (has (told tells) below).left (m.around c)
      by_content tells sure below truth by =
          record {
            sound = sound_then (told tells) below (sure_back tells sure) truth (m.around c) (made tells sure below).met;
            distinct = by.distinct;
            decider = by.decider;
          }

      abbrev has_run : (answer : BuildEnd) → answer.is_ended ≡ after.is_ended → m.tells c → m.sure c → are_below (length g.nodes) requested ≡ true →
          HasRun m w (map_of store) a c (map_of last) answer.is_ended
      has_run answer same tells sure below = record {
        left = (has (told tells) below).left;
        kept = map_of mid;
        rest = (has (told tells) below).rest;
        runs = (made tells sure below).runs;
        records = λ calm. (made tells sure below).records (not_true after.is_store_shut (λ e. calm (rose e)));
        rests = λ e. (made tells sure below).rests (sym same ∙ e);
        stored = λ e. stands tells ((made tells sure below).unshut (sym same ∙ e));
        right = λ truth by.
            are_right w (map_of mid) (m.counts a) (has (told tells) below).left (m.around c) read (made tells sure below).runs
            (by_content tells sure below truth by);
      }

      pub build_ran : (answer : BuildEnd) → answer.is_ended ≡ after.is_ended → BuildRuns m w (map_of store) a c (map_of last) answer
      build_ran answer same = λ tells sure below. has_run answer same tells sure below

      -- and what it printed
      pub build_printed : {O : Type 0} (p : SinkMeaning O) (out new_out : O) → MakesPrinted m p h run mid b account options out c after new_out →
          (answer : BuildEnd) → answer.is_ended ≡ after.is_ended → BuildPrints m p w (map_of store) options a out c new_out (map_of last) answer
      build_printed p out new_out prints answer same = record {
        told = prints.told;
        prints = λ tells sure shows below. record {
          ran = has_run answer same tells sure below;
          printed = (prints.prints tells sure shows (o (told tells) below) (ready (told tells) below)).has;
          none = λ e. (prints.prints tells sure shows (o (told tells) below) (ready (told tells) below)).none (sym same ∙ e);
          steps = steps_printed p (o (told tells) below) (ready (told tells) below).outset options (m.around c) out new_out (made tells sure below).runs
              (prints.prints tells sure shows (o (told tells) below) (ready (told tells) below)).has;
        };
      }

      pub build_succeeded : (answer : BuildEnd) → (answer.faults ≡ [] → answer.memory ≡ false → is_faulted after ≡ false) →
          BuildSucceeds m w (map_of store) a c (map_of last) answer
      build_succeeded answer faulted = λ none memory tells sure below.
          let well = (made tells sure below).succeeds (faulted none memory) in
          record {
            left = (has (told tells) below).left;
            kept = map_of mid;
            rest = (has (told tells) below).rest;
            succeeded = well.succeeded;
            records = well.records;
            stored =
                let did = made tells sure below in
                stands tells (did.unshut (not_before after.is_ended (is_faulted after) did.told (faulted none memory)));
            clean = λ truth by. well.succeeded.built (by_content tells sure below truth by);
          }

    -- and what it forgot
    pub build_forgets : Told m b c → MakesSafely m h run mid b account options c → (after : Account) (last : Store) →
        MakesAll m h run mid b account options c after last → (m.tells c → IsImage m c (m.seen c)) → m.tells c → m.sure c →
        are_below (length g.nodes) requested ≡ true → HasForgotten m a c
    build_forgets told makes after last all reads_last tells sure below =
        let here = told.told tells in
        let behind = has here below in
        has_forgotten m w a c rest tells sure (reads_last tells) behind.left (map_of mid) (record { reading = read; below = below }) behind.rest.log
        (all tells sure (o here below) (ready here below)).runs
        (λ k goes covers first. safe_on m k a b c told (safe k (λ t left. goes) first) (makes k (λ t u. has_outset here below k covers)))

    -- and what was recorded at every moment of it
    pub build_remembers : IsKept m a store → Told m b c → MakesSafely m h run mid b account options c → m.tells c → m.sure c →
        are_below (length g.nodes) requested ≡ true → HasRemembered m w (map_of store) a c
    build_remembers stands told makes tells sure below =
        let here = told.told tells in
        let behind = has here below in
        has_remembered m w read below store a c rest stands behind.left (map_of mid) behind.rest (Unit {0})
        (λ k left covers first. safe_on m k a b c told (safe k left first) (makes k (λ t u. has_outset here below k (covers tt))))
        (λ went truth after grows. sound_then here below (told.sure tells sure) truth after grows)

    -- and what it skipped
    pub build_skipped : (after : Account) (told : m.tells c → m.tells b) (last : Store) (skipped : List (Path × Path)) →
        MakesSkipping m h run mid b account options c after last skipped →
        (after.is_store_shut ≡ true → Rose (m.counts a).disk_faults (m.counts c).disk_faults) → StaysKept m c last after →
        (answer : BuildEnd) → answer.is_ended ≡ after.is_ended → answer.faults ≡ after.faults.items → answer.skipped ≡ skipped → BuildSkips m g requested options store a last c answer
    unfolding made build_ran
    build_skipped after told last skipped skips rose stays answer same reported said = λ tells sure below. record {
      run = build_ran after told last (λ t s x r. (skips t s x r).made) rose stays answer same tells sure below;
      skips = λ e.
          let did = skips tells sure (o (told tells) below) (ready (told tells) below) in
          subst (λ (pairs : List (Path × Path)).
          AreSkips w (map_of mid) (has (told tells) below).left (m.around c) did.made.runs.steps answer.faults pairs) (sym said)
          (subst (λ (faults : List BuildFault).
          AreSkips w (map_of mid) (has (told tells) below).left (m.around c) did.made.runs.steps faults skipped) (sym reported) (did.skips (sym same ∙ e)));
    }

    -- and that what it reports comes of its log
    pub build_faulted : (after : Account) (told : m.tells c → m.tells b) (last : Store) (now : RuleGraph) →
        MadeFaulted m h run mid b account options now c after last →
        (after.is_store_shut ≡ true → Rose (m.counts a).disk_faults (m.counts c).disk_faults) → StaysKept m c last after →
        (answer : BuildEnd) → answer.is_ended ≡ after.is_ended → answer.faults ≡ after.faults.items → answer.memory ≡ after.memory →
        BuildFaults m g requested options store a last c answer
    unfolding made build_ran
    build_faulted after told last now faulted rose stays answer same said noted = λ tells sure below. record {
      run = build_ran after told last (λ t s x r. (faulted t s x r).made) rose stays answer same tells sure below;
      faults =
          let did = faulted tells sure (o (told tells) below) (ready (told tells) below) in
          let log = did.made.runs.log in
          let Told : Bool → List BuildFault → Type 0 = λ wanting faults.
          AreFaultsOf (IsFirstOf log.entries) (StandsBeside (o (told tells) below) log.entries) wanting log.entries faults in
          subst (λ (wanting : Bool). Told wanting answer.faults) (sym noted)
          (subst (λ (faults : List BuildFault). Told after.memory faults) (sym said)
          (reported (IsJobIn w (map_of mid) (has (told tells) below).left (m.around c)) (AreUnrisen w.keep (m.counts a)) (o (told tells) below) now after
          did.made.runs.steps log.entries (m.around c).log log.are log.grown did.faults));
      rings = λ paths h.
          (faulted tells sure (o (told tells) below) (ready (told tells) below)).rings paths
          (subst (λ (faults : List BuildFault). Contains faults (fault.Cycle paths)) said h);
    }

    -- and that it counted what didn't end well
    pub build_counted : (after : Account) (told : m.tells c → m.tells b) (last : Store) →
        EndsAll m h run mid b account options c after last →
        (after.is_store_shut ≡ true → Rose (m.counts a).disk_faults (m.counts c).disk_faults) → StaysKept m c last after →
        (answer : BuildEnd) → answer.is_ended ≡ after.is_ended →
        (m.tells c → CountsEndings (m.counts a) (m.counts c) answer.memory (m.around a).log (m.around c).log) →
        BuildCounts m g requested options store a last c answer
    unfolding made build_ran
    build_counted after told last all rose stays answer same endings = record {
      endings = endings;
      counted = λ tells sure below.
          has_counted m w (map_of store) a c (map_of last) answer.is_ended answer.memory
          (build_ran after told last (λ t s x r. (all t s x r).made) rose stays answer same tells sure below)
          (all tells sure (o (told tells) below) (ready (told tells) below)).idle (endings tells);
    }

  -- or nothing is made
  abbrev has_refused : (m.tells c → m.tells a) → Leaves m a store c mid (IsLeftAt g (m.around a) (map_of store)) → (answer : BuildEnd) →
      answer.is_ended ≡ true → m.tells c → HasRun m w (map_of store) a c (map_of mid) answer.is_ended
  has_refused back leaves answer ended tells =
      let left = leaves tells (rest (back tells)) in
      let none = left.running ∙ rest (back tells) in
      let ran = did w (map_of mid) (m.counts a) (m.around c) (m.around c) [] [] read (begin w (map_of mid) (m.counts a) (m.around c) none) in
      record {
        left = m.around c;
        kept = map_of mid;
        rest = left;
        runs = ran.0;
        records = λ calm.
            subst (λ (steps : List Step). KeepsRecords w (map_of mid) (m.around c) (m.around c) steps (map_of mid)) (sym ran.1)
            (begins (record { wanted = w; kept = map_of mid; counts = m.counts a; before = m.around c }) (m.around c));
        rests = λ e. true_false (sym ended ∙ e);
        stored = λ e. true_false (sym ended ∙ e);
        right = λ truth by.
            subst (λ (steps : List Step). EachStep (setting_in w (m.around c)) (build_in w (map_of mid) (m.around c) (m.around c))
            (clean_build (graph_in w (m.around c)) (m.around c).tree) steps) (sym ran.1) (no_steps _ _ _);
      }

  pub refused_remembers : IsKept m a store → (m.tells c → m.tells a) → Leaves m a store c mid (IsLeftAt g (m.around a) (map_of store)) →
      TakesSafely m (IsLeftAt g (m.around a) (map_of store)) a c → m.tells c → are_below (length g.nodes) requested ≡ true →
      HasRemembered m w (map_of store) a c
  refused_remembers stands back leaves safe tells below =
      has_remembered m w read below store a c rest stands (m.around c) (map_of mid) (leaves tells (rest (back tells))) ⊥
      (λ k left covers first. safe k left first) (λ went. absurd went)

  pub refused_forgets : (m.tells c → m.tells a) → Leaves m a store c mid (IsLeftAt g (m.around a) (map_of store)) →
      TakesSafely m (IsLeftAt g (m.around a) (map_of store)) a c → IsImage m c (m.seen c) → m.tells c → m.sure c → HasForgotten m a c
  refused_forgets back leaves safe reads tells sure =
      forgets_none m w a c rest tells sure reads (λ path first. safe (watch_unmade m w a path) (λ t left. refl) first)
      (leaves tells (rest (back tells))).log

  pub build_refused : (m.tells c → m.tells a) → Leaves m a store c mid (IsLeftAt g (m.around a) (map_of store)) → (answer : BuildEnd) →
      answer.is_ended ≡ true → BuildRuns m w (map_of store) a c (map_of mid) answer
  build_refused back leaves answer ended = λ tells sure below. has_refused back leaves answer ended tells

  -- and printed
  abbrev begun_here : m.tells c → are_below (length g.nodes) requested ≡ true → Outset
  begun_here tells below = record { wanted = w; kept = map_of mid; counts = m.counts a; before = m.around c }

  pub build_silent : {O : Type 0} (p : SinkMeaning O) (out : O) → (m.tells c → m.tells a) →
      Leaves m a store c mid (IsLeftAt g (m.around a) (map_of store)) → (answer : BuildEnd) → answer.is_ended ≡ true →
      BuildPrints m p w (map_of store) options a out c out (map_of mid) answer
  build_silent p out back leaves answer ended = record {
    told = λ t. t;
    prints = λ tells sure shows below. record {
      ran = has_refused back leaves answer ended tells;
      printed = none_printed p (begun_here tells below) options (m.around c) out refl;
      none = λ e. true_false (sym ended ∙ e);
      steps = steps_printed p (begun_here tells below) (record { reading = read; below = below }) options (m.around c) out out
          (has_refused back leaves answer ended tells).runs (none_printed p (begun_here tells below) options (m.around c) out refl);
    };
  }

  pub refused_skips : (m.tells c → m.tells a) → Leaves m a store c mid (IsLeftAt g (m.around a) (map_of store)) → (answer : BuildEnd) →
      answer.is_ended ≡ true → BuildSkips m g requested options store a mid c answer
  refused_skips back leaves answer ended = λ tells sure below. record {
    run = build_refused back leaves answer ended tells sure below;
    skips = λ e. true_false (sym ended ∙ e);
  }

  pub refused_counts : (m.tells c → m.tells a) → Leaves m a store c mid (IsLeftAt g (m.around a) (map_of store)) → (answer : BuildEnd) →
      answer.is_ended ≡ true → (m.tells c → CountsEndings (m.counts a) (m.counts c) answer.memory (m.around a).log (m.around c).log) →
      BuildCounts m g requested options store a mid c answer
  refused_counts back leaves answer ended endings = record {
    endings = endings;
    counted = λ tells sure below.
        let left = leaves tells (rest (back tells)) in
        let none = left.running ∙ rest (back tells) in
        let ran = did w (map_of mid) (m.counts a) (m.around c) (m.around c) [] [] read (begin w (map_of mid) (m.counts a) (m.around c) none) in
        has_counted m w (map_of store) a c (map_of mid) answer.is_ended answer.memory (has_refused back leaves answer ended tells) (ap running ran.1) (endings tells);
  }

  pub refused_faulted : (m.tells c → m.tells a) → Leaves m a store c mid (IsLeftAt g (m.around a) (map_of store)) → (answer : BuildEnd) →
      answer.is_ended ≡ true → (e : ListEnd) (old new : Account) → IsPlainEnd e → AddsEnd old e new → old.faults.items ≡ [] →
      answer.faults ≡ new.faults.items → answer.memory ≡ new.memory → BuildFaults m g requested options store a mid c answer
  refused_faulted back leaves answer ended e old new plain adds none said noted = λ tells sure below.
      let ran = has_refused back leaves answer ended tells in
      let entries = ran.runs.log.entries in
      let log = (m.around c).log in
      let o = begun_here tells below in
      let empty : entries ≡ [] = append_cancel_left log entries [] (sym ran.runs.log.grown ∙ sym (append-nil log)) in
      record {
        run = ran;
        faults =
            subst (λ (wanting : Bool). AreFaultsOf (IsFirstOf entries) (StandsBeside o entries) wanting entries answer.faults) (sym noted)
            (subst (λ (faults : List BuildFault). AreFaultsOf (IsFirstOf entries) (StandsBeside o entries) new.memory entries faults)
            (sym said) (refused_reported o entries empty e old new plain adds none));
        rings = λ paths h.
            absurd (refused_rings e old new plain adds none paths (subst (λ (faults : List BuildFault). Contains faults (fault.Cycle paths)) said h));
      }

  pub refused_untold : (after : Account) → is_faulted after ≡ true → (answer : BuildEnd) →
      (answer.faults ≡ [] → answer.memory ≡ false → is_faulted after ≡ false) → BuildSucceeds m w (map_of store) a c (map_of mid) answer
  refused_untold after faulted answer well = λ none memory. true_false (sym faulted ∙ well none memory)
