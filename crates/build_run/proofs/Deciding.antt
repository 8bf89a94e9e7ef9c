-- The record of a rule that is decided is that of what its dependencies hold: so the rule starts safely.
use Rattle.std.proofs.Common.{◌≡◌, ◌∙◌, ◌++◌, ◌<◌, ℕ, true, List, Contains, Some, None, map, map-id, inl, length, ap, refl, sym, subst}
use Rattle.std.proofs.lemmas.Simd.{map-map}
use Rattle.scons_base.specs.declared.ids.RuleId.{RuleId}
use Rattle.deciders.specs.Records as kept
use Rattle.deciders.specs.declared.recorded.Rec.{Rec}
use Rattle.world_api.specs.Around.{Entry, IsRunningTarget, Started, given_of}
use Rattle.world_api.specs.Counts.{Counts}
use Rattle.world_api.specs.Looks.{Looks}
use Rattle.world_api.specs.Meaning.{Meaning, Told}
use Rattle.world_api.specs.Reads.{stamp_of}
use Rattle.world_api.specs.declared.job.Job.{Job}
use Rattle.task_plan.specs.declared.want.Want.TheVariants as want
use Rattle.build_model.specs.Rules.{Path, Bytes, Content, Digest, Rule, Record, Dependency, Setting, Among}
use Rattle.build_model.specs.Contents.{in_tree}
use Rattle.build_model.specs.Moments.{Job as Given}
use Rattle.build_model.specs.Records.{dependency_of, digest_by, digested, named_digest}
use Rattle.build_model.specs.Stale.{name_of}
use Rattle.build_model.specs.Steps.{Step, IsReady, began, present_dependencies, present_record, settled}
use Rattle.build_model.proofs.Lists.{same_map}
use Rattle.build_model.proofs.Runs.{settled_done}
use Rattle.build_means.specs.Builds.{IsJobIn, jobs_at_once}
use Rattle.build_means.specs.Logs.{AreUnrisen, IsLogged}
use Rattle.build_means.proofs.Logging.{each_start}
use Rattle.build_means.specs.Records.{dependency_in, record_in}
use Rattle.run_means.specs.Ways.{IsWay}
use Rattle.run_means.proofs.Lists.{contains_among}
use Rattle.turn_means.specs.Laws.{IsChosen, IsWeighed, is_due_now}
use Rattle.turn_means.specs.Recording.{build_at}
use Rattle.turn_means.specs.Standing.{Outset, IsOutset, setting_at, Standing, Knows}
use Rattle.turn_means.proofs.Deciding.{decided, makes, may_begin, record_is}
use Rattle.turn_means.proofs.Running.{begun_place, makes_each, one_rule, ready_still}
use Rattle.build_run.specs.Along.{IsAlong, IsDue, standing_of}
use Rattle.build_run.specs.Outs.{ShareNone}
use Rattle.build_run.specs.Safe.{DecidesSafely, IsOfLaw, IsOverFiles, SiteGoesSafely, TurnsSafelyAs}
use Rattle.build_run.specs.Watches.{Watch, Allows, Covers, MayStart}
use Rattle.build_run.specs.Sites.{most_jobs}
use Rattle.build_run.specs.declared.site.Site.{Site}
use Rattle.build_run.proofs.Alongs.{is_reliable}
use Rattle.build_run.proofs.Settling.{readable_settled}
use Rattle.build_run.proofs.Stopping.{site_then}

-- where digests are made by the same functions a content has one digest
same_digest : (s t : Setting) (hash : ℕ) (c : Content) → s.digest ≡ t.digest → hash ≡ t.hash →
    digest_by s hash c ≡ digest_by t t.hash c
same_digest s t hash None same by = refl
same_digest s t hash (Some bytes) same by =
    ap (λ (f : ℕ → Bytes → Digest). Some (f hash bytes)) same ∙ ap (λ (n : ℕ). Some (t.digest n bytes)) by

module _ (o : Outset) (outset : IsOutset o) (jobs : List Given) (s : Standing) (past : List Step)
    (way : IsWay o.wanted o.kept o.counts o.before jobs s.around past) (known : Knows o s past)
    (rule : RuleId) (r : Rule) (rec : Rec) (weighed : IsWeighed o s rule r rec) where
  abbrev Paths : List Path
  Paths = present_dependencies (setting_at o) (build_at o s.around) r

  abbrev dependency : Path → Dependency
  dependency path = dependency_of (setting_at o) r (in_tree s.around.tree) (stamp_of s.around) path

  is_present : record_in rec ≡ present_record (setting_at o) (build_at o s.around) r
  is_present = record_is o outset jobs s past way known rule r rec weighed

  -- its dependencies are those of its rule
  names : map kept.name_of rec.deps ≡ Paths
  names =
      sym (map-map name_of dependency_in rec.deps)
      ∙ ap (λ (x : Record). map name_of x.dependencies) is_present
      ∙ map-map name_of dependency Paths
      ∙ map-id Paths

  digests_are : (t : Setting) → t.digest ≡ (setting_at o).digest →
      map (digested t (record_in rec).hash) (given_of s.around.tree (map kept.name_of rec.deps))
      ≡ map named_digest (record_in rec).dependencies
  digests_are t same =
      ap (λ (paths : List Path). map (digested t (record_in rec).hash) (given_of s.around.tree paths)) names
      ∙ map-map (digested t (record_in rec).hash) (λ (path : Path). (path, s.around.tree path)) Paths
      ∙ same_map (λ path. digested t (record_in rec).hash (path, s.around.tree path)) (λ path. named_digest (dependency path)) Paths
      (λ path m. ap (λ d. (path, d))
      (same_digest t (setting_at o) (record_in rec).hash (s.around.tree path) same (ap (λ (x : Record). x.hash) is_present)))
      ∙ sym (map-map named_digest dependency Paths)
      ∙ ap (λ (x : Record). map named_digest x.dependencies) (sym is_present)

  -- each waits for nothing
  ready : (path : Path) → Contains (map kept.name_of rec.deps) path → IsReady (setting_at o) s.around.tree (settled past) path
  ready path h =
      (decided o outset jobs s past way known rule r rec weighed).prepared.dependencies path
      (contains_among Paths (subst (λ (paths : List Path). Contains paths path) names h))

  still : (path : Path) → Contains (map kept.name_of rec.deps) path → IsRunningTarget s.around.running path → ⊥
  still path h target = ready_still o outset jobs s.around past way (ready path h) target

  -- what the rule itself makes isn't settled
  apart : ShareNone rec.targets (map kept.name_of rec.deps)
  apart path made read =
      let own = contains_among r.targets
      (subst (λ (paths : List Path). Contains paths path) (ap (λ (x : Record). x.targets) is_present) made) in
      (decided o outset jobs s past way known rule r rec weighed).not_done
      (settled_done past
      (readable_settled o outset jobs s.around past way path r (inl (ready path read))
      (makes o outset jobs s past way known rule r rec weighed path own)))

  over_weighed : (t : Setting) → IsOfLaw t s.around → IsOverFiles t s.around rec
  over_weighed t of = record { digests = digests_are t of.digests; met = weighed.met; still = still; apart = apart }

module _ {W O E : Type 0} (m : Meaning W) where
  -- so it is with a rule that may start
  over_due : (o : Outset) → IsOutset o → (site : Site W O E) → IsAlong m o site → (rule : RuleId) (rec : Rec) → IsDue m o site rule rec →
      (t : Setting) → IsOfLaw t (m.around site.world.now) → IsOverFiles t (m.around site.world.now) rec
  over_due o outset site along rule rec due t of =
      over_weighed o outset along.on.jobs (standing_of m site) along.on.past along.on.at.way
      (along.on.at.knows due.weighed.goes_on) rule due.model rec due.weighed t of

  -- and where it is due it may be started with it
  pub due_allows : (o : Outset) → IsOutset o → (site : Site W O E) → IsAlong m o site → (rule : RuleId) (rec : Rec) (due : IsDue m o site rule rec) →
      is_due_now (standing_of m site) due.model rec ≡ true → length (m.around site.world.now).running < jobs_at_once o.wanted.jobs →
      (k : Watch) → Covers k o → Allows k (m.around site.world.now) rec
  due_allows o outset site along rule rec due is_due room k covers = record {
    goes = λ minds made. (covers.each due.model starts minds (among made)).0;
    puts = λ minds made. (covers.each due.model starts minds (among made)).1 ∙ ap Some (sym is);
    first = λ made. record {
      entries = log.entries;
      grown = log.grown ∙ ap (λ (l : List Entry). l ++ log.entries) covers.start;
      so = λ job counts started target. not_started job counts started (among made) target;
    };
  }
    where
      s : Standing
      s = standing_of m site

      known : Knows o s along.on.past
      known = along.on.at.knows due.weighed.goes_on

      is : record_in rec ≡ present_record (setting_at o) (build_at o s.around) due.model
      is = record_is o outset along.on.jobs s along.on.past along.on.at.way known rule due.model rec due.weighed

      starts : MayStart o due.model
      starts = record {
        jobs = along.on.jobs;
        around = s.around;
        past = along.on.past;
        way = along.on.at.way;
        may = may_begin o outset along.on.jobs s along.on.past along.on.at.way known rule due.model rec due.weighed is_due room;
      }

      log : IsLogged (IsJobIn o.wanted o.kept o.before s.around) (AreUnrisen o.wanted.keep o.counts) along.on.past o.before.log s.around.log
      log = along.on.at.way.log

      -- a rule that may start didn't begin before
      not_started : (job : Job) (counts : Counts) → Among (Started job counts) log.entries → Among k.path due.model.targets → Contains job.targets k.path → ⊥
      not_started job counts started own target =
          let begun = each_start (IsJobIn o.wanted o.kept o.before s.around) (AreUnrisen o.wanted.keep o.counts) log.are started in
          let place = begun_place o outset along.on.jobs s.around along.on.past along.on.at.way begun.stands in
          let other = makes_each o outset place.0 place.1 k.path
          (contains_among begun.rule.targets (subst (λ (paths : List Path). Contains paths k.path) begun.of_rule.targets target)) in
          let same = one_rule o outset k.path other
          (makes o outset along.on.jobs s along.on.past along.on.at.way known rule due.model rec due.weighed k.path own) in
          (decided o outset along.on.jobs s along.on.past along.on.at.way known rule due.model rec due.weighed).not_began
          (subst (λ (r : Rule). Among r (began along.on.past)) same begun.stands)

      among : Contains rec.targets k.path → Among k.path due.model.targets
      among made = contains_among due.model.targets
          (subst (λ (paths : List Path). Contains paths k.path) (ap (λ (x : Record). x.targets) is) made)

  -- The record of a rule was found by looks.
  pub found_behind : (old mid new : Site W O E) (rule : RuleId) (rec : Rec) → Looks m old.world.now mid.world.now →
      Told m mid.world.now new.world.now → SiteGoesSafely m old mid → DecidesSafely m mid new rule rec →
      (m.tells mid.world.now → (o : Outset) → IsOutset o → IsAlong m o old → IsChosen old.run.now.plan rule →
      length old.run.now.tickets < most_jobs old.options → IsAlong m o mid × IsDue m o mid rule rec) →
      TurnsSafelyAs m old new (want.Decide rule)
  found_behind old mid new rule rec looks told first then found may k along safe =
      site_then m k old mid new told (first k safe) (λ now. then k now (λ tells sure.
      let some = along (looks.told.told tells) (looks.told.sure tells sure) in
      let wanted = may (is_reliable m some.o old some.along) in
      let due = found tells some.o some.outset some.along wanted.0 wanted.1 in
      record {
        over = over_due some.o some.outset mid due.0 rule rec due.1 k.setting (now.world tells sure).of;
        o = some.o;
        outset = some.outset;
        covers = some.covers;
        along = due.0;
        due = due.1;
      }))
