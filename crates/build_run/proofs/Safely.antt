-- Safe from call to call of a world.
use Rattle.std.proofs.Common.{◌≡◌, ◌⊎◌, true, inl, inr, ap, sym, subst}
use Rattle.sign_store.specs.Ends.{IsEither, image_in}
use Rattle.sign_store.specs.Stores.{IsKept, map_of}
use Rattle.sign_store.specs.Tables.{Map}
use Rattle.sign_store.specs.declared.store.Store.{Store}
use Rattle.world_api.specs.Around.{Around, Started, Finished}
use Rattle.world_api.specs.Banks.{Banks}
use Rattle.world_api.specs.Calls.{Asks, Ends, Grows, MakesDir, Removes}
use Rattle.world_api.specs.Laws.{EndsJob, StartsJob, HasOnlyNow}
use Rattle.world_api.specs.Looks.{IsSince, Looks}
use Rattle.world_api.specs.Meaning.{Meaning, IsImage, Told, BanksKept, Throughout, Meanwhile}
use Rattle.world_api.specs.declared.job.Ended.{Ended}
use Rattle.world_api.specs.declared.job.Job.{Job}
use Rattle.world_api.proofs.Moments.{begins, sure_chains, surely, weakens, world_call}
use Rattle.build_model.specs.Rules.{Path, Setting}
use Rattle.build_means.specs.Graphs.{act_by}
use Rattle.turn_means.specs.Recording.{HaveNone}
use Rattle.turn_means.specs.Safety.{IsSafe}
use Rattle.turn_means.proofs.Safety.{calls, stop}
use Rattle.build_run.specs.Safe.{GoesSafely, IsKeptMoment, IsOfLaw, IsSafeNow, IsSafeWorld, StaysSafe, TakesSafely}
use Rattle.build_run.specs.Unmade.{HasNoneUnmade, Since}
use Rattle.build_run.specs.Watches.{Watch, IsWatched}
use Rattle.build_run.proofs.Unmade.{none_ended, none_started, since_more, since_same}
use Rattle.build_run.proofs.Watching.{same_met, watched_by, watched_on}

-- what is safe is so wherever it is stopped
pub moment : (k : Watch) (around : Around) (banks : Banks) → (k.truth ≡ true → IsSafe k.setting around (image_in banks)) →
    IsWatched k around (image_in banks) → IsKeptMoment k around banks
moment k around banks safe watched = record {
  safe = λ truth left is_left. stop k.setting (image_in banks) around left (safe truth) is_left;
  watched = watched;
}

pub law_on : (s : Setting) (old new : Around) → new.law ≡ old.law → IsOfLaw s old → IsOfLaw s new
law_on s old new same of = record { acts = subst (λ l. s.act ≡ act_by l) (sym same) of.acts; digests = of.digests }

module _ {W : Type 0} (m : Meaning W) (k : Watch) where
  abbrev P : W → Around → Banks → Type 0
  P new around banks = m.sure new → IsKeptMoment k around banks

  -- what was watched at a moment that looks led to
  asked_moment : (world : W) → IsSafeWorld m k world → (a : Around) (banks : Banks) → Asks (m.around world) a → IsImage m world banks →
      IsKeptMoment k a banks
  asked_moment world safe a banks asks image =
      moment k a banks (λ truth. (calls k.setting (image_in banks)).looks (m.around world) a asks (safe.images truth banks image))
      (watched_on k (m.around world) a (same_met (m.around world) a asks.met) asks.log (image_in banks) (safe.watched banks image))

  here_moment : (world : W) → IsSafeWorld m k world → (banks : Banks) → IsImage m world banks → IsKeptMoment k (m.around world) banks
  here_moment world safe banks image = moment k (m.around world) banks (λ truth. safe.images truth banks image) (safe.watched banks image)

  -- no call was made
  pub safe_here : HasOnlyNow m → (w : W) → IsSafeNow m k w → StaysSafe m k w w
  safe_here only w safe = record {
    moments = surely m w w (IsKeptMoment k) (begins m w (P w) (only w)
        (λ tells banks image sure. here_moment w (safe tells sure) banks image));
    now = safe;
  }

  -- one run of calls after another
  pub safe_on : (old mid new : W) → Told m mid new → StaysSafe m k old mid → (IsSafeNow m k mid → StaysSafe m k mid new) → StaysSafe m k old new
  safe_on old mid new told first then =
      let second = then first.now in
      record { moments = sure_chains m old mid new (IsKeptMoment k) told first.moments second.moments; now = second.now }

  -- one call of a world: whatever running jobs write meanwhile
  pub safe_call : (old new : W) → Told m old new → Throughout m old new (Meanwhile m old new) → IsSafeNow m k old → IsSafeNow m k new →
      StaysSafe m k old new
  safe_call old new told time safe now = record {
    moments = surely m old new (IsKeptMoment k) (world_call m old new (P new) time
        (λ tells a banks asks image sure. asked_moment old (safe (told.told tells) (told.sure tells sure)) a banks asks image)
        (λ tells banks image sure. here_moment new (now tells sure) banks image));
    now = now;
  }

  -- what is so of the watched path while it is unmade
  abbrev HasNone : W → Banks → Type 0
  HasNone world banks = Since k.start (m.around world).log (HasNoneUnmade k.path (image_in banks k.path))

  none_same : (old new : W) → (m.tells new → (m.around new).log ≡ (m.around old).log) → m.tells new → (banks : Banks) → HasNone old banks → HasNone new banks
  none_same old new same t banks none =
      since_same k.start (m.around old).log (m.around new).log (HasNoneUnmade k.path (image_in banks k.path)) (same t) none

  -- what no call on the banks changes
  pub safe_by : (old new : W) → Told m old new → (m.tells new → BanksKept m old new) → (m.tells new → (m.around new).law ≡ (m.around old).law) →
      (m.tells new → Grows (m.around old).met (m.around new).met) →
      (m.tells new → m.sure new → (banks : Banks) → IsImage m old banks → IsSafe k.setting (m.around old) (image_in banks) →
      IsSafe k.setting (m.around new) (image_in banks)) →
      (m.tells new → (banks : Banks) → IsImage m old banks → HasNone old banks → HasNone new banks) →
      IsSafeNow m k old → IsSafeNow m k new
  safe_by old new told kept law grows by none safe tells sure = record {
    of = law_on k.setting (m.around old) (m.around new) (law tells) was.of;
    images = λ truth banks image. by tells sure banks (before banks image) (was.images truth banks (before banks image));
    watched = λ banks image.
        let watched = was.watched banks (before banks image) in
        watched_by k (m.around old) (m.around new) (grows tells) (image_in banks) (none tells banks (before banks image) watched.none) watched;
  }
    where
      was : IsSafeWorld m k old
      was = safe (told.told tells) (told.sure tells sure)

      before : (banks : Banks) → IsImage m new banks → IsImage m old banks
      before banks image bank = (kept tells bank).no_more (banks bank) (image bank)

  module _ (old new : W) (told : Told m old new) (kept : m.tells new → BanksKept m old new)
      (time : Throughout m old new (Meanwhile m old new)) (safe : IsSafeNow m k old) where
    pub safe_asked : (m.tells new → Asks (m.around old) (m.around new)) → StaysSafe m k old new
    safe_asked asks = safe_call old new told time safe (safe_by old new told kept (λ t. (asks t).law)
        (λ t. same_met (m.around old) (m.around new) (asks t).met)
        (λ t sure banks image was. (calls k.setting (image_in banks)).looks (m.around old) (m.around new) (asks t) was)
        (λ t banks image. none_same old new (λ s. (asks s).log) t banks) safe)

    pub safe_made : (dir : Path) → (m.tells new → MakesDir dir (m.around old) (m.around new)) → StaysSafe m k old new
    safe_made dir makes = safe_call old new told time safe (safe_by old new told kept (λ t. (makes t).law)
        (λ t. same_met (m.around old) (m.around new) (makes t).met)
        (λ t sure banks image was. (calls k.setting (image_in banks)).makes_dir dir (m.around old) (m.around new) (makes t) was)
        (λ t banks image. none_same old new (λ s. (makes s).log) t banks) safe)

    pub safe_removed : (path : Path) → (m.tells new → Removes path (m.around old) (m.around new)) → StaysSafe m k old new
    safe_removed path removes = safe_call old new told time safe (safe_by old new told kept (λ t. (removes t).law)
        (λ t. same_met (m.around old) (m.around new) (removes t).met)
        (λ t sure banks image was. (calls k.setting (image_in banks)).removes path (m.around old) (m.around new) (removes t) was)
        (λ t banks image. none_same old new (λ s. (removes s).log) t banks) safe)

    pub safe_started : (job : Job) → (m.tells new → StartsJob m job old new) →
        (m.tells new → (banks : Banks) → IsImage m old banks → HaveNone job.targets (image_in banks)) → StaysSafe m k old new
    safe_started job starts none = safe_call old new told time safe (safe_by old new told kept (λ t. (starts t).law)
        (λ t. same_met (m.around old) (m.around new) (starts t).met)
        (λ t sure banks image was.
        (calls k.setting (image_in banks)).starts job (m.counts old) (m.around old) (m.around new) (starts t) (none t banks image) was)
        (λ t banks image was. since_more k.start (m.around old).log (m.around new).log
        (HasNoneUnmade k.path (image_in banks k.path)) (HasNoneUnmade k.path (image_in banks k.path)) (Started job (m.counts old)) (starts t).log
        (λ entries h. none_started k.path entries job (m.counts old) (image_in banks k.path) (λ makes. none t banks image k.path makes) h) was) safe)

    pub safe_ended : (ended : Ended) → (m.tells new → EndsJob m ended old new) → StaysSafe m k old new
    safe_ended ended ends = safe_call old new told time safe (safe_by old new told kept (λ t. (ends t).law) (λ t. (ends t).met)
        (λ t sure banks image was. (calls k.setting (image_in banks)).ends ended (m.around old) (m.around new) (surely_ended t sure) was)
        (λ t banks image was. since_more k.start (m.around old).log (m.around new).log
        (HasNoneUnmade k.path (image_in banks k.path)) (HasNoneUnmade k.path (image_in banks k.path)) (Finished ended.id ended.outcome) (ends t).log
        (λ entries h. none_ended k.path entries ended.id ended.outcome (image_in banks k.path) h) was) safe)
      where
        surely_ended : m.tells new → m.sure new → Ends (Unit {0}) ended (m.around old) (m.around new)
        surely_ended t sure =
            let e = ends t in
            record {
              front = e.front;
              which = e.which;
              back = e.back;
              was = e.was;
              running = e.running;
              id = e.id;
              files = e.files;
              stamps = e.stamps;
              dirs = e.dirs;
              made = λ x. e.made sure;
              log = e.log;
              met = e.met;
              met_only = e.met_only;
              law = e.law;
              top = e.top;
            }

  -- looks, many or none
  pub safe_looked : HasOnlyNow m → (old new : W) → Looks m old new → IsSafeNow m k old → StaysSafe m k old new
  unfolding IsSince
  safe_looked only old new looks safe = record {
    moments = surely m old new (IsKeptMoment k) (record {
      told = looks.told.told;
      each = λ t a banks left sure. elim (looks.before t (m.clock old) a banks left) [
        | inl was ↦
            (let now = only old (looks.told.told t) a banks was in
            subst (λ (x : Around). IsKeptMoment k x banks) (sym now.0) (here_moment old (before t sure) banks now.1))
        | inr at ↦ asked_moment old (before t sure) a banks at.0 at.1
      ];
      before = λ t time a banks left. elim (looks.before t time a banks left) [
        | inl was ↦ inl was
        | inr at ↦ inr (λ sure. asked_moment old (before t sure) a banks at.0 at.1)
      ];
      now = λ t banks image sure. here_moment new (after t sure) banks image;
    });
    now = after;
  }
    where
      before : m.tells new → m.sure new → IsSafeWorld m k old
      before t sure = safe (looks.told.told t) (looks.told.sure t sure)

      after : IsSafeNow m k new
      after = safe_by old new looks.told looks.banks (λ t. (looks.around t).law)
          (λ t. same_met (m.around old) (m.around new) (looks.around t).met)
          (λ t sure banks image was. (calls k.setting (image_in banks)).looks (m.around old) (m.around new) (looks.around t) was)
          (λ t banks image. none_same old new (λ s. (looks.around s).log) t banks) safe

  -- calls on the store: the banks stand for its map or for another one that is safe as well, and has of the watched path what it may
  pub safe_stored : HasOnlyNow m → ((w : W) → m.tells w → IsImage m w (m.seen w)) → (old new : W) (store : Store) (after : Map) → Told m old new →
      (m.tells new → m.around new ≡ m.around old) → IsKept m old store → Throughout m old new (IsEither (m.around old) (map_of store) after) →
      (m.tells old → m.sure old → IsSafe k.setting (m.around old) (map_of store) → IsSafe k.setting (m.around old) after) →
      (m.tells old → m.sure old → IsWatched k (m.around old) (map_of store) → IsWatched k (m.around old) after) →
      IsSafeNow m k old → StaysSafe m k old new
  safe_stored only reads old new store after told same kept time so still safe = record {
    moments = surely m old new (IsKeptMoment k) (weakens m old new (IsEither (m.around old) (map_of store) after) (P new) time
        (λ t a banks at sure. subst (λ (x : Around). IsKeptMoment k x banks) (sym at.same)
        (moment k (m.around old) banks (λ truth. either t sure truth banks at.map) (seen t sure banks at.map))));
    now = λ t sure. record {
      of = law_on k.setting (m.around old) (m.around new) (ap (λ (a : Around). a.law) (same t)) (safe (told.told t) (told.sure t sure)).of;
      images = λ truth banks image.
          subst (λ (x : Around). IsSafe k.setting x (image_in banks)) (sym (same t)) (either t sure truth banks (time.now t banks image).map);
      watched = λ banks image.
          subst (λ (x : Around). IsWatched k x (image_in banks)) (sym (same t)) (seen t sure banks (time.now t banks image).map);
    };
  }
    where
      stands : m.tells old → image_in (m.seen old) ≡ map_of store
      stands t = (kept.each t (m.seen old) (reads old t)).image

      by_map : m.tells old → m.sure old → k.truth ≡ true → IsSafe k.setting (m.around old) (map_of store)
      by_map t sure truth = subst (λ (map : Map). IsSafe k.setting (m.around old) map) (stands t)
          ((safe t sure).images truth (m.seen old) (reads old t))

      seen_map : m.tells old → m.sure old → IsWatched k (m.around old) (map_of store)
      seen_map t sure = subst (λ (map : Map). IsWatched k (m.around old) map) (stands t) ((safe t sure).watched (m.seen old) (reads old t))

      either : m.tells new → m.sure new → k.truth ≡ true → (banks : Banks) → (image_in banks ≡ map_of store) ⊎ (image_in banks ≡ after) →
          IsSafe k.setting (m.around old) (image_in banks)
      either t sure truth banks is = elim is [
        | inl was ↦ subst (λ (map : Map). IsSafe k.setting (m.around old) map) (sym was) (by_map (told.told t) (told.sure t sure) truth)
        | inr now ↦ subst (λ (map : Map). IsSafe k.setting (m.around old) map) (sym now)
            (so (told.told t) (told.sure t sure) (by_map (told.told t) (told.sure t sure) truth))
      ]

      seen : m.tells new → m.sure new → (banks : Banks) → (image_in banks ≡ map_of store) ⊎ (image_in banks ≡ after) →
          IsWatched k (m.around old) (image_in banks)
      seen t sure banks is = elim is [
        | inl was ↦ subst (λ (map : Map). IsWatched k (m.around old) map) (sym was) (seen_map (told.told t) (told.sure t sure))
        | inr now ↦ subst (λ (map : Map). IsWatched k (m.around old) map) (sym now)
            (still (told.told t) (told.sure t sure) (seen_map (told.told t) (told.sure t sure)))
      ]

pub safely_here : {W : Type 0} (m : Meaning W) → HasOnlyNow m → (w : W) → GoesSafely m w w
safely_here m only w k safe = safe_here m k only w safe

pub safely_on : {W : Type 0} (m : Meaning W) (old mid new : W) → Told m mid new → GoesSafely m old mid → GoesSafely m mid new → GoesSafely m old new
safely_on m old mid new told first then k safe = safe_on m k old mid new told (first k safe) (then k)

-- calls that may withdraw records, behind others and before others
module _ {W : Type 0} (m : Meaning W) (may : Path → Type 0) where
  pub takes_here : HasOnlyNow m → (w : W) → TakesSafely m may w w
  takes_here only w k goes safe = safe_here m k only w safe

  pub takes_behind : (old mid new : W) → Told m mid new → TakesSafely m may old mid → GoesSafely m mid new → TakesSafely m may old new
  takes_behind old mid new told first then k goes safe = safe_on m k old mid new told (first k goes safe) (then k)

  pub takes_joined : (old mid new : W) (more : Path → Type 0) → Told m old mid → Told m mid new → (m.tells mid → (path : Path) → more path → may path) →
      TakesSafely m may old mid → TakesSafely m more mid new → TakesSafely m may old new
  takes_joined old mid new more before told within first then k goes safe =
      safe_on m k old mid new told (first k goes safe) (then k (λ t among. goes (before.told t) (within t k.path among)))
