-- What is kept in the banks and what tickets are for, from call to call, wherever a build is stopped.
use Rattle.std.proofs.Common.{◌≡◌, ◌≢◌, ◌⊎◌, ◌∙◌, ◌||◌, ℕ, List, [], ◌∷◌, Bool, true, false, cond, None, Contains, inl, inr, ap, arith, refl, sym, subst}
use Rattle.std.specs.Prelude.{Result, Ok, Err, OnOk, OnErr}
use Rattle.std.specs.Str.{bytes_eq}
use Rattle.std.proofs.lemmas.Slice.Eq.{bytes_eq-Decides}
use Rattle.sign_store.specs.Putting.{put_over, with_put}
use Rattle.sign_store.specs.Ends.{IsEither}
use Rattle.sign_store.specs.Stores.{IsKept, KeepsTickets, map_of}
use Rattle.sign_store.specs.Tables.{Map, is_among, with_each}
use Rattle.sign_store.specs.declared.store.Store.{Store}
use Rattle.world_api.specs.Around.{Around, Running, Started, IsRunningTarget, given_of}
use Rattle.world_api.specs.Calls.{Starts}
use Rattle.world_api.specs.Counts.{Counts}
use Rattle.world_api.specs.Laws.{HasOnlyNow, StartsJob}
use Rattle.world_api.specs.Meaning.{Meaning, IsImage, Told, Throughout}
use Rattle.world_api.specs.declared.job.Job.{Job}
use Rattle.build_files.specs.declared.end.ListEnd.{ListEnd}
use Rattle.build_model.specs.Rules.{Path, Setting}
use Rattle.run_means.specs.Clears.{Clears}
use Rattle.turn_means.specs.Recording.{HaveNone}
use Rattle.turn_means.specs.Safety.{IsSafe, IsTicketOf}
use Rattle.turn_means.proofs.Jobs.{run_either}
use Rattle.turn_means.proofs.Safety.{calls, true_stays}
use Rattle.build_run.specs.Along.{HoldsFewer}
use Rattle.build_run.specs.Goings.{ClearsAt}
use Rattle.build_run.specs.Holds.{Busy, KeepsApart, holds_in}
use Rattle.build_run.specs.Outs.{ShareNone}
use Rattle.build_run.specs.Safe.{AreSafe, AreSafeIn, GoesSafely, HasOwnRecord, HasTrueRecord, IsSafeSite, SiteGoesSafely, SiteStaysSafe, SiteTakesSafely}
use Rattle.build_run.specs.Unmade.{HasOneMaker, IsNotUnmade}
use Rattle.build_run.specs.Watches.{Watch, IsWatched, MayGo}
use Rattle.build_run.specs.Withdrawals.{HasNone}
use Rattle.build_run.specs.declared.account.Account.{Account}
use Rattle.build_run.specs.declared.site.Run.{Run}
use Rattle.build_run.specs.declared.site.Site.{Site}
use Rattle.build_run.specs.declared.tickets.Hold.{Hold}
use Rattle.build_run.proofs.Clearing.{clears_around}
use Rattle.build_run.proofs.Goings.{told_here}
use Rattle.build_run.proofs.Holding.{at_front, further, in_front, in_pushed}
use Rattle.build_run.proofs.Outs.{held_in}
use Rattle.build_run.proofs.Safely.{safe_on, safe_stored, safely_here}
use Rattle.build_run.proofs.Unmade.{alone_started, made_started, since_more, since_same}
use Rattle.build_run.proofs.Watching.{may_go, may_put, same_met, watched_put}

-- ---- paths among others

or_more : (b c : Bool) → c ≡ true → (b || c) ≡ true
or_more true c e = refl
or_more false c e = e

among_of : (paths : List (List ℕ)) (path : List ℕ) → Contains paths path → is_among paths path ≡ true
among_of [] path h = absurd (omega (arith, h.1))
among_of (first ∷ paths) path h = elim (in_front paths first path h) [
  | inl same ↦ ap (λ b. b || is_among paths path) ((bytes_eq-Decides first path).1 same)
  | inr more ↦ or_more (bytes_eq first path) (is_among paths path) (among_of paths path more)
]

pub none_kept : (paths : List (List ℕ)) (map : Map) → HasNone map paths → HaveNone paths map
none_kept paths map none path h = none path (among_of paths path h)

-- ---- records are put and withdrawn

pub put_safe : (k : Watch) (around : Around) (store : Store) (held : List Busy) (map : Map) →
    ((busy : Busy) → Contains held busy → HasTrueRecord k store around busy) → IsSafe k.setting around map →
    IsSafe k.setting around (put_over store.map.records.items held map)
put_safe k around store [] map each safe = safe
put_safe k around store (one ∷ more) map each safe =
    let t = each one (at_front more one) in
    put_safe k around store more _ (λ busy h. each busy (further more one busy h))
    (subst (λ o. IsSafe k.setting around (with_put o map)) (sym t.is.held.record_at) ((calls k.setting map).puts around t.rec t.true_now safe))

pub put_watched : (k : Watch) (around : Around) (store : Store) (held : List Busy) (map : Map) →
    ((busy : Busy) → Contains held busy → HasTrueRecord k store around busy) → IsWatched k around map →
    IsWatched k around (put_over store.map.records.items held map)
put_watched k around store [] map each watched = watched
put_watched k around store (one ∷ more) map each watched =
    let t = each one (at_front more one) in
    put_watched k around store more _ (λ busy h. each busy (further more one busy h))
    (subst (λ o. IsWatched k around (with_put o map)) (sym t.is.held.record_at) (watched_put k around t.rec map t.puts t.made watched))

pub unset_safe : (s : Setting) (around : Around) (targets : List Path) (map : Map) → IsSafe s around map → IsSafe s around (with_each targets None map)
unset_safe s around targets map safe = (calls s map).fewer around (with_each targets None map) (λ path. by path (is_among targets path)) safe
  where
    by : (path : Path) (b : Bool) → (cond b None (map path) ≡ map path) ⊎ (cond b None (map path) ≡ None)
    by path true = inr refl
    by path false = inl refl

-- ---- tickets over calls that change none of their files

module _ (k : Watch) (paths : List Path) (old new : Around) (store after : Store) (keeps : KeepsTickets store after)
    (clears : Clears paths old new) (busy : Busy) where
  met_on : (bytes : List ℕ) → Contains old.met bytes → Contains new.met bytes
  met_on bytes h = subst (λ (all : List (List ℕ)). Contains all bytes) (sym clears.met) h

  true_cleared : ShareNone paths busy.hold.targets → HasTrueRecord k store old busy → HasTrueRecord k after new busy
  true_cleared apart t = record {
    rec = t.rec;
    is = keeps.each t.rec busy.ticket t.is;
    targets = t.targets;
    true_now = true_stays k.setting old new t.rec t.true_now met_on
        (λ path h. clears.files path (t.true_now.still path h) (λ among. apart path among (subst (λ (all : List Path). Contains all path) t.targets h)))
        (λ path h target. t.true_now.still path h (subst (λ (runs : List Running). IsRunningTarget runs path) clears.running target));
    puts = may_put k old new met_on t.rec t.puts;
    made = λ h. since_same k.start old.log new.log (IsNotUnmade k.path) clears.log (t.made h);
  }

  own_cleared : HasOwnRecord k store old busy → HasOwnRecord k after new busy
  own_cleared t = record {
    rec = t.rec;
    is = keeps.each t.rec busy.ticket t.is;
    targets = t.targets;
    each = λ run h id. subst (λ (met : List (List ℕ)). IsTicketOf k.setting met run t.rec) (sym clears.met)
        (t.each run (subst (λ (runs : List Running). Contains runs run) clears.running h) id);
    puts = may_put k old new met_on t.rec t.puts;
    alone = λ h. since_same k.start old.log new.log (HasOneMaker k.path busy.hold.rule.0) clears.log (t.alone h);
  }

-- where files of these paths alone change, and none that is held is made there
pub are_cleared : {W : Type 0} (m : Meaning W) (k : Watch) (paths : List Path) (old new : W) (store after : Store) (rest fewer busies : List Busy)
    (account was : Account) → Told m old new → ClearsAt m paths old new → KeepsTickets store after → HoldsFewer rest fewer →
    (account.is_store_shut ≡ false → was.is_store_shut ≡ false) → ((busy : Busy) → Contains fewer busy → ShareNone paths busy.hold.targets) →
    (m.tells old → m.sure old → AreSafeIn m k old store rest busies was) → m.tells new → m.sure new → AreSafeIn m k new after fewer busies account
are_cleared m k paths old new store after rest fewer busies account was told clears keeps within unshut apart safe tells sure =
    let before = safe (told.told tells) (told.sure tells sure) in
    record {
      held = λ opened busy h. true_cleared k paths (m.around old) (m.around new) store after keeps (clears tells) busy (apart busy h)
          (before.held (unshut opened) busy (within busy h));
      tickets = λ busy h. own_cleared k paths (m.around old) (m.around new) store after keeps (clears tells) busy (before.tickets busy h);
    }

pub same_tickets : (store : Store) → KeepsTickets store store
same_tickets store = record { each = λ rec ticket is. is }

none_shared : (busy : Busy) → ShareNone [] busy.hold.targets
none_shared busy path among = absurd (omega (arith, among.1))

-- a site over calls on its world
module _ {W O E : Type 0} (m : Meaning W) where
  -- one run of calls after another
  pub site_then : (k : Watch) (a b c : Site W O E) → Told m b.world.now c.world.now → SiteStaysSafe m k a b →
      (IsSafeSite m k b → SiteStaysSafe m k b c) → SiteStaysSafe m k a c
  site_then k a b c told one then =
      let two = then one.now in
      record {
        moments = (safe_on m k a.world.now b.world.now c.world.now told (record { moments = one.moments; now = one.now.world })
            (λ now. record { moments = two.moments; now = two.now.world })).moments;
        now = two.now;
      }

  pub site_safely_on : (a b c : Site W O E) → Told m b.world.now c.world.now → SiteGoesSafely m a b → SiteGoesSafely m b c → SiteGoesSafely m a c
  site_safely_on a b c told first then k safe = site_then k a b c told (first k safe) (then k)

  pub site_called : (paths : List Path) (a b : Site W O E) → Told m a.world.now b.world.now → GoesSafely m a.world.now b.world.now →
      ClearsAt m paths a.world.now b.world.now → KeepsTickets a.store.now b.store.now → HoldsFewer a.run.now.held b.run.now.held →
      b.run.now.tickets ≡ a.run.now.tickets → (b.account.now.is_store_shut ≡ false → a.account.now.is_store_shut ≡ false) →
      ((busy : Busy) → Contains b.run.now.held busy → ShareNone paths busy.hold.targets) → SiteGoesSafely m a b
  site_called paths a b told goes clears keeps within same unshut apart k safe =
      let one = goes k safe.world in
      record {
        moments = one.moments;
        now = record {
          world = one.now;
          tickets = λ tells sure. subst (λ (all : List Busy). AreSafeIn m k b.world.now b.store.now b.run.now.held all b.account.now) (sym same)
              (are_cleared m k paths a.world.now b.world.now a.store.now b.store.now a.run.now.held b.run.now.held a.run.now.tickets b.account.now a.account.now
              told clears keeps within unshut apart safe.tickets tells sure);
        };
      }

  -- calls that may withdraw records, behind others and before others
  pub site_takes : (paths : List Path) (a b : Site W O E) → SiteGoesSafely m a b → SiteTakesSafely m paths a b
  site_takes paths a b goes k may safe = goes k safe

  pub takes_then : (paths : List Path) (a b c : Site W O E) → Told m b.world.now c.world.now → SiteTakesSafely m paths a b → SiteGoesSafely m b c →
      SiteTakesSafely m paths a c
  takes_then paths a b c told first then k may safe = site_then k a b c told (first k may safe) (then k)

  pub then_takes : (paths cleared : List Path) (a b c : Site W O E) → Told m a.world.now b.world.now → Told m b.world.now c.world.now →
      ClearsAt m cleared a.world.now b.world.now → SiteGoesSafely m a b → SiteTakesSafely m paths b c → SiteTakesSafely m paths a c
  then_takes paths cleared a b c before told clears first then k may safe =
      site_then k a b c told (first k safe)
      (then k (λ tells sure. may_go k (m.around a.world.now) (m.around b.world.now)
      (same_met (m.around a.world.now) (m.around b.world.now) (clears tells).met) paths (may (before.told tells) (before.sure tells sure))))

  pub none_taken : (a b : Site W O E) → SiteTakesSafely m [] a b → SiteGoesSafely m a b
  none_taken a b goes k safe = goes k (λ tells sure minds among. absurd (omega (arith, among.1))) safe

  -- no call was made
  pub site_rests : HasOnlyNow m → (a b : Site W O E) → b.world.now ≡ a.world.now → b.store.now ≡ a.store.now → b.run.now.held ≡ a.run.now.held →
      b.run.now.tickets ≡ a.run.now.tickets → (b.account.now.is_store_shut ≡ false → a.account.now.is_store_shut ≡ false) → SiteGoesSafely m a b
  site_rests only a b world store held same unshut =
      site_called [] a b (subst (λ (w : W). Told m a.world.now w) (sym world) (told_here m a.world.now))
      (subst (λ (w : W). GoesSafely m a.world.now w) (sym world) (safely_here m only a.world.now))
      (clears_around m [] a.world.now b.world.now (λ t. ap (λ (w : W). m.around w) world))
      (subst (λ (st : Store). KeepsTickets a.store.now st) (sym store) (same_tickets a.store.now))
      (λ busy h. subst (λ (all : List Busy). Contains all busy) held h) same unshut (λ busy h. none_shared busy)

  -- looks, and other calls that change none of their files
  pub site_looked : (a b : Site W O E) → Told m a.world.now b.world.now → GoesSafely m a.world.now b.world.now →
      ClearsAt m [] a.world.now b.world.now → KeepsTickets a.store.now b.store.now → HoldsFewer a.run.now.held b.run.now.held →
      b.run.now.tickets ≡ a.run.now.tickets → (b.account.now.is_store_shut ≡ false → a.account.now.is_store_shut ≡ false) → SiteGoesSafely m a b
  site_looked a b told goes clears keeps within same unshut =
      site_called [] a b told goes clears keeps within same unshut (λ busy h. none_shared busy)

  -- calls on the store, which may withdraw the records of these paths
  pub site_stored : HasOnlyNow m → ((w : W) → m.tells w → IsImage m w (m.seen w)) → (paths : List Path) (a b : Site W O E) (map : Map) →
      Told m a.world.now b.world.now → (m.tells b.world.now → m.around b.world.now ≡ m.around a.world.now) → IsKept m a.world.now a.store.now →
      Throughout m a.world.now b.world.now (IsEither (m.around a.world.now) (map_of a.store.now) map) →
      ((k : Watch) → AreSafeIn m k a.world.now a.store.now a.run.now.held a.run.now.tickets a.account.now →
      IsSafe k.setting (m.around a.world.now) (map_of a.store.now) → IsSafe k.setting (m.around a.world.now) map) →
      ((k : Watch) → (m.tells a.world.now → m.sure a.world.now → MayGo k (m.around a.world.now) paths) → m.tells a.world.now → m.sure a.world.now →
      AreSafeIn m k a.world.now a.store.now a.run.now.held a.run.now.tickets a.account.now →
      IsWatched k (m.around a.world.now) (map_of a.store.now) → IsWatched k (m.around a.world.now) map) →
      KeepsTickets a.store.now b.store.now → HoldsFewer a.run.now.held b.run.now.held →
      b.run.now.tickets ≡ a.run.now.tickets → (b.account.now.is_store_shut ≡ false → a.account.now.is_store_shut ≡ false) → SiteTakesSafely m paths a b
  site_stored only reads paths a b map told around kept time so still keeps within same unshut k goes safe =
      let one = safe_stored m k only reads a.world.now b.world.now a.store.now map told around kept time
      (λ tells sure was. so k (safe.tickets tells sure) was) (λ tells sure was. still k goes tells sure (safe.tickets tells sure) was) safe.world in
      record {
        moments = one.moments;
        now = record {
          world = one.now;
          tickets = λ tells sure. subst (λ (all : List Busy). AreSafeIn m k b.world.now b.store.now b.run.now.held all b.account.now) (sym same)
              (are_cleared m k [] a.world.now b.world.now a.store.now b.store.now a.run.now.held b.run.now.held a.run.now.tickets b.account.now a.account.now
              told (clears_around m [] a.world.now b.world.now around) keeps within unshut (λ busy h. none_shared busy) safe.tickets tells sure);
        };
      }

pub none_fewer : (rest fewer : List Busy) → fewer ≡ [] → HoldsFewer rest fewer
none_fewer rest fewer none busy h = absurd (omega (arith, (subst (λ (all : List Busy). Contains all busy) none h).1))

-- ---- a job starts

module _ (k : Watch) (job : Job) (counts : Counts) (old new : Around) (store : Store) (starts : Starts job counts old new) (busy : Busy) where
  met_still : (bytes : List ℕ) → Contains old.met bytes → Contains new.met bytes
  met_still bytes h = subst (λ (all : List (List ℕ)). Contains all bytes) (sym starts.met) h

  pub true_started : ShareNone job.targets busy.hold.targets → HasTrueRecord k store old busy → HasTrueRecord k store new busy
  true_started apart t = record {
    rec = t.rec;
    is = t.is;
    targets = t.targets;
    true_now = true_stays k.setting old new t.rec t.true_now met_still
        (λ path h. starts.files path (t.true_now.still path h) (λ among. apart path among (subst (λ (all : List Path). Contains all path) t.targets h)))
        (λ path h target.
        elim (run_either old.running (record { job = job; given = given_of old.tree job.deps }) path
        (subst (λ (runs : List Running). IsRunningTarget runs path) starts.running target)) [
          | inl before ↦ t.true_now.still path h before
          | inr among ↦ apart path among (subst (λ (all : List Path). Contains all path) t.targets h)
        ]);
    puts = may_put k old new met_still t.rec t.puts;
    made = λ h. since_more k.start old.log new.log (IsNotUnmade k.path) (IsNotUnmade k.path) (Started job counts) starts.log
        (λ entries. made_started k.path entries job counts (λ among. apart k.path among (subst (λ (all : List Path). Contains all k.path) t.targets h))) (t.made h);
  }

  pub own_started : KeepsApart job busy.hold → HasOwnRecord k store old busy → HasOwnRecord k store new busy
  own_started apart t = record {
    rec = t.rec;
    is = t.is;
    targets = t.targets;
    each = λ run h id. elim (in_pushed old.running (record { job = job; given = given_of old.tree job.deps }) run
        (subst (λ (runs : List Running). Contains runs run) starts.running h)) [
          | inl before ↦ subst (λ (met : List (List ℕ)). IsTicketOf k.setting met run t.rec) (sym starts.met) (t.each run before id)
          | inr same ↦ absurd (apart.new_id (sym id ∙ ap (λ (r : Running). r.job.id) (sym same)))
        ];
    puts = may_put k old new met_still t.rec t.puts;
    alone = λ h. since_more k.start old.log new.log (HasOneMaker k.path busy.hold.rule.0) (HasOneMaker k.path busy.hold.rule.0) (Started job counts) starts.log
        (λ entries. alone_started k.path entries job counts busy.hold.rule.0
        (λ among. apart.made k.path among (subst (λ (all : List Path). Contains all k.path) t.targets h))) (t.alone h);
  }

-- a job started, or was refused
module _ {W O E : Type 0} (m : Meaning W) (a b : Site W O E) (job : Job) where
  begun : (k : Watch) → Told m a.world.now b.world.now → (m.tells b.world.now → StartsJob m job a.world.now b.world.now) → b.store.now ≡ a.store.now →
      b.run.now ≡ a.run.now → (b.account.now.is_store_shut ≡ false → a.account.now.is_store_shut ≡ false) →
      ((busy : Busy) → Contains a.run.now.held busy → ShareNone job.targets busy.hold.targets) →
      ((hold : Hold) → Contains (holds_in a.run.now.tickets) hold → KeepsApart job hold) → AreSafe m k a → AreSafe m k b
  begun k told starts store run unshut beside apart safe tells sure =
      let before = safe (told.told tells) (told.sure tells sure) in
      subst (λ (r : Run). AreSafeIn m k b.world.now b.store.now r.held r.tickets b.account.now) (sym run)
      (subst (λ (st : Store). AreSafeIn m k b.world.now st a.run.now.held a.run.now.tickets b.account.now) (sym store) (record {
        held = λ opened busy h. true_started k job (m.counts a.world.now) (m.around a.world.now) (m.around b.world.now) a.store.now (starts tells) busy
            (beside busy h) (before.held (unshut opened) busy h);
        tickets = λ busy h. own_started k job (m.counts a.world.now) (m.around a.world.now) (m.around b.world.now) a.store.now (starts tells) busy
            (apart busy.hold (held_in a.run.now.tickets busy h)) (before.tickets busy h);
      }))

  pub site_begun : {T : Type 0} (r : Result T ListEnd) → Told m a.world.now b.world.now → GoesSafely m a.world.now b.world.now →
      (m.tells b.world.now → OnOk r (StartsJob m job a.world.now b.world.now)) → OnErr r (ClearsAt m [] a.world.now b.world.now) →
      b.store.now ≡ a.store.now → b.run.now ≡ a.run.now → (b.account.now.is_store_shut ≡ false → a.account.now.is_store_shut ≡ false) →
      ((busy : Busy) → Contains a.run.now.held busy → ShareNone job.targets busy.hold.targets) →
      ((hold : Hold) → Contains (holds_in a.run.now.tickets) hold → KeepsApart job hold) → SiteGoesSafely m a b
  site_begun (Ok done) told goes starts asks store run unshut beside apart k safe =
      let one = goes k safe.world in
      record { moments = one.moments; now = record { world = one.now; tickets = begun k told starts store run unshut beside apart safe.tickets } }
  site_begun (Err end) told goes starts asks store run unshut beside apart k safe =
      site_looked m a b told goes asks (subst (λ (st : Store). KeepsTickets a.store.now st) (sym store) (same_tickets a.store.now))
      (λ busy h. subst (λ (r : Run). Contains r.held busy) run h) (ap (λ (r : Run). r.tickets) run) unshut k safe
