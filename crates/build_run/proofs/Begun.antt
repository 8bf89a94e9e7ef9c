-- A job that starts is to have the record of its ticket.
use Rattle.std.proofs.Common.{◌≡◌, ◌≢◌, ◌∙◌, ◌++◌, ◌∷◌, ℕ, List, [], Contains, Some, None, map, ap, false, inl, inr, refl, sym, subst}
use Rattle.scons_base.specs.declared.ids.RuleId.{RuleId}
use Rattle.deciders.specs.Records.{name_of}
use Rattle.deciders.specs.declared.recorded.Rec.{Rec}
use Rattle.sign_store.specs.Stores.{IsTicket, KeepsTickets}
use Rattle.sign_store.specs.declared.store.Store.{Store}
use Rattle.world_api.specs.Around.{Around, Entry, Running, Started, IsRunningTarget, given_of}
use Rattle.world_api.specs.Calls.{Asks}
use Rattle.world_api.specs.Counts.{Counts}
use Rattle.world_api.specs.Laws.{HasOnlyNow}
use Rattle.world_api.specs.Looks.{Looks}
use Rattle.world_api.specs.Meaning.{Meaning, Told}
use Rattle.world_api.specs.declared.job.Job.{Job}
use Rattle.build_model.specs.Rules.{Path, Bytes, Content, Tree, Setting, Among, here, there}
use Rattle.build_model.specs.Records.{IsMet, digested}
use Rattle.build_means.specs.Records.{record_in}
use Rattle.run_means.proofs.Lists.{contains_among}
use Rattle.turn_means.specs.Laws.{HasMet}
use Rattle.turn_means.specs.Safety.{IsTicketOf}
use Rattle.build_run.specs.Goings.{Launches}
use Rattle.build_run.specs.Holds.{Busy}
use Rattle.build_run.specs.Safe.{DecidesSafely, GoesSafely, HasOwnRecord, IsOverFiles, IsStartable, IsWeighedSome, SiteGoesSafely, StartsSafely}
use Rattle.build_run.specs.Unmade.{HasNoMaker, HasOneMaker}
use Rattle.build_run.specs.Watches.{Watch, Allows}
use Rattle.build_run.specs.declared.site.Site.{Site}
use Rattle.build_run.proofs.Clearing.{clears_around}
use Rattle.build_run.proofs.Goings.{told_here}
use Rattle.build_run.proofs.Holding.{at_front, further, in_pushed}
use Rattle.build_run.proofs.Safely.{safely_here}
use Rattle.build_run.proofs.Stopping.{site_looked, site_then}
use Rattle.build_run.proofs.Unmade.{first_started, since_more}
use Rattle.build_run.proofs.Watching.{allows_on, may_put, same_met}

-- the store alone is another, with the same tickets
pub site_kept : {W O E : Type 0} (m : Meaning W) → HasOnlyNow m → (a b : Site W O E) → b.world.now ≡ a.world.now → KeepsTickets a.store.now b.store.now →
    b.run.now.held ≡ a.run.now.held → b.run.now.tickets ≡ a.run.now.tickets →
    (b.account.now.is_store_shut ≡ false → a.account.now.is_store_shut ≡ false) → SiteGoesSafely m a b
site_kept {W} m only a b world keeps held same unshut =
    site_looked m a b (subst (λ (w : W). Told m a.world.now w) (sym world) (told_here m a.world.now))
    (subst (λ (w : W). GoesSafely m a.world.now w) (sym world) (safely_here m only a.world.now))
    (clears_around m [] a.world.now b.world.now (λ t. ap (λ (w : W). m.around w) world)) keeps
    (λ busy h. subst (λ (all : List Busy). Contains all busy) held h) same unshut

given_on : (old new : Tree) (paths : List Path) → ((path : Path) → Contains paths path → new path ≡ old path) → given_of new paths ≡ given_of old paths
given_on old new [] same = refl
given_on old new (p ∷ paths) same =
    ap (λ (c : Content). (p, c) ∷ given_of new paths) (same p (at_front paths p))
    ∙ ap (λ l. (p, old p) ∷ l) (given_on old new paths (λ q h. same q (further paths p q h)))

met_at : (around : Around) → HasMet around → (path : Path) → (IsRunningTarget around.running path → ⊥) → (c : Content) → around.tree path ≡ c → IsMet around.met c
met_at around met path still None e = tt
met_at around met path still (Some bytes) e = contains_among around.met (met path bytes e still)

given_met : (around : Around) → HasMet around → (paths : List Path) → ((path : Path) → Contains paths path → IsRunningTarget around.running path → ⊥) →
    (x : Path × Content) → Among x (given_of around.tree paths) → IsMet around.met x.1
given_met around met [] still x h = elim h [ ]
given_met around met (p ∷ paths) still x here = met_at around met p (still p (at_front paths p)) (around.tree p) refl
given_met around met (p ∷ paths) still x (there h) = given_met around met paths (λ q k. still q (further paths p q k)) x h

pub own_launched : (k : Watch) (job : Job) (counts : Counts) (old new : Around) (rec : Rec) (store : Store) (busy : Busy) → Launches job counts old new →
    IsStartable k old rec → IsTicket store rec busy.ticket → job.work ≡ rec.work → job.signed ≡ rec.signed → job.targets ≡ rec.targets →
    job.deps ≡ map name_of rec.deps → rec.targets ≡ busy.hold.targets → job.id ≡ busy.hold.rule.0 →
    ((run : Running) → Contains old.running run → run.job.id ≢ job.id) → HasOwnRecord k store new busy
own_launched k job counts old new rec store busy launch startable ticket work signed targets deps made id other = record {
  rec = rec;
  is = ticket;
  targets = made;
  each = λ run h own. elim (in_pushed launch.mid.running started run (subst (λ (runs : List Running). Contains runs run) launch.starts.running h)) [
    | inl before ↦ absurd (other run (subst (λ (runs : List Running). Contains runs run) launch.clears.running before) (own ∙ sym id))
    | inr same ↦ subst (λ (r : Running). IsTicketOf k.setting new.met r rec) same ticket_of
  ];
  puts = may_put k old new (same_met old new (launch.starts.met ∙ launch.clears.met)) rec startable.allows.puts;
  alone = λ h. since_more k.start old.log new.log (HasNoMaker k.path) (HasOneMaker k.path busy.hold.rule.0) (Started job counts)
      (launch.starts.log ∙ ap (λ (l : List Entry). l ++ Started job counts ∷ []) launch.clears.log)
      (λ entries none. subst (λ (i : ℕ). HasOneMaker k.path i (entries ++ Started job counts ∷ [])) id (first_started k.path entries job counts none))
      (startable.allows.first h);
}
  where
    over : IsOverFiles k.setting old rec
    over = startable.over

    started : Running
    started = record { job = job; given = given_of launch.mid.tree job.deps }

    given_same : given_of launch.mid.tree job.deps ≡ given_of old.tree (map name_of rec.deps)
    given_same =
        ap (given_of launch.mid.tree) deps
        ∙ given_on old.tree launch.mid.tree (map name_of rec.deps)
        (λ path h. launch.clears.files path (over.still path h) (λ t. over.apart path (subst (λ (all : List Path). Contains all path) targets t) h))

    ticket_of : IsTicketOf k.setting new.met (record { job = job; given = given_of launch.mid.tree job.deps }) rec
    ticket_of = record {
      work = sym work;
      signed = sym signed;
      targets = sym targets;
      digests = ap (map (digested k.setting (record_in rec).hash)) given_same ∙ over.digests;
      each_met = λ x n. subst (λ (met : List Bytes). IsMet met x.1) (sym (launch.starts.met ∙ launch.clears.met))
          (given_met old over.met (map name_of rec.deps) over.still x (subst (λ l. Among x l) given_same n));
    }

-- a look leaves a record that of what its dependencies hold
pub over_asked : (s : Setting) (old new : Around) (rec : Rec) → Asks old new → IsOverFiles s old rec → IsOverFiles s new rec
over_asked s old new rec asks over = record {
  digests = ap (map (digested s (record_in rec).hash)) (given_on old.tree new.tree (map name_of rec.deps) (λ path h. asks.files path (over.still path h)))
      ∙ over.digests;
  met = λ path bytes e free.
      let was_free = was path free in
      subst (λ (all : List Bytes). Contains all bytes) (sym asks.met) (over.met path bytes (sym (asks.files path was_free) ∙ e) was_free);
  still = λ path h target. over.still path h (subst (λ (runs : List Running). IsRunningTarget runs path) asks.running target);
  apart = over.apart;
}
  where
    was : (path : Path) → (IsRunningTarget new.running path → ⊥) → IsRunningTarget old.running path → ⊥
    was path free target = free (subst (λ (runs : List Running). IsRunningTarget runs path) (sym asks.running) target)

-- a rule starts behind a look, where it may be started with its record
pub starts_behind : {W O E : Type 0} (m : Meaning W) (a mid b : Site W O E) (rule : RuleId) (rec : Rec) → Looks m a.world.now mid.world.now →
    Told m mid.world.now b.world.now → SiteGoesSafely m a mid → StartsSafely m mid b rec →
    (m.tells mid.world.now → (k : Watch) → IsWeighedSome m k a rule rec → Allows k (m.around a.world.now) rec) → DecidesSafely m a b rule rec
starts_behind m a mid b rule rec looks told first then allows k safe weighed =
    site_then m k a mid b told (first k safe) (λ now. then k now (λ tells sure.
    let before = weighed (looks.told.told tells) (looks.told.sure tells sure) in
    record {
      over = over_asked k.setting (m.around a.world.now) (m.around mid.world.now) rec (looks.around tells) before.over;
      allows = allows_on k (m.around a.world.now) (m.around mid.world.now)
          (same_met (m.around a.world.now) (m.around mid.world.now) (looks.around tells).met) (looks.around tells).log rec (allows tells k before);
    }))
