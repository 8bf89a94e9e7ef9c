-- What tickets are for, over the ending of a job.
use Rattle.std.proofs.Common.{◌≡◌, ◌∙◌, ◌++◌, ◌∷◌, ℕ, List, [], Contains, Some, None, false, arith, inl, inr, sym, subst}
use Rattle.std.proofs.lemmas.List.Elements.{Contains-append_right}
use Rattle.sign_store.specs.Stores.{KeepsTickets}
use Rattle.sign_store.specs.declared.store.Store.{Store}
use Rattle.world_api.specs.Around.{Around, Running, Finished, IsRunningTarget}
use Rattle.world_api.specs.Calls.{Ends}
use Rattle.world_api.specs.Laws.{EndsJob}
use Rattle.world_api.specs.Meaning.{Meaning, Told}
use Rattle.world_api.specs.declared.job.Ended.{Ended}
use Rattle.world_api.specs.declared.job.Outcome.TheVariants.{Done}
use Rattle.build_model.specs.Rules.{Path, Content}
use Rattle.build_model.specs.Records.{IsMet}
use Rattle.run_means.proofs.Lists.{among_contains, contains_among}
use Rattle.turn_means.specs.Safety.{ActsAs}
use Rattle.turn_means.proofs.Jobs.{run_before}
use Rattle.turn_means.proofs.Safety.{done_true, true_stays}
use Rattle.build_run.specs.Along.{HoldsFewer}
use Rattle.build_run.specs.Holds.{Busy, hold_of, holds_in, holds_of}
use Rattle.build_run.specs.Outs.{IsBeside}
use Rattle.build_run.specs.Safe.{AreSafeIn, HasOwnRecord, HasTrueRecord, IsSafeNow}
use Rattle.build_run.specs.Unmade.{HasOneMaker, IsNotUnmade}
use Rattle.build_run.specs.Watches.{Watch}
use Rattle.build_run.specs.declared.account.Account.{Account}
use Rattle.build_run.specs.declared.tickets.Hold.{Hold}
use Rattle.build_run.proofs.Holding.{at_front, further, in_front, in_pushed}
use Rattle.build_run.proofs.Stopping.{same_tickets}
use Rattle.build_run.proofs.Unmade.{alone_ended, done_ended, made_ended, since_more}
use Rattle.build_run.proofs.Watching.{may_put}

module _ (k : Watch) (ended : Ended) (old new : Around) (store after : Store) (keeps : KeepsTickets store after)
    (ends : Ends (Unit {0}) ended old new) (busy : Busy) where
  ran_before : (path : Path) → IsRunningTarget new.running path → IsRunningTarget old.running path
  ran_before path target =
      subst (λ (runs : List Running). IsRunningTarget runs path) (sym ends.was)
      (run_before ends.front ends.which ends.back path (subst (λ (runs : List Running). IsRunningTarget runs path) ends.running target))

  met_later : (c : Content) → IsMet old.met c → IsMet new.met c
  met_later None m = tt
  met_later (Some bytes) m = contains_among new.met (ends.met bytes (among_contains m))

  pub true_ended : HasTrueRecord k store old busy → HasTrueRecord k after new busy
  true_ended t = record {
    rec = t.rec;
    is = keeps.each t.rec busy.ticket t.is;
    targets = t.targets;
    true_now = true_stays k.setting old new t.rec t.true_now ends.met (λ path h. ends.files path (t.true_now.still path h))
        (λ path h target. t.true_now.still path h (ran_before path target));
    puts = may_put k old new ends.met t.rec t.puts;
    made = λ h. since_more k.start old.log new.log (IsNotUnmade k.path) (IsNotUnmade k.path) (Finished ended.id ended.outcome) ends.log
        (λ entries. made_ended k.path entries ended.id ended.outcome) (t.made h);
  }

  pub own_ended : ((run : Running) → Contains new.running run → Contains old.running run) → HasOwnRecord k store old busy → HasOwnRecord k after new busy
  own_ended within t = record {
    rec = t.rec;
    is = keeps.each t.rec busy.ticket t.is;
    targets = t.targets;
    each = λ run h id.
        let own = t.each run (within run h) id in
        record {
          work = own.work;
          signed = own.signed;
          targets = own.targets;
          digests = own.digests;
          each_met = λ x n. met_later x.1 (own.each_met x n);
        };
    puts = may_put k old new ends.met t.rec t.puts;
    alone = λ h. since_more k.start old.log new.log (HasOneMaker k.path busy.hold.rule.0) (HasOneMaker k.path busy.hold.rule.0)
        (Finished ended.id ended.outcome) ends.log (λ entries. alone_ended k.path entries ended.id ended.outcome busy.hold.rule.0) (t.alone h);
  }

  -- a rule whose action was done has its record
  pub done_now : ended.outcome ≡ Done → ActsAs k.setting old → ended.id ≡ busy.hold.rule.0 →
      ((path : Path) → Contains busy.hold.targets path → IsRunningTarget new.running path → ⊥) → HasOwnRecord k store old busy →
      HasTrueRecord k after new busy
  done_now done acts id still t = record {
    rec = t.rec;
    is = keeps.each t.rec busy.ticket t.is;
    targets = t.targets;
    true_now = done_true k.setting ended old new t.rec ends done acts (t.each ends.which which_ran (sym ends.id ∙ id))
        (λ path h. still path (subst (λ (all : List Path). Contains all path) t.targets h));
    puts = may_put k old new ends.met t.rec t.puts;
    made = λ h. since_more k.start old.log new.log (HasOneMaker k.path busy.hold.rule.0) (IsNotUnmade k.path) (Finished ended.id ended.outcome) ends.log
        (λ entries one. done_ended k.path entries ended.id ended.outcome done
        (subst (λ (i : ℕ). HasOneMaker k.path i entries) (sym id) one)) (t.alone h);
  }
    where
      which_ran : Contains old.running ends.which
      which_ran = subst (λ (runs : List Running). Contains runs ends.which) (sym ends.was)
          (Contains-append_right ends.front (ends.which ∷ ends.back) ends.which (at_front ends.back ends.which))

ends_surely : {sure : Type 0} (ended : Ended) (old new : Around) → sure → Ends sure ended old new → Ends (Unit {0}) ended old new
ends_surely ended old new is e = record {
  front = e.front;
  which = e.which;
  back = e.back;
  was = e.was;
  running = e.running;
  id = e.id;
  files = e.files;
  stamps = e.stamps;
  dirs = e.dirs;
  made = λ x. e.made is;
  log = e.log;
  met = e.met;
  met_only = e.met_only;
  law = e.law;
  top = e.top;
}

moved : (front back : List Running) (x y : Running) → Contains (front ++ back) y → Contains (front ++ x ∷ back) y
moved [] back x y h = further back x y h
moved (first ∷ front) back x y h = elim (in_front (front ++ back) first y h) [
  | inl same ↦ subst (λ (r : Running). Contains (first ∷ (front ++ x ∷ back)) r) same (at_front (front ++ x ∷ back) first)
  | inr more ↦ further (front ++ x ∷ back) first y (moved front back x y more)
]

pub mapped : (running : List Running) (run : Running) → Contains running run → Contains (holds_of running) (hold_of run)
mapped [] run h = absurd (omega (arith, h.1))
mapped (first ∷ running) run h = elim (in_front running first run h) [
  | inl same ↦ subst (λ (r : Running). Contains (hold_of first ∷ holds_of running) (hold_of r)) same (at_front (holds_of running) (hold_of first))
  | inr more ↦ further (holds_of running) (hold_of first) (hold_of run) (mapped running run more)
]

held_back : (busies : List Busy) (hold : Hold) → Contains (holds_in busies) hold → (busy : Busy) × Contains busies busy × (busy.hold ≡ hold)
held_back [] hold h = absurd (omega (arith, h.1))
held_back (first ∷ busies) hold h = elim (in_front (holds_in busies) first.hold hold h) [
  | inl same ↦ (first, at_front busies first, same)
  | inr more ↦ (let b = held_back busies hold more in (b.0, further busies first b.0 b.1, b.2))
]

-- no job that runs still writes what that one has made
pub free_now : (running : List Running) (left : List Busy) (busy : Busy) → holds_of running ≡ holds_in left →
    ((other : Busy) → Contains left other → IsBeside busy other) → (path : Path) → Contains busy.hold.targets path → IsRunningTarget running path → ⊥
free_now running left busy same beside path h target =
    let b = held_back left (hold_of target.0) (subst (λ (all : List Hold). Contains all (hold_of target.0)) same (mapped running target.0 target.1)) in
    (beside b.0 b.1).targets path h (subst (λ (hold : Hold). Contains hold.targets path) (sym b.2) target.2)

pub are_ended : {W : Type 0} (m : Meaning W) (k : Watch) (ended : Ended) (old new : W) (store after : Store) (rest busies left : List Busy)
    (was account : Account) → Told m old new → (m.tells new → EndsJob m ended old new) → KeepsTickets store after → HoldsFewer busies left →
    (account.is_store_shut ≡ false → was.is_store_shut ≡ false) →
    (m.tells old → m.sure old → AreSafeIn m k old store rest busies was) → m.tells new → m.sure new → AreSafeIn m k new after rest left account
are_ended m k ended old new store after rest busies left was account told ends keeps fewer unshut safe tells sure =
    let before = safe (told.told tells) (told.sure tells sure) in
    let e = ends_surely ended (m.around old) (m.around new) sure (ends tells) in
    record {
      held = λ opened busy h. true_ended k ended (m.around old) (m.around new) store after keeps e busy (before.held (unshut opened) busy h);
      tickets = λ busy h. own_ended k ended (m.around old) (m.around new) store after keeps e busy
          (λ run there. subst (λ (runs : List Running). Contains runs run) (sym e.was)
          (moved e.front e.back e.which run (subst (λ (runs : List Running). Contains runs run) e.running there)))
          (before.tickets busy (fewer busy h));
    }

-- and where it was done its record is held
pub are_done : {W : Type 0} (m : Meaning W) (k : Watch) (ended : Ended) (old new : W) (store : Store) (rest busies left : List Busy) (busy : Busy)
    (account : Account) → Told m old new → (m.tells new → EndsJob m ended old new) → HoldsFewer busies left → Contains busies busy →
    ended.outcome ≡ Done → ended.id ≡ busy.hold.rule.0 → IsSafeNow m k old → (m.tells new → holds_of (m.around new).running ≡ holds_in left) →
    (account.is_store_shut ≡ false → (other : Busy) → Contains left other → IsBeside busy other) →
    (m.tells old → m.sure old → AreSafeIn m k old store rest busies account) → m.tells new → m.sure new →
    AreSafeIn m k new store (rest ++ busy ∷ []) left account
are_done m k ended old new store rest busies left busy account told ends fewer among done id world runs beside safe tells sure =
    let before = safe (told.told tells) (told.sure tells sure) in
    let e = ends_surely ended (m.around old) (m.around new) sure (ends tells) in
    let others = are_ended m k ended old new store store rest busies left account account told ends (same_tickets store) fewer (λ unshut. unshut) safe tells sure in
    record {
      held = λ opened other h. elim (in_pushed rest busy other h) [
        | inl more ↦ others.held opened other more
        | inr same ↦ subst (λ (b : Busy). HasTrueRecord k store (m.around new) b) same
            (done_now k ended (m.around old) (m.around new) store store (same_tickets store) e busy done (world (told.told tells) (told.sure tells sure)).of.acts id
            (free_now (m.around new).running left busy (runs tells) (beside opened)) (before.tickets busy among))
      ];
      tickets = others.tickets;
    }
