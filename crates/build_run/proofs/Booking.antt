-- What a build has booked, from call to call.
use Rattle.std.proofs.Common.{◌≡◌, ◌⊎◌, inl, inr, ◌++◌, ◌∷◌, Bool, true, false, cond, List, [], Contains, Option, Some, ap, refl, subst, sym, ◌∙◌}
use Rattle.std.proofs.lemmas.List.Elements.{Contains-append_left, Contains-append_right}
use Rattle.world_api.specs.Around.{Around, IsRunningTarget, given_of}
use Rattle.world_api.specs.Calls.{Asks, Ends, Starts}
use Rattle.world_api.specs.Meaning.{Meaning}
use Rattle.world_api.specs.Counts.{Counts}
use Rattle.world_api.specs.declared.job.Ended.{Ended as Ending}
use Rattle.world_api.specs.declared.job.Job.{Job}
use Rattle.deciders.specs.declared.recorded.Rec.{Rec}
use Rattle.sign_store.specs.Putting.{map_with}
use Rattle.sign_store.specs.Stores.{IsOut, IsTicket, KeepsOthers as LeavesOthers, KeepsTickets, map_of}
use Rattle.sign_store.specs.Tables.{Map, with_each}
use Rattle.sign_store.specs.declared.store.Store.{Store}
use Rattle.build_model.specs.Rules.{Path, Rule, Among, here, there}
use Rattle.build_model.specs.Moments.{Job as Given}
use Rattle.build_model.proofs.Lists.{some_same}
use Rattle.build_model.specs.Steps.{Step, Fresh, Began, Ended, Lacks, Halts, began, IsDecided, IsRunning}
use Rattle.run_means.specs.Clears.{Clears}
use Rattle.run_means.proofs.Clearing.{calls_clear}
use Rattle.turn_means.specs.Standing.{Outset, IsOutset, Standing, setting_at}
use Rattle.turn_means.specs.Recording.{Begin, End, IsWayTo, AreRecorded, IsRecordOf, KeepsOthers, HaveNone, build_at}
use Rattle.turn_means.specs.Writing.{Writes}
use Rattle.turn_means.proofs.Recording.{begins_without, begun_others, ends_with, leaves, stays}
use Rattle.turn_means.proofs.Jobs.{run_before, run_either}
use Rattle.turn_means.proofs.Running.{begun_place, lawful, makes_each, one_rule}
use Rattle.build_run.specs.Along.{HoldsFewer, IsOn}
use Rattle.build_run.specs.Books.{Book, AreBooked, IsBooked, book_of}
use Rattle.build_run.specs.Holds.{Busy}
use Rattle.build_run.specs.Outs.{AreOut}
use Rattle.build_run.specs.Sites.{KeepsRecords, SitePuts}
use Rattle.build_run.specs.declared.site.Site.{Site}
use Rattle.build_run.proofs.Holding.{in_pushed}
use Rattle.build_run.proofs.Outs.{held_alike, in_among, not_among, out_in, outs_front, outs_left, own_beside}

-- ---- what is kept of the book

-- nothing that was booked was lost
pub record KeepsBook (old new : Book) : Type 0 where
  pub records : map_with new.store new.held ≡ map_with old.store old.held
  pub running : (busy : Busy) → Contains new.running busy → Contains old.running busy
  pub tickets : (busy : Busy) (rec : Rec) → Contains new.running busy → IsTicket old.store rec busy.ticket →
      IsTicket new.store rec busy.ticket

-- unless the store has refused
pub record StaysBooked (old new : Book) : Type 0 where
  pub unshut : new.shut ≡ false → old.shut ≡ false
  pub keeps : new.shut ≡ false → KeepsBook old new

-- so it is where its parts are the same
pub book_as : (old new : Book) → new.store ≡ old.store → new.held ≡ old.held → new.running ≡ old.running →
    (new.shut ≡ false → old.shut ≡ false) → StaysBooked old new
book_as old new store held running unshut = record {
  unshut = unshut;
  keeps = λ e. record {
    records = ap (λ (s : Store). map_with s new.held) store ∙ ap (λ (all : List Busy). map_with old.store all) held;
    running = λ busy h. subst (λ (all : List Busy). Contains all busy) running h;
    tickets = λ busy rec h is. subst (λ (s : Store). IsTicket s rec busy.ticket) (sym store) is;
  };
}

-- or the held ones were put
pub puts_book : {W O E : Type 0} (m : Meaning W) (old new : Site W O E) → SitePuts m old new → KeepsTickets old.store.now new.store.now →
    KeepsRecords old new → StaysBooked (book_of old) (book_of new)
puts_book m old new puts tickets kept = record {
  unshut = puts.shut;
  keeps = λ e. record {
    records = kept e;
    running = λ busy h. subst (λ (all : List Busy). Contains all busy) puts.tickets h;
    tickets = λ busy rec h is. tickets.each rec busy.ticket is;
  };
}

-- where tickets stay out they stay tickets for the same records
tickets_out : (old new : Store) (busies : List Busy) → AreOut old busies → (busy : Busy) (rec : Rec) → Contains busies busy →
    ((of : Rec) → IsOut old of busy.ticket → IsOut new of busy.ticket) → IsTicket old rec busy.ticket → IsTicket new rec busy.ticket
tickets_out old new busies outs busy rec h keeps is =
    let t = (out_in old busies busy outs h).ticket in
    subst (λ (r : Rec). IsTicket new r busy.ticket) (some_same (sym t.out.own.held.record_at ∙ is.held.record_at))
    (keeps t.rec t.out).own

-- nothing that was booked is lost where a store keeps these tickets and its map
pub store_book : (old : Book) (store : Store) → map_of store ≡ map_of old.store → AreOut old.store (old.held ++ old.running) →
    ((busy : Busy) (rec : Rec) → Contains (old.held ++ old.running) busy → IsOut old.store rec busy.ticket → IsOut store rec busy.ticket) →
    KeepsBook old (record old { store = store })
store_book old store map outs keeps = record {
  records = held_alike old.store store old.held map (λ busy rec h out. (keeps busy rec (Contains-append_left old.held old.running busy h) out).own)
      (outs_front old.store old.held old.running outs);
  running = λ busy h. h;
  tickets = λ busy rec h is.
      let among = Contains-append_right old.held old.running busy h in
      tickets_out old.store store (old.held ++ old.running) outs busy rec among (λ of out. keeps busy of among out) is;
}

-- so it is where the ticket of one that was taken out is given up
pub given_up : (book : Book) (store : Store) (busy : Busy) (left : List Busy) → map_of store ≡ map_of book.store → LeavesOthers busy.ticket book.store store →
    AreOut book.store (book.held ++ busy ∷ left) → KeepsBook (record book { running = left }) (record book { store = store; running = left })
given_up book store busy left map leaves_others outs =
    store_book (record book { running = left }) store map (outs_left book.store book.held left busy outs)
    (λ one rec h out. leaves_others.each rec one.ticket (own_beside book.store book.held busy left outs one h) out)

-- none of these paths has a record any more, and else nothing that was booked was lost
pub record TakesAway (targets : List Path) (old new : Book) : Type 0 where
  pub none : HaveNone targets (map_with new.store new.held)
  pub others : KeepsOthers targets (map_with old.store old.held) (map_with new.store new.held)
  pub running : (busy : Busy) → Contains new.running busy → Contains old.running busy
  pub tickets : (busy : Busy) (rec : Rec) → Contains new.running busy → IsTicket old.store rec busy.ticket →
      IsTicket new.store rec busy.ticket

-- ---- what calls write

-- what is cleared
pub clears_write : (paths : List Path) (old new : Around) → Clears paths old new → Writes paths old new
clears_write paths old new clears = record {
  files = clears.files;
  stamps = clears.stamps;
  running = λ path target. inl (subst (λ runs. IsRunningTarget runs path) clears.running target);
}

-- what a start writes
pub starts_write : (job : Job) (counts : Counts) (old mid new : Around) → Clears job.targets old mid → Starts job counts mid new →
    Writes job.targets old new
starts_write job counts old mid new clears starts = record {
  files = λ path free out.
      starts.files path (λ t. free (subst (λ runs. IsRunningTarget runs path) clears.running t)) out ∙ clears.files path free out;
  stamps = λ path free out.
      starts.stamps path (λ t. free (subst (λ runs. IsRunningTarget runs path) clears.running t)) out ∙ clears.stamps path free out;
  running = λ path target.
      elim (run_either mid.running (record { job = job; given = given_of mid.tree job.deps }) path
      (subst (λ runs. IsRunningTarget runs path) starts.running target)) [
        | inl t ↦ inl (subst (λ runs. IsRunningTarget runs path) clears.running t)
        | inr m ↦ inr m
      ];
}

-- and an ending
pub ends_write : (Sure : Type 0) (ended : Ending) (old new : Around) → Ends Sure ended old new → Writes [] old new
ends_write Sure ended old new ends = record {
  files = λ path free out. ends.files path free;
  stamps = λ path free out. ends.stamps path free;
  running = λ path target.
      inl (subst (λ runs. IsRunningTarget runs path) (sym ends.was)
      (run_before ends.front ends.which ends.back path (subst (λ runs. IsRunningTarget runs path) ends.running target)));
}

-- ---- records of paths

-- what is among the paths has the record, and the rest has what it had
with_own : (paths : List Path) (rec : Rec) (map : Map) (path : Path) → Contains paths path → with_each paths (Some rec) map path ≡ Some rec
with_own paths rec map path h = ap (λ b. cond b (Some rec) (map path)) (in_among paths path h)

pub with_others : (paths : List Path) (rec : Option Rec) (map : Map) (path : Path) → (Contains paths path → ⊥) → with_each paths rec map path ≡ map path
with_others paths rec map path out = ap (λ b. cond b rec (map path)) (not_among paths path out)

-- ---- from step to step

module _ (o : Outset) where
  -- a rule that is to have a record is so still
  one_on : (old new : Around) (past more : List Step) (store after : Store) (busy : Busy) (is : IsBooked o old past store busy) →
      Among is.rule (began more) → (IsTicket store is.rec busy.ticket → IsTicket after is.rec busy.ticket) →
      (IsRecordOf o old is.rule is.rec → IsRecordOf o new is.rule is.rec) → IsBooked o new more after busy
  one_on old new past more store after busy is stands ticket has = record {
    rule = is.rule;
    stands = stands;
    makes = is.makes;
    rec = is.rec;
    ticket = ticket is.ticket;
    same = is.same;
    to_have = has is.to_have;
  }

  pub booked_as : (around : Around) (past : List Step) (old new : Book) → KeepsBook old new → AreBooked o around past old →
      AreBooked o around past new
  booked_as around past old new keeps are = record {
    records = subst (λ (kept : Map). AreRecorded o around past kept) (sym keeps.records) are.records;
    each = λ busy h.
        let is = are.each busy (keeps.running busy h) in
        one_on around around past past old.store new.store busy is is.stands (λ t. keeps.tickets busy is.rec h t) (λ e. e);
  }

  -- the same of a build
  pub kept_on : (old new : Book) (s : Standing) → HoldsFewer old.held new.held → StaysBooked old new → IsOn o old s → IsOn o new s
  kept_on old new s less kept on = record {
    jobs = on.jobs;
    past = on.past;
    at = on.at;
    began = λ busy path h made. on.began busy path (less busy h) made;
    booked = λ e. booked_as s.around on.past old new (kept.keeps e) (on.booked (kept.unshut e));
  }

  -- and where the account alone is another
  pub shut_on : (book : Book) (shut : Bool) (s : Standing) → shut ≡ book.shut → IsOn o book s → IsOn o (record book { shut = shut }) s
  shut_on book shut s same on = subst (λ (b : Bool). IsOn o (record book { shut = b }) s) (sym same) on

  -- steps that start nothing leave it as it is
  step_booked : (around : Around) (past more : List Step) (book : Book) → ((r : Rule) → Among r (began past) → Among r (began more)) →
      AreRecorded o around more (map_with book.store book.held) → AreBooked o around past book → AreBooked o around more book
  step_booked around past more book within records are = record {
    records = records;
    each = λ busy h.
        let is = are.each busy h in
        one_on around around past more book.store book.store busy is (within is.rule is.stands) (λ t. t) (λ e. e);
  }

  pub halts_booked : (around : Around) (past : List Step) (book : Book) → AreBooked o around past book →
      AreBooked o around (Halts ∷ past) book
  halts_booked around past book are =
      step_booked around past (Halts ∷ past) book (λ r m. m) (leaves o around past (map_with book.store book.held) are.records).halts are

  pub fresh_booked : (around : Around) (past : List Step) (book : Book) (r : Rule) → (Among r (began past) → ⊥) →
      AreBooked o around past book → AreBooked o around (Fresh r ∷ past) book
  fresh_booked around past book r out are =
      step_booked around past (Fresh r ∷ past) book (λ q m. m) ((leaves o around past (map_with book.store book.held) are.records).fresh r out) are

  pub lacks_booked : (around : Around) (past : List Step) (book : Book) (r : Rule) (path : Path) → AreBooked o around past book →
      AreBooked o around (Lacks r path ∷ past) book
  lacks_booked around past book r path are =
      step_booked around past (Lacks r path ∷ past) book (λ q m. m)
      ((leaves o around past (map_with book.store book.held) are.records).lacks r path) are

  module _ (outset : IsOutset o) (jobs : List Given) (old new : Around) (past : List Step) (way : IsWayTo o jobs old past) where
    -- while running jobs alone write it is as it was
    pub writes_booked : (book : Book) → Writes [] old new → AreBooked o old past book → AreBooked o new past book
    writes_booked book writes are =
        let stay = stays o outset jobs old new past way writes in
        record {
          records = stay.records (map_with book.store book.held) are.records;
          each = λ busy h.
              let is = are.each busy h in
              one_on old new past past book.store book.store busy is is.stands (λ t. t) (λ e. stay.to_have is.rule is.rec is.stands e);
        }

    pub clears_booked : (book : Book) → Clears [] old new → AreBooked o old past book → AreBooked o new past book
    clears_booked book clears are = writes_booked book (clears_write [] old new clears) are

    pub asks_booked : (book : Book) → Asks old new → AreBooked o old past book → AreBooked o new past book
    asks_booked book asks are = clears_booked book ((calls_clear []).looks old new asks) are

    -- ---- starts

    module _ (r : Rule) (decided : IsDecided (setting_at o) (build_at o old) past r) (writes : Writes r.targets old new)
        (book after : Book) (are : AreBooked o old past book) (takes : TakesAway r.targets book after) where
      abbrev Was : Map
      Was = map_with book.store book.held

      abbrev Now : Map
      Now = map_with after.store after.held

      begin : Begin o old new past r Now
      begin = begins_without o outset jobs old new past r Was Now way decided writes are.records takes.none takes.others

      -- the others that run are to have theirs still
      others_booked : (more : List Step) → ((q : Rule) → Among q (began past) → Among q (began more)) → (busy : Busy) →
          Contains after.running busy → IsBooked o new more after.store busy
      others_booked more within busy h =
          let is = are.each busy (takes.running busy h) in
          one_on old new past more book.store after.store busy is (within is.rule is.stands) (λ t. takes.tickets busy is.rec h t)
          (λ e. begun_others o outset jobs old new past r Was Now way decided writes are.records takes.none takes.others is.rule is.rec is.stands e)

      -- no job started
      pub refused_booked : AreBooked o new (Ended r false ∷ Began r ∷ past) after
      refused_booked = record {
        records = begin.refused;
        each = others_booked (Ended r false ∷ Began r ∷ past) (λ q m. there m);
      }

      -- or one did
      pub began_booked : (busy : Busy) (rec : Rec) → busy.hold.targets ≡ r.targets → rec.targets ≡ r.targets → IsTicket after.store rec busy.ticket →
          IsRecordOf o old r rec → AreBooked o new (Began r ∷ past) (record after { running = after.running ++ busy ∷ [] })
      began_booked busy rec makes same ticket to_have =
          record { records = begin.started; each = λ one h. by one (in_pushed after.running busy one h) }
        where
          by : (one : Busy) → Contains after.running one ⊎ (busy ≡ one) → IsBooked o new (Began r ∷ past) after.store one
          by one (inl before) = others_booked (Began r ∷ past) (λ q m. there m) one before
          by one (inr is) = subst (λ (b : Busy). IsBooked o new (Began r ∷ past) after.store b) is (record {
            rule = r;
            stands = here;
            makes = makes;
            rec = rec;
            ticket = ticket;
            same = same;
            to_have = begin.to_have rec to_have;
          })

    -- ---- endings

    -- rules that make the same are the same
    same_rule : (q r : Rule) → Among q (began past) → Among r (began past) → q.targets ≡ r.targets → q ≡ r
    same_rule q r m n same =
        let place = begun_place o outset jobs old past way m in
        let own = begun_place o outset jobs old past way n in
        let target : Among place.0 q.targets = (lawful o outset).makes place.0 q place.1 in
        one_rule o outset place.0 place.1
        (makes_each o outset own.0 own.1 place.0 (subst (λ (paths : List Path). Among place.0 paths) same target))

    module _ (r : Rule) (runs : IsRunning past r) (writes : Writes [] old new) (book after : Book) (are : AreBooked o old past book)
        (busy : Busy) (among : Contains book.running busy) (makes : busy.hold.targets ≡ r.targets)
        (running : (one : Busy) → Contains after.running one → Contains book.running one)
        (tickets : (one : Busy) (rec : Rec) → Contains after.running one → IsTicket book.store rec one.ticket → IsTicket after.store rec one.ticket)
      where
        end : End o old new past r (map_with book.store book.held)
        end = ends_with o outset jobs old new past r (map_with book.store book.held) way runs writes are.records

        others_still : (well : Bool) → (one : Busy) → Contains after.running one → IsBooked o new (Ended r well ∷ past) after.store one
        others_still well one h =
            let is = are.each one (running one h) in
            one_on old new past (Ended r well ∷ past) book.store after.store one is is.stands (λ t. tickets one is.rec h t)
            (λ e. (stays o outset jobs old new past way writes).to_have is.rule is.rec is.stands e)

        failed_booked : map_with after.store after.held ≡ map_with book.store book.held → AreBooked o new (Ended r false ∷ past) after
        failed_booked kept = record {
          records = subst (λ (map : Map). AreRecorded o new (Ended r false ∷ past) map) (sym kept) end.failed;
          each = others_still false;
        }

        done_booked : ((rec : Rec) → IsTicket book.store rec busy.ticket →
            map_with after.store after.held ≡ with_each rec.targets (Some rec) (map_with book.store book.held)) →
            AreBooked o new (Ended r true ∷ past) after
        done_booked puts =
            let is = are.each busy among in
            let same : is.rule ≡ r = same_rule is.rule r is.stands runs.began (sym is.makes ∙ makes) in
            let own : is.rec.targets ≡ r.targets = is.same ∙ ap (λ (x : Rule). x.targets) same in
            let now = puts is.rec is.ticket in
            record {
              records =
                  end.well is.rec (map_with after.store after.held)
                  (subst (λ (x : Rule). IsRecordOf o old x is.rec) same is.to_have)
                  (λ path m.
                  ap (λ (map : Map). map path) now
                  ∙ with_own is.rec.targets is.rec (map_with book.store book.held) path
                  (subst (λ (paths : List Path). Contains paths path) (sym own) m))
                  (λ path out.
                  ap (λ (map : Map). map path) now
                  ∙ with_others is.rec.targets (Some is.rec) (map_with book.store book.held) path
                  (λ h. out (subst (λ (paths : List Path). Contains paths path) own h)));
              each = others_still true;
            }

        pub ended_booked : (well : Bool) → (well ≡ false → map_with after.store after.held ≡ map_with book.store book.held) →
            (well ≡ true → (rec : Rec) → IsTicket book.store rec busy.ticket →
            map_with after.store after.held ≡ with_each rec.targets (Some rec) (map_with book.store book.held)) →
            AreBooked o new (Ended r well ∷ past) after
        ended_booked true kept puts = done_booked (puts refl)
        ended_booked false kept puts = failed_booked (kept refl)
