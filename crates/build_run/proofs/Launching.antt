-- What is left of the book where a job starts, or is refused.
use Rattle.std.proofs.Common.{◌≡◌, ◌∙◌, ◌++◌, Bool, true, false, List, [], Contains, ap, refl, subst}
use Rattle.world_api.specs.Meaning.{Meaning}
use Rattle.deciders.specs.declared.recorded.Rec.{Rec}
use Rattle.sign_store.specs.Putting.{map_with}
use Rattle.sign_store.specs.Stores.{IsTicket, KeepsOut, KeepsTickets, map_of}
use Rattle.sign_store.specs.Tables.{Map}
use Rattle.sign_store.specs.declared.store.Store.{Store}
use Rattle.build_model.specs.Rules.{Path}
use Rattle.run_means.specs.Clears.{Clears}
use Rattle.build_run.specs.Books.{IsRefusedSo, book_of, untouched, withdrawn, shut}
use Rattle.build_run.specs.Holds.{Busy}
use Rattle.build_run.specs.Outs.{AreOut, KeepsSome, ShareNone}
use Rattle.build_run.specs.Sites.{records_of}
use Rattle.build_run.specs.Withdrawals.{HasNone}
use Rattle.build_run.specs.declared.site.Site.{Site}
use Rattle.build_run.proofs.Booking.{KeepsBook, TakesAway, store_book}
use Rattle.build_run.proofs.Choosing.{map_beside}
use Rattle.build_run.proofs.Outs.{in_among, outs_front, unheld_still}
use Rattle.build_run.proofs.Starting.{IsLeftSo, all_left, none_left, store_shut}

module _ {W O E : Type 0} (m : Meaning W) (old now : Site W O E) (store : Store) (targets : List Path)
    (outs : AreOut old.store.now (old.run.now.held ++ old.run.now.tickets)) (map : map_of store ≡ map_of old.store.now)
    (keeps : KeepsOut old.store.now store)
    (tickets : now.run.now.tickets ≡ old.run.now.tickets) (held : KeepsSome old.run.now.held now.run.now.held)
    (apart : (busy : Busy) → Contains old.run.now.held busy → ShareNone targets busy.hold.targets)
    (still : KeepsTickets store now.store.now)
    (kept : now.account.now.is_store_shut ≡ false → (path : Path) → (Contains targets path → ⊥) → records_of now path ≡ map_with store old.run.now.held path)
    (after : now.account.now.is_store_shut ≡ false → AreOut now.store.now (now.run.now.held ++ now.run.now.tickets)) where
  -- a ticket was given out
  given_out : KeepsBook (book_of old) (record (book_of old) { store = store })
  given_out = store_book (book_of old) store map outs (λ busy rec h out. keeps.each rec busy.ticket out)

  runs_still : (busy : Busy) → Contains now.run.now.tickets busy → Contains old.run.now.tickets busy
  runs_still busy h = subst (λ (all : List Busy). Contains all busy) tickets h

  ticket_still : (busy : Busy) (rec : Rec) → Contains now.run.now.tickets busy → IsTicket old.store.now rec busy.ticket →
      IsTicket now.store.now rec busy.ticket
  ticket_still busy rec h is = still.each rec busy.ticket (given_out.tickets busy rec (runs_still busy h) is)

  -- none of its targets has a record any more
  pub takes_away : now.account.now.is_store_shut ≡ false → HasNone (map_of now.store.now) targets →
      TakesAway targets (book_of old) (book_of now)
  takes_away unshut none = record {
    none = λ path h.
        map_beside now.store.now now.run.now.held path (outs_front now.store.now now.run.now.held now.run.now.tickets (after unshut))
        (λ busy k made. unheld_still old.run.now.held now.run.now.held targets held apart busy k path h made)
        ∙ none path (in_among targets path h);
    others = λ path out. kept unshut path out ∙ ap (λ (kept : Map). kept path) given_out.records;
    running = runs_still;
    tickets = ticket_still;
  }

  pub left_by : (mid : Site W O E) → m.tells now.world.now → IsRefusedSo m targets mid now → mid.world.now ≡ old.world.now →
      records_of mid ≡ map_with store old.run.now.held → IsLeftSo targets (Clears [] (m.around old.world.now) (m.around now.world.now)) (book_of old) (book_of now)
  left_by mid tells (untouched clears same) same_world before =
      all_left (subst (λ (w : W). Clears [] (m.around w) (m.around now.world.now)) same_world (clears tells))
      (record { records = same ∙ before ∙ given_out.records; running = runs_still; tickets = ticket_still })
  left_by mid tells (withdrawn none) same_world before = by now.account.now.is_store_shut refl
    where
      by : (b : Bool) → now.account.now.is_store_shut ≡ b →
          IsLeftSo targets (Clears [] (m.around old.world.now) (m.around now.world.now)) (book_of old) (book_of now)
      by true e = store_shut e
      by false e = none_left (takes_away e none)
  left_by mid tells (shut is) same_world before = store_shut is
