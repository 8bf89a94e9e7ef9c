-- Turns of a build are safe.
use Rattle.std.proofs.Common.{◌≡◌, ◌∙◌, ◌++◌, ◌∷◌, List, [], Contains, arith, sym, subst}
use Rattle.world_api.specs.Laws.{HasOnlyNow}
use Rattle.world_api.specs.Looks.{Looks}
use Rattle.world_api.specs.Meaning.{Meaning, Surely, Told}
use Rattle.sign_store.specs.Stores.{KeepsTickets}
use Rattle.sign_store.specs.declared.store.Store.{Store}
use Rattle.build_run.specs.Along.{StaysAlong}
use Rattle.build_run.specs.Holds.{Busy}
use Rattle.build_run.specs.Safe.{AreSafeIn, HoldsSafely, IsAlongSome, IsKeptMoment, IsSafeNow, IsSafeSite, SiteGoesSafely, StaysSafe, TurnsSafely}
use Rattle.build_run.specs.Watches.{Watch}
use Rattle.build_run.specs.declared.account.Account.{Account}
use Rattle.build_run.specs.declared.site.Site.{Site}
use Rattle.build_run.proofs.Clearing.{clears_asked}
use Rattle.build_run.proofs.Safely.{safe_here, safe_looked}
use Rattle.build_run.proofs.Stopping.{same_tickets, site_looked, site_then}

module _ {W O E : Type 0} (m : Meaning W) where
  -- its world was looked at
  pub site_saw : HasOnlyNow m → (a b : Site W O E) → Looks m a.world.now b.world.now → b.store.now ≡ a.store.now → b.run.now.held ≡ a.run.now.held →
      b.run.now.tickets ≡ a.run.now.tickets → b.account.now.is_store_shut ≡ a.account.now.is_store_shut → SiteGoesSafely m a b
  site_saw only a b looks store held same shut =
      site_looked m a b looks.told (λ k safe. safe_looked m k only a.world.now b.world.now looks safe)
      (clears_asked m [] a.world.now b.world.now looks.around)
      (subst (λ (st : Store). KeepsTickets a.store.now st) (sym store) (same_tickets a.store.now))
      (λ busy h. subst (λ (all : List Busy). Contains all busy) held h) same (λ unshut. sym shut ∙ unshut)

  pub turn_then : (a b c : Site W O E) → Told m b.world.now c.world.now → TurnsSafely m a b → SiteGoesSafely m b c → TurnsSafely m a c
  turn_then a b c told first then k along safe = site_then m k a b c told (first k along safe) (then k)

  pub turns_on : (a b c : Site W O E) → Told m a.world.now b.world.now → Told m b.world.now c.world.now → StaysAlong m a b → TurnsSafely m a b →
      TurnsSafely m b c → TurnsSafely m a c
  turns_on a b c before after stays first then k along safe =
      site_then m k a b c after (first k along safe)
      (then k (λ tells sure. still tells sure (along (before.told tells) (before.sure tells sure))))
    where
      still : m.tells b.world.now → m.sure b.world.now → IsAlongSome m k a → IsAlongSome m k b
      still tells sure some =
          record { o = some.o; outset = some.outset; covers = some.covers; along = stays tells sure some.o some.outset some.along }

  -- a further record is held
  pub held_now : (busy : Busy) → (a b : Site W O E) → b.world.now ≡ a.world.now → b.store.now ≡ a.store.now →
      b.run.now.held ≡ a.run.now.held ++ busy ∷ [] → b.run.now.tickets ≡ a.run.now.tickets → b.account.now ≡ a.account.now →
      (k : Watch) → IsSafeNow m k a.world.now →
      (m.tells a.world.now → m.sure a.world.now →
      AreSafeIn m k a.world.now a.store.now (a.run.now.held ++ busy ∷ []) a.run.now.tickets a.account.now) → IsSafeSite m k b
  held_now busy a b world store held same account k safe tickets = record {
    world = subst (λ (w : W). IsSafeNow m k w) (sym world) safe;
    tickets =
        subst (λ (x : Account). m.tells b.world.now → m.sure b.world.now → AreSafeIn m k b.world.now b.store.now b.run.now.held b.run.now.tickets x) (sym account)
        (subst (λ (x : List Busy). m.tells b.world.now → m.sure b.world.now → AreSafeIn m k b.world.now b.store.now b.run.now.held x a.account.now) (sym same)
        (subst (λ (x : List Busy). m.tells b.world.now → m.sure b.world.now → AreSafeIn m k b.world.now b.store.now x a.run.now.tickets a.account.now) (sym held)
        (subst (λ (x : Store). m.tells b.world.now → m.sure b.world.now → AreSafeIn m k b.world.now x (a.run.now.held ++ busy ∷ []) a.run.now.tickets a.account.now) (sym store)
        (subst (λ (w : W). m.tells w → m.sure w → AreSafeIn m k w a.store.now (a.run.now.held ++ busy ∷ []) a.run.now.tickets a.account.now) (sym world) tickets))));
  }

  pub holds_now : HasOnlyNow m → (busy : Busy) → (a b : Site W O E) → b.world.now ≡ a.world.now → b.store.now ≡ a.store.now →
      b.run.now.held ≡ a.run.now.held ++ busy ∷ [] → b.run.now.tickets ≡ a.run.now.tickets → b.account.now ≡ a.account.now →
      HoldsSafely m busy a b
  holds_now only busy a b world store held same account k safe tickets = record {
    moments = subst (λ (w : W). Surely m a.world.now w (IsKeptMoment k)) (sym world)
        (safe_here m k only a.world.now safe).moments;
    now = held_now busy a b world store held same account k safe tickets;
  }

  -- a site as it begins: nothing runs, and nothing is held
  pub first_safe : (k : Watch) (site : Site W O E) → site.run.now.held ≡ [] → site.run.now.tickets ≡ [] → IsSafeNow m k site.world.now → IsSafeSite m k site
  first_safe k site held tickets safe = record {
    world = safe;
    tickets = λ tells sure. record {
      held = λ opened busy h. absurd (omega (arith, (subst (λ (all : List Busy). Contains all busy) held h).1));
      tickets = λ busy h. absurd (omega (arith, (subst (λ (all : List Busy). Contains all busy) tickets h).1));
    };
  }

  -- what a site held in the end is what its lender has
  pub safe_given : (k : Watch) (last : Site W O E) (old now world : W) → last.world.now ≡ world → last.world.now ≡ now → StaysSafe m k old now →
      StaysSafe m k old world
  safe_given k last old now world lent same safe = subst (λ (w : W). StaysSafe m k old w) (sym same ∙ lent) safe
