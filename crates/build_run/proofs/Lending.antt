-- What a site held in the end is what its lender has.
use Rattle.std.proofs.Common.{◌≡◌, ◌∙◌, [], subst, sym}
use Rattle.world_api.specs.Meaning.{Meaning}
use Rattle.world_api.specs.Printed.{SinkMeaning}
use Rattle.build_run.specs.Goings.{Passes}
use Rattle.sign_store.specs.Stores.{IsKept}
use Rattle.sign_store.specs.declared.store.Store.{Store}
use Rattle.build_run.specs.Ledgers.{AllAccounts}
use Rattle.build_run.specs.Outsets.{StaysKept}
use Rattle.build_run.specs.declared.account.Account.{Account}
use Rattle.build_run.specs.declared.site.Site.{Site}
use Rattle.build_run.specs.Reasons.{HasReason, SiteHasReason}
use Rattle.build_run.specs.declared.building.Options.{Options}

module _ {W O E : Type 0} (m : Meaning W) (last : Site W O E) where
  pub passes_given : (old now world : W) → last.world.now ≡ world → last.world.now ≡ now → Passes m old now → Passes m old world
  passes_given old now world lent same p = subst (λ (w : W). Passes m old w) (sym same ∙ lent) p

  pub idle_given : (now world : W) → last.world.now ≡ world → last.world.now ≡ now → (m.tells now → (m.around now).running ≡ []) → m.tells world → (m.around world).running ≡ []
  idle_given now world lent same idle = subst (λ (w : W). m.tells w → (m.around w).running ≡ []) (sym same ∙ lent) idle

  pub accounts_given : (o : SinkMeaning O) (e : SinkMeaning E) (old : W) (old_out : O) (old_err : E) (before : Account) (world : W) (out : O) (err : E) (account : Account) →
      last.world.now ≡ world → last.out.now ≡ out → last.err.now ≡ err → last.account.now ≡ account →
      AllAccounts m o e old old_out old_err before last.world.now last.out.now last.err.now last.account.now →
      AllAccounts m o e old old_out old_err before world out err account
  accounts_given o e old old_out old_err before world out err account w p q r accounts =
      subst (λ (x : Account). AllAccounts m o e old old_out old_err before world out err x) r
      (subst (λ (x : E). AllAccounts m o e old old_out old_err before world out x last.account.now) q
      (subst (λ (x : O). AllAccounts m o e old old_out old_err before world x last.err.now last.account.now) p
      (subst (λ (x : W). AllAccounts m o e old old_out old_err before x last.out.now last.err.now last.account.now) w accounts)))

  pub stored_given : (world : W) (account : Account) (store : Store) → last.world.now ≡ world → last.account.now ≡ account →
      last.store.now ≡ store → StaysKept m last.world.now last.store.now last.account.now → StaysKept m world store account
  stored_given world account store w a st kept =
      subst (λ (x : Account). StaysKept m world store x) a
      (subst (λ (x : Store). StaysKept m world x last.account.now) st
      (subst (λ (x : W). StaysKept m x last.store.now last.account.now) w kept))

-- what is looked for as a site closes leaves its store as it was
pub kept_closed : {W O E : Type 0} (m : Meaning W) (before after : Site W O E) → after.world.now ≡ before.world.now → after.store.now ≡ before.store.now →
    after.account.now.is_store_shut ≡ before.account.now.is_store_shut → StaysKept m before.world.now before.store.now before.account.now →
    StaysKept m after.world.now after.store.now after.account.now
kept_closed {W} m before after world store shut kept unshut =
    subst (λ (x : W). IsKept m x after.store.now) (sym world)
    (subst (λ (x : Store). IsKept m before.world.now x) (sym store) (kept (sym shut ∙ unshut)))

-- and so it is with why an end came
pub reason_given : {W O E : Type 0} (last : Site W O E) (account : Account) (options : Options) → last.account.now ≡ account → last.options ≡ options →
    SiteHasReason last → HasReason options.keep account
reason_given last account options lent same reason =
    subst (λ (a : Account). HasReason options.keep a) lent (subst (λ (x : Options). HasReason x.keep last.account.now) same reason)
