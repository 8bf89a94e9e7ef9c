-- Looks put together: one after another, and what one call makes of them.
use Rattle.std.proofs.Common.{◌≡◌, ◌∙◌, inl, inr, subst, sym, refl, arith}
use Rattle.std.specs.Prelude.{◌≢◌, Result, Ok, Err, OnOk, OnErr}
use Rattle.world_api.specs.declared.disk.Bank.{Bank}
use Rattle.world_api.specs.declared.refusal.AskRefusal.{AskRefusal}
use Rattle.world_api.specs.declared.refusal.AskRefusal.TheVariants as ask
use Rattle.world_api.specs.declared.refusal.ReadRefusal.{ReadRefusal}
use Rattle.world_api.specs.declared.refusal.ReadRefusal.TheVariants as read'
use Rattle.world_api.specs.declared.refusal.Fault.{Fault}
use Rattle.world_api.specs.Around.{Around, IsRunningTarget}
use Rattle.world_api.specs.Calls.{Asks}
use Rattle.world_api.specs.Causes.{TreeFails}
use Rattle.scons_base.specs.Rising.{Rose}
use Rattle.world_api.specs.Counts.{Counts}
use Rattle.world_api.specs.Meaning.{Meaning, Told, Recalls, BankKept, BanksKept, Throughout, Meanwhile}
use Rattle.world_api.specs.Looks.{IsSince, IsTreeAlone, Looks, LooksAtFiles}
use Rattle.world_api.proofs.Moments.{tells_on, recalls_on}

pub asks_same : (a : Around) → Asks a a
asks_same a = record {
  files = λ path free. refl;
  stamps = λ path free. refl;
  dirs = λ dir. refl;
  running = refl;
  log = refl;
  met = refl;
  law = refl;
  top = refl;
}

pub asks_joined : (a b c : Around) → Asks a b → Asks b c → Asks a c
asks_joined a b c p q = record {
  files = λ path free. q.files path (λ is. free (subst (λ r. IsRunningTarget r path) p.running is)) ∙ p.files path free;
  stamps = λ path free. q.stamps path (λ is. free (subst (λ r. IsRunningTarget r path) p.running is)) ∙ p.stamps path free;
  dirs = λ dir. q.dirs dir ∙ p.dirs dir;
  running = q.running ∙ p.running;
  log = q.log ∙ p.log;
  met = q.met ∙ p.met;
  law = q.law ∙ p.law;
  top = q.top ∙ p.top;
}

-- what is the same was asked
pub asks_of : (a b : Around) → b ≡ a → Asks a b
asks_of a b same = subst (λ c. Asks a c) (sym same) (asks_same a)

-- where nothing was at fault, none but the tree was
pub alone_same : (a b : Counts) → b ≡ a → IsTreeAlone a b
alone_same a b e = subst (λ c. IsTreeAlone a c) (sym e) (record { disk = refl; tree = omega arith; start = refl; action = refl })

pub alone_failed : (a b : Counts) → TreeFails a b → IsTreeAlone a b
alone_failed a b f = let up = f.rose.later in record { disk = f.disk; tree = up; start = f.start; action = f.action }

pub alone_joined : (a b c : Counts) → IsTreeAlone a b → IsTreeAlone b c → IsTreeAlone a c
alone_joined a b c p q = record { disk = q.disk ∙ p.disk; tree = omega arith; start = q.start ∙ p.start; action = q.action ∙ p.action }

module _ {W : Type 0} (m : Meaning W) where
  pub told_same : (w : W) → Told m w w
  told_same w = record { told = λ t. t; sure = λ t s. s; closed = refl }

  pub recalls_same : (w : W) → Recalls m w w
  recalls_same w = record { later = λ t. omega arith; keeps = λ t time around banks before left. left }

  pub bank_same : (bank : Bank) (w : W) → BankKept m bank w w
  bank_same bank w = record { same = refl; no_more = λ bytes image. image }

  pub bank_joined : (bank : Bank) (a b c : W) → BankKept m bank a b → BankKept m bank b c → BankKept m bank a c
  bank_joined bank a b c p q = record {
    same = q.same ∙ p.same;
    no_more = λ bytes image. p.no_more bytes (q.no_more bytes image);
  }

  pub since_same : (w : W) → IsSince m w w
  unfolding IsSince
  since_same w = λ time around banks left. inl left

  -- the second look began as the first one left it
  pub since_joined : (a b c : W) → Asks (m.around a) (m.around b) → BanksKept m a b → IsSince m a b → IsSince m b c → IsSince m a c
  unfolding IsSince
  since_joined a b c asks kept p q = λ time around banks left. elim (q time around banks left) [
    | inl was ↦ p time around banks was
    | inr at ↦ inr (asks_joined (m.around a) (m.around b) around asks at.0, λ bank. (kept bank).no_more (banks bank) (at.1 bank))
  ]

  -- one call
  pub since_call : (a b : W) → Throughout m a b (Meanwhile m a b) → (m.tells b → Asks (m.around a) (m.around b))
      → (m.tells b → BanksKept m a b) → m.tells b → IsSince m a b
  unfolding IsSince
  since_call a b run asks kept t = λ time around banks left. elim (run.before t time around banks left) [
    | inl was ↦ inl was
    | inr at ↦ elim at [
      | inl asked ↦ inr asked
      | inr here ↦ inr (subst (λ x. Asks (m.around a) x) (sym here.0) (asks t), λ bank. (kept t bank).no_more (banks bank) (here.1 bank))
    ]
  ]

  pub looks_same : (w : W) → Looks m w w
  looks_same w = record {
    told = told_same w;
    recalls = recalls_same w;
    around = λ t. asks_same (m.around w);
    banks = λ t bank. bank_same bank w;
    before = λ t. since_same w;
  }

  pub looks_joined : (a b c : W) → Looks m a b → Looks m b c → Looks m a c
  looks_joined a b c p q = record {
    told = tells_on m a b c p.told q.told;
    recalls = recalls_on m a b c q.told p.recalls q.recalls;
    around = λ t. asks_joined (m.around a) (m.around b) (m.around c) (p.around (q.told.told t)) (q.around t);
    banks = λ t bank. bank_joined bank a b c (p.banks (q.told.told t) bank) (q.banks t bank);
    before = λ t. since_joined a b c (p.around (q.told.told t)) (p.banks (q.told.told t)) (p.before (q.told.told t)) (q.before t);
  }

  pub files_same : (w : W) → LooksAtFiles m w w
  files_same w = record { looks = looks_same w; counts = alone_same (m.counts w) (m.counts w) refl }

  pub files_joined : (a b c : W) → LooksAtFiles m a b → LooksAtFiles m b c → LooksAtFiles m a c
  files_joined a b c p q = record {
    looks = looks_joined a b c p.looks q.looks;
    counts = alone_joined (m.counts a) (m.counts b) (m.counts c) p.counts q.counts;
  }

pub tree_rose : {X : Type 0} (a b : Counts) (r : Result X Fault) → OnErr r (TreeFails a b) → OnErr r (Rose a.tree_faults b.tree_faults)
tree_rose a b (Ok x) fails = tt
tree_rose a b (Err e) fails = fails.rose

-- one call that looked at a file
module _ {W : Type 0} (m : Meaning W) (a b : W) (told : Told m a b) (recalls : Recalls m a b)
    (around : m.tells b → Asks (m.around a) (m.around b)) (banks : m.tells b → BanksKept m a b)
    (time : Throughout m a b (Meanwhile m a b)) where
  looked : IsTreeAlone (m.counts a) (m.counts b) → LooksAtFiles m a b
  looked counts = record {
    looks = record { told = told; recalls = recalls; around = around; banks = banks; before = since_call m a b time around banks };
    counts = counts;
  }

  pub asked : {X : Type 0} (r : Result X AskRefusal) → (r ≢ Err ask.Fault → m.counts b ≡ m.counts a)
      → (r ≡ Err ask.Fault → TreeFails (m.counts a) (m.counts b)) → LooksAtFiles m a b
  asked (Ok x) kept rose = looked (alone_same _ _ (kept (λ e. cc)))
  asked (Err ask.Fault) kept rose = looked (alone_failed _ _ (rose refl))
  asked (Err ask.Memory) kept rose = looked (alone_same _ _ (kept (λ e. cc)))

  pub read : {X : Type 0} (r : Result X ReadRefusal) → (r ≢ Err read'.Fault → m.counts b ≡ m.counts a)
      → (r ≡ Err read'.Fault → TreeFails (m.counts a) (m.counts b)) → LooksAtFiles m a b
  read (Ok x) kept rose = looked (alone_same _ _ (kept (λ e. cc)))
  read (Err read'.Fault) kept rose = looked (alone_failed _ _ (rose refl))
  read (Err (read'.TooLarge size)) kept rose = looked (alone_same _ _ (kept (λ e. cc)))
  read (Err read'.Memory) kept rose = looked (alone_same _ _ (kept (λ e. cc)))

  pub seen_kind : {X : Type 0} (r : Result X Fault) → OnOk r (m.counts b ≡ m.counts a)
      → OnErr r (TreeFails (m.counts a) (m.counts b)) → LooksAtFiles m a b
  seen_kind (Ok x) kept rose = looked (alone_same _ _ kept)
  seen_kind (Err e) kept rose = looked (alone_failed _ _ rose)
