-- That a run has no record of what it began to make, until that is made: its looks, the beginning of its store, and its build, put together.
use Rattle.std.proofs.Common.{◌≡◌, ◌∙◌, ◌++◌, [], List, append-nil, ap, inl, inr, sym, subst}
use Rattle.world_api.specs.Around.{Around, Entry}
use Rattle.world_api.specs.Banks.{Banks}
use Rattle.world_api.specs.Laws.{HasOnlyNow}
use Rattle.world_api.specs.Looks.{IsSince, Looks}
use Rattle.world_api.specs.Meaning.{Meaning, IsImage, Surely, Throughout, Told}
use Rattle.world_api.proofs.Moments.{sure_chains, surely, throughout, weakens}
use Rattle.sign_store.specs.Ends.{IsLeftOr, image_in}
use Rattle.sign_store.specs.Tables.{Map}
use Rattle.build_model.specs.Rules.{Path}
use Rattle.build_run.specs.Forgetting.{HasForgotten}
use Rattle.build_run.specs.Unmade.{HasNoneUnmade, Since}
use Rattle.scons_top.specs.Builds.{BeginsStore}
use Rattle.scons_top.proofs.Building.{records_kept}

-- the banks have none of a path that is unmade by what the log went on with from here
abbrev FindsNone : List Entry → Path → Around → Banks → Type 0
FindsNone start path around banks = Since start around.log (HasNoneUnmade path (image_in banks path))

-- where it didn't go on nothing was started
none_yet : (start : List Entry) (path : Path) (around : Around) (banks : Banks) → around.log ≡ start → FindsNone start path around banks
none_yet start path around banks same = record { entries = []; grown = same ∙ sym (append-nil start); so = λ u. elim u.started [ ] }

-- the same log
same_log : (start : List Entry) (path : Path) (a b : Around) (banks : Banks) → b.log ≡ a.log → FindsNone start path a banks → FindsNone start path b banks
same_log start path a b banks same h = record { entries = h.entries; grown = same ∙ h.grown; so = h.so }

module _ {W : Type 0} (m : Meaning W) where
  -- ---- moments at which nothing is started

  abbrev IsQuiet : W → Around → Banks → Type 0
  IsQuiet old around banks = around.log ≡ (m.around old).log

  abbrev IsLooked : W → Around → Banks → Type 0
  IsLooked old around banks = IsQuiet old around banks × IsImage m old banks

  looked_at : HasOnlyNow m → (old new : W) → Looks m old new → Throughout m old new (IsLooked old)
  unfolding IsSince
  looked_at only old new looks = record {
    told = looks.told.told;
    each = λ t around banks left. elim (looks.before t (m.clock old) around banks left) [
      | inl was ↦ (let now = only old (looks.told.told t) around banks was in (ap (λ (x : Around). x.log) now.0, now.1))
      | inr at ↦ (at.0.log, at.1)
    ];
    before = λ t time around banks left. elim (looks.before t time around banks left) [
      | inl was ↦ inl was
      | inr at ↦ inr (at.0.log, at.1)
    ];
    now = λ t banks image. ((looks.around t).log, λ bank. (looks.banks t bank).no_more (banks bank) (image bank));
  }

  -- ---- before a build

  module _ (old begun new : W) (told : Told m begun new) (same : (m.around begun).log ≡ (m.around old).log) where
    forgets_behind : Throughout m old begun (IsQuiet old) → HasForgotten m begun new → HasForgotten m old new
    forgets_behind quiet h = record {
      throughout = λ path. sure_chains m old begun new (FindsNone (m.around old).log path) told
          (surely m old begun (FindsNone (m.around old).log path) (weakens m old begun (IsQuiet old)
          (λ around banks. m.sure begun → FindsNone (m.around old).log path around banks) quiet
          (λ t around banks is sure. none_yet (m.around old).log path around banks is)))
          (subst (λ (log : List Entry). Surely m begun new (FindsNone log path)) same (h.throughout path));
      entries = h.entries;
      grown = h.grown ∙ ap (λ (log : List Entry). log ++ h.entries) same;
      failed = h.failed;
    }

  -- behind the beginning of the store
  pub forgets_begun : (old begun new : W) → BeginsStore m old begun → Told m begun new → m.tells begun → HasForgotten m begun new → HasForgotten m old new
  forgets_begun old begun new begins told here h =
      forgets_behind old begun new told (ap (λ (x : Around). x.log) (begins.around here))
      (weakens m old begun (IsLeftOr m old (image_in (m.seen old))) (IsQuiet old) begins.moments
      (λ t around banks at. ap (λ (x : Around). x.log) at.same)) h

  -- behind looks
  pub forgets_looked : HasOnlyNow m → (a b new : W) → Looks m a b → Told m b new → m.tells b → HasForgotten m b new → HasForgotten m a new
  forgets_looked only a b new looks told here h =
      forgets_behind a b new told (looks.around here).log
      (weakens m a b (IsLooked a) (IsQuiet a) (looked_at only a b looks) (λ t around banks at. at.0)) h

  -- ---- looks behind a build

  pub forgets_on : HasOnlyNow m → (old a b : W) → Looks m a b → m.tells b → HasForgotten m old a → HasForgotten m old b
  forgets_on only old a b looks here h = record {
    throughout = λ path. sure_chains m old a b (FindsNone (m.around old).log path) looks.told (h.throughout path)
        (surely m a b (FindsNone (m.around old).log path) (weakens m a b (IsLooked a)
        (λ around banks. m.sure b → FindsNone (m.around old).log path around banks) (looked_at only a b looks)
        (λ t around banks at sure. same_log (m.around old).log path (m.around a) around banks at.0
        ((throughout m old a (FindsNone (m.around old).log path) (h.throughout path)).now (looks.told.told t) banks at.1 (looks.told.sure t sure)))));
    entries = h.entries;
    grown = (looks.around here).log ∙ h.grown;
    failed = λ path is. let forgotten = h.failed path is in record {
      images = λ banks image. forgotten.images banks (λ bank. (looks.banks here bank).no_more (banks bank) (image bank));
      reads = ap (λ (map : Map). map path) (records_kept m a b (looks.banks here)) ∙ forgotten.reads;
    };
  }
