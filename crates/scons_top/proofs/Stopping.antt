-- What stands tells the truth wherever the steps of a run are stopped.
use Rattle.std.proofs.Common.{◌≡◌, ◌∙◌, ◌⊎◌, inl, inr, ap, refl, sym, subst, List, []}
use Rattle.world_api.specs.Around.{Around, Running, IsRunningTarget}
use Rattle.world_api.specs.Banks.{Banks}
use Rattle.world_api.specs.Calls.{Asks, Removes}
use Rattle.world_api.specs.Laws.{HasOnlyNow}
use Rattle.world_api.specs.Looks.{IsSince, Looks}
use Rattle.world_api.specs.Meaning.{Meaning, BanksKept, IsImage, Meanwhile, Throughout, Told}
use Rattle.world_api.proofs.Moments.{sure_begins, sure_chains, surely, weakens, world_call}
use Rattle.sign_store.specs.Ends.{IsLeftOr, image_in}
use Rattle.sign_store.specs.Tables.{Map}
use Rattle.build_model.specs.Records.{AreSound}
use Rattle.build_model.specs.Rules.{Bytes, Path, Setting, Tree}
use Rattle.build_means.specs.Graphs.{act_by}
use Rattle.build_means.specs.Records.{records_in}
use Rattle.build_files.proofs.Left.{none_runs}
use Rattle.turn_means.specs.Safety.{IsLeft}
use Rattle.turn_means.proofs.Safety.{calls, stop}
use Rattle.build_run.specs.Safe.{IsOfLaw, IsOfLawNow, StaysTrue}
use Rattle.build_run.specs.Truth.{IsSafeMoment, TellsTruth}
use Rattle.scons_top.specs.Builds.{BeginsStore}
use Rattle.scons_top.specs.Stopping.{RunsSafely}

module _ (s : Setting) where
  -- a look changes no file but those that running jobs write, of which a stop may leave anything
  asked : (a b : Around) (banks : Banks) → Asks a b → IsSafeMoment s a banks → IsSafeMoment s b banks
  asked a b banks asks safe left is_left =
      subst (λ (met : List Bytes). AreSound s met left (records_in (image_in banks))) (sym asks.met)
      (safe left (λ path free.
      let still = λ (target : IsRunningTarget b.running path).
      free (subst (λ (runs : List Running). IsRunningTarget runs path) asks.running target) in
      is_left path still ∙ asks.files path free))

  -- of a file that was removed nothing is asked
  removed : (a b : Around) (banks : Banks) (path : Path) → a.running ≡ [] → Removes path a b → IsSafeMoment s a banks
      → IsSafeMoment s b banks
  removed a b banks path idle removes safe left is_left =
      let map = image_in banks in
      stop s map b left ((calls s map).removes path a b removes (record {
        none = λ other target. absurd (none_runs a.running other idle target);
        sound = safe a.tree (λ other free. refl);
      })) is_left

  law_on : (a b : Around) → b.law ≡ a.law → IsOfLaw s a → IsOfLaw s b
  law_on a b same of = record { acts = subst (λ l. s.act ≡ act_by l) (sym same) of.acts; digests = of.digests }

module _ {W : Type 0} (m : Meaning W) where
  -- nothing was done
  pub steps_here : HasOnlyNow m → (w : W) → RunsSafely m w w
  steps_here only w s law truth = record { moments = sure_begins m w (IsSafeMoment s) (only w) truth; now = truth; law = law }

  -- one step after another
  pub steps_on : (old mid new : W) → Told m mid new → RunsSafely m old mid → RunsSafely m mid new → RunsSafely m old new
  steps_on old mid new told first then s law truth =
      let one = first s law truth in
      let two = then s one.law one.now in
      record { moments = sure_chains m old mid new (IsSafeMoment s) told one.moments two.moments; now = two.now; law = two.law }

  -- looks, many or none, keep what is true
  pub steps_looked : HasOnlyNow m → (old new : W) → Looks m old new → RunsSafely m old new
  unfolding IsSince
  steps_looked only old new looks s law truth = record {
    moments = surely m old new (IsSafeMoment s) (record {
      told = looks.told.told;
      each = λ t a banks left sure. elim (looks.before t (m.clock old) a banks left) [
        | inl was ↦
            (let now = only old (looks.told.told t) a banks was in
            subst (λ (x : Around). IsSafeMoment s x banks) (sym now.0) (truth (looks.told.told t) (looks.told.sure t sure) banks now.1))
        | inr at ↦ at_look t sure a banks at.0 at.1
      ];
      before = λ t time a banks left. elim (looks.before t time a banks left) [
        | inl was ↦ inl was
        | inr at ↦ inr (λ sure. at_look t sure a banks at.0 at.1)
      ];
      now = λ t banks image sure. after t sure banks image;
    });
    now = after;
    law = λ t sure. law_on s (m.around old) (m.around new) (looks.around t).law (law (looks.told.told t) (looks.told.sure t sure));
  }
    where
      at_look : m.tells new → m.sure new → (a : Around) (banks : Banks) → Asks (m.around old) a → IsImage m old banks
          → IsSafeMoment s a banks
      at_look t sure a banks asks image =
          asked s (m.around old) a banks asks (truth (looks.told.told t) (looks.told.sure t sure) banks image)

      after : TellsTruth m s new
      after t sure banks image =
          at_look t sure (m.around new) banks (looks.around t) (λ bank. (looks.banks t bank).no_more (banks bank) (image bank))

  -- looks behind a run
  pub runs_looked : HasOnlyNow m → (old mid new : W) → RunsSafely m old mid → Looks m mid new → RunsSafely m old new
  runs_looked only old mid new first looks = steps_on old mid new looks.told first (steps_looked only mid new looks)

  -- a removal while nothing runs
  pub steps_removed : (old new : W) (path : Path) → (m.tells old → (m.around old).running ≡ []) → Told m old new
      → (m.tells new → BanksKept m old new) → Throughout m old new (Meanwhile m old new)
      → (m.tells new → Removes path (m.around old) (m.around new)) → RunsSafely m old new
  steps_removed old new path idle told kept time removes s law truth = record {
    moments = surely m old new (IsSafeMoment s) (world_call m old new (λ a banks. m.sure new → IsSafeMoment s a banks) time
        (λ t a banks asks image sure. asked s (m.around old) a banks asks (truth (told.told t) (told.sure t sure) banks image))
        (λ t banks image sure. after t sure banks image));
    now = after;
    law = λ t sure. law_on s (m.around old) (m.around new) (removes t).law (law (told.told t) (told.sure t sure));
  }
    where
      after : TellsTruth m s new
      after t sure banks image = removed s (m.around old) (m.around new) banks path (idle (told.told t)) (removes t)
          (truth (told.told t) (told.sure t sure) banks (λ bank. (kept t bank).no_more (banks bank) (image bank)))

  -- The store is begun: the banks are as a stop could have left them before, or stand for what they were seen to stand for then.
  pub steps_begun : ((w : W) → m.tells w → IsImage m w (m.seen w)) → (old new : W) → Told m old new → BeginsStore m old new
      → RunsSafely m old new
  steps_begun reads old new told begins s law truth = record {
    moments = surely m old new (IsSafeMoment s) (weakens m old new (IsLeftOr m old (image_in (m.seen old)))
        (λ a banks. m.sure new → IsSafeMoment s a banks) begins.moments (λ t a banks at sure. as_left t sure a banks at));
    now = λ t sure banks image. as_left t sure (m.around new) banks (begins.moments.now t banks image);
    law = λ t sure.
        law_on s (m.around old) (m.around new) (ap (λ (a : Around). a.law) (begins.around t)) (law (told.told t) (told.sure t sure));
  }
    where
      either : m.tells new → m.sure new → (banks : Banks) → IsImage m old banks ⊎ (image_in banks ≡ image_in (m.seen old))
          → IsSafeMoment s (m.around old) banks
      either t sure banks (inl image) = truth (told.told t) (told.sure t sure) banks image
      either t sure banks (inr same) =
          subst (λ (map : Map). (left : Tree) → IsLeft (m.around old) left → AreSound s (m.around old).met left (records_in map)) (sym same)
          (truth (told.told t) (told.sure t sure) (m.seen old) (reads old (told.told t)))

      as_left : m.tells new → m.sure new → (a : Around) (banks : Banks) → IsLeftOr m old (image_in (m.seen old)) a banks
          → IsSafeMoment s a banks
      as_left t sure a banks at = subst (λ (x : Around). IsSafeMoment s x banks) (sym at.same) (either t sure banks at.left)
