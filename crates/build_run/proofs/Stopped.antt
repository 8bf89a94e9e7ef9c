-- A build tells the truth wherever it is stopped: from what stood before it to what stands behind it.
use Rattle.std.proofs.Common.{◌≡◌, List, [], true, None, length, refl, subst}
use Rattle.rule_graph.specs.Rules.{are_below}
use Rattle.sign_store.specs.Ends.{image_in}
use Rattle.sign_store.specs.Tables.{Map}
use Rattle.world_api.specs.Around.{Around, Entry, Running, IsRunningTarget}
use Rattle.world_api.specs.Banks.{Banks}
use Rattle.world_api.specs.Meaning.{Meaning, IsImage}
use Rattle.world_api.proofs.Moments.{surely, throughout, weakens}
use Rattle.build_model.specs.Rules.{Setting}
use Rattle.build_means.specs.Builds.{Wanted}
use Rattle.run_means.proofs.Keeping.{none_there}
use Rattle.turn_means.specs.Standing.{Outset}
use Rattle.build_run.specs.Safe.{BuildsSafely, HasOutset, IsAlongSome, IsKeptMoment, IsOfLawNow, IsSafeNow, StaysSafe, StaysTrue}
use Rattle.build_run.specs.Truth.{IsSafeMoment, TellsTruth}
use Rattle.build_run.specs.Watches.{Covers, IsWatched, Never, Watch}
use Rattle.build_run.specs.declared.site.Site.{Site}
use Rattle.build_run.proofs.Finishing.{first_along}
use Rattle.build_run.proofs.Safely.{moment}
use Rattle.build_run.proofs.Unmade.{since_here}

-- a build that has set out goes along
pub along_first : {W O E : Type 0} (m : Meaning W) (k : Watch) (site : Site W O E) → site.run.now.held ≡ [] → site.run.now.tickets ≡ [] →
    HasOutset m k site.graph.now site.run.now site.store.now site.world.now site.account.now site.options → IsAlongSome m k site
along_first m k site held tickets has = record {
  o = has.o;
  outset = has.ready.outset;
  covers = has.covers;
  along = first_along m has.o site has.ready held tickets;
}

-- nothing is said of any path in a build that began with this log
abbrev pub unwatched : Setting → List Entry → Watch
unwatched s start = record { setting = s; start = start; truth = true; scope = Never; path = []; had = None; goes = true; due = None }

pub never_covers : (s : Setting) (start : List Entry) (o : Outset) → o.before.log ≡ start → Covers (unwatched s start) o
never_covers s start o same = record { start = same; each = λ r starts minds among. absurd minds }

pub none_watched : (s : Setting) (around : Around) (map : Map) → IsWatched (unwatched s around.log) around map
none_watched s around map = record { may = λ minds. absurd minds; none = since_here around.log [] (map []) }

module _ {W : Type 0} (m : Meaning W) (k : Watch) where
  -- where nothing runs what stands is all that a stop may leave
  pub safe_first : (world : W) → (m.tells world → (m.around world).running ≡ []) → IsOfLawNow m k.setting world →
      (k.truth ≡ true → TellsTruth m k.setting world) →
      (m.tells world → (banks : Banks) → IsImage m world banks → IsWatched k (m.around world) (image_in banks)) → IsSafeNow m k world
  safe_first world idle law truth watched tells sure = record {
    of = law tells sure;
    images = λ true_of banks image. record {
      none = λ path target. none_there (subst (λ (runs : List Running). IsRunningTarget runs path) (idle tells) target).1;
      sound = truth true_of tells sure banks image (m.around world).tree (λ path free. refl);
    };
    watched = watched tells;
  }

true_last : {W : Type 0} (m : Meaning W) (s : Setting) (start : List Entry) (old new : W) → StaysSafe m (unwatched s start) old new → StaysTrue m s old new
true_last m s start old new stays = record {
  moments = surely m old new (IsSafeMoment s) (weakens m old new
      (λ a banks. m.sure new → IsKeptMoment (unwatched s start) a banks) (λ a banks. m.sure new → IsSafeMoment s a banks)
      (throughout m old new (IsKeptMoment (unwatched s start)) stays.moments) (λ t a banks kept sure. (kept sure).safe refl));
  now = λ tells sure banks image.
      let now = stays.now tells sure in
      (moment (unwatched s start) (m.around new) banks (λ truth. now.images truth banks image) (now.watched banks image)).safe refl;
  law = λ tells sure. (stays.now tells sure).of;
}

pub builds_safely : {W : Type 0} (m : Meaning W) (w : Wanted) (old new : W) → (m.tells old → (m.around old).running ≡ []) →
    ((s : Setting) → are_below (length w.graph.nodes) w.requested ≡ true → IsSafeNow m (unwatched s (m.around old).log) old →
    StaysSafe m (unwatched s (m.around old).log) old new) → BuildsSafely m w old new
builds_safely m w old new idle stays s law truth below =
    true_last m s (m.around old).log old new (stays s below (safe_first m (unwatched s (m.around old).log) old idle law (λ true_of. truth)
    (λ t banks image. none_watched s (m.around old) (image_in banks))))
