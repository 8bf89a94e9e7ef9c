-- What calls between a build's steps change.
use Rattle.std.proofs.Common.{◌≡◌, Result, Ok, Err, OnOk, OnErr, List, [], ◌∷◌, Contains, refl, subst, sym}
use Rattle.world_api.specs.Around.{Around}
use Rattle.world_api.specs.Calls.{Asks, MakesDir, Removes, Starts}
use Rattle.world_api.specs.Laws.{StartsJob}
use Rattle.world_api.specs.Meaning.{Meaning, Told}
use Rattle.world_api.specs.declared.job.Job.{Job}
use Rattle.build_model.specs.Rules.{Path, Among, here, there}
use Rattle.run_means.specs.Clears.{Clears}
use Rattle.run_means.proofs.Clearing.{calls_clear}
use Rattle.run_means.proofs.Keeping.{none_there}
use Rattle.run_means.proofs.Lists.{contains_among}
use Rattle.build_run.specs.Goings.{ClearsAt, LaunchesAt}

pub clears_same : (paths : List Path) (old new : Around) → new ≡ old → Clears paths old new
clears_same paths old new same = subst (λ a. Clears paths old a) (sym same) (record {
  files = λ path free out. refl;
  stamps = λ path free out. refl;
  running = refl;
  log = refl;
  met = refl;
  law = refl;
})

pub clears_more : (some more : List Path) (old new : Around) → ((path : Path) → Contains some path → Contains more path) →
    Clears some old new → Clears more old new
clears_more some more old new within clears = record {
  files = λ path free out. clears.files path free (λ m. out (within path m));
  stamps = λ path free out. clears.stamps path free (λ m. out (within path m));
  running = clears.running;
  log = clears.log;
  met = clears.met;
  law = clears.law;
}

module _ {W : Type 0} (m : Meaning W) (paths : List Path) where
  -- no call was made
  pub clears_here : (world : W) → ClearsAt m paths world world
  clears_here world t = clears_same paths (m.around world) (m.around world) refl

  pub clears_asked : (old new : W) → (m.tells new → Asks (m.around old) (m.around new)) → ClearsAt m paths old new
  clears_asked old new asks t = (calls_clear paths).looks (m.around old) (m.around new) (asks t)

  pub clears_made : (dir : Path) (old new : W) → (m.tells new → MakesDir dir (m.around old) (m.around new)) → ClearsAt m paths old new
  clears_made dir old new makes t = (calls_clear paths).makes_dir dir (m.around old) (m.around new) (makes t)

  pub clears_removed : (path : Path) (old new : W) → Contains paths path →
      (m.tells new → Removes path (m.around old) (m.around new)) → ClearsAt m paths old new
  clears_removed path old new among removes t = (calls_clear paths).removes path (m.around old) (m.around new) among (removes t)

  pub clears_on : (old mid new : W) → Told m mid new → ClearsAt m paths old mid → ClearsAt m paths mid new → ClearsAt m paths old new
  clears_on old mid new told first then t =
      (calls_clear paths).joined (m.around old) (m.around mid) (m.around new) (first (told.told t)) (then t)

  pub clears_around : (old new : W) → (m.tells new → m.around new ≡ m.around old) → ClearsAt m paths old new
  clears_around old new same t = clears_same paths (m.around old) (m.around new) (same t)

  -- one of these paths
  pub clears_one : (path : Path) (old new : W) → Contains paths path → ClearsAt m (path ∷ []) old new → ClearsAt m paths old new
  clears_one path old new among clears t =
      clears_more (path ∷ []) paths (m.around old) (m.around new)
      (λ q n. subst (λ p. Contains paths p) (sym (only_one (contains_among (path ∷ []) n))) among) (clears t)
    where
      only_one : {x y : Path} → Among x (y ∷ []) → x ≡ y
      only_one here = refl
      only_one (there n) = elim n [ ]

  pub clears_none : (old new : W) → ClearsAt m [] old new → ClearsAt m paths old new
  clears_none old new clears t = clears_more [] paths (m.around old) (m.around new) (λ q n. none_there n) (clears t)

  pub clears_within : (more : List Path) (old new : W) → ((path : Path) → Contains paths path → Contains more path) →
      ClearsAt m paths old new → ClearsAt m more old new
  clears_within more old new within clears t = clears_more paths more (m.around old) (m.around new) within (clears t)

-- what is so whatever came of a call is so where it was refused
pub held_err : {T E P : Type 0} (result : Result T E) → P → OnErr result P
held_err (Ok value) p = tt
held_err (Err end) p = p

-- a job started behind the clearing of its targets
pub launched : {W T E : Type 0} (m : Meaning W) (job : Job) (old mid new : W) (result : Result T E) → Told m mid new →
    ClearsAt m job.targets old mid → m.counts mid ≡ m.counts old → (m.tells new → OnOk result (StartsJob m job mid new)) →
    OnOk result (LaunchesAt m job old new)
launched m job old mid new (Err end) told clears same starts = tt
launched m job old mid new (Ok value) told clears same starts = λ t. record {
  mid = m.around mid;
  clears = clears (told.told t);
  starts = subst (λ counts. Starts job counts (m.around mid) (m.around new)) same (starts t);
}

-- or none did
pub refused : {W T E : Type 0} (m : Meaning W) (job : Job) (old mid new : W) (result : Result T E) → Told m mid new →
    ClearsAt m job.targets old mid → OnErr result (ClearsAt m [] mid new) → OnErr result (ClearsAt m job.targets old new)
refused m job old mid new (Ok value) told clears asks = tt
refused m job old mid new (Err end) told clears asks =
    clears_on m job.targets old mid new told clears (clears_none m job.targets mid new asks)
