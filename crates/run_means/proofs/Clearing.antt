-- What calls change, as changes of a course: only targets of rules whose action runs.
use Rattle.std.proofs.Common.{◌≡◌, ◌≢◌, List, Contains, sym, subst, ap, ◌∙◌}
use Rattle.std.specs.Option.{option_map}
use Rattle.world_api.specs.Around.{Around, Running, IsRunningTarget}
use Rattle.world_api.specs.Calls.{Asks, MakesDir, Removes}
use Rattle.world_api.specs.Reads.{stamp_of}
use Rattle.build_model.specs.Rules.{Path, Tree, Stamps}
use Rattle.build_model.specs.Moments.{Job as Given, MayWrite, Changes}
use Rattle.build_model.specs.Steps.{Step}
use Rattle.run_means.specs.Clears.{Clears, CallsAreClears}

stamp_same : (old new : Around) (p : Path) → old.tree p ≡ new.tree p → old.stamps p ≡ new.stamps p →
    stamp_of old p ≡ stamp_of new p
stamp_same old new p file stamp =
    ap (option_map (λ bytes. old.stamps p)) file ∙ ap (λ n. option_map (λ bytes. n) (new.tree p)) stamp

-- Where only targets of running jobs and these paths change, and actions that run may write all of these, that is a
-- change of a course.
pub changed : {jobs : List Given} {past : List Step} (old new : Around) (running : List Running) (paths : List Path) →
    ((p : Path) → IsRunningTarget running p → MayWrite jobs past p) →
    ((p : Path) → Contains paths p → MayWrite jobs past p) →
    ((p : Path) → (IsRunningTarget running p → ⊥) → (Contains paths p → ⊥) → new.tree p ≡ old.tree p) →
    ((p : Path) → (IsRunningTarget running p → ⊥) → (Contains paths p → ⊥) → new.stamps p ≡ old.stamps p) →
    Changes jobs past old.tree new.tree (stamp_of old) (stamp_of new)
changed old new running paths run_may these_may files stamps = record {
  contents = λ p out. sym (files p (λ t. out (run_may p t)) (λ t. out (these_may p t)));
  times = λ p out. stamp_same old new p (sym (files p (λ t. out (run_may p t)) (λ t. out (these_may p t))))
      (sym (stamps p (λ t. out (run_may p t)) (λ t. out (these_may p t))));
}

pub changes_join : {jobs : List Given} {past : List Step} {t u v : Tree} {stamps mid later : Stamps} →
    Changes jobs past t u stamps mid → Changes jobs past u v mid later → Changes jobs past t v stamps later
changes_join first second = record {
  contents = λ p out. first.contents p out ∙ second.contents p out;
  times = λ p out. first.times p out ∙ second.times p out;
}

other_than : (paths : List Path) {path other : Path} → Contains paths path → (Contains paths other → ⊥) → other ≢ path
other_than paths among out same = out (subst (λ p. Contains paths p) (sym same) among)

module _ (paths : List Path) where
  looks : (old new : Around) → Asks old new → Clears paths old new
  looks old new asks = record {
    files = λ p out others. asks.files p out;
    stamps = λ p out others. asks.stamps p out;
    running = asks.running;
    log = asks.log;
    met = asks.met;
    law = asks.law;
  }

  makes_dir : (dir : Path) (old new : Around) → MakesDir dir old new → Clears paths old new
  makes_dir dir old new makes = record {
    files = λ p out others. makes.files p out;
    stamps = λ p out others. makes.stamps p out;
    running = makes.running;
    log = makes.log;
    met = makes.met;
    law = makes.law;
  }

  removes : (path : Path) (old new : Around) → Contains paths path → Removes path old new → Clears paths old new
  removes path old new among gone = record {
    files = λ p out others. gone.others p (other_than paths among others) out;
    stamps = λ p out others. gone.stamps p (other_than paths among others) out;
    running = gone.running;
    log = gone.log;
    met = gone.met;
    law = gone.law;
  }

  joined : (old mid new : Around) → Clears paths old mid → Clears paths mid new → Clears paths old new
  joined old mid new first second =
      let still : (p : Path) → (IsRunningTarget old.running p → ⊥) → IsRunningTarget mid.running p → ⊥ =
      λ p out target. out (subst (λ runs. IsRunningTarget runs p) first.running target) in
      record {
        files = λ p out others. second.files p (still p out) others ∙ first.files p out others;
        stamps = λ p out others. second.stamps p (still p out) others ∙ first.stamps p out others;
        running = second.running ∙ first.running;
        log = second.log ∙ first.log;
        met = second.met ∙ first.met;
        law = second.law ∙ first.law;
      }

pub calls_clear : CallsAreClears
calls_clear paths = record {
  looks = looks paths;
  makes_dir = makes_dir paths;
  removes = removes paths;
  joined = joined paths;
}
