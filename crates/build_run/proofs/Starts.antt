-- What a build by content may start is needed and stale, and its record is that of the clean build.
use Rattle.std.proofs.Common.{◌≡◌, ◌∙◌, ◌+◌, ◌*◌, None, ap, length, sym, subst}
use Rattle.world_api.specs.Reads.{stamp_of}
use Rattle.build_model.specs.Contents.{View, dependencies}
use Rattle.build_model.specs.Graphs.{IsGraph, clean_build}
use Rattle.build_model.specs.Headline.{IsNeeded, IsStaleBefore, clean_record, no_stamps}
use Rattle.build_model.specs.Laws.{IsSeenSo}
use Rattle.build_model.specs.Laws as model
use Rattle.build_model.specs.Records.{AreDistinct, AreSound, dependency_of, known_digest, record_of, stamp_kept}
use Rattle.build_model.specs.Rules.{Rule, Record, Setting, Stamps, content}
use Rattle.build_model.specs.Stale.{IsStale}
use Rattle.build_model.specs.Steps.{Build, present_record, settled}
use Rattle.build_model.proofs.Clean.{settled_agrees}
use Rattle.build_model.proofs.Lists.{same_map}
use Rattle.build_model.proofs.Made.{due_stale}
use Rattle.build_model.proofs.Placed.{high_enough, lawful}
use Rattle.build_model.proofs.Ready.{Agrees, prepared_record, wanted_needed}
use Rattle.build_means.specs.Builds.{graph_in}
use Rattle.build_means.specs.Records.{records_in}
use Rattle.build_means.proofs.Readings.{is_graph}
use Rattle.build_means.proofs.Testing.{tests_due}
use Rattle.turn_means.specs.Recording.{build_at}
use Rattle.turn_means.specs.Standing.{Outset, IsOutset, setting_at}
use Rattle.turn_means.proofs.Running.{seen_so}
use Rattle.build_run.specs.Watches.{MayStart}

-- the content decider keeps no stamps
unstamped : (s : Setting) (r : Rule) (view : View) (stamps : Stamps) → r.decider ≡ content →
    record_of s r view stamps ≡ record_of s r view no_stamps
unstamped s r view stamps by =
    ap (λ l. record { work = r.work; hash = s.hash; signed = r.signed; targets = r.targets; dependencies = l })
    (same_map (dependency_of s r view stamps) (dependency_of s r view no_stamps) (dependencies s view r)
    (λ p m. ap (λ x. record { name = p; digest = known_digest s (view p); stamp = x })
    (ap (λ d. stamp_kept d (stamps p)) by ∙ ap (λ d. stamp_kept d None) (sym by))))

module _ (o : Outset) (outset : IsOutset o) (r : Rule) (starts : MayStart o r)
    (sound : AreSound (setting_at o) starts.around.met o.before.tree (records_in o.kept)) (distinct : AreDistinct (setting_at o) starts.around.met)
    (decider : (x : Rule) → IsNeeded (graph_in o.wanted o.before) (build_at o starts.around) x → x.decider ≡ content) where
  abbrev b : Build
  b = build_at o starts.around

  abbrev clean : View
  clean = clean_build (graph_in o.wanted o.before) o.before.tree

  seen : IsSeenSo (setting_at o) b starts.around.tree (stamp_of starts.around) starts.past
  seen = seen_so o outset starts.jobs starts.around starts.past starts.way

  graph : IsGraph (graph_in o.wanted o.before)
  graph = is_graph o.wanted.graph outset.reading o.before.law o.wanted.hash o.before.tree

  by : model.IsByContent (setting_at o) b (2 * length (graph_in o.wanted o.before).rules + 1)
  by = record {
    tests = λ x needed. tests_due o.wanted.graph o.before.law o.wanted.hash o.before.tree o.before.tree b x;
    distinct = distinct;
    sound = sound;
    decider = decider;
  }

  agrees : Agrees (setting_at o) b (settled starts.past) clean
  agrees = settled_agrees (setting_at o) b (lawful (graph_in o.wanted o.before) o.before.tree graph) seen.build.sources
      (2 * length (graph_in o.wanted o.before).rules + 1) by starts.past seen.build.run
      (high_enough (graph_in o.wanted o.before) b starts.past graph seen.build.run)

  pub needed_then : IsNeeded (graph_in o.wanted o.before) b r
  needed_then = wanted_needed (setting_at o) b starts.may.decided.prepared.wanted agrees

  pub clean_then : present_record (setting_at o) b r ≡ clean_record (graph_in o.wanted o.before) b r
  clean_then = sym (prepared_record (setting_at o) b r starts.may.decided.prepared clean agrees)
      ∙ unstamped (setting_at o) r clean (stamp_of starts.around) (decider r needed_then)

  pub stale_then : IsStaleBefore (graph_in o.wanted o.before) b r
  stale_then = subst (λ (now : Record). IsStale b.before b.records r now) clean_then
      (due_stale (decider r needed_then) ((by.tests r needed_then).due starts.may.start.due))
