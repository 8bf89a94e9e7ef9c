-- That no job of a rule has started that couldn't be started, that one that starts has the first target that its rule has, and that what
-- a rule lacks is missing.
use Rattle.std.proofs.Common.{◌≡◌, ◌∙◌, ◌<◌, ◌∷◌, [], ℕ, true, false, List, Option, Some, None, Contains, ap, arith, length, refl, subst, sym}
use Rattle.std.specs.Prelude.{slice_get}
use Rattle.std.specs.Option.{option_and_then}
use Rattle.scons_base.specs.declared.ids.NodeId.{NodeId}
use Rattle.scons_base.specs.declared.ids.RuleId.{RuleId}
use Rattle.world_api.specs.Around.{Around}
use Rattle.world_api.specs.Meaning.{Meaning}
use Rattle.world_api.specs.declared.job.Job.{Job}
use Rattle.deciders.specs.declared.recorded.Rec.{Rec}
use Rattle.rule_graph.specs.declared.rule.Rule as declared
use Rattle.rule_graph.specs.Graphs.{RuleGraph, path_of}
use Rattle.rule_graph.specs.Rules.{are_below}
use Rattle.build_model.specs.Rules.{Path, Rule, Record, Among, here}
use Rattle.build_model.specs.Moments.{Job as Given}
use Rattle.build_model.specs.Steps.{Step}
use Rattle.build_model.proofs.Lists.{among_same, none_some, some_same}
use Rattle.build_means.specs.Builds.{jobs_at_once}
use Rattle.build_means.specs.Grown.{Begun, begun_setting, rule_numbered}
use Rattle.build_means.proofs.Growing.{are_rules}
use Rattle.build_means.proofs.Readings.{node_path, target_rule}
use Rattle.build_files.specs.Firsts.{first_target_of}
use Rattle.plan_means.specs.Planning.{IsGraphNow}
use Rattle.plan_means.proofs.Single.{numbered_stands}
use Rattle.run_means.specs.Ways.{IsWay}
use Rattle.run_means.proofs.Lists.{among_contains}
use Rattle.turn_means.specs.Laws.{IsJobFrom, is_due_now}
use Rattle.turn_means.specs.Standing.{Outset, IsOutset, Knows, begun_at, setting_at}
use Rattle.turn_means.proofs.Deciding.{may_begin}
use Rattle.turn_means.proofs.Running.{begun_place, makes_each, seen_so}
use Rattle.build_run.specs.Along.{IsAlong, IsDue, standing_of}
use Rattle.build_run.specs.Faulted.{IsFirstTarget, IsUnstarted}
use Rattle.build_run.specs.Unmade.{Since}
use Rattle.build_run.specs.Watches.{MayStart, Watch, Never}
use Rattle.build_run.specs.declared.site.Site.{Site}
use Rattle.build_run.proofs.Deciding.{due_allows}
use Rattle.build_run.proofs.Skipping.{named_first}

-- ---- first targets

first_among : (paths : List Path) (path : Path) → slice_get paths 0 ≡ Some path → Among path paths
first_among [] path e = none_some e
first_among (p ∷ paths) path e = subst (λ (q : Path). Among q (p ∷ paths)) (some_same e) here

front_below : (n : ℕ) (node : NodeId) (nodes : List NodeId) → are_below n (node ∷ nodes) ≡ true → node.0 < n
front_below n node nodes e = grind arith

-- a rule of a graph has a first target, and it is a node
module _ (b : Begun) (g : RuleGraph) (now : IsGraphNow b g) (number : ℕ) (r : Rule) (is : rule_numbered b g number ≡ Some r) where
  named_at : (of : declared.Rule) → slice_get g.rules number ≡ Some of → (targets : List NodeId) → of.targets ≡ targets → 0 < length targets →
      are_below (length g.nodes) targets ≡ true → (target : Path) × (first_target_of g number ≡ Some target)
  named_at of at [] same some below = absurd (omega (arith, some))
  named_at of at (node ∷ targets) same some below = (
    path_of g.nodes node,
    ap (λ (o : Option declared.Rule). option_and_then (λ x. option_and_then (λ n. slice_get g.nodes n.0) (slice_get x.targets 0)) o) at
        ∙ ap (λ (l : List NodeId). option_and_then (λ n. slice_get g.nodes n.0) (slice_get l 0)) same
        ∙ node_path g now.reading node (front_below (length g.nodes) node targets below),
  )

  pub has_first : (target : Path) × (first_target_of g number ≡ Some target) × (slice_get r.targets 0 ≡ Some target)
  has_first =
      let there = numbered_stands b g now number r is in
      let valid = now.reading.named.each_rule number there.of there.at in
      let named = named_at there.of there.at there.of.targets refl valid.has_target valid.targets in
      (named.0, named.1, named_first b g now number r named.0 is named.1)

  made_at : (of : declared.Rule) → slice_get g.rules number ≡ Some of → (targets : List NodeId) → of.targets ≡ targets → (target : Path) →
      option_and_then (λ n. slice_get g.nodes n.0) (slice_get targets 0) ≡ Some target → (begun_setting b).rule_of target ≡ Some r
  made_at of at [] same target e = none_some e
  made_at of at (node ∷ targets) same target e =
      (are_rules b g now.read now.reading now.grown).rules node.0 number target e
      (target_rule g now.reading of number node at (among_same (sym same) (let m : Among node (node ∷ targets) = here in m)))
      ∙ is

  -- which it makes
  pub own_first : (target : Path) → first_target_of g number ≡ Some target → IsFirstTarget (begun_setting b) r target
  own_first target named =
      let there = numbered_stands b g now number r is in
      record {
        makes = made_at there.of there.at there.of.targets refl target
            (ap (λ (o : Option declared.Rule). option_and_then (λ x. option_and_then (λ n. slice_get g.nodes n.0) (slice_get x.targets 0)) o) (sym there.at)
            ∙ named);
        first = named_first b g now number r target is named;
      }

-- ---- of a rule that is due

-- a watch over nothing but whether the path has a maker
abbrev watch_maker : Outset → Path → Watch
watch_maker o path = record {
  setting = setting_at o;
  start = o.before.log;
  truth = false;
  scope = Never;
  path = path;
  had = None;
  goes = true;
  due = None;
}

module _ {W O E : Type 0} (m : Meaning W) (o : Outset) (outset : IsOutset o) (site : Site W O E) (along : IsAlong m o site) (rule : RuleId) (rec : Rec)
    (due : IsDue m o site rule rec) where
  known : Knows o (standing_of m site) along.on.past
  known = along.on.at.knows due.weighed.goes_on

  -- its job has its first target
  pub job_first : (job : Job) → IsJobFrom site.graph.now rule rec job →
      (target : Path) × (first_target_of site.graph.now job.id ≡ Some target) × (slice_get job.targets 0 ≡ Some target)
  job_first job from =
      let first = has_first (begun_at o) site.graph.now known.now rule.0 due.model due.weighed.is in (
        first.0,
        ap (λ n. first_target_of site.graph.now n) from.id ∙ first.1,
        ap (λ (paths : List Path). slice_get paths 0) (from.targets ∙ ap (λ (x : Record). x.targets) due.weighed.present.is) ∙ first.2,
      )

  -- no job of it has started
  pub none_started : is_due_now (standing_of m site) due.model rec ≡ true → length (m.around site.world.now).running < jobs_at_once o.wanted.jobs →
      (target : Path) → first_target_of site.graph.now rule.0 ≡ Some target →
      Since o.before.log (m.around site.world.now).log (λ entries. IsUnstarted o entries target)
  none_started is_due room target named =
      let own = own_first (begun_at o) site.graph.now known.now rule.0 due.model due.weighed.is target named in
      let among = first_among due.model.targets target own.first in
      let allows = due_allows m o outset site along rule rec due is_due room (watch_maker o target)
      (record { start = refl; each = λ r starts minds. absurd minds }) in
      let starts : MayStart o due.model = record {
        jobs = along.on.jobs;
        around = m.around site.world.now;
        past = along.on.past;
        way = along.on.at.way;
        may = may_begin o outset along.on.jobs (standing_of m site) along.on.past along.on.at.way known rule due.model rec due.weighed is_due room;
      } in
      let since = allows.first
      (subst (λ (paths : List Path). Contains paths target) (sym (ap (λ (x : Record). x.targets) due.weighed.present.is)) (among_contains among)) in
      record { entries = since.entries; grown = since.grown; so = record { rule = due.model; own = own; starts = starts; none = since.so } }

-- ---- files that no rule makes

-- they stand as they stood
pub source_same : (o : Outset) → IsOutset o → (jobs : List Given) (around : Around) (past : List Step) →
    IsWay o.wanted o.kept o.counts o.before jobs around past → (path : Path) → (setting_at o).rule_of path ≡ None → o.before.tree path ≡ around.tree path
source_same o outset jobs around past way path none =
    (seen_so o outset jobs around past way).untouched path (λ r began target.
    let place = begun_place o outset jobs around past way began in none_some (sym none ∙ makes_each o outset place.0 place.1 path target))
