-- Which rules the running jobs are for, and what that leaves alone: sources, what is settled, and what didn't begin.
use Rattle.std.proofs.Common.{◌≡◌, List, Some, None, sym, subst, ◌∙◌}
use Rattle.world_api.specs.Around.{Around, IsRunningTarget}
use Rattle.world_api.specs.Reads.{stamp_of}
use Rattle.build_model.specs.Rules.{Path, Rule, Among}
use Rattle.build_model.specs.Contents.{IsLawful}
use Rattle.build_model.specs.Laws.{IsSeenSo}
use Rattle.build_model.specs.Moments.{Job as Given}
use Rattle.build_model.specs.Steps.{Step, began, settled, IsReady, is_source, is_made, IsRun, IsRunning}
use Rattle.build_model.proofs.Lists.{none_some, some_same}
use Rattle.build_model.proofs.Ready.{needed_place}
use Rattle.build_model.proofs.Runs.{begun_prepared, settled_done}
use Rattle.build_model.proofs.Staying.{course_is_seen_so}
use Rattle.run_means.specs.Ways.{IsWay}
use Rattle.run_means.proofs.Carrying.{lawful_in}
use Rattle.run_means.proofs.Lists.{contains_among}
use Rattle.run_means.proofs.Own.{own_of}
use Rattle.turn_means.specs.Standing.{Outset, IsOutset, setting_at}
use Rattle.turn_means.specs.Recording.{build_at}

-- a rule that makes the path
abbrev pub MakesIt : Outset → Path → Rule → Type 0
MakesIt o path r = (setting_at o).rule_of path ≡ Some r

module _ (o : Outset) (outset : IsOutset o) where
  pub lawful : IsLawful (setting_at o)
  lawful = lawful_in o.wanted o.before outset.reading

  -- a path has one rule
  pub one_rule : (path : Path) {r q : Rule} → MakesIt o path r → MakesIt o path q → r ≡ q
  one_rule path e f = some_same (sym e ∙ f)

  -- a rule makes its targets, where it makes any path
  pub makes_each : (path : Path) {r : Rule} → MakesIt o path r → (target : Path) → Among target r.targets → MakesIt o target r
  makes_each path {r} e target m = lawful.alone path r e target m

  module _ (jobs : List Given) (around : Around) (past : List Step)
      (way : IsWay o.wanted o.kept o.counts o.before jobs around past) where
    pub seen_so : IsSeenSo (setting_at o) (build_at o around) around.tree (stamp_of around) past
    seen_so = course_is_seen_so (setting_at o) (build_at o around) lawful way.course

    pub run_so : IsRun (setting_at o) (build_at o around) past
    run_so = seen_so.build.run

    -- what began has a place
    pub begun_place : {r : Rule} → Among r (began past) → (path : Path) × MakesIt o path r
    begun_place m = needed_place (begun_prepared (setting_at o) (build_at o around) past run_so m).wanted.is_needed

    -- a target of a running job is that of a rule whose action runs
    pub runs_for : {path : Path} → IsRunningTarget around.running path → (r : Rule) × MakesIt o path r × IsRunning past r
    runs_for {path} target =
        let own = own_of o.wanted o.kept o.before around way.own (contains_among around.running target.1) in
        let m : Among path own.0.targets =
        subst (λ ps. Among path ps) own.1.job_of.targets (contains_among target.0.job.targets target.2) in
        let place = begun_place own.1.runs.began in
        (own.0, makes_each place.0 place.1 path m, own.1.runs)

    pub source_still : (path : Path) → (setting_at o).rule_of path ≡ None → IsRunningTarget around.running path → ⊥
    source_still path none target = none_some (sym none ∙ (runs_for target).1)

    pub settled_still : (path : Path) {r : Rule} → MakesIt o path r → Among r (settled past) →
        IsRunningTarget around.running path → ⊥
    settled_still path e m target =
        let runs = runs_for target in
        runs.2.not_done (settled_done past (subst (λ x. Among x (settled past)) (one_rule path e runs.1) m))

    pub ready_still : {path : Path} → IsReady (setting_at o) around.tree (settled past) path →
        IsRunningTarget around.running path → ⊥
    ready_still {path} (is_source bytes none file) = source_still path none
    ready_still {path} (is_made r e m) = settled_still path e m

    pub unbegun_still : (path : Path) {r : Rule} → MakesIt o path r → (Among r (began past) → ⊥) →
        IsRunningTarget around.running path → ⊥
    unbegun_still path e not_began target =
        let runs = runs_for target in
        not_began (subst (λ x. Among x (began past)) (one_rule path runs.1 e) runs.2.began)

    -- no rule that began makes it
    none_began : (path : Path) {r : Rule} → MakesIt o path r → (Among r (began past) → ⊥) →
        (q : Rule) → Among q (began past) → Among path q.targets → ⊥
    none_began path e not_began q m target =
        let place = begun_place m in
        not_began (subst (λ x. Among x (began past)) (one_rule path (makes_each place.0 place.1 path target) e) m)

    -- so it stands as it did, and was changed then
    pub unbegun_same : (path : Path) {r : Rule} → MakesIt o path r → (Among r (began past) → ⊥) →
        o.before.tree path ≡ around.tree path
    unbegun_same path e not_began = seen_so.untouched path (none_began path e not_began)

    pub unbegun_stamp : (path : Path) {r : Rule} → MakesIt o path r → (Among r (began past) → ⊥) →
        stamp_of o.before path ≡ stamp_of around path
    unbegun_stamp path e not_began = seen_so.unstamped path (none_began path e not_began)
