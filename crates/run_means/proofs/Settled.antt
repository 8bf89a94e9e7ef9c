-- What no rule makes, and what is settled, stays from one place of a build's way to a later one.
use Rattle.std.proofs.Common.{◌≡◌, ◌⊎◌, inl, inr, true, false, List, [], ◌∷◌, ◌++◌, sym, subst, ap, ◌∙◌}
use Rattle.world_api.specs.Around.{Around}
use Rattle.world_api.specs.Counts.{Counts}
use Rattle.build_model.specs.Rules.{Path, Content, Tree, Rule, Setting, Among, here, there}
use Rattle.build_model.specs.Contents.{in_tree, dependencies}
use Rattle.build_model.specs.Laws.{AreGivenSo, IsBuild}
use Rattle.build_model.specs.Moments.{Job as Given, job_rule}
use Rattle.build_model.specs.Steps.{Step, Fresh, Began, Ended, Lacks, Halts, Build, began, settled, contents_of, IsFresh, IsMade, IsRun}
use Rattle.build_model.proofs.Lists.{among_right, among_same}
use Rattle.build_model.proofs.Runs.{began_later, run_before}
use Rattle.build_model.proofs.Staying.{course_is_build, given_so}
use Rattle.build_means.specs.Rules.{IsReading}
use Rattle.build_means.specs.Builds.{Wanted, Kept, setting_in, build_in}
use Rattle.build_means.proofs.Lists.{among_map}
use Rattle.run_means.specs.Ways.{IsWay}
use Rattle.run_means.specs.Laws.{StaysSo}
use Rattle.run_means.proofs.Carrying.{lawful_in}

-- two builds of the same steps: a settled rule was found up to date in both, or made its targets in both
module _ (s : Setting) (b c : Build) where
  abbrev SettledSo : List Step → Rule → Type 0
  SettledSo past r = (IsFresh s b r × IsFresh s c r) ⊎ (Among r (began past) × IsMade s b.after r × IsMade s c.after r)

  so_later : {r : Rule} (step : Step) (past : List Step) → SettledSo past r → SettledSo (step ∷ past) r
  so_later step past (inl h) = inl h
  so_later {r} step past (inr h) = inr (began_later step past r h.0, h.1, h.2)

  pub settled_so : {r : Rule} (past : List Step) → IsRun s b past → IsRun s c past → Among r (settled past) →
      SettledSo past r
  settled_so [] run other m = elim m [ ]
  settled_so (Fresh x ∷ past) run other here = inl (run.0.1, other.0.1)
  settled_so (Fresh x ∷ past) run other (there m) = so_later (Fresh x) past (settled_so past run.1 other.1 m)
  settled_so (Began x ∷ past) run other m = so_later (Began x) past (settled_so past run.1 other.1 m)
  settled_so (Ended x true ∷ past) run other here = inr (run.0.0.began, run.0.1, other.0.1)
  settled_so (Ended x true ∷ past) run other (there m) = so_later (Ended x true) past (settled_so past run.1 other.1 m)
  settled_so (Ended x false ∷ past) run other m = so_later (Ended x false) past (settled_so past run.1 other.1 m)
  settled_so (Lacks x p ∷ past) run other m = so_later (Lacks x p) past (settled_so past run.1 other.1 m)
  settled_so (Halts ∷ past) run other m = so_later Halts past (settled_so past run.1 other.1 m)

module _ (w : Wanted) (kept : Kept) (counts : Counts) (before old new : Around) (jobs more : List Given)
    (past later : List Step)
    (reading : IsReading w.graph) (way : IsWay w kept counts before jobs old past)
    (further : IsWay w kept counts before (more ++ jobs) new (later ++ past)) where
  abbrev S : Setting
  S = setting_in w before

  abbrev Then : Build
  Then = build_in w kept before old

  abbrev Now : Build
  Now = build_in w kept before new

  build_then : IsBuild S Then past
  build_then = course_is_build S Then (lawful_in w before reading) way.course

  build_now : IsBuild S Now (later ++ past)
  build_now = course_is_build S Now (lawful_in w before reading) further.course

  given_then : AreGivenSo S jobs old.tree past
  given_then = given_so S Then (lawful_in w before reading) way.course

  given_now : AreGivenSo S (more ++ jobs) new.tree (later ++ past)
  given_now = given_so S Now (lawful_in w before reading) further.course

  abbrev GivenIn : Tree → Rule → List (Path × Content)
  GivenIn t r = contents_of t (dependencies S (in_tree t) r)

  -- what a rule that began was given stands there at both places
  given_both : {r : Rule} → Among r (began past) → GivenIn old.tree r ≡ GivenIn new.tree r
  given_both m =
      let j = among_map job_rule jobs (among_same (sym given_then.jobs_began) m) in
      subst (λ x. GivenIn old.tree x ≡ GivenIn new.tree x) (sym j.2)
      (sym (given_then.given j.0 j.1) ∙ given_now.given j.0 (among_right more j.1))

  same_target : {p : Path} {r : Rule} → Among p r.targets → SettledSo S Then Now past r → old.tree p ≡ new.tree p
  same_target {p} m (inl h) = sym (h.0.same p m) ∙ h.1.same p m
  same_target {p} {r} m (inr h) =
      h.1 p m ∙ ap (λ l. S.act r.work r.signed r.targets l p) (given_both h.0) ∙ sym (h.2 p m)

  pub stays_so : StaysSo w before (settled past) old.tree new.tree
  stays_so = record {
    sources = λ p none. sym (build_then.sources p none) ∙ build_now.sources p none;
    made = λ p r e m. same_target ((lawful_in w before reading).makes p r e)
        (settled_so S Then Now past build_then.run (run_before S Now later past build_now.run) m);
  }
