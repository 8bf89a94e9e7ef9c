-- That a needed rule needs itself where a cycle is told.
use Rattle.std.proofs.Common.{◌≡◌, ◌∙◌, ◌<◌, ℕ, false, true, List, [], ◌∷◌, ap, arith, length, refl, subst, sym}
use Rattle.std.proofs.lemmas.Bool.Decides.{nat_tests}
use Rattle.scons_base.specs.declared.ids.RuleId.{RuleId}
use Rattle.world_api.specs.Meaning.{Meaning}
use Rattle.rule_graph.specs.Graphs.{RuleGraph}
use Rattle.sign_store.specs.Stores.{map_of}
use Rattle.sign_store.specs.Tables.{Map}
use Rattle.sign_store.specs.declared.store.Store.{Store}
use Rattle.task_plan.specs.Cycles.{IsCycle}
use Rattle.task_plan.specs.Orders.{is_among}
use Rattle.task_plan.specs.Watched.{IsStill}
use Rattle.build_model.specs.Moments.{Job as Given}
use Rattle.build_model.specs.Needs.{Needed}
use Rattle.build_model.specs.Resting.{whole_found}
use Rattle.build_model.specs.Rules.{Path, Rule}
use Rattle.build_model.specs.Steps.{Step}
use Rattle.build_model.proofs.Lists.{some_same}
use Rattle.build_means.specs.Rules.{paths_of}
use Rattle.plan_means.specs.Deciding.{IsTied}
use Rattle.plan_means.proofs.Deciding.{know, whole_agrees}
use Rattle.plan_means.proofs.Holding.{needs_itself}
use Rattle.plan_means.proofs.Needing.{plan_needed}
use Rattle.turn_means.specs.Laws.{FinishedSucceed}
use Rattle.turn_means.specs.Recording.{build_at}
use Rattle.turn_means.specs.Standing.{Outset, IsOutset, begun_at, setting_at, Standing, IsAt}
use Rattle.build_run.specs.Along.{standing_of, IsAtEnd, KeepsEnds}
use Rattle.build_run.specs.Endings.{KeepsWant}
use Rattle.build_run.specs.Faulted.{AddsCycle, HasMadeFaulted, HasRing, IsFaulted, WaitForThemselves}
use Rattle.build_run.specs.Outsets.{FinishesWell}
use Rattle.build_run.specs.declared.account.Account.{Account}
use Rattle.build_run.specs.declared.site.Site.{Site}
use Rattle.build_run.proofs.Faulted.{ring_told, since_closed, since_no_cycle}
use Rattle.build_run.proofs.Finishing.{has_made, its, made_steps}

among_front : (n : ℕ) (more : List RuleId) (x : RuleId) → n ≡ x.0 → is_among n (x ∷ more) ≡ true
among_front n more x same = grind (arith, nat_tests, same)

-- rules that wait for themselves by a tied plan
module _ (o : Outset) (outset : IsOutset o) (jobs : List Given) (s : Standing) (past : List Step) (at : IsAt o jobs s past)
    (not_ended : s.ended ≡ false) (rest : s.around.running ≡ []) where
  tied : IsTied (begun_at o) s.graph o.wanted.requested (build_at o s.around) past s.plan
  tied = its o outset jobs s past at not_ended rest

  ring_of : (cycle : List RuleId) → IsCycle s.plan.states s.plan.rules s.plan.origins cycle → (whole : List RuleId) → cycle ≡ whole → 0 < length whole →
      HasRing o.wanted o.kept o.before s.around past
  ring_of cycle is [] same some = absurd (omega (arith, some))
  ring_of cycle is (x ∷ more) same some =
      let among = ap (is_among x.0) same ∙ among_front x.0 more x refl in
      let k = needs_itself (begun_at o) s.graph o.wanted.requested (build_at o s.around) past s.plan tied cycle is x.0 among in
      record {
        rule = k.rule;
        needed =
            subst (λ (paths : List Path). Needed (setting_at o).rule_of (whole_found (setting_at o) (build_at o s.around) past) paths k.rule) (sym tied.asked)
            (subst (λ (r : Rule). Needed (setting_at o).rule_of (whole_found (setting_at o) (build_at o s.around) past) (paths_of s.graph o.wanted.requested) r)
            (some_same (sym (know (begun_at o) s.graph o.wanted.requested (build_at o s.around) past s.plan tied x.0 k.needed).numbered ∙ k.is))
            (plan_needed (begun_at o) s.graph o.wanted.requested s.around.tree past s.plan tied.graph tied.ties
            (whole_found (setting_at o) (build_at o s.around) past)
            (whole_agrees (begun_at o) s.graph o.wanted.requested (build_at o s.around) past s.plan tied) x.0 k.needed));
        itself = k.needs;
      }

  pub ring : WaitForThemselves s.plan → HasRing o.wanted o.kept o.before s.around past
  ring waits = ring_of waits.0 waits.1 waits.0 refl waits.1.some

module _ {W O E : Type 0} (m : Meaning W) (o : Outset) (outset : IsOutset o) (mid : Site W O E) (after : Account)
    (there : IsAtEnd m o mid) (rest : (m.around mid.world.now).running ≡ [])
    (still : mid.run.now.plan.halted ≡ false → IsStill mid.run.now.plan)
    (ends : KeepsEnds mid.account.now after) (finishes : FinishesWell mid.graph.now mid.run.now.plan mid.account.now after)
    (law : FinishedSucceed) (none : mid.run.now.held ≡ []) (shut : after.is_store_shut ≡ mid.account.now.is_store_shut) (behind : Map)
    (same : behind ≡ map_of mid.store.now) (want : KeepsWant mid.account.now after) (adds : AddsCycle mid.run.now.plan mid.account.now after)
    (has : IsFaulted m o mid) where
  pub has_made_faulted : HasMadeFaulted o mid.graph.now (m.around mid.world.now) after behind
  has_made_faulted = record {
    made = has_made m o outset mid after there rest still ends finishes law none shut behind same;
    faults = since_closed o mid.graph.now (m.around mid.world.now).log mid.run.now.plan mid.account.now after want adds has;
    rings = λ paths h.
        let told = ring_told mid.run.now.plan mid.account.now after
        (since_no_cycle o mid.graph.now mid.account.now (m.around mid.world.now).log has) adds paths h in
        subst (λ (l : List Step). HasRing o.wanted o.kept o.before (m.around mid.world.now) l)
        (sym (made_steps m o outset mid after there rest still ends finishes law none shut behind same))
        (ring o outset there.on.jobs (standing_of m mid) there.on.past there.on.at told.0 rest told.1);
  }

-- ---- what was lent

module _ {W O E : Type 0} (m : Meaning W) (last : Site W O E) where
  pub faulted_given : (o : Outset) (now world : W) (account : Account) (store : Store) (h : RuleGraph) → last.world.now ≡ world →
      last.account.now ≡ account → last.store.now ≡ store → last.graph.now ≡ h → last.world.now ≡ now →
      (m.tells now → m.sure now → HasMadeFaulted o last.graph.now (m.around now) last.account.now (map_of last.store.now)) →
      m.tells world → m.sure world → HasMadeFaulted o h (m.around world) account (map_of store)
  faulted_given o now world account store h lent lent_account lent_store lent_graph same made =
      subst (λ (w : W). m.tells w → m.sure w → HasMadeFaulted o h (m.around w) account (map_of store)) (sym same ∙ lent)
      (λ tells sure.
      subst (λ (g : RuleGraph). HasMadeFaulted o g (m.around now) account (map_of store)) lent_graph
      (subst (λ (kept : Store). HasMadeFaulted o last.graph.now (m.around now) account (map_of kept)) lent_store
      (subst (λ (a : Account). HasMadeFaulted o last.graph.now (m.around now) a (map_of last.store.now)) lent_account (made tells sure))))
