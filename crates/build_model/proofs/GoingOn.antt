-- By the clean contents with the targets of hindered rules taken out, nothing more is needed than at rest; and what was found
-- at rest has them taken out.
use Rattle.std.proofs.Common.{◌≡◌, ◌<◌, ℕ, List, Some, None, sym, subst, ◌∙◌, inl, inr, ◌⊎◌}
use Rattle.build_model.specs.Rules.{Path, Rule, Setting, Among}
use Rattle.build_model.specs.Reach.{Reaches}
use Rattle.build_model.specs.Needs.{Found, as_dependency, NeedsThrough, Needed, is_needed}
use Rattle.build_model.specs.Contents.{clean, height}
use Rattle.build_model.specs.Records.{record_of}
use Rattle.build_model.specs.Stale.{IsStale}
use Rattle.build_model.specs.Steps.{Step, Fresh, Build, settled, began, IsReady, is_source, is_made, IsMissing}
use Rattle.build_model.specs.Laws.{IsBuild, IsByContent, EachStep}
use Rattle.build_model.specs.Resting.{IsAtRest, IsHindered, by_fault, by_skip, by_cycle, IsOut, IsTakenOut, GoesOn}
use Rattle.build_model.proofs.Lists.{none_some, some_same}
use Rattle.build_model.proofs.Ready.{Agrees}
use Rattle.build_model.proofs.Runs.{fresh_or_began}
use Rattle.build_model.proofs.Clean.{each_step_is_clean, settled_agrees, missing_stuck}
use Rattle.build_model.proofs.Resting.{ends_up, leaves_at_rest}
use Rattle.build_model.proofs.TakenOut.{needed_too, through_too, found_taken_out}

module _ (s : Setting) (b : Build) (steps : List Step) (found : Found) (top : ℕ) (build : IsBuild s b steps) (by : IsByContent s b top)
    (low : height (settled steps) < top) (rest : IsAtRest s b steps found) where
  abbrev IsNeeded : Rule → Type 0
  IsNeeded r = Needed s.rule_of found b.requested r

  agrees : Agrees s b (settled steps) (clean s b.before top)
  agrees = settled_agrees s b build.lawful build.sources top by steps build.run low

  stuck : (p : Path) → IsMissing s b.after p → clean s b.before top p ≡ None
  stuck p m = missing_stuck s b build.lawful build.sources top by m

  unready_out : {p : Path} (x : Rule) → s.rule_of p ≡ Some x → (IsReady s b.after (settled steps) p → ⊥) →
      Among x (settled steps) ⊎ IsHindered s steps found x → IsOut s steps found p
  unready_out x e unready (inl m) = absurd (unready (is_made x e m))
  unready_out x e unready (inr h) = record { rule = x; is_rule = e; why = h }

  hindered : (r : Rule) (p : Path) (x : Rule) → IsNeeded r → Reaches (found r) r p → s.rule_of p ≡ Some x →
      (IsReady s b.after (settled steps) p → ⊥) → IsOut s steps found p
  hindered r p x needed reached e unready =
      unready_out x e unready (ends_up s b steps found build.run rest x (is_needed r needed (as_dependency p reached e)))

  settled_in : {r : Rule} → Among r (settled steps) → IsHindered s steps found r → ⊥
  settled_in {r} m (by_fault f) = (leaves_at_rest s b steps found build.run rest).faulty r f m
  settled_in {r} m (by_skip h) = ((leaves_at_rest s b steps found build.run rest).skipped r h).1 m
  settled_in {r} m (by_cycle h) = ((leaves_at_rest s b steps found build.run rest).held r h).1 m

  ready_in : (p : Path) → IsReady s b.after (settled steps) p → IsOut s steps found p → ⊥
  ready_in p (is_source bytes none file) o = none_some (sym none ∙ o.is_rule)
  ready_in p (is_made r e m) o =
      settled_in m (subst (λ x. IsHindered s steps found x) (some_same (sym o.is_rule ∙ e)) o.why)

  pub found_is_taken_out : IsTakenOut s b (clean s b.before top) steps found found
  found_is_taken_out r p needed reached =
      found_taken_out s b (clean s b.before top) (settled steps) agrees stuck found rest.found_whole (IsOut s steps found) hindered
      ready_in (λ q none o. none_some (sym none ∙ o.is_rule)) r p needed reached

  each : EachStep s b (clean s b.before top) steps
  each = each_step_is_clean s b steps top build by low

  began_or_fresh : {r : Rule} → IsStale b.before b.records r (record_of s r (clean s b.before top) b.stamps_after) →
      Among (Fresh r) steps ⊎ Among r (began steps) → Among r (began steps)
  began_or_fresh is_stale (inr m) = m
  began_or_fresh {r} is_stale (inl m) = absurd (each.fresh r m is_stale)

  stale_ends : {r : Rule} → IsStale b.before b.records r (record_of s r (clean s b.before top) b.stamps_after) →
      Among r (settled steps) ⊎ IsHindered s steps found r → Among r (began steps) ⊎ IsHindered s steps found r
  stale_ends is_stale (inl m) = inl (began_or_fresh is_stale (fresh_or_began s b steps build.run m))
  stale_ends is_stale (inr h) = inr h

  module _ (taken : Found) (out : IsTakenOut s b (clean s b.before top) steps found taken) where
    needed_so : {r : Rule} → Needed s.rule_of taken b.requested r → IsNeeded r
    needed_so h =
        needed_too s b (clean s b.before top) (settled steps) agrees stuck found rest.found_whole (IsOut s steps found) hindered taken out h

    through_so : {r q : Rule} → IsNeeded r → Needed s.rule_of taken b.requested r → NeedsThrough s.rule_of taken r q →
        NeedsThrough s.rule_of found r q
    through_so needed so t =
        through_too s b (clean s b.before top) (settled steps) agrees stuck found rest.found_whole (IsOut s steps found) hindered taken out
        needed so t

    pub goes_on : GoesOn s b (clean s b.before top) steps found taken
    goes_on = record {
      needed = λ r so. needed_so so;
      stale = λ r so is_stale. stale_ends is_stale (ends_up s b steps found build.run rest r (needed_so so));
      skipped = λ r q so t faulty. record { other = q; needs = through_so (needed_so so) so t; faulty = faulty };
    }
