-- A rule that waits, and needs one that isn't settled, waits on it, where the plan overlooks nothing.
use Rattle.std.proofs.Common.{◌≡◌, ◌<◌, ◌∙◌, ℕ, ◌++◌, Bool, true, false, ◌&&◌, List, Option, Some, None, ap, refl, length}
use Rattle.std.specs.Prelude.{slice_get}
use Rattle.std.proofs.lemmas.Option.{slice_get_within}
use Rattle.scons_base.specs.declared.ids.RuleId.{RuleId}
use Rattle.task_plan.specs.States.{state_of, is_waiting}
use Rattle.task_plan.specs.Named.{stands}
use Rattle.task_plan.specs.Settled.{Kept, is_settled, is_done, is_done_from}
use Rattle.task_plan.specs.Met.{needs_at, needs_in}
use Rattle.task_plan.specs.Plans.{Planned}
use Rattle.task_plan.specs.Orders.{is_among, makers_of, needed_in, needed_of}
use Rattle.task_plan.specs.Watched.{IsSought, IsComplete, AreTargets}
use Rattle.task_plan.specs.Held.{IsHeldBy, WaitOnNeeds, NeedsFault}
use Rattle.task_plan.specs.declared.states.RuleState.{RuleState}
use Rattle.task_plan.proofs.EnterLemmas.{maker_made}
use Rattle.task_plan.proofs.NextLemmas.{HasPlaces}
use Rattle.task_plan.proofs.ReachedLemmas.{none_among}
use Rattle.task_plan.proofs.RestLemmas.{place_in}
use Rattle.task_plan.proofs.WatchLemmas.{stands_there}

not_told : (d : Bool) → d ≡ false → (d && true) ≡ false
not_told true e = e
not_told false e = refl

-- of a rule that needs something something is known
record IsNeedy (p : Planned) (rule other : ℕ) : Type 0 where
  kept : Kept
  at : slice_get p.rules rule ≡ Some kept
  needs : is_among other (makers_of p.origins (kept.required ++ kept.deps)) ≡ true

needy : (p : Planned) (rule other : ℕ) → is_among other (needed_of p.rules p.origins rule) ≡ true → IsNeedy p rule other
needy p rule other h = by (slice_get p.rules rule) refl h
  where
    by : (o : Option Kept) → slice_get p.rules rule ≡ o → is_among other (needed_in p.origins o) ≡ true → IsNeedy p rule other
    by None e n = none_among other n
    by (Some kept) e n = record { kept = kept; at = e; needs = n }

module _ (p : Planned) (c : IsComplete p) (places : HasPlaces p) (targets : AreTargets p) where
  pub waits_on : WaitOnNeeds p
  waits_on rule other w h unsettled =
      let k = needy p rule other h in
      let needs = k.kept.required ++ k.kept.deps in
      let r : RuleId = record { 0 = other } in
      let n = place_in (makers_of p.origins needs) r k.needs in
      let m = maker_made p.origins needs n.0 r n.1 in
      let at = places.each rule k.kept k.at in
      let i = (c.watched.each rule refl).each k.kept at.0 w k.at at.1 in
      let heard = i.sought m.file (IsSought.needed (stands_there needs m.place m.file m.at)) in
      let undone : is_done p.states p.origins m.file ≡ false = ap (is_done_from p.states) m.made ∙ unsettled in
      let stood : stands (needs_at p.rules rule) m.file ≡ true = ap (λ o. stands (needs_in o) m.file) k.at ∙ stands_there needs m.place m.file m.at in
      record {
        target = m.file;
        made = targets.each m.file r m.made;
        told = heard.waits (not_told (is_done p.states p.origins m.file) undone);
        needs = ap (λ (s : RuleState). is_waiting s && stands (needs_at p.rules rule) m.file) w ∙ stood;
      }

  known : (rule other : ℕ) → is_among other (needed_of p.rules p.origins rule) ≡ true → rule < length p.rules
  known rule other h = let k = needy p rule other h in slice_get_within p.rules rule k.kept k.at

  unsettled : (faulty : List RuleId) (fault rule : ℕ) → NeedsFault p faulty fault rule → is_settled (state_of p.states rule) ≡ false
  unsettled faulty fault rule (NeedsFault.directly out w n u) = ap is_settled w
  unsettled faulty fault rule (NeedsFault.in_turn other out w n h) = ap is_settled w

  -- what needs a rule at fault is held by it
  pub held : (faulty : List RuleId) (fault rule : ℕ) → NeedsFault p faulty fault rule → IsHeldBy p.states p.rules p.notes.waiters faulty fault rule
  held faulty fault rule (NeedsFault.directly out w n u) = IsHeldBy.directly out (known rule fault n) (waits_on rule fault w n u)
  held faulty fault rule (NeedsFault.in_turn other out w n h) =
      IsHeldBy.in_turn other out (known rule other n) (waits_on rule other w n (unsettled faulty fault other h)) (held faulty fault other h)
