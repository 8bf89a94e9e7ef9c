-- Where nothing is left to do, each rule that isn't settled leads to a fault or to a cycle.
use Rattle.std.proofs.Common.{◌≡◌, ℕ, zero, suc, true, false, List, [], ◌∷◌, length, refl, sym, subst, inl, inr, ◌⊎◌, ⊎_elim, arith}
use Rattle.build_model.specs.Rules.{Path, Rule, Setting, Among, here, there}
use Rattle.build_model.specs.Needs.{Found, Needs, NeedsThrough, directly, through, Needed, is_needed}
use Rattle.build_model.specs.Contents.{in_tree, found_in}
use Rattle.build_model.specs.Stale.{IsDue}
use Rattle.build_model.specs.Steps.{Step, Fresh, Began, Ended, Lacks, Halts, Build, settled, began, done, IsReady, IsPrepared, IsRun, present_record}
use Rattle.build_model.specs.Laws.{TestsDue}
use Rattle.build_model.specs.Resting.{IsFaulty, has_failed, lacks_one, IsLeft, is_settled, is_faulty, waits, IsAtRest, IsSkipped, IsHeld, in_cycle, behind_cycle, IsHindered, by_fault, by_skip, by_cycle, LeavesAtRest}
use Rattle.build_model.proofs.Lists.{among_same}
use Rattle.build_model.proofs.Ready.{needs_more, tree_agrees}
use Rattle.build_model.proofs.Runs.{settled_done, begun_prepared, settled_prepared, fresh_of, fresh_or_began, decided_through, no_loop}
use Rattle.build_model.proofs.Placed.{without}

failed_done : {r : Rule} {past : List Step} → Among (Ended r false) past → Among r (done past)
failed_done here = here
failed_done (there {y = Fresh x} m) = there (failed_done m)
failed_done (there {y = Began x} m) = failed_done m
failed_done (there {y = Ended x well} m) = there (failed_done m)
failed_done (there {y = Lacks x p} m) = there (failed_done m)
failed_done (there {y = Halts} m) = failed_done m

lacking_done : {r : Rule} {p : Path} {past : List Step} → Among (Lacks r p) past → Among r (done past)
lacking_done here = here
lacking_done (there {y = Fresh x} m) = there (lacking_done m)
lacking_done (there {y = Began x} m) = lacking_done m
lacking_done (there {y = Ended x well} m) = there (lacking_done m)
lacking_done (there {y = Lacks x q} m) = there (lacking_done m)
lacking_done (there {y = Halts} m) = lacking_done m

faulty_done : {r : Rule} {past : List Step} → IsFaulty past r → Among r (done past)
faulty_done (has_failed m) = failed_done m
faulty_done (lacks_one p m) = lacking_done m

module _ (s : Setting) (b : Build) where
  failed_unsettled : {r : Rule} {past : List Step} → Among (Ended r false) past → IsRun s b past → Among r (settled past) → ⊥
  failed_unsettled (here {xs = past}) run m = run.0.not_done (settled_done past m)
  failed_unsettled (there {y = Fresh x} f) run here = run.0.0.not_done (failed_done f)
  failed_unsettled (there {y = Fresh x} f) run (there m) = failed_unsettled f run.1 m
  failed_unsettled (there {y = Began x} f) run m = failed_unsettled f run.1 m
  failed_unsettled (there {y = Ended x true} f) run here = run.0.0.not_done (failed_done f)
  failed_unsettled (there {y = Ended x true} f) run (there m) = failed_unsettled f run.1 m
  failed_unsettled (there {y = Ended x false} f) run m = failed_unsettled f run.1 m
  failed_unsettled (there {y = Lacks x p} f) run m = failed_unsettled f run.1 m
  failed_unsettled (there {y = Halts} f) run m = failed_unsettled f run.1 m

  lacking_unsettled : {r : Rule} {p : Path} {past : List Step} → Among (Lacks r p) past → IsRun s b past → Among r (settled past) → ⊥
  lacking_unsettled (here {xs = past}) run m = run.0.not_done (settled_done past m)
  lacking_unsettled (there {y = Fresh x} f) run here = run.0.0.not_done (lacking_done f)
  lacking_unsettled (there {y = Fresh x} f) run (there m) = lacking_unsettled f run.1 m
  lacking_unsettled (there {y = Began x} f) run m = lacking_unsettled f run.1 m
  lacking_unsettled (there {y = Ended x true} f) run here = run.0.0.not_done (lacking_done f)
  lacking_unsettled (there {y = Ended x true} f) run (there m) = lacking_unsettled f run.1 m
  lacking_unsettled (there {y = Ended x false} f) run m = lacking_unsettled f run.1 m
  lacking_unsettled (there {y = Lacks x q} f) run m = lacking_unsettled f run.1 m
  lacking_unsettled (there {y = Halts} f) run m = lacking_unsettled f run.1 m

  -- what is faulty isn't settled
  pub faulty_unsettled : {r : Rule} {past : List Step} → IsRun s b past → IsFaulty past r → Among r (settled past) → ⊥
  faulty_unsettled run (has_failed f) m = failed_unsettled f run m
  faulty_unsettled run (lacks_one p f) m = lacking_unsettled f run m

  module _ (steps : List Step) (found : Found) (run : IsRun s b steps) (rest : IsAtRest s b steps found) where
    abbrev Through : Rule → Rule → Type 0
    Through r q = NeedsThrough s.rule_of found r q

    abbrev IsNeeded : Rule → Type 0
    IsNeeded r = Needed s.rule_of found b.requested r

    less_cases : (x : Rule) (p : Path) {y : Path} →
        (IsReady s b.after (settled steps) p × (found x p ≡ found_in s (in_tree b.after) x p))
        ⊎ ((IsReady s b.after (settled steps) p → ⊥) × (found x p ≡ [])) →
        Among y (found x p) → Among y (found_in s (in_tree b.after) x p)
    less_cases x p (inl h) m = among_same h.1 m
    less_cases x p (inr h) m = elim (among_same h.1 m) [ ]

    needs_tree : {r q : Rule} → Needs s.rule_of found r q → Needs s.rule_of (found_in s (in_tree b.after)) r q
    needs_tree needs = needs_more (λ x p y m. less_cases x p (rest.found_whole x p) m) needs

    through_tree : {r q : Rule} → Through r q → NeedsThrough s.rule_of (found_in s (in_tree b.after)) r q
    through_tree (directly needs) = directly (needs_tree needs)
    through_tree (through x needs more) = through x (needs_tree needs) (through_tree more)

    prepared_through : {r q : Rule} → IsPrepared s b (settled steps) r → Through r q → Among q (settled steps)
    prepared_through prepared t =
        decided_through s b (in_tree b.after) steps run (tree_agrees s b (settled steps)) prepared (through_tree t)

    in_loop : {x : Rule} → Through x x → Among x (settled steps) → ⊥
    in_loop t m = no_loop s b (in_tree b.after) steps run (tree_agrees s b (settled steps)) m (through_tree t)

    held_unprepared : {r : Rule} → IsHeld s found r → IsPrepared s b (settled steps) r → ⊥
    held_unprepared (in_cycle c) prepared = in_loop c (prepared_through prepared c)
    held_unprepared (behind_cycle x t c) prepared = in_loop c (prepared_through prepared t)

    skipped_unprepared : {r : Rule} → IsSkipped s steps found r → IsPrepared s b (settled steps) r → ⊥
    skipped_unprepared h prepared = faulty_unsettled run h.faulty (prepared_through prepared h.needs)

    through_more : {q r x : Rule} → Through q r → Needs s.rule_of found r x → Through q x
    through_more {r = r} (directly n) m = through r n (directly m)
    through_more (through y n more) m = through y n (through_more more m)

    moved : {r q x : Rule} {l less : List Rule} → ((z : Rule) → Among z l → (z ≡ q) ⊎ Among z less) → Needs s.rule_of found r q →
        Among x l ⊎ ((x ≡ r) ⊎ Through x r) → Among x less ⊎ ((x ≡ q) ⊎ Through x q)
    moved {x = x} others needs (inl m) = ⊎_elim (λ e. inr (inl e)) (λ n. inl n) (others x m)
    moved {q = q} others needs (inr (inl e)) = inr (inr (directly (subst (λ y. Needs s.rule_of found y q) (sym e) needs)))
    moved others needs (inr (inr t)) = inr (inr (through_more t needs))

    abbrev pub EndsUp : Rule → Type 0
    EndsUp r = Among r (settled steps) ⊎ IsHindered s steps found r

    passed_on : {r q : Rule} → Needs s.rule_of found r q → (Among q (settled steps) → ⊥) → EndsUp q → EndsUp r
    passed_on needs unsettled (inl m) = absurd (unsettled m)
    passed_on {q = q} needs unsettled (inr (by_fault f)) = inr (by_skip (record { other = q; needs = directly needs; faulty = f }))
    passed_on {q = q} needs unsettled (inr (by_skip h)) =
        inr (by_skip (record { other = h.other; needs = through q needs h.needs; faulty = h.faulty }))
    passed_on {q = q} needs unsettled (inr (by_cycle (in_cycle c))) = inr (by_cycle (behind_cycle q (directly needs) c))
    passed_on {q = q} needs unsettled (inr (by_cycle (behind_cycle x t c))) = inr (by_cycle (behind_cycle x (through q needs t) c))

    waiting_for : {r : Rule} (q : Rule) (l : List Rule) → Needs s.rule_of found r q → (Among q (settled steps) → ⊥) →
        (Among q l → EndsUp q) → Among q l ⊎ ((q ≡ r) ⊎ Through q r) → EndsUp r
    waiting_for q l needs unsettled next (inl m) = passed_on needs unsettled (next m)
    waiting_for {r} q l needs unsettled next (inr (inl e)) =
        inr (by_cycle (in_cycle (directly (subst (λ y. Needs s.rule_of found r y) e needs))))
    waiting_for q l needs unsettled next (inr (inr t)) = inr (by_cycle (in_cycle (through q needs t)))

    left_over : {r : Rule} (l : List Rule) → IsNeeded r → ((q : Rule) → IsNeeded q → Among q l ⊎ ((q ≡ r) ⊎ Through q r)) →
        ((q : Rule) → IsNeeded q → Needs s.rule_of found r q → Among q l → EndsUp q) → IsLeft s steps found r → EndsUp r
    left_over l needed place next (is_settled m) = inl m
    left_over l needed place next (is_faulty f) = inr (by_fault f)
    left_over {r} l needed place next (waits q needs unsettled) =
        let needed_too = is_needed r needed needs in
        waiting_for q l needs unsettled (next q needed_too needs) (place q needed_too)

    none_there : {A : Type 0} {q : Rule} {l : List Rule} → length l ≡ 0 → Among q l → A
    none_there {l = []} e m = elim m [ ]
    none_there {l = x ∷ l} e m = absurd (omega arith)

    -- Follow what isn't settled: each rule on the way is new, until one is faulty, or the way comes back to itself.
    followed : (n : ℕ) (l : List Rule) → length l ≡ n → (r : Rule) → IsNeeded r →
        ((q : Rule) → IsNeeded q → Among q l ⊎ ((q ≡ r) ⊎ Through q r)) → EndsUp r
    followed zero l e r needed place =
        left_over l needed place (λ q needed_too needs m. none_there e m) (rest.left r needed)
    followed (suc n) l e r needed place =
        left_over l needed place
        (λ q needed_too needs m. followed n (without m).rest (shorter e (without m).counts) q needed_too
        (λ x x_needed. moved (without m).others needs (place x x_needed))) (rest.left r needed)
      where
        shorter : {a c d : ℕ} → a ≡ suc c → a ≡ suc d → d ≡ c
        shorter x y = omega arith

    pub ends_up : (r : Rule) → IsNeeded r → EndsUp r
    ends_up r needed = followed (length rest.rules) rest.rules refl r needed (λ q q_needed. inl (rest.all q q_needed))

    needed_through : {r q : Rule} → IsNeeded r → Through r q → IsNeeded q
    needed_through {r} needed (directly needs) = is_needed r needed needs
    needed_through {r} needed (through x needs more) = needed_through (is_needed r needed needs) more

    settled_if_well : {r : Rule} → ((q : Rule) → IsFaulty steps q → ⊥) → ((q : Rule) → IsNeeded q → Through q q → ⊥) → IsNeeded r → EndsUp r →
        Among r (settled steps)
    settled_if_well no_fault no_loop_there needed (inl m) = m
    settled_if_well {r} no_fault no_loop_there needed (inr (by_fault f)) = absurd (no_fault r f)
    settled_if_well no_fault no_loop_there needed (inr (by_skip h)) = absurd (no_fault h.other h.faulty)
    settled_if_well {r} no_fault no_loop_there needed (inr (by_cycle (in_cycle c))) = absurd (no_loop_there r needed c)
    settled_if_well no_fault no_loop_there needed (inr (by_cycle (behind_cycle x t c))) =
        absurd (no_loop_there x (needed_through needed t) c)

    began_if_due : {r : Rule} → TestsDue s b r → IsDue b.before b.stamps_before b.records r (present_record s b r) →
        Among (Fresh r) steps ⊎ Among r (began steps) → Among r (began steps)
    began_if_due tests due (inr m) = m
    began_if_due tests due (inl m) = absurd (tests.spared (fresh_of s b m run).not_due due)

    pub leaves_at_rest : LeavesAtRest s b steps found
    leaves_at_rest = record {
      ends_up = ends_up;
      due_began = λ r m tests due. began_if_due tests due (fresh_or_began s b steps run m);
      well = λ no_fault no_loop_there r needed. settled_if_well no_fault no_loop_there needed (ends_up r needed);
      faulty = λ r f m. faulty_unsettled run f m;
      skipped = λ r h. (λ m. skipped_unprepared h (begun_prepared s b steps run m), λ m. skipped_unprepared h (settled_prepared s b steps run m));
      held = λ r h. (λ m. held_unprepared h (begun_prepared s b steps run m), λ m. held_unprepared h (settled_prepared s b steps run m));
    }
