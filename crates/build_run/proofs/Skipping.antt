-- That what a build says that it skipped is so by its steps.
use Rattle.std.proofs.Common.{◌≡◌, ◌≢◌, ◌<◌, ◌≤◌, ◌+◌, ◌∙◌, ◌⊎◌, inl, inr, ⊎_elim, ap, sym, subst, refl, ℕ, zero, suc, length, length-append, get_or, map, List, [], ◌∷◌, ◌++◌, Option, Some, None, Bool, true, false, ◌||◌, arith}
use Rattle.std.specs.Prelude.{nat_eq, slice_get}
use Rattle.std.specs.List.{count_by}
use Rattle.std.specs.Option.{option_and_then, option_map, unwrap_or}
use Rattle.std.proofs.lemmas.Bool.Decides.{Decides-eqb, nat_tests}
use Rattle.std.proofs.lemmas.List.Folds.{list_any-append}
use Rattle.std.proofs.lemmas.Option.{none-some, same_Some, slice_get_within, slice_get-get_or}
use Rattle.std.proofs.lemmas.List.{length-map}
use Rattle.std.proofs.lemmas.Map.Keys.{apart_from_distinct}
use Rattle.scons_base.specs.declared.ids.NodeId.{NodeId}
use Rattle.scons_base.specs.declared.ids.RuleId.{RuleId}
use Rattle.world_api.specs.Meaning.{Meaning}
use Rattle.rule_graph.specs.declared.rule.Rule as declared
use Rattle.rule_graph.specs.Graphs.{RuleGraph}
use Rattle.rule_graph.specs.Rules.{is_target_of}
use Rattle.sign_store.specs.Stores.{map_of}
use Rattle.sign_store.specs.Tables.{Map}
use Rattle.sign_store.specs.declared.store.Store.{Store}
use Rattle.task_plan.specs.Cycles.{IsCycle}
use Rattle.task_plan.specs.Orders.{is_among}
use Rattle.task_plan.specs.Plans.{Planned, AreMet}
use Rattle.task_plan.specs.Held.{firsts, AreHeld, HasAllHeld, HasEachOnce, IsHeldBy}
use Rattle.task_plan.specs.States.{is_faulty as is_faulty_state, is_running, state_of}
use Rattle.task_plan.specs.Watched.{IsStill}
use Rattle.task_plan.specs.declared.states.RuleState.{RuleState}
use Rattle.task_plan.specs.declared.states.RuleState.TheVariants.{Unneeded, Waiting, Running, Settled, Failed, Lacking}
use Rattle.task_plan.proofs.ListLemmas.{get-front, get-last}
use Rattle.task_plan.proofs.RestLemmas.{place_in}
use Rattle.build_model.specs.Moments.{Job as Given}
use Rattle.build_model.specs.Resting.{IsFaulty}
use Rattle.build_model.specs.Rules.{Path, Rule, Among, here}
use Rattle.build_model.specs.Steps.{Step, settled}
use Rattle.build_model.proofs.Lists.{true_false, some_same}
use Rattle.build_model.proofs.Resting.{faulty_unsettled}
use Rattle.build_means.specs.Grown.{Begun, rule_numbered}
use Rattle.build_means.specs.Rules.{IsReading, paths_of}
use Rattle.build_means.proofs.Lists.{or_either, there_any}
use Rattle.build_files.specs.Firsts.{first_target_of}
use Rattle.plan_means.specs.Deciding.{IsTied}
use Rattle.plan_means.specs.Holding.{HasFault, NeedsItself}
use Rattle.plan_means.specs.Planning.{IsGraphNow}
use Rattle.plan_means.specs.Ties.{IsAt as IsAtState}
use Rattle.plan_means.proofs.Holding.{has_fault, held_back, needs_itself}
use Rattle.plan_means.proofs.Names.{is_named}
use Rattle.plan_means.proofs.Running.{faulty_done}
use Rattle.plan_means.proofs.Single.{numbered_stands}
use Rattle.plan_means.proofs.Waiting.{needed_planned}
use Rattle.turn_means.specs.Laws.{FinishedSucceed}
use Rattle.turn_means.specs.Recording.{build_at}
use Rattle.turn_means.specs.Standing.{Outset, IsOutset, begun_at, setting_at, Standing, IsAt}
use Rattle.build_run.specs.Along.{standing_of, IsAtEnd, KeepsEnds}
use Rattle.build_run.specs.Causes.{HasAny}
use Rattle.build_run.specs.Noted.{AreNotedBy, IsNoted, IsNotedIn, IsOfRule, KeepsNoted, SiteNotes}
use Rattle.build_run.specs.Outsets.{FinishesWell}
use Rattle.build_run.specs.Skips.{IsAtFault, AreAtFault, AreNamed, AreNamedTo, TakesFaulty, AreHeldPairs, HasHeldPairs, HoldsNeedy, HoldsBack, NeedsBy, IsNeededBy, HasPair, IsSkip, AreSkips, HasMadeSkipping}
use Rattle.build_run.specs.declared.account.Account.{Account}
use Rattle.build_run.specs.declared.site.Site.{Site}
use Rattle.build_run.proofs.EndingOn.{not_before}
use Rattle.build_run.proofs.Noting.{among_back, among_front}
use Rattle.build_run.proofs.Finishing.{at_last, has_made, its, made_steps, none_counts}

same_number : (m n : ℕ) → nat_eq m n ≡ true → m ≡ n
same_number m n e = grind (arith, nat_tests)

one_of : (next : RuleId) (rule : ℕ) → is_among rule (next ∷ []) ≡ true → rule ≡ next.0
one_of next rule h = by (nat_eq next.0 rule) refl h
  where
    by : (c : Bool) → nat_eq next.0 rule ≡ c → (c || false) ≡ true → rule ≡ next.0
    by true is k = sym (same_number next.0 rule is)
    by false is k = true_false (sym k)

within_or : (n m : ℕ) → (n < m) ⊎ (m ≤ n)
within_or n m = grind arith

-- ---- by a plan

module _ (plan : Planned) where
  pub none_at_fault : AreAtFault plan []
  none_at_fault = record { each = λ rule h. true_false (sym h) }

  pub cycle_at_fault : (cycle : List RuleId) → IsCycle plan.states plan.rules plan.origins cycle → AreAtFault plan cycle
  cycle_at_fault cycle is = record { each = λ rule h. IsAtFault.in_cycle cycle is h }

  pub more_at_fault : (rules more : List RuleId) → AreAtFault plan rules → AreAtFault plan more → AreAtFault plan (rules ++ more)
  more_at_fault rules more a b = record {
    each = λ rule h.
        ⊎_elim (λ k. a.each rule k) (λ k. b.each rule k)
        (or_either (is_among rule rules) (is_among rule more) (sym (list_any-append (λ r. nat_eq r.0 rule) rules more) ∙ h));
  }

  pub one_at_fault : (rule : RuleId) → is_faulty_state (state_of plan.states rule.0) ≡ true → AreAtFault plan (rule ∷ [])
  one_at_fault rule e = record { each = λ number h. IsAtFault.by_state (ap (λ n. is_faulty_state (state_of plan.states n)) (one_of rule number h) ∙ e) }

  -- those that are taken over one by one
  pub takes_none : (noted : List RuleId) → noted ≡ [] → (rules : List RuleId) → TakesFaulty plan noted rules
  takes_none noted none rules rule h e = true_false (sym h ∙ ap (is_among rule) none)

  pub more_taken : (noted rules : List RuleId) (next : RuleId) → TakesFaulty plan noted rules → TakesFaulty plan (noted ++ next ∷ []) (rules ++ next ∷ [])
  more_taken noted rules next t rule h e =
      ⊎_elim (λ k. among_front rules (next ∷ []) rule (t rule k e)) (λ k. among_back rules (next ∷ []) rule k)
      (or_either (is_among rule noted) (is_among rule (next ∷ [])) (sym (list_any-append (λ r. nat_eq r.0 rule) noted (next ∷ [])) ∙ h))

  pub well_passed : (noted rules : List RuleId) (next : RuleId) → is_faulty_state (state_of plan.states next.0) ≡ false → TakesFaulty plan noted rules → TakesFaulty plan (noted ++ next ∷ []) rules
  well_passed noted rules next well t rule h e =
      ⊎_elim (λ k. t rule k e) (λ k. true_false (sym e ∙ ap (λ n. is_faulty_state (state_of plan.states n)) (one_of next rule k) ∙ well))
      (or_either (is_among rule noted) (is_among rule (next ∷ [])) (sym (list_any-append (λ r. nat_eq r.0 rule) noted (next ∷ [])) ∙ h))

  pub taken_behind : (noted rules more : List RuleId) → TakesFaulty plan noted rules → TakesFaulty plan noted (rules ++ more)
  taken_behind noted rules more t rule h f = among_front rules more rule (t rule h f)

-- ---- pairs of paths

module _ (g : RuleGraph) (held : List (RuleId × RuleId)) where
  pub none_named : (pairs : List (Path × Path)) → pairs ≡ [] → AreNamedTo g held 0 pairs
  none_named pairs none = record {
    size = ap length none;
    each = λ n paths e. absurd (none-some paths (ap (λ (l : List (Path × Path)). slice_get l n) (sym none) ∙ e));
  }

  pub one_named : (count : ℕ) (pair : RuleId × RuleId) (pairs now : List (Path × Path)) (paths : Path × Path) → count < length held → pair ≡ get_or held count pair →
      AreNamed g pair paths → now ≡ pairs ++ paths ∷ [] → AreNamedTo g held count pairs → AreNamedTo g held (count + 1) now
  one_named count pair pairs now paths lt this named is a = record {
    size = ap length is ∙ length-append pairs (paths ∷ []) ∙ ap (λ n. n + 1) a.size;
    each = λ n other e.
        let there : slice_get (pairs ++ paths ∷ []) n ≡ Some other = ap (λ (l : List (Path × Path)). slice_get l n) (sym is) ∙ e in
        by n other there (within_or n count);
  }
    where
      last : (n : ℕ) (other : Path × Path) → slice_get (pairs ++ paths ∷ []) n ≡ Some other → count ≤ n → (n ≡ count) × (other ≡ paths)
      last n other e le =
          let lt = slice_get_within (pairs ++ paths ∷ []) n other e in
          let size = length-append pairs (paths ∷ []) in
          let count_is = a.size in
          let same : n ≡ count = omega (arith, lt, size, count_is, le) in
          (same, ⊎_elim (λ k. absurd (let in_front = slice_get_within pairs n other k in omega (arith, in_front, count_is, le))) (λ k. k) (get-last pairs paths n other e))

      front : (n : ℕ) (other : Path × Path) → slice_get (pairs ++ paths ∷ []) n ≡ Some other → n < count → slice_get pairs n ≡ Some other
      front n other e lt = ⊎_elim (λ k. k) (λ (k : other ≡ paths). by_place k) (get-last pairs paths n other e)
        where
          by_place : other ≡ paths → slice_get pairs n ≡ Some other
          by_place k =
              let count_is = a.size in
              let there : slice_get pairs n ≡ Some (get_or pairs n other) = slice_get-get_or pairs n other (omega (arith, count_is, lt)) in
              there ∙ sym (get-front pairs (paths ∷ []) n (get_or pairs n other) there) ∙ e

      by : (n : ℕ) (other : Path × Path) → slice_get (pairs ++ paths ∷ []) n ≡ Some other → (n < count) ⊎ (count ≤ n) →
          (pair : RuleId × RuleId) × (slice_get held n ≡ Some pair) × AreNamed g pair other
      by n other e (inl lt) = a.each n other (front n other e lt)
      by n other e (inr le) =
          let k = last n other e le in (
            pair,
            ap (slice_get held) k.0 ∙ slice_get-get_or held count pair lt ∙ ap (λ (p : RuleId × RuleId). Some p) (sym this),
            subst (λ (x : Path × Path). AreNamed g pair x) (sym k.1) named,
          )

  -- all were
  pub held_named : (plan : Planned) (noted faulty : List RuleId) → AreAtFault plan faulty → TakesFaulty plan noted faulty →
      AreHeld plan.states plan.rules plan.notes.waiters faulty held → HasAllHeld plan.states plan.rules plan.notes.waiters faulty held →
      HasEachOnce held → (count : ℕ) (pairs : List (Path × Path)) → count ≡ length held → AreNamedTo g held count pairs →
      AreHeldPairs g plan noted pairs
  held_named plan noted faulty at_fault takes real all once count pairs whole named = record {
    faulty = faulty;
    at_fault = at_fault;
    takes = takes;
    held = held;
    real = real;
    all = all;
    once = once;
    named = subst (λ n. AreNamedTo g held n pairs) whole named;
  }

-- a pair names the rule with this number first
record IsNamedIn (g : RuleGraph) (number : ℕ) (pairs : List (Path × Path)) : Type 0 where
  place : ℕ
  paths : Path × Path
  at : slice_get pairs place ≡ Some paths
  first : first_target_of g number ≡ Some paths.0

first_at : (xs : List (RuleId × RuleId)) (n : ℕ) (pair : RuleId × RuleId) → slice_get xs n ≡ Some pair → slice_get (firsts xs) n ≡ Some pair.0
first_at [] n pair e = absurd (none-some pair e)
first_at (x ∷ xs) zero pair e = ap (λ (o : Option (RuleId × RuleId)). option_map (λ p. p.0) o) e
first_at (x ∷ xs) (suc n) pair e = first_at xs n pair e

module _ (g : RuleGraph) (plan : Planned) (noted : List RuleId) (pairs : List (Path × Path)) (a : AreHeldPairs g plan noted pairs) where
  named_in : (number fault : ℕ) → is_among fault a.faulty ≡ true →
      IsHeldBy plan.states plan.rules plan.notes.waiters a.faulty fault number → IsNamedIn g number pairs
  named_in number fault m h =
      let r : RuleId = record { 0 = number } in
      let p = place_in (firsts a.held) r (a.all.all number fault m h) in
      let size = length-map a.held (λ (pair : RuleId × RuleId). pair.0) in
      let within = slice_get_within (firsts a.held) p.0 r p.1 in
      let d : Path × Path = ([], []) in
      let count_is = a.named.size in
      let paths = get_or pairs p.0 d in
      let at : slice_get pairs p.0 ≡ Some paths = slice_get-get_or pairs p.0 d (omega (arith, size, within, count_is)) in
      let k = a.named.each p.0 paths at in
      let same : k.0.0 ≡ r = same_Some k.0.0 r (sym (first_at a.held p.0 k.0 k.1) ∙ p.1) in
      record {
        place = p.0;
        paths = paths;
        at = at;
        first = ap (λ (x : RuleId). first_target_of g x.0) (sym same) ∙ k.2.first;
      }

  -- two places at which one rule stands first are one
  same_place : (n m : ℕ) (one two : RuleId × RuleId) → slice_get a.held n ≡ Some one → slice_get a.held m ≡ Some two → one.0.0 ≡ two.0.0 → n ≡ m
  same_place n m one two at also same = by (order_of n m)
    where
      numbers : List ℕ
      numbers = map (λ (pair : RuleId × RuleId). pair.0.0) a.held

      number_at : (xs : List (RuleId × RuleId)) (n d : ℕ) (pair : RuleId × RuleId) → slice_get xs n ≡ Some pair →
          get_or (map (λ (p : RuleId × RuleId). p.0.0) xs) n d ≡ pair.0.0
      number_at [] n d pair e = absurd (none-some pair e)
      number_at (x ∷ xs) zero d pair e = ap (λ (p : RuleId × RuleId). p.0.0) (same_Some x pair e)
      number_at (x ∷ xs) (suc n) d pair e = number_at xs n d pair e

      apart : (i j : ℕ) (x y : RuleId × RuleId) → i < j → slice_get a.held i ≡ Some x → slice_get a.held j ≡ Some y → x.0.0 ≡ y.0.0 → ⊥
      apart i j x y lt e f is =
          let size = length-map a.held (λ (pair : RuleId × RuleId). pair.0.0) in
          let within = slice_get_within a.held j y f in
          let differ : nat_eq (get_or numbers i 0) (get_or numbers j 0) ≡ false =
          apart_from_distinct nat_eq numbers i j 0 a.once lt (omega (arith, size, within)) in
          true_false (sym (ap (λ n. nat_eq n y.0.0) is ∙ self y.0.0) ∙ ap (λ n. nat_eq n y.0.0) (sym (number_at a.held i 0 x e))
          ∙ ap (λ n. nat_eq (get_or numbers i 0) n) (sym (number_at a.held j 0 y f)) ∙ differ)
        where
          self : (n : ℕ) → nat_eq n n ≡ true
          self n = grind (arith, nat_tests)

      order_of : (n m : ℕ) → (n < m) ⊎ ((m < n) ⊎ (n ≡ m))
      order_of n m = grind arith

      by : (n < m) ⊎ ((m < n) ⊎ (n ≡ m)) → n ≡ m
      by (inl lt) = absurd (apart n m one two lt at also same)
      by (inr (inl lt)) = absurd (apart m n two one lt also at (sym same))
      by (inr (inr e)) = e

-- ---- by names

first_by : (g : RuleGraph) (targets : List NodeId) (path : Path) → option_and_then (λ n. slice_get g.nodes n.0) (slice_get targets 0) ≡ Some path → slice_get (paths_of g targets) 0 ≡ Some path
first_by g [] path h = absurd (none-some path h)
first_by g (n ∷ targets) path h = ap (λ (o : Option Path). Some (unwrap_or o [])) h

pub named_first : (b : Begun) (g : RuleGraph) → IsGraphNow b g → (number : ℕ) (r : Rule) (path : Path) → rule_numbered b g number ≡ Some r → first_target_of g number ≡ Some path → slice_get r.targets 0 ≡ Some path
named_first b g now number r path is h =
    let there = numbered_stands b g now number r is in
    let named = is_named b g now.grown now.reading number there.of there.at in
    let first = first_by g there.of.targets path
    (ap (λ (o : Option declared.Rule). option_and_then (λ x. option_and_then (λ n. slice_get g.nodes n.0) (slice_get x.targets 0)) o) (sym there.at) ∙ h) in
    subst (λ (x : Rule). slice_get x.targets 0 ≡ Some path) (some_same (sym named.is ∙ is))
    (ap (λ (l : List Path). slice_get l 0) (sym named.names.targets) ∙ first)

-- a node of this path is the first target of the rule with this number
record HasFirst (g : RuleGraph) (path : Path) (number : ℕ) : Type 0 where
  of : declared.Rule
  at : slice_get g.rules number ≡ Some of
  node : NodeId
  target : is_target_of of.targets node.0 ≡ true
  stands : slice_get g.nodes node.0 ≡ Some path

-- a graph has one rule with this first target
one_first : (g : RuleGraph) → IsReading g → (n m : ℕ) (path : Path) → first_target_of g n ≡ Some path → first_target_of g m ≡ Some path → n ≡ m
one_first g reading n m path e f =
    let one = first_node n e in
    let two = first_node m f in
    let same : one.node.0 ≡ two.node.0 = some_same (sym (reading.apart one.node.0 path one.stands) ∙ reading.apart two.node.0 path two.stands) in
    some_same (sym (reading.single n one.node.0 one.of one.at one.target)
    ∙ reading.single m one.node.0 two.of two.at (ap (is_target_of two.of.targets) same ∙ two.target))
  where
    first_node : (number : ℕ) → first_target_of g number ≡ Some path → HasFirst g path number
    first_node number h = by (slice_get g.rules number) refl h
      where
        by : (o : Option declared.Rule) → slice_get g.rules number ≡ o →
            option_and_then (λ r. option_and_then (λ n. slice_get g.nodes n.0) (slice_get r.targets 0)) o ≡ Some path → HasFirst g path number
        by None e h = absurd (none-some path h)
        by (Some r) e h = in_targets r.targets refl h
          where
            is_here : (n : NodeId) (targets : List NodeId) → is_target_of (n ∷ targets) n.0 ≡ true
            is_here n targets = there_any (λ (t : NodeId). nat_eq t.0 n.0) (let m : Among n (n ∷ targets) = here in m) ((Decides-eqb n.0 n.0).1 refl)

            in_targets : (targets : List NodeId) → r.targets ≡ targets → option_and_then (λ n. slice_get g.nodes n.0) (slice_get targets 0) ≡ Some path → HasFirst g path number
            in_targets [] are k = absurd (none-some path k)
            in_targets (n ∷ targets) are k =
                record { of = r; at = e; node = n; target = ap (λ (l : List NodeId). is_target_of l n.0) are ∙ is_here n targets; stands = k }

-- ---- by steps

faulty_by : (past : List Step) (r : Rule) (state : RuleState) → IsAtState past r state → is_faulty_state state ≡ true → IsFaulty past r
faulty_by past r Unneeded at e = true_false (sym e)
faulty_by past r Waiting at e = true_false (sym e)
faulty_by past r Running at e = true_false (sym e)
faulty_by past r Settled at e = true_false (sym e)
faulty_by past r Failed at e = at
faulty_by past r Lacking at e = at

fault_needed : (state : RuleState) → is_faulty_state state ≡ true → state ≢ Unneeded
fault_needed state e none = true_false (sym e ∙ ap is_faulty_state none)

at_fault_state : (past : List Step) (r : Rule) (state : RuleState) → (Among r (settled past) → ⊥) → IsAtState past r state → IsFaulty past r → is_faulty_state state ≡ true
at_fault_state past r Unneeded out at f = absurd (at.not_done (faulty_done f))
at_fault_state past r Waiting out at f = absurd (at.not_done (faulty_done f))
at_fault_state past r Running out at f = absurd (at.not_done (faulty_done f))
at_fault_state past r Settled out at f = absurd (out at)
at_fault_state past r Failed out at f = refl
at_fault_state past r Lacking out at f = refl

-- no rule of a plan as it is loaded is at fault
pub none_noted : (plan : Planned) (g : RuleGraph) (account : Account) → AreMet [] plan.states → AreNotedBy plan g account
none_noted plan g account met rule h = by (state_of plan.states rule) (met.at rule) h
  where
    by : (o : RuleState) → (o ≡ Unneeded) ⊎ ((Unneeded ≡ Unneeded) × (o ≡ Waiting)) → is_faulty_state o ≡ true → IsNotedIn g account rule
    by o (inl e) f = true_false (sym f ∙ ap is_faulty_state e)
    by o (inr e) f = true_false (sym f ∙ ap is_faulty_state e.1)

module _ (o : Outset) (outset : IsOutset o) (jobs : List Given) (s : Standing) (past : List Step) (at : IsAt o jobs s past)
    (not_ended : s.ended ≡ false) (rest : s.around.running ≡ []) (account : Account) (going : account.is_ended ≡ false)
    (notes : AreNotedBy s.plan s.graph account) where
  tied : IsTied (begun_at o) s.graph o.wanted.requested (build_at o s.around) past s.plan
  tied = its o outset jobs s past at not_ended rest

  abbrev NeedsThem : Rule → Rule → Type 0
  NeedsThem r q = NeedsBy o.wanted o.kept o.before s.around past r q

  itself : (cycle : List RuleId) → IsCycle s.plan.states s.plan.rules s.plan.origins cycle → (fault : ℕ) → is_among fault cycle ≡ true →
      NeedsItself (begun_at o) s.graph (build_at o s.around) past s.plan fault
  itself cycle is fault m = needs_itself (begun_at o) s.graph o.wanted.requested (build_at o s.around) past s.plan tied cycle is fault m

  at_fault_needed : (fault : ℕ) → IsAtFault s.plan fault → state_of s.plan.states fault ≢ Unneeded
  at_fault_needed fault (IsAtFault.by_state e) = fault_needed (state_of s.plan.states fault) e
  at_fault_needed fault (IsAtFault.in_cycle cycle is m) = (itself cycle is fault m).needed

  -- the fault of a rule that is at fault by the plan
  told_of : (fault : ℕ) (path : Path) → first_target_of s.graph fault ≡ Some path → IsNotedIn s.graph account fault → HasAny (IsOfRule path) account.faults.items
  told_of fault path named (IsNoted.over e) = true_false (sym e ∙ going)
  told_of fault path named (IsNoted.stands other is among any) =
      subst (λ (x : Path). HasAny (IsOfRule x) account.faults.items) (some_same (sym is ∙ named)) any

  why_at_fault : (fault : ℕ) (q : Rule) (path : Path) → IsAtFault s.plan fault → rule_numbered (begun_at o) s.graph fault ≡ Some q →
      first_target_of s.graph fault ≡ Some path → HoldsBack o.wanted o.kept o.before s.around past account.faults.items q path
  why_at_fault fault q path (IsAtFault.by_state e) is named =
      HoldsBack.by_fault (faulty_by past q (state_of s.plan.states fault) (tied.ties.states fault q is) e) (told_of fault path named (notes fault e))
  why_at_fault fault q path (IsAtFault.in_cycle cycle is_cycle m) is named =
      let k = itself cycle is_cycle fault m in
      HoldsBack.by_cycle (subst (λ (x : Rule). NeedsThem x x) (some_same (sym k.is ∙ is)) k.needs)

  module _ (pairs : List (Path × Path)) (a : AreHeldPairs s.graph s.plan account.faulty.items pairs) where
    skip : (n : ℕ) (paths : Path × Path) → slice_get pairs n ≡ Some paths → IsSkip o.wanted o.kept o.before s.around past account.faults.items paths
    skip n paths e =
        let h = a.named.each n paths e in
        let fault = a.at_fault.each h.0.1.0 (a.real.fault n h.0 h.1) in
        let back = held_back (begun_at o) s.graph o.wanted.requested (build_at o s.around) past s.plan tied a.faulty h.0.1.0 h.0.0.0
        (at_fault_needed h.0.1.0 fault) (a.real.held n h.0 h.1) in
        record {
          rule = back.rule;
          other = back.other;
          first = named_first (begun_at o) s.graph tied.graph h.0.0.0 back.rule paths.0 back.is h.2.first;
          first_other = named_first (begun_at o) s.graph tied.graph h.0.1.0 back.other paths.1 back.is_other h.2.second;
          needs = back.needs;
          untouched = back.untouched;
          well = back.well;
          why = why_at_fault h.0.1.0 back.other paths.1 fault back.is_other h.2.second;
        }

    stands_once : (n m : ℕ) (paths other : Path × Path) → slice_get pairs n ≡ Some paths → slice_get pairs m ≡ Some other → paths.0 ≡ other.0 → n ≡ m
    stands_once n m paths other e f same =
        let one = a.named.each n paths e in
        let two = a.named.each m other f in
        same_place s.graph s.plan account.faulty.items pairs a n m one.0 two.0 one.1 two.1
        (one_first s.graph tied.graph.reading one.0.0.0 two.0.0.0 other.0 (one.2.first ∙ ap (λ (p : Path). Some p) same) two.2.first)

    module _ (still : IsStill s.plan) (count : count_by is_running s.plan.states ≡ 0) (holds : HoldsNeedy s.graph s.plan) where
      -- all that is at fault by the steps was taken over
      taken : (n : ℕ) (x : Rule) → rule_numbered (begun_at o) s.graph n ≡ Some x → IsFaulty past x → is_among n a.faulty ≡ true
      taken n x is f =
          let state = at_fault_state past x (state_of s.plan.states n) (λ m. faulty_unsettled (setting_at o) (build_at o s.around) tied.run f m)
          (tied.ties.states n x is) f in
          a.takes n (stood (notes n state)) state
        where
          stood : {n : ℕ} → IsNotedIn s.graph account n → is_among n account.faulty.items ≡ true
          stood (IsNoted.over e) = true_false (sym e ∙ going)
          stood (IsNoted.stands path named among any) = among

      at_fault_by : (number : ℕ) (r : Rule) → rule_numbered (begun_at o) s.graph number ≡ Some r → IsAtFault s.plan number →
          IsFaulty past r ⊎ (NeedsThem r r ⊎ HasPair pairs r)
      at_fault_by number r is (IsAtFault.by_state e) = inl (faulty_by past r (state_of s.plan.states number) (tied.ties.states number r is) e)
      at_fault_by number r is (IsAtFault.in_cycle cycle is_cycle m) =
          let k = itself cycle is_cycle number m in inr (inl (subst (λ (x : Rule). NeedsThem x x) (some_same (sym k.is ∙ is)) k.needs))

      pair_by : (number : ℕ) (r : Rule) → rule_numbered (begun_at o) s.graph number ≡ Some r → HasFault s.plan a.faulty number → HasPair pairs r
      pair_by number r is f =
          let plan_for = tied.ties.plan_for in
          let named = named_in s.graph s.plan account.faulty.items pairs a number f.fault f.stands
          (holds plan_for.complete plan_for.from plan_for.fits a.faulty f.fault number f.needs) in
          record { place = named.place; paths = named.paths; at = named.at; first = named_first (begun_at o) s.graph tied.graph number r named.paths.0 is named.first }

      has_pair : (r q : Rule) → IsNeededBy o.wanted o.kept o.before s.around past r → NeedsThem r q → IsFaulty past q →
          IsFaulty past r ⊎ (NeedsThem r r ⊎ HasPair pairs r)
      has_pair r q need needs f =
          let p = needed_planned (begun_at o) s.graph o.wanted.requested (build_at o s.around) past s.plan tied still.scans r need in
          by p.number p.is (is_among p.number a.faulty) refl
        where
          by : (number : ℕ) → rule_numbered (begun_at o) s.graph number ≡ Some r → (c : Bool) → is_among number a.faulty ≡ c →
              IsFaulty past r ⊎ (NeedsThem r r ⊎ HasPair pairs r)
          by number is true e = at_fault_by number r is (a.at_fault.each number e)
          by number is false e =
              inr (inr (pair_by number r is
              (has_fault (begun_at o) s.graph o.wanted.requested (build_at o s.around) past s.plan tied still count a.faulty taken q f number r is need needs e)))

      pub skips : AreSkips o.wanted o.kept o.before s.around past account.faults.items pairs
      skips = record { each = skip; once = stands_once; all = has_pair }

module _ {W O E : Type 0} (m : Meaning W) (o : Outset) (outset : IsOutset o) (mid : Site W O E) (after : Account)
    (there : IsAtEnd m o mid) (rest : (m.around mid.world.now).running ≡ [])
    (still : mid.run.now.plan.halted ≡ false → IsStill mid.run.now.plan)
    (ends : KeepsEnds mid.account.now after) (finishes : FinishesWell mid.graph.now mid.run.now.plan mid.account.now after)
    (law : FinishedSucceed) (none : mid.run.now.held ≡ []) (shut : after.is_store_shut ≡ mid.account.now.is_store_shut) (behind : Map)
    (same : behind ≡ map_of mid.store.now) (pairs : List (Path × Path)) (held : HasHeldPairs mid.graph.now mid.run.now.plan after pairs)
    (holds : HoldsNeedy mid.graph.now mid.run.now.plan) (keeps : KeepsNoted mid.account.now after) (notes : SiteNotes mid) where
  skipped_well : after.is_ended ≡ false → AreSkips o.wanted o.kept o.before (m.around mid.world.now) there.on.past after.faults.items pairs
  skipped_well e =
      let not_ended = not_before mid.account.now.is_ended after.is_ended ends.ended e in
      skips o outset there.on.jobs (standing_of m mid) there.on.past there.on.at not_ended rest after e
      (λ rule h. keeps mid.graph.now rule (notes rule h)) pairs (held e)
      (at_last m o outset mid after there rest still ends finishes law none shut behind same not_ended)
      (none_counts m o outset mid after there rest still ends finishes law none shut behind same not_ended) holds

  pub has_skipped : HasMadeSkipping o (m.around mid.world.now) after behind pairs
  has_skipped = record {
    made = has_made m o outset mid after there rest still ends finishes law none shut behind same;
    skips = λ e.
        subst (λ (l : List Step). AreSkips o.wanted o.kept o.before (m.around mid.world.now) l after.faults.items pairs)
        (sym (made_steps m o outset mid after there rest still ends finishes law none shut behind same)) (skipped_well e);
  }

-- ---- what was lent

module _ {W O E : Type 0} (m : Meaning W) (last : Site W O E) (pairs : List (Path × Path)) where
  pub skipped_given : (o : Outset) (now world : W) (account : Account) (store : Store) → last.world.now ≡ world →
      last.account.now ≡ account → last.store.now ≡ store → last.world.now ≡ now →
      (m.tells now → m.sure now → HasMadeSkipping o (m.around now) last.account.now (map_of last.store.now) pairs) →
      m.tells world → m.sure world → HasMadeSkipping o (m.around world) account (map_of store) pairs
  skipped_given o now world account store lent lent_account lent_store same made =
      subst (λ (w : W). m.tells w → m.sure w → HasMadeSkipping o (m.around w) account (map_of store) pairs) (sym same ∙ lent)
      (λ tells sure.
      subst (λ (kept : Store). HasMadeSkipping o (m.around now) account (map_of kept) pairs) lent_store
      (subst (λ (a : Account). HasMadeSkipping o (m.around now) a (map_of last.store.now) pairs) lent_account (made tells sure)))
