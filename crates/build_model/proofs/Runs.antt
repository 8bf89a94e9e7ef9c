-- What holds of each rule that was started or settled.
use Rattle.std.proofs.Common.{◌≡◌, ◌≤◌, ℕ, pred, true, false, List, [], ◌∷◌, ◌++◌, inl, inr, ◌⊎◌, arith}
use Rattle.build_model.specs.Rules.{Rule, Setting, Among, here, there, Unique}
use Rattle.build_model.specs.Needs.{NeedsThrough, directly, through, is_requested, is_needed, IsChain, IsCycle}
use Rattle.build_model.specs.Contents.{View, found_in}
use Rattle.build_model.specs.Steps.{Step, Fresh, Began, Ended, Lacks, Halts, Build, settled, began, done, running, IsPrepared, IsFresh, IsRun, Succeeds, present_record}
use Rattle.build_model.specs.Laws.{NeededIn, NeedsIn, OnlyOnce}
use Rattle.build_model.proofs.Ready.{Within, prepared_more, Agrees, agrees_less, needs_among}

one_more : {r : Rule} {rules : List Rule} → Within rules (r ∷ rules)
one_more q m = there m

pub settled_done : {r : Rule} (past : List Step) → Among r (settled past) → Among r (done past)
settled_done [] m = elim m [ ]
settled_done (Fresh x ∷ past) here = here
settled_done (Fresh x ∷ past) (there m) = there (settled_done past m)
settled_done (Began x ∷ past) m = settled_done past m
settled_done (Ended x true ∷ past) here = here
settled_done (Ended x true ∷ past) (there m) = there (settled_done past m)
settled_done (Ended x false ∷ past) m = there (settled_done past m)
settled_done (Lacks x p ∷ past) m = there (settled_done past m)
settled_done (Halts ∷ past) m = settled_done past m

pub settled_later : (step : Step) (past : List Step) → Within (settled past) (settled (step ∷ past))
settled_later (Fresh x) past r m = there m
settled_later (Began x) past r m = m
settled_later (Ended x true) past r m = there m
settled_later (Ended x false) past r m = m
settled_later (Lacks x p) past r m = m
settled_later Halts past r m = m

pub began_later : (step : Step) (past : List Step) → Within (began past) (began (step ∷ past))
began_later (Fresh x) past r m = m
began_later (Began x) past r m = there m
began_later (Ended x well) past r m = m
began_later (Lacks x p) past r m = m
began_later Halts past r m = m

pub settled_after : (later past : List Step) → Within (settled past) (settled (later ++ past))
settled_after [] past r m = m
settled_after (step ∷ later) past r m = settled_later step (later ++ past) r (settled_after later past r m)

pub began_after : (later past : List Step) → Within (began past) (began (later ++ past))
began_after [] past r m = m
began_after (step ∷ later) past r m = began_later step (later ++ past) r (began_after later past r m)

module _ (s : Setting) (b : Build) where
  pub run_before : (later past : List Step) → IsRun s b (later ++ past) → IsRun s b past
  run_before [] past run = run
  run_before (step ∷ later) past run = run_before later past run.1

  pub begun_prepared : {r : Rule} (past : List Step) → IsRun s b past → Among r (began past) → IsPrepared s b (settled past) r
  begun_prepared [] run m = elim m [ ]
  begun_prepared (Fresh x ∷ past) run m = prepared_more one_more (begun_prepared past run.1 m)
  begun_prepared (Began x ∷ past) run here = run.0.0.prepared
  begun_prepared (Began x ∷ past) run (there m) = begun_prepared past run.1 m
  begun_prepared (Ended x true ∷ past) run m = prepared_more one_more (begun_prepared past run.1 m)
  begun_prepared (Ended x false ∷ past) run m = begun_prepared past run.1 m
  begun_prepared (Lacks x p ∷ past) run m = begun_prepared past run.1 m
  begun_prepared (Halts ∷ past) run m = begun_prepared past run.1 m

  pub settled_prepared : {r : Rule} (past : List Step) → IsRun s b past → Among r (settled past) → IsPrepared s b (settled past) r
  settled_prepared [] run m = elim m [ ]
  settled_prepared (Fresh x ∷ past) run here = prepared_more one_more run.0.0.prepared
  settled_prepared (Fresh x ∷ past) run (there m) = prepared_more one_more (settled_prepared past run.1 m)
  settled_prepared (Began x ∷ past) run m = settled_prepared past run.1 m
  settled_prepared (Ended x true ∷ past) run here = prepared_more one_more (begun_prepared past run.1 run.0.0.began)
  settled_prepared (Ended x true ∷ past) run (there m) = prepared_more one_more (settled_prepared past run.1 m)
  settled_prepared (Ended x false ∷ past) run m = settled_prepared past run.1 m
  settled_prepared (Lacks x p ∷ past) run m = settled_prepared past run.1 m
  settled_prepared (Halts ∷ past) run m = settled_prepared past run.1 m

  pub began_due : {r : Rule} (past : List Step) → IsRun s b past → Among r (began past) →
      s.is_due r b.before b.stamps_before b.records (present_record s b r) ≡ true
  began_due [] run m = elim m [ ]
  began_due (Fresh x ∷ past) run m = began_due past run.1 m
  began_due (Began x ∷ past) run here = run.0.1.due
  began_due (Began x ∷ past) run (there m) = began_due past run.1 m
  began_due (Ended x well ∷ past) run m = began_due past run.1 m
  began_due (Lacks x p ∷ past) run m = began_due past run.1 m
  began_due (Halts ∷ past) run m = began_due past run.1 m

  pub fresh_of : {r : Rule} {past : List Step} → Among (Fresh r) past → IsRun s b past → IsFresh s b r
  fresh_of here run = run.0.1
  fresh_of (there m) run = fresh_of m run.1

  pub fresh_settled : {r : Rule} {past : List Step} → Among (Fresh r) past → Among r (settled past)
  fresh_settled here = here
  fresh_settled {r} (there {y = y} {xs = past} m) = settled_later y past r (fresh_settled m)

  later_fresh_or_began : {r : Rule} (step : Step) (past : List Step) → Among (Fresh r) past ⊎ Among r (began past) →
      Among (Fresh r) (step ∷ past) ⊎ Among r (began (step ∷ past))
  later_fresh_or_began step past (inl m) = inl (there m)
  later_fresh_or_began {r} step past (inr m) = inr (began_later step past r m)

  pub fresh_or_began : {r : Rule} (past : List Step) → IsRun s b past → Among r (settled past) → Among (Fresh r) past ⊎ Among r (began past)
  fresh_or_began [] run m = elim m [ ]
  fresh_or_began (Fresh x ∷ past) run here = inl here
  fresh_or_began (Fresh x ∷ past) run (there m) = later_fresh_or_began (Fresh x) past (fresh_or_began past run.1 m)
  fresh_or_began (Began x ∷ past) run m = later_fresh_or_began (Began x) past (fresh_or_began past run.1 m)
  fresh_or_began (Ended x true ∷ past) run here = inr run.0.0.began
  fresh_or_began (Ended x true ∷ past) run (there m) = later_fresh_or_began (Ended x true) past (fresh_or_began past run.1 m)
  fresh_or_began (Ended x false ∷ past) run m = later_fresh_or_began (Ended x false) past (fresh_or_began past run.1 m)
  fresh_or_began (Lacks x p ∷ past) run m = later_fresh_or_began (Lacks x p) past (fresh_or_began past run.1 m)
  fresh_or_began (Halts ∷ past) run m = later_fresh_or_began Halts past (fresh_or_began past run.1 m)

  one_less : (n : ℕ) {m : ℕ} → n ≤ m → pred n ≤ m
  one_less n le = omega arith

  pub running_few : (past : List Step) → IsRun s b past → running past ≤ b.jobs
  running_few [] run = omega arith
  running_few (Fresh x ∷ past) run = running_few past run.1
  running_few (Began x ∷ past) run = run.0.1.room
  running_few (Ended x well ∷ past) run = one_less (running past) (running_few past run.1)
  running_few (Lacks x p ∷ past) run = running_few past run.1
  running_few (Halts ∷ past) run = running_few past run.1

  pub began_once : (past : List Step) → IsRun s b past → Unique (began past)
  began_once [] run = tt
  began_once (Fresh x ∷ past) run = began_once past run.1
  began_once (Began x ∷ past) run = (run.0.0.not_began, began_once past run.1)
  began_once (Ended x well ∷ past) run = began_once past run.1
  began_once (Lacks x p ∷ past) run = began_once past run.1
  began_once (Halts ∷ past) run = began_once past run.1

  pub settled_once : (past : List Step) → IsRun s b past → Unique (settled past)
  settled_once [] run = tt
  settled_once (Fresh x ∷ past) run = (λ m. run.0.0.not_done (settled_done past m), settled_once past run.1)
  settled_once (Began x ∷ past) run = settled_once past run.1
  settled_once (Ended x true ∷ past) run = (λ m. run.0.0.not_done (settled_done past m), settled_once past run.1)
  settled_once (Ended x false ∷ past) run = settled_once past run.1
  settled_once (Lacks x p ∷ past) run = settled_once past run.1
  settled_once (Halts ∷ past) run = settled_once past run.1

  pub only_once : (steps : List Step) → IsRun s b steps → OnlyOnce steps
  only_once steps run = record { began = began_once steps run; settled = settled_once steps run }

  module _ (view : View) where
    -- what a rule needs was settled when it was started
    pub needs_before : (later past : List Step) (r q : Rule) → Agrees s b (settled (later ++ Began r ∷ past)) view →
        IsRun s b (later ++ Began r ∷ past) → NeedsIn s view r q → Among q (settled past)
    needs_before later past r q agrees run needs =
        let here = run_before later (Began r ∷ past) run in
        needs_among s b r here.0.0.prepared view (agrees_less s b (settled_after later (Began r ∷ past)) agrees) needs

    pub needs_settled : {r q : Rule} (past : List Step) → IsRun s b past → Agrees s b (settled past) view →
        Among r (settled past) → NeedsIn s view r q → Among q (settled past)
    needs_settled {r} past run agrees m needs = needs_among s b r (settled_prepared past run m) view agrees needs

    pub needed_settled : {r : Rule} (past : List Step) → IsRun s b past → Agrees s b (settled past) view → Succeeds s b past →
        NeededIn s b view r → Among r (settled past)
    needed_settled {r} past run agrees succeeds (is_requested p m e) = succeeds p r m e
    needed_settled past run agrees succeeds (is_needed q needed needs) =
        needs_settled past run agrees (needed_settled past run agrees succeeds needed) needs

    abbrev pub Through : Rule → Rule → Type 0
    Through r q = NeedsThrough s.rule_of (found_in s view) r q

    pub through_settled : {r q : Rule} (past : List Step) → IsRun s b past → Agrees s b (settled past) view →
        Through r q → Among r (settled past) → Among q (settled past)
    through_settled past run agrees (directly needs) m = needs_settled past run agrees m needs
    through_settled past run agrees (through x needs rest) m =
        through_settled past run agrees rest (needs_settled past run agrees m needs)

    -- a rule that was decided when all that it needs was settled comes to no rule that wasn't
    pub decided_through : {r q : Rule} (past : List Step) → IsRun s b past → Agrees s b (settled past) view →
        IsPrepared s b (settled past) r → Through r q → Among q (settled past)
    decided_through {r} past run agrees prepared (directly needs) = needs_among s b r prepared view agrees needs
    decided_through {r} past run agrees prepared (through x needs rest) =
        through_settled past run agrees rest (needs_among s b r prepared view agrees needs)

    pub no_loop : {r : Rule} (past : List Step) → IsRun s b past → Agrees s b (settled past) view → Among r (settled past) → Through r r → ⊥
    no_loop [] run agrees m loop = elim m [ ]
    no_loop (Fresh x ∷ past) run agrees here loop =
        run.0.0.not_done (settled_done past (decided_through past run.1 (agrees_less s b one_more agrees) run.0.0.prepared loop))
    no_loop (Fresh x ∷ past) run agrees (there m) loop = no_loop past run.1 (agrees_less s b one_more agrees) m loop
    no_loop (Began x ∷ past) run agrees m loop = no_loop past run.1 agrees m loop
    no_loop (Ended x true ∷ past) run agrees here loop =
        run.0.0.not_done (settled_done past
        (decided_through past run.1 (agrees_less s b one_more agrees) (begun_prepared past run.1 run.0.0.began) loop))
    no_loop (Ended x true ∷ past) run agrees (there m) loop = no_loop past run.1 (agrees_less s b one_more agrees) m loop
    no_loop (Ended x false ∷ past) run agrees m loop = no_loop past run.1 agrees m loop
    no_loop (Lacks x p ∷ past) run agrees m loop = no_loop past run.1 agrees m loop
    no_loop (Halts ∷ past) run agrees m loop = no_loop past run.1 agrees m loop

    chain_through : {q : Rule} (r : Rule) (rs : List Rule) → IsChain s.rule_of (found_in s view) r rs q → Through r q
    chain_through r [] needs = directly needs
    chain_through r (x ∷ xs) chain = through x chain.0 (chain_through x xs chain.1)

    pub no_cycle : (past : List Step) (r : Rule) (rs : List Rule) → IsRun s b past → Agrees s b (settled past) view → Succeeds s b past →
        NeededIn s b view r → IsCycle s.rule_of (found_in s view) (r ∷ rs) → ⊥
    no_cycle past r rs run agrees succeeds needed cycle =
        no_loop past run agrees (needed_settled past run agrees succeeds needed) (chain_through r rs cycle)
