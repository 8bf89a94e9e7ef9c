-- What a settled rule makes is the clean content, at a height that counts the settled rules.
use Rattle.std.proofs.Common.{◌≡◌, ◌<◌, ◌≤◌, ℕ, zero, suc, Bool, true, false, if◌then◌else◌, List, [], ◌∷◌, Some, None, refl, sym, subst, ap, ◌∙◌, inl, inr, ◌⊎◌, arith}
use Rattle.build_model.specs.Rules.{Path, Bytes, Rule, Setting, Among, here, there}
use Rattle.build_model.specs.Contents.{in_tree, found_in, includes_of, dependencies, made, by_rule, source_content, clean, height, IsLawful}
use Rattle.build_model.specs.Records.{record_of}
use Rattle.build_model.specs.Stale.{IsStale, IsUpToDate}
use Rattle.build_model.specs.Steps.{Step, Fresh, Began, Ended, Lacks, Halts, Build, settled, began, IsReady, is_source, is_made, IsMissing, IsFirstMissing, IsWanted, IsPrepared, IsFresh, IsMade, IsRun, present_dependencies, present_record}
use Rattle.build_model.specs.Laws.{IsByContent, NeededIn, IsClean, IsFirstStuck, EachStep, IsBuild}
use Rattle.build_model.proofs.Lists.{among_either, among_same}
use Rattle.build_model.proofs.Agree.{same_reach, same_made, made_in_tree}
use Rattle.build_model.proofs.Heights.{higher_le, level, level_le, level_more, height_more}
use Rattle.build_model.proofs.Ready.{needed_place, Agrees, wanted_needed, prepared_dependencies, prepared_record}
use Rattle.build_model.proofs.Runs.{begun_prepared, settled_prepared, began_due, fresh_of, fresh_settled}
use Rattle.build_model.proofs.Made.{fresh_made, fresh_not_stale, due_stale}

module _ (s : Setting) (b : Build) (lawful : IsLawful s) (sources : (p : Path) → s.rule_of p ≡ None → b.before p ≡ b.after p) where
  abbrev Clean : ℕ → Path → Type 0
  Clean h p = clean s b.before h p ≡ Some (b.after p)

  raised : {h k : ℕ} {p : Path} → h ≤ k → Clean h p → Clean k p
  raised {h} {k} {p} le e = higher_le s b.before h k le p (b.after p) e

  -- the targets of these rules are clean
  abbrev pub AreClean : List Rule → Type 0
  AreClean rules = (r : Rule) → Among r rules → (p : Path) → Among p r.targets → Clean (level r (height rules)) p

  source_known : (p : Path) (bytes : Bytes) → s.rule_of p ≡ None → b.after p ≡ Some bytes → source_content (b.before p) ≡ Some (b.after p)
  source_known p bytes none file =
      ap source_content (sources p none ∙ file) ∙ ap Some (sym file)

  source_clean : (h : ℕ) (p : Path) (bytes : Bytes) → s.rule_of p ≡ None → b.after p ≡ Some bytes → Clean h p
  source_clean zero p bytes none file =
      ap (λ o. by_rule o (source_content (b.before p)) (λ r. None)) none ∙ source_known p bytes none file
  source_clean (suc h) p bytes none file =
      ap (λ o. by_rule o (source_content (b.before p)) (λ r. made s (clean s b.before h) r p)) none ∙ source_known p bytes none file

  ready_clean : {rules : List Rule} {p : Path} → AreClean rules → IsReady s b.after rules p → Clean (suc (height rules)) p
  ready_clean {rules} {p} all (is_source bytes none file) = source_clean (suc (height rules)) p bytes none file
  ready_clean {rules} {p} all (is_made r e m) = raised (level_le r (height rules)) (all r m p (lawful.makes p r e))

  -- what isn't copied stands one lower
  ready_clean_below : {rules : List Rule} {p : Path} → AreClean rules → ((x : Rule) → s.rule_of p ≡ Some x → x.copies ≡ false) →
      IsReady s b.after rules p → Clean (height rules) p
  ready_clean_below {rules} {p} all plain (is_source bytes none file) = source_clean (height rules) p bytes none file
  ready_clean_below {rules} {p} all plain (is_made r e m) =
      subst (λ c. Clean (if c then suc (height rules) else height rules) p) (plain r e) (all r m p (lawful.makes p r e))

  makes_clean : (h : ℕ) (r : Rule) (p : Path) → s.rule_of p ≡ Some r → IsMade s b.after r → Among p r.targets →
      ((q : Path) → Among q (present_dependencies s b r) → Clean h q) → Clean (suc h) p
  makes_clean h r p e made_there m known =
      ap (λ o. by_rule o (source_content (b.before p)) (λ x. made s (clean s b.before h) x p)) e
      ∙ same_made s r (in_tree b.after) (clean s b.before h) (λ q n. sym (known q n)) p
      ∙ made_in_tree s b.after r p ∙ ap Some (sym (made_there p m))

  prepared_place : {rules : List Rule} {r : Rule} → IsPrepared s b rules r → (p : Path) → Among p r.targets → s.rule_of p ≡ Some r
  prepared_place {r = r} prepared p m = let place = needed_place prepared.wanted.is_needed in lawful.alone place.0 r place.1 p m

  newly_clean : {rules : List Rule} (r : Rule) (c : Bool) → r.copies ≡ c → AreClean rules → IsPrepared s b rules r → IsMade s b.after r →
      (p : Path) → Among p r.targets →
      Clean (if c then suc (if c then height rules else suc (suc (height rules))) else (if c then height rules else suc (suc (height rules)))) p
  newly_clean {rules} r true copies all prepared made_there p m =
      let place = needed_place prepared.wanted.is_needed in
      makes_clean (height rules) r p (prepared_place prepared p m) made_there m
      (λ q n. ready_clean_below all (lawful.copied_once place.0 r place.1 copies (in_tree b.after) q n) (prepared.dependencies q n))
  newly_clean {rules} r false copies all prepared made_there p m =
      makes_clean (suc (height rules)) r p (prepared_place prepared p m) made_there m
      (λ q n. ready_clean all (prepared.dependencies q n))

  more_clean : {rules : List Rule} {r : Rule} → AreClean rules → IsPrepared s b rules r → IsMade s b.after r → AreClean (r ∷ rules)
  more_clean all prepared made_there x here p m = newly_clean x x.copies refl all prepared made_there p m
  more_clean {rules} {r} all prepared made_there x (there n) p m =
      raised (level_more x (height_more r rules)) (all x n p m)

  module _ (top : ℕ) (by : IsByContent s b top) where
    agrees_top : {rules : List Rule} → height rules < top → AreClean rules → Agrees s b rules (clean s b.before top)
    agrees_top low all p ready = raised low (ready_clean all ready)

    -- a rule that is found up to date is so by content
    found_kept : {rules : List Rule} (r : Rule) → height rules < top → AreClean rules → IsWanted s b rules r → IsFresh s b r →
        IsUpToDate b.before b.records r (present_record s b r)
    found_kept {rules} r low all wanted fresh =
        let needed = wanted_needed s b wanted (agrees_top low all) in
        (by.tests r needed).kept (by.decider r needed) fresh.not_due

    found_made : {rules : List Rule} (r : Rule) → height rules < top → AreClean rules → IsWanted s b rules r → IsFresh s b r → IsMade s b.after r
    found_made r low all wanted fresh = fresh_made s b r by.distinct by.sound fresh (found_kept r low all wanted fresh)

    lower : (r : Rule) (rules : List Rule) → height (r ∷ rules) < top → height rules < top
    lower r rules low = let le = height_more r rules in omega (arith, le, low)

    pub settled_clean : (past : List Step) → IsRun s b past → height (settled past) < top → AreClean (settled past)
    settled_clean [] run low = λ r m p n. elim m [ ]
    settled_clean (Fresh x ∷ past) run low =
        let less = lower x (settled past) low in
        let all = settled_clean past run.1 less in
        more_clean all run.0.0.prepared (found_made x less all run.0.0.prepared.wanted run.0.1)
    settled_clean (Began x ∷ past) run low = settled_clean past run.1 low
    settled_clean (Ended x true ∷ past) run low =
        more_clean (settled_clean past run.1 (lower x (settled past) low)) (begun_prepared s b past run.1 run.0.0.began) run.0.1
    settled_clean (Ended x false ∷ past) run low = settled_clean past run.1 low
    settled_clean (Lacks x p ∷ past) run low = settled_clean past run.1 low
    settled_clean (Halts ∷ past) run low = settled_clean past run.1 low

    pub settled_agrees : (past : List Step) → IsRun s b past → height (settled past) < top → Agrees s b (settled past) (clean s b.before top)
    settled_agrees past run low = agrees_top low (settled_clean past run low)

    each_clean : (steps : List Step) → IsRun s b steps → height (settled steps) < top → (r : Rule) → Among r (settled steps) →
        IsClean s b (clean s b.before top) r
    each_clean steps run low r m = record {
      targets = λ p n. raised (high r) (settled_clean steps run low r m p n);
      dependencies = prepared_dependencies s b r (settled_prepared s b steps run m) (clean s b.before top) (settled_agrees steps run low);
      record_is = prepared_record s b r (settled_prepared s b steps run m) (clean s b.before top) (settled_agrees steps run low);
    }
      where
        high : (x : Rule) → level x (height (settled steps)) ≤ top
        high x = let le = level_le x (height (settled steps)) in omega (arith, le, low)

    fresh_right : (steps : List Step) → IsRun s b steps → height (settled steps) < top → (r : Rule) → Among (Fresh r) steps →
        IsStale b.before b.records r (record_of s r (clean s b.before top) b.stamps_after) → ⊥
    fresh_right steps run low r m is_stale =
        let there_settled = fresh_settled s b m in
        let prepared = settled_prepared s b steps run there_settled in
        let same = prepared_record s b r prepared (clean s b.before top) (settled_agrees steps run low) in
        fresh_not_stale (found_kept r low (settled_clean steps run low) prepared.wanted (fresh_of s b m run))
        (subst (λ now. IsStale b.before b.records r now) same is_stale)

    began_right : (steps : List Step) → IsRun s b steps → height (settled steps) < top → (r : Rule) → Among r (began steps) →
        NeededIn s b (clean s b.before top) r × IsStale b.before b.records r (record_of s r (clean s b.before top) b.stamps_after)
    began_right steps run low r m =
        let prepared = begun_prepared s b steps run m in
        let agrees = settled_agrees steps run low in
        let needed = wanted_needed s b prepared.wanted agrees in
        let same = prepared_record s b r prepared (clean s b.before top) agrees in
        let due = (by.tests r needed).due (began_due s b steps run m) in
        (needed, subst (λ now. IsStale b.before b.records r now) (sym same) (due_stale (by.decider r needed) due))

    source_stuck : (h : ℕ) (p : Path) → s.rule_of p ≡ None → b.before p ≡ None → clean s b.before h p ≡ None
    source_stuck zero p none no_file =
        ap (λ o. by_rule o (source_content (b.before p)) (λ r. None)) none ∙ ap source_content no_file
    source_stuck (suc h) p none no_file =
        ap (λ o. by_rule o (source_content (b.before p)) (λ r. made s (clean s b.before h) r p)) none ∙ ap source_content no_file

    no_file_before : {p : Path} → IsMissing s b.after p → b.before p ≡ None
    no_file_before {p} h = sources p h.no_rule ∙ h.no_file

    pub missing_stuck : {p : Path} → IsMissing s b.after p → clean s b.before top p ≡ None
    missing_stuck {p} h = source_stuck top p h.no_rule (no_file_before h)

    module _ (rules : List Rule) (agrees : Agrees s b rules (clean s b.before top)) (r : Rule) where
      same_found : {q : Path} → IsReady s b.after rules q ⊎ IsMissing s b.after q →
          found_in s (in_tree b.after) r q ≡ found_in s (clean s b.before top) r q
      same_found {q} (inl ready) = ap (λ k. includes_of (s.includes r q) k) (sym (agrees q ready))
      same_found {q} (inr missing) =
          ap (λ c. includes_of (s.includes r q) (Some c)) missing.no_file
          ∙ ap (λ k. includes_of (s.includes r q) k) (sym (missing_stuck missing))

      behind_first : {p q : Path} (h : IsFirstMissing s b.after rules r p) → Among q (p ∷ h.rest) → IsReady s b.after rules q ⊎ IsMissing s b.after q
      behind_first h here = inr h.is_missing
      behind_first h (there m) = h.rest_settled _ m

      member_cases : {p q : Path} (h : IsFirstMissing s b.after rules r p) → Among q h.front ⊎ Among q (p ∷ h.rest) →
          IsReady s b.after rules q ⊎ IsMissing s b.after q
      member_cases h (inl m) = inl (h.front_ready _ m)
      member_cases h (inr m) = behind_first h m

      lacking_dependencies : {p : Path} → IsFirstMissing s b.after rules r p → dependencies s (clean s b.before top) r ≡ present_dependencies s b r
      lacking_dependencies h =
          same_reach s.limit (found_in s (in_tree b.after) r) (found_in s (clean s b.before top) r) r
          (λ q m. same_found (member_cases h (among_either h.front (among_same h.parts m))))

      first_stuck : {p : Path} → IsWanted s b rules r → IsFirstMissing s b.after rules r p → IsFirstStuck s b (clean s b.before top) r p
      first_stuck {p} wanted h = record {
        needed = wanted_needed s b wanted agrees;
        front = h.front;
        rest = h.rest;
        parts = lacking_dependencies h ∙ h.parts;
        front_known = λ q m. (b.after q, agrees q (h.front_ready q m));
        no_rule = h.is_missing.no_rule;
        no_file = no_file_before h.is_missing;
        stuck = missing_stuck h.is_missing;
      }

    lacking_right : {r : Rule} {p : Path} {past : List Step} → Among (Lacks r p) past → IsRun s b past → height (settled past) < top →
        IsFirstStuck s b (clean s b.before top) r p
    lacking_right {r} (here {xs = past}) run low =
        first_stuck (settled past) (settled_agrees past run.1 low) r run.0.wanted run.0.first_missing
    lacking_right (there {y = Fresh x} {xs = past} m) run low = lacking_right m run.1 (lower x (settled past) low)
    lacking_right (there {y = Began x} m) run low = lacking_right m run.1 low
    lacking_right (there {y = Ended x true} {xs = past} m) run low = lacking_right m run.1 (lower x (settled past) low)
    lacking_right (there {y = Ended x false} m) run low = lacking_right m run.1 low
    lacking_right (there {y = Lacks x q} m) run low = lacking_right m run.1 low
    lacking_right (there {y = Halts} m) run low = lacking_right m run.1 low

    pub each_step : (steps : List Step) → IsRun s b steps → height (settled steps) < top → EachStep s b (clean s b.before top) steps
    each_step steps run low = record {
      settled = each_clean steps run low;
      fresh = fresh_right steps run low;
      began = began_right steps run low;
      lacking = λ r p m. lacking_right m run low;
    }

pub each_step_is_clean : (s : Setting) (b : Build) (steps : List Step) (top : ℕ) → IsBuild s b steps → IsByContent s b top →
    height (settled steps) < top → EachStep s b (clean s b.before top) steps
each_step_is_clean s b steps top build by low = each_step s b build.lawful build.sources top by steps build.run low
