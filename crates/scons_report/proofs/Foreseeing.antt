-- Each rule that a build starts was listed, or needs what a listed rule makes.
use Rattle.std.proofs.Common.{◌≡◌, ◌⊎◌, inl, inr, ◌∙◌, ℕ, Bool, true, false, List, [], ◌∷◌, Option, Some, map, refl, sym, subst, ap}
use Rattle.build_model.specs.Rules.{Path, Stamps, Rule, Dependency, Setting, Among, here, there}
use Rattle.build_model.specs.Reach.{has}
use Rattle.build_model.specs.Contents.{View, in_tree, found_in, dependencies}
use Rattle.build_model.specs.Laws.{IsBuild}
use Rattle.build_model.specs.Needs.{Found, Needs, as_dependency, directly, through}
use Rattle.build_model.specs.Records.{record_of, dependency_of}
use Rattle.build_model.specs.Steps.{Step, Fresh, Began, Ended, Lacks, Halts, Build, settled, began, done, IsReady, is_source, is_made, IsRun, present_dependencies, present_record}
use Rattle.build_model.proofs.Agree.{same_dependencies, same_record}
use Rattle.build_model.proofs.Lists.{none_some, some_same, has_among, among_has, true_false}
use Rattle.build_model.proofs.Ready.{needed_place}
use Rattle.build_model.proofs.Runs.{begun_prepared, settled_done}
use Rattle.build_model.proofs.Whole.{reach_reaches}
use Rattle.scons_report.specs.Dry.{is_due}
use Rattle.scons_report.specs.Foreseen.{IsForeseen, NeedsForeseen, ChangesMade}

-- ---- what is written

-- a rule among these that makes a path
record IsWriter (rules : List Rule) (p : Path) : Type 0 where
  rule : Rule
  among : Among rule rules
  makes : Among p rule.targets

abbrev IsUnwritten : List Rule → Path → Type 0
IsUnwritten rules p = (r : Rule) → Among r rules → Among p r.targets → ⊥

unwritten_more : (x : Rule) (rules : List Rule) (p : Path) → has p x.targets ≡ false → IsUnwritten rules p → IsUnwritten (x ∷ rules) p
unwritten_more x rules p out rest r here m = true_false (sym (among_has m) ∙ out)
unwritten_more x rules p out rest r (there n) m = rest r n m

writer_by : (x : Rule) (rules : List Rule) (p : Path) (c : Bool) → has p x.targets ≡ c → IsWriter rules p ⊎ IsUnwritten rules p →
    IsWriter (x ∷ rules) p ⊎ IsUnwritten (x ∷ rules) p
writer_by x rules p true e rest = inl (record { rule = x; among = here; makes = has_among p x.targets e })
writer_by x rules p false e (inl w) = inl (record { rule = w.rule; among = there w.among; makes = w.makes })
writer_by x rules p false e (inr none) = inr (unwritten_more x rules p e none)

writer : (rules : List Rule) (p : Path) → IsWriter rules p ⊎ IsUnwritten rules p
writer [] p = inr (λ r n m. elim n [ ])
writer (x ∷ rules) p = writer_by x rules p (has p x.targets) refl (writer rules p)

-- one of these paths is written, or none is
record IsWritten (rules : List Rule) (paths : List Path) : Type 0 where
  path : Path
  stands : Among path paths
  by : IsWriter rules path

abbrev AreUnwritten : List Rule → List Path → Type 0
AreUnwritten rules paths = (p : Path) → Among p paths → IsUnwritten rules p

none_more : (rules : List Rule) (p : Path) (paths : List Path) → IsUnwritten rules p → AreUnwritten rules paths → AreUnwritten rules (p ∷ paths)
none_more rules p paths first rest q here = first
none_more rules p paths first rest q (there m) = rest q m

written_by : (rules : List Rule) (p : Path) (paths : List Path) → IsWriter rules p ⊎ IsUnwritten rules p →
    IsWritten rules paths ⊎ AreUnwritten rules paths → IsWritten rules (p ∷ paths) ⊎ AreUnwritten rules (p ∷ paths)
written_by rules p paths (inl w) rest = inl (record { path = p; stands = here; by = w })
written_by rules p paths (inr none) (inl w) = inl (record { path = w.path; stands = there w.stands; by = w.by })
written_by rules p paths (inr none) (inr rest) = inr (none_more rules p paths none rest)

written : (rules : List Rule) (paths : List Path) → IsWritten rules paths ⊎ AreUnwritten rules paths
written rules [] = inr (λ p m. elim m [ ])
written rules (p ∷ paths) = written_by rules p paths (writer rules p) (written rules paths)

-- the records over the same files with the same stamps are one
stamped : (s : Setting) (r : Rule) (view : View) (old new : Stamps) (paths : List Path) → ((p : Path) → Among p paths → old p ≡ new p) →
    map (dependency_of s r view old) paths ≡ map (dependency_of s r view new) paths
stamped s r view old new [] same = refl
stamped s r view old new (p ∷ paths) same =
    ap (λ (d : Dependency). d ∷ map (dependency_of s r view old) paths)
    (ap (λ (time : Option ℕ). dependency_of s r view (λ _. time) p) (same p here))
    ∙ ap (λ (ds : List Dependency). dependency_of s r view new p ∷ ds) (stamped s r view old new paths (λ q m. same q (there m)))

module _ (s : Setting) (b : Build) (steps : List Step) (build : IsBuild s b steps) (changes : ChangesMade b steps) where
  abbrev By : Found
  By = found_in s (in_tree b.after)

  -- a rule that began makes its targets
  maker : {q : Rule} (p : Path) → Among q (began steps) → Among p q.targets → s.rule_of p ≡ Some q
  maker {q} p m n =
      let place = needed_place ((begun_prepared s b steps build.run m).wanted.is_needed) in
      build.lawful.alone place.0 q place.1 p n

  -- what is done after some steps, and began at all, began in these steps
  abbrev BeganBefore : List Step → Type 0
  BeganBefore past = (q : Rule) → Among q (done past) → Among q (began steps) → Among q (began past)

  not_now : (x q : Rule) (past : List Step) → (Among x (done past) → ⊥) → Among q (done past) → Among q (x ∷ began past) → Among q (began past)
  not_now x _ past out d here = absurd (out d)
  not_now x q past out d (there m) = m

  narrowed : (step : Step) (past : List Step) → IsRun s b (step ∷ past) → BeganBefore (step ∷ past) → BeganBefore past
  narrowed (Fresh x) past run before q d m = before q (there d) m
  narrowed (Began x) past run before q d m = not_now x q past run.0.0.not_done d (before q d m)
  narrowed (Ended x true) past run before q d m = before q (there d) m
  narrowed (Ended x false) past run before q d m = before q (there d) m
  narrowed (Lacks x p) past run before q d m = before q (there d) m
  narrowed Halts past run before q d m = before q d m

  ready_settled : (p : Path) (q : Rule) (rules : List Rule) → IsReady s b.after rules p → s.rule_of p ≡ Some q → Among q rules
  ready_settled p q rules (is_source bytes none file) e = none_some (sym none ∙ e)
  ready_settled p q rules (is_made r of m) e = subst (λ (x : Rule). Among x rules) (some_same (sym of ∙ e)) m

  -- where nothing that a rule depends on is written its record is the one of before
  same_now : (r : Rule) → AreUnwritten (began steps) (present_dependencies s b r) → record_of s r (in_tree b.before) b.stamps_before ≡ present_record s b r
  same_now r none =
      let files : (p : Path) → Among p (dependencies s (in_tree b.after) r) → in_tree b.after p ≡ in_tree b.before p =
      λ p m. ap Some (sym (changes.files p (none p m))) in
      let deps = same_dependencies s r (in_tree b.after) (in_tree b.before) files in
      ap (λ (ds : List Dependency). record { work = r.work; hash = s.hash; signed = r.signed; targets = r.targets; dependencies = ds })
      (ap (map (dependency_of s r (in_tree b.before) b.stamps_before)) deps
      ∙ stamped s r (in_tree b.before) b.stamps_before b.stamps_after (dependencies s (in_tree b.after) r) (λ p m. changes.stamps p (none p m))
      ∙ sym (ap (map (dependency_of s r (in_tree b.before) b.stamps_after)) deps))
      ∙ same_record s r (in_tree b.after) (in_tree b.before) files b.stamps_after

  through_other : (r q : Rule) → Needs s.rule_of By r q → IsForeseen s b q ⊎ NeedsForeseen s b q → NeedsForeseen s b r
  through_other r q needs (inl listed) = record { other = q; listed = listed; needs = directly needs }
  through_other r q needs (inr h) = record { other = h.other; listed = h.listed; needs = through q needs h.needs }

  foreseen_by : (r : Rule) (past : List Step) → IsRun s b (Began r ∷ past) → BeganBefore past →
      ((q : Rule) → Among q (began past) → IsForeseen s b q ⊎ NeedsForeseen s b q) →
      IsWritten (began steps) (present_dependencies s b r) ⊎ AreUnwritten (began steps) (present_dependencies s b r) →
      IsForeseen s b r ⊎ NeedsForeseen s b r
  foreseen_by r past run before deeper (inr none) =
      inl (is_due (ap (s.is_due r b.before b.stamps_before b.records) (same_now r none) ∙ run.0.1.due))
  foreseen_by r past run before deeper (inl w) =
      let q = w.by.rule in
      let e = maker w.path w.by.among w.by.makes in
      let m = ready_settled w.path q (settled past) (run.0.0.prepared.dependencies w.path w.stands) e in
      let needs = as_dependency w.path (reach_reaches (By r) {r = r} s.limit w.stands) e in
      inr (through_other r q needs (deeper q (before q (settled_done past m) w.by.among)))

  foreseen : (past : List Step) → IsRun s b past → BeganBefore past → (r : Rule) → Among r (began past) → IsForeseen s b r ⊎ NeedsForeseen s b r
  foreseen [] run before r m = elim m [ ]
  foreseen (Fresh x ∷ past) run before r m = foreseen past run.1 (narrowed (Fresh x) past run before) r m
  foreseen (Began x ∷ past) run before _ here =
      let narrow = narrowed (Began x) past run before in
      foreseen_by x past run narrow (λ q m. foreseen past run.1 narrow q m) (written (began steps) (present_dependencies s b x))
  foreseen (Began x ∷ past) run before r (there m) = foreseen past run.1 (narrowed (Began x) past run before) r m
  foreseen (Ended x true ∷ past) run before r m = foreseen past run.1 (narrowed (Ended x true) past run before) r m
  foreseen (Ended x false ∷ past) run before r m = foreseen past run.1 (narrowed (Ended x false) past run before) r m
  foreseen (Lacks x p ∷ past) run before r m = foreseen past run.1 (narrowed (Lacks x p) past run before) r m
  foreseen (Halts ∷ past) run before r m = foreseen past run.1 (narrowed Halts past run before) r m

  pub all_foreseen : (r : Rule) → Among r (began steps) → IsForeseen s b r ⊎ NeedsForeseen s b r
  all_foreseen r m = foreseen steps build.run (λ q d n. n) r m
