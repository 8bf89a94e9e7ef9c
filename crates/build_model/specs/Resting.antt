-- A build that goes on after faults, where nothing is left to do: why each rule that isn't settled then isn't.
use Rattle.std.specs.Prelude.{◌≡◌, ◌⊎◌, ℕ, ◌<◌, ◌++◌, Bool, true, false, List, [], ◌∷◌, Option, Some, None, if◌then◌else◌}
use Rattle.build_model.specs.Rules.{Path, Content, Rule, Setting, Among}
use Rattle.build_model.specs.Reach.{has, Reaches}
use Rattle.build_model.specs.Needs.{Found, Needs, NeedsThrough, Needed}
use Rattle.build_model.specs.Contents.{View, in_tree, found_in, clean, IsLawful, height}
use Rattle.build_model.specs.Records.{record_of}
use Rattle.build_model.specs.Stale.{IsDue, IsStale}
use Rattle.build_model.specs.Steps.{Step, Began, Ended, Lacks, Halts, Build, settled, began, IsReady, IsRun, present_record}
use Rattle.build_model.specs.Laws.{TestsDue, IsBuild, IsByContent}

-- a rule's action ended otherwise than well, or the rule lacks a dependency
pub data IsFaulty (steps : List Step) (r : Rule) : Type 0 where
  has_failed : Among (Ended r false) steps → IsFaulty steps r
  lacks_one : (p : Path) → Among (Lacks r p) steps → IsFaulty steps r

-- Nothing begins behind a halt, nor behind a fault in a build that doesn't go on after one.
abbrev pub NothingAfterFault : Type 0
NothingAfterFault = (s : Setting) (b : Build) (later past : List Step) (r : Rule) → IsRun s b (later ++ Began r ∷ past) →
    (Among Halts past → ⊥) × (b.keeps_going ≡ false → (x : Rule) → IsFaulty past x → ⊥)

-- All that can be scanned is: a file that waits for nothing gave what it includes, and any other one nothing. So the
-- dependencies of a rule are those with the targets of what isn't settled taken out: reported, and not scanned.
abbrev pub IsFoundWhole : Setting → Build → List Step → Found → Type 0
IsFoundWhole s b steps found = (r : Rule) (p : Path) →
    (IsReady s b.after (settled steps) p × (found r p ≡ found_in s (in_tree b.after) r p))
    ⊎ ((IsReady s b.after (settled steps) p → ⊥) × (found r p ≡ []))

-- whether one of these rules makes the path
abbrev pub is_target : List Rule → Path → Bool
is_target [] p = false
is_target (r ∷ rules) p = if has p r.targets then true else is_target rules p

-- whether a path waits for nothing, where these rules are settled: it is a file that no rule makes, or a target of them
abbrev pub is_ready : Option Rule → Content → List Rule → Path → Bool
is_ready None None rules p = false
is_ready None (Some bytes) rules p = true
is_ready (Some r) x rules p = is_target rules p

-- what is found when all is scanned that can be
abbrev pub whole_found : Setting → Build → List Step → Found
whole_found s b steps r p = if is_ready (s.rule_of p) (b.after p) (settled steps) p then found_in s (in_tree b.after) r p else []

-- After any steps all that can be scanned may be.
abbrev pub AllIsFound : Type 0
AllIsFound = (s : Setting) (b : Build) (steps : List Step) → IsLawful s → IsRun s b steps → IsFoundWhole s b steps (whole_found s b steps)

-- a rule where nothing is left to do: it is settled or faulty, or needs one that isn't settled
pub data IsLeft (s : Setting) (steps : List Step) (found : Found) (r : Rule) : Type 0 where
  is_settled : Among r (settled steps) → IsLeft s steps found r
  is_faulty : IsFaulty steps r → IsLeft s steps found r
  waits : (q : Rule) → Needs s.rule_of found r q → (Among q (settled steps) → ⊥) → IsLeft s steps found r

-- Nothing is left to do for any of the needed rules, of which there are finitely many.
pub record IsAtRest (s : Setting) (b : Build) (steps : List Step) (found : Found) : Type 0 where
  pub found_whole : IsFoundWhole s b steps found
  pub rules : List Rule
  pub all : (r : Rule) → Needed s.rule_of found b.requested r → Among r rules
  pub left : (r : Rule) → Needed s.rule_of found b.requested r → IsLeft s steps found r

-- a rule is skipped for another one: it needs it, directly or through others, and that one is faulty
pub record IsSkipped (s : Setting) (steps : List Step) (found : Found) (r : Rule) : Type 0 where
  pub other : Rule
  pub needs : NeedsThrough s.rule_of found r other
  pub faulty : IsFaulty steps other

-- a rule is held: it stands in a cycle, or needs a rule that does
pub data IsHeld (s : Setting) (found : Found) (r : Rule) : Type 0 where
  in_cycle : NeedsThrough s.rule_of found r r → IsHeld s found r
  behind_cycle : (x : Rule) → NeedsThrough s.rule_of found r x → NeedsThrough s.rule_of found x x → IsHeld s found r

-- what keeps a rule from being settled
pub data IsHindered (s : Setting) (steps : List Step) (found : Found) (r : Rule) : Type 0 where
  by_fault : IsFaulty steps r → IsHindered s steps found r
  by_skip : IsSkipped s steps found r → IsHindered s steps found r
  by_cycle : IsHeld s found r → IsHindered s steps found r

-- a rule was neither started nor settled
abbrev pub IsUntouched : List Step → Rule → Type 0
IsUntouched steps r = (Among r (began steps) → ⊥) × (Among r (settled steps) → ⊥)

-- What is left at rest: each needed rule is settled, faulty, skipped or held; one that is due was started, unless it is
-- one of the latter; and what is faulty, skipped or held is not settled, nor was what is skipped or held started.
pub record LeavesAtRest (s : Setting) (b : Build) (steps : List Step) (found : Found) : Type 0 where
  pub ends_up : (r : Rule) → Needed s.rule_of found b.requested r → Among r (settled steps) ⊎ IsHindered s steps found r
  pub due_began : (r : Rule) → Among r (settled steps) → TestsDue s b r →
      IsDue b.before b.stamps_before b.records r (present_record s b r) → Among r (began steps)
  -- without a fault and a cycle every needed rule is settled
  pub well : ((r : Rule) → IsFaulty steps r → ⊥) → ((r : Rule) → Needed s.rule_of found b.requested r → NeedsThrough s.rule_of found r r → ⊥) →
      (r : Rule) → Needed s.rule_of found b.requested r → Among r (settled steps)
  pub faulty : (r : Rule) → IsFaulty steps r → Among r (settled steps) → ⊥
  pub skipped : (r : Rule) → IsSkipped s steps found r → IsUntouched steps r
  pub held : (r : Rule) → IsHeld s found r → IsUntouched steps r

abbrev pub RestsRightly : Type 0
RestsRightly = (s : Setting) (b : Build) (steps : List Step) (found : Found) → IsRun s b steps → IsAtRest s b steps found →
    LeavesAtRest s b steps found

-- a target of a rule that is hindered
pub record IsOut (s : Setting) (steps : List Step) (found : Found) (p : Path) : Type 0 where
  pub rule : Rule
  pub is_rule : s.rule_of p ≡ Some rule
  pub why : IsHindered s steps found rule

-- What files include where the contents are these, with the targets of hindered rules taken out: they aren't scanned. It is
-- said of what the needed rules reach so.
abbrev pub IsTakenOut : Setting → Build → View → List Step → Found → Found → Type 0
IsTakenOut s b view steps found taken = (r : Rule) (p : Path) → Needed s.rule_of taken b.requested r → Reaches (taken r) r p →
    (IsOut s steps found p × (taken r p ≡ [])) ⊎ ((IsOut s steps found p → ⊥) × (taken r p ≡ found_in s view r p))

-- A build that went on after faults and came to rest, by the clean contents with the targets of hindered rules taken out.
pub record GoesOn (s : Setting) (b : Build) (view : View) (steps : List Step) (found taken : Found) : Type 0 where
  -- what is needed so was needed at rest
  pub needed : (r : Rule) → Needed s.rule_of taken b.requested r → Needed s.rule_of found b.requested r
  -- one that is stale was started, or is faulty, skipped or held
  pub stale : (r : Rule) → Needed s.rule_of taken b.requested r → IsStale b.before b.records r (record_of s r view b.stamps_after) →
      Among r (began steps) ⊎ IsHindered s steps found r
  -- and one that needs a faulty rule so is skipped
  pub skipped : (r q : Rule) → Needed s.rule_of taken b.requested r → NeedsThrough s.rule_of taken r q → IsFaulty steps q →
      IsSkipped s steps found r

abbrev pub KeepsGoing : Type 0
KeepsGoing = (s : Setting) (b : Build) (steps : List Step) (found taken : Found) (top : ℕ) → IsBuild s b steps → IsByContent s b top →
    height (settled steps) < top → IsAtRest s b steps found → IsTakenOut s b (clean s b.before top) steps found taken →
    GoesOn s b (clean s b.before top) steps found taken

-- There is one: what was found at rest.
abbrev pub FoundIsTakenOut : Type 0
FoundIsTakenOut = (s : Setting) (b : Build) (steps : List Step) (found : Found) (top : ℕ) → IsBuild s b steps → IsByContent s b top →
    height (settled steps) < top → IsAtRest s b steps found → IsTakenOut s b (clean s b.before top) steps found found
