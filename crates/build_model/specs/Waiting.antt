-- A build waits for an ending only where as many actions run as may, or nothing can be decided.
use Rattle.std.specs.Prelude.{◌≡◌, ◌⊎◌, ℕ, ◌<◌, ◌++◌, Bool, List, [], ◌∷◌, Some, ⊤}
use Rattle.build_model.specs.Rules.{Path, Rule, Setting, Among}
use Rattle.build_model.specs.Reach.{Reaches}
use Rattle.build_model.specs.Needs.{Found, NeedsThrough, Needed}
use Rattle.build_model.specs.Contents.{View, found_in, clean, height}
use Rattle.build_model.specs.Records.{record_of}
use Rattle.build_model.specs.Stale.{IsStale}
use Rattle.build_model.specs.Steps.{Step, Fresh, Began, Ended, Lacks, Halts, Build, settled, began, done, running, Succeeds}
use Rattle.build_model.specs.Laws.{NeededIn, IsBuild, IsByContent}
use Rattle.build_model.specs.Resting.{IsFoundWhole}
use Rattle.build_model.specs.OneJob.{IsPassed}

-- all that can be scanned is, and no needed rule can be decided
pub record IsIdle (s : Setting) (b : Build) (past : List Step) : Type 0 where
  pub found : Found
  pub found_whole : IsFoundWhole s b past found
  pub passed : (r : Rule) → Needed s.rule_of found b.requested r → IsPassed s past found r

-- each ending was waited for where as many actions ran as may, or nothing could be decided
abbrev pub WaitsRightly : Setting → Build → List Step → Type 0
WaitsRightly s b [] = ⊤
WaitsRightly s b (Fresh r ∷ past) = WaitsRightly s b past
WaitsRightly s b (Began r ∷ past) = WaitsRightly s b past
WaitsRightly s b (Ended r well ∷ past) = ((running past ≡ b.jobs) ⊎ IsIdle s b past) × WaitsRightly s b past
WaitsRightly s b (Lacks r p ∷ past) = WaitsRightly s b past
WaitsRightly s b (Halts ∷ past) = WaitsRightly s b past

-- a rule is stale where the contents are these
abbrev pub IsStaleIn : Setting → Build → View → Rule → Type 0
IsStaleIn s b view r = IsStale b.before b.records r (record_of s r view b.stamps_after)

-- a needed and stale rule that hasn't ended
pub record IsPending (s : Setting) (b : Build) (view : View) (past : List Step) (r : Rule) : Type 0 where
  pub needed : NeededIn s b view r
  pub stale : IsStaleIn s b view r
  pub not_ended : Among r (done past) → ⊥

-- a rule needs such a one, directly or through others
pub record NeedsPending (s : Setting) (b : Build) (view : View) (past : List Step) (r : Rule) : Type 0 where
  pub other : Rule
  pub needs : NeedsThrough s.rule_of (found_in s view) r other
  pub pending : IsPending s b view past other

-- a target of a rule that is pending, or needs one that is
pub record IsAwaited (s : Setting) (b : Build) (view : View) (past : List Step) (p : Path) : Type 0 where
  pub rule : Rule
  pub is_rule : s.rule_of p ≡ Some rule
  pub why : IsPending s b view past rule ⊎ NeedsPending s b view past rule

-- What files include, with these targets taken out. It is said of what the needed rules reach so.
abbrev pub IsTakenOutThen : Setting → Build → View → List Step → Found → Type 0
IsTakenOutThen s b view past taken = (r : Rule) (p : Path) → Needed s.rule_of taken b.requested r → Reaches (taken r) r p →
    (IsAwaited s b view past p × (taken r p ≡ [])) ⊎ ((IsAwaited s b view past p → ⊥) × (taken r p ≡ found_in s view r p))

-- each rule that is needed so, is stale and wasn't started needs a stale rule that hasn't ended
abbrev pub AllWait : Setting → Build → View → List Step → Found → Type 0
AllWait s b view past taken = (r : Rule) → Needed s.rule_of taken b.requested r → IsStaleIn s b view r → (Among r (began past) → ⊥) →
    NeedsPending s b view past r

-- As many actions run as may, or with these targets taken out, which can be done, all that wasn't started waits.
pub data IsBusy (s : Setting) (b : Build) (view : View) (past : List Step) : Type 0 where
  all_run : running past ≡ b.jobs → IsBusy s b view past
  all_wait : (found : Found) → IsTakenOutThen s b view past found →
      ((taken : Found) → IsTakenOutThen s b view past taken → AllWait s b view past taken) → IsBusy s b view past

abbrev pub BusyAtEachEnding : Type 0
BusyAtEachEnding = (s : Setting) (b : Build) (steps : List Step) (top : ℕ) → IsBuild s b steps → IsByContent s b top →
    height (settled steps) < top → Succeeds s b steps → WaitsRightly s b steps →
    (later past : List Step) (r : Rule) (well : Bool) → steps ≡ later ++ Ended r well ∷ past → IsBusy s b (clean s b.before top) past
