-- At one job a build follows the build order.
use Rattle.std.specs.Prelude.{◌≡◌, ◌<◌, ◌++◌, true, false, List, [], ◌∷◌, length, Some, ⊤}
use Rattle.build_model.specs.Rules.{Path, Bytes, Rule, Setting, Among}
use Rattle.build_model.specs.Reach.{scan_list}
use Rattle.build_model.specs.Needs.{Found, Needs, NeedsThrough, Needed, IsBuildOrder}
use Rattle.build_model.specs.Contents.{View, found_in}
use Rattle.build_model.specs.Steps.{Step, Fresh, Began, Ended, Lacks, Halts, Build, settled, began, running, IsReady, IsMissing, IsRunning, IsRun, Succeeds, present_record}
use Rattle.build_model.specs.Resting.{IsFaulty, IsFoundWhole}

-- why a rule isn't decided: it is settled, runs or is faulty, or needs a rule that isn't settled
pub data IsPassed (s : Setting) (past : List Step) (found : Found) (r : Rule) : Type 0 where
  is_settled : Among r (settled past) → IsPassed s past found r
  is_running : IsRunning past r → IsPassed s past found r
  is_faulty : IsFaulty past r → IsPassed s past found r
  waits : (q : Rule) → Needs s.rule_of found r q → (Among q (settled past) → ⊥) → IsPassed s past found r

-- All that can be scanned is, and of the rules that could be decided the one is taken that stands first in the build order
-- by what was found so far.
pub record IsTakenFirst (s : Setting) (b : Build) (past : List Step) (r : Rule) : Type 0 where
  pub found : Found
  pub found_whole : IsFoundWhole s b past found
  pub order : List Rule
  pub is_order : IsBuildOrder s.rule_of s.limit found b.requested order
  pub front : List Rule
  pub behind : List Rule
  pub parts : order ≡ front ++ r ∷ behind
  pub passed : (x : Rule) → Among x front → IsPassed s past found x

-- so each rule is taken that is decided
abbrev pub TakesFirst : Setting → Build → List Step → Type 0
TakesFirst s b [] = ⊤
TakesFirst s b (Fresh r ∷ past) = IsTakenFirst s b past r × TakesFirst s b past
TakesFirst s b (Began r ∷ past) = IsTakenFirst s b past r × TakesFirst s b past
TakesFirst s b (Ended r well ∷ past) = TakesFirst s b past
TakesFirst s b (Lacks r p ∷ past) = TakesFirst s b past
TakesFirst s b (Halts ∷ past) = TakesFirst s b past

-- contents that are as in the tree wherever a path waits for nothing, as those of a clean build are
abbrev pub SeesReady : Setting → Build → List Step → View → Type 0
SeesReady s b steps view = (p : Path) → IsReady s b.after (settled steps) p → view p ≡ Some (b.after p)

-- the rule stands in the order behind rules that are settled
pub record StandsBehind (order settled_rules : List Rule) (r : Rule) : Type 0 where
  pub front : List Rule
  pub behind : List Rule
  pub parts : order ≡ front ++ r ∷ behind
  pub all_settled : (x : Rule) → Among x front → Among x settled_rules

-- the one rule stands in the order before the other
pub record StandsBefore (order : List Rule) (r q : Rule) : Type 0 where
  pub front : List Rule
  pub between : List Rule
  pub behind : List Rule
  pub parts : order ≡ front ++ r ∷ (between ++ q ∷ behind)

-- When a rule begins, all that stands before it in the build order is settled; so rules begin in that order.
pub record FollowsOrder (order : List Rule) (steps : List Step) : Type 0 where
  pub each : (later past : List Step) (r : Rule) → steps ≡ later ++ Began r ∷ past → StandsBehind order (settled past) r
  pub two : (later between past : List Step) (r q : Rule) → steps ≡ later ++ Began q ∷ (between ++ Began r ∷ past) → StandsBefore order r q

-- A build that ended well at one job followed the build order by such contents.
abbrev pub AtOneJob : Type 0
AtOneJob = (s : Setting) (b : Build) (steps : List Step) (view : View) (order : List Rule) → IsRun s b steps → Succeeds s b steps →
    b.jobs ≡ 1 → TakesFirst s b steps → SeesReady s b steps view →
    IsBuildOrder s.rule_of s.limit (found_in s view) b.requested order → FollowsOrder order steps

-- A rule is taken in order: it is the first that could be decided, one more action may run, and by what was found so far no
-- needed rule waits for itself, and the list of the files that are scanned for one is never cut short.
pub record IsTakenInOrder (s : Setting) (b : Build) (past : List Step) (r : Rule) : Type 0 where
  pub first : IsTakenFirst s b past r
  pub room : running past < b.jobs
  pub no_cycle : (x : Rule) → Needed s.rule_of first.found b.requested x → NeedsThrough s.rule_of first.found x x → ⊥
  pub not_cut : (x : Rule) → Needed s.rule_of first.found b.requested x → length (scan_list s.limit (first.found x) x) < s.limit

-- so each rule is taken that is started, or found to lack a dependency
abbrev pub TakesInOrder : Setting → Build → List Step → Type 0
TakesInOrder s b [] = ⊤
TakesInOrder s b (Fresh r ∷ past) = TakesInOrder s b past
TakesInOrder s b (Began r ∷ past) = IsTakenInOrder s b past r × TakesInOrder s b past
TakesInOrder s b (Ended r well ∷ past) = TakesInOrder s b past
TakesInOrder s b (Lacks r p ∷ past) = IsTakenInOrder s b past r × TakesInOrder s b past
TakesInOrder s b (Halts ∷ past) = TakesInOrder s b past

-- contents that have no bytes where a path is missing, as those of a clean build and of the tree have none
abbrev pub SeesMissing : Setting → Build → View → Type 0
SeesMissing s b view = (p : Path) (bytes : Bytes) → IsMissing s b.after p → view p ≡ Some (Some bytes) → ⊥

-- the build is done with a rule: it is settled, and was started if it is due by the test
pub record IsPast (s : Setting) (b : Build) (steps : List Step) (r : Rule) : Type 0 where
  pub is_settled : Among r (settled steps)
  pub due_began : s.is_due r b.before b.stamps_before b.records (present_record s b r) ≡ true → Among r (began steps)

-- What began is a front of what is due in the build order; and where a rule is at fault, it is all that stands before that one.
pub record BeginsFront (s : Setting) (b : Build) (order : List Rule) (steps : List Step) : Type 0 where
  pub follows : FollowsOrder order steps
  -- a rule that lacks a dependency stands behind settled ones, too
  pub lacking : (later past : List Step) (r : Rule) (p : Path) → steps ≡ later ++ Lacks r p ∷ past → StandsBehind order (settled past) r
  pub only_due : (r : Rule) → Among r (began steps) → s.is_due r b.before b.stamps_before b.records (present_record s b r) ≡ true
  pub before_begun : (r x : Rule) → Among r (began steps) → StandsBefore order x r → IsPast s b steps x
  pub before_fault : (r x : Rule) → IsFaulty steps r → StandsBefore order x r → IsPast s b steps x
  -- a rule at fault that was started is the last that was
  pub last : (r : Rule) → Among (Ended r false) steps → (earlier : List Rule) × (began steps ≡ r ∷ earlier)

-- At any status: a build at one job that doesn't go on after faults follows the build order up to its fault.
abbrev pub FrontBegins : Type 0
FrontBegins = (s : Setting) (b : Build) (steps : List Step) (view : View) (order : List Rule) → IsRun s b steps → b.jobs ≡ 1 →
    b.keeps_going ≡ false → TakesInOrder s b steps → SeesReady s b steps view → SeesMissing s b view →
    IsBuildOrder s.rule_of s.limit (found_in s view) b.requested order → BeginsFront s b order steps
