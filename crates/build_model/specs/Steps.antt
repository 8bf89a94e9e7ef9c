-- A build as the list of its steps, the latest first: which step may come after which others. Contents are those of the
-- tree at the end. A source doesn't change in a build, and neither does what a settled rule makes, so what was looked at
-- earlier is what stands there then.
use Rattle.std.specs.Prelude.{◌≡◌, ◌⊎◌, ℕ, suc, pred, ◌<◌, ◌++◌, Bool, true, false, List, [], ◌∷◌, map, length, Some, None, ⊤, if◌then◌else◌}
use Rattle.build_model.specs.Rules.{Path, Bytes, Content, Tree, Stamps, Rule, Record, Records, Setting, Among}
use Rattle.build_model.specs.Needs.{Found, Needed}
use Rattle.build_model.specs.Contents.{in_tree, found_in, scanned_files, dependencies}
use Rattle.build_model.specs.Records.{record_of, IsMet}

-- A rule is found up to date; its action begins, and from here on its targets may change; it ends well, or otherwise,
-- also where it couldn't be started; the rule lacks a dependency; or nothing further is decided, for a refusal outside.
pub data Step : Type 0 where
  Fresh : Rule → Step
  Began : Rule → Step
  Ended : Rule → Bool → Step
  Lacks : Rule → Path → Step
  Halts : Step

-- what a build is asked for, where it begins and where it ends
pub record Build : Type 0 where
  pub before : Tree
  pub stamps_before : Stamps
  pub records : Records
  pub requested : List Path
  -- how many actions may run at once, and whether it goes on after a fault
  pub jobs : ℕ
  pub keeps_going : Bool
  -- the contents that were looked at so far
  pub met : List Bytes
  pub after : Tree
  pub stamps_after : Stamps

-- the rules that are settled: found up to date, or ended well
abbrev pub settled : List Step → List Rule
settled [] = []
settled (Fresh r ∷ past) = r ∷ settled past
settled (Began r ∷ past) = settled past
settled (Ended r true ∷ past) = r ∷ settled past
settled (Ended r false ∷ past) = settled past
settled (Lacks r p ∷ past) = settled past
settled (Halts ∷ past) = settled past

-- the rules whose action was started
abbrev pub began : List Step → List Rule
began [] = []
began (Fresh r ∷ past) = began past
began (Began r ∷ past) = r ∷ began past
began (Ended r well ∷ past) = began past
began (Lacks r p ∷ past) = began past
began (Halts ∷ past) = began past

-- the rules with which the build is done: settled, or ended otherwise, or lacking a dependency
abbrev pub done : List Step → List Rule
done [] = []
done (Fresh r ∷ past) = r ∷ done past
done (Began r ∷ past) = done past
done (Ended r well ∷ past) = r ∷ done past
done (Lacks r p ∷ past) = r ∷ done past
done (Halts ∷ past) = done past

-- how many actions run
abbrev pub running : List Step → ℕ
running [] = 0
running (Fresh r ∷ past) = running past
running (Began r ∷ past) = suc (running past)
running (Ended r well ∷ past) = pred (running past)
running (Lacks r p ∷ past) = running past
running (Halts ∷ past) = running past

-- whether no further rule is decided: for a refusal outside, or for a fault in a build that doesn't go on after one
abbrev pub is_over : Bool → List Step → Bool
is_over keeps_going [] = false
is_over keeps_going (Fresh r ∷ past) = is_over keeps_going past
is_over keeps_going (Began r ∷ past) = is_over keeps_going past
is_over keeps_going (Ended r true ∷ past) = is_over keeps_going past
is_over keeps_going (Ended r false ∷ past) = if keeps_going then is_over keeps_going past else true
is_over keeps_going (Lacks r p ∷ past) = if keeps_going then is_over keeps_going past else true
is_over keeps_going (Halts ∷ past) = true

-- A path waits for nothing: it is a file that no rule makes, or its rule is settled.
pub data IsReady (s : Setting) (t : Tree) (rules : List Rule) (p : Path) : Type 0 where
  is_source : (bytes : Bytes) → s.rule_of p ≡ None → t p ≡ Some bytes → IsReady s t rules p
  is_made : (r : Rule) → s.rule_of p ≡ Some r → Among r rules → IsReady s t rules p

-- a path is missing: no rule makes it, and it is no file
pub record IsMissing (s : Setting) (t : Tree) (p : Path) : Type 0 where
  pub no_rule : s.rule_of p ≡ None
  pub no_file : t p ≡ None

-- the dependencies of a rule in the tree at the end, and its record there
abbrev pub present_dependencies : Setting → Build → Rule → List Path
present_dependencies s b r = dependencies s (in_tree b.after) r

abbrev pub present_record : Setting → Build → Rule → Record
present_record s b r = record_of s r (in_tree b.after) b.stamps_after

abbrev pub with_content : Tree → Path → Path × Content
with_content t p = (p, t p)

abbrev pub contents_of : Tree → List Path → List (Path × Content)
contents_of t ps = map (with_content t) ps

-- What was found so far is nothing, or what a file includes that waits for nothing.
abbrev pub IsFound : Setting → Tree → List Rule → Found → Type 0
IsFound s t rules found = (r : Rule) (p : Path) → (found r p ≡ []) ⊎ (IsReady s t rules p × (found r p ≡ found_in s (in_tree t) r p))

-- a rule is needed by what was found so far
pub record IsWanted (s : Setting) (b : Build) (rules : List Rule) (r : Rule) : Type 0 where
  pub found : Found
  pub is_found : IsFound s b.after rules found
  pub is_needed : Needed s.rule_of found b.requested r

-- A rule may be decided once these rules are settled: all that it needs is, and all its files are scanned. A required
-- file without a rule holds back nothing.
pub record IsPrepared (s : Setting) (b : Build) (rules : List Rule) (r : Rule) : Type 0 where
  pub wanted : IsWanted s b rules r
  pub whole : length (scanned_files s (in_tree b.after) r) < s.limit
  pub dependencies : (p : Path) → Among p (present_dependencies s b r) → IsReady s b.after rules p
  pub required : (p : Path) (q : Rule) → Among p r.required → s.rule_of p ≡ Some q → Among q rules

-- a rule may be decided after these steps
pub record IsDecided (s : Setting) (b : Build) (past : List Step) (r : Rule) : Type 0 where
  pub goes_on : is_over b.keeps_going past ≡ false
  pub not_began : Among r (began past) → ⊥
  pub not_done : Among r (done past) → ⊥
  pub prepared : IsPrepared s b (settled past) r

-- what is found up to date isn't due, and its targets stay as they were
pub record IsFresh (s : Setting) (b : Build) (r : Rule) : Type 0 where
  pub not_due : s.is_due r b.before b.stamps_before b.records (present_record s b r) ≡ false
  pub each_met : (p : Path) → Among p (present_dependencies s b r) → IsMet b.met (b.after p)
  pub same : (p : Path) → Among p r.targets → b.before p ≡ b.after p

-- the rule's action runs
pub record IsRunning (past : List Step) (r : Rule) : Type 0 where
  pub began : Among r (began past)
  pub not_done : Among r (done past) → ⊥

-- the rule's targets are what its action makes of what stands in the tree
abbrev pub IsMade : Setting → Tree → Rule → Type 0
IsMade s t r = (p : Path) → Among p r.targets →
    t p ≡ s.act r.work r.signed r.targets (contents_of t (dependencies s (in_tree t) r)) p

-- A dependency is the first that is missing, and all rules of the others are settled.
pub record IsFirstMissing (s : Setting) (t : Tree) (rules : List Rule) (r : Rule) (p : Path) : Type 0 where
  pub front : List Path
  pub rest : List Path
  pub parts : dependencies s (in_tree t) r ≡ front ++ p ∷ rest
  pub is_missing : IsMissing s t p
  pub front_ready : (q : Path) → Among q front → IsReady s t rules q
  pub rest_settled : (q : Path) → Among q rest → IsReady s t rules q ⊎ IsMissing s t q

-- the rule is wanted and lacks this dependency
pub record IsLacking (s : Setting) (b : Build) (past : List Step) (r : Rule) (p : Path) : Type 0 where
  pub goes_on : is_over b.keeps_going past ≡ false
  pub not_began : Among r (began past) → ⊥
  pub not_done : Among r (done past) → ⊥
  pub wanted : IsWanted s b (settled past) r
  pub whole : length (scanned_files s (in_tree b.after) r) < s.limit
  pub first_missing : IsFirstMissing s b.after (settled past) r p
  pub required : (q : Path) (x : Rule) → Among q r.required → s.rule_of q ≡ Some x → Among x (settled past)

-- what is started is due, and fewer actions run than may; what it is given was looked at
pub record IsStart (s : Setting) (b : Build) (past : List Step) (r : Rule) : Type 0 where
  pub due : s.is_due r b.before b.stamps_before b.records (present_record s b r) ≡ true
  pub each_met : (p : Path) → Among p (present_dependencies s b r) → IsMet b.met (b.after p)
  pub room : running past < b.jobs

-- the step may come after these
abbrev pub MayCome : Setting → Build → List Step → Step → Type 0
MayCome s b past (Fresh r) = IsDecided s b past r × IsFresh s b r
MayCome s b past (Began r) = IsDecided s b past r × IsStart s b past r
MayCome s b past (Ended r true) = IsRunning past r × IsMade s b.after r
MayCome s b past (Ended r false) = IsRunning past r
MayCome s b past (Lacks r p) = IsLacking s b past r p
MayCome s b past Halts = ⊤

-- The steps are those of a build: each may come after those before it.
abbrev pub IsRun : Setting → Build → List Step → Type 0
IsRun s b [] = ⊤
IsRun s b (step ∷ past) = MayCome s b past step × IsRun s b past

-- every rule that makes what is requested is settled: such a build may end with status 0
abbrev pub Succeeds : Setting → Build → List Step → Type 0
Succeeds s b steps = (p : Path) (r : Rule) → Among p b.requested → s.rule_of p ≡ Some r → Among r (settled steps)
