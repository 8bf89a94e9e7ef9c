-- What is left to do while a text is read: the same as tasks, one upon another.
use Rattle.std.specs.Prelude.{◌≡◌, ◌≢◌, ℕ, Bool, ◌+◌, ◌-◌, ◌==◌, None, Some, List, [], ◌∷◌, ◌++◌, map, take, drop, reverse, length, Result, Ok, Err, MatchResult, if◌then◌else◌}
use Rattle.scons_base.specs.declared.limits.TheConstants.{SUBST_LIMIT}
use Rattle.env_text.specs.Readings.{reading_from}
use Rattle.env_pieces.specs.declared.piece.Piece.{Piece}
use Rattle.env_pieces.specs.declared.pieces.PieceFault.{PieceFault}
use Rattle.env_pieces.specs.declared.pieces.PieceFault.TheVariants as piece
use Rattle.env_pieces.specs.Pieces.{Sheet, with_text, pieces_of}
use Rattle.env_subst.specs.declared.fault.SubstFault.{SubstFault}
use Rattle.env_subst.specs.declared.fault.SubstFault.TheVariants.{Memory, TooLong}
use Rattle.env_subst.specs.declared.locals.Locals.{Locals}
use Rattle.env_subst.specs.declared.saying.Saying.{Saying}
use Rattle.env_subst.specs.declared.task.Call.{Call}
use Rattle.env_subst.specs.declared.task.Task.{Task}
use Rattle.env_subst.specs.declared.task.Task.TheVariants as task
use Rattle.env_subst.specs.declared.desk.Desk as code
use Rattle.env_subst.specs.declared.setting.Setting as code_setting
use Rattle.env_subst.specs.Settings.{Setting, setting_of}
use Rattle.env_subst.specs.Sayings.{sayings_of}
use Rattle.env_subst.specs.Expansions.{State, Answer, and_then, Deeper, Names, is_open, puts, says_one, says_more, expands, all_dirs, puts_all, read_item, items_all, reads, text_at, inner, started}

-- what a refused piece is for the whole
abbrev pub piece_fault : PieceFault → SubstFault
piece_fault piece.TooLong = TooLong (SUBST_LIMIT + 1)
piece_fault piece.Memory = Memory

pub data PlainTask : Type 0 where
  -- a text as it stands
  put : List ℕ → PlainTask
  -- what is left from a place of a text of the variable `owner`
  read : List ℕ → List ℕ → ℕ → PlainTask
  -- further things that the innermost variable says
  say : List ℕ → List Saying → PlainTask
  -- one thing that a variable says
  inside : List ℕ → Saying → PlainTask
  -- all that a variable says
  expand : List ℕ → PlainTask
  -- pieces, one behind another
  put_all : List Piece → PlainTask
  -- further items of a call, and further directories
  items : Call → List Saying → PlainTask
  dirs : Call → List (List ℕ) → PlainTask
  -- what was read apart is an item of a call; or all that a further call gave
  apart : Sheet → Call → Bool → PlainTask
  -- the innermost variable is read
  close : PlainTask

abbrev pub plain : Locals → Task → PlainTask
plain locals (task.Put t) = put t
plain locals (task.Read owner place) = read owner place.text place.at
plain locals (task.Say name rest) = say name (sayings_of locals rest)
plain locals (task.Inside name saying) = inside name saying
plain locals (task.Expand name) = expand name
plain locals (task.Items call rest) = items call (sayings_of locals rest)
plain locals (task.Dirs call found next) = dirs call (drop next found)
plain locals (task.Apart outer call alone) = apart outer call alone
plain locals (task.PutAll pieces) = put_all (pieces_of pieces)
plain locals task.Close = close

-- the texts of the variables that stand in the innermost one
abbrev pub deeper_of : Setting → Names → Deeper
deeper_of w names name t s = if is_open name names then Ok s else text_at w (names ++ name ∷ []) name t s

-- a text that is read apart as an item of a call
abbrev pub reads_apart : Setting → Names → Call → Bool → List ℕ → State → Answer
reads_apart w names call alone t s = read_item w (deeper_of w names) names call alone s.sheet (deeper_of w names call.list t (inner s))

-- something that a text of `owner` begins with, and then the rest of the text from a place on
abbrev pub and_rest : Setting → Names → List ℕ → List ℕ → ℕ → (State → Answer) → State → Answer
and_rest w names owner t at first s = and_then (first s) (reads w (deeper_of w names) names owner (reading_from t at))

-- without the innermost one
abbrev pub outer_names : Names → Names
outer_names names = take (length names - 1) names

abbrev pub does : Setting → Names → PlainTask → State → Answer
does w names (put t) s = puts t s
does w names (read owner t at) s = reads w (deeper_of w names) names owner (reading_from t at) s
does w names (say name xs) s = says_more (text_at w names name) xs s
does w names (inside name x) s = says_one (deeper_of w names name) x s
does w names (expand name) s = expands w (deeper_of w names) names name s
does w names (put_all pieces) s = puts_all pieces s
does w names (items call xs) s = items_all w (deeper_of w names) names call xs s
does w names (dirs call ds) s = all_dirs w (deeper_of w names) names call ds s
does w names (apart outer call alone) s = read_item w (deeper_of w names) names call alone outer (Ok s)
does w names close s = Ok s

abbrev pub names_after : PlainTask → Names → Names
names_after close names = outer_names names
names_after (put t) names = names
names_after (read owner t at) names = names
names_after (say name xs) names = names
names_after (inside name x) names = names
names_after (expand name) names = names
names_after (items call xs) names = names
names_after (dirs call ds) names = names
names_after (apart outer call alone) names = names
names_after (put_all pieces) names = names

-- how far reading has come in the end, and which variables are open then
abbrev pub Whole : Type 0
Whole = Result (State × Names) SubstFault

-- the tasks, the uppermost first
abbrev pub resumes : Setting → List PlainTask → Names → State → Whole
resumes w [] names s = Ok (s, names)
resumes w (t ∷ tasks) names s = and_then (does w names t s) (resumes w tasks (names_after t names))

pub record Desk : Type 0 where
  pub tasks : List PlainTask
  pub names : Names
  pub state : State

abbrev pub tasks_of : Locals → List Task → List PlainTask
tasks_of locals tasks = reverse (map (plain locals) tasks)

abbrev pub desk_of : Locals → code.Desk → Desk
desk_of locals d = record {
  tasks = tasks_of locals d.tasks.tasks.items;
  names = d.names;
  state = record { sheet = d.pieces; references = d.references };
}

-- nothing is left to do and nothing is read
abbrev pub idle : Names → ℕ → Desk
idle names references = record { tasks = []; names = names; state = started references }

abbrev pub left_of : Setting → Desk → Whole
left_of w d = resumes w d.tasks d.names d.state

-- what is left gives the whole; or the whole has this fault
abbrev pub Leads : {U : Type 0} → Setting → Whole → Desk → Result U SubstFault → Type 0
Leads w whole after r = MatchResult r (λ _. left_of w after ≡ whole) (λ e. e ≢ Memory → whole ≡ Err e)

-- a task upon what is left
abbrev pub with_task : PlainTask → Desk → Desk
with_task t d = record { tasks = t ∷ d.tasks; names = d.names; state = d.state }

-- a variable is opened, and will be closed again
abbrev pub with_open : List ℕ → Desk → Desk
with_open name d = record { tasks = close ∷ d.tasks; names = d.names ++ name ∷ []; state = d.state }

-- this, and then what is left
abbrev pub behind_all : Setting → (State → Answer) → Desk → Whole
behind_all w first d = and_then (first d.state) (resumes w d.tasks d.names)

-- what is done at a desk: so much of the whole
abbrev pub Steps : {U : Type 0} → code_setting.Setting → (Setting → Names → State → Answer) → code.Desk → code.Desk → Result U SubstFault → Type 0
Steps s first old new r =
    Leads (setting_of s) (behind_all (setting_of s) (first (setting_of s) old.names) (desk_of s.locals.now old)) (desk_of s.locals.now new) r

-- a space is put where less may come than this
abbrev pub Parted : ℕ → Sheet → Sheet → Type 0
Parted room old new = (if old.room == room then Some old else with_text (32 ∷ []) old) ≡ Some new

-- and can't be
abbrev pub CannotPart : ℕ → Sheet → SubstFault → Type 0
CannotPart room old fault = (fault ≡ TooLong (SUBST_LIMIT + 1)) × ((if old.room == room then Some old else with_text (32 ∷ []) old) ≡ None)
