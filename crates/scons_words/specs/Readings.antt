-- What the words of a command line say: they are read from left to right, and the first that is refused ends the reading.
use Rattle.std.specs.Prelude.{◌≡◌, ℕ, ◌+◌, ◌-◌, Bool, true, false, ◌&&◌, ◌||◌, ◌==◌, List, [], ◌∷◌, ◌++◌, Option, Some, None, Result, Ok, Err, is_some, length, drop, codes, nat_lt, if◌then◌else◌}
use Rattle.std.specs.Str.{bytes_eq}
use Rattle.std.specs.List.{before_first, after_first, position_or_len, starts_with}
use Rattle.scons_base.specs.PathFaults.{fault_in}
use Rattle.scons_base.specs.declared.fault.PathFault.{PathFault}
use Rattle.scons_base.specs.declared.limits.TheConstants.{JOB_LIMIT}
use Rattle.world_api.specs.declared.hash.Hash.{Hash}
use Rattle.world_api.specs.declared.hash.Hash.TheVariants.{Md5, Sha1, Sha256}
use Rattle.scons_words.specs.declared.fault.UsageKind.{UsageKind}
use Rattle.scons_words.specs.declared.fault.UsageKind.TheVariants as kind
use Rattle.scons_words.specs.declared.fault.WordsFault.{WordsFault}
use Rattle.scons_words.specs.declared.fault.WordsFault.TheVariants.{At}
use Rattle.scons_words.specs.declared.switch.Switch.{Switch}
use Rattle.scons_words.specs.declared.switch.Switch.TheVariants as switch
use Rattle.scons_words.specs.declared.switch.Valued.{Valued}
use Rattle.scons_words.specs.declared.switch.Valued.TheVariants as valued
use Rattle.scons_words.specs.declared.reading.Reading.{Reading}
use Rattle.scons_words.specs.declared.reading.TheConstants.{LOAD_LIMIT}
use Rattle.scons_words.specs.declared.words.Words.{Words}
use Rattle.scons_words.specs.Numbers.{number_up_to}
use Rattle.scons_words.specs.Switches.{no_flags, with_flag, short_switch, long_switch}
use Rattle.scons_words.specs.Arguments.{with_argument}

abbrev pub start_reading : Reading
start_reading = record {
  scripts = [];
  arguments = [];
  requested = [];
  flags = no_flags;
  jobs = 1;
  load = None;
  hash = Md5;
  explain = false;
  tree = false;
  options = true;
  waiting = None;
  other = None;
}

abbrev pub Outcome : Type 0
Outcome = Result Reading UsageKind

-- values of options

abbrev script_by : Reading → List ℕ → Option PathFault → Outcome
script_by r text None = Ok (record r { scripts = r.scripts ++ text ∷ [] })
script_by r text (Some fault) = Err kind.BadTarget

abbrev jobs_by : Reading → Option ℕ → Outcome
jobs_by r (Some n) = Ok (record r { jobs = n })
jobs_by r None = Err kind.BadNumber

abbrev load_by : Reading → Option ℕ → Outcome
load_by r (Some n) = Ok (record r { load = Some n })
load_by r None = Err kind.BadNumber

-- the function of this name
abbrev pub hash_in : List ℕ → Option Hash
hash_in text =
    if bytes_eq text (codes "md5") then Some Md5
    else (if bytes_eq text (codes "sha1") then Some Sha1
    else (if bytes_eq text (codes "sha256") then Some Sha256 else None))

abbrev hash_by : Reading → Option Hash → Outcome
hash_by r (Some hash) = Ok (record r { hash = hash })
hash_by r None = Err kind.BadValue

-- what is explained, and which tree is shown: one word each is taken

abbrev explain_by : Reading → Bool → Outcome
explain_by r is = if is then Ok (record r { explain = true }) else Err kind.BadValue

abbrev tree_by : Reading → Bool → Outcome
tree_by r is = if is then Ok (record r { tree = true }) else Err kind.BadValue

-- an option with its value: each script is added, of all others the last counts
abbrev pub with_value : Reading → Valued → List ℕ → Outcome
with_value r valued.Script text = script_by r text (fault_in text)
with_value r valued.Jobs text = jobs_by r (number_up_to JOB_LIMIT text)
with_value r valued.Load text = load_by r (number_up_to LOAD_LIMIT text)
with_value r valued.HashFormat text = hash_by r (hash_in text)
with_value r valued.Debug text = explain_by r (bytes_eq text (codes "explain"))
with_value r valued.Tree text = tree_by r (bytes_eq text (codes "prune"))

-- an option whose value is the rest of its word, or the next word where there is no rest
abbrev pub valued_by : Reading → Valued → List ℕ → Outcome
valued_by r v [] = Ok (record r { waiting = Some v })
valued_by r v (b ∷ bs) = with_value r v (b ∷ bs)

-- clusters of letters

abbrev pub first_switch : List ℕ → Option Switch
first_switch [] = None
first_switch (b ∷ bs) = short_switch b

abbrev pub flagged : Reading → Option Switch → Reading
flagged r (Some (switch.Flag f)) = record r { flags = with_flag r.flags f }
flagged r other = r

abbrev pub behind_letter : Reading → Option Switch → List ℕ → Outcome → Outcome
behind_letter r None bs rest = Err kind.Unknown
behind_letter r (Some (switch.Valued v)) bs rest = valued_by r v bs
behind_letter r (Some (switch.Flag f)) bs rest = rest

-- the letters behind one dash
abbrev pub behind_dash : Reading → List ℕ → Outcome
behind_dash r [] = Ok r
behind_dash r (b ∷ bs) = behind_letter r (short_switch b) bs (behind_dash (flagged r (short_switch b)) bs)

-- letters that begin with this option: behind a dash they are read as it and the letters behind it
abbrev pub LeadsWith : List ℕ → Switch → List ℕ → Type 0
LeadsWith letters s after = (r : Reading) → behind_dash r letters ≡ behind_letter r (Some s) after (behind_dash (flagged r (Some s)) after)

-- long spellings

abbrev pub is_equals : ℕ → Bool
is_equals b = b == 61

-- whether an `=` stands in a text
abbrev pub has_equals : List ℕ → Bool
has_equals text = nat_lt (position_or_len is_equals text) (length text)

-- what stands on the two sides of the first one
abbrev pub IsParted : List ℕ → List ℕ → List ℕ → Type 0
IsParted text front behind = (has_equals text ≡ true) × (front ≡ before_first is_equals text) × (behind ≡ after_first is_equals text)

abbrev pub name_of : List ℕ → List ℕ
name_of long = before_first is_equals long

abbrev pub plain_long : Reading → Option Switch → Outcome
plain_long r None = Err kind.Unknown
plain_long r (Some (switch.Valued v)) = Ok (record r { waiting = Some v })
plain_long r (Some (switch.Flag f)) = Ok (record r { flags = with_flag r.flags f })

abbrev pub valued_long : Reading → Option Switch → List ℕ → Outcome
valued_long r (Some (switch.Valued v)) value = with_value r v value
valued_long r other value = Err kind.Unknown

-- a long spelling behind two dashes, with its value behind `=` or without one
abbrev pub behind_dashes : Reading → List ℕ → Outcome
behind_dashes r long =
    if has_equals long then valued_long r (long_switch (name_of long)) (after_first is_equals long)
    else plain_long r (long_switch long)

-- other words

abbrev pub requested_by : Reading → List ℕ → Option PathFault → Outcome
requested_by r word None = Ok (record r { requested = r.requested ++ word ∷ [] })
requested_by r word (Some fault) = Err kind.BadTarget

abbrev pub argument_by : Reading → List ℕ → List ℕ → Outcome
argument_by r name value = if length name == 0 then Err kind.BadArgument else Ok (record r { arguments = with_argument r.arguments (name, value) })

-- a word that is no option
abbrev pub operand : Reading → List ℕ → Outcome
operand r word =
    if has_equals word then argument_by r (before_first is_equals word) (after_first is_equals word)
    else requested_by r word (fault_in word)

-- what stands behind a dash, if a word begins with one
abbrev pub undashed : List ℕ → Option (List ℕ)
undashed [] = None
undashed (b ∷ bs) = if b == 45 then Some bs else None

-- behind two dashes
abbrev pub after_dashes : Reading → List ℕ → Outcome
after_dashes r long = if length long == 0 then Ok (record r { options = false }) else behind_dashes r long

abbrev after_dash_by : Reading → List ℕ → Option (List ℕ) → Outcome
after_dash_by r rest None = behind_dash r rest
after_dash_by r rest (Some long) = after_dashes r long

-- behind one dash
abbrev pub after_dash : Reading → List ℕ → Outcome
after_dash r rest = if length rest == 0 then Err kind.Unknown else after_dash_by r rest (undashed rest)

abbrev option_by : Reading → List ℕ → Option (List ℕ) → Outcome
option_by r word None = operand r word
option_by r word (Some rest) = after_dash r rest

-- a word that may be an option
abbrev pub option_word : Reading → List ℕ → Outcome
option_word r word = option_by r word (undashed word)

abbrev unvalued_word : Reading → List ℕ → Outcome
unvalued_word r word = if r.options then option_word r word else operand r word

abbrev read_by : Reading → List ℕ → Option Valued → Outcome
read_by r word (Some v) = with_value (record r { waiting = None }) v word
read_by r word None = unvalued_word r word

-- one word: the value that an option waits for, or an option, or an operand
abbrev pub word_read : Reading → List ℕ → Outcome
word_read r word = read_by r word r.waiting

-- beside a load

abbrev pub is_number_switch : Option Switch → Bool
is_number_switch (Some (switch.Valued valued.Jobs)) = true
is_number_switch (Some (switch.Valued valued.Load)) = true
is_number_switch other = false

abbrev pub is_long_number : List ℕ → Bool
is_long_number word = starts_with (λ a b. a == b) word (codes "--") && is_number_switch (long_switch (name_of (drop 2 word)))

-- whether a word may stand beside a load: only a load, a number of jobs, and the value of an option may
abbrev pub stands_with_load : Reading → List ℕ → Bool
stands_with_load r word = is_some r.waiting || (r.options && (starts_with (λ a b. a == b) word (codes "-j") || is_long_number word))

abbrev first_of : Option ℕ → ℕ → Option ℕ
first_of (Some there) place = Some there
first_of None place = Some place

abbrev noted : ℕ → Bool → Reading → Reading
noted place stands r = if stands then r else record r { other = first_of r.other place }

-- the first word that may not stand beside the load, if there is one
abbrev mixed_by : Option ℕ → Option ℕ → Option ℕ
mixed_by (Some load) other = other
mixed_by None other = None

abbrev pub mixed : Reading → Option ℕ
mixed r = mixed_by r.load r.other

abbrev pub fault_at : Option ℕ → ℕ → UsageKind → WordsFault
fault_at (Some earlier) place k = At earlier kind.Mixed
fault_at None place k = At place k

abbrev step_by : ℕ → Reading → Bool → Outcome → Result Reading WordsFault
step_by place old stands (Ok r) = Ok (noted place stands r)
step_by place old stands (Err k) = Err (fault_at (mixed old) place k)

-- the word at a place, read
abbrev pub step : ℕ → Reading → List ℕ → Result Reading WordsFault
step place r word = step_by place r (stands_with_load r word) (word_read r word)

-- the whole

abbrev pub words_of : Reading → Words
words_of r = record {
  scripts = r.scripts;
  arguments = r.arguments;
  requested = r.requested;
  jobs = r.jobs;
  keep = r.flags.keep;
  dry = r.flags.dry;
  clean = r.flags.clean;
  quiet = r.flags.quiet;
  silent = r.flags.silent;
  help = r.flags.help;
  load = r.load;
  hash = r.hash;
  explain = r.explain;
  tree = r.tree;
}

abbrev unmixed : Option ℕ → Reading → Result Words WordsFault
unmixed (Some place) r = Err (At place kind.Mixed)
unmixed None r = Ok (words_of r)

-- behind the last word, where there are so many: no option waits for its value, and all words may stand together
abbrev pub ended : ℕ → Reading → Result Words WordsFault
ended count r =
    if is_some r.waiting then Err (fault_at (mixed r) (count - 1) kind.NeedsValue) else unmixed (mixed r) r

abbrev pub on_read : (Reading → Result Words WordsFault) → Result Reading WordsFault → Result Words WordsFault
on_read more (Ok r) = more r
on_read more (Err fault) = Err fault

-- the words from a place on
abbrev pub read_from : ℕ → Reading → List (List ℕ) → Result Words WordsFault
read_from place r [] = ended place r
read_from place r (word ∷ words) = on_read (λ s. read_from (place + 1) s words) (step place r word)

-- what all words say, or the first that is refused
abbrev pub read : List (List ℕ) → Result Words WordsFault
read words = read_from 0 start_reading words
