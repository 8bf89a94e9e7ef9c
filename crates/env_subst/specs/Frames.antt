-- What is left of the entries of a list variable, as frames of variables that are open.
use Rattle.std.specs.Prelude.{◌≡◌, ◌≢◌, ◌==◌, ℕ, List, [], ◌∷◌, ◌++◌, map, reverse, length, Result, Ok, Err, MatchResult, if◌then◌else◌}
use Rattle.env_subst.specs.declared.entries.Frame as code_frame
use Rattle.env_subst.specs.declared.entries.Entries as code
use Rattle.env_subst.specs.declared.entries.EntryStep.{EntryStep}
use Rattle.env_subst.specs.declared.entries.EntryStep.TheVariants as step
use Rattle.env_subst.specs.declared.entries.Found.{Found}
use Rattle.env_subst.specs.declared.entries.Found.TheVariants as found
use Rattle.env_subst.specs.declared.fault.SubstFault.{SubstFault}
use Rattle.env_subst.specs.declared.fault.SubstFault.TheVariants.{Memory}
use Rattle.env_subst.specs.declared.library.LibItem.{LibItem}
use Rattle.env_subst.specs.declared.library.LibItem.TheVariants.{Name}
use Rattle.env_subst.specs.declared.locals.Locals.{Locals}
use Rattle.env_subst.specs.declared.saying.Saying.{Saying}
use Rattle.env_subst.specs.Settings.{Setting}
use Rattle.env_subst.specs.Sayings.{sayings_of}
use Rattle.env_subst.specs.Expansions.{Names, start}
use Rattle.env_subst.specs.Desks.{outer_names}
use Rattle.env_subst.specs.Entries.{Entries, over, fails, entry, variable_entries, first_entry, entries_with, entries_at, entry_dirs}

-- a variable, and what it still says
abbrev pub Frame : Type 0
Frame = List ℕ × List Saying

abbrev pub frame_of : Locals → code_frame.Frame → Frame
frame_of locals f = (f.name, sayings_of locals f.rest)

-- the frames, the innermost first
abbrev pub frames_of : Locals → List code_frame.Frame → List Frame
frames_of locals frames = reverse (map (frame_of locals) frames)

-- the entries of these frames, where these variables are open, behind so many references
abbrev pub left_of : Setting → List Frame → Names → ℕ → Entries
left_of w [] names n = over
left_of w (f ∷ frames) names n = entries_with w (entries_at w names) names f.0 f.1 n (left_of w frames (outer_names names))

abbrev pub entries_left : Setting → code.Entries → Entries
entries_left w e = left_of w (frames_of w.locals e.frames.frames.items) e.names e.references

-- what a step comes to, of these entries
abbrev pub Steps : Setting → Entries → code.Entries → Result EntryStep SubstFault → Type 0
Steps w whole after (Ok step.Over) = whole ≡ over
Steps w whole after (Ok step.Goes) = whole ≡ entries_left w after
Steps w whole after (Ok (step.Gives x)) = whole ≡ entry x (entries_left w after)
Steps w whole after (Err fault) = fault ≢ Memory → whole ≡ fails fault

-- the entries of a variable that is opened, and then those that were left
abbrev pub opened : Setting → List ℕ → code.Entries → Entries
opened w name e = entries_at w e.names name e.references (left_of w (frames_of w.locals e.frames.frames.items) e.names)

-- a text, which is no entry where it is empty
abbrev pub found_of : List ℕ → Found
found_of t = if length t == 0 then found.Nothing else found.Entry (Name t)

-- this is what comes first, and so many references there are behind it
abbrev pub Finds : Setting → Names → Entries → (ℕ → Entries) → Found × ℕ → Type 0
Finds w names whole rest (found.Nothing, n) = whole ≡ rest n
Finds w names whole rest (found.Entry x, n) = whole ≡ entry x (rest n)
Finds w names whole rest (found.Variable name, n) = whole ≡ variable_entries (entries_at w names) name n rest

-- this is what comes first of what the innermost variable says, or its fault
abbrev pub FindsFirst : Setting → Names → List ℕ → Saying → ℕ → Result (Found × ℕ) SubstFault → Type 0
FindsFirst w names name saying n r = (rest : ℕ → Entries) →
    MatchResult r (Finds w names (first_entry w (entries_at w names) names name saying n rest) rest)
    (λ e. e ≢ Memory → first_entry w (entries_at w names) names name saying n rest ≡ fails e)

-- the directories of an entry are put behind others, or the entry has this fault
abbrev pub PutsDirs : {U : Type 0} → Setting → LibItem → List (List ℕ) → List (List ℕ) → Result U SubstFault → Type 0
PutsDirs w x old new r =
    MatchResult r (λ _. (dirs : List (List ℕ)) × (entry_dirs w x ≡ Ok (dirs, start)) × (new ≡ old ++ dirs))
    (λ e. e ≢ Memory → entry_dirs w x ≡ Err e)
