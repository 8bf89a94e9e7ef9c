-- What comes of a text: texts and marks, or the first fault in the order of reading.
use Rattle.std.specs.Prelude.{ℕ, zero, suc, ◌+◌, ◌-◌, ◌==◌, ◌&&◌, not, length, Bool, true, false, nat_lt, codes, List, [], ◌∷◌, ◌++◌, Option, None, Some, Result, Ok, Err, if◌then◌else◌}
use Rattle.std.specs.List.{list_any, list_all}
use Rattle.std.specs.Str.{bytes_eq}
use Rattle.scons_base.specs.declared.fault.PathFault.{PathFault}
use Rattle.scons_base.specs.declared.limits.TheConstants.{SUBST_LIMIT, REFERENCE_LIMIT}
use Rattle.scons_base.specs.Resolve.{spelling, resolved, resolve_fault}
use Rattle.variant_dirs.specs.Variants.{searched}
use Rattle.env_text.specs.Alone.{name_alone}
use Rattle.env_text.specs.Bytes.{is_plain}
use Rattle.env_text.specs.declared.part.Selection.{Selection}
use Rattle.env_text.specs.Parts.{PlainPart, text, begin, end, variable, concat}
use Rattle.env_text.specs.Readings.{Reading, ends, part_at, bad_brace, reading_of}
use Rattle.env_pieces.specs.declared.piece.Mark.{Mark}
use Rattle.env_pieces.specs.declared.piece.Mark.TheVariants.{Begin, End}
use Rattle.env_pieces.specs.declared.piece.Piece.{Piece}
use Rattle.env_pieces.specs.Pieces.{Sheet, blank, with_text, with_mark, with_pieces, pieces_of}
use Rattle.env_pieces.specs.Forms.{text_of}
use Rattle.env_subst.specs.declared.fault.SubstFault.{SubstFault}
use Rattle.env_subst.specs.declared.fault.SubstFault.TheVariants.{BadBrace, BadAttr, TooLong, TooMany, BadPath}
use Rattle.env_subst.specs.declared.saying.Saying.{Saying}
use Rattle.env_subst.specs.declared.saying.Saying.TheVariants.{Read, Plain, Path}
use Rattle.env_subst.specs.declared.task.Call.{Call}
use Rattle.env_subst.specs.Settings.{Setting}
use Rattle.env_subst.specs.Contents.{Content, nothing, content_at, taken, said, said_by}

-- how far reading has come: the pieces that are read, and how many references
pub record State : Type 0 where
  pub sheet : Sheet
  pub references : ℕ

abbrev pub Answer : Type 0
Answer = Result State SubstFault

-- one thing behind another: the first fault counts
abbrev pub and_then : {X : Type 0} → Answer → (State → Result X SubstFault) → Result X SubstFault
and_then (Ok s) next = next s
and_then (Err fault) next = Err fault

abbrev pub sheet_or_fault : ℕ → Option Sheet → Answer
sheet_or_fault references (Some sheet) = Ok (record { sheet = sheet; references = references })
sheet_or_fault references None = Err (TooLong (SUBST_LIMIT + 1))

-- a text or a mark is put, unless all would be too long
abbrev pub puts : List ℕ → State → Answer
puts t s = sheet_or_fault s.references (with_text t s.sheet)

abbrev pub marks : Mark → State → Answer
marks mark s = sheet_or_fault s.references (with_mark mark s.sheet)

-- a space
abbrev pub spaces : State → Answer
spaces s = puts (32 ∷ []) s

-- a reference counts, up to their limit
abbrev pub refers : State → Answer
refers s =
    if nat_lt s.references REFERENCE_LIMIT then Ok (record { sheet = s.sheet; references = s.references + 1 }) else Err (TooMany (REFERENCE_LIMIT + 1))

-- how a text is read
abbrev pub Reader : Type 0
Reader = List ℕ → State → Answer

abbrev pub says_one : Reader → Saying → State → Answer
says_one read (Read t) s = read t s
says_one read (Plain t) s = puts t s
says_one read (Path path) s = puts path s

-- further things that a value says, with a space in front of each
abbrev pub says_more : Reader → List Saying → State → Answer
says_more read [] s = Ok s
says_more read (x ∷ xs) s = and_then (spaces s) (λ t. and_then (says_one read x t) (says_more read xs))

-- all that a value says, with a space between
abbrev pub says_all : Reader → List Saying → State → Answer
says_all read [] s = Ok s
says_all read (x ∷ xs) s = and_then (says_one read x s) (says_more read xs)

-- the variables whose values are being read, the outermost first
abbrev pub Names : Type 0
Names = List (List ℕ)

abbrev pub is_open : List ℕ → Names → Bool
is_open name names = list_any (bytes_eq name) names

-- inside its own value a variable holds nothing
abbrev pub content_in : Setting → Names → List ℕ → Content
content_in w names name = if is_open name names then nothing else content_at w name

abbrev pub sayings_in : Setting → Names → List ℕ → List Saying
sayings_in w names name = said w.locals (content_in w names name)

-- how the texts of a variable's value are read, one level further in
abbrev pub Deeper : Type 0
Deeper = List ℕ → Reader

-- all that a variable says
abbrev pub expands : Setting → Deeper → Names → List ℕ → State → Answer
expands w deeper names name s = says_all (deeper name) (sayings_in w names name) s

-- something between the prefix and the suffix of a call
abbrev pub affixed : Setting → Deeper → Names → Call → (State → Answer) → State → Answer
affixed w deeper names call middle s =
    and_then (expands w deeper names call.prefix s) (λ t. and_then (middle t) (expands w deeper names call.suffix))

-- a space, where the call has put something before: where less may still come than when it began
abbrev pub parts : Call → State → Answer
parts call s = if s.sheet.room == call.room then Ok s else spaces s

-- an item of a call, between prefix and suffix
abbrev pub puts_item : Setting → Deeper → Names → Call → (State → Answer) → State → Answer
puts_item w deeper names call middle s = and_then (parts call s) (affixed w deeper names call middle)

-- pieces, one behind another
abbrev pub puts_all : List Piece → State → Answer
puts_all pieces s = sheet_or_fault s.references (with_pieces pieces s.sheet)

-- directories with prefix and suffix
abbrev pub all_dirs : Setting → Deeper → Names → Call → List (List ℕ) → State → Answer
all_dirs w deeper names call [] s = Ok s
all_dirs w deeper names call (dir ∷ dirs) s =
    and_then (puts_item w deeper names call (puts dir) s) (all_dirs w deeper names call dirs)

-- directories that are found, and how far reading has come
abbrev pub Found : Type 0
Found = Result (List (List ℕ) × State) SubstFault

abbrev pub found_or_fault : State → List (List ℕ) → Option PathFault → Found
found_or_fault s dirs None = Ok (dirs, s)
found_or_fault s dirs (Some fault) = Err (BadPath fault)

-- the directories that a text names: read from the directory of the rule, and in a variant directory without copies the
-- source directory too
abbrev pub dirs_named : Setting → List ℕ → State → Found
dirs_named w t s =
    found_or_fault s (searched w.locals.variants w.locals.top (resolved w.locals.top w.locals.dir t)) (resolve_fault w.locals.top w.locals.dir t)

-- nothing is read yet, with the room that is left
abbrev pub inner : State → State
inner s = record { sheet = blank s.sheet.room; references = s.references }

abbrev pub puts_found : Setting → Deeper → Names → Call → Found → Answer
puts_found w deeper names call (Ok found) = all_dirs w deeper names call found.0 found.1
puts_found w deeper names call (Err fault) = Err fault

-- a text without a `$` stands for itself
abbrev pub is_literal : List ℕ → Bool
is_literal t = list_all is_plain t

-- an item that is known as a text: an empty one gives nothing
abbrev pub known_item : Setting → Deeper → Names → Call → List ℕ → State → Answer
known_item w deeper names call t s =
    if length t == 0 then Ok s
    else (if call.directories then puts_found w deeper names call (dirs_named w t s) else puts_item w deeper names call (puts t) s)

-- a node stands alone; as a directory it is looked for
abbrev pub node_item : Setting → Deeper → Names → Call → List ℕ → State → Answer
node_item w deeper names call path s =
    if call.directories then all_dirs w deeper names call (searched w.locals.variants w.locals.top (spelling w.locals.top path)) s
    else and_then (parts call s) (puts path)

-- what was read apart as an item. What a further call gave stands alone.
abbrev pub puts_read : Setting → Deeper → Names → Call → Bool → List Piece → State → Answer
puts_read w deeper names call alone pieces s =
    if alone then and_then (parts call s) (puts_all pieces) else puts_item w deeper names call (puts_all pieces) s

-- where it has no text it gives nothing
abbrev pub read_pieces : Setting → Deeper → Names → Call → Bool → List Piece → State → Answer
read_pieces w deeper names call alone pieces s =
    if length (text_of pieces) == 0 then Ok s else puts_read w deeper names call alone pieces s

abbrev pub read_item : Setting → Deeper → Names → Call → Bool → Sheet → Answer → Answer
read_item w deeper names call alone outer (Ok s) =
    let t : State = record { sheet = outer; references = s.references } in
    if call.directories && not alone then known_item w deeper names call (text_of (pieces_of s.sheet)) t
    else read_pieces w deeper names call alone (pieces_of s.sheet) t
read_item w deeper names call alone outer (Err fault) = Err fault

-- the call with another variable in place of the list, as a text
abbrev pub call_of : Call → List ℕ → List ℕ
call_of call name =
    codes "${_concat(" ++ (call.prefix ++ 44 ∷ (name ++ 44 ∷ (call.suffix ++ (if call.directories then codes ",__env__,RDirs)}" else codes ",__env__)}"))))

-- an item that is a text: one name alone stands for all that the call gives for that variable; a text without a `$` stands
-- for itself; any other is read apart first
abbrev pub text_item : Setting → Deeper → Names → Call → List ℕ → Option (List ℕ) → State → Answer
text_item w deeper names call t (Some name) s =
    read_item w deeper names call true s.sheet (deeper call.list (call_of call name) (inner s))
text_item w deeper names call t None s =
    if is_literal t then known_item w deeper names call t s
    else read_item w deeper names call false s.sheet (deeper call.list t (inner s))

-- an item of the list of a call
abbrev pub item : Setting → Deeper → Names → Call → Saying → State → Answer
item w deeper names call (Read t) s = text_item w deeper names call t (name_alone (reading_of t)) s
item w deeper names call (Plain t) s = known_item w deeper names call t s
item w deeper names call (Path path) s = node_item w deeper names call path s

abbrev pub items_all : Setting → Deeper → Names → Call → List Saying → State → Answer
items_all w deeper names call [] s = Ok s
items_all w deeper names call (x ∷ xs) s = and_then (item w deeper names call x s) (items_all w deeper names call xs)

-- what a reference says, or its fault at a place of the text of `owner`
abbrev pub says_or_fault : Reader → List ℕ → ℕ → Option (List Saying) → State → Answer
says_or_fault read owner at None s = Err (BadAttr owner at)
says_or_fault read owner at (Some xs) s = says_all read xs s

abbrev pub refers_to : Setting → Deeper → Names → List ℕ → ℕ → List ℕ → Selection → Option (List ℕ) → State → Answer
refers_to w deeper names owner at name selection attribute s =
    says_or_fault (deeper name) owner at (said_by w.locals attribute (taken selection (content_in w names name))) s

-- a call that begins here
abbrev pub begun : Call → State → Call
begun call s = record { prefix = call.prefix; list = call.list; suffix = call.suffix; directories = call.directories; room = s.sheet.room }

abbrev pub calls : Setting → Deeper → Names → Call → State → Answer
calls w deeper names call s = items_all w deeper names (begun call s) (sayings_in w names call.list) s

-- a part of the text of `owner`
abbrev pub reads_part : Setting → Deeper → Names → List ℕ → ℕ → PlainPart → State → Answer
reads_part w deeper names owner at (text t) s = puts t s
reads_part w deeper names owner at begin s = marks Begin s
reads_part w deeper names owner at end s = marks End s
reads_part w deeper names owner at (variable name selection attribute) s =
    and_then (refers s) (refers_to w deeper names owner at name selection attribute)
reads_part w deeper names owner at (concat prefix list suffix directories) s =
    and_then (refers s) (calls w deeper names (record { prefix = prefix; list = list; suffix = suffix; directories = directories; room = 0 }))

-- the parts of a text, one behind another
abbrev pub reads : Setting → Deeper → Names → List ℕ → Reading → State → Answer
reads w deeper names owner ends s = Ok s
reads w deeper names owner (part_at at p rest) s = and_then (reads_part w deeper names owner at p s) (reads w deeper names owner rest)
reads w deeper names owner (bad_brace at) s = Err (BadBrace owner at)

-- What comes of a text of the value of `owner`, where these variables are open and so many texts may stand in each other.
-- The given text has no name.
unfoldable pub meaning : Setting → ℕ → Names → List ℕ → Reader
meaning w zero names owner t s = Err (TooMany (REFERENCE_LIMIT + 1))
meaning w (suc more) names owner t s =
    reads w (λ name u v. if is_open name names then Ok v else meaning w more (names ++ name ∷ []) name u v) names owner (reading_of t) s

-- how many texts may stand in each other: the given one, that of a variable whose directories are asked for, and one for each
-- reference, so that no reading comes to an end here
unfoldable pub height : ℕ
height = REFERENCE_LIMIT + 2

-- a text of the innermost of these variables
abbrev pub text_at : Setting → Names → Deeper
text_at w names owner = meaning w (height - length names) names owner

-- nothing is read yet, behind so many references
abbrev pub started : ℕ → State
started n = record { sheet = blank SUBST_LIMIT; references = n }

abbrev pub start : State
start = started 0
