-- What is left, after a task of a call has put what it stands for upon it.
use Rattle.std.proofs.Common.{◌≡◌, ◌≢◌, ◌∙◌, ◌==◌, ℕ, Bool, true, false, not, ◌&&◌, List, [], ◌∷◌, Ok, Err, Some, None, refl, sym, ap, subst, length}
use Rattle.std.specs.Prelude.{Result, Option, OnOk, IfErr, if◌then◌else◌}
use Rattle.env_pieces.specs.declared.piece.Piece.{Piece}
use Rattle.env_pieces.specs.Pieces.{Sheet, blank, with_text, with_pieces, pieces_of}
use Rattle.env_pieces.specs.Forms.{text_of}
use Rattle.scons_base.specs.Resolve.{spelling}
use Rattle.variant_dirs.specs.Variants.{searched}
use Rattle.env_subst.specs.declared.fault.SubstFault.{SubstFault}
use Rattle.env_subst.specs.declared.fault.SubstFault.TheVariants.{Memory, TooLong}
use Rattle.env_subst.specs.declared.saying.Saying.{Saying}
use Rattle.env_subst.specs.declared.saying.Saying.TheVariants.{Read}
use Rattle.env_subst.specs.declared.task.Call.{Call}
use Rattle.env_subst.specs.Settings.{Setting}
use Rattle.env_subst.specs.Expansions.{State, Answer, and_then, sheet_or_fault, puts, Names, sayings_in, expands, affixed, parts, puts_item, puts_all, inner, all_dirs, dirs_named, puts_found, is_literal, known_item, node_item, puts_read, read_pieces, read_item, call_of, text_item, item, items_all, begun, calls}
use Rattle.env_subst.specs.Desks.{PlainTask, inside, expand, items, dirs, apart, deeper_of, does, names_after, Whole, resumes, Desk, left_of, Leads, behind_all, Parted, CannotPart}
use Rattle.env_subst.proofs.Doing.{desk, at, and_then-assoc, and_then-ok, upon}

-- a call begins
pub call_begins : {U : Type 0} (w : Setting) (tasks : List PlainTask) (names : Names) (sheet : Sheet) (n : ℕ) (call begins : Call) (room : ℕ) (says : List Saying) (after : Desk) (r : Result U SubstFault)
    → begins ≡ record { prefix = call.prefix; list = call.list; suffix = call.suffix; directories = call.directories; room = room } → room ≡ sheet.room → says ≡ sayings_in w names call.list
    → Leads w (behind_all w (items_all w (deeper_of w names) names begins says) (desk tasks names sheet n)) after r
    → Leads w (behind_all w (calls w (deeper_of w names) names call) (desk tasks names sheet n)) after r
call_begins w tasks names sheet n call begins room says after r b room_is s =
    subst (λ a. Leads w a after r)
    (ap (λ c. behind_all w (items_all w (deeper_of w names) names c says) (desk tasks names sheet n)) b
    ∙ ap (λ k. behind_all w (items_all w (deeper_of w names) names (record { prefix = call.prefix; list = call.list; suffix = call.suffix; directories = call.directories; room = k }) says) (desk tasks names sheet n)) room_is
    ∙ ap (λ xs. behind_all w (items_all w (deeper_of w names) names (begun call (at sheet n)) xs) (desk tasks names sheet n)) s)

-- the items of a call
module _ {U : Type 0} (w : Setting) (after : Desk) (call : Call) (x : Saying) (xs : List Saying) (r : Result U SubstFault) where
  pub further_items : (d : Desk) (says : List Saying) → says ≡ x ∷ xs → Leads w (behind_all w (items_all w (deeper_of w d.names) d.names call (x ∷ xs)) d) after r
      → Leads w (behind_all w (items_all w (deeper_of w d.names) d.names call says) d) after r
  further_items d says e = subst (λ ys. Leads w (behind_all w (items_all w (deeper_of w d.names) d.names call ys) d) after r) (sym e)

  pub items_left : (tasks more : List PlainTask) (names : Names) (sheet : Sheet) (n : ℕ) → more ≡ items call xs ∷ tasks
      → Leads w (behind_all w (item w (deeper_of w names) names call x) (desk more names sheet n)) after r
      → Leads w (behind_all w (items_all w (deeper_of w names) names call (x ∷ xs)) (desk tasks names sheet n)) after r
  items_left tasks more names sheet n m =
      subst (λ a. Leads w a after r) (upon w tasks more names sheet n (items call xs) (item w (deeper_of w names) names call x) refl m)

-- nothing is left behind one item
pub alone_item : (w : Setting) (d : Desk) (call : Call) (x : Saying) (xs : List Saying) → xs ≡ []
    → behind_all w (item w (deeper_of w d.names) d.names call x) d ≡ behind_all w (items_all w (deeper_of w d.names) d.names call (x ∷ xs)) d
alone_item w d call x xs none =
    ap (λ a. and_then a (resumes w d.tasks d.names)) (sym (and_then-ok (item w (deeper_of w d.names) d.names call x d.state)))
    ∙ ap (λ ys. behind_all w (items_all w (deeper_of w d.names) d.names call (x ∷ ys)) d) (sym none)

pub no_items : (w : Setting) (d : Desk) (call : Call) (says : List Saying) → says ≡ [] → left_of w d ≡ behind_all w (items_all w (deeper_of w d.names) d.names call says) d
no_items w d call says e = ap (λ ys. behind_all w (items_all w (deeper_of w d.names) d.names call ys) d) (sym e)

-- an item that is known
module _ (w : Setting) (d : Desk) (call : Call) (t : List ℕ) where
  known_by : (empty directories : Bool) → (length t == 0) ≡ empty → call.directories ≡ directories
      → and_then (if empty then Ok d.state else (if directories then puts_found w (deeper_of w d.names) d.names call (dirs_named w t d.state) else puts_item w (deeper_of w d.names) d.names call (puts t) d.state)) (resumes w d.tasks d.names)
      ≡ behind_all w (known_item w (deeper_of w d.names) d.names call t) d
  known_by empty directories e f =
      ap (λ b. and_then (if b then Ok d.state else (if directories then puts_found w (deeper_of w d.names) d.names call (dirs_named w t d.state) else puts_item w (deeper_of w d.names) d.names call (puts t) d.state)) (resumes w d.tasks d.names)) (sym e)
      ∙ ap (λ b. and_then (if length t == 0 then Ok d.state else (if b then puts_found w (deeper_of w d.names) d.names call (dirs_named w t d.state) else puts_item w (deeper_of w d.names) d.names call (puts t) d.state)) (resumes w d.tasks d.names)) (sym f)

  pub known_empty : (length t == 0) ≡ true → left_of w d ≡ behind_all w (known_item w (deeper_of w d.names) d.names call t) d
  known_empty e = known_by true call.directories e refl

  pub known_dirs : (u : List ℕ) → u ≡ t → (length t == 0) ≡ false → call.directories ≡ true
      → behind_all w (λ s. puts_found w (deeper_of w d.names) d.names call (dirs_named w u s)) d ≡ behind_all w (known_item w (deeper_of w d.names) d.names call t) d
  known_dirs u same e f = ap (λ v. behind_all w (λ s. puts_found w (deeper_of w d.names) d.names call (dirs_named w v s)) d) same ∙ known_by false true e f

  pub known_plain : (length t == 0) ≡ false → call.directories ≡ false
      → behind_all w (puts_item w (deeper_of w d.names) d.names call (puts t)) d ≡ behind_all w (known_item w (deeper_of w d.names) d.names call t) d
  known_plain e f = known_by false false e f

-- a node
module _ (w : Setting) (d : Desk) (call : Call) (path : List ℕ) where
  node_by : (directories : Bool) → call.directories ≡ directories
      → and_then (if directories then all_dirs w (deeper_of w d.names) d.names call (searched w.locals.variants w.locals.top (spelling w.locals.top path)) d.state else and_then (parts call d.state) (puts path)) (resumes w d.tasks d.names)
      ≡ behind_all w (node_item w (deeper_of w d.names) d.names call path) d
  node_by directories e =
      ap (λ b. and_then (if b then all_dirs w (deeper_of w d.names) d.names call (searched w.locals.variants w.locals.top (spelling w.locals.top path)) d.state else and_then (parts call d.state) (puts path)) (resumes w d.tasks d.names)) (sym e)

  pub node_dirs : (found : List (List ℕ)) → call.directories ≡ true → found ≡ searched w.locals.variants w.locals.top (spelling w.locals.top path)
      → behind_all w (all_dirs w (deeper_of w d.names) d.names call found) d ≡ behind_all w (node_item w (deeper_of w d.names) d.names call path) d
  node_dirs found e f = ap (λ ds. behind_all w (all_dirs w (deeper_of w d.names) d.names call ds) d) f ∙ node_by true e

  pub node_plain : call.directories ≡ false
      → behind_all w (λ s. and_then (parts call s) (puts path)) d ≡ behind_all w (node_item w (deeper_of w d.names) d.names call path) d
  node_plain e = node_by false e

-- a space, where the call has put something
parts_with : (call : Call) (old : Sheet) (n : ℕ) (o : Option Sheet) → (if old.room == call.room then Some old else with_text (32 ∷ []) old) ≡ o → parts call (at old n) ≡ sheet_or_fault n o
parts_with call old n o e = by (old.room == call.room) ∙ ap (sheet_or_fault n) e
  where
    by : (b : Bool) → (if b then Ok (at old n) else sheet_or_fault n (with_text (32 ∷ []) old)) ≡ sheet_or_fault n (if b then Some old else with_text (32 ∷ []) old)
    by true = refl
    by false = refl

pub parted : (w : Setting) (tasks : List PlainTask) (names : Names) (old new : Sheet) (n : ℕ) (call : Call) (f : State → Answer) → Parted call.room old new
    → behind_all w f (desk tasks names new n) ≡ behind_all w (λ s. and_then (parts call s) f) (desk tasks names old n)
parted w tasks names old new n call f e = ap (λ a. and_then (and_then a f) (resumes w tasks names)) (sym (parts_with call old n (Some new) e))

pub cannot_part : (w : Setting) (tasks : List PlainTask) (names : Names) (old : Sheet) (n : ℕ) (call : Call) (fault : SubstFault) (f : State → Answer) → CannotPart call.room old fault
    → behind_all w (λ s. and_then (parts call s) f) (desk tasks names old n) ≡ Err fault
cannot_part w tasks names old n call fault f h =
    ap (λ a. and_then (and_then a f) (resumes w tasks names)) (parts_with call old n None h.1) ∙ ap (λ x. Err x) (sym h.0)

inner-assoc : (f g : State → Answer) (h : State → Whole) → ◌≡◌ {A = State → Whole} (λ s. and_then (f s) (λ t. and_then (g t) h)) (λ s. and_then (and_then (f s) g) h)
inner-assoc f g h = λ i s. sym (and_then-assoc (f s) g h) i

-- something between prefix and suffix
pub affix_step : (w : Setting) (tasks two three : List PlainTask) (names : Names) (sheet : Sheet) (n : ℕ) (call : Call) (middle : PlainTask) → names_after middle names ≡ names
    → two ≡ middle ∷ (expand call.suffix ∷ tasks) → three ≡ expand call.prefix ∷ two
    → left_of w (desk three names sheet n) ≡ behind_all w (affixed w (deeper_of w names) names call (does w names middle)) (desk tasks names sheet n)
affix_step w tasks two three names sheet n call middle stay b c =
    ap (λ ts. resumes w ts names (at sheet n)) (c ∙ ap (λ ts. expand call.prefix ∷ ts) b)
    ∙ ap (λ ns. and_then (P (at sheet n)) (λ s. and_then (does w names middle s) (λ t. and_then (expands w (deeper_of w ns) ns call.suffix t) (resumes w tasks ns)))) stay
    ∙ ap (and_then (P (at sheet n))) (inner-assoc (does w names middle) S (resumes w tasks names))
    ∙ sym (and_then-assoc (P (at sheet n)) (λ s. and_then (does w names middle s) S) (resumes w tasks names))
  where
    P : State → Answer
    P = expands w (deeper_of w names) names call.prefix

    S : State → Answer
    S = expands w (deeper_of w names) names call.suffix

-- an item that is read apart
pub apart_step : (w : Setting) (tasks one two : List PlainTask) (names : Names) (sheet outer fresh : Sheet) (n : ℕ) (call : Call) (alone : Bool) (list t : List ℕ)
    → list ≡ call.list → outer ≡ sheet → fresh ≡ blank sheet.room → one ≡ apart outer call alone ∷ tasks → two ≡ inside list (Read t) ∷ one
    → left_of w (desk two names fresh n) ≡ behind_all w (λ s. read_item w (deeper_of w names) names call alone s.sheet (deeper_of w names call.list t (inner s))) (desk tasks names sheet n)
apart_step w tasks one two names sheet outer fresh n call alone list t c o f a b =
    ap (λ x. resumes w two names (at x n)) f
    ∙ ap (λ ts. resumes w ts names (at (blank sheet.room) n)) (b ∙ ap (λ ts. inside list (Read t) ∷ ts) a ∙ ap (λ y. inside y (Read t) ∷ (apart outer call alone ∷ tasks)) c)
    ∙ ap (λ x. resumes w (inside call.list (Read t) ∷ (apart x call alone ∷ tasks)) names (at (blank sheet.room) n)) o
    ∙ by (deeper_of w names call.list t (at (blank sheet.room) n))
  where
    by : (r : Answer) → and_then r (λ s. and_then (read_item w (deeper_of w names) names call alone sheet (Ok s)) (resumes w tasks names))
        ≡ and_then (read_item w (deeper_of w names) names call alone sheet r) (resumes w tasks names)
    by (Ok s) = refl
    by (Err fault) = refl

-- an item that is a text, by what it is
module _ {U : Type 0} (w : Setting) (d after : Desk) (call : Call) (t : List ℕ) (r : Result U SubstFault) where
  pub further_call : (further name : List ℕ) (found : Option (List ℕ)) → found ≡ Some name → further ≡ call_of call name
      → Leads w (behind_all w (λ s. read_item w (deeper_of w d.names) d.names call true s.sheet (deeper_of w d.names call.list further (inner s))) d) after r
      → Leads w (behind_all w (text_item w (deeper_of w d.names) d.names call t found) d) after r
  further_call further name found e f =
      subst (λ a. Leads w a after r)
      (ap (λ u. behind_all w (λ s. read_item w (deeper_of w d.names) d.names call true s.sheet (deeper_of w d.names call.list u (inner s))) d) f
      ∙ ap (λ o. behind_all w (text_item w (deeper_of w d.names) d.names call t o) d) (sym e))

  text_by : (literal : Bool) (found : Option (List ℕ)) → found ≡ None → is_literal t ≡ literal
      → and_then (if literal then known_item w (deeper_of w d.names) d.names call t d.state else read_item w (deeper_of w d.names) d.names call false d.state.sheet (deeper_of w d.names call.list t (inner d.state))) (resumes w d.tasks d.names)
      ≡ behind_all w (text_item w (deeper_of w d.names) d.names call t found) d
  text_by literal found e f =
      ap (λ b. and_then (if b then known_item w (deeper_of w d.names) d.names call t d.state else read_item w (deeper_of w d.names) d.names call false d.state.sheet (deeper_of w d.names call.list t (inner d.state))) (resumes w d.tasks d.names)) (sym f)
      ∙ ap (λ o. behind_all w (text_item w (deeper_of w d.names) d.names call t o) d) (sym e)

  pub literal_item : (found : Option (List ℕ)) → found ≡ None → is_literal t ≡ true → Leads w (behind_all w (known_item w (deeper_of w d.names) d.names call t) d) after r
      → Leads w (behind_all w (text_item w (deeper_of w d.names) d.names call t found) d) after r
  literal_item found e f = subst (λ a. Leads w a after r) (text_by true found e f)

  pub other_item : (found : Option (List ℕ)) → found ≡ None → is_literal t ≡ false
      → Leads w (behind_all w (λ s. read_item w (deeper_of w d.names) d.names call false s.sheet (deeper_of w d.names call.list t (inner s))) d) after r
      → Leads w (behind_all w (text_item w (deeper_of w d.names) d.names call t found) d) after r
  other_item found e f = subst (λ a. Leads w a after r) (text_by false found e f)

-- what was read apart, by what it is
module _ (w : Setting) (tasks : List PlainTask) (names : Names) (old read outer placed : Sheet) (n : ℕ) (call : Call) (alone : Bool) (read_is : read ≡ old) (placed_is : placed ≡ outer) where
  abbrev read_with : Bool → Sheet → Sheet → Answer
  read_with b x r =
      if b then known_item w (deeper_of w names) names call (text_of (pieces_of r)) (at x n) else read_pieces w (deeper_of w names) names call alone (pieces_of r) (at x n)

  read_by : (b : Bool) → (call.directories && not alone) ≡ b
      → and_then (read_with b placed read) (resumes w tasks names) ≡ behind_all w (λ s. read_item w (deeper_of w names) names call alone outer (Ok s)) (desk tasks names old n)
  read_by b e =
      ap (λ x. and_then (read_with b x read) (resumes w tasks names)) placed_is
      ∙ ap (λ r. and_then (read_with b outer r) (resumes w tasks names)) read_is
      ∙ ap (λ c. and_then (read_with c outer old) (resumes w tasks names)) (sym e)

  pub read_known : (t : List ℕ) → t ≡ text_of (pieces_of read) → (call.directories && not alone) ≡ true
      → behind_all w (known_item w (deeper_of w names) names call t) (desk tasks names placed n) ≡ behind_all w (λ s. read_item w (deeper_of w names) names call alone outer (Ok s)) (desk tasks names old n)
  read_known t is e = ap (λ u. behind_all w (known_item w (deeper_of w names) names call u) (desk tasks names placed n)) is ∙ read_by true e

  empty_by : (b : Bool) → (length (text_of (pieces_of read)) == 0) ≡ b
      → and_then (if b then Ok (at placed n) else puts_read w (deeper_of w names) names call alone (pieces_of read) (at placed n)) (resumes w tasks names)
      ≡ behind_all w (read_pieces w (deeper_of w names) names call alone (pieces_of read)) (desk tasks names placed n)
  empty_by b e =
      ap (λ c. and_then (if c then Ok (at placed n) else puts_read w (deeper_of w names) names call alone (pieces_of read) (at placed n)) (resumes w tasks names)) (sym e)

  pub read_empty : (call.directories && not alone) ≡ false → (length (text_of (pieces_of read)) == 0) ≡ true
      → left_of w (desk tasks names placed n) ≡ behind_all w (λ s. read_item w (deeper_of w names) names call alone outer (Ok s)) (desk tasks names old n)
  read_empty e f = empty_by true f ∙ read_by false e

  pub read_put : (call.directories && not alone) ≡ false → (length (text_of (pieces_of read)) == 0) ≡ false
      → behind_all w (puts_read w (deeper_of w names) names call alone (pieces_of read)) (desk tasks names placed n)
      ≡ behind_all w (λ s. read_item w (deeper_of w names) names call alone outer (Ok s)) (desk tasks names old n)
  read_put e f = empty_by false f ∙ read_by false e

-- pieces are put
module _ (w : Setting) (d : Desk) (call : Call) (pieces : List Piece) where
  pub put_alone : behind_all w (λ s. and_then (parts call s) (puts_all pieces)) d ≡ behind_all w (puts_read w (deeper_of w d.names) d.names call true pieces) d
  put_alone = refl

  pub put_affixed : behind_all w (puts_item w (deeper_of w d.names) d.names call (puts_all pieces)) d ≡ behind_all w (puts_read w (deeper_of w d.names) d.names call false pieces) d
  put_affixed = refl

module _ {U : Type 0} (w : Setting) (tasks : List PlainTask) (names : Names) (old new : Sheet) (n : ℕ) where
  pub all_put : (pieces : List Piece) (r : Result U SubstFault) → OnOk r (with_pieces pieces old ≡ Some new)
      → IfErr r (λ e. e ≢ Memory → (e ≡ TooLong 1048577) × (with_pieces pieces old ≡ None))
      → Leads w (behind_all w (puts_all pieces) (desk tasks names old n)) (desk tasks names new n) r
  all_put pieces (Ok u) e f = ap (λ o. and_then (sheet_or_fault n o) (resumes w tasks names)) (sym e)
  all_put pieces (Err fault) e f = λ h. ap (λ o. and_then (sheet_or_fault n o) (resumes w tasks names)) (f h).1 ∙ ap (λ x. Err x) (sym (f h).0)

-- the directories of an item
module _ {U : Type 0} (w : Setting) (tasks : List PlainTask) (names : Names) (after : Desk) (n : ℕ) (call : Call) (found : List (List ℕ)) (r : Result U SubstFault) where
  pub dirs_left : (more : List PlainTask) (sheet : Sheet) (x : List ℕ) (xs : List (List ℕ)) → found ≡ x ∷ xs → more ≡ dirs call xs ∷ tasks
      → Leads w (behind_all w (puts_item w (deeper_of w names) names call (puts x)) (desk more names sheet n)) after r
      → Leads w (behind_all w (all_dirs w (deeper_of w names) names call found) (desk tasks names sheet n)) after r
  dirs_left more sheet x xs e m =
      subst (λ a. Leads w a after r)
      (upon w tasks more names sheet n (dirs call xs) (puts_item w (deeper_of w names) names call (puts x)) refl m
      ∙ ap (λ ds. behind_all w (all_dirs w (deeper_of w names) names call ds) (desk tasks names sheet n)) (sym e))

pub no_dirs : (w : Setting) (d : Desk) (call : Call) (found : List (List ℕ)) → found ≡ [] → left_of w d ≡ behind_all w (all_dirs w (deeper_of w d.names) d.names call found) d
no_dirs w d call found e = ap (λ ds. behind_all w (all_dirs w (deeper_of w d.names) d.names call ds) d) (sym e)

-- a text that names directories
module _ {U : Type 0} (w : Setting) (after : Desk) (call : Call) (r : Result U SubstFault) where
  pub named_dirs : (d : Desk) (t : List ℕ) (ps : List (List ℕ)) → dirs_named w t d.state ≡ Ok (ps, d.state)
      → Leads w (behind_all w (all_dirs w (deeper_of w d.names) d.names call ps) d) after r
      → Leads w (behind_all w (λ s. puts_found w (deeper_of w d.names) d.names call (dirs_named w t s)) d) after r
  named_dirs d t ps e =
      subst (λ a. Leads w a after r) (ap (λ f. and_then (puts_found w (deeper_of w d.names) d.names call f) (resumes w d.tasks d.names)) (sym e))

pub named_fails : (w : Setting) (d : Desk) (call : Call) (t : List ℕ) (fault : SubstFault) → dirs_named w t d.state ≡ Err fault
    → behind_all w (λ s. puts_found w (deeper_of w d.names) d.names call (dirs_named w t s)) d ≡ Err fault
named_fails w d call t fault e = ap (λ f. and_then (puts_found w (deeper_of w d.names) d.names call f) (resumes w d.tasks d.names)) e
