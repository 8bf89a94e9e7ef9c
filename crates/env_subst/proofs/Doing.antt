-- What is left, after a task has put what it stands for upon it.
use Rattle.std.proofs.Common.{◌≡◌, ◌≢◌, ◌<◌, ◌≤◌, ◌∙◌, ℕ, suc, ◌+◌, ◌-◌, Bool, true, false, List, [], ◌∷◌, ◌++◌, Ok, Err, Some, None, refl, sym, ap, subst, length, take, arith}
use Rattle.std.specs.Prelude.{Result, Option, OnOk, IfErr, nat_lt, if◌then◌else◌}
use Rattle.std.proofs.lemmas.List.{length-append, take_at}
use Rattle.env_text.specs.declared.part.Selection.{Selection}
use Rattle.env_text.specs.Parts.{PlainPart}
use Rattle.env_text.specs.Readings.{Reading, ends, part_at, bad_brace, reading_of, reading_from}
use Rattle.env_pieces.specs.declared.piece.Mark.{Mark}
use Rattle.env_pieces.specs.declared.piece.Mark.TheVariants.{Begin, End}
use Rattle.env_pieces.specs.Pieces.{Sheet, with_text, with_mark}
use Rattle.env_subst.specs.declared.fault.SubstFault.{SubstFault}
use Rattle.env_subst.specs.declared.fault.SubstFault.TheVariants.{BadBrace, BadAttr, TooLong, TooMany, Memory}
use Rattle.env_subst.specs.declared.locals.Locals.{Locals}
use Rattle.env_subst.specs.declared.part.OwnedPart.TheVariants as owned
use Rattle.env_subst.specs.declared.saying.Saying.{Saying}
use Rattle.env_subst.specs.declared.saying.Saying.TheVariants.{Read}
use Rattle.env_subst.proofs.Literals.{literal_is}
use Rattle.env_subst.specs.Parts.{owned_part}
use Rattle.env_subst.specs.Settings.{Setting}
use Rattle.env_subst.specs.Contents.{Content, nothing, content_at, taken, said, said_by, parts_or_none}
use Rattle.env_subst.specs.Attributes.{attribute_named}
use Rattle.env_subst.specs.declared.attribute.Attribute.{Attribute}
use Rattle.env_subst.specs.Expansions.{State, Answer, and_then, sheet_or_fault, puts, marks, spaces, refers, is_literal, Reader, says_one, says_more, says_all, Names, is_open, content_in, Deeper, expands, says_or_fault, refers_to, reads_part, reads, meaning, height, text_at}
use Rattle.env_subst.specs.Desks.{PlainTask, with_open, read, say, close, deeper_of, and_rest, outer_names, does, names_after, Whole, resumes, Desk, left_of, Leads, behind_all}

abbrev pub desk : List PlainTask → Names → Sheet → ℕ → Desk
desk tasks names sheet n = record { tasks = tasks; names = names; state = record { sheet = sheet; references = n } }

abbrev pub at : Sheet → ℕ → State
at sheet n = record { sheet = sheet; references = n }

pub leads_too : {U : Type 0} → (w : Setting) (a b : Whole) (d : Desk) (r : Result U SubstFault) → a ≡ b → Leads w a d r → Leads w b d r
leads_too w a b d r e = subst (λ x. Leads w x d r) e

pub and_then-assoc : {X : Type 0} (a : Answer) (f : State → Answer) (g : State → Result X SubstFault) → and_then (and_then a f) g ≡ and_then a (λ s. and_then (f s) g)
and_then-assoc (Ok s) f g = refl
and_then-assoc (Err fault) f g = refl

-- a text or a mark is put
module _ {U : Type 0} (w : Setting) (tasks : List PlainTask) (names : Names) (old new : Sheet) (n : ℕ) where
  pub put_leads : (t bytes : List ℕ) (r : Result U SubstFault) → bytes ≡ t → OnOk r (with_text bytes old ≡ Some new)
      → IfErr r (λ e. e ≢ Memory → (e ≡ TooLong 1048577) × (with_text bytes old ≡ None))
      → Leads w (behind_all w (puts t) (desk tasks names old n)) (desk tasks names new n) r
  put_leads t bytes (Ok u) b e f = ap (λ o. and_then (sheet_or_fault n o) (resumes w tasks names)) (sym e ∙ ap (λ x. with_text x old) b)
  put_leads t bytes (Err fault) b e f = λ h. ap (λ o. and_then (sheet_or_fault n o) (resumes w tasks names)) (ap (λ x. with_text x old) (sym b) ∙ (f h).1) ∙ ap (λ x. Err x) (sym (f h).0)

  pub mark_leads : (m : Mark) (r : Result U SubstFault) → OnOk r (with_mark m old ≡ Some new)
      → IfErr r (λ e. e ≢ Memory → (e ≡ TooLong 1048577) × (with_mark m old ≡ None))
      → Leads w (behind_all w (marks m) (desk tasks names old n)) (desk tasks names new n) r
  mark_leads m (Ok u) e f = ap (λ o. and_then (sheet_or_fault n o) (resumes w tasks names)) (sym e)
  mark_leads m (Err fault) e f = λ h. ap (λ o. and_then (sheet_or_fault n o) (resumes w tasks names)) (f h).1 ∙ ap (λ x. Err x) (sym (f h).0)

pub mark_part : (w : Setting) (names : Names) (owner : List ℕ) (place : ℕ) (m : Mark) (d : Desk)
    → behind_all w (marks m) d ≡ behind_all w (reads_part w (deeper_of w names) names owner place (owned_part (owned.Mark m))) d
mark_part w names owner place Begin d = refl
mark_part w names owner place End d = refl

-- a space in front of more
pub space_fails : (w : Setting) (tasks : List PlainTask) (names : Names) (old : Sheet) (n : ℕ) (e : SubstFault) (f : State → Answer) → (e ≡ TooLong 1048577) × (with_text (32 ∷ []) old ≡ None)
    → behind_all w (λ s. and_then (spaces s) f) (desk tasks names old n) ≡ Err e
space_fails w tasks names old n e f h = ap (λ o. and_then (and_then (sheet_or_fault n o) f) (resumes w tasks names)) h.1 ∙ ap (λ x. Err x) (sym h.0)

pub spaced : (w : Setting) (tasks : List PlainTask) (names : Names) (old new : Sheet) (n : ℕ) (f : State → Answer) → with_text (32 ∷ []) old ≡ Some new
    → behind_all w f (desk tasks names new n) ≡ behind_all w (λ s. and_then (spaces s) f) (desk tasks names old n)
spaced w tasks names old new n f e = ap (λ o. and_then (and_then (sheet_or_fault n o) f) (resumes w tasks names)) (sym e)

-- one thing, and what is left behind it
pub upon : (w : Setting) (tasks more : List PlainTask) (names : Names) (sheet : Sheet) (n : ℕ) (t : PlainTask) (f : State → Answer) → names_after t names ≡ names → more ≡ t ∷ tasks
    → behind_all w f (desk more names sheet n) ≡ behind_all w (λ s. and_then (f s) (does w names t)) (desk tasks names sheet n)
upon w tasks more names sheet n t f a m =
    ap (λ ts. and_then (f (at sheet n)) (resumes w ts names)) m
    ∙ ap (λ ns. and_then (f (at sheet n)) (λ s. and_then (does w names t s) (resumes w tasks ns))) a
    ∙ sym (and_then-assoc (f (at sheet n)) (does w names t) (resumes w tasks names))

pub says_more_fails : (w : Setting) (tasks : List PlainTask) (names : Names) (old : Sheet) (n : ℕ) (name : List ℕ) (says : List Saying) (x : Saying) (xs : List Saying) (e : SubstFault)
    → says ≡ x ∷ xs → (e ≡ TooLong 1048577) × (with_text (32 ∷ []) old ≡ None) → behind_all w (says_more (text_at w names name) says) (desk tasks names old n) ≡ Err e
says_more_fails w tasks names old n name says x xs e s h =
    ap (λ ys. behind_all w (says_more (text_at w names name) ys) (desk tasks names old n)) s
    ∙ space_fails w tasks names old n e (λ t. and_then (says_one (text_at w names name) x t) (says_more (text_at w names name) xs)) h

pub says_no_more : (w : Setting) (d : Desk) (name : List ℕ) (says : List Saying) → says ≡ [] → left_of w d ≡ behind_all w (says_more (text_at w d.names name) says) d
says_no_more w d name says e = ap (λ ys. behind_all w (says_more (text_at w d.names name) ys) d) (sym e)

pub says_nothing_at_all : (w : Setting) (d : Desk) (name : List ℕ) (says : List Saying) → says ≡ [] → left_of w d ≡ behind_all w (says_all (deeper_of w d.names name) says) d
says_nothing_at_all w d name says e = ap (λ ys. behind_all w (says_all (deeper_of w d.names name) ys) d) (sym e)

-- a variable is open no longer
pub left_again : (names : Names) (name : List ℕ) → outer_names (names ++ name ∷ []) ≡ names
left_again names name =
    let e : length (names ++ name ∷ []) - 1 ≡ length names = omega (arith, length-append names (name ∷ [])) in
    ap (λ k. take k (names ++ name ∷ [])) e ∙ take_at names (name ∷ []) _ refl

deeper_is : (w : Setting) (names : Names) (name : List ℕ) → is_open name names ≡ false → deeper_of w names name ≡ text_at w (names ++ name ∷ []) name
deeper_is w names name e = ap (λ b. λ t s. if b then Ok s else text_at w (names ++ name ∷ []) name t s) e

-- a variable is opened
pub is_opened : {U E : Type 0} → (tasks more : Locals → List PlainTask) (names inner_names : Names) (sheet : Sheet) (n : ℕ) (name copy : List ℕ) (r : Result U E)
    → inner_names ≡ names ++ copy ∷ [] → copy ≡ name → OnOk r ((locals : Locals) → more locals ≡ close ∷ tasks locals)
    → OnOk r ((locals : Locals) → desk (more locals) inner_names sheet n ≡ with_open name (desk (tasks locals) names sheet n))
is_opened tasks more names inner_names sheet n name copy (Ok u) i c h = λ locals.
    ap (λ ts. desk ts inner_names sheet n) (h locals) ∙ ap (λ ns. desk (close ∷ tasks locals) ns sheet n) (i ∙ ap (λ x. names ++ x ∷ []) c)
is_opened tasks more names inner_names sheet n name copy (Err e) i c h = tt

-- what is read in an opened variable, and then it is closed
module _ {U : Type 0} (w : Setting) (d after new : Desk) (name : List ℕ) (r : Result U SubstFault) (opened : after ≡ with_open name d) (not_yet : is_open name d.names ≡ false) where
  in_open : (f : Reader → State → Answer) → behind_all w (f (text_at w after.names name)) after ≡ behind_all w (f (deeper_of w d.names name)) d
  in_open f =
      ap (λ a. behind_all w (f (text_at w a.names name)) a) opened
      ∙ ap (λ ns. and_then (f (text_at w (d.names ++ name ∷ []) name) d.state) (resumes w d.tasks ns)) (left_again d.names name)
      ∙ ap (λ read. behind_all w (f read) d) (sym (deeper_is w d.names name not_yet))

  pub says_in : (says : List Saying) (x : Saying) (xs : List Saying) → says ≡ x ∷ xs → Leads w (behind_all w (says_all (text_at w after.names name) (x ∷ xs)) after) new r
      → Leads w (behind_all w (says_all (deeper_of w d.names name) says) d) new r
  says_in says x xs e = leads_too w _ _ new r (in_open (λ read. says_all read (x ∷ xs)) ∙ ap (λ ys. behind_all w (says_all (deeper_of w d.names name) ys) d) (sym e))

  pub reads_in : (t : List ℕ) → Leads w (behind_all w (text_at w after.names name t) after) new r → Leads w (behind_all w (deeper_of w d.names name t) d) new r
  reads_in t = leads_too w _ _ new r (in_open (λ read. read t))

-- one thing, and then the others
module _ {U : Type 0} (w : Setting) (tasks : List PlainTask) (names : Names) (n : ℕ) (new : Desk) (name : List ℕ) (r : Result U SubstFault) (x : Saying) (xs : List Saying) where
  pub says_on : (more : List PlainTask) (sheet : Sheet) → more ≡ say name xs ∷ tasks → Leads w (behind_all w (says_one (text_at w names name) x) (desk more names sheet n)) new r
      → Leads w (behind_all w (says_all (text_at w names name) (x ∷ xs)) (desk tasks names sheet n)) new r
  says_on more sheet m = leads_too w _ _ new r (upon w tasks more names sheet n (say name xs) (says_one (text_at w names name) x) refl m)

  pub says_further : (says : List Saying) (old sheet : Sheet) → says ≡ x ∷ xs → with_text (32 ∷ []) old ≡ Some sheet
      → Leads w (behind_all w (says_all (text_at w names name) (x ∷ xs)) (desk tasks names sheet n)) new r
      → Leads w (behind_all w (says_more (text_at w names name) says) (desk tasks names old n)) new r
  says_further says old sheet e placed =
      leads_too w _ _ new r (spaced w tasks names old sheet n (says_all (text_at w names name) (x ∷ xs)) placed
      ∙ ap (λ ys. behind_all w (says_more (text_at w names name) ys) (desk tasks names old n)) (sym e))

pub read_inside_none : (w : Setting) (d : Desk) (name t : List ℕ) → is_open name d.names ≡ true → left_of w d ≡ behind_all w (deeper_of w d.names name t) d
read_inside_none w d name t o = ap (λ b. and_then (if b then Ok d.state else text_at w (d.names ++ name ∷ []) name t d.state) (resumes w d.tasks d.names)) (sym o)

-- a text is begun
level : (names : Names) → length names ≤ 100001 → height - length names ≡ suc (height - suc (length names))
unfolding height
level names h = omega arith

level_in : (names : Names) (name : List ℕ) → height - suc (length names) ≡ height - length (names ++ name ∷ [])
level_in names name = let e : suc (length names) ≡ length (names ++ name ∷ []) = omega (arith, length-append names (name ∷ [])) in ap (λ k. height - k) e

-- the variables that stand in a text, so many levels further in
abbrev deeper_with : Setting → ℕ → Names → Deeper
deeper_with w k names name t s = if is_open name names then Ok s else meaning w k (names ++ name ∷ []) name t s

one_in : (w : Setting) (k : ℕ) (names : Names) (owner t : List ℕ) (s : State) → meaning w (suc k) names owner t s ≡ reads w (deeper_with w k names) names owner (reading_of t) s
unfolding meaning
one_in w k names owner t s = refl

deeper_levels : (w : Setting) (names : Names) → deeper_with w (height - suc (length names)) names ≡ deeper_of w names
deeper_levels w names = λ i name t s. if is_open name names then Ok s else meaning w (level_in names name i) (names ++ name ∷ []) name t s

enter : (w : Setting) (names : Names) (owner t : List ℕ) (s : State) → length names ≤ 100001 → text_at w names owner t s ≡ reads w (deeper_of w names) names owner (reading_of t) s
enter w names owner t s h =
    ap (λ k. meaning w k names owner t s) (level names h)
    ∙ one_in w (height - suc (length names)) names owner t s
    ∙ ap (λ d. reads w d names owner (reading_of t) s) (deeper_levels w names)

pub begin_step : (w : Setting) (tasks more : List PlainTask) (names : Names) (sheet : Sheet) (n : ℕ) (owner t text : List ℕ) (place : ℕ) → length names ≤ 100001 → text ≡ t → place ≡ 0 → more ≡ read owner text place ∷ tasks
    → left_of w (desk more names sheet n) ≡ behind_all w (text_at w names owner t) (desk tasks names sheet n)
begin_step w tasks more names sheet n owner t text place h a b m =
    ap (λ ts. resumes w ts names (at sheet n)) (m ∙ ap (λ x. read owner x place ∷ tasks) a ∙ ap (λ k. read owner t k ∷ tasks) b)
    ∙ ap (λ a. and_then a (resumes w tasks names)) (sym (enter w names owner t (at sheet n) h))

too_deep : (w : Setting) (k : ℕ) (names : Names) (owner t : List ℕ) (s : State) → k ≡ 0 → meaning w k names owner t s ≡ Err (TooMany 100001)
unfolding meaning
too_deep w k names owner t s e = ap (λ j. meaning w j names owner t s) e

no_level : (names : Names) → 100001 < length names → height - length names ≡ 0
unfolding height
no_level names h = omega arith

pub begin_fails : (w : Setting) (tasks : List PlainTask) (names : Names) (sheet : Sheet) (n : ℕ) (owner t : List ℕ) → 100001 < length names
    → behind_all w (text_at w names owner t) (desk tasks names sheet n) ≡ Err (TooMany 100001)
begin_fails w tasks names sheet n owner t h = ap (λ a. and_then a (resumes w tasks names)) (too_deep w (height - length names) names owner t (at sheet n) (no_level names h))

-- a text is read on
module _ (w : Setting) (names : Names) (owner t bytes : List ℕ) (place : ℕ) (same : bytes ≡ t) where
  the_reading : (r : Reading) → reading_from bytes place ≡ r → reading_from t place ≡ r
  the_reading r e = ap (λ x. reading_from x place) (sym same) ∙ e

  pub read_ends : (d : Desk) → reading_from bytes place ≡ ends → left_of w d ≡ behind_all w (reads w (deeper_of w names) names owner (reading_from t place)) d
  read_ends d e = ap (λ r. behind_all w (reads w (deeper_of w names) names owner r) d) (sym (the_reading ends e))

  pub read_fails : (d : Desk) → reading_from bytes place ≡ bad_brace place → behind_all w (reads w (deeper_of w names) names owner (reading_from t place)) d ≡ Err (BadBrace owner place)
  read_fails d e = ap (λ r. behind_all w (reads w (deeper_of w names) names owner r) d) (the_reading (bad_brace place) e)

  pub read_step : (d : Desk) (p q : PlainPart) (next : ℕ) → reading_from bytes place ≡ part_at place q (reading_from bytes next) → p ≡ q
      → behind_all w (and_rest w names owner t next (reads_part w (deeper_of w names) names owner place p)) d ≡ behind_all w (reads w (deeper_of w names) names owner (reading_from t place)) d
  read_step d p q next e h =
      ap (λ y. behind_all w (reads w (deeper_of w names) names owner (part_at place y (reading_from t next))) d) h
      ∙ ap (λ r. behind_all w (reads w (deeper_of w names) names owner r) d)
      (ap (λ x. part_at place q (reading_from x next)) (sym same) ∙ sym e ∙ ap (λ x. reading_from x place) same)

-- a reference counts
pub refers_step : (w : Setting) (tasks : List PlainTask) (names : Names) (sheet : Sheet) (n next : ℕ) (f : State → Answer) → (nat_lt n 100000 ≡ true) × (next ≡ n + 1)
    → behind_all w f (desk tasks names sheet next) ≡ behind_all w (λ s. and_then (refers s) f) (desk tasks names sheet n)
refers_step w tasks names sheet n next f h =
    ap (λ k. behind_all w f (desk tasks names sheet k)) h.1
    ∙ ap (λ b. and_then (and_then (if b then Ok (at sheet (n + 1)) else Err (TooMany 100001)) f) (resumes w tasks names)) (sym h.0)

pub refers_fails : (w : Setting) (tasks : List PlainTask) (names : Names) (sheet : Sheet) (n : ℕ) (f : State → Answer) (e : SubstFault) → (nat_lt n 100000 ≡ false) × (e ≡ TooMany 100001)
    → behind_all w (λ s. and_then (refers s) f) (desk tasks names sheet n) ≡ Err e
refers_fails w tasks names sheet n f e h =
    ap (λ b. and_then (and_then (if b then Ok (at sheet (n + 1)) else Err (TooMany 100001)) f) (resumes w tasks names)) h.0 ∙ ap (λ x. Err x) (sym h.1)

-- the rest of a text is left to do
pub rest_left : (w : Setting) (tasks more : List PlainTask) (names : Names) (sheet : Sheet) (n : ℕ) (owner t : List ℕ) (place : ℕ) (f : State → Answer) → more ≡ read owner t place ∷ tasks
    → behind_all w f (desk more names sheet n) ≡ behind_all w (and_rest w names owner t place f) (desk tasks names sheet n)
rest_left w tasks more names sheet n owner t place f m = upon w tasks more names sheet n (read owner t place) f refl m

-- a reference counts, and the rest of a text is left to do
module _ (w : Setting) (tasks : List PlainTask) (names : Names) (sheet : Sheet) (n : ℕ) (owner t : List ℕ) (place : ℕ) (f : State → Answer) where
  pub refers_on : (more : List PlainTask) (next : ℕ) → (nat_lt n 100000 ≡ true) × (next ≡ n + 1) → more ≡ read owner t place ∷ tasks
      → behind_all w f (desk more names sheet next) ≡ behind_all w (and_rest w names owner t place (λ s. and_then (refers s) f)) (desk tasks names sheet n)
  refers_on more next h m =
      rest_left w tasks more names sheet next owner t place f m
      ∙ refers_step w tasks names sheet n next (λ s. and_then (f s) (does w names (read owner t place))) h
      ∙ ap (λ a. and_then a (resumes w tasks names)) (sym (and_then-assoc (refers (at sheet n)) f (does w names (read owner t place))))

  pub refers_no_more : (e : SubstFault) → (nat_lt n 100000 ≡ false) × (e ≡ TooMany 100001)
      → behind_all w (and_rest w names owner t place (λ s. and_then (refers s) f)) (desk tasks names sheet n) ≡ Err e
  refers_no_more e h =
      ap (λ a. and_then a (resumes w tasks names)) (and_then-assoc (refers (at sheet n)) f (does w names (read owner t place)))
      ∙ refers_fails w tasks names sheet n (λ s. and_then (f s) (does w names (read owner t place))) e h

-- what a reference says
module _ (w : Setting) (d : Desk) (owner : List ℕ) (place : ℕ) (name : List ℕ) (selection : Selection) (attribute : Option (List ℕ)) (held held_taken : Content)
    (is_held : held ≡ content_in w d.names name) (is_taken : held_taken ≡ taken selection held) where
  the_said : said_by w.locals attribute held_taken ≡ said_by w.locals attribute (taken selection (content_in w d.names name))
  the_said = ap (said_by w.locals attribute) (is_taken ∙ ap (taken selection) is_held)

  pub refers_says : (says : List Saying) → said_by w.locals attribute held_taken ≡ Some says
      → behind_all w (says_all (deeper_of w d.names name) says) d ≡ behind_all w (refers_to w (deeper_of w d.names) d.names owner place name selection attribute) d
  refers_says says e = ap (λ o. and_then (says_or_fault (deeper_of w d.names name) owner place o d.state) (resumes w d.tasks d.names)) (sym e ∙ the_said)

  pub refers_badly : said_by w.locals attribute held_taken ≡ None
      → behind_all w (refers_to w (deeper_of w d.names) d.names owner place name selection attribute) d ≡ Err (BadAttr owner place)
  refers_badly e = ap (λ o. and_then (says_or_fault (deeper_of w d.names name) owner place o d.state) (resumes w d.tasks d.names)) (sym the_said ∙ e)

known_says : (locals : Locals) (a : Option Attribute) (says : List Saying) → parts_or_none locals a nothing ≡ Some says → says ≡ []
known_says locals None says e = cc
known_says locals (Some a) says e = cc

no_content_says : (locals : Locals) (attribute : Option (List ℕ)) (says : List Saying) → said_by locals attribute nothing ≡ Some says → says ≡ []
no_content_says locals None says e = cc
no_content_says locals (Some name) says e = known_says locals (attribute_named name) says e

nothing_says : (locals : Locals) (selection : Selection) (attribute : Option (List ℕ)) (b : Bool) (c : Content) (says : List Saying) → b ≡ true → said_by locals attribute (taken selection (if b then nothing else c)) ≡ Some says → says ≡ []
nothing_says locals selection attribute true c says o e = no_content_says locals attribute says e
nothing_says locals selection attribute false c says o e = cc

pub says_nothing : (w : Setting) (names : Names) (name : List ℕ) (selection : Selection) (attribute : Option (List ℕ)) (held held_taken : Content) (says : List Saying)
    → held ≡ content_in w names name → held_taken ≡ taken selection held → said_by w.locals attribute held_taken ≡ Some says → is_open name names ≡ true → says ≡ []
says_nothing w names name selection attribute held held_taken says h t e o =
    nothing_says w.locals selection attribute (is_open name names) (content_at w name) says o (sym (ap (said_by w.locals attribute) (t ∙ ap (taken selection) h)) ∙ e)

pub expands_nothing : (w : Setting) (names : Names) (name : List ℕ) (held : Content) (says : List Saying) → held ≡ content_in w names name → says ≡ said w.locals held → is_open name names ≡ true → says ≡ []
expands_nothing w names name held says h s o = s ∙ ap (said w.locals) h ∙ by (is_open name names) o
  where
    by : (b : Bool) → b ≡ true → said w.locals (if b then nothing else content_at w name) ≡ []
    by true e = refl
    by false e = cc

pub expand_step : (w : Setting) (d : Desk) (name : List ℕ) (held : Content) (says : List Saying) → held ≡ content_in w d.names name → says ≡ said w.locals held
    → behind_all w (says_all (deeper_of w d.names name) says) d ≡ behind_all w (expands w (deeper_of w d.names) d.names name) d
expand_step w d name held says h s = ap (λ ys. behind_all w (says_all (deeper_of w d.names name) ys) d) (s ∙ ap (said w.locals) h)

pub not_open : (name : List ℕ) (names : Names) (says : List Saying) (x : Saying) (xs : List Saying) → (is_open name names ≡ true → says ≡ []) → says ≡ x ∷ xs → is_open name names ≡ false
not_open name names says x xs none e = by (is_open name names) none
  where
    by : (b : Bool) → (b ≡ true → says ≡ []) → b ≡ false
    by false h = refl
    by true h = let k : says ≡ [] = h refl in cc

pub and_then-ok : (a : Answer) → and_then a (λ s. Ok s) ≡ a
and_then-ok (Ok s) = refl
and_then-ok (Err fault) = refl

-- nothing is left behind one thing
pub alone_read : (w : Setting) (reader : Reader) (x : Saying) (xs : List Saying) (d : Desk) → xs ≡ [] → behind_all w (says_one reader x) d ≡ behind_all w (says_all reader (x ∷ xs)) d
alone_read w reader x xs d none =
    ap (λ a. and_then a (resumes w d.tasks d.names)) (sym (and_then-ok (says_one reader x d.state))) ∙ ap (λ ys. behind_all w (says_all reader (x ∷ ys)) d) (sym none)

-- a text without a `$` is put as it stands
pub literal_read : (w : Setting) (names : Names) (owner t : List ℕ) (s : State) → length names ≤ 100001 → is_literal t ≡ true → 0 < length t → text_at w names owner t s ≡ puts t s
literal_read w names owner t s h literal full =
    enter w names owner t s h
    ∙ ap (λ r. reads w (deeper_of w names) names owner r s) (literal_is t literal full)
    ∙ and_then-ok (puts t s)

pub literal_begins : {U : Type 0} (w : Setting) (d after : Desk) (owner t : List ℕ) (r : Result U SubstFault) → length d.names ≤ 100001 → is_literal t ≡ true → 0 < length t
    → Leads w (behind_all w (puts t) d) after r → Leads w (behind_all w (text_at w d.names owner t) d) after r
literal_begins w d after owner t r h literal full =
    leads_too w _ _ after r (ap (λ a. and_then a (resumes w d.tasks d.names)) (sym (literal_read w d.names owner t d.state h literal full)))

-- also where it is all that a variable says
pub literal_says : {U : Type 0} (w : Setting) (d after : Desk) (name t : List ℕ) (says : List Saying) (r : Result U SubstFault) → length d.names ≤ 100000 → says ≡ Read t ∷ [] → is_literal t ≡ true → 0 < length t
    → (is_open name d.names ≡ true → says ≡ []) → Leads w (behind_all w (puts t) d) after r → Leads w (behind_all w (says_all (deeper_of w d.names name) says) d) after r
literal_says w d after name t says r h one literal full none =
    leads_too w _ _ after r (ap (λ a. and_then a (resumes w d.tasks d.names)) (sym (
    ap (λ ys. says_all (deeper_of w d.names name) ys d.state) one
    ∙ and_then-ok (deeper_of w d.names name t d.state)
    ∙ ap (λ read. read t d.state) (deeper_is w d.names name (not_open name d.names says (Read t) [] none one))
    ∙ literal_read w (d.names ++ name ∷ []) name t d.state (omega (arith, length-append d.names (name ∷ []))) literal full)))
