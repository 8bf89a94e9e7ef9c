-- Marks at the targets of a job, and what an ending leaves there.
use Rattle.std.proofs.Common.{◌≡◌, ◌∙◌, ◌⊎◌, ◌<◌, ◌+◌, take, length-append, add-zero, sym, refl, ℕ, suc, zero, List, [], ◌∷◌, ◌++◌, Bool, true, false, cond, Option, Some, None, ap, map, length, get_or, inl, inr, arith, Contains, IsSome, is_some, IsTrue, ◌||◌, append-nil, append_assoc}
use Rattle.std.specs.Cmp.Lexicographic.{bytes_decides}
use Rattle.std.specs.List.{list_any}
use Rattle.std.specs.Option.{option_map, option_to_list}
use Rattle.std.specs.Str.{bytes_eq}
use Rattle.std.proofs.lemmas.Bool.{cases_Bool}
use Rattle.std.proofs.lemmas.Grind.{flat_map-append}
use Rattle.std.proofs.lemmas.List.{take_more}
use Rattle.std.proofs.lemmas.List.Elements.{Contains-append_cases}
use Rattle.world_api.specs.Act.{Content, Given}
use Rattle.world_mem.specs.declared.slots.File.{File}
use Rattle.world_mem.specs.declared.slots.Slot.{Slot}
use Rattle.world_mem.specs.declared.slots.Slot.TheVariants.{Settled}
use Rattle.world_mem.specs.InSlots.{file_at, file_of, file_with, written, marked, settled, content_of}
use Rattle.act_table.specs.Listed.{contents_in}
use Rattle.world_mem.specs.Kept.{met_of}

pub in_front : (x : List ℕ) (xs : List (List ℕ)) (path : List ℕ) → x ≡ path → Contains (x ∷ xs) path
in_front x xs path e = (0, omega arith, e)

pub behind : (x : List ℕ) (xs : List (List ℕ)) (path : List ℕ) → Contains xs path → Contains (x ∷ xs) path
behind x xs path h = (suc h.0, omega (arith, h.1), h.2)

pub written_off_if : (b : Bool) (slot : Slot) (old : Option Slot) → (b ≡ true → ⊥) → cond b (option_map (λ _. slot) old) old ≡ old
written_off_if true slot old h = absurd (h refl)
written_off_if false slot old h = refl

pub written_off : (at : List ℕ) (slot : Slot) (path : List ℕ) (old : Option Slot) → (at ≡ path → ⊥) → written at slot path old ≡ old
written_off at slot path old off = written_off_if (bytes_eq at path) slot old (λ y. off ((bytes_decides at path).0 y))

-- other paths keep their slots
pub marked-off : (targets : List (List ℕ)) (slot : Slot) (path : List ℕ) (old : Option Slot) → (Contains targets path → ⊥) → marked targets slot path old ≡ old
marked-off [] slot path old off = refl
marked-off (x ∷ xs) slot path old off =
    marked-off xs slot path (written x slot path old) (λ h. off (behind x xs path h)) ∙ written_off x slot path old (λ e. off (in_front x xs path e))

written_same : (b : Bool) (slot : Slot) → cond b (option_map (λ _. slot) (Some slot)) (Some slot) ≡ Some slot
written_same true slot = refl
written_same false slot = refl

marked-again : (targets : List (List ℕ)) (slot : Slot) (path : List ℕ) → marked targets slot path (Some slot) ≡ Some slot
marked-again [] slot path = refl
marked-again (x ∷ xs) slot path = ap (marked xs slot path) (written_same (bytes_eq x path) slot) ∙ marked-again xs slot path

pub written_on_if : (b : Bool) (slot : Slot) (old : Option Slot) → b ≡ true → IsSome old → cond b (option_map (λ _. slot) old) old ≡ Some slot
written_on_if true slot None e h = absurd (cc)
written_on_if true slot (Some x) e h = refl
written_on_if false slot old e h = absurd (cc)

still_some : (b : Bool) (slot : Slot) (old : Option Slot) → IsSome old → IsSome (cond b (option_map (λ _. slot) old) old)
still_some true slot None h = absurd (cc)
still_some true slot (Some x) h = refl
still_some false slot old h = h

-- a target that had a slot has the mark
pub marked-on : (targets : List (List ℕ)) (slot : Slot) (path : List ℕ) (old : Option Slot) → (k : ℕ) → k < length targets → get_or targets k path ≡ path → IsSome old → marked targets slot path old ≡ Some slot
marked-on [] slot path old k lt e h = absurd (omega arith)
marked-on (x ∷ xs) slot path old zero lt e h = ap (marked xs slot path) (written_on_if (bytes_eq x path) slot old ((bytes_decides x path).1 e) h) ∙ marked-again xs slot path
marked-on (x ∷ xs) slot path old (suc k) lt e h = marked-on xs slot path (written x slot path old) k (omega arith) e (still_some (bytes_eq x path) slot old h)

written_empty_if : (b : Bool) (slot : Slot) (old : Option Slot) (bytes : List ℕ) → content_of (Some slot) ≡ None → content_of (cond b (option_map (λ _. slot) old) old) ≡ Some bytes → content_of old ≡ Some bytes
written_empty_if true slot None bytes empty h = h
written_empty_if true slot (Some x) bytes empty h = absurd (let e : Some bytes ≡ None = sym h ∙ empty in cc e)
written_empty_if false slot old bytes empty h = h

-- a mark without content adds none
pub marked-empty : (targets : List (List ℕ)) (slot : Slot) (path : List ℕ) (old : Option Slot) (bytes : List ℕ) → content_of (Some slot) ≡ None → content_of (marked targets slot path old) ≡ Some bytes → content_of old ≡ Some bytes
marked-empty [] slot path old bytes empty h = h
marked-empty (x ∷ xs) slot path old bytes empty h = written_empty_if (bytes_eq x path) slot old bytes empty (marked-empty xs slot path (written x slot path old) bytes empty h)

-- other paths keep their slots
pub settled-off : (stamp : ℕ) (made : Given) (path : List ℕ) (old : Option Slot) → (Contains (map (λ entry. entry.0) made) path → ⊥) → settled stamp made path old ≡ old
settled-off stamp [] path old off = refl
settled-off stamp (x ∷ xs) path old off =
    written_off x.0 (Settled (file_with stamp x.0 x.1)) path (settled stamp xs path old) (λ e. off (in_front x.0 (map (λ entry. entry.0) xs) path e))
    ∙ settled-off stamp xs path old (λ h. off (behind x.0 (map (λ entry. entry.0) xs) path h))

pub settled-some : (stamp : ℕ) (made : Given) (path : List ℕ) (old : Option Slot) → IsSome old → IsSome (settled stamp made path old)
settled-some stamp [] path old h = h
settled-some stamp (x ∷ xs) path old h = still_some (bytes_eq x.0 path) (Settled (file_with stamp x.0 x.1)) (settled stamp xs path old) (settled-some stamp xs path old h)

-- a target that had a slot has what was made for it
pub settled-on : (stamp : ℕ) (f : List ℕ → Content) (targets : List (List ℕ)) (path : List ℕ) (old : Option Slot) → (k : ℕ) → k < length targets → get_or targets k path ≡ path → IsSome old → settled stamp (map (λ target. (target, f target)) targets) path old ≡ Some (Settled (file_with stamp path (f path)))
settled-on stamp f [] path old k lt e h = absurd (omega arith)
settled-on stamp f (x ∷ xs) path old zero lt e h =
    let rest = settled stamp (map (λ target. (target, f target)) xs) path old in
    written_on_if (bytes_eq x path) (Settled (file_with stamp x (f x))) rest ((bytes_decides x path).1 e) (settled-some stamp (map (λ target. (target, f target)) xs) path old h)
    ∙ ap (λ p. Some (Settled (file_with stamp p (f p)))) e
settled-on stamp f (x ∷ xs) path old (suc k) lt e h =
    let ih = settled-on stamp f xs path old k (omega arith) e h in
    elim (cases_Bool (bytes_eq x path)) [
      | inl y ↦ written_on_if (bytes_eq x path) (Settled (file_with stamp x (f x))) (settled stamp (map (λ target. (target, f target)) xs) path old) y (settled-some stamp (map (λ target. (target, f target)) xs) path old h) ∙ ap (λ p. Some (Settled (file_with stamp p (f p)))) ((bytes_decides x path).0 y)
      | inr n ↦ written_off_if (bytes_eq x path) (Settled (file_with stamp x (f x))) (settled stamp (map (λ target. (target, f target)) xs) path old) (λ y. absurd (let e : true ≡ false = sym y ∙ n in cc e)) ∙ ih
    ]

-- a file that is made of a content has it
pub made_content : (stamp : ℕ) (path : List ℕ) (content : Content) → content_of (Some (Settled (file_with stamp path content))) ≡ content
made_content stamp path None = refl
made_content stamp path (Some bytes) = refl

written_content_if : (b : Bool) (file : Option File) (old : Option Slot) (bytes : List ℕ) → content_of (cond b (option_map (λ _. Settled file) old) old) ≡ Some bytes → (content_of (Some (Settled file)) ≡ Some bytes) ⊎ (content_of old ≡ Some bytes)
written_content_if true file None bytes h = inr h
written_content_if true file (Some x) bytes h = inl h
written_content_if false file old bytes h = inr h

pub in_option : (content : Content) (rest : List (List ℕ)) (bytes : List ℕ) → content ≡ Some bytes → IsTrue (list_any (bytes_eq bytes) (option_to_list content ++ rest))
in_option None rest bytes e = absurd (cc)
in_option (Some x) rest bytes e = let same : bytes ≡ x = cc in simp ((bytes_decides bytes x).1 same) refl

past_option : (content : Content) (rest : List (List ℕ)) (bytes : List ℕ) → list_any (bytes_eq bytes) rest ≡ true → list_any (bytes_eq bytes) (option_to_list content ++ rest) ≡ true
past_option None rest bytes h = h
past_option (Some x) rest bytes h = or_right (bytes_eq bytes x) (list_any (bytes_eq bytes) rest) h
  where
    or_right : (a b : Bool) → b ≡ true → (a || b) ≡ true
    or_right true b h = refl
    or_right false b h = h

-- what stands after an ending was made by it, or stood before
pub settled-content : (stamp : ℕ) (made : Given) (path : List ℕ) (old : Option Slot) (bytes : List ℕ) → content_of (settled stamp made path old) ≡ Some bytes → (content_of old ≡ Some bytes) ⊎ (list_any (bytes_eq bytes) (contents_in made) ≡ true)
settled-content stamp [] path old bytes h = inl h
settled-content stamp (x ∷ xs) path old bytes h =
    elim (written_content_if (bytes_eq x.0 path) (file_with stamp x.0 x.1) (settled stamp xs path old) bytes h) [
      | inl here ↦ inr (in_option x.1 (contents_in xs) bytes (sym (made_content stamp x.0 x.1) ∙ here))
      | inr there ↦ elim (settled-content stamp xs path old bytes there) [ inl before ↦ inl before | inr found ↦ inr (past_option x.1 (contents_in xs) bytes found) ]
    ]

written_none : (at : List ℕ) (slot : Slot) (path : List ℕ) → written at slot path None ≡ None
written_none at slot path = none_if (bytes_eq at path)
  where
    none_if : (b : Bool) → cond b (option_map {T = Slot} (λ _. slot) None) None ≡ None
    none_if true = refl
    none_if false = refl

marked-none : (targets : List (List ℕ)) (slot : Slot) (path : List ℕ) → marked targets slot path None ≡ None
marked-none [] slot path = refl
marked-none (x ∷ xs) slot path = ap (marked xs slot path) (written_none x slot path) ∙ marked-none xs slot path

-- where a mark has no content its targets have none
pub marked-absent : (targets : List (List ℕ)) (slot : Slot) (path : List ℕ) (old : Option Slot) → content_of (Some slot) ≡ None → (k : ℕ) → k < length targets → get_or targets k path ≡ path → content_of (marked targets slot path old) ≡ None
marked-absent targets slot path None empty k lt e = ap content_of (marked-none targets slot path)
marked-absent targets slot path (Some x) empty k lt e = ap content_of (marked-on targets slot path (Some x) k lt e refl) ∙ empty

-- what has been met after one group more
pub met-push : (groups : List Given) (group : Given) → met_of (groups ++ group ∷ []) ≡ met_of groups ++ contents_in group
met-push groups group = flat_map-append contents_in groups (group ∷ []) ∙ ap (λ rest. met_of groups ++ rest) (append-nil (contents_in group))

found_behind : (p : List ℕ → Bool) (xs ys : List (List ℕ)) → list_any p ys ≡ true → list_any p (xs ++ ys) ≡ true
found_behind p [] ys h = h
found_behind p (x ∷ xs) ys h = or_true (p x) (list_any p (xs ++ ys)) (found_behind p xs ys h)
  where
    or_true : (a b : Bool) → b ≡ true → (a || b) ≡ true
    or_true true b h = refl
    or_true false b h = h

pub found_in_push : (bytes : List ℕ) (groups : List Given) (group : Given) → list_any (bytes_eq bytes) (contents_in group) ≡ true → list_any (bytes_eq bytes) (met_of (groups ++ group ∷ [])) ≡ true
found_in_push bytes groups group h = ap (list_any (bytes_eq bytes)) (met-push groups group) ∙ found_behind (bytes_eq bytes) (met_of groups) (contents_in group) h

pub found_before : (p : List ℕ → Bool) (xs ys : List (List ℕ)) → list_any p xs ≡ true → list_any p (xs ++ ys) ≡ true
found_before p [] ys h = absurd (cc)
found_before p (x ∷ xs) ys h = or_left (p x) (list_any p xs) (list_any p (xs ++ ys)) h (found_before p xs ys)
  where
    or_left : (a b d : Bool) → (a || b) ≡ true → (b ≡ true → d ≡ true) → (a || d) ≡ true
    or_left true b d h f = refl
    or_left false b d h f = f h

or_first : (a b : Bool) → a ≡ true → (a || b) ≡ true
or_first true b h = refl
or_first false b h = absurd (cc)

or_last : (a b : Bool) → b ≡ true → (a || b) ≡ true
or_last true b h = refl
or_last false b h = h

push_if : (b f : Bool) (x y : List ℕ) (whole old : Option (List ℕ)) → (b ≡ true → f ≡ true → ⊥) → whole ≡ cond f (Some y) old → cond b (Some x) whole ≡ cond f (Some y) (cond b (Some x) old)
push_if true true x y whole old off h = absurd (off refl refl)
push_if true false x y whole old off h = refl
push_if false f x y whole old off h = h

first_none : (b : Bool) (x : List ℕ) (rest : Option (List ℕ)) → cond b (Some x) rest ≡ None → (b ≡ true → ⊥) × (rest ≡ None)
first_none true x rest h = absurd (let e : Some x ≡ None = h in cc e)
first_none false x rest h = ((λ y. absurd (let e : true ≡ false = sym y in cc e)), h)

-- a file more, at a path that has none
pub file-push : (files : List (List ℕ × List ℕ)) (file : List ℕ × List ℕ) (path : List ℕ) → file_at files file.0 ≡ None → file_at (files ++ file ∷ []) path ≡ cond (bytes_eq file.0 path) (Some file.1) (file_at files path)
file-push [] file path h = refl
file-push (x ∷ xs) file path h =
    let none = first_none (bytes_eq x.0 file.0) x.1 (file_at xs file.0) h in
    push_if (bytes_eq x.0 path) (bytes_eq file.0 path) x.1 file.1 (file_at (xs ++ file ∷ []) path) (file_at xs path)
    (λ a b. none.0 ((bytes_decides x.0 file.0).1 ((bytes_decides x.0 path).0 a ∙ sym ((bytes_decides file.0 path).0 b))))
    (file-push xs file path none.1)

content_cond : (b : Bool) (file : Option File) (old : Option Slot) → content_of (cond b (Some (Settled file)) old) ≡ cond b (content_of (Some (Settled file))) (content_of old)
content_cond true file old = refl
content_cond false file old = refl

-- a file put at a path that has none
pub put-file : (files : List (List ℕ × List ℕ)) (put : File) (path : List ℕ) (old now : Option Slot) → file_at files put.name ≡ None → content_of old ≡ file_at files path → now ≡ cond (bytes_eq put.name path) (Some (Settled (Some put))) old → content_of now ≡ file_at (files ++ (put.name, put.bytes) ∷ []) path
put-file files put path old now free is at =
    ap content_of at ∙ content_cond (bytes_eq put.name path) (Some put) old ∙ ap (cond (bytes_eq put.name path) (Some put.bytes)) is ∙ sym (file-push files (put.name, put.bytes) path free)

named_if : (b : Bool) (put file : File) (old : Option Slot) (at path : List ℕ) → (b ≡ true → at ≡ path) → put.name ≡ at → (file_of old ≡ Some file → file.name ≡ path)
    → file_of (cond b (option_map (λ _. Settled (Some put)) old) old) ≡ Some file → file.name ≡ path
named_if true put file None at path same name was h = absurd (let e : None ≡ Some file = h in cc e)
named_if true put file (Some x) at path same name was h = let e : Some put ≡ Some file = h in let is : put ≡ file = cc e in ap (λ (f : File). f.name) (sym is) ∙ name ∙ same refl
named_if false put file old at path same name was h = was h

pub put_named : (b : Bool) (put file : File) (old : Option Slot) (path : List ℕ) → (b ≡ true → put.name ≡ path) → (file_of old ≡ Some file → file.name ≡ path)
    → file_of (cond b (Some (Settled (Some put))) old) ≡ Some file → file.name ≡ path
put_named true put file old path same was h = let e : Some put ≡ Some file = h in let is : put ≡ file = cc e in ap (λ (f : File). f.name) (sym is) ∙ same refl
put_named false put file old path same was h = was h

unnamed_if : (b : Bool) (file : File) (old : Option Slot) → file_of (cond b (option_map (λ _. Settled None) old) old) ≡ Some file → file_of old ≡ Some file
unnamed_if true file None h = h
unnamed_if true file (Some x) h = absurd (let e : None ≡ Some file = h in cc e)
unnamed_if false file old h = h

named_made : (stamp : ℕ) (b : Bool) (at : List ℕ) (content : Content) (file : File) (old : Option Slot) (path : List ℕ) → (b ≡ true → at ≡ path) → (file_of old ≡ Some file → file.name ≡ path)
    → file_of (cond b (option_map (λ _. Settled (file_with stamp at content)) old) old) ≡ Some file → file.name ≡ path
named_made stamp b at None file old path same was h = was (unnamed_if b file old h)
named_made stamp b at (Some bytes) file old path same was h = named_if b (record { name = at; bytes = bytes; stamp = stamp }) file old at path same refl was h

-- files that an ending makes have their names
pub settled-named : (stamp : ℕ) (made : Given) (path : List ℕ) (old : Option Slot) (file : File) → (file_of old ≡ Some file → file.name ≡ path) → file_of (settled stamp made path old) ≡ Some file → file.name ≡ path
settled-named stamp [] path old file was h = was h
settled-named stamp (x ∷ xs) path old file was h =
    named_made stamp (bytes_eq x.0 path) x.0 x.1 file (settled stamp xs path old) path (λ y. (bytes_decides x.0 path).0 y) (settled-named stamp xs path old file was) h

-- a mark that holds no file brings none
pub marked-named : (targets : List (List ℕ)) (slot : Slot) (path : List ℕ) (old : Option Slot) (file : File) → file_of (Some slot) ≡ None → file_of (marked targets slot path old) ≡ Some file → file_of old ≡ Some file
marked-named [] slot path old file empty h = h
marked-named (x ∷ xs) slot path old file empty h = fileless_if (bytes_eq x path) slot old file empty (marked-named xs slot path (written x slot path old) file empty h)
  where
    fileless_if : (b : Bool) (slot : Slot) (old : Option Slot) (file : File) → file_of (Some slot) ≡ None → file_of (cond b (option_map (λ _. slot) old) old) ≡ Some file → file_of old ≡ Some file
    fileless_if true slot None file empty h = h
    fileless_if true slot (Some x) file empty h = absurd (let e : None ≡ Some file = sym empty ∙ h in cc e)
    fileless_if false slot old file empty h = h

met_if : (b : Bool) (here bytes : List ℕ) (there : Content) (rest : List (List ℕ)) → cond b (Some here) there ≡ Some bytes → (there ≡ Some bytes → list_any (bytes_eq bytes) rest ≡ true) → (bytes_eq bytes here || list_any (bytes_eq bytes) rest) ≡ true
met_if true here bytes there rest e f = let same : bytes ≡ here = cc in or_first (bytes_eq bytes here) (list_any (bytes_eq bytes) rest) ((bytes_decides bytes here).1 same)
met_if false here bytes there rest e f = or_last (bytes_eq bytes here) (list_any (bytes_eq bytes) rest) (f e)

pub none_of : {X : Type 0} (o : Option X) → is_some o ≡ false → o ≡ None
none_of None h = refl
none_of (Some x) h = absurd (let e : true ≡ false = h in cc e)

-- what a list of files has is among its contents
pub file_met : (files : List (List ℕ × List ℕ)) (path bytes : List ℕ) → file_at files path ≡ Some bytes → list_any (bytes_eq bytes) (contents_in (map (λ file. (file.0, Some file.1)) files)) ≡ true
file_met [] path bytes h = absurd (cc)
file_met (x ∷ xs) path bytes h = met_if (bytes_eq x.0 path) x.1 bytes (file_at xs path) (contents_in (map (λ file. (file.0, Some file.1)) xs)) h (λ e. file_met xs path bytes e)

-- what the files of a list hold
pub contents_in-files : (files : List (List ℕ × List ℕ)) → contents_in (map (λ file. (file.0, Some file.1)) files) ≡ map (λ file. file.1) files
contents_in-files [] = refl
contents_in-files (x ∷ xs) = ap (λ rest. x.1 ∷ rest) (contents_in-files xs)

-- what is met of what is made is made at a target
pub made_of : (f : List ℕ → Content) (targets : List (List ℕ)) (bytes : List ℕ) → Contains (contents_in (map (λ target. (target, f target)) targets)) bytes → (target : List ℕ) × Contains targets target × (f target ≡ Some bytes)
made_of f [] bytes h = absurd (omega (arith, h.1))
made_of f (x ∷ xs) bytes h = elim (Contains-append_cases (option_to_list (f x)) (contents_in (map (λ target. (target, f target)) xs)) bytes h) [
  | inl here ↦ (x, in_front x xs x refl, one_of (f x) bytes here)
  | inr there ↦ let later = made_of f xs bytes there in (later.0, behind x xs later.0 later.1, later.2)
]
  where
    one_of : (content : Content) (bytes : List ℕ) → Contains (option_to_list content) bytes → content ≡ Some bytes
    one_of None bytes h = absurd (omega (arith, h.1))
    one_of (Some y) bytes (zero, lt, is) = ap Some is
    one_of (Some y) bytes (suc k, lt, is) = absurd (omega (arith, lt))

-- a file that is written stands there, or what stood before
pub written-content : (at : List ℕ) (file : Option File) (path : List ℕ) (old : Option Slot) (bytes : List ℕ) → content_of (written at (Settled file) path old) ≡ Some bytes → (content_of (Some (Settled file)) ≡ Some bytes) ⊎ (content_of old ≡ Some bytes)
written-content at file path old bytes h = written_content_if (bytes_eq at path) file old bytes h

pub written-named : (at : List ℕ) (put : File) (path : List ℕ) (old : Option Slot) (file : File) → put.name ≡ at → (file_of old ≡ Some file → file.name ≡ path) → file_of (written at (Settled (Some put)) path old) ≡ Some file → file.name ≡ path
written-named at put path old file name was h = named_if (bytes_eq at path) put file old at path (λ y. (bytes_decides at path).0 y) name was h
