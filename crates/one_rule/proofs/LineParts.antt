-- The fields of a line that is cut at its quotes, and the bytes that they have.
use Rattle.std.proofs.Common.{not, zero, suc, codes, arith, ◌||◌, ◌≡◌, ◌≢◌, ◌==◌, ◌<◌, ◌≤◌, ◌&&◌, ℕ, Bool, true, false, List, [], ◌∷◌, length, map, Some, None, cond, sym, refl, ap, ◌∙◌, subst, get_or, nat_lt, nat_eq, position, if◌then◌else◌, Bor, slice_index_or}
use Rattle.std.specs.List.{slice_split}
use Rattle.std.specs.Str.{IsAscii}
use Rattle.std.specs.Cmp.Lexicographic.{pointwise, bytes_decides}
use Rattle.std.proofs.lemmas.Bool.Decides.{nat_tests}
use Rattle.std.proofs.lemmas.List.{get_or_default}
use mathlib.Core.Bool.{or-true}
use Rattle.std.proofs.lemmas.List.Sums.{AllPass-from_list_all, position_or_len_is}
use Rattle.std.proofs.lemmas.List.Splits.{slice_split_none}
use Rattle.scons_base.specs.declared.limits.TheConstants.{PATH_LIMIT, FILE_NAME_LIMIT}
use Rattle.scons_base.specs.Normal.{is_name, is_normal, is_top, is_root, slash, below_root, parts_of as path_parts}
use Rattle.scons_base.specs.PathFaults.{fault_in}
use Rattle.one_rule.specs.declared.rule.Rule.{Rule}
use Rattle.one_rule.specs.LineForm.{is_file_name, is_file_name_byte, is_command, is_command_byte, parts_of, quote, DeclaresRule}
use Rattle.one_rule.specs.Fields.{fields_of, is_frame}

-- the fields of seven parts
pub between : (xs : List (Bor (List ℕ))) (d : Bor (List ℕ)) → 7 ≤ length xs → length xs < 8 →
    fields_of (map (λ part. part.now) xs) ≡ (if is_frame (slice_index_or xs 0 d).now (slice_index_or xs 2 d).now (slice_index_or xs 4 d).now (slice_index_or xs 6 d).now
    then Some (record { target = (slice_index_or xs 1 d).now; source = (slice_index_or xs 3 d).now; line = (slice_index_or xs 5 d).now }) else None)
between [] d l h = absurd (omega arith)
between (a ∷ []) d l h = absurd (omega arith)
between (a ∷ b ∷ []) d l h = absurd (omega arith)
between (a ∷ b ∷ c ∷ []) d l h = absurd (omega arith)
between (a ∷ b ∷ c ∷ e ∷ []) d l h = absurd (omega arith)
between (a ∷ b ∷ c ∷ e ∷ f ∷ []) d l h = absurd (omega arith)
between (a ∷ b ∷ c ∷ e ∷ f ∷ g ∷ []) d l h = absurd (omega arith)
between (a ∷ b ∷ c ∷ e ∷ f ∷ g ∷ i ∷ []) d l h = refl
between (a ∷ b ∷ c ∷ e ∷ f ∷ g ∷ i ∷ j ∷ xs) d l h = absurd (omega arith)

-- a byte of a name is ASCII, no zero and no slash
name_byte : (b : ℕ) → is_file_name_byte b ≡ true → (b < 128) × (b ≢ 0) × (b ≢ 47)
unfolding is_file_name_byte
name_byte b h = (grind (arith, nat_tests), grind (arith, nat_tests), grind (arith, nat_tests))

command_byte : (b : ℕ) → is_command_byte b ≡ true → b < 128
unfolding is_command_byte
command_byte b h = grind (arith, nat_tests)

-- what holds of each byte, and of the 0 that stands for none, holds at each place
at_each : (P : ℕ → Type 0) (bs : List ℕ) (i : ℕ) → P 0 → ((k : ℕ) → k < length bs → P (get_or bs k 0)) → P (get_or bs i 0)
at_each P [] i none each = none
at_each P (b ∷ bs) zero none each = each 0 (omega arith)
at_each P (b ∷ bs) (suc i) none each = at_each P bs i none (λ k l. each (suc k) (omega arith))

each_name_byte : (name : List ℕ) → is_file_name name ≡ true → (k : ℕ) → k < length name → (get_or name k 0 < 128) × (get_or name k 0 ≢ 0) × (get_or name k 0 ≢ 47)
unfolding is_file_name
each_name_byte name h k l = name_byte (get_or name k 0) (AllPass-from_list_all is_file_name_byte name (grind (arith, nat_tests)) k 0 l)

pub name_ascii : (name : List ℕ) → is_file_name name ≡ true → IsAscii name
name_ascii name h i = at_each (λ b. b < 128) name i (omega arith) (λ k l. (each_name_byte name h k l).0)

pub command_ascii : (line : List ℕ) → is_command line ≡ true → IsAscii line
unfolding is_command
command_ascii line h i = at_each (λ b. b < 128) line i (omega arith) (λ k l. command_byte (get_or line k 0) (AllPass-from_list_all is_command_byte line (grind (arith, nat_tests)) k 0 l))

short_name : (name : List ℕ) → is_file_name name ≡ true → (length name ≤ FILE_NAME_LIMIT) × (is_name name ≡ true)
unfolding is_file_name
short_name name h = (grind (arith, nat_tests), grind (arith, nat_tests))

-- a test that fails at each place finds none
no_place : (p : ℕ → Bool) (xs : List ℕ) → ((k : ℕ) → k < length xs → p (get_or xs k 0) ≡ false) → position p xs ≡ None
no_place p xs h =
    let at_end = position_or_len_is p xs (length xs) 0 (omega arith) h (λ l. absurd (omega arith)) in
    rw at_end (grind (arith, nat_tests))

no_slash_first : (name : List ℕ) → ((k : ℕ) → k < length name → get_or name k 0 ≢ 47) → below_root name ≡ name
no_slash_first [] h = refl
no_slash_first (b ∷ bs) h =
    let other : b ≢ 47 = h 0 (omega arith) in
    let test : (b == slash) ≡ false = grind (arith, nat_tests) in
    rw test refl

-- a name has one part
one_part : (name : List ℕ) → ((k : ℕ) → k < length name → get_or name k 0 ≢ 47) → path_parts name ≡ name ∷ []
one_part name h =
    rw (no_slash_first name h)
    (slice_split_none (λ b. b == slash) name (λ k d l.
    let other : get_or name k d ≢ 47 = rw (get_or_default name k d 0 l) (h k l) in
    grind (arith, nat_tests)))

normal_name : (name : List ℕ) → is_name name ≡ true → path_parts name ≡ name ∷ [] → is_normal name ≡ true
normal_name name named parts = rw (parts, named) (or-true (is_top name || is_root name))

-- a name of a file is a path
pub name_is_path : (name : List ℕ) → is_file_name name ≡ true → fault_in name ≡ None
name_is_path [] h = let e : false ≡ true = (short_name [] h).1 in cc
name_is_path (b ∷ bs) h =
    let short = short_name (b ∷ bs) h in
    let each = each_name_byte (b ∷ bs) h in
    let no_zero = no_place (λ c. c == 0) (b ∷ bs) (λ k l. let other = (each k l).1 in grind (arith, nat_tests)) in
    let within = short.0 in
    let small : nat_lt PATH_LIMIT (length (b ∷ bs)) ≡ false = grind (arith, nat_tests) in
    let normal = normal_name (b ∷ bs) short.1 (one_part (b ∷ bs) (λ k l. (each k l).2)) in
    let some : (length (b ∷ bs) == 0) ≡ false = grind (arith, nat_tests) in
    rw (no_zero, small, normal, some) refl

-- the parts of a frame
framed : (a b c d : List ℕ) → is_frame a b c d ≡ true → (a ≡ codes "Command(") × (b ≡ codes ", ") × (c ≡ codes ", ") × (d ≡ codes ")")
unfolding is_frame
framed a b c d h =
    let opening : pointwise nat_eq a (codes "Command(") ≡ true = grind (arith, nat_tests) in
    let comma : pointwise nat_eq b (codes ", ") ≡ true = grind (arith, nat_tests) in
    let second_comma : pointwise nat_eq c (codes ", ") ≡ true = grind (arith, nat_tests) in
    let closing : pointwise nat_eq d (codes ")") ≡ true = grind (arith, nat_tests) in
    ((bytes_decides _ _).0 opening, (bytes_decides _ _).0 comma, (bytes_decides _ _).0 second_comma, (bytes_decides _ _).0 closing)

between_frame : (a b c d t s l : List ℕ) (rule : Rule) (test : Bool) → (test ≡ true → (a ≡ codes "Command(") × (b ≡ codes ", ") × (c ≡ codes ", ") × (d ≡ codes ")"))
    → cond test (Some (record { target = t; source = s; line = l })) None ≡ Some rule → (a ∷ t ∷ b ∷ s ∷ c ∷ l ∷ d ∷ []) ≡ parts_of rule
between_frame a b c d t s l rule true frame h = let f = frame refl in cc
between_frame a b c d t s l rule false frame h = cc

-- the fields stand between the parts of the line
pub parts_from_fields : (parts : List (List ℕ)) (rule : Rule) → fields_of parts ≡ Some rule → parts ≡ parts_of rule
parts_from_fields [] rule h = cc
parts_from_fields (a ∷ []) rule h = cc
parts_from_fields (a ∷ b ∷ []) rule h = cc
parts_from_fields (a ∷ b ∷ c ∷ []) rule h = cc
parts_from_fields (a ∷ b ∷ c ∷ d ∷ []) rule h = cc
parts_from_fields (a ∷ b ∷ c ∷ d ∷ e ∷ []) rule h = cc
parts_from_fields (a ∷ b ∷ c ∷ d ∷ e ∷ f ∷ []) rule h = cc
parts_from_fields (a ∷ t ∷ b ∷ s ∷ c ∷ l ∷ d ∷ []) rule h = between_frame a b c d t s l rule (is_frame a b c d) (framed a b c d) h
parts_from_fields (a ∷ b ∷ c ∷ d ∷ e ∷ f ∷ g ∷ x ∷ xs) rule h = cc

pub fields_from_parts : (rule : Rule) → fields_of (parts_of rule) ≡ Some rule
unfolding is_frame
fields_from_parts rule = refl

-- the line declares a rule of these fields
pub declares : (line : List ℕ) (rule : Rule) → Some rule ≡ fields_of (slice_split (λ b. b == quote) line) → (is_file_name rule.target && is_file_name rule.source && not (pointwise nat_eq rule.source rule.target) && is_command rule.line) ≡ true → DeclaresRule line rule
declares line rule fields fitting = record {
  parts = parts_from_fields (slice_split (λ b. b == quote) line) rule (sym fields);
  target = grind (arith, nat_tests);
  source = grind (arith, nat_tests);
  others = λ same. let test = (bytes_decides rule.source rule.target).1 same in absurd (grind (arith, nat_tests));
  command = grind (arith, nat_tests);
}

-- a line with other fields, or with fields out of form, declares none
pub none_declared : (line : List ℕ) → None ≡ fields_of (slice_split (λ b. b == quote) line) → (rule : Rule) → DeclaresRule line rule → ⊥
none_declared line none rule h = let e = ap fields_of h.parts ∙ fields_from_parts rule in cc

well_formed : Rule → Bool
well_formed fields = is_file_name fields.target && is_file_name fields.source && not (pointwise nat_eq fields.source fields.target) && is_command fields.line

not_true : (test : Bool) → (test ≡ true → ⊥) → test ≡ false
not_true true never = absurd (never refl)
not_true false never = refl

is_well_formed : (line : List ℕ) (rule : Rule) → DeclaresRule line rule → well_formed rule ≡ true
unfolding well_formed
is_well_formed line rule h =
    let differ = not_true (pointwise nat_eq rule.source rule.target) (λ same. h.others ((bytes_decides rule.source rule.target).0 same)) in
    let target : is_file_name rule.target ≡ true = h.target in
    let source : is_file_name rule.source ≡ true = h.source in
    let command : is_command rule.line ≡ true = h.command in
    rw (target, source, differ, command) refl

pub ill_formed : (line : List ℕ) (fields : Rule) → Some fields ≡ fields_of (slice_split (λ b. b == quote) line) → (is_file_name fields.target && is_file_name fields.source && not (pointwise nat_eq fields.source fields.target) && is_command fields.line) ≡ false → (rule : Rule) → DeclaresRule line rule → ⊥
unfolding well_formed
ill_formed line fields is unfit rule h =
    let e : fields ≡ rule = cc (is, ap fields_of h.parts ∙ fields_from_parts rule) in
    let fit = is_well_formed line rule h in
    let unfit_rule : well_formed rule ≡ false = subst (λ f. well_formed f ≡ false) e unfit in
    absurd (cc (fit, unfit_rule))
