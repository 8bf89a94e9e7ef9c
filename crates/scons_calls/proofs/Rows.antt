-- The tables of the code: what is said of their rows is said of the lists that definitions go over.
use Rattle.std.proofs.Common.{cond, not, true, false, ◌+◌, ◌≡◌, ◌∙◌, ℕ, Bool, List, [], ◌∷◌, refl, ap, map, Bor}
use Rattle.std.specs.Prelude.{position}
use Rattle.std.specs.List.{position_or_len, list_any}
use Rattle.std.specs.Str.{bytes_eq}
use Rattle.std.proofs.lemmas.List.{length-map}
use Rattle.std.proofs.lemmas.List.Recursion.{is_position_or_len}
use Rattle.scons_calls.specs.declared.left_out.TheConstants.{OF_SCRIPTS, OF_ENVIRONMENTS}
use Rattle.scons_calls.specs.declared.name.TheConstants.{NAMES}
use Rattle.scons_calls.specs.LeftOut.{names_left_out, attributes_left_out}
use Rattle.scons_calls.specs.declared.signature.Kind.{Kind}
use Rattle.scons_calls.specs.declared.signature.Takes.{Takes}
use Rattle.scons_calls.specs.Names.{Row, names_table, number_of}
use Rattle.scons_calls.specs.Signatures.{parameter_of}

-- the table of names
pub written : map (λ r. let row : Row = (r.0.now, r.1, r.2) in row) NAMES ≡ names_table
unfolding names_table
written = refl

turned : (b : Bool) (n : ℕ) → cond (not b) (1 + n) 0 ≡ cond b 0 (1 + n)
turned true n = refl
turned false n = refl

place_map : {A B : Type 0} (f : A → B) (p : B → Bool) (xs : List A) → position_or_len p (map f xs) ≡ position_or_len (λ x. p (f x)) xs
place_map f p xs = is_position_or_len (λ ys. position_or_len p (map f ys)) (λ x. p (f x)) refl (λ x ys. turned (p (f x)) (position_or_len p (map f ys))) xs

position_map : {A B : Type 0} (f : A → B) (p : B → Bool) (xs : List A) → position (λ x. p (f x)) xs ≡ position p (map f xs)
position_map f p xs = rw (place_map f p xs, length-map xs f) refl

any_map : {A B : Type 0} (f : A → B) (p : B → Bool) (xs : List A) → list_any (λ x. p (f x)) xs ≡ list_any p (map f xs)
any_map f p [] = refl
any_map f p (x ∷ xs) = rw (any_map f p xs) refl

-- the number of a name is its place in the code's table
pub name_written : (text : List ℕ) → position (λ r. bytes_eq r.0.now text) NAMES ≡ number_of text
name_written text =
    position_map (λ r. let row : Row = (r.0.now, r.1, r.2) in row) (λ row. bytes_eq row.0 text) NAMES ∙ ap (position (λ (row : Row). bytes_eq row.0 text)) written

-- the place of a parameter
pub parameter_written : (name : List ℕ) (rows : List (Bor (List ℕ) × Kind × Takes)) → position (λ row. bytes_eq row.0.now name) rows ≡ position (λ p. bytes_eq p.name name) (map parameter_of rows)
parameter_written name rows = position_map parameter_of (λ p. bytes_eq p.name name) rows

-- whether a name is among those that are left out
pub left_out_written : (name : List ℕ) (names : List (Bor (List ℕ))) → list_any (λ n. bytes_eq n.now name) names ≡ list_any (λ n. bytes_eq n name) (map (λ n. n.now) names)
left_out_written name names = any_map (λ (n : Bor (List ℕ)). n.now) (λ n. bytes_eq n name) names

-- the names that are left out
scripts_written : map (λ n. let text : List ℕ = n.now in text) OF_SCRIPTS ≡ names_left_out
unfolding names_left_out
scripts_written = refl

environments_written : map (λ n. let text : List ℕ = n.now in text) OF_ENVIRONMENTS ≡ attributes_left_out
unfolding attributes_left_out
environments_written = refl

pub names_left_out_written : (text : List ℕ) → list_any (λ n. bytes_eq n.now text) OF_SCRIPTS ≡ list_any (λ n. bytes_eq n text) names_left_out
names_left_out_written text =
    any_map (λ n. let name : List ℕ = n.now in name) (λ n. bytes_eq n text) OF_SCRIPTS ∙ ap (list_any (λ (n : List ℕ). bytes_eq n text)) scripts_written

pub attributes_left_out_written : (text : List ℕ) → list_any (λ n. bytes_eq n.now text) OF_ENVIRONMENTS ≡ list_any (λ n. bytes_eq n text) attributes_left_out
attributes_left_out_written text =
    any_map (λ n. let name : List ℕ = n.now in name) (λ n. bytes_eq n text) OF_ENVIRONMENTS ∙ ap (list_any (λ (n : List ℕ). bytes_eq n text)) environments_written

pub ruleset rows = (written, name_written, parameter_written, left_out_written)
