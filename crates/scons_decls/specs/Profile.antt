-- Which variables a script may set, read and refer to. The tables stand in the code, in the order of the pages.
use Rattle.std.specs.Prelude.{ℕ, List, Bool, not, ◌||◌, ◌&&◌, codes, Ok, Err, if◌then◌else◌}
use Rattle.std.specs.List.{list_any}
use Rattle.std.specs.Str.{bytes_eq}
use Rattle.scons_decls.specs.declared.fault.NameFault.TheVariants.{OutOfProfile}
use Rattle.scons_decls.specs.declared.profile.TheConstants.{NOT_SET, LEFT_OUT, NOT_READ, CHANGED}
use Rattle.scons_decls.specs.Steps.{Checked}

abbrev pub any_of : {X : Type 0} → List X → (X → Bool) → Bool
any_of xs test = list_any test xs

-- whether a text that refers to the variable is refused: what links and what looks directories up have a meaning in texts
unfoldable pub is_left_out : List ℕ → Bool
is_left_out name =
    any_of CHANGED (λ n. bytes_eq n.now name) || (any_of LEFT_OUT (λ n. bytes_eq n.now name) && (not (bytes_eq name (codes "SMARTLINK")) && not (bytes_eq name (codes "RDirs"))))

unfoldable pub is_not_set : List ℕ → Bool
is_not_set name = any_of NOT_SET (λ n. bytes_eq n.now name) || any_of LEFT_OUT (λ n. bytes_eq n.now name)

unfoldable pub is_not_read : List ℕ → Bool
is_not_read name = is_left_out name || any_of NOT_READ (λ n. bytes_eq n.now name)

abbrev pub unless_out : Bool → List ℕ → Checked
unless_out is_out name = if is_out then Err (OutOfProfile name) else Ok tt

-- a variable that a script may set
abbrev pub may_set : List ℕ → Checked
may_set name = unless_out (is_not_set name) name

-- a variable that isn't there and that a script may read
abbrev pub may_read : List ℕ → Checked
may_read name = unless_out (is_not_read name) name

-- a variable to which a text may refer
abbrev pub may_refer : List ℕ → Checked
may_refer name = unless_out (is_left_out name) name
