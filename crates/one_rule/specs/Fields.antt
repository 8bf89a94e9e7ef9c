-- What stands between the quotes of a line that is cut at them.
use Rattle.std.specs.Prelude.{ℕ, Bool, List, [], ◌∷◌, ◌&&◌, not, nat_eq, codes, Option, Some, None, if◌then◌else◌}
use Rattle.std.specs.Cmp.Lexicographic.{pointwise}
use Rattle.one_rule.specs.declared.rule.Rule.{Rule}
use Rattle.one_rule.specs.declared.line_form.Fields.{Fields}
use Rattle.one_rule.specs.LineForm.{is_file_name, is_command}

-- the fields as a rule
abbrev pub rule_fields : Fields → Rule
rule_fields fields = record { target = fields.target.now; source = fields.source.now; line = fields.line.now }

-- what stands round the fields
unfoldable pub is_frame : List ℕ → List ℕ → List ℕ → List ℕ → Bool
is_frame opening comma second_comma closing =
    pointwise nat_eq opening (codes "Command(") && pointwise nat_eq comma (codes ", ") && pointwise nat_eq second_comma (codes ", ") && pointwise nat_eq closing (codes ")")

abbrev pub fields_of : List (List ℕ) → Option Rule
fields_of (opening ∷ target ∷ comma ∷ source ∷ second_comma ∷ line ∷ closing ∷ []) =
    if is_frame opening comma second_comma closing then Some (record { target = target; source = source; line = line }) else None
fields_of _ = None

-- two names of files that are another, and a command
abbrev pub are_well_formed : List ℕ → List ℕ → List ℕ → Bool
are_well_formed target source line =
    is_file_name target && is_file_name source && not (pointwise nat_eq source target) && is_command line
