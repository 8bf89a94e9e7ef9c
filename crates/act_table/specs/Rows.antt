-- Which row of a table of actions counts for a job.
use Rattle.std.specs.Prelude.{ℕ, Bool, true, List, [], ◌∷◌, ◌&&◌, Option, Some, None, if◌then◌else◌}
use Rattle.std.specs.Str.{bytes_eq}
use Rattle.std.specs.Cmp.Lexicographic.{pointwise}
use Rattle.world_api.specs.Act.{Given}
use Rattle.act_table.specs.Listed.{same_given}
use Rattle.act_table.specs.declared.table.ActRow.{ActRow}

abbrev fits_given : Option Given → Given → Bool
fits_given None given = true
fits_given (Some wanted) given = same_given wanted given

-- the signed lines are equal, and what is given is any or equal
abbrev pub fits : ActRow → List (List ℕ) → Given → Bool
fits row signed given = pointwise bytes_eq row.signed signed && fits_given row.given given

-- the first row that fits
abbrev pub row_for : List ActRow → List (List ℕ) → Given → Option ActRow
row_for [] signed given = None
row_for (row ∷ rows) signed given = if fits row signed given then Some row else row_for rows signed given
