-- The order of the reasons.
use Rattle.std.specs.Prelude.{ℕ, Bool, nat_lt, ◌==◌, ◌&&◌, ◌||◌, if◌then◌else◌}
use Rattle.explain_report.specs.declared.reason.Reason.{Reason}
use Rattle.explain_report.specs.declared.reason.Reason.TheVariants.{Always, Absent, NoRecord, Action, Newly, Gone, Moved, Changed}

abbrev pub number : Reason → ℕ
number (Always target) = 1
number (Absent target) = 2
number (NoRecord target) = 3
number (Action target) = 4
number (Newly target dependency) = 5
number (Gone target dependency) = 6
number (Moved target) = 7
number (Changed target dependency) = 8

-- the place of its target among those of the rule
abbrev pub place_of : Reason → ℕ
place_of (Always target) = target
place_of (Absent target) = target
place_of (NoRecord target) = target
place_of (Action target) = target
place_of (Newly target dependency) = target
place_of (Gone target dependency) = target
place_of (Moved target) = target
place_of (Changed target dependency) = target

-- it has a smaller number, or the same and an earlier target
abbrev pub is_before : Reason → Reason → Bool
is_before a b = nat_lt (number a) (number b) || (number a == number b && nat_lt (place_of a) (place_of b))

abbrev pub least : Reason → Reason → Reason
least a b = if is_before b a then b else a
