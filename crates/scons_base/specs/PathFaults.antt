-- Why a text is no path: the first reason in the order of the cases.
use Rattle.std.specs.Prelude.{ℕ, Bool, is_none, List, ◌==◌, nat_lt, length, position, Option, Some, None, if◌then◌else◌}
use Rattle.scons_base.specs.declared.fault.PathFault.{PathFault}
use Rattle.scons_base.specs.declared.fault.PathFault.TheVariants.{Empty, BadByte, TooLong, NotNormal}
use Rattle.scons_base.specs.declared.limits.TheConstants.{PATH_LIMIT}
use Rattle.scons_base.specs.Normal.{is_normal}

abbrev pub fault_past_zero : List ℕ → Option ℕ → Option PathFault
fault_past_zero text (Some place) = Some (BadByte place)
fault_past_zero text None =
    if nat_lt PATH_LIMIT (length text) then Some (TooLong (length text)) else (if is_normal text then None else Some NotNormal)

-- an empty text; the place of the first zero byte; the length of a text that is too long; another form than the normal one
abbrev pub fault_in : List ℕ → Option PathFault
fault_in text = if length text == 0 then Some Empty else fault_past_zero text (position (λ b. b == 0) text)

-- a path is a text with no such fault
abbrev pub is_path : List ℕ → Bool
is_path text = is_none (fault_in text)
