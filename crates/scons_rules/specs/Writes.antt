-- What rules that write sign. A Substfile signs how it is made of its sources; a Textfile the text that is made of its own texts,
-- as a write makes one of files (scons(1), Textfile and Substfile).
use Rattle.std.specs.Prelude.{ℕ, ◌+◌, List, [], ◌∷◌, ◌++◌, Option, Some, None, length, map, fold, codes, Result, Ok, Err}
use Rattle.std.specs.Fmt.{decimal}
use Rattle.scons_base.specs.declared.limits.TheConstants.{FILE_LIMIT}
use Rattle.world_api.specs.Writing as writing
use Rattle.text_files.specs.Refusals.{written_too_long, told}
use Rattle.env_subst.specs.declared.fault.SubstFault.TheVariants.{TooLong}
use Rattle.scons_decls.specs.declared.fault.NameFault.TheVariants.{Subst}
use Rattle.scons_rules.specs.declared.fault.RuleReadFault.{RuleReadFault}
use Rattle.scons_rules.specs.declared.fault.RuleReadFault.TheVariants.{Name}
use Rattle.scons_rules.specs.Expanding.{Expanding, text_of}
use Rattle.scons_rules.specs.Steps.{and_then, each}

abbrev pub Texts : Type 0
Texts = List (List ℕ)

abbrev pub Pair : Type 0
Pair = List ℕ × List ℕ

-- how so many files are joined: their number, and a line feed between each and the next
abbrev pub joining : ℕ → Texts
joining count = decimal count ∷ codes "\n" ∷ []

-- a key with what its value stands for
abbrev pub pair_of : Expanding → Pair → Result Texts RuleReadFault
pair_of x pair = and_then (text_of x pair.1) (λ value. Ok (pair.0 ∷ value ∷ []))

-- so many files, joined, and what is replaced in them
abbrev pub substituting : Expanding → ℕ → List Pair → Result Texts RuleReadFault
substituting x count pairs = and_then (each (pair_of x) pairs) (λ more. Ok (fold (λ t m. t ++ m) (joining count) more))

abbrev pub unless_long : Option ℕ → Option (List ℕ) → Result (Option (List ℕ)) RuleReadFault
unless_long None made = Ok made
unless_long (Some len) made = Err (Name (Subst (TooLong (told len))))

-- what a write makes of texts in the place of files, none of it longer than a file may be
abbrev pub made_of : Texts → Texts → Result (Option (List ℕ)) RuleReadFault
made_of signed texts =
    unless_long (written_too_long FILE_LIMIT signed (map Some texts)) (writing.written signed (map Some texts))

-- the text of a Textfile
abbrev pub written : Expanding → Texts → List Pair → Result Texts RuleReadFault
written x texts pairs =
    and_then (substituting x (length texts) pairs) (λ signed.
    and_then (made_of signed texts) (λ made. Ok (writing.bytes_of made ∷ [])))
