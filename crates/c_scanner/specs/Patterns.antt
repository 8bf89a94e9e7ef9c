-- The regular expression of an include line, part by part:
--
--     ^[ \t]*   #   [ \t]*   (?:include|import)   [ \t]*   (<|")   ([^>"]+)   (>|")
use Rattle.std.specs.Prelude.{◌≡◌, ◌⊎◌, ℕ, ◌<◌, ◌==◌, true, false, List, ◌∷◌, ◌++◌, length, codes}
use Rattle.std.specs.List.{AllByRecursion}
use Rattle.c_scanner.specs.declared.line.Include.{Include}
use Rattle.c_scanner.specs.Lines.{is_blank, quote, angle, ends_name}

abbrev pub AreBlanks : List ℕ → Type 0
AreBlanks bytes = AllByRecursion (λ byte. is_blank byte ≡ true) bytes

-- what stands behind the mark in front of a name
abbrev pub behind_mark : List ℕ → ℕ → List ℕ → List ℕ
behind_mark name close rest = name ++ close ∷ rest

-- the line matches, with this name between its marks
pub record Matches (line : List ℕ) (include : Include) : Type 0 where
  pub indent : List ℕ
  pub gap : List ℕ
  pub word : List ℕ
  pub space : List ℕ
  pub mark : ℕ
  pub close : ℕ
  pub rest : List ℕ
  pub is : line ≡ indent ++ (35 ∷ (gap ++ (word ++ (space ++ (mark ∷ behind_mark include.name close rest)))))
  pub indented : AreBlanks indent
  pub apart : AreBlanks gap
  pub is_word : (word ≡ codes "include") ⊎ (word ≡ codes "import")
  pub spaced : AreBlanks space
  pub is_mark : (mark ≡ quote) ⊎ (mark ≡ angle)
  pub quoted : include.quoted ≡ (mark == quote)
  pub named : 0 < length include.name
  pub inside : AllByRecursion (λ byte. ends_name byte ≡ false) include.name
  pub closes : ends_name close ≡ true
