-- Steps of what a clean build makes.
use Rattle.std.proofs.Common.{◌≡◌, ◌<◌, ◌≤◌, ◌-◌, ℕ, zero, suc, Bool, true, false, List, [], ◌∷◌, ◌++◌, length, drop, map, Option, Some, None, Result, Ok, Err, Vec, Global, IfOk, refl, sym, ap, ◌∙◌, arith, drop_of_length-le}
use Rattle.std.specs.Prelude.{◌&&◌, if◌then◌else◌}
use Rattle.std.specs.Str.{bytes_eq}
use Rattle.std.proofs.lemmas.Slice.Eq.{bytes_eq-Decides}
use mathlib.Core.Path.{fun_ext}
use Rattle.build_model.specs.Rules.{Path, Bytes, Content, Rule}
use Rattle.build_model.specs.Reach.{reach}
use Rattle.build_model.specs.Graphs.{declared_rule}
use Rattle.build_model.specs.Contents.{Known, View, includes_of, by_rule, source_content, made, dependencies}
use Rattle.model_trials.specs.declared.reach.PlainRule.{PlainRule}
use Rattle.model_trials.specs.declared.reach.Scan.{Scan}
use Rattle.model_trials.specs.declared.stale.PlainFile.{PlainFile}
use Rattle.model_trials.specs.declared.clean.PlainLine.{PlainLine}
use Rattle.model_trials.specs.declared.clean.PlainGraph.{PlainGraph}
use Rattle.model_trials.specs.Plain.{as_rule, included}
use Rattle.model_trials.specs.Staling.{tree_of}
use Rattle.model_trials.specs.Making.{listed, included_or, IsTakenIn, setting_of, view_of}

-- the contents so far, with those behind them
abbrev pub with_front : List (Path × Content) → Option (List (Path × Content)) → Option (List (Path × Content))
with_front given None = None
with_front given (Some rest) = Some (given ++ rest)

-- a line whose file is this one or isn't, and those behind it
abbrev by_line : Bool → PlainLine → List PlainLine → Path → Bytes → List Path
by_line same line lines p bytes = if same && bytes_eq line.bytes bytes then line.includes.items else listed lines p bytes

other_file : (line : PlainLine) (lines : List PlainLine) (p : Path) (known : Known) →
    includes_of (by_line false line lines p) known ≡ includes_of (listed lines p) known
other_file line lines p None = refl
other_file line lines p (Some None) = refl
other_file line lines p (Some (Some bytes)) = refl

said : (line : PlainLine) (lines : List PlainLine) (p : Path) (known : Known) (bytes : Bytes) → known ≡ Some (Some bytes) →
    bytes_eq line.bytes bytes ≡ true → includes_of (by_line true line lines p) known ≡ line.includes.items
said line lines p known bytes e same =
    ap (includes_of (by_line true line lines p)) e ∙ ap (λ b. if b then line.includes.items else listed lines p bytes) same

taken_by : (view : View) (line : PlainLine) (lines : List PlainLine) (p : Path) (same : Bool) → bytes_eq line.file p ≡ same → (bytes : Bytes) →
    view line.file ≡ Some (Some bytes) → bytes_eq line.bytes bytes ≡ true →
    (if same then line.includes.items else includes_of (listed lines p) (view p)) ≡ includes_of (by_line same line lines p) (view p)
taken_by view line lines p false e bytes at same = sym (other_file line lines p (view p))
taken_by view line lines p true e bytes at same =
    sym (said line lines p (view p) bytes (ap view (sym ((bytes_eq-Decides line.file p).0 e)) ∙ at) same)

pushed : (scans : List Scan) (s : Scan) (p : Path) (rest : List Path) →
    included_or (scans ++ s ∷ []) p rest ≡ included_or scans p (if bytes_eq s.file p then s.includes.items else rest)
pushed [] s p rest = refl
pushed (scan ∷ scans) s p rest = ap (λ l. if bytes_eq scan.file p then scan.includes.items else l) (pushed scans s p rest)

-- a line that says what its file includes is put behind the scans
pub taken : (view : View) (line : PlainLine) (scans more : List Scan) (s : Scan) (bytes : Bytes) → more ≡ scans ++ s ∷ [] → s.file ≡ line.file →
    s.includes.items ≡ line.includes.items → view line.file ≡ Some (Some bytes) → bytes_eq line.bytes bytes ≡ true → IsTakenIn view line scans more
taken view line scans more s bytes put file includes at same = λ p lines.
    let rest = includes_of (listed lines p) (view p) in
    ap (λ (l : List Scan). included_or l p rest) put
    ∙ (pushed scans s p rest
    ∙ (ap (λ (f : Path). included_or scans p (if bytes_eq f p then s.includes.items else rest)) file
    ∙ (ap (λ (l : List Path). included_or scans p (if bytes_eq line.file p then l else rest)) includes
    ∙ ap (included_or scans p) (taken_by view line lines p (bytes_eq line.file p) refl bytes at same))))

no_lines : (p : Path) (known : Known) → includes_of (listed [] p) known ≡ []
no_lines p None = refl
no_lines p (Some None) = refl
no_lines p (Some (Some bytes)) = refl

included_is : (scans : List Scan) (p : Path) → included_or scans p [] ≡ included scans p
included_is [] p = refl
included_is (scan ∷ scans) p = ap (λ l. if bytes_eq scan.file p then scan.includes.items else l) (included_is scans p)

-- behind the last line the scans say what all lines do
says_all : (view : View) (all : List PlainLine) (i : ℕ) (scans : List Scan) → length all ≤ i →
    ((p : Path) → included_or scans p (includes_of (listed (drop i all) p) (view p)) ≡ includes_of (listed all p) (view p)) →
    (p : Path) → included scans p ≡ includes_of (listed all p) (view p)
says_all view all i scans past so_far p =
    sym (included_is scans p)
    ∙ (ap (included_or scans p) (sym (no_lines p (view p)))
    ∙ (ap (λ (l : List PlainLine). included_or scans p (includes_of (listed l p) (view p))) (sym (drop_of_length-le all past)) ∙ so_far p))

module _ (g : PlainGraph) where
  source_there : (height : ℕ) (p : Path) → None ≡ declared_rule (map as_rule g.rules.items) p →
      source_content (tree_of g.files.items p) ≡ view_of g height p
  source_there zero p e = ap (λ (o : Option Rule). by_rule o (source_content (tree_of g.files.items p)) (λ r. None)) e
  source_there (suc height) p e =
      ap (λ (o : Option Rule). by_rule o (source_content (tree_of g.files.items p)) (λ r. made (setting_of g) (view_of g height) r p)) e

  made_there : (height : ℕ) (p : Path) (rule : PlainRule) → 0 < height → Some (as_rule rule) ≡ declared_rule (map as_rule g.rules.items) p →
      made (setting_of g) (view_of g (height - 1)) (as_rule rule) p ≡ view_of g height p
  made_there zero p rule high e = absurd (omega arith)
  made_there (suc height) p rule high e =
      let below : suc height - 1 ≡ height = omega arith in
      ap (λ (k : ℕ). made (setting_of g) (view_of g k) (as_rule rule) p) below
      ∙ ap (λ (o : Option Rule). by_rule o (source_content (tree_of g.files.items p)) (λ r. made (setting_of g) (view_of g height) r p)) e

module _ {E : Type 0} (g : PlainGraph) where
  -- what is reached over these scans are the dependencies
  pub answers_dependencies : (height i : ℕ) (rule : PlainRule) (scans over : List Scan) (r : Result (Vec Path Global) E) → length g.lines.items ≤ i →
      ((p : Path) → included_or scans p (includes_of (listed (drop i g.lines.items) p) (view_of g height p))
      ≡ includes_of (listed g.lines.items p) (view_of g height p)) →
      over ≡ scans → IfOk r (λ all. all.items ≡ reach g.limit (included over) (as_rule rule)) →
      IfOk r (λ paths. paths.items ≡ dependencies (setting_of g) (view_of g height) (as_rule rule))
  answers_dependencies height i rule scans over (Ok all) past so_far same h =
      h ∙ (ap (λ (l : List Scan). reach g.limit (included l) (as_rule rule)) same
      ∙ ap (λ (f : Path → List Path). reach g.limit f (as_rule rule)) (fun_ext (says_all (view_of g height) g.lines.items i scans past so_far)))
  answers_dependencies height i rule scans over (Err e) past so_far same h = tt

  -- what has no rule is a source
  pub answers_source : (height : ℕ) (p : Path) (rules : List PlainRule) (files : List PlainFile) (r : Result Known E) →
      rules ≡ g.rules.items → files ≡ g.files.items → None ≡ declared_rule (map as_rule rules) p →
      IfOk r (λ known. known ≡ source_content (tree_of files p)) → IfOk r (λ known. known ≡ view_of g height p)
  answers_source height p rules files (Ok known) same_rules same_files e h =
      h ∙ (ap (λ (l : List PlainFile). source_content (tree_of l p)) same_files
      ∙ source_there g height p (e ∙ ap (λ (l : List PlainRule). declared_rule (map as_rule l) p) same_rules))
  answers_source height p rules files (Err error) same_rules same_files e h = tt

  -- what has a rule is made by it
  pub answers_made : (height : ℕ) (p : Path) (rules : List PlainRule) (rule : PlainRule) (r : Result Known E) → rules ≡ g.rules.items →
      0 < height → Some (as_rule rule) ≡ declared_rule (map as_rule rules) p →
      IfOk r (λ known. known ≡ made (setting_of g) (view_of g (height - 1)) (as_rule rule) p) → IfOk r (λ known. known ≡ view_of g height p)
  answers_made height p rules rule (Ok known) same_rules high e h =
      h ∙ made_there g height p rule high (e ∙ ap (λ (l : List PlainRule). declared_rule (map as_rule l) p) same_rules)
  answers_made height p rules rule (Err error) same_rules high e h = tt
