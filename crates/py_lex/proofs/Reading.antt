-- What is left of a script leads to the whole of it.
use Rattle.std.proofs.Common.{◌≡◌, List, ℕ, sym, subst}
use Rattle.py_lex.specs.declared.reader.Mode.TheVariants.{Line}
use Rattle.py_lex.specs.Steps.{State, Move, Steps, ModeMove, RestMove, goes, start}
use Rattle.py_lex.specs.Sizes.{Fits}
use Rattle.py_lex.specs.Utf8.{IsClean}
use Rattle.py_lex.specs.Lexes.{Outcome, Reads, goes_on}
use Rattle.py_lex.proofs.StepUtf8.{step_is_clean, blanks_are_clean}

-- whatever comes of the one state comes of the other
pub record LeadsTo (s t : State) : Type 0 where
  pub whole : (o : Outcome) → Reads t o → Reads s o
  pub fits : Fits t
  pub clean : IsClean t.rest

pub leads_on : {s t : State} (u : State) → LeadsTo s t → Steps t (goes u) → Fits u → LeadsTo s u
leads_on {t = t} u so step fits = record {
  whole = λ o r. so.whole o (goes_on u step r);
  fits = fits;
  clean = step_is_clean t u step so.fits.quote so.clean;
}

pub start_is_clean : (script : List ℕ) → IsClean script → IsClean (start script).rest
start_is_clean script clean = blanks_are_clean script clean

-- a gap or a token of a line is the step at a state that reads a line
pub step_in_line : (s : State) (m : Move) → s.mode ≡ Line → RestMove s.rest s m → Steps s m
step_in_line s m line moves = subst (λ mode. ModeMove mode s m) (sym line) moves
