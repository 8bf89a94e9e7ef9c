-- What the code holds, as the definitions say it.
use Rattle.py_lex.specs.declared.reader.Reader.{Reader}
use Rattle.py_lex.specs.declared.reader.Step.{Step}
use Rattle.py_lex.specs.declared.reader.Step.TheVariants.{Goes, Ends, Stops}
use Rattle.py_lex.specs.declared.text.Spelt.{Spelt}
use Rattle.py_lex.specs.declared.text.Spelt.TheVariants.{Closed, Unclosed, Refused}
use Rattle.py_lex.specs.declared.part.Part.{Part}
use Rattle.py_lex.specs.declared.part.Part.TheVariants as part
use Rattle.py_lex.specs.declared.token.Turn.{Turn}
use Rattle.py_lex.specs.declared.token.Turn.TheVariants.{Takes, Begins, Refuses}
use Rattle.py_lex.specs.Texts.{Spelling, closed, unclosed, refused}
use Rattle.py_lex.specs.Parts.{PartSpelling}
use Rattle.py_lex.specs.Parts as parts
use Rattle.py_lex.specs.Tokens.{Read, takes, begins, refuses}
use Rattle.py_lex.specs.Steps.{State, Move, goes, ends, stops}

abbrev pub spelling_of : Spelt → Spelling
spelling_of (Closed value lines rest) = closed value.items lines rest.now
spelling_of Unclosed = unclosed
spelling_of (Refused kind lines) = refused kind lines

abbrev pub part_of : Part → PartSpelling
part_of (part.Ends field value lines rest) = parts.ends field value.items lines rest.now
part_of part.Unclosed = parts.unclosed
part_of (part.Refused kind lines) = parts.refused kind lines

abbrev pub turn_of : Turn → Read
turn_of (Takes kind lines depth rest) = takes kind lines depth rest.now
turn_of (Begins style rest) = begins style rest.now
turn_of (Refuses kind lines) = refuses kind lines

abbrev pub state_of : Reader → State
state_of r = record {
  mode = r.mode;
  place = r.place;
  indentation = r.indentation.now;
  levels = r.levels;
  line = r.line;
  rest = r.rest.now;
  tokens = r.tokens.items;
}

abbrev pub step_of : Step → Move
step_of (Goes reader) = goes (state_of reader)
step_of (Ends tokens) = ends tokens.items
step_of (Stops line kind) = stops line kind
