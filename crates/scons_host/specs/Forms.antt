-- How the bytes of a script are read: its tree, or the line and the kind of its first fault. What is told besides of the place of a
-- fault isn't said here, and stands as an empty text.
use Rattle.std.specs.Prelude.{◌≡◌, ℕ, List, [], Result, Ok, Err}
use Rattle.py_token.specs.declared.token.Token.{Token}
use Rattle.py_tree.specs.Tree.{Tree}
use Rattle.py_lex.specs.declared.fault.LexKind.{LexKind}
use Rattle.py_lex.specs.Lexes as lexing
use Rattle.py_parse.specs.declared.fault.ParseKind.{ParseKind}
use Rattle.py_parse.specs.Parses.{Parses}
use Rattle.py_parse.specs.Faults as parsing
use Rattle.scons_host.specs.declared.end.ReadKind.{ReadKind}
use Rattle.scons_host.specs.declared.end.ReadKind.TheVariants as read

abbrev pub Form : Type 0
Form = Result Tree (ℕ × ReadKind)

-- the tree that the tokens of the bytes spell; the first fault of bytes that have no tokens; that of tokens that spell no tree
pub data IsForm (bytes : List ℕ) : Form → Type 0 where
  is_script : {tree : Tree} (tokens : List Token) → lexing.Lexes bytes tokens → Parses tokens tree → IsForm bytes (Ok tree)
  has_no_tokens : {line : ℕ} {kind : LexKind} → lexing.FaultAt bytes line kind → IsForm bytes (Err (line, read.Lex kind []))
  has_no_tree : {line : ℕ} {kind : ParseKind} (tokens : List Token) (token : ℕ) → lexing.Lexes bytes tokens
      → parsing.FaultAt tokens line token kind → IsForm bytes (Err (line, read.Parse kind []))

-- A function that tells the form of all bytes. Bytes have one form (`one_form` of proofs/Forms.antt); of bytes that had none it might say
-- anything.
abbrev pub TellsForms : (List ℕ → Form) → Type 0
TellsForms form = (bytes : List ℕ) (is : Form) → IsForm bytes is → form bytes ≡ is
