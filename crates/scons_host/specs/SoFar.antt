-- What a reading has so far, as plain lists and tables.
use Rattle.std.specs.Prelude.{ℕ, Bool, List, Option, map}
use Rattle.py_heap.specs.declared.value.Value.{Value}
use Rattle.py_host.specs.declared.place.Place.{Place}
use Rattle.py_host.specs.Names.{Names}
use Rattle.scons_decls.specs.declared.given.Given.{Given}
use Rattle.scons_decls.specs.State.{Declared, declared_of}
use Rattle.scons_calls.specs.Things.{Things}
use Rattle.scons_host.specs.declared.open.OpenCall.{OpenCall}
use Rattle.scons_host.specs.declared.state.State.{State}

-- a call of SConscript whose scripts are being read
pub record Waiting : Type 0 where
  -- where it stands, and the number of its environment
  pub place : Place
  pub env : ℕ
  -- the scripts that are still to be read, and whether it asked for more than one
  pub files : List Given
  pub several : Bool
  pub exports : Names
  pub variant : Option Given
  pub duplicate : Bool
  -- what the scripts that have ended returned, and what the one that runs has returned
  pub answers : List Value
  pub returned : Value

pub record SoFar : Type 0 where
  -- what objects stand for, by their numbers
  pub objects : Things
  pub declared : Declared
  pub arguments : Value
  -- what scripts have exported to all others
  pub exports : Names
  -- the calls of SConscript that wait for a script, the innermost last
  pub waiting : List Waiting
  -- the scripts that have begun, by their numbers, and the first scripts that are still to be read
  pub scripts : List (List ℕ)
  pub first : List (List ℕ)
  pub top : List ℕ

abbrev pub waiting_of : OpenCall → Waiting
waiting_of c = record {
  place = c.place;
  env = c.env.0;
  files = c.files.items;
  several = c.several;
  exports = c.exports;
  variant = c.variant;
  duplicate = c.duplicate;
  answers = c.answers.items;
  returned = c.returned;
}

abbrev pub so_far : State → SoFar
so_far s = record {
  objects = s.objects;
  declared = declared_of s.declared;
  arguments = s.arguments;
  exports = s.exports;
  waiting = map waiting_of s.open.items;
  scripts = s.scripts;
  first = s.first.items;
  top = s.top;
}

abbrev pub with_objects : SoFar → Things → SoFar
with_objects s objects = record s { objects = objects }

abbrev pub with_declared : SoFar → Declared → SoFar
with_declared s declared = record s { declared = declared }
