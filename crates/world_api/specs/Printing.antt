-- What printing leaves on a sink.
use Rattle.std.specs.Prelude.{◌≡◌, ℕ, List, ◌++◌}
use Rattle.world_api.specs.Printed.{SinkMeaning}
use Rattle.scons_base.specs.Rising.{Rose}

-- `now` is `before` and some front of the text, maybe all of it
pub record IsPrefixed (before now text : List ℕ) : Type 0 where
  pub front : List ℕ
  pub rest : List ℕ
  pub parts : text ≡ front ++ rest
  pub printed : now ≡ before ++ front

-- the text stands printed, all of it
pub record Prints {S : Type 0} (meaning : SinkMeaning S) (old new : S) (text : List ℕ) : Type 0 where
  pub told : meaning.tells new → meaning.tells old
  pub printed : meaning.tells new → meaning.text new ≡ meaning.text old ++ text
  pub faults : meaning.faults new ≡ meaning.faults old

-- the sink refused: a front of the text stands printed
pub record Cuts {S : Type 0} (meaning : SinkMeaning S) (old new : S) (text : List ℕ) : Type 0 where
  pub told : meaning.tells new → meaning.tells old
  pub printed : meaning.tells new → IsPrefixed (meaning.text old) (meaning.text new) text
  pub faults : Rose (meaning.faults old) (meaning.faults new)

-- a front of the text stands printed, and the sink didn't refuse
pub record PrintsPart {S : Type 0} (meaning : SinkMeaning S) (old new : S) (text : List ℕ) : Type 0 where
  pub told : meaning.tells new → meaning.tells old
  pub printed : meaning.tells new → IsPrefixed (meaning.text old) (meaning.text new) text
  pub faults : meaning.faults new ≡ meaning.faults old

-- the first text stands printed, all of it, and a front of the second, maybe all; the sink may have refused
pub record PrintsThen {S : Type 0} (meaning : SinkMeaning S) (old new : S) (first second : List ℕ) : Type 0 where
  pub told : meaning.tells new → meaning.tells old
  pub printed : meaning.tells new → IsPrefixed (meaning.text old ++ first) (meaning.text new) second

-- a front of the text stands printed, maybe all; the sink may have refused
pub record PrintsSome {S : Type 0} (meaning : SinkMeaning S) (old new : S) (text : List ℕ) : Type 0 where
  pub told : meaning.tells new → meaning.tells old
  pub printed : meaning.tells new → IsPrefixed (meaning.text old) (meaning.text new) text
