-- What a sink has printed.
use Rattle.std.specs.Prelude.{ℕ, List, [], take, Result, Ok, Err}

-- tells: its text is what stands printed. text: all that was printed since it was made. faults: how often it refused.
pub record SinkMeaning (S : Type 0) : Type 1 where
  pub tells : S → Type 0
  pub text : S → List ℕ
  pub faults : S → ℕ

-- what a write takes of the bytes
abbrev pub taken : {E : Type 0} → Result ℕ E → List ℕ → List ℕ
taken (Ok count) bytes = take count bytes
taken (Err e) bytes = []
