use Rattle.std.proofs.Common.{◌≡◌, ◌++◌, ◌==◌, take, string_bytes}
use Rattle.std.specs.Prelude.{filter}
use Rattle.env_pieces.proofs.form.push_feeds.Given as goal

-- the line feeds up to here
abbrev pub invariant-loop-byte : goal.invariant-loop-byte
invariant-loop-byte l = string_bytes l.out ≡ string_bytes l.initial.out ++ filter (λ b. b == 10) (take l.byte-index l.text)
