use Rattle.std.proofs.Common.{◌≡◌, ℕ, Bool, true, false, List, [], ◌++◌, sym, ◌∙◌, append-nil}
use Rattle.std.specs.Prelude.{if◌then◌else◌, is_ok, string_bytes}
use Rattle.eval_hosts.specs.Texts.{Grown}
use Rattle.eval_hosts.proofs.text.append.Goals as goal

grown_by : (old more new : List ℕ) (b : Bool) → new ≡ (if b then old ++ more else old) → Grown old new
grown_by old more new true e = (more, e)
grown_by old more new false e = ([], e ∙ sym (append-nil old))

pub returns-clause-grown : goal.returns-clause-grown
returns-clause-grown c = grown_by (string_bytes c.args.text.now) c.args.more.now (string_bytes c.push_str.new.self) (is_ok c.push_str.result) c.push_str.ensures.bytes
