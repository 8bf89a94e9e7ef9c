use Rattle.std.proofs.Common.{rules, ◌≡◌, ◌≢◌, List, Bor, Err, ℕ, get_or, map}
use Rattle.scons_calls.specs.declared.fault.CallFault.TheVariants as fault
use Rattle.scons_calls.specs.Kinds.{word_by}
use Rattle.scons_calls.specs.Results.{and_one, each}
use Rattle.scons_calls.proofs.Loops.{no_text, own_read, one_more, one_stop, text_more, text_stop}
use Rattle.scons_calls.proofs.texts.checked.Goals as goal

pub returns-in_err-name_of-clause-fault : goal.returns-in_err-name_of-clause-fault
returns-in_err-name_of-clause-fault c =
    let word : Bor (List ℕ) = get_or c.args.words.now c.loop-word.word-index no_text in
    let stop : c.in_err-name_of.field-0.0 ≢ fault.Memory → each word_by (map (λ (w : Bor (List ℕ)). w.now) c.args.words.now) ≡ Err c.in_err-name_of.field-0.0 =
    λ ne. text_stop (λ xs a. and_one xs (word_by a)) c.args.words.now c.loop-word.word-index c.loop-word.names word c.in_err-name_of.field-0.0 _ c.loop-word-test.true (own_read c.args.words.now c.loop-word.word-index no_text c.loop-word-test.true)
    (one_stop c.loop-word.names (word_by word.now) c.in_err-name_of.field-0.0 (c.in_err-name_of.ensures.fault ne)) c.loop-word.invariant in
    search rules

pub loop-word-preserved : goal.loop-word-preserved
loop-word-preserved c =
    let word : Bor (List ℕ) = get_or c.args.words.now c.loop-word.word-index no_text in
    text_more (λ xs a. and_one xs (word_by a)) c.args.words.now c.loop-word.word-index c.loop-word.names c.push.new.self word _ c.loop-word-test.true (own_read c.args.words.now c.loop-word.word-index no_text c.loop-word-test.true)
    (one_more c.loop-word.names c.push.new.self (word_by word.now) c.in_ok-name_of.field-0 c.in_ok-name_of.ensures.ok c.in_ok-push.ensures.ok) c.loop-word.invariant
