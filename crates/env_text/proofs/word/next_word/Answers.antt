use Rattle.env_text.specs.Views.{plain_word}
use Rattle.env_text.proofs.WordLists.{word_found}
use Rattle.env_text.proofs.word.next_word.Goals as goal

pub returns-clause-words : goal.returns-clause-words
returns-clause-words c =
    word_found c.args.bytes.now c.after_white-bytes.result.now c.in-Some.rest.now c.word_at.result.1.now c.in-Some.first.now (plain_word c.word_at.result.0)
    c.after_white-bytes.ensures.words c.after_white-bytes.ensures.word c.in-Some.ensures.cases.0 c.word_at.ensures.word c.word_at.ensures.rest
