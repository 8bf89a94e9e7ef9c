use Rattle.c_scanner.proofs.PatternLemmas.{found_matches, match_found}
use Rattle.c_scanner.proofs.scan.includes.Goals as goal

pub returns-clause-pattern : goal.returns-clause-pattern
returns-clause-pattern c = λ line include. (found_matches line include, match_found line include)
