-- What a slip comes to, where it goes with a table and with what its job is given, and where not.
use Rattle.std.proofs.Common.{◌≡◌, ◌∙◌, sym, ap, ℕ, List, Option, Some, None}
use Rattle.job_runner.specs.Answers.{Answer}
use Rattle.job_runner.specs.declared.slip.Slip.{Slip}
use Rattle.world_api.specs.Act.{Content}
use Rattle.act_table.specs.Filled.{paired}
use Rattle.act_table.specs.declared.table.ActRow.{ActRow}
use Rattle.thread_world.specs.Comes.{answer_by, comes_by, comes_to}

abbrev unwrapped : (x : Answer) (o : Option Answer) → Answer
unwrapped x None = x
unwrapped x (Some y) = y

pub told_all : (slip : Slip) (rows : List ActRow) (given : List Content) (is answer : Answer) → slip.table ≡ Some rows → slip.given ≡ Some given → is ≡ answer_by rows slip.job (paired slip.job.deps given)
    → comes_to slip ≡ Some answer → is ≡ answer
told_all slip rows given is answer table contents by came =
    by ∙ ap (unwrapped is) (sym (ap (λ (t : Option (List ActRow)). comes_by t slip.given slip.job) table ∙ ap (λ (g : Option (List Content)). comes_by (Some rows) g slip.job) contents) ∙ came)

pub told_no_table : {A : Type 0} (slip : Slip) (answer : Answer) → slip.table ≡ None → comes_to slip ≡ Some answer → A
told_no_table slip answer table came = absurd (let x : None ≡ Some answer = sym (ap (λ (t : Option (List ActRow)). comes_by t slip.given slip.job) table) ∙ came in cc x)

pub told_no_given : {A : Type 0} (slip : Slip) (rows : List ActRow) (answer : Answer) → slip.table ≡ Some rows → slip.given ≡ None → comes_to slip ≡ Some answer → A
told_no_given slip rows answer table given came =
    absurd (let x : None ≡ Some answer = sym (ap (λ (t : Option (List ActRow)). comes_by t slip.given slip.job) table ∙ ap (λ (g : Option (List Content)). comes_by (Some rows) g slip.job) given) ∙ came in cc x)
