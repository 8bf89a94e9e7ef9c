-- How a job ends.
use Rattle.std.proofs.Common.{◌≡◌, ◌≢◌, ◌⊎◌, inl, inr, refl, ap, subst, unwrap_or, pos, ℕ, List, Option, Some, None, is_some, Ok, Err, if◌then◌else◌}
use Rattle.world_api.specs.declared.job.Outcome.{Outcome}
use Rattle.world_api.specs.declared.job.Outcome.TheVariants.{Done, Failed, Broken, NoMemory}
use Rattle.world_api.specs.Act.{Content, Given, act}
use Rattle.world_api.specs.Writing.{written}
use Rattle.world_api.specs.declared.job.Job.{Job}
use Rattle.world_api.specs.declared.job.Work.{Work}
use Rattle.world_api.specs.declared.job.Work.TheVariants.{Shell, Copy, Write}
use Rattle.world_mem.specs.Ending.{cut_of}
use Rattle.world_mem.specs.declared.calls.Verdict.{Verdict}
use Rattle.world_mem.specs.declared.calls.Verdict.TheVariants.{Goes, Listed, Spent}
use Rattle.world_mem.specs.Planned.{ends, IsPlain}
use Rattle.act_table.specs.Rows.{row_for}
use Rattle.world_mem.specs.Table.{shell_outcome, outcome_of, outcome_by, outcome_within, content_made, law_of, written_content, written_outcome}
use Rattle.scons_base.specs.declared.limits.TheConstants.{FILE_LIMIT}
use Rattle.text_files.specs.Refusals.{written_too_long, Makes}
use Rattle.text_files.specs.declared.refusal.TextRefusal.TheVariants as refusal
use Rattle.act_table.specs.Filled.{contents_of}
use Rattle.act_table.specs.declared.table.ActRow.{ActRow}
use Rattle.act_table.specs.declared.table.Made.{Made}
use Rattle.act_table.specs.declared.table.Made.TheVariants.{Files, Fail}

made_plain : (made : Made) → IsPlain (outcome_by made)
made_plain (Files contents) = tt
made_plain (Fail code) = tt

row_plain : (row : Option ActRow) → IsPlain (shell_outcome row)
row_plain None = tt
row_plain (Some row) = made_plain row.made

within_plain : (long : Option ℕ) → IsPlain (outcome_within long)
within_plain None = tt
within_plain (Some len) = tt

outcome_plain : (rows : List ActRow) (work : Work) (signed : List (List ℕ)) (given : Given) → IsPlain (outcome_of rows work signed given)
outcome_plain rows Shell signed given = row_plain (row_for rows signed given)
outcome_plain rows Copy signed given = tt
outcome_plain rows Write signed given = within_plain (written_too_long FILE_LIMIT signed (contents_of given))

pub ends_plain : (rows : List ActRow) (job : Job) (given : Given) → IsPlain (ends rows job given)
ends_plain rows job given = outcome_plain rows job.work job.signed given

plain_memory : (outcome : Outcome) → IsPlain outcome → outcome ≢ NoMemory
plain_memory Done plain is = absurd (cc is)
plain_memory (Failed code) plain is = absurd (cc is)
plain_memory Broken plain is = absurd plain
plain_memory NoMemory plain is = absurd plain

-- what is cut or ends as the table says isn't want of memory
pub never_memory : (cut : Option Outcome) (outcome : Outcome) → IsPlain outcome → cut ≢ Some NoMemory → unwrap_or cut outcome ≢ NoMemory
never_memory None outcome plain off = plain_memory outcome plain
never_memory (Some other) outcome plain off = λ is. off (ap (λ (o : Outcome). Some o) is)

-- an ending that is cut isn't done
pub uncut : (cut : Option Outcome) (outcome : Outcome) → cut ≢ Some Done → unwrap_or cut outcome ≡ Done → outcome ≡ Done
uncut None outcome off done = done
uncut (Some other) outcome off done = absurd (off (ap (λ (o : Outcome). Some o) done))

pub cut_memory : (verdict : Verdict) → cut_of verdict ≢ Some NoMemory
cut_memory Goes is = absurd (cc is)
cut_memory Listed is = absurd (cc is)
cut_memory Spent is = absurd (cc is)

pub done_or_not : (outcome : Outcome) → (outcome ≡ Done) ⊎ (outcome ≢ Done)
done_or_not Done = inl refl
done_or_not (Failed code) = inr (λ e. absurd (cc e))
done_or_not Broken = inr (λ e. absurd (cc e))
done_or_not NoMemory = inr (λ e. absurd (cc e))

-- ---- what a job that is done has made

within_done : (long : Option ℕ) (made : Content) → outcome_within long ≡ Done → (if is_some long then None else made) ≡ made
within_done None made done = refl
within_done (Some len) made done = absurd (cc done)

-- of a write that makes something: it is done, and this is what it makes
pub within : (long : Option ℕ) (made whole : Content) → Makes (Ok made) long whole
    → (Done ≡ outcome_within long) × (made ≡ (if is_some long then None else whole))
within None made whole is = (refl, is)
within (Some len) made whole is = absurd is

-- and of one that would make too much
pub beyond : (long : Option ℕ) (len : ℕ) (whole : Content) → Makes (Err (refusal.TooLarge len)) long whole
    → (Failed (pos 1) ≡ outcome_within long) × (None ≡ (if is_some long then None else whole))
beyond None len whole is = absurd is
beyond (Some first) len whole is = (refl, refl)

-- the same over the texts and contents that were handed on
pub written_done : (texts signed : List (List ℕ)) (contents : List Content) (given : Given) (made : Content)
    → texts ≡ signed → contents ≡ contents_of given
    → Makes (Ok made) (written_too_long FILE_LIMIT texts contents) (written texts contents)
    → (Done ≡ written_outcome signed given) × (made ≡ written_content signed given)
written_done texts signed contents given made same all makes =
    within (written_too_long FILE_LIMIT signed (contents_of given)) made (written signed (contents_of given))
    (subst (λ (t : List (List ℕ)). Makes (Ok made) (written_too_long FILE_LIMIT t (contents_of given)) (written t (contents_of given))) same
    (subst (λ (c : List Content). Makes (Ok made) (written_too_long FILE_LIMIT texts c) (written texts c)) all makes))

pub written_beyond : (texts signed : List (List ℕ)) (contents : List Content) (given : Given) (len : ℕ)
    → texts ≡ signed → contents ≡ contents_of given
    → Makes (Err (refusal.TooLarge len)) (written_too_long FILE_LIMIT texts contents) (written texts contents)
    → (Failed (pos 1) ≡ written_outcome signed given) × (None ≡ written_content signed given)
written_beyond texts signed contents given len same all makes =
    beyond (written_too_long FILE_LIMIT signed (contents_of given)) len (written signed (contents_of given))
    (subst (λ (t : List (List ℕ)). Makes (Err (refusal.TooLarge len)) (written_too_long FILE_LIMIT t (contents_of given)) (written t (contents_of given))) same
    (subst (λ (c : List Content). Makes (Err (refusal.TooLarge len)) (written_too_long FILE_LIMIT texts c) (written texts c)) all makes))

pub made_done : (rows : List ActRow) (work : Work) (signed targets : List (List ℕ)) (given : Given) (target : List ℕ)
    → outcome_of rows work signed given ≡ Done → content_made rows work signed targets given target ≡ act (law_of rows) work signed targets given target
made_done rows Shell signed targets given target done = refl
made_done rows Copy signed targets given target done = refl
made_done rows Write signed targets given target done = within_done (written_too_long FILE_LIMIT signed (contents_of given)) (written signed (contents_of given)) done
